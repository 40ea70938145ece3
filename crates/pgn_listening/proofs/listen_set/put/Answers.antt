use Rattle.pgn_listening.proofs.ListeningLaws.{there-put, there-push_empty}
use Rattle.pgn_listening.proofs.listen_set.put.Goals as goal

pub returns-in-Some-clause-entries : goal.returns-in-Some-clause-entries
returns-in-Some-clause-entries c =
    let put = rw c.unwrap.ensures at c.insert.ensures.updates in
    let here = rw (c.new.ensures, c.as_bytes.ensures.value) at put in
    let was = rw c.unwrap.ensures at c.insert.ensures.old in
    let old = rw (c.new.ensures, c.as_bytes.ensures.value) at was in
    let size = rw c.unwrap.ensures at c.insert.ensures.len in
    rw c.in-Some.is (λ places there last once. there-put places _ _ _ c.args.at _ there last once here.0 old size)

pub returns-in_default-clause-entries : goal.returns-in_default-clause-entries
returns-in_default-clause-entries c = rw c.in_default.is (λ places there last once. there-push_empty places _ there)
