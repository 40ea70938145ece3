use Rattle.std.proofs.Common.{◌≡◌, ℕ, ◌-◌, ◌≤◌, List, [], ◌∷◌, length, take, slice_get, IsSomeAnd, All, sym, ap, ◌∙◌, refl, subst, arith, rules, length-take}
use Rattle.std.proofs.lemmas.List.Elements.{All-nil, All-cons, All-contains}
use Rattle.pgn_journal.specs.declared.tx.Tx.{Tx}
use Rattle.pgn_journal.specs.Journal.{IsFinished, xids_of}
use Rattle.pgn_journal.proofs.BeginsLaws.{begins-whole}
use Rattle.pgn_hub.specs.declared.known.Known.{Known}
use Rattle.pgn_hub.specs.Gathered.{IsBy}
use Rattle.pgn_part_examples.specs.Hub.{tx_3, last_1, last_2}
use Rattle.pgn_part_examples.proofs.HubLemmas.{only, only_tx, no_second, finished}
use Rattle.pgn_part_examples.proofs.hub.gather.Goals as goal

pub returns-clause-met : goal.returns-clause-met
returns-clause-met c = record {
  journal = tx_3 ∷ [];
  counted = refl;
  seen = search rules;
  own = search rules;
  own_seen = search rules;
  by_pass = search rules;
  finished = All-cons IsFinished tx_3 [] finished (All-nil IsFinished);
  told = search rules;
  found = search rules;
  named = search rules;
}

pub returns-clause-one_too_few : goal.returns-clause-one_too_few
returns-clause-one_too_few c h =
    let lengths : length (take 1 h.journal) ≡ 1 = ap length (h.seen 0 last_1 (omega arith)).is in
    omega (arith, h.counted, lengths, length-take 1 h.journal)

pub returns-clause-one_too_many : goal.returns-clause-one_too_many
returns-clause-one_too_many c h =
    no_second h.journal h.counted (h.seen 0 last_1 (omega arith)) (h.own 0 last_1 (omega arith)) (h.own 1 last_1 (omega arith)) h.by_pass

pub returns-clause-published_twice : goal.returns-clause-published_twice
returns-clause-published_twice c h =
    let is = begins-whole (tx_3 ∷ tx_3 ∷ []) h.journal (h.seen 1 last_1 (omega arith)) (omega (arith, h.counted)) in
    let lengths : 1 ≡ 2 = ap length (h.own 1 last_1 (omega arith)) ∙ ap (λ txs. length (xids_of 2 txs)) (sym is) in
    omega (arith, lengths)

pub returns-clause-not_its_own : goal.returns-clause-not_its_own
returns-clause-not_its_own c h =
    let is = only_tx h.journal h.counted (h.seen 0 last_1 (omega arith)) in
    let lengths : 0 ≡ 1 = ap length (h.own 1 last_1 (omega arith)) ∙ ap (λ txs. length (xids_of 2 txs)) is in
    omega (arith, lengths)

pub returns-clause-of_another : goal.returns-clause-of_another
returns-clause-of_another c h =
    let is = only_tx h.journal h.counted (h.seen 1 last_1 (omega arith)) in
    let lengths : 1 ≡ 0 = ap length (h.own 0 last_1 (omega arith)) ∙ ap (λ txs. length (xids_of 1 txs)) is in
    omega (arith, lengths)

pub returns-clause-own_not_seen : goal.returns-clause-own_not_seen
returns-clause-own_not_seen c h = omega (arith, h.own_seen 1 last_1 (omega arith) 0 3 (omega arith))

pub returns-clause-two_journals : goal.returns-clause-two_journals
returns-clause-two_journals c h =
    let same = sym (h.seen 0 last_1 (omega arith)).is ∙ (h.seen 1 last_1 (omega arith)).is in
    search (rules, same)

pub returns-clause-told_more : goal.returns-clause-told_more
returns-clause-told_more c h = omega (arith, h.counted, h.told 0 last_1 (omega arith))

pub returns-clause-found_another_number : goal.returns-clause-found_another_number
returns-clause-found_another_number c h =
    let same : 4 ≡ 3 = ap (λ (pair : ℕ × ℕ). pair.1) (only (0, 4) (0, 3) (h.found 0 (0, 3) (omega arith))) in
    omega (arith, same)

pub returns-clause-found_another_flag : goal.returns-clause-found_another_flag
returns-clause-found_another_flag c h =
    let same : 0 ≡ 1 = ap (λ (pair : ℕ × ℕ). pair.0) (only (0, 4) (1, 4) (h.found 0 (1, 4) (omega arith))) in
    omega (arith, same)

pub returns-clause-named_elsewhere : goal.returns-clause-named_elsewhere
returns-clause-named_elsewhere c h =
    let there = (h.named 0 (1, 5) (omega arith)).1 in
    let bound = All-cons (λ mark. mark ≤ 4) 3 (3 ∷ 4 ∷ []) (omega arith) (All-cons (λ mark. mark ≤ 4) 3 (4 ∷ []) (omega arith) (All-cons (λ mark. mark ≤ 4) 4 [] (omega arith) (All-nil (λ mark. mark ≤ 4)))) in
    omega (arith, All-contains (λ mark. mark ≤ 4) (3 ∷ 3 ∷ 4 ∷ []) 5 bound there)

pub returns-clause-named_another : goal.returns-clause-named_another
returns-clause-named_another c h = omega (arith, (h.named 0 (2, 3) (omega arith)).1.1)

pub returns-clause-named_nobody : goal.returns-clause-named_nobody
returns-clause-named_nobody c h = h.named 0 (3, 3) (omega arith)

pub returns-clause-not_all_queued : goal.returns-clause-not_all_queued
returns-clause-not_all_queued c h =
    let tx : Tx = record tx_3 { queued = 1 } in
    let is : tx ∷ [] ≡ h.journal = begins-whole (tx ∷ []) h.journal (h.seen 0 last_1 (omega arith)) (omega (arith, h.counted)) in
    let all : All IsFinished (tx ∷ []) = subst (λ (txs : List Tx). All IsFinished txs) (sym is) h.finished in
    let queued : 1 ≡ 2 = (all 0 tx (omega arith)).queueing in
    omega (arith, queued)

pub returns-clause-of_another_database : goal.returns-clause-of_another_database
returns-clause-of_another_database c h =
    let tx : Tx = record tx_3 { db = 2 } in
    let is : tx ∷ [] ≡ h.journal = begins-whole (tx ∷ []) h.journal (h.seen 0 last_1 (omega arith)) (omega (arith, h.counted)) in
    let passes : List Known = (record last_1 { seen = tx ∷ [] }) ∷ (record last_2 { seen = tx ∷ [] }) ∷ [] in
    let P : Tx → Type 0 = λ a. IsSomeAnd (slice_get passes (a.session - 1)) (λ k. IsBy k a) in
    let all : All P (tx ∷ []) = subst (λ (txs : List Tx). All P txs) (sym is) h.by_pass in
    let database : 2 ≡ 1 = (all 0 tx (omega arith)).database in
    omega (arith, database)
