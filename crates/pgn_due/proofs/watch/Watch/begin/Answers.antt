use Rattle.std.proofs.Common.{◌≡◌, ◌+◌, ◌++◌, ◌∷◌, [], ℕ, List, take, ap, sym, subst, ◌∙◌}
use Rattle.std.proofs.lemmas.List.{take_all, take_more}
use Rattle.pgn_due.specs.Sent.{sent_before}
use Rattle.pgn_due.proofs.WatchLaws.{HasBegun, begins_at, begun_more, journal_of}
use Rattle.pgn_due.proofs.watch.Watch.begin.Goals as goal

pub loop-name-preserved : goal.loop-name-preserved
loop-name-preserved c =
    let names = c.as_slice-name-items.result.now in
    let before = take c.loop-name.name-index names in
    let more : before ++ c.name-item.result ∷ [] ≡ take (c.loop-name.name-index + 1) names =
    ap (λ (name : List ℕ). before ++ name ∷ []) c.name-item.is ∙ sym (take_more names c.loop-name.name-index c.name-item.result c.loop-name-test.true) in
    subst (λ (done : List (List ℕ)). HasBegun c.start-from.result c.args.self.now done c.put.new.self) more
    (begun_more c.start-from.result c.args.self.now c.loop-name.self c.put.new.self before c.name-item.result c.loop-name.invariant c.in_ok-put.ensures)

pub returns : goal.returns
returns c = λ journal db before was h.
    let names = c.as_slice-name-items.result.now in
    let is : c.start-from.result ≡ sent_before (journal_of c.args.self.now) c.args.mark = c.start-from.ensures ∙ ap (λ (x : ℕ). sent_before (journal_of c.args.self.now) x) c.get.ensures.value in
    let all : take c.loop-name.name-index names ≡ c.args.set.now.channels = take_all c.loop-name.name-index names c.loop-name-test.false ∙ c.as_slice-name-items.ensures ∙ c.in_ok-names.ensures in
    let done = subst (λ (set : List (List ℕ)). HasBegun c.start-from.result c.args.self.now set c.loop-name.self) all c.loop-name.invariant in
    begins_at journal db c.args.mark before c.args.set.now.channels was c.start-from.result c.args.self.now c.loop-name.self is done h
