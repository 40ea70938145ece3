use Rattle.std.proofs.Common.{◌≡◌, ◌↔◌, ℕ, true, false, subst}
use Rattle.std.specs.List.{list_any}
use Rattle.pgn_journal.specs.Journal.{entries_between}
use Rattle.pgn_journal.specs.Due.{is_due_to}
use Rattle.pgn_check.proofs.FreshLaws.{finds_by}
use Rattle.pgn_check.proofs.fresh.finds_nothing.Goals as goal

pub returns : goal.returns
returns c = λ section journal mark e.
    finds_by section journal mark c.args.at.now c.finds_nothing.result e
    (λ db set h. subst (λ (x : ℕ). (c.finds_nothing.result ≡ true) ↔ (list_any (is_due_to db set) (entries_between journal mark x) ≡ false)) c.get.ensures.value (c.finds_nothing.ensures journal db mark set h))
