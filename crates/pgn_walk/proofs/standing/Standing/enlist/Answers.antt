use Rattle.std.proofs.Common.{ℕ, Some, subst}
use Rattle.pgn_ledger.specs.declared.to_show.ToShow.TheVariants as show
use Rattle.pgn_walk.specs.Standing.{GoesOn}
use Rattle.pgn_walk.proofs.ItemLaws.{enlist_early, enlist_never, enlist_on}
use Rattle.pgn_walk.proofs.standing.Standing.enlist.Goals as goal

pub returns-in_default : goal.returns-in_default
returns-in_default c = λ terms. enlist_never terms c.args.ledger.now.journal.now c.args.self.now c.args.self.now c.args.base c.args.point c.in_default.not-Enlisting

pub returns-then-not-may_enlist : goal.returns-then-not-may_enlist
returns-then-not-may_enlist c = λ terms.
    enlist_early terms c.args.ledger.now.journal.now c.args.self.now c.args.self.now c.args.base c.args.point c.may_enlist.result c.may_enlist.ensures.value c.if-not-may_enlist.true

pub returns : goal.returns
returns c = λ terms.
    let old = c.args.self.now in
    let point : ℕ = c.args.point in
    let watch = c.begin.new.self in
    enlist_on terms c.args.ledger.now.journal.now old c.go_on_committing.new.self watch c.args.base point c.may_enlist.result _ _ _ c.may_enlist.ensures.value c.if-not-may_enlist.false c.may_enlist.ensures.first c.in-Enlisting.is
    c.in_ok-begin.ensures
    (subst (λ (n : ℕ). GoesOn old.owed (record old { owed = show.Nothing; mark = Some point; told = point; greatest = n; watch = watch }) c.go_on_committing.new.self) c.get-self.ensures.value c.in_ok-go_on_committing.ensures)
