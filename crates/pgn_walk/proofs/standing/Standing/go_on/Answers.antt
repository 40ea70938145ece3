use Rattle.std.proofs.Common.{sym, ap, ◌∙◌}
use Rattle.pgn_walk.specs.declared.standing.Standing.{Standing}
use Rattle.pgn_ledger.specs.declared.to_show.ToShow.{ToShow}
use Rattle.pgn_walk.specs.Standing.{behind}
use Rattle.pgn_walk.proofs.standing.Standing.go_on.Goals as goal

pub returns-in-Listing : goal.returns-in-Listing
returns-in-Listing c = ap (λ (left : ToShow). let at : Standing = record c.args.self.now { owed = left } in at) (c.set.ensures ∙ sym (ap behind (sym c.replace.ensures.value ∙ c.in-Listing.is)))

pub returns-in-Measuring : goal.returns-in-Measuring
returns-in-Measuring c =
    ap (λ (left : ToShow). let at : Standing = record c.args.self.now { owed = left } in at) (c.set-in-Measuring.ensures ∙ sym (ap behind (sym c.replace.ensures.value ∙ c.in-Measuring.is)))

pub returns-in-Leaving : goal.returns-in-Leaving
returns-in-Leaving c = ap (λ (left : ToShow). let at : Standing = record c.args.self.now { owed = left } in at) (c.set-in-Leaving.ensures ∙ sym (ap behind (sym c.replace.ensures.value ∙ c.in-Leaving.is)))

pub returns-in-Quitting : goal.returns-in-Quitting
returns-in-Quitting c =
    ap (λ (left : ToShow). let at : Standing = record c.args.self.now { owed = left } in at) (c.replace.ensures.after ∙ sym (ap behind (sym c.replace.ensures.value ∙ c.in-Quitting.is)))
