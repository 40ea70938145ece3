use Rattle.std.proofs.Common.{List, refl, subst}
use Rattle.pgn_journal.specs.declared.tx.Tx.{Tx}
use Rattle.pgn_model.specs.Walk.{start}
use Rattle.pgn_walk.specs.Standing.{Holds}
use Rattle.pgn_check.proofs.WalkLaws.{come_first}
use Rattle.pgn_check.proofs.walker.Walker.new.Goals as goal

pub returns-clause-come : goal.returns-clause-come
returns-clause-come c = λ sections traces.
    let basis = c.args.basis.now in
    let section = basis.section.now in
    come_first basis sections traces c.new.result (subst (λ (journal : List Tx). Holds section journal c.new.result (start section)) basis.ledger.now.fed (c.new.ensures section refl))
