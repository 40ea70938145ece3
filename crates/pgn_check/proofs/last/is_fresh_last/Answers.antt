use Rattle.pgn_walk.specs.Basis.{journal_of, terms_of}
use Rattle.pgn_check.proofs.LastLaws.{last_off}
use Rattle.pgn_check.proofs.last.is_fresh_last.Goals as goal

pub returns-then-not-is_either : goal.returns-then-not-is_either
returns-then-not-is_either c =
    last_off (terms_of c.args.basis.now) (journal_of c.args.basis.now) c.args.at.now c.is_idle.result c.is_over.result c.is_either.result c.is_idle.ensures c.is_over.ensures c.is_either.ensures c.if-not-is_either.true
