use Rattle.std.proofs.Common.{arith, ℕ, sym, subst}
use Rattle.pgn_words.proofs.WalkKept.{show_head_allowed}
use Rattle.pgn_words.specs.Passes.{view_of}
use Rattle.pgn_words.specs.Listening.{HasShown}
use Rattle.pgn_words.proofs.pass.WordQueue.show_head.Goals as goal

pub load-requires : goal.load-requires
load-requires c = (c.requires.own.table, (let counted = c.args.self.now.counted in omega (arith, counted)), show_head_allowed _ _ _ _ c.requires.own.number c.requires.walks)

pub returns-clause-shown : goal.returns-clause-shown
returns-clause-shown c = subst (λ (n : ℕ). HasShown (view_of c.args.pass.now) n c.load.new.seat.me.0) (sym c.new.ensures) c.load.ensures.2.shown
