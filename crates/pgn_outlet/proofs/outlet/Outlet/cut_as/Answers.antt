use Rattle.std.proofs.Common.{subst, sym, ◌≤◌, ℕ}
use Rattle.pgn_outlet.specs.Passes.{knows}
use Rattle.pgn_outlet.proofs.KeptLaws.{cuts}
use Rattle.pgn_outlet.proofs.outlet.Outlet.cut_as.Goals as goal

pub another-requires-clause-rule : goal.another-requires-clause-rule
another-requires-clause-rule g c = cuts _ _ _ c.requires.unused (subst (λ (n : ℕ). n ≤ (knows c.args.pass.now).count) (sym c.requires.given) c.requires.fits)
