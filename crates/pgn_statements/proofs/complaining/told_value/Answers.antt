use Rattle.std.proofs.Common.{ℕ, List, length, ◌≤◌, sym, subst}
use Rattle.pgn_statements.proofs.ShortLaws.{cut-few}
use Rattle.pgn_statements.proofs.complaining.told_value.Goals as goal

pub returns-clause-short : goal.returns-clause-short
returns-clause-short c = subst (λ (l : List ℕ). length l ≤ 63) (sym c.cut.ensures) (cut-few c.args.value.now c.utf8.value)
