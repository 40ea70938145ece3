use Rattle.std.proofs.Common.{◌+◌, ℕ, length, ap, sym, ◌∙◌, arith}
use Rattle.pgn_model.specs.Legal.{finished_xids}
use Rattle.pgn_walk.proofs.BorneLaws.{counts_more, counts_within}
use Rattle.pgn_walk.proofs.borne.finished_in.Goals as goal

pub returns : goal.returns
returns c = record {
  value = λ before. counts_more before c.args.item.now ∙ ap (λ (n : ℕ). length (finished_xids before) + n) (sym c.count_finished.ensures);
  within = λ lines. omega (arith, c.count_finished.ensures, counts_within lines c.args.item.now);
}
