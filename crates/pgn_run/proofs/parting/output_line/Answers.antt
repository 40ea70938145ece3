use Rattle.std.proofs.Common.{◌≡◌, ℕ, false, ap, sym, ◌∙◌, take, drop, codes}
use Rattle.std.specs.List.{position_or_len}
use Rattle.std.specs.Str.{bytes_eq}
use Rattle.std.proofs.lemmas.List.{take_rest}
use Rattle.pgn_run.specs.Checking.{ends_line}
use Rattle.pgn_run.proofs.PartingLaws.{begins_output, behind-next}
use Rattle.pgn_run.proofs.parting.output_line.Goals as goal

pub loop-at-preserved : goal.loop-at-preserved
loop-at-preserved c =
    let text = drop c.loop-at.at c.args.input.now in
    let rest = take_rest c.args.input.now c.loop-at.at in
    let length : c.line_length-length.result ≡ position_or_len ends_line text = rw rest at c.line_length-length.ensures.length in
    let line : bytes_eq (take c.line_length-length.result text) (codes "\\output") ≡ false = rw rest at (sym c.eq.ensures ∙ c.if-eq.false) in
    let other : begins_output text ≡ false = ap (λ (n : ℕ). bytes_eq (take n text) (codes "\\output")) (sym length) ∙ line in
    behind-next c.args.input.now c.loop-at.at c.line_length-length.result length other c.loop-at.invariant
