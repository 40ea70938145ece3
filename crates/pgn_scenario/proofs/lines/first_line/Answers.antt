use Rattle.std.proofs.Common.{◌+◌, take, drop, ap, ◌∙◌}
use Rattle.std.proofs.lemmas.List.{take_rest}
use Rattle.pgn_language.specs.Lines.{lines_of}
use Rattle.pgn_language.proofs.LineLaws.{lines-cut}
use Rattle.pgn_scenario.specs.Cutting.{IsCutAt}
use Rattle.pgn_scenario.proofs.ByteLaws.{cut_nowhere, cut_at, lines-uncut}
use Rattle.pgn_scenario.proofs.lines.first_line.Goals as goal

pub returns-in-Some-clause-lines : goal.returns-in-Some-clause-lines
returns-in-Some-clause-lines c =
    let at = c.in-Some.at in
    let cut : IsCutAt 10 c.args.text.now (take at c.args.text.now) (drop (at + 1) c.args.text.now) = cut_at 10 c.args.text.now at c.in-Some.ensures.0 c.in-Some.ensures.1 in
    rw (take_rest c.args.text.now (at + 1)) (ap lines_of cut.whole ∙ lines-cut (take at c.args.text.now) (drop (at + 1) c.args.text.now) cut.first)

pub returns-in-None-clause-lines : goal.returns-in-None-clause-lines
returns-in-None-clause-lines c =
    lines-uncut c.args.text.now c.split_at.result.0.now c.split_at.result.1.now c.requires (cut_nowhere 10 c.args.text.now c.in-None.ensures) c.split_at.ensures.front c.split_at.ensures.back
