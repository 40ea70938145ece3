use Rattle.std.proofs.Common.{◌≡◌, drop}
use Rattle.pgn_text.specs.Rendering.{lines_of}
use Rattle.pgn_text.proofs.section_lines.lines_of.Given as goal

abbrev pub invariant-loop-section : goal.invariant-loop-section
invariant-loop-section l = lines_of l.number l.sections ≡ lines_of l.number (drop l.section-index l.sections)
