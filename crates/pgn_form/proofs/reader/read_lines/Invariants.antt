use Rattle.std.proofs.Common.{length}
use Rattle.pgn_form.proofs.ReaderLaws.{HasCome}
use Rattle.pgn_form.specs.Places.{Fits}
use Rattle.pgn_form.proofs.reader.read_lines.Given as goal

abbrev pub invariant-loop-line : goal.invariant-loop-line
invariant-loop-line l = record { come : HasCome l.scenario l.fn.out l.rest l.place l.draft l.number; fits : Fits l.place }

abbrev pub decreases-loop-line : goal.decreases-loop-line
decreases-loop-line l = length l.rest
