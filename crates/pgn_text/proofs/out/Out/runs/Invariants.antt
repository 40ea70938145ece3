use Rattle.std.proofs.Common.{◌≤◌}
use Rattle.std.specs.Prelude.{flat_map}
use Rattle.pgn_language.specs.Quotes.{doubled_byte}
use Rattle.pgn_text.proofs.DoublingLaws.{pending}
use Rattle.pgn_text.proofs.PutsLaws.{Toward}
use Rattle.pgn_text.proofs.out.Out.runs.Given as goal

abbrev pub invariant-loop-i : goal.invariant-loop-i
invariant-loop-i g l = record {
  puts : Toward g.K.Sink.held g.K.Sink.faults l.fn.sink l.fn.self l.sink l.self (pending l.quote l.text l.start l.i) (flat_map (doubled_byte l.quote) l.fn.text);
  begun : l.start ≤ l.i;
}
