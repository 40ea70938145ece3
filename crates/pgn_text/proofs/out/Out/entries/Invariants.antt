use Rattle.std.proofs.Common.{◌+◌, drop}
use Rattle.pgn_base.specs.declared.limits.TheConstants.{FIRST_XID}
use Rattle.pgn_model.specs.Text.{entries_lines, joined}
use Rattle.pgn_text.proofs.PutsLaws.{Toward}
use Rattle.pgn_text.proofs.out.Out.entries.Given as goal

abbrev pub invariant-loop-k : goal.invariant-loop-k
invariant-loop-k g l = Toward g.K.Sink.held g.K.Sink.faults l.fn.sink l.fn.self l.sink l.self (joined (entries_lines (FIRST_XID + l.k) (drop l.k l.journal))) (joined (entries_lines FIRST_XID l.fn.journal))
