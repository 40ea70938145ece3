use Rattle.std.proofs.Common.{◌≡◌, ℕ, List, Option, length}
use Rattle.std.specs.Io.KnownBytes.{Appends}
use Rattle.pgn_base.specs.Outside.{AppendsPrefix}
use Rattle.pgn_base.proofs.sink.write_all.Given as goal

-- to write the rest from here is to write the piece from the start
abbrev pub invariant-loop-rest : goal.invariant-loop-rest
invariant-loop-rest g l =
    let held = g.K.Sink.held in
    record {
      whole : (new : Option (List ℕ)) → Appends (held l.sink) new l.rest → Appends (held l.fn.sink) new l.fn.piece;
      front : (new : Option (List ℕ)) → AppendsPrefix (held l.sink) new l.rest → AppendsPrefix (held l.fn.sink) new l.fn.piece;
      same : g.K.Sink.faults l.sink ≡ g.K.Sink.faults l.fn.sink;
    }

abbrev pub decreases-loop-rest : goal.decreases-loop-rest
decreases-loop-rest g l = length l.rest
