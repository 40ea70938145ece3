use Rattle.std.proofs.Common.{◌≡◌, List, Option, ℕ, drop}
use Rattle.std.specs.Io.KnownBytes.{Appends}
use Rattle.pgn_base.specs.Outside.{AppendsPrefix}
use Rattle.pgn_drill.proofs.SummaryLaws.{told}
use Rattle.pgn_drill.proofs.five_lines.numbers.Given as goal

-- to write the pieces from here on is to write them all from the start
abbrev pub invariant-loop-piece : goal.invariant-loop-piece
invariant-loop-piece g l =
    let held = g.K.Sink.held in
    record {
      whole : (new : Option (List ℕ)) → Appends (held l.sink) new (told (drop l.piece-index l.pieces)) → Appends (held l.fn.sink) new (told l.pieces);
      front : (new : Option (List ℕ)) → AppendsPrefix (held l.sink) new (told (drop l.piece-index l.pieces)) → AppendsPrefix (held l.fn.sink) new (told l.pieces);
      same : g.K.Sink.faults l.sink ≡ g.K.Sink.faults l.fn.sink;
    }
