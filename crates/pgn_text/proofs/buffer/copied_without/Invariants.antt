use Rattle.std.proofs.Common.{◌≡◌, length, take}
use Rattle.std.specs.Prelude.{flat_map}
use Rattle.pgn_language.specs.Quotes.{doubled_byte}
use Rattle.pgn_text.proofs.buffer.copied_without.Given as goal

abbrev pub invariant-loop-i : goal.invariant-loop-i
invariant-loop-i l = record {
  copied : take l.i l.into ≡ flat_map (doubled_byte l.quote) (take l.i l.text);
  same : length l.into ≡ length l.fn.into;
}
