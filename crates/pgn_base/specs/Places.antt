-- Where a text stands.
use Rattle.std.specs.Prelude.{ℕ, List}
use Rattle.std.specs.Arc.{arc_str_bytes}
use Rattle.pgn_base.specs.declared.text.Place.{Place}
use Rattle.pgn_base.specs.declared.text.Place.TheVariants.{Here, Shared}

-- the bytes of a text, where it stands
abbrev pub bytes_at : Place → List ℕ
bytes_at (Here text) = text
bytes_at (Shared text) = arc_str_bytes text
