-- Notifications of plain text can be sent.
use Rattle.std.proofs.Common.{◌≡◌, ℕ, zero, suc, ◌<◌, ◌≤◌, Bool, true, ◌&&◌, List, [], ◌∷◌, length, nat_lt, arith}
use Rattle.std.specs.Prelude.{Contains, IsAscii}
use Rattle.std.specs.List.{list_all}
use Rattle.std.proofs.lemmas.Bool.{and_parts}
use Rattle.std.proofs.lemmas.Bool.Decides.{nat_tests}
use Rattle.std.proofs.lemmas.Str.{IsUtf8-from_ascii}
use Rattle.std.proofs.lemmas.Str.Ascii.{IsAscii-nil, IsAscii-cons}
use Rattle.pgn_base.specs.declared.note.Note.{Note}
use Rattle.pgn_base.specs.Notes.{IsNote}

-- a byte of ASCII that is not zero
abbrev pub is_plain : ℕ → Bool
is_plain byte = nat_lt 0 byte && nat_lt byte 128

plain-some : (byte : ℕ) → is_plain byte ≡ true → 0 < byte
plain-some byte h = grind (arith, nat_tests)

plain-small : (byte : ℕ) → is_plain byte ≡ true → byte < 128
plain-small byte h = grind (arith, nat_tests)

plain-ascii : (bytes : List ℕ) → list_all is_plain bytes ≡ true → IsAscii bytes
plain-ascii [] h = IsAscii-nil
plain-ascii (byte ∷ bytes) h = let parts = and_parts (is_plain byte) (list_all is_plain bytes) h in IsAscii-cons byte bytes (plain-small byte parts.0) (plain-ascii bytes parts.1)

plain-no_zero : (bytes : List ℕ) → list_all is_plain bytes ≡ true → Contains bytes 0 → ⊥
plain-no_zero [] h (k, within, is) = absurd (omega (arith, within))
plain-no_zero (byte ∷ bytes) h (zero, within, is) =
    let parts = and_parts (is_plain byte) (list_all is_plain bytes) h in
    let some : 0 < byte = plain-some byte parts.0 in
    absurd (omega (arith, some, is))
plain-no_zero (byte ∷ bytes) h (suc k, within, is) = let parts = and_parts (is_plain byte) (list_all is_plain bytes) h in plain-no_zero bytes parts.1 (k, omega (arith, within), is)

-- a notification with a channel and a payload of such bytes
pub plain-note : (note : Note) → list_all is_plain note.channel ≡ true → list_all is_plain note.payload ≡ true → 0 < length note.channel → length note.channel ≤ 63 → length note.payload ≤ 7999 → IsNote note
plain-note note c p some short text = record {
  name = record { text = IsUtf8-from_ascii note.channel (plain-ascii note.channel c); some = some; short = short; no_nul = plain-no_zero note.channel c };
  text = record { text = IsUtf8-from_ascii note.payload (plain-ascii note.payload p); short = text; no_nul = plain-no_zero note.payload p };
}
