-- No LF stands in what a line shows.
use Rattle.std.proofs.Common.{ℕ, zero, suc, ◌==◌, Bool, cond, inl, inr, List, [], ◌∷◌, ◌++◌, codes, decimal, sym, ◌∙◌, subst, arith, eqb-true}
use Rattle.std.specs.Prelude.{Contains, flat_map}
use Rattle.std.proofs.lemmas.Bool.{cases_Bool}
use Rattle.std.proofs.lemmas.List.Elements.{Contains-append_left, Contains-append_right}
use Rattle.pgn_base.specs.declared.note.Note.{Note}
use Rattle.pgn_base.specs.declared.note.Delivery.{Delivery}
use Rattle.pgn_base.specs.declared.answers.Refusal.{Refusal}
use Rattle.pgn_base.specs.declared.answers.Refusal.TheVariants as refused
use Rattle.pgn_language.specs.Inputs.{IsOneLine}
use Rattle.pgn_language.specs.Quotes.{doubled_byte, quoted}
use Rattle.pgn_answers.specs.Refusals.{refusal_text}
use Rattle.pgn_model.specs.Text.{channel_line, delivery_line, note_line, note_text}
use Rattle.pgn_model.specs.laws.Text.{IsOneLineNote}
use Rattle.pgn_lines.specs.Shown.{IsHeld}
use Rattle.pgn_lines.specs.declared.shown.Shown.TheVariants.{Channel, Received, Refuse, Sent}
use Rattle.pgn_reading.specs.Form.{IsLineDelivery, IsLineName, IsLineNote, IsLineRefusal}

-- what stands in a part stands in the whole
left : (xs ys : List ℕ) → Contains xs 10 → Contains (xs ++ ys) 10
left xs ys h = Contains-append_left xs ys 10 h

right : (xs ys : List ℕ) → Contains ys 10 → Contains (xs ++ ys) 10
right xs ys h = Contains-append_right xs ys 10 h

-- each byte of a text stands in it with its quotes doubled
doubled_has : (quote : ℕ) (bytes : List ℕ) → Contains bytes 10 → Contains (flat_map (doubled_byte quote) bytes) 10
doubled_has quote [] (k, lt, is) = absurd (omega (arith, lt))
doubled_has quote (b ∷ bytes) (zero, lt, is) = left (doubled_byte quote b) (flat_map (doubled_byte quote) bytes) (elim (cases_Bool (b == quote)) [
  | inl e ↦ subst (λ (t : Bool). Contains (cond t (quote ∷ quote ∷ []) (b ∷ [])) 10) (sym e) (0, omega arith, sym (eqb-true b quote e) ∙ is)
  | inr e ↦ subst (λ (t : Bool). Contains (cond t (quote ∷ quote ∷ []) (b ∷ [])) 10) (sym e) (0, omega arith, is)
])
doubled_has quote (b ∷ bytes) (suc k, lt, is) = right (doubled_byte quote b) (flat_map (doubled_byte quote) bytes) (doubled_has quote bytes (k, omega (arith, lt), is))

quoted_has : (quote : ℕ) (bytes : List ℕ) → Contains bytes 10 → Contains (quoted quote bytes) 10
quoted_has quote bytes h = left (quote ∷ [] ++ flat_map (doubled_byte quote) bytes) (quote ∷ []) (right (quote ∷ []) (flat_map (doubled_byte quote) bytes) (doubled_has quote bytes h))

channel_has : (note : Note) → Contains note.channel 10 → Contains (note_text note) 10
channel_has note h = left (quoted 34 note.channel ++ codes ", ") (quoted 39 note.payload) (left (quoted 34 note.channel) (codes ", ") (quoted_has 34 note.channel h))

payload_has : (note : Note) → Contains note.payload 10 → Contains (note_text note) 10
payload_has note h = right (quoted 34 note.channel ++ codes ", ") (quoted 39 note.payload) (quoted_has 39 note.payload h)

one_line_note : (note : Note) (start : List ℕ) → IsOneLine (start ++ note_text note) → IsOneLineNote note
one_line_note note start h = (λ there. h (right start (note_text note) (channel_has note there)), λ there. h (right start (note_text note) (payload_has note there)))

-- a notification that is held and stands on one line has such a line
pub sent_clean : (note : Note) → IsHeld (Sent note) → IsOneLine (note_line note) → IsLineNote note
sent_clean note held h = record { note = held; one_line = one_line_note note (codes "  ") h }

-- so has a channel
pub row_clean : (name : List ℕ) → IsHeld (Channel name) → IsOneLine (channel_line name) → IsLineName name
row_clean name held h = record { text = held; one_line = λ there. h (right (codes "  ") (quoted 34 name) (quoted_has 34 name there)) }

-- so has one that is received
pub received_clean : (delivery : Delivery) → IsHeld (Received delivery) → IsOneLine (delivery_line delivery) → IsLineDelivery delivery
received_clean delivery held h = record {
  xid = held.0;
  pid = held.1;
  note = record { note = held.2; one_line = one_line_note delivery.note (codes "  " ++ decimal delivery.xid ++ codes " " ++ decimal delivery.pid ++ codes " ") h };
}

-- so has a refusal
pub refusal_clean : (refusal : Refusal) → IsHeld (Refuse refusal) → IsOneLine (codes "ERROR: " ++ refusal_text refusal) → IsLineRefusal refusal
refusal_clean (refused.Syntax at) held h = held
refusal_clean (refused.NoSavepoint name) held h = record { text = held; one_line = λ there. h (right (codes "ERROR: ") (refusal_text (refused.NoSavepoint name)) (inside there)) }
  where
    inside : Contains name 10 → Contains (refusal_text (refused.NoSavepoint name)) 10
    inside there =
        right (codes "3B001" ++ codes ": ") (codes "savepoint \"" ++ name ++ codes "\" does not exist")
        (left (codes "savepoint \"" ++ name) (codes "\" does not exist") (right (codes "savepoint \"") name there))
refusal_clean refusal held h = tt
