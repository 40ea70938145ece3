-- A text between quotes ends at the first quote that is not followed by another.
use Rattle.std.proofs.Common.{◌≡◌, ◌≢◌, ℕ, ◌+◌, ◌*◌, ◌<◌, ◌≤◌, ◌==◌, Bool, true, false, inl, inr, List, [], ◌∷◌, ◌++◌, Option, None, Some, MatchOption, Result, Ok, Err, IfOk, codes, length, drop, flat_map, slice_get, sym, ap, ◌∙◌, refl, subst, arith, append_assoc, length-append, eqb-true}
use Rattle.std.proofs.lemmas.List.{append_cancel_left, drop_at, nil_from_length}
use Rattle.std.proofs.lemmas.Bool.{cases_Bool, false≢true}
use Rattle.pgn_language.specs.Quotes.{doubled_byte, quoted}
use Rattle.pgn_language.specs.Tokens.{Inside, closed}
use Rattle.pgn_language.specs.laws.Tokens.{IsClosed}
use Rattle.pgn_language.proofs.TokenLaws.{quotes-tell}
use Rattle.pgn_base.specs.declared.note.Note.{Note}
use Rattle.pgn_base.specs.Notes.{IsNote}
use Rattle.pgn_base.specs.Texts.{IsName, IsPayload}
use Rattle.pgn_model.specs.Text.{note_text}
use Rattle.pgn_command.specs.Texts.{single, IsInside}
use Rattle.pgn_lines.specs.Fields.{EndsQuote, NotEnclosed, IsEnclosed, IsAlone, IsPair, pair_text}

ends_get : (quote : ℕ) (rest : List ℕ) → EndsQuote quote rest → slice_get rest 0 ≢ Some quote
ends_get quote [] h e = absurd (cc)
ends_get quote (b ∷ rest) h e = let same : b ≡ quote = cc in h same

-- what follows the closing quote
dropped : (quote : ℕ) (text inner rest : List ℕ) → text ≡ flat_map (doubled_byte quote) inner ++ quote ∷ rest → drop (length (flat_map (doubled_byte quote) inner) + 1) text ≡ rest
dropped quote text inner rest e =
    let front : List ℕ = flat_map (doubled_byte quote) inner in
    ap (drop (length front + 1)) (e ∙ sym (append_assoc front (quote ∷ []) rest)) ∙ drop_at (front ++ quote ∷ []) rest (length front + 1) (omega (arith, length-append front (quote ∷ [])))

-- a text that is spelled so is what is closed
spelled_closed : (quote : ℕ) (text inner rest : List ℕ) → EndsQuote quote rest → text ≡ flat_map (doubled_byte quote) inner ++ quote ∷ rest
    → closed quote text ≡ Some (record { text = inner; size = length (flat_map (doubled_byte quote) inner) + 1 })
spelled_closed quote text inner rest ends e =
    let front : List ℕ = flat_map (doubled_byte quote) inner in
    let found : Inside = record { text = inner; size = length front + 1 } in
    let after : drop (length front + 1) text ≡ rest = dropped quote text inner rest e in
    let whole : IsClosed quote text found = record {
      spelled = e ∙ ap (λ (r : List ℕ). front ++ quote ∷ r) (sym after);
      size = refl;
      ends = subst (λ (r : List ℕ). slice_get r 0 ≢ Some quote) (sym after) (ends_get quote rest ends);
    } in
    (quotes-tell quote text found).1 whole

-- a text that is not closed by a quote is in none
pub not_enclosed : (quote : ℕ) (text : List ℕ) → closed quote text ≡ None → NotEnclosed quote text
not_enclosed quote text none = λ inner rest ends e. let some = spelled_closed quote text inner rest ends e in absurd (cc)

text_of : Option Inside → List ℕ
text_of None = []
text_of (Some found) = found.text

size_of : Option Inside → ℕ
size_of None = 0
size_of (Some found) = found.size

-- a text up to its closing quote is in quotes, and the rest stands behind
pub is_enclosed : (quote : ℕ) (text raw rest : List ℕ) (by : ℕ) → IsInside quote text by raw → rest ≡ drop (length raw + 1) text → IsEnclosed quote text (single quote raw) rest
unfolding text_of size_of
is_enclosed quote text raw rest by h r =
    let found : Inside = record { text = single quote raw; size = length raw + 1 } in
    let whole : IsClosed quote text found = (quotes-tell quote text found).0 h.closes in
    record {
      spelled = whole.spelled ∙ ap (λ (l : List ℕ). flat_map (doubled_byte quote) (single quote raw) ++ quote ∷ l) (sym r);
      alone = λ other more ends e.
          let both = sym (spelled_closed quote text other more ends e) ∙ h.closes in
          let sizes : length (flat_map (doubled_byte quote) other) + 1 ≡ length raw + 1 = ap size_of both in
          (ap text_of both, r ∙ ap (λ (n : ℕ). drop n text) (sym sizes) ∙ dropped quote text other more e);
    }

-- a text between quotes ends at the first quote that no other follows
pub quoted_parts : (quote : ℕ) (inner other rest more : List ℕ) → EndsQuote quote rest → EndsQuote quote more → flat_map (doubled_byte quote) inner ++ quote ∷ rest ≡ flat_map (doubled_byte quote) other ++ quote ∷ more
    → (inner ≡ other) × (rest ≡ more)
unfolding text_of size_of
quoted_parts quote inner other rest more ends ends_too e =
    let text : List ℕ = flat_map (doubled_byte quote) inner ++ quote ∷ rest in
    let both = sym (spelled_closed quote text inner rest ends refl) ∙ spelled_closed quote text other more ends_too e in
    let sizes : length (flat_map (doubled_byte quote) inner) + 1 ≡ length (flat_map (doubled_byte quote) other) + 1 = ap size_of both in
    (ap text_of both, sym (dropped quote text inner rest refl) ∙ ap (λ (n : ℕ). drop n text) sizes ∙ dropped quote text other more e)

-- a text has at most twice as many bytes with its quotes written twice
doubled_short : (quote : ℕ) (text : List ℕ) → length (flat_map (doubled_byte quote) text) ≤ 2 * length text
doubled_short quote [] = omega arith
doubled_short quote (b ∷ text) = elim (cases_Bool (b == quote)) [
  | inl t ↦ rw t (omega (arith, doubled_short quote text))
  | inr t ↦ rw t (omega (arith, doubled_short quote text))
]

-- so a channel and a payload between their quotes are short
pub pair_short : (text channel payload : List ℕ) → length channel ≤ 63 → length payload ≤ 7999 → pair_text channel payload ≡ text → 65536 < length text → ⊥
pair_short text channel payload a b e long =
    let first : List ℕ = flat_map (doubled_byte 34) channel in
    let second : List ℕ = flat_map (doubled_byte 39) payload in
    let whole : length (34 ∷ (first ++ 34 ∷ [] ++ 44 ∷ 32 ∷ [] ++ 39 ∷ (second ++ 39 ∷ []))) ≡ length text = ap length e in
    omega (arith, whole, doubled_short 34 channel, doubled_short 39 payload, length-append (first ++ 34 ∷ [] ++ 44 ∷ 32 ∷ []) (39 ∷ (second ++ 39 ∷ [])), length-append (first ++ 34 ∷ []) (44 ∷ 32 ∷ []), length-append first (34 ∷ []), length-append second (39 ∷ []))

-- as is a name between its quotes
pub name_short : (text name : List ℕ) → length name ≤ 63 → quoted 34 name ≡ text → 65536 < length text → ⊥
name_short text name a e long =
    let inner : List ℕ = flat_map (doubled_byte 34) name in
    let whole : length (34 ∷ (inner ++ 34 ∷ [])) ≡ length text = ap length e in
    omega (arith, whole, doubled_short 34 name, length-append inner (34 ∷ []))

two_texts : (channel payload : List ℕ) → 34 ∷ (channel ++ 34 ∷ []) ++ 44 ∷ 32 ∷ [] ++ 39 ∷ (payload ++ 39 ∷ []) ≡ 34 ∷ (channel ++ 34 ∷ 44 ∷ 32 ∷ 39 ∷ (payload ++ 39 ∷ []))
two_texts channel payload = simp append_assoc

-- a payload between its quotes, behind the first
abbrev pub payload_text : List ℕ → List ℕ
payload_text payload = flat_map (doubled_byte 39) payload ++ 39 ∷ []

-- a channel and a payload in one spelling: a comma follows the channel
pub pair_spelled : (channel payload : List ℕ) → pair_text channel payload ≡ 34 ∷ (flat_map (doubled_byte 34) channel ++ 34 ∷ 44 ∷ 32 ∷ 39 ∷ payload_text payload)
pair_spelled channel payload = two_texts (flat_map (doubled_byte 34) channel) (flat_map (doubled_byte 39) payload)

-- no comma is a quote
pub comma : ◌≡◌ {A = ℕ} 44 34 → ⊥
comma h = omega (arith, h)

module _ (text start : List ℕ) (opened : text ≡ 34 ∷ start) where
  -- what follows the first quote of such a text
  pub behind_quote : (a b : List ℕ) → pair_text a b ≡ text → start ≡ flat_map (doubled_byte 34) a ++ 34 ∷ 44 ∷ 32 ∷ 39 ∷ payload_text b
  behind_quote a b e = append_cancel_left (34 ∷ []) start (flat_map (doubled_byte 34) a ++ 34 ∷ 44 ∷ 32 ∷ 39 ∷ payload_text b) (sym opened ∙ sym e ∙ pair_spelled a b)

  module _ (x rest : List ℕ) (first : IsEnclosed 34 start x rest) where
    -- what stands between the quotes, and what follows the second
    pub behind_channel : (a b : List ℕ) → pair_text a b ≡ text → (a ≡ x) × (rest ≡ 44 ∷ 32 ∷ 39 ∷ payload_text b)
    behind_channel a b e = first.alone a (44 ∷ 32 ∷ 39 ∷ payload_text b) comma (behind_quote a b e)

    module _ (second : List ℕ) (parted : rest ≡ codes ", '" ++ second) where
      -- what follows the quote of the payload
      pub at_payload : (a b : List ℕ) → pair_text a b ≡ text → second ≡ payload_text b
      at_payload a b e = append_cancel_left (codes ", '") second (payload_text b) (sym parted ∙ (behind_channel a b e).1)

      -- what stands behind the channel is no longer than the whole
      pub second_short : (most : ℕ) → length text ≤ most → length second ≤ most
      second_short most few = omega (arith, few, ap length opened, ap length first.spelled, length-append (flat_map (doubled_byte 34) x) (34 ∷ rest), ap length parted)

      module _ (y left : List ℕ) (last : IsEnclosed 39 second y left) where
        -- the payload, and nothing follows it
        pub behind_payload : (a b : List ℕ) → pair_text a b ≡ text → (b ≡ y) × (left ≡ [])
        behind_payload a b e = last.alone b [] tt (at_payload a b e)

        -- where nothing follows, it is the channel and the payload
        pub whole_pair : left ≡ [] → IsPair text x y
        whole_pair none = record {
          spelled = pair_spelled x y ∙ ap (λ (l : List ℕ). 34 ∷ (flat_map (doubled_byte 34) x ++ 34 ∷ 44 ∷ 32 ∷ 39 ∷ (flat_map (doubled_byte 39) y ++ 39 ∷ l))) (sym none)
              ∙ ap (λ (l : List ℕ). 34 ∷ (flat_map (doubled_byte 34) x ++ 34 ∷ 44 ∷ 32 ∷ 39 ∷ l)) (sym last.spelled) ∙ ap (λ (l : List ℕ). 34 ∷ (flat_map (doubled_byte 34) x ++ 34 ∷ l)) (sym parted)
              ∙ ap (λ (l : List ℕ). 34 ∷ l) (sym first.spelled) ∙ sym opened;
          alone = λ a b e. ((behind_channel a b e).0, (behind_payload a b e).0);
        }

-- a text that is empty has no bytes
pub empty_is : (text : List ℕ) (empty : Bool) → empty ≡ (length text == 0) → empty ≡ true → text ≡ []
empty_is text empty e h = nil_from_length text (eqb-true (length text) 0 (sym e ∙ h))

-- and one that is not has some
pub empty_not : (text : List ℕ) (empty : Bool) → empty ≡ (length text == 0) → empty ≡ false → text ≡ [] → ⊥
empty_not text empty e h none = absurd (false≢true (sym h ∙ e ∙ ap (λ (l : List ℕ). length l == 0) none))

-- a text whose channel is none is no notification
pub no_channel : (text x y : List ℕ) → IsPair text x y → (IsName x → ⊥) → (note : Note) → IsNote note → note_text note ≡ text → ⊥
no_channel text x y h none note k t = none (subst (λ (l : List ℕ). IsName l) (h.alone note.channel note.payload t).0 k.name)

-- nor is one whose payload is none
pub no_payload : (text x y : List ℕ) → IsPair text x y → (IsPayload y → ⊥) → (note : Note) → IsNote note → note_text note ≡ text → ⊥
no_payload text x y h none note k t = none (subst (λ (l : List ℕ). IsPayload l) (h.alone note.channel note.payload t).1 k.text)

-- a channel and a payload that were read make the notification
pub note_read : (text x y channel payload : List ℕ) → IsPair text x y → IsName channel × (channel ≡ x) → IsPayload payload × (payload ≡ y)
    → IsNote (record { channel = channel; payload = payload }) × (pair_text channel payload ≡ text)
note_read text x y channel payload h a b = (
  record { name = a.0; text = b.0 },
  ap (λ (l : List ℕ). pair_text l payload) a.1 ∙ ap (λ (l : List ℕ). pair_text x l) b.1 ∙ h.spelled,
)

-- the name between quotes is the one of the text
name_tells : (text x : List ℕ) (read : Option (List ℕ)) → IsAlone text x → MatchOption read (IsName x → ⊥) (λ name. IsName name × (name ≡ x))
    → MatchOption read ((name : List ℕ) → IsName name → quoted 34 name ≡ text → ⊥) (λ name. IsName name × (quoted 34 name ≡ text))
name_tells text x None h k = λ name valid e. k (subst (λ (l : List ℕ). IsName l) (h.alone name e) valid)
name_tells text x (Some name) h k = (k.0, ap (λ (l : List ℕ). quoted 34 l) k.1 ∙ h.spelled)

-- what is read as the name between quotes is the name of the text
pub name_read : {E : Type 0} (text x : List ℕ) (read : Result (Option (List ℕ)) E) → IsAlone text x → IfOk read (λ read. MatchOption read (IsName x → ⊥) (λ name. IsName name × (name ≡ x)))
    → IfOk read (λ read. MatchOption read ((name : List ℕ) → IsName name → quoted 34 name ≡ text → ⊥) (λ name. IsName name × (quoted 34 name ≡ text)))
name_read text x (Ok read) h k = name_tells text x read h k
name_read text x (Err e) h k = tt
