-- The parts of a line are told by the line: numbers, holders and notifications.
use Rattle.std.proofs.Common.{◌≡◌, ℕ, ◌<◌, List, [], ◌∷◌, ◌++◌, Option, None, Some, IfSome, codes, decimal, flat_map, sym, ap, ◌∙◌, refl, arith, append_assoc}
use Rattle.std.proofs.lemmas.Fmt.{digits_decimal, decimal_injective}
use Rattle.std.proofs.lemmas.Str.Parse.{numerals_by_value}
use Rattle.std.proofs.lemmas.List.{append_cancel_left}
use Rattle.pgn_base.specs.declared.note.Note.{Note}
use Rattle.pgn_language.specs.Quotes.{doubled_byte, quoted}
use Rattle.pgn_model.specs.Text.{holder_text, note_text}
use Rattle.pgn_lines.specs.Shown.{IsLong}
use Rattle.pgn_lines.proofs.FieldLaws.{AreDigits, are-digits}
use Rattle.pgn_lines.proofs.QuotedLaws.{pair_spelled, quoted_parts}

-- a long number is spelled in digits
pub are_digits : (n : ℕ) → IsLong n → AreDigits (decimal n)
are_digits n h = digits_decimal (numerals_by_value AreDigits are-digits) n h

digits_part : (m n : ℕ) (xs ys rest more : List ℕ) → m < 48 → n < 48 → AreDigits xs → AreDigits ys → xs ++ m ∷ rest ≡ ys ++ n ∷ more → (xs ≡ ys) × (m ∷ rest ≡ n ∷ more)
digits_part m n [] [] rest more hm hn dx dy e = (refl, e)
digits_part m n [] (y ∷ ys) rest more hm hn dx dy e = let same : m ≡ y = cc in absurd (omega (arith, dy.0))
digits_part m n (x ∷ xs) [] rest more hm hn dx dy e = let same : x ≡ n = cc in absurd (omega (arith, dx.0))
digits_part m n (x ∷ xs) (y ∷ ys) rest more hm hn dx dy e =
    let first : x ≡ y = cc in
    let tail : xs ++ m ∷ rest ≡ ys ++ n ∷ more = cc in
    let got = digits_part m n xs ys rest more hm hn dx.1 dy.1 tail in
    let whole : xs ≡ ys = got.0 in
    (cc, got.1)

-- a number before a mark
pub number_part : (m n a b : ℕ) (rest more : List ℕ) → m < 48 → n < 48 → IsLong a → IsLong b → decimal a ++ m ∷ rest ≡ decimal b ++ n ∷ more → (a ≡ b) × (m ∷ rest ≡ n ∷ more)
number_part m n a b rest more hm hn ha hb e =
    let got = digits_part m n (decimal a) (decimal b) rest more hm hn (are_digits a ha) (are_digits b hb) e in
    (decimal_injective a b ha hb got.0, got.1)

-- a number after a start, and a blank behind it
pub blank_part : (start : List ℕ) (a b : ℕ) (rest more : List ℕ) → IsLong a → IsLong b → start ++ (decimal a ++ 32 ∷ rest) ≡ start ++ (decimal b ++ 32 ∷ more) → (a ≡ b) × (rest ≡ more)
blank_part start a b rest more ha hb e =
    let got = number_part 32 32 a b rest more (omega arith) (omega arith) ha hb (append_cancel_left start (decimal a ++ 32 ∷ rest) (decimal b ++ 32 ∷ more) e) in
    (got.0, append_cancel_left (32 ∷ []) rest more got.1)

-- a number after a start, at the end
pub last_part : (start : List ℕ) (a b : ℕ) → IsLong a → IsLong b → start ++ decimal a ≡ start ++ decimal b → a ≡ b
last_part start a b ha hb e = decimal_injective a b ha hb (append_cancel_left start (decimal a) (decimal b) e)

-- pieces one after another
pub in_four : (a b c d : List ℕ) → a ++ b ++ c ++ d ≡ a ++ (b ++ (c ++ d))
in_four a b c d = simp append_assoc

-- five texts joined, taken apart from the left
pub in_five : (a b c d e : List ℕ) → a ++ b ++ c ++ d ++ e ≡ a ++ (b ++ (c ++ (d ++ e)))
in_five a b c d e = simp append_assoc

-- six texts joined, taken apart from the left
pub in_six : (a b c d e f : List ℕ) → a ++ b ++ c ++ d ++ e ++ f ≡ a ++ (b ++ (c ++ (d ++ (e ++ f))))
in_six a b c d e f = simp append_assoc

-- two numbers, with a blank and a word between
pub two_parts : (start word : List ℕ) (a b m n : ℕ) → IsLong a → IsLong b → IsLong m → IsLong n → start ++ decimal a ++ 32 ∷ word ++ decimal m ≡ start ++ decimal b ++ 32 ∷ word ++ decimal n → (a ≡ b) × (m ≡ n)
two_parts start word a b m n ha hb hm hn e =
    let spelled : start ++ (decimal a ++ 32 ∷ (word ++ decimal m)) ≡ start ++ (decimal b ++ 32 ∷ (word ++ decimal n)) =
    sym (in_four start (decimal a) (32 ∷ word) (decimal m)) ∙ e ∙ in_four start (decimal b) (32 ∷ word) (decimal n) in
    let got = blank_part start a b (word ++ decimal m) (word ++ decimal n) ha hb spelled in
    (got.0, last_part word m n hm hn got.1)

-- a double quote begins no number
pub no_quote : (m n : ℕ) (bytes rest : List ℕ) → (m ≡ 34 → ⊥) → IsLong n → 34 ∷ bytes ≡ decimal n ++ m ∷ rest → ⊥
no_quote m n bytes rest apart h e = by (decimal n) (are_digits n h) e
  where
    by : (xs : List ℕ) → AreDigits xs → 34 ∷ bytes ≡ xs ++ m ∷ rest → ⊥
    by [] d e = let same : m ≡ 34 = cc in apart same
    by (x ∷ xs) d e = let same : 34 ≡ x = cc in omega (arith, d.0)

-- nor does a letter
no_letter : (n : ℕ) → IsLong n → codes "none" ≡ decimal n → ⊥
no_letter n h e = by (decimal n) (are_digits n h) e
  where
    by : (xs : List ℕ) → AreDigits xs → codes "none" ≡ xs → ⊥
    by [] d e = let no : ⊥ = cc in no
    by (x ∷ xs) d e = let same : 110 ≡ x = cc in omega (arith, d.0)

-- nobody is no number
pub holder_part : (a b : Option ℕ) → IfSome a IsLong → IfSome b IsLong → holder_text a ≡ holder_text b → a ≡ b
holder_part None None h k e = refl
holder_part None (Some n) h k e = absurd (no_letter n k e)
holder_part (Some n) None h k e = absurd (no_letter n h (sym e))
holder_part (Some m) (Some n) h k e = ap (λ (session : ℕ). Some session) (decimal_injective m n h k e)

-- a notification in one spelling: a comma follows its channel
pub note_spelled : (note : Note) → note_text note ≡ 34 ∷ (flat_map (doubled_byte 34) note.channel ++ 34 ∷ 44 ∷ 32 ∷ 39 ∷ (flat_map (doubled_byte 39) note.payload ++ 39 ∷ []))
note_spelled note = pair_spelled note.channel note.payload

same_note : (a b : Note) → a.channel ≡ b.channel → a.payload ≡ b.payload → a ≡ b
same_note a b e1 e2 =
    ap (λ (text : List ℕ). let n : Note = record { channel = text; payload = a.payload } in n) e1
    ∙ ap (λ (text : List ℕ). let n : Note = record { channel = b.channel; payload = text } in n) e2

-- the text of a notification tells it
pub note_part : (a b : Note) → note_text a ≡ note_text b → a ≡ b
note_part a b e =
    let first : List ℕ = flat_map (doubled_byte 39) a.payload ++ 39 ∷ [] in
    let second : List ℕ = flat_map (doubled_byte 39) b.payload ++ 39 ∷ [] in
    let spelled : 34 ∷ (flat_map (doubled_byte 34) a.channel ++ 34 ∷ 44 ∷ 32 ∷ 39 ∷ first) ≡ 34 ∷ (flat_map (doubled_byte 34) b.channel ++ 34 ∷ 44 ∷ 32 ∷ 39 ∷ second) = sym (note_spelled a) ∙ e ∙ note_spelled b in
    let comma : (44 ≡ 34) → ⊥ = λ h. omega (arith, h) in
    let channels = quoted_parts 34 a.channel b.channel (44 ∷ 32 ∷ 39 ∷ first) (44 ∷ 32 ∷ 39 ∷ second) comma comma (append_cancel_left (34 ∷ []) _ _ spelled) in
    let payloads = quoted_parts 39 a.payload b.payload [] [] tt tt (append_cancel_left (44 ∷ 32 ∷ 39 ∷ []) first second channels.1) in
    same_note a b channels.0 payloads.0

-- a name between quotes
pub name_part : (a b : List ℕ) → quoted 34 a ≡ quoted 34 b → a ≡ b
name_part a b e = (quoted_parts 34 a b [] [] tt tt (append_cancel_left (34 ∷ []) _ _ e)).0

no_comma : (rest : List ℕ) → 44 ∷ 32 ∷ 39 ∷ rest ≡ [] → ⊥
no_comma rest e = let no : ⊥ = cc in no

-- which no comma follows
pub note_is_no_name : (note : Note) (name : List ℕ) → note_text note ≡ quoted 34 name → ⊥
note_is_no_name note name e =
    let first : List ℕ = flat_map (doubled_byte 39) note.payload ++ 39 ∷ [] in
    let spelled : 34 ∷ (flat_map (doubled_byte 34) note.channel ++ 34 ∷ 44 ∷ 32 ∷ 39 ∷ first) ≡ 34 ∷ (flat_map (doubled_byte 34) name ++ 34 ∷ []) = sym (note_spelled note) ∙ e in
    let comma : (44 ≡ 34) → ⊥ = λ h. omega (arith, h) in
    let channels = quoted_parts 34 note.channel name (44 ∷ 32 ∷ 39 ∷ first) [] comma tt (append_cancel_left (34 ∷ []) _ _ spelled) in
    no_comma first channels.1
