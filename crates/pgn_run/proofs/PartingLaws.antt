-- An input is parted at its first line `\output`.
use Rattle.std.proofs.Common.{◌≡◌, ℕ, suc, ◌+◌, ◌<◌, Bool, true, false, not, cond, List, [], ◌∷◌, ◌++◌, length, get_or, take, drop, Option, None, Some, sym, ap, ◌∙◌, refl, arith, add-one, append_assoc, codes}
use Rattle.std.specs.Prelude.{option_map}
use Rattle.std.specs.List.{after_first, before_first, position_or_len}
use Rattle.std.specs.Str.{bytes_eq}
use Rattle.std.proofs.lemmas.List.{drop-drop}
use Rattle.std.proofs.lemmas.List.Sums.{position_or_len_is}
use Rattle.std.proofs.Math.Seq.{take-add}
use Rattle.memchr.specs.Find.{NoneBefore, Nowhere, Passes, is_byte}
use Rattle.pgn_run.specs.Checking.{Parts, ends_line, parts_from, parts_of, with_byte}

-- parts with more at the front of the scenario
abbrev pub with_bytes : List ℕ → Parts → Parts
with_bytes bytes parts = record { scenario = bytes ++ parts.scenario; output = parts.output }

byte-more : (byte : ℕ) (bytes : List ℕ) (o : Option Parts) → option_map (with_byte byte) (option_map (with_bytes bytes) o) ≡ option_map (with_bytes (byte ∷ bytes)) o
byte-more byte bytes None = refl
byte-more byte bytes (Some parts) = refl

byte-one : (byte : ℕ) (o : Option Parts) → option_map (with_byte byte) o ≡ option_map (with_bytes (byte ∷ [])) o
byte-one byte None = refl
byte-one byte (Some parts) = refl

bytes-more : (first second : List ℕ) (o : Option Parts) → option_map (with_bytes first) (option_map (with_bytes second) o) ≡ option_map (with_bytes (first ++ second)) o
bytes-more first second None = refl
bytes-more first second (Some parts) =
    ap (λ (scenario : List ℕ). let p : Option Parts = Some (record { scenario = scenario; output = parts.output }) in p) (sym (append_assoc first second parts.scenario))

-- the first line of a text with its line feed, and what follows it
abbrev line_of : List ℕ → List ℕ
line_of [] = []
line_of (byte ∷ bytes) = byte ∷ cond (ends_line byte) [] (line_of bytes)

abbrev rest_of : List ℕ → List ℕ
rest_of [] = []
rest_of (byte ∷ bytes) = cond (ends_line byte) bytes (rest_of bytes)

-- a text that goes on in a line has the parts of what follows that line, behind it
goes-on : (text : List ℕ) → parts_from false text ≡ option_map (with_bytes (line_of text)) (parts_from true (rest_of text))
goes-on [] = refl
goes-on (byte ∷ bytes) = go (ends_line byte) (goes-on bytes)
  where
    go : (b : Bool) → parts_from false bytes ≡ option_map (with_bytes (line_of bytes)) (parts_from true (rest_of bytes))
        → option_map (with_byte byte) (parts_from b bytes) ≡ option_map (with_bytes (byte ∷ cond b [] (line_of bytes))) (parts_from true (cond b bytes (rest_of bytes)))
    go true later = byte-one byte (parts_from true bytes)
    go false later = ap (λ (o : Option Parts). option_map (with_byte byte) o) later ∙ byte-more byte (line_of bytes) (parts_from true (rest_of bytes))

one-more : (n : ℕ) → 1 + n ≡ suc n
one-more n = omega arith

line-is : (text : List ℕ) → take (suc (position_or_len ends_line text)) text ≡ line_of text
line-is [] = refl
line-is (byte ∷ bytes) = go (ends_line byte) (line-is bytes)
  where
    go : (b : Bool) → take (suc (position_or_len ends_line bytes)) bytes ≡ line_of bytes → take (suc (cond (not b) (1 + position_or_len ends_line bytes) 0)) (byte ∷ bytes) ≡ byte ∷ cond b [] (line_of bytes)
    go true later = refl
    go false later = ap (λ (n : ℕ). byte ∷ take n bytes) (one-more (position_or_len ends_line bytes)) ∙ ap (λ (rest : List ℕ). byte ∷ rest) later

rest-is : (text : List ℕ) → drop (suc (position_or_len ends_line text)) text ≡ rest_of text
rest-is [] = refl
rest-is (byte ∷ bytes) = go (ends_line byte) (rest-is bytes)
  where
    go : (b : Bool) → drop (suc (position_or_len ends_line bytes)) bytes ≡ rest_of bytes → drop (suc (cond (not b) (1 + position_or_len ends_line bytes) 0)) (byte ∷ bytes) ≡ cond b bytes (rest_of bytes)
    go true later = refl
    go false later = ap (λ (n : ℕ). drop n bytes) (one-more (position_or_len ends_line bytes)) ∙ later

-- the text begins with the line `\output`
abbrev pub begins_output : List ℕ → Bool
begins_output text = bytes_eq (before_first ends_line text) (codes "\\output")

begins-on : (text : List ℕ) → begins_output text ≡ false → parts_from true text ≡ parts_from false text
begins-on [] e = refl
begins-on (byte ∷ bytes) e =
    ap (λ (b : Bool). cond b (Some (record { scenario = []; output = after_first ends_line (byte ∷ bytes) })) (option_map (with_byte byte) (parts_from (ends_line byte) bytes))) e

-- The search for the line, from one line to the next.

-- what stands before this place has no such line
abbrev pub IsBehind : List ℕ → ℕ → Type 0
IsBehind input at = parts_of input ≡ option_map (with_bytes (take at input)) (parts_from true (drop at input))

-- where the line behind so many bytes is not the one between the parts it is behind the next line, if at all
pub behind-next : (input : List ℕ) (at n : ℕ) → n ≡ position_or_len ends_line (drop at input) → begins_output (drop at input) ≡ false → IsBehind input at → IsBehind input (at + (n + 1))
behind-next input at n e other h =
    let text : List ℕ = drop at input in
    let past : n + 1 ≡ suc (position_or_len ends_line text) = add-one n ∙ ap suc e in
    let line : take (n + 1) text ≡ line_of text = ap (λ (k : ℕ). take k text) past ∙ line-is text in
    let rest : drop (n + 1) text ≡ rest_of text = ap (λ (k : ℕ). drop k text) past ∙ rest-is text in
    let front : take (at + (n + 1)) input ≡ take at input ++ line_of text = take-add at (n + 1) input ∙ ap (λ (t : List ℕ). take at input ++ t) line in
    let back : drop (at + (n + 1)) input ≡ rest_of text = sym (drop-drop (n + 1) at input) ∙ rest in
    h ∙ ap (λ (o : Option Parts). option_map (with_bytes (take at input)) o) (begins-on text other ∙ goes-on text)
    ∙ bytes-more (take at input) (line_of text) (parts_from true (rest_of text))
    ∙ ap (λ (t : List ℕ). option_map (with_bytes t) (parts_from true (rest_of text))) (sym front)
    ∙ ap (λ (t : List ℕ). option_map (with_bytes (take (at + (n + 1)) input)) (parts_from true t)) (sym back)

-- Where a line ends.

not-end : (b : Bool) → (b ≡ true → ⊥) → b ≡ false
not-end true = λ no. absurd (no refl)
not-end false = λ no. refl

-- the first line ends where the first line feed was found
pub line-ends : (text : List ℕ) (at : ℕ) → NoneBefore (Passes (is_byte 10) text) 0 (length text) at → Passes (is_byte 10) text at → position_or_len ends_line text ≡ at
line-ends text at h here =
    let within : at < length text = h.high in
    position_or_len_is ends_line text at 0 (omega (arith, within)) (λ k below. not-end (ends_line (get_or text k 0)) (h.before k (omega arith) below)) (λ _. here)

-- where no line feed was found the whole text is one line
pub line-has-no-end : (text : List ℕ) → Nowhere (Passes (is_byte 10) text) 0 (length text) → position_or_len ends_line text ≡ length text
line-has-no-end text h =
    position_or_len_is ends_line text (length text) 0 (omega arith) (λ k below. not-end (ends_line (get_or text k 0)) (h k (omega arith) below)) (λ less. absurd (omega (arith, less)))
