-- Texts between quotes.
use Rattle.std.proofs.Common.{◌≡◌, ◌≢◌, ℕ, zero, suc, ◌+◌, ◌-◌, ◌<◌, ◌≤◌, Bool, true, false, ◌&&◌, ◌==◌, inl, inr, List, [], ◌∷◌, ◌++◌, take, drop, length, get_or, flat_map, slice_get, slice_range, Option, None, Some, option_map, sym, ap, ◌∙◌, refl, subst, arith, append_assoc, length-append, IsUtf8, IsCharBoundary}
use Rattle.std.proofs.lemmas.Bool.{cases_Bool, eqb-true, eq-eqb, both_ways, false_from_ne_true, cases_lt}
use Rattle.std.proofs.lemmas.List.{take-append-drop, drop-drop, drop_more, take_at, length-take-le, length-drop, get_or-drop, take_all, drop_at, get_or_at}
use Rattle.std.proofs.lemmas.Str.{IsCharBoundary-after_ascii}
use Rattle.std.proofs.lemmas.List.Concat.{flat_map-append}
use Rattle.pgn_language.specs.Quotes.{doubled_byte}
use Rattle.pgn_language.specs.Tokens.{Inside, closed, preceded}
use Rattle.pgn_language.specs.laws.Tokens.{IsClosed}
use Rattle.pgn_language.proofs.TokenLaws.{quotes-tell}
use Rattle.memchr.specs.Find.{IsFirstByte, is_byte}
use Rattle.pgn_command.specs.Texts.{single, starts, NoneAmong, IsQuoteAt, FindsQuote, IsInside, IsTwice}

-- a byte other than the quote stands for itself
pub other-once : (quote b : ℕ) (bytes : List ℕ) → (b == quote) ≡ false → single quote (b ∷ bytes) ≡ b ∷ single quote bytes
other-once quote b [] h = refl
other-once quote b (c ∷ bytes) h = rw (h, single) refl

pub two-once : (quote : ℕ) (bytes : List ℕ) → single quote (quote ∷ quote ∷ bytes) ≡ quote ∷ single quote bytes
two-once quote bytes = rw (eq-eqb quote quote refl, single) refl

-- a text with its quotes written twice, each once
pub once-doubled : (quote : ℕ) (text : List ℕ) → single quote (flat_map (doubled_byte quote) text) ≡ text
once-doubled quote [] = refl
once-doubled quote (b ∷ text) = elim (cases_Bool (b == quote)) [
  | inl e ↦ rw e (two-once quote (flat_map (doubled_byte quote) text) ∙ ap (λ (l : List ℕ). quote ∷ l) (once-doubled quote text) ∙ ap (λ (x : ℕ). x ∷ text) (sym (eqb-true b quote e)))
  | inr e ↦ rw e (other-once quote b (flat_map (doubled_byte quote) text) e ∙ ap (λ (l : List ℕ). b ∷ l) (once-doubled quote text))
]

-- what has no quote is written as it is
pub plain-written : (quote n : ℕ) (bytes : List ℕ) → NoneAmong quote bytes n → flat_map (doubled_byte quote) (take n bytes) ≡ take n bytes
plain-written quote zero bytes h = refl
plain-written quote (suc n) [] h = refl
plain-written quote (suc n) (b ∷ bytes) h =
    let other : (b == quote) ≡ false = false_from_ne_true (b == quote) (h 0 (omega arith)) in
    rw other (ap (λ (l : List ℕ). b ∷ l) (plain-written quote n bytes (λ k l e. h (suc k) (omega arith) e)))

-- where no quote stands, nothing is closed
pub none-closed : (quote : ℕ) (bytes : List ℕ) → NoneAmong quote bytes (length bytes) → closed quote bytes ≡ None
none-closed quote [] h = refl
none-closed quote (b ∷ []) h =
    let other : (b == quote) ≡ false = false_from_ne_true (b == quote) (h 0 (omega arith)) in rw (other, closed) refl
none-closed quote (b ∷ c ∷ bytes) h =
    let other : (b == quote) ≡ false = false_from_ne_true (b == quote) (h 0 (omega arith)) in
    rw (other, closed) (ap (option_map (preceded b 1)) (none-closed quote (c ∷ bytes) (λ k l e. h (suc k) (omega arith) e)))

step : (quote b : ℕ) (bytes : List ℕ) → (b == quote) ≡ false → closed quote (b ∷ bytes) ≡ option_map (preceded b 1) (closed quote bytes)
step quote b [] h = rw (h, closed) refl
step quote b (c ∷ bytes) h = rw (h, closed) refl

double : (quote : ℕ) (bytes : List ℕ) → closed quote (quote ∷ quote ∷ bytes) ≡ option_map (preceded quote 2) (closed quote bytes)
double quote bytes = rw (eq-eqb quote quote refl, closed) (rw (eq-eqb quote quote refl) refl)

-- nor after a text with its quotes written twice
pub still-open : (quote : ℕ) (text rest : List ℕ) → closed quote rest ≡ None → closed quote (flat_map (doubled_byte quote) text ++ rest) ≡ None
still-open quote [] rest h = h
still-open quote (b ∷ text) rest h = elim (cases_Bool (b == quote)) [
  | inl e ↦ rw e (double quote (flat_map (doubled_byte quote) text ++ rest) ∙ ap (option_map (preceded quote 2)) (still-open quote text rest h))
  | inr e ↦ rw e (step quote b (flat_map (doubled_byte quote) text ++ rest) e ∙ ap (option_map (preceded b 1)) (still-open quote text rest h))
]

-- bytes up to an end are a text with its quotes written twice, of which there are so many
pub record Written (quote : ℕ) (bytes : List ℕ) (end doubled : ℕ) : Type 0 where
  pub text : List ℕ
  pub spelled : bytes ≡ flat_map (doubled_byte quote) text ++ drop end bytes
  pub size : length (flat_map (doubled_byte quote) text) ≡ end
  pub count : length text + doubled ≡ end

-- further bytes without a quote
pub written-plain : (quote : ℕ) (bytes : List ℕ) (end doubled next : ℕ) → Written quote bytes end doubled → end + next ≤ length bytes → NoneAmong quote (drop end bytes) next
    → Written quote bytes (end + next) doubled
written-plain quote bytes end doubled next w l none =
    let more : List ℕ = take next (drop end bytes) in
    let plain : flat_map (doubled_byte quote) more ≡ more = plain-written quote next (drop end bytes) none in
    let long : length more ≡ next = length-take-le next (drop end bytes) (omega (arith, length-drop end bytes)) in
    let both : flat_map (doubled_byte quote) (w.text ++ more) ≡ flat_map (doubled_byte quote) w.text ++ more =
    flat_map-append (doubled_byte quote) w.text more ∙ ap (λ (l : List ℕ). flat_map (doubled_byte quote) w.text ++ l) plain in
    let rest : drop end bytes ≡ more ++ drop (end + next) bytes = sym (take-append-drop next (drop end bytes)) ∙ ap (λ (l : List ℕ). more ++ l) (drop-drop next end bytes) in
    record {
      text = w.text ++ more;
      spelled = w.spelled ∙ ap (λ (l : List ℕ). flat_map (doubled_byte quote) w.text ++ l) rest
          ∙ sym (append_assoc (flat_map (doubled_byte quote) w.text) more (drop (end + next) bytes))
          ∙ ap (λ (l : List ℕ). l ++ drop (end + next) bytes) (sym both);
      size = ap length both ∙ length-append (flat_map (doubled_byte quote) w.text) more ∙ (let s : length (flat_map (doubled_byte quote) w.text) ≡ end = w.size in omega arith);
      count = let c : length w.text + doubled ≡ end = w.count in omega (arith, length-append w.text more);
    }

-- a quote that is written twice
pub written-pair : (quote : ℕ) (bytes : List ℕ) (end doubled : ℕ) → Written quote bytes end doubled → end + 1 < length bytes → get_or bytes end 0 ≡ quote → get_or bytes (end + 1) 0 ≡ quote
    → Written quote bytes (end + 2) (doubled + 1)
written-pair quote bytes end doubled w l e f =
    let pair : List ℕ = quote ∷ quote ∷ [] in
    let once : List ℕ = quote ∷ [] in
    let plain : flat_map (doubled_byte quote) once ≡ pair = rw (eq-eqb quote quote refl) refl in
    let both : flat_map (doubled_byte quote) (w.text ++ once) ≡ flat_map (doubled_byte quote) w.text ++ pair =
    flat_map-append (doubled_byte quote) w.text once ∙ ap (λ (l : List ℕ). flat_map (doubled_byte quote) w.text ++ l) plain in
    let rest : drop end bytes ≡ pair ++ drop (end + 2) bytes =
    drop_more bytes end 0 (omega arith) ∙ ap (λ (l : List ℕ). get_or bytes end 0 ∷ l) (drop_more bytes (end + 1) 0 l) ∙ ap (λ (x : ℕ). x ∷ get_or bytes (end + 1) 0 ∷ drop (end + 1 + 1) bytes) e
    ∙ ap (λ (x : ℕ). quote ∷ x ∷ drop (end + 1 + 1) bytes) f ∙ ap (λ (n : ℕ). quote ∷ quote ∷ drop n bytes) (omega arith) in
    record {
      text = w.text ++ once;
      spelled = w.spelled ∙ ap (λ (l : List ℕ). flat_map (doubled_byte quote) w.text ++ l) rest
          ∙ sym (append_assoc (flat_map (doubled_byte quote) w.text) pair (drop (end + 2) bytes))
          ∙ ap (λ (l : List ℕ). l ++ drop (end + 2) bytes) (sym both);
      size = ap length both ∙ length-append (flat_map (doubled_byte quote) w.text) pair ∙ (let s : length (flat_map (doubled_byte quote) w.text) ≡ end = w.size in omega arith);
      count = let c : length w.text + doubled ≡ end = w.count in omega (arith, length-append w.text once);
    }

-- what stands before the end is that text as it is written
pub written-raw : (quote : ℕ) (bytes : List ℕ) (end doubled : ℕ) (w : Written quote bytes end doubled) → take end bytes ≡ flat_map (doubled_byte quote) w.text
written-raw quote bytes end doubled w = ap (take end) w.spelled ∙ take_at (flat_map (doubled_byte quote) w.text) (drop end bytes) end w.size

pub written-once : (quote : ℕ) (bytes : List ℕ) (end doubled : ℕ) (w : Written quote bytes end doubled) → single quote (take end bytes) ≡ w.text
written-once quote bytes end doubled w = ap (single quote) (written-raw quote bytes end doubled w) ∙ once-doubled quote w.text

-- what was passed is its text with each quote written twice
pub written-spelled : (quote : ℕ) (bytes : List ℕ) (end doubled : ℕ) → Written quote bytes end doubled → take end bytes ≡ flat_map (doubled_byte quote) (single quote (take end bytes))
written-spelled quote bytes end doubled w = written-raw quote bytes end doubled w ∙ ap (flat_map (doubled_byte quote)) (sym (written-once quote bytes end doubled w))

-- it has a byte more than its text for each quote in it
pub written-counted : (quote : ℕ) (bytes : List ℕ) (end doubled : ℕ) → Written quote bytes end doubled → end ≤ length bytes → length (single quote (take end bytes)) + doubled ≡ length (take end bytes)
written-counted quote bytes end doubled w l =
    let c : length w.text + doubled ≡ end = w.count in
    let t : length (single quote (take end bytes)) ≡ length w.text = ap length (written-once quote bytes end doubled w) in
    omega (arith, length-take-le end bytes l)

starts-none : (quote : ℕ) (bytes : List ℕ) → starts quote bytes ≡ false → slice_get bytes 0 ≢ Some quote
starts-none quote [] h e = absurd (cc)
starts-none quote (b ∷ bytes) h e = let same : b ≡ quote = cc in both_ways (b == quote) h (eq-eqb b quote same)

-- a quote that is written once closes it
pub written-closed : (quote : ℕ) (bytes : List ℕ) (end doubled : ℕ) → Written quote bytes end doubled → end < length bytes → get_or bytes end 0 ≡ quote → starts quote (drop (end + 1) bytes) ≡ false
    → IsInside quote bytes quote (take end bytes)
written-closed quote bytes end doubled w l e f =
    let text : single quote (take end bytes) ≡ w.text = written-once quote bytes end doubled w in
    let long : length (take end bytes) ≡ end = length-take-le end bytes (omega arith) in
    let at_end : drop end bytes ≡ quote ∷ drop (end + 1) bytes = drop_more bytes end 0 l ∙ ap (λ (x : ℕ). x ∷ drop (end + 1) bytes) e in
    let whole : IsClosed quote bytes (record { text = w.text; size = end + 1 }) = record {
      spelled = w.spelled ∙ ap (λ (r : List ℕ). flat_map (doubled_byte quote) w.text ++ r) at_end;
      size = ap (λ (n : ℕ). n + 1) (sym w.size);
      ends = starts-none quote (drop (end + 1) bytes) f;
    } in
    record {
      quote_is = refl;
      front = ap (λ (n : ℕ). take n bytes) (sym long);
      short = omega arith;
      last = ap (λ (n : ℕ). get_or bytes n 0) long ∙ e;
      closes = (quotes-tell quote bytes (record { text = w.text; size = end + 1 })).1 whole
          ∙ ap (λ (t : List ℕ). let i : Inside = record { text = t; size = end + 1 } in Some i) (sym text)
          ∙ ap (λ (n : ℕ). let i : Inside = record { text = single quote (take end bytes); size = n + 1 } in Some i) (sym long);
    }

-- where no further quote stands none closes the text
pub written-open : (quote : ℕ) (bytes : List ℕ) (end doubled : ℕ) → Written quote bytes end doubled → NoneAmong quote (drop end bytes) (length (drop end bytes)) → closed quote bytes ≡ None
written-open quote bytes end doubled w none = ap (closed quote) w.spelled ∙ still-open quote w.text (drop end bytes) (none-closed quote (drop end bytes) none)

once-some-two : (quote b c : ℕ) (raw : List ℕ) (t : Bool) → (elim t as (λ _. List ℕ) [ true ↦ quote ∷ single quote raw | false ↦ b ∷ single quote (c ∷ raw) ]) ≡ [] → ⊥
once-some-two quote b c raw true e = absurd (cc)
once-some-two quote b c raw false e = absurd (cc)

-- a text is empty where it is written as nothing
pub once-some : (quote : ℕ) (raw : List ℕ) → raw ≢ [] → single quote raw ≢ []
once-some quote [] h e = h refl
once-some quote (b ∷ []) h e = absurd (cc)
once-some quote (b ∷ c ∷ raw) h e = once-some-two quote b c raw (b == quote && c == quote) e

-- up to the next quote
pub written-next : (quote : ℕ) (bytes : List ℕ) (end doubled at : ℕ) → Written quote bytes end doubled → IsQuoteAt quote bytes end at → Written quote bytes at doubled
written-next quote bytes end doubled at w h =
    let same : end + (at - end) ≡ at = omega (arith, h.low) in
    subst (λ (n : ℕ). Written quote bytes n doubled) same (written-plain quote bytes end doubled (at - end) w (omega (arith, h.low, h.high)) h.before)

starts-at : (quote : ℕ) (bytes : List ℕ) (k : ℕ) → starts quote (drop k bytes) ≡ true → (k < length bytes) × (get_or bytes k 0 ≡ quote)
starts-at quote [] zero h = absurd (cc)
starts-at quote (b ∷ bytes) zero h = (omega arith, eqb-true b quote h)
starts-at quote [] (suc k) h = absurd (cc)
starts-at quote (b ∷ bytes) (suc k) h = let rest : (k < length bytes) × (get_or bytes k 0 ≡ quote) = starts-at quote bytes k h in (omega (arith, rest.0), rest.1)

-- a quote behind a quote is one more that is written twice
pub written-twice : (quote : ℕ) (bytes : List ℕ) (at doubled : ℕ) → Written quote bytes at doubled → at < length bytes → get_or bytes at 0 ≡ quote → starts quote (drop (at + 1) bytes) ≡ true
    → Written quote bytes (at + 2) (doubled + 1) × (at + 2 ≤ length bytes)
written-twice quote bytes at doubled w l e f =
    let second : (at + 1 < length bytes) × (get_or bytes (at + 1) 0 ≡ quote) = starts-at quote bytes (at + 1) f in
    (written-pair quote bytes at doubled w second.0 e second.1, omega (arith, second.0))

-- what a search finds
pub finds-quote : (quote from : ℕ) (bytes : List ℕ) (r : Option ℕ) → from ≤ length bytes → IsFirstByte (is_byte quote) (drop from bytes) r → FindsQuote quote bytes from (option_map (λ n. from + n) r)
finds-quote quote from bytes None l h = λ k m e. h k (omega arith) m e
finds-quote quote from bytes (Some next) l h =
    let high : next < length bytes - from = omega (arith, h.0.high, length-drop from bytes) in
    record {
      low = omega arith;
      high = omega arith;
      is = sym (get_or-drop from bytes next 0) ∙ eqb-true (get_or (drop from bytes) next 0) quote h.1;
      before = λ k m e. h.0.before k (omega arith) (omega arith) e;
    }

-- ranges that begin at the start or run to the end
pub from_start : (n : ℕ) (xs : List ℕ) → slice_range xs 0 n ≡ take n xs
from_start n xs = ap (λ (k : ℕ). take k xs) (omega arith)

-- what follows a quote that is written twice: the rest of the text, and the rest of the bytes
pub record Split (quote : ℕ) (text raw : List ℕ) (at : ℕ) : Type 0 where
  pub rest : List ℕ
  pub text_is : text ≡ take at raw ++ quote ∷ rest
  pub raw_is : raw ≡ take at raw ++ quote ∷ quote ∷ flat_map (doubled_byte quote) rest

split-more : (quote b : ℕ) (text raw : List ℕ) (at : ℕ) → Split quote text raw at → Split quote (b ∷ text) (b ∷ raw) (suc at)
split-more quote b text raw at s = record { rest = s.rest; text_is = ap (λ (l : List ℕ). b ∷ l) s.text_is; raw_is = ap (λ (l : List ℕ). b ∷ l) s.raw_is }

twice-first : (quote b : ℕ) (text : List ℕ) → (b == quote) ≡ true → flat_map (doubled_byte quote) (b ∷ text) ≡ quote ∷ quote ∷ flat_map (doubled_byte quote) text
twice-first quote b text t = rw t refl

once-first : (quote b : ℕ) (text : List ℕ) → (b == quote) ≡ false → flat_map (doubled_byte quote) (b ∷ text) ≡ b ∷ flat_map (doubled_byte quote) text
once-first quote b text t = rw t refl

split-quote : (quote b : ℕ) (text : List ℕ) (at : ℕ) → b ≡ quote → NoneAmong quote (quote ∷ quote ∷ flat_map (doubled_byte quote) text) at → Split quote (b ∷ text) (flat_map (doubled_byte quote) (b ∷ text)) at
split-quote quote b text zero e h = record { rest = text; text_is = ap (λ (x : ℕ). x ∷ text) e; raw_is = twice-first quote b text (eq-eqb b quote e) }
split-quote quote b text (suc at) e h = absurd (h 0 (omega arith) (eq-eqb quote quote refl))

-- the first quote of a text with its quotes written twice is one of two
split-at : (quote : ℕ) (text : List ℕ) (at : ℕ) → at < length (flat_map (doubled_byte quote) text) → get_or (flat_map (doubled_byte quote) text) at 0 ≡ quote → NoneAmong quote (flat_map (doubled_byte quote) text) at
    → Split quote text (flat_map (doubled_byte quote) text) at
split-at quote [] at l e h = absurd (omega (arith, l))
split-at quote (b ∷ text) zero l e h = elim (cases_Bool (b == quote)) [
  | inl t ↦ split-quote quote b text zero (eqb-true b quote t) (λ k m. absurd (omega arith))
  | inr t ↦ absurd (both_ways (b == quote) t (eq-eqb b quote (ap (λ (r : List ℕ). get_or r 0 0) (sym (once-first quote b text t)) ∙ e)))
]
split-at quote (b ∷ text) (suc at) l e h = elim (cases_Bool (b == quote)) [
  | inl t ↦ split-quote quote b text (suc at) (eqb-true b quote t) (subst (λ (r : List ℕ). NoneAmong quote r (suc at)) (twice-first quote b text t) h)
  | inr t ↦
      let o : flat_map (doubled_byte quote) (b ∷ text) ≡ b ∷ flat_map (doubled_byte quote) text = once-first quote b text t in
      let n : NoneAmong quote (b ∷ flat_map (doubled_byte quote) text) (suc at) = subst (λ (r : List ℕ). NoneAmong quote r (suc at)) o h in
      let inner : Split quote text (flat_map (doubled_byte quote) text) at =
      split-at quote text at (let m : suc at < length (b ∷ flat_map (doubled_byte quote) text) = subst (λ (r : List ℕ). suc at < length r) o l in omega arith)
      (ap (λ (r : List ℕ). get_or r (suc at) 0) (sym o) ∙ e) (λ k m. n (suc k) (omega arith)) in
      subst (λ (r : List ℕ). Split quote (b ∷ text) r (suc at)) (sym o) (split-more quote b text (flat_map (doubled_byte quote) text) at inner)
]

-- the same of bytes in which each quote is written twice
pub split-raw : (quote : ℕ) (raw : List ℕ) (at : ℕ) → IsTwice quote raw → IsQuoteAt quote raw 0 at → Split quote (single quote raw) raw at
split-raw quote raw at t h =
    let text : List ℕ = single quote raw in
    let bytes : List ℕ = flat_map (doubled_byte quote) text in
    subst (λ (r : List ℕ). Split quote text r at) (sym t)
    (split-at quote text at (subst (λ (r : List ℕ). at < length r) t h.high) (subst (λ (r : List ℕ). get_or r at 0 ≡ quote) t h.is)
    (subst (λ (r : List ℕ). NoneAmong quote r at) t (λ k m e. h.before k (omega arith) e)))

split-front : (quote : ℕ) (raw : List ℕ) (at : ℕ) → Split quote (single quote raw) raw at → length (take at raw) ≡ at
split-front quote raw at s = elim (cases_lt at (length raw)) [
  | inl l ↦ length-take-le at raw (omega arith)
  | inr l ↦
      let all : take at raw ≡ raw = take_all at raw l in
      let sum : length raw ≡ length (take at raw) + length (quote ∷ quote ∷ flat_map (doubled_byte quote) s.rest) = ap length s.raw_is ∙ length-append (take at raw) (quote ∷ quote ∷ flat_map (doubled_byte quote) s.rest) in
      absurd (omega (arith, sum, ap length all))
]

-- what a loop that writes each quote once keeps: the bytes up to the quote and with it, and the rest after the second
pub split-part : (quote : ℕ) (raw : List ℕ) (at : ℕ) → Split quote (single quote raw) raw at
    → (at + 2 ≤ length raw) × (take (at + 1) raw ++ single quote (drop (at + 2) raw) ≡ single quote raw) × IsTwice quote (drop (at + 2) raw) × (get_or raw (at + 1) 0 ≡ quote)
split-part quote raw at s =
    let front : List ℕ = take at raw in
    let tail : List ℕ = flat_map (doubled_byte quote) s.rest in
    let sum : length raw ≡ length front + length (quote ∷ quote ∷ tail) = ap length s.raw_is ∙ length-append front (quote ∷ quote ∷ tail) in
    let long : length front ≡ at = split-front quote raw at s in
    let one : take (at + 1) raw ≡ front ++ quote ∷ [] = ap (take (at + 1)) (s.raw_is ∙ sym (append_assoc front (quote ∷ []) (quote ∷ tail))) ∙ take_at (front ++ quote ∷ []) (quote ∷ tail) (at + 1) (omega (arith, length-append front (quote ∷ []), long)) in
    let two : drop (at + 2) raw ≡ tail = ap (drop (at + 2)) (s.raw_is ∙ sym (append_assoc front (quote ∷ quote ∷ []) tail)) ∙ drop_at (front ++ quote ∷ quote ∷ []) tail (at + 2) (omega (arith, length-append front (quote ∷ quote ∷ []), long)) in
    let once : single quote (drop (at + 2) raw) ≡ s.rest = ap (single quote) two ∙ once-doubled quote s.rest in (
      omega (arith, sum, long),
      ap (λ (l : List ℕ). l ++ single quote (drop (at + 2) raw)) one ∙ ap (λ (l : List ℕ). front ++ quote ∷ [] ++ l) once ∙ append_assoc front (quote ∷ []) s.rest ∙ sym s.text_is,
      two ∙ ap (flat_map (doubled_byte quote)) (sym once),
      ap (λ (l : List ℕ). get_or l (at + 1) 0) (s.raw_is ∙ sym (append_assoc front (quote ∷ []) (quote ∷ tail)))
          ∙ get_or_at (front ++ quote ∷ []) quote tail 0 (at + 1) (omega (arith, length-append front (quote ∷ []), long)),
    )

-- where no quote stands, the bytes are the text
pub no-quote-once : (quote : ℕ) (raw : List ℕ) → NoneAmong quote raw (length raw) → single quote raw ≡ raw
no-quote-once quote [] h = refl
no-quote-once quote (b ∷ raw) h =
    other-once quote b raw (false_from_ne_true (b == quote) (h 0 (omega arith))) ∙ ap (λ (l : List ℕ). b ∷ l) (no-quote-once quote raw (λ k l e. h (suc k) (omega arith) e))

once-shorter : (quote : ℕ) (text : List ℕ) → length text ≤ length (flat_map (doubled_byte quote) text)
once-shorter quote [] = omega arith
once-shorter quote (b ∷ text) = elim (cases_Bool (b == quote)) [
  | inl t ↦ let n : length (flat_map (doubled_byte quote) (b ∷ text)) ≡ length (quote ∷ quote ∷ flat_map (doubled_byte quote) text) = ap length (twice-first quote b text t) in omega (arith, n, once-shorter quote text)
  | inr t ↦ let n : length (flat_map (doubled_byte quote) (b ∷ text)) ≡ length (b ∷ flat_map (doubled_byte quote) text) = ap length (once-first quote b text t) in omega (arith, n, once-shorter quote text)
]

same-length : (quote : ℕ) (text : List ℕ) → length (flat_map (doubled_byte quote) text) ≡ length text → flat_map (doubled_byte quote) text ≡ text
same-length quote [] h = refl
same-length quote (b ∷ text) h = elim (cases_Bool (b == quote)) [
  | inl t ↦
      let n : length (flat_map (doubled_byte quote) (b ∷ text)) ≡ length (quote ∷ quote ∷ flat_map (doubled_byte quote) text) = ap length (twice-first quote b text t) in
      absurd (omega (arith, n, h, once-shorter quote text))
  | inr t ↦
      let n : length (flat_map (doubled_byte quote) (b ∷ text)) ≡ length (b ∷ flat_map (doubled_byte quote) text) = ap length (once-first quote b text t) in
      once-first quote b text t ∙ ap (λ (l : List ℕ). b ∷ l) (same-length quote text (omega (arith, n, h)))
]

-- a text of as many bytes as are written has no quote
pub no-shorter : (quote : ℕ) (raw : List ℕ) → IsTwice quote raw → length (single quote raw) ≡ length raw → single quote raw ≡ raw
no-shorter quote raw t h = sym (same-length quote (single quote raw) (ap length (sym t) ∙ sym h)) ∙ sym t

two-more : (n : ℕ) → n + 1 + 1 ≡ n + 2
two-more n = omega arith

-- the first quote in a text and the one after it, where the text may be cut after each
pub quote-boundary : (quote : ℕ) (raw : List ℕ) (at : ℕ) → IsUtf8 raw → quote < 128 → at < length raw → get_or raw at 0 ≡ quote → IsCharBoundary raw (at + 1)
quote-boundary quote raw at u l h e = IsCharBoundary-after_ascii raw at u h (omega (arith, e))

-- behind a quote that is written twice a character begins
pub pair-boundary : (quote : ℕ) (raw : List ℕ) (at : ℕ) → IsUtf8 raw → quote < 128 → IsTwice quote raw → IsQuoteAt quote raw 0 at → IsCharBoundary raw (at + 2)
pair-boundary quote raw at u l t h =
    let part : (at + 2 ≤ length raw) × (take (at + 1) raw ++ single quote (drop (at + 2) raw) ≡ single quote raw) × IsTwice quote (drop (at + 2) raw) × (get_or raw (at + 1) 0 ≡ quote) = split-part quote raw at (split-raw quote raw at t h) in
    subst (λ (n : ℕ). IsCharBoundary raw n) (two-more at) (IsCharBoundary-after_ascii raw (at + 1) u (omega (arith, part.0)) (omega (arith, part.3)))

-- one step of the loop
pub written-step : (quote : ℕ) (raw text whole more rest : List ℕ) (at : ℕ) → IsTwice quote raw → IsQuoteAt quote raw 0 at → text ++ single quote raw ≡ whole → more ≡ text ++ slice_range raw 0 (at + 1) → rest ≡ drop (at + 2) raw
    → (more ++ single quote rest ≡ whole) × IsTwice quote rest
written-step quote raw text whole more rest at t h e f g =
    let part : (at + 2 ≤ length raw) × (take (at + 1) raw ++ single quote (drop (at + 2) raw) ≡ single quote raw) × IsTwice quote (drop (at + 2) raw) × (get_or raw (at + 1) 0 ≡ quote) = split-part quote raw at (split-raw quote raw at t h) in
    let front : more ≡ text ++ take (at + 1) raw = f ∙ ap (λ (l : List ℕ). text ++ l) (from_start (at + 1) raw) in (
      ap (λ (l : List ℕ). l ++ single quote rest) front ∙ ap (λ (l : List ℕ). text ++ take (at + 1) raw ++ single quote l) g
          ∙ append_assoc text (take (at + 1) raw) (single quote (drop (at + 2) raw)) ∙ ap (λ (l : List ℕ). text ++ l) part.1 ∙ e,
      subst (λ (l : List ℕ). IsTwice quote l) (sym g) part.2,
    )
