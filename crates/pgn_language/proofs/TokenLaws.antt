-- Laws of quotes and of cut names.
use Rattle.std.proofs.Common.{◌≡◌, ◌≢◌, ◌↔◌, ℕ, zero, suc, ◌+◌, ◌<◌, ◌≤◌, true, false, ◌==◌, inl, inr, List, [], ◌∷◌, ◌++◌, length, take, drop, get_or, flat_map, slice_get, Option, None, Some, option_map, sym, ap, ◌∙◌, refl, subst, arith, get_or-drop, length-take, IsUtf8, IsCharBoundary, length-append, Contains, encode_utf8_all, encode_utf8}
use Rattle.std.proofs.lemmas.Bool.{eq-eqb, eqb-true, ne_eqb, le-leb, lt-leb, lt-ltb, le-ltb, cases_lt, both_ways, cases_Bool, and_parts}
use Rattle.std.proofs.lemmas.List.{take_all, take_min, length-drop, take_at, take-append-drop}
use Rattle.std.proofs.lemmas.Str.{IsUtf8-take, IsUtf8-nil, IsCharBoundary-from_take, IsUtf8-encode, length-encode, len_utf8_bounds}
use Rattle.std.specs.Str.{all_scalars}
use Rattle.std.specs.Char.{len_utf8}
use Rattle.std.proofs.lemmas.List.Elements.{Contains-append_left}
use Rattle.pgn_base.specs.Texts.{IsName}
use Rattle.pgn_language.specs.Quotes.{doubled_byte}
use Rattle.pgn_language.specs.Tokens.{Inside, closed, preceded}
use Rattle.pgn_language.specs.Grammar.{begins_character, cut}
use Rattle.pgn_language.specs.laws.Tokens.{IsClosed, IsLongestPrefix}

-- a byte that is no quote belongs to the text
closed-step : (quote b : ℕ) (bytes : List ℕ) → (b == quote) ≡ false → closed quote (b ∷ bytes) ≡ option_map (preceded b 1) (closed quote bytes)
closed-step quote b [] h = rw (h, closed)
closed-step quote b (c ∷ bytes) h = rw (h, closed)

closed-double : (quote : ℕ) (bytes : List ℕ) → closed quote (quote ∷ quote ∷ bytes) ≡ option_map (preceded quote 2) (closed quote bytes)
closed-double quote bytes = rw (eq-eqb quote quote refl, closed) (rw (eq-eqb quote quote refl))

closed-end : (quote : ℕ) (rest : List ℕ) → slice_get rest 0 ≢ Some quote → closed quote (quote ∷ rest) ≡ Some (record { text = []; size = 1 })
closed-end quote [] h = rw (eq-eqb quote quote refl, closed)
closed-end quote (c ∷ rest) h =
    let other : (c == quote) ≡ false = ne_eqb c quote (λ e. h (ap (λ n. Some n) e)) in
    rw (eq-eqb quote quote refl, other, closed)

same : {t u : List ℕ} {m n : ℕ} → t ≡ u → m ≡ n → Some (let i : Inside = record { text = t; size = m } in i) ≡ Some (let i : Inside = record { text = u; size = n } in i)
same {t} {u} {m} {n} p q = ap (λ (x : List ℕ). Some (let i : Inside = record { text = x; size = m } in i)) p ∙ ap (λ (x : ℕ). Some (let i : Inside = record { text = u; size = x } in i)) q

-- a text in quotes is read back
pub closed-doubled : (quote : ℕ) (text rest : List ℕ) → slice_get rest 0 ≢ Some quote
    → closed quote (flat_map (doubled_byte quote) text ++ quote ∷ rest) ≡ Some (record { text = text; size = length (flat_map (doubled_byte quote) text) + 1 })
closed-doubled quote [] rest h = closed-end quote rest h
closed-doubled quote (b ∷ text) rest h =
    let tail : List ℕ = flat_map (doubled_byte quote) text ++ quote ∷ rest in
    let ih : closed quote tail ≡ Some (record { text = text; size = length (flat_map (doubled_byte quote) text) + 1 }) = closed-doubled quote text rest h in
    elim (cases_Bool (b == quote)) [
      | inl e ↦ rw e (closed-double quote tail ∙ ap (option_map (preceded quote 2)) ih ∙ same (ap (λ (x : ℕ). x ∷ text) (sym (eqb-true b quote e))) (omega arith))
      | inr e ↦ rw e (closed-step quote b tail e ∙ ap (option_map (preceded b 1)) ih ∙ same refl (omega arith))
    ]

boundary : (bytes : List ℕ) → begins_character bytes ≡ true → 0 < length bytes → 128 ≤ get_or bytes 0 0 → 192 ≤ get_or bytes 0 0
boundary [] h l k = absurd (omega arith)
boundary (b ∷ bytes) h l k = elim (cases_lt b 192) [
  | inl e ↦ let stands : begins_character (b ∷ bytes) ≡ false = rw (le-leb 128 b k, lt-ltb b 192 e) in absurd (both_ways (begins_character (b ∷ bytes)) stands h)
  | inr e ↦ e
]

boundary_at : (bytes : List ℕ) → (0 < length bytes → 128 ≤ get_or bytes 0 0 → 192 ≤ get_or bytes 0 0) → begins_character bytes ≡ true
boundary_at [] h = refl
boundary_at (b ∷ bytes) h = elim (cases_lt b 128) [
  | inl e ↦ rw (lt-leb 128 b e)
  | inr k ↦ rw (le-leb 128 b k, le-ltb b 192 (h (omega arith) k))
]

at_drop : (text : List ℕ) (k : ℕ) → get_or (drop k text) 0 0 ≡ get_or text k 0
at_drop text k = get_or-drop k text 0 0 ∙ ap (λ (i : ℕ). get_or text i 0) (omega arith)

IsCharBoundary-at : (text : List ℕ) (k : ℕ) → k ≤ length text → begins_character (drop k text) ≡ true → IsCharBoundary text k
IsCharBoundary-at text k l h = (
  l,
  λ m b.
      let e : get_or (drop k text) 0 0 ≡ get_or text k 0 = at_drop text k in
      let some : 0 < length (drop k text) = omega (arith, length-drop k text) in
      let r : 192 ≤ get_or (drop k text) 0 0 = boundary (drop k text) h some (omega arith) in omega arith,
)

begins_character-at : (text : List ℕ) (k : ℕ) → IsCharBoundary text k → begins_character (drop k text) ≡ true
begins_character-at text k h = boundary_at (drop k text) (λ some b.
    let e : get_or (drop k text) 0 0 ≡ get_or text k 0 = at_drop text k in
    let r : 192 ≤ get_or text k 0 = h.1 (omega (arith, length-drop k text)) (omega arith) in omega arith)

taken : (k : ℕ) (text : List ℕ) → IsUtf8 text → begins_character (drop k text) ≡ true → IsLongestPrefix k text (take k text)
taken k text h e = record {
  prefix = sym (ap (λ (i : ℕ). take i text) (length-take k text) ∙ take_min k text);
  short = omega (arith, length-take k text);
  whole = elim (cases_lt (length text) k) [
    | inl l ↦ subst (λ (x : List ℕ). IsUtf8 x) (sym (take_all k text (omega arith))) h
    | inr l ↦ IsUtf8-take text k h (IsCharBoundary-at text k l e)
  ];
  longest = λ m a b c. omega (arith, length-take k text);
}

-- a text is cut to the longest front that has so many bytes and cuts no character
pub cut-longest : (n : ℕ) (text : List ℕ) → IsUtf8 text → IsLongestPrefix n text (cut n text)
unfolding cut
cut-longest zero text h = record { prefix = refl; short = omega arith; whole = IsUtf8-nil; longest = λ m a b c. a }
cut-longest (suc n) text h = elim (cases_Bool (begins_character (drop (suc n) text))) [
  | inl e ↦ rw (e, cut) (taken (suc n) text h e)
  | inr e ↦ rw (e, cut) (let ih : IsLongestPrefix n text (cut n text) = cut-longest n text h in record {
    prefix = ih.prefix;
    short = omega (arith, ih.short);
    whole = ih.whole;
    longest = λ m a b c. elim (cases_lt n m) [
      | inl l ↦ let last : m ≡ suc n = omega arith in
          let whole : IsUtf8 (take (suc n) text) = subst (λ (x : ℕ). IsUtf8 (take x text)) last c in
          absurd (both_ways (begins_character (drop (suc n) text)) e (begins_character-at text (suc n) (IsCharBoundary-from_take text (suc n) h (omega arith) whole)))
      | inr l ↦ ih.longest m l b c
    ];
  })
]

-- what is closed spells its text
same_rest : (quote : ℕ) (bytes : List ℕ) (i j : Inside) → i ≡ j → IsClosed quote bytes i → IsClosed quote bytes j
same_rest quote bytes i j e h = subst (λ (x : Inside). IsClosed quote bytes x) e h

closed-one : (quote b : ℕ) (rest : List ℕ) → b ≡ quote → slice_get rest 0 ≢ Some quote → IsClosed quote (b ∷ rest) (record { text = []; size = 1 })
closed-one quote b rest e h = record { spelled = ap (λ (x : ℕ). x ∷ rest) e; size = refl; ends = h }

closed-two : (quote b c : ℕ) (bytes : List ℕ) (i : Inside) → b ≡ quote → c ≡ quote → IsClosed quote bytes i → IsClosed quote (b ∷ c ∷ bytes) (preceded quote 2 i)
closed-two quote b c bytes i e f h =
    let d : drop (2 + i.size) (b ∷ c ∷ bytes) ≡ drop i.size bytes = ap (λ (n : ℕ). drop n (b ∷ c ∷ bytes)) (let n : 2 + i.size ≡ suc (suc i.size) = omega arith in n) in
    let q : (quote == quote) ≡ true = eq-eqb quote quote refl in
    record {
      spelled = rw (q, d) (cc);
      size = rw q (omega (arith, h.size));
      ends = λ x. h.ends (sym (ap (λ (l : List ℕ). slice_get l 0) d) ∙ x);
    }

closed-more : (quote b : ℕ) (bytes : List ℕ) (i : Inside) → (b == quote) ≡ false → IsClosed quote bytes i → IsClosed quote (b ∷ bytes) (preceded b 1 i)
closed-more quote b bytes i e h =
    let d : drop (1 + i.size) (b ∷ bytes) ≡ drop i.size bytes = ap (λ (n : ℕ). drop n (b ∷ bytes)) (let n : 1 + i.size ≡ suc i.size = omega arith in n) in
    record {
      spelled = rw (e, d) (ap (λ (l : List ℕ). b ∷ l) h.spelled);
      size = rw e (omega (arith, h.size));
      ends = λ x. h.ends (sym (ap (λ (l : List ℕ). slice_get l 0) d) ∙ x);
    }

some_of : (f : Inside → Inside) (o : Option Inside) (i : Inside) → option_map f o ≡ Some i → (j : Inside) × (o ≡ Some j) × (f j ≡ i)
some_of f None i h = absurd (cc)
some_of f (Some j) i h = (j, refl, cc)

apart_from : (quote c : ℕ) (bytes : List ℕ) → (c == quote) ≡ false → slice_get (c ∷ bytes) 0 ≢ Some quote
apart_from quote c bytes f x = let e : c ≡ quote = cc in both_ways (c == quote) f (eq-eqb c quote e)

ended : (quote b : ℕ) (rest : List ℕ) (inside : Inside) → (b == quote) ≡ true → slice_get rest 0 ≢ Some quote → closed quote (b ∷ rest) ≡ Some inside → IsClosed quote (b ∷ rest) inside
ended quote b rest inside e ends h =
    let p : b ≡ quote = eqb-true b quote e in
    let none : Inside = record { text = []; size = 1 } in
    let k : Some none ≡ Some inside = sym (ap (λ (x : ℕ). closed quote (x ∷ rest)) p ∙ closed-end quote rest ends) ∙ h in
    same_rest quote (b ∷ rest) none inside (cc) (closed-one quote b rest p ends)

-- what is found between quotes is spelled by the bytes up to the closing one
pub closed-spells : (quote : ℕ) (bytes : List ℕ) (inside : Inside) → closed quote bytes ≡ Some inside → IsClosed quote bytes inside
closed-spells quote [] inside h = absurd (cc)
closed-spells quote (b ∷ []) inside h = elim (cases_Bool (b == quote)) [
  | inl e ↦ ended quote b [] inside e (λ x. absurd (cc)) h
  | inr e ↦ let p : (j : Inside) × (None ≡ Some j) × (preceded b 1 j ≡ inside) = some_of (preceded b 1) None inside (sym (closed-step quote b [] e) ∙ h) in absurd (let q : None ≡ Some p.0 = p.1 in cc)
]
closed-spells quote (b ∷ c ∷ bytes) inside h = elim (cases_Bool (b == quote)) [
  | inl e ↦ elim (cases_Bool (c == quote)) [
    | inl f ↦
        let two : closed quote (b ∷ c ∷ bytes) ≡ option_map (preceded quote 2) (closed quote bytes) =
        ap (λ (x : ℕ). closed quote (x ∷ c ∷ bytes)) (eqb-true b quote e) ∙ ap (λ (x : ℕ). closed quote (quote ∷ x ∷ bytes)) (eqb-true c quote f) ∙ closed-double quote bytes in
        let p : (j : Inside) × (closed quote bytes ≡ Some j) × (preceded quote 2 j ≡ inside) = some_of (preceded quote 2) (closed quote bytes) inside (sym two ∙ h) in
        same_rest quote (b ∷ c ∷ bytes) (preceded quote 2 p.0) inside p.2 (closed-two quote b c bytes p.0 (eqb-true b quote e) (eqb-true c quote f) (closed-spells quote bytes p.0 p.1))
    | inr f ↦ ended quote b (c ∷ bytes) inside e (apart_from quote c bytes f) h
  ]
  | inr e ↦
      let p : (j : Inside) × (closed quote (c ∷ bytes) ≡ Some j) × (preceded b 1 j ≡ inside) = some_of (preceded b 1) (closed quote (c ∷ bytes)) inside (sym (closed-step quote b (c ∷ bytes) e) ∙ h) in
      same_rest quote (b ∷ c ∷ bytes) (preceded b 1 p.0) inside p.2 (closed-more quote b (c ∷ bytes) p.0 e (closed-spells quote (c ∷ bytes) p.0 p.1))
]

-- it is found exactly where the bytes spell it
pub quotes-tell : (quote : ℕ) (bytes : List ℕ) (inside : Inside) → (closed quote bytes ≡ Some inside) ↔ IsClosed quote bytes inside
quotes-tell quote bytes inside = (
  closed-spells quote bytes inside,
  λ h.
      ap (closed quote) h.spelled ∙ closed-doubled quote inside.text (drop inside.size bytes) h.ends ∙ same refl (sym h.size),
)

-- a text has a first character
first_from : (cs text : List ℕ) → all_scalars cs ≡ true → encode_utf8_all cs ≡ text → 0 < length text → (m : ℕ) × (0 < m) × (m ≤ 4) × (m ≤ length text) × IsUtf8 (take m text)
first_from [] text s e l = absurd (omega (arith, ap length e))
first_from (c ∷ cs) text s e l =
    let size : length (encode_utf8 c) ≡ len_utf8 c = length-encode c in
    let bounds : (1 ≤ len_utf8 c) × (len_utf8 c ≤ 4) = len_utf8_bounds c in
    let whole : length (encode_utf8 c) + length (encode_utf8_all cs) ≡ length text = sym (length-append (encode_utf8 c) (encode_utf8_all cs)) ∙ ap length e in
    let part : take (length (encode_utf8 c)) text ≡ encode_utf8 c = ap (take (length (encode_utf8 c))) (sym e) ∙ take_at (encode_utf8 c) (encode_utf8_all cs) (length (encode_utf8 c)) refl in
    (length (encode_utf8 c), omega (arith, bounds.0), omega (arith, bounds.1), omega arith, subst (λ (x : List ℕ). IsUtf8 x) (sym part) (IsUtf8-encode c (and_parts _ _ s).0))

-- a text that is cut at 63 bytes is a name, where it has some bytes and no 0
pub cut-name : (text : List ℕ) → IsUtf8 text → 0 < length text → (Contains text 0 → ⊥) → IsName (cut 63 text)
cut-name text h l no_nul =
    let part : IsLongestPrefix 63 text (cut 63 text) = cut-longest 63 text h in
    let first : (m : ℕ) × (0 < m) × (m ≤ 4) × (m ≤ length text) × IsUtf8 (take m text) = first_from h.0 text h.1.0 h.1.1 l in
    record {
      text = part.whole;
      some = let longer : first.0 ≤ length (cut 63 text) = part.longest first.0 (omega (arith, first.2)) first.3 first.4 in omega (arith, first.1, longer);
      short = omega (arith, part.short);
      no_nul = λ nul. no_nul (subst (λ (x : List ℕ). Contains x 0) (take-append-drop (length (cut 63 text)) text)
          (Contains-append_left (take (length (cut 63 text)) text) (drop (length (cut 63 text)) text) 0 (subst (λ (x : List ℕ). Contains x 0) part.prefix nul)));
    }
