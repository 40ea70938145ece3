-- Laws of a text whose quotes stand twice, written by runs that end with a quote.
use Rattle.std.proofs.Common.{◌≡◌, ℕ, ◌+◌, ◌-◌, ◌<◌, ◌≤◌, Bool, true, suc, cond, List, [], ◌∷◌, ◌++◌, length, take, drop, get_or, sym, ap, ◌∙◌, refl, inl, inr, arith, append_assoc, add-one, drop-cons}
use Rattle.std.specs.Prelude.{flat_map, ◌==◌}
use Rattle.std.proofs.lemmas.List.{take_more}
use Rattle.std.proofs.lemmas.List.Concat.{flat_map-append}
use Rattle.std.proofs.lemmas.List.Edits.{between_more}
use Rattle.std.proofs.lemmas.Bool.{false_from_ne_true}
use Rattle.std.proofs.lemmas.Bool.Decides.{eqb_tells}
use Rattle.pgn_language.specs.Quotes.{doubled_byte}

-- the next item of a list
flat_map-drop_at : {A : Type 0} (f : A → List ℕ) (xs : List A) (i : ℕ) (d : A) → i < length xs → flat_map f (drop i xs) ≡ f (get_or xs i d) ++ flat_map f (drop (i + 1) xs)
flat_map-drop_at f xs i d h = ap (flat_map f) (drop-cons xs i d h) ∙ ap (λ j. f (get_or xs i d) ++ flat_map f (drop j xs)) (sym (add-one i))

pub doubled_byte-other : (quote byte : ℕ) → (byte ≡ quote → ⊥) → doubled_byte quote byte ≡ byte ∷ []
doubled_byte-other quote byte other = elim (eqb_tells byte quote) [ inl h ↦ absurd (other h.1) | inr h ↦ ap (λ (t : Bool). cond t (quote ∷ quote ∷ []) (byte ∷ [])) h.0 ]

pub doubled_byte-quote : (quote byte : ℕ) → byte ≡ quote → doubled_byte quote byte ≡ quote ∷ quote ∷ []
doubled_byte-quote quote byte same = elim (eqb_tells byte quote) [ inl h ↦ ap (λ (t : Bool). cond t (quote ∷ quote ∷ []) (byte ∷ [])) h.0 | inr h ↦ absurd (h.1 same) ]

-- what is still to be written where a run began at start and i is next: the run so far as it is, and the rest with its quotes twice
abbrev pub pending : ℕ → List ℕ → ℕ → ℕ → List ℕ
pending quote text start i = take (i - start) (drop start text) ++ flat_map (doubled_byte quote) (drop i text)

-- a byte that is no quote joins what is still to be written
pub pending-other : (quote : ℕ) (text : List ℕ) (start i : ℕ) → start ≤ i → i < length text → (get_or text i 0 ≡ quote → ⊥) → pending quote text start i ≡ pending quote text start (i + 1)
pending-other quote text start i le lt other =
    let run : List ℕ = take (i - start) (drop start text) in
    let rest : List ℕ = flat_map (doubled_byte quote) (drop (i + 1) text) in
    let byte : ℕ = get_or text i 0 in
    ap (λ t. run ++ t) (flat_map-drop_at (doubled_byte quote) text i 0 lt ∙ ap (λ t. t ++ rest) (doubled_byte-other quote byte other))
    ∙ sym (append_assoc run (byte ∷ []) rest) ∙ ap (λ t. t ++ rest) (sym (between_more text start i 0 le lt))

-- a quote ends a run, and begins the next as its second
pub pending-quote : (quote : ℕ) (text : List ℕ) (start i : ℕ) → start ≤ i → i < length text → get_or text i 0 ≡ quote → pending quote text start i ≡ take (i + 1 - start) (drop start text) ++ pending quote text i (i + 1)
pending-quote quote text start i le lt same =
    let run : List ℕ = take (i - start) (drop start text) in
    let rest : List ℕ = flat_map (doubled_byte quote) (drop (i + 1) text) in
    let byte : ℕ = get_or text i 0 in
    let one : i + 1 - i ≡ 1 = omega arith in
    let next : take (i + 1 - i) (drop i text) ≡ quote ∷ [] = ap (λ n. take n (drop i text)) one ∙ ap (take 1) (drop-cons text i 0 lt) ∙ ap (λ b. b ∷ []) same in
    let ended : take (i + 1 - start) (drop start text) ≡ run ++ quote ∷ [] = between_more text start i 0 le lt ∙ ap (λ b. run ++ b ∷ []) same in
    ap (λ t. run ++ t) (flat_map-drop_at (doubled_byte quote) text i 0 lt ∙ ap (λ t. t ++ rest) (doubled_byte-quote quote byte same))
    ∙ sym (append_assoc run (quote ∷ []) (quote ∷ rest)) ∙ ap (λ t. t ++ (quote ∷ rest)) (sym ended)
    ∙ ap (λ t. take (i + 1 - start) (drop start text) ++ (t ++ rest)) (sym next)

-- a text with no quote stays as it is
pub doubled-none : (quote : ℕ) (text : List ℕ) → ((k : ℕ) → k < length text → (get_or text k 0 == quote) ≡ true → ⊥) → flat_map (doubled_byte quote) text ≡ text
doubled-none quote [] none = refl
doubled-none quote (byte ∷ bytes) none =
    let first : doubled_byte quote byte ≡ byte ∷ [] = ap (λ (t : Bool). cond t (quote ∷ quote ∷ []) (byte ∷ [])) (false_from_ne_true (byte == quote) (none 0 (omega arith))) in
    ap (λ t. t ++ flat_map (doubled_byte quote) bytes) first ∙ ap (λ t. byte ∷ t) (doubled-none quote bytes (λ k l e. none (suc k) (omega (arith, l)) e))

-- a byte that is no quote, behind those before it
pub doubled-more : (quote : ℕ) (text : List ℕ) (i : ℕ) → i < length text → (get_or text i 0 ≡ quote → ⊥) → flat_map (doubled_byte quote) (take i text) ++ get_or text i 0 ∷ [] ≡ flat_map (doubled_byte quote) (take (i + 1) text)
doubled-more quote text i lt other =
    let f : ℕ → List ℕ = doubled_byte quote in
    sym (ap (flat_map f) (take_more text i 0 lt) ∙ flat_map-append f (take i text) (get_or text i 0 ∷ []) ∙ ap (λ t. flat_map f (take i text) ++ (t ++ [])) (doubled_byte-other quote (get_or text i 0) other))
