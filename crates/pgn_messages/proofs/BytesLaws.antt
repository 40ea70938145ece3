-- Bytes that are put one behind another.
use Rattle.std.proofs.Common.{◌≡◌, ℕ, suc, ◌+◌, ◌<◌, drop, get_or, drop-cons, add-one, List, [], ◌∷◌, ◌++◌, length, sym, ap, ◌∙◌, refl, arith, append_assoc, append-nil}
use Rattle.std.specs.Prelude.{flat_map}
use Rattle.std.proofs.lemmas.List.{length-append}
use Rattle.pgn_messages.specs.Server.{column, ended, four, message, row, two}

-- two pieces are one
pub put-two : (old mid new first second : List ℕ) → mid ≡ old ++ first → new ≡ mid ++ second → new ≡ old ++ (first ++ second)
put-two old mid new first second e f = f ∙ ap (λ (t : List ℕ). t ++ second) e ∙ append_assoc old first second

-- nothing is put
pub put-none : (old : List ℕ) → old ≡ old ++ []
put-none old = sym (append-nil old)

-- a head and a body of the size that it says are a message
pub put-message : (old mid new : List ℕ) (letter size : ℕ) (body : List ℕ) → size ≡ length body → mid ≡ old ++ letter ∷ four (4 + size) → new ≡ mid ++ body → new ≡ old ++ message letter body
put-message old mid new letter size body len e f =
    f ∙ ap (λ (t : List ℕ). t ++ body) e ∙ append_assoc old (letter ∷ four (4 + size)) body ∙ ap (λ (n : ℕ). old ++ letter ∷ (four (4 + n) ++ body)) len

-- the sizes of the bodies of a row and of a description
pub row_size : (text : List ℕ) → length text + 6 ≡ length (two 1 ++ four (length text) ++ text)
row_size text =
    let front : length (two 1 ++ four (length text)) ≡ 6 = refl in
    let all : length (two 1 ++ four (length text) ++ text) ≡ length (two 1 ++ four (length text)) + length text = length-append (two 1 ++ four (length text)) text in
    omega arith

-- the size of the body of a description
pub columns_size : (name : List ℕ) → length name + 21 ≡ length (two 1 ++ ended name ++ column)
columns_size name =
    let here : length (ended name) ≡ length name + 1 = length-append name (0 ∷ []) in
    let front : length (two 1 ++ ended name) ≡ length (two 1) + length (ended name) = length-append (two 1) (ended name) in
    let all : length (two 1 ++ ended name ++ column) ≡ length (two 1 ++ ended name) + length column = length-append (two 1 ++ ended name) column in
    let two_bytes : length (two 1) ≡ 2 = refl in
    let last : length column ≡ 18 = refl in
    omega arith

-- and of one with a type
pub described_size : (name : List ℕ) (kind size : ℕ) → length name + 21 ≡ length (two 1 ++ ended name ++ (four 0 ++ two 0 ++ four kind ++ two size ++ four 4294967295 ++ two 0))
described_size name kind size =
    let about : List ℕ = four 0 ++ two 0 ++ four kind ++ two size ++ four 4294967295 ++ two 0 in
    let here : length (ended name) ≡ length name + 1 = length-append name (0 ∷ []) in
    let front : length (two 1 ++ ended name) ≡ length (two 1) + length (ended name) = length-append (two 1) (ended name) in
    let all : length (two 1 ++ ended name ++ about) ≡ length (two 1 ++ ended name) + length about = length-append (two 1 ++ ended name) about in
    let two_bytes : length (two 1) ≡ 2 = refl in
    let last : length about ≡ 18 = refl in
    omega arith

-- the row of the next name is put
pub rows_step : (old new all : List ℕ) (names : List (List ℕ)) (i : ℕ) (name : List ℕ) → i < length names → name ≡ get_or names i name → old ++ flat_map row (drop i names) ≡ all
    → new ≡ old ++ row name → new ++ flat_map row (drop (i + 1) names) ≡ all
rows_step old new all names i name within here so_far put =
    let next : drop i names ≡ name ∷ drop (i + 1) names
    = drop-cons names i name within ∙ ap (λ (x : List ℕ). x ∷ drop (suc i) names) (sym here) ∙ ap (λ (j : ℕ). name ∷ drop j names) (sym (add-one i)) in
    ap (λ (t : List ℕ). t ++ flat_map row (drop (i + 1) names)) put
    ∙ append_assoc old (row name) (flat_map row (drop (i + 1) names))
    ∙ ap (λ (xs : List (List ℕ)). old ++ flat_map row xs) (sym next) ∙ so_far

-- what puts pieces together to what a clause says of them
pub ruleset joins = (put-two, put-none, put-message)
