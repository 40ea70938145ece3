-- The words of a kind of which there are many, read and written among all words.
use Rattle.std.proofs.Common.{◌≡◌, ℕ, suc, ◌+◌, ◌-◌, ◌∷◌, List, ◌++◌, length, get_or, set, refl, ap, ◌∙◌, arith, ◌<◌}
use Rattle.std.proofs.lemmas.List.{set-append_left, get_or_append_left, set-append_right, get_or-append-add}
use Rattle.pgn_hub.specs.Shape.{Shape}
use Rattle.pgn_words.specs.Words.{Content, row, pos_at, wakes_at, interests_at, flags_at, cells_at, statuses_at}
use Rattle.pgn_words.specs.Rule.{Laid}

set_right : (xs ys : List ℕ) (k x : ℕ) → set (xs ++ ys) (length xs + k) x ≡ xs ++ set ys k x
set_right xs ys k x = let there : length xs + k - length xs ≡ k = omega arith in
    set-append_right xs ys (length xs) (length xs + k) x refl (omega arith) ∙ ap (λ n. xs ++ set ys n x) there

-- a list in five parts and a last one, with a write in the last one
set_last : (a b i c d e : List ℕ) (k x : ℕ) → set (a ++ (b ++ (i ++ (c ++ (d ++ e))))) (length a + (length b + (length i + (length c + (length d + k))))) x ≡ a ++ (b ++ (i ++ (c ++ (d ++ set e k x))))
set_last a b i c d e k x =
    set_right a (b ++ (i ++ (c ++ (d ++ e)))) (length b + (length i + (length c + (length d + k)))) x
    ∙ ap (λ l. a ++ l) (set_right b (i ++ (c ++ (d ++ e))) (length i + (length c + (length d + k))) x
    ∙ ap (λ l. b ++ l) (set_right i (c ++ (d ++ e)) (length c + (length d + k)) x
    ∙ ap (λ l. i ++ l) (set_right c (d ++ e) (length d + k) x
    ∙ ap (λ l. c ++ l) (set_right d e k x))))

get_last : (a b i c d e : List ℕ) (k : ℕ) → get_or (a ++ (b ++ (i ++ (c ++ (d ++ e))))) (length a + (length b + (length i + (length c + (length d + k))))) 0 ≡ get_or e k 0
get_last a b i c d e k =
    get_or-append-add a (b ++ (i ++ (c ++ (d ++ e)))) (length b + (length i + (length c + (length d + k)))) 0
    ∙ get_or-append-add b (i ++ (c ++ (d ++ e))) (length i + (length c + (length d + k))) 0
    ∙ get_or-append-add i (c ++ (d ++ e)) (length c + (length d + k)) 0
    ∙ get_or-append-add c (d ++ e) (length d + k) 0
    ∙ get_or-append-add d e k 0

-- the index of a cell among the words after the first six
abbrev cell_index : Content → ℕ → ℕ
cell_index c k = length c.pos + (length c.wakes + (length c.interests + (length c.flags + (length c.statuses + k))))

index_is : (z : Shape) (c : Content) (k : ℕ) → Laid z c.pos c.wakes c.interests c.flags c.statuses c.cells → cells_at z + k ≡ suc (suc (suc (suc (suc (suc (cell_index c k))))))
index_is z c k laid = omega (arith, laid.pos_long, laid.wakes_long, laid.interests_long, laid.flags_long, laid.statuses_long)

-- to store the word of a cell is to change the cell
pub set_cell : (z : Shape) (c : Content) (k x : ℕ) → Laid z c.pos c.wakes c.interests c.flags c.statuses c.cells → set (row c) (cells_at z + k) x ≡ row (record c { cells = set c.cells k x })
set_cell z c k x laid =
    ap (λ n. set (row c) n x) (index_is z c k laid)
    ∙ ap (λ l. c.lock ∷ c.head ∷ c.fin ∷ c.tail ∷ c.stop ∷ c.xid ∷ l) (set_last c.pos c.wakes c.interests c.flags c.statuses c.cells k x)

-- the word of a cell has the cell
pub get_cell : (z : Shape) (c : Content) (k : ℕ) → Laid z c.pos c.wakes c.interests c.flags c.statuses c.cells → get_or (row c) (cells_at z + k) 0 ≡ get_or c.cells k 0
get_cell z c k laid = ap (λ n. get_or (row c) n 0) (index_is z c k laid) ∙ get_last c.pos c.wakes c.interests c.flags c.statuses c.cells k

set_within : (xs ys : List ℕ) (k x : ℕ) → k < length xs → set (xs ++ ys) k x ≡ set xs k x ++ ys
set_within xs ys k x within = set-append_left xs ys k x within

status_index : (z : Shape) (c : Content) (k : ℕ) → Laid z c.pos c.wakes c.interests c.flags c.statuses c.cells → statuses_at z + k ≡ suc (suc (suc (suc (suc (suc (length c.pos + (length c.wakes + (length c.interests + (length c.flags + k)))))))))
status_index z c k laid = omega (arith, laid.pos_long, laid.wakes_long, laid.interests_long, laid.flags_long)

-- to store a word of statuses is to change these
pub set_status_word : (z : Shape) (c : Content) (k x : ℕ) → Laid z c.pos c.wakes c.interests c.flags c.statuses c.cells → k < length c.statuses → set (row c) (statuses_at z + k) x ≡ row (record c { statuses = set c.statuses k x })
set_status_word z c k x laid within =
    ap (λ n. set (row c) n x) (status_index z c k laid)
    ∙ ap (λ l. c.lock ∷ c.head ∷ c.fin ∷ c.tail ∷ c.stop ∷ c.xid ∷ l)
    (set_right c.pos (c.wakes ++ (c.interests ++ (c.flags ++ (c.statuses ++ c.cells)))) (length c.wakes + (length c.interests + (length c.flags + k))) x
    ∙ ap (λ l. c.pos ++ l) (set_right c.wakes (c.interests ++ (c.flags ++ (c.statuses ++ c.cells))) (length c.interests + (length c.flags + k)) x
    ∙ ap (λ l. c.wakes ++ l) (set_right c.interests (c.flags ++ (c.statuses ++ c.cells)) (length c.flags + k) x
    ∙ ap (λ l. c.interests ++ l) (set_right c.flags (c.statuses ++ c.cells) k x
    ∙ ap (λ l. c.flags ++ l) (set_within c.statuses c.cells k x within)))))

-- a word of statuses has these
pub get_status_word : (z : Shape) (c : Content) (k : ℕ) → Laid z c.pos c.wakes c.interests c.flags c.statuses c.cells → k < length c.statuses → get_or (row c) (statuses_at z + k) 0 ≡ get_or c.statuses k 0
get_status_word z c k laid within =
    ap (λ n. get_or (row c) n 0) (status_index z c k laid)
    ∙ get_or-append-add c.pos (c.wakes ++ (c.interests ++ (c.flags ++ (c.statuses ++ c.cells)))) (length c.wakes + (length c.interests + (length c.flags + k))) 0
    ∙ get_or-append-add c.wakes (c.interests ++ (c.flags ++ (c.statuses ++ c.cells))) (length c.interests + (length c.flags + k)) 0
    ∙ get_or-append-add c.interests (c.flags ++ (c.statuses ++ c.cells)) (length c.flags + k) 0
    ∙ get_or-append-add c.flags (c.statuses ++ c.cells) k 0
    ∙ get_or_append_left c.statuses c.cells 0 k within

-- to store the word of a position is to change the position
pub set_pos : (z : Shape) (c : Content) (k x : ℕ) → k < length c.pos → set (row c) (pos_at + k) x ≡ row (record c { pos = set c.pos k x })
set_pos z c k x within =
    let index : pos_at + k ≡ suc (suc (suc (suc (suc (suc k))))) = omega arith in
    ap (λ n. set (row c) n x) index
    ∙ ap (λ l. c.lock ∷ c.head ∷ c.fin ∷ c.tail ∷ c.stop ∷ c.xid ∷ l) (set_within c.pos (c.wakes ++ (c.interests ++ (c.flags ++ (c.statuses ++ c.cells)))) k x within)

-- the word of a position has it
pub get_pos : (z : Shape) (c : Content) (k : ℕ) → k < length c.pos → get_or (row c) (pos_at + k) 0 ≡ get_or c.pos k 0
get_pos z c k within =
    let index : pos_at + k ≡ suc (suc (suc (suc (suc (suc k))))) = omega arith in
    ap (λ n. get_or (row c) n 0) index ∙ get_or_append_left c.pos (c.wakes ++ (c.interests ++ (c.flags ++ (c.statuses ++ c.cells)))) 0 k within

wake_index : (z : Shape) (c : Content) (k : ℕ) → Laid z c.pos c.wakes c.interests c.flags c.statuses c.cells → wakes_at z + k ≡ suc (suc (suc (suc (suc (suc (length c.pos + k))))))
wake_index z c k laid = omega (arith, laid.pos_long)

-- to store the word of a wake is to change the wake
pub set_wake_word : (z : Shape) (c : Content) (k x : ℕ) → Laid z c.pos c.wakes c.interests c.flags c.statuses c.cells → k < length c.wakes → set (row c) (wakes_at z + k) x ≡ row (record c { wakes = set c.wakes k x })
set_wake_word z c k x laid within =
    ap (λ n. set (row c) n x) (wake_index z c k laid)
    ∙ ap (λ l. c.lock ∷ c.head ∷ c.fin ∷ c.tail ∷ c.stop ∷ c.xid ∷ l)
    (set_right c.pos (c.wakes ++ (c.interests ++ (c.flags ++ (c.statuses ++ c.cells)))) k x
    ∙ ap (λ l. c.pos ++ l) (set_within c.wakes (c.interests ++ (c.flags ++ (c.statuses ++ c.cells))) k x within))

-- the word of a wake has it
pub get_wake_word : (z : Shape) (c : Content) (k : ℕ) → Laid z c.pos c.wakes c.interests c.flags c.statuses c.cells → k < length c.wakes → get_or (row c) (wakes_at z + k) 0 ≡ get_or c.wakes k 0
get_wake_word z c k laid within =
    ap (λ n. get_or (row c) n 0) (wake_index z c k laid)
    ∙ get_or-append-add c.pos (c.wakes ++ (c.interests ++ (c.flags ++ (c.statuses ++ c.cells)))) k 0
    ∙ get_or_append_left c.wakes (c.interests ++ (c.flags ++ (c.statuses ++ c.cells))) 0 k within

interest_index : (z : Shape) (c : Content) (k : ℕ) → Laid z c.pos c.wakes c.interests c.flags c.statuses c.cells → interests_at z + k ≡ suc (suc (suc (suc (suc (suc (length c.pos + (length c.wakes + k)))))))
interest_index z c k laid = omega (arith, laid.pos_long, laid.wakes_long)

-- to store the word of an interest is to change the interest
pub set_interest_word : (z : Shape) (c : Content) (k x : ℕ) → Laid z c.pos c.wakes c.interests c.flags c.statuses c.cells → k < length c.interests → set (row c) (interests_at z + k) x ≡ row (record c { interests = set c.interests k x })
set_interest_word z c k x laid within =
    ap (λ n. set (row c) n x) (interest_index z c k laid)
    ∙ ap (λ l. c.lock ∷ c.head ∷ c.fin ∷ c.tail ∷ c.stop ∷ c.xid ∷ l)
    (set_right c.pos (c.wakes ++ (c.interests ++ (c.flags ++ (c.statuses ++ c.cells)))) (length c.wakes + k) x
    ∙ ap (λ l. c.pos ++ l) (set_right c.wakes (c.interests ++ (c.flags ++ (c.statuses ++ c.cells))) k x
    ∙ ap (λ l. c.wakes ++ l) (set_within c.interests (c.flags ++ (c.statuses ++ c.cells)) k x within)))

-- the word of an interest has it
pub get_interest_word : (z : Shape) (c : Content) (k : ℕ) → Laid z c.pos c.wakes c.interests c.flags c.statuses c.cells → k < length c.interests → get_or (row c) (interests_at z + k) 0 ≡ get_or c.interests k 0
get_interest_word z c k laid within =
    ap (λ n. get_or (row c) n 0) (interest_index z c k laid)
    ∙ get_or-append-add c.pos (c.wakes ++ (c.interests ++ (c.flags ++ (c.statuses ++ c.cells)))) (length c.wakes + k) 0
    ∙ get_or-append-add c.wakes (c.interests ++ (c.flags ++ (c.statuses ++ c.cells))) k 0
    ∙ get_or_append_left c.interests (c.flags ++ (c.statuses ++ c.cells)) 0 k within

flag_index : (z : Shape) (c : Content) (k : ℕ) → Laid z c.pos c.wakes c.interests c.flags c.statuses c.cells → flags_at z + k ≡ suc (suc (suc (suc (suc (suc (length c.pos + (length c.wakes + (length c.interests + k))))))))
flag_index z c k laid = omega (arith, laid.pos_long, laid.wakes_long, laid.interests_long)

-- to store the word of a flag is to change the flag
pub set_flag_word : (z : Shape) (c : Content) (k x : ℕ) → Laid z c.pos c.wakes c.interests c.flags c.statuses c.cells → k < length c.flags → set (row c) (flags_at z + k) x ≡ row (record c { flags = set c.flags k x })
set_flag_word z c k x laid within =
    ap (λ n. set (row c) n x) (flag_index z c k laid)
    ∙ ap (λ l. c.lock ∷ c.head ∷ c.fin ∷ c.tail ∷ c.stop ∷ c.xid ∷ l)
    (set_right c.pos (c.wakes ++ (c.interests ++ (c.flags ++ (c.statuses ++ c.cells)))) (length c.wakes + (length c.interests + k)) x
    ∙ ap (λ l. c.pos ++ l) (set_right c.wakes (c.interests ++ (c.flags ++ (c.statuses ++ c.cells))) (length c.interests + k) x
    ∙ ap (λ l. c.wakes ++ l) (set_right c.interests (c.flags ++ (c.statuses ++ c.cells)) k x
    ∙ ap (λ l. c.interests ++ l) (set_within c.flags (c.statuses ++ c.cells) k x within))))

-- the word of a flag has it
pub get_flag_word : (z : Shape) (c : Content) (k : ℕ) → Laid z c.pos c.wakes c.interests c.flags c.statuses c.cells → k < length c.flags → get_or (row c) (flags_at z + k) 0 ≡ get_or c.flags k 0
get_flag_word z c k laid within =
    ap (λ n. get_or (row c) n 0) (flag_index z c k laid)
    ∙ get_or-append-add c.pos (c.wakes ++ (c.interests ++ (c.flags ++ (c.statuses ++ c.cells)))) (length c.wakes + (length c.interests + k)) 0
    ∙ get_or-append-add c.wakes (c.interests ++ (c.flags ++ (c.statuses ++ c.cells))) (length c.interests + k) 0
    ∙ get_or-append-add c.interests (c.flags ++ (c.statuses ++ c.cells)) k 0
    ∙ get_or_append_left c.flags (c.statuses ++ c.cells) 0 k within
