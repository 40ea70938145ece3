-- The cells of entries and fillers.
use Rattle.std.proofs.Common.{◌≡◌, ℕ, zero, suc, ◌+◌, ◌-◌, ◌*◌, ◌^◌, ◌<◌, ◌≤◌, List, [], ◌∷◌, ◌++◌, length, drop, replicate, get_or, sym, ap, ◌∙◌, refl, subst, arith}
use Rattle.std.specs.Int.{w32, from_le_bytes}
use Rattle.std.proofs.lemmas.List.{append_assoc, get_or-drop, get_or-append-add}
use Rattle.std.proofs.lemmas.Nat.{from_le_bytes-to_le_bytes_4}
use Rattle.pgn_base.specs.declared.format.Format.{Format}
use Rattle.pgn_base.specs.declared.format.Format.TheVariants.{One, Two}
use Rattle.pgn_base.specs.declared.note.Note.{Note}
use Rattle.pgn_journal.specs.Bytes.{header_bytes, header, entry_length, spelled, filler}
use Rattle.pgn_journal.proofs.BytesLemmas.{length-header}
use Rattle.pgn_entry.specs.Cells.{pid_place}
use Rattle.pgn_entry.proofs.BodyLaws.{left_at}

-- the number in a cell of bytes
abbrev pub cell_at : ℕ → List ℕ → ℕ
cell_at k bytes = from_le_bytes w32 (drop (4 * k) bytes)

-- bytes that agree in four places hold the same number there
same_four : (xs ys : List ℕ) (n m : ℕ) → ((i : ℕ) → i < 4 → get_or xs (n + i) 0 ≡ get_or ys (m + i) 0) → from_le_bytes w32 (drop n xs) ≡ from_le_bytes w32 (drop m ys)
same_four xs ys n m same =
    let each : (i : ℕ) → i < 4 → get_or (drop n xs) i 0 ≡ get_or (drop m ys) i 0 = λ i h. get_or-drop n xs i 0 ∙ same i h ∙ sym (get_or-drop m ys i 0) in
    let a = each 0 (omega arith) in let b = each 1 (omega arith) in let c = each 2 (omega arith) in let d = each 3 (omega arith) in omega (arith, a, b, c, d)

-- past their end zero bytes change nothing
zeros : (count i : ℕ) → get_or (replicate {A = ℕ} count 0) i 0 ≡ 0
zeros zero i = refl
zeros (suc count) zero = refl
zeros (suc count) (suc i) = zeros count i

padded_get : (bytes : List ℕ) (count i : ℕ) → get_or (bytes ++ replicate {A = ℕ} count 0) i 0 ≡ get_or bytes i 0
padded_get [] count i = zeros count i
padded_get (byte ∷ bytes) count zero = refl
padded_get (byte ∷ bytes) count (suc i) = padded_get bytes count i

-- a number at a cell's place
cell_of : (n k place : ℕ) (bytes : List ℕ) → k ≡ place → n ≡ cell_at place bytes → n ≡ cell_at k bytes
cell_of n k place bytes e is = subst (λ (at : ℕ). n ≡ cell_at at bytes) (sym e) is

-- the cells of a head
pub head_cell_0 : (format : Format) (len db xid pid k : ℕ) → k ≡ 0 → len < 2 ^ 32 → len ≡ cell_at k (header format len db xid pid)
unfolding header
head_cell_0 One len db xid pid k e small = cell_of len k 0 (header One len db xid pid) e (sym (from_le_bytes-to_le_bytes_4 len small))
head_cell_0 Two len db xid pid k e small = cell_of len k 0 (header Two len db xid pid) e (sym (from_le_bytes-to_le_bytes_4 len small))

-- cell 1 of a head is the database
pub head_cell_1 : (format : Format) (len db xid pid k : ℕ) → k ≡ 1 → db < 2 ^ 32 → db ≡ cell_at k (header format len db xid pid)
unfolding header
head_cell_1 One len db xid pid k e small = cell_of db k 1 (header One len db xid pid) e (sym (from_le_bytes-to_le_bytes_4 db small))
head_cell_1 Two len db xid pid k e small = cell_of db k 1 (header Two len db xid pid) e (sym (from_le_bytes-to_le_bytes_4 db small))

-- cell 2 is the transaction's number
pub head_cell_2 : (format : Format) (len db xid pid k : ℕ) → k ≡ 2 → xid < 2 ^ 32 → xid ≡ cell_at k (header format len db xid pid)
unfolding header
head_cell_2 One len db xid pid k e small = cell_of xid k 2 (header One len db xid pid) e (sym (from_le_bytes-to_le_bytes_4 xid small))
head_cell_2 Two len db xid pid k e small = cell_of xid k 2 (header Two len db xid pid) e (sym (from_le_bytes-to_le_bytes_4 xid small))

-- the cell for the process number has it, in both formats
pub head_cell_pid : (format : Format) (len db xid pid k : ℕ) → k ≡ pid_place format → pid < 2 ^ 32 → pid ≡ cell_at k (header format len db xid pid)
unfolding header
head_cell_pid One len db xid pid k e small = cell_of pid k 3 (header One len db xid pid) e (sym (from_le_bytes-to_le_bytes_4 pid small))
head_cell_pid Two len db xid pid k e small = cell_of pid k 4 (header Two len db xid pid) e (sym (from_le_bytes-to_le_bytes_4 pid small))

-- heads of the same numbers have the same cells
pub same_head : (format : Format) (len len' db db' xid xid' pid pid' k : ℕ) → len ≡ len' → db ≡ db' → xid ≡ xid' → pid ≡ pid'
    → cell_at k (header format len db xid pid) ≡ cell_at k (header format len' db' xid' pid')
same_head format len len' db db' xid xid' pid pid' k a b c d =
    ap (λ (n : ℕ). cell_at k (header format n db xid pid)) a
    ∙ ap (λ (n : ℕ). cell_at k (header format len' n xid pid)) b
    ∙ ap (λ (n : ℕ). cell_at k (header format len' db' n pid)) c
    ∙ ap (λ (n : ℕ). cell_at k (header format len' db' xid' n)) d

-- where a transaction's number fits in four bytes, the four above them are zero
upper_zero : (len db xid pid : ℕ) → xid < 2 ^ 32 → 0 ≡ cell_at 3 (header Two len db xid pid)
unfolding header
upper_zero len db xid pid small = omega (arith, small)

-- every other cell of a head is zero
pub head_cell_else : (format : Format) (len db xid pid k : ℕ) → 4 * k < header_bytes format → (k ≡ 0 → ⊥) → (k ≡ 1 → ⊥) → (k ≡ 2 → ⊥) → (k ≡ pid_place format → ⊥) → xid < 2 ^ 32
    → 0 ≡ cell_at k (header format len db xid pid)
unfolding header
head_cell_else One len db xid pid k within a b c d small = absurd (omega (arith, within, a, b, c, d))
head_cell_else Two len db xid pid zero within a b c d small = absurd (a refl)
head_cell_else Two len db xid pid (suc zero) within a b c d small = absurd (b refl)
head_cell_else Two len db xid pid (suc (suc zero)) within a b c d small = absurd (c refl)
head_cell_else Two len db xid pid (suc (suc (suc zero))) within a b c d small = upper_zero len db xid pid small
head_cell_else Two len db xid pid (suc (suc (suc (suc zero)))) within a b c d small = absurd (d refl)
head_cell_else Two len db xid pid (suc (suc (suc (suc (suc zero))))) within a b c d small = refl
head_cell_else Two len db xid pid (suc (suc (suc (suc (suc (suc k)))))) within a b c d small = absurd (omega (arith, within))

-- a cell of a head is one of what begins with it
head_room : (format : Format) (k i : ℕ) → 4 * k < header_bytes format → i < 4 → 4 * k + i < header_bytes format
head_room One k i within h = omega (arith, within, h)
head_room Two k i within h = omega (arith, within, h)

front_cell : (format : Format) (len db xid pid k : ℕ) (rest : List ℕ) → 4 * k < header_bytes format → cell_at k (header format len db xid pid) ≡ cell_at k (header format len db xid pid ++ rest)
front_cell format len db xid pid k rest within =
    let head : List ℕ = header format len db xid pid in
    same_four head (head ++ rest) (4 * k) (4 * k) (λ i h. sym (left_at head rest (4 * k + i) (omega (arith, length-header format len db xid pid, head_room format k i within h))))

-- the first cells of a spelled entry are those of its head
pub entry_cell_head : (format : Format) (note : Note) (db xid pid k : ℕ) → 4 * k < header_bytes format → cell_at k (header format (entry_length format note) db xid pid) ≡ cell_at k (spelled format note db xid pid)
unfolding spelled
entry_cell_head format note db xid pid k within =
    let len = entry_length format note in
    let head : List ℕ = header format len db xid pid in
    let channel : List ℕ = note.channel ++ 0 ∷ [] in
    let payload : List ℕ = note.payload ++ 0 ∷ [] in
    let rest : List ℕ = replicate (len - length (head ++ channel ++ payload)) 0 in
    front_cell format len db xid pid k (channel ++ (payload ++ rest)) within
    ∙ ap (λ (l : List ℕ). cell_at k l) (sym (append_assoc head channel (payload ++ rest)) ∙ sym (append_assoc (head ++ channel) payload rest))

-- the bytes behind the head of an entry
spelled_get : (format : Format) (note : Note) (db xid pid i : ℕ) → get_or (spelled format note db xid pid) (header_bytes format + i) 0 ≡ get_or ((note.channel ++ 0 ∷ []) ++ note.payload) i 0
unfolding spelled
spelled_get format note db xid pid i =
    let head : List ℕ = header format (entry_length format note) db xid pid in
    let front : List ℕ = note.channel ++ 0 ∷ [] in
    let last : List ℕ = note.payload ++ 0 ∷ [] in
    let texts : List ℕ = front ++ last in
    let count : ℕ = entry_length format note - length (head ++ front ++ last) in
    let at : ℕ = header_bytes format + i in
    let one : get_or ((head ++ front ++ last) ++ replicate count 0) at 0 ≡ get_or (head ++ front ++ last) at 0 = padded_get (head ++ front ++ last) count at in
    let two : get_or (head ++ texts) at 0 ≡ get_or texts i 0 =
    subst (λ (n : ℕ). get_or (head ++ texts) (n + i) 0 ≡ get_or texts i 0) (length-header format (entry_length format note) db xid pid) (get_or-append-add head texts i 0) in
    one ∙ ap (λ (l : List ℕ). get_or l at 0) (append_assoc head front last) ∙ two ∙ ap (λ (l : List ℕ). get_or l i 0) (sym (append_assoc front note.payload (0 ∷ []))) ∙ padded_get (front ++ note.payload) 1 i

-- behind its head a cell of a spelled entry is made of the channel, a zero and the payload
pub entry_cell_text : (format : Format) (note : Note) (db xid pid k at : ℕ) → 4 * k ≡ header_bytes format + at
    → from_le_bytes w32 (drop at ((note.channel ++ 0 ∷ []) ++ note.payload)) ≡ cell_at k (spelled format note db xid pid)
entry_cell_text format note db xid pid k at e =
    let texts : List ℕ = (note.channel ++ 0 ∷ []) ++ note.payload in
    let entry : List ℕ = spelled format note db xid pid in
    same_four texts entry at (4 * k) (λ i h.
    let there : header_bytes format + (at + i) ≡ 4 * k + i = omega (arith, e) in
    sym (spelled_get format note db xid pid (at + i)) ∙ ap (λ (n : ℕ). get_or entry n 0) there)

-- the same of a filler
pub filler_cell_head : (format : Format) (len xid pid k : ℕ) → 4 * k < header_bytes format → cell_at k (header format len 0 xid pid) ≡ cell_at k (filler format len xid pid)
unfolding filler
filler_cell_head format len xid pid k within = front_cell format len 0 xid pid k (replicate (len - length (header format len 0 xid pid)) 0) within

-- behind its head each cell of a filler is zero
pub filler_cell_rest : (format : Format) (len xid pid k : ℕ) → header_bytes format ≤ 4 * k → 0 ≡ cell_at k (filler format len xid pid)
unfolding filler
filler_cell_rest format len xid pid k past =
    let head : List ℕ = header format len 0 xid pid in
    let size = length-header format len 0 xid pid in
    let count : ℕ = len - length head in
    let at : ℕ = 4 * k - header_bytes format in
    let none : List ℕ = [] in
    same_four none (filler format len xid pid) 0 (4 * k) (λ i h.
    let there : length head + (at + i) ≡ 4 * k + i = omega (arith, past, size) in
    sym (get_or-append-add head (replicate count 0) (at + i) 0 ∙ zeros count (at + i)) ∙ ap (λ (n : ℕ). get_or (filler format len xid pid) n 0) there)
