-- Proofs of the laws of where the entries of a journal lie.
use Rattle.std.proofs.Common.{◌≡◌, ◌≢◌, ℕ, zero, suc, ◌+◌, ◌-◌, ◌*◌, ◌/◌, ◌%◌, ◌<◌, ◌≤◌, Bool, true, false, cond, List, [], ◌∷◌, ◌++◌, length, get_or, take, drop, replicate, Option, Some, None, slice_get, fold, sym, ap, ◌∙◌, refl, subst, arith, append_assoc, add-zero, zero-add}
use Rattle.std.specs.Prelude.{All, sum_by}
use Rattle.std.proofs.lemmas.List.{append-nil, length-append, length-take, length-replicate, take_all, take-take, take-append-drop, take-append-le}
use Rattle.std.proofs.lemmas.Bool.Decides.{nat_tests}
use Rattle.std.proofs.lemmas.List.Sums.{sum_by-cons}
use Rattle.std.proofs.lemmas.List.Elements.{All-head, All-tail, All-take}
use Rattle.std.proofs.lemmas.Grind.{common_steps}
use Rattle.pgn_base.specs.declared.format.Format.{Format}
use Rattle.pgn_base.specs.declared.format.Format.TheVariants.{One, Two}
use Rattle.pgn_base.specs.declared.note.Note.{Note}
use Rattle.pgn_journal.specs.declared.tx.Tx.{Tx}
use Rattle.pgn_journal.specs.declared.tx.Fate.{Fate}
use Rattle.pgn_journal.specs.declared.tx.Fate.TheVariants.{Committed, Aborted}
use Rattle.pgn_journal.specs.Journal.{entry, IsQueued, IsFinished}
use Rattle.pgn_base.specs.Notes.{IsNote}
use Rattle.pgn_journal.specs.Bytes.{header_bytes, alignment, least_bytes, entry_length, spelled, filler}
use Rattle.pgn_journal.specs.Packing.{cells_in, bytes_in, fits, has_room, next_page, is_page_start, bytes_left, cells_left, filled_cells, page_rest, entry_cells, filler_cells, note_cells, notes_cells, end_cells, tx_cells, image_from, image, place, Sender, sender_of, after_rest, after_bytes, put_bytes, put, put_all, ended, after, HasRoom}
use Rattle.pgn_journal.specs.laws.Packing.{NoteMoves, PlaceRises, PlaceBound, PlaceFolds, PutTakes, PagesHold, NotesInTurn, FirstPlace, NextPlace, LastPlace, PlaceGrows, PlacesAgree, ImagesAgree}
use Rattle.pgn_journal.proofs.BytesLemmas.{length-spelled, length-filler, entry_lengths}

-- one cell for each four bytes
pub length-filled_cells : (bytes : List ℕ) → length (filled_cells bytes) ≡ length bytes / 4
unfolding filled_cells
length-filled_cells [] = refl
length-filled_cells (a ∷ []) = refl
length-filled_cells (a ∷ b ∷ []) = refl
length-filled_cells (a ∷ b ∷ c ∷ []) = refl
length-filled_cells (a ∷ b ∷ c ∷ d ∷ bytes) = omega (arith, length-filled_cells bytes)

-- the place after the page rest
pub length-page_rest : (format : Format) (at : ℕ) → at + length (page_rest format at) ≡ after_rest format at
unfolding page_rest after_rest
length-page_rest format at = elim (has_room format at) as (λ b. at + length (cond b [] (replicate (cells_left at) (let n : Option ℕ = None in n))) ≡ cond b at (next_page at)) [
  | true ↦ omega arith
  | false ↦ simp length-replicate (omega arith)
]

-- the shortest entry holds a head and more, and a page holds it
pub least_within : (format : Format) → (header_bytes format ≤ least_bytes format) × (20 ≤ least_bytes format) × (least_bytes format ≤ 8192)
least_within One = (omega arith, omega arith, omega arith)
least_within Two = (omega arith, omega arith, omega arith)

-- a multiple of the alignment is one of four
pub whole_cells : (format : Format) (len : ℕ) → len % alignment format ≡ 0 → len % 4 ≡ 0
whole_cells One len h = omega (arith, h)
whole_cells Two len h = omega (arith, h)

-- an entry's length is a multiple of the alignment, and takes some cells
pub entry_whole : (format : Format) (note : Note) → (entry_length format note % alignment format ≡ 0) × (4 ≤ entry_length format note)
unfolding entry_length
entry_whole One note = (omega arith, omega arith)
entry_whole Two note = (omega arith, omega arith)

-- an offset that is a multiple of the alignment stays one
whole_after : (format : Format) (at bytes : ℕ) → bytes_in at % alignment format ≡ 0 → bytes % alignment format ≡ 0 → bytes_in (at + cells_in bytes) % alignment format ≡ 0
whole_after One at bytes h k = omega (arith, h, k)
whole_after Two at bytes h k = omega (arith, h, k)

whole_next : (format : Format) (at : ℕ) → bytes_in (next_page at) % alignment format ≡ 0
whole_next One at = omega arith
whole_next Two at = omega arith

whole_left : (format : Format) (at : ℕ) → bytes_in at % alignment format ≡ 0 → bytes_left at % alignment format ≡ 0
whole_left One at h = omega (arith, h)
whole_left Two at h = omega (arith, h)

-- the first place and a page that begins have room
pub room_start : (format : Format) → HasRoom format 0
room_start One = record { whole = refl; least = omega arith }
room_start Two = record { whole = refl; least = omega arith }

-- a page that begins next has room
pub room_next : (format : Format) (at : ℕ) → HasRoom format (next_page at)
room_next format at = record { whole = whole_next format at; least = omega (arith, least_within format) }

-- what is past the page rest has room
room_past : (format : Format) (at : ℕ) (b : Bool) → has_room format at ≡ b → bytes_in at % alignment format ≡ 0 → HasRoom format (cond b at (next_page at))
room_past format at true e h = record { whole = h; least = grind (arith, nat_tests) }
room_past format at false e h = room_next format at

-- what is past the page rest after a place where entries may begin has room
pub room_after_rest : (format : Format) (at : ℕ) → bytes_in at % alignment format ≡ 0 → HasRoom format (after_rest format at)
unfolding after_rest
room_after_rest format at whole = room_past format at (has_room format at) refl whole

-- behind an aligned entry there is room
pub room_after_bytes : (format : Format) (at bytes : ℕ) → HasRoom format at → bytes % alignment format ≡ 0 → HasRoom format (after_bytes format at bytes)
unfolding after_bytes
room_after_bytes format at bytes room whole = room_after_rest format (at + cells_in bytes) (whole_after format at bytes room.whole whole)

-- the cells of an entry are packed
pub packed_bytes : (format : Format) (note : Note) (db xid pid at : ℕ)
    → at + length (entry_cells format at (spelled format note db xid pid)) ≡ after_bytes format at (entry_length format note)
unfolding entry_cells after_bytes
packed_bytes format note db xid pid at =
    let bytes = spelled format note db xid pid in
    let cells : length (filled_cells bytes) ≡ entry_length format note / 4 = length-filled_cells bytes ∙ ap (λ n. n / 4) (length-spelled format note db xid pid) in
    let rest : (at + length (filled_cells bytes)) + length (page_rest format (at + length (filled_cells bytes))) ≡ after_rest format (at + length (filled_cells bytes)) = length-page_rest format (at + length (filled_cells bytes)) in
    let sum : at + length (filled_cells bytes ++ page_rest format (at + length (filled_cells bytes))) ≡ after_rest format (at + length (filled_cells bytes)) = simp length-append (omega (arith, rest)) in
    sum ∙ ap (λ n. after_rest format (at + n)) cells

-- a filler takes the rest of the page
pub length-filler_cells : (format : Format) (s : Sender) (at : ℕ) → HasRoom format at → at + length (filler_cells format s at) ≡ next_page at
unfolding filler_cells
length-filler_cells format s at room =
    let cells : length (filled_cells (filler format (bytes_left at) s.xid s.pid)) ≡ bytes_left at / 4 = length-filled_cells (filler format (bytes_left at) s.xid s.pid) ∙ ap (λ n. n / 4) (length-filler format (bytes_left at) s.xid s.pid (omega (arith, least_within format, room.least))) in
    omega (arith, cells)

-- the place after a notification is that after its cells
pub packed_note : (format : Format) (s : Sender) (at : ℕ) (note : Note) → HasRoom format at → at + length (note_cells format s at note) ≡ put format at note
unfolding note_cells put put_bytes
packed_note format s at note room =
    let bytes = spelled format note s.db s.xid s.pid in
    elim (fits at (entry_length format note)) as (λ b. at + length (cond b (entry_cells format at bytes) (filler_cells format s at ++ entry_cells format (next_page at) bytes)) ≡ cond b (after_bytes format at (entry_length format note)) (after_bytes format (next_page at) (entry_length format note))) [
      | true ↦ packed_bytes format note s.db s.xid s.pid at
      | false ↦ simp length-append (omega (arith, length-filler_cells format s at room, packed_bytes format note s.db s.xid s.pid (next_page at)))
    ]

-- behind a notification there is room
pub room_put : (format : Format) (at : ℕ) (note : Note) → HasRoom format at → HasRoom format (put format at note)
unfolding put put_bytes
room_put format at note room = elim (fits at (entry_length format note)) as (λ b. HasRoom format (cond b (after_bytes format at (entry_length format note)) (after_bytes format (next_page at) (entry_length format note)))) [
  | true ↦ room_after_bytes format at (entry_length format note) room (entry_whole format note).0
  | false ↦ room_after_bytes format (next_page at) (entry_length format note) (room_next format at) (entry_whole format note).0
]

-- behind notifications there is room
pub room_put_all : (format : Format) (at : ℕ) (notes : List Note) → HasRoom format at → HasRoom format (put_all format at notes)
room_put_all format at [] room = room
room_put_all format at (note ∷ notes) room = room_put_all format (put format at note) notes (room_put format at note room)

-- the place after notifications is that after their cells
pub packed_notes : (format : Format) (s : Sender) (at : ℕ) (notes : List Note) → HasRoom format at → at + length (notes_cells format s at notes) ≡ put_all format at notes
unfolding notes_cells
packed_notes format s at [] room = omega arith
packed_notes format s at (note ∷ notes) room =
    let here = packed_note format s at note room in
    let rest : (at + length (note_cells format s at note)) + length (notes_cells format s (at + length (note_cells format s at note)) notes) ≡ put_all format (at + length (note_cells format s at note)) notes
    = packed_notes format s (at + length (note_cells format s at note)) notes (let P : ℕ → Type 0 = λ n. HasRoom format n in subst P (sym here) (room_put format at note room)) in
    let sum : at + length (note_cells format s at note ++ notes_cells format s (at + length (note_cells format s at note)) notes) ≡ put_all format (at + length (note_cells format s at note)) notes = simp length-append (omega (arith, rest)) in
    sum ∙ ap (λ n. put_all format n notes) here

-- so is the end of a transaction
pub packed_end : (format : Format) (s : Sender) (fate : Fate) (at : ℕ) → HasRoom format at → at + length (end_cells format s fate at) ≡ ended fate at
unfolding end_cells ended
packed_end format s Committed at room = omega arith
packed_end format s Aborted at room = elim (is_page_start at) as (λ b. at + length (cond b [] (filler_cells format s at)) ≡ cond b at (next_page at)) [
  | true ↦ omega arith
  | false ↦ length-filler_cells format s at room
]

room_ended : (format : Format) (fate : Fate) (at : ℕ) → HasRoom format at → HasRoom format (ended fate at)
unfolding ended
room_ended format Committed at room = room
room_ended format Aborted at room = elim (is_page_start at) as (λ b. HasRoom format (cond b at (next_page at))) [ true ↦ room | false ↦ room_next format at ]

-- the place after a transaction is that after its cells
pub packed_tx : (format : Format) (x : ℕ) (at : ℕ) (tx : Tx) → HasRoom format at → at + length (tx_cells format x at tx) ≡ after format at tx
unfolding tx_cells after
packed_tx format x at tx room =
    let s = sender_of x tx in
    let queued = notes_cells format s at (take tx.queued tx.notes) in
    let notes : at + length queued ≡ put_all format at (take tx.queued tx.notes) = packed_notes format s at (take tx.queued tx.notes) room in
    let there : HasRoom format (at + length queued) = let P : ℕ → Type 0 = λ n. HasRoom format n in subst P (sym notes) (room_put_all format at (take tx.queued tx.notes) room) in
    let end : (at + length queued) + length (end_cells format s tx.fate (at + length queued)) ≡ ended tx.fate (at + length queued) = packed_end format s tx.fate (at + length queued) there in
    let sum : at + length (queued ++ end_cells format s tx.fate (at + length queued)) ≡ ended tx.fate (at + length queued) = simp length-append (omega (arith, end)) in
    sum ∙ ap (ended tx.fate) notes

-- behind a transaction there is room
pub room_after : (format : Format) (at : ℕ) (tx : Tx) → HasRoom format at → HasRoom format (after format at tx)
unfolding after
room_after format at tx room = room_ended format tx.fate (put_all format at (take tx.queued tx.notes)) (room_put_all format at (take tx.queued tx.notes) room)

-- the cells of transactions one list after the other
pub image_from-append : (format : Format) (x at : ℕ) (xs ys : List Tx)
    → image_from format x at (xs ++ ys) ≡ image_from format x at xs ++ image_from format (x + length xs) (at + length (image_from format x at xs)) ys
unfolding image_from
image_from-append format x at [] ys = ap (λ n. image_from format n at ys) (sym (add-zero x)) ∙ ap (λ n. image_from format (x + 0) n ys) (sym (add-zero at))
image_from-append format x at (tx ∷ xs) ys =
    let cells = tx_cells format x at tx in
    let rest = image_from format (x + 1) (at + length cells) xs in
    let count : (x + 1) + length xs ≡ x + length (tx ∷ xs) = omega arith in
    let end : (at + length cells) + length rest ≡ at + length (cells ++ rest) = simp length-append (omega arith) in
    let more = image_from-append format (x + 1) (at + length cells) xs ys
    ∙ ap (λ n. rest ++ image_from format n ((at + length cells) + length rest) ys) count
    ∙ ap (λ n. rest ++ image_from format (x + length (tx ∷ xs)) n ys) end in
    ap (λ ds. cells ++ ds) more ∙ sym (append_assoc cells rest (image_from format (x + length (tx ∷ xs)) (at + length (cells ++ rest)) ys))

-- the cells of a longer journal begin with those of its front
pub images_agree : ImagesAgree
unfolding image
images_agree format journal more = image_from-append format 3 0 journal more ∙ ap (λ n. image format journal ++ image_from format (3 + length journal) n more) (zero-add (length (image format journal)))

room_image : (format : Format) (x at : ℕ) (txs : List Tx) → HasRoom format at → HasRoom format (at + length (image_from format x at txs))
unfolding image_from
room_image format x at [] room = let P : ℕ → Type 0 = λ n. HasRoom format n in subst P (sym (add-zero at)) room
room_image format x at (tx ∷ txs) room =
    let cells = tx_cells format x at tx in
    let P : ℕ → Type 0 = λ n. HasRoom format n in
    let next : HasRoom format (at + length cells) = subst P (sym (packed_tx format x at tx room)) (room_after format at tx room) in
    let sum : (at + length cells) + length (image_from format (x + 1) (at + length cells) txs) ≡ at + length (cells ++ image_from format (x + 1) (at + length cells) txs) = simp length-append (omega arith) in
    subst P sum (room_image format (x + 1) (at + length cells) txs next)

-- behind all cells of a journal there is room
pub room_of_image : (format : Format) (journal : List Tx) → HasRoom format (length (image format journal))
unfolding image
room_of_image format journal = let P : ℕ → Type 0 = λ n. HasRoom format n in subst P (zero-add (length (image format journal))) (room_image format 3 0 journal (room_start format))

-- where a transaction begins there is room
pub room_place : (format : Format) (journal : List Tx) (x : ℕ) → HasRoom format (place format journal x)
unfolding place
room_place format journal x = room_of_image format (take (x - 3) journal)

-- no cell stands before the first transaction
pub first_place : FirstPlace
unfolding place image image_from
first_place format journal = refl

-- numbers past the journal's end have the place of its end
pub last_place : LastPlace
unfolding place
last_place format journal x h = ap (λ (txs : List Tx). length (image format txs)) (take_all (x - 3) journal (omega arith))

-- a transaction has the same place in each longer journal
pub places_agree : PlacesAgree
unfolding place
places_agree format journal more x h = ap (λ (txs : List Tx). length (image format txs)) (take-append-le (x - 3) journal more (omega arith))

-- the image of a front is no longer
prefix_fits : (format : Format) (xs ys : List Tx) → length (image format xs) ≤ length (image format (xs ++ ys))
prefix_fits format xs ys = omega (arith, ap length (images_agree format xs ys) ∙ length-append (image format xs) (image_from format (3 + length xs) (length (image format xs)) ys))

-- the places of transactions rise with their numbers
pub place_grows : PlaceGrows
unfolding place
place_grows format journal x y h =
    let fits : x - 3 ≤ y - 3 = omega arith in
    let front : take (x - 3) journal ++ drop (x - 3) (take (y - 3) journal) ≡ take (y - 3) journal
    = ap (λ (txs : List Tx). txs ++ drop (x - 3) (take (y - 3) journal)) (sym (take-take (x - 3) (y - 3) journal fits)) ∙ take-append-drop (x - 3) (take (y - 3) journal) in
    let P : List Tx → Type 0 = λ txs. length (image format (take (x - 3) journal)) ≤ length (image format txs) in
    subst P front (prefix_fits format (take (x - 3) journal) (drop (x - 3) (take (y - 3) journal)))

-- an element that is there: the front up to it, and how long that is
taken : (xs : List Tx) (k : ℕ) (tx : Tx) → slice_get xs k ≡ Some tx → (take (suc k) xs ≡ take k xs ++ tx ∷ []) × (length (take k xs) ≡ k)
taken [] k tx h = cc
taken (y ∷ xs) zero tx h = (cc, refl)
taken (y ∷ xs) (suc k) tx h = let rest = taken xs k tx h in (ap (λ (ts : List Tx). y ∷ ts) rest.0, ap suc rest.1)

-- the image up to the end of a transaction
pub image_next : (format : Format) (journal : List Tx) (x : ℕ) (tx : Tx) → 3 ≤ x → entry journal x ≡ Some tx
    → image format (take ((x + 1) - 3) journal) ≡ image format (take (x - 3) journal) ++ tx_cells format x (place format journal x) tx
unfolding place image_from
image_next format journal x tx h e =
    let front = take (x - 3) journal in
    let more = taken journal (x - 3) tx e in
    let next : (x + 1) - 3 ≡ suc (x - 3) = omega arith in
    let count : 3 + length front ≡ x = omega (arith, more.1) in
    ap (λ n. image format (take n journal)) next ∙ ap (image format) more.0 ∙ images_agree format front (tx ∷ [])
    ∙ ap (λ n. image format front ++ (tx_cells format n (length (image format front)) tx ++ [])) count
    ∙ ap (λ cells. image format front ++ cells) (append-nil (tx_cells format x (length (image format front)) tx))

-- from the place of a transaction the arithmetic leads to that of the next
pub next_place : NextPlace
unfolding place
next_place format journal x tx h e =
    let at = place format journal x in
    ap length (image_next format journal x tx h e) ∙ length-append (image format (take (x - 3) journal)) (tx_cells format x at tx) ∙ packed_tx format x at tx (room_place format journal x)

-- the place after transactions, by the arithmetic for each in turn
pub folds : (format : Format) (x at : ℕ) (txs : List Tx) → HasRoom format at → at + length (image_from format x at txs) ≡ fold (after format) at txs
unfolding image_from
folds format x at [] room = add-zero at
folds format x at (tx ∷ txs) room =
    let cells = tx_cells format x at tx in
    let here = packed_tx format x at tx room in
    let P : ℕ → Type 0 = λ n. HasRoom format n in
    let next : HasRoom format (at + length cells) = subst P (sym here) (room_after format at tx room) in
    let sum : at + length (cells ++ image_from format (x + 1) (at + length cells) txs) ≡ (at + length cells) + length (image_from format (x + 1) (at + length cells) txs) = simp length-append (omega arith) in
    sum ∙ folds format (x + 1) (at + length cells) txs next ∙ ap (λ n. fold (after format) n txs) here

-- the place of a transaction, by the arithmetic for each before it
pub place_folds : PlaceFolds
unfolding place image
place_folds format journal x = sym (zero-add (length (image format (take (x - 3) journal)))) ∙ folds format 3 0 (take (x - 3) journal) (room_start format)

pub after_bytes_bounds : (format : Format) (at bytes : ℕ) → 20 ≤ bytes → bytes ≤ bytes_left at → (at < after_bytes format at bytes) × (after_bytes format at bytes ≤ next_page at)
unfolding after_bytes after_rest
after_bytes_bounds format at bytes some fits = let least = least_within format in grind (arith, common_steps)

put_bytes_takes : (format : Format) (at len : ℕ) (b : Bool) → fits at len ≡ b → 20 ≤ len → len ≤ 8192
    → (at < cond b (after_bytes format at len) (after_bytes format (next_page at) len)) × (cond b (after_bytes format at len) (after_bytes format (next_page at) len) ≤ at + 4096)
put_bytes_takes format at len true e some short =
    let here : len ≤ bytes_left at = grind (arith, nat_tests) in
    let bounds = after_bytes_bounds format at len some here in
    (bounds.0, omega (arith, bounds.1))
put_bytes_takes format at len false e some short =
    let there : len ≤ bytes_left (next_page at) = omega arith in
    let bounds = after_bytes_bounds format (next_page at) len some there in
    (omega (arith, bounds.0), omega (arith, bounds.1))

-- a notification moves the place on, by at most two pages
pub put_takes : PutTakes
unfolding put put_bytes
put_takes format at note h =
    let len = entry_lengths format note h in
    put_bytes_takes format at (entry_length format note) (fits at (entry_length format note)) refl (omega (arith, least_within format, len.least)) len.fits

-- a page has room for each entry, and its rest for a filler
pub pages_hold : PagesHold
pages_hold = record {
  rest = λ format at room. record { whole = whole_left format at room.whole; least = room.least; fits = omega arith };
  next = λ format at note h. omega (arith, (entry_lengths format note h).fits);
}

-- the cells of two lists of notifications, one behind the other
pub notes_in_turn : NotesInTurn
unfolding notes_cells
notes_in_turn format sender at [] more = ap (λ n. notes_cells format sender n more) (sym (add-zero at))
notes_in_turn format sender at (note ∷ notes) more =
    let cells = note_cells format sender at note in
    let rest = notes_cells format sender (at + length cells) notes in
    let end : (at + length cells) + length rest ≡ at + length (cells ++ rest) = simp length-append (omega arith) in
    ap (λ ds. cells ++ ds) (notes_in_turn format sender (at + length cells) notes more ∙ ap (λ n. rest ++ notes_cells format sender n more) end)
    ∙ sym (append_assoc cells rest (notes_cells format sender (at + length (cells ++ rest)) more))

-- what fits on a page that begins
pub fits_next : (format : Format) (at : ℕ) (note : Note) → IsNote note → fits (next_page at) (entry_length format note) ≡ true
fits_next format at note h = let small : entry_length format note ≤ bytes_left (next_page at) = pages_hold.next format at note h in grind (arith, nat_tests)

-- where the rest of a page is too short, a filler takes it, and the notification begins the next page
pub note_moves : NoteMoves
unfolding note_cells put put_bytes
note_moves format sender at note h past =
    let here = fits_next format at note h in
    record { cells = rw (past, here); ends = rw (past, here) }

-- a notification ends behind where it begins
pub put_rises : (format : Format) (at : ℕ) (note : Note) → at < put format at note
unfolding put put_bytes after_bytes after_rest
put_rises format at note = let some = (entry_whole format note).1 in grind (arith, common_steps)

-- notifications end no earlier than they begin
pub put_all_rises : (format : Format) (at : ℕ) (notes : List Note) → at ≤ put_all format at notes
put_all_rises format at [] = omega arith
put_all_rises format at (note ∷ notes) = omega (arith, put_rises format at note, put_all_rises format (put format at note) notes)

ended_rises : (fate : Fate) (at : ℕ) → at ≤ ended fate at
unfolding ended
ended_rises Committed at = omega arith
ended_rises Aborted at = elim (is_page_start at) as (λ b. at ≤ cond b at (next_page at)) [ true ↦ omega arith | false ↦ omega arith ]

some_rises : (format : Format) (at queued : ℕ) (notes : List Note) → 0 < queued → notes ≢ [] → at < put_all format at (take queued notes)
some_rises format at zero notes some any = omega arith
some_rises format at (suc queued) [] some any = absurd (any refl)
some_rises format at (suc queued) (note ∷ notes) some any = omega (arith, put_rises format at note, put_all_rises format (put format at note) (take queued notes))

after_rises : (format : Format) (at : ℕ) (tx : Tx) → 0 < tx.queued → tx.notes ≢ [] → at < after format at tx
unfolding after
after_rises format at tx some any = omega (arith, some_rises format at tx.queued tx.notes some any, ended_rises tx.fate (put_all format at (take tx.queued tx.notes)))

-- behind a transaction that has queued something the next one begins later
pub place_rises : PlaceRises
place_rises format journal x tx h e some any = omega (arith, next_place format journal x tx h e, after_rises format (place format journal x) tx some any)

put_all_bound : (format : Format) (at : ℕ) (notes : List Note) → All IsNote notes → put_all format at notes ≤ at + 4096 * length notes
put_all_bound format at [] h = omega arith
put_all_bound format at (note ∷ notes) h =
    let first = put_takes format at note (All-head IsNote note notes h) in
    omega (arith, first.1, put_all_bound format (put format at note) notes (All-tail IsNote note notes h))

ended_bound : (fate : Fate) (at : ℕ) → ended fate at ≤ at + 2048
unfolding ended
ended_bound Committed at = omega arith
ended_bound Aborted at = elim (is_page_start at) as (λ b. cond b at (next_page at) ≤ at + 2048) [ true ↦ omega arith | false ↦ omega arith ]

ended_within : (fate : Fate) (at queued count : ℕ) → IsQueued fate queued count → ended fate at ≤ at + 4096 * (count - queued)
unfolding ended
ended_within Committed at queued count h = omega arith
ended_within Aborted at queued count h = let end : cond (is_page_start at) at (next_page at) ≤ at + 2048 = ended_bound Aborted at in omega (arith, end, h)

after_bound : (format : Format) (at : ℕ) (tx : Tx) → IsFinished tx → after format at tx ≤ at + 4096 * length tx.notes
unfolding after
after_bound format at tx h =
    let notes = put_all_bound format at (take tx.queued tx.notes) (All-take IsNote tx.queued tx.notes h.valid) in
    let end = ended_within tx.fate (put_all format at (take tx.queued tx.notes)) tx.queued (length tx.notes) h.queueing in
    omega (arith, notes, end, length-take tx.queued tx.notes)

fold_bound : (format : Format) (at : ℕ) (txs : List Tx) → All IsFinished txs → fold (after format) at txs ≤ at + 4096 * sum_by (λ tx. length tx.notes) txs
fold_bound format at [] h = omega arith
fold_bound format at (tx ∷ txs) h =
    let count : Tx → ℕ = λ t. length t.notes in
    omega (arith, sum_by-cons count tx txs, after_bound format at tx (All-head IsFinished tx txs h), fold_bound format (after format at tx) txs (All-tail IsFinished tx txs h))

-- no place is past two pages for each notification
pub place_bound : PlaceBound
place_bound format journal x h =
    let last : place format journal x ≤ place format journal (x + (3 + length journal)) = place_grows format journal x (x + (3 + length journal)) (omega arith) in
    let all : place format journal (x + (3 + length journal)) ≡ fold (after format) 0 journal
    = place_folds format journal (x + (3 + length journal)) ∙ ap (fold (after format) 0) (take_all ((x + (3 + length journal)) - 3) journal (omega arith)) in
    omega (arith, last, all, fold_bound format 0 journal h)

-- four bytes, and whatever is read past them, are below 256
pub four_below : (a b c d : ℕ) → a < 256 → b < 256 → c < 256 → d < 256 → (i : ℕ) → get_or (a ∷ b ∷ c ∷ d ∷ []) i 0 < 256
four_below a b c d p q r s zero = p
four_below a b c d p q r s (suc zero) = q
four_below a b c d p q r s (suc (suc zero)) = r
four_below a b c d p q r s (suc (suc (suc zero))) = s
four_below a b c d p q r s (suc (suc (suc (suc i)))) = omega arith
