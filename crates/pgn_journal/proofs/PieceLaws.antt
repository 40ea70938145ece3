-- Proofs of the laws of the pieces of a journal.
use Rattle.std.proofs.Common.{◌≡◌, ℕ, zero, suc, ◌+◌, ◌-◌, ◌*◌, ◌/◌, ◌<◌, ◌≤◌, ◌^◌, Bool, true, false, cond, ◌&&◌, ◌==◌, List, [], ◌∷◌, ◌++◌, length, take, drop, replicate, map, Option, Some, None, slice_get, fold, sym, ap, ◌∙◌, refl, subst, arith, append_assoc, add-zero, zero-add, inl, inr}
use Rattle.std.specs.Prelude.{All, filter}
use Rattle.std.specs.List.{flat_map}
use Rattle.std.specs.Int.{w32, from_le_bytes}
use Rattle.std.proofs.lemmas.Bool.{cases_lt}
use Rattle.std.proofs.lemmas.Bool.Decides.{nat_tests}
use Rattle.std.proofs.lemmas.Grind.{flat_map-append, fold-append}
use Rattle.std.proofs.lemmas.List.{append-nil, length-append, length-take, length-replicate, take_all, take-append-drop, drop_at, drop_all, drop-append-le, take-take, length-drop}
use Rattle.std.proofs.lemmas.List.Elements.{All-nil, All-cons, All-head, All-tail, All-append, All-weaker, All-take, All-drop}
use Rattle.std.proofs.lemmas.Nat.{from_le_bytes-to_le_bytes_4}
use Rattle.pgn_base.specs.declared.format.Format.{Format}
use Rattle.pgn_base.specs.declared.format.Format.TheVariants.{One, Two}
use Rattle.pgn_base.specs.declared.note.Note.{Note}
use Rattle.pgn_base.specs.declared.note.Delivery.{Delivery}
use Rattle.pgn_journal.specs.declared.tx.Tx.{Tx}
use Rattle.pgn_journal.specs.declared.tx.Fate.{Fate}
use Rattle.pgn_journal.specs.declared.tx.Fate.TheVariants.{Committed, Aborted}
use Rattle.pgn_journal.specs.Journal.{is_committed, entries_between, IsQueued}
use Rattle.pgn_journal.specs.Due.{listens, delivery, delivered_by}
use Rattle.pgn_base.specs.Notes.{IsNote}
use Rattle.pgn_journal.specs.Bytes.{header_bytes, least_bytes, xid_bits, four_bytes, header, entry_length, spelled, filler, IsHead, IsEntryLength}
use Rattle.pgn_journal.specs.Packing.{Sender, sender_of, cells_left, bytes_left, next_page, fits, has_room, is_page_start, filled_cells, page_rest, entry_cells, filler_cells, note_cells, notes_cells, end_cells, tx_cells, image_from, image, place, put, put_all, after, after_bytes, after_rest, HasRoom}
use Rattle.pgn_journal.specs.Pieces.{Piece, AnEntry, AFiller, piece_bytes, piece_length, db_of, number_of, lay, note_pieces, notes_pieces, end_pieces, tx_pieces, pieces_from, delivery_of, gives, give_all, has_committed, committed_by, TellsFates, QueuesAll, IsNumbered, IsReadable, IsWritten}
use Rattle.pgn_journal.specs.laws.Pieces.{PiecesInTurn, ImageIsLaid, PiecesSplit, ImageDrops, JournalIsCut, PiecesGiveDue, PiecesGiveAllDue, FinishedQueueAll, PiecesAreNumbered, PiecesAreReadable, PieceAdvances, PieceHasBytes, FirstCells, ThirdCell, CellsHoldNumbers}
use Rattle.pgn_journal.proofs.BeginsLaws.{begins-holds, begins-taken}
use Rattle.pgn_journal.specs.Begins.{Begins}
use Rattle.pgn_journal.proofs.BytesLemmas.{length-header, length-spelled, length-filler, entry_lengths, are_bytes}
use Rattle.pgn_journal.proofs.PackingLemmas.{length-filled_cells, length-page_rest, least_within, whole_cells, room_next, room_put, room_put_all, room_after, room_after_bytes, length-filler_cells, packed_note, packed_notes, packed_tx, folds, place_folds, room_place, images_agree, pages_hold}

-- the cells of two lists of pieces, one behind the other
pub pieces_in_turn : PiecesInTurn
unfolding lay
pieces_in_turn format at [] more = ap (λ n. lay format n more) (sym (add-zero at))
pieces_in_turn format at (piece ∷ pieces) more =
    let cells = entry_cells format at (piece_bytes format piece) in
    let rest = lay format (at + length cells) pieces in
    let end : (at + length cells) + length rest ≡ at + length (cells ++ rest) = simp length-append (omega arith) in
    ap (λ ds. cells ++ ds) (pieces_in_turn format (at + length cells) pieces more ∙ ap (λ n. rest ++ lay format n more) end)
    ∙ sym (append_assoc cells rest (lay format (at + length (cells ++ rest)) more))

-- no page rest where entries may begin
no_rest : (format : Format) (at : ℕ) → HasRoom format at → page_rest format at ≡ []
unfolding page_rest
no_rest format at room =
    let roomy : has_room format at ≡ true = grind (arith, nat_tests) in
    ap (λ b. cond b [] (replicate (cells_left at) (let n : Option ℕ = None in n))) roomy

-- a filler that takes the rest of the page is laid as its cells alone
laid_filler : (format : Format) (sender : Sender) (at : ℕ) → HasRoom format at
    → entry_cells format at (filler format (bytes_left at) sender.xid sender.pid) ≡ filler_cells format sender at
unfolding entry_cells filler_cells
laid_filler format sender at room =
    let cells = filled_cells (filler format (bytes_left at) sender.xid sender.pid) in
    let end : at + length cells ≡ next_page at = length-filler_cells format sender at room in
    ap (λ n. cells ++ page_rest format n) end ∙ ap (λ rest. cells ++ rest) (no_rest format (next_page at) (room_next format at)) ∙ append-nil cells

-- two lists of pieces, of which each lies as its cells
laid_both : (format : Format) (at next : ℕ) (pieces more : List Piece) (cells rest : List (Option ℕ)) → lay format at pieces ≡ cells
    → at + length cells ≡ next → lay format next more ≡ rest
    → lay format at (pieces ++ more) ≡ cells ++ rest
laid_both format at next pieces more cells rest here end there =
    pieces_in_turn format at pieces more ∙ ap (λ (ds : List (Option ℕ)). ds ++ lay format (at + length ds) more) here
    ∙ ap (λ n. cells ++ lay format n more) end ∙ ap (λ ds. cells ++ ds) there

laid_one : (format : Format) (at : ℕ) (piece : Piece) → lay format at (piece ∷ []) ≡ entry_cells format at (piece_bytes format piece)
unfolding lay
laid_one format at piece = append-nil (entry_cells format at (piece_bytes format piece))

laid_note : (format : Format) (sender : Sender) (at : ℕ) (note : Note) → HasRoom format at
    → lay format at (note_pieces format sender at note) ≡ note_cells format sender at note
unfolding note_pieces note_cells
laid_note format sender at note room =
    let entry = spelled format note sender.db sender.xid sender.pid in
    elim (fits at (entry_length format note)) as (λ b. lay format at (cond b (AnEntry note sender ∷ []) (AFiller (bytes_left at) sender ∷ AnEntry note sender ∷ []))
    ≡ cond b (entry_cells format at entry) (filler_cells format sender at ++ entry_cells format (next_page at) entry)) [
      | true ↦ laid_one format at (AnEntry note sender)
      | false ↦ laid_both format at (next_page at) (AFiller (bytes_left at) sender ∷ []) (AnEntry note sender ∷ []) (filler_cells format sender at) (entry_cells format (next_page at) entry)
          (laid_one format at (AFiller (bytes_left at) sender) ∙ laid_filler format sender at room) (length-filler_cells format sender at room) (laid_one format (next_page at) (AnEntry note sender))
    ]

laid_notes : (format : Format) (sender : Sender) (at : ℕ) (notes : List Note) → HasRoom format at
    → lay format at (notes_pieces format sender at notes) ≡ notes_cells format sender at notes
unfolding lay notes_pieces notes_cells
laid_notes format sender at [] room = refl
laid_notes format sender at (note ∷ notes) room =
    let end = packed_note format sender at note room in
    laid_both format at (put format at note) (note_pieces format sender at note) (notes_pieces format sender (put format at note) notes) (note_cells format sender at note) (notes_cells format sender (at + length (note_cells format sender at note)) notes)
    (laid_note format sender at note room) end
    (laid_notes format sender (put format at note) notes (room_put format at note room) ∙ ap (λ n. notes_cells format sender n notes) (sym end))

laid_end : (format : Format) (sender : Sender) (fate : Fate) (at : ℕ) → HasRoom format at
    → lay format at (end_pieces sender fate at) ≡ end_cells format sender fate at
unfolding lay end_pieces end_cells
laid_end format sender Committed at room = refl
laid_end format sender Aborted at room = elim (is_page_start at) as (λ b. lay format at (cond b [] (AFiller (bytes_left at) sender ∷ [])) ≡ cond b [] (filler_cells format sender at)) [
  | true ↦ refl
  | false ↦ laid_one format at (AFiller (bytes_left at) sender) ∙ laid_filler format sender at room
]

laid_tx : (format : Format) (x at : ℕ) (tx : Tx) → HasRoom format at → lay format at (tx_pieces format x at tx) ≡ tx_cells format x at tx
unfolding tx_pieces tx_cells
laid_tx format x at tx room =
    let sender = sender_of x tx in
    let queued = take tx.queued tx.notes in
    let there = put_all format at queued in
    let cells = notes_cells format sender at queued in
    let end : at + length cells ≡ there = packed_notes format sender at queued room in
    laid_both format at there (notes_pieces format sender at queued) (end_pieces sender tx.fate there) cells (end_cells format sender tx.fate (at + length cells))
    (laid_notes format sender at queued room) end
    (laid_end format sender tx.fate there (room_put_all format at queued room) ∙ ap (end_cells format sender tx.fate) (sym end))

-- transactions have the cells of their pieces
pub image_is_laid : ImageIsLaid
unfolding lay pieces_from image_from
image_is_laid format x at [] room = refl
image_is_laid format x at (tx ∷ txs) room =
    let end = packed_tx format x at tx room in
    sym (laid_both format at (after format at tx) (tx_pieces format x at tx) (pieces_from format (x + 1) (after format at tx) txs) (tx_cells format x at tx) (image_from format (x + 1) (at + length (tx_cells format x at tx)) txs)
    (laid_tx format x at tx room) end
    (sym (image_is_laid format (x + 1) (after format at tx) txs (room_after format at tx room)) ∙ ap (λ n. image_from format (x + 1) n txs) (sym end)))

-- the pieces of two lists of transactions, one behind the other
pub pieces_split : PiecesSplit
unfolding pieces_from
pieces_split format x at [] more = ap (λ n. pieces_from format n at more) (sym (add-zero x))
pieces_split format x at (tx ∷ txs) more =
    let count : (x + 1) + length txs ≡ x + length (tx ∷ txs) = omega arith in
    let next = after format at tx in
    let rest = pieces_from format (x + 1) next txs in
    ap (λ ps. tx_pieces format x at tx ++ ps) (pieces_split format (x + 1) next txs more ∙ ap (λ n. rest ++ pieces_from format n (fold (after format) next txs) more) count)
    ∙ sym (append_assoc (tx_pieces format x at tx) rest (pieces_from format (x + length (tx ∷ txs)) (fold (after format) next txs) more))

-- no transaction, whatever the number
none_left : (format : Format) (x y at : ℕ) (txs : List Tx) → txs ≡ [] → image_from format x at txs ≡ image_from format y at txs
unfolding image_from
none_left format x y at txs e = ap (image_from format x at) e ∙ sym (ap (image_from format y at) e)

-- without the cells before a transaction's place the image is that of the transactions from it on
pub image_drops : ImageDrops
unfolding place
image_drops format journal m low =
    let front = take (m - 3) journal in
    let rest = drop (m - 3) journal in
    let at = length (image format front) in
    let whole : image format journal ≡ image format front ++ image_from format (3 + length front) at rest
    = ap (image format) (sym (take-append-drop (m - 3) journal)) ∙ images_agree format front rest in
    let same : image_from format (3 + length front) at rest ≡ image_from format m at rest = elim (cases_lt (length journal) (m - 3)) as (λ _. image_from format (3 + length front) at rest ≡ image_from format m at rest) [
      | inl past ↦ none_left format (3 + length front) m at rest (drop_all (m - 3) journal (omega (arith, past)))
      | inr within ↦ ap (λ n. image_from format n at rest) (omega (arith, within, length-take (m - 3) journal))
    ] in
    ap (drop at) whole ∙ drop_at (image format front) (image_from format (3 + length front) at rest) at refl ∙ same

-- what is left of a list: a part of it, and what is left after that
cut : (xs : List Tx) (a b : ℕ) → a ≤ b → b ≤ length xs → drop a xs ≡ drop a (take b xs) ++ drop b xs
cut xs a b le within = ap (drop a) (sym (take-append-drop b xs)) ∙ drop-append-le a (take b xs) (drop b xs) (simp length-take (omega arith))

-- the place where the transactions between two numbers end
part_ends : (format : Format) (journal : List Tx) (m n : ℕ) → m ≤ n
    → fold (after format) (place format journal m) (entries_between journal m n) ≡ place format journal n
part_ends format journal m n le =
    let front = take (m - 3) journal in
    let part = entries_between journal m n in
    let both : front ++ part ≡ take (n - 3) journal
    = ap (λ (txs : List Tx). txs ++ part) (sym (take-take (m - 3) (n - 3) journal (omega arith))) ∙ take-append-drop (m - 3) (take (n - 3) journal) in
    ap (λ at. fold (after format) at part) (place_folds format journal m) ∙ sym (fold-append (after format) 0 front part) ∙ ap (fold (after format) 0) both ∙ sym (place_folds format journal n)

given_note : (format : Format) (db : ℕ) (channels : List (List ℕ)) (committed : ℕ → Bool) (sender : Sender) (at : ℕ) (note : Note)
    → give_all db channels committed (note_pieces format sender at note) ≡ gives db channels committed (AnEntry note sender)
unfolding note_pieces
given_note format db channels committed sender at note =
    elim (fits at (entry_length format note)) as (λ b. give_all db channels committed (cond b (AnEntry note sender ∷ []) (AFiller (bytes_left at) sender ∷ AnEntry note sender ∷ [])) ≡ gives db channels committed (AnEntry note sender)) [
      | true ↦ append-nil (gives db channels committed (AnEntry note sender))
      | false ↦ append-nil (gives db channels committed (AnEntry note sender))
    ]

-- one more that is given where both tests say so
given_more : {A : Type 0} (a b : Bool) (x : A) (xs : List A) → cond a (cond b (x ∷ []) []) [] ++ cond a xs [] ≡ cond a (cond b (x ∷ xs) xs) []
given_more true true x xs = refl
given_more true false x xs = refl
given_more false b x xs = refl

-- the notifications that are listened for, of one more
map_filtered : {A B : Type 0} (f : A → B) (b : Bool) (x : A) (xs : List A) → cond b (f x ∷ map f xs) (map f xs) ≡ map f (cond b (x ∷ xs) xs)
map_filtered f true x xs = refl
map_filtered f false x xs = refl

given_notes : (format : Format) (db : ℕ) (channels : List (List ℕ)) (committed : ℕ → Bool) (sender : Sender) (at : ℕ) (notes : List Note)
    → give_all db channels committed (notes_pieces format sender at notes) ≡ cond (committed sender.xid && sender.db == db) (map (delivery_of sender) (filter (listens channels) notes)) []
unfolding notes_pieces
given_notes format db channels committed sender at [] = elim (committed sender.xid && sender.db == db) as (λ b. (let none : List Delivery = [] in none) ≡ cond b [] []) [ true ↦ refl | false ↦ refl ]
given_notes format db channels committed sender at (note ∷ notes) =
    let g = gives db channels committed in
    let test = committed sender.xid && sender.db == db in
    let rest : List Delivery = map (delivery_of sender) (filter (listens channels) notes) in
    flat_map-append g (note_pieces format sender at note) (notes_pieces format sender (put format at note) notes)
    ∙ ap (λ (ds : List Delivery). ds ++ give_all db channels committed (notes_pieces format sender (put format at note) notes)) (given_note format db channels committed sender at note)
    ∙ ap (λ (ds : List Delivery). g (AnEntry note sender) ++ ds) (given_notes format db channels committed sender (put format at note) notes)
    ∙ given_more test (listens channels note) (delivery_of sender note) rest
    ∙ ap (λ (ds : List Delivery). cond test ds []) (map_filtered (delivery_of sender) (listens channels note) note (filter (listens channels) notes))

given_end : (db : ℕ) (channels : List (List ℕ)) (committed : ℕ → Bool) (sender : Sender) (fate : Fate) (at : ℕ)
    → give_all db channels committed (end_pieces sender fate at) ≡ []
unfolding end_pieces
given_end db channels committed sender Committed at = refl
given_end db channels committed sender Aborted at = elim (is_page_start at) as (λ b. give_all db channels committed (cond b [] (AFiller (bytes_left at) sender ∷ [])) ≡ []) [ true ↦ refl | false ↦ refl ]

-- where it is told whether a transaction committed, its queued notifications are as good as all
given_by_fate : (fate : Fate) (told here : Bool) (queued : ℕ) (notes : List Note) (F : List Note → List Delivery) → told ≡ is_committed fate
    → (fate ≡ Committed → queued ≡ length notes)
    → cond (told && here) (F (take queued notes)) [] ≡ cond (is_committed fate && here) (F notes) []
given_by_fate Committed told here queued notes F e all =
    let whole : take queued notes ≡ notes = take_all queued notes (omega (arith, all refl)) in
    ap (λ b. cond (b && here) (F (take queued notes)) []) e ∙ ap (λ ns. cond (true && here) (F ns) []) whole
given_by_fate Aborted told here queued notes F e all = ap (λ b. cond (b && here) (F (take queued notes)) []) e

given_tx : (format : Format) (x at : ℕ) (tx : Tx) (db : ℕ) (channels : List (List ℕ)) (committed : ℕ → Bool) → QueuesAll tx
    → committed x ≡ is_committed tx.fate
    → give_all db channels committed (tx_pieces format x at tx) ≡ delivered_by db channels x tx
unfolding tx_pieces
given_tx format x at tx db channels committed queues told =
    let sender = sender_of x tx in
    let queued = take tx.queued tx.notes in
    let g = gives db channels committed in
    let front = notes_pieces format sender at queued in
    let end = end_pieces sender tx.fate (put_all format at queued) in
    let F : List Note → List Delivery = λ notes. map (delivery x tx.session) (filter (listens channels) notes) in
    flat_map-append g front end ∙ ap (λ (ds : List Delivery). flat_map g front ++ ds) (given_end db channels committed sender tx.fate (put_all format at queued))
    ∙ append-nil (flat_map g front) ∙ given_notes format db channels committed sender at queued
    ∙ given_by_fate tx.fate (committed x) (tx.db == db) tx.queued tx.notes F told queues.all

-- the fates of all but the first
told_tail : (committed : ℕ → Bool) (x : ℕ) (tx : Tx) (txs : List Tx) → TellsFates committed x (tx ∷ txs) → TellsFates committed (x + 1) txs
told_tail committed x tx txs tells = record {
  each = λ k t e. let sum : (x + 1) + k ≡ x + suc k = omega arith in ap committed sum ∙ tells.each (suc k) t e;
}

-- a reader is given the same by transactions and by their pieces
pub pieces_give_due : PiecesGiveDue
unfolding pieces_from
pieces_give_due format x at [] db channels committed queue tells = refl
pieces_give_due format x at (tx ∷ txs) db channels committed queue tells =
    let g = gives db channels committed in
    let rest = pieces_from format (x + 1) (after format at tx) txs in
    let told : committed x ≡ is_committed tx.fate = ap committed (sym (add-zero x)) ∙ tells.each 0 tx refl in
    flat_map-append g (tx_pieces format x at tx) rest
    ∙ ap (λ (ds : List Delivery). ds ++ flat_map g rest) (given_tx format x at tx db channels committed (All-head QueuesAll tx txs queue) told)
    ∙ ap (λ (ds : List Delivery). delivered_by db channels x tx ++ ds) (pieces_give_due format (x + 1) (after format at tx) txs db channels committed (All-tail QueuesAll tx txs queue) (told_tail committed x tx txs tells))

queues : (fate : Fate) (queued count : ℕ) → IsQueued fate queued count → fate ≡ Committed → queued ≡ count
queues Committed queued count h e = h
queues Aborted queued count h e = absurd (cc)

-- a finished transaction that committed has queued all its notifications
pub finished_queue_all : FinishedQueueAll
finished_queue_all tx finished = record { all = queues tx.fate tx.queued (length tx.notes) finished.queueing }

-- an element of what is left after the first few
dropped : (n : ℕ) (xs : List Tx) (k : ℕ) → slice_get (drop n xs) k ≡ slice_get xs (n + k)
dropped zero xs k = ap (slice_get xs) (sym (zero-add k))
dropped (suc n) [] k = sym (let past : slice_get (let none : List Tx = [] in none) (suc n + k) ≡ None = refl in past)
dropped (suc n) (x ∷ xs) k = dropped n xs k ∙ ap (slice_get (x ∷ xs)) (let sum : suc (n + k) ≡ suc n + k = omega arith in sum)

-- the fates of what is left of a journal's front
pub told_part : (journal front : List Tx) (m : ℕ) → Begins front journal → 3 ≤ m → TellsFates (committed_by journal) m (drop (m - 3) front)
told_part journal front m begins low = record {
  each = λ k tx e.
      let place : (m + k) - 3 ≡ (m - 3) + k = omega arith in
      let found : slice_get journal ((m - 3) + k) ≡ Some tx = begins-holds front journal ((m - 3) + k) tx begins (sym (dropped (m - 3) front k) ∙ e) in
      ap (λ n. has_committed (slice_get journal n)) place ∙ ap has_committed found;
}

-- what is due between two numbers is what the pieces there give
pub pieces_give_all_due : PiecesGiveAllDue
pieces_give_all_due format journal m n at db channels queue low =
    let front = take (n - 3) journal in
    pieces_give_due format m at (drop (m - 3) front) db channels (committed_by journal) (All-drop QueuesAll (m - 3) front (All-take QueuesAll (n - 3) journal queue))
    (told_part journal front m (begins-taken (n - 3) journal) low)

-- a piece of the transaction with this number
unfoldable pub OfNumber : ℕ → Piece → Type 0
OfNumber x piece = number_of piece ≡ x

numbers_note : (format : Format) (sender : Sender) (at : ℕ) (note : Note) → All (OfNumber sender.xid) (note_pieces format sender at note)
unfolding note_pieces OfNumber
numbers_note format sender at note =
    let P = OfNumber sender.xid in
    let entry = AnEntry note sender in
    let filler = AFiller (bytes_left at) sender in
    let alone : All P (entry ∷ []) = All-cons P entry [] refl (All-nil P) in
    elim (fits at (entry_length format note)) as (λ b. All P (cond b (entry ∷ []) (filler ∷ entry ∷ []))) [
      | true ↦ alone
      | false ↦ All-cons P filler (entry ∷ []) refl alone
    ]

numbers_notes : (format : Format) (sender : Sender) (at : ℕ) (notes : List Note) → All (OfNumber sender.xid) (notes_pieces format sender at notes)
unfolding notes_pieces
numbers_notes format sender at [] = All-nil (OfNumber sender.xid)
numbers_notes format sender at (note ∷ notes) = All-append (OfNumber sender.xid) (note_pieces format sender at note) (notes_pieces format sender (put format at note) notes)
    (numbers_note format sender at note) (numbers_notes format sender (put format at note) notes)

numbers_end : (sender : Sender) (fate : Fate) (at : ℕ) → All (OfNumber sender.xid) (end_pieces sender fate at)
unfolding end_pieces OfNumber
numbers_end sender Committed at = All-nil (OfNumber sender.xid)
numbers_end sender Aborted at =
    let P = OfNumber sender.xid in
    let filler = AFiller (bytes_left at) sender in
    elim (is_page_start at) as (λ b. All P (cond b [] (filler ∷ []))) [ true ↦ All-nil P | false ↦ All-cons P filler [] refl (All-nil P) ]

-- the pieces of a transaction have its number
pub numbers_tx : (format : Format) (x at : ℕ) (tx : Tx) → All (OfNumber x) (tx_pieces format x at tx)
unfolding tx_pieces
numbers_tx format x at tx =
    let sender = sender_of x tx in
    let queued = take tx.queued tx.notes in
    All-append (OfNumber x) (notes_pieces format sender at queued) (end_pieces sender tx.fate (put_all format at queued)) (numbers_notes format sender at queued) (numbers_end sender tx.fate (put_all format at queued))

-- each piece has the number of its transaction
pub pieces_are_numbered : PiecesAreNumbered
unfolding pieces_from OfNumber
pieces_are_numbered format x at [] = All-nil (IsNumbered x (x + 0))
pieces_are_numbered format x at (tx ∷ txs) =
    let here = tx_pieces format x at tx in
    let later = pieces_from format (x + 1) (after format at tx) txs in
    All-append (IsNumbered x (x + length (tx ∷ txs))) here later
    (All-weaker (OfNumber x) (IsNumbered x (x + length (tx ∷ txs))) (λ piece e. record { low = omega (arith, e); high = omega (arith, e) }) here (numbers_tx format x at tx))
    (All-weaker (IsNumbered (x + 1) ((x + 1) + length txs)) (IsNumbered x (x + length (tx ∷ txs))) (λ piece h. record { low = omega (arith, h.low); high = omega (arith, h.high) }) later (pieces_are_numbered format (x + 1) (after format at tx) txs))

-- how many transactions are between two numbers
part_counts : (journal : List Tx) (m n : ℕ) → 3 ≤ m → m ≤ n → n ≤ 3 + length journal → m + length (entries_between journal m n) ≡ n
part_counts journal m n low le high = simp (length-drop, length-take) (omega arith)

-- the image from a transaction's place on, cut where another begins: the pieces before, and the rest
pub journal_is_cut : JournalIsCut
journal_is_cut = record {
  cells = λ format journal m n low le high.
      let here = place format journal m in
      let there = place format journal n in
      let part = entries_between journal m n in
      let rest = drop (n - 3) journal in
      let count : m + length part ≡ n = part_counts journal m n low le high in
      image_drops format journal m low ∙ image_is_laid format m here (drop (m - 3) journal) (room_place format journal m)
      ∙ ap (λ txs. lay format here (pieces_from format m here txs)) (cut journal (m - 3) (n - 3) (omega arith) (omega arith))
      ∙ ap (lay format here) (pieces_split format m here part rest ∙ ap (λ x. pieces_from format m here part ++ pieces_from format x (fold (after format) here part) rest) count
      ∙ ap (λ at. pieces_from format m here part ++ pieces_from format n at rest) (part_ends format journal m n le));
  ends = λ format journal m n low le high.
      let here = place format journal m in
      let part = entries_between journal m n in
      let room = room_place format journal m in
      ap (λ (cells : List (Option ℕ)). here + length cells) (sym (image_is_laid format m here part room)) ∙ folds format m here part room ∙ part_ends format journal m n le;
  numbers = λ format journal m n at low le high.
      let part = entries_between journal m n in
      let P : ℕ → Type 0 = λ end. All (IsNumbered m end) (pieces_from format m at part) in
      subst P (part_counts journal m n low le high) (pieces_are_numbered format m at part);
}

-- the head of the shortest entry is less than the whole of it
head_short : (format : Format) → header_bytes format < least_bytes format
head_short One = omega arith
head_short Two = omega arith

-- what a transaction's pieces say of their sender is in range
record IsSender (format : Format) (sender : Sender) : Type 0 where
  some_db : 0 < sender.db
  head : IsHead format sender.db sender.xid sender.pid

sound_entry : (format : Format) (sender : Sender) (note : Note) → IsSender format sender → IsNote note → IsReadable format (AnEntry note sender)
sound_entry format sender note s h = record {
  long = subst (IsEntryLength format) (sym (length-spelled format note sender.db sender.xid sender.pid)) (entry_lengths format note h);
  head = s.head;
  content = (h, s.some_db);
}

sound_filler : (format : Format) (sender : Sender) (at : ℕ) → HasRoom format at → IsSender format sender
    → IsReadable format (AFiller (bytes_left at) sender)
sound_filler format sender at room s = record {
  long = subst (IsEntryLength format) (sym (length-filler format (bytes_left at) sender.xid sender.pid (omega (arith, least_within format, room.least)))) (pages_hold.rest format at room);
  head = record { db_fits = omega arith; xid_fits = s.head.xid_fits; pid_fits = s.head.pid_fits };
  content = tt;
}

sound_note : (format : Format) (sender : Sender) (at : ℕ) (note : Note) → HasRoom format at → IsSender format sender → IsNote note
    → All (IsReadable format) (note_pieces format sender at note)
unfolding note_pieces
sound_note format sender at note room s h =
    let P = IsReadable format in
    let entry = AnEntry note sender in
    let filler = AFiller (bytes_left at) sender in
    let alone : All P (entry ∷ []) = All-cons P entry [] (sound_entry format sender note s h) (All-nil P) in
    elim (fits at (entry_length format note)) as (λ b. All P (cond b (entry ∷ []) (filler ∷ entry ∷ []))) [
      | true ↦ alone
      | false ↦ All-cons P filler (entry ∷ []) (sound_filler format sender at room s) alone
    ]

sound_notes : (format : Format) (sender : Sender) (at : ℕ) (notes : List Note) → HasRoom format at → IsSender format sender
    → All IsNote notes → All (IsReadable format) (notes_pieces format sender at notes)
unfolding notes_pieces
sound_notes format sender at [] room s h = All-nil (IsReadable format)
sound_notes format sender at (note ∷ notes) room s h = All-append (IsReadable format) (note_pieces format sender at note) (notes_pieces format sender (put format at note) notes)
    (sound_note format sender at note room s (All-head IsNote note notes h)) (sound_notes format sender (put format at note) notes (room_put format at note room) s (All-tail IsNote note notes h))

sound_end : (format : Format) (sender : Sender) (fate : Fate) (at : ℕ) → HasRoom format at → IsSender format sender
    → All (IsReadable format) (end_pieces sender fate at)
unfolding end_pieces
sound_end format sender Committed at room s = All-nil (IsReadable format)
sound_end format sender Aborted at room s =
    let P = IsReadable format in
    let filler = AFiller (bytes_left at) sender in
    elim (is_page_start at) as (λ b. All P (cond b [] (filler ∷ []))) [ true ↦ All-nil P | false ↦ All-cons P filler [] (sound_filler format sender at room s) (All-nil P) ]

sound_tx : (format : Format) (x at : ℕ) (tx : Tx) → HasRoom format at → IsWritten tx → x < 2 ^ xid_bits format
    → All (IsReadable format) (tx_pieces format x at tx)
unfolding tx_pieces
sound_tx format x at tx room written small =
    let sender = sender_of x tx in
    let queued = take tx.queued tx.notes in
    let session : tx.session ≤ 256 = written.session_fits in
    let s : IsSender format sender = record { some_db = written.some_db; head = record { db_fits = written.db_fits; xid_fits = small; pid_fits = omega (arith, session) } } in
    All-append (IsReadable format) (notes_pieces format sender at queued) (end_pieces sender tx.fate (put_all format at queued)) (sound_notes format sender at queued room s written.queued_notes) (sound_end format sender tx.fate (put_all format at queued) (room_put_all format at queued room) s)

-- each piece of a written transaction can be read back
pub pieces_are_readable : PiecesAreReadable
unfolding pieces_from
pieces_are_readable format x at [] room written small = All-nil (IsReadable format)
pieces_are_readable format x at (tx ∷ txs) room written small = All-append (IsReadable format) (tx_pieces format x at tx) (pieces_from format (x + 1) (after format at tx) txs)
    (sound_tx format x at tx room (All-head IsWritten tx txs written) (omega (arith, small)))
    (pieces_are_readable format (x + 1) (after format at tx) txs (room_after format at tx room) (All-tail IsWritten tx txs written) (omega (arith, small)))

-- a piece moves the place on as the arithmetic says, to one with room
pub piece_advances : PieceAdvances
unfolding entry_cells after_bytes after_rest
piece_advances = record {
  place = λ format at piece.
      let bytes = piece_bytes format piece in
      let cells : length (filled_cells bytes) ≡ length bytes / 4 = length-filled_cells bytes in
      let end = at + length (filled_cells bytes) in
      let sum : at + length (filled_cells bytes ++ page_rest format end) ≡ after_rest format end = simp length-append (omega (arith, length-page_rest format end)) in
      sum ∙ ap (λ n. after_rest format (at + n)) cells;
  further = λ format at piece sound.
      let there = at + length (piece_bytes format piece) / 4 in
      let some : 20 ≤ length (piece_bytes format piece) = omega (arith, least_within format, sound.long.least) in
      elim (has_room format there) as (λ b. at < cond b there (next_page there)) [ true ↦ omega (arith, some) | false ↦ omega (arith, some) ];
  room = λ format at piece room sound. room_after_bytes format at (length (piece_bytes format piece)) room sound.long.whole;
}

-- a filler that is read back is long enough for its head
filler_long : (format : Format) (len xid pid : ℕ) → least_bytes format ≤ length (filler format len xid pid) → header_bytes format ≤ len
unfolding filler
filler_long format len xid pid long =
    let head = header format len 0 xid pid in
    let front : length head ≡ header_bytes format = length-header format len 0 xid pid in
    let whole : length (head ++ replicate (len - length head) 0) ≡ length head + (len - length head) = simp (length-append, length-replicate) in
    omega (arith, head_short format, long, front, whole)

-- a readable piece has as many bytes as it states
pub stated : (format : Format) (piece : Piece) → IsReadable format piece → length (piece_bytes format piece) ≡ piece_length format piece
stated format (AnEntry note sender) sound = length-spelled format note sender.db sender.xid sender.pid
stated format (AFiller len sender) sound = length-filler format len sender.xid sender.pid (filler_long format len sender.xid sender.pid sound.long.least)

below : (format : Format) (piece : Piece) → IsReadable format piece → All (λ byte. byte < 256) (piece_bytes format piece)
below format (AnEntry note sender) sound = are_bytes.of_entry format note sender.db sender.xid sender.pid sound.content.0
below format (AFiller len sender) sound = are_bytes.of_filler format len sender.xid sender.pid

-- a piece that can be read back has its stated length, in bytes
pub piece_has_bytes : PieceHasBytes
piece_has_bytes = record { stated = stated; whole = λ format piece sound. whole_cells format (length (piece_bytes format piece)) sound.long.whole; below = below }

-- a cell whose bytes spell a number
cell_of : (n : ℕ) → n < 2 ^ 32 → Some (Some (from_le_bytes w32 (four_bytes n))) ≡ Some (Some n)
cell_of n small = ap (λ k. Some (Some k)) (from_le_bytes-to_le_bytes_4 n small)

-- the length that a piece states fits in a cell
small_length : (format : Format) (piece : Piece) → IsReadable format piece → piece_length format piece < 2 ^ 32
small_length format piece sound = omega (arith, stated format piece sound, sound.long.fits)

first_cell : (format : Format) (piece : Piece) → IsReadable format piece
    → slice_get (filled_cells (piece_bytes format piece)) 0 ≡ Some (Some (piece_length format piece))
unfolding filled_cells spelled filler header
first_cell One (AnEntry note sender) sound = cell_of (entry_length One note) (small_length One (AnEntry note sender) sound)
first_cell Two (AnEntry note sender) sound = cell_of (entry_length Two note) (small_length Two (AnEntry note sender) sound)
first_cell One (AFiller len sender) sound = cell_of len (small_length One (AFiller len sender) sound)
first_cell Two (AFiller len sender) sound = cell_of len (small_length Two (AFiller len sender) sound)

second_cell : (format : Format) (piece : Piece) → IsReadable format piece
    → slice_get (filled_cells (piece_bytes format piece)) 1 ≡ Some (Some (db_of piece))
unfolding filled_cells spelled filler header
second_cell One (AnEntry note sender) sound = cell_of sender.db sound.head.db_fits
second_cell Two (AnEntry note sender) sound = cell_of sender.db sound.head.db_fits
second_cell One (AFiller len sender) sound = cell_of 0 sound.head.db_fits
second_cell Two (AFiller len sender) sound = cell_of 0 sound.head.db_fits

-- cell 0 of a piece is its length, cell 1 its database
pub first_cells : FirstCells
first_cells = record { first = λ format piece sound. first_cell format piece sound ∙ ap (λ n. Some (Some n)) (sym (stated format piece sound)); second = second_cell }

-- cell 2 of a piece has its transaction's number, as far as a cell holds it
pub third_cell : ThirdCell
unfolding filled_cells spelled filler header
third_cell One (AnEntry note sender) sound small = cell_of sender.xid small
third_cell Two (AnEntry note sender) sound small = cell_of sender.xid small
third_cell One (AFiller len sender) sound small = cell_of sender.xid small
third_cell Two (AFiller len sender) sound small = cell_of sender.xid small

-- four bytes and the number in their cell spell the same
pub cells_hold_numbers : CellsHoldNumbers
unfolding filled_cells
cells_hold_numbers [] k within = absurd (omega (arith, within))
cells_hold_numbers (a ∷ []) k within = absurd (omega (arith, within))
cells_hold_numbers (a ∷ b ∷ []) k within = absurd (omega (arith, within))
cells_hold_numbers (a ∷ b ∷ c ∷ []) k within = absurd (omega (arith, within))
cells_hold_numbers (a ∷ b ∷ c ∷ d ∷ bytes) zero within = refl
cells_hold_numbers (a ∷ b ∷ c ∷ d ∷ bytes) (suc k) within =
    let next : suc (suc (suc (suc (4 * k)))) ≡ 4 * suc k = omega arith in
    cells_hold_numbers bytes k (omega (arith, within)) ∙ ap (λ n. Some (Some (from_le_bytes w32 (drop n (a ∷ b ∷ c ∷ d ∷ bytes))))) next
