-- The places and the cells of the worked examples, step by step.
use Rattle.std.proofs.Common.{◌≡◌, ℕ, ◌+◌, List, [], ◌∷◌, ◌++◌, length, drop, None, sym, ap, ◌∙◌, refl, arith}
use Rattle.std.proofs.lemmas.List.{length-replicate, append-nil, drop-drop, drop_at}
use Rattle.std.specs.Prelude.{codes}
use Rattle.std.specs.Str.{byte}
use Rattle.pgn_base.specs.declared.format.Format.{Format}
use Rattle.pgn_base.specs.declared.format.Format.TheVariants.{One, Two}
use Rattle.pgn_base.specs.declared.note.Note.{Note}
use Rattle.pgn_journal.specs.declared.tx.Fate.TheVariants.{Aborted}
use Rattle.pgn_journal.specs.Bytes.{header_bytes, aligned, header, entry_length, spelled, filler}
use Rattle.pgn_journal.specs.Packing.{Sender, page_rest, filled_cells, entry_cells, filler_cells, note_cells, notes_cells, end_cells, tx_cells, image_from, image, place, place_at, put_bytes, after_bytes, after_rest, put, put_all, ended, after}
use Rattle.pgn_examples.specs.Packing.{bare_note, letters, longest_note, rest_journal, filler_journal, filler_and_entry, filler_journal_two, filler_and_entry_two, full_journal, larger_journal}
use Rattle.pgn_journal.proofs.PackingLemmas.{room_start, place_folds, packed_notes, notes_in_turn}

-- an entry's length by the number of letters alone
pub length-letters : (format : Format) (letter count : ℕ) → entry_length format (letters letter count) ≡ aligned format (header_bytes format + 3 + count)
unfolding entry_length letters
length-letters format letter count = ap (λ n. aligned format (header_bytes format + 2 + (n + 1))) (length-replicate count letter) ∙ ap (aligned format) (omega arith)

-- the place after a notification of so many letters
pub put_letters : (format : Format) (at letter count : ℕ) → put format at (letters letter count) ≡ put_bytes format at (aligned format (header_bytes format + 3 + count))
unfolding put
put_letters format at letter count = ap (put_bytes format at) (length-letters format letter count)

-- two notifications that end 20 bytes before the page's end
pub edge : put_all One 0 (letters (byte "x") 7999 ∷ letters (byte "x") 133 ∷ []) ≡ place_at 0 8172
unfolding put_bytes after_bytes after_rest
edge = ap (λ at. put One at (letters (byte "x") 133)) (put_letters One 0 (byte "x") 7999) ∙ put_letters One 2005 (byte "x") 133

-- after the first long notification and the second
two_put : put One (put One 0 (letters (byte "x") 7999)) (letters (byte "x") 7999) ≡ place_at 1 8020
unfolding put_bytes after_bytes after_rest
two_put = ap (λ at. put One at (letters (byte "x") 7999)) (put_letters One 0 (byte "x") 7999) ∙ put_letters One 2005 (byte "x") 7999

last_note : Note
last_note = record { channel = codes "c"; payload = codes "last" }

last_put : put One (place_at 2 0) last_note ≡ place_at 2 24
unfolding put put_bytes after_bytes after_rest entry_length last_note
last_put = refl

-- the first long notification ends 172 bytes before its page's end
pub full_4 : place One full_journal 4 ≡ place_at 0 8020
unfolding put_bytes after_bytes after_rest after ended
full_4 = place_folds One full_journal 4 ∙ put_letters One 0 (byte "x") 7999

-- so does the second, on the next page
pub full_5 : place One full_journal 5 ≡ place_at 1 8020
unfolding after ended
full_5 = place_folds One full_journal 5 ∙ two_put

-- an aborted transaction ends where the third page begins
pub full_6 : place One full_journal 6 ≡ place_at 2 0
unfolding after ended
full_6 = place_folds One full_journal 6 ∙ ap (ended Aborted) two_put

-- one more that is aborted there takes no cell
pub full_7 : place One full_journal 7 ≡ place_at 2 0
unfolding after ended
full_7 = place_folds One full_journal 7 ∙ ap (λ at. ended Aborted (ended Aborted at)) two_put

-- the last one takes the first 24 bytes of that page
pub full_8 : place One full_journal 8 ≡ place_at 2 24
unfolding after ended last_note
full_8 = place_folds One full_journal 8 ∙ ap (λ at. put One (ended Aborted (ended Aborted at)) last_note) two_put ∙ last_put

-- two long notifications of one transaction end on the second page
pub larger_end : put_all One 0 (letters (byte "x") 7999 ∷ letters (byte "y") 7999 ∷ []) ≡ place_at 1 8020
unfolding put_bytes after_bytes after_rest
larger_end = ap (λ at. put One at (letters (byte "y") 7999)) (put_letters One 0 (byte "x") 7999) ∙ put_letters One 2005 (byte "y") 7999

bare_put : put One (place_at 2 0) bare_note ≡ place_at 2 20
unfolding put put_bytes after_bytes after_rest entry_length
bare_put = refl

-- as it is aborted, the next one begins the third page
pub larger_4 : place One larger_journal 4 ≡ place_at 2 0
unfolding after ended
larger_4 = place_folds One larger_journal 4 ∙ ap (ended Aborted) larger_end

-- the shortest notification takes 20 bytes of it
pub larger_5 : place One larger_journal 5 ≡ place_at 2 20
unfolding after ended
larger_5 = place_folds One larger_journal 5 ∙ ap (λ at. put One (ended Aborted at) bare_note) larger_end ∙ bare_put

-- one that just fits the rest of the page ends where the next page begins
pub short_of_edge : put One (place_at 0 8172) (letters (byte "x") 1) ≡ place_at 1 0
unfolding put_bytes after_bytes after_rest
short_of_edge = put_letters One (place_at 0 8172) (byte "x") 1

-- one that is longer than the rest begins the next page
pub past_edge : put One (place_at 0 8172) (letters (byte "x") 5) ≡ place_at 1 24
unfolding put_bytes after_bytes after_rest
past_edge = put_letters One (place_at 0 8172) (byte "x") 5

-- the longest notification has 64 bytes of channel and 8000 of payload, each with the 0 at its end
pub length-longest : (format : Format) → entry_length format longest_note ≡ aligned format (header_bytes format + 64 + 8000)
unfolding entry_length longest_note
length-longest format =
    ap (λ n. aligned format (header_bytes format + (n + 1) + (length longest_note.payload + 1))) (length-replicate 63 (byte "c"))
    ∙ ap (λ n. aligned format (header_bytes format + (63 + 1) + (n + 1))) (length-replicate 7999 (byte "x"))

-- one that leaves less than the shortest entry ends its page
pub no_room : put_all One 0 (letters (byte "x") 7999 ∷ letters (byte "x") 137 ∷ []) ≡ place_at 1 0
unfolding put_bytes after_bytes after_rest
no_room = ap (λ at. put One at (letters (byte "x") 137)) (put_letters One 0 (byte "x") 7999) ∙ put_letters One 2005 (byte "x") 137

-- the sender of the only transaction
sender : Sender
sender = record { db = 1; xid = 3; pid = 1002 }

-- after notifications that end at a place stand those that follow them
drop-notes : (format : Format) (notes more : List Note) (end : ℕ) → put_all format 0 notes ≡ end → drop end (notes_cells format sender 0 (notes ++ more)) ≡ notes_cells format sender end more
drop-notes format notes more end h =
    let size : length (notes_cells format sender 0 notes) ≡ end = let sum : 0 + length (notes_cells format sender 0 notes) ≡ end = packed_notes format sender 0 notes (room_start format) ∙ h in omega (arith, sum) in
    ap (drop end) (notes_in_turn format sender 0 notes more) ∙ drop_at (notes_cells format sender 0 notes) (notes_cells format sender (0 + length (notes_cells format sender 0 notes)) more) end size
    ∙ ap (λ at. notes_cells format sender at more) (let at : 0 + length (notes_cells format sender 0 notes) ≡ end = omega (arith, size) in at)

filler-image : image One filler_journal ≡ notes_cells One sender 0 ((letters (byte "x") 7999 ∷ letters (byte "x") 133 ∷ []) ++ letters (byte "x") 5 ∷ [])
unfolding image image_from tx_cells end_cells sender
filler-image = append-nil _ ∙ append-nil _

filler-last : notes_cells One sender 2043 (letters (byte "x") 5 ∷ []) ≡ filler_and_entry
unfolding sender notes_cells note_cells entry_cells filler_cells page_rest filled_cells spelled filler entry_length header letters
filler-last = refl

-- the filler at the edge, and the entry that begins the next page
pub filler_cells-edge : drop (place_at 0 8172) (image One filler_journal) ≡ filler_and_entry
filler_cells-edge = ap (drop 2043) filler-image ∙ drop-notes One (letters (byte "x") 7999 ∷ letters (byte "x") 133 ∷ []) (letters (byte "x") 5 ∷ []) 2043 edge ∙ filler-last

rest-image : image One rest_journal ≡ notes_cells One sender 0 ((letters (byte "x") 7999 ∷ []) ++ letters (byte "x") 137 ∷ [])
unfolding image image_from tx_cells end_cells sender
rest-image = append-nil _ ∙ append-nil _

rest-last : drop 39 (notes_cells One sender 2005 (letters (byte "x") 137 ∷ [])) ≡ None ∷ None ∷ None ∷ None ∷ []
unfolding sender notes_cells note_cells entry_cells page_rest filled_cells spelled entry_length header letters
rest-last = refl

-- the first long notification takes 2005 cells
pub first_put : put One 0 (letters (byte "x") 7999) ≡ 2005
unfolding put_bytes after_bytes after_rest
first_put = put_letters One 0 (byte "x") 7999

-- the last 16 bytes of a page stay empty
pub rest_empty : drop (place_at 0 8176) (image One rest_journal) ≡ None ∷ None ∷ None ∷ None ∷ []
rest_empty =
    ap (drop 2044) rest-image ∙ sym (drop-drop 39 2005 (notes_cells One sender 0 ((letters (byte "x") 7999 ∷ []) ++ letters (byte "x") 137 ∷ [])))
    ∙ ap (drop 39) (drop-notes One (letters (byte "x") 7999 ∷ []) (letters (byte "x") 137 ∷ []) 2005 first_put) ∙ rest-last

-- The steps of the example in format Two.

put_longest : (at : ℕ) → put Two at longest_note ≡ put_bytes Two at 8088
unfolding put
put_longest at = ap (put_bytes Two at) (length-longest Two)

longest_put : put Two 0 longest_note ≡ 2022
unfolding put_bytes after_bytes after_rest
longest_put = put_longest 0

-- in format Two they end 32 bytes before the page's end
pub edge_two : put_all Two 0 (longest_note ∷ letters (byte "x") 45 ∷ []) ≡ place_at 0 8160
unfolding put_bytes after_bytes after_rest
edge_two = ap (λ at. put Two at (letters (byte "x") 45)) longest_put ∙ put_letters Two 2022 (byte "x") 45

-- in format Two one that just fits ends where the next page begins
pub short_of_edge_two : put Two (place_at 0 8160) (letters (byte "x") 5) ≡ place_at 1 0
unfolding put_bytes after_bytes after_rest
short_of_edge_two = put_letters Two (place_at 0 8160) (byte "x") 5

-- in format Two one that is longer than the rest begins the next page
pub past_edge_two : put Two (place_at 0 8160) (letters (byte "x") 13) ≡ place_at 1 40
unfolding put_bytes after_bytes after_rest
past_edge_two = put_letters Two (place_at 0 8160) (byte "x") 13

filler-image_two : image Two filler_journal_two ≡ notes_cells Two sender 0 ((longest_note ∷ letters (byte "x") 45 ∷ []) ++ letters (byte "x") 13 ∷ [])
unfolding image image_from tx_cells end_cells sender
filler-image_two = append-nil _ ∙ append-nil _

filler-last_two : notes_cells Two sender 2040 (letters (byte "x") 13 ∷ []) ≡ filler_and_entry_two
unfolding sender notes_cells note_cells entry_cells filler_cells page_rest filled_cells spelled filler entry_length header letters
filler-last_two = refl

-- in format Two: the filler at the edge, and the entry that begins the next page
pub filler_cells-edge_two : drop (place_at 0 8160) (image Two filler_journal_two) ≡ filler_and_entry_two
filler_cells-edge_two =
    ap (drop 2040) filler-image_two ∙ drop-notes Two (longest_note ∷ letters (byte "x") 45 ∷ []) (letters (byte "x") 13 ∷ []) 2040 edge_two ∙ filler-last_two
