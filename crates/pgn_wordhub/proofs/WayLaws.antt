-- Laws of a reader's way over the pieces that the head shows.
use Rattle.std.proofs.Common.{◌≡◌, ℕ, ◌+◌, ◌-◌, ◌^◌, ◌<◌, ◌≤◌, ◌==◌, ◌&&◌, Bool, true, false, cond, List, [], ◌∷◌, ◌++◌, length, take, drop, slice_get, Option, Some, None, All, sym, refl, ap, ◌∙◌, subst, arith}
use Rattle.std.proofs.lemmas.List.{append-nil, append_assoc, length-append, length-drop, drop-drop, get_or-drop}
use Rattle.std.proofs.Math.Seq.{drop-append_seam}
use Rattle.std.proofs.lemmas.List.Elements.{All-head, All-tail, All-append, All-take, All-drop, All-weaker}
use Rattle.std.proofs.lemmas.Option.{slice_get_within, get_or_from_slice_get, slice_get_read}
use Rattle.std.proofs.lemmas.Bool.Decides.{nat_tests}
use Rattle.pgn_base.specs.declared.limits.TheConstants.{FIRST_XID}
use Rattle.pgn_base.specs.declared.format.Format.{Format}
use Rattle.pgn_base.specs.declared.format.Format.TheVariants.{One, Two}
use Rattle.pgn_base.specs.declared.note.Delivery.{Delivery}
use Rattle.pgn_journal.specs.declared.tx.Tx.{Tx}
use Rattle.pgn_journal.specs.Begins.{Begins}
use Rattle.pgn_journal.specs.Journal.{next_xid, entries_between, IsFinished}
use Rattle.pgn_journal.specs.Bytes.{xid_bits, IsEntryLength}
use Rattle.pgn_journal.specs.Due.{due}
use Rattle.pgn_journal.specs.Packing.{HasRoom, filled_cells, page_rest, entry_cells, image, place, after_bytes}
use Rattle.pgn_journal.specs.Pieces.{Piece, AnEntry, AFiller, piece_bytes, db_of, number_of, lay, pieces_from, gives, give_all, committed_by, IsNumbered, IsReadable, IsWritten}
use Rattle.pgn_journal.proofs.BeginsLaws.{begins-continued, begins-holds, begins-shorter}
use Rattle.pgn_journal.proofs.PieceLaws.{journal_is_cut, pieces_give_all_due, pieces_are_readable, pieces_are_numbered, piece_advances, first_cells, third_cell, finished_queue_all}
use Rattle.pgn_journal.proofs.PackingLemmas.{room_place, place_grows, last_place}
use Rattle.pgn_journal.proofs.DraftLaws.{longer_agrees}
use Rattle.pgn_wordhub.specs.Walks.{StandsAt, IsCell, IsEntryAt, HasEntryAt, IsOnWay, Leads, Walks, IsWalking, Turns, HasTurned}

-- what stands in the rest of a list stands in the list
get_dropped : {X : Type 0} (n : ℕ) (xs : List X) (k : ℕ) (y : X) → slice_get (drop n xs) k ≡ Some y → slice_get xs (n + k) ≡ Some y
get_dropped n xs k y e =
    let inside = slice_get_within (drop n xs) k y e in
    let long = length-drop n xs in
    slice_get_read xs (length xs) (n + k) y refl (omega (arith, inside, long)) (sym (get_or_from_slice_get (drop n xs) k y y e) ∙ get_or-drop n xs k y)

-- a cell of the piece at a place
pub cell_of : (format : Format) (cells : List (Option ℕ)) (at k n : ℕ) (piece : Piece) → StandsAt format cells at piece → slice_get (filled_cells (piece_bytes format piece)) k ≡ Some (Some n) → slice_get cells (at + k) ≡ Some (Some n)
unfolding entry_cells
cell_of format cells at k n piece stands is =
    let bytes = piece_bytes format piece in
    let filled = filled_cells bytes in
    let rest = page_rest format (at + length filled) in
    let one : slice_get (filled ++ rest) k ≡ Some (Some n) = begins-holds filled (filled ++ rest) k (Some n) (begins-continued filled rest) is in
    let two : slice_get (filled ++ rest ++ stands.more) k ≡ Some (Some n) = begins-holds (filled ++ rest) (filled ++ rest ++ stands.more) k (Some n) (begins-continued (filled ++ rest) stands.more) one in
    get_dropped at cells k (Some n) (ap (λ (l : List (Option ℕ)). slice_get l k) stands.cells_are ∙ two)

-- the number of a piece fits in a cell
abbrev fits_a_cell : Piece → Type 0
fits_a_cell piece = number_of piece < 2 ^ 32

-- what the first of the pieces on a way is
on_way_first : (format : Format) (cells : List (Option ℕ)) (fin at end : ℕ) (piece : Piece) (todo later : List Piece) → drop at cells ≡ lay format at (piece ∷ todo ++ later) → IsReadable format piece → number_of piece < 2 ^ 32 → StandsAt format cells at piece
unfolding lay
on_way_first format cells fin at end piece todo later laid readable small = record {
  more = lay format (at + length (entry_cells format at (piece_bytes format piece))) (todo ++ later);
  cells_are = laid;
  readable = readable;
  small = small;
}

-- the way goes on behind its first piece
way_goes_on : (format : Format) (cells : List (Option ℕ)) (fin at end : ℕ) (piece : Piece) (todo later : List Piece) → IsOnWay format cells fin at end (piece ∷ todo) later
    → IsOnWay format cells fin (after_bytes format at (length (piece_bytes format piece))) end todo later
unfolding lay
way_goes_on format cells fin at end piece todo later way =
    let here = entry_cells format at (piece_bytes format piece) in
    let next = after_bytes format at (length (piece_bytes format piece)) in
    let rest = lay format (at + length here) (todo ++ later) in
    let moves : at + length here ≡ next = piece_advances.place format at piece in
    let first = All-head (IsReadable format) piece (todo ++ later) way.readable in
    let laid : drop at cells ≡ here ++ rest = way.laid in
    let long : length (drop at cells) ≡ length here + length rest = ap length laid ∙ length-append here rest in
    let left = length-drop at cells in
    let within = way.within in
    let comes : at + length (here ++ lay format (at + length here) todo) ≡ end = way.comes in
    let split = length-append here (lay format (at + length here) todo) in
    let gone : drop (at + length here) cells ≡ rest = sym (drop-drop (length here) at cells) ∙ ap (drop (length here)) laid ∙ drop-append_seam here rest in
    record {
      laid = ap (λ n. drop n cells) (sym moves) ∙ gone ∙ ap (λ n. lay format n (todo ++ later)) moves;
      below = All-tail (IsNumbered FIRST_XID fin) piece todo way.below;
      above = way.above;
      readable = All-tail (IsReadable format) piece (todo ++ later) way.readable;
      small = All-tail fits_a_cell piece (todo ++ later) way.small;
      room = piece_advances.room format at piece way.room first;
      within = omega (arith, long, left, within, moves, le at cells here rest long left within);
      comes = ap (λ n. n + length (lay format n todo)) (sym moves) ∙ omega (arith, comes, split);
    }
  where
    le : (at : ℕ) (cells here rest : List (Option ℕ)) → length (drop at cells) ≡ length here + length rest → length (drop at cells) ≡ length cells - at → at ≤ length cells → at + length here ≤ length cells
    le at cells here rest a b c = omega (arith, a, b, c)

-- the piece at a place before the end of the cells, and what follows from its number
pub data Next (format : Format) (cells : List (Option ℕ)) (fin at end : ℕ) (todo later : List Piece) : Type 0 where
  Stops : (piece : Piece) → StandsAt format cells at piece → fin ≤ number_of piece → todo ≡ [] → at ≡ end → Next format cells fin at end todo later
  Goes : (piece : Piece) (rest : List Piece) → todo ≡ piece ∷ rest → StandsAt format cells at piece → IsNumbered FIRST_XID fin piece
      → IsOnWay format cells fin (after_bytes format at (length (piece_bytes format piece))) end rest later → Next format cells fin at end todo later

pub next_of : (format : Format) (cells : List (Option ℕ)) (fin at end : ℕ) (todo later : List Piece) → IsOnWay format cells fin at end todo later → at < length cells → Next format cells fin at end todo later
unfolding lay
next_of format cells fin at end [] [] way before =
    let none : length (drop at cells) ≡ 0 = ap length way.laid in
    let left = length-drop at cells in absurd (omega (arith, none, left, before))
next_of format cells fin at end [] (piece ∷ later) way before =
    let comes : at + 0 ≡ end = way.comes in
    Stops piece (on_way_first format cells fin at end piece [] later way.laid (All-head (IsReadable format) piece later way.readable) (All-head fits_a_cell piece later way.small))
    (All-head (λ p. fin ≤ number_of p) piece later way.above) refl (omega (arith, comes))
next_of format cells fin at end (piece ∷ rest) later way before =
    Goes piece rest refl (on_way_first format cells fin at end piece rest later way.laid (All-head (IsReadable format) piece (rest ++ later) way.readable) (All-head fits_a_cell piece (rest ++ later) way.small))
    (All-head (IsNumbered FIRST_XID fin) piece rest way.below) (way_goes_on format cells fin at end piece rest later way)

number_at : (format : Format) (cells : List (Option ℕ)) (at x : ℕ) (piece : Piece) → StandsAt format cells at piece → IsCell cells (at + 2) x → x ≡ number_of piece
number_at format cells at x piece stands is = is (number_of piece) (cell_of format cells at 2 (number_of piece) piece stands (third_cell format piece stands.readable stands.small))

-- where the number of the piece is not below `fin`, the way is at its end
pub stops_here : (format : Format) (cells : List (Option ℕ)) (fin at end : ℕ) (todo later : List Piece) → IsOnWay format cells fin at end todo later → at < length cells → (x : ℕ) → IsCell cells (at + 2) x → fin ≤ x
    → (todo ≡ []) × (at ≡ end)
stops_here format cells fin at end todo later way before x is past =
    elim (next_of format cells fin at end todo later way before) [
      | Stops piece stands above none there ↦ (none, there)
      | Goes piece rest todo_is stands numbered goes ↦
          let number = number_at format cells at x piece stands is in
          let high = numbered.high in absurd (omega (arith, number, high, past))
    ]

-- where it is below, the way goes on behind the piece
pub record GoesOn (format : Format) (cells : List (Option ℕ)) (fin at end : ℕ) (todo later : List Piece) (len : ℕ) : Type 0 where
  pub piece : Piece
  pub rest : List Piece
  pub todo_is : todo ≡ piece ∷ rest
  pub stands : StandsAt format cells at piece
  pub numbered : IsNumbered FIRST_XID fin piece
  pub len_is : len ≡ length (piece_bytes format piece)
  pub further : at < after_bytes format at len
  pub way : IsOnWay format cells fin (after_bytes format at len) end rest later

-- a way goes on over a piece whose number is below the end's
pub goes_here : (format : Format) (cells : List (Option ℕ)) (fin at end : ℕ) (todo later : List Piece) → IsOnWay format cells fin at end todo later → at < length cells
    → (x len : ℕ) → IsCell cells (at + 2) x → IsCell cells (at + 0) len → x < fin → GoesOn format cells fin at end todo later len
goes_here format cells fin at end todo later way before x len is first below =
    elim (next_of format cells fin at end todo later way before) [
      | Stops piece stands above none there ↦
          let number = number_at format cells at x piece stands is in absurd (omega (arith, number, above, below))
      | Goes piece rest todo_is stands numbered goes ↦
          let long : len ≡ length (piece_bytes format piece) = first (length (piece_bytes format piece)) (cell_of format cells at 0 (length (piece_bytes format piece)) piece stands (first_cells.first format piece stands.readable)) in record {
            piece = piece;
            rest = rest;
            todo_is = todo_is;
            stands = stands;
            numbered = numbered;
            len_is = long;
            further = subst (λ (n : ℕ). at < after_bytes format at n) (sym long) (piece_advances.further format at piece stands.readable);
            way = subst (λ (n : ℕ). IsOnWay format cells fin (after_bytes format at n) end rest later) (sym long) goes;
          }
    ]

-- the database of the piece at a place
pub db_at : (format : Format) (cells : List (Option ℕ)) (at d : ℕ) (piece : Piece) → StandsAt format cells at piece → IsCell cells (at + 1) d → d ≡ db_of piece
db_at format cells at d piece stands is = is (db_of piece) (cell_of format cells at 1 (db_of piece) piece stands (first_cells.second format piece stands.readable))

-- a piece of another database gives nothing
pub gives_none : (db : ℕ) (channels : List (List ℕ)) (committed : ℕ → Bool) (piece : Piece) → (db_of piece ≡ db → ⊥) → gives db channels committed piece ≡ []
gives_none db channels committed (AnEntry note sender) other =
    let differs : sender.db == db ≡ false = grind (arith, nat_tests, other) in
    ap (λ b. cond (committed sender.xid && b) (cond (Rattle.pgn_journal.specs.Due.listens channels note) (Rattle.pgn_journal.specs.Pieces.delivery_of sender note ∷ []) []) []) differs
    ∙ ap (λ b. cond b (cond (Rattle.pgn_journal.specs.Due.listens channels note) (Rattle.pgn_journal.specs.Pieces.delivery_of sender note ∷ []) []) []) (and_false (committed sender.xid))
  where
    and_false : (b : Bool) → (b && false) ≡ false
    and_false true = refl
    and_false false = refl
gives_none db channels committed (AFiller len sender) other = refl

-- the numbers of 32 bits fit in either format
bits_hold : (format : Format) → 2 ^ 32 ≤ 2 ^ xid_bits format
bits_hold One = omega arith
bits_hold Two = omega arith

-- from a placed mark a way leads up to the first unfinished number, and gives what is due
pub begins_at : (format : Format) (seen shown : List Tx) (mark at db : ℕ) (channels : List (List ℕ)) (got : List Delivery) → Begins seen shown → All IsWritten shown → next_xid shown < 2 ^ 32 → All IsFinished seen
    → FIRST_XID ≤ mark → mark ≤ next_xid seen → at ≡ place format seen mark
    → Walks format (image format shown) (next_xid seen) db channels seen at (place format seen (next_xid seen)) got (got ++ due seen mark (next_xid seen) db channels)
begins_at format seen shown mark at db channels got begins written few finished low within at_is =
    let fin = next_xid seen in
    let shorter = begins-shorter seen shown begins in
    let inside : fin ≤ next_xid shown = omega (arith, shorter) in
    let here = place format shown mark in
    let there = place format shown fin in
    let part = entries_between shown mark fin in
    let rest = drop (fin - FIRST_XID) shown in
    let todo = pieces_from format mark here part in
    let later = pieces_from format fin there rest in
    let start : at ≡ here = at_is ∙ sym (longer_agrees.places format seen shown mark begins within) in
    let stop : there ≡ place format seen fin = longer_agrees.places format seen shown fin begins (omega arith) in
    let same : part ≡ entries_between seen mark fin = longer_agrees.entries seen shown mark fin begins (omega arith) in
    let room : (m : ℕ) → HasRoom format (place format shown m) = λ m. room_place format shown m in
    let long = long_part shown mark fin few low within inside in
    let bits = bits_hold format in
    let numbered = journal_is_cut.numbers format shown mark fin here low within inside in
    let later_numbered = pieces_are_numbered format fin there rest in
    let rest_long = long_rest shown fin few inside in
    record {
      todo = todo;
      later = later;
      way = record {
        laid = ap (λ n. drop n (image format shown)) start ∙ journal_is_cut.cells format shown mark fin low within inside ∙ ap (λ n. lay format n (todo ++ later)) (sym start);
        below = All-weaker (IsNumbered mark fin) (IsNumbered FIRST_XID fin) (λ p h. record { low = omega (arith, h.low, low); high = h.high }) todo numbered;
        above = All-weaker (IsNumbered fin (fin + length rest)) (λ p. fin ≤ number_of p) (λ p h. h.low) later later_numbered;
        readable = All-append (IsReadable format) todo later
            (pieces_are_readable format mark here part (room mark) (All-drop IsWritten (mark - FIRST_XID) (take (fin - FIRST_XID) shown) (All-take IsWritten (fin - FIRST_XID) shown written)) (omega (arith, long, bits)))
            (pieces_are_readable format fin there rest (room fin) (All-drop IsWritten (fin - FIRST_XID) shown written) (omega (arith, rest_long, bits)));
        small = All-append fits_a_cell todo later
            (All-weaker (IsNumbered mark fin) fits_a_cell (λ p h. omega (arith, h.high, inside, few)) todo numbered)
            (All-weaker (IsNumbered fin (fin + length rest)) fits_a_cell (λ p h. omega (arith, h.high, rest_long)) later later_numbered);
        room = subst (λ (n : ℕ). HasRoom format n) (sym start) (room mark);
        within = inside_image format shown mark at (omega (arith, within, inside)) start;
        comes = ap (λ n. n + length (lay format n todo)) start ∙ journal_is_cut.ends format shown mark fin low within inside ∙ stop;
      };
      adds = ap (λ l. got ++ l) (ap (λ (txs : List Tx). give_all db channels (committed_by seen) (pieces_from format mark here txs)) same
          ∙ pieces_give_all_due format seen mark fin here db channels (All-weaker IsFinished Rattle.pgn_journal.specs.Pieces.QueuesAll finished_queue_all seen finished) low);
    }
  where
    long_part : (shown : List Tx) (mark fin : ℕ) → next_xid shown < 2 ^ 32 → 3 ≤ mark → mark ≤ fin → fin ≤ next_xid shown → mark + length (entries_between shown mark fin) ≤ 2 ^ 32
    long_part shown mark fin few low le inside =
        let a = length-drop (mark - 3) (take (fin - 3) shown) in
        let b = Rattle.std.proofs.lemmas.List.length-take (fin - 3) shown in omega (arith, a, b, few, low, le, inside)

    long_rest : (shown : List Tx) (fin : ℕ) → next_xid shown < 2 ^ 32 → fin ≤ next_xid shown → fin + length (drop (fin - 3) shown) ≤ 2 ^ 32
    long_rest shown fin few inside = let a = length-drop (fin - 3) shown in omega (arith, a, few, inside)

    inside_image : (format : Format) (shown : List Tx) (mark at : ℕ) → mark ≤ next_xid shown → at ≡ place format shown mark → at ≤ length (image format shown)
    inside_image format shown mark at inside start =
        let up = place_grows format shown mark (next_xid shown) inside in
        let end = last_place format shown (next_xid shown) (omega arith) in omega (arith, up, end, start)

-- A way that is followed.

-- it ends where the cells do
pub ends_there : (format : Format) (cells : List (Option ℕ)) (fin at end : ℕ) (todo later : List Piece) → IsOnWay format cells fin at end todo later → length cells ≤ at → (todo ≡ []) × (at ≡ end)
unfolding lay
ends_there format cells fin at end [] later way past = let comes : at + 0 ≡ end = way.comes in (refl, omega (arith, comes))
ends_there format cells fin at end (piece ∷ todo) later way past =
    let next = way_goes_on format cells fin at end piece todo later way in
    let within = next.within in
    let further = piece_advances.further format at piece (All-head (IsReadable format) piece (todo ++ later) way.readable) in absurd (omega (arith, within, further, past))

-- a way that has come to the end of the cells ends there
pub leads_there : (format : Format) (cells : List (Option ℕ)) (fin at end : ℕ) → Leads format cells fin at end → length cells ≤ at → at ≡ end
leads_there format cells fin at end leads past = (ends_there format cells fin at end leads.todo leads.later leads.way past).1

-- it ends at the first number that is not below the end's
pub leads_stops : (format : Format) (cells : List (Option ℕ)) (fin at end x : ℕ) → Leads format cells fin at end → at < length cells → IsCell cells (at + 2) x → fin ≤ x → at ≡ end
leads_stops format cells fin at end x leads before is past = (stops_here format cells fin at end leads.todo leads.later leads.way before x is past).1

-- it leads on behind a piece whose number is below
pub leads_on : (format : Format) (cells : List (Option ℕ)) (fin at end x len next : ℕ) → Leads format cells fin at end → at < length cells → IsCell cells (at + 2) x → IsCell cells (at + 0) len → x < fin → next ≡ after_bytes format at len
    → Leads format cells fin next end
leads_on format cells fin at end x len next leads before is first below there =
    let goes = goes_here format cells fin at end leads.todo leads.later leads.way before x len is first below in
    record { todo = goes.rest; later = leads.later; way = subst (λ (n : ℕ). IsOnWay format cells fin n end goes.rest leads.later) (sym there) goes.way }

-- such a piece has the length of an entry
pub leads_long : (format : Format) (cells : List (Option ℕ)) (fin at end x len : ℕ) → Leads format cells fin at end → at < length cells → IsCell cells (at + 2) x → IsCell cells (at + 0) len → x < fin → IsEntryLength format len
leads_long format cells fin at end x len leads before is first below =
    let goes = goes_here format cells fin at end leads.todo leads.later leads.way before x len is first below in
    subst (λ (n : ℕ). IsEntryLength format n) (sym goes.len_is) goes.stands.readable.long

-- One turn.

-- where the number is not below `fin`, the reader has what it is owed
pub turn_stops : (format : Format) (cells : List (Option ℕ)) (fin db at x : ℕ) (channels : List (List ℕ)) (seen : List Tx) (got : List Delivery) → at < length cells → IsCell cells (at + 2) x → fin ≤ x
    → HasTurned format cells fin db channels seen at got got None
turn_stops format cells fin db at x channels seen got before is past = record {
  turns = λ end owed walks.
      let here = stops_here format cells fin at end walks.todo walks.later walks.way before x is past in
      (here.1, sym (append-nil got) ∙ ap (λ (ps : List Piece). got ++ give_all db channels (committed_by seen) ps) (sym here.0) ∙ walks.adds);
  more = [];
  after_is = sym (append-nil got);
}

-- the length of the piece is that of an entry
pub turn_long : (format : Format) (cells : List (Option ℕ)) (fin at end len : ℕ) (todo later : List Piece) → GoesOn format cells fin at end todo later len → IsEntryLength format len
turn_long format cells fin at end len todo later goes = subst (λ (n : ℕ). IsEntryLength format n) (sym goes.len_is) goes.stands.readable.long

-- the piece of the reader's database is an entry
entry_of_db : (format : Format) (cells : List (Option ℕ)) (at len db : ℕ) (seen : List Tx) (piece : Piece) → 0 < db → db_of piece ≡ db → StandsAt format cells at piece → len ≡ length (piece_bytes format piece)
    → IsNumbered FIRST_XID (next_xid seen) piece → HasEntryAt format cells at len db seen
entry_of_db format cells at len db seen (AnEntry note sender) some of_db stands long numbered = record {
  note = note;
  sender = sender;
  entry = record { stands = stands; long = long; of_db = of_db; numbered = numbered };
}
entry_of_db format cells at len db seen (AFiller n sender) some of_db stands long numbered = absurd (omega (arith, some, of_db))

-- on the way a piece of the listener's own database is an entry that may be due
pub turn_entry : (format : Format) (cells : List (Option ℕ)) (at d len db end : ℕ) (todo later : List Piece) (seen : List Tx) → GoesOn format cells (next_xid seen) at end todo later len → IsCell cells (at + 1) d → d ≡ db → 0 < db
    → HasEntryAt format cells at len db seen
turn_entry format cells at d len db end todo later seen goes is same some =
    entry_of_db format cells at len db seen goes.piece some (sym (db_at format cells at d goes.piece goes.stands is) ∙ same) goes.stands goes.len_is goes.numbered

-- the reader goes on, with what the piece gives
goes_with : (format : Format) (cells : List (Option ℕ)) (fin db at end len : ℕ) (channels : List (List ℕ)) (seen : List Tx) (got after owed : List Delivery) (walks : Walks format cells fin db channels seen at end got owed)
    → (goes : GoesOn format cells fin at end walks.todo walks.later len) → after ≡ got ++ gives db channels (committed_by seen) goes.piece
    → Turns format cells fin db channels seen at end after owed (Some (after_bytes format at len))
goes_with format cells fin db at end len channels seen got after owed walks goes is =
    let give = gives db channels (committed_by seen) goes.piece in
    let rest = give_all db channels (committed_by seen) goes.rest in (
      goes.further,
      record {
        todo = goes.rest;
        later = walks.later;
        way = goes.way;
        adds = ap (λ (l : List Delivery). l ++ rest) is ∙ append_assoc got give rest
            ∙ ap (λ (ps : List Piece). got ++ give_all db channels (committed_by seen) ps) (sym goes.todo_is) ∙ walks.adds;
      },
    )

-- past a piece of another database
pub turn_passes : (format : Format) (cells : List (Option ℕ)) (fin db at d x len : ℕ) (channels : List (List ℕ)) (seen : List Tx) (got : List Delivery) → at < length cells
    → IsCell cells (at + 2) x → IsCell cells (at + 1) d → IsCell cells (at + 0) len → x < fin → (d ≡ db → ⊥)
    → HasTurned format cells fin db channels seen at got got (Some (after_bytes format at len))
turn_passes format cells fin db at d x len channels seen got before is of_db first below other = record {
  turns = λ end owed walks.
      let goes = goes_here format cells fin at end walks.todo walks.later walks.way before x len is first below in
      let none : gives db channels (committed_by seen) goes.piece ≡ [] = gives_none db channels (committed_by seen) goes.piece (λ same. other (db_at format cells at d goes.piece goes.stands of_db ∙ same)) in
      goes_with format cells fin db at end len channels seen got got owed walks goes (sym (append-nil got) ∙ ap (λ l. got ++ l) (sym none));
  more = [];
  after_is = sym (append-nil got);
}

-- past an entry of its own
pub turn_takes : (format : Format) (cells : List (Option ℕ)) (db at d x len : ℕ) (channels : List (List ℕ)) (seen : List Tx) (got after : List Delivery) → at < length cells
    → IsCell cells (at + 2) x → IsCell cells (at + 1) d → IsCell cells (at + 0) len → x < next_xid seen → d ≡ db → 0 < db
    → IsWalking format cells (next_xid seen) db channels seen at got
    → ((note : Rattle.pgn_base.specs.declared.note.Note.Note) (sender : Rattle.pgn_journal.specs.Packing.Sender) → IsEntryAt format cells at len db seen note sender → after ≡ got ++ gives db channels (committed_by seen) (AnEntry note sender))
    → HasTurned format cells (next_xid seen) db channels seen at got after (Some (after_bytes format at len))
turn_takes format cells db at d x len channels seen got after before is of_db first below same some walking taken =
    let fin = next_xid seen in record {
      turns = λ end owed walks.
          let goes = goes_here format cells fin at end walks.todo walks.later walks.way before x len is first below in
          goes_with format cells fin db at end len channels seen got after owed walks goes (by_piece goes.piece some (sym (db_at format cells at d goes.piece goes.stands of_db) ∙ same) goes.stands goes.len_is goes.numbered taken);
      more = let goes = goes_here format cells fin at walking.end walking.walks.todo walking.walks.later walking.walks.way before x len is first below in gives db channels (committed_by seen) goes.piece;
      after_is =
          let goes = goes_here format cells fin at walking.end walking.walks.todo walking.walks.later walking.walks.way before x len is first below in
          by_piece goes.piece some (sym (db_at format cells at d goes.piece goes.stands of_db) ∙ same) goes.stands goes.len_is goes.numbered taken;
    }
  where
    by_piece : (piece : Piece) → 0 < db → db_of piece ≡ db → StandsAt format cells at piece → len ≡ length (piece_bytes format piece) → IsNumbered FIRST_XID (next_xid seen) piece
        → ((note : Rattle.pgn_base.specs.declared.note.Note.Note) (sender : Rattle.pgn_journal.specs.Packing.Sender) → IsEntryAt format cells at len db seen note sender → after ≡ got ++ gives db channels (committed_by seen) (AnEntry note sender))
        → after ≡ got ++ gives db channels (committed_by seen) piece
    by_piece (AnEntry note sender) some of_db stands long numbered taken = taken note sender (record { stands = stands; long = long; of_db = of_db; numbered = numbered })
    by_piece (AFiller n sender) some of_db stands long numbered taken = absurd (omega (arith, some, of_db))

-- a way that has come to the end of the cells gives nothing more
pub walks_there : (format : Format) (cells : List (Option ℕ)) (fin db : ℕ) (channels : List (List ℕ)) (seen : List Tx) (at end : ℕ) (got owed : List Delivery) → Walks format cells fin db channels seen at end got owed → length cells ≤ at
    → (at ≡ end) × (got ≡ owed)
walks_there format cells fin db channels seen at end got owed walks past =
    let there = ends_there format cells fin at end walks.todo walks.later walks.way past in
    (there.1, sym (append-nil got) ∙ ap (λ (ps : List Piece). got ++ give_all db channels (committed_by seen) ps) (sym there.0) ∙ walks.adds)
