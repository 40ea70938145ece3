-- Where a walk's way ends, what it loads up to there, and what it finds there.
use Rattle.std.proofs.Common.{◌≡◌, ℕ, ◌+◌, ◌-◌, ◌^◌, ◌<◌, ◌≤◌, true, List, [], ◌∷◌, ◌++◌, length, drop, slice_get, Option, Some, All, sym, refl, ap, ◌∙◌, subst, arith}
use Rattle.std.proofs.lemmas.List.{length-drop, get_or-drop}
use Rattle.std.proofs.lemmas.List.Elements.{All-head, All-drop}
use Rattle.std.proofs.lemmas.Option.{slice_get_within, get_or_from_slice_get, slice_get_read, slice_get-get_or}
use Rattle.pgn_base.specs.declared.format.Format.{Format}
use Rattle.pgn_base.specs.declared.format.Format.TheVariants.{One, Two}
use Rattle.pgn_journal.specs.declared.tx.Tx.{Tx}
use Rattle.pgn_journal.specs.Begins.{Begins}
use Rattle.pgn_journal.specs.Journal.{next_xid}
use Rattle.pgn_journal.specs.Bytes.{xid_bits}
use Rattle.pgn_journal.specs.Packing.{page_start, filled_cells, page_rest, entry_cells, image, place}
use Rattle.pgn_journal.specs.Pieces.{Piece, piece_bytes, number_of, lay, pieces_from, IsNumbered, IsReadable, IsWritten}
use Rattle.pgn_journal.proofs.BeginsLaws.{begins-continued, begins-holds, begins-shorter}
use Rattle.pgn_journal.proofs.DraftLaws.{longer_agrees}
use Rattle.pgn_journal.proofs.PackingLemmas.{room_place, place_grows, last_place}
use Rattle.pgn_journal.proofs.PieceLaws.{image_drops, image_is_laid, pieces_are_numbered, pieces_are_readable, third_cell}
use Rattle.pgn_words.specs.Views.{is_walking}
use Rattle.pgn_words.specs.Positions.{is_placed}
use Rattle.pgn_laws.specs.Words.{WalksReadTheFinished, WalksEndInTime}
use Rattle.pgn_words.proofs.LockKept.{setup_of}
use Rattle.pgn_words.proofs.WalkKept.{shown_few}

-- what stands in a list within a prefix of it stands in the prefix
held_before : {X : Type 0} (xs ys : List X) (k : ℕ) (y : X) → Begins xs ys → k < length xs → slice_get ys k ≡ Some y → slice_get xs k ≡ Some y
held_before xs ys k y begins within is =
    let one = slice_get-get_or xs k y within in one ∙ sym (begins-holds xs ys k _ begins one) ∙ is

-- what stands in the rest of a list stands in the list
held_behind : {X : Type 0} (n : ℕ) (xs : List X) (k : ℕ) (y : X) → slice_get (drop n xs) k ≡ Some y → slice_get xs (n + k) ≡ Some y
held_behind n xs k y is =
    let within = slice_get_within (drop n xs) k y is in
    let long = length-drop n xs in
    slice_get_read xs (length xs) (n + k) y refl (omega (arith, within, long)) (sym (get_or_from_slice_get (drop n xs) k y y is) ∙ get_or-drop n xs k y)

-- up to where a walk goes the cells are those of the finished journal
pub walks_read_finished : WalksReadTheFinished
walks_read_finished z c g views j v h there walks at x from before is =
    let way = h.walks.walking j v there walks in
    let has : is_placed v.post.listen ≡ true = ap is_placed way.0 in
    let kept = (h.posts.placed j v there has).1.kept in
    let seen = v.known.seen in
    let sees = h.history.sees j v there in
    let same = longer_agrees.places z.format seen g.past v.walk.upto sees way.2 in
    let up = place_grows z.format seen v.walk.upto (next_xid seen) way.2 in
    let last = last_place z.format seen (next_xid seen) (omega arith) in (
      held_before (image z.format seen) (image z.format g.past) at (Some x) (longer_agrees.images z.format seen g.past sees) (omega (arith, before, same, up, last)) is,
      h.stored.kept at x (omega (arith, kept, from)) (begins-holds (image z.format g.past) (image z.format g.shown) at (Some x) (longer_agrees.images z.format g.past g.shown h.history.begins) is),
    )

-- the third cell of the first of the pieces that lie at a place holds a number that all of them have at least
first_number : (format : Format) (cells : List (Option ℕ)) (pieces : List Piece) (n m at : ℕ) → drop at cells ≡ lay format at pieces → at < length cells → All (IsReadable format) pieces
    → All (IsNumbered n m) pieces → m ≤ 2 ^ 32 → (x : ℕ) × (n ≤ x) × (slice_get cells (at + 2) ≡ Some (Some x))
unfolding lay entry_cells
first_number format cells [] n m at laid before readable numbered few =
    let none : length (drop at cells) ≡ 0 = ap length laid in
    let left = length-drop at cells in absurd (omega (arith, none, left, before))
first_number format cells (piece ∷ pieces) n m at laid before readable numbered few =
    let filled = filled_cells (piece_bytes format piece) in
    let rest = page_rest format (at + length filled) in
    let more = lay format (at + length (entry_cells format at (piece_bytes format piece))) pieces in
    let x = number_of piece in
    let within = All-head (IsNumbered n m) piece pieces numbered in
    let small : x < 2 ^ 32 = omega (arith, within.high, few) in
    let third = third_cell format piece (All-head (IsReadable format) piece pieces readable) small in
    let one : slice_get (filled ++ rest) 2 ≡ Some (Some x) = begins-holds filled (filled ++ rest) 2 (Some x) (begins-continued filled rest) third in
    let two : slice_get (filled ++ rest ++ more) 2 ≡ Some (Some x) = begins-holds (filled ++ rest) (filled ++ rest ++ more) 2 (Some x) (begins-continued (filled ++ rest) more) one in
    (x, within.low, held_behind at cells 2 (Some x) (ap (λ (l : List (Option ℕ)). slice_get l 2) laid ∙ two))

-- the numbers of 32 bits fit in either format
bits_hold : (format : Format) → 2 ^ 32 ≤ 2 ^ xid_bits format
bits_hold One = omega arith
bits_hold Two = omega arith

-- the same of a journal, at the place of a number
number_there : (format : Format) (journal : List Tx) (n : ℕ) → 3 ≤ n → n ≤ next_xid journal → All IsWritten journal → next_xid journal < 2 ^ 32 → place format journal n < length (image format journal)
    → (x : ℕ) × (n ≤ x) × (slice_get (image format journal) (place format journal n + 2) ≡ Some (Some x))
number_there format journal n low high written few before =
    let at = place format journal n in
    let rest : List Tx = drop (n - 3) journal in
    let room = room_place format journal n in
    let long = length-drop (n - 3) journal in
    let most : n + length rest ≤ 2 ^ 32 = omega (arith, long, high, few) in
    let fits : n + length rest ≤ 2 ^ xid_bits format = omega (arith, most, bits_hold format) in
    first_number format (image format journal) (pieces_from format n at rest) n (n + length rest) at
    (image_drops format journal n low ∙ image_is_laid format n at rest room) before
    (pieces_are_readable format n at rest room (All-drop IsWritten (n - 3) journal written) fits)
    (pieces_are_numbered format n at rest) most

-- a walk finds its end before it comes to what is not finished
pub walks_end_in_time : WalksEndInTime
walks_end_in_time z c g views j v shape h there shown at is before =
    let way = h.walks.walking j v there (ap is_walking shown) in
    let forth : v.post.mark ≤ v.walk.upto = way.1 in
    let has : is_placed v.post.listen ≡ true = ap is_placed way.0 in
    let placed = h.posts.placed j v there has in
    let first = placed.1.least in
    let kept = placed.1.kept in
    let mine = placed.1.at_is in
    let longer = begins-shorter v.known.seen g.past (h.history.sees j v there) in
    let within : v.walk.upto ≤ next_xid g.past = let seen = way.2 in omega (arith, seen, longer) in
    let further = begins-shorter g.past g.shown h.history.begins in
    let there_is : at ≡ place z.format g.shown v.walk.upto = is ∙ sym (longer_agrees.places z.format g.past g.shown v.walk.upto h.history.begins within) in
    let ends = (h.walks.bounds j v there shown).1 in
    let headed = h.stored.headed in
    let inside : at < length (image z.format g.shown) = omega (arith, before, ends, headed) in
    let number = number_there z.format g.shown v.walk.upto (omega (arith, first, forth)) (omega (arith, within, further)) h.history.written
    (shown_few z c g views j v shape h there (setup_of z c g views j v h there placed.0))
    (subst (λ n. n < length (image z.format g.shown)) there_is inside) in
    let up = place_grows z.format g.past v.post.mark v.walk.upto forth in
    let from : page_start c.stop ≤ at + 2 = omega (arith, kept, mine, up, is) in
    let cell : slice_get (image z.format g.shown) (at + 2) ≡ Some (Some number.0) = ap (λ n. slice_get (image z.format g.shown) (n + 2)) there_is ∙ number.2 in
    let found = h.stored.kept (at + 2) number.0 from cell in
    let least = number.1 in omega (arith, least, found)
