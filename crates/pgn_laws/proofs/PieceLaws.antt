-- Proofs of the laws of the pieces of a journal.
use Rattle.std.proofs.Common.{◌≡◌, ℕ, suc, ◌+◌, ◌-◌, ◌<◌, ◌≤◌, List, [], ◌∷◌, ◌++◌, length, get_or, sym, ap, ◌∙◌, refl, arith, inl, inr}
use Rattle.std.specs.Prelude.{All}
use Rattle.std.specs.List.{flat_map}
use Rattle.std.specs.List.Sorted.{IsNonDecreasingBy}
use Rattle.std.specs.Int.{w32, from_le_bytes}
use Rattle.std.proofs.lemmas.Bool.{cases_lt}
use Rattle.std.proofs.lemmas.List.{length-append, get_or_append_left, get_or-append_right}
use Rattle.std.proofs.lemmas.List.Elements.{All-head, All-tail, All-weaker}
use Rattle.std.proofs.lemmas.Nat.{le_bytes_4}
use Rattle.pgn_base.specs.declared.format.Format.{Format}
use Rattle.pgn_journal.specs.Bytes.{page_bytes, four_bytes}
use Rattle.pgn_journal.specs.Packing.{Sender, filled_cells, after}
use Rattle.pgn_journal.specs.Pieces.{Piece, AnEntry, AFiller, number_of, tx_pieces, pieces_from, IsNumbered, IsReadable}
use Rattle.pgn_journal.specs.laws.Pieces.{TransactionsArePacked, JournalTellsFates, NumbersRise, PieceReadsBack, NumbersGiveBytes}
use Rattle.pgn_journal.proofs.BeginsLaws.{begins-itself}
use Rattle.pgn_journal.proofs.BytesLemmas.{reads_back, none_is_filler, filler_reads_back}
use Rattle.pgn_journal.proofs.PackingLemmas.{folds, four_below}
use Rattle.pgn_journal.proofs.PieceLaws.{told_part, OfNumber, numbers_tx, pieces_are_numbered, stated}

-- the arithmetic counts the cells of all transactions
pub transactions_are_packed : TransactionsArePacked
transactions_are_packed = folds

-- the fates of a journal's transactions are those that it tells by their numbers
pub journal_tells_fates : JournalTellsFates
journal_tells_fates journal m low = told_part journal journal m (begins-itself journal) low

-- numbers that are the same, and then others that rise and are no smaller
rise_append : (x : ℕ) (pieces more : List Piece) → All (OfNumber x) pieces → All (λ piece. x ≤ number_of piece) more
    → IsNonDecreasingBy number_of more → IsNonDecreasingBy number_of (pieces ++ more)
unfolding OfNumber
rise_append x pieces more same above rise = λ i j d le lt.
    let n = length pieces in
    let both : j < n + length more = omega (arith, lt, length-append pieces more) in
    elim (cases_lt j n) as (λ _. number_of (get_or (pieces ++ more) i d) ≤ number_of (get_or (pieces ++ more) j d)) [
      | inl here ↦
          let a : number_of (get_or (pieces ++ more) i d) ≡ x = ap number_of (get_or_append_left pieces more d i (omega (arith, here))) ∙ same i d (omega (arith, here)) in
          let b : number_of (get_or (pieces ++ more) j d) ≡ x = ap number_of (get_or_append_left pieces more d j here) ∙ same j d here in
          omega (arith, a, b)
      | inr later ↦
          let b : number_of (get_or (pieces ++ more) j d) ≡ number_of (get_or more (j - n) d) = ap number_of (get_or-append_right pieces more n j d refl later) in
          elim (cases_lt i n) as (λ _. number_of (get_or (pieces ++ more) i d) ≤ number_of (get_or (pieces ++ more) j d)) [
            | inl first ↦
                let a : number_of (get_or (pieces ++ more) i d) ≡ x = ap number_of (get_or_append_left pieces more d i first) ∙ same i d first in
                let up : x ≤ number_of (get_or more (j - n) d) = above (j - n) d (omega (arith, both, later)) in
                omega (arith, a, b, up)
            | inr past ↦
                let a : number_of (get_or (pieces ++ more) i d) ≡ number_of (get_or more (i - n) d) = ap number_of (get_or-append_right pieces more n i d refl past) in
                let up : number_of (get_or more (i - n) d) ≤ number_of (get_or more (j - n) d) = rise (i - n) (j - n) d (omega (arith, le)) (omega (arith, both, later)) in
                omega (arith, a, b, up)
          ]
    ]

-- the numbers of pieces do not fall
pub numbers_rise : NumbersRise
unfolding pieces_from
numbers_rise format x at [] = λ i j d le lt. absurd (omega (arith, lt))
numbers_rise format x at (tx ∷ txs) =
    let here = tx_pieces format x at tx in
    let later = pieces_from format (x + 1) (after format at tx) txs in
    rise_append x here later (numbers_tx format x at tx)
    (All-weaker (IsNumbered (x + 1) ((x + 1) + length txs)) (λ piece. x ≤ number_of piece) (λ piece h. omega (arith, h.low)) later (pieces_are_numbered format (x + 1) (after format at tx) txs))
    (numbers_rise format (x + 1) (after format at tx) txs)

-- the same sender
same_sender : (s t : Sender) → s.db ≡ t.db → s.xid ≡ t.xid → s.pid ≡ t.pid → s ≡ t
same_sender s t db xid pid =
    ap (λ (n : ℕ). let one : Sender = record { db = n; xid = s.xid; pid = s.pid } in one) db
    ∙ ap (λ (n : ℕ). let one : Sender = record { db = t.db; xid = n; pid = s.pid } in one) xid
    ∙ ap (λ (n : ℕ). let one : Sender = record { db = t.db; xid = t.xid; pid = n } in one) pid

-- the length of a filler that is read back
filler_fits : (format : Format) (len : ℕ) (sender : Sender) → IsReadable format (AFiller len sender) → len ≤ page_bytes
filler_fits format len sender sound = omega (arith, stated format (AFiller len sender) sound, sound.long.fits)

-- one piece alone is spelled by the bytes that begin with it
pub piece_reads_back : PieceReadsBack
piece_reads_back format (AnEntry a s) (AnEntry b t) rest rest' p q e =
    let same = reads_back format a b s.db t.db s.xid t.xid s.pid t.pid rest rest' p.content.0 q.content.0 p.head q.head e in
    ((same.same_note, same_sender s t same.same_db same.same_xid same.same_pid), same.same_rest)
piece_reads_back format (AnEntry a s) (AFiller len t) rest rest' p q e = absurd (none_is_filler format a s.db s.xid s.pid len t.xid t.pid rest rest' p.content.1 p.head.db_fits e)
piece_reads_back format (AFiller len s) (AnEntry b t) rest rest' p q e = absurd (none_is_filler format b t.db t.xid t.pid len s.xid s.pid rest' rest q.content.1 q.head.db_fits (sym e))
piece_reads_back format (AFiller len s) (AFiller len' t) rest rest' p q e =
    let same = filler_reads_back format len len' s.xid t.xid s.pid t.pid rest rest' (filler_fits format len s p) (filler_fits format len' t q) p.head q.head e in
    ((same.same_len, same.same_xid, same.same_pid), same.same_rest)

-- the numbers in the cells of bytes tell the bytes
pub numbers_give_bytes : NumbersGiveBytes
unfolding filled_cells
numbers_give_bytes [] [] whole small long holds = refl
numbers_give_bytes [] (n ∷ numbers) whole small long holds = absurd (omega (arith, long))
numbers_give_bytes (a ∷ []) numbers whole small long holds = absurd (omega (arith, whole))
numbers_give_bytes (a ∷ b ∷ []) numbers whole small long holds = absurd (omega (arith, whole))
numbers_give_bytes (a ∷ b ∷ c ∷ []) numbers whole small long holds = absurd (omega (arith, whole))
numbers_give_bytes (a ∷ b ∷ c ∷ d ∷ bytes) [] whole small long holds = absurd (omega (arith, long))
numbers_give_bytes (a ∷ b ∷ c ∷ d ∷ bytes) (n ∷ numbers) whole small long holds =
    let P : ℕ → Type 0 = λ byte. byte < 256 in
    let from_b = All-tail P a (b ∷ c ∷ d ∷ bytes) small in
    let from_c = All-tail P b (c ∷ d ∷ bytes) from_b in
    let from_d = All-tail P c (d ∷ bytes) from_c in
    let rest = All-tail P d bytes from_d in
    let each = four_below a b c d (All-head P a (b ∷ c ∷ d ∷ bytes) small) (All-head P b (c ∷ d ∷ bytes) from_b) (All-head P c (d ∷ bytes) from_c) (All-head P d bytes from_d) in
    let same : n ≡ from_le_bytes w32 (a ∷ b ∷ c ∷ d ∷ []) = holds 0 (from_le_bytes w32 (a ∷ b ∷ c ∷ d ∷ [])) refl in
    let four : four_bytes n ≡ a ∷ b ∷ c ∷ d ∷ [] = le_bytes_4 (a ∷ b ∷ c ∷ d ∷ []) n refl each same in
    let more : flat_map four_bytes numbers ≡ bytes = numbers_give_bytes bytes numbers (omega (arith, whole)) rest (omega (arith, long)) (λ k m e. holds (suc k) m e) in
    ap (λ (front : List ℕ). front ++ flat_map four_bytes numbers) four ∙ ap (λ (ys : List ℕ). a ∷ b ∷ c ∷ d ∷ ys) more
