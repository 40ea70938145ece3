-- The pieces of the worked examples, step by step.
use Rattle.std.proofs.Common.{◌≡◌, ℕ, ◌+◌, cond, List, [], ◌∷◌, ◌++◌, ap, ◌∙◌}
use Rattle.std.specs.Str.{byte}
use Rattle.pgn_base.specs.declared.format.Format.{Format}
use Rattle.pgn_base.specs.declared.format.Format.TheVariants.{One}
use Rattle.pgn_journal.specs.Bytes.{header_bytes, aligned}
use Rattle.pgn_journal.specs.Packing.{Sender, bytes_left, fits, put, after_bytes, after_rest, put_bytes}
use Rattle.pgn_journal.specs.Pieces.{Piece, AnEntry, AFiller, note_pieces, notes_pieces, end_pieces, tx_pieces, pieces_from}
use Rattle.pgn_examples.specs.Packing.{letters, filler_journal}
use Rattle.pgn_examples.specs.Pieces.{by, filler_pieces}
use Rattle.pgn_examples.proofs.PackingSteps.{length-letters, put_letters, first_put}

-- the pieces of a notification by the number of letters alone
pieces_letters : (format : Format) (sender : Sender) (at letter count : ℕ)
    → note_pieces format sender at (letters letter count) ≡ cond (fits at (aligned format (header_bytes format + 3 + count))) (AnEntry (letters letter count) sender ∷ []) (AFiller (bytes_left at) sender ∷ AnEntry (letters letter count) sender ∷ [])
unfolding note_pieces
pieces_letters format sender at letter count =
    let note = letters letter count in
    ap (λ n. cond (fits at n) (AnEntry note sender ∷ []) (AFiller (bytes_left at) sender ∷ AnEntry note sender ∷ [])) (length-letters format letter count)

second_put : put One 2005 (letters (byte "x") 133) ≡ 2043
unfolding put_bytes after_bytes after_rest
second_put = put_letters One 2005 (byte "x") 133

-- the pieces of three notifications of letters, by the places where they begin
three : (sender : Sender) (p q i j k : ℕ) → put One 0 (letters (byte "x") i) ≡ p → put One p (letters (byte "x") j) ≡ q
    → notes_pieces One sender 0 (letters (byte "x") i ∷ letters (byte "x") j ∷ letters (byte "x") k ∷ [])
    ≡ note_pieces One sender 0 (letters (byte "x") i) ++ (note_pieces One sender p (letters (byte "x") j) ++ (note_pieces One sender q (letters (byte "x") k) ++ []))
unfolding notes_pieces
three sender p q i j k first second =
    let here = note_pieces One sender 0 (letters (byte "x") i) in
    let b = letters (byte "x") j in
    let c = letters (byte "x") k in
    ap (λ at. here ++ (note_pieces One sender at b ++ (note_pieces One sender (put One at b) c ++ []))) first ∙ ap (λ at. here ++ (note_pieces One sender p b ++ (note_pieces One sender at c ++ []))) second

filler_notes : notes_pieces One (by 1 3 1002) 0 (letters (byte "x") 7999 ∷ letters (byte "x") 133 ∷ letters (byte "x") 5 ∷ []) ≡ filler_pieces
filler_notes =
    let sender = by 1 3 1002 in
    let first = pieces_letters One sender 0 (byte "x") 7999 in
    let second = pieces_letters One sender 2005 (byte "x") 133 in
    let third = pieces_letters One sender 2043 (byte "x") 5 in
    let b = note_pieces One sender 2005 (letters (byte "x") 133) in
    let c = note_pieces One sender 2043 (letters (byte "x") 5) in
    three sender 2005 2043 7999 133 5 first_put second_put ∙ ap (λ (ps : List Piece). ps ++ (b ++ (c ++ []))) first
    ∙ ap (λ (ps : List Piece). AnEntry (letters (byte "x") 7999) sender ∷ (ps ++ (c ++ []))) second
    ∙ ap (λ (ps : List Piece). AnEntry (letters (byte "x") 7999) sender ∷ AnEntry (letters (byte "x") 133) sender ∷ (ps ++ [])) third

-- the pieces of the example with a filler
pub pieces-filler : pieces_from One 3 0 filler_journal ≡ filler_pieces
unfolding pieces_from tx_pieces end_pieces
pieces-filler = ap (λ (ps : List Piece). (ps ++ []) ++ []) filler_notes
