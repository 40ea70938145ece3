-- Places and images of a journal that grows, and how large they can be.
use Rattle.std.proofs.Common.{◌≡◌, ℕ, ◌+◌, ◌*◌, ◌^◌, ◌<◌, ◌≤◌, true, false, cond, List, [], ◌∷◌, ◌++◌, length, take, All, sym, ◌∙◌, subst, arith}
use Rattle.std.proofs.lemmas.List.{length-take}
use Rattle.std.proofs.lemmas.List.Elements.{All-head, All-tail, All-take}
use Rattle.pgn_base.specs.declared.format.Format.{Format}
use Rattle.pgn_base.specs.declared.note.Note.{Note}
use Rattle.pgn_base.specs.Notes.{IsNote}
use Rattle.pgn_journal.specs.declared.tx.Tx.{Tx}
use Rattle.pgn_journal.specs.declared.tx.Fate.{Fate}
use Rattle.pgn_journal.specs.declared.tx.Fate.TheVariants.{Committed, Aborted}
use Rattle.pgn_journal.specs.Begins.{Begins}
use Rattle.pgn_journal.specs.Journal.{next_xid, IsFinished}
use Rattle.pgn_journal.specs.Packing.{next_page, is_page_start, image, put, put_all, ended, after}
use Rattle.pgn_journal.specs.Pieces.{draft, IsWritten}
use Rattle.pgn_hub.specs.Shape.{Shape}
use Rattle.pgn_journal.proofs.PackingLemmas.{put_takes, place_bound, last_place, places_agree}
use Rattle.pgn_journal.proofs.DraftLaws.{one_more_image}
use Rattle.pgn_words.specs.Rule.{notes_of}
use Rattle.pgn_words.specs.ListenRule.{IsPlaced, IsLeast}
use Rattle.pgn_words.specs.Positions.{mark_in}

-- a prefix of what was written was written
pub written_part : (past shown : List Tx) → Begins past shown → All IsWritten shown → All IsWritten past
written_part past shown begins all = subst (λ (txs : List Tx). All IsWritten txs) begins.is (All-take IsWritten (length past) shown all)

put_all_bound : (format : Format) (at : ℕ) (notes : List Note) → All IsNote notes → put_all format at notes ≤ at + 4096 * length notes
put_all_bound format at [] h = omega arith
put_all_bound format at (note ∷ notes) h =
    let first = put_takes format at note (All-head IsNote note notes h) in
    omega (arith, first.1, put_all_bound format (put format at note) notes (All-tail IsNote note notes h))

ended_bound : (fate : Fate) (at : ℕ) → ended fate at ≤ at + 2048
unfolding ended
ended_bound Committed at = omega arith
ended_bound Aborted at = elim (is_page_start at) as (λ b. cond b at (next_page at) ≤ at + 2048) [ true ↦ omega arith | false ↦ omega arith ]

after_bound : (format : Format) (at session db : ℕ) (notes : List Note) (queued : ℕ) (fate : Fate) → All IsNote notes → after format at (draft session db notes queued fate) ≤ at + 4096 * length notes + 2048
unfolding after
after_bound format at session db notes queued fate h =
    let placed = put_all_bound format at (take queued notes) (All-take IsNote queued notes h) in
    omega (arith, placed, ended_bound fate (put_all format at (take queued notes)), length-take queued notes)

-- how far a journal reaches
pub image_bound : (format : Format) (past : List Tx) → All IsFinished past → length (image format past) ≤ 4096 * notes_of past
image_bound format past finished = let last = last_place format past (next_xid past) (omega arith) in let low = place_bound format past (next_xid past) finished in omega (arith, last, low)

-- and with a transaction that is not finished
pub shown_bound : (z : Shape) (past : List Tx) (session db : ℕ) (notes : List Note) (queued : ℕ) (fate : Fate) (all : ℕ) → All IsFinished past → All IsNote notes → notes_of past + length notes ≤ all
    → length (image z.format (past ++ draft session db notes queued fate ∷ [])) ≤ 4096 * all + 2048
shown_bound z past session db notes queued fate all finished valid few =
    let long = one_more_image.ends z.format past (draft session db notes queued fate) in
    let here = image_bound z.format past finished in
    let more = after_bound z.format (length (image z.format past)) session db notes queued fate valid in omega (arith, long, here, more, few)

-- with one more transaction a journal's end has 32 bits, as long as there are at most 1,048,575 notifications
pub shown_low : (z : Shape) (past : List Tx) (session db : ℕ) (notes : List Note) (queued : ℕ) (fate : Fate) → All IsFinished past → All IsNote notes → notes_of past + length notes ≤ 1048575
    → length (image z.format (past ++ draft session db notes queued fate ∷ [])) < 2 ^ 32
shown_low z past session db notes queued fate finished valid few = let bound = shown_bound z past session db notes queued fate 1048575 finished valid few in omega (arith, bound)

-- the places of a journal stay where it grows
pub placed_grows : (format : Format) (past more : List Tx) (fin fin' stop mark at : ℕ) → fin ≡ next_xid past → fin ≤ fin' → IsPlaced format past fin stop mark at → IsPlaced format (past ++ more) fin' stop mark at
placed_grows format past more fin fin' stop mark at counted further p = record {
  at_is = p.at_is ∙ sym (places_agree format past more mark (let most = p.most in omega (arith, most, counted)));
  least = p.least;
  most = let most = p.most in omega (arith, most, further);
  kept = p.kept;
  low = p.low;
}

-- a least position over a journal is one over a longer journal too
pub least_grows : (format : Format) (past more : List Tx) (fin fin' least : ℕ) → fin ≡ next_xid past → fin ≤ fin' → IsLeast format past fin least → IsLeast format (past ++ more) fin' least
least_grows format past more fin fin' least counted further p = record {
  at_is = p.at_is ∙ sym (places_agree format past more (mark_in least) (let most = p.most in omega (arith, most, counted)));
  first = p.first;
  most = let most = p.most in omega (arith, most, further);
}
