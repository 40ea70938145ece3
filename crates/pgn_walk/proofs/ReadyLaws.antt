-- The rows of no channel.
use Rattle.std.proofs.Common.{◌≡◌, ◌==◌, true, false, List, [], ◌∷◌, length, fold, sym, ap, ◌∙◌, refl, subst, arith}
use Rattle.std.proofs.lemmas.Bool.{false≢true}
use Rattle.std.proofs.lemmas.Bool.Decides.{Decides-eqb}
use Rattle.pgn_journal.specs.declared.tx.Tx.{Tx}
use Rattle.pgn_language.specs.declared.scenario.Section.{Section}
use Rattle.pgn_model.specs.Walk.{Owed, State, after_item}
use Rattle.pgn_model.specs.Walk as walk
use Rattle.pgn_reading.specs.Completed.{ready, without_line}
use Rattle.pgn_walk.specs.declared.standing.Standing.{Standing}
use Rattle.pgn_ledger.specs.declared.to_show.ToShow.{ToShow}
use Rattle.pgn_ledger.specs.declared.to_show.ToShow.TheVariants as show
use Rattle.pgn_ledger.specs.ToShow.{ending_of, owed_of}
use Rattle.pgn_walk.specs.Standing.{Holds, behind, has_no_rows}
use Rattle.pgn_walk.proofs.StandingLaws.{holds_owed}

-- by what is left to show
ready_skips : (s : State) (left : ToShow) → s.owed ≡ owed_of left → has_no_rows left ≡ true → ready s ≡ record s { owed = owed_of (behind left) }
ready_skips s (show.Listing [] ending) e h = ap (λ (owed : Owed). fold after_item s (without_line owed)) e ∙ ap (λ (owed : Owed). walk.at_rows s owed) e
ready_skips s (show.Listing (name ∷ names) ending) e h =
    let some : (length (name ∷ names) == 0) ≡ true = h in
    let none : length (name ∷ names) ≡ 0 = (Decides-eqb (length (name ∷ names)) 0).0 some in
    absurd (omega (arith, none))
ready_skips s show.Nothing e h = absurd (false≢true h)
ready_skips s (show.Enlisting actions notes ending) e h = absurd (false≢true h)
ready_skips s (show.Queueing actions notes ending) e h = absurd (false≢true h)
ready_skips s (show.Leaving ending) e h = absurd (false≢true h)
ready_skips s (show.Answering ending) e h = absurd (false≢true h)
ready_skips s (show.Measuring ending) e h = absurd (false≢true h)
ready_skips s (show.Raising flag) e h = absurd (false≢true h)
ready_skips s (show.Awaiting flag) e h = absurd (false≢true h)
ready_skips s show.Quitting e h = absurd (false≢true h)

-- the same state where nothing is put in
same : (s : State) (owed : Owed) → s.owed ≡ owed → without_line owed ≡ [] → ready s ≡ s
same s owed e h = ap (λ (o : Owed). fold after_item s (without_line o)) e ∙ ap (λ items. fold after_item s items) h

ready_stays : (s : State) (left : ToShow) → s.owed ≡ owed_of left → has_no_rows left ≡ false → ready s ≡ s
ready_stays s (show.Listing [] ending) e h = absurd (false≢true (sym h ∙ (Decides-eqb 0 0).1 refl))
ready_stays s (show.Listing (name ∷ names) ending) e h = same s (walk.Listing (name ∷ names) (ending_of ending)) e refl
ready_stays s show.Nothing e h = same s walk.Nothing e refl
ready_stays s (show.Enlisting actions notes ending) e h = same s (walk.Enlisting actions notes (ending_of ending)) e refl
ready_stays s (show.Queueing actions notes ending) e h = same s (walk.Queueing actions notes (ending_of ending)) e refl
ready_stays s (show.Leaving ending) e h = same s (walk.Leaving (ending_of ending)) e refl
ready_stays s (show.Answering ending) e h = same s (walk.Answering (ending_of ending)) e refl
ready_stays s (show.Measuring ending) e h = same s (walk.Measuring (ending_of ending)) e refl
ready_stays s (show.Raising flag) e h = same s (walk.Raising flag) e refl
ready_stays s (show.Awaiting flag) e h = same s (walk.Awaiting flag) e refl
ready_stays s show.Quitting e h = same s walk.Quitting e refl

-- a walk that owes rows of which there are none passes them over, as the state does
pub ready_with : (section : Section) (journal : List Tx) (at : Standing) (s : State) → has_no_rows at.owed ≡ true → Holds section journal at s → Holds section journal (record at { owed = behind at.owed }) (ready s)
ready_with section journal at s none h =
    subst (λ (t : State). Holds section journal (record at { owed = behind at.owed }) t) (sym (ready_skips s at.owed h.owed none)) (holds_owed section journal at s (behind at.owed) (owed_of (behind at.owed)) h refl)

-- each other walk stays where it stands
pub ready_without : (section : Section) (journal : List Tx) (at : Standing) (s : State) → has_no_rows at.owed ≡ false → Holds section journal at s → Holds section journal at (ready s)
ready_without section journal at s some h = subst (λ (t : State). Holds section journal at t) (sym (ready_stays s at.owed h.owed some)) h
