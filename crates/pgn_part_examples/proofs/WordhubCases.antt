-- The definitions of this crate refuse the small cases.
use Rattle.std.proofs.Common.{◌≡◌, ℕ, ◌≤◌, Bool, true, false, get_or, [], ◌∷◌, List, length, Option, Some, None, refl, ap, arith}
use Rattle.std.proofs.lemmas.List.Elements.{All-head}
use Rattle.pgn_base.specs.declared.format.Format.{Format}
use Rattle.pgn_base.specs.declared.format.Format.TheVariants.{One}
use Rattle.pgn_base.specs.declared.note.Delivery.{Delivery}
use Rattle.pgn_journal.specs.declared.tx.Tx.{Tx}
use Rattle.pgn_journal.specs.Packing.{image, image_from}
use Rattle.pgn_journal.specs.Pieces.{Piece, AFiller, piece_bytes, number_of, IsNumbered}
use Rattle.pgn_journal.proofs.BytesLemmas.{length-spelled}
use Rattle.pgn_journal.proofs.PackingLemmas.{entry_whole}
use Rattle.pgn_journal.proofs.PieceLaws.{first_cells}
use Rattle.pgn_part_examples.specs.Hub.{two_seats, note_a, tx_3, got_a}
use Rattle.pgn_words.specs.declared.view.View.{View}
use Rattle.pgn_words.specs.declared.view.Verdict.{Verdict}
use Rattle.pgn_words.specs.declared.view.Verdict.TheVariants.{Unseen, Decided}
use Rattle.pgn_words.specs.declared.view.Listen.TheVariants.{Joining}
use Rattle.pgn_part_examples.specs.Words.{listener, holder}
use Rattle.pgn_wordhub.specs.Passes.{IsHubView}
use Rattle.pgn_wordhub.specs.Walks.{StandsAt, IsCell, IsOnWay, Leads, HasWay, Walks, IsWalking, Turns, HasTurned, HasEntry, ArePartsOf, IsDueEntry, HasDueEntry, IsEntryAt, HasEntryAt}
use Rattle.pgn_wordhub.specs.Wakes.{IsWaiting, AreConcerned, IsAtHead}
use Rattle.pgn_wordhub.specs.Placing.{IsPlacing, HasWritten, IsHeldUp}
use Rattle.pgn_wordhub.specs.Floors.{IsFloorOf}
use Rattle.pgn_wordhub.specs.Looks.{HasCome, HasSeenFirst, HasSeenSecond, HasSeenSome}
use Rattle.pgn_wordhub.specs.Advancing.{HasAdvancedTo, HasTried}
use Rattle.pgn_wordhub.specs.Finishing.{HasCommitted, HasEnded}
use Rattle.pgn_part_examples.specs.Wordhub.{first_pass, third_pass, told_of_3, stored_one, writing, undecided_one, loaded_one, aborted_one, first_look, tail_is_late, one_seen, none_freed, sender_3, other_db, far_sender}
use Rattle.pgn_wordhub.proofs.WayLaws.{cell_of}

pub no_holder : IsHubView two_seats holder → ⊥
no_holder h = let free = h.rest.free in absurd (cc)

pub no_unknown_mark : IsHubView two_seats listener → ⊥
no_unknown_mark h = let listens = h.rest.listens in absurd (cc)

pub no_third : IsHubView two_seats third_pass → ⊥
no_third h = h.seated.seat

pub no_verdict : IsHubView two_seats (record first_pass { verdicts = Unseen ∷ [] }) → ⊥
no_verdict h = let decided = h.rest.decided in absurd (cc)

pub none_told : IsHubView two_seats (record first_pass { ended = Some 4 }) → ⊥
none_told h = let told = h.rest.told in absurd (cc)

pub none_joining : IsHubView two_seats (record first_pass { post = record first_pass.post { listen = Joining } }) → ⊥
none_joining h = let settled = h.rest.settled in absurd (cc)

-- no piece stands where there are no cells
pub nothing_stands : (format : Format) (piece : Piece) → StandsAt format [] 0 piece → ⊥
nothing_stands format piece h = let there = cell_of format [] 0 0 (length (piece_bytes format piece)) piece h (first_cells.first format piece h.readable) in absurd (cc)

pub no_far_number : (format : Format) (cells : List (Option ℕ)) (at : ℕ) → StandsAt format cells at (AFiller 32 far_sender) → ⊥
no_far_number format cells at h = let small = h.small in omega (arith, small)

pub no_other_cell : IsCell (Some 44 ∷ []) 0 45 → ⊥
no_other_cell h = let same = h 44 refl in omega (arith, same)

pub not_unfinished : (format : Format) (cells : List (Option ℕ)) (end : ℕ) → IsOnWay format cells 3 0 end (AFiller 8 sender_3 ∷ []) [] → ⊥
not_unfinished format cells end h = let first = All-head (IsNumbered 3 3) (AFiller 8 sender_3) [] h.below in let high = first.high in omega (arith, high)

pub not_left_out : (format : Format) (cells : List (Option ℕ)) (end : ℕ) → IsOnWay format cells 4 0 end [] (AFiller 8 sender_3 ∷ []) → ⊥
not_left_out format cells end h = let first = All-head (λ piece. 4 ≤ number_of piece) (AFiller 8 sender_3) [] h.above in omega (arith, first)

pub not_past_the_head : (format : Format) → Leads format [] 3 1 1 → ⊥
not_past_the_head format h = let within = h.way.within in omega (arith, within)

pub no_way : (format : Format) → HasWay format [] 3 1 → ⊥
no_way format h = let within = h.leads.way.within in omega (arith, within)

pub no_walk : (format : Format) (owed : List Delivery) → Walks format [] 3 1 [] [] 1 1 [] owed → ⊥
no_walk format owed h = let within = h.way.within in omega (arith, within)

pub none_walking : (format : Format) → IsWalking format [] 3 1 [] [] 1 [] → ⊥
none_walking format h = let within = h.walks.way.within in omega (arith, within)

pub no_early_end : (format : Format) → Turns format [] 3 1 [] [] 0 1 [] [] None → ⊥
no_early_end format h = let there = h.0 in omega (arith, there)

pub no_stay : (format : Format) → Turns format [] 3 1 [] [] 0 1 [] [] (Some 0) → ⊥
no_stay format h = let on = h.0 in omega (arith, on)

pub nothing_taken_back : (format : Format) → HasTurned format [] 3 1 [] [] 0 (got_a ∷ []) [] None → ⊥
nothing_taken_back format h = let after = h.after_is in absurd (cc)

pub no_empty_entry : (format : Format) → HasEntry format [] → ⊥
no_empty_entry format h =
    let long = length-spelled format h.note h.sender.db h.sender.xid h.sender.pid in
    let some = entry_whole format h.note in
    let none = ap length h.spelling in
    let least = some.1 in omega (arith, long, least, none)

pub no_other_number : (pid : ℕ) (channel payload : List ℕ) → ArePartsOf note_a sender_3 4 pid channel payload → ⊥
no_other_number pid channel payload h = let number = h.xid_is in omega (arith, number)

pub no_other_database : (format : Format) (seen : List Tx) (bytes : List ℕ) → IsDueEntry format 1 seen bytes note_a other_db → ⊥
no_other_database format seen bytes h = let db = h.of_db in omega (arith, db)

pub none_due_unfinished : (format : Format) (bytes : List ℕ) → HasDueEntry format 1 [] bytes → ⊥
none_due_unfinished format bytes h = let low = h.due.numbered.low in let high = h.due.numbered.high in omega (arith, low, high)

pub no_entry_of_another : (format : Format) (cells : List (Option ℕ)) (len : ℕ) (seen : List Tx) → IsEntryAt format cells 0 len 1 seen note_a other_db → ⊥
no_entry_of_another format cells len seen h = let db = h.of_db in omega (arith, db)

pub no_entry_unfinished : (format : Format) (cells : List (Option ℕ)) (len : ℕ) → HasEntryAt format cells 0 len 1 [] → ⊥
no_entry_unfinished format cells len h = let low = h.entry.numbered.low in let high = h.entry.numbered.high in omega (arith, low, high)

pub not_unshown : (placed at : ℕ) → IsPlacing stored_one [] placed at → ⊥
not_unshown placed at h = let fresh = h.fresh in absurd (cc)

pub not_ahead : IsPlacing writing [] 0 1 → ⊥
not_ahead h = let end = h.end in omega (arith, end)

pub not_told : HasWritten first_pass told_of_3 → ⊥
not_told h = let told = ap (λ (v : View). v.known.told) h.view in omega (arith, told)

pub not_all : (at mark floor : ℕ) (holder : Option ℕ) → IsHeldUp two_seats writing writing 2 2 at mark floor holder → ⊥
not_all at mark floor holder h = let left = h.left in omega (arith, left)

pub no_page_left : (mark floor : ℕ) (holder : Option ℕ) → IsHeldUp two_seats writing writing 2 0 4095 mark floor holder → ⊥
no_page_left mark floor holder h = let none = h.no_page in omega (arith, none)

pub not_undecided : HasCommitted writing undecided_one tx_3 → ⊥
not_undecided h = let first = All-head (λ (verdict : Verdict). verdict ≡ Decided) Unseen [] h.decided in absurd (cc)

pub not_ended_undecided : HasEnded writing undecided_one → ⊥
not_ended_undecided h = let first = All-head (λ (verdict : Verdict). verdict ≡ Decided) Unseen [] h.decided in absurd (cc)

pub not_still_open : HasEnded writing writing → ⊥
not_still_open h = let phase = ap (λ (v : View). v.phase) h.view in absurd (cc)

pub not_past_the_number : (least at : ℕ) → IsFloorOf One [] [] least 4 at None → ⊥
not_past_the_number least at h = let below = h.floor.below in omega (arith, below)

-- a floor is not past a mark that was met
pub not_past_a_mark : (least at : ℕ) → IsFloorOf One (tx_3 ∷ []) ((1, 3) ∷ []) least 4 at None → ⊥
not_past_a_mark least at h = let low = All-head (λ (pair : ℕ × ℕ). 4 ≤ pair.1) (1, 3) [] h.floor.least in omega (arith, low)

pub own_seat_shows : HasCome 1 (Some 3) 1 (None ∷ []) → ⊥
own_seat_shows h = let there = h.own_met (omega arith) in let within = there.1 in omega (arith, within)

pub own_seat_shows_none : HasCome 1 None 1 (Some 3 ∷ []) → ⊥
own_seat_shows_none h = let there = All-head (λ (pair : ℕ × ℕ). pair.0 ≡ 1 → None ≡ Some pair.1) (1, 3) [] h.own refl in absurd (cc)

pub no_seat_left_out : HasCome 1 None 2 (None ∷ []) → ⊥
no_seat_left_out h = let long = h.long in omega (arith, long)

pub not_the_second : (mark at : ℕ) (holder : Option ℕ) → HasSeenFirst one_seen one_seen 1 mark at holder → ⊥
not_the_second mark at holder h = let look = h.look in absurd (cc)

pub no_late_tail : (mark at : ℕ) (holder : Option ℕ) → HasSeenSecond tail_is_late tail_is_late 0 mark at holder → ⊥
no_late_tail mark at holder h = let announced = h.announced refl in omega (arith, announced)

pub not_the_first : HasSeenSome first_look first_look → ⊥
not_the_first h = let look = h.look in absurd (cc)

pub all_seats : (mark at : ℕ) (holder : Option ℕ) → HasAdvancedTo two_seats first_pass one_seen mark at holder → ⊥
all_seats mark at holder h = let all = h.all in omega (arith, all)

pub no_page_kept : (mark at : ℕ) (holder : Option ℕ) → HasAdvancedTo two_seats first_pass none_freed mark at holder → ⊥
no_page_kept mark at holder h = let kept = h.kept in omega (arith, kept)

pub not_told_by_looks : HasTried first_pass told_of_3 → ⊥
not_told_by_looks h = let told = ap (λ (v : View). v.known.told) h.view in omega (arith, told)

pub not_signalling : IsWaiting two_seats holder → ⊥
not_signalling h = let phase = h.phase in absurd (cc)

pub both_seats : IsWaiting two_seats undecided_one → ⊥
both_seats h = let all = ap length h.all in omega (arith, all)

pub not_loaded : IsWaiting two_seats loaded_one → ⊥
not_loaded h = let may : ◌≡◌ {A = Bool} false true = ap (λ (l : List Bool). get_or l 0 true) h.may in absurd (cc)

pub not_by_its_own : AreConcerned loaded_one (1 ∷ []) → ⊥
not_by_its_own h = let own = h 0 (omega arith) in omega (arith, own)

pub not_by_none : AreConcerned aborted_one (0 ∷ []) → ⊥
not_by_none h = let own = h 0 (omega arith) in omega (arith, own)

pub at_the_head : IsAtHead two_seats first_pass 1 → ⊥
unfolding image image_from
at_the_head h = omega (arith, h)

-- what no pass is, and no caller is told
pub ruleset refused_passes = (no_holder, no_unknown_mark, no_third, no_verdict, none_told, none_joining)

-- what is no way through the cells, and no walk on it
pub ruleset refused_ways = (no_far_number, no_other_cell, not_unfinished, not_left_out, not_past_the_head, no_way, no_walk, none_walking, no_early_end, no_stay, nothing_taken_back)

-- what is no entry to be delivered
pub ruleset refused_entries = (no_empty_entry, no_other_number, no_other_database, none_due_unfinished, no_entry_of_another, no_entry_unfinished)

-- what no writer does or leaves
pub ruleset refused_writers = (not_unshown, not_ahead, not_told, not_all, no_page_left, not_undecided, not_ended_undecided, not_still_open)

-- what no look finds
pub ruleset refused_looks = (not_past_the_number, own_seat_shows, own_seat_shows_none, no_seat_left_out, not_the_second, no_late_tail, not_the_first)

-- what no advance does
pub ruleset refused_advances = (all_seats, no_page_kept, not_told_by_looks)

-- what no writer that wakes knows or does
pub ruleset refused_wakes = (not_signalling, both_seats, not_loaded, not_by_its_own, not_by_none, at_the_head)
