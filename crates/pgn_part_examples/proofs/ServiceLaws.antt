-- Small services, by hand.
use Rattle.std.proofs.Common.{rules, ◌≡◌, ◌⊎◌, inl, inr, ℕ, ◌+◌, ◌-◌, ◌≤◌, List, [], ◌∷◌, ◌++◌, length, map, get_or, drop, flat_map, All, Option, None, IfSome, sym, ap, ◌∙◌, refl, subst, arith, length-append}
use Rattle.std.proofs.lemmas.List.Elements.{All-cons, All-nil}
use Rattle.pgn_model.specs.declared.item.Item.{Item}
use Rattle.pgn_model.specs.declared.item.Item.TheVariants.{Line, Read}
use Rattle.pgn_model.specs.declared.trace.Trace.{Trace}
use Rattle.pgn_journal.specs.Journal.{next_xid}
use Rattle.pgn_model.specs.Legal.{IsFullThere, IsShownWithin, Legal}
use Rattle.pgn_model.specs.Walk.{start}
use Rattle.pgn_messages.specs.declared.asked.Ask.TheVariants.{Query}
use Rattle.pgn_messages.specs.Asks.{seat_quit}
use Rattle.pgn_examples.specs.Turns.{idle_items, listen, sent_by}
use Rattle.pgn_messages.specs.Turns.{IsRead, MayBeTold}
use Rattle.pgn_frames.specs.Clients.{ClientAsks, Open, SeatAsks, first_tally}
use Rattle.pgn_frames.specs.Frames.{Frame, FramesAre, IsFrame, IsSeat, NextFrame, frame_bytes, signs_of}
use Rattle.pgn_service.specs.Service.{IsToldFirst, IsToldOf, RunsSeats, StopsServing, asks_at, over_frame, seat_notes, seat_section, service_scenario, service_settings}

-- a told trace of which the last item is the quit
abbrev pub quit-item : Item
quit-item = Line seat_quit.line

-- the number of a line
abbrev number : Item → ℕ
number (Line n) = n
number item = 0

-- the item at a place, by its number
abbrev number-at : ℕ → List Item → ℕ
number-at k items = number (get_or items k quit-item)

-- behind no `\quit` among the first items there is none
other-item : (items more : List Item) → idle_items ++ quit-item ∷ [] ≡ items ++ quit-item ∷ more → items ≡ idle_items
other-item [] more e = let bad : 1 ≡ 4294967295 = ap (number-at 0) e in absurd (omega (arith, bad))
other-item (a ∷ []) more e = let bad : 0 ≡ 4294967295 = ap (number-at 1) e in absurd (omega (arith, bad))
other-item (a ∷ b ∷ []) more e = let bad : 0 ≡ 4294967295 = ap (number-at 2) e in absurd (omega (arith, bad))
other-item (a ∷ b ∷ c ∷ []) more e = let bad : 0 ≡ 4294967295 = ap (number-at 3) e in absurd (omega (arith, bad))
other-item (a ∷ b ∷ c ∷ d ∷ []) more e = ap (λ (l : List Item). get_or l 0 quit-item ∷ get_or l 1 quit-item ∷ get_or l 2 quit-item ∷ get_or l 3 quit-item ∷ []) (sym e)
other-item (a ∷ b ∷ c ∷ d ∷ x ∷ items) more e =
    let long : 5 ≡ length (a ∷ b ∷ c ∷ d ∷ x ∷ items) + length (quit-item ∷ more) = ap (λ (l : List Item). length l) e ∙ length-append (a ∷ b ∷ c ∷ d ∷ x ∷ items) (quit-item ∷ more) in
    absurd (omega (arith, long))

-- what one may be told of the first items of an idle seat is told of its whole trace
pub told-idle : (signs : List (Option ℕ)) → MayBeTold 1 (Query listen ∷ []) idle_items signs → IsToldOf 1 (Query listen ∷ []) (idle_items ++ quit-item ∷ []) signs
told-idle signs h = record { items = idle_items; more = []; split = refl; unread = All-nil (λ (item : Item). IsRead item → ⊥); told = h }

-- and nothing else is
pub only-idle : (signs : List (Option ℕ)) → IsToldOf 1 (Query listen ∷ []) (idle_items ++ quit-item ∷ []) signs → MayBeTold 1 (Query listen ∷ []) idle_items signs
only-idle signs h = subst (λ (items : List Item). MayBeTold 1 (Query listen ∷ []) items signs) (other-item h.items h.more h.split) h.told

-- no read stands behind the `\quit`
pub no-read_behind : IsToldOf 1 [] (quit-item ∷ Read 3 4 (sent_by 1002 ∷ []) ∷ []) [] → ⊥
no-read_behind h = at h.items h.more h.split h.unread
  where
    at : (items more : List Item) → quit-item ∷ Read 3 4 (sent_by 1002 ∷ []) ∷ [] ≡ items ++ quit-item ∷ more → All (λ item. IsRead item → ⊥) more → ⊥
    at [] more e all =
        let behind : Read 3 4 (sent_by 1002 ∷ []) ∷ [] ≡ more = ap (λ (l : List Item). drop 1 l) e in
        (subst (λ (l : List Item). All (λ item. IsRead item → ⊥) l) (sym behind) all) 0 quit-item (omega arith) tt
    at (a ∷ []) more e all = let bad : 0 ≡ 4294967295 = ap (number-at 1) e in absurd (omega (arith, bad))
    at (a ∷ b ∷ items) more e all =
        let long : 2 ≡ length (a ∷ b ∷ items) + length (quit-item ∷ more) = ap (λ (l : List Item). length l) e ∙ length-append (a ∷ b ∷ items) (quit-item ∷ more) in
        absurd (omega (arith, long))

-- one seat
one-seat : (seat : ℕ) → IsSeat 1 seat → seat ≡ 1
one-seat seat is = let l : 1 ≤ seat = is.least in let m : seat ≤ 1 = is.most in omega (arith, l, m)

asked-nothing : (seat : ℕ) → IsSeat 1 seat → SeatAsks (first_tally (seat_notes 1)) (signs_of seat []) (asks_at ([] ∷ []) seat)
asked-nothing seat is = subst (λ (n : ℕ). SeatAsks (first_tally (seat_notes 1)) [] (asks_at ([] ∷ []) n)) (sym (one-seat seat is)) (SeatAsks.Last (first_tally (seat_notes 1)) [] [] [] Open refl (ClientAsks.Stops (first_tally (seat_notes 1)) [] refl))

abbrev quits : Trace
quits = record { session = 1; db = 1; items = Line seat_quit.line ∷ []; last = None }

quit-legal : Legal (service_scenario ([] ∷ [])) service_settings [] (quits ∷ [])
quit-legal = record {
  lawful = (record { session = refl; database = refl; lawful = search rules; ended = record { answered = refl; done = refl; mark = refl } }, tt);
  fresh = search rules;
  own = (refl, tt);
  finished = λ k d lt. absurd (omega (arith, lt));
  named = λ k d lt. absurd (omega (arith, lt));
  full = All-cons (λ (t : Trace). All (IsFullThere service_settings []) t.items) quits [] (All-cons (IsFullThere service_settings []) quit-item [] tt (All-nil (IsFullThere service_settings []))) (All-nil (λ (t : Trace). All (IsFullThere service_settings []) t.items));
  found = λ k d lt. absurd (omega (arith, lt));
  holders = λ k d lt. absurd (omega (arith, lt));
  shown = All-cons (λ (t : Trace). All (IsShownWithin (next_xid [])) t.items) quits [] (All-cons (IsShownWithin (next_xid [])) quit-item [] tt (All-nil (IsShownWithin (next_xid [])))) (All-nil (λ (t : Trace). All (IsShownWithin (next_xid [])) t.items));
  read_all = All-cons (λ (t : Trace). IfSome t.last (λ mark. mark ≡ next_xid [])) quits [] tt (All-nil (λ (t : Trace). IfSome t.last (λ mark. mark ≡ next_xid [])));
}

-- a service of one seat that is sent nothing may tell nothing
pub runs-nothing : RunsSeats 1 [] (λ text. text ≡ [])
runs-nothing = record {
  asks = [] ∷ [];
  each = refl;
  asked = asked-nothing;
  journal = [];
  traces = quits ∷ [];
  legal = quit-legal;
  outs = [];
  can_be_written = All-nil (IsFrame 256);
  told = λ seat is. subst (λ (n : ℕ). IsToldOf n (asks_at ([] ∷ []) n) (get_or (map (λ (t : Trace). t.items) (quits ∷ [])) (n - 1) []) (signs_of n [])) (sym (one-seat seat is))
      (record { items = []; more = []; split = refl; unread = All-nil (λ (item : Item). IsRead item → ⊥); told = record { turns = []; plain = All-nil _; asked = refl; trace = refl; told = refl } });
  nobody_else = λ seat out. refl;
  output = refl;
}

-- frames have four bytes or more
whole-frames : (outs : List Frame) (text : List ℕ) → flat_map frame_bytes outs ≡ text → (text ≡ []) ⊎ (4 ≤ length text)
whole-frames [] text e = inl (sym e)
whole-frames (f ∷ outs) text e = inr (omega (arith, ap (λ (l : List ℕ). length l) e, length-append (frame_bytes f) (flat_map frame_bytes outs), head-length f))
  where
    head-length : (g : Frame) → 4 ≤ length (frame_bytes g)
    head-length g = search rules

-- it tells no half of a frame
pub no-half_frame : RunsSeats 1 [] (λ text. text ≡ 0 ∷ 1 ∷ 0 ∷ []) → ⊥
no-half_frame h =
    elim (whole-frames h.outs (0 ∷ 1 ∷ 0 ∷ []) h.output) [
      | inl e ↦ (let bad : 3 ≡ 0 = ap (λ (l : List ℕ). length l) e in absurd (omega (arith, bad)))
      | inr some ↦ absurd (omega (arith, some))
    ]

stops-with : (Q : List ℕ → Type 0) → Q [] ⊎ Q over_frame → StopsServing 1 [] Q
stops-with Q output = record {
  frames = [];
  others = [];
  fault = None;
  are = FramesAre.Ends 0 [] [] (NextFrame.Ended [] refl);
  asks = [] ∷ [];
  each = refl;
  asked = asked-nothing;
  outs = [];
  can_be_written = All-nil (IsFrame 256);
  told = λ seat is. subst (λ (n : ℕ). IsToldFirst 1 n (asks_at ([] ∷ []) n) (signs_of n [])) (sym (one-seat seat is)) (record {
    first = [];
    others = [];
    asked = refl;
    items = [];
    more = [];
    rest = [];
    journal = [];
    state = start (seat_section 1 1 []);
    holds = record { stands_fresh = record { stands = record { lawful = tt; state = refl }; fresh = tt }; full = λ k d lt. absurd (omega (arith, lt)); found = λ k d lt. absurd (omega (arith, lt)) };
    told = record { turns = []; plain = All-nil _; asked = refl; trace = refl; told = refl };
  });
  nobody_else = λ seat out. refl;
  output = output;
}

-- a service that ends before its input may have told nothing
pub stops-empty : StopsServing 1 [] (λ text. text ≡ [])
stops-empty = stops-with (λ text. text ≡ []) (inl refl)

-- or that it is over
pub stops-told : StopsServing 1 [] (λ text. text ≡ 0 ∷ 0 ∷ 0 ∷ 0 ∷ [])
stops-told = stops-with (λ text. text ≡ 0 ∷ 0 ∷ 0 ∷ 0 ∷ []) (inr refl)

-- but no half of that
pub no-half_over : StopsServing 1 [] (λ text. text ≡ 0 ∷ 0 ∷ []) → ⊥
no-half_over h =
    elim h.output [
      | inl e ↦ elim (whole-frames h.outs (0 ∷ 0 ∷ []) e) [
        | inl none ↦ (let bad : 2 ≡ 0 = ap (λ (l : List ℕ). length l) none in absurd (omega (arith, bad)))
        | inr some ↦ absurd (omega (arith, some))
      ]
      | inr e ↦ absurd (omega (arith, ap (λ (l : List ℕ). length l) e, length-append (flat_map frame_bytes h.outs) over_frame))
    ]
