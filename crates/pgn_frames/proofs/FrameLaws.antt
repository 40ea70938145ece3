-- Bytes have frames, and one list of them.
use Rattle.std.proofs.Common.{◌≡◌, ℕ, zero, suc, ◌+◌, ◌<◌, ◌≤◌, ◌⊎◌, List, [], ◌∷◌, ◌++◌, length, take, drop, take-append-drop, length-take-le, Option, Some, None, sym, ap, ◌∙◌, subst, refl, arith, inl, inr}
use Rattle.std.specs.Int.{w16, from_be_bytes}
use Rattle.std.proofs.lemmas.Bool.{cases_lt}
use Rattle.std.proofs.lemmas.List.{length-append}
use Rattle.pgn_queries.proofs.OneLaws.{fronts}
use Rattle.pgn_frames.specs.declared.frame_fault.FrameFault.{FrameFault}
use Rattle.pgn_frames.specs.declared.frame_fault.FrameFault.TheVariants.{CutFrame, NoSeat}
use Rattle.pgn_frames.specs.Frames as frames
use Rattle.pgn_frames.specs.Frames.{Frame, Framing, Over, Comes, Wrong, FramesAre, IsHead, IsSeat, NextFrame}
use Rattle.pgn_frames.specs.Laws.{EachHasFrames, OneFraming}

-- bytes have one head
heads : (bytes head other more behind : List ℕ) (seat size sit len : ℕ) → bytes ≡ head ++ more → bytes ≡ other ++ behind → IsHead head seat size → IsHead other sit len
    → (seat ≡ sit) × (size ≡ len) × (more ≡ behind)
heads bytes head other more behind seat size sit len e f h k =
    let parts = fronts head other more behind (h.four ∙ sym k.four) (sym e ∙ f) in
    (h.of_seat ∙ ap (λ (xs : List ℕ). from_be_bytes w16 (take 2 xs)) parts.0 ∙ sym k.of_seat, h.of_size ∙ ap (λ (xs : List ℕ). from_be_bytes w16 (drop 2 xs)) parts.0 ∙ sym k.of_size, parts.1)

-- which is four bytes
four_there : (bytes head more : List ℕ) (seat size : ℕ) → bytes ≡ head ++ more → IsHead head seat size → 4 ≤ length bytes
four_there bytes head more seat size e h =
    let long : length bytes ≡ length head + length more = ap length e ∙ length-append head more in
    let four : length head ≡ 4 = h.four in
    omega arith

no_head : (bytes head more : List ℕ) (seat size : ℕ) → bytes ≡ [] → bytes ≡ head ++ more → IsHead head seat size → ⊥
no_head bytes head more seat size e f h =
    let none : length bytes ≡ 0 = ap length e in
    let long : 4 ≤ length bytes = four_there bytes head more seat size f h in
    omega arith

cut_head : (bytes head more : List ℕ) (seat size : ℕ) → length bytes < 4 → bytes ≡ head ++ more → IsHead head seat size → ⊥
cut_head bytes head more seat size few f h = let long : 4 ≤ length bytes = four_there bytes head more seat size f h in omega arith

-- the head of one is no seat, and that of the other is
other_seat : (seats : ℕ) (bytes head other more behind : List ℕ) (seat size sit len : ℕ) → bytes ≡ head ++ more → bytes ≡ other ++ behind → IsHead head seat size → IsHead other sit len
    → (IsSeat seats seat → ⊥) → IsSeat seats sit → ⊥
other_seat seats bytes head other more behind seat size sit len e f h k none is = none (subst (λ (n : ℕ). IsSeat seats n) (sym (heads bytes head other more behind seat size sit len e f h k).0) is)

-- the one is cut, and the other is whole
cut_whole : (bytes head other more body rest : List ℕ) (seat size sit : ℕ) → bytes ≡ head ++ more → bytes ≡ other ++ (body ++ rest) → IsHead head seat size → IsHead other sit (length body) → length more < size → ⊥
cut_whole bytes head other more body rest seat size sit e f h k few =
    let same = heads bytes head other more (body ++ rest) seat size sit (length body) e f h k in
    let sizes : size ≡ length body = same.1 in
    let long : length more ≡ length body + length rest = ap length same.2 ∙ length-append body rest in
    omega arith

-- what comes next is the same, and so is what is behind a frame
record Same (framing other : Framing) (rest more : List ℕ) : Type 0 where
  first : framing ≡ other
  rests : (frame : Frame) → framing ≡ Comes frame → rest ≡ more

no_frame : (framing : Framing) (rest more : List ℕ) → ((frame : Frame) → framing ≡ Comes frame → ⊥) → Same framing framing rest more
no_frame framing rest more none = record { first = refl; rests = λ frame e. absurd (none frame e) }

over : (rest more : List ℕ) → Same Over Over rest more
over rest more = no_frame Over rest more (λ frame e. cc)

wrong : (fault : FrameFault) (rest more : List ℕ) → Same (Wrong fault) (Wrong fault) rest more
wrong fault rest more = no_frame (Wrong fault) rest more (λ frame e. cc)

next_one : (seats at : ℕ) (framing other : Framing) (bytes rest more : List ℕ) → NextFrame seats at framing bytes rest → NextFrame seats at other bytes more → Same framing other rest more
next_one seats at _ _ bytes _ _ (frames.NextFrame.Ended _ e) (frames.NextFrame.Ended _ f) = over [] []
next_one seats at _ _ bytes _ _ (frames.NextFrame.Ended _ e) (frames.NextFrame.CutHead _ s some few) = let none : length bytes ≡ 0 = ap length e in absurd (omega arith)
next_one seats at _ _ bytes _ _ (frames.NextFrame.Ended _ e) (frames.NextFrame.BadSeat _ o b s sit len f k none) = absurd (no_head bytes o b sit len e f k)
next_one seats at _ _ bytes _ _ (frames.NextFrame.Ended _ e) (frames.NextFrame.CutBody _ o b s sit len f k is few) = absurd (no_head bytes o b sit len e f k)
next_one seats at _ _ bytes _ _ (frames.NextFrame.Ended _ e) (frames.NextFrame.Whole _ o body s sit f k is) = absurd (no_head bytes o (body ++ s) sit (length body) e f k)
next_one seats at _ _ bytes _ _ (frames.NextFrame.CutHead _ r some few) (frames.NextFrame.Ended _ f) = let none : length bytes ≡ 0 = ap length f in absurd (omega arith)
next_one seats at _ _ bytes _ _ (frames.NextFrame.CutHead _ r some few) (frames.NextFrame.CutHead _ s more less) = wrong (CutFrame at) r s
next_one seats at _ _ bytes _ _ (frames.NextFrame.CutHead _ r some few) (frames.NextFrame.BadSeat _ o b s sit len f k none) = absurd (cut_head bytes o b sit len few f k)
next_one seats at _ _ bytes _ _ (frames.NextFrame.CutHead _ r some few) (frames.NextFrame.CutBody _ o b s sit len f k is less) = absurd (cut_head bytes o b sit len few f k)
next_one seats at _ _ bytes _ _ (frames.NextFrame.CutHead _ r some few) (frames.NextFrame.Whole _ o body s sit f k is) = absurd (cut_head bytes o (body ++ s) sit (length body) few f k)
next_one seats at _ _ bytes _ _ (frames.NextFrame.BadSeat _ h m r seat size e k none) (frames.NextFrame.Ended _ f) = absurd (no_head bytes h m seat size f e k)
next_one seats at _ _ bytes _ _ (frames.NextFrame.BadSeat _ h m r seat size e k none) (frames.NextFrame.CutHead _ s some few) = absurd (cut_head bytes h m seat size few e k)
next_one seats at _ _ bytes _ _ (frames.NextFrame.BadSeat _ h m r seat size e k none) (frames.NextFrame.BadSeat _ o b s sit len f j bad) = wrong (NoSeat at) r s
next_one seats at _ _ bytes _ _ (frames.NextFrame.BadSeat _ h m r seat size e k none) (frames.NextFrame.CutBody _ o b s sit len f j is few) = absurd (other_seat seats bytes h o m b seat size sit len e f k j none is)
next_one seats at _ _ bytes _ _ (frames.NextFrame.BadSeat _ h m r seat size e k none) (frames.NextFrame.Whole _ o body s sit f j is) =
    absurd (other_seat seats bytes h o m (body ++ s) seat size sit (length body) e f k j none is)
next_one seats at _ _ bytes _ _ (frames.NextFrame.CutBody _ h m r seat size e k fits few) (frames.NextFrame.Ended _ f) = absurd (no_head bytes h m seat size f e k)
next_one seats at _ _ bytes _ _ (frames.NextFrame.CutBody _ h m r seat size e k fits few) (frames.NextFrame.CutHead _ s some less) = absurd (cut_head bytes h m seat size less e k)
next_one seats at _ _ bytes _ _ (frames.NextFrame.CutBody _ h m r seat size e k fits few) (frames.NextFrame.BadSeat _ o b s sit len f j bad) = absurd (other_seat seats bytes o h b m sit len seat size f e j k bad fits)
next_one seats at _ _ bytes _ _ (frames.NextFrame.CutBody _ h m r seat size e k fits few) (frames.NextFrame.CutBody _ o b s sit len f j is less) = wrong (CutFrame at) r s
next_one seats at _ _ bytes _ _ (frames.NextFrame.CutBody _ h m r seat size e k fits few) (frames.NextFrame.Whole _ o body s sit f j is) = absurd (cut_whole bytes h o m body s seat size sit e f k j few)
next_one seats at _ _ bytes _ _ (frames.NextFrame.Whole _ h body r seat e k fits) (frames.NextFrame.Ended _ f) = absurd (no_head bytes h (body ++ r) seat (length body) f e k)
next_one seats at _ _ bytes _ _ (frames.NextFrame.Whole _ h body r seat e k fits) (frames.NextFrame.CutHead _ s some few) = absurd (cut_head bytes h (body ++ r) seat (length body) few e k)
next_one seats at _ _ bytes _ _ (frames.NextFrame.Whole _ h body r seat e k fits) (frames.NextFrame.BadSeat _ o b s sit len f j bad) =
    absurd (other_seat seats bytes o h b (body ++ r) sit len seat (length body) f e j k bad fits)
next_one seats at _ _ bytes _ _ (frames.NextFrame.Whole _ h body r seat e k fits) (frames.NextFrame.CutBody _ o b s sit len f j is few) = absurd (cut_whole bytes o h b body r sit len seat f e j k few)
next_one seats at _ _ bytes _ _ (frames.NextFrame.Whole _ h body r seat e k fits) (frames.NextFrame.Whole _ o bulk s sit f j is) =
    let same = heads bytes h o (body ++ r) (bulk ++ s) seat (length body) sit (length bulk) e f k j in
    let parts = fronts body bulk r s same.1 same.2 in record {
      first = ap (λ (n : ℕ). let it : Framing = Comes (record { seat = n; bytes = body }) in it) same.0 ∙ ap (λ (xs : List ℕ). let it : Framing = Comes (record { seat = sit; bytes = xs }) in it) parts.0;
      rests = λ frame g. parts.1;
    }

framing_one : (seats at : ℕ) (bytes : List ℕ) (all others : List Frame) (fault other : Option FrameFault) → FramesAre seats at bytes all fault → FramesAre seats at bytes others other → (all ≡ others) × (fault ≡ other)
framing_one seats _ bytes _ _ _ _ (frames.FramesAre.Ends at _ r n) (frames.FramesAre.Ends _ _ s m) = (refl, refl)
framing_one seats _ bytes _ _ _ _ (frames.FramesAre.Ends at _ r n) (frames.FramesAre.Fails _ _ s g m) = let e = (next_one seats at Over (Wrong g) bytes r s n m).first in absurd (cc)
framing_one seats _ bytes _ _ _ _ (frames.FramesAre.Ends at _ r n) (frames.FramesAre.Goes _ _ s frame fs g m more) = let e = (next_one seats at Over (Comes frame) bytes r s n m).first in absurd (cc)
framing_one seats _ bytes _ _ _ _ (frames.FramesAre.Fails at _ r f n) (frames.FramesAre.Ends _ _ s m) = let e = (next_one seats at (Wrong f) Over bytes r s n m).first in absurd (cc)
framing_one seats _ bytes _ _ _ _ (frames.FramesAre.Fails at _ r f n) (frames.FramesAre.Fails _ _ s g m) =
    let e : Wrong f ≡ Wrong g = (next_one seats at (Wrong f) (Wrong g) bytes r s n m).first in
    let same : f ≡ g = cc in
    (refl, ap (λ (x : FrameFault). let o : Option FrameFault = Some x in o) same)
framing_one seats _ bytes _ _ _ _ (frames.FramesAre.Fails at _ r f n) (frames.FramesAre.Goes _ _ s frame fs g m more) = let e = (next_one seats at (Wrong f) (Comes frame) bytes r s n m).first in absurd (cc)
framing_one seats _ bytes _ _ _ _ (frames.FramesAre.Goes at _ r frame fs f n others) (frames.FramesAre.Ends _ _ s m) = let e = (next_one seats at (Comes frame) Over bytes r s n m).first in absurd (cc)
framing_one seats _ bytes _ _ _ _ (frames.FramesAre.Goes at _ r frame fs f n others) (frames.FramesAre.Fails _ _ s g m) = let e = (next_one seats at (Comes frame) (Wrong g) bytes r s n m).first in absurd (cc)
framing_one seats _ bytes _ _ _ _ (frames.FramesAre.Goes at _ r frame fs f n more) (frames.FramesAre.Goes _ _ s other gs g m others) =
    let same = next_one seats at (Comes frame) (Comes other) bytes r s n m in
    let e : Comes frame ≡ Comes other = same.first in
    let one : frame ≡ other = cc in
    let behind : FramesAre seats (at + (4 + length frame.bytes)) r gs g =
    subst (λ (xs : List ℕ). FramesAre seats (at + (4 + length frame.bytes)) xs gs g) (sym (same.rests frame refl))
    (subst (λ (it : Frame). FramesAre seats (at + (4 + length it.bytes)) s gs g) (sym one) others) in
    let further = framing_one seats (at + (4 + length frame.bytes)) r fs gs f g more behind in
    (ap (λ (it : Frame). it ∷ fs) one ∙ ap (λ (its : List Frame). other ∷ its) further.0, further.1)

-- bytes are frames in one way
pub one_framing : OneFraming
one_framing seats at bytes all others fault other h k = framing_one seats at bytes all others fault other h k

-- a number is a seat, or none
seat_or : (seats seat : ℕ) → IsSeat seats seat ⊎ (IsSeat seats seat → ⊥)
seat_or seats seat = elim (cases_lt seat 1) [
  | inl none ↦ inr (λ is. let least : 1 ≤ seat = is.least in omega arith)
  | inr some ↦ elim (cases_lt seats seat) [
    | inl above ↦ inr (λ is. let most : seat ≤ seats = is.most in omega arith)
    | inr within ↦ inl (record { least = some; most = within })
  ]
]

-- something comes
record FrameComes (seats at : ℕ) (bytes : List ℕ) : Type 0 where
  framing : Framing
  rest : List ℕ
  is : NextFrame seats at framing bytes rest
  less : (frame : Frame) → framing ≡ Comes frame → length rest < length bytes

no_less : {A : Type 0} (fault : FrameFault) (frame : Frame) → Wrong fault ≡ Comes frame → A
no_less fault frame e = absurd (cc)

comes_behind : (seats at : ℕ) (bytes : List ℕ) → 4 ≤ length bytes → FrameComes seats at bytes
comes_behind seats at bytes enough =
    let head : List ℕ = take 4 bytes in
    let more : List ℕ = drop 4 bytes in
    let seat : ℕ = from_be_bytes w16 (take 2 head) in
    let size : ℕ = from_be_bytes w16 (drop 2 head) in
    let whole : bytes ≡ head ++ more = sym (take-append-drop 4 bytes) in
    let four : length head ≡ 4 = length-take-le 4 bytes enough in
    let is_head : IsHead head seat size = record { four = four; of_seat = refl; of_size = refl } in
    let sizes : length bytes ≡ length head + length more = ap length whole ∙ length-append head more in
    elim (seat_or seats seat) [
      | inr none ↦ record { framing = Wrong (NoSeat at); rest = []; is = frames.NextFrame.BadSeat bytes head more [] seat size whole is_head none; less = λ frame e. no_less (NoSeat at) frame e }
      | inl is_seat ↦ elim (cases_lt (length more) size) [
        | inl few ↦ record { framing = Wrong (CutFrame at); rest = []; is = frames.NextFrame.CutBody bytes head more [] seat size whole is_head is_seat few; less = λ frame e. no_less (CutFrame at) frame e }
        | inr fits ↦
            let body : List ℕ = take size more in
            let rest : List ℕ = drop size more in
            let len : length body ≡ size = length-take-le size more fits in
            let parts : more ≡ body ++ rest = sym (take-append-drop size more) in
            let longer : length more ≡ length body + length rest = ap length parts ∙ length-append body rest in record {
              framing = Comes (record { seat = seat; bytes = body });
              rest = rest;
              is = frames.NextFrame.Whole bytes head body rest seat (whole ∙ ap (λ (xs : List ℕ). head ++ xs) parts) (subst (λ (n : ℕ). IsHead head seat n) (sym len) is_head) is_seat;
              less = λ frame e. omega arith;
            }
      ]
    ]

next_comes : (seats at : ℕ) (bytes : List ℕ) → FrameComes seats at bytes
next_comes seats at [] = record { framing = Over; rest = []; is = frames.NextFrame.Ended [] refl; less = λ frame e. absurd (cc) }
next_comes seats at (byte ∷ bytes) = elim (cases_lt (length (byte ∷ bytes)) 4) [
  | inl few ↦ record { framing = Wrong (CutFrame at); rest = []; is = frames.NextFrame.CutHead (byte ∷ bytes) [] (omega arith) few; less = λ frame e. no_less (CutFrame at) frame e }
  | inr enough ↦ comes_behind seats at (byte ∷ bytes) enough
]

abbrev HasFrames : ℕ → ℕ → List ℕ → Type 0
HasFrames seats at bytes = (all : List Frame) × (fault : Option FrameFault) × FramesAre seats at bytes all fault

by_next : (seats at : ℕ) (bytes rest : List ℕ) (framing : Framing) → NextFrame seats at framing bytes rest → ((frame : Frame) → framing ≡ Comes frame → (next : ℕ) → HasFrames seats next rest)
    → HasFrames seats at bytes
by_next seats at bytes rest Over is more = ([], None, frames.FramesAre.Ends at bytes rest is)
by_next seats at bytes rest (Wrong fault) is more = ([], Some fault, frames.FramesAre.Fails at bytes rest fault is)
by_next seats at bytes rest (Comes frame) is more =
    let others = more frame refl (at + (4 + length frame.bytes)) in (frame ∷ others.0, others.1, frames.FramesAre.Goes at bytes rest frame others.0 others.1 is others.2)

-- bytes that are fewer than this number have frames
fewer : (size seats at : ℕ) (bytes : List ℕ) → length bytes < size → HasFrames seats at bytes
fewer zero seats at bytes few = absurd (omega arith)
fewer (suc size) seats at bytes few =
    let next = next_comes seats at bytes in
    by_next seats at bytes next.rest next.framing next.is (λ frame e behind. fewer size seats behind next.rest (let shorter : length next.rest < length bytes = next.less frame e in omega arith))

-- any bytes are frames, up to an end or a fault
pub each_has_frames : EachHasFrames
each_has_frames seats at bytes = fewer (suc (length bytes)) seats at bytes (omega arith)
