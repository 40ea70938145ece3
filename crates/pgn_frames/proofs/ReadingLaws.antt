-- Frame after frame, for all seats.
use Rattle.std.proofs.Common.{◌≡◌, ◌≢◌, ℕ, ◌+◌, ◌-◌, ◌<◌, ◌≤◌, ◌==◌, cond, List, [], ◌∷◌, ◌++◌, length, get_or, set, Option, Some, None, Result, Ok, Err, IfOk, sym, ap, ◌∙◌, subst, refl, arith, inl, inr, append_assoc, append-nil}
use Rattle.std.specs.Prelude.{map}
use Rattle.std.proofs.lemmas.Bool.{cases_eq, cases_lt, eq-eqb, ne_eqb}
use Rattle.std.proofs.lemmas.List.{map-append, get_or_default, get_or-set_same, get_or-set_other, length-set}
use Rattle.pgn_outlet.specs.declared.came.Came.{Came}
use Rattle.pgn_outlet.specs.declared.hand.Hand.{Hand}
use Rattle.pgn_outlet.specs.declared.outlet.Outlet.{Outlet}
use Rattle.pgn_outlet.specs.Passes.{IsPassOf, knows}
use Rattle.pgn_outlet.specs.Rule.{MayPush, sender}
use Rattle.pgn_queries.specs.Client.{OfKnown}
use Rattle.pgn_messages.specs.declared.asked.Ask.{Ask}
use Rattle.pgn_frames.specs.declared.frame_fault.FrameFault.{FrameFault}
use Rattle.pgn_frames.specs.declared.framing.NoFrame.{NoFrame}
use Rattle.pgn_frames.specs.declared.framing.NoFrame.TheVariants.{Failed, Memory}
use Rattle.pgn_frames.specs.declared.caller.Caller.{Caller}
use Rattle.pgn_frames.specs.Callers.{AskOn, HasCome, IsUnfinished, Takes, TakesFirst, Waits, first_stand, stand_of, with_put}
use Rattle.pgn_frames.specs.Clients.{SeatAsks, first_tally}
use Rattle.pgn_frames.specs.Frames as frame
use Rattle.pgn_frames.specs.Frames.{Comes, Frame, FramesAre, IsSeat, NextFrame, Over, Wrong, signs_in, signs_of}
use Rattle.pgn_frames.specs.Reading.{AreBefore, AreEnded, AreFirstFrames, AreFrames, Begins, Calls, CallsOn, DoesAt, EachSeat, HasPutAll, HasPutFirst, HasReadAll, HasReadFirst, HasReadSome, IsEnded, IsKept, MayCall, OwnsInbox, Reads, ReadsAll, ReadsFirst, ReadsTo, TurnsInto}
use Rattle.pgn_frames.proofs.FrameLaws.{each_has_frames}
use Rattle.pgn_frames.proofs.StandLaws.{HasCome-then, nothing_more}
use Rattle.pgn_frames.proofs.CallerLaws.{First-all, may-put, put-then}

-- a frame of this seat with these bytes
abbrev pub frame_at : ℕ → List ℕ → Frame
frame_at seat bytes = record { seat = seat; bytes = bytes }

-- the signs of one frame more
signs_more : (seat : ℕ) (frames more : List Frame) → signs_of seat (frames ++ more) ≡ signs_of seat frames ++ signs_of seat more
signs_more seat [] more = refl
signs_more seat (f ∷ frames) more =
    ap (λ (l : List (Option ℕ)). cond (f.seat == seat) (signs_in f.bytes) [] ++ l) (signs_more seat frames more)
    ∙ sym (append_assoc (cond (f.seat == seat) (signs_in f.bytes) []) (signs_of seat frames) (signs_of seat more))

signs_own : (seat of : ℕ) (bytes : List ℕ) (frames : List Frame) → of ≡ seat → signs_of seat (frames ++ frame_at of bytes ∷ []) ≡ signs_of seat frames ++ signs_in bytes
signs_own seat of bytes frames e =
    signs_more seat frames (frame_at of bytes ∷ [])
    ∙ ap (λ b. signs_of seat frames ++ (cond b (signs_in bytes) [] ++ [])) (eq-eqb of seat e)
    ∙ ap (λ (l : List (Option ℕ)). signs_of seat frames ++ l) (append-nil (signs_in bytes))

signs_other : (seat of : ℕ) (bytes : List ℕ) (frames : List Frame) → of ≢ seat → signs_of seat (frames ++ frame_at of bytes ∷ []) ≡ signs_of seat frames
signs_other seat of bytes frames other =
    signs_more seat frames (frame_at of bytes ∷ [])
    ∙ ap (λ b. signs_of seat frames ++ (cond b (signs_in bytes) [] ++ [])) (ne_eqb of seat other)
    ∙ append-nil (signs_of seat frames)

-- a seat whose frame it is
calls_more : (most seat of : ℕ) (frames : List Frame) (bytes : List ℕ) (inbox other : Outlet (Option Ask)) (old new : Caller) → of ≡ seat → Calls most frames seat inbox old → Takes seat old new (signs_in bytes)
    → Calls most (frames ++ frame_at of bytes ∷ []) seat other new
calls_more most seat of frames bytes inbox other old new e h t = record {
  asks = h.asks ++ t.asks;
  put = put-then seat sender (knows old.asks) (knows new.asks) h.asks t.asks h.put t.put;
  come = subst (λ (l : List (Option ℕ)). HasCome (first_stand most) l (h.asks ++ t.asks) (stand_of new)) (sym (signs_own seat of bytes frames e))
      (HasCome-then (first_stand most) (stand_of old) (stand_of new) (signs_of seat frames) (signs_in bytes) h.asks t.asks h.come t.come);
}

-- a seat whose it is not
calls_same : (most seat of : ℕ) (frames : List Frame) (bytes : List ℕ) (inbox other : Outlet (Option Ask)) (old : Caller) → of ≢ seat → Calls most frames seat inbox old → Calls most (frames ++ frame_at of bytes ∷ []) seat other old
calls_same most seat of frames bytes inbox other old apart h = record {
  asks = h.asks;
  put = h.put;
  come = subst (λ (l : List (Option ℕ)). HasCome (first_stand most) l h.asks (stand_of old)) (sym (signs_other seat of bytes frames apart)) h.come;
}

-- a frame's seat, by its place among the callers
other_seat : (seats seat k : ℕ) → IsSeat seats seat → (k ≡ seat - 1 → ⊥) → seat ≢ k + 1
other_seat seats seat k is apart e = apart (omega arith)

own_seat : (seats seat k : ℕ) → IsSeat seats seat → k ≡ seat - 1 → seat ≡ k + 1
own_seat seats seat k is e = let least : 1 ≤ seat = is.least in omega arith

-- one seat has taken the bytes of a frame, so each seat is where all frames with this one lead
pub calls_took : (most seat : ℕ) (frames : List Frame) (bytes : List ℕ) (inboxes : List (Outlet (Option Ask))) (olds news : List Caller) → IsSeat (length olds) seat → EachSeat (Calls most frames) inboxes olds
    → DoesAt (λ old new. Takes seat old new (signs_in bytes)) (seat - 1) olds news → EachSeat (Calls most (frames ++ frame_at seat bytes ∷ [])) inboxes news
calls_took most seat frames bytes inboxes olds news is calls does = λ k inbox caller lt.
    let size : length news ≡ length olds = does.size in
    let before : Calls most frames (k + 1) (get_or inboxes k inbox) (get_or olds k caller) = calls k inbox caller (omega arith) in
    elim (cases_eq k (seat - 1)) [
      | inl here ↦
          let number : seat ≡ k + 1 = own_seat (length olds) seat k is here in
          let took : Takes (k + 1) (get_or olds k caller) (get_or news k caller) (signs_in bytes)
          = subst (λ (n : ℕ). Takes n (get_or olds k caller) (get_or news k caller) (signs_in bytes)) number
          (subst (λ (i : ℕ). Takes seat (get_or olds i caller) (get_or news i caller) (signs_in bytes)) (sym here) (does.here caller)) in
          calls_more most (k + 1) seat frames bytes (get_or inboxes k inbox) (get_or inboxes k inbox) (get_or olds k caller) (get_or news k caller) number before took
      | inr apart ↦
          subst (λ (c : Caller). Calls most (frames ++ frame_at seat bytes ∷ []) (k + 1) (get_or inboxes k inbox) c) (sym (does.others k caller apart))
          (calls_same most (k + 1) seat frames bytes (get_or inboxes k inbox) (get_or inboxes k inbox) (get_or olds k caller) (other_seat (length olds) seat k is apart) before)
    ]

-- what a seat has put is the first of what it is asked
first_of : (most seat : ℕ) (frames : List Frame) (inbox other : Outlet (Option Ask)) (caller new : Caller) → Calls most frames seat inbox caller → Waits (stand_of caller) → IsPassOf other new.asks
    → knows new.asks ≡ knows caller.asks → HasPutFirst most frames seat other new
first_of most seat frames inbox other caller new h waits own same = record {
  own = own;
  asks = h.asks;
  asked = subst (λ (l : List (Option ℕ)). SeatAsks (first_tally most) l h.asks) (append-nil (signs_of seat frames))
      (subst (λ (l : List Ask). SeatAsks (first_tally most) (signs_of seat frames ++ []) l) (append-nil h.asks) (h.come [] [] (nothing_more caller.counts caller.begun.items caller.left waits)));
  now = map Some h.asks;
  others = None ∷ [];
  first = refl;
  put = same ∙ h.put;
}

all_firsts : (xs ys zs : List Ask) → map Some (xs ++ (ys ++ zs)) ++ None ∷ [] ≡ map Some (xs ++ ys) ++ (map Some zs ++ None ∷ [])
all_firsts xs ys zs =
    ap (λ (l : List Ask). map Some l ++ None ∷ []) (sym (append_assoc xs ys zs)) ∙ ap (λ (l : List (Option Ask)). l ++ None ∷ []) (map-append Some (xs ++ ys) zs)
    ∙ append_assoc (map Some (xs ++ ys)) (map Some zs) (None ∷ [])

first_more : (most seat of : ℕ) (frames : List Frame) (bytes : List ℕ) (inbox other : Outlet (Option Ask)) (old new : Caller) → of ≡ seat → Calls most frames seat inbox old → TakesFirst seat old new (signs_in bytes)
    → IsPassOf other new.asks → HasPutFirst most (frames ++ frame_at of bytes ∷ []) seat other new
first_more most seat of frames bytes inbox other old new e h t own = record {
  own = own;
  asks = h.asks ++ (t.asks ++ t.others);
  asked = subst (λ (l : List (Option ℕ)). SeatAsks (first_tally most) l (h.asks ++ (t.asks ++ t.others))) (sym (signs_own seat of bytes frames e)) (h.come (signs_in bytes) (t.asks ++ t.others) t.asked);
  now = map Some (h.asks ++ t.asks);
  others = map Some t.others ++ None ∷ [];
  first = all_firsts h.asks t.asks t.others;
  put = put-then seat sender (knows old.asks) (knows new.asks) h.asks t.asks h.put t.put;
}

-- one seat has taken the first of a frame's bytes, so each was put the first of what all frames with this one ask
pub firsts_took : (most seat : ℕ) (frames : List Frame) (bytes : List ℕ) (inboxes : List (Outlet (Option Ask))) (olds news : List Caller) → IsSeat (length olds) seat → EachSeat (Calls most frames) inboxes olds
    → EachSeat CallsOn inboxes olds → DoesAt (λ old new. TakesFirst seat old new (signs_in bytes)) (seat - 1) olds news → EachSeat OwnsInbox inboxes news
    → EachSeat (HasPutFirst most (frames ++ frame_at seat bytes ∷ [])) inboxes news
firsts_took most seat frames bytes inboxes olds news is calls on does owns = λ k inbox caller lt.
    let size : length news ≡ length olds = does.size in
    let before : Calls most frames (k + 1) (get_or inboxes k inbox) (get_or olds k caller) = calls k inbox caller (omega arith) in
    let waits : CallsOn (k + 1) (get_or inboxes k inbox) (get_or olds k caller) = on k inbox caller (omega arith) in
    elim (cases_eq k (seat - 1)) [
      | inl here ↦
          let number : seat ≡ k + 1 = own_seat (length olds) seat k is here in
          let took : TakesFirst (k + 1) (get_or olds k caller) (get_or news k caller) (signs_in bytes)
          = subst (λ (n : ℕ). TakesFirst n (get_or olds k caller) (get_or news k caller) (signs_in bytes)) number
          (subst (λ (i : ℕ). TakesFirst seat (get_or olds i caller) (get_or news i caller) (signs_in bytes)) (sym here) (does.here caller)) in
          first_more most (k + 1) seat frames bytes (get_or inboxes k inbox) (get_or inboxes k inbox) (get_or olds k caller) (get_or news k caller) number before took (owns k inbox caller lt)
      | inr apart ↦
          first_of most (k + 1) (frames ++ frame_at seat bytes ∷ []) (get_or inboxes k inbox) (get_or inboxes k inbox) (get_or olds k caller) (get_or news k caller)
          (calls_same most (k + 1) seat frames bytes (get_or inboxes k inbox) (get_or inboxes k inbox) (get_or olds k caller) (other_seat (length olds) seat k is apart) before) waits.waits
          (owns k inbox caller lt) (ap (λ (c : Caller). knows c.asks) (does.others k caller apart))
    ]

-- each seat was put all that the frames ask so far, and so the first of it
pub firsts_now : (most : ℕ) (frames : List Frame) (inboxes : List (Outlet (Option Ask))) (callers : List Caller) → EachSeat (Calls most frames) inboxes callers → EachSeat CallsOn inboxes callers
    → EachSeat (HasPutFirst most frames) inboxes callers
firsts_now most frames inboxes callers calls on = λ k inbox caller lt.
    let going : CallsOn (k + 1) (get_or inboxes k inbox) (get_or callers k caller) = on k inbox caller lt in
    first_of most (k + 1) frames (get_or inboxes k inbox) (get_or inboxes k inbox) (get_or callers k caller) (get_or callers k caller) (calls k inbox caller lt) going.waits going.own refl

-- frames of known bytes
pub before_none : (seats : ℕ) (a : Option (List ℕ)) → OfKnown (AreBefore seats 0 []) a a
before_none seats None = tt
before_none seats (Some xs) = λ more fault h. h

-- one frame more of known bytes
pub before_more : (seats at : ℕ) (frames : List Frame) (f : Frame) (a b c : Option (List ℕ)) → OfKnown (AreBefore seats at frames) a b → OfKnown (NextFrame seats at (Comes f)) b c
    → OfKnown (AreBefore seats (at + (4 + length f.bytes)) (frames ++ f ∷ [])) a c
before_more seats at frames f None b c h k = tt
before_more seats at frames f (Some xs) None c h k = absurd h
before_more seats at frames f (Some xs) (Some ys) None h k = absurd k
before_more seats at frames f (Some xs) (Some ys) (Some zs) h k = λ more fault further.
    subst (λ (l : List Frame). FramesAre seats 0 xs l fault) (sym (append_assoc frames (f ∷ []) more)) (h (f ∷ more) fault (frame.FramesAre.Goes at ys zs f more fault k further))

before_end : (seats at : ℕ) (frames : List Frame) (a b c : Option (List ℕ)) → OfKnown (AreBefore seats at frames) a b → OfKnown (NextFrame seats at Over) b c → AreFrames seats a frames None
before_end seats at frames None b c h k = tt
before_end seats at frames (Some xs) None c h k = absurd h
before_end seats at frames (Some xs) (Some ys) None h k = absurd k
before_end seats at frames (Some xs) (Some ys) (Some zs) h k = subst (λ (l : List Frame). FramesAre seats 0 xs l None) (append-nil frames) (h [] None (frame.FramesAre.Ends at ys zs k))

before_fault : (seats at : ℕ) (frames : List Frame) (fault : FrameFault) (a b c : Option (List ℕ)) → OfKnown (AreBefore seats at frames) a b → OfKnown (NextFrame seats at (Wrong fault)) b c → AreFrames seats a frames (Some fault)
before_fault seats at frames fault None b c h k = tt
before_fault seats at frames fault (Some xs) None c h k = absurd h
before_fault seats at frames fault (Some xs) (Some ys) None h k = absurd k
before_fault seats at frames fault (Some xs) (Some ys) (Some zs) h k =
    subst (λ (l : List Frame). FramesAre seats 0 xs l (Some fault)) (append-nil frames) (h [] (Some fault) (frame.FramesAre.Fails at ys zs fault k))

before_first : (seats at : ℕ) (frames : List Frame) (a b : Option (List ℕ)) → OfKnown (AreBefore seats at frames) a b → AreFirstFrames seats a frames
before_first seats at frames None b h = record { more = []; fault = None; are = tt }
before_first seats at frames (Some xs) None h = absurd h
before_first seats at frames (Some xs) (Some ys) h =
    let some = each_has_frames seats at ys in
    record { more = some.0; fault = some.1; are = h some.0 some.1 some.2 }

-- one more frame was read
pub Reads-more : (most at seat : ℕ) (bytes : List ℕ) (a b c : Option (List ℕ)) (inboxes : List (Outlet (Option Ask))) (olds news : List Caller) (next : ℕ) → Reads most at a b inboxes olds → IsSeat (length olds) seat
    → OfKnown (NextFrame (length olds) at (Comes (frame_at seat bytes))) b c → DoesAt (λ old new. Takes seat old new (signs_in bytes)) (seat - 1) olds news → next ≡ at + (4 + length bytes)
    → Reads most next a c inboxes news
Reads-more most at seat bytes a b c inboxes olds news next h is k does e = record {
  frames = h.frames ++ frame_at seat bytes ∷ [];
  are = subst (λ (n : ℕ). OfKnown (AreBefore n next (h.frames ++ frame_at seat bytes ∷ [])) a c) (sym does.size)
      (subst (λ (n : ℕ). OfKnown (AreBefore (length olds) n (h.frames ++ frame_at seat bytes ∷ [])) a c) (sym e) (before_more (length olds) at h.frames (frame_at seat bytes) a b c h.are k));
  asked = calls_took most seat h.frames bytes inboxes olds news is h.asked does;
}

-- until memory did not suffice
pub Reads-some : (most at seat : ℕ) (bytes : List ℕ) (a b c : Option (List ℕ)) (inboxes : List (Outlet (Option Ask))) (olds news : List Caller) → Reads most at a b inboxes olds → IsSeat (length olds) seat
    → OfKnown (NextFrame (length olds) at (Comes (frame_at seat bytes))) b c → EachSeat CallsOn inboxes olds → DoesAt (λ old new. TakesFirst seat old new (signs_in bytes)) (seat - 1) olds news
    → EachSeat OwnsInbox inboxes news → HasReadSome most a inboxes news
Reads-some most at seat bytes a b c inboxes olds news h is k on does owns = record {
  frames = h.frames ++ frame_at seat bytes ∷ [];
  are = subst (λ (n : ℕ). AreFirstFrames n a (h.frames ++ frame_at seat bytes ∷ [])) (sym does.size)
      (before_first (length olds) (at + (4 + length bytes)) (h.frames ++ frame_at seat bytes ∷ []) a c (before_more (length olds) at h.frames (frame_at seat bytes) a b c h.are k));
  asked = firsts_took most seat h.frames bytes inboxes olds news is h.asked on does owns;
}

-- memory did not suffice before the next frame
pub Reads-refused : (most at : ℕ) (a b : Option (List ℕ)) (inboxes : List (Outlet (Option Ask))) (callers : List Caller) → Reads most at a b inboxes callers → EachSeat CallsOn inboxes callers → HasReadSome most a inboxes callers
Reads-refused most at a b inboxes callers h on = record {
  frames = h.frames;
  are = before_first (length callers) at h.frames a b h.are;
  asked = firsts_now most h.frames inboxes callers h.asked on;
}

-- a count that did not rise
pub unrisen : (before now : ℕ) → before ≤ now → (before < now → ⊥) → now ≡ before
unrisen before now later none = elim (cases_lt before now) [ inl less ↦ absurd (none less) | inr same ↦ omega (arith, later, same) ]

-- where no frame comes next, all was read
pub Reads-end : (most at : ℕ) (a b c : Option (List ℕ)) (inboxes : List (Outlet (Option Ask))) (callers : List Caller) → Reads most at a b inboxes callers → OfKnown (NextFrame (length callers) at Over) b c
    → ReadsAll most a inboxes callers None
Reads-end most at a b c inboxes callers h k = record { frames = h.frames; are = before_end (length callers) at h.frames a b c h.are k; asked = h.asked }

-- where a fault comes next, all was read, up to it
pub Reads-fault : (most at : ℕ) (fault : FrameFault) (a b c : Option (List ℕ)) (inboxes : List (Outlet (Option Ask))) (callers : List Caller) → Reads most at a b inboxes callers
    → OfKnown (NextFrame (length callers) at (Wrong fault)) b c → ReadsAll most a inboxes callers (Some fault)
Reads-fault most at fault a b c inboxes callers h k = record { frames = h.frames; are = before_fault (length callers) at h.frames fault a b c h.are k; asked = h.asked }

-- the source failed before the next frame
pub Reads-first : (most at : ℕ) (a b : Option (List ℕ)) (inboxes : List (Outlet (Option Ask))) (callers : List Caller) → Reads most at a b inboxes callers → ReadsFirst most a inboxes callers
Reads-first most at a b inboxes callers h = record { frames = h.frames; are = before_first (length callers) at h.frames a b h.are; asked = h.asked }

-- before the first frame
pub Reads-none : (most : ℕ) (a : Option (List ℕ)) (inboxes : List (Outlet (Option Ask))) (callers : List Caller) → MayCall most inboxes callers → Reads most 0 a a inboxes callers
Reads-none most a inboxes callers may = record {
  frames = [];
  are = before_none (length callers) a;
  asked = λ k inbox caller lt.
      let begins : Begins most (k + 1) (get_or inboxes k inbox) (get_or callers k caller) = may.begin k inbox caller lt in record {
        asks = [];
        put = begins.unused;
        come = λ more others h. subst (λ s. AskOn s more others) begins.first h;
      };
}

-- callers that may begin call on before the first frame
pub on_none : (most : ℕ) (inboxes : List (Outlet (Option Ask))) (callers : List Caller) → MayCall most inboxes callers → EachSeat CallsOn inboxes callers
on_none most inboxes callers may = λ k inbox caller lt.
    let begins : Begins most (k + 1) (get_or inboxes k inbox) (get_or callers k caller) = may.begin k inbox caller lt in
    let few : length callers ≤ 256 = may.few in record {
      own = begins.own;
      may = subst (λ (v : Hand (Option Ask)). MayPush v (k + 1)) (sym begins.unused) (omega arith, omega arith);
      waits = λ e. subst (λ s. IsUnfinished s.begun) (sym begins.first) (inl refl);
    }

-- one seat after another is told the end
pub ended_none : (inboxes : List (Outlet (Option Ask))) (callers : List Caller) → EachSeat CallsOn inboxes callers → AreEnded 0 inboxes callers callers
ended_none inboxes callers on = record {
  size = refl;
  told = λ k inbox caller lt. absurd (omega arith);
  kept = λ k inbox caller le lt. let going : CallsOn (k + 1) (get_or inboxes k inbox) (get_or callers k caller) = on k inbox caller lt in record { own = going.own; same = refl };
}

told_at : (j k seat : ℕ) (inboxes : List (Outlet (Option Ask))) (olds news : List Caller) (inbox d : Outlet (Option Ask)) (old new e : Caller) → j ≡ k → k < length news → length inboxes ≡ length news → seat ≡ k + 1
    → inbox ≡ get_or inboxes k inbox → old ≡ get_or news k old → knows (get_or news j e).asks ≡ knows (get_or olds j e).asks → IsEnded seat inbox old new
    → IsEnded (j + 1) (get_or inboxes j d) (get_or olds j e) (get_or (set news k new) j e)
told_at j k seat inboxes olds news inbox d old new e here lt each number own is same ended =
    let place : seat ≡ j + 1 = omega arith in
    let inside : j < length inboxes = omega arith in
    let box : inbox ≡ get_or inboxes j d = own ∙ ap (λ (i : ℕ). get_or inboxes i inbox) (sym here) ∙ get_or_default inboxes j inbox d inside in
    let within : j < length news = omega arith in
    let was : old ≡ get_or news j e = is ∙ ap (λ (i : ℕ). get_or news i old) (sym here) ∙ get_or_default news j old e within in
    let now : get_or (set news k new) j e ≡ new = ap (λ (i : ℕ). get_or (set news k new) i e) here ∙ get_or-set_same news k new e lt in record {
      own = subst (λ (c : Caller). IsPassOf (get_or inboxes j d) c.asks) (sym now) (subst (λ (o : Outlet (Option Ask)). IsPassOf o new.asks) box ended.own);
      put = ap (λ (c : Caller). knows c.asks) now ∙ ended.put ∙ ap (λ (n : ℕ). with_put n (knows old.asks) (None ∷ [])) place
          ∙ ap (λ (v : Hand (Option Ask)). with_put (j + 1) v (None ∷ [])) (ap (λ (c : Caller). knows c.asks) was ∙ same);
    }

-- the next seat was told its end too
pub ended_more : (k seat : ℕ) (inboxes : List (Outlet (Option Ask))) (olds news : List Caller) (inbox : Outlet (Option Ask)) (old new : Caller) → AreEnded k inboxes olds news → k < length olds → seat ≡ k + 1
    → length inboxes ≡ length olds → inbox ≡ get_or inboxes k inbox → old ≡ get_or news k old → IsEnded seat inbox old new → AreEnded (k + 1) inboxes olds (set news k new)
ended_more k seat inboxes olds news inbox old new h lt number each own is ended =
    let size : length news ≡ length olds = h.size in record {
      size = length-set news k new ∙ size;
      told = λ j d e less. elim (cases_eq j k) [
        | inl here ↦
            let kept : IsKept (get_or inboxes j d) (get_or olds j e) (get_or news j e) = h.kept j d e (omega arith) (omega arith) in
            told_at j k seat inboxes olds news inbox d old new e here (omega arith) (each ∙ sym size) number own is kept.same ended
        | inr apart ↦ subst (λ (c : Caller). IsEnded (j + 1) (get_or inboxes j d) (get_or olds j e) c) (sym (get_or-set_other news k j new e apart)) (h.told j d e (omega arith))
      ];
      kept = λ j d e le within. subst (λ (c : Caller). IsKept (get_or inboxes j d) (get_or olds j e) c) (sym (get_or-set_other news k j new e (λ here. omega arith))) (h.kept j d e (omega arith) within);
    }

-- the next seat, which was not told, is as it was
pub ended_kept : (k : ℕ) (inboxes : List (Outlet (Option Ask))) (olds news : List Caller) (inbox : Outlet (Option Ask)) (old new : Caller) → AreEnded k inboxes olds news → k < length olds
    → length inboxes ≡ length olds → inbox ≡ get_or inboxes k inbox → old ≡ get_or news k old → IsKept inbox old new → AreEnded k inboxes olds (set news k new)
ended_kept k inboxes olds news inbox old new h lt each own is stays =
    let size : length news ≡ length olds = h.size in record {
      size = length-set news k new ∙ size;
      told = λ j d e less. subst (λ (c : Caller). IsEnded (j + 1) (get_or inboxes j d) (get_or olds j e) c) (sym (get_or-set_other news k j new e (λ here. omega arith))) (h.told j d e less);
      kept = λ j d e le within. elim (cases_eq j k) [
        | inl here ↦
            let before : IsKept (get_or inboxes j d) (get_or olds j e) (get_or news j e) = h.kept j d e le within in
            let inside : j < length inboxes = omega arith in
            let box : inbox ≡ get_or inboxes j d = own ∙ ap (λ (i : ℕ). get_or inboxes i inbox) (sym here) ∙ get_or_default inboxes j inbox d inside in
            let there : j < length news = omega arith in
            let was : old ≡ get_or news j e = is ∙ ap (λ (i : ℕ). get_or news i old) (sym here) ∙ get_or_default news j old e there in
            let now : get_or (set news k new) j e ≡ new = ap (λ (i : ℕ). get_or (set news k new) i e) here ∙ get_or-set_same news k new e (omega arith) in record {
              own = subst (λ (c : Caller). IsPassOf (get_or inboxes j d) c.asks) (sym now) (subst (λ (o : Outlet (Option Ask)). IsPassOf o new.asks) box stays.own);
              same = ap (λ (c : Caller). knows c.asks) now ∙ stays.same ∙ ap (λ (c : Caller). knows c.asks) was ∙ before.same;
            }
        | inr apart ↦ subst (λ (c : Caller). IsKept (get_or inboxes j d) (get_or olds j e) c) (sym (get_or-set_other news k j new e apart)) (h.kept j d e le within)
      ];
    }

-- one seat's caller changes
at_place : (k : ℕ) (inboxes : List (Outlet (Option Ask))) (olds : List Caller) (inbox : Outlet (Option Ask)) (new : Caller) (P : ℕ → Outlet (Option Ask) → Caller → Type 0) → k < length olds → length inboxes ≡ length olds
    → inbox ≡ get_or inboxes k inbox → EachSeat P inboxes olds → P (k + 1) inbox new → EachSeat P inboxes (set olds k new)
at_place k inboxes olds inbox new P lt each own all here = λ j d e less.
    let size : length (set olds k new) ≡ length olds = length-set olds k new in
    elim (cases_eq j k) [
      | inl same ↦
          let inside : j < length inboxes = omega arith in
          let box : inbox ≡ get_or inboxes j d = own ∙ ap (λ (i : ℕ). get_or inboxes i inbox) (sym same) ∙ get_or_default inboxes j inbox d inside in
          let now : get_or (set olds k new) j e ≡ new = ap (λ (i : ℕ). get_or (set olds k new) i e) same ∙ get_or-set_same olds k new e lt in
          subst (λ (c : Caller). P (j + 1) (get_or inboxes j d) c) (sym now) (subst (λ (o : Outlet (Option Ask)). P (j + 1) o new) box (subst (λ (i : ℕ). P (i + 1) inbox new) (sym same) here))
      | inr apart ↦ subst (λ (c : Caller). P (j + 1) (get_or inboxes j d) c) (sym (get_or-set_other olds k j new e apart)) (all j d e (omega arith))
    ]

-- each caller has its inbox's pass still where one of them took another
pub owns_at : (k : ℕ) (inboxes : List (Outlet (Option Ask))) (olds : List Caller) (inbox : Outlet (Option Ask)) (new : Caller) → k < length olds → length inboxes ≡ length olds
    → inbox ≡ get_or inboxes k inbox → EachSeat CallsOn inboxes olds → IsPassOf inbox new.asks → EachSeat OwnsInbox inboxes (set olds k new)
owns_at k inboxes olds inbox new lt each own on here =
    at_place k inboxes olds inbox new OwnsInbox lt each own (λ j d e less. let going : CallsOn (j + 1) (get_or inboxes j d) (get_or olds j e) = on j d e less in going.own) here

-- each caller calls on where one of them has taken signs
pub on_at : (k seat : ℕ) (inboxes : List (Outlet (Option Ask))) (olds : List Caller) (inbox : Outlet (Option Ask)) (old new : Caller) (signs : List (Option ℕ)) → k < length olds → length inboxes ≡ length olds
    → inbox ≡ get_or inboxes k inbox → seat ≡ k + 1 → EachSeat CallsOn inboxes olds → IsPassOf inbox new.asks → MayPush (knows old.asks) seat → Takes seat old new signs → EachSeat CallsOn inboxes (set olds k new)
on_at k seat inboxes olds inbox old new signs lt each own number on here may takes =
    at_place k inboxes olds inbox new CallsOn lt each own on (record {
      own = here;
      may = subst (λ (n : ℕ). MayPush (knows new.asks) n) number (may-put seat seat (knows old.asks) (knows new.asks) (map Some takes.asks) takes.put may);
      waits = takes.waits;
    })

-- a caller that has taken signs has taken the first of them
pub does_first : (seat k : ℕ) (signs : List (Option ℕ)) (olds news : List Caller) → DoesAt (λ old new. Takes seat old new signs) k olds news → DoesAt (λ old new. TakesFirst seat old new signs) k olds news
does_first seat k signs olds news d = record { size = d.size; here = λ e. First-all seat (get_or olds k e) (get_or news k e) signs (d.here e); others = d.others }

-- each seat was told the end
put_end : (most seat : ℕ) (frames : List Frame) (inbox other : Outlet (Option Ask)) (old new : Caller) → Calls most frames seat inbox old → Waits (stand_of old) → IsEnded seat other old new → HasPutAll most frames seat other new
put_end most seat frames inbox other old new h waits ended = record {
  own = ended.own;
  asks = h.asks;
  asked = subst (λ (l : List (Option ℕ)). SeatAsks (first_tally most) l h.asks) (append-nil (signs_of seat frames))
      (subst (λ (l : List Ask). SeatAsks (first_tally most) (signs_of seat frames ++ []) l) (append-nil h.asks) (h.come [] [] (nothing_more old.counts old.begun.items old.left waits)));
  put = ended.put ∙ ap (λ (v : Hand (Option Ask)). with_put seat v (None ∷ [])) h.put
      ∙ ap (λ (l : List (Came (Option Ask))). let w : Hand (Option Ask) = record sender { sent = l } in w)
      (sym (map-append (λ (what : Option Ask). let c : Came (Option Ask) = record { session = seat; what = what } in c) (map Some h.asks) (None ∷ [])));
}

-- so each was put all that the frames ask, and the end
pub ended_all : (most : ℕ) (frames : List Frame) (inboxes : List (Outlet (Option Ask))) (olds news : List Caller) → EachSeat (Calls most frames) inboxes olds → EachSeat CallsOn inboxes olds
    → AreEnded (length olds) inboxes olds news → EachSeat (HasPutAll most frames) inboxes news
ended_all most frames inboxes olds news calls on ended = λ k inbox caller lt.
    let size : length news ≡ length olds = ended.size in
    let within : k < length olds = omega arith in
    let going : CallsOn (k + 1) (get_or inboxes k inbox) (get_or olds k caller) = on k inbox caller within in
    put_end most (k + 1) frames (get_or inboxes k inbox) (get_or inboxes k inbox) (get_or olds k caller) (get_or news k caller) (calls k inbox caller within) going.waits (ended.told k inbox caller within)

put_all_first : (most seat : ℕ) (frames : List Frame) (inbox : Outlet (Option Ask)) (caller : Caller) → HasPutAll most frames seat inbox caller → HasPutFirst most frames seat inbox caller
put_all_first most seat frames inbox caller h =
    record { own = h.own; asks = h.asks; asked = h.asked; now = map Some h.asks ++ None ∷ []; others = []; first = sym (append-nil (map Some h.asks ++ None ∷ [])); put = h.put }

-- and where not each was told the end, each was put the first of that
pub ended_some : (most n : ℕ) (frames : List Frame) (inboxes : List (Outlet (Option Ask))) (olds news : List Caller) → EachSeat (Calls most frames) inboxes olds → EachSeat CallsOn inboxes olds
    → AreEnded n inboxes olds news → EachSeat (HasPutFirst most frames) inboxes news
ended_some most n frames inboxes olds news calls on ended = λ k inbox caller lt.
    let size : length news ≡ length olds = ended.size in
    let within : k < length olds = omega arith in
    let going : CallsOn (k + 1) (get_or inboxes k inbox) (get_or olds k caller) = on k inbox caller within in
    elim (cases_lt k n) [
      | inl told ↦ put_all_first most (k + 1) frames (get_or inboxes k inbox) (get_or news k caller)
          (put_end most (k + 1) frames (get_or inboxes k inbox) (get_or inboxes k inbox) (get_or olds k caller) (get_or news k caller) (calls k inbox caller within) going.waits (ended.told k inbox caller told))
      | inr not_yet ↦
          let kept : IsKept (get_or inboxes k inbox) (get_or olds k caller) (get_or news k caller) = ended.kept k inbox caller not_yet within in
          first_of most (k + 1) frames (get_or inboxes k inbox) (get_or inboxes k inbox) (get_or olds k caller) (get_or news k caller) (calls k inbox caller within) going.waits kept.own kept.same
    ]

-- by how the frames ended
pub Told-all : (most : ℕ) (a : Option (List ℕ)) (inboxes : List (Outlet (Option Ask))) (olds news : List Caller) (fault : Option FrameFault) → ReadsTo (Ok fault) most a inboxes olds → EachSeat CallsOn inboxes olds
    → AreEnded (length olds) inboxes olds news → HasReadAll most a inboxes news fault
Told-all most a inboxes olds news fault h on ended = record {
  frames = h.frames;
  are = subst (λ (n : ℕ). AreFrames n a h.frames fault) (sym ended.size) h.are;
  asked = ended_all most h.frames inboxes olds news h.asked on ended;
}

-- where the source failed
pub Told-first : (most : ℕ) (a : Option (List ℕ)) (inboxes : List (Outlet (Option Ask))) (olds news : List Caller) → ReadsTo (Err Failed) most a inboxes olds → EachSeat CallsOn inboxes olds
    → AreEnded (length olds) inboxes olds news → HasReadFirst most a inboxes news
Told-first most a inboxes olds news h on ended = record {
  frames = h.frames;
  are = subst (λ (n : ℕ). AreFirstFrames n a h.frames) (sym ended.size) h.are;
  asked = ended_all most h.frames inboxes olds news h.asked on ended;
}

all_are_first : (seats : ℕ) (a : Option (List ℕ)) (frames : List Frame) (fault : Option FrameFault) → AreFrames seats a frames fault → AreFirstFrames seats a frames
all_are_first seats None frames fault h = record { more = []; fault = None; are = tt }
all_are_first seats (Some xs) frames fault h = record { more = []; fault = fault; are = subst (λ (l : List Frame). FramesAre seats 0 xs l fault) (sym (append-nil frames)) h }

-- what was read before the end was asked, be all seats told of the end or some
pub Told-some : (most n : ℕ) (a : Option (List ℕ)) (inboxes : List (Outlet (Option Ask))) (olds news : List Caller) (r : Result (Option FrameFault) NoFrame) → (r ≡ Err Memory → ⊥) → ReadsTo r most a inboxes olds
    → EachSeat CallsOn inboxes olds → AreEnded n inboxes olds news → HasReadSome most a inboxes news
Told-some most n a inboxes olds news (Ok fault) other h on ended = record {
  frames = h.frames;
  are = subst (λ (k : ℕ). AreFirstFrames k a h.frames) (sym ended.size) (all_are_first (length olds) a h.frames fault h.are);
  asked = ended_some most n h.frames inboxes olds news h.asked on ended;
}
Told-some most n a inboxes olds news (Err Failed) other h on ended = record {
  frames = h.frames;
  are = subst (λ (k : ℕ). AreFirstFrames k a h.frames) (sym ended.size) h.are;
  asked = ended_some most n h.frames inboxes olds news h.asked on ended;
}
Told-some most n a inboxes olds news (Err Memory) other h on ended = absurd (other refl)

-- what was read to the end was asked, where all seats are told of it
pub Told-done : (most : ℕ) (a : Option (List ℕ)) (inboxes : List (Outlet (Option Ask))) (olds news : List Caller) (r : Result (Option FrameFault) NoFrame) → ReadsTo r most a inboxes olds
    → EachSeat CallsOn inboxes olds → AreEnded (length olds) inboxes olds news → IfOk r (λ fault. HasReadAll most a inboxes news fault)
Told-done most a inboxes olds news (Ok fault) h on ended = Told-all most a inboxes olds news fault h on ended
Told-done most a inboxes olds news (Err none) h on ended = tt

-- what was read before a failed read was asked, where all seats are told of the end
pub Told-failed : (most : ℕ) (a : Option (List ℕ)) (inboxes : List (Outlet (Option Ask))) (olds news : List Caller) (r : Result (Option FrameFault) NoFrame) → r ≡ Err Failed → ReadsTo r most a inboxes olds
    → EachSeat CallsOn inboxes olds → AreEnded (length olds) inboxes olds news → HasReadFirst most a inboxes news
Told-failed most a inboxes olds news r e h on ended =
    Told-first most a inboxes olds news (subst (λ (x : Result (Option FrameFault) NoFrame). ReadsTo x most a inboxes olds) e h) on ended

-- by why no frame came
pub Turns-none : (most at : ℕ) (a b c : Option (List ℕ)) (inboxes : List (Outlet (Option Ask))) (callers : List Caller) (none : NoFrame) → Reads most at a b inboxes callers → EachSeat CallsOn inboxes callers
    → TurnsInto (Err none) most at a c inboxes callers
Turns-none most at a b c inboxes callers Failed h on = Reads-first most at a b inboxes callers h
Turns-none most at a b c inboxes callers Memory h on = Reads-refused most at a b inboxes callers h on

-- a frame that does not come ends the reading
pub Turns-to : (most at : ℕ) (a b : Option (List ℕ)) (inboxes : List (Outlet (Option Ask))) (callers : List Caller) (none : NoFrame) → TurnsInto (Err none) most at a b inboxes callers → ReadsTo (Err none) most a inboxes callers
Turns-to most at a b inboxes callers Failed h = h
Turns-to most at a b inboxes callers Memory h = h
