-- What a whole service comes to.
use Rattle.std.proofs.Common.{◌≡◌, ◌⊎◌, inl, inr, ℕ, zero, suc, Bool, true, false, ◌+◌, ◌-◌, ◌<◌, ◌≤◌, cond, List, [], ◌∷◌, ◌++◌, length, map, get_or, drop, flat_map, All, Option, Some, None, IfSome, Result, Ok, Err, OnOk, sym, ap, ◌∙◌, refl, subst, arith, append-nil, append_assoc}
use Rattle.std.specs.declared.alloc.AllocError.{AllocError}
use Rattle.std.specs.Io.KnownBytes.{Appends}
use Rattle.std.proofs.lemmas.Bool.{cases_lt, eq-eqb, ne_eqb}
use Rattle.std.proofs.lemmas.List.Elements.{All-append, All-cons, All-head, All-map, All-nil, All-tail}
use Rattle.pgn_base.specs.declared.source.Failed.{Failed}
use Rattle.pgn_base.specs.Outside.{AppendsPrefix, HasCause, Rose}
use Rattle.pgn_language.specs.declared.scenario.ScriptLine.{ScriptLine}
use Rattle.pgn_language.specs.declared.scenario.Section.{Section}
use Rattle.pgn_language.specs.Inputs.{AreNumbered, HasFlagBelow}
use Rattle.pgn_model.specs.declared.item.Item.{Item}
use Rattle.pgn_model.specs.declared.trace.Trace.{Trace}
use Rattle.pgn_model.specs.Legal.{Legal}
use Rattle.pgn_model.specs.Walk.{Terms}
use Rattle.pgn_model.specs.laws.NextLine.{HoldsSoFar}
use Rattle.pgn_hub.specs.declared.known.Known.{Known}
use Rattle.pgn_hub.specs.Gathered.{Gathered}
use Rattle.pgn_hub.specs.Shape.{Shape}
use Rattle.pgn_outlet.specs.declared.hand.Hand.{Hand}
use Rattle.pgn_outlet.specs.declared.outlet.Outlet.{Outlet}
use Rattle.pgn_outlet.specs.Cames.{what_of}
use Rattle.pgn_outlet.specs.Passes.{knows}
use Rattle.pgn_outlet.specs.Rule.{MayPush}
use Rattle.pgn_session.specs.declared.doing.Doing.{Doing}
use Rattle.pgn_session.specs.declared.doing.Doing.TheVariants.{Over}
use Rattle.pgn_session.specs.declared.doing.FlagPlan.{FlagPlan}
use Rattle.pgn_session.specs.declared.session.Session.{Session}
use Rattle.pgn_session.specs.Standing.{IsRested, terms_of}
use Rattle.pgn_threads.specs.Laws.{NamesFlagsBelow, RunsAreLegal}
use Rattle.pgn_threads.specs.Parts.{HasReadAll as HasHeardAll, HasRunOut, Part, part_of, settings_of, trace_of}
use Rattle.pgn_messages.specs.declared.asked.Ask.{Ask}
use Rattle.pgn_messages.specs.declared.asked.Ask.TheVariants.{Query, Settle, Discard, End}
use Rattle.pgn_messages.specs.declared.saying.Saying.{Saying}
use Rattle.pgn_messages.specs.Asks.{discard_line, line_of, lines_for, rollback_line, script_of, seat_quit, unlisten_line}
use Rattle.pgn_messages.specs.Sayings.{all_told}
use Rattle.pgn_messages.specs.Turns.{asks_of, items_of, said}
use Rattle.pgn_seats.specs.declared.desk.Desk.{Desk}
use Rattle.pgn_seats.specs.Serving.{HasServed, HasToldFirst}
use Rattle.pgn_frames.specs.declared.caller.Caller.{Caller}
use Rattle.pgn_frames.specs.declared.frame_fault.FrameFault.{FrameFault}
use Rattle.pgn_frames.specs.declared.framing.NoFrame.{NoFrame}
use Rattle.pgn_frames.specs.declared.framing.NoFrame.TheVariants as none
use Rattle.pgn_frames.specs.Clients.{SeatAsks, first_tally}
use Rattle.pgn_frames.specs.Frames.{Frame, FramesAre, IsFrame, IsSeat, frame_bytes, signs_in, signs_of}
use Rattle.pgn_frames.specs.Callers.{carried}
use Rattle.pgn_frames.specs.Reading as reading
use Rattle.pgn_service.specs.declared.service.ServiceEnd.TheVariants as end
use Rattle.pgn_service.specs.Arms.{HasRead, HasReadBy, HasToldBy, with_over}
use Rattle.pgn_service.specs.Closing.{AreOver, HasGathered, HasTakenFirst, HaveTakenFirst, MayCloseAll}
use Rattle.pgn_service.specs.Ending.{EndsService, end_of}
use Rattle.pgn_service.specs.Seats.{AreGiven, IsGiven, IsOpened, service_plan, service_shape}
use Rattle.pgn_service.specs.Service.{IsToldFirst, IsToldOf, RunsSeats, ServesAll, ServesFirst, StopsServing, asks_at, over_frame, seat_notes, seat_section, sections_from, service_scenario}
use Rattle.pgn_service.proofs.SeatingLaws.{box-count, caller-count, desk-count, given-at, opened-given, seat-length}
use Rattle.pgn_service.proofs.ClosingLaws.{IsStillCaller, are-over, given-still, may-close, same-count, still-callers}

-- Lists.

-- what was asked first is the front of all that was asked
begins-with : {A : Type 0} (xs zs : List A) (ys : List (Option A)) → map Some zs ++ None ∷ [] ≡ map Some xs ++ ys → (more : List A) × (zs ≡ xs ++ more)
begins-with [] zs ys e = (zs, refl)
begins-with (x ∷ xs) [] ys e = absurd (let bad : None ≡ Some x = ap (λ l. get_or l 0 None) e in cc)
begins-with {A} (x ∷ xs) (z ∷ zs) ys e =
    let first : Some z ≡ Some x = ap (λ (l : List (Option A)). get_or l 0 None) e in
    let same : z ≡ x = cc in
    let r = begins-with xs zs ys (ap (λ (l : List (Option A)). drop 1 l) e) in
    (r.0, ap (λ (a : A). a ∷ zs) same ∙ ap (λ (l : List A). x ∷ l) r.1)

-- and all of it, where nothing more was asked behind it
same-asks : {A : Type 0} (xs zs : List A) (rest : List (Option A)) → map Some zs ++ None ∷ [] ≡ map Some xs ++ None ∷ rest → zs ≡ xs
same-asks [] [] rest e = refl
same-asks [] (z ∷ zs) rest e = absurd (let bad : Some z ≡ None = ap (λ l. get_or l 0 None) e in cc)
same-asks (x ∷ xs) [] rest e = absurd (let bad : None ≡ Some x = ap (λ l. get_or l 0 None) e in cc)
same-asks {A} (x ∷ xs) (z ∷ zs) rest e =
    let first : Some z ≡ Some x = ap (λ (l : List (Option A)). get_or l 0 None) e in
    let same : z ≡ x = cc in
    ap (λ (a : A). a ∷ zs) same ∙ ap (λ (l : List A). x ∷ l) (same-asks xs zs rest (ap (λ (l : List (Option A)). drop 1 l) e))

-- the element of a list at a place
element : {A : Type 0} (xs : List A) (k : ℕ) → k < length xs → (x : A) × ((d : A) → get_or xs k d ≡ x)
element [] k lt = absurd (omega (arith, lt))
element (x ∷ xs) zero lt = (x, λ d. refl)
element (x ∷ xs) (suc k) lt = element xs k (omega (arith, lt))

-- where there is something for each place, there is a list of it
chosen-at : {B : Type 0} (Q : ℕ → B → Type 0) (m : ℕ) (b : B) → Q 0 b → (bs : List B) → ((k : ℕ) (d : B) → k < m → Q (suc k) (get_or bs k d)) → (k : ℕ) (d : B) → k < suc m → Q k (get_or (b ∷ bs) k d)
chosen-at Q m b q bs h zero d lt = q
chosen-at Q m b q bs h (suc k) d lt = h k d (omega (arith, lt))

chosen : {B : Type 0} (Q : ℕ → B → Type 0) (m : ℕ) → ((k : ℕ) → k < m → (b : B) × Q k b) → (bs : List B) × (length bs ≡ m) × ((k : ℕ) (d : B) → k < m → Q k (get_or bs k d))
chosen Q zero f = ([], refl, λ k d lt. absurd (omega (arith, lt)))
chosen Q (suc m) f =
    let one = f 0 (omega arith) in
    let more = chosen (λ k b. Q (suc k) b) m (λ k lt. f (suc k) (omega (arith, lt))) in
    (one.0 ∷ more.0, ap suc more.1, chosen-at Q m one.0 one.1 more.0 more.2)

-- Frames.

-- frames that can be written are of seats alone
signs-none : (seat : ℕ) (outs : List Frame) → (IsSeat 256 seat → ⊥) → All (IsFrame 256) outs → signs_of seat outs ≡ []
signs-none seat [] out all = refl
signs-none seat (f ∷ outs) out all =
    let own = (All-head (IsFrame 256) f outs all).seat in
    ap (λ (b : Bool). cond b (signs_in f.bytes) [] ++ signs_of seat outs) (ne_eqb f.seat seat (λ e. out (subst (λ (n : ℕ). IsSeat 256 n) e own))) ∙ signs-none seat outs out (All-tail (IsFrame 256) f outs all)

-- What was put.

abbrev pub put : ℕ → Hand (Option Ask) → List (Option Ask)
put seat v = what_of seat v.sent

-- all that these signs ask was put, and behind it that nothing more will be asked; the first of it was
pub record HasPutAll (most : ℕ) (signs : List (Option ℕ)) (now : List (Option Ask)) : Type 0 where
  pub asks : List Ask
  pub asked : SeatAsks (first_tally most) signs asks
  pub all : now ≡ map Some asks ++ None ∷ []

pub record HasPutFirst (most : ℕ) (signs : List (Option ℕ)) (now : List (Option Ask)) : Type 0 where
  pub asks : List Ask
  pub asked : SeatAsks (first_tally most) signs asks
  pub others : List (Option Ask)
  pub first : map Some asks ++ None ∷ [] ≡ now ++ others

of-carried : (seat : ℕ) (whats : List (Option Ask)) → what_of seat (carried seat whats) ≡ whats
of-carried seat [] = refl
of-carried seat (what ∷ whats) =
    ap (λ (b : Bool). cond b (what ∷ []) [] ++ what_of seat (carried seat whats)) (eq-eqb seat seat refl) ∙ ap (λ (l : List (Option Ask)). what ∷ l) (of-carried seat whats)

put-all : (most seat : ℕ) (frames : List Frame) (inbox : Outlet (Option Ask)) (caller : Caller) → reading.HasPutAll most frames seat inbox caller → HasPutAll most (signs_of seat frames) (put seat (knows caller.asks))
put-all most seat frames inbox caller h = record { asks = h.asks; asked = h.asked; all = ap (λ (v : Hand (Option Ask)). what_of seat v.sent) h.put ∙ of-carried seat (map Some h.asks ++ None ∷ []) }

put-some : (most seat : ℕ) (frames : List Frame) (inbox : Outlet (Option Ask)) (caller : Caller) → reading.HasPutFirst most frames seat inbox caller → HasPutFirst most (signs_of seat frames) (put seat (knows caller.asks))
put-some most seat frames inbox caller h = record {
  asks = h.asks;
  asked = h.asked;
  others = h.others;
  first = h.first ∙ ap (λ (l : List (Option Ask)). l ++ h.others) (sym (ap (λ (v : Hand (Option Ask)). what_of seat v.sent) h.put ∙ of-carried seat h.now));
}

-- Sections.

flagless-of : (ask : Ask) → All (λ line. HasFlagBelow 0 line.act) (lines_for ask)
flagless-of (Query query) = All-cons (λ (line : ScriptLine). HasFlagBelow 0 line.act) (line_of query) [] tt (All-nil (λ (line : ScriptLine). HasFlagBelow 0 line.act))
flagless-of (Settle settled) = All-nil (λ (line : ScriptLine). HasFlagBelow 0 line.act)
flagless-of (Discard line) = All-cons (λ (l : ScriptLine). HasFlagBelow 0 l.act) (discard_line line) (unlisten_line (line + 1) ∷ []) tt (All-cons (λ (l : ScriptLine). HasFlagBelow 0 l.act) (unlisten_line (line + 1)) [] tt (All-nil (λ (l : ScriptLine). HasFlagBelow 0 l.act)))
flagless-of (End line parting) = All-cons (λ (l : ScriptLine). HasFlagBelow 0 l.act) (rollback_line line) (unlisten_line (line + 1) ∷ []) tt (All-cons (λ (l : ScriptLine). HasFlagBelow 0 l.act) (unlisten_line (line + 1)) [] tt (All-nil (λ (l : ScriptLine). HasFlagBelow 0 l.act)))

flagless-lines : (asks : List Ask) → All (λ line. HasFlagBelow 0 line.act) (flat_map lines_for asks)
flagless-lines [] = All-nil (λ (line : ScriptLine). HasFlagBelow 0 line.act)
flagless-lines (ask ∷ asks) = All-append (λ (line : ScriptLine). HasFlagBelow 0 line.act) (lines_for ask) (flat_map lines_for asks) (flagless-of ask) (flagless-lines asks)

flagless : (asks : List Ask) → All (λ line. HasFlagBelow 0 line.act) (script_of asks)
flagless asks =
    All-append (λ (line : ScriptLine). HasFlagBelow 0 line.act) (flat_map lines_for asks) (seat_quit ∷ []) (flagless-lines asks)
    (All-cons (λ (line : ScriptLine). HasFlagBelow 0 line.act) seat_quit [] tt (All-nil (λ (line : ScriptLine). HasFlagBelow 0 line.act)))

all-flagless : (seats n : ℕ) (asks : List (List Ask)) → All (NamesFlagsBelow 0) (sections_from seats n asks)
all-flagless seats n [] = All-nil (NamesFlagsBelow 0)
all-flagless seats n (one ∷ asks) = All-cons (NamesFlagsBelow 0) (seat_section seats n (script_of one)) (sections_from seats (n + 1) asks) (flagless one) (all-flagless seats (n + 1) asks)

all-numbered : (seats n : ℕ) (asks : List (List Ask)) → AreNumbered n (sections_from seats n asks)
all-numbered seats n [] = tt
all-numbered seats n (one ∷ asks) = (refl, all-numbered seats (n + 1) asks)

module _ {P : Type 0} (known : P → Known) where
  -- what is known of a desk's session
  abbrev part : Desk P → Part
  part desk = part_of known desk.session

  sections-are : (seats n : ℕ) (desks : List (Desk P)) (asks : List (List Ask)) → length asks ≡ length desks
      → ((k : ℕ) (e : Desk P) → k < length desks → (get_or desks k e).session.section ≡ seat_section seats (n + k) (script_of (get_or asks k []))) → sections_from seats n asks ≡ map (λ p. p.section) (map part desks)
  sections-are seats n [] [] len each = refl
  sections-are seats n [] (a ∷ asks) len each = absurd (omega (arith, len))
  sections-are seats n (d ∷ desks) [] len each = absurd (omega (arith, len))
  sections-are seats n (d ∷ desks) (a ∷ asks) len each =
      let first : d.session.section ≡ seat_section seats (n + 0) (script_of a) = each 0 d (omega arith) in
      let zeroth : n + 0 ≡ n = omega arith in
      ap (λ (s : Section). s ∷ sections_from seats (n + 1) asks) (sym (first ∙ ap (λ (m : ℕ). seat_section seats m (script_of a)) zeroth))
      ∙ ap (λ (ss : List Section). d.session.section ∷ ss)
      (sections-are seats (n + 1) desks asks (omega (arith, len))
      (λ k e lt. each (suc k) e (omega (arith, lt)) ∙ ap (λ (m : ℕ). seat_section seats m (script_of (get_or asks k []))) (let same : n + suc k ≡ n + 1 + k = omega arith in same)))

  items-are : (desks : List (Desk P)) (k : ℕ) (d : Desk P) → k < length desks → get_or (map (λ (t : Trace). t.items) (map trace_of (map part desks))) k [] ≡ (get_or desks k d).session.items.items
  items-are [] k d lt = absurd (omega (arith, lt))
  items-are (x ∷ desks) zero d lt = refl
  items-are (x ∷ desks) (suc k) d lt = items-are desks k d (omega (arith, lt))

  knowns-are : (desks : List (Desk P)) → map (λ desk. known desk.session.pass) desks ≡ map (λ (p : Part). p.known) (map part desks)
  knowns-are [] = refl
  knowns-are (x ∷ desks) = ap (λ (ks : List Known). known x.session.pass ∷ ks) (knowns-are desks)

-- All that is known once a service has ended.
module _ {P K : Type 0} (is_own : P → Type 0) (shape : Shape) (known : P → Known) (seats : ℕ) (boxes : List (Outlet (Option Ask))) (old desks : List (Desk P)) (old_callers callers : List Caller) (held : K → Option (List ℕ)) (faults : K → ℕ)
    (sink sink_now : K) (so_far : Result Unit Failed) (served : Result Unit AllocError) (few : seats ≤ 256) (opened : IsOpened is_own shape known seats boxes old old_callers)
    (told : HasToldBy is_own shape known boxes old desks held faults sink sink_now (so_far, served)) (count : length callers ≡ length old_callers) (took : HaveTakenFirst desks callers) where
  abbrev pub most : ℕ
  most = seat_notes seats

  abbrev pub outs : List Frame
  outs = told.outs

  given : AreGiven seats 1 desks
  given = given-still seats 1 old desks told.ran.clients (opened-given is_own shape known seats boxes old old_callers opened)

  desks-count : length desks ≡ seats
  desks-count = same-count old desks told.ran.clients ∙ desk-count is_own shape known seats boxes old old_callers opened

  calls-count : length callers ≡ seats
  calls-count = count ∙ caller-count is_own shape known seats boxes old old_callers opened

  may-push : (n : ℕ) → 1 ≤ n → n ≤ 256 → MayPush told.after n
  may-push n least top = subst (λ (v : Hand Saying). MayPush v n) (sym told.ran.same) (least, omega (arith, top))

  -- of each seat
  record AtSeat (k : ℕ) : Type 0 where
    pub desk : Desk P
    pub desk_is : (e : Desk P) → get_or desks k e ≡ desk
    pub caller : Caller
    pub caller_is : (c : Caller) → get_or callers k c ≡ caller
    pub given_to : IsGiven seats (1 + k) desk.session
    pub first : HasToldFirst shape boxes desk told.after
    pub signed : signs_of (1 + k) outs ≡ all_told (what_of desk.session.section.no told.after.sent)
    pub taken_first : HasTakenFirst (knows caller.asks) (knows desk.asks)

  at-seat : (k : ℕ) → k < seats → AtSeat k
  at-seat k lt =
      let d = element desks k (omega (arith, lt, desks-count)) in
      let c = element callers k (omega (arith, lt, calls-count)) in
      let own : IsGiven seats (1 + k) d.0.session = subst (λ (x : Desk P). IsGiven seats (1 + k) x.session) (d.1 d.0) (given-at seats 1 k desks d.0 (omega (arith, lt, desks-count)) given) in
      let no : d.0.session.section.no ≡ 1 + k = ap (λ (s : Section). s.no) own.section in
      record {
        desk = d.0;
        desk_is = d.1;
        caller = c.0;
        caller_is = c.1;
        given_to = own;
        first = subst (λ (x : Desk P). HasToldFirst shape boxes x told.after) (d.1 d.0) (told.ran.told k d.0 (omega (arith, lt, desks-count)));
        signed = told.carry.signs (1 + k) (may-push (1 + k) (omega arith) (omega (arith, lt, few))) ∙ ap (λ (n : ℕ). all_told (what_of n told.after.sent)) (sym no);
        taken_first = subst (λ (x : Caller). HasTakenFirst (knows x.asks) (knows d.0.asks)) (c.1 c.0) (subst (λ (x : Desk P). HasTakenFirst (knows (get_or callers k c.0).asks) (knows x.asks)) (d.1 d.0) (took k d.0 c.0 (omega (arith, lt, desks-count))));
      }

  -- the number of a seat's session
  number : {k : ℕ} (s : AtSeat k) → s.desk.session.section.no ≡ 1 + k
  number s = ap (λ (x : Section). x.no) s.given_to.section

  -- nobody else is told anything
  nobody : (seat : ℕ) → (IsSeat seats seat → ⊥) → signs_of seat outs ≡ []
  nobody seat out = either (cases_lt seat 1) (cases_lt 256 seat)
    where
      beyond : (IsSeat 256 seat → ⊥) → signs_of seat outs ≡ []
      beyond outside = signs-none seat outs outside told.carry.can_be_written

      either : (seat < 1) ⊎ (1 ≤ seat) → (256 < seat) ⊎ (seat ≤ 256) → signs_of seat outs ≡ []
      either (inl less) above = beyond (λ s. let l : 1 ≤ seat = s.least in omega (arith, less, l))
      either (inr some) (inl more) = beyond (λ s. let l : seat ≤ 256 = s.most in omega (arith, more, l))
      either (inr some) (inr top) =
          told.carry.signs seat (may-push seat some top)
          ∙ ap all_told (told.ran.others seat (λ low high. out (record { least = low; most = omega (arith, high, desk-count is_own shape known seats boxes old old_callers opened) })))

  -- What of it is told where the whole service is not a legal run.
  module _ (bytes : List ℕ) (res : Result (Option FrameFault) NoFrame) (read : HasRead most (Some bytes) boxes callers res) where
    still : (k : ℕ) (s : AtSeat k) → k < seats → MayPush (knows s.caller.asks) (1 + k)
    still k s lt =
        let caller = still-callers most (Some bytes) callers boxes res read k (box k lt) s.caller (omega (arith, lt, calls-count)) in
        let same = subst (λ (c : Caller). IsStillCaller (get_or boxes k (box k lt)) c) (s.caller_is s.caller) caller in
        subst (λ (v : Hand (Option Ask)). MayPush v (1 + k)) (sym same.same) (omega arith, omega (arith, lt, few))
      where
        box : (k : ℕ) → k < seats → Outlet (Option Ask)
        box k lt = (element boxes k (omega (arith, lt, box-count is_own shape known seats boxes old old_callers opened))).0

    -- what was put for a seat and what its desk has taken of it
    put-is : (k : ℕ) (s : AtSeat k) → k < seats → (rest : List (Option Ask)) × (put (k + 1) (knows s.caller.asks) ≡ what_of s.desk.session.section.no (knows s.desk.asks).got ++ rest)
    put-is k s lt =
        let no : s.desk.session.section.no ≡ 1 + k = ap (λ (x : Section). x.no) s.given_to.section in
        let next : k + 1 ≡ 1 + k = omega arith in
        let t = s.taken_first (1 + k) (still k s lt) in (
          t.0,
          ap (λ (n : ℕ). what_of n (knows s.caller.asks).sent) next ∙ t.1 ∙ ap (λ (n : ℕ). what_of n (knows s.desk.asks).got ++ t.0) (sym no),
        )

    -- what is told of the first that a seat's clients ask
    told-first : (k : ℕ) (frames : List Frame) (s : AtSeat k) → k < seats → (h : HasPutFirst most (signs_of (k + 1) frames) (put (k + 1) (knows s.caller.asks))) → IsToldFirst seats (1 + k) h.asks (signs_of (1 + k) outs)
    told-first k frames s lt h =
        let p = put-is k s lt in
        let f = s.first in
        let before : List (Option Ask) = map Some (asks_of f.turns) in
        let whole : map Some h.asks ++ None ∷ [] ≡ before ++ (f.others ++ (p.0 ++ h.others)) =
        h.first ∙ ap (λ (l : List (Option Ask)). l ++ h.others) (p.1 ∙ ap (λ (l : List (Option Ask)). l ++ p.0) f.asked)
        ∙ append_assoc (before ++ f.others) p.0 h.others ∙ append_assoc before f.others (p.0 ++ h.others) in
        let begun = begins-with (asks_of f.turns) h.asks (f.others ++ (p.0 ++ h.others)) whole in
        let session : Session P = s.desk.session in
        let section_is : session.section ≡ seat_section seats (1 + k) (flat_map lines_for (asks_of f.turns) ++ f.rest) = s.given_to.section ∙ ap (λ (ls : List ScriptLine). seat_section seats (1 + k) ls) f.lines in
        let terms_are : terms_of shape session.section session.patience ≡ terms_of (service_shape seats) (seat_section seats (1 + k) (flat_map lines_for (asks_of f.turns) ++ f.rest)) 1 =
        ap (λ (sh : Shape). terms_of sh session.section session.patience) opened.shape_is ∙ ap (λ (n : ℕ). terms_of (service_shape seats) session.section n) s.given_to.patience
        ∙ ap (λ (x : Section). terms_of (service_shape seats) x 1) section_is in
        record {
          first = asks_of f.turns;
          others = begun.0;
          asked = begun.1;
          items = items_of f.turns;
          more = f.more;
          rest = f.rest;
          journal = f.lawful.journal;
          state = f.lawful.state;
          holds = subst (λ (items : List Item). HoldsSoFar (terms_of (service_shape seats) (seat_section seats (1 + k) (flat_map lines_for (asks_of f.turns) ++ f.rest)) 1) f.lawful.journal items f.lawful.state) f.items
              (subst (λ (t : Terms). HoldsSoFar t f.lawful.journal session.items.items f.lawful.state) terms_are f.lawful.holds);
          told = record { turns = f.turns; plain = f.plain; asked = refl; trace = refl; told = sym (s.signed ∙ f.told ∙ ap (λ (n : ℕ). said n f.turns) (number s)) };
        }

    -- a service that stops early has told of the first that its seats are asked, whether the frame that says so stands behind it or not
    pub stops : (frames more : List Frame) (fault : Option FrameFault) → FramesAre seats 0 bytes (frames ++ more) fault
        → ((k : ℕ) (c : Caller) → k < length callers → HasPutFirst most (signs_of (k + 1) frames) (put (k + 1) (knows (get_or callers k c).asks))) → (Q : List ℕ → Type 0)
        → Q (flat_map frame_bytes outs) ⊎ Q (flat_map frame_bytes outs ++ over_frame) → StopsServing seats bytes Q
    stops frames more fault are asked Q output = record {
      frames = frames;
      others = more;
      fault = fault;
      are = are;
      asks = all.0;
      each = all.1;
      asked = λ seat is.
          let back : 1 + (seat - 1) ≡ seat = let l : 1 ≤ seat = is.least in omega (arith, l) in
          subst (λ (n : ℕ). SeatAsks (first_tally most) (signs_of n frames) (asks_at all.0 seat)) back (all.2 (seat - 1) [] (below seat is)).0;
      outs = outs;
      can_be_written = told.carry.can_be_written;
      told = λ seat is.
          let back : 1 + (seat - 1) ≡ seat = let l : 1 ≤ seat = is.least in omega (arith, l) in
          subst (λ (n : ℕ). IsToldFirst seats n (asks_at all.0 seat) (signs_of n outs)) back (all.2 (seat - 1) [] (below seat is)).1;
      nobody_else = nobody;
      output = output;
    }
      where
        below : (seat : ℕ) → IsSeat seats seat → seat - 1 < seats
        below seat is = let l : 1 ≤ seat = is.least in let m : seat ≤ seats = is.most in omega (arith, l, m)

        one : (k : ℕ) → k < seats → (asks : List Ask) × (SeatAsks (first_tally most) (signs_of (1 + k) frames) asks × IsToldFirst seats (1 + k) asks (signs_of (1 + k) outs))
        one k lt =
            let s = at-seat k lt in
            let h : HasPutFirst most (signs_of (k + 1) frames) (put (k + 1) (knows s.caller.asks)) =
            subst (λ (c : Caller). HasPutFirst most (signs_of (k + 1) frames) (put (k + 1) (knows c.asks))) (s.caller_is s.caller) (asked k s.caller (omega (arith, lt, calls-count))) in
            let next : k + 1 ≡ 1 + k = omega arith in
            (h.asks, (subst (λ (n : ℕ). SeatAsks (first_tally most) (signs_of n frames) h.asks) next h.asked, told-first k frames s lt h))

        all : (asks : List (List Ask)) × (length asks ≡ seats) × ((k : ℕ) (d : List Ask) → k < seats → SeatAsks (first_tally most) (signs_of (1 + k) frames) (get_or asks k d) × IsToldFirst seats (1 + k) (get_or asks k d) (signs_of (1 + k) outs))
        all = chosen (λ k asks. SeatAsks (first_tally most) (signs_of (1 + k) frames) asks × IsToldFirst seats (1 + k) asks (signs_of (1 + k) outs)) seats one

    -- where all have served, it is a legal run
    module _ (law : RunsAreLegal) (fine : served ≡ Ok tt) (gathered : HasGathered known desks) where
      all-served : All (λ desk. HasServed is_own shape known boxes desk told.after) desks
      all-served = subst (λ (r : Result Unit AllocError). OnOk r (All (λ (desk : Desk P). HasServed is_own shape known boxes desk told.after) desks)) fine told.ran.served

      abbrev pub parts : List Part
      parts = map (part known) desks

      abbrev pub knowns : List Known
      knowns = map (λ (p : Part). p.known) parts

      run-out : (k : ℕ) (e : Desk P) → k < length desks → HasRunOut shape (service_plan seats) 1 (part known (get_or desks k e))
      run-out k e lt =
          let desk : Desk P = get_or desks k e in
          let s : Session P = desk.session in
          let h = all-served k e lt in
          let own : IsGiven seats (1 + k) s = given-at seats 1 k desks e lt given in
          record {
            done = s.done;
            block = s.block;
            set = s.set.channels;
            rested =
                subst (λ (n : ℕ). IsRested (terms_of shape s.section n) (service_plan seats) s.done s.block s.set.channels Over (known s.pass) s.items.items) own.patience
                (subst (λ (p : FlagPlan). IsRested (terms_of shape s.section s.patience) p s.done s.block s.set.channels Over (known s.pass) s.items.items) own.plan
                (subst (λ (doing : Doing). IsRested (terms_of shape s.section s.patience) s.plan s.done s.block s.set.channels doing (known s.pass) s.items.items) h.over h.rested));
            within = gathered.within k e lt;
          }

      heard : (k : ℕ) (e : Desk P) → k < length desks → HasHeardAll knowns (known (get_or desks k e).session.pass)
      heard k e lt = subst (λ (m : Option ℕ). IfSome m (λ mark. All (λ (other : Known). other.signalled ≤ mark) knowns)) (sym (all-served k e lt).left) tt

      -- what a seat is asked by these frames, was told, and had as its script
      abbrev IsOf : List Frame → ℕ → List Ask → Type 0
      IsOf frames k asks =
          SeatAsks (first_tally most) (signs_of (1 + k) frames) asks
          × (((e : Desk P) → IsToldOf (1 + k) asks (get_or desks k e).session.items.items (signs_of (1 + k) outs))
          × ((e : Desk P) → (get_or desks k e).session.section ≡ seat_section seats (1 + k) (script_of asks)))

      -- where each seat was asked all that these frames ask, what was told is told of a legal run
      pub runs : (frames : List Frame) → ((k : ℕ) (c : Caller) → k < length callers → HasPutAll most (signs_of (k + 1) frames) (put (k + 1) (knows (get_or callers k c).asks))) → (Q : List ℕ → Type 0) → Q (flat_map frame_bytes outs) → RunsSeats seats frames Q
      runs frames asked Q output = record {
        asks = all.0;
        each = all.1;
        asked = λ seat is.
            let back : 1 + (seat - 1) ≡ seat = let l : 1 ≤ seat = is.least in omega (arith, l) in
            subst (λ (n : ℕ). SeatAsks (first_tally most) (signs_of n frames) (asks_at all.0 seat)) back (all.2 (seat - 1) [] (below seat is)).0;
        journal = whole.journal;
        traces = map trace_of parts;
        legal = subst (λ (sh : Shape). Legal (service_scenario all.0) (settings_of sh 1) whole.journal (map trace_of parts)) opened.shape_is
            (law (service_scenario all.0) shape (service_plan seats) 1 parts gathered.count whole sections (all-numbered (length all.0) 1 all.0) (all-flagless (length all.0) 1 all.0)
            (All-map (HasRunOut shape (service_plan seats) 1) (part known) desks run-out)
            (All-map (HasHeardAll knowns) (λ (p : Part). p.known) parts (All-map (λ (p : Part). HasHeardAll knowns p.known) (part known) desks heard)));
        outs = outs;
        can_be_written = told.carry.can_be_written;
        told = λ seat is.
            let back : 1 + (seat - 1) ≡ seat = let l : 1 ≤ seat = is.least in omega (arith, l) in
            let at = element desks (seat - 1) (omega (arith, below seat is, desks-count)) in
            subst (λ (items : List Item). IsToldOf seat (asks_at all.0 seat) items (signs_of seat outs)) (sym (items-are known desks (seat - 1) at.0 (omega (arith, below seat is, desks-count))))
            (subst (λ (n : ℕ). IsToldOf n (asks_at all.0 seat) (get_or desks (seat - 1) at.0).session.items.items (signs_of n outs)) back ((all.2 (seat - 1) [] (below seat is)).1.0 at.0));
        nobody_else = nobody;
        output = output;
      }
        where
          below : (seat : ℕ) → IsSeat seats seat → seat - 1 < seats
          below seat is = let l : 1 ≤ seat = is.least in let m : seat ≤ seats = is.most in omega (arith, l, m)

          one : (k : ℕ) → k < seats → (asks : List Ask) × IsOf frames k asks
          one k lt =
              let s = at-seat k lt in
              let p = put-is k s lt in
              let h : HasServed is_own shape known boxes s.desk told.after = subst (λ (x : Desk P). HasServed is_own shape known boxes x told.after) (s.desk_is s.desk) (all-served k s.desk (omega (arith, lt, desks-count))) in
              let a : HasPutAll most (signs_of (k + 1) frames) (put (k + 1) (knows s.caller.asks)) =
              subst (λ (c : Caller). HasPutAll most (signs_of (k + 1) frames) (put (k + 1) (knows c.asks))) (s.caller_is s.caller) (asked k s.caller (omega (arith, lt, calls-count))) in
              let before : List (Option Ask) = map Some (asks_of h.turns) in
              let same : a.asks ≡ asks_of h.turns = same-asks (asks_of h.turns) a.asks p.0 (sym a.all ∙ p.1 ∙ ap (λ (l : List (Option Ask)). l ++ p.0) h.asked ∙ append_assoc before (None ∷ []) p.0) in
              let next : k + 1 ≡ 1 + k = omega arith in (
                asks_of h.turns,
                (
                  subst (λ (n : ℕ). SeatAsks (first_tally most) (signs_of n frames) (asks_of h.turns)) next (subst (λ (asks : List Ask). SeatAsks (first_tally most) (signs_of (k + 1) frames) asks) same a.asked),
                  (
                    λ e. subst (λ (x : Desk P). IsToldOf (1 + k) (asks_of h.turns) x.session.items.items (signs_of (1 + k) outs)) (sym (s.desk_is e)) (record {
                      items = items_of h.turns;
                      more = h.quits.more;
                      split = h.quits.items;
                      unread = h.quits.unread;
                      told = record { turns = h.turns; plain = h.quits.plain; asked = refl; trace = refl; told = sym (s.signed ∙ h.told ∙ ap (λ (n : ℕ). said n h.turns) (number s)) };
                    }),
                    λ e. ap (λ (x : Desk P). x.session.section) (s.desk_is e) ∙ s.given_to.section ∙ ap (λ (ls : List ScriptLine). seat_section seats (1 + k) ls) h.quits.lines,
                  ),
                ),
              )

          all : (asks : List (List Ask)) × (length asks ≡ seats) × ((k : ℕ) (d : List Ask) → k < seats → IsOf frames k (get_or asks k d))
          all = chosen (IsOf frames) seats one

          whole : Gathered knowns gathered.count
          whole = subst (λ (ks : List Known). Gathered ks gathered.count) (knowns-are known desks) gathered.gathered

          sections : sections_from (length all.0) 1 all.0 ≡ map (λ p. p.section) parts
          sections =
              ap (λ (n : ℕ). sections_from n 1 all.0) all.1
              ∙ sections-are known seats 1 desks all.0 (all.1 ∙ sym desks-count) (λ k e lt. (all.2 k [] (omega (arith, lt, desks-count))).1.1 e)

-- How it ends.

put-first : (most : ℕ) (signs : List (Option ℕ)) (now : List (Option Ask)) → HasPutAll most signs now → HasPutFirst most signs now
put-first most signs now h = record { asks = h.asks; asked = h.asked; others = []; first = sym h.all ∙ sym (append-nil now) }

-- a text without, or with, what says that the service is over
over-or-not : (over : Bool) (outs : List Frame) (Q : List ℕ → Type 0) → Q (with_over over outs) → Q (flat_map frame_bytes outs) ⊎ Q (flat_map frame_bytes outs ++ over_frame)
over-or-not true outs Q h = inr h
over-or-not false outs Q h = inl (subst Q (append-nil (flat_map frame_bytes outs)) h)

not-over : (over : Bool) (outs : List Frame) (Q : List ℕ → Type 0) → (over ≡ true → ⊥) → Q (with_over over outs) → Q (flat_map frame_bytes outs)
not-over true outs Q never h = absurd (never refl)
not-over false outs Q never h = subst Q (append-nil (flat_map frame_bytes outs)) h

module _ {P K : Type 0} (is_own : P → Type 0) (shape : Shape) (known : P → Known) (seats : ℕ) (boxes : List (Outlet (Option Ask))) (old desks : List (Desk P)) (old_callers callers : List Caller) (held : K → Option (List ℕ)) (faults : K → ℕ)
    (sink sink_now : K) (served : Result Unit AllocError) (few : seats ≤ 256) (opened : IsOpened is_own shape known seats boxes old old_callers) (count : length callers ≡ length old_callers) (took : HaveTakenFirst desks callers) (law : RunsAreLegal) (bytes : List ℕ) where
  abbrev Told : Result Unit Failed → Type 0
  Told so_far = HasToldBy is_own shape known boxes old desks held faults sink sink_now (so_far, served)

  as-many : length callers ≡ seats
  as-many = count ∙ caller-count is_own shape known seats boxes old old_callers opened

  -- an inbox
  a-box : (k : ℕ) → k < length callers → Outlet (Option Ask)
  a-box k lt = (element boxes k (omega (arith, lt, as-many, box-count is_own shape known seats boxes old old_callers opened))).0

  at-stop : (so_far : Result Unit Failed) (told : Told so_far) (res : Result (Option FrameFault) NoFrame) → HasRead (seat_notes seats) (Some bytes) boxes callers res → (Q : List ℕ → Type 0) → Q (with_over told.over told.outs) → StopsServing seats bytes Q
  at-stop so_far told (Ok fault) read Q h =
      stops is_own shape known seats boxes old desks old_callers callers held faults sink sink_now so_far served few opened told count took bytes (Ok fault) read read.frames [] fault
      (subst (λ (n : ℕ). FramesAre n 0 bytes (read.frames ++ []) fault) as-many (subst (λ (fs : List Frame). FramesAre (length callers) 0 bytes fs fault) (sym (append-nil read.frames)) read.are))
      (λ k c lt. put-first (seat_notes seats) (signs_of (k + 1) read.frames) (put (k + 1) (knows (get_or callers k c).asks)) (put-all (seat_notes seats) (k + 1) read.frames (get_or boxes k (a-box k lt)) (get_or callers k c) (read.asked k (a-box k lt) c lt))) Q (over-or-not told.over told.outs Q h)
  at-stop so_far told (Err none.Failed) read Q h =
      stops is_own shape known seats boxes old desks old_callers callers held faults sink sink_now so_far served few opened told count took bytes (Err none.Failed) read read.frames read.are.more read.are.fault
      (subst (λ (n : ℕ). FramesAre n 0 bytes (read.frames ++ read.are.more) read.are.fault) as-many read.are.are)
      (λ k c lt. put-first (seat_notes seats) (signs_of (k + 1) read.frames) (put (k + 1) (knows (get_or callers k c).asks)) (put-all (seat_notes seats) (k + 1) read.frames (get_or boxes k (a-box k lt)) (get_or callers k c) (read.asked k (a-box k lt) c lt))) Q (over-or-not told.over told.outs Q h)
  at-stop so_far told (Err none.Memory) read Q h =
      stops is_own shape known seats boxes old desks old_callers callers held faults sink sink_now so_far served few opened told count took bytes (Err none.Memory) read read.frames read.are.more read.are.fault
      (subst (λ (n : ℕ). FramesAre n 0 bytes (read.frames ++ read.are.more) read.are.fault) as-many read.are.are) (λ k c lt. put-some (seat_notes seats) (k + 1) read.frames (get_or boxes k (a-box k lt)) (get_or callers k c) (read.asked k (a-box k lt) c lt)) Q (over-or-not told.over told.outs Q h)

  -- nothing says that the service is over, where all have served
  whole-text : (so_far : Result Unit Failed) (told : Told so_far) → served ≡ Ok tt → (Q : List ℕ → Type 0) → Q (with_over told.over told.outs) → Q (flat_map frame_bytes told.outs)
  whole-text so_far told fine Q h = not-over told.over told.outs Q (λ e. subst (λ (r : Result Unit AllocError). OnOk r ⊥) fine (told.refused e)) h

  at-end : (so_far : Result Unit Failed) (told : Told so_far) (fault : Option FrameFault) → HasRead (seat_notes seats) (Some bytes) boxes callers (Ok fault) → served ≡ Ok tt → HasGathered known desks → (Q : List ℕ → Type 0) → Q (with_over told.over told.outs) → ServesAll seats bytes fault Q
  at-end so_far told fault read fine gathered Q h = record {
    frames = read.frames;
    are = subst (λ (n : ℕ). FramesAre n 0 bytes read.frames fault) as-many read.are;
    served = runs is_own shape known seats boxes old desks old_callers callers held faults sink sink_now so_far served few opened told count took bytes (Ok fault) read law fine gathered read.frames (λ k c lt. put-all (seat_notes seats) (k + 1) read.frames (get_or boxes k (a-box k lt)) (get_or callers k c) (read.asked k (a-box k lt) c lt)) Q (whole-text so_far told fine Q h);
  }

  at-fault : (so_far : Result Unit Failed) (told : Told so_far) → HasRead (seat_notes seats) (Some bytes) boxes callers (Err none.Failed) → served ≡ Ok tt → HasGathered known desks → (Q : List ℕ → Type 0) → Q (with_over told.over told.outs) → ServesFirst seats bytes Q
  at-fault so_far told read fine gathered Q h = record {
    frames = read.frames;
    more = read.are.more;
    fault = read.are.fault;
    are = subst (λ (n : ℕ). FramesAre n 0 bytes (read.frames ++ read.are.more) read.are.fault) as-many read.are.are;
    served = runs is_own shape known seats boxes old desks old_callers callers held faults sink sink_now so_far served few opened told count took bytes (Err none.Failed) read law fine gathered read.frames (λ k c lt. put-all (seat_notes seats) (k + 1) read.frames (get_or boxes k (a-box k lt)) (get_or callers k c) (read.asked k (a-box k lt) c lt)) Q (whole-text so_far told fine Q h);
  }

  -- all frames served are the first of them
  all-first : (fault : Option FrameFault) (Q : List ℕ → Type 0) → ServesAll seats bytes fault Q → ServesFirst seats bytes Q
  all-first fault Q h = record { frames = h.frames; more = []; fault = fault; are = subst (λ (fs : List Frame). FramesAre seats 0 bytes fs fault) (sym (append-nil h.frames)) h.are; served = h.served }

  -- what stands written when a service ends, by its end
  pub ends : (so_far : Result Unit Failed) (told : Told so_far) (ran : Result Unit AllocError) (res : Result (Option FrameFault) NoFrame) → HasRead (seat_notes seats) (Some bytes) boxes callers res → OnOk ran (served ≡ Ok tt) → OnOk ran (HasGathered known desks)
      → EndsService seats (end_of so_far ran res) bytes (held sink) (held sink_now)
  ends (Err d) told (Err e) res read fine gathered = inr (at-stop (Err d) told res read (AppendsPrefix (held sink) (held sink_now)) told.writes)
  ends (Err d) told (Ok x) (Ok fault) read fine gathered = inl (all-first fault (AppendsPrefix (held sink) (held sink_now)) (at-end (Err d) told fault read fine gathered (AppendsPrefix (held sink) (held sink_now)) told.writes))
  ends (Err d) told (Ok x) (Err none.Failed) read fine gathered = inl (at-fault (Err d) told read fine gathered (AppendsPrefix (held sink) (held sink_now)) told.writes)
  ends (Err d) told (Ok x) (Err none.Memory) read fine gathered = inr (at-stop (Err d) told (Err none.Memory) read (AppendsPrefix (held sink) (held sink_now)) told.writes)
  ends (Ok y) told (Err e) res read fine gathered = inr (at-stop (Ok y) told res read (Appends (held sink) (held sink_now)) told.writes)
  ends (Ok y) told (Ok x) (Err none.Memory) read fine gathered = inr (at-stop (Ok y) told (Err none.Memory) read (Appends (held sink) (held sink_now)) told.writes)
  ends (Ok y) told (Ok x) (Err none.Failed) read fine gathered = at-fault (Ok y) told read fine gathered (Appends (held sink) (held sink_now)) told.writes
  ends (Ok y) told (Ok x) (Ok (Some fault)) read fine gathered = at-end (Ok y) told (Some fault) read fine gathered (Appends (held sink) (held sink_now)) told.writes
  ends (Ok y) told (Ok x) (Ok None) read fine gathered = at-end (Ok y) told None read fine gathered (Appends (held sink) (held sink_now)) told.writes

-- the same of a source that may tell its bytes
pub ends-known : {P K : Type 0} (is_own : P → Type 0) (shape : Shape) (known : P → Known) (seats : ℕ) (boxes : List (Outlet (Option Ask))) (old desks : List (Desk P)) (old_callers callers : List Caller) (held : K → Option (List ℕ)) (faults : K → ℕ)
    (sink sink_now : K) (left : Option (List ℕ)) (so_far : Result Unit Failed) (served ran : Result Unit AllocError) (res : Result (Option FrameFault) NoFrame) → seats ≤ 256 → IsOpened is_own shape known seats boxes old old_callers
    → HasToldBy is_own shape known boxes old desks held faults sink sink_now (so_far, served) → length callers ≡ length old_callers → HasRead (seat_notes seats) left boxes callers res → HaveTakenFirst desks callers → RunsAreLegal
    → OnOk ran (served ≡ Ok tt) → OnOk ran (HasGathered known desks) → IfSome left (λ bytes. EndsService seats (end_of so_far ran res) bytes (held sink) (held sink_now))
ends-known is_own shape known seats boxes old desks old_callers callers held faults sink sink_now None so_far served ran res few opened told count read took law fine gathered = tt
ends-known is_own shape known seats boxes old desks old_callers callers held faults sink sink_now (Some bytes) so_far served ran res few opened told count read took law fine gathered =
    ends is_own shape known seats boxes old desks old_callers callers held faults sink sink_now served few opened count took law bytes so_far told ran res read fine gathered

-- a service that was not opened has told nothing
pub unopened : (left held : Option (List ℕ)) (seats : ℕ) → IfSome left (λ bytes. EndsService {T = Unit {0}} seats (Err end.Memory) bytes held held)
unopened None held seats = tt
unopened (Some bytes) held seats = inl refl

-- Causes.

module _ {A B E : Type 0} where
  -- a service that ends by a read fault has a reader that failed
  pub read-cause : (so_far : Result A Failed) (ran : Result B E) (res : Result (Option FrameFault) NoFrame) → end_of so_far ran res ≡ Err end.Read → res ≡ Err none.Failed
  read-cause (Err d) ran res e = absurd (let bad : Err end.Write ≡ Err end.Read = e in cc)
  read-cause (Ok a) (Err x) res e = absurd (let bad : Err end.Memory ≡ Err end.Read = e in cc)
  read-cause (Ok a) (Ok b) (Err none.Memory) e = absurd (let bad : Err end.Memory ≡ Err end.Read = e in cc)
  read-cause (Ok a) (Ok b) (Err none.Failed) e = refl
  read-cause (Ok a) (Ok b) (Ok (Some fault)) e = absurd (let bad : Err (end.Bad fault) ≡ Err end.Read = e in cc)
  read-cause (Ok a) (Ok b) (Ok None) e = absurd (let bad : Ok tt ≡ Err end.Read = e in cc)

  -- one that ends by a write fault has raised the sink's count
  pub write-cause : (before now : ℕ) (so_far : Result A Failed) (ran : Result B E) (res : Result (Option FrameFault) NoFrame) → HasCause before now so_far → end_of so_far ran res ≡ Err end.Write → Rose before now
  write-cause before now (Err d) ran res cause e = cause.failed
  write-cause before now (Ok a) (Err x) res cause e = absurd (let bad : Err end.Memory ≡ Err end.Write = e in cc)
  write-cause before now (Ok a) (Ok b) (Err none.Memory) cause e = absurd (let bad : Err end.Memory ≡ Err end.Write = e in cc)
  write-cause before now (Ok a) (Ok b) (Err none.Failed) cause e = absurd (let bad : Err end.Read ≡ Err end.Write = e in cc)
  write-cause before now (Ok a) (Ok b) (Ok (Some fault)) cause e = absurd (let bad : Err (end.Bad fault) ≡ Err end.Write = e in cc)
  write-cause before now (Ok a) (Ok b) (Ok None) cause e = absurd (let bad : Ok tt ≡ Err end.Write = e in cc)

  -- and where that count was raised it ends so
  pub write-due : (before now : ℕ) (so_far : Result A Failed) (ran : Result B E) (res : Result (Option FrameFault) NoFrame) → HasCause before now so_far → before < now → end_of so_far ran res ≡ Err end.Write
  write-due before now (Err d) ran res cause lt = refl
  write-due before now (Ok a) ran res cause lt = absurd (let same : now ≡ before = cause.passed in omega (arith, lt, same))

  -- where its reader failed, or had too little memory, it ends by a fault or for want of memory
  pub fault-due : (so_far : Result A Failed) (ran : Result B E) (res : Result (Option FrameFault) NoFrame) → (res ≡ Err none.Failed) ⊎ (res ≡ Err none.Memory)
      → (end_of so_far ran res ≡ Err end.Read) ⊎ (end_of so_far ran res ≡ Err end.Write) ⊎ (end_of so_far ran res ≡ Err end.Memory)
  fault-due (Err d) ran res e = inr (inl refl)
  fault-due (Ok a) (Err x) res e = inr (inr refl)
  fault-due (Ok a) (Ok b) (Err none.Memory) e = inr (inr refl)
  fault-due (Ok a) (Ok b) (Err none.Failed) e = inl refl
  fault-due (Ok a) (Ok b) (Ok fault) (inl e) = absurd (let bad : Ok fault ≡ Err none.Failed = e in cc)
  fault-due (Ok a) (Ok b) (Ok fault) (inr e) = absurd (let bad : Ok fault ≡ Err none.Memory = e in cc)

-- The same of lists that are lent and given back.

-- what may be closed may be under equal desks and callers
pub close-moved : {P : Type 0} (boxes : List (Outlet (Option Ask))) (ds desks : List (Desk P)) (cs callers : List Caller) → ds ≡ desks → cs ≡ callers → MayCloseAll boxes desks callers → MayCloseAll boxes ds cs
close-moved {P} boxes ds desks cs callers e f h = subst (λ (x : List (Desk P)). MayCloseAll boxes x cs) (sym e) (subst (λ (x : List Caller). MayCloseAll boxes desks x) (sym f) h)

-- what can be gathered of desks can be of equal ones
pub over-moved : {P : Type 0} (is_own : P → Type 0) (shape : Shape) (known : P → Known) (ds desks : List (Desk P)) (r : Result Unit AllocError) → ds ≡ desks → OnOk r (AreOver is_own shape known desks) → OnOk r (AreOver is_own shape known ds)
over-moved {P} is_own shape known ds desks r e h = subst (λ (x : List (Desk P)). OnOk r (AreOver is_own shape known x)) (sym e) h

-- what was taken at seats was at equal ones
pub took-moved : {P : Type 0} (ds desks : List (Desk P)) (cs callers : List Caller) → ds ≡ desks → cs ≡ callers → HaveTakenFirst ds cs → HaveTakenFirst desks callers
took-moved {P} ds desks cs callers e f h = subst (λ (x : List (Desk P)). HaveTakenFirst x callers) e (subst (λ (x : List Caller). HaveTakenFirst ds x) f h)

-- what was gathered of desks was of equal ones
pub gathered-moved : {P : Type 0} (known : P → Known) (ds desks : List (Desk P)) (r : Result Unit AllocError) → ds ≡ desks → OnOk r (HasGathered known ds) → OnOk r (HasGathered known desks)
gathered-moved {P} known ds desks r e h = subst (λ (x : List (Desk P)). OnOk r (HasGathered known x)) e h

-- what was told by inboxes and desks was by equal ones
pub told-moved : {P K : Type 0} (is_own : P → Type 0) (shape : Shape) (known : P → Known) (bs boxes : List (Outlet (Option Ask))) (ds old desks : List (Desk P)) (held : K → Option (List ℕ)) (faults : K → ℕ) (sink sink_now : K)
    (told : Result Unit Failed × Result Unit AllocError) → bs ≡ boxes → ds ≡ old → HasToldBy is_own shape known bs ds desks held faults sink sink_now told → HasToldBy is_own shape known boxes old desks held faults sink sink_now told
told-moved {P} is_own shape known bs boxes ds old desks held faults sink sink_now told e f h =
    subst (λ (x : List (Outlet (Option Ask))). HasToldBy is_own shape known x old desks held faults sink sink_now told) e
    (subst (λ (x : List (Desk P)). HasToldBy is_own shape known bs x desks held faults sink sink_now told) f h)

-- what was read for inboxes and callers was for equal ones
pub read-moved : {S : Type 0} (left : S → Option (List ℕ)) (faults : S → ℕ) (bs boxes : List (Outlet (Option Ask))) (cs old callers : List Caller) (source source_now : S) (res : Result (Option FrameFault) NoFrame) → bs ≡ boxes → cs ≡ old
    → HasReadBy left faults bs cs callers source source_now res → HasReadBy left faults boxes old callers source source_now res
read-moved left faults bs boxes cs old callers source source_now res e f h =
    subst (λ (x : List (Outlet (Option Ask))). HasReadBy left faults x old callers source source_now res) e
    (subst (λ (x : List Caller). HasReadBy left faults bs x callers source source_now res) f h)

-- desks that have all served are over
module _ {P K : Type 0} (is_own : P → Type 0) (shape : Shape) (known : P → Known) (seats : ℕ) (boxes : List (Outlet (Option Ask))) (old desks : List (Desk P)) (old_callers callers : List Caller) (held : K → Option (List ℕ)) (faults : K → ℕ)
    (sink sink_now : K) (so_far : Result Unit Failed) (served : Result Unit AllocError) (opened : IsOpened is_own shape known seats boxes old old_callers)
    (told : HasToldBy is_own shape known boxes old desks held faults sink sink_now (so_far, served)) where
  given-now : AreGiven seats 1 desks
  given-now = given-still seats 1 old desks told.ran.clients (opened-given is_own shape known seats boxes old old_callers opened)

  count-now : length desks ≡ seats
  count-now = same-count old desks told.ran.clients ∙ desk-count is_own shape known seats boxes old old_callers opened

  -- where all desks have served their passes can be gathered
  pub over-now : OnOk served (AreOver is_own shape known desks)
  over-now = at served told.ran.served
    where
      at : (r : Result Unit AllocError) → OnOk r (All (λ desk. HasServed is_own shape known boxes desk told.after) desks) → OnOk r (AreOver is_own shape known desks)
      at (Err x) h = tt
      at (Ok x) h = are-over is_own shape known boxes told.after seats desks count-now (seat-length is_own shape known seats boxes old old_callers opened) given-now h

  -- and their inboxes can be closed, however the reader ended
  pub close-now : (left : Option (List ℕ)) (res : Result (Option FrameFault) NoFrame) → length callers ≡ length old_callers → HasRead (seat_notes seats) left boxes callers res → MayCloseAll boxes desks callers
  close-now left res count read =
      may-close seats (seat_notes seats) shape left boxes desks callers told.after res (box-count is_own shape known seats boxes old old_callers opened) count-now
      (count ∙ caller-count is_own shape known seats boxes old old_callers opened) given-now told.ran.told read
