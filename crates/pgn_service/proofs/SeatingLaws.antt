-- What is opened for the seats of a service.
use Rattle.std.proofs.Common.{◌≡◌, ℕ, zero, suc, ◌+◌, ◌-◌, ◌<◌, ◌≤◌, List, [], ◌∷◌, ◌++◌, length, map, drop, get_or, replicate, All, Option, sym, ap, ◌∙◌, refl, subst, arith, append_assoc, length-append}
use Rattle.std.proofs.lemmas.List.{length-map, length-replicate}
use Rattle.std.proofs.lemmas.List.Elements.{All-cons, All-nil}
use Rattle.pgn_hub.specs.declared.known.Known.{Known}
use Rattle.pgn_hub.specs.declared.setup.SeatSetup.{SeatSetup}
use Rattle.pgn_hub.specs.Passes.{opened_pass, opened_passes}
use Rattle.pgn_hub.specs.Shape.{Shape}
use Rattle.pgn_language.specs.declared.scenario.ScriptLine.{ScriptLine}
use Rattle.pgn_language.specs.declared.scenario.Section.{Section}
use Rattle.pgn_language.specs.Inputs.{AreNumbered}
use Rattle.pgn_outlet.specs.declared.outlet.Outlet.{Outlet}
use Rattle.pgn_outlet.specs.declared.hand.Hand.{Hand}
use Rattle.pgn_outlet.specs.Passes.{IsPassOf, Pass, knows}
use Rattle.pgn_outlet.specs.Rule.{sender}
use Rattle.pgn_session.specs.declared.doing.FlagPlan.{FlagPlan}
use Rattle.pgn_session.specs.declared.session.Session.{Session}
use Rattle.pgn_session.specs.Standing.{IsFlagBelow, IsServedBy}
use Rattle.pgn_messages.specs.declared.asked.Ask.{Ask}
use Rattle.pgn_requests.specs.Settings.{fresh}
use Rattle.pgn_messages.specs.Asks.{seat_quit}
use Rattle.pgn_seats.specs.declared.desk.Desk.{Desk}
use Rattle.pgn_seats.specs.Desks.{MayBegin, MayServe, sections_of}
use Rattle.pgn_frames.specs.declared.caller.Caller.{Caller}
use Rattle.pgn_frames.specs.Reading.{Begins, MayCall}
use Rattle.pgn_service.specs.Service.{seat_notes}
use Rattle.pgn_service.specs.Seats.{AreGiven, AreNewSeats, GivesInbox, IsGiven, IsNewSeat, IsNewSession, IsOpened, SitsMore, service_seat, service_shape}

pub seat-count : (seats : ℕ) (setups : List SeatSetup) → setups ≡ (service_shape seats).seats → length setups ≡ seats
seat-count seats setups e = ap (λ (s : List SeatSetup). length s) e ∙ length-replicate seats (service_seat seats)

-- The passes of a new hub, one after another.

-- so many are left, and the next is that of this seat
pub record AreLeft {P : Type 0} (known : P → Known) (seats place : ℕ) (left : List P) : Type 0 where
  pub more : ℕ
  pub count : place + more ≡ seats
  pub are : map known left ≡ opened_passes (place + 1) (replicate more (service_seat seats))

opened-length : (n : ℕ) (setups : List SeatSetup) → length (opened_passes n setups) ≡ length setups
opened-length n [] = refl
opened-length n (setup ∷ setups) = ap suc (opened-length (n + 1) setups)

-- a hub that was opened for a service has given a pass for each seat
pub passes-count : {P : Type 0} (known : P → Known) (seats : ℕ) (passes : List P) (setups : List SeatSetup) → map known passes ≡ opened_passes 1 setups → setups ≡ (service_shape seats).seats → length passes ≡ seats
passes-count known seats passes setups e is = omega (arith, length-map passes known, ap (λ (ks : List Known). length ks) e, opened-length 1 setups, seat-count seats setups is)

next-left : {P : Type 0} (known : P → Known) (seats place : ℕ) (pass : P) (rest : List P) (more : ℕ) → place < seats → place + more ≡ seats → map known (pass ∷ rest) ≡ opened_passes (place + 1) (replicate more (service_seat seats))
    → (known pass ≡ opened_pass (place + 1) (service_seat seats)) × AreLeft known seats (place + 1) rest
next-left known seats place pass rest zero lt count e = absurd (omega (arith, lt, count))
next-left known seats place pass rest (suc more) lt count e = (
  ap (λ (ks : List Known). get_or ks 0 (known pass)) e,
  record { more = more; count = omega (arith, count); are = ap (λ (ks : List Known). drop 1 ks) e },
)

pub rest-left : {P : Type 0} (known : P → Known) (seats place : ℕ) (left : List P) (pass : P) (rest : List P) → place < seats → left ≡ pass ∷ rest → AreLeft known seats place left → AreLeft known seats (place + 1) rest
rest-left {P} known seats place left pass rest lt e h = (next-left known seats place pass rest h.more lt h.count (ap (λ (ps : List P). map known ps) (sym e) ∙ h.are)).1

-- and the next pass is as it was opened
pub next-known : {P : Type 0} (known : P → Known) (seats place : ℕ) (left : List P) (pass : P) (rest : List P) → place < seats → left ≡ pass ∷ rest → AreLeft known seats place left → known pass ≡ opened_pass (place + 1) (service_seat seats)
next-known {P} known seats place left pass rest lt e h = (next-left known seats place pass rest h.more lt h.count (ap (λ (ps : List P). map known ps) (sym e) ∙ h.are)).0

-- One seat more.

-- a session that has a new inbox's passes at its desk and its caller has got a seat behind the others
pub sits-more : {P : Type 0} (most : ℕ) (session : Session P) (boxes boxes_one : List (Outlet (Option Ask))) (desks desks_one : List (Desk P)) (callers callers_one : List Caller) (put asks : Pass (Option Ask)) (desk : Desk P) (caller : Caller)
    → GivesInbox boxes boxes_one put asks → desk.session ≡ session → desk.asks ≡ asks → desk.notes ≡ 0 → desk.settings ≡ fresh → desks_one ≡ desks ++ desk ∷ [] → callers_one ≡ callers ++ caller ∷ []
    → ((seat : ℕ) (inbox : Outlet (Option Ask)) → IsPassOf inbox put → Begins most seat inbox caller) → SitsMore most session boxes boxes_one desks desks_one callers callers_one
sits-more most session boxes boxes_one desks desks_one callers callers_one put asks desk caller g has own notes unset e f new = record {
  inbox = g.inbox;
  desk = desk;
  caller = caller;
  seat = λ number. record {
    has = has;
    own = subst (λ (p : Pass (Option Ask)). IsPassOf g.inbox p) (sym own) g.asks_own;
    takes = ap knows own ∙ g.takes;
    counted = notes;
    unset = unset;
    calls = new number g.inbox g.put_own;
  };
  inboxes_are = g.more;
  desks_are = e;
  callers_are = f;
}

push : {P : Type 0} (known : P → Known) (seats n m : ℕ) (ps : List P) (is : List (Outlet (Option Ask))) (ds : List (Desk P)) (cs : List Caller) (p : P) (i : Outlet (Option Ask)) (d : Desk P) (c : Caller) → n + length ps ≡ m → AreNewSeats known seats n ps is ds cs
    → IsNewSeat known seats m p i d c → AreNewSeats known seats n (ps ++ p ∷ []) (is ++ i ∷ []) (ds ++ d ∷ []) (cs ++ c ∷ [])
push known seats n m [] [] [] [] p i d c e h one = (subst (λ (k : ℕ). IsNewSeat known seats k p i d c) (let same : m ≡ n = omega (arith, e) in same) one, tt)
push known seats n m [] [] [] (y ∷ cs) p i d c e h one = absurd h
push known seats n m [] [] (x ∷ ds) cs p i d c e h one = absurd h
push known seats n m [] (w ∷ is) ds cs p i d c e h one = absurd h
push known seats n m (v ∷ ps) [] ds cs p i d c e h one = absurd h
push known seats n m (v ∷ ps) (w ∷ is) [] cs p i d c e h one = absurd h
push known seats n m (v ∷ ps) (w ∷ is) (x ∷ ds) [] p i d c e h one = absurd h
push known seats n m (v ∷ ps) (w ∷ is) (x ∷ ds) (y ∷ cs) p i d c e h one = (h.0, push known seats (n + 1) m ps is ds cs p i d c (omega (arith, e)) h.1 one)

-- so many seats are there, with the first of all passes
pub record HaveSeated {P : Type 0} (known : P → Known) (seats place : ℕ) (all left : List P) (boxes : List (Outlet (Option Ask))) (desks : List (Desk P)) (callers : List Caller) : Type 0 where
  pub first : List P
  pub whole : first ++ left ≡ all
  pub count : length first ≡ place
  pub rest : AreLeft known seats place left
  pub seated : AreNewSeats known seats 1 first boxes desks callers

-- where the first seats are there and one more is, with the next pass, one seat more is there
pub one-seated : {P : Type 0} (known : P → Known) (seats place : ℕ) (all left : List P) (boxes boxes_one : List (Outlet (Option Ask))) (desks desks_one : List (Desk P)) (callers callers_one : List Caller) (pass : P) (rest : List P) (s : Session P)
    → place < seats → left ≡ pass ∷ rest → HaveSeated known seats place all left boxes desks callers → IsNewSession known seats (place + 1) pass s
    → SitsMore (seat_notes seats) s boxes boxes_one desks desks_one callers callers_one → HaveSeated known seats (place + 1) all rest boxes_one desks_one callers_one
one-seated {P} known seats place all left boxes boxes_one desks desks_one callers callers_one pass rest s lt e h new sits = record {
  first = h.first ++ pass ∷ [];
  whole = append_assoc h.first (pass ∷ []) rest ∙ ap (λ (ps : List P). h.first ++ ps) (sym e) ∙ h.whole;
  count = length-append h.first (pass ∷ []) ∙ ap (λ (n : ℕ). n + 1) h.count;
  rest = rest-left known seats place left pass rest lt e h.rest;
  seated =
      subst (λ (x : List (Outlet (Option Ask))). AreNewSeats known seats 1 (h.first ++ pass ∷ []) x desks_one callers_one) (sym sits.inboxes_are)
      (subst (λ (x : List (Desk P)). AreNewSeats known seats 1 (h.first ++ pass ∷ []) (boxes ++ sits.inbox ∷ []) x callers_one) (sym sits.desks_are)
      (subst (λ (x : List Caller). AreNewSeats known seats 1 (h.first ++ pass ∷ []) (boxes ++ sits.inbox ∷ []) (desks ++ sits.desk ∷ []) x) (sym sits.callers_are)
      (push known seats 1 (place + 1) h.first boxes desks callers pass sits.inbox sits.desk sits.caller (omega (arith, h.count)) h.seated
      (record {
        session = subst (λ (x : Session P). IsNewSession known seats (place + 1) pass x) (sym (sits.seat (place + 1)).has) new;
        seated = let one = sits.seat (place + 1) in record { has = refl; own = one.own; takes = one.takes; counted = one.counted; unset = one.unset; calls = one.calls };
      }))));
}

-- What an opened service has at each seat.
record SeatAt {P : Type 0} (known : P → Known) (seats n k : ℕ) (ps : List P) (is : List (Outlet (Option Ask))) (ds : List (Desk P)) (cs : List Caller) : Type 0 where
  pub pass : P
  pub inbox : Outlet (Option Ask)
  pub desk : Desk P
  pub caller : Caller
  pub pass_is : (p : P) → get_or ps k p ≡ pass
  pub inbox_is : (i : Outlet (Option Ask)) → get_or is k i ≡ inbox
  pub desk_is : (d : Desk P) → get_or ds k d ≡ desk
  pub caller_is : (c : Caller) → get_or cs k c ≡ caller
  pub seat : IsNewSeat known seats (n + k) pass inbox desk caller

module _ {P : Type 0} (known : P → Known) (seats : ℕ) where
  seat-at : (n k : ℕ) (ps : List P) (is : List (Outlet (Option Ask))) (ds : List (Desk P)) (cs : List Caller) → k < length ps → AreNewSeats known seats n ps is ds cs → SeatAt known seats n k ps is ds cs
  seat-at n k [] is ds cs lt h = absurd (omega (arith, lt))
  seat-at n k (v ∷ ps) [] ds cs lt h = absurd h
  seat-at n k (v ∷ ps) (w ∷ is) [] cs lt h = absurd h
  seat-at n k (v ∷ ps) (w ∷ is) (x ∷ ds) [] lt h = absurd h
  seat-at n zero (v ∷ ps) (w ∷ is) (x ∷ ds) (y ∷ cs) lt h = record {
    pass = v;
    inbox = w;
    desk = x;
    caller = y;
    pass_is = λ p. refl;
    inbox_is = λ i. refl;
    desk_is = λ d. refl;
    caller_is = λ c. refl;
    seat = subst (λ (m : ℕ). IsNewSeat known seats m v w x y) (let same : n ≡ n + 0 = omega arith in same) h.0;
  }
  seat-at n (suc k) (v ∷ ps) (w ∷ is) (x ∷ ds) (y ∷ cs) lt h =
      let r = seat-at (n + 1) k ps is ds cs (omega (arith, lt)) h.1 in
      record {
        pass = r.pass;
        inbox = r.inbox;
        desk = r.desk;
        caller = r.caller;
        pass_is = r.pass_is;
        inbox_is = r.inbox_is;
        desk_is = r.desk_is;
        caller_is = r.caller_is;
        seat = subst (λ (m : ℕ). IsNewSeat known seats m r.pass r.inbox r.desk r.caller) (let same : n + 1 + k ≡ n + suc k = omega arith in same) r.seat;
      }

  counts : (n : ℕ) (ps : List P) (is : List (Outlet (Option Ask))) (ds : List (Desk P)) (cs : List Caller) → AreNewSeats known seats n ps is ds cs → (length is ≡ length ps) × (length ds ≡ length ps) × (length cs ≡ length ps)
  counts n [] [] [] [] h = (refl, refl, refl)
  counts n [] [] [] (y ∷ cs) h = absurd h
  counts n [] [] (x ∷ ds) cs h = absurd h
  counts n [] (w ∷ is) ds cs h = absurd h
  counts n (v ∷ ps) [] ds cs h = absurd h
  counts n (v ∷ ps) (w ∷ is) [] cs h = absurd h
  counts n (v ∷ ps) (w ∷ is) (x ∷ ds) [] h = absurd h
  counts n (v ∷ ps) (w ∷ is) (x ∷ ds) (y ∷ cs) h = let more = counts (n + 1) ps is ds cs h.1 in (ap suc more.0, ap suc more.1, ap suc more.2)

  new-given : (n : ℕ) (ps : List P) (is : List (Outlet (Option Ask))) (ds : List (Desk P)) (cs : List Caller) → AreNewSeats known seats n ps is ds cs → AreGiven seats n ds
  new-given n [] [] [] [] h = tt
  new-given n [] [] [] (y ∷ cs) h = absurd h
  new-given n [] [] (x ∷ ds) cs h = absurd h
  new-given n [] (w ∷ is) ds cs h = absurd h
  new-given n (v ∷ ps) [] ds cs h = absurd h
  new-given n (v ∷ ps) (w ∷ is) [] cs h = absurd h
  new-given n (v ∷ ps) (w ∷ is) (x ∷ ds) [] h = absurd h
  new-given n (v ∷ ps) (w ∷ is) (x ∷ ds) (y ∷ cs) h = (h.0.session.given, new-given (n + 1) ps is ds cs h.1)

-- the desks of seats from a number on
pub given-at : {P : Type 0} (seats n k : ℕ) (ds : List (Desk P)) (e : Desk P) → k < length ds → AreGiven seats n ds → IsGiven seats (n + k) (get_or ds k e).session
given-at seats n k [] e lt h = absurd (omega (arith, lt))
given-at seats n zero (d ∷ ds) e lt h = subst (λ (m : ℕ). IsGiven seats m d.session) (let same : n ≡ n + 0 = omega arith in same) h.0
given-at seats n (suc k) (d ∷ ds) e lt h =
    subst (λ (m : ℕ). IsGiven seats m (get_or ds k e).session) (let same : n + 1 + k ≡ n + suc k = omega arith in same) (given-at seats (n + 1) k ds e (omega (arith, lt)) h.1)

pub given-numbered : {P : Type 0} (seats n : ℕ) (ds : List (Desk P)) → AreGiven seats n ds → AreNumbered n (sections_of ds)
given-numbered seats n [] h = tt
given-numbered seats n (d ∷ ds) h = (ap (λ (x : Section). x.no) h.0.section, given-numbered seats (n + 1) ds h.1)

quit-acts : (flags : ℕ) → All (λ line. IsFlagBelow flags line.act) (seat_quit ∷ [])
quit-acts flags = All-cons (λ (line : ScriptLine). IsFlagBelow flags line.act) seat_quit [] tt (All-nil (λ (line : ScriptLine). IsFlagBelow flags line.act))

new-served : {P : Type 0} (seats seat : ℕ) (shape : Shape) (s : Session P) → seat ≤ seats → shape ≡ service_shape seats → IsGiven seats seat s → s.section.lines ≡ seat_quit ∷ [] → IsServedBy shape s.section s.plan
new-served seats seat shape s most is given script =
    let flags : shape.flags ≡ seats = ap (λ (x : Shape). x.flags) is in
    let no : s.section.no ≡ seat = ap (λ (x : Section). x.no) given.section in
    let first : s.plan.first_end ≡ 0 = ap (λ (x : FlagPlan). x.first_end) given.plan in
    let all : s.plan.sessions ≡ seats = ap (λ (x : FlagPlan). x.sessions) given.plan in
    record {
      acts = subst (λ (lines : List ScriptLine). All (λ line. IsFlagBelow shape.flags line.act) lines) (sym script) (quit-acts shape.flags);
      ends = omega (arith, flags, first, all);
      session = omega (arith, no, all, most);
    }

-- a service that was opened may serve, and its callers may call
module _ {P : Type 0} (is_own : P → Type 0) (shape : Shape) (known : P → Known) (seats : ℕ) (boxes : List (Outlet (Option Ask))) (desks : List (Desk P)) (callers : List Caller) (h : IsOpened is_own shape known seats boxes desks callers) where
  all-counts : (length boxes ≡ seats) × (length desks ≡ seats) × (length callers ≡ seats)
  all-counts = let c = counts known seats 1 h.passes boxes desks callers h.seated in (c.0 ∙ h.count, c.1 ∙ h.count, c.2 ∙ h.count)

  -- there are as many inboxes as seats
  pub box-count : length boxes ≡ seats
  box-count = all-counts.0

  -- there are as many desks
  pub desk-count : length desks ≡ seats
  desk-count = all-counts.1

  -- there are as many callers
  pub caller-count : length callers ≡ seats
  caller-count = all-counts.2

  -- the desks have what they were given
  pub opened-given : AreGiven seats 1 desks
  opened-given = new-given known seats 1 h.passes boxes desks callers h.seated

  at : (k : ℕ) → k < seats → SeatAt known seats 1 k h.passes boxes desks callers
  at k lt = seat-at known seats 1 k h.passes boxes desks callers (omega (arith, lt, h.count)) h.seated

  begins-at : (k : ℕ) (s : SeatAt known seats 1 k h.passes boxes desks callers) → k < seats → MayBegin is_own shape known boxes s.desk
  begins-at k s lt =
      let no : s.desk.session.section.no ≡ 1 + k = ap (λ (x : Section). x.no) s.seat.session.given.section in
      let place : s.desk.session.section.no - 1 ≡ k = omega (arith, no) in
      record {
        own = subst (λ (p : P). is_own p) (s.pass_is s.pass ∙ sym s.seat.session.has) (h.own k s.pass (omega (arith, lt, h.count)));
        served = new-served seats (1 + k) shape s.desk.session (omega (arith, lt)) h.shape_is s.seat.session.given s.seat.session.script;
        rested = s.seat.session.rested shape;
        begins = record { last = seat_quit; lines = s.seat.session.script; quits = refl; begun = s.seat.session.begun; between = s.seat.session.between; shown = s.seat.session.shown };
        quits = refl;
        inbox = record {
          some = omega (arith, no);
          within = omega (arith, no, lt, all-counts.0);
          own = λ o. subst (λ (i : Outlet (Option Ask)). IsPassOf i s.desk.asks) (sym (ap (λ (j : ℕ). get_or boxes j o) place ∙ s.inbox_is o)) s.seat.seated.own;
          takes = ap (λ (v : Hand (Option Ask)). v.takes) s.seat.seated.takes;
        };
        untaken = ap (λ (v : Hand (Option Ask)). v.got) s.seat.seated.takes;
        counted = s.seat.seated.counted;
        fresh = s.seat.seated.unset;
      }

  -- the desks of at most 256 seats may serve
  pub may-serve : seats ≤ 256 → MayServe is_own shape known boxes desks sender
  may-serve few = record {
    begin = λ k d lt.
        let s = at k (omega (arith, lt, all-counts.1)) in
        subst (λ (e : Desk P). MayBegin is_own shape known boxes e) (sym (s.desk_is d)) (begins-at k s (omega (arith, lt, all-counts.1)));
    numbered = given-numbered seats 1 desks opened-given;
    fits = omega (arith, few, all-counts.1);
    unused = refl;
  }

  -- their callers may call
  pub may-call : seats ≤ 256 → MayCall (seat_notes seats) boxes callers
  may-call few = record {
    each = all-counts.0 ∙ sym all-counts.2;
    few = omega (arith, few, all-counts.2);
    begin = λ k o c lt.
        let s = at k (omega (arith, lt, all-counts.2)) in
        let next : 1 + k ≡ k + 1 = omega arith in
        subst (λ (n : ℕ). Begins (seat_notes seats) n (get_or boxes k o) (get_or callers k c)) next
        (subst (λ (i : Outlet (Option Ask)). Begins (seat_notes seats) (1 + k) i (get_or callers k c)) (sym (s.inbox_is o))
        (subst (λ (x : Caller). Begins (seat_notes seats) (1 + k) s.inbox x) (sym (s.caller_is c)) s.seat.seated.calls));
  }

  -- the hub has a seat for each
  pub seat-length : length shape.seats ≡ seats
  seat-length = ap (λ (x : Shape). length x.seats) h.shape_is ∙ length-replicate seats (service_seat seats)

  -- and so for each caller
  pub as-many-seats : length shape.seats ≡ length callers
  as-many-seats = seat-length ∙ sym all-counts.2
