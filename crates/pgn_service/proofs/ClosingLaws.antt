-- How what the seats of a service have is closed.
use Rattle.std.proofs.Common.{◌≡◌, ℕ, zero, suc, ◌+◌, ◌-◌, ◌<◌, ◌≤◌, true, List, [], ◌∷◌, ◌++◌, length, map, take, drop, get_or, take_all, All, Option, Result, Ok, Err, OnOk, sym, ap, ◌∙◌, refl, subst, arith, append-nil}
use Rattle.std.proofs.Common.{◌⊎◌, inl, inr}
use Rattle.std.specs.List.{range_with_len}
use Rattle.std.specs.declared.alloc.AllocError.{AllocError}
use Rattle.std.proofs.lemmas.Bool.{cases_lt}
use Rattle.std.proofs.lemmas.Grind.{flat_map-append}
use Rattle.std.proofs.lemmas.List.{map-append}
use Rattle.std.proofs.Math.Seq.{drop-cons}
use Rattle.std.proofs.lemmas.List.Elements.{All-cons, All-head, All-map, All-nil, All-same, All-tail, length_all_zip}
use Rattle.pgn_hub.specs.Gathered.{Gathered}
use Rattle.pgn_hub.specs.Passes.{IsWithin}
use Rattle.pgn_hub.specs.declared.known.Known.{Known}
use Rattle.pgn_hub.specs.Shape.{Shape}
use Rattle.pgn_language.specs.declared.scenario.Section.{Section}
use Rattle.pgn_outlet.specs.declared.came.Came.{Came}
use Rattle.pgn_outlet.specs.declared.hand.Hand.{Hand}
use Rattle.pgn_outlet.specs.declared.outlet.Outlet.{Outlet}
use Rattle.pgn_outlet.specs.Cames.{what_in, what_of}
use Rattle.pgn_outlet.specs.Passes.{IsPassOf, knows}
use Rattle.pgn_outlet.specs.Rule.{MayPush, taken_over}
use Rattle.pgn_session.specs.declared.session.Session.{Session}
use Rattle.pgn_session.specs.Open.{IsSameClient}
use Rattle.pgn_messages.specs.declared.asked.Ask.{Ask}
use Rattle.pgn_messages.specs.declared.saying.Saying.{Saying}
use Rattle.pgn_seats.specs.declared.desk.Desk.{Desk}
use Rattle.pgn_seats.specs.Desks.{AreSameClients}
use Rattle.pgn_seats.specs.Serving.{HasServed, HasToldFirst}
use Rattle.pgn_frames.specs.declared.caller.Caller.{Caller}
use Rattle.pgn_frames.specs.declared.frame_fault.FrameFault.{FrameFault}
use Rattle.pgn_frames.specs.declared.framing.NoFrame.{NoFrame}
use Rattle.pgn_frames.specs.declared.framing.NoFrame.TheVariants as none
use Rattle.pgn_outlet.specs.Rule.{sender}
use Rattle.pgn_service.specs.Arms.{HasRead}
use Rattle.pgn_service.specs.Closing.{AreOver, HasGathered, HasTakenFirst, HasTakenRest, HaveTakenFirst, MayCloseAll}
use Rattle.pgn_service.specs.Seats.{AreGiven, IsGiven}
use Rattle.pgn_service.proofs.SeatingLaws.{given-at}

-- One inbox.

-- a pass has taken more
pub record HasTakenMore {T : Type 0} (old new : Hand T) : Type 0 where
  pub more : List (Came T)
  pub got : new ≡ record old { got = old.got ++ more }

-- a pass that took nothing has taken no more
pub no-more : {T : Type 0} (v : Hand T) → HasTakenMore v v
no-more {T} v = record { more = []; got = ap (λ (l : List (Came T)). let x : Hand T = record v { got = l } in x) (sym (append-nil v.got)) }

-- the first of what a pass has put, where another took over what the taker had taken, and then took all
pub taken-first : {T : Type 0} (v t c w : Hand T) → c ≡ taken_over v t → HasTakenRest c w → HasTakenFirst v t
taken-first {T} v t c w closed h = λ n may.
    let w_is : w ≡ record v { takes = true; got = t.got ++ h.more } = h.got ∙ ap (λ (x : Hand T). let y : Hand T = record x { got = x.got ++ h.more } in y) closed in (
      what_of n h.more,
      sym (ap (λ (x : Hand T). what_of n x.sent) w_is) ∙ sym (h.all n (subst (λ (x : Hand T). MayPush x n) (sym w_is) may)) ∙ ap (λ (x : Hand T). what_of n x.got) w_is ∙ flat_map-append (what_in n) t.got h.more,
    )

-- All inboxes, one after another.

-- what is left of a list, element by element
pub next-of : {A : Type 0} (all left : List A) (k : ℕ) (x : A) (rest : List A) (d : A) → k < length all → left ≡ drop k all → left ≡ x ∷ rest → (x ≡ get_or all k d) × (rest ≡ drop (k + 1) all)
next-of {A} all left k x rest d lt e f =
    let whole : x ∷ rest ≡ get_or all k d ∷ drop (suc k) all = sym f ∙ e ∙ drop-cons all k d lt in
    let next : suc k ≡ k + 1 = omega arith in
    (ap (λ (l : List A). get_or l 0 d) whole, ap (λ (l : List A). drop 1 l) whole ∙ ap (λ (n : ℕ). drop n all) next)

-- the first seats, so many, are closed
pub record HaveClosed {P : Type 0} (place : ℕ) (desks desks_left : List (Desk P)) (callers callers_left : List Caller) (passes : List P) (so_far : Result Unit AllocError) : Type 0 where
  pub desks_are : desks_left ≡ drop place desks
  pub callers_are : callers_left ≡ drop place callers
  pub took : (k : ℕ) (e : Desk P) (c : Caller) → k < place → HasTakenFirst (knows (get_or callers k c).asks) (knows (get_or desks k e).asks)
  pub kept : OnOk so_far (passes ≡ map (λ desk. desk.session.pass) (take place desks))

take-more : {A : Type 0} (xs : List A) (k : ℕ) (d : A) → k < length xs → take (k + 1) xs ≡ take k xs ++ get_or xs k d ∷ []
take-more [] k d lt = absurd (omega (arith, lt))
take-more (x ∷ xs) zero d lt = refl
take-more {A} (x ∷ xs) (suc k) d lt =
    let next : suc k + 1 ≡ suc (k + 1) = omega arith in
    ap (λ (n : ℕ). take n (x ∷ xs)) next ∙ ap (λ (ys : List A). x ∷ ys) (take-more xs k d (omega (arith, lt)))

-- where the first seats are closed and the next one is, one seat more is closed
pub one-closed : {P : Type 0} (place : ℕ) (desks left rest : List (Desk P)) (callers calls others : List Caller) (passes passes_one : List P) (so_far so_far_one : Result Unit AllocError) (desk : Desk P) (caller : Caller)
    → place < length desks → place < length callers → HaveClosed place desks left callers calls passes so_far → left ≡ desk ∷ rest → calls ≡ caller ∷ others → HasTakenFirst (knows caller.asks) (knows desk.asks)
    → OnOk so_far_one (so_far ≡ Ok tt) → OnOk so_far_one (passes_one ≡ passes ++ desk.session.pass ∷ []) → HaveClosed (place + 1) desks rest callers others passes_one so_far_one
one-closed {P} place desks left rest callers calls others passes passes_one so_far so_far_one desk caller lt lt_caller h e f took ok kept = record {
  desks_are = (next-of desks left place desk rest desk lt h.desks_are e).1;
  callers_are = (next-of callers calls place caller others caller lt_caller h.callers_are f).1;
  took = λ k d c less. either k d c less (cases_lt k place);
  kept = all-kept so_far_one ok kept;
}
  where
    either : (k : ℕ) (d : Desk P) (c : Caller) → k < place + 1 → (k < place) ⊎ (place ≤ k) → HasTakenFirst (knows (get_or callers k c).asks) (knows (get_or desks k d).asks)
    either k d c less (inl before) = h.took k d c before
    either k d c less (inr from) =
        let same : k ≡ place = omega (arith, less, from) in
        subst (λ (n : ℕ). HasTakenFirst (knows (get_or callers n c).asks) (knows (get_or desks n d).asks)) (sym same)
        (subst (λ (x : Desk P). HasTakenFirst (knows (get_or callers place c).asks) (knows x.asks)) ((next-of desks left place desk rest d lt h.desks_are e).0)
        (subst (λ (x : Caller). HasTakenFirst (knows x.asks) (knows desk.asks)) ((next-of callers calls place caller others c lt_caller h.callers_are f).0) took))

    all-kept : (r : Result Unit AllocError) → OnOk r (so_far ≡ Ok tt) → OnOk r (passes_one ≡ passes ++ desk.session.pass ∷ []) → OnOk r (passes_one ≡ map (λ d. d.session.pass) (take (place + 1) desks))
    all-kept (Err x) o k = tt
    all-kept (Ok x) o k =
        let so : passes ≡ map (λ (d : Desk P). d.session.pass) (take place desks) = subst (λ (r : Result Unit AllocError). OnOk r (passes ≡ map (λ (d : Desk P). d.session.pass) (take place desks))) o h.kept in
        k ∙ ap (λ (ps : List P). ps ++ desk.session.pass ∷ []) so
        ∙ ap (λ (d : Desk P). map (λ (x : Desk P). x.session.pass) (take place desks) ++ d.session.pass ∷ []) ((next-of desks left place desk rest desk lt h.desks_are e).0)
        ∙ sym (map-append (λ (x : Desk P). x.session.pass) (take place desks) (get_or desks place desk ∷ []))
        ∙ ap (λ (ds : List (Desk P)). map (λ (x : Desk P). x.session.pass) ds) (sym (take-more desks place desk lt))

-- where all seats are closed each taker had taken the first of what was put
pub all-took : {P : Type 0} (place : ℕ) (desks left : List (Desk P)) (callers calls : List Caller) (passes : List P) (so_far : Result Unit AllocError) → length desks ≤ place → HaveClosed place desks left callers calls passes so_far → HaveTakenFirst desks callers
all-took place desks left callers calls passes so_far past h = λ k e c lt. h.took k e c (omega (arith, lt, past))

-- and the passes of all desks were kept, where memory sufficed
pub all-passes : {P : Type 0} (place : ℕ) (desks left : List (Desk P)) (callers calls : List Caller) (passes : List P) (so_far : Result Unit AllocError) → length desks ≤ place → HaveClosed place desks left callers calls passes so_far
    → OnOk so_far (passes ≡ map (λ desk. desk.session.pass) desks)
all-passes {P} place desks left callers calls passes so_far past h = at so_far h.kept
  where
    at : (r : Result Unit AllocError) → OnOk r (passes ≡ map (λ desk. desk.session.pass) (take place desks)) → OnOk r (passes ≡ map (λ desk. desk.session.pass) desks)
    at (Err x) k = tt
    at (Ok x) k = k ∙ ap (λ (ds : List (Desk P)). map (λ (x : Desk P). x.session.pass) ds) (take_all place desks past)

-- What has run may be closed.

given-same : {P : Type 0} (seats seat : ℕ) (old new : Session P) → IsSameClient old new → IsGiven seats seat old → IsGiven seats seat new
given-same seats seat old new same given = record {
  section = same.section ∙ ap (λ (x : Section). let y : Section = record x { lines = new.section.lines } in y) given.section;
  plan = same.plan ∙ given.plan;
  patience = same.patience ∙ given.patience;
}

-- desks that serve the same clients have still what they were given
pub given-still : {P : Type 0} (seats n : ℕ) (old new : List (Desk P)) → AreSameClients old new → AreGiven seats n old → AreGiven seats n new
given-still seats n [] [] same given = tt
given-still seats n [] (y ∷ new) same given = absurd same
given-still seats n (x ∷ old) [] same given = absurd same
given-still seats n (x ∷ old) (y ∷ new) same given = (given-same seats n x.session y.session same.0 given.0, given-still seats (n + 1) old new same.1 given.1)

-- and are as many as before
pub same-count : {P : Type 0} (old new : List (Desk P)) → AreSameClients old new → length new ≡ length old
same-count {P} old new same = sym (length_all_zip (λ (x y : Desk P). IsSameClient x.session y.session) old new same)

-- the pass by which a caller puts is its inbox's, and may put still
pub record IsStillCaller (inbox : Outlet (Option Ask)) (caller : Caller) : Type 0 where
  pub own : IsPassOf inbox caller.asks
  pub same : knows caller.asks ≡ record sender { sent = (knows caller.asks).sent }

still : (sent : List (Came (Option Ask))) (v : Hand (Option Ask)) → v ≡ record sender { sent = sent } → v ≡ record sender { sent = v.sent }
still sent v e = e ∙ ap (λ (l : List (Came (Option Ask))). let w : Hand (Option Ask) = record sender { sent = l } in w) (sym (ap (λ (w : Hand (Option Ask)). w.sent) e))

-- however a reader ended, each caller puts by its inbox's pass still
pub still-callers : (most : ℕ) (bytes : Option (List ℕ)) (callers : List Caller) (boxes : List (Outlet (Option Ask))) (res : Result (Option FrameFault) NoFrame) → HasRead most bytes boxes callers res
    → (k : ℕ) (o : Outlet (Option Ask)) (c : Caller) → k < length callers → IsStillCaller (get_or boxes k o) (get_or callers k c)
still-callers most bytes callers boxes (Ok fault) h k o c lt = let one = h.asked k o c lt in record { own = one.own; same = still _ (knows (get_or callers k c).asks) one.put }
still-callers most bytes callers boxes (Err none.Failed) h k o c lt = let one = h.asked k o c lt in record { own = one.own; same = still _ (knows (get_or callers k c).asks) one.put }
still-callers most bytes callers boxes (Err none.Memory) h k o c lt = let one = h.asked k o c lt in record { own = one.own; same = still _ (knows (get_or callers k c).asks) one.put }

-- a service whose desks have told and whose reader has ended may be closed
pub may-close : {P : Type 0} (seats most : ℕ) (shape : Shape) (bytes : Option (List ℕ)) (boxes : List (Outlet (Option Ask))) (desks : List (Desk P)) (callers : List Caller) (v : Hand Saying) (res : Result (Option FrameFault) NoFrame)
    → length boxes ≡ seats → length desks ≡ seats → length callers ≡ seats → AreGiven seats 1 desks → All (λ desk. HasToldFirst shape boxes desk v) desks → HasRead most bytes boxes callers res → MayCloseAll boxes desks callers
may-close {P} seats most shape bytes boxes desks callers v res b d c given told read = record {
  desk_count = d ∙ sym b;
  caller_count = c ∙ sym b;
  each = λ k o e x lt.
      let t = told k e (omega (arith, lt, b, d)) in
      let no : (get_or desks k e).session.section.no ≡ 1 + k = ap (λ (s : Section). s.no) (given-at seats 1 k desks e (omega (arith, lt, b, d)) given).section in
      let place : (get_or desks k e).session.section.no - 1 ≡ k = omega (arith, no) in
      record {
        put = (still-callers most bytes callers boxes res read k o x (omega (arith, lt, b, c))).own;
        asks = subst (λ (j : ℕ). IsPassOf (get_or boxes j o) (get_or desks k e).asks) place (t.inbox.own o);
        takes = t.inbox.takes;
      };
}

-- the passes of desks that have served
module _ {P : Type 0} (is_own : P → Type 0) (shape : Shape) (known : P → Known) (boxes : List (Outlet (Option Ask))) (v : Hand Saying) (seats : ℕ) where
  in-order : (n : ℕ) (desks : List (Desk P)) → AreGiven seats n desks → All (λ desk. HasServed is_own shape known boxes desk v) desks → map (λ desk. (known desk.session.pass).session) desks ≡ range_with_len n (length desks)
  in-order n [] given served = refl
  in-order n (d ∷ desks) given served =
      let one = All-head (λ (desk : Desk P). HasServed is_own shape known boxes desk v) d desks served in
      let first : (known d.session.pass).session ≡ n = one.rested.stands.session ∙ ap (λ (s : Section). s.no) given.0.section in
      ap (λ (m : ℕ). m ∷ map (λ (desk : Desk P). (known desk.session.pass).session) desks) first
      ∙ ap (λ (l : List ℕ). n ∷ l) (in-order (n + 1) desks given.1 (All-tail (λ (desk : Desk P). HasServed is_own shape known boxes desk v) d desks served))

  -- the passes of desks that have served can be gathered
  pub are-over : (desks : List (Desk P)) → length desks ≡ seats → length shape.seats ≡ seats → AreGiven seats 1 desks → All (λ desk. HasServed is_own shape known boxes desk v) desks → AreOver is_own shape known desks
  are-over desks d s given served = record {
    own = λ k e lt. (served k e lt).own;
    order = in-order 1 desks given served ∙ ap (λ (n : ℕ). range_with_len 1 n) (d ∙ sym s);
  }

-- The passes that are gathered.

twice : {A B C : Type 0} (f : B → C) (g : A → B) (xs : List A) → map f (map g xs) ≡ map (λ x. f (g x)) xs
twice f g [] = refl
twice {C = C} f g (x ∷ xs) = ap (λ (l : List C). f (g x) ∷ l) (twice f g xs)

of-map : {A B : Type 0} (Q : B → Type 0) (f : A → B) (xs : List A) → All Q (map f xs) → All (λ x. Q (f x)) xs
of-map {A} Q f [] h = All-nil (λ (x : A). Q (f x))
of-map {A} Q f (x ∷ xs) h = All-cons (λ (y : A). Q (f y)) x xs (All-head Q (f x) (map f xs) h) (of-map Q f xs (All-tail Q (f x) (map f xs) h))

module _ {P : Type 0} (known : P → Known) (desks : List (Desk P)) (passes : List P) (is : passes ≡ map (λ desk. desk.session.pass) desks) where
  -- the passes that were kept are the hub's
  pub own-all : (is_own : P → Type 0) (shape : Shape) (r : Result Unit AllocError) → OnOk r (AreOver is_own shape known desks) → OnOk r (All is_own passes)
  own-all is_own shape (Err x) h = tt
  own-all is_own shape (Ok x) h = All-same is_own passes (map (λ (desk : Desk P). desk.session.pass) desks) is (All-map is_own (λ (desk : Desk P). desk.session.pass) desks h.own)

  -- they are in the order of the seats
  pub order-all : (is_own : P → Type 0) (shape : Shape) (r : Result Unit AllocError) → OnOk r (AreOver is_own shape known desks) → OnOk r (map (λ pass. (known pass).session) passes ≡ range_with_len 1 (length shape.seats))
  order-all is_own shape (Err x) h = tt
  order-all is_own shape (Ok x) h = ap (λ (ps : List P). map (λ (pass : P). (known pass).session) ps) is ∙ twice (λ (pass : P). (known pass).session) (λ (desk : Desk P). desk.session.pass) desks ∙ h.order

  -- what was gathered of them was gathered of the desks
  pub gathered-all : (r : Result Unit AllocError) → OnOk r ((count : ℕ) × Gathered (map known passes) count) → OnOk r (All (λ pass. IsWithin (known pass)) passes) → OnOk r (HasGathered known desks)
  gathered-all (Err x) g h = tt
  gathered-all (Ok x) g h = record {
    count = g.0;
    gathered = subst (λ (ks : List Known). Gathered ks g.0) (ap (λ (ps : List P). map known ps) is ∙ twice known (λ (desk : Desk P). desk.session.pass) desks) g.1;
    within = of-map (λ (pass : P). IsWithin (known pass)) (λ (desk : Desk P). desk.session.pass) desks (All-same (λ (pass : P). IsWithin (known pass)) (map (λ (desk : Desk P). desk.session.pass) desks) passes (sym is) h);
  }
