-- Desks that take turns: one after another, and round after round.
use Rattle.std.proofs.Common.{◌≡◌, ◌≢◌, ℕ, zero, suc, ◌+◌, ◌-◌, ◌<◌, ◌≤◌, inl, inr, Bool, true, false, true≢false, List, [], ◌∷◌, ◌++◌, length, slice_get, Option, IsSomeAnd, All, Result, Ok, Err, OnOk, sym, ap, ◌∙◌, refl, subst, arith}
use Rattle.std.proofs.lemmas.List.Elements.{All-nil, All-cons, All-head, All-append, All-weaker}
use Rattle.pgn_hub.specs.declared.known.Known.{Known}
use Rattle.pgn_hub.specs.Passes as passes
use Rattle.pgn_hub.specs.Shape.{Shape}
use Rattle.pgn_session.specs.declared.doing.Doing.TheVariants.{Over}
use Rattle.pgn_session.specs.Open.{IsSameClient}
use Rattle.pgn_outlet.specs.declared.came.Came.{Came}
use Rattle.pgn_outlet.specs.declared.hand.Hand.{Hand}
use Rattle.pgn_outlet.specs.declared.outlet.Outlet.{Outlet}
use Rattle.pgn_outlet.specs.Cames.{what_of}
use Rattle.pgn_outlet.specs.Rule.{MayPush}
use Rattle.pgn_messages.specs.declared.asked.Ask.{Ask}
use Rattle.pgn_messages.specs.declared.saying.Saying.{Saying}
use Rattle.pgn_messages.specs.Sayings.{all_told}
use Rattle.pgn_seats.specs.declared.desk.Desk.{Desk}
use Rattle.pgn_seats.specs.Serving.{HasPushedFor, HasServed, HasToldFirst, IsSeated, Serves}
use Rattle.pgn_seats.specs.Desks.{AreSameClients, HaveServed, MayBegin, MayServe}
use Rattle.pgn_seats.specs.Workers.{AreInARow, HasSeat, HaveGone, IsNoneOf, MayGo, StandsBy}
use Rattle.pgn_seats.proofs.SeatLaws.{seated-over, served-told, serves-begins, serves-told}
use Rattle.pgn_seats.proofs.DeskRowLaws.{all-first, all-rest, both-hold, clients-all, clients-both, clients-count, clients-none, clients-numbered, clients-on, each-numbered, none-before, none-behind, row-behind, row-front}

-- an element that is there
got-within : {X : Type 0} (xs : List X) (i : ℕ) (Q : X → Type 0) → IsSomeAnd (slice_get xs i) Q → i < length xs
got-within [] i Q h = absurd h
got-within (x ∷ xs) zero Q h = omega arith
got-within (x ∷ xs) (suc i) Q h = let rest : i < length xs = got-within xs i Q h in omega (arith, rest)

module _ {P : Type 0} where
  -- numbers of two parts in a row
  numbers-behind : (left right : List (Desk P)) → AreInARow (left ++ right) → All (λ d. IsNoneOf d.session.section.no left) right
  numbers-behind left right row =
      each-numbered (row.first + length left) right (λ d. IsNoneOf d.session.section.no left) (row-behind row.first (row.first + length left) left right refl row.numbered)
      (λ d low high. none-behind row.first d.session.section.no left (row-front row.first left right row.numbered) low)

  numbers-before : (left left_new right : List (Desk P)) → AreSameClients left left_new → AreInARow (left ++ right) → All (λ d. IsNoneOf d.session.section.no right) left_new
  numbers-before left left_new right clients row =
      let long : length left_new ≡ length left = clients-count left left_new clients in
      each-numbered row.first left_new (λ d. IsNoneOf d.session.section.no right) (clients-numbered row.first left left_new clients (row-front row.first left right row.numbered))
      (λ d low high. none-before (row.first + length left) d.session.section.no right (row-behind row.first (row.first + length left) left right refl row.numbered) (omega (arith, high, long)))

  may-still : (xs : List (Desk P)) (v w : Hand Saying) → w ≡ record v { sent = w.sent } → All (λ d. MayPush v d.session.section.no) xs → All (λ d. MayPush w d.session.section.no) xs
  may-still xs v w same all =
      All-weaker (λ (d : Desk P). MayPush v d.session.section.no) (λ (d : Desk P). MayPush w d.session.section.no) (λ d h. subst (λ (x : Hand Saying). MayPush x d.session.section.no) (sym same) h) xs all

module _ {P : Type 0} (is_own : P → Type 0) (shape : Shape) (known : P → Known) (inboxes : List (Outlet (Option Ask))) where
  -- a desk tells no more than it did
  pub first-still : (v w : Hand Saying) (d : Desk P) → what_of d.session.section.no w.sent ≡ what_of d.session.section.no v.sent → HasToldFirst shape inboxes d v → HasToldFirst shape inboxes d w
  first-still v w d e h = record {
    lawful = h.lawful;
    inbox = h.inbox;
    turns = h.turns;
    plain = h.plain;
    more = h.more;
    items = h.items;
    rest = h.rest;
    lines = h.lines;
    others = h.others;
    asked = h.asked;
    told = ap (λ (l : List Saying). all_told l) e ∙ h.told;
  }

  -- a desk has served still, where nothing more was told for its number
  pub served-still : (v w : Hand Saying) (d : Desk P) → what_of d.session.section.no w.sent ≡ what_of d.session.section.no v.sent → HasServed is_own shape known inboxes d v → HasServed is_own shape known inboxes d w
  served-still v w d e h = record {
    own = h.own;
    rested = h.rested;
    over = h.over;
    left = h.left;
    inbox = h.inbox;
    turns = h.turns;
    quits = h.quits;
    asked = h.asked;
    told = ap (λ (l : List Saying). all_told l) e ∙ h.told;
  }

  serves-still : (v w : Hand Saying) (d : Desk P) → what_of d.session.section.no w.sent ≡ what_of d.session.section.no v.sent → Serves is_own shape known inboxes d v → Serves is_own shape known inboxes d w
  serves-still v w d e h = record {
    own = h.own;
    served = h.served;
    rested = h.rested;
    is_open = h.is_open;
    counted = h.counted;
    inbox = h.inbox;
    turns = h.turns;
    in_turns = h.in_turns;
    asked = h.asked;
    told = ap (λ (l : List Saying). all_told l) e ∙ h.told;
    settings = h.settings;
  }

  -- it has told whole turns
  pub stands-first : (refused : Bool) (v : Hand Saying) (d : Desk P) → StandsBy is_own shape known inboxes refused v d → HasToldFirst shape inboxes d v
  stands-first true v d h = h
  stands-first false v d h = by h
    where
      by : IsSeated is_own shape known inboxes d v → HasToldFirst shape inboxes d v
      by (inl serves) = serves-told is_own shape known inboxes d v serves
      by (inr served) = served-told is_own shape known inboxes d v served

  seated-still : (v w : Hand Saying) (d : Desk P) → what_of d.session.section.no w.sent ≡ what_of d.session.section.no v.sent → IsSeated is_own shape known inboxes d v → IsSeated is_own shape known inboxes d w
  seated-still v w d e (inl serves) = inl (serves-still v w d e serves)
  seated-still v w d e (inr served) = inr (served-still v w d e served)

  stands-still : (a b : Bool) (v w : Hand Saying) (d : Desk P) → (b ≡ false → a ≡ false) → what_of d.session.section.no w.sent ≡ what_of d.session.section.no v.sent → StandsBy is_own shape known inboxes a v d
      → StandsBy is_own shape known inboxes b w d
  stands-still a true v w d stays e h = first-still v w d e (stands-first a v d h)
  stands-still false false v w d stays e h = seated-still v w d e h
  stands-still true false v w d stays e h = absurd (true≢false (stays refl))

  -- where none was refused
  pub stands-seated : (refused : Bool) (v : Hand Saying) (d : Desk P) → refused ≡ false → StandsBy is_own shape known inboxes refused v d → IsSeated is_own shape known inboxes d v
  stands-seated refused v d fine h = subst (λ (b : Bool). StandsBy is_own shape known inboxes b v d) fine h

  pub seated-stands : (refused : Bool) (v : Hand Saying) (d : Desk P) → refused ≡ false → IsSeated is_own shape known inboxes d v → StandsBy is_own shape known inboxes refused v d
  seated-stands refused v d fine h = subst (λ (b : Bool). StandsBy is_own shape known inboxes b v d) (sym fine) h

  -- where others have told
  stand-apart : (xs others : List (Desk P)) (a b : Bool) (v w : Hand Saying) → (b ≡ false → a ≡ false) → All (λ d. IsNoneOf d.session.section.no others) xs
      → ((m : ℕ) → IsNoneOf m others → what_of m w.sent ≡ what_of m v.sent) → All (StandsBy is_own shape known inboxes a v) xs → All (StandsBy is_own shape known inboxes b w) xs
  stand-apart xs others a b v w stays apart same all =
      both-hold (λ (d : Desk P). IsNoneOf d.session.section.no others) (StandsBy is_own shape known inboxes a v) (StandsBy is_own shape known inboxes b w)
      (λ d none h. stands-still a b v w d stays (same d.session.section.no none) h) xs apart all

  -- one desk has taken its turn
  pub one-gone : (d e : Desk P) (a b : Bool) (v w : Hand Saying) → IsSameClient d.session e.session → HasPushedFor d.session.section.no v w → StandsBy is_own shape known inboxes b w e → (b ≡ false → a ≡ false)
      → HaveGone is_own shape known inboxes (d ∷ []) (e ∷ []) a b v w
  one-gone d e a b v w same alone stands stays = record {
    clients = (same, tt);
    stand = All-cons (StandsBy is_own shape known inboxes b w) e [] stands (All-nil (StandsBy is_own shape known inboxes b w));
    stays = stays;
    same = alone.same;
    others = λ m none. alone.others m (λ is. All-head (λ (x : Desk P). x.session.section.no ≢ m) d [] none (sym is));
  }

  -- the first part of a round, and the second behind it
  pub left-go : (left right : List (Desk P)) (a : Bool) (v : Hand Saying) → MayGo is_own shape known inboxes (left ++ right) a v → MayGo is_own shape known inboxes left a v
  left-go left right a v m = record {
    row = record { first = m.row.first; numbered = row-front m.row.first left right m.row.numbered };
    seats = all-first (HasSeat shape) left right m.seats;
    may = all-first (λ (d : Desk P). MayPush v d.session.section.no) left right m.may;
    stand = all-first (StandsBy is_own shape known inboxes a v) left right m.stand;
  }

  -- the right half may take a round behind one of the left half
  pub right-go : (left left_new right : List (Desk P)) (a b : Bool) (v w : Hand Saying) → MayGo is_own shape known inboxes (left ++ right) a v → HaveGone is_own shape known inboxes left left_new a b v w
      → MayGo is_own shape known inboxes right b w
  right-go left left_new right a b v w m g = record {
    row = record { first = m.row.first + length left; numbered = row-behind m.row.first (m.row.first + length left) left right refl m.row.numbered };
    seats = all-rest (HasSeat shape) left right m.seats;
    may = may-still right v w g.same (all-rest (λ (d : Desk P). MayPush v d.session.section.no) left right m.may);
    stand = stand-apart right left a b v w g.stays (numbers-behind left right m.row) g.others (all-rest (StandsBy is_own shape known inboxes a v) left right m.stand);
  }

  -- a round of the left half and one of the right are a round of both
  pub both-gone : (left left_new right right_new : List (Desk P)) (a b c : Bool) (v w u : Hand Saying) → MayGo is_own shape known inboxes (left ++ right) a v → HaveGone is_own shape known inboxes left left_new a b v w
      → HaveGone is_own shape known inboxes right right_new b c w u → HaveGone is_own shape known inboxes (left ++ right) (left_new ++ right_new) a c v u
  both-gone left left_new right right_new a b c v w u m f g = record {
    clients = clients-both left right left_new right_new f.clients g.clients;
    stand = All-append (StandsBy is_own shape known inboxes c u) left_new right_new (stand-apart left_new right b c w u g.stays (numbers-before left left_new right f.clients m.row) g.others f.stand) g.stand;
    stays = λ fine. f.stays (g.stays fine);
    same = g.same ∙ ap (λ (x : Hand Saying). let y : Hand Saying = record x { sent = u.sent } in y) f.same;
    others = λ k none. g.others k (all-rest (λ (d : Desk P). d.session.section.no ≢ k) left right none) ∙ f.others k (all-first (λ (d : Desk P). d.session.section.no ≢ k) left right none);
  }

  -- round after round
  pub not-gone : (xs : List (Desk P)) (a : Bool) (v : Hand Saying) → MayGo is_own shape known inboxes xs a v → HaveGone is_own shape known inboxes xs xs a a v v
  not-gone xs a v m = record { clients = clients-none xs; stand = m.stand; stays = λ fine. fine; same = refl; others = λ k none. refl }

  -- a round after a round
  pub gone-on : (old mid new : List (Desk P)) (a b c : Bool) (v w u : Hand Saying) → HaveGone is_own shape known inboxes old mid a b v w → HaveGone is_own shape known inboxes mid new b c w u
      → HaveGone is_own shape known inboxes old new a c v u
  gone-on old mid new a b c v w u f g = record {
    clients = clients-on old mid new f.clients g.clients;
    stand = g.stand;
    stays = λ fine. f.stays (g.stays fine);
    same = g.same ∙ ap (λ (x : Hand Saying). let y : Hand Saying = record x { sent = u.sent } in y) f.same;
    others = λ k none. g.others k (clients-all (λ n. n ≢ k) old mid f.clients none) ∙ f.others k none;
  }

  -- they may take the next one
  pub go-again : (old new : List (Desk P)) (a b : Bool) (v w : Hand Saying) → MayGo is_own shape known inboxes old a v → HaveGone is_own shape known inboxes old new a b v w → MayGo is_own shape known inboxes new b w
  go-again old new a b v w m g = record {
    row = record { first = m.row.first; numbered = clients-numbered m.row.first old new g.clients m.row.numbered };
    seats = clients-all (λ n. (1 ≤ n) × (n ≤ length shape.seats)) old new g.clients m.seats;
    may = may-still new v w g.same (clients-all (MayPush v) old new g.clients m.may);
    stand = g.stand;
  }

  -- its number is that of a seat of the hub
  begins-seat : ((p : P) → is_own p → passes.IsSeated shape (known p)) → (d : Desk P) → MayBegin is_own shape known inboxes d → HasSeat shape d
  begins-seat law d m =
      let seated : passes.IsSeated shape (known d.session.pass) = law d.session.pass m.own in
      let same : (known d.session.pass).session ≡ d.session.section.no = m.rested.stands.session in
      let first : 1 ≤ d.session.section.no = subst (λ (n : ℕ). 1 ≤ n) same seated.first in
      let less : d.session.section.no - 1 < length shape.seats = subst (λ (n : ℕ). n - 1 < length shape.seats) same (got-within shape.seats ((known d.session.pass).session - 1) _ seated.seat) in
      (first, omega (arith, first, less))

  -- desks that may begin may take a turn
  pub may-go : ((p : P) → is_own p → passes.IsSeated shape (known p)) → (xs : List (Desk P)) (a : Bool) (v : Hand Saying) → a ≡ false → MayServe is_own shape known inboxes xs v → MayGo is_own shape known inboxes xs a v
  may-go law xs a v fine m =
      let fits : length xs ≤ v.count = m.fits in
      record {
        row = record { first = v.first; numbered = m.numbered };
        seats = All-weaker (MayBegin is_own shape known inboxes) (HasSeat shape) (λ d h. begins-seat law d h) xs m.begin;
        may = each-numbered v.first xs (λ d. MayPush v d.session.section.no) m.numbered (λ d low high. (low, omega (arith, high, fits)));
        stand = All-weaker (MayBegin is_own shape known inboxes) (StandsBy is_own shape known inboxes a v) (λ d h. seated-stands a v d fine (inl (serves-begins is_own shape known inboxes d v h m.unused))) xs m.begin;
      }

  -- what they have pushed is theirs
  others-none : (old new : List (Desk P)) (a b : Bool) (v w : Hand Saying) → MayServe is_own shape known inboxes old v → HaveGone is_own shape known inboxes old new a b v w → (m : ℕ)
      → (v.first ≤ m → m < v.first + length old → ⊥) → what_of m w.sent ≡ []
  others-none old new a b v w may g m out =
      g.others m (each-numbered v.first old (λ d. d.session.section.no ≢ m) may.numbered (λ d low high e. out (omega (arith, low, e)) (omega (arith, high, e))))
      ∙ ap (λ (l : List (Came Saying)). what_of m l) may.unused

  -- they have run
  pub desks-served : {A E : Type 0} (old new : List (Desk P)) (a b : Bool) (v w : Hand Saying) (r : Result A E) → MayServe is_own shape known inboxes old v → HaveGone is_own shape known inboxes old new a b v w
      → OnOk r (All (λ d. d.session.doing ≡ Over) new × (b ≡ false)) → HaveServed is_own shape known inboxes old new v w r
  desks-served {A} {E} old new a b v w r may g fine = record {
    clients = g.clients;
    told = All-weaker (StandsBy is_own shape known inboxes b w) (λ (d : Desk P). HasToldFirst shape inboxes d w) (λ d h. stands-first b w d h) new g.stand;
    served = out r fine;
    same = g.same;
    others = others-none old new a b v w may g;
  }
    where
      out : (x : Result A E) → OnOk x (All (λ (d : Desk P). d.session.doing ≡ Over) new × (b ≡ false)) → OnOk x (All (λ (d : Desk P). HasServed is_own shape known inboxes d w) new)
      out (Ok y) h =
          both-hold (λ (d : Desk P). d.session.doing ≡ Over) (StandsBy is_own shape known inboxes b w) (λ (d : Desk P). HasServed is_own shape known inboxes d w)
          (λ d over stands. seated-over is_own shape known inboxes d w over (stands-seated b w d h.1 stands)) new h.0 g.stand
      out (Err e) h = tt
