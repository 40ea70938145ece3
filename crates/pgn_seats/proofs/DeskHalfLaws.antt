-- Desks that serve and tell, in two halves.
use Rattle.std.proofs.Common.{◌≡◌, ℕ, ◌+◌, ◌-◌, ◌<◌, ◌≤◌, List, [], ◌++◌, length, Option, All, Result, Ok, Err, OnOk, ap, ◌∙◌, refl, arith, append-nil, length-append}
use Rattle.std.specs.Result.{result_and}
use Rattle.std.proofs.lemmas.List.Elements.{All-append}
use Rattle.pgn_hub.specs.declared.known.Known.{Known}
use Rattle.pgn_hub.specs.Shape.{Shape}
use Rattle.pgn_language.specs.Inputs.{AreNumbered}
use Rattle.pgn_outlet.specs.declared.came.Came.{Came}
use Rattle.pgn_outlet.specs.declared.hand.Hand.{Hand}
use Rattle.pgn_outlet.specs.declared.outlet.Outlet.{Outlet}
use Rattle.pgn_outlet.specs.Cames.{what_of}
use Rattle.pgn_outlet.specs.Rule.{joined, lower, upper}
use Rattle.pgn_outlet.proofs.CameLaws.{what_of-append}
use Rattle.pgn_messages.specs.declared.asked.Ask.{Ask}
use Rattle.pgn_messages.specs.declared.saying.Saying.{Saying}
use Rattle.pgn_seats.specs.declared.desk.Desk.{Desk}
use Rattle.pgn_seats.specs.Serving.{HasServed, HasToldFirst}
use Rattle.pgn_seats.specs.Desks.{HaveServed, MayBegin, MayServe, sections_of}
use Rattle.pgn_seats.proofs.DeskRowLaws.{all-first, all-rest, by-number, clients-both, clients-count, clients-numbered, row-behind, row-front}
use Rattle.pgn_seats.proofs.DeskTurnLaws.{first-still, served-still}

-- what two results that are made one come to, where both are Ok
both-out : {A E : Type 0} (first second : Result A E) (X Y Z : Type 0) → (X → Y → Z) → OnOk first X → OnOk second Y → OnOk (result_and first second) Z
both-out (Ok a) (Ok b) X Y Z both x y = both x y
both-out (Ok a) (Err e) X Y Z both x y = tt
both-out (Err e) second X Y Z both x y = tt

-- what a pass has pushed for a number that is none of another's, once both are one
told-left : (n : ℕ) (v a b : Hand Saying) → v.sent ≡ a.sent ++ b.sent → what_of n b.sent ≡ [] → what_of n v.sent ≡ what_of n a.sent
told-left n v a b whole none =
    ap (λ (l : List (Came Saying)). what_of n l) whole ∙ what_of-append n a.sent b.sent ∙ ap (λ (l : List Saying). what_of n a.sent ++ l) none ∙ append-nil (what_of n a.sent)

told-right : (n : ℕ) (v a b : Hand Saying) → v.sent ≡ a.sent ++ b.sent → what_of n a.sent ≡ [] → what_of n v.sent ≡ what_of n b.sent
told-right n v a b whole none = ap (λ (l : List (Came Saying)). what_of n l) whole ∙ what_of-append n a.sent b.sent ∙ ap (λ (l : List Saying). l ++ what_of n b.sent) none

-- the hand of two whose numbers are those of one
joined-same : (size : ℕ) (v a b : Hand Saying) → size ≤ v.count → a ≡ record (lower size v) { sent = a.sent } → b ≡ record (upper size v) { sent = b.sent } → joined a b ≡ record v { sent = (joined a b).sent }
joined-same size v a b fits f g =
    let whole : size + (v.count - size) ≡ v.count = omega (arith, fits) in
    ap (λ (x : Hand Saying × Hand Saying). joined x.0 x.1) (λ i. (f i, g i)) ∙ ap (λ (n : ℕ). let w : Hand Saying = record v { count = n; sent = a.sent ++ b.sent } in w) whole

-- the halves of a pass, made one again
pub joined-back : (size : ℕ) (v : Hand Saying) → size ≤ v.count → joined (lower size v) (upper size v) ≡ v
joined-back size v fits =
    let whole : size + (v.count - size) ≡ v.count = omega (arith, fits) in
    ap (λ (n : ℕ). let w : Hand Saying = record v { count = n; sent = v.sent ++ [] } in w) whole ∙ ap (λ (l : List (Came Saying)). let w : Hand Saying = record v { sent = l } in w) (append-nil v.sent)

module _ {P : Type 0} (is_own : P → Type 0) (shape : Shape) (known : P → Known) (inboxes : List (Outlet (Option Ask))) where
  -- both halves may begin
  pub left-begins : (left right : List (Desk P)) (v : Hand Saying) → MayServe is_own shape known inboxes (left ++ right) v → MayServe is_own shape known inboxes left (lower (length left) v)
  left-begins left right v m = record {
    begin = all-first (MayBegin is_own shape known inboxes) left right m.begin;
    numbered = row-front v.first left right m.numbered;
    fits = omega arith;
    unused = m.unused;
  }

  -- the right half may begin where the whole may
  pub right-begins : (left right : List (Desk P)) (v : Hand Saying) → MayServe is_own shape known inboxes (left ++ right) v → MayServe is_own shape known inboxes right (upper (length left) v)
  right-begins left right v m =
      let fits : length (left ++ right) ≤ v.count = m.fits in
      record {
        begin = all-rest (MayBegin is_own shape known inboxes) left right m.begin;
        numbered = row-behind v.first (v.first + length left) left right refl m.numbered;
        fits = omega (arith, fits, length-append left right);
        unused = refl;
      }

  -- both have run
  pub both-served : {A E : Type 0} (left left_new right right_new : List (Desk P)) (v a b : Hand Saying) (first second : Result A E) → MayServe is_own shape known inboxes (left ++ right) v
      → HaveServed is_own shape known inboxes left left_new (lower (length left) v) a first → HaveServed is_own shape known inboxes right right_new (upper (length left) v) b second
      → HaveServed is_own shape known inboxes (left ++ right) (left_new ++ right_new) v (joined a b) (result_and first second)
  both-served left left_new right right_new v a b first second m f g =
      let both : Hand Saying = joined a b in
      let middle : ℕ = v.first + length left in
      let most : length (left ++ right) ≤ v.count = m.fits in
      let fits : length left ≤ v.count = omega (arith, most, length-append left right) in
      let left_long : length left_new ≡ length left = clients-count left left_new f.clients in
      let left_numbered : AreNumbered v.first (sections_of left_new) = clients-numbered v.first left left_new f.clients (row-front v.first left right m.numbered) in
      let right_numbered : AreNumbered middle (sections_of right_new) = clients-numbered middle right right_new g.clients (row-behind v.first middle left right refl m.numbered) in
      let of_left : (d : Desk P) → d.session.section.no < v.first + length left_new → what_of d.session.section.no both.sent ≡ what_of d.session.section.no a.sent =
      λ d high. told-left d.session.section.no both a b refl (g.others d.session.section.no (λ low _. omega (arith, low, high, left_long))) in
      let of_right : (d : Desk P) → middle ≤ d.session.section.no → what_of d.session.section.no both.sent ≡ what_of d.session.section.no b.sent =
      λ d low. told-right d.session.section.no both a b refl (f.others d.session.section.no (λ _ high. omega (arith, low, high))) in
      record {
        clients = clients-both left right left_new right_new f.clients g.clients;
        told = All-append (λ (d : Desk P). HasToldFirst shape inboxes d both) left_new right_new
            (by-number v.first left_new (λ d. HasToldFirst shape inboxes d a) (λ d. HasToldFirst shape inboxes d both) left_numbered (λ d low high h. first-still is_own shape known inboxes a both d (of_left d high) h) f.told)
            (by-number middle right_new (λ d. HasToldFirst shape inboxes d b) (λ d. HasToldFirst shape inboxes d both) right_numbered (λ d low high h. first-still is_own shape known inboxes b both d (of_right d low) h) g.told);
        served = both-out first second (All (λ (d : Desk P). HasServed is_own shape known inboxes d a) left_new) (All (λ (d : Desk P). HasServed is_own shape known inboxes d b) right_new)
            (All (λ (d : Desk P). HasServed is_own shape known inboxes d both) (left_new ++ right_new))
            (λ x y. All-append (λ (d : Desk P). HasServed is_own shape known inboxes d both) left_new right_new
            (by-number v.first left_new (λ d. HasServed is_own shape known inboxes d a) (λ d. HasServed is_own shape known inboxes d both) left_numbered (λ d low high h. served-still is_own shape known inboxes a both d (of_left d high) h) x)
            (by-number middle right_new (λ d. HasServed is_own shape known inboxes d b) (λ d. HasServed is_own shape known inboxes d both) right_numbered (λ d low high h. served-still is_own shape known inboxes b both d (of_right d low) h) y))
            f.served g.served;
        same = joined-same (length left) v a b fits f.same g.same;
        others = λ n out. what_of-append n a.sent b.sent
            ∙ ap (λ (l : List Saying). l ++ what_of n b.sent) (f.others n (λ low high. out low (omega (arith, high, length-append left right))))
            ∙ g.others n (λ low high. out (omega (arith, low)) (omega (arith, high, length-append left right)));
      }
