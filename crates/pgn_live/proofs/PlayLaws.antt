-- Sessions that run and tell, in two halves.
use Rattle.std.proofs.Common.{◌≡◌, ℕ, ◌+◌, ◌-◌, ◌<◌, ◌≤◌, List, [], ◌++◌, length, All, Result, Ok, Err, OnOk, sym, ap, ◌∙◌, refl, subst, arith, append-nil, length-append}
use Rattle.std.specs.Result.{result_and}
use Rattle.std.proofs.lemmas.List.Elements.{All-append}
use Rattle.pgn_hub.specs.declared.known.Known.{Known}
use Rattle.pgn_hub.specs.Shape.{Shape}
use Rattle.pgn_language.specs.declared.scenario.Section.{Section}
use Rattle.pgn_language.specs.Inputs.{AreNumbered}
use Rattle.pgn_model.specs.declared.item.Item.{Item}
use Rattle.pgn_outlet.specs.Rule.{lower, upper, joined}
use Rattle.pgn_session.specs.declared.session.Session.{Session}
use Rattle.pgn_session.specs.Parts.{Begins}
use Rattle.pgn_session.specs.Runs.{IsReady}
use Rattle.pgn_live.specs.Cames.{Came, Hand, items_of}
use Rattle.pgn_live.specs.Playing.{sections_of, HasPlayed, HasPlayedOut, MayPlay, HavePlayed}
use Rattle.pgn_live.proofs.CameLaws.{items_of-append}
use Rattle.pgn_live.proofs.RowLaws.{All-front, All-behind, row-front, row-behind, by_number, sections-same, both-scripts, same-length}

-- what two results that are made one come to, where both are Ok
both-out : {A E : Type 0} (first second : Result A E) (X Y Z : Type 0) → (X → Y → Z) → OnOk first X → OnOk second Y → OnOk (result_and first second) Z
both-out (Ok a) (Ok b) X Y Z both x y = both x y
both-out (Ok a) (Err e) X Y Z both x y = tt
both-out (Err e) second X Y Z both x y = tt

-- what a pass has pushed for a session that is none of another's, once both are one
told-left : (n : ℕ) (v a b : Hand) → v.sent ≡ a.sent ++ b.sent → items_of n b.sent ≡ [] → items_of n v.sent ≡ items_of n a.sent
told-left n v a b whole none = ap (items_of n) whole ∙ items_of-append n a.sent b.sent ∙ ap (λ (l : List Item). items_of n a.sent ++ l) none ∙ append-nil (items_of n a.sent)

told-right : (n : ℕ) (v a b : Hand) → v.sent ≡ a.sent ++ b.sent → items_of n a.sent ≡ [] → items_of n v.sent ≡ items_of n b.sent
told-right n v a b whole none = ap (items_of n) whole ∙ items_of-append n a.sent b.sent ∙ ap (λ (l : List Item). l ++ items_of n b.sent) none

-- the hand of two whose numbers are those of one
joined-same : (size : ℕ) (v a b : Hand) → size ≤ v.count → a ≡ record (lower size v) { sent = a.sent } → b ≡ record (upper size v) { sent = b.sent } → joined a b ≡ record v { sent = (joined a b).sent }
joined-same size v a b fits f g =
    let whole : size + (v.count - size) ≡ v.count = omega (arith, fits) in
    ap (λ (x : Hand × Hand). joined x.0 x.1) (λ i. (f i, g i)) ∙ ap (λ (n : ℕ). let w : Hand = record v { count = n; sent = a.sent ++ b.sent } in w) whole

-- a pass that was cut and joined again is what it was
pub joined-back : (size : ℕ) (v : Hand) → size ≤ v.count → joined (lower size v) (upper size v) ≡ v
joined-back size v fits =
    let whole : size + (v.count - size) ≡ v.count = omega (arith, fits) in
    ap (λ (n : ℕ). let w : Hand = record v { count = n; sent = v.sent ++ [] } in w) whole ∙ ap (λ (l : List Came). let w : Hand = record v { sent = l } in w) (append-nil v.sent)

module _ {P : Type 0} (is_own : P → Type 0) (shape : Shape) (known : P → Known) where
  told-more : (v w : Hand) (s : Session P) → items_of s.section.no w.sent ≡ items_of s.section.no v.sent → HasPlayed is_own shape known v s → HasPlayed is_own shape known w s
  told-more v w s e h = record { stopped = h.stopped; lawful = h.lawful; told = subst (λ (l : List Item). Begins l s.items.items) (sym e) h.told }

  told-more-out : (v w : Hand) (s : Session P) → items_of s.section.no w.sent ≡ items_of s.section.no v.sent → HasPlayedOut is_own shape known v s → HasPlayedOut is_own shape known w s
  told-more-out v w s e h = record { over = h.over; told = e ∙ h.told }

  -- both halves
  pub left-goes : (left right : List (Session P)) (v : Hand) → MayPlay is_own shape known (left ++ right) v → MayPlay is_own shape known left (lower (length left) v)
  left-goes left right v m = record {
    ready = All-front (IsReady is_own shape known) left right m.ready;
    numbered = row-front v.first left right m.numbered;
    fits = omega arith;
    unused = m.unused;
  }

  -- the sessions behind the first ones may run with the upper part of the pass
  pub right-goes : (left right : List (Session P)) (v : Hand) → MayPlay is_own shape known (left ++ right) v → MayPlay is_own shape known right (upper (length left) v)
  right-goes left right v m =
      let fits : length (left ++ right) ≤ v.count = m.fits in
      record {
        ready = All-behind (IsReady is_own shape known) left right m.ready;
        numbered = row-behind v.first (v.first + length left) left right refl m.numbered;
        fits = omega (arith, fits, length-append left right);
        unused = refl;
      }

  -- both have run
  pub both-played : {A E : Type 0} (left left_new right right_new : List (Session P)) (v a b : Hand) (first second : Result A E) → MayPlay is_own shape known (left ++ right) v
      → HavePlayed is_own shape known left left_new (lower (length left) v) a first → HavePlayed is_own shape known right right_new (upper (length left) v) b second
      → HavePlayed is_own shape known (left ++ right) (left_new ++ right_new) v (joined a b) (result_and first second)
  both-played left left_new right right_new v a b first second m f g =
      let both : Hand = joined a b in
      let middle : ℕ = v.first + length left in
      let most : length (left ++ right) ≤ v.count = m.fits in
      let fits : length left ≤ v.count = omega (arith, most, length-append left right) in
      let left_long : length left_new ≡ length left = same-length left left_new f.scripts in
      let left_numbered : AreNumbered v.first (sections_of left_new) = subst (λ (l : List Section). AreNumbered v.first l) (sym (sections-same left left_new f.scripts)) (row-front v.first left right m.numbered) in
      let right_numbered : AreNumbered middle (sections_of right_new) = subst (λ (l : List Section). AreNumbered middle l) (sym (sections-same right right_new g.scripts)) (row-behind v.first middle left right refl m.numbered) in
      let of_left : (s : Session P) → s.section.no < v.first + length left_new → items_of s.section.no both.sent ≡ items_of s.section.no a.sent =
      λ s high. told-left s.section.no both a b refl (g.others s.section.no (λ low _. omega (arith, low, high, left_long))) in
      let of_right : (s : Session P) → middle ≤ s.section.no → items_of s.section.no both.sent ≡ items_of s.section.no b.sent =
      λ s low. told-right s.section.no both a b refl (f.others s.section.no (λ _ high. omega (arith, low, high))) in
      record {
        scripts = both-scripts left left_new right right_new f.scripts g.scripts;
        played = All-append (HasPlayed is_own shape known both) left_new right_new
            (by_number v.first left_new (HasPlayed is_own shape known a) (HasPlayed is_own shape known both) left_numbered (λ s low high p. told-more a both s (of_left s high) p) f.played)
            (by_number middle right_new (HasPlayed is_own shape known b) (HasPlayed is_own shape known both) right_numbered (λ s low high p. told-more b both s (of_right s low) p) g.played);
        played_out = both-out first second (All (HasPlayedOut is_own shape known a) left_new) (All (HasPlayedOut is_own shape known b) right_new) (All (HasPlayedOut is_own shape known both) (left_new ++ right_new))
            (λ x y. All-append (HasPlayedOut is_own shape known both) left_new right_new
            (by_number v.first left_new (HasPlayedOut is_own shape known a) (HasPlayedOut is_own shape known both) left_numbered (λ s low high p. told-more-out a both s (of_left s high) p) x)
            (by_number middle right_new (HasPlayedOut is_own shape known b) (HasPlayedOut is_own shape known both) right_numbered (λ s low high p. told-more-out b both s (of_right s low) p) y))
            f.played_out g.played_out;
        same = joined-same (length left) v a b fits f.same g.same;
        others = λ n out. items_of-append n a.sent b.sent
            ∙ ap (λ (l : List Item). l ++ items_of n b.sent) (f.others n (λ low high. out low (omega (arith, high, length-append left right))))
            ∙ g.others n (λ low high. out (omega (arith, low)) (omega (arith, high, length-append left right)));
      }
