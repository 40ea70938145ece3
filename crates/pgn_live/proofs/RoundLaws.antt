-- Sessions that take turns and tell: one after another, and round after round.
use Rattle.std.proofs.Common.{◌≡◌, ◌≢◌, ℕ, ◌+◌, ◌<◌, ◌≤◌, inl, inr, List, [], ◌∷◌, ◌++◌, length, map, take, drop, All, Result, Ok, Err, OnOk, sym, ap, ◌∙◌, refl, subst, arith}
use Rattle.std.proofs.lemmas.List.{take_all, take-append-drop}
use Rattle.std.proofs.lemmas.List.Elements.{All-nil, All-cons, All-head, All-tail, All-append, All-weaker}
use Rattle.pgn_hub.specs.declared.known.Known.{Known}
use Rattle.pgn_hub.specs.Shape.{Shape}
use Rattle.pgn_language.specs.declared.scenario.Section.{Section}
use Rattle.pgn_language.specs.Inputs.{AreNumbered}
use Rattle.pgn_model.specs.declared.item.Item.{Item}
use Rattle.pgn_outlet.specs.Rule.{MayPush, sender}
use Rattle.pgn_session.specs.declared.session.Session.{Session}
use Rattle.pgn_session.specs.Standing.{terms_of}
use Rattle.pgn_session.specs.Runs.{Script, AreLawful, HasGivenUp, HasStopped, IsHeld, IsLawful, IsOver, IsReady, script_of, shown_of}
use Rattle.pgn_session.proofs.LawfulLaws.{rest-lawful}
use Rattle.pgn_live.specs.Cames.{Hand, items_of}
use Rattle.pgn_live.specs.Telling.{IsTold, HasToldFor, told_of}
use Rattle.pgn_live.specs.Playing.{sections_of, HasPlayed, HasPlayedOut, HasToldFirst, HasToldAll, IsNoneTold, MayPlay, HavePlayed}
use Rattle.pgn_live.specs.Turns.{AreInARow, HaveGone, IsNoneOf, IsToldBy, IsWhollyToldBy, MayGo}
use Rattle.pgn_live.proofs.RowLaws.{All-front, All-behind, row-front, row-behind, each_numbered, none-before, none-behind, none-still, sections-same, both-scripts, same-length}

-- what holds of each of some, where two things do, and three
both : {X : Type 0} (A B D : X → Type 0) → ((x : X) → A x → B x → D x) → (xs : List X) → All A xs → All B xs → All D xs
both A B D step [] a b = All-nil D
both A B D step (x ∷ xs) a b = All-cons D x xs (step x (All-head A x xs a) (All-head B x xs b)) (both A B D step xs (All-tail A x xs a) (All-tail B x xs b))

three : {X : Type 0} (A B C D : X → Type 0) → ((x : X) → A x → B x → C x → D x) → (xs : List X) → All A xs → All B xs → All C xs → All D xs
three A B C D step [] a b c = All-nil D
three A B C D step (x ∷ xs) a b c = All-cons D x xs (step x (All-head A x xs a) (All-head B x xs b) (All-head C x xs c)) (three A B C D step xs (All-tail A x xs a) (All-tail B x xs b) (All-tail C x xs c))

module _ {P : Type 0} where
  -- what was told of these, where others have told
  told-apart : (xs others : List (Session P)) (told told_new : List ℕ) (v w : Hand) → All (λ s. IsNoneOf s.section.no others) xs → ((m : ℕ) → IsNoneOf m others → items_of m w.sent ≡ items_of m v.sent)
      → ((m : ℕ) → IsNoneOf m others → told_of told_new m ≡ told_of told m) → All (IsToldBy told v) xs → All (IsToldBy told_new w) xs
  told-apart xs others told told_new v w apart same counted all =
      both (λ (s : Session P). IsNoneOf s.section.no others) (IsToldBy told v) (IsToldBy told_new w)
      (λ s none t.
      let count : told_of told_new s.section.no ≡ told_of told s.section.no = counted s.section.no none in
      let within : told_of told s.section.no ≤ length s.items.items = t.within in
      record { within = omega (arith, count, within); shown = same s.section.no none ∙ t.shown ∙ ap (λ (k : ℕ). take k s.items.items) (sym count) })
      xs apart all

  -- of sessions that show the same
  told-still : (old new : List (Session P)) (told : List ℕ) (v : Hand) → map script_of new ≡ map script_of old → map shown_of new ≡ map shown_of old → All (IsToldBy told v) old → All (IsToldBy told v) new
  told-still [] [] told v scripts shown h = h
  told-still [] (y ∷ ys) told v scripts shown h = absurd (cc)
  told-still (x ∷ xs) [] told v scripts shown h = absurd (cc)
  told-still (x ∷ xs) (y ∷ ys) told v scripts shown h =
      All-cons (IsToldBy told v) y ys
      (subst (λ (l : List Item). IsTold y.section.no l (told_of told y.section.no) v) (sym (ap (λ (l : List (List Item)). head_items l) shown))
      (subst (λ (s : Section). IsTold s.no x.items.items (told_of told s.no) v) (sym (ap (λ (l : List Script). head_section x.section l) scripts)) (All-head (IsToldBy told v) x xs h)))
      (told-still xs ys told v (ap tail_scripts scripts) (ap tail_items shown) (All-tail (IsToldBy told v) x xs h))
    where
      head_items : List (List Item) → List Item
      head_items [] = []
      head_items (l ∷ ls) = l

      head_section : Section → List Script → Section
      head_section d [] = d
      head_section d (s ∷ ss) = s.section

      tail_scripts : List Script → List Script
      tail_scripts [] = []
      tail_scripts (s ∷ ss) = ss

      tail_items : List (List Item) → List (List Item)
      tail_items [] = []
      tail_items (l ∷ ls) = ls

  -- the first items, and all of them
  told-first : (xs : List (Session P)) (told : List ℕ) (v : Hand) → All (IsToldBy told v) xs → All (HasToldFirst v) xs
  told-first xs told v all =
      All-weaker (IsToldBy told v) (HasToldFirst v)
      (λ s t. let n : ℕ = told_of told s.section.no in record { more = drop n s.items.items; split = sym (take-append-drop n s.items.items) ∙ ap (λ (l : List Item). l ++ drop n s.items.items) (sym t.shown) })
      xs all

  told-whole : (xs : List (Session P)) (told : List ℕ) (v : Hand) → All (IsToldBy told v) xs → All (IsWhollyToldBy told) xs → All (HasToldAll v) xs
  told-whole xs told v all whole = both (IsToldBy told v) (IsWhollyToldBy told) (HasToldAll v) (λ s t w. t.shown ∙ take_all (told_of told s.section.no) s.items.items w) xs all whole

  -- numbers of two parts in a row
  numbers-behind : (left right : List (Session P)) → AreInARow (left ++ right) → All (λ s. IsNoneOf s.section.no left) right
  numbers-behind left right row =
      each_numbered (row.first + length left) right (λ s. IsNoneOf s.section.no left) (row-behind row.first (row.first + length left) left right (omega arith) row.numbered)
      (λ s low high. none-behind row.first s.section.no left (row-front row.first left right row.numbered) low)

  numbers-before : (left left_new right : List (Session P)) → map script_of left_new ≡ map script_of left → AreInARow (left ++ right) → All (λ s. IsNoneOf s.section.no right) left_new
  numbers-before left left_new right scripts row =
      let long : length left_new ≡ length left = same-length left left_new scripts in
      let numbered : AreNumbered row.first (sections_of left_new) = subst (λ (l : List Section). AreNumbered row.first l) (sym (sections-same left left_new scripts)) (row-front row.first left right row.numbered) in
      each_numbered row.first left_new (λ s. IsNoneOf s.section.no right) numbered
      (λ s low high. none-before (row.first + length left) s.section.no right (row-behind row.first (row.first + length left) left right (omega arith) row.numbered) (omega (arith, high, long)))

  may-still : (xs : List (Session P)) (v w : Hand) → w ≡ record v { sent = w.sent } → All (λ s. MayPush v s.section.no) xs → All (λ s. MayPush w s.section.no) xs
  may-still xs v w same all =
      All-weaker (λ (s : Session P). MayPush v s.section.no) (λ (s : Session P). MayPush w s.section.no) (λ s h. subst (λ (x : Hand). MayPush x s.section.no) (sym same) h) xs all

module _ {P : Type 0} (is_own : P → Type 0) (shape : Shape) (known : P → Known) where
  -- one session has taken its turn
  pub one-gone : (s t : Session P) (told told_new : List ℕ) (v w : Hand) → IsHeld is_own shape t → IsLawful shape t → script_of t ≡ script_of s
      → IsToldBy told_new w t → HasToldFor s.section.no told told_new v w → HaveGone is_own shape (s ∷ []) (t ∷ []) told told_new v w
  one-gone s t told told_new v w held lawful script is alone = record {
    held = All-cons (IsHeld is_own shape) t [] held (All-nil (IsHeld is_own shape));
    lawful = All-cons (IsLawful shape) t [] lawful (All-nil (IsLawful shape));
    scripts = ap (λ (c : Script). c ∷ []) script;
    so_far = All-cons (IsToldBy told_new w) t [] is (All-nil (IsToldBy told_new w));
    same = alone.pushed.same;
    others = λ k none. alone.pushed.others k (λ e. All-head (λ (x : Session P). x.section.no ≢ k) s [] none (sym e));
    counted = λ k none. alone.counted k (λ e. All-head (λ (x : Session P). x.section.no ≢ k) s [] none (sym e));
  }

  -- the first part of a round, and the second behind it
  pub left-go : (left right : List (Session P)) (told : List ℕ) (v : Hand) → MayGo is_own shape known (left ++ right) told v → MayGo is_own shape known left told v
  left-go left right told v m = record {
    ready = All-front (IsReady is_own shape known) left right m.ready;
    row = record { first = m.row.first; numbered = row-front m.row.first left right m.row.numbered };
    may = All-front (λ (s : Session P). MayPush v s.section.no) left right m.may;
    so_far = All-front (IsToldBy told v) left right m.so_far;
  }

  -- the sessions behind the first ones may take their turns once those have
  pub right-go : (left left_new right : List (Session P)) (told told_new : List ℕ) (v w : Hand) → MayGo is_own shape known (left ++ right) told v → HaveGone is_own shape left left_new told told_new v w
      → MayGo is_own shape known right told_new w
  right-go left left_new right told told_new v w m g = record {
    ready = All-behind (IsReady is_own shape known) left right m.ready;
    row = record { first = m.row.first + length left; numbered = row-behind m.row.first (m.row.first + length left) left right (omega arith) m.row.numbered };
    may = may-still right v w g.same (All-behind (λ (s : Session P). MayPush v s.section.no) left right m.may);
    so_far = told-apart right left told told_new v w (numbers-behind left right m.row) g.others g.counted (All-behind (IsToldBy told v) left right m.so_far);
  }

  -- turns of the first sessions, and then of those behind them, are turns of all
  pub both-gone : (left left_new right right_new : List (Session P)) (told told_mid told_new : List ℕ) (v w u : Hand) → MayGo is_own shape known (left ++ right) told v → HaveGone is_own shape left left_new told told_mid v w
      → HaveGone is_own shape right right_new told_mid told_new w u → HaveGone is_own shape (left ++ right) (left_new ++ right_new) told told_new v u
  both-gone left left_new right right_new told told_mid told_new v w u m f g = record {
    held = All-append (IsHeld is_own shape) left_new right_new f.held g.held;
    lawful = All-append (IsLawful shape) left_new right_new f.lawful g.lawful;
    scripts = both-scripts left left_new right right_new f.scripts g.scripts;
    so_far = All-append (IsToldBy told_new u) left_new right_new (told-apart left_new right told_mid told_new w u (numbers-before left left_new right f.scripts m.row) g.others g.counted f.so_far) g.so_far;
    same = g.same ∙ ap (λ (x : Hand). let y : Hand = record x { sent = u.sent } in y) f.same;
    others = λ k none. g.others k (All-behind (λ (s : Session P). s.section.no ≢ k) left right none) ∙ f.others k (All-front (λ (s : Session P). s.section.no ≢ k) left right none);
    counted = λ k none. g.counted k (All-behind (λ (s : Session P). s.section.no ≢ k) left right none) ∙ f.counted k (All-front (λ (s : Session P). s.section.no ≢ k) left right none);
  }

  -- round after round
  pub not-gone : (xs : List (Session P)) (told : List ℕ) (v : Hand) → MayGo is_own shape known xs told v → HaveGone is_own shape xs xs told told v v
  not-gone xs told v m = record {
    held = All-weaker (IsReady is_own shape known) (IsHeld is_own shape) (λ s r. record { own = r.own; served = r.served }) xs m.ready;
    lawful = All-weaker (IsReady is_own shape known) (IsLawful shape) (λ s r. rest-lawful shape known s r.rested) xs m.ready;
    scripts = refl;
    so_far = m.so_far;
    same = refl;
    others = λ k none. refl;
    counted = λ k none. refl;
  }

  -- turns behind turns are turns
  pub gone-on : (old mid new : List (Session P)) (told told_mid told_new : List ℕ) (v w u : Hand) → HaveGone is_own shape old mid told told_mid v w → HaveGone is_own shape mid new told_mid told_new w u → HaveGone is_own shape old new told told_new v u
  gone-on old mid new told told_mid told_new v w u f g = record {
    held = g.held;
    lawful = g.lawful;
    scripts = g.scripts ∙ f.scripts;
    so_far = g.so_far;
    same = g.same ∙ ap (λ (x : Hand). let y : Hand = record x { sent = u.sent } in y) f.same;
    others = λ k none. g.others k (none-still k old mid f.scripts none) ∙ f.others k none;
    counted = λ k none. g.counted k (none-still k old mid f.scripts none) ∙ f.counted k none;
  }

  -- they may take the next one
  pub go-again : (old new : List (Session P)) (told told_new : List ℕ) (v w : Hand) → AreInARow old → All (λ s. MayPush v s.section.no) old → HaveGone is_own shape old new told told_new v w → All (IsReady is_own shape known) new
      → MayGo is_own shape known new told_new w
  go-again old new told told_new v w row may g ready = record {
    ready = ready;
    row = record { first = row.first; numbered = subst (λ (l : List Section). AreNumbered row.first l) (sym (sections-same old new g.scripts)) row.numbered };
    may = may-still new v w g.same (may-same old new g.scripts may);
    so_far = g.so_far;
  }
    where
      may-same : (xs ys : List (Session P)) → map script_of ys ≡ map script_of xs → All (λ s. MayPush v s.section.no) xs → All (λ s. MayPush v s.section.no) ys
      may-same xs ys scripts all = of_sections ys (subst (λ (l : List Section). All (λ x. MayPush v x.no) l) (sym (sections-same xs ys scripts)) (to_sections xs all))
        where
          to_sections : (zs : List (Session P)) → All (λ s. MayPush v s.section.no) zs → All (λ (x : Section). MayPush v x.no) (sections_of zs)
          to_sections [] h = All-nil (λ (x : Section). MayPush v x.no)
          to_sections (z ∷ zs) h = All-cons (λ (y : Section). MayPush v y.no) z.section (sections_of zs) (All-head (λ (s : Session P). MayPush v s.section.no) z zs h) (to_sections zs (All-tail (λ (s : Session P). MayPush v s.section.no) z zs h))

          of_sections : (zs : List (Session P)) → All (λ (x : Section). MayPush v x.no) (sections_of zs) → All (λ s. MayPush v s.section.no) zs
          of_sections [] h = All-nil (λ (s : Session P). MayPush v s.section.no)
          of_sections (z ∷ zs) h = All-cons (λ (s : Session P). MayPush v s.section.no) z zs (All-head (λ (y : Section). MayPush v y.no) z.section (sections_of zs) h) (of_sections zs (All-tail (λ (y : Section). MayPush v y.no) z.section (sections_of zs) h))

  -- they have waited
  pub gone-waited : (old new : List (Session P)) (told : List ℕ) (v : Hand) → All (IsToldBy told v) old → All (IsReady is_own shape known) new → map script_of new ≡ map script_of old → map shown_of new ≡ map shown_of old
      → HaveGone is_own shape old new told told v v
  gone-waited old new told v so_far ready scripts shown = record {
    held = All-weaker (IsReady is_own shape known) (IsHeld is_own shape) (λ s r. record { own = r.own; served = r.served }) new ready;
    lawful = All-weaker (IsReady is_own shape known) (IsLawful shape) (λ s r. rest-lawful shape known s r.rested) new ready;
    scripts = scripts;
    so_far = told-still old new told v scripts shown so_far;
    same = refl;
    others = λ k none. refl;
    counted = λ k none. refl;
  }

  -- they may begin
  pub may-go : (xs : List (Session P)) (told : List ℕ) (v : Hand) → IsNoneTold told → MayPlay is_own shape known xs v → MayGo is_own shape known xs told v
  may-go xs told v none m =
      let fits : length xs ≤ v.count = m.fits in
      record {
        ready = m.ready;
        row = record { first = v.first; numbered = m.numbered };
        may = each_numbered v.first xs (λ s. MayPush v s.section.no) m.numbered (λ s low high. (low, omega (arith, high, fits)));
        so_far = each_numbered v.first xs (IsToldBy told v) m.numbered (λ s low high.
            let zero_told : told_of told s.section.no ≡ 0 = none s.section.no in
            record { within = omega (arith, zero_told); shown = ap (items_of s.section.no) m.unused ∙ sym (ap (λ (k : ℕ). take k s.items.items) zero_told) });
      }

  -- what they have pushed is theirs
  others-none : (old new : List (Session P)) (told told_new : List ℕ) (v w : Hand) → MayPlay is_own shape known old v → HaveGone is_own shape old new told told_new v w → (m : ℕ) → (v.first ≤ m → m < v.first + length old → ⊥) → items_of m w.sent ≡ []
  others-none old new told told_new v w may g m out =
      g.others m (each_numbered v.first old (λ s. s.section.no ≢ m) may.numbered (λ s low high e. out (omega (arith, low, e)) (omega (arith, high, e)))) ∙ ap (items_of m) may.unused

  -- they are over
  pub over-played : {A E : Type 0} (old new : List (Session P)) (told told_new : List ℕ) (v w : Hand) (r : Result A E) → MayPlay is_own shape known old v → HaveGone is_own shape old new told told_new v w → All (IsOver is_own shape known) new
      → OnOk r (All (IsWhollyToldBy told_new) new) → HavePlayed is_own shape known old new v w r
  over-played {A} {E} old new told told_new v w r may g over all = record {
    scripts = g.scripts;
    played = three (IsOver is_own shape known) (IsLawful shape) (HasToldFirst w) (HasPlayed is_own shape known w) (λ s o l t. record { stopped = inl o; lawful = l; told = t }) new over g.lawful (told-first new told_new w g.so_far);
    played_out = out r all;
    same = g.same;
    others = others-none old new told told_new v w may g;
  }
    where
      out : (x : Result A E) → OnOk x (All (IsWhollyToldBy told_new) new) → OnOk x (All (HasPlayedOut is_own shape known w) new)
      out (Ok a) h = both (IsOver is_own shape known) (HasToldAll w) (HasPlayedOut is_own shape known w) (λ s o t. record { over = o; told = t }) new over (told-whole new told_new w g.so_far h)
      out (Err e) h = tt

  abbrev of_both : Script → List Item → Type 0
  of_both s is = AreLawful (terms_of shape s.section s.patience) is

  -- of sessions that show the same
  pub lawful-still : (xs ys : List (Session P)) → map script_of ys ≡ map script_of xs → map shown_of ys ≡ map shown_of xs → All (IsLawful shape) xs → All (IsLawful shape) ys
  lawful-still [] [] s i h = h
  lawful-still [] (y ∷ ys) s i h = absurd (cc)
  lawful-still (x ∷ xs) [] s i h = absurd (cc)
  lawful-still (x ∷ xs) (y ∷ ys) s i h =
      All-cons (IsLawful shape) y ys
      (subst (λ (l : List Item). of_both (script_of y) l) (sym (ap (λ (l : List (List Item)). head_items l) i)) (subst (λ (c : Script). of_both c x.items.items) (sym (ap (λ (l : List Script). head_script (script_of x) l) s)) (All-head (IsLawful shape) x xs h)))
      (lawful-still xs ys (ap tail_scripts s) (ap tail_items i) (All-tail (IsLawful shape) x xs h))
    where
      head_items : List (List Item) → List Item
      head_items [] = []
      head_items (l ∷ ls) = l

      head_script : Script → List Script → Script
      head_script d [] = d
      head_script d (c ∷ cs) = c

      tail_scripts : List Script → List Script
      tail_scripts [] = []
      tail_scripts (c ∷ cs) = cs

      tail_items : List (List Item) → List (List Item)
      tail_items [] = []
      tail_items (l ∷ ls) = ls

  -- they have given up
  pub gave-up-played : {A E : Type 0} (old mid new : List (Session P)) (told told_new : List ℕ) (v w : Hand) (e : E) → MayPlay is_own shape known old v → HaveGone is_own shape old mid told told_new v w → All (HasGivenUp known) new
      → map script_of new ≡ map script_of mid → map shown_of new ≡ map shown_of mid → HavePlayed {A = A} {E = E} is_own shape known old new v w (Err e)
  gave-up-played old mid new told told_new v w e may g gave_up scripts shown = record {
    scripts = scripts ∙ g.scripts;
    played = three (HasGivenUp known) (IsLawful shape) (HasToldFirst w) (HasPlayed is_own shape known w) (λ s o l t. record { stopped = inr o; lawful = l; told = t }) new gave_up (lawful-still mid new scripts shown g.lawful)
        (told-first new told_new w (told-still mid new told_new w scripts shown g.so_far));
    played_out = tt;
    same = g.same;
    others = others-none old mid told told_new v w may g;
  }

  -- sessions that gave up before they began
  pub ready-held : (xs : List (Session P)) → All (IsReady is_own shape known) xs → All (IsHeld is_own shape) xs
  ready-held xs ready = All-weaker (IsReady is_own shape known) (IsHeld is_own shape) (λ s r. record { own = r.own; served = r.served }) xs ready

  -- sessions that gave up before they began have lawful traces
  pub gave-up-lawful : (old new : List (Session P)) → All (IsReady is_own shape known) old → map script_of new ≡ map script_of old → map shown_of new ≡ map shown_of old → All (IsLawful shape) new
  gave-up-lawful old new ready scripts shown = lawful-still old new scripts shown (All-weaker (IsReady is_own shape known) (IsLawful shape) (λ s r. rest-lawful shape known s r.rested) old ready)

  pub gave-up-stopped : (xs : List (Session P)) → All (HasGivenUp known) xs → All (HasStopped is_own shape known) xs
  gave-up-stopped xs all = All-weaker (HasGivenUp known) (HasStopped is_own shape known) (λ s h. inr h) xs all

  -- sessions that are ready, numbered from 1 on and at most 256, may run with the first pass
  pub may-begin : (xs : List (Session P)) (v : Hand) → v ≡ sender → All (IsReady is_own shape known) xs → AreNumbered 1 (sections_of xs) → length xs ≤ 256 → MayPlay is_own shape known xs v
  may-begin xs v is ready numbered few = subst (λ (x : Hand). MayPlay is_own shape known xs x) (sym is) (record { ready = ready; numbered = numbered; fits = few; unused = refl })

-- what holds of sessions that give up before they begin
pub ruleset early_laws = (ready-held, gave-up-lawful, gave-up-stopped)
