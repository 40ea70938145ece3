-- Sessions that tell, as workers: parts of them with a hand each.
use Rattle.std.proofs.Common.{◌≡◌, ℕ, ◌≤◌, List, [], ◌∷◌, ◌++◌, length, map, All, Result, Ok, Err, OnOk, OnErr, sym, ap, ◌∙◌, subst, arith, length-append}
use Rattle.std.specs.Result.{result_and}
use Rattle.std.specs.declared.alloc.AllocError.{AllocError}
use Rattle.pgn_hub.specs.declared.known.Known.{Known}
use Rattle.pgn_hub.specs.Shape.{Shape}
use Rattle.pgn_model.specs.declared.item.Item.{Item}
use Rattle.pgn_outlet.specs.declared.outlet.Outlet.{Outlet}
use Rattle.pgn_outlet.specs.Passes.{IsPassOf, knows}
use Rattle.pgn_outlet.specs.Rule.{joined, lower}
use Rattle.pgn_session.specs.declared.session.Session.{Session}
use Rattle.pgn_session.specs.Runs.{HasGivenUp, IsHeld, IsOver, IsReady, script_of, shown_of}
use Rattle.pgn_workers.specs.declared.turn.Turn.{Turn}
use Rattle.pgn_workers.specs.Parts.{Part, part, HasTakenRounds, StandsFor}
use Rattle.pgn_live.specs.declared.telling.Telling.{Telling}
use Rattle.pgn_live.specs.Cames.{Hand}
use Rattle.pgn_live.specs.Playing.{HavePlayed, IsNoneTold, MayPlay}
use Rattle.pgn_live.specs.Turns.{HasToldTurn, HaveEnded, IsWhollyToldBy}
use Rattle.pgn_live.specs.Workers.{HandsWereJoined, PartHasGone, PartHasPlayed, PartMayGo, PartMayPlay, PartWasCut}
use Rattle.pgn_live.proofs.PlayLaws.{both-played, joined-back, left-goes, right-goes}
use Rattle.pgn_live.proofs.RoundLaws.{both-gone, gave-up-played, go-again, gone-on, gone-waited, left-go, may-go, not-gone, one-gone, over-played, right-go}

module _ {P : Type 0} (is_own : P → Type 0) (shape : Shape) (known : P → Known) (outlet : Outlet (List Item)) where
  -- rounds of turns
  pub goes-begun : (p : Part (Session P) Telling) → PartMayPlay is_own shape known outlet p → PartMayGo is_own shape known outlet p
  goes-begun p m = record { own = m.own; may = may-go is_own shape known p.workers p.hand.told (knows p.hand.pass) m.none m.may }

  -- no turns at all are turns
  pub gone-none : (p : Part (Session P) Telling) → PartMayGo is_own shape known outlet p → PartHasGone is_own shape outlet p p
  gone-none p m = record { own = m.own; gone = not-gone is_own shape known p.workers p.hand.told (knows p.hand.pass) m.may }

  -- and so are turns behind turns
  pub gone-more : (p q r : Part (Session P) Telling) → PartHasGone is_own shape outlet p q → PartHasGone is_own shape outlet q r → PartHasGone is_own shape outlet p r
  gone-more p q r f g = record {
    own = g.own;
    gone = gone-on is_own shape known p.workers q.workers r.workers p.hand.told q.hand.told r.hand.told (knows p.hand.pass) (knows q.hand.pass) (knows r.hand.pass) f.gone g.gone;
  }

  -- sessions that are ready behind a round may take another one
  pub goes-again : (p q : Part (Session P) Telling) → PartMayGo is_own shape known outlet p → PartHasGone is_own shape outlet p q → All (IsReady is_own shape known) q.workers → PartMayGo is_own shape known outlet q
  goes-again p q m g ready = record {
    own = g.own;
    may = go-again is_own shape known p.workers q.workers p.hand.told q.hand.told (knows p.hand.pass) (knows q.hand.pass) m.may.row m.may.may g.gone ready;
  }

  -- a round of two parts
  pub goes-front : (xs ys : List (Session P)) (h : Telling) → PartMayGo is_own shape known outlet (part (xs ++ ys) h) → PartMayGo is_own shape known outlet (part xs h)
  goes-front xs ys h m = record { own = m.own; may = left-go is_own shape known xs ys h.told (knows h.pass) m.may }

  -- those behind the first ones may take their turns with the hand that these leave
  pub goes-behind : (xs ys : List (Session P)) (h : Telling) (p : Part (Session P) Telling) → PartMayGo is_own shape known outlet (part (xs ++ ys) h) → PartHasGone is_own shape outlet (part xs h) p → PartMayGo is_own shape known outlet (part ys p.hand)
  goes-behind xs ys h p m g = record { own = g.own; may = right-go is_own shape known xs p.workers ys h.told p.hand.told (knows h.pass) (knows p.hand.pass) m.may g.gone }

  -- turns of the first and of those behind them are turns of the whole part
  pub gone-both : (xs ys : List (Session P)) (h : Telling) (p q : Part (Session P) Telling) → PartMayGo is_own shape known outlet (part (xs ++ ys) h) → PartHasGone is_own shape outlet (part xs h) p → PartHasGone is_own shape outlet (part ys p.hand) q
      → PartHasGone is_own shape outlet (part (xs ++ ys) h) (part (p.workers ++ q.workers) q.hand)
  gone-both xs ys h p q m f g = record {
    own = g.own;
    gone = both-gone is_own shape known xs p.workers ys q.workers h.told p.hand.told q.hand.told (knows h.pass) (knows p.hand.pass) (knows q.hand.pass) m.may f.gone g.gone;
  }

  -- two halves
  whole-may : (p l r : Part (Session P) Telling) → PartWasCut is_own shape known outlet p l r → MayPlay is_own shape known (l.workers ++ r.workers) (knows p.hand.pass)
  whole-may p l r cut = subst (λ (xs : List (Session P)). MayPlay is_own shape known xs (knows p.hand.pass)) cut.whole cut.begun

  -- both halves of a part that was cut may begin
  pub begin-halves : (p l r : Part (Session P) Telling) → PartWasCut is_own shape known outlet p l r → PartMayPlay is_own shape known outlet l × PartMayPlay is_own shape known outlet r
  begin-halves p l r cut = (
    record {
      own = cut.left_own;
      may = subst (λ (v : Hand). MayPlay is_own shape known l.workers v) (sym cut.left_pass) (left-goes is_own shape known l.workers r.workers (knows p.hand.pass) (whole-may p l r cut));
      none = cut.left_none;
    },
    record {
      own = cut.right_own;
      may = subst (λ (v : Hand). MayPlay is_own shape known r.workers v) (sym cut.right_pass) (right-goes is_own shape known l.workers r.workers (knows p.hand.pass) (whole-may p l r cut));
      none = cut.right_none;
    },
  )

  -- halves that have run, and whose hands were joined, are a part that has run
  pub halves-played : (p l l_new r r_new : Part (Session P) Telling) (h : Telling) (a b : Result Unit AllocError) → PartWasCut is_own shape known outlet p l r → PartHasPlayed is_own shape known outlet l l_new a
      → PartHasPlayed is_own shape known outlet r r_new b → HandsWereJoined outlet l_new.hand r_new.hand h → PartHasPlayed is_own shape known outlet p (part (l_new.workers ++ r_new.workers) h) (result_and a b)
  halves-played p l l_new r r_new h a b cut f g made = record {
    own = made.own;
    played =
        subst (λ (xs : List (Session P)). HavePlayed is_own shape known xs (l_new.workers ++ r_new.workers) (knows p.hand.pass) (knows h.pass) (result_and a b)) (sym cut.whole)
        (subst (λ (v : Hand). HavePlayed is_own shape known (l.workers ++ r.workers) (l_new.workers ++ r_new.workers) (knows p.hand.pass) v (result_and a b)) (sym made.pass)
        (both-played is_own shape known l.workers l_new.workers r.workers r_new.workers (knows p.hand.pass) (knows l_new.hand.pass) (knows r_new.hand.pass) a b (whole-may p l r cut)
        (subst (λ (v : Hand). HavePlayed is_own shape known l.workers l_new.workers v (knows l_new.hand.pass) a) cut.left_pass f.played)
        (subst (λ (v : Hand). HavePlayed is_own shape known r.workers r_new.workers v (knows r_new.hand.pass) b) cut.right_pass g.played)));
  }

  -- a part that was cut and joined again stands for the one that it was
  pub neither-played : (p l r : Part (Session P) Telling) (h : Telling) → PartWasCut is_own shape known outlet p l r → HandsWereJoined outlet l.hand r.hand h
      → StandsFor (PartMayPlay is_own shape known outlet) (PartHasPlayed is_own shape known outlet) p (part (l.workers ++ r.workers) h)
  neither-played p l r h cut made =
      let most : length p.workers ≤ (knows p.hand.pass).count = cut.begun.fits in
      let long : length p.workers ≡ length (l.workers ++ r.workers) = ap (λ (xs : List (Session P)). length xs) cut.whole in
      let fits : length l.workers ≤ (knows p.hand.pass).count = omega (arith, most, long, length-append l.workers r.workers) in
      let back : knows h.pass ≡ knows p.hand.pass = made.pass ∙ ap (λ (v : Hand). joined v (knows r.hand.pass)) cut.left_pass ∙ ap (λ (v : Hand). joined (lower (length l.workers) (knows p.hand.pass)) v) cut.right_pass ∙ joined-back (length l.workers) (knows p.hand.pass) fits in
      record {
        same = sym cut.whole;
        may = record {
          own = made.own;
          may = subst (λ (v : Hand). MayPlay is_own shape known (l.workers ++ r.workers) v) (sym back) (whole-may p l r cut);
          none = subst (λ (told : List ℕ). IsNoneTold told) (sym made.told) cut.left_none;
        };
        comes_to = λ last answer ran. record {
          own = ran.own;
          played =
              subst (λ (xs : List (Session P)). HavePlayed is_own shape known xs last.workers (knows p.hand.pass) (knows last.hand.pass) answer) (sym cut.whole)
              (subst (λ (v : Hand). HavePlayed is_own shape known (l.workers ++ r.workers) last.workers v (knows last.hand.pass) answer) back ran.played);
        };
      }

  -- a turn, and a wait
  pub part-turned : (s t : Session P) (h k : Telling) (r : Result Turn AllocError) → IsPassOf outlet k.pass → HasToldTurn is_own shape known s t h.told k.told (knows h.pass) (knows k.pass) r
      → PartHasGone is_own shape outlet (part (s ∷ []) h) (part (t ∷ []) k)
  part-turned s t h k r own turned = record {
    own = own;
    gone = one-gone is_own shape known s t h.told k.told (knows h.pass) (knows k.pass) turned.held turned.lawful turned.script turned.so_far turned.alone;
  }

  -- a wait in which nothing was shown counts as turns
  pub part-waited : (xs ys : List (Session P)) (h k : Telling) → k ≡ h → PartMayGo is_own shape known outlet (part xs h) → All (IsReady is_own shape known) ys → map script_of ys ≡ map script_of xs → map shown_of ys ≡ map shown_of xs
      → PartHasGone is_own shape outlet (part xs h) (part ys k)
  part-waited xs ys h k same m ready scripts shown =
      subst (λ (x : Telling). PartHasGone is_own shape outlet (part xs h) (part ys x)) (sym same)
      (record { own = m.own; gone = gone-waited is_own shape known xs ys h.told (knows h.pass) m.may.so_far ready scripts shown })

  -- the end of a part
  pub part-held : (old : Part (Session P) Telling) (xs : List (Session P)) (h : Telling) (rounds : Result Unit AllocError) → PartHasGone is_own shape outlet old (part xs h) → OnErr rounds (All (IsHeld is_own shape) xs)
  part-held old xs h (Ok a) g = tt
  part-held old xs h (Err e) g = g.gone.held

  -- a part that has taken its rounds and has ended has run
  pub part-ended : (old : Part (Session P) Telling) (xs ys : List (Session P)) (h k : Telling) (rounds answer : Result Unit AllocError)
      → HasTakenRounds (PartMayPlay is_own shape known outlet) (PartHasGone is_own shape outlet) (IsOver is_own shape known) old (part xs h) rounds → k ≡ h → HaveEnded known xs ys h.told rounds answer
      → PartHasPlayed is_own shape known outlet old (part ys k) answer
  part-ended old xs ys h k rounds answer taken same e =
      subst (λ (x : Telling). PartHasPlayed is_own shape known outlet old (part ys x) answer) (sym same)
      (record { own = taken.turns.own; played = by rounds answer taken.all_over e.kept e.whole e.gave_up e.refused })
    where
      v : Hand
      v = knows old.hand.pass

      w : Hand
      w = knows h.pass

      by : (r a : Result Unit AllocError) → OnOk r (All (IsOver is_own shape known) xs) → OnOk r (ys ≡ xs) → OnOk r (OnOk a (All (IsWhollyToldBy h.told) ys)) → OnErr r (All (HasGivenUp known) ys) → OnErr r (OnOk a ⊥)
          → HavePlayed is_own shape known old.workers ys v w a
      by (Ok x) a over kept whole gave_up refused =
          subst (λ (zs : List (Session P)). HavePlayed is_own shape known old.workers zs v w a) (sym kept)
          (over-played is_own shape known old.workers xs old.hand.told h.told v w a taken.begun.may taken.turns.gone over (subst (λ (zs : List (Session P)). OnOk a (All (IsWhollyToldBy h.told) zs)) kept whole))
      by (Err x) (Ok a) over kept whole gave_up refused = absurd refused
      by (Err x) (Err y) over kept whole gave_up refused = gave-up-played is_own shape known old.workers xs ys old.hand.told h.told v w y taken.begun.may taken.turns.gone gave_up e.scripts e.shown
