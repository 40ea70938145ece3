-- Desks as workers: parts of them with a hand each.
use Rattle.std.proofs.Common.{◌≡◌, ◌≤◌, false, List, [], ◌∷◌, ◌++◌, length, Option, All, Result, Ok, Err, OnOk, sym, ap, ◌∙◌, subst, arith, length-append}
use Rattle.std.specs.Result.{result_and}
use Rattle.std.specs.declared.alloc.AllocError.{AllocError}
use Rattle.pgn_hub.specs.declared.known.Known.{Known}
use Rattle.pgn_hub.specs.Passes as passes
use Rattle.pgn_hub.specs.Shape.{Shape}
use Rattle.pgn_session.specs.declared.doing.Doing.TheVariants.{Over}
use Rattle.pgn_outlet.specs.declared.hand.Hand.{Hand}
use Rattle.pgn_outlet.specs.declared.outlet.Outlet.{Outlet}
use Rattle.pgn_outlet.specs.Passes.{IsPassOf, knows}
use Rattle.pgn_outlet.specs.Rule.{joined, lower}
use Rattle.pgn_messages.specs.declared.asked.Ask.{Ask}
use Rattle.pgn_messages.specs.declared.saying.Saying.{Saying}
use Rattle.pgn_workers.specs.declared.turn.Turn.{Turn}
use Rattle.pgn_workers.specs.Parts.{Part, part, HasTakenRounds, StandsFor}
use Rattle.pgn_seats.specs.declared.desk.Desk.{Desk}
use Rattle.pgn_seats.specs.declared.tells.Tells.{Tells}
use Rattle.pgn_seats.specs.Desks.{HaveServed, MayServe}
use Rattle.pgn_seats.specs.Workers.{HandsWereJoined, HasTakenTurn, PartHasGone, PartHasServed, PartMayGo, PartMayServe, PartWasCut}
use Rattle.pgn_seats.proofs.DeskHalfLaws.{both-served, joined-back, left-begins, right-begins}
use Rattle.pgn_seats.proofs.DeskTurnLaws.{both-gone, desks-served, go-again, gone-on, left-go, may-go, not-gone, one-gone, right-go}

-- what is asked of a desk once its last turn was not refused: nothing
pub all-ready : {X : Type 0} (xs : List X) → All (λ x. Unit {0}) xs
all-ready xs = λ k d less. tt

-- a desk is ready behind each turn
pub ready-still : {A E : Type 0} (r : Result A E) → OnOk r (Unit {0})
ready-still (Ok a) = tt
ready-still (Err e) = tt

module _ {P : Type 0} (is_own : P → Type 0) (shape : Shape) (known : P → Known) (inboxes : List (Outlet (Option Ask))) (outbox : Outlet Saying) where
  -- rounds of turns
  pub goes-begun : ((p : P) → is_own p → passes.IsSeated shape (known p)) → (p : Part (Desk P) Tells) → PartMayServe is_own shape known inboxes outbox p → PartMayGo is_own shape known inboxes outbox p
  goes-begun law p m = record { own = m.own; may = may-go is_own shape known inboxes law p.workers p.hand.refused (knows p.hand.pass) m.fine m.may }

  -- no turn at all
  pub gone-none : (p : Part (Desk P) Tells) → PartMayGo is_own shape known inboxes outbox p → PartHasGone is_own shape known inboxes outbox p p
  gone-none p m = record { own = m.own; gone = not-gone is_own shape known inboxes p.workers p.hand.refused (knows p.hand.pass) m.may }

  -- a part has taken turns after turns
  pub gone-more : (p q r : Part (Desk P) Tells) → PartHasGone is_own shape known inboxes outbox p q → PartHasGone is_own shape known inboxes outbox q r → PartHasGone is_own shape known inboxes outbox p r
  gone-more p q r f g = record {
    own = g.own;
    gone = gone-on is_own shape known inboxes p.workers q.workers r.workers p.hand.refused q.hand.refused r.hand.refused (knows p.hand.pass) (knows q.hand.pass) (knows r.hand.pass) f.gone g.gone;
  }

  -- a part that has taken turns may take more
  pub goes-again : (p q : Part (Desk P) Tells) → PartMayGo is_own shape known inboxes outbox p → PartHasGone is_own shape known inboxes outbox p q → All (λ d. Unit {0}) q.workers → PartMayGo is_own shape known inboxes outbox q
  goes-again p q m g ready = record { own = g.own; may = go-again is_own shape known inboxes p.workers q.workers p.hand.refused q.hand.refused (knows p.hand.pass) (knows q.hand.pass) m.may g.gone }

  -- a round of two parts
  pub goes-front : (xs ys : List (Desk P)) (h : Tells) → PartMayGo is_own shape known inboxes outbox (part (xs ++ ys) h) → PartMayGo is_own shape known inboxes outbox (part xs h)
  goes-front xs ys h m = record { own = m.own; may = left-go is_own shape known inboxes xs ys h.refused (knows h.pass) m.may }

  -- the part behind may take a round behind one of the first
  pub goes-behind : (xs ys : List (Desk P)) (h : Tells) (p : Part (Desk P) Tells) → PartMayGo is_own shape known inboxes outbox (part (xs ++ ys) h) → PartHasGone is_own shape known inboxes outbox (part xs h) p
      → PartMayGo is_own shape known inboxes outbox (part ys p.hand)
  goes-behind xs ys h p m g = record { own = g.own; may = right-go is_own shape known inboxes xs p.workers ys h.refused p.hand.refused (knows h.pass) (knows p.hand.pass) m.may g.gone }

  -- a round of both parts
  pub gone-both : (xs ys : List (Desk P)) (h : Tells) (p q : Part (Desk P) Tells) → PartMayGo is_own shape known inboxes outbox (part (xs ++ ys) h) → PartHasGone is_own shape known inboxes outbox (part xs h) p
      → PartHasGone is_own shape known inboxes outbox (part ys p.hand) q → PartHasGone is_own shape known inboxes outbox (part (xs ++ ys) h) (part (p.workers ++ q.workers) q.hand)
  gone-both xs ys h p q m f g = record {
    own = g.own;
    gone = both-gone is_own shape known inboxes xs p.workers ys q.workers h.refused p.hand.refused q.hand.refused (knows h.pass) (knows p.hand.pass) (knows q.hand.pass) m.may f.gone g.gone;
  }

  -- two halves
  whole-may : (p l r : Part (Desk P) Tells) → PartWasCut is_own shape known inboxes outbox p l r → MayServe is_own shape known inboxes (l.workers ++ r.workers) (knows p.hand.pass)
  whole-may p l r cut = subst (λ (xs : List (Desk P)). MayServe is_own shape known inboxes xs (knows p.hand.pass)) cut.whole cut.begun

  -- both halves of a part that was cut may begin
  pub begin-halves : (p l r : Part (Desk P) Tells) → PartWasCut is_own shape known inboxes outbox p l r → PartMayServe is_own shape known inboxes outbox l × PartMayServe is_own shape known inboxes outbox r
  begin-halves p l r cut = (
    record {
      own = cut.left_own;
      fine = cut.left_fine;
      may = subst (λ (v : Hand Saying). MayServe is_own shape known inboxes l.workers v) (sym cut.left_pass) (left-begins is_own shape known inboxes l.workers r.workers (knows p.hand.pass) (whole-may p l r cut));
    },
    record {
      own = cut.right_own;
      fine = cut.right_fine;
      may = subst (λ (v : Hand Saying). MayServe is_own shape known inboxes r.workers v) (sym cut.right_pass) (right-begins is_own shape known inboxes l.workers r.workers (knows p.hand.pass) (whole-may p l r cut));
    },
  )

  -- a part has run whose halves have
  pub halves-served : (p l l_new r r_new : Part (Desk P) Tells) (h : Tells) (a b : Result Unit AllocError) → PartWasCut is_own shape known inboxes outbox p l r → PartHasServed is_own shape known inboxes outbox l l_new a
      → PartHasServed is_own shape known inboxes outbox r r_new b → HandsWereJoined outbox l_new.hand r_new.hand h → PartHasServed is_own shape known inboxes outbox p (part (l_new.workers ++ r_new.workers) h) (result_and a b)
  halves-served p l l_new r r_new h a b cut f g made = record {
    own = made.own;
    served =
        subst (λ (xs : List (Desk P)). HaveServed is_own shape known inboxes xs (l_new.workers ++ r_new.workers) (knows p.hand.pass) (knows h.pass) (result_and a b)) (sym cut.whole)
        (subst (λ (v : Hand Saying). HaveServed is_own shape known inboxes (l.workers ++ r.workers) (l_new.workers ++ r_new.workers) (knows p.hand.pass) v (result_and a b)) (sym made.pass)
        (both-served is_own shape known inboxes l.workers l_new.workers r.workers r_new.workers (knows p.hand.pass) (knows l_new.hand.pass) (knows r_new.hand.pass) a b (whole-may p l r cut)
        (subst (λ (v : Hand Saying). HaveServed is_own shape known inboxes l.workers l_new.workers v (knows l_new.hand.pass) a) cut.left_pass f.served)
        (subst (λ (v : Hand Saying). HaveServed is_own shape known inboxes r.workers r_new.workers v (knows r_new.hand.pass) b) cut.right_pass g.served)));
  }

  -- a part whose halves have not run may run still
  pub neither-served : (p l r : Part (Desk P) Tells) (h : Tells) → PartWasCut is_own shape known inboxes outbox p l r → HandsWereJoined outbox l.hand r.hand h
      → StandsFor (PartMayServe is_own shape known inboxes outbox) (PartHasServed is_own shape known inboxes outbox) p (part (l.workers ++ r.workers) h)
  neither-served p l r h cut made =
      let most : length p.workers ≤ (knows p.hand.pass).count = cut.begun.fits in
      let long : length p.workers ≡ length (l.workers ++ r.workers) = ap (λ (xs : List (Desk P)). length xs) cut.whole in
      let fits : length l.workers ≤ (knows p.hand.pass).count = omega (arith, most, long, length-append l.workers r.workers) in
      let back : knows h.pass ≡ knows p.hand.pass =
      made.pass ∙ ap (λ (v : Hand Saying). joined v (knows r.hand.pass)) cut.left_pass ∙ ap (λ (v : Hand Saying). joined (lower (length l.workers) (knows p.hand.pass)) v) cut.right_pass ∙ joined-back (length l.workers) (knows p.hand.pass) fits in
      record {
        same = sym cut.whole;
        may = record {
          own = made.own;
          fine = made.refused ∙ cut.left_fine;
          may = subst (λ (v : Hand Saying). MayServe is_own shape known inboxes (l.workers ++ r.workers) v) (sym back) (whole-may p l r cut);
        };
        comes_to = λ last answer ran. record {
          own = ran.own;
          served =
              subst (λ (xs : List (Desk P)). HaveServed is_own shape known inboxes xs last.workers (knows p.hand.pass) (knows last.hand.pass) answer) (sym cut.whole)
              (subst (λ (v : Hand Saying). HaveServed is_own shape known inboxes (l.workers ++ r.workers) last.workers v (knows last.hand.pass) answer) back ran.served);
        };
      }

  -- a turn, and a wait
  pub part-turned : (d e : Desk P) (h k : Tells) (r : Result Turn AllocError) → IsPassOf outbox k.pass → HasTakenTurn is_own shape known inboxes d e h.refused k.refused (knows h.pass) (knows k.pass) r
      → PartHasGone is_own shape known inboxes outbox (part (d ∷ []) h) (part (e ∷ []) k)
  part-turned d e h k r own turned = record {
    own = own;
    gone = one-gone is_own shape known inboxes d e h.refused k.refused (knows h.pass) (knows k.pass) turned.same turned.alone turned.stands turned.stays;
  }

  -- a part in which all waited has taken turns
  pub part-waited : (xs ys : List (Desk P)) (h k : Tells) → k ≡ h → ys ≡ xs → PartMayGo is_own shape known inboxes outbox (part xs h) → PartHasGone is_own shape known inboxes outbox (part xs h) (part ys k)
  part-waited xs ys h k same kept m =
      subst (λ (x : Tells). PartHasGone is_own shape known inboxes outbox (part xs h) (part ys x)) (sym same)
      (subst (λ (zs : List (Desk P)). PartHasGone is_own shape known inboxes outbox (part xs h) (part zs h)) (sym kept) (gone-none (part xs h) m))

  -- the end of a part
  pub part-ended : (old : Part (Desk P) Tells) (xs ys : List (Desk P)) (h k : Tells) (rounds answer : Result Unit AllocError)
      → HasTakenRounds (PartMayServe is_own shape known inboxes outbox) (PartHasGone is_own shape known inboxes outbox) (λ d. d.session.doing ≡ Over) old (part xs h) rounds → k ≡ h → ys ≡ xs
      → OnOk answer ((rounds ≡ Ok tt) × (h.refused ≡ false)) → PartHasServed is_own shape known inboxes outbox old (part ys k) answer
  part-ended old xs ys h k rounds answer taken same kept fine =
      subst (λ (x : Tells). PartHasServed is_own shape known inboxes outbox old (part ys x) answer) (sym same)
      (subst (λ (zs : List (Desk P)). PartHasServed is_own shape known inboxes outbox old (part zs h) answer) (sym kept)
      (record {
        own = taken.turns.own;
        served =
            desks-served is_own shape known inboxes old.workers xs old.hand.refused h.refused (knows old.hand.pass) (knows h.pass) answer taken.begun.may taken.turns.gone (all-over answer fine);
      }))
    where
      all-over : (r : Result Unit AllocError) → OnOk r ((rounds ≡ Ok tt) × (h.refused ≡ false)) → OnOk r (All (λ (d : Desk P). d.session.doing ≡ Over) xs × (h.refused ≡ false))
      all-over (Ok a) f = (subst (λ (x : Result Unit AllocError). OnOk x (All (λ (d : Desk P). d.session.doing ≡ Over) xs)) f.0 taken.all_over, f.1)
      all-over (Err e) f = tt
