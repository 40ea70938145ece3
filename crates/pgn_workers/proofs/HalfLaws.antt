-- Two halves that have run, or neither.
use Rattle.std.proofs.Common.{◌≡◌, ◌++◌, Option, Some, None, Result, refl, sym, ap, subst}
use Rattle.std.specs.Result.{result_and}
use Rattle.pgn_workers.specs.Parts.{Part, part, HalvesMayHaveRun, MayHaveRun, MayStillRun, StandsFor}

module _ {W A X : Type 0} (begins : Part W A → Type 0) (ran : Part W A → Part W A → X → Type 0) (old new : Part W A) where
  -- a half that has not run may begin
  pub half-begins : (o : Option X) → begins old → MayHaveRun ran old new o → o ≡ None → begins new
  half-begins o may came none = subst begins (sym (subst (λ (x : Option X). MayHaveRun ran old new x) none came)) may

  -- so it may run still, or has run
  pub half-still : (o : Option X) → (o ≡ None → begins new) → MayHaveRun ran old new o → MayStillRun begins ran old new o
  half-still None may same = record {
    same = ap (λ (p : Part W A). p.workers) same;
    may = may refl;
    comes_to = λ last answer now. subst (λ (p : Part W A). ran p last answer) same now;
  }
  half-still (Some answer) may came = came

  -- and is as it was
  pub as-it-was : (o : Option X) → o ≡ None → MayHaveRun ran old new o → new ≡ old
  as-it-was o none came = subst (λ (x : Option X). MayHaveRun ran old new x) none came

  -- a part that has run
  pub has-run : (o : Option X) (answer : X) → o ≡ Some answer → MayStillRun begins ran old new o → ran old new answer
  has-run o answer is came = subst (λ (x : Option X). MayStillRun begins ran old new x) is came

  -- one that has not
  pub stands-still : (o : Option X) → o ≡ None → MayStillRun begins ran old new o → StandsFor begins ran old new
  stands-still o none came = subst (λ (x : Option X). MayStillRun begins ran old new x) none came

module _ {W A X E : Type 0} (begins : Part W A → Type 0) (ran : Part W A → Part W A → Result X E → Type 0) (cut : Part W A → Part W A → Part W A → Type 0) (joined : A → A → A → Type 0)
    (ran_both : (p l l_new r r_new : Part W A) (h : A) (a b : Result X E) → cut p l r → ran l l_new a → ran r r_new b → joined l_new.hand r_new.hand h → ran p (part (l_new.workers ++ r_new.workers) h) (result_and a b))
    (ran_neither : (p l r : Part W A) (h : A) → cut p l r → joined l.hand r.hand h → StandsFor begins ran p (part (l.workers ++ r.workers) h)) where
  -- what a part comes to by its halves
  pub by-halves : (p l l_new r r_new : Part W A) (h : A) (o : Option (Result X E)) → cut p l r → HalvesMayHaveRun ran l l_new r r_new o → joined l_new.hand r_new.hand h
      → MayStillRun begins ran p (part (l_new.workers ++ r_new.workers) h) o
  by-halves p l l_new r r_new h None halves same made =
      subst (λ (x : Part W A). joined x.hand r_new.hand h → StandsFor begins ran p (part (x.workers ++ r_new.workers) h)) (sym same.0)
      (subst (λ (y : Part W A). joined l.hand y.hand h → StandsFor begins ran p (part (l.workers ++ y.workers) h)) (sym same.1) (ran_neither p l r h halves)) made
  by-halves p l l_new r r_new h (Some answer) halves both made =
      subst (λ (a : Result X E). ran p (part (l_new.workers ++ r_new.workers) h) a) (sym both.answers)
      (ran_both p l l_new r r_new h both.first both.second halves both.left_ran both.right_ran made)
