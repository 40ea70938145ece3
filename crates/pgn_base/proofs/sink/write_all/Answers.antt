use Rattle.std.proofs.Common.{◌≡◌, ℕ, ◌<◌, ◌≤◌, ◌-◌, inl, Result, Ok, Err, IsErr, List, [], Option, Some, None, length, take, drop, refl, sym, ◌∙◌, subst, append-nil, take-append-drop, arith}
use Rattle.std.proofs.lemmas.Bool.{false≢true}
use Rattle.std.proofs.lemmas.List.{take_rest}
use Rattle.std.specs.Io.KnownBytes.{Appends, Keeps}
use Rattle.std.proofs.KnownBytes.{Appends-nil}
use Rattle.pgn_base.specs.Outside.{AppendsPrefix, HasCause, Rose, Writes}
use Rattle.pgn_base.proofs.FaultLaws.{none-of, some-of}
use Rattle.pgn_base.proofs.OutsideLaws.{Appends-then, AppendsPrefix-then}
use Rattle.pgn_base.proofs.sink.write_all.Goals as goal

-- nothing of a text was written
kept-prefix : (old new : Option (List ℕ)) (text : List ℕ) → Keeps old new → AppendsPrefix old new text
kept-prefix None new text h = tt
kept-prefix (Some xs) None text h = absurd h
kept-prefix (Some xs) (Some ys) text h = ([], text, refl, h ∙ sym (append-nil xs))

-- a front of it was
front-prefix : (old new : Option (List ℕ)) (n : ℕ) (text : List ℕ) → Appends old new (take n text) → AppendsPrefix old new text
front-prefix None new n text h = tt
front-prefix (Some xs) None n text h = absurd h
front-prefix (Some xs) (Some ys) n text h = (take n text, drop n text, sym (take-append-drop n text), h)

-- a front, and then the rest
whole-then : (old mid new : Option (List ℕ)) (n : ℕ) (text : List ℕ) → Appends old mid (take n text) → Appends mid new (take (length text - n) (drop n text)) → Appends old new text
whole-then old mid new n text a h =
    let rest : Appends mid new (drop n text) = subst (λ (bytes : List ℕ). Appends mid new bytes) (take_rest text n) h in
    subst (λ (bytes : List ℕ). Appends old new bytes) (take-append-drop n text) (Appends-then old mid new (take n text) (drop n text) a rest)

front-then : (old mid new : Option (List ℕ)) (n : ℕ) (text : List ℕ) → Appends old mid (take n text) → AppendsPrefix mid new (take (length text - n) (drop n text)) → AppendsPrefix old new text
front-then old mid new n text a h =
    let rest : AppendsPrefix mid new (drop n text) = subst (λ (bytes : List ℕ). AppendsPrefix mid new bytes) (take_rest text n) h in
    subst (λ (bytes : List ℕ). AppendsPrefix old new bytes) (take-append-drop n text) (AppendsPrefix-then old mid new (take n text) (drop n text) a rest)

nothing-left : (old : Option (List ℕ)) (text : List ℕ) → text ≡ [] → Appends old old text
nothing-left old text none = subst (λ (bytes : List ℕ). Appends old old bytes) (sym none) (Appends-nil old)

same-rose : (a b now : ℕ) → a ≡ b → Rose a now → Rose b now
same-rose a b now e h = subst (λ (n : ℕ). Rose n now) e h

-- a result that holds an error
err-writes : {T E : Type 0} (old new : Option (List ℕ)) (r : Result T E) (text : List ℕ) → IsErr r → AppendsPrefix old new text → Writes old new r text
err-writes old new (Ok x) text is h = absurd (false≢true is)
err-writes old new (Err e) text is h = h

err-cause : {T E : Type 0} (before now : ℕ) (r : Result T E) → IsErr r → before ≤ now → Rose before now → HasCause before now r
err-cause before now (Ok x) is le rose = absurd (false≢true is)
err-cause before now (Err e) is le rose = record { later = le; failed = rose; passed = tt }

later-same : (a b now : ℕ) → a ≡ b → a ≤ now → b ≤ now
later-same a b now e h = omega arith

le-same : (a b : ℕ) → a ≡ b → b ≤ a
le-same a b e = omega arith

some-taken : (n : ℕ) → (n ≡ 0 → ⊥) → 0 < n
some-taken n h = omega arith

pub loop-rest-preserved : goal.loop-rest-preserved
loop-rest-preserved g c =
    let was = c.loop-rest.invariant in
    record {
      whole = λ new h. was.whole new (whole-then _ _ new _ _ c.in_ok-n.ensures.bytes h);
      front = λ new h. was.front new (front-then _ _ new _ _ c.in_ok-n.ensures.bytes h);
      same = c.in_ok-n.ensures.took (inl (some-taken _ c.if-n-eq0.false)) ∙ was.same;
    }

pub returns-in_err-n : goal.returns-in_err-n
returns-in_err-n g c =
    let was = c.loop-rest.invariant in
    record {
      bytes = err-writes _ _ _ _ c.from_residual.ensures.0 (was.front _ (kept-prefix _ _ _ c.in_err-n.ensures.bytes));
      cause = err-cause _ _ _ c.from_residual.ensures.0 (later-same _ _ _ was.same c.in_err-n.ensures.later) (same-rose _ _ _ was.same c.in_err-n.ensures.failed);
    }

pub returns-then-n-eq0 : goal.returns-then-n-eq0
returns-then-n-eq0 g c =
    let was = c.loop-rest.invariant in
    let some : 0 < length c.loop-rest.rest.now = some-of _ _ c.is_empty.ensures c.loop-rest-test.true in
    record {
      bytes = was.front _ (front-prefix _ _ _ _ c.in_ok-n.ensures.bytes);
      cause = record {
        later = later-same _ _ _ was.same c.in_ok-n.ensures.later;
        failed = same-rose _ _ _ was.same (c.in_ok-n.ensures.zero c.if-n-eq0.true some);
        passed = tt;
      };
    }

pub returns : goal.returns
returns g c =
    let was = c.loop-rest.invariant in
    record {
      bytes = was.whole _ (nothing-left _ _ (none-of _ _ c.is_empty.ensures c.loop-rest-test.false));
      cause = record { later = le-same _ _ was.same; failed = tt; passed = was.same };
    }
