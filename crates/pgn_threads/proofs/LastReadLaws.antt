-- Sessions that read once more, and then have read up to where every one knows wakes to be set.
use Rattle.std.proofs.Common.{◌≡◌, inl, inr, Bool, true, false, cond, ◌++◌, ℕ, zero, suc, ◌+◌, ◌<◌, ◌≤◌, List, [], ◌∷◌, length, set, get_or, map, take, Option, None, Some, IfSome, All, sym, ap, ◌∙◌, refl, subst, arith}
use Rattle.std.proofs.lemmas.Option.{IfSome_then}
use Rattle.std.specs.Prelude.{nat_lt}
use Rattle.std.proofs.lemmas.List.{get_or-map, map-set, take_all}
use Rattle.std.proofs.Math.Seq.{map-set_same}
use Rattle.std.proofs.lemmas.List.Elements.{All-set, All-more}
use Rattle.pgn_base.specs.declared.note.Delivery.{Delivery}
use Rattle.pgn_model.specs.declared.item.Item.{Item}
use Rattle.pgn_model.specs.declared.item.Item.TheVariants.{Read}
use Rattle.pgn_hub.specs.declared.known.Known.{Known}
use Rattle.pgn_hub.specs.Shape.{Shape}
use Rattle.pgn_hub.specs.Passes.{IsWithin}
use Rattle.pgn_session.specs.declared.session.Session.{Session}
use Rattle.pgn_session.specs.Parts.{HasFinished, HasFinishedFrom}
use Rattle.pgn_session.specs.Whole.{HasRest}
use Rattle.pgn_threads.specs.Parts.{HasReadAll}
use Rattle.pgn_session.specs.Runs.{IsOver, script_of, shown_of}
use Rattle.pgn_threads.specs.Drain.{passes_of, signals_of, told_at, AreTop, HasReadOwn, MayEndWithRead, MayReadAt}

-- what a session knows of wakes is as it was, and it has read up to that
record HasReadUp (old new : Known) : Type 0 where
  same : new.signalled ≡ old.signalled
  read : HasReadOwn new

finished-up : (old new : Known) (set : List (List ℕ)) (before after : List Item) → IsWithin old → HasFinished old new set before after → HasReadUp old new
finished-up old new set before after within h = by old.mark refl h
  where
    by : (mark : Option ℕ) → old.mark ≡ mark → HasFinishedFrom mark old new set before after → HasReadUp old new
    by None e h = record { same = ap (λ (k : Known). k.signalled) h.0; read = subst (λ (mark : Option ℕ). IfSome mark (λ m. new.signalled ≤ m)) (sym (ap (λ (k : Known). k.mark) h.0 ∙ e)) tt }
    by (Some from) e h =
        let read = h.1.read in
        let signalled : new.signalled ≡ old.signalled = ap (λ (k : Known). k.signalled) read.known in
        record {
          same = signalled;
          read = subst (λ (mark : Option ℕ). IfSome mark (λ m. new.signalled ≤ m)) (sym (ap (λ (k : Known). k.mark) read.known)) (omega (arith, signalled, within.signalled, read.after_told));
        }

-- the items are as they were, or a read has come behind them
finished-shown : (old new : Known) (set : List (List ℕ)) (before after : List Item) → HasFinished old new set before after → MayEndWithRead before after
finished-shown old new set before after h = by old.mark h
  where
    moved : (from to : ℕ) (got : List Delivery) (b : Bool) → after ≡ cond b (before ++ Read from to got ∷ []) before → MayEndWithRead before after
    moved from to got true e = inr (record { from = from; to = to; got = got; shown = e })
    moved from to got false e = inl e

    by : (mark : Option ℕ) → HasFinishedFrom mark old new set before after → MayEndWithRead before after
    by None e = inl e.1
    by (Some from) e = moved from e.0 e.1.got (nat_lt from e.0) e.1.shown

module _ {P : Type 0} (is_own : P → Type 0) (shape : Shape) (known : P → Known) (sessions : List (Session P)) (i : ℕ) (d s : Session P) (lt : i < length sessions) (within : IsWithin (known (get_or sessions i d).pass)) (own : is_own s.pass) (rested : HasRest shape known s)
    (same : s ≡ record (get_or sessions i d) { pass = s.pass; items = s.items }) (finished : HasFinished (known (get_or sessions i d).pass) (known s.pass) (get_or sessions i d).set.channels (get_or sessions i d).items.items s.items.items) where
  -- behind one session's last read all are over still
  pub read-over : All (IsOver is_own shape known) sessions → All (IsOver is_own shape known) (set sessions i s)
  read-over h =
      All-set (IsOver is_own shape known) sessions i s
      (record { own = own; over = ap (λ (t : Session P). t.doing) same ∙ (h i d lt).over; rested = rested }) h

  -- and have their scripts
  pub read-scripts : map script_of (set sessions i s) ≡ map script_of sessions
  read-scripts = map-set_same (λ (t : Session P). script_of t) sessions i s d (ap (λ (t : Session P). script_of t) same)

  -- and know of the same wakes
  pub read-signals : signals_of known (set sessions i s) ≡ signals_of known sessions
  read-signals = map-set_same (λ (t : Session P). (known t.pass).signalled) sessions i s d (finished-up (known (get_or sessions i d).pass) (known s.pass) (get_or sessions i d).set.channels (get_or sessions i d).items.items s.items.items within finished).same

  -- and this one alone has shown a read, if any
  pub read-shown : MayReadAt i (map shown_of sessions) (map shown_of (set sessions i s))
  read-shown = record {
    items = s.items.items;
    one = subst (λ (before : List Item). MayEndWithRead before s.items.items) (sym (get_or-map (λ (t : Session P). shown_of t) sessions i d [] lt))
        (finished-shown (known (get_or sessions i d).pass) (known s.pass) (get_or sessions i d).set.channels (get_or sessions i d).items.items s.items.items finished);
    rest = map-set (λ (t : Session P). shown_of t) sessions i s;
  }

  -- one more has read
  pub read-more : All HasReadOwn (take i (passes_of known sessions)) → All HasReadOwn (take (i + 1) (passes_of known (set sessions i s)))
  read-more h = more sessions i lt h
    where
      up : HasReadOwn (known s.pass)
      up = (finished-up (known (get_or sessions i d).pass) (known s.pass) (get_or sessions i d).set.channels (get_or sessions i d).items.items s.items.items within finished).read

      taken : (ss : List (Session P)) (k : ℕ) → k < length ss → take k (passes_of known (set ss k s)) ≡ take k (passes_of known ss)
      taken [] k less = absurd (omega (arith, less))
      taken (t ∷ ss) zero less = refl
      taken (t ∷ ss) (suc k) less = ap (λ (ks : List Known). known t.pass ∷ ks) (taken ss k (omega (arith, less)))

      there : (ss : List (Session P)) (k : ℕ) (e : Known) → k < length ss → get_or (passes_of known (set ss k s)) k e ≡ known s.pass
      there [] k e less = absurd (omega (arith, less))
      there (t ∷ ss) zero e less = refl
      there (t ∷ ss) (suc k) e less = there ss k e (omega (arith, less))

      long : (ss : List (Session P)) (k : ℕ) → k < length ss → k < length (passes_of known (set ss k s))
      long [] k less = absurd (omega (arith, less))
      long (t ∷ ss) zero less = omega arith
      long (t ∷ ss) (suc k) less = omega (arith, long ss k (omega (arith, less)))

      more : (ss : List (Session P)) (k : ℕ) → k < length ss → All HasReadOwn (take k (passes_of known ss)) → All HasReadOwn (take (k + 1) (passes_of known (set ss k s)))
      more ss k less before =
          All-more HasReadOwn (passes_of known (set ss k s)) k (known s.pass) (long ss k less)
          (subst (λ (ks : List Known). All HasReadOwn ks) (sym (taken ss k less)) before)
          (subst HasReadOwn (sym (there ss k (known s.pass) less)) up)

-- the number of each pass
signals-at : {P : Type 0} (known : P → Known) (sessions : List (Session P)) (k : ℕ) (d : Known) → k < length (passes_of known sessions) → (get_or (passes_of known sessions) k d).signalled ≡ told_at (signals_of known sessions) k
signals-at known [] k d lt = absurd (omega (arith, lt))
signals-at known (s ∷ sessions) zero d lt = refl
signals-at known (s ∷ sessions) (suc k) d lt = signals-at known sessions k d (omega (arith, lt))

same-length : {P : Type 0} (known : P → Known) (sessions : List (Session P)) → length (passes_of known sessions) ≡ length (signals_of known sessions)
same-length known [] = refl
same-length known (s ∷ sessions) = ap suc (same-length known sessions)

-- where nobody knows more of wakes than any other, who has read up to what it knows has read up to what all know
pub all-read : {P : Type 0} (known : P → Known) (sessions : List (Session P)) (n : ℕ) → length (passes_of known sessions) ≤ n → AreTop (signals_of known sessions) 0 → All HasReadOwn (take n (passes_of known sessions))
    → All (HasReadAll (passes_of known sessions)) (passes_of known sessions)
all-read known sessions n le tops read = λ k d lt.
    let passes : List Known = passes_of known sessions in
    let one : Known = get_or passes k d in
    let own : All HasReadOwn passes = subst (λ (ks : List Known). All HasReadOwn ks) (take_all n passes le) read in
    IfSome_then one.mark (own k d lt) (λ mark up j e less.
    omega (
      arith,
      up,
      signals-at known sessions k d lt,
      signals-at known sessions j e less,
      tops k (omega arith) (omega (arith, lt, same-length known sessions)) j (omega (arith, less, same-length known sessions)),
    ))
