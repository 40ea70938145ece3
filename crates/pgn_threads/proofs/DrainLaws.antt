-- The loops of a drain.
use Rattle.std.proofs.Common.{◌≡◌, inl, inr, ℕ, ◌+◌, ◌-◌, ◌<◌, ◌≤◌, List, [], get_or, set, length, map, take, All, sym, ap, ◌∙◌, refl, subst, arith}
use Rattle.std.proofs.Math.ListN.{length-set}
use Rattle.std.proofs.lemmas.List.{length-map, get_or-set_same, get_or-set_other}
use Rattle.std.proofs.lemmas.Bool.{cases_lt}
use Rattle.std.proofs.lemmas.List.Elements.{All-nil}
use Rattle.pgn_model.specs.declared.item.Item.{Item}
use Rattle.pgn_hub.specs.declared.known.Known.{Known}
use Rattle.pgn_hub.specs.Shape.{Shape}
use Rattle.pgn_session.specs.declared.session.Session.{Session}
use Rattle.pgn_threads.specs.Parts.{HasReadAll}
use Rattle.pgn_session.specs.Runs.{IsOver, Script, script_of, shown_of}
use Rattle.pgn_threads.specs.Drain.{passes_of, signals_of, told_at, heard_up, heard_down, Rises, AreTop, HasReadOwn, AreOver, HaveHeardUp, HaveHeardDown, HaveRead, MayEndWithRead, EachMayEndWithRead, MayReadAt, FirstMayEndWithRead}
use Rattle.pgn_threads.proofs.ToldLaws.{rises-on, rises-top, tops-on}
use Rattle.pgn_threads.proofs.LastReadLaws.{all-read}

module _ {P : Type 0} (is_own : P → Type 0) (shape : Shape) (known : P → Known) (old : List (Session P)) where
  signals-length : (sessions : List (Session P)) → length (signals_of known sessions) ≡ length sessions
  signals-length sessions = length-map sessions (λ (s : Session P). (known s.pass).signalled)

  still-on : (mid new : List (Session P)) → AreOver is_own shape known old mid → All (IsOver is_own shape known) new → map script_of new ≡ map script_of mid → AreOver is_own shape known old new
  still-on mid new h over same = record {
    over = over;
    scripts = same ∙ h.scripts;
    count = sym (length-map new (λ (s : Session P). script_of s)) ∙ ap (λ (scripts : List Script). length scripts) (same ∙ h.scripts) ∙ length-map old (λ (s : Session P). script_of s);
  }

  first-none : (lists : List (List Item)) → FirstMayEndWithRead 0 lists lists
  first-none lists = record { length_same = refl; first = λ j lt. absurd (omega (arith, lt)); rest = λ j le. refl }

  -- one more list
  first-more : (before mid after : List (List Item)) (i : ℕ) → i < length before → FirstMayEndWithRead i before mid → MayReadAt i mid after → FirstMayEndWithRead (i + 1) before after
  first-more before mid after i lt h r =
      subst (λ (lists : List (List Item)). FirstMayEndWithRead (i + 1) before lists) (sym r.rest)
      (record {
        length_same = length-set mid i r.items ∙ h.length_same;
        first = λ j less. elim (cases_lt j i) [
          | inl k ↦ subst (λ (items : List Item). MayEndWithRead (get_or before j []) items) (sym (get_or-set_other mid i j r.items [] (λ e. omega (arith, e, k)))) (h.first j k)
          | inr k ↦
              let same : i ≡ j = omega (arith, k, less) in
              subst (λ (n : ℕ). MayEndWithRead (get_or before n []) (get_or (set mid i r.items) n [])) same
              (subst (λ (items : List Item). MayEndWithRead (get_or before i []) items) (sym (get_or-set_same mid i r.items [] (omega (arith, lt, h.length_same))))
              (subst (λ (items : List Item). MayEndWithRead items r.items) (h.rest i (omega arith)) r.one))
        ];
        rest = λ j le. get_or-set_other mid i j r.items [] (λ e. omega (arith, e, le)) ∙ h.rest j (omega (arith, le));
      })

  -- the first session has nobody to hear from
  pub up-first : All (IsOver is_own shape known) old → HaveHeardUp is_own shape known old old 1
  up-first over = record {
    shown = refl;
    still = record { over = over; scripts = refl; count = refl };
    first = omega arith;
    last = omega arith;
    rises = λ j lt. subst (λ (n : ℕ). told_at (signals_of known old) n ≤ told_at (signals_of known old) 0) (let none : 0 ≡ j = omega (arith, lt) in none) (omega arith);
  }

  -- one more session has heard from the one before it
  pub up-next : (mid new : List (Session P)) (i : ℕ) → i < length old → HaveHeardUp is_own shape known old mid i → All (IsOver is_own shape known) new → map script_of new ≡ map script_of mid
      → signals_of known new ≡ heard_up (signals_of known mid) i → map shown_of new ≡ map shown_of mid → HaveHeardUp is_own shape known old new (i + 1)
  up-next mid new i lt h over same told shown = record {
    shown = shown ∙ h.shown;
    still = still-on mid new h.still over same;
    first = omega arith;
    last = omega (arith, lt);
    rises = subst (λ (ts : List ℕ). Rises ts (i + 1)) (sym told) (rises-on (signals_of known mid) i (omega (arith, h.first)) (omega (arith, lt, signals-length mid, h.still.count)) h.rises);
  }

  -- the last has heard, and hearing back begins
  pub up-last : (mid : List (Session P)) (i : ℕ) → length old ≤ i → HaveHeardUp is_own shape known old mid i → HaveHeardDown is_own shape known old mid 1
  up-last mid i past h = record {
    shown = h.shown;
    still = h.still;
    first = omega arith;
    tops = rises-top (signals_of known mid) (length old) i (signals-length mid ∙ h.still.count) past h.last h.rises;
  }

  -- one more has heard from the one behind it
  pub down-next : (mid new : List (Session P)) (k : ℕ) → k < length old → HaveHeardDown is_own shape known old mid k → All (IsOver is_own shape known) new → map script_of new ≡ map script_of mid
      → signals_of known new ≡ heard_down (signals_of known mid) (length old - k) → map shown_of new ≡ map shown_of mid → HaveHeardDown is_own shape known old new (k + 1)
  down-next mid new k lt h over same told shown =
      let place : (length old - k) - 1 ≡ length old - (k + 1) = omega arith in
      record {
        shown = shown ∙ h.shown;
        still = still-on mid new h.still over same;
        first = omega arith;
        tops = subst (λ (n : ℕ). AreTop (signals_of known new) n) place
            (subst (λ (ts : List ℕ). AreTop ts ((length old - k) - 1)) (sym told)
            (tops-on (signals_of known mid) (length old - k) (omega (arith, lt)) (omega (arith, lt, h.first, signals-length mid, h.still.count)) h.tops));
      }

  -- the first has heard, and the last reads begin
  pub down-last : (mid : List (Session P)) (k : ℕ) → length old ≤ k → HaveHeardDown is_own shape known old mid k → HaveRead is_own shape known old mid 0
  down-last mid k past h = record {
    shown = subst (λ (lists : List (List Item)). FirstMayEndWithRead 0 (map shown_of old) lists) (sym h.shown) (first-none (map shown_of old));
    still = h.still;
    tops = subst (λ (n : ℕ). AreTop (signals_of known mid) n) (omega (arith, past)) h.tops;
    read = All-nil HasReadOwn;
  }

  -- one more has read
  pub read-next : (mid new : List (Session P)) (i : ℕ) → i < length old → HaveRead is_own shape known old mid i → All (IsOver is_own shape known) new → map script_of new ≡ map script_of mid
      → signals_of known new ≡ signals_of known mid → All HasReadOwn (take (i + 1) (passes_of known new)) → MayReadAt i (map shown_of mid) (map shown_of new) → HaveRead is_own shape known old new (i + 1)
  read-next mid new i lt h over same told read shown = record {
    shown = first-more (map shown_of old) (map shown_of mid) (map shown_of new) i (omega (arith, lt, length-map old (λ (s : Session P). shown_of s))) h.shown shown;
    still = still-on mid new h.still over same;
    tops = subst (λ (ts : List ℕ). AreTop ts 0) (sym told) h.tops;
    read = read;
  }

  -- once each has read, each has read what all know
  pub read-last : (mid : List (Session P)) (n : ℕ) → length old ≤ n → HaveRead is_own shape known old mid n → All (HasReadAll (passes_of known mid)) (passes_of known mid)
  read-last mid n past h = all-read known mid n (omega (arith, past, h.still.count, length-map mid (λ (s : Session P). known s.pass))) h.tops h.read

  -- and each has shown one read more at most
  pub shown-last : (mid : List (Session P)) (n : ℕ) → HaveRead is_own shape known old mid n → length old ≤ n → EachMayEndWithRead (map shown_of old) (map shown_of mid)
  shown-last mid n h past = record {
    count = h.shown.length_same;
    each = λ j. elim (cases_lt j n) [ inl k ↦ h.shown.first j k | inr k ↦ inl (h.shown.rest j k) ];
  }
