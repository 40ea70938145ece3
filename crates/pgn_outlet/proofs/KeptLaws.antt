-- Each step keeps the rule.
use Rattle.std.proofs.Common.{◌≡◌, ◌≢◌, ℕ, ◌+◌, ◌≤◌, true, true≢false, List, [], ◌∷◌, ◌++◌, length, set, sym, refl, ap, ◌∙◌, subst, ◌⊎◌, inl, inr, append_assoc, append-nil, arith, Option, Some, None, MatchOption, IfNone}
use Rattle.std.proofs.lemmas.Bool.{cases_lt}
use Rattle.crossbeam_queue.specs.Fifo.{Pushes, Pops, Forks, Merges, Learns}
use Rattle.pgn_outlet.specs.declared.came.Came.{Came}
use Rattle.pgn_outlet.specs.declared.hand.Hand.{Hand}
use Rattle.pgn_outlet.specs.Cames.{what_of}
use Rattle.pgn_outlet.specs.Rule.{MayPush, Fits, Each, Comes, first_hand, sends_alone, takes_alone, lower, upper, joined, taken_over, spent, with_sent, with_got, HasAllBut}
use Rattle.pgn_outlet.specs.Passes.{HasAll}
use Rattle.pgn_outlet.proofs.CameLaws.{what_of-append, pushed_both, pushed_other}
use Rattle.pgn_outlet.proofs.EachLaws.{each_turn, stood, each_made, each_one}

-- one of two, by a decision
abbrev pick : {A : Type 0} → A ⊎ (A → ⊥) → ℕ → ℕ → ℕ
pick (inl a) x y = x
pick (inr out) x y = y

pick-in : {A : Type 0} (d : A ⊎ (A → ⊥)) (x y : ℕ) → A → pick d x y ≡ x
pick-in (inl a) x y h = refl
pick-in (inr out) x y h = absurd (out h)

pick-out : {A : Type 0} (d : A ⊎ (A → ⊥)) (x y : ℕ) → (A → ⊥) → pick d x y ≡ y
pick-out (inl a) x y h = absurd (h a)
pick-out (inr out) x y h = refl

module _ {T : Type 0} where
  -- a new queue
  pub begins : Comes {T = T} [] (first_hand ∷ [])
  begins = record {
    owner = λ n. 0;
    taker = 0;
    taken = [];
    fits = each_one (Fits {T = T} (λ n. 0) 0 [] []) first_hand (record { owns = λ n mine. (refl, refl); others = λ n out. refl; has = λ takes. (refl, refl) });
  }

  -- a push: the pass itself, and another one
  fits_pushed : (owner : ℕ → ℕ) (taker : ℕ) (taken all : List (Came T)) (port : ℕ) (v : Hand T) (came : Came T) → MayPush v came.session
      → Fits owner taker taken all port v → Fits owner taker taken (all ++ came ∷ []) port (with_sent v came)
  fits_pushed owner taker taken all port v came may f = record {
    owns = λ n mine. ((f.owns n mine).0, pushed_both n came all v.sent (f.owns n mine).1);
    others = λ n out. pushed_other n came v.sent (λ e. out (subst (λ (m : ℕ). MayPush v m) e may)) ∙ f.others n out;
    has = f.has;
  }

  fits_pushed_by : (owner : ℕ → ℕ) (taker : ℕ) (taken all : List (Came T)) (port j : ℕ) (u : Hand T) (came : Came T) → owner came.session ≡ port → j ≢ port
      → Fits owner taker taken all j u → Fits owner taker taken (all ++ came ∷ []) j u
  fits_pushed_by owner taker taken all port j u came owned apart f = record {
    owns = λ n mine. ((f.owns n mine).0, pushed_other n came all (λ e. apart (sym (f.owns n mine).0 ∙ ap owner (sym e) ∙ owned)) ∙ (f.owns n mine).1);
    others = f.others;
    has = f.has;
  }

  -- who owns a session may push what it sent
  pub pushes : (n port : ℕ) (v : Hand T) (came : Came T) → MayPush v came.session → Pushes Comes n port v came (λ w. w ≡ with_sent v came)
  pushes n port v came may items views _ h at =
      let w : Hand T = with_sent v came in
      let all : List (Came T) = h.taken ++ items in
      let grown : all ++ came ∷ [] ≡ h.taken ++ (items ++ came ∷ []) = append_assoc h.taken items (came ∷ []) in
      let mine = h.fits port v at in
      let kept : Each (Fits h.owner h.taker h.taken (all ++ came ∷ [])) (set views port w) = each_turn (Fits h.owner h.taker h.taken all) (Fits h.owner h.taker h.taken (all ++ came ∷ [])) views port w h.fits
      (fits_pushed h.owner h.taker h.taken all port v came may mine) (λ j u apart f. fits_pushed_by h.owner h.taker h.taken all port j u came (mine.owns came.session may).0 apart f) in
      (w, record { owner = h.owner; taker = h.taker; taken = h.taken; fits = subst (λ (l : List (Came T)). Each (Fits h.owner h.taker h.taken l) (set views port w)) grown kept }, refl)

  -- a take
  fits_took : (owner : ℕ → ℕ) (taker : ℕ) (taken all : List (Came T)) (port : ℕ) (v : Hand T) (came : Came T) → Fits owner taker taken all port v → Fits owner taker (taken ++ came ∷ []) all port (with_got v came)
  fits_took owner taker taken all port v came f = record { owns = f.owns; others = f.others; has = λ takes. ((f.has takes).0, ap (λ (l : List (Came T)). l ++ came ∷ []) (f.has takes).1) }

  -- another pass takes nothing, where this one is the taker
  fits_taken_by : (owner : ℕ → ℕ) (taker taker' : ℕ) (taken taken' all : List (Came T)) (port j : ℕ) (u : Hand T) → port ≡ taker → j ≢ port → Fits owner taker taken all j u → Fits owner taker' taken' all j u
  fits_taken_by owner taker taker' taken taken' all port j u is apart f = record { owns = f.owns; others = f.others; has = λ takes. absurd (apart ((f.has takes).0 ∙ sym is)) }

  -- who takes gets what is pushed first
  pub takes : (port : ℕ) (v : Hand T) → v.takes ≡ true → Pops Comes port v (λ came w. w ≡ with_got v came)
  takes port v may came items views h at =
      let w : Hand T = with_got v came in
      let taken : List (Came T) = h.taken ++ came ∷ [] in
      let all : List (Came T) = h.taken ++ came ∷ items in
      let same : all ≡ taken ++ items = sym (append_assoc h.taken (came ∷ []) items) in
      let mine = h.fits port v at in
      let kept : Each (Fits h.owner h.taker taken all) (set views port w) = each_turn (Fits h.owner h.taker h.taken all) (Fits h.owner h.taker taken all) views port w h.fits
      (fits_took h.owner h.taker h.taken all port v came mine) (λ j u apart f. fits_taken_by h.owner h.taker h.taker h.taken taken all port j u (mine.has may).0 apart f) in
      (w, record { owner = h.owner; taker = h.taker; taken = taken; fits = subst (λ (l : List (Came T)). Each (Fits h.owner h.taker taken l) (set views port w)) same kept }, refl)

  -- what the taker learns
  pub learns : (port : ℕ) (v : Hand T) → v.takes ≡ true → Learns Comes port v (HasAllBut v)
  learns port v may items views h at n mine =
      let f = h.fits port v at in ap (λ (l : List (Came T)). what_of n (l ++ items)) (f.has may).1 ∙ (f.owns n mine).1

  pub all_of_none_left : (v : Hand T) → HasAllBut v [] → HasAll v
  all_of_none_left v all n mine = ap (what_of n) (sym (append-nil v.got)) ∙ all n mine

  -- what a take that found nothing tells
  pub none_left : (Q : Came T → Type 0) (r : Option (Came T)) (old new : Hand T) → MatchOption r ((new ≡ old) × HasAllBut old []) Q → IfNone r (HasAll new)
  none_left Q (Some came) old new h = tt
  none_left Q None old new h = subst (λ (v : Hand T). HasAll v) (sym h.0) (all_of_none_left old h.1)

  -- the first split of a new queue
  pub roles : (port : ℕ) (v : Hand T) → v.takes ≡ true → Forks Comes port v (sends_alone v) (takes_alone v)
  roles port v may items views h at =
      let l : Hand T = sends_alone v in
      let r : Hand T = takes_alone v in
      let all : List (Came T) = h.taken ++ items in
      let new : ℕ = length (set views port l) in
      let mine = h.fits port v at in
      let Q : ℕ → Hand T → Type 0 = Fits h.owner new h.taken all in
      let kept : Each Q (set views port l) = each_turn (Fits h.owner h.taker h.taken all) Q views port l h.fits
      (record { owns = mine.owns; others = mine.others; has = λ takes. absurd (true≢false (sym takes)) })
      (λ j u apart f. fits_taken_by h.owner h.taker new h.taken h.taken all port j u (mine.has may).0 apart f) in
      record {
        owner = h.owner;
        taker = new;
        taken = h.taken;
        fits = each_made Q (set views port l) r kept
            (record { owns = λ n own. let low = own.0 in let high = own.1 in absurd (omega (arith, low, high)); others = λ n out. refl; has = λ takes. (refl, (mine.has may).1) });
      }

  -- whether a pass may push for a session
  may : (w : Hand T) (n : ℕ) → MayPush w n ⊎ (MayPush w n → ⊥)
  may w n = elim (cases_lt n w.first) [
    | inl below ↦ inr (λ m. let low = m.0 in omega (arith, low, below))
    | inr from ↦ elim (cases_lt n (w.first + w.count)) [
      | inl before ↦ inl (from, before)
      | inr past ↦ inr (λ m. let high = m.1 in omega (arith, high, past))
    ]
  ]

  -- who pushes for a session, once a pass has got its sessions
  moved : (ℕ → ℕ) → Hand T → ℕ → ℕ → ℕ
  moved owner w port n = pick (may w n) port (owner n)

  moved-in : (owner : ℕ → ℕ) (w : Hand T) (port n : ℕ) → MayPush w n → moved owner w port n ≡ port
  unfolding moved
  moved-in owner w port n own = pick-in (may w n) port (owner n) own

  moved-out : (owner : ℕ → ℕ) (w : Hand T) (port n : ℕ) → (MayPush w n → ⊥) → moved owner w port n ≡ owner n
  unfolding moved
  moved-out owner w port n out = pick-out (may w n) port (owner n) out

  -- another pass, where the sessions of w go from one pass to one
  fits_apart : (owner : ℕ → ℕ) (taker : ℕ) (taken all : List (Came T)) (from to j : ℕ) (w u : Hand T) → ((n : ℕ) → MayPush w n → owner n ≡ from) → j ≢ from
      → Fits owner taker taken all j u → Fits (moved owner w to) taker taken all j u
  fits_apart owner taker taken all from to j w u theirs apart f = record {
    owns = λ n mine. (moved-out owner w to n (λ own. apart (sym (f.owns n mine).0 ∙ theirs n own)) ∙ (f.owns n mine).0, (f.owns n mine).1);
    others = f.others;
    has = f.has;
  }

  in_lower : (size : ℕ) (v : Hand T) (n : ℕ) → size ≤ v.count → MayPush (lower size v) n → MayPush v n
  in_lower size v n fits own = let low = own.0 in let high = own.1 in (low, omega (arith, high, fits))

  in_upper : (size : ℕ) (v : Hand T) (n : ℕ) → size ≤ v.count → MayPush (upper size v) n → MayPush v n
  in_upper size v n fits own = let low = own.0 in let high = own.1 in (omega (arith, low), omega (arith, low, high, fits))

  lower_upper : (size : ℕ) (v : Hand T) (n : ℕ) → MayPush (lower size v) n → MayPush (upper size v) n → ⊥
  lower_upper size v n below above = let high = below.1 in let low = above.0 in omega (arith, high, low)

  -- a cut
  pub cuts : (size port : ℕ) (v : Hand T) → v.sent ≡ [] → size ≤ v.count → Forks Comes port v (lower size v) (upper size v)
  cuts size port v unused fits items views h at =
      let l : Hand T = lower size v in
      let r : Hand T = upper size v in
      let all : List (Came T) = h.taken ++ items in
      let new : ℕ = length (set views port l) in
      let mine = h.fits port v at in
      let owner : ℕ → ℕ = moved h.owner r new in
      let none : (n : ℕ) → what_of n v.sent ≡ [] = λ n. ap (what_of n) unused in
      let Q : ℕ → Hand T → Type 0 = Fits owner h.taker h.taken all in
      let kept : Each Q (set views port l) = each_turn (Fits h.owner h.taker h.taken all) Q views port l h.fits
      (record {
        owns = λ n own. (moved-out h.owner r new n (λ above. lower_upper size v n own above) ∙ (mine.owns n (in_lower size v n fits own)).0, (mine.owns n (in_lower size v n fits own)).1);
        others = λ n out. none n;
        has = mine.has;
      })
      (λ j u apart f. fits_apart h.owner h.taker h.taken all port new j r u (λ n own. (mine.owns n (in_upper size v n fits own)).0) apart f) in
      record {
        owner = owner;
        taker = h.taker;
        taken = h.taken;
        fits = each_made Q (set views port l) r kept
            (record {
              owns = λ n own. (moved-in h.owner r new n own, (mine.owns n (in_upper size v n fits own)).1 ∙ none n);
              others = λ n out. refl;
              has = λ takes. absurd (true≢false (sym takes));
            });
      }

  -- who was made one with another pass pushes for none and takes nothing
  fits_spent : (owner : ℕ → ℕ) (taker : ℕ) (taken all : List (Came T)) (port : ℕ) → Fits owner taker taken all port spent
  fits_spent owner taker taken all port = record {
    owns = λ n own. let low = own.0 in let high = own.1 in absurd (omega (arith, low, high));
    others = λ n out. refl;
    has = λ takes. absurd (true≢false (sym takes));
  }

  -- neighbours that are made one
  fits_joined : (owner : ℕ → ℕ) (taker : ℕ) (taken all : List (Came T)) (port other : ℕ) (v w : Hand T) → w.first ≡ v.first + v.count
      → Fits owner taker taken all port v → Fits owner taker taken all other w → Fits (moved owner w port) taker taken all port (joined v w)
  fits_joined owner taker taken all port other v w next f g = record {
    owns = λ n own. let low = own.0 in let high = own.1 in elim (may w n) [
      | inl theirs ↦ (
        moved-in owner w port n theirs,
        (g.owns n theirs).1 ∙ ap (λ (l : List T). l ++ what_of n w.sent) (sym (f.others n (λ m. let first = theirs.0 in let last = m.1 in omega (arith, next, first, last)))) ∙ sym (what_of-append n v.sent w.sent),
      )
      | inr out ↦ let mine : MayPush v n = (low, elim (cases_lt n (v.first + v.count)) [ inl before ↦ before | inr past ↦ absurd (out (omega (arith, next, past), omega (arith, next, high))) ]) in (
        moved-out owner w port n out ∙ (f.owns n mine).0,
        (f.owns n mine).1 ∙ sym (append-nil (what_of n v.sent)) ∙ ap (λ (l : List T). what_of n v.sent ++ l) (sym (g.others n out)) ∙ sym (what_of-append n v.sent w.sent),
      )
    ];
    others = λ n out. what_of-append n v.sent w.sent
        ∙ ap (λ (l : List T). l ++ what_of n w.sent) (f.others n (λ m. let low = m.0 in let high = m.1 in out (low, omega (arith, high))))
        ∙ g.others n (λ m. let low = m.0 in let high = m.1 in out (omega (arith, next, low), omega (arith, next, high)));
    has = f.has;
  }

  -- a hand takes in the one whose sessions follow its own
  pub joins : (port : ℕ) (v : Hand T) (other : ℕ) (w : Hand T) → w.first ≡ v.first + v.count → Merges Comes port v other w (joined v w) spent
  joins port v other w next items views h at apart at' =
      let both : Hand T = joined v w in
      let all : List (Came T) = h.taken ++ items in
      let mine = h.fits port v at in
      let theirs = h.fits other w (stood views port other both w apart at') in
      let owner : ℕ → ℕ = moved h.owner w port in
      let Q : ℕ → Hand T → Type 0 = Fits owner h.taker h.taken all in
      let kept : Each (λ j u. j ≢ other → Q j u) (set views port both) = each_turn (Fits h.owner h.taker h.taken all) (λ j u. j ≢ other → Q j u) views port both h.fits
      (λ _. fits_joined h.owner h.taker h.taken all port other v w next mine theirs)
      (λ j u _ f away. fits_apart h.owner h.taker h.taken all other port j w u (λ n own. (theirs.owns n own).0) away f) in
      record {
        owner = owner;
        taker = h.taker;
        taken = h.taken;
        fits = each_turn (λ j u. j ≢ other → Q j u) Q (set views port both) other spent kept
            (fits_spent owner h.taker h.taken all other) (λ j u away q. q away);
      }

  -- a pass that gets another's taking
  pub takes_over : (port : ℕ) (v : Hand T) (other : ℕ) (w : Hand T) → w.takes ≡ true → Merges Comes port v other w (taken_over v w) spent
  takes_over port v other w may items views h at apart at' =
      let both : Hand T = taken_over v w in
      let all : List (Came T) = h.taken ++ items in
      let mine = h.fits port v at in
      let theirs = h.fits other w (stood views port other both w apart at') in
      let Q : ℕ → Hand T → Type 0 = Fits h.owner port h.taken all in
      let kept : Each (λ j u. j ≢ other → Q j u) (set views port both) = each_turn (Fits h.owner h.taker h.taken all) (λ j u. j ≢ other → Q j u) views port both h.fits
      (λ _. record { owns = mine.owns; others = mine.others; has = λ takes. (refl, (theirs.has may).1) })
      (λ j u _ f away. fits_taken_by h.owner h.taker port h.taken h.taken all other j u (theirs.has may).0 away f) in
      record {
        owner = h.owner;
        taker = port;
        taken = h.taken;
        fits = each_turn (λ j u. j ≢ other → Q j u) Q (set views port both) other spent kept
            (fits_spent h.owner port h.taken all other) (λ j u away q. q away);
      }
