-- What came of sessions that have run live.
use Rattle.std.proofs.Common.{◌≡◌, ◌≢◌, ◌⊎◌, inl, inr, ℕ, true, ◌+◌, ◌<◌, ◌≤◌, cond, List, [], ◌∷◌, ◌++◌, length, drop, map, All, Option, Some, None, Result, Ok, Err, OnOk, sym, ap, ◌∙◌, refl, subst, arith, append-nil, append_assoc, eq-eqb}
use Rattle.std.specs.Io.KnownBytes.{Appends}
use Rattle.std.proofs.Math.Seq.{drop-append_seam}
use Rattle.std.proofs.lemmas.Bool.{cases_eq, cases_lt}
use Rattle.std.proofs.lemmas.List.Elements.{All-append, All-head, All-tail, All-weaker}
use Rattle.pgn_base.specs.declared.source.Failed.{Failed}
use Rattle.pgn_base.specs.Outside.{AppendsPrefix, HasCause, Rose, Writes}
use Rattle.pgn_hub.specs.declared.known.Known.{Known}
use Rattle.pgn_hub.specs.Shape.{Shape}
use Rattle.pgn_language.specs.declared.scenario.Section.{Section}
use Rattle.pgn_language.specs.Inputs.{AreNumbered}
use Rattle.pgn_model.specs.declared.item.Item.{Item}
use Rattle.pgn_outlet.specs.Passes.{HasAll}
use Rattle.pgn_outlet.specs.Rule.{MayPush, sender, taker, taken_over}
use Rattle.pgn_session.specs.declared.session.Session.{Session}
use Rattle.pgn_session.specs.Parts.{Begins}
use Rattle.pgn_session.specs.Runs.{HasStopped, IsLawful, IsOver}
use Rattle.pgn_live.specs.declared.lives.LiveFault.{LiveFault}
use Rattle.pgn_live.specs.declared.lives.LiveFault.TheVariants.{Write, Memory}
use Rattle.pgn_text.specs.declared.out.Out.{Out}
use Rattle.pgn_text.specs.Rendering.{Puts}
use Rattle.pgn_text.proofs.PutsLaws.{Puts-none, Puts-same, Puts-trans, Writes-from_Puts}
use Rattle.pgn_live.specs.Cames.{Came, Hand, items_in, items_of}
use Rattle.pgn_live.specs.Lives.{answer_of, log_of, logs_of, tagged, AreFirst, AreWhole, CameTo, ComesFirst, ComesWhole, IsNumber, Wrote}
use Rattle.pgn_live.specs.Playing.{sections_of, HasPlayed, HasPlayedOut, HavePlayed}
use Rattle.pgn_live.proofs.CameLaws.{items_of-append, items_same, none_of_other}
use Rattle.pgn_live.proofs.RowLaws.{same-length, sections-same}
use Rattle.pgn_live.proofs.WriteLaws.{stand-fresh, tagged-append}

-- what came of a session whose number none of these has
came-none : (n : ℕ) (cames : List Came) → All (λ came. came.session ≢ n) cames → items_of n cames ≡ []
came-none n [] none = refl
came-none n (came ∷ cames) none =
    ap (λ (l : List Item). l ++ items_of n cames) (none_of_other n came (All-head (λ (c : Came). c.session ≢ n) came cames none)) ∙ came-none n cames (All-tail (λ (c : Came). c.session ≢ n) came cames none)

no-number : (n : ℕ) (cames : List Came) → All (λ came. IsNumber came.session) cames → (IsNumber n → ⊥) → items_of n cames ≡ []
no-number n cames numbers out =
    came-none n cames (All-weaker (λ (c : Came). IsNumber c.session) (λ (c : Came). c.session ≢ n) (λ c number e. out (subst IsNumber e number)) cames numbers)

in-own : (n : ℕ) (came : Came) → came.session ≡ n → items_in n came ≡ came.what
in-own n came e = ap (λ b. cond b came.what []) (eq-eqb came.session n e)

module _ {P : Type 0} (told : Session P → Came) (named : (s : Session P) → (told s).session ≡ s.section.no) where
  -- of what is told of each session, that which a number has
  told-none : (n k : ℕ) (xs : List (Session P)) → AreNumbered k (sections_of xs) → (n < k) ⊎ (k + length xs ≤ n) → items_of n (map told xs) ≡ []
  told-none n k [] numbered out = refl
  told-none n k (x ∷ xs) numbered out =
      let is : x.section.no ≡ k = numbered.0 in
      let name : (told x).session ≡ x.section.no = named x in
      ap (λ (l : List Item). l ++ items_of n (map told xs)) (none_of_other n (told x) (λ e. apart e out)) ∙ told-none n (k + 1) xs numbered.1 (beyond out)
    where
      apart : (told x).session ≡ n → (n < k) ⊎ (k + length (x ∷ xs) ≤ n) → ⊥
      apart e (inl less) = let is : x.section.no ≡ k = numbered.0 in omega (arith, e, named x, is, less)
      apart e (inr more) = let is : x.section.no ≡ k = numbered.0 in omega (arith, e, named x, is, more)

      beyond : (n < k) ⊎ (k + length (x ∷ xs) ≤ n) → (n < k + 1) ⊎ (k + 1 + length xs ≤ n)
      beyond (inl less) = inl (omega (arith, less))
      beyond (inr more) = inr (omega (arith, more))

-- the session of a number, with what holds of each, and what is told of it
record Found {P : Type 0} (told : Session P → Came) (Q : Session P → Type 0) (n : ℕ) (xs : List (Session P)) : Type 0 where
  session : Session P
  number : session.section.no ≡ n
  has : Q session
  shown : items_of n (logs_of xs) ≡ session.items.items
  tells : items_of n (map told xs) ≡ (told session).what

module _ {P : Type 0} (told : Session P → Came) (named : (s : Session P) → (told s).session ≡ s.section.no) (Q : Session P → Type 0) where
  found : (n k : ℕ) (xs : List (Session P)) → AreNumbered k (sections_of xs) → k ≤ n → n < k + length xs → All Q xs → Found told Q n xs
  found n k [] numbered low high all = absurd (omega (arith, low, high))
  found n k (x ∷ xs) numbered low high all = either (λ above. found n (k + 1) xs numbered.1 above (omega (arith, high)) (All-tail Q x xs all)) (cases_eq x.section.no n)
    where
      either : (k + 1 ≤ n → Found told Q n xs) → (x.section.no ≡ n) ⊎ (x.section.no ≡ n → ⊥) → Found told Q n (x ∷ xs)
      either behind (inl e) =
          let is : x.section.no ≡ k = numbered.0 in
          let before : (n < k + 1) ⊎ (k + 1 + length xs ≤ n) = inl (omega (arith, e, is)) in
          record {
            session = x;
            number = e;
            has = All-head Q x xs all;
            shown = ap (λ (l : List Item). l ++ items_of n (logs_of xs)) (in-own n (log_of x) e) ∙ ap (λ (l : List Item). x.items.items ++ l) (told-none (λ (s : Session P). log_of s) (λ s. refl) n (k + 1) xs numbered.1 before) ∙ append-nil x.items.items;
            tells = ap (λ (l : List Item). l ++ items_of n (map told xs)) (in-own n (told x) (named x ∙ e)) ∙ ap (λ (l : List Item). (told x).what ++ l) (told-none told named n (k + 1) xs numbered.1 before) ∙ append-nil (told x).what;
          }
      either behind (inr apart) =
          let is : x.section.no ≡ k = numbered.0 in
          let above : k + 1 ≤ n = over_it is (cases_eq k n) in
          let rest : Found told Q n xs = behind above in
          record {
            session = rest.session;
            number = rest.number;
            has = rest.has;
            shown = ap (λ (l : List Item). l ++ items_of n (logs_of xs)) (none_of_other n (log_of x) apart) ∙ rest.shown;
            tells = ap (λ (l : List Item). l ++ items_of n (map told xs)) (none_of_other n (told x) (λ e. apart (sym (named x) ∙ e))) ∙ rest.tells;
          }
        where
          over_it : x.section.no ≡ k → (k ≡ n) ⊎ (k ≡ n → ⊥) → k + 1 ≤ n
          over_it is (inl e) = absurd (apart (is ∙ e))
          over_it is (inr other) = below (cases_lt k n)
            where
              below : (k < n) ⊎ (n ≤ k) → k + 1 ≤ n
              below (inl less) = omega (arith, less)
              below (inr more) = absurd (other (omega (arith, low, more)))

-- where a number stands: among so many from 1 on, or outside
place : (n count : ℕ) → ((1 ≤ n) × (n < 1 + count)) ⊎ ((n < 1) ⊎ (1 + count ≤ n))
place n count = low (cases_lt n 1)
  where
    high : 1 ≤ n → (n < 1 + count) ⊎ (1 + count ≤ n) → ((1 ≤ n) × (n < 1 + count)) ⊎ ((n < 1) ⊎ (1 + count ≤ n))
    high least (inl less) = inl (least, less)
    high least (inr more) = inr (inr more)

    low : (n < 1) ⊎ (1 ≤ n) → ((1 ≤ n) × (n < 1 + count)) ⊎ ((n < 1) ⊎ (1 + count ≤ n))
    low (inl less) = inr (inl less)
    low (inr least) = high least (cases_lt n (1 + count))

module _ {P A E : Type 0} (is_own : P → Type 0) (shape : Shape) (known : P → Known) (old new : List (Session P)) (v : Hand) (r : Result A E) (cames : List Came)
    (numbered : AreNumbered 1 (sections_of old)) (few : length old ≤ 256) (played : HavePlayed is_own shape known old new sender v r)
    (numbers : All (λ came. IsNumber came.session) cames) (has_all : (n : ℕ) → IsNumber n → items_of n cames ≡ items_of n v.sent) where
  new-numbered : AreNumbered 1 (sections_of new)
  new-numbered = subst (λ (l : List Section). AreNumbered 1 l) (sym (sections-same old new played.scripts)) numbered

  long : length new ≡ length old
  long = same-length old new played.scripts

  -- of a number that no session has nothing came
  outside : (n : ℕ) → (n < 1) ⊎ (1 + length new ≤ n) → items_of n cames ≡ []
  outside n out = whose (cases_lt n 1) (cases_lt 256 n)
    where
      apart : (n < 1) ⊎ (1 + length new ≤ n) → 1 ≤ n → n < 1 + length old → ⊥
      apart (inl less) least high = omega (arith, less, least)
      apart (inr more) least high = omega (arith, more, high, long)

      whose : (n < 1) ⊎ (1 ≤ n) → (256 < n) ⊎ (n ≤ 256) → items_of n cames ≡ []
      whose (inl less) most = no-number n cames numbers (λ number. (let least : 1 ≤ n = number.0 in omega (arith, least, less)))
      whose (inr least) (inl more) = no-number n cames numbers (λ number. (let most : n ≤ 256 = number.1 in omega (arith, most, more)))
      whose (inr least) (inr most) = has_all n (least, most) ∙ played.others n (apart out)

  logs-outside : (n : ℕ) → (n < 1) ⊎ (1 + length new ≤ n) → items_of n (logs_of new) ≡ []
  logs-outside n out = told-none (λ (s : Session P). log_of s) (λ s. refl) n 1 new new-numbered out

  number-of : (n : ℕ) → 1 ≤ n → n < 1 + length new → IsNumber n
  number-of n least less = (least, omega (arith, less, few, long))

  -- what came of each session is the first of what it has recorded
  pub first-came : AreFirst (logs_of new) cames
  first-came n = at (place n (length new))
    where
      at : ((1 ≤ n) × (n < 1 + length new)) ⊎ ((n < 1) ⊎ (1 + length new ≤ n)) → Begins (items_of n cames) (items_of n (logs_of new))
      at (inr out) = record { more = []; split = logs-outside n out ∙ ap (λ (l : List Item). l ++ []) (sym (outside n out)) }
      at (inl among) =
          let f = found (λ (s : Session P). log_of s) (λ s. refl) (HasPlayed is_own shape known v) n 1 new new-numbered among.0 among.1 played.played in
          let same : items_of n cames ≡ items_of f.session.section.no v.sent = has_all n (number-of n among.0 among.1) ∙ ap (λ (k : ℕ). items_of k v.sent) (sym f.number) in
          record { more = f.has.told.more; split = f.shown ∙ f.has.told.split ∙ ap (λ (l : List Item). l ++ f.has.told.more) (sym same) }

  whole-came : All (HasPlayedOut is_own shape known v) new → AreWhole (logs_of new) cames
  whole-came all n = at (place n (length new))
    where
      at : ((1 ≤ n) × (n < 1 + length new)) ⊎ ((n < 1) ⊎ (1 + length new ≤ n)) → items_of n cames ≡ items_of n (logs_of new)
      at (inr out) = outside n out ∙ sym (logs-outside n out)
      at (inl among) =
          let f = found (λ (s : Session P). log_of s) (λ s. refl) (HasPlayedOut is_own shape known v) n 1 new new-numbered among.0 among.1 all in
          has_all n (number-of n among.0 among.1) ∙ ap (λ (k : ℕ). items_of k v.sent) (sym f.number) ∙ f.has.told ∙ sym f.shown

  -- what of a session did not come
  abbrev rest_of : Session P → Came
  rest_of s = record { session = s.section.no; what = drop (length (items_of s.section.no cames)) s.items.items }

  rests-came : AreWhole (logs_of new) (cames ++ map rest_of new)
  rests-came n = items_of-append n cames (map rest_of new) ∙ at (place n (length new))
    where
      at : ((1 ≤ n) × (n < 1 + length new)) ⊎ ((n < 1) ⊎ (1 + length new ≤ n)) → items_of n cames ++ items_of n (map rest_of new) ≡ items_of n (logs_of new)
      at (inr out) = ap (λ (l : List Item). l ++ items_of n (map rest_of new)) (outside n out) ∙ told-none rest_of (λ s. refl) n 1 new new-numbered out ∙ sym (logs-outside n out)
      at (inl among) =
          let f = found rest_of (λ s. refl) (HasPlayed is_own shape known v) n 1 new new-numbered among.0 among.1 played.played in
          let front : List Item = items_of n cames in
          let same : front ≡ items_of f.session.section.no v.sent = has_all n (number-of n among.0 among.1) ∙ ap (λ (k : ℕ). items_of k v.sent) (sym f.number) in
          let whole : f.session.items.items ≡ front ++ f.has.told.more = f.has.told.split ∙ ap (λ (l : List Item). l ++ f.has.told.more) (sym same) in
          let rest : drop (length (items_of f.session.section.no cames)) f.session.items.items ≡ f.has.told.more =
          ap (λ (k : ℕ). drop (length (items_of k cames)) f.session.items.items) f.number ∙ ap (λ (l : List Item). drop (length front) l) whole ∙ drop-append_seam front f.has.told.more in
          ap (λ (l : List Item). front ++ l) (f.tells ∙ rest) ∙ sym whole ∙ sym f.shown

  prefix-more : (start now : Option (List ℕ)) (text more : List ℕ) → AppendsPrefix start now text → AppendsPrefix start now (text ++ more)
  prefix-more None now text more h = tt
  prefix-more (Some xs) None text more h = absurd h
  prefix-more (Some xs) (Some ys) text more h = (h.0, h.1 ++ more, ap (λ (l : List ℕ). l ++ more) h.2 ∙ append_assoc h.0 h.1 more, h.3)

  -- what a run that wrote this comes to
  pub came-done : {D : Type 0} (sections : List Section) (before after : Option (List ℕ)) (so_far : Result Unit D) → Writes before after so_far (tagged sections cames)
      → OnOk (answer_of so_far r) (ComesWhole sections (logs_of new) (Appends before after))
  came-done {D} sections before after (Err d) writes = tt
  came-done {D} sections before after (Ok x) writes = of r played.played_out
    where
      of : (s : Result A E) → OnOk s (All (HasPlayedOut is_own shape known v) new) → OnOk (answer_of {D = D} (Ok x) s) (ComesWhole sections (logs_of new) (Appends before after))
      of (Err e) out = tt
      of (Ok a) out = record { cames = cames; whole = whole-came out; output = writes }

  -- after a failed write a prefix of what all sessions have recorded
  pub came-prefix : {D : Type 0} (sections : List Section) (before after : Option (List ℕ)) (so_far : Result Unit D) → Writes before after so_far (tagged sections cames)
      → answer_of so_far r ≡ Err Write → ComesWhole sections (logs_of new) (AppendsPrefix before after)
  came-prefix {D} sections before after (Ok x) writes e = absurd (of r e)
    where
      of : (s : Result A E) → answer_of {D = D} (Ok x) s ≡ Err Write → ⊥
      of (Ok a) is = cc
      of (Err y) is = cc
  came-prefix {D} sections before after (Err d) writes e = record {
    cames = cames ++ map rest_of new;
    whole = rests-came;
    output = subst (λ (l : List ℕ). AppendsPrefix before after l) (sym (tagged-append sections cames (map rest_of new))) (prefix-more before after (tagged sections cames) (tagged sections (map rest_of new)) writes);
  }

  -- where memory did not suffice the first of it
  pub came-memory : {D : Type 0} (sections : List Section) (before after : Option (List ℕ)) (so_far : Result Unit D) → Writes before after so_far (tagged sections cames)
      → answer_of so_far r ≡ Err Memory → ComesFirst sections (logs_of new) (Appends before after)
  came-memory sections before after (Ok x) writes e = record { cames = cames; first = first-came; output = writes }
  came-memory sections before after (Err d) writes e = absurd (cc)

  -- where it is done all sessions are over
  pub came-over : {D : Type 0} (so_far : Result Unit D) → OnOk (answer_of so_far r) (All (IsOver is_own shape known) new)
  came-over {D} (Err d) = tt
  came-over {D} (Ok x) = of r played.played_out
    where
      of : (s : Result A E) → OnOk s (All (HasPlayedOut is_own shape known v) new) → OnOk (answer_of {D = D} (Ok x) s) (All (IsOver is_own shape known) new)
      of (Err e) out = tt
      of (Ok a) out = All-weaker (HasPlayedOut is_own shape known v) (IsOver is_own shape known) (λ s h. h.over) new out

-- the sink's faults rose where a run answers that a write failed
pub came-rose : {A E D : Type 0} (before after : ℕ) (so_far : Result Unit D) (r : Result A E) → HasCause before after so_far → answer_of so_far r ≡ Err Write → Rose before after
came-rose before after (Err d) r cause e = cause.failed
came-rose before after (Ok x) (Ok a) cause e = absurd (cc)
came-rose before after (Ok x) (Err y) cause e = absurd (cc)

-- and it answers so where they rose
pub came-due : {A E D : Type 0} (before after : ℕ) (so_far : Result Unit D) (r : Result A E) → HasCause before after so_far → before < after → answer_of so_far r ≡ Err Write
came-due before after (Err d) r cause less = refl
came-due before after (Ok x) r cause less = absurd (omega (arith, cause.passed, less))

-- what the writer has done, before the sessions were done and after
pub record CameOut {S : Type 0} (held : S → Option (List ℕ)) (faults : S → ℕ) (sections : List Section) (v w : Hand) (sink sink_now : S) (so_far : Result Unit Failed) : Type 0 where
  pub numbers : All (λ came. IsNumber came.session) w.got
  pub has_all : (n : ℕ) → IsNumber n → items_of n w.got ≡ items_of n v.sent
  pub writes : Writes (held sink) (held sink_now) so_far (tagged sections w.got)
  pub cause : HasCause (faults sink) (faults sink_now) so_far

-- the writer, before and after the sessions were done, has taken all that they told, and given its text out
pub came-out : {S : Type 0} (held : S → Option (List ℕ)) (faults : S → ℕ) (sections : List Section) (v t₀ t₁ c w : Hand) (s₀ s₁ s₂ : S) (o₀ o₁ o₂ : Out) → v ≡ record sender { sent = v.sent } → t₀ ≡ taker → c ≡ taken_over v t₁
    → Wrote held faults sections t₀ t₁ s₀ o₀ s₁ o₁ → Wrote held faults sections c w s₁ o₁ s₂ o₂ → HasAll w → o₀.kept ≡ [] → o₀.so_far ≡ Ok tt → OnOk o₂.so_far (o₂.kept ≡ []) → CameOut held faults sections v w s₀ s₂ o₂.so_far
came-out held faults sections v t₀ t₁ c w s₀ s₁ s₂ o₀ o₁ o₂ sends takes closed f g has none fine sent = record {
  numbers = subst (λ (l : List Came). All (λ (came : Came). IsNumber came.session) l) (sym got) all_numbers;
  has_all = λ n number. items_same n w.got w.sent (has n (subst (λ (x : Hand). MayPush x n) (sym w_is) (number.0, (let most : n ≤ 256 = number.1 in omega (arith, most))))) ∙ ap (λ (x : Hand). items_of n x.sent) w_is;
  writes = subst (λ (l : List Came). Writes (held s₀) (held s₂) o₂.so_far (tagged sections l)) (sym got) (Writes-from_Puts none fine puts (Puts-none held faults s₂ o₂) sent);
  cause = puts.cause (faults s₀) (subst (λ (r : Result Unit Failed). HasCause (faults s₀) (faults s₀) r) (sym fine) (record { later = omega arith; failed = tt; passed = refl }));
}
  where
    c_is : c ≡ record sender { takes = true; sent = v.sent; got = t₁.got }
    c_is = closed ∙ ap (λ (x : Hand). let y : Hand = record x { takes = true; got = t₁.got } in y) sends

    w_is : w ≡ record sender { takes = true; sent = v.sent; got = w.got }
    w_is = g.got ∙ ap (λ (x : Hand). let y : Hand = record x { got = x.got ++ g.more } in y) c_is
        ∙ ap (λ (l : List Came). let y : Hand = record sender { takes = true; sent = v.sent; got = l } in y) (sym (ap (λ (x : Hand). x.got) g.got ∙ ap (λ (x : Hand). x.got ++ g.more) c_is))

    t_got : t₁.got ≡ f.more
    t_got = ap (λ (x : Hand). x.got) f.got ∙ ap (λ (x : Hand). x.got ++ f.more) takes

    got : w.got ≡ f.more ++ g.more
    got = ap (λ (x : Hand). x.got) g.got ∙ ap (λ (x : Hand). x.got ++ g.more) c_is ∙ ap (λ (l : List Came). l ++ g.more) t_got

    all_numbers : All (λ came. IsNumber came.session) (f.more ++ g.more)
    all_numbers = All-append (λ (came : Came). IsNumber came.session) f.more g.more f.numbers g.numbers

    puts : Puts held faults s₀ o₀ s₂ o₂ (tagged sections (f.more ++ g.more))
    puts = Puts-same {held = held} {faults = faults} (sym (tagged-append sections f.more g.more)) (Puts-trans f.puts g.puts)

-- the pass of all sessions, once they have pushed
pub sends-still : (u v : Hand) → u ≡ sender → v ≡ record u { sent = v.sent } → v ≡ record sender { sent = v.sent }
sends-still u v is same = same ∙ ap (λ (x : Hand). let y : Hand = record x { sent = v.sent } in y) is

-- what a run has come to
pub came-to : {P S A E : Type 0} (is_own : P → Type 0) (shape : Shape) (known : P → Known) (held : S → Option (List ℕ)) (faults : S → ℕ) (sections : List Section) (old new : List (Session P)) (u v w : Hand) (sink sink_now : S)
    (so_far : Result Unit Failed) (r : Result A E) (res : Result Unit LiveFault) → AreNumbered 1 (sections_of old) → length old ≤ 256 → u ≡ sender → HavePlayed is_own shape known old new u v r → CameOut held faults sections v w sink sink_now so_far
    → res ≡ answer_of so_far r → CameTo is_own shape known held faults sections new sink sink_now res
came-to {P} {S} {A} {E} is_own shape known held faults sections old new u v w sink sink_now so_far r res numbered few sends played o is =
    subst (λ (x : Result Unit LiveFault). CameTo is_own shape known held faults sections new sink sink_now x) (sym is) (record {
      over = came-over is_own shape known old new v r w.got numbered few ran o.numbers o.has_all so_far;
      stopped = All-weaker (HasPlayed is_own shape known v) (HasStopped is_own shape known) (λ s h. h.stopped) new ran.played;
      lawful = All-weaker (HasPlayed is_own shape known v) (IsLawful shape) (λ s h. h.lawful) new ran.played;
      done = came-done is_own shape known old new v r w.got numbered few ran o.numbers o.has_all sections (held sink) (held sink_now) so_far o.writes;
      front = came-prefix is_own shape known old new v r w.got numbered few ran o.numbers o.has_all sections (held sink) (held sink_now) so_far o.writes;
      first = came-memory is_own shape known old new v r w.got numbered few ran o.numbers o.has_all sections (held sink) (held sink_now) so_far o.writes;
      rose = came-rose (faults sink) (faults sink_now) so_far r o.cause;
      due = came-due (faults sink) (faults sink_now) so_far r o.cause;
      later = o.cause.later;
    })
  where
    ran : HavePlayed is_own shape known old new sender v r
    ran = subst (λ (x : Hand). HavePlayed is_own shape known old new x v r) sends played

-- sessions that gave up before they began
pub gave-up-first : {P : Type 0} (sections : List Section) (new : List (Session P)) (before : Option (List ℕ)) → ComesFirst sections (logs_of new) (Appends before before)
gave-up-first sections new before = record { cames = []; first = λ n. record { more = items_of n (logs_of new); split = refl }; output = nothing before }
  where
    nothing : (start : Option (List ℕ)) → Appends start start []
    nothing None = tt
    nothing (Some xs) = sym (append-nil xs)

-- what a run comes to that ends before it begins
pub ruleset early_laws = (gave-up-first, stand-fresh)
