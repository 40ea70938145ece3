-- Laws of the places of what is due next.
use Rattle.std.proofs.Common.{◌≡◌, ◌⊎◌, ℕ, zero, suc, ◌+◌, ◌<◌, ◌≤◌, ◌==◌, Bool, true, false, not, ◌&&◌, ◌||◌, cond, List, [], ◌∷◌, Option, None, Some, sym, ap, ◌∙◌, refl, subst, inl, inr, arith}
use Rattle.std.specs.Prelude.{bytes_eq}
use Rattle.std.specs.Ordering.{nat_cmp}
use Rattle.std.specs.BTreeMap.{is_at}
use Rattle.std.proofs.lemmas.Bool.{cases_Bool, cases_lt, false≢true}
use Rattle.std.proofs.lemmas.Slice.Eq.{bytes_eq-Decides}
use Rattle.pgn_base.specs.Names.{has_name}
use Rattle.pgn_base.specs.declared.note.Delivery.{Delivery}
use Rattle.pgn_due.specs.Sent.{is_for, is_on}
use Rattle.pgn_due.specs.Places.{IsFirst, passes}
use Rattle.pgn_due.specs.Next.{AreNext, IsLess, IsMore, IsNext}
use Rattle.pgn_due.proofs.PlaceLaws.{found, no_first, same_first}

-- Channels.

-- two tests that pass together pass each
pub both : (a b : Bool) → (a && b) ≡ true → (a ≡ true) × (b ≡ true)
both true true h = (refl, refl)
both true false h = absurd (let no : ⊥ = cc in no)
both false b h = absurd (let no : ⊥ = cc in no)

-- two tests that pass each pass together
pub two : (a b : Bool) → a ≡ true → b ≡ true → (a && b) ≡ true
two true true p q = refl
two true false p q = absurd (let no : ⊥ = cc in no)
two false b p q = absurd (let no : ⊥ = cc in no)

either : (a b : Bool) → (a || b) ≡ true → (a ≡ true) ⊎ (b ≡ true)
either true b h = inl refl
either false b h = inr h

-- bytes that the comparison finds equal are the same
pub same_bytes : (a b : List ℕ) → bytes_eq a b ≡ true → a ≡ b
same_bytes a b h = (bytes_eq-Decides a b).0 h

-- the comparison finds the same bytes equal
pub bytes_same : (a b : List ℕ) → a ≡ b → bytes_eq a b ≡ true
bytes_same a b e = (bytes_eq-Decides a b).1 e

-- one notification is on one channel
channel_same : (db : ℕ) (c d : List ℕ) (sent : List (ℕ × Delivery)) (at : ℕ) → passes (is_on db c) sent at ≡ true → passes (is_on db d) sent at ≡ true → c ≡ d
channel_same db c d [] at p q = absurd (false≢true p)
channel_same db c d (s ∷ ss) zero p q =
    same_bytes c s.1.note.channel (both (s.0 == db) (bytes_eq c s.1.note.channel) p).1 ∙ sym (same_bytes d s.1.note.channel (both (s.0 == db) (bytes_eq d s.1.note.channel) q).1)
channel_same db c d (s ∷ ss) (suc at) p q = channel_same db c d ss at p q

-- one that goes to a channel of a set is on one of them
record IsOnOne (db : ℕ) (set : List (List ℕ)) (sent : List (ℕ × Delivery)) (at : ℕ) : Type 0 where
  pub channel : List ℕ
  pub listens : has_name set channel ≡ true
  pub on : passes (is_on db channel) sent at ≡ true

on_one : (db : ℕ) (set : List (List ℕ)) (sent : List (ℕ × Delivery)) (at : ℕ) → passes (is_for db set) sent at ≡ true → IsOnOne db set sent at
on_one db set [] at p = absurd (false≢true p)
on_one db set (s ∷ ss) zero p =
    let h = both (s.0 == db) (has_name set s.1.note.channel) p in
    record { channel = s.1.note.channel; listens = h.1; on = two (s.0 == db) (bytes_eq s.1.note.channel s.1.note.channel) h.0 (bytes_same s.1.note.channel s.1.note.channel refl) }
on_one db set (s ∷ ss) (suc at) p =
    let h = on_one db set ss at p in
    record { channel = h.channel; listens = h.listens; on = h.on }

for_one : (db : ℕ) (set : List (List ℕ)) (channel : List ℕ) (sent : List (ℕ × Delivery)) (at : ℕ) → has_name set channel ≡ true → passes (is_on db channel) sent at ≡ true → passes (is_for db set) sent at ≡ true
for_one db set channel [] at l p = absurd (false≢true p)
for_one db set channel (s ∷ ss) zero l p =
    let h = both (s.0 == db) (bytes_eq channel s.1.note.channel) p in
    two (s.0 == db) (has_name set s.1.note.channel) h.0 (ap (has_name set) (sym (same_bytes channel s.1.note.channel h.1)) ∙ l)
for_one db set channel (s ∷ ss) (suc at) l p = for_one db set channel ss at l p

module _ (db : ℕ) (set : List (List ℕ)) (sent : List (ℕ × Delivery)) where
  -- what is sent at a place that is next is for the session
  pub next_goes : (from at : ℕ) → IsNext db set sent from at → passes (is_for db set) sent at ≡ true
  next_goes from at h = for_one db set h.channel sent at h.listens h.first.1

  -- the next of the channel of one that is due stands no later
  record IsNextUpTo (from at : ℕ) : Type 0 where
    pub first : ℕ
    pub upto : first ≤ at
    pub is : IsNext db set sent from first

  next_of_one : (from at : ℕ) → from ≤ at → IsOnOne db set sent at → IsNextUpTo from at
  next_of_one from at le h =
      let f = found (is_on db h.channel) sent from at le h.on in
      record { first = f.first; upto = f.upto; is = record { channel = h.channel; listens = h.listens; first = f.is } }

  next_upto : (from at : ℕ) → from ≤ at → passes (is_for db set) sent at ≡ true → IsNextUpTo from at
  next_upto from at le p = next_of_one from at le (on_one db set sent at p)

-- Places that are put in and taken out.

-- a place is kept besides those that were, if there is one
abbrev pub Adds : Option ℕ → (ℕ → Bool) → (ℕ → Bool) → Type 0
Adds None old new = (at : ℕ) → new at ≡ old at
Adds (Some one) old new = (at : ℕ) → new at ≡ cond (is_at (nat_cmp one) at) true (old at)

-- a place is kept no more, if there is one
abbrev pub Drops : Option ℕ → (ℕ → Bool) → (ℕ → Bool) → Type 0
Drops None old new = (at : ℕ) → new at ≡ old at
Drops (Some one) old new = (at : ℕ) → new at ≡ cond (is_at (nat_cmp one) at) false (old at)

-- numbers that the comparison finds equal are the same
pub at_is : (one at : ℕ) → is_at (nat_cmp one) at ≡ true → one ≡ at
at_is one at h = grind (arith, h)

is_there : (one at : ℕ) → one ≡ at → is_at (nat_cmp one) at ≡ true
is_there one at e = grind (arith, e)

-- the place that was put in is kept
pub added_one : (one : Option ℕ) (old new : ℕ → Bool) (at : ℕ) → Adds one old new → one ≡ Some at → new at ≡ true
added_one None old new at adds e = absurd (let no : ⊥ = cc in no)
added_one (Some one) old new at adds e =
    adds at ∙ ap (λ (b : Bool). cond b true (old at)) (is_there one at (let same : one ≡ at = cc in same))

-- one that was kept still is
pub added_kept : (one : Option ℕ) (old new : ℕ → Bool) (at : ℕ) → Adds one old new → old at ≡ true → new at ≡ true
added_kept None old new at adds h = adds at ∙ h
added_kept (Some one) old new at adds h = elim (cases_Bool (is_at (nat_cmp one) at)) [
  | inl is ↦ adds at ∙ ap (λ (b : Bool). cond b true (old at)) is
  | inr off ↦ adds at ∙ ap (λ (b : Bool). cond b true (old at)) off ∙ h
]

-- and no other one is
pub added_which : (one : Option ℕ) (old new : ℕ → Bool) (at : ℕ) → Adds one old new → new at ≡ true → (old at ≡ true) ⊎ (one ≡ Some at)
added_which None old new at adds h = inl (sym (adds at) ∙ h)
added_which (Some one) old new at adds h = elim (cases_Bool (is_at (nat_cmp one) at)) [
  | inl is ↦ inr (ap (λ (n : ℕ). Some n) (at_is one at is))
  | inr off ↦ inl (sym (adds at ∙ ap (λ (b : Bool). cond b true (old at)) off) ∙ h)
]

-- what was kept and not taken out is kept
pub dropped_kept : (one : Option ℕ) (old new : ℕ → Bool) (at : ℕ) → Drops one old new → old at ≡ true → (one ≡ Some at → ⊥) → new at ≡ true
dropped_kept None old new at drops h other = drops at ∙ h
dropped_kept (Some one) old new at drops h other = elim (cases_Bool (is_at (nat_cmp one) at)) [
  | inl is ↦ absurd (other (ap (λ (n : ℕ). Some n) (at_is one at is)))
  | inr off ↦ drops at ∙ ap (λ (b : Bool). cond b false (old at)) off ∙ h
]

-- and nothing else is
pub dropped_was : (one : Option ℕ) (old new : ℕ → Bool) (at : ℕ) → Drops one old new → new at ≡ true → (old at ≡ true) × (one ≡ Some at → ⊥)
dropped_was None old new at drops h = (sym (drops at) ∙ h, λ e. let no : ⊥ = cc in no)
dropped_was (Some one) old new at drops h = elim (cases_Bool (is_at (nat_cmp one) at)) [
  | inl is ↦ absurd (false≢true (sym (drops at ∙ ap (λ (b : Bool). cond b false (old at)) is) ∙ h))
  | inr off ↦ (
    sym (drops at ∙ ap (λ (b : Bool). cond b false (old at)) off) ∙ h,
    λ e. false≢true (sym off ∙ is_there one at (let same : one ≡ at = cc in same)),
  )
]

-- the first, as it was found, is this one
is_found : (test : ℕ × Delivery → Bool) (sent : List (ℕ × Delivery)) (from at : ℕ) (one : Option ℕ) → IsFirst test sent from one → IsFirst test sent from (Some at) → one ≡ Some at
is_found test sent from at None f is = absurd (no_first test sent from at f is)
is_found test sent from at (Some one) f is = ap (λ (n : ℕ). Some n) (same_first test sent from one at f is)

found_is : (test : ℕ × Delivery → Bool) (sent : List (ℕ × Delivery)) (from at : ℕ) (one : Option ℕ) → IsFirst test sent from one → one ≡ Some at → IsFirst test sent from (Some at)
found_is test sent from at one f e = subst (λ (o : Option ℕ). IsFirst test sent from o) e f

module _ (db : ℕ) (sent : List (ℕ × Delivery)) (from : ℕ) (old new : ℕ → Bool) where
  -- a channel more
  pub more_next : (channel : List ℕ) (set more : List (List ℕ)) (one : Option ℕ) → IsFirst (is_on db channel) sent from one → Adds one old new → IsMore channel set more → AreNext db set sent from old
      → AreNext db more sent from new
  more_next channel set more one f adds is h = λ at. (
    λ on. elim (added_which one old new at adds on) [
      | inl was ↦
          let n = (h at).0 was in
          record { channel = n.channel; listens = is n.channel ∙ ap (λ (b : Bool). b || bytes_eq n.channel channel) n.listens; first = n.first }
      | inr e ↦ record {
        channel = channel;
        listens = is channel ∙ grind (arith, bytes_same channel channel refl);
        first = found_is (is_on db channel) sent from at one f e;
      }
    ],
    λ n. elim (either (has_name set n.channel) (bytes_eq n.channel channel) (sym (is n.channel) ∙ n.listens)) [
      | inl listened ↦ added_kept one old new at adds ((h at).1 (record { channel = n.channel; listens = listened; first = n.first }))
      | inr same ↦ added_one one old new at adds
          (is_found (is_on db channel) sent from at one f (subst (λ (c : List ℕ). IsFirst (is_on db c) sent from (Some at)) (same_bytes n.channel channel same) n.first))
    ],
  )

  -- a channel less
  pub less_next : (channel : List ℕ) (set less : List (List ℕ)) (one : Option ℕ) → IsFirst (is_on db channel) sent from one → Drops one old new → IsLess channel set less → AreNext db set sent from old
      → AreNext db less sent from new
  less_next channel set less one f drops is h = λ at. (
    λ on.
        let was = dropped_was one old new at drops on in
        let n = (h at).0 was.0 in
        let apart : bytes_eq n.channel channel ≡ false = elim (cases_Bool (bytes_eq n.channel channel)) [
          | inl same ↦ absurd (was.1 (is_found (is_on db channel) sent from at one f (subst (λ (c : List ℕ). IsFirst (is_on db c) sent from (Some at)) (same_bytes n.channel channel same) n.first)))
          | inr off ↦ off
        ] in
        record { channel = n.channel; listens = is n.channel ∙ grind (arith, n.listens, apart); first = n.first },
    λ n.
        let h2 = both (has_name set n.channel) (not (bytes_eq n.channel channel)) (sym (is n.channel) ∙ n.listens) in
        dropped_kept one old new at drops ((h at).1 (record { channel = n.channel; listens = h2.0; first = n.first }))
        (λ e.
        let here = found_is (is_on db channel) sent from at one f e in
        let same : n.channel ≡ channel = channel_same db n.channel channel sent at n.first.1 here.1 in
        let on : bytes_eq n.channel channel ≡ true = bytes_same n.channel channel same in
        false≢true (sym (grind (arith, on)) ∙ h2.1)),
  )

  -- no channel
  pub none_next : ((at : ℕ) → new at ≡ false) → AreNext db [] sent from new
  none_next off = λ at. (λ on. absurd (false≢true (sym (off at) ∙ on)), λ n. absurd (false≢true n.listens))

-- Places that are passed.

module _ (db : ℕ) (set : List (List ℕ)) (sent : List (ℕ × Delivery)) (from : ℕ) (old : ℕ → Bool) (h : AreNext db set sent from old) where
  -- nothing is due before the first of the places
  pub none_before : (end : ℕ) → ((at : ℕ) → old at ≡ true → end ≤ at) → (q : ℕ) → from ≤ q → q < end → passes (is_for db set) sent q ≡ false
  none_before end past q ge lt = elim (cases_Bool (passes (is_for db set) sent q)) [
    | inl on ↦
        let n = next_upto db set sent from q ge on in
        absurd (let no : ⊥ = omega (arith, n.upto, lt, past n.first ((h n.first).1 n.is)) in no)
    | inr off ↦ off
  ]

  -- a mark goes on to a place before which nothing is due
  pub past_next : (end : ℕ) → from ≤ end → ((at : ℕ) → old at ≡ true → end ≤ at) → AreNext db set sent end old
  past_next end le past = λ at. (
    λ on.
        let n = (h at).0 on in
        record { channel = n.channel; listens = n.listens; first = (past at on, n.first.1, λ q ge lt. n.first.2 q (omega (arith, ge, le)) lt) },
    λ n. (h at).1 (record {
      channel = n.channel;
      listens = n.listens;
      first = (
        omega (arith, le, n.first.0),
        n.first.1,
        λ q ge lt. elim (cases_lt q end) [
          | inl before ↦ elim (cases_Bool (passes (is_on db n.channel) sent q)) [
            | inl on ↦ absurd (false≢true (sym (none_before end past q ge before) ∙ for_one db set n.channel sent q n.listens on))
            | inr off ↦ off
          ]
          | inr behind ↦ n.first.2 q behind lt
        ],
      );
    }),
  )

  -- the first place is passed, and the next of its channel comes in
  pub passed_next : (channel : List ℕ) (place : ℕ) (one : Option ℕ) (mid new : ℕ → Bool) → old place ≡ true → ((at : ℕ) → old at ≡ true → place ≤ at) → passes (is_on db channel) sent place ≡ true
      → IsFirst (is_on db channel) sent (place + 1) one → Drops (Some place) old mid → Adds one mid new → AreNext db set sent (place + 1) new
  passed_next channel place one mid new here least on_it f drops adds =
      let n0 = (h place).0 here in
      let its : n0.channel ≡ channel = channel_same db n0.channel channel sent place n0.first.1 on_it in
      λ at. (
        λ on. elim (added_which one mid new at adds on) [
          | inl kept ↦
              let was = dropped_was (Some place) old mid at drops kept in
              let n = (h at).0 was.0 in
              let more : place + 1 ≤ at = elim (cases_lt place at) [
                | inl lt ↦ omega (arith, lt)
                | inr ge ↦ absurd (was.1 (ap (λ (i : ℕ). Some i) (let e : place ≡ at = omega (arith, ge, least at was.0) in e)))
              ] in
              record { channel = n.channel; listens = n.listens; first = (more, n.first.1, λ q ge lt. n.first.2 q (omega (arith, ge, n0.first.0)) lt) }
          | inr e ↦ record { channel = channel; listens = ap (has_name set) (sym its) ∙ n0.listens; first = found_is (is_on db channel) sent (place + 1) at one f e }
        ],
        λ n. elim (cases_Bool (bytes_eq n.channel channel)) [
          | inl same ↦ added_one one mid new at adds
              (is_found (is_on db channel) sent (place + 1) at one f (subst (λ (c : List ℕ). IsFirst (is_on db c) sent (place + 1) (Some at)) (same_bytes n.channel channel same) n.first))
          | inr apart ↦
              let before : (q : ℕ) → from ≤ q → q < place + 1 → passes (is_on db n.channel) sent q ≡ false = λ q ge lt. elim (cases_Bool (passes (is_on db n.channel) sent q)) [
                | inl on ↦
                    let g = found (is_on db n.channel) sent from q ge on in
                    let isnext : IsNext db set sent from g.first = record { channel = n.channel; listens = n.listens; first = g.is } in
                    let e : g.first ≡ place = omega (arith, g.upto, lt, least g.first ((h g.first).1 isnext)) in
                    let same : n.channel ≡ channel = channel_same db n.channel channel sent place (ap (passes (is_on db n.channel) sent) (sym e) ∙ g.is.1) on_it in
                    absurd (false≢true (sym apart ∙ bytes_same n.channel channel same))
                | inr off ↦ off
              ] in
              let was : old at ≡ true = (h at).1 (record {
                channel = n.channel;
                listens = n.listens;
                first = (
                  omega (arith, n.first.0, n0.first.0),
                  n.first.1,
                  λ q ge lt. elim (cases_lt q (place + 1)) [
                    | inl low ↦ before q ge low
                    | inr high ↦ n.first.2 q high lt
                  ],
                );
              }) in
              let kept : mid at ≡ true = dropped_kept (Some place) old mid at drops was (λ e. let same : place ≡ at = cc in let no : ⊥ = omega (arith, same, n.first.0) in no) in
              added_kept one mid new at adds kept
        ],
      )
