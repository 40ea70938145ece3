-- What is due next to a session that listens.
use Rattle.std.specs.Prelude.{◌≡◌, ◌↔◌, ℕ, ◌≤◌, Bool, true, false, not, ◌&&◌, ◌||◌, List, [], ◌∷◌, ◌++◌, take, drop, map, filter, Option, IfSome, Some, bytes_eq}
use Rattle.std.specs.BTreeSet.{contains}
use Rattle.std.specs.Ordering.{nat_cmp}
use Rattle.pgn_base.specs.Names.{has_name}
use Rattle.pgn_base.specs.declared.note.Delivery.{Delivery}
use Rattle.pgn_journal.specs.declared.tx.Tx.{Tx}
use Rattle.pgn_due.specs.Sent.{is_for, is_on, sent_before, sent_in}
use Rattle.pgn_due.specs.Places.{IsFirst}
use Rattle.pgn_due.specs.declared.watch.Watch.{Watch}

-- in this place stands the first notification on some channel of the set, from a given place on
pub record IsNext (db : ℕ) (set : List (List ℕ)) (sent : List (ℕ × Delivery)) (from at : ℕ) : Type 0 where
  pub channel : List ℕ
  pub listens : has_name set channel ≡ true
  pub first : IsFirst (is_on db channel) sent from (Some at)

-- the places that pass this test are those of the first notification on each channel
abbrev pub AreNext : ℕ → List (List ℕ) → List (ℕ × Delivery) → ℕ → (ℕ → Bool) → Type 0
AreNext db set sent from is = (at : ℕ) → (is at ≡ true) ↔ IsNext db set sent from at

-- a watch over a journal for a session in this database that listens on these channels and has read up to this mark. Of a session without
-- a mark, which is no listener, nothing is said of the places
pub record IsWatch (journal : List Tx) (db : ℕ) (set : List (List ℕ)) (mark : Option ℕ) (watch : Watch) : Type 0 where
  pub over : watch.feed.now.sends.journal.now ≡ journal
  pub within : watch.db ≡ db
  pub next : IfSome mark (λ from. AreNext db set (sent_in journal) (sent_before journal from) (contains nat_cmp watch.next))

-- one watch goes on as another: the journal and the database are the same; and for each set whose next notifications, from a given place
-- on, are those that the first watch kept, P holds of what was sent and of the set
pub record GoesOn (old : Watch) (from : ℕ) (new : Watch) (P : List (ℕ × Delivery) → List (List ℕ) → Type 0) : Type 0 where
  pub feed : new.feed ≡ old.feed
  pub db : new.db ≡ old.db
  pub next : (set : List (List ℕ)) → AreNext old.db set (sent_in old.feed.now.sends.journal.now) from (contains nat_cmp old.next) → P (sent_in old.feed.now.sends.journal.now) set

-- one set has a channel more than another
abbrev pub IsMore : List ℕ → List (List ℕ) → List (List ℕ) → Type 0
IsMore channel set more = (other : List ℕ) → has_name more other ≡ (has_name set other || bytes_eq other channel)

-- one set has a channel less than another
abbrev pub IsLess : List ℕ → List (List ℕ) → List (List ℕ) → Type 0
IsLess channel set less = (other : List ℕ) → has_name less other ≡ (has_name set other && not (bytes_eq other channel))

-- the channels change by a step, while the given place stays
abbrev pub Changes : ℕ → Watch → (List (List ℕ) → List (List ℕ) → Type 0) → Watch → Type 0
Changes from old step new = GoesOn old from new (λ sent set. (other : List (List ℕ)) → step set other → AreNext old.db other sent from (contains nat_cmp new.next))

-- what is due from one place up to another
abbrev pub due_between : ℕ → List (List ℕ) → List (ℕ × Delivery) → ℕ → ℕ → List Delivery
due_between db set sent from end = map (λ one. one.1) (filter (is_for db set) (drop from (take end sent)))

-- these deliveries come first of what is due up to the end, and the places that pass the test are those of what comes behind them
pub record HasPassed (db : ℕ) (set : List (List ℕ)) (sent : List (ℕ × Delivery)) (from end : ℕ) (got : List Delivery) (is : ℕ → Bool) : Type 0 where
  pub place : ℕ
  pub within : place ≤ end
  pub due : due_between db set sent from end ≡ got ++ due_between db set sent place end
  pub next : AreNext db set sent place is

-- a delivery comes first of what is due up to the end; or it does not
abbrev pub IsFirstDue : ℕ → List (List ℕ) → List (ℕ × Delivery) → ℕ → ℕ → Delivery → (ℕ → Bool) → Bool → Type 0
IsFirstDue db set sent from end delivery is true = HasPassed db set sent from end (delivery ∷ []) is
IsFirstDue db set sent from end delivery is false = (others : List Delivery) → due_between db set sent from end ≡ delivery ∷ others → ⊥

-- a watch takes a delivery that comes first of what is due up to the end, or says that it does not
abbrev pub Passes : ℕ → Watch → Delivery → Bool → Watch → Type 0
Passes end old delivery passed new = (from : ℕ) → from ≤ end → GoesOn old from new (λ sent set. IsFirstDue old.db set sent from end delivery (contains nat_cmp new.next) passed)
