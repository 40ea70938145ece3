-- How far a walk has come.
use Rattle.std.specs.Prelude.{◌≡◌, ℕ, ◌+◌, ◌≤◌, ◌⊎◌, Bool, true, false, List, [], ◌∷◌, ◌++◌, length, Option, IfSome, MatchOption}
use Rattle.pgn_journal.specs.Journal.{next_xid, xids_of}
use Rattle.pgn_model.specs.Trace.{IsEnd, IsUpToDate}
use Rattle.pgn_journal.specs.declared.tx.Tx.{Tx}
use Rattle.pgn_language.specs.declared.scenario.ScriptLine.{ScriptLine}
use Rattle.pgn_language.specs.declared.scenario.Section.{Section}
use Rattle.pgn_model.specs.declared.item.Item.{Item}
use Rattle.pgn_model.specs.declared.trace.Trace.{Trace}
use Rattle.pgn_model.specs.Walk.{Terms, State, Allowed, after_item, start}
use Rattle.pgn_model.specs.Legal.{finished_xids}
use Rattle.pgn_model.specs.Text.{item_lines}
use Rattle.pgn_reading.specs.Completed.{walked, with_owed}
use Rattle.pgn_reading.specs.Form.{IsReadTrace}
use Rattle.pgn_reading.specs.Blame.{BlamesTrace, Comes, IsAtRest, IsBorneOut, IsNextOwn, last_line}
use Rattle.pgn_reading.specs.BlameLaws.{AreSpotless}
use Rattle.pgn_reading.specs.WholeLaws.{IsWalked}
use Rattle.pgn_walk.specs.declared.basis.Basis.{Basis}
use Rattle.pgn_walk.specs.declared.standing.Standing.{Standing}
use Rattle.pgn_check.specs.declared.walker.Walker.{Walker}
use Rattle.pgn_walk.specs.Basis.{Tells, journal_of, terms_of}
use Rattle.pgn_walk.specs.Standing.{Holds}

-- an item is allowed, the session's next, and borne out; then the session stands behind it. Otherwise it is told which of the three it is not
abbrev pub IsTaken : Terms → List Tx → List Section → List Trace → List Item → Item → State → Bool → Type 0
IsTaken terms journal sections traces before item s true = Allowed terms journal s (with_owed s.owed item) × IsNextOwn terms.section journal before item × IsBorneOut terms.settings sections journal traces s item
IsTaken terms journal sections traces before item s false =
    (Allowed terms journal s (with_owed s.owed item) → ⊥) ⊎ (IsNextOwn terms.section journal before item → ⊥) ⊎ (IsBorneOut terms.settings sections journal traces s item → ⊥)

pub record IsJudged (terms : Terms) (journal : List Tx) (sections : List Section) (traces : List Trace) (before : List Item) (old : Standing) (item : Item) (taken : Bool) (new : Standing) : Type 0 where
  pub judged : (s : State) → Holds terms.section journal old s → IsTaken terms journal sections traces before item s taken
  pub moved : (s : State) → Holds terms.section journal old s → taken ≡ true → Holds terms.section journal new (after_item s (with_owed s.owed item))

-- the walk has come past these items, none of which is to blame, and the session stands there
pub record HasCome (basis : Basis) (sections : List Section) (traces : List Trace) (before : List Item) (at : Standing) : Type 0 where
  pub comes : Comes (terms_of basis) (journal_of basis) before (walked (start basis.section.now) before)
  pub holds : Holds basis.section.now (journal_of basis) at (walked (start basis.section.now) before)
  pub spotless : AreSpotless (terms_of basis) (journal_of basis) sections traces before

-- what is counted goes on by an item
pub record CountsOn (old : Walker) (item : Item) (new : Walker) : Type 0 where
  pub line : (lines : List ScriptLine) → new.line ≡ old.line + length (item_lines lines item)
  pub own : (before : List Item) → old.own ≡ length (finished_xids before) → new.own ≡ length (finished_xids (before ++ item ∷ []))
  pub few : new.own ≤ new.line

-- the walk has come to an item of a trace
pub record IsAround (basis : Basis) (sections : List Section) (traces : List Trace) (head : ℕ) (trace : Trace) (before : List Item) (item : Item) (after : List Item) (walker : Walker) : Type 0 where
  pub tells : Tells basis sections traces
  pub read : IsReadTrace basis.section.now trace
  pub split : trace.items ≡ before ++ item ∷ after
  pub come : HasCome basis sections traces before walker.at
  pub line : walker.line ≡ last_line head basis.section.now before
  pub own : walker.own ≡ length (finished_xids before)

-- the walk has come past all items of a trace
pub record IsAtEnd (basis : Basis) (sections : List Section) (traces : List Trace) (head : ℕ) (trace : Trace) (walker : Walker) : Type 0 where
  pub come : HasCome basis sections traces trace.items walker.at
  pub line : walker.line ≡ last_line head basis.section.now trace.items

-- a line of a section is to blame, and none before it
pub record IsLeastOf (terms : Terms) (journal : List Tx) (sections : List Section) (traces : List Trace) (head : ℕ) (trace : Trace) (n : ℕ) : Type 0 where
  pub blamed : BlamesTrace terms journal sections traces head trace n
  pub least : (m : ℕ) → BlamesTrace terms journal sections traces head trace m → n ≤ m

-- this is the first line of a section that is to blame, or none is
abbrev pub IsFirstIn : Basis → List Section → List Trace → ℕ → Trace → Option ℕ → Type 0
IsFirstIn basis sections traces head trace blamed =
    MatchOption blamed (IsWalked (terms_of basis) (journal_of basis) sections traces trace) (IsLeastOf (terms_of basis) (journal_of basis) sections traces head trace)

-- so it is where a trace was read, whatever the sections and the traces of whose evidence it is judged by
abbrev pub IsFirstOf : Basis → ℕ → Trace → Option ℕ → Type 0
IsFirstOf basis head trace blamed =
    (sections : List Section) (traces : List Trace) → Tells basis sections traces → IsReadTrace basis.section.now trace → IsFirstIn basis sections traces head trace blamed

-- before an item: where the walk has come to it, this is the first line that is to blame, or the walk comes past it
abbrev pub IsFirstOrPast : Basis → Walker → Item → Standing → Option ℕ → Type 0
IsFirstOrPast basis old item at blamed =
    (sections : List Section) (traces : List Trace) (head : ℕ) (trace : Trace) (before after : List Item) → IsAround basis sections traces head trace before item after old
    → MatchOption blamed (HasCome basis sections traces (before ++ item ∷ []) at) (IsLeastOf (terms_of basis) (journal_of basis) sections traces head trace)

-- no read was left out at the end, where the session is at rest; or it is at rest, and one was
abbrev pub IsFreshLast : Bool → Type 0 → Type 0 → Type 0
IsFreshLast true rests fresh = rests → fresh
IsFreshLast false rests fresh = rests × (fresh → ⊥)

abbrev pub AsksLast : Terms → List Tx → Standing → Bool → Type 0
AsksLast terms journal at answer = (s : State) → Holds terms.section journal at s → IsFreshLast answer (IsAtRest s) (IsUpToDate terms journal s)

-- nothing is missing at the end, where so many transactions were shown
pub record IsMissingNone (basis : Basis) (own : ℕ) (last : Option ℕ) (s : State) : Type 0 where
  pub ended : IsEnd s last
  pub all_own : length (xids_of basis.section.now.no (journal_of basis)) ≤ own
  pub read_all : IfSome last (λ mark. mark ≡ next_xid (journal_of basis))
