-- Which traces are lawful, and which leave no read out.
use Rattle.std.specs.Prelude.{◌≡◌, ℕ, ◌≤◌, Bool, true, false, List, [], ◌∷◌, Option, IfSome, fold}
use Rattle.pgn_journal.specs.declared.tx.Tx.{Tx}
use Rattle.pgn_base.specs.declared.command.Command.TheVariants.{Listen, Begin, Start}
use Rattle.pgn_answers.specs.declared.block_state.BlockState.TheVariants.{Idle}
use Rattle.pgn_language.specs.declared.scenario.Act.{Act}
use Rattle.pgn_language.specs.declared.scenario.Act.TheVariants.{Run}
use Rattle.pgn_language.specs.declared.scenario.ScriptLine.{ScriptLine}
use Rattle.pgn_model.specs.declared.item.Item.{Item}
use Rattle.pgn_model.specs.declared.item.Item.TheVariants.{Line}
use Rattle.pgn_model.specs.declared.trace.Trace.{Trace}
use Rattle.pgn_journal.specs.Due.{is_due_to}
use Rattle.pgn_journal.specs.Near.{Near}
use Rattle.pgn_model.specs.Along.{Along}
use Rattle.pgn_model.specs.Walk.{Terms, State, Nothing, start, after_item, Allowed}

-- the state after items
abbrev pub state_after : Terms → List Item → State
state_after terms items = fold after_item (start terms.section) items

-- each item so far is allowed in the state before it
abbrev pub IsLawful : Terms → List Tx → List Item → Type 0
IsLawful terms journal items = Along after_item (Allowed terms journal) (start terms.section) items

-- the script is done, its last line has its whole answer, and this is the mark
pub record IsEnd (s : State) (last : Option ℕ) : Type 0 where
  pub answered : s.owed ≡ Nothing
  pub done : s.rest ≡ []
  pub mark : s.mark ≡ last

-- a session's trace is lawful over a journal
pub record TraceOk (terms : Terms) (trace : Trace) (journal : List Tx) : Type 0 where
  pub session : trace.session ≡ terms.section.no
  pub database : trace.db ≡ terms.section.db
  pub lawful : IsLawful terms journal trace.items
  pub ended : IsEnd (state_after terms trace.items) trace.last

-- a listener need not read up to what it was told of, as far as its database and its channels go
abbrev pub IsUpToDate : Terms → List Tx → State → Type 0
IsUpToDate terms journal s = IfSome s.mark (λ mark. Near terms.settings.format (is_due_to terms.section.db s.set) journal mark s.told)

-- the line listens, or opens a block in which a line may
abbrev pub reads_first : Act → Bool
reads_first (Run (Listen channel)) = true
reads_first (Run Begin) = true
reads_first (Run Start) = true
reads_first act = false

-- the first of the lines to come is such a one
abbrev pub next_reads_first : List ScriptLine → Bool
next_reads_first [] = false
next_reads_first (line ∷ lines) = reads_first line.act

-- a listener with this mark has read up to what it was told of
abbrev pub IsReadUp : Option ℕ → ℕ → Type 0
IsReadUp mark told = IfSome mark (λ own. told ≤ own)

-- a line that is to come may begin outside of a block: the one before it left no read out; where it listens or opens a block, a listener
-- has read up to what it was told of, so that no notification from before it is received on a channel that it adds
pub record IsFreshBetween (terms : Terms) (journal : List Tx) (s : State) : Type 0 where
  pub up_to_date : IsUpToDate terms journal s
  pub read_first : next_reads_first s.rest ≡ true → IsReadUp s.mark s.told

-- where a line begins outside of a block, it may
abbrev pub IsFreshAt : Terms → List Tx → State → Item → Type 0
IsFreshAt terms journal s (Line line) = s.block ≡ Idle → IsFreshBetween terms journal s
IsFreshAt terms journal s item = Unit {0}

-- no read was left out before any line and at the end; after the last line no block is open any more
pub record Fresh (terms : Terms) (trace : Trace) (journal : List Tx) : Type 0 where
  pub between_lines : Along after_item (IsFreshAt terms journal) (start terms.section) trace.items
  pub at_end : IsUpToDate terms journal (state_after terms trace.items)

-- items that are lawful so far, and the state that they lead to
pub record Stands (terms : Terms) (journal : List Tx) (items : List Item) (s : State) : Type 0 where
  pub lawful : IsLawful terms journal items
  pub state : state_after terms items ≡ s
