-- Laws of a trace as the journal grows: what holds of it over a journal holds over a longer one.
use Rattle.std.specs.Prelude.{ℕ, ◌≤◌, List, ◌++◌, IfSome, All}
use Rattle.pgn_journal.specs.declared.tx.Tx.{Tx}
use Rattle.pgn_model.specs.declared.item.Item.{Item}
use Rattle.pgn_model.specs.declared.trace.Trace.{Trace}
use Rattle.pgn_journal.specs.Journal.{next_xid}
use Rattle.pgn_model.specs.Along.{Along}
use Rattle.pgn_model.specs.Walk.{Settings, Terms, State, start, after_item}
use Rattle.pgn_model.specs.Trace.{state_after, IsLawful, TraceOk, IsUpToDate, IsFreshAt, Fresh, Stands}
use Rattle.pgn_model.specs.Legal.{IsShownWithin, IsFullThere}

-- what the walk carries is at most n: what the session was told, the mark, and each mark so far
pub record IsStateWithin (n : ℕ) (s : State) : Type 0 where
  pub told : s.told ≤ n
  pub mark : IfSome s.mark (λ mark. mark ≤ n)
  pub marks : All (λ mark. mark ≤ n) s.marks

-- numbers that are shown within m are within each greater number
abbrev pub ShownGrows : Type 0
ShownGrows = (m n : ℕ) (items : List Item) → m ≤ n → All (IsShownWithin m) items → All (IsShownWithin n) items

-- where the journal grows, so does the bound
abbrev pub ShownOver : Type 0
ShownOver = (journal more : List Tx) (items : List Item) → All (IsShownWithin (next_xid journal)) items → All (IsShownWithin (next_xid (journal ++ more))) items

-- a queue that was full stays so over a longer journal
abbrev pub FullGrows : Type 0
FullGrows = (settings : Settings) (journal more : List Tx) (items : List Item) → All (IsFullThere settings journal) items → All (IsFullThere settings (journal ++ more)) items

-- a lawful trace whose numbers are within the journal tells the session nothing past it
abbrev pub ToldWithin : Type 0
ToldWithin = (terms : Terms) (journal : List Tx) (items : List Item)
    → IsLawful terms journal items → All (IsShownWithin (next_xid journal)) items → (state_after terms items).told ≤ next_xid journal

-- no mark of a lawful trace is past the journal
abbrev pub MarksWithin : Type 0
MarksWithin = (terms : Terms) (journal : List Tx) (items : List Item) → IsLawful terms journal items → All (λ mark. mark ≤ next_xid journal) (state_after terms items).marks

-- nor is the mark at its end
abbrev pub MarkWithin : Type 0
MarkWithin = (terms : Terms) (journal : List Tx) (items : List Item) → IsLawful terms journal items → IfSome (state_after terms items).mark (λ mark. mark ≤ next_xid journal)

-- the three together, of a state that items lead to
abbrev pub StateWithin : Type 0
StateWithin = (terms : Terms) (journal : List Tx) (items : List Item) (s : State)
    → Stands terms journal items s → All (IsShownWithin (next_xid journal)) items → IsStateWithin (next_xid journal) s

-- a lawful trace shows numbers within the journal alone, if each full queue that it shows was full and each flag was found with a
-- number within the journal
abbrev pub LawfulShows : Type 0
LawfulShows = (terms : Terms) (journal : List Tx) (items : List Item) (s : State)
    → Stands terms journal items s → All (IsFullThere terms.settings journal) items → All (λ pair. pair.1 ≤ next_xid journal) s.found
    → All (IsShownWithin (next_xid journal)) items

-- a state that is up to date over a journal that has all that it was told of is so over a longer one
abbrev pub UpToDateGrows : Type 0
UpToDateGrows = (terms : Terms) (journal more : List Tx) (s : State) → s.told ≤ next_xid journal → IsUpToDate terms journal s → IsUpToDate terms (journal ++ more) s

-- items that left no read out so far left none out over a longer journal
abbrev pub FreshSoFarGrows : Type 0
FreshSoFarGrows = (terms : Terms) (journal more : List Tx) (items : List Item) → IsLawful terms journal items → All (IsShownWithin (next_xid journal)) items
    → Along after_item (IsFreshAt terms journal) (start terms.section) items → Along after_item (IsFreshAt terms (journal ++ more)) (start terms.section) items

-- a lawful trace is lawful over a longer journal
abbrev pub TraceOkGrows : Type 0
TraceOkGrows = (terms : Terms) (trace : Trace) (journal more : List Tx) → TraceOk terms trace journal → TraceOk terms trace (journal ++ more)

-- a lawful trace that left no read out left none out over a longer journal
abbrev pub FreshGrows : Type 0
FreshGrows = (terms : Terms) (trace : Trace) (journal more : List Tx)
    → TraceOk terms trace journal → All (IsShownWithin (next_xid journal)) trace.items → Fresh terms trace journal → Fresh terms trace (journal ++ more)
