-- Laws of what items show by themselves: it is what the walk collects.
use Rattle.std.specs.Prelude.{◌≡◌, ◌↔◌, ℕ, List, ◌++◌, fold, flat_map, None, All, Contains}
use Rattle.pgn_journal.specs.declared.tx.Tx.{Tx}
use Rattle.pgn_language.specs.declared.scenario.Section.{Section}
use Rattle.pgn_model.specs.declared.item.Item.{Item}
use Rattle.pgn_model.specs.Along.{Along}
use Rattle.pgn_model.specs.Walk.{Terms, State, after_item}
use Rattle.pgn_model.specs.Trace.{IsLawful, state_after}
use Rattle.pgn_reading.specs.Completed.{completed}
use Rattle.pgn_reading.specs.Shown.{marks_shown, named_shown, raised_from, found_shown}

-- the marks that the walk has had are those that the items show
abbrev pub MarksAreShown : Type 0
MarksAreShown = (s : State) (items : List Item) → (fold after_item s items).marks ≡ s.marks ++ flat_map marks_shown items

-- the holders that it has met are those that they name
abbrev pub NamedAreShown : Type 0
NamedAreShown = (s : State) (items : List Item) → (fold after_item s items).named ≡ s.named ++ flat_map named_shown items

-- the flags that lawful items raise are those of the script lines in whose items they are raised
abbrev pub RaisedAreShown : Type 0
RaisedAreShown = (terms : Terms) (journal : List Tx) (items : List Item) → IsLawful terms journal items → (state_after terms items).raised ≡ raised_from None terms.section.lines items

-- the flags that the walk has found are among these exactly where those that were found before are, and those that the items find
abbrev pub FoundAreShown : Type 0
FoundAreShown = (pairs : List (ℕ × ℕ)) (s : State) (items : List Item)
    → All (Contains pairs) (fold after_item s items).found ↔ (All (Contains pairs) s.found × Along after_item (λ t item. All (Contains pairs) (found_shown t.owed item)) s items)

-- the marks of items that were read are those that the completed items show
abbrev pub MarksAreRead : Type 0
MarksAreRead = (s : State) (items : List Item) → flat_map marks_shown (completed s items) ≡ flat_map marks_shown items

-- as are the holders
abbrev pub NamedAreRead : Type 0
NamedAreRead = (s : State) (items : List Item) → flat_map named_shown (completed s items) ≡ flat_map named_shown items

-- and the flags that they raise
abbrev pub RaisedAreRead : Type 0
RaisedAreRead = (section : Section) (s : State) (items : List Item) → raised_from None section.lines (completed s items) ≡ raised_from None section.lines items
