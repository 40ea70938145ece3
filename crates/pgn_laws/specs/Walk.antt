-- Laws of lawful traces.
use Rattle.std.specs.Prelude.{List, [], ◌∷◌, ◌++◌}
use Rattle.pgn_journal.specs.declared.tx.Tx.{Tx}
use Rattle.pgn_model.specs.declared.item.Item.{Item}
use Rattle.pgn_model.specs.Walk.{Terms, State, after_item, Allowed}
use Rattle.pgn_model.specs.Trace.{IsLawful, Stands}

-- one more item at the end is one more fact
abbrev pub LawfulPushes : Type 0
LawfulPushes = (terms : Terms) (journal : List Tx) (items : List Item) (s : State) (item : Item)
    → Stands terms journal items s → Allowed terms journal s item → Stands terms journal (items ++ item ∷ []) (after_item s item)

-- a prefix of a lawful list of items is lawful
abbrev pub LawfulPrefix : Type 0
LawfulPrefix = (terms : Terms) (journal : List Tx) (prefix rest : List Item) → IsLawful terms journal (prefix ++ rest) → IsLawful terms journal prefix

-- what is lawful over a journal is lawful over a longer one
abbrev pub LawfulGrows : Type 0
LawfulGrows = (terms : Terms) (journal more : List Tx) (items : List Item) (s : State)
    → Stands terms journal items s → Stands terms (journal ++ more) items s
