-- Facts along a walk over a list.
use Rattle.std.specs.Prelude.{List, [], ◌∷◌}

-- each item has P in the state before it, where `after` gives the state after an item
abbrev pub Along : {S I : Type 0} → (S → I → S) → (S → I → Type 0) → S → List I → Type 0
Along after P s [] = Unit {0}
Along after P s (item ∷ items) = P s item × Along after P (after s item) items
