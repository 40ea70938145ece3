-- How messages grow, a line at a time.
use Rattle.std.specs.Prelude.{◌≡◌, ℕ, Bool, true, false, List, [], ◌∷◌, ◌++◌, Some, None, fold}
use Rattle.std.specs.List.{list_any}
use Rattle.pgn_base.specs.declared.command.Command.{Command}
use Rattle.pgn_language.specs.declared.scenario.ScriptLine.{ScriptLine}
use Rattle.pgn_language.specs.declared.scenario.Section.{Section}
use Rattle.pgn_model.specs.declared.item.Item.{Item}
use Rattle.pgn_model.specs.declared.item.Item.TheVariants.{Line}
use Rattle.pgn_model.specs.Walk.{State, start, after_item}
use Rattle.pgn_messages.specs.Messages.{answer_messages, messages, next_command}

-- a line begins
abbrev pub begins_line : Item → Bool
begins_line (Line n) = true
begins_line item = false

-- where the walk stands after items of a section
abbrev pub after : Section → List Item → State
after section items = fold after_item (start section) items

-- a line with a command adds the answer to it, and nothing else
abbrev pub QueryAnswers : Type 0
QueryAnswers = (section : Section) (items more : List Item) (n : ℕ) (command : Command) → next_command (after section items).rest ≡ Some command → list_any begins_line more ≡ false
    → messages section (items ++ Line n ∷ more) ≡ messages section items ++ answer_messages command more (after section (items ++ Line n ∷ more)).block

-- a line without one adds nothing
abbrev pub OthersAreSilent : Type 0
OthersAreSilent = (section : Section) (items more : List Item) (n : ℕ) → next_command (after section items).rest ≡ None → list_any begins_line more ≡ false
    → messages section (items ++ Line n ∷ more) ≡ messages section items

-- one line more before the last changes no message, while the last is still to come
abbrev pub LineIsPutIn : Type 0
LineIsPutIn = (section : Section) (rest : List ScriptLine) (line last : ScriptLine) (items : List Item) → section.lines ≡ rest ++ last ∷ [] → ((after section items).rest ≡ [] → ⊥)
    → messages (record section { lines = rest ++ line ∷ last ∷ [] }) items ≡ messages section items

-- where one line was taken, and another is still to come, no item behind its own begins a line
abbrev pub OneLineBegins : Type 0
OneLineBegins = (section : Section) (items more : List Item) (n : ℕ) (line last : ScriptLine) (lines : List ScriptLine) → (after section items).rest ≡ line ∷ last ∷ lines
    → (after section (items ++ Line n ∷ more)).rest ≡ last ∷ lines → list_any begins_line more ≡ false
