-- How messages grow, a line at a time.
use Rattle.std.proofs.Common.{◌≡◌, ℕ, Bool, true, false, List, [], ◌∷◌, ◌++◌, Option, Some, None, sym, ap, ◌∙◌, refl, append_assoc, append-nil}
use Rattle.std.specs.Prelude.{fold, flat_map, ◌||◌}
use Rattle.std.specs.List.{list_any}
use Rattle.std.proofs.lemmas.List.Sums.{fold-append}
use Rattle.pgn_base.specs.declared.command.Command.{Command}
use Rattle.pgn_model.specs.declared.item.Item.{Item}
use Rattle.pgn_model.specs.declared.item.Item.TheVariants.{Line, Enlist, Publish, QueueFull, Leave, Reply, Refuse, Channels, Used, Raise, Found, TimedOut, Read}
use Rattle.pgn_model.specs.Walk.{State, start, after_item}
use Rattle.pgn_messages.specs.Server.{ready}
use Rattle.pgn_messages.specs.Messages.{first_message, item_messages, line_begins, line_ends, within_line, step_messages, current_command, messages, messages_from, next_command}
use Rattle.pgn_messages.specs.Laws.{QueryAnswers, OthersAreSilent, after, begins_line}

-- the messages up to a line, and those from it on
from-line : (s : State) (current : Option Command) (items more : List Item) (n : ℕ)
    → messages_from s current (items ++ Line n ∷ more) ≡ messages_from s current items ++ messages_from (fold after_item s items) None (Line n ∷ more)
from-line s current [] more n = append_assoc (line_ends current s.block) (line_begins (next_command s.rest)) (messages_from (after_item s (Line n)) (next_command s.rest) more)
from-line s current (item ∷ items) more n =
    ap (λ (t : List ℕ). step_messages s current item ++ t) (from-line (after_item s item) (current_command s current item) items more n)
    ∙ sym (append_assoc (step_messages s current item) (messages_from (after_item s item) (current_command s current item) items) (messages_from (fold after_item s (item ∷ items)) None (Line n ∷ more)))

-- an item that begins no line stands within one
pub within : (s : State) (current : Option Command) (item : Item) → begins_line item ≡ false → (step_messages s current item ≡ within_line current item) × (current_command s current item ≡ current)
within s current (Line n) h = absurd (cc)
within s current (Enlist base point) h = (refl, refl)
within s current (Publish xid notes) h = (refl, refl)
within s current (QueueFull full notes) h = (refl, refl)
within s current Leave h = (refl, refl)
within s current (Reply tag warning) h = (refl, refl)
within s current (Refuse refusal) h = (refl, refl)
within s current (Channels names) h = (refl, refl)
within s current (Used usage) h = (refl, refl)
within s current (Raise value) h = (refl, refl)
within s current (Found value) h = (refl, refl)
within s current (TimedOut looks) h = (refl, refl)
within s current (Read from to got) h = (refl, refl)

-- the first of these does not hold, nor any other
pub first_false : (a b : Bool) → (a || b) ≡ false → (a ≡ false) × (b ≡ false)
first_false true b h = absurd (cc)
first_false false b h = (refl, h)

-- the items of one line that has a command
from-query : (s : State) (command : Command) (items : List Item) → list_any begins_line items ≡ false
    → messages_from s (Some command) items ≡ flat_map (item_messages command) items ++ ready (fold after_item s items).block
from-query s command [] h = refl
from-query s command (item ∷ items) h =
    let here = first_false (begins_line item) (list_any begins_line items) h in
    let parts = within s (Some command) item here.0 in
    ap (λ (t : List ℕ). t ++ messages_from (after_item s item) (current_command s (Some command) item) items) parts.0
    ∙ ap (λ (c : Option Command). item_messages command item ++ messages_from (after_item s item) c items) parts.1
    ∙ ap (λ (t : List ℕ). item_messages command item ++ t) (from-query (after_item s item) command items here.1)
    ∙ sym (append_assoc (item_messages command item) (flat_map (item_messages command) items) (ready (fold after_item s (item ∷ items)).block))

-- the items of one line that has none
from-other : (s : State) (items : List Item) → list_any begins_line items ≡ false → messages_from s None items ≡ []
from-other s [] h = refl
from-other s (item ∷ items) h =
    let here = first_false (begins_line item) (list_any begins_line items) h in
    let parts = within s None item here.0 in
    ap (λ (t : List ℕ). t ++ messages_from (after_item s item) (current_command s None item) items) parts.0
    ∙ ap (λ (c : Option Command). messages_from (after_item s item) c items) parts.1
    ∙ from-other (after_item s item) items here.1

-- a line with a command adds its answer, whole, behind the messages so far
pub query_answers : QueryAnswers
query_answers section items more n command e h =
    let s = after section items in
    let whole : fold after_item s (Line n ∷ more) ≡ after section (items ++ Line n ∷ more) = sym (fold-append after_item (start section) items (Line n ∷ more)) in
    let from : messages_from (after_item s (Line n)) (next_command s.rest) more ≡ flat_map (item_messages command) more ++ ready (after section (items ++ Line n ∷ more)).block
    = ap (λ (c : Option Command). messages_from (after_item s (Line n)) c more) e ∙ from-query (after_item s (Line n)) command more h
    ∙ ap (λ (t : State). flat_map (item_messages command) more ++ ready t.block) whole in
    let first : line_begins (next_command s.rest) ≡ first_message command = ap line_begins e in
    from-line (start section) None items more n
    ∙ ap (λ (t : List ℕ). messages section items ++ t) (ap (λ (t : List ℕ). t ++ messages_from (after_item s (Line n)) (next_command s.rest) more) first
    ∙ ap (λ (t : List ℕ). first_message command ++ t) from
    ∙ sym (append_assoc (first_message command) (flat_map (item_messages command) more) (ready (after section (items ++ Line n ∷ more)).block)))

-- a line without a command adds nothing
pub others_are_silent : OthersAreSilent
others_are_silent section items more n e h =
    let s = after section items in
    from-line (start section) None items more n
    ∙ ap (λ (t : List ℕ). messages section items ++ t) (ap (λ (c : Option Command). line_begins c ++ messages_from (after_item s (Line n)) c more) e ∙ from-other (after_item s (Line n)) more h)
    ∙ append-nil (messages section items)
