-- A walk over turns is the walk over the trace that they make.
use Rattle.std.proofs.Common.{◌≡◌, ◌+◌, Bool, false, List, [], ◌∷◌, ◌++◌, All, ap, ◌∙◌, refl, append_assoc}
use Rattle.std.specs.Prelude.{fold, flat_map, ◌||◌}
use Rattle.std.specs.List.{list_any}
use Rattle.std.proofs.lemmas.List.Sums.{fold-append}
use Rattle.std.proofs.lemmas.List.Elements.{All-head, All-tail}
use Rattle.std.proofs.lemmas.Grind.{flat_map-append}
use Rattle.pgn_base.specs.declared.command.Command.{Command}
use Rattle.pgn_base.specs.declared.command.Command.TheVariants.{Bad, Rollback, UnlistenAll}
use Rattle.pgn_language.specs.declared.scenario.Act.TheVariants.{Run}
use Rattle.pgn_language.specs.declared.scenario.ScriptLine.{ScriptLine}
use Rattle.pgn_model.specs.declared.item.Item.{Item}
use Rattle.pgn_model.specs.declared.item.Item.TheVariants.{Line, Read}
use Rattle.pgn_model.specs.Walk.{State, after_item, at_act}
use Rattle.pgn_messages.specs.Laws.{begins_line}
use Rattle.pgn_messages.proofs.GrowLaws.{first_false}
use Rattle.pgn_messages.proofs.RestLaws.{with_rest, act-rest, after-rest}
use Rattle.pgn_messages.specs.Asks.{discard_line, lines_for, rollback_line, unlisten_line}
use Rattle.pgn_messages.specs.Turns.{Turn, Answers, Hears, Leaves, Settles, Discards, IsPlain, IsRead, after_line, after_turn, asked_in, asks_of, idle_state, items_in, items_of, lines_of}
use Rattle.pgn_messages.specs.TurnLaws.{TurnsWalk}

-- items that begin no line leave those to come as they are
pub rest-along : (rest : List ScriptLine) (s : State) (items : List Item) → list_any begins_line items ≡ false → fold after_item (with_rest rest s) items ≡ with_rest rest (fold after_item s items)
rest-along rest s [] h = refl
rest-along rest s (item ∷ items) h =
    let parts = first_false (begins_line item) (list_any begins_line items) h in
    ap (λ (t : State). fold after_item t items) (after-rest rest s item parts.0) ∙ rest-along rest (after_item s item) items parts.1

-- so does a line with a command, which was the first of them
line-along : (rest : List ScriptLine) (s : State) (command : Command) (more : List Item) → list_any begins_line more ≡ false
    → fold after_item (at_act (with_rest rest s) (Run command)) more ≡ with_rest rest (after_line s command more)
line-along rest s command more h = ap (λ (t : State). fold after_item t more) (act-rest rest s (Run command)) ∙ rest-along rest (at_act s (Run command)) more h

-- a read begins no line
read-silent : (item : Item) → IsRead item → begins_line item ≡ false
read-silent (Read from to got) h = refl
read-silent item h = absurd h

reads-silent : (reads : List Item) → All IsRead reads → list_any begins_line reads ≡ false
reads-silent [] h = refl
reads-silent (item ∷ reads) h =
    ap (λ (b : Bool). b || list_any begins_line reads) (read-silent item (All-head IsRead item reads h)) ∙ reads-silent reads (All-tail IsRead item reads h)

-- a turn takes its own lines
turn-along : (rest : List ScriptLine) (s : State) (turn : Turn) → IsPlain turn
    → fold after_item (with_rest (flat_map lines_for (asked_in turn) ++ rest) s) (items_in turn) ≡ with_rest rest (after_turn s turn)
turn-along rest s (Answers query more) h = line-along rest s query.command more h
turn-along rest s (Hears reads) h = rest-along rest s reads (reads-silent reads h)
turn-along rest s (Leaves parting line rolled unlistened) h =
    let next : List ScriptLine = unlisten_line (line + 1) ∷ rest in
    fold-append after_item (with_rest (rollback_line line ∷ next) s) (Line line ∷ rolled) (Line (line + 1) ∷ unlistened)
    ∙ ap (λ (t : State). fold after_item t (Line (line + 1) ∷ unlistened)) (line-along next s Rollback rolled h.0)
    ∙ line-along rest (after_line s Rollback rolled) UnlistenAll unlistened h.1
turn-along rest s (Settles settled) h = refl
turn-along rest s (Discards line refused unlistened) h =
    let next : List ScriptLine = unlisten_line (line + 1) ∷ rest in
    fold-append after_item (with_rest (discard_line line ∷ next) s) (Line line ∷ refused) (Line (line + 1) ∷ unlistened)
    ∙ ap (λ (t : State). fold after_item t (Line (line + 1) ∷ unlistened)) (line-along next s (Bad 0) refused h.0)
    ∙ line-along rest (after_line s (Bad 0) refused) UnlistenAll unlistened h.1

walk-from : (s : State) (turns : List Turn) (rest : List ScriptLine) → All IsPlain turns
    → fold after_item (with_rest (lines_of turns ++ rest) s) (items_of turns) ≡ with_rest rest (fold after_turn s turns)
walk-from s [] rest h = refl
walk-from s (turn ∷ turns) rest h =
    let own : List ScriptLine = flat_map lines_for (asked_in turn) in
    let lines : lines_of (turn ∷ turns) ++ rest ≡ own ++ (lines_of turns ++ rest) =
    ap (λ (ls : List ScriptLine). ls ++ rest) (flat_map-append lines_for (asked_in turn) (asks_of turns)) ∙ append_assoc own (lines_of turns) rest in
    ap (λ (ls : List ScriptLine). fold after_item (with_rest ls s) (items_in turn ++ items_of turns)) lines
    ∙ fold-append after_item (with_rest (own ++ (lines_of turns ++ rest)) s) (items_in turn) (items_of turns)
    ∙ ap (λ (t : State). fold after_item t (items_of turns)) (turn-along (lines_of turns ++ rest) s turn (All-head IsPlain turn turns h))
    ∙ walk-from (after_turn s turn) turns rest (All-tail IsPlain turn turns h)

-- the walk over a section's trace is the one from turn to turn
pub turns_walk : TurnsWalk
turns_walk section turns rest e plain = ap (λ (ls : List ScriptLine). fold after_item (with_rest ls idle_state) (items_of turns)) e ∙ walk-from idle_state turns rest plain
