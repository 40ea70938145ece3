-- Where all turns are answers, what is told are the messages of the trace.
use Rattle.std.proofs.Common.{◌≡◌, ℕ, false, List, [], ◌∷◌, ◌++◌, All, Option, Some, None, sym, ap, ◌∙◌, refl, append_assoc, append-nil}
use Rattle.std.specs.Prelude.{fold, flat_map, map}
use Rattle.std.specs.List.{list_any}
use Rattle.std.proofs.lemmas.List.{map-append}
use Rattle.std.proofs.lemmas.List.Elements.{All-head, All-tail}
use Rattle.pgn_base.specs.declared.answers.Refusal.{Refusal}
use Rattle.pgn_base.specs.declared.answers.Refusal.TheVariants.{Syntax, Bounds, NeedsBlock, NoSavepoint, Aborted, QueueFull as Full}
use Rattle.pgn_base.specs.declared.command.Command.{Command}
use Rattle.pgn_base.specs.declared.command.Command.TheVariants.{PgNotify}
use Rattle.pgn_answers.specs.declared.block_state.BlockState.{BlockState}
use Rattle.pgn_language.specs.declared.scenario.Act.TheVariants.{Run}
use Rattle.pgn_language.specs.declared.scenario.ScriptLine.{ScriptLine}
use Rattle.pgn_model.specs.declared.item.Item.{Item}
use Rattle.pgn_model.specs.declared.item.Item.TheVariants.{Line, Enlist, Publish, QueueFull, Leave, Reply, Refuse, Channels, Used, Raise, Found, TimedOut, Read}
use Rattle.pgn_model.specs.Walk.{State, after_item, at_act}
use Rattle.pgn_messages.specs.Server.{complete, error, ready}
use Rattle.pgn_messages.specs.Messages.{answer_messages, current_command, first_message, item_messages, line_begins, messages_from, next_command, notices, rows_of}
use Rattle.pgn_messages.specs.Laws.{begins_line}
use Rattle.pgn_messages.proofs.GrowLaws.{first_false, within}
use Rattle.pgn_messages.proofs.RestLaws.{act-rest, with_rest}
use Rattle.pgn_requests.specs.declared.complaint.Wording.{Wording}
use Rattle.pgn_requests.specs.declared.complaint.Wording.TheVariants.{Plain}
use Rattle.pgn_messages.specs.declared.asked.Asked.{Asked}
use Rattle.pgn_messages.specs.Served.{call_rows, told_answer, told_item, told_refusal}
use Rattle.pgn_messages.specs.Turns.{Telling, Turn, Answers, Hears, Leaves, Settles, Discards, after_line, first_telling, idle_state, items_of, lines_of, signs_said, telling_after}
use Rattle.pgn_messages.specs.TurnLaws.{AnswersAreMessages, IsAnswer, IsAnsweredAlike, IsNoCall, shows_usage}
use Rattle.pgn_messages.proofs.WalkLaws.{rest-along}

-- the first of the items begins a line, if there is one
abbrev StartsLine : List Item → Type 0
StartsLine [] = Unit {0}
StartsLine (Line n ∷ items) = Unit {0}
StartsLine (item ∷ items) = ⊥

starts : (turns : List Turn) → All IsAnswer turns → StartsLine (items_of turns)
starts [] h = tt
starts (Answers query more ∷ turns) h = tt
starts (Hears reads ∷ turns) h = absurd (All-head IsAnswer (Hears reads) turns h)
starts (Leaves parting line rolled unlistened ∷ turns) h = absurd (All-head IsAnswer (Leaves parting line rolled unlistened) turns h)
starts (Settles settled ∷ turns) h = absurd (All-head IsAnswer (Settles settled) turns h)
starts (Discards line refused unlistened ∷ turns) h = absurd (All-head IsAnswer (Discards line refused unlistened) turns h)

-- what is no call of pg_notify has no row
no-rows : (command : Command) → IsNoCall command → (call_rows command ≡ []) × (rows_of command ≡ [])
no-rows (PgNotify note) h = absurd h
no-rows command h = (refl, refl)

-- as the session answers it
usual-refusal : (command : Command) (refusal : Refusal) → call_rows command ≡ [] → told_refusal command Plain refusal ≡ error refusal
usual-refusal command Full none = ap (λ (l : List ℕ). l ++ error Full) none
usual-refusal command (Syntax at) none = refl
usual-refusal command (Bounds which) none = refl
usual-refusal command (NeedsBlock what) none = refl
usual-refusal command (NoSavepoint name) none = refl
usual-refusal command Aborted none = refl

usual-item : (query : Asked) (item : Item) → query.wording ≡ Plain → IsNoCall query.command → shows_usage item ≡ false → told_item query item ≡ item_messages query.command item
usual-item query (Reply tag warning) usual call h =
    let none = no-rows query.command call in
    ap (λ (l : List ℕ). notices warning ++ l ++ complete tag) (none.0 ∙ sym none.1)
usual-item query (Refuse refusal) usual call h =
    ap (λ (w : Wording). told_refusal query.command w refusal) usual ∙ usual-refusal query.command refusal (no-rows query.command call).0
usual-item query (Channels names) usual call h = refl
usual-item query (Used usage) usual call h = absurd (cc)
usual-item query (Read from to got) usual call h = refl
usual-item query (Line n) usual call h = refl
usual-item query (Enlist base point) usual call h = refl
usual-item query (Publish xid notes) usual call h = refl
usual-item query (QueueFull full notes) usual call h = refl
usual-item query Leave usual call h = refl
usual-item query (Raise value) usual call h = refl
usual-item query (Found value) usual call h = refl
usual-item query (TimedOut looks) usual call h = refl

usual-items : (query : Asked) (items : List Item) → query.wording ≡ Plain → IsNoCall query.command → list_any shows_usage items ≡ false
    → flat_map (told_item query) items ≡ flat_map (item_messages query.command) items
usual-items query [] usual call h = refl
usual-items query (item ∷ items) usual call h =
    let parts = first_false (shows_usage item) (list_any shows_usage items) h in
    ap (λ (l : List ℕ). l ++ flat_map (told_item query) items) (usual-item query item usual call parts.0)
    ∙ ap (λ (l : List ℕ). item_messages query.command item ++ l) (usual-items query items usual call parts.1)

usual-answer : (query : Asked) (more : List Item) (state : BlockState) → IsAnsweredAlike query more → told_answer query more state ≡ answer_messages query.command more state
usual-answer query more state h =
    ap (λ (l : List ℕ). l ++ first_message query.command ++ flat_map (told_item query) more ++ ready state) h.uncut
    ∙ ap (λ (l : List ℕ). first_message query.command ++ l ++ ready state) (usual-items query more h.as_usual h.no_call h.no_usage)

-- a line with a command ends where the next begins
line-end : (s : State) (command : Command) (items : List Item) → StartsLine items → messages_from s (Some command) items ≡ ready s.block ++ messages_from s None items
line-end s command [] h = sym (append-nil (ready s.block))
line-end s command (Line n ∷ items) h = append_assoc (ready s.block) (line_begins (next_command s.rest)) (messages_from (after_item s (Line n)) (next_command s.rest) items)
line-end s command (item ∷ items) h = absurd h

-- three pieces, and what is behind them
three : (a b c d : List ℕ) → a ++ ((b ++ c) ++ d) ≡ ((a ++ b) ++ c) ++ d
three a b c d = sym (append_assoc a (b ++ c) d) ∙ ap (λ (t : List ℕ). t ++ d) (sym (append_assoc a b c))

behind-line : (s : State) (command : Command) (more items : List Item) → list_any begins_line more ≡ false → StartsLine items
    → messages_from s (Some command) (more ++ items) ≡ (flat_map (item_messages command) more ++ ready (fold after_item s more).block) ++ messages_from (fold after_item s more) None items
behind-line s command [] items h next = line-end s command items next
behind-line s command (item ∷ more) items h next =
    let here = first_false (begins_line item) (list_any begins_line more) h in
    let parts = within s (Some command) item here.0 in
    let t : State = after_item s item in
    ap (λ (l : List ℕ). l ++ messages_from t (current_command s (Some command) item) (more ++ items)) parts.0
    ∙ ap (λ (c : Option Command). item_messages command item ++ messages_from t c (more ++ items)) parts.1
    ∙ ap (λ (l : List ℕ). item_messages command item ++ l) (behind-line t command more items here.1 next)
    ∙ three (item_messages command item) (flat_map (item_messages command) more) (ready (fold after_item t more).block) (messages_from (fold after_item t more) None items)

from-answers : (seat : ℕ) (t : Telling) (turns : List Turn) (rest : List ScriptLine) → All IsAnswer turns
    → signs_said seat t turns ≡ map Some (messages_from (with_rest (lines_of turns ++ rest) t.walk) None (items_of turns))
from-answers seat t [] rest h = refl
from-answers seat t (Hears reads ∷ turns) rest h = absurd (All-head IsAnswer (Hears reads) turns h)
from-answers seat t (Leaves parting line rolled unlistened ∷ turns) rest h = absurd (All-head IsAnswer (Leaves parting line rolled unlistened) turns h)
from-answers seat t (Settles settled ∷ turns) rest h = absurd (All-head IsAnswer (Settles settled) turns h)
from-answers seat t (Discards line refused unlistened ∷ turns) rest h = absurd (All-head IsAnswer (Discards line refused unlistened) turns h)
from-answers seat t (Answers query more ∷ turns) rest h =
    let s : State = t.walk in
    let command : Command = query.command in
    let lines : List ScriptLine = lines_of turns ++ rest in
    let others : All IsAnswer turns = All-tail IsAnswer (Answers query more) turns h in
    let alike : IsAnsweredAlike query more = All-head IsAnswer (Answers query more) turns h in
    let begun : State = with_rest lines (at_act s (Run command)) in
    let after : State = after_line s command more in
    let next : Telling = telling_after t (Answers query more) in
    let front : List ℕ = first_message command in
    let answer : State → List ℕ = λ u. flat_map (item_messages command) more ++ ready u.block in
    let whole : front ++ messages_from (at_act (with_rest lines s) (Run command)) (Some command) (more ++ items_of turns)
    ≡ answer_messages command more after.block ++ messages_from (with_rest lines after) None (items_of turns) =
    ap (λ (u : State). front ++ messages_from u (Some command) (more ++ items_of turns)) (act-rest lines s (Run command))
    ∙ ap (λ (l : List ℕ). front ++ l) (behind-line begun command more (items_of turns) alike.one_line (starts turns others))
    ∙ ap (λ (u : State). front ++ (answer u ++ messages_from u None (items_of turns))) (rest-along lines (at_act s (Run command)) more alike.one_line)
    ∙ three front (flat_map (item_messages command) more) (ready after.block) (messages_from (with_rest lines after) None (items_of turns)) in
    ap (λ (l : List (Option ℕ)). l ++ signs_said seat next turns) (append-nil (map Some (told_answer query more after.block)))
    ∙ ap (λ (l : List ℕ). map Some l ++ signs_said seat next turns) (usual-answer query more after.block alike)
    ∙ ap (λ (l : List (Option ℕ)). map Some (answer_messages command more after.block) ++ l) (from-answers seat next turns rest others)
    ∙ sym (map-append Some (answer_messages command more after.block) (messages_from (with_rest lines after) None (items_of turns)))
    ∙ ap (λ (l : List ℕ). map Some l) (sym whole)

-- where each turn is an answer as a session gives it, what is said are the messages of the section's trace
pub answers_are_messages : AnswersAreMessages
answers_are_messages seat section turns rest e h =
    from-answers seat first_telling turns rest h ∙ ap (λ (lines : List ScriptLine). map Some (messages_from (with_rest lines idle_state) None (items_of turns))) (sym e)
