-- The lines that are still to come, along a walk: no item but a line's looks at them, and that takes the first of them.
use Rattle.std.proofs.Common.{◌≡◌, ℕ, ◌+◌, ◌≤◌, max, Bool, true, false, List, [], ◌∷◌, ◌++◌, length, Option, Some, None, sym, ap, ◌∙◌, subst, refl, arith, inl, inr}
use Rattle.std.specs.Prelude.{if◌then◌else◌}
use Rattle.std.specs.Prelude.{fold, is_some, is_none, ◌&&◌, ◌||◌, ◌⊎◌, max}
use Rattle.std.specs.List.{list_any}
use Rattle.std.proofs.lemmas.List.Sums.{fold-append}
use Rattle.pgn_base.specs.declared.note.Note.{Note}
use Rattle.pgn_base.specs.declared.command.Command.{Command}
use Rattle.pgn_base.specs.declared.action.Action.{Action}
use Rattle.pgn_base.specs.declared.answers.Refusal.TheVariants as refused
use Rattle.pgn_base.specs.Channels.{applied}
use Rattle.pgn_answers.specs.Savepoints.{Change, live_names, surviving_actions, surviving_notes, firsts, is_listen, changes_of}
use Rattle.pgn_answers.specs.Answers.{Outcome, Commits, Replies, Refuses, Silent, GivesChannels, GivesUsage, answer, next_state, list_after}
use Rattle.pgn_language.specs.declared.scenario.Act.{Act}
use Rattle.pgn_language.specs.declared.scenario.Act.TheVariants.{Run, Signal, Await, Quit}
use Rattle.pgn_language.specs.declared.scenario.ScriptLine.{ScriptLine}
use Rattle.pgn_answers.specs.declared.block_state.BlockState.TheVariants.{Idle}
use Rattle.pgn_model.specs.declared.item.Item.{Item}
use Rattle.pgn_model.specs.declared.item.Item.TheVariants as item
use Rattle.pgn_model.specs.Walk as walk
use Rattle.pgn_model.specs.Walk.{State, Owed, Ending, Replied, start, after_item, at_line, at_act, at_enlist, at_publish, at_full, at_leave, at_rows, at_raise, at_found, holder_at, leaving_or_answering, queueing_or_settled, committing, owing, quitting, is_empty_set}
use Rattle.pgn_messages.specs.Messages.{messages_from, step_messages, current_command, line_begins, line_ends, next_command}
use Rattle.pgn_messages.specs.Laws.{after, begins_line, LineIsPutIn, OneLineBegins}
use Rattle.pgn_messages.proofs.GrowLaws.{within}

-- a state with other lines to come
abbrev pub with_rest : List ScriptLine → State → State
with_rest rest s = record s { rest = rest }

leaving-rest : (rest : List ScriptLine) (s : State) (ending : Ending) → leaving_or_answering (with_rest rest s) ending ≡ with_rest rest (leaving_or_answering s ending)
leaving-rest rest s ending = either (is_some s.mark && is_empty_set s.set)
  where
    either : (b : Bool) → (let t : State = with_rest rest s in if b then record t { owed = walk.Leaving ending } else record t { owed = walk.Answering ending })
        ≡ with_rest rest (if b then record s { owed = walk.Leaving ending } else record s { owed = walk.Answering ending })
    either true = refl
    either false = refl

queueing-rest : (rest : List ScriptLine) (s : State) (actions : List Action) (notes : List Note) (ending : Ending)
    → queueing_or_settled (with_rest rest s) actions notes ending ≡ with_rest rest (queueing_or_settled s actions notes ending)
queueing-rest rest s actions [] ending = leaving-rest rest (record s { set = applied s.set actions }) ending
queueing-rest rest s actions (note ∷ notes) ending = refl

committing-rest : (rest : List ScriptLine) (s : State) (changes : List Change) (ending : Ending) → committing (with_rest rest s) changes ending ≡ with_rest rest (committing s changes ending)
committing-rest rest s changes ending = either (list_any is_listen (surviving_actions changes) && is_none s.mark)
  where
    actions : List Action
    actions = surviving_actions changes

    notes : List Note
    notes = firsts (surviving_notes changes)

    either : (b : Bool) → (let t : State = with_rest rest s in if b then record t { owed = walk.Enlisting actions notes ending } else queueing_or_settled t actions notes ending)
        ≡ with_rest rest (if b then record s { owed = walk.Enlisting actions notes ending } else queueing_or_settled s actions notes ending)
    either true = refl
    either false = queueing-rest rest s actions notes ending

owing-rest : (rest : List ScriptLine) (s : State) (changes : List Change) (outcome : Outcome) → owing (with_rest rest s) changes outcome ≡ with_rest rest (owing s changes outcome)
owing-rest rest s changes (Commits tag) = committing-rest rest s changes (Replied tag None)
owing-rest rest s changes (Replies tag warning next) = refl
owing-rest rest s changes (Refuses refusal next) = refl
owing-rest rest s changes Silent = refl
owing-rest rest s changes (GivesChannels names) = refl
owing-rest rest s changes GivesUsage = refl

quitting-rest : (rest : List ScriptLine) (s : State) → quitting (with_rest rest s) ≡ with_rest rest (quitting s)
quitting-rest rest s = either (is_some s.mark)
  where
    either : (b : Bool) → (let t : State = record s { rest = rest; block = Idle; changes = []; set = [] } in if b then record t { owed = walk.Quitting } else t)
        ≡ with_rest rest (let t : State = record s { block = Idle; changes = []; set = [] } in if b then record t { owed = walk.Quitting } else t)
    either true = refl
    either false = refl

-- a line does the same, whatever lines are to come behind it
pub act-rest : (rest : List ScriptLine) (s : State) (act : Act) → at_act (with_rest rest s) act ≡ with_rest rest (at_act s act)
act-rest rest s (Run command) =
    let outcome : Outcome = answer s.block (live_names s.changes) s.set command in
    owing-rest rest (record s { block = next_state s.block outcome; changes = list_after s.changes command outcome }) (s.changes ++ changes_of command) outcome
act-rest rest s (Signal flag) = refl
act-rest rest s (Await flag) = refl
act-rest rest s Quit = quitting-rest rest s

enlist-rest : (rest : List ScriptLine) (s : State) (owed : Owed) → at_enlist (with_rest rest s) owed ≡ with_rest rest (at_enlist s owed)
enlist-rest rest s (walk.Enlisting actions notes ending) = queueing-rest rest s actions notes ending
enlist-rest rest s walk.Nothing = refl
enlist-rest rest s (walk.Queueing actions notes ending) = refl
enlist-rest rest s (walk.Leaving ending) = refl
enlist-rest rest s (walk.Answering ending) = refl
enlist-rest rest s (walk.Listing names ending) = refl
enlist-rest rest s (walk.Measuring ending) = refl
enlist-rest rest s (walk.Raising flag) = refl
enlist-rest rest s (walk.Awaiting flag) = refl
enlist-rest rest s walk.Quitting = refl
enlist-rest rest s walk.Barred = refl

publish-rest : (rest : List ScriptLine) (s : State) (owed : Owed) → at_publish (with_rest rest s) owed ≡ with_rest rest (at_publish s owed)
publish-rest rest s (walk.Queueing actions notes ending) = leaving-rest rest (record s { set = applied s.set actions }) ending
publish-rest rest s walk.Nothing = refl
publish-rest rest s (walk.Enlisting actions notes ending) = refl
publish-rest rest s (walk.Leaving ending) = refl
publish-rest rest s (walk.Answering ending) = refl
publish-rest rest s (walk.Listing names ending) = refl
publish-rest rest s (walk.Measuring ending) = refl
publish-rest rest s (walk.Raising flag) = refl
publish-rest rest s (walk.Awaiting flag) = refl
publish-rest rest s walk.Quitting = refl
publish-rest rest s walk.Barred = refl

full-rest : (rest : List ScriptLine) (s : State) (owed : Owed) → at_full (with_rest rest s) owed ≡ with_rest rest (at_full s owed)
full-rest rest s (walk.Queueing actions notes ending) = leaving-rest rest s (walk.Refused refused.QueueFull)
full-rest rest s walk.Nothing = refl
full-rest rest s (walk.Enlisting actions notes ending) = refl
full-rest rest s (walk.Leaving ending) = refl
full-rest rest s (walk.Answering ending) = refl
full-rest rest s (walk.Listing names ending) = refl
full-rest rest s (walk.Measuring ending) = refl
full-rest rest s (walk.Raising flag) = refl
full-rest rest s (walk.Awaiting flag) = refl
full-rest rest s walk.Quitting = refl
full-rest rest s walk.Barred = refl

leave-rest : (rest : List ScriptLine) (s : State) (owed : Owed) → at_leave (with_rest rest s) owed ≡ with_rest rest (at_leave s owed)
leave-rest rest s (walk.Leaving ending) = refl
leave-rest rest s walk.Nothing = refl
leave-rest rest s (walk.Enlisting actions notes ending) = refl
leave-rest rest s (walk.Queueing actions notes ending) = refl
leave-rest rest s (walk.Answering ending) = refl
leave-rest rest s (walk.Listing names ending) = refl
leave-rest rest s (walk.Measuring ending) = refl
leave-rest rest s (walk.Raising flag) = refl
leave-rest rest s (walk.Awaiting flag) = refl
leave-rest rest s walk.Quitting = refl
leave-rest rest s walk.Barred = refl

rows-rest : (rest : List ScriptLine) (s : State) (owed : Owed) → at_rows (with_rest rest s) owed ≡ with_rest rest (at_rows s owed)
rows-rest rest s (walk.Listing names ending) = refl
rows-rest rest s (walk.Measuring ending) = refl
rows-rest rest s walk.Nothing = refl
rows-rest rest s (walk.Enlisting actions notes ending) = refl
rows-rest rest s (walk.Queueing actions notes ending) = refl
rows-rest rest s (walk.Leaving ending) = refl
rows-rest rest s (walk.Answering ending) = refl
rows-rest rest s (walk.Raising flag) = refl
rows-rest rest s (walk.Awaiting flag) = refl
rows-rest rest s walk.Quitting = refl
rows-rest rest s walk.Barred = refl

raise-rest : (rest : List ScriptLine) (value : ℕ) (s : State) (owed : Owed) → at_raise value (with_rest rest s) owed ≡ with_rest rest (at_raise value s owed)
raise-rest rest value s (walk.Raising flag) = refl
raise-rest rest value s walk.Nothing = refl
raise-rest rest value s (walk.Enlisting actions notes ending) = refl
raise-rest rest value s (walk.Queueing actions notes ending) = refl
raise-rest rest value s (walk.Leaving ending) = refl
raise-rest rest value s (walk.Answering ending) = refl
raise-rest rest value s (walk.Listing names ending) = refl
raise-rest rest value s (walk.Measuring ending) = refl
raise-rest rest value s (walk.Awaiting flag) = refl
raise-rest rest value s walk.Quitting = refl
raise-rest rest value s walk.Barred = refl

found-rest : (rest : List ScriptLine) (value : ℕ) (s : State) (owed : Owed) → at_found value (with_rest rest s) owed ≡ with_rest rest (at_found value s owed)
found-rest rest value s (walk.Awaiting flag) = refl
found-rest rest value s walk.Nothing = refl
found-rest rest value s (walk.Enlisting actions notes ending) = refl
found-rest rest value s (walk.Queueing actions notes ending) = refl
found-rest rest value s (walk.Leaving ending) = refl
found-rest rest value s (walk.Answering ending) = refl
found-rest rest value s (walk.Listing names ending) = refl
found-rest rest value s (walk.Measuring ending) = refl
found-rest rest value s (walk.Raising flag) = refl
found-rest rest value s walk.Quitting = refl
found-rest rest value s walk.Barred = refl

-- an item that begins no line does the same, whatever lines are to come
pub after-rest : (rest : List ScriptLine) (s : State) (shown : Item) → begins_line shown ≡ false → after_item (with_rest rest s) shown ≡ with_rest rest (after_item s shown)
after-rest rest s (item.Line n) h = absurd (cc)
after-rest rest s (item.Enlist base point) h = enlist-rest rest (record s { mark = Some point; told = max s.told point; marks = s.marks ++ base ∷ [] ++ point ∷ [] }) s.owed
after-rest rest s (item.Publish xid notes) h = publish-rest rest (record s { told = max s.told (xid + 1) }) s.owed
after-rest rest s (item.QueueFull full notes) h = full-rest rest (record s { told = max s.told (full.xid + 1); named = s.named ++ holder_at full.holder full.floor_mark }) s.owed
after-rest rest s item.Leave h = leave-rest rest (record s { mark = None }) s.owed
after-rest rest s (item.Reply tag warning) h = refl
after-rest rest s (item.Refuse refusal) h = refl
after-rest rest s (item.Channels names) h = rows-rest rest s s.owed
after-rest rest s (item.Used usage) h = rows-rest rest (record s { named = s.named ++ holder_at usage.holder usage.floor_mark }) s.owed
after-rest rest s (item.Raise value) h = raise-rest rest value s s.owed
after-rest rest s (item.Found value) h = found-rest rest value s s.owed
after-rest rest s (item.TimedOut looks) h = refl
after-rest rest s (item.Read from to got) h = refl

-- so it leaves them
pub rest-kept : (s : State) (shown : Item) → begins_line shown ≡ false → (after_item s shown).rest ≡ s.rest
rest-kept s shown h = ap (λ (t : State). t.rest) (after-rest s.rest s shown h)

-- a line takes the first
line-takes : (s : State) (lines : List ScriptLine) (line : ScriptLine) → (at_line s (line ∷ lines)).rest ≡ lines
line-takes s lines line = ap (λ (t : State). t.rest) (act-rest lines (record s { rest = lines }) line.act)

-- the same, where these are the lines to come
pub line-leaves : (s : State) (all lines : List ScriptLine) (line : ScriptLine) → all ≡ line ∷ lines → (at_line s all).rest ≡ lines
line-leaves s all lines line e = ap (λ (ls : List ScriptLine). (at_line s ls).rest) e ∙ line-takes s lines line

-- an item begins a line, or not
line_or : (shown : Item) → ((n : ℕ) × (shown ≡ item.Line n)) ⊎ (begins_line shown ≡ false)
line_or (item.Line n) = inl (n, refl)
line_or (item.Enlist base point) = inr refl
line_or (item.Publish xid notes) = inr refl
line_or (item.QueueFull full notes) = inr refl
line_or item.Leave = inr refl
line_or (item.Reply tag warning) = inr refl
line_or (item.Refuse refusal) = inr refl
line_or (item.Channels names) = inr refl
line_or (item.Used usage) = inr refl
line_or (item.Raise value) = inr refl
line_or (item.Found value) = inr refl
line_or (item.TimedOut looks) = inr refl
line_or (item.Read from to got) = inr refl

-- the lines to come never grow
line-fewer : (s : State) (all : List ScriptLine) → all ≡ s.rest → length (at_line s all).rest ≤ length s.rest
line-fewer s [] e = omega arith
line-fewer s (line ∷ lines) e =
    let left : length (at_line s (line ∷ lines)).rest ≡ length lines = ap length (line-takes s lines line) in
    let len : length (line ∷ lines) ≡ length s.rest = ap length e in
    omega arith

no_more : (s : State) (shown : Item) → length (after_item s shown).rest ≤ length s.rest
no_more s shown = elim (line_or shown) [
  | inl p ↦ subst (λ (i : Item). length (after_item s i).rest ≤ length s.rest) (sym p.1) (line-fewer s s.rest refl)
  | inr h ↦ let same : length (after_item s shown).rest ≡ length s.rest = ap length (rest-kept s shown h) in omega arith
]

no_more_along : (s : State) (items : List Item) → length (fold after_item s items).rest ≤ length s.rest
no_more_along s [] = omega arith
no_more_along s (shown ∷ items) =
    let here : length (after_item s shown).rest ≤ length s.rest = no_more s shown in
    let behind : length (fold after_item (after_item s shown) items).rest ≤ length (after_item s shown).rest = no_more_along (after_item s shown) items in
    omega arith

-- so where as many are to come as before, no line began
none-begins : (s : State) (items : List Item) (line : ScriptLine) (lines : List ScriptLine) → s.rest ≡ line ∷ lines → (fold after_item s items).rest ≡ line ∷ lines
    → list_any begins_line items ≡ false
none-begins s [] line lines e end = refl
none-begins s (shown ∷ items) line lines e end = elim (line_or shown) [
  | inl p ↦
      let left : length (after_item s shown).rest ≡ length lines = ap (λ (i : Item). length (after_item s i).rest) p.1 ∙ ap length (line-leaves s s.rest lines line e) in
      let behind : length (fold after_item (after_item s shown) items).rest ≤ length (after_item s shown).rest = no_more_along (after_item s shown) items in
      let whole : length (fold after_item (after_item s shown) items).rest ≡ length (line ∷ lines) = ap length end in
      absurd (omega arith)
  | inr h ↦ ap (λ (b : Bool). b || list_any begins_line items) h ∙ none-begins (after_item s shown) items line lines (rest-kept s shown h ∙ e) end
]

-- where the next line is taken and the last is still to come, nothing behind the line's own item begins a line
pub one_line_begins : OneLineBegins
one_line_begins section items more n line last lines e end =
    let s : State = after section items in
    let whole : fold after_item s (item.Line n ∷ more) ≡ after section (items ++ item.Line n ∷ more) = sym (fold-append after_item (start section) items (item.Line n ∷ more)) in
    none-begins (after_item s (item.Line n)) more last lines (line-leaves s s.rest (last ∷ lines) line e) (ap (λ (t : State). t.rest) whole ∙ end)

-- where none is to come, none begins
none-along : (s : State) (items : List Item) → s.rest ≡ [] → (fold after_item s items).rest ≡ []
none-along s items e =
    let few : length (fold after_item s items).rest ≤ length s.rest = no_more_along s items in
    let none : length s.rest ≡ 0 = ap length e in
    is_empty (fold after_item s items).rest (omega arith)
  where
    is_empty : (lines : List ScriptLine) → length lines ≤ 0 → lines ≡ []
    is_empty [] short = refl
    is_empty (line ∷ lines) short = absurd (omega arith)

-- the messages are the same with one line more before the last, where the last is still to come
abbrev AreAlike : List Item → Type 0
AreAlike items = (s : State) (current : Option Command) (rest : List ScriptLine) (line last : ScriptLine) → s.rest ≡ rest ++ last ∷ [] → ((fold after_item s items).rest ≡ [] → ⊥)
    → messages_from (with_rest (rest ++ line ∷ last ∷ []) s) current items ≡ messages_from s current items

-- within a line
alike_within : (shown : Item) (items : List Item) → begins_line shown ≡ false → AreAlike items → AreAlike (shown ∷ items)
alike_within shown items h further s current rest line last e stays =
    let t : State = with_rest (rest ++ line ∷ last ∷ []) s in
    let new = within t current shown h in
    let old = within s current shown h in
    ap (λ (m : List ℕ). m ++ messages_from (after_item t shown) (current_command t current shown) items) (new.0 ∙ sym old.0)
    ∙ ap (λ (c : Option Command). step_messages s current shown ++ messages_from (after_item t shown) c items) (new.1 ∙ sym old.1)
    ∙ ap (λ (u : State). step_messages s current shown ++ messages_from u (current_command s current shown) items) (after-rest (rest ++ line ∷ last ∷ []) s shown h)
    ∙ ap (λ (m : List ℕ). step_messages s current shown ++ m) (further (after_item s shown) (current_command s current shown) rest line last (rest-kept s shown h ∙ e) stays)

-- where a line begins
alike_line : (n : ℕ) (items : List Item) → AreAlike items → AreAlike (item.Line n ∷ items)
alike_line n items further s current [] line last e stays = absurd (stays (none-along (after_item s (item.Line n)) items (line-leaves s s.rest [] last e)))
alike_line n items further s current (next ∷ rest) line last e stays =
    let t : State = with_rest (rest ++ last ∷ []) (at_act s next.act) in
    let same : at_line s s.rest ≡ t = ap (at_line s) e ∙ act-rest (rest ++ last ∷ []) s next.act in
    let command : Option Command = next_command (next ∷ rest) in
    let front : List ℕ = line_ends current s.block ++ line_begins command in
    ap (λ (u : State). front ++ messages_from u command items) (act-rest (rest ++ line ∷ last ∷ []) s next.act)
    ∙ ap (λ (m : List ℕ). front ++ m) (further t command rest line last refl (λ none. stays (ap (λ (u : State). (fold after_item u items).rest) same ∙ none)))
    ∙ ap (λ (u : State). front ++ messages_from u command items) (sym (act-rest (rest ++ last ∷ []) s next.act))
    ∙ ap (λ (all : List ScriptLine). (line_ends current s.block ++ line_begins (next_command all)) ++ messages_from (at_line s all) (next_command all) items) (sym e)

alike_item : (shown : Item) (items : List Item) → AreAlike items → AreAlike (shown ∷ items)
alike_item shown items further = elim (line_or shown) [
  | inl p ↦ subst (λ (i : Item). AreAlike (i ∷ items)) (sym p.1) (alike_line p.0 items further)
  | inr h ↦ alike_within shown items h further
]

messages_alike : (items : List Item) → AreAlike items
messages_alike [] s current rest line last e stays = refl
messages_alike (shown ∷ items) s current rest line last e stays = alike_item shown items (messages_alike items) s current rest line last e stays

-- a line that is put in before the last, which is still to come, changes no message
pub line_is_put_in : LineIsPutIn
line_is_put_in section rest line last items e stays = messages_alike items (start section) None rest line last e stays
