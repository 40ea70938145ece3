-- What a walk spends: each notification that a trace shows as sent is one that a line of its script put into a list. And which
-- holders its items name.
use Rattle.std.proofs.Common.{◌≡◌, ℕ, ◌+◌, ◌≤◌, max, Bool, true, false, cond, ◌&&◌, if◌then◌else◌, is_some, is_none, List, [], ◌∷◌, ◌++◌, length, fold, None, Some, sym, ap, ◌∙◌, refl, subst, arith, append-nil}
use Rattle.std.specs.Prelude.{All, sum_by}
use Rattle.std.specs.List.{list_any}
use Rattle.std.proofs.lemmas.List.Sums.{sum_by-cons}
use Rattle.std.proofs.lemmas.List.Elements.{All-nil, All-cons, All-head, All-tail}
use Rattle.pgn_base.specs.declared.note.Note.{Note}
use Rattle.pgn_base.specs.declared.action.Action.{Action}
use Rattle.pgn_base.specs.declared.command.Command.{Command}
use Rattle.pgn_base.specs.declared.command.Command.TheVariants as command
use Rattle.pgn_journal.specs.declared.tx.Tx.{Tx}
use Rattle.pgn_answers.specs.declared.block_state.BlockState.TheVariants.{Idle}
use Rattle.pgn_language.specs.declared.scenario.Act.{Act}
use Rattle.pgn_language.specs.declared.scenario.Act.TheVariants.{Run, Signal, Await, Quit}
use Rattle.pgn_language.specs.declared.scenario.ScriptLine.{ScriptLine}
use Rattle.pgn_language.specs.Inputs.{note_lines_of, is_note_command, is_note_act}
use Rattle.pgn_answers.specs.Savepoints.{Change, changes_of, live_names, count_noted, surviving_actions, surviving_notes, firsts, is_listen}
use Rattle.pgn_answers.specs.Answers.{Outcome, Commits, Replies, Refuses, Silent, GivesChannels, GivesUsage, answer, next_state, list_after}
use Rattle.pgn_answers.proofs.NotedLemmas.{noted-append, noted-after, sent-fewer}
use Rattle.pgn_model.specs.declared.item.Item.{Item}
use Rattle.pgn_model.specs.declared.item.Item.TheVariants.{Line, Enlist, Publish, QueueFull, Leave, Reply, Refuse, Channels, Used, Raise, Found, TimedOut, Read}
use Rattle.pgn_model.specs.Along.{Along}
use Rattle.pgn_model.specs.Walk.{Terms, State, Owed, Ending, Nothing, Enlisting, Queueing, Leaving, Answering, Listing, Measuring, Raising, Awaiting, Quitting, is_empty_set, leaving_or_answering, queueing_or_settled, committing, owing, at_act, at_line, at_enlist, at_publish, at_full, at_leave, at_rows, at_raise, at_found, holder_at, after_item, IsNext, IsEnlisting, IsQueueing, IsListing, IsMeasuring, IsRaising, IsAwaiting, Allowed}

-- the notifications that an item shows as sent
abbrev pub sent_by : Item → List Note
sent_by (Publish xid notes) = notes
sent_by (QueueFull full notes) = notes
sent_by item = []

-- how many notifications items show as sent
abbrev pub sent_in : List Item → ℕ
sent_in items = sum_by (λ item. length (sent_by item)) items

-- the holder that an item names, with the floor mark
abbrev pub named_by : Item → List (ℕ × ℕ)
named_by (QueueFull full notes) = holder_at full.holder full.floor_mark
named_by (Used usage) = holder_at usage.holder usage.floor_mark
named_by item = []

-- how many notifications the current line has still to send
abbrev owed_notes : Owed → ℕ
owed_notes (Enlisting actions notes ending) = length notes
owed_notes (Queueing actions notes ending) = length notes
owed_notes owed = 0

-- how many notifications may still be sent: those of the current line, those of the open block, and one for each line that notifies
abbrev pub budget : State → ℕ
budget s = note_lines_of s.rest + (count_noted s.changes + owed_notes s.owed)

-- the script and the block's list stay, no holder is named, and at most n notifications are still to be sent
record Keeps (s : State) (n : ℕ) (t : State) : Type 0 where
  rest : t.rest ≡ s.rest
  changes : t.changes ≡ s.changes
  named : t.named ≡ s.named
  owes : owed_notes t.owed ≤ n

keeps-either : (s x y : State) (n : ℕ) (b : Bool) → Keeps s n x → Keeps s n y → Keeps s n (if b then x else y)
keeps-either s x y n true h k = h
keeps-either s x y n false h k = k

same : (s : State) (owed : Owed) (n : ℕ) → owed_notes owed ≤ n → Keeps s n (record s { owed = owed })
same s owed n h = record { rest = refl; changes = refl; named = refl; owes = h }

keeps-answering : (s : State) (ending : Ending) (n : ℕ) → Keeps s n (leaving_or_answering s ending)
keeps-answering s ending n =
    keeps-either s (record s { owed = Leaving ending }) (record s { owed = Answering ending }) n (is_some s.mark && is_empty_set s.set) (same s (Leaving ending) n (omega arith)) (same s (Answering ending) n (omega arith))

keeps-settled : (s : State) (set : List (List ℕ)) (ending : Ending) (n : ℕ) → Keeps s n (leaving_or_answering (record s { set = set }) ending)
keeps-settled s set ending n = let h = keeps-answering (record s { set = set }) ending n in record { rest = h.rest; changes = h.changes; named = h.named; owes = h.owes }

keeps-queueing : (s : State) (actions : List Action) (notes : List Note) (ending : Ending) → Keeps s (length notes) (queueing_or_settled s actions notes ending)
keeps-queueing s actions [] ending = keeps-settled s _ ending 0
keeps-queueing s actions (note ∷ notes) ending = same s (Queueing actions (note ∷ notes) ending) (length (note ∷ notes)) (omega arith)

keeps-committing : (s : State) (changes : List Change) (ending : Ending) → Keeps s (length (firsts (surviving_notes changes))) (committing s changes ending)
keeps-committing s changes ending =
    let actions : List Action = surviving_actions changes in
    let notes : List Note = firsts (surviving_notes changes) in
    keeps-either s (record s { owed = Enlisting actions notes ending }) (queueing_or_settled s actions notes ending) (length notes) (list_any is_listen actions && is_none s.mark)
    (same s (Enlisting actions notes ending) (length notes) (omega arith)) (keeps-queueing s actions notes ending)

-- how many notifications a command hands out
handed_out : List Change → Outcome → ℕ
handed_out changes (Commits done) = length (firsts (surviving_notes changes))
handed_out changes outcome = 0

keeps-owing : (s : State) (changes : List Change) (outcome : Outcome) → owed_notes s.owed ≡ 0 → Keeps s (handed_out changes outcome) (owing s changes outcome)
unfolding handed_out
keeps-owing s changes (Commits done) h = keeps-committing s changes _
keeps-owing s changes (Replies done warning next) h = same s _ 0 (omega arith)
keeps-owing s changes (Refuses refusal next) h = same s _ 0 (omega arith)
keeps-owing s changes Silent h = record { rest = refl; changes = refl; named = refl; owes = omega (arith, h) }
keeps-owing s changes (GivesChannels names) h = same s _ 0 (omega arith)
keeps-owing s changes GivesUsage h = same s _ 0 (omega arith)

-- they were in the list, or the command has put them there
handed-noted : (changes : List Change) (c : Command) (outcome : Outcome) → count_noted (list_after changes c outcome) + handed_out (changes ++ changes_of c) outcome ≤ count_noted changes + count_noted (changes_of c)
unfolding handed_out
handed-noted changes c (Commits done) = omega (arith, sent-fewer (changes ++ changes_of c), noted-append changes (changes_of c))
handed-noted changes c (Replies done warning next) = omega (arith, noted-after changes c (Replies done warning next))
handed-noted changes c (Refuses refusal next) = omega (arith, noted-after changes c (Refuses refusal next))
handed-noted changes c Silent = omega arith
handed-noted changes c (GivesChannels names) = omega arith
handed-noted changes c GivesUsage = omega arith

-- a command puts a notification into the list where it notifies
noted-one : (c : Command) → count_noted (changes_of c) ≡ cond (is_note_command c) 1 0
noted-one (command.Savepoint name) = refl
noted-one (command.RollbackTo name) = refl
noted-one (command.Release name) = refl
noted-one (command.Listen name) = refl
noted-one (command.Unlisten name) = refl
noted-one command.UnlistenAll = refl
noted-one (command.Notify note) = refl
noted-one (command.PgNotify note) = refl
noted-one other = refl

-- the beginning of a line of this act
record Begins (s : State) (act : Act) (t : State) : Type 0 where
  rest : t.rest ≡ s.rest
  named : t.named ≡ s.named
  spent : count_noted t.changes + owed_notes t.owed ≤ count_noted s.changes + cond (is_note_act act) 1 0

begins-act : (s : State) (act : Act) → owed_notes s.owed ≡ 0 → Begins s act (at_act s act)
begins-act s (Run c) h =
    let outcome : Outcome = answer s.block (live_names s.changes) s.set c in
    let next : State = record s { block = next_state s.block outcome; changes = list_after s.changes c outcome } in
    let k = keeps-owing next (s.changes ++ changes_of c) outcome h in
    record {
      rest = k.rest;
      named = k.named;
      spent = omega (arith, k.owes, ap count_noted k.changes, handed-noted s.changes c outcome, noted-one c);
    }
begins-act s (Signal flag) h = record { rest = refl; named = refl; spent = omega arith }
begins-act s (Await flag) h = record { rest = refl; named = refl; spent = omega arith }
begins-act s Quit h =
    let ended : State = record s { block = Idle; changes = []; set = [] } in
    either (is_some s.mark) (record { rest = refl; named = refl; spent = omega arith }) (record { rest = refl; named = refl; spent = omega (arith, h) })
  where
    either : (b : Bool) → Begins s Quit (record s { block = Idle; changes = []; set = []; owed = Quitting }) → Begins s Quit (record s { block = Idle; changes = []; set = [] })
        → Begins s Quit (if b then record s { block = Idle; changes = []; set = []; owed = Quitting } else record s { block = Idle; changes = []; set = [] })
    either true x y = x
    either false x y = y

-- what a step of the walk spends, and which holder it names
record Spends (s : State) (item : Item) (t : State) : Type 0 where
  spent : length (sent_by item) + budget t ≤ budget s
  names : t.named ≡ s.named ++ named_by item

line-spends : (s : State) (n : ℕ) (all : List ScriptLine) → s.rest ≡ all → owed_notes s.owed ≡ 0 → IsNext n all → Spends s (Line n) (at_line s all)
line-spends s n [] is h next = absurd next
line-spends s n (line ∷ lines) is h next =
    let b = begins-act (record s { rest = lines }) line.act h in
    let all : note_lines_of s.rest ≡ cond (is_note_act line.act) 1 0 + note_lines_of lines = ap note_lines_of is ∙ sum_by-cons (λ (l : ScriptLine). cond (is_note_act l.act) 1 0) line lines in
    record {
      spent = omega (arith, b.spent, ap note_lines_of b.rest, all, h);
      names = b.named ∙ sym (append-nil s.named);
    }

-- a step that keeps the script and the list
spends-kept : (s t : State) (m n : ℕ) → Keeps s n t → m + n ≤ owed_notes s.owed → m + budget t ≤ budget s
spends-kept s t m n k h = omega (arith, h, k.owes, ap note_lines_of k.rest, ap count_noted k.changes)

spends-none : (s t : State) (item : Item) (n : ℕ) → Keeps s n t → sent_by item ≡ [] → named_by item ≡ [] → n ≤ owed_notes s.owed → Spends s item t
spends-none s t item n k none nobody h =
    let no_notes : length (sent_by item) ≡ 0 = ap (λ (notes : List Note). length notes) none in
    record {
      spent = omega (arith, no_notes, spends-kept s t 0 n k (omega (arith, h)));
      names = k.named ∙ sym (append-nil s.named) ∙ ap (λ (pairs : List (ℕ × ℕ)). s.named ++ pairs) (sym nobody);
    }

keeps-enlist : (s : State) (owed : Owed) → IsEnlisting owed → Keeps s (owed_notes owed) (at_enlist s owed)
keeps-enlist s (Enlisting actions notes ending) h = keeps-queueing s actions notes ending
keeps-enlist s owed h = absurd h

keeps-publish : (s : State) (notes : List Note) (owed : Owed) → IsQueueing notes owed → Keeps s 0 (at_publish s owed)
keeps-publish s notes (Queueing actions others ending) h = keeps-settled s _ ending 0
keeps-publish s notes owed h = absurd h

keeps-full : (s : State) (notes : List Note) (owed : Owed) → IsQueueing notes owed → Keeps s 0 (at_full s owed)
keeps-full s notes (Queueing actions others ending) h = keeps-answering s _ 0
keeps-full s notes owed h = absurd h

queued-notes : (notes : List Note) (owed : Owed) → IsQueueing notes owed → length notes ≡ owed_notes owed
queued-notes notes (Queueing actions others ending) h = ap (λ (ns : List Note). length ns) h
queued-notes notes owed h = absurd h

keeps-leave : (s : State) (owed : Owed) → Keeps s 0 (at_leave s owed)
keeps-leave s (Leaving ending) = same s (Answering ending) 0 (omega arith)
keeps-leave s owed = same s Nothing 0 (omega arith)

keeps-channels : (s : State) (names : List (List ℕ)) (owed : Owed) → IsListing names owed → Keeps s 0 (at_rows s owed)
keeps-channels s names (Listing others ending) h = same s (Answering ending) 0 (omega arith)
keeps-channels s names owed h = absurd h

keeps-usage : (s : State) (owed : Owed) → IsMeasuring owed → Keeps s 0 (at_rows s owed)
keeps-usage s (Measuring ending) h = same s (Answering ending) 0 (omega arith)
keeps-usage s owed h = absurd h

keeps-raise : (value : ℕ) (s : State) (owed : Owed) → IsRaising owed → Keeps s 0 (at_raise value s owed)
keeps-raise value s (Raising flag) h = record { rest = refl; changes = refl; named = refl; owes = omega arith }
keeps-raise value s owed h = absurd h

keeps-found : (value : ℕ) (s : State) (P : ℕ → Type 0) (owed : Owed) → IsAwaiting owed P → Keeps s 0 (at_found value s owed)
keeps-found value s P (Awaiting flag) h = record { rest = refl; changes = refl; named = refl; owes = omega arith }
keeps-found value s P owed h = absurd h

-- each item that is allowed
item-spends : (terms : Terms) (journal : List Tx) (s : State) (item : Item) → Allowed terms journal s item → Spends s item (after_item s item)
item-spends terms journal s (Line n) h = line-spends s n s.rest refl (ap owed_notes h.answered) h.next
item-spends terms journal s (Enlist base point) h =
    let before : State = record s { mark = Some point; told = max s.told point; marks = s.marks ++ base ∷ [] ++ point ∷ [] } in
    let k = keeps-enlist before s.owed h.expected in
    spends-none s (at_enlist before s.owed) (Enlist base point) (owed_notes s.owed) (record { rest = k.rest; changes = k.changes; named = k.named; owes = k.owes }) refl refl (omega arith)
item-spends terms journal s (Publish xid notes) h =
    let before : State = record s { told = max s.told (xid + 1) } in
    let k = keeps-publish before notes s.owed h.expected in
    record {
      spent = spends-kept s (at_publish before s.owed) (length notes) 0 (record { rest = k.rest; changes = k.changes; named = k.named; owes = k.owes }) (omega (arith, queued-notes notes s.owed h.expected));
      names = k.named ∙ sym (append-nil s.named);
    }
item-spends terms journal s (QueueFull full notes) h =
    let before : State = record s { told = max s.told (full.xid + 1); named = s.named ++ holder_at full.holder full.floor_mark } in
    let k = keeps-full before notes s.owed h.expected in
    let queued : length notes ≡ owed_notes s.owed = queued-notes notes s.owed h.expected in
    record {
      spent = omega (arith, queued, k.owes, ap note_lines_of k.rest, ap count_noted k.changes);
      names = k.named;
    }
item-spends terms journal s Leave h =
    let k = keeps-leave (record s { mark = None }) s.owed in
    spends-none s (at_leave (record s { mark = None }) s.owed) Leave 0 (record { rest = k.rest; changes = k.changes; named = k.named; owes = k.owes }) refl refl (omega arith)
item-spends terms journal s (Reply done warning) h = spends-none s (record s { owed = Nothing }) (Reply done warning) 0 (same s Nothing 0 (omega arith)) refl refl (omega arith)
item-spends terms journal s (Refuse refusal) h = spends-none s (record s { owed = Nothing }) (Refuse refusal) 0 (same s Nothing 0 (omega arith)) refl refl (omega arith)
item-spends terms journal s (Channels names) h = spends-none s (at_rows s s.owed) (Channels names) 0 (keeps-channels s names s.owed h) refl refl (omega arith)
item-spends terms journal s (Used usage) h =
    let before : State = record s { named = s.named ++ holder_at usage.holder usage.floor_mark } in
    let k = keeps-usage before s.owed h.expected in
    record {
      spent = omega (arith, k.owes, ap note_lines_of k.rest, ap count_noted k.changes);
      names = k.named;
    }
item-spends terms journal s (Raise value) h = spends-none s (at_raise value s s.owed) (Raise value) 0 (keeps-raise value s s.owed h.expected) refl refl (omega arith)
item-spends terms journal s (Found value) h = spends-none s (at_found value s s.owed) (Found value) 0 (keeps-found value s _ s.owed h) refl refl (omega arith)
item-spends terms journal s (TimedOut looks) h = spends-none s (record s { owed = Nothing }) (TimedOut looks) 0 (same s Nothing 0 (omega arith)) refl refl (omega arith)
item-spends terms journal s (Read from to got) h = record { spent = omega arith; names = sym (append-nil s.named) }

-- a lawful list of items sends no more than what may be sent before it
pub items-spend : (terms : Terms) (journal : List Tx) (s : State) (items : List Item) → Along after_item (Allowed terms journal) s items → sent_in items ≤ budget s
items-spend terms journal s [] h = omega arith
items-spend terms journal s (item ∷ items) h =
    let one = item-spends terms journal s item h.0 in
    omega (arith, one.spent, items-spend terms journal (after_item s item) items h.1, sum_by-cons (λ (i : Item). length (sent_by i)) item items)

-- what holds of each holder that a walk has named holds of each that its items name
pub names-shown : (terms : Terms) (journal : List Tx) (P : ℕ × ℕ → Type 0) (s : State) (items : List Item) → Along after_item (Allowed terms journal) s items → All P (fold after_item s items).named
    → All P s.named × All (λ item. All P (named_by item)) items
names-shown terms journal P s [] h all = (all, All-nil (λ item. All P (named_by item)))
names-shown terms journal P s (item ∷ items) h all =
    let rest = names-shown terms journal P (after_item s item) items h.1 all in
    let both : All P (s.named ++ named_by item) = subst (λ (pairs : List (ℕ × ℕ)). All P pairs) (item-spends terms journal s item h.0).names rest.0 in
    let parts = all-parts s.named (named_by item) both in
    (parts.0, All-cons (λ i. All P (named_by i)) item items parts.1 rest.1)
  where
    all-parts : (xs ys : List (ℕ × ℕ)) → All P (xs ++ ys) → All P xs × All P ys
    all-parts [] ys h = (All-nil P, h)
    all-parts (x ∷ xs) ys h =
        let tail = all-parts xs ys (All-tail P x (xs ++ ys) h) in
        (All-cons P x xs (All-head P x (xs ++ ys) h) tail.0, tail.1)
