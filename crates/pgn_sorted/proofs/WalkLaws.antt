-- What a lawful trace carries from its script has no LF: names and notifications.
use Rattle.std.proofs.Common.{◌≡◌, ℕ, ◌+◌, ◌-◌, max, Bool, true, false, cond, ◌&&◌, not, if◌then◌else◌, is_some, is_none, List, [], ◌∷◌, ◌++◌, map, take, filter, filter_map, None, Some, bytes_eq, sym, subst}
use Rattle.std.specs.Prelude.{All}
use Rattle.std.specs.List.{list_any}
use Rattle.std.proofs.lemmas.List.Elements.{All-nil, All-cons, All-head, All-tail, All-append, All-filter, All-map, All-take, All-drop}
use Rattle.pgn_base.specs.declared.note.Note.{Note}
use Rattle.pgn_base.specs.declared.note.Delivery.{Delivery}
use Rattle.pgn_base.specs.declared.limits.TheConstants.{FIRST_XID}
use Rattle.pgn_base.specs.declared.command.Command.{Command}
use Rattle.pgn_base.specs.declared.command.Command.TheVariants as command
use Rattle.pgn_base.specs.declared.action.Action.{Action}
use Rattle.pgn_base.specs.declared.action.Action.TheVariants.{Listen, Unlisten, UnlistenAll}
use Rattle.pgn_base.specs.Channels.{after_action, applied}
use Rattle.pgn_base.specs.Names.{has_name}
use Rattle.pgn_journal.specs.declared.tx.Tx.{Tx}
use Rattle.pgn_journal.specs.Journal.{entries_between, is_committed_in}
use Rattle.pgn_journal.specs.Due.{listens, delivery, delivered_by, due_from}
use Rattle.pgn_answers.specs.declared.block_state.BlockState.{BlockState}
use Rattle.pgn_answers.specs.declared.block_state.BlockState.TheVariants.{Idle, InBlock, Failed}
use Rattle.pgn_answers.specs.Savepoints.{Change, Saved, Acted, Noted, RolledBack, Released, is_savepoint, is_savepoint_of, has_savepoint, rolled_back, released, survivors_from, survivors, live_names, acted_action, noted_note, surviving_actions, surviving_notes, same_note, firsts_after, firsts, is_listen, changes_of}
use Rattle.pgn_answers.specs.Answers.{Outcome, Commits, Replies, Refuses, Silent, GivesChannels, GivesUsage, in_state, answer, next_state, list_after}
use Rattle.pgn_language.specs.declared.scenario.Act.{Act}
use Rattle.pgn_language.specs.declared.scenario.Act.TheVariants.{Run, Signal, Await, Quit}
use Rattle.pgn_language.specs.declared.scenario.ScriptLine.{ScriptLine}
use Rattle.pgn_language.specs.declared.scenario.Section.{Section}
use Rattle.pgn_language.specs.Inputs.{IsOneLine, IsOneLineCommand, IsOneLineAct, IsSoundSection}
use Rattle.pgn_model.specs.declared.item.Item.{Item}
use Rattle.pgn_model.specs.declared.item.Item.TheVariants.{Line, Enlist, Publish, QueueFull, Leave, Reply, Refuse, Channels, Used, Raise, Found, TimedOut, Read}
use Rattle.pgn_model.specs.declared.trace.Trace.{Trace}
use Rattle.pgn_model.specs.Along.{Along}
use Rattle.pgn_model.specs.Walk.{Settings, Terms, State, Owed, Ending, Replied, Refused, Nothing, Enlisting, Queueing, Leaving, Answering, Listing, Measuring, Raising, Awaiting, Quitting, is_empty_set, leaving_or_answering, settled, queueing_or_settled, committing, owing, at_act, at_line, at_enlist, at_publish, at_full, at_leave, at_rows, at_raise, at_found, holder_at, start, after_item, Allowed, IsQueueing, IsListing}
use Rattle.pgn_model.specs.Trace.{TraceOk}
use Rattle.pgn_model.specs.Legal.{EachTrace}
use Rattle.pgn_model.specs.laws.Text.{IsOneLineNote, IsOneLineItem}

-- What a transaction's list holds.

abbrev IsOneLineAction : Action → Type 0
IsOneLineAction (Listen channel) = IsOneLine channel
IsOneLineAction action = Unit {0}

abbrev IsOneLineChange : Change → Type 0
IsOneLineChange (Acted action) = IsOneLineAction action
IsOneLineChange (Noted note) = IsOneLineNote note
IsOneLineChange change = Unit {0}

-- the one or the other
either : {A : Type 0} (Q : A → Type 0) (b : Bool) (x y : A) → Q x → Q y → Q (cond b x y)
either Q true x y h k = h
either Q false x y h k = k

one-more : {A : Type 0} (Q : A → Type 0) (xs : List A) (x : A) → All Q xs → Q x → All Q (xs ++ x ∷ [])
one-more Q xs x h k = All-append Q xs (x ∷ []) h (All-cons Q x [] k (All-nil Q))

module _ (Q : Change → Type 0) where
  rolled_back-all : (name : List ℕ) (changes : List Change) → All Q changes → All Q (rolled_back name changes)
  rolled_back-all name [] h = h
  rolled_back-all name (change ∷ changes) h =
      let first : Q change = All-head Q change changes h in
      either (λ (cs : List Change). All Q cs) (has_savepoint name changes) (change ∷ rolled_back name changes) (cond (is_savepoint_of name change) (change ∷ []) (change ∷ changes))
      (All-cons Q change (rolled_back name changes) first (rolled_back-all name changes (All-tail Q change changes h)))
      (either (λ (cs : List Change). All Q cs) (is_savepoint_of name change) (change ∷ []) (change ∷ changes) (All-cons Q change [] first (All-nil Q)) h)

  released-all : (name : List ℕ) (changes : List Change) → All Q changes → All Q (released name changes)
  released-all name [] h = h
  released-all name (change ∷ changes) h =
      let rest : All Q changes = All-tail Q change changes h in
      either (λ (cs : List Change). All Q cs) (has_savepoint name changes) (change ∷ released name changes) (cond (is_savepoint_of name change) (filter (λ later. not (is_savepoint later)) changes) (change ∷ changes))
      (All-cons Q change (released name changes) (All-head Q change changes h) (released-all name changes rest))
      (either (λ (cs : List Change). All Q cs) (is_savepoint_of name change) (filter (λ later. not (is_savepoint later)) changes) (change ∷ changes) (All-filter (λ later. not (is_savepoint later)) Q changes rest) h)

  -- what holds of all changes holds of those that survive
  survivors-all : (kept changes : List Change) → All Q kept → All Q changes → All Q (survivors_from kept changes)
  survivors-all kept [] h k = h
  survivors-all kept (RolledBack name ∷ changes) h k = survivors-all (rolled_back name kept) changes (rolled_back-all name kept h) (All-tail Q (RolledBack name) changes k)
  survivors-all kept (Released name ∷ changes) h k = survivors-all (released name kept) changes (released-all name kept h) (All-tail Q (Released name) changes k)
  survivors-all kept (Saved name ∷ changes) h k = survivors-all (kept ++ Saved name ∷ []) changes (one-more Q kept (Saved name) h (All-head Q (Saved name) changes k)) (All-tail Q (Saved name) changes k)
  survivors-all kept (Acted action ∷ changes) h k = survivors-all (kept ++ Acted action ∷ []) changes (one-more Q kept (Acted action) h (All-head Q (Acted action) changes k)) (All-tail Q (Acted action) changes k)
  survivors-all kept (Noted note ∷ changes) h k = survivors-all (kept ++ Noted note ∷ []) changes (one-more Q kept (Noted note) h (All-head Q (Noted note) changes k)) (All-tail Q (Noted note) changes k)

acted : (changes : List Change) → All IsOneLineChange changes → All IsOneLineAction (filter_map acted_action changes)
acted [] h = All-nil IsOneLineAction
acted (Acted action ∷ changes) h = All-cons IsOneLineAction action (filter_map acted_action changes) (All-head IsOneLineChange (Acted action) changes h) (acted changes (All-tail IsOneLineChange (Acted action) changes h))
acted (change ∷ changes) h = acted changes (All-tail IsOneLineChange change changes h)

noted : (changes : List Change) → All IsOneLineChange changes → All IsOneLineNote (filter_map noted_note changes)
noted [] h = All-nil IsOneLineNote
noted (Noted note ∷ changes) h = All-cons IsOneLineNote note (filter_map noted_note changes) (All-head IsOneLineChange (Noted note) changes h) (noted changes (All-tail IsOneLineChange (Noted note) changes h))
noted (change ∷ changes) h = noted changes (All-tail IsOneLineChange change changes h)

actions-of : (changes : List Change) → All IsOneLineChange changes → All IsOneLineAction (surviving_actions changes)
actions-of changes h = acted (survivors changes) (survivors-all IsOneLineChange [] changes (All-nil IsOneLineChange) h)

firsts-all : (seen notes : List Note) → All IsOneLineNote notes → All IsOneLineNote (firsts_after seen notes)
firsts-all seen [] h = h
firsts-all seen (note ∷ notes) h =
    let rest : All IsOneLineNote notes = All-tail IsOneLineNote note notes h in
    either (λ (ns : List Note). All IsOneLineNote ns) (list_any (same_note note) seen) (firsts_after seen notes) (note ∷ firsts_after (seen ++ note ∷ []) notes)
    (firsts-all seen notes rest) (All-cons IsOneLineNote note (firsts_after (seen ++ note ∷ []) notes) (All-head IsOneLineNote note notes h) (firsts-all (seen ++ note ∷ []) notes rest))

notes-of : (changes : List Change) → All IsOneLineChange changes → All IsOneLineNote (firsts (surviving_notes changes))
notes-of changes h = firsts-all [] (surviving_notes changes) (noted (survivors changes) (survivors-all IsOneLineChange [] changes (All-nil IsOneLineChange) h))

after-one : (set : List (List ℕ)) (action : Action) → All IsOneLine set → IsOneLineAction action → All IsOneLine (after_action set action)
after-one set (Listen channel) h k = either (λ (names : List (List ℕ)). All IsOneLine names) (has_name set channel) set (set ++ channel ∷ []) h (one-more IsOneLine set channel h k)
after-one set (Unlisten channel) h k = All-filter (λ other. not (bytes_eq channel other)) IsOneLine set h
after-one set UnlistenAll h k = All-nil IsOneLine

after-all : (set : List (List ℕ)) (actions : List Action) → All IsOneLine set → All IsOneLineAction actions → All IsOneLine (applied set actions)
after-all set [] h k = h
after-all set (action ∷ actions) h k = after-all (after_action set action) actions (after-one set action h (All-head IsOneLineAction action actions k)) (All-tail IsOneLineAction action actions k)

changes-by : (c : Command) → IsOneLineCommand c → All IsOneLineChange (changes_of c)
changes-by (command.Savepoint name) h = All-cons IsOneLineChange (Saved name) [] tt (All-nil IsOneLineChange)
changes-by (command.RollbackTo name) h = All-cons IsOneLineChange (RolledBack name) [] tt (All-nil IsOneLineChange)
changes-by (command.Release name) h = All-cons IsOneLineChange (Released name) [] tt (All-nil IsOneLineChange)
changes-by (command.Listen name) h = All-cons IsOneLineChange (Acted (Listen name)) [] h (All-nil IsOneLineChange)
changes-by (command.Unlisten name) h = All-cons IsOneLineChange (Acted (Unlisten name)) [] tt (All-nil IsOneLineChange)
changes-by command.UnlistenAll h = All-cons IsOneLineChange (Acted UnlistenAll) [] tt (All-nil IsOneLineChange)
changes-by (command.Notify note) h = All-cons IsOneLineChange (Noted note) [] h (All-nil IsOneLineChange)
changes-by (command.PgNotify note) h = All-cons IsOneLineChange (Noted note) [] h (All-nil IsOneLineChange)
changes-by other h = All-nil IsOneLineChange

-- What a command comes to.

abbrev IsOneLineOutcome : Outcome → Type 0
IsOneLineOutcome (Refuses refusal next) = IsOneLineItem (Refuse refusal)
IsOneLineOutcome (GivesChannels names) = All IsOneLine names
IsOneLineOutcome outcome = Unit {0}

column : (state : BlockState) (idle in_block failed : Outcome) → IsOneLineOutcome idle → IsOneLineOutcome in_block → IsOneLineOutcome failed → IsOneLineOutcome (in_state state idle in_block failed)
column Idle idle in_block failed a b c = a
column InBlock idle in_block failed a b c = b
column Failed idle in_block failed a b c = c

answered : (state : BlockState) (live set : List (List ℕ)) (c : Command) → IsOneLineCommand c → All IsOneLine set → IsOneLineOutcome (answer state live set c)
answered state live set command.Begin h k = column state _ _ _ tt tt tt
answered state live set command.Start h k = column state _ _ _ tt tt tt
answered state live set command.Commit h k = column state _ _ _ tt tt tt
answered state live set command.Rollback h k = column state _ _ _ tt tt tt
answered state live set (command.Savepoint name) h k = column state _ _ _ tt tt tt
answered state live set (command.RollbackTo name) h k = either IsOneLineOutcome (has_name live name) _ _ (column state _ _ _ tt tt tt) (column state _ _ _ tt h h)
answered state live set (command.Release name) h k = either IsOneLineOutcome (has_name live name) _ _ (column state _ _ _ tt tt tt) (column state _ _ _ tt h tt)
answered state live set (command.Listen name) h k = column state _ _ _ tt tt tt
answered state live set (command.Unlisten name) h k = column state _ _ _ tt tt tt
answered state live set command.UnlistenAll h k = column state _ _ _ tt tt tt
answered state live set (command.Notify note) h k = column state _ _ _ tt tt tt
answered state live set (command.PgNotify note) h k = column state _ _ _ tt tt tt
answered state live set command.ListeningChannels h k = column state _ _ _ k k tt
answered state live set command.QueueUsage h k = column state _ _ _ tt tt tt
answered state live set (command.Invalid which) h k = column state _ _ _ tt tt tt
answered state live set (command.Bad at) h k = column state _ _ _ tt tt tt
answered state live set command.Empty h k = column state _ _ _ tt tt tt

listed : (changes : List Change) (c : Command) (outcome : Outcome) → All IsOneLineChange changes → IsOneLineCommand c → All IsOneLineChange (list_after changes c outcome)
listed changes c (Commits done) h k = All-nil IsOneLineChange
listed changes c (Replies done warning InBlock) h k = All-append IsOneLineChange changes (changes_of c) h (changes-by c k)
listed changes c (Replies done warning Idle) h k = All-nil IsOneLineChange
listed changes c (Replies done warning Failed) h k = All-nil IsOneLineChange
listed changes c (Refuses refusal next) h k = h
listed changes c Silent h k = h
listed changes c (GivesChannels names) h k = h
listed changes c GivesUsage h k = h

-- What the walk carries.

abbrev IsOneLineEnding : Ending → Type 0
IsOneLineEnding (Replied done warning) = Unit {0}
IsOneLineEnding (Refused refusal) = IsOneLineItem (Refuse refusal)

abbrev pub IsOneLineOwed : Owed → Type 0
IsOneLineOwed (Enlisting actions notes ending) = All IsOneLineAction actions × All IsOneLineNote notes × IsOneLineEnding ending
IsOneLineOwed (Queueing actions notes ending) = All IsOneLineAction actions × All IsOneLineNote notes × IsOneLineEnding ending
IsOneLineOwed (Leaving ending) = IsOneLineEnding ending
IsOneLineOwed (Answering ending) = IsOneLineEnding ending
IsOneLineOwed (Listing names ending) = All IsOneLine names × IsOneLineEnding ending
IsOneLineOwed (Measuring ending) = IsOneLineEnding ending
IsOneLineOwed owed = Unit {0}

abbrev pub IsOneLineScript : ScriptLine → Type 0
IsOneLineScript line = IsOneLineAct line.act

pub record HasOneLines (s : State) : Type 0 where
  pub rest : All IsOneLineScript s.rest
  pub changes : All IsOneLineChange s.changes
  pub set : All IsOneLine s.set
  pub owed : IsOneLineOwed s.owed

pub at-start : (section : Section) → All IsOneLineScript section.lines → HasOneLines (start section)
at-start section h = record { rest = h; changes = All-nil IsOneLineChange; set = All-nil IsOneLine; owed = tt }

at-owed : (s : State) (owed : Owed) → HasOneLines s → IsOneLineOwed owed → HasOneLines (record s { owed = owed })
at-owed s owed h k = record { rest = h.rest; changes = h.changes; set = h.set; owed = k }

at-either : (b : Bool) (x y : State) → HasOneLines x → HasOneLines y → HasOneLines (if b then x else y)
at-either true x y h k = h
at-either false x y h k = k

answering : (s : State) (ending : Ending) → HasOneLines s → IsOneLineEnding ending → HasOneLines (leaving_or_answering s ending)
answering s ending h k = at-either (is_some s.mark && is_empty_set s.set) (record s { owed = Leaving ending }) (record s { owed = Answering ending }) (at-owed s (Leaving ending) h k) (at-owed s (Answering ending) h k)

settling : (s : State) (actions : List Action) (ending : Ending) → HasOneLines s → All IsOneLineAction actions → IsOneLineEnding ending → HasOneLines (settled s actions ending)
settling s actions ending h a k = answering (record s { set = applied s.set actions }) ending (record { rest = h.rest; changes = h.changes; set = after-all s.set actions h.set a; owed = h.owed }) k

queueing : (s : State) (actions : List Action) (notes : List Note) (ending : Ending) → HasOneLines s → All IsOneLineAction actions → All IsOneLineNote notes → IsOneLineEnding ending → HasOneLines (queueing_or_settled s actions notes ending)
queueing s actions [] ending h a n k = settling s actions ending h a k
queueing s actions (note ∷ notes) ending h a n k = at-owed s (Queueing actions (note ∷ notes) ending) h (a, n, k)

commits : (s : State) (changes : List Change) (ending : Ending) → HasOneLines s → All IsOneLineChange changes → IsOneLineEnding ending → HasOneLines (committing s changes ending)
commits s changes ending h c k =
    let actions : List Action = surviving_actions changes in
    let notes : List Note = firsts (surviving_notes changes) in
    at-either (list_any is_listen actions && is_none s.mark) (record s { owed = Enlisting actions notes ending }) (queueing_or_settled s actions notes ending)
    (at-owed s (Enlisting actions notes ending) h (actions-of changes c, notes-of changes c, k)) (queueing s actions notes ending h (actions-of changes c) (notes-of changes c) k)

owes : (s : State) (changes : List Change) (outcome : Outcome) → HasOneLines s → All IsOneLineChange changes → IsOneLineOutcome outcome → HasOneLines (owing s changes outcome)
owes s changes (Commits done) h c k = commits s changes (Replied done None) h c tt
owes s changes (Replies done warning next) h c k = at-owed s (Answering (Replied done warning)) h tt
owes s changes (Refuses refusal next) h c k = at-owed s (Answering (Refused refusal)) h k
owes s changes Silent h c k = h
owes s changes (GivesChannels names) h c k = at-owed s _ h (k, tt)
owes s changes GivesUsage h c k = at-owed s _ h tt

at-this_act : (s : State) (act : Act) → HasOneLines s → IsOneLineAct act → HasOneLines (at_act s act)
at-this_act s (Run c) h k =
    let outcome : Outcome = answer s.block (live_names s.changes) s.set c in
    let next : State = record s { block = next_state s.block outcome; changes = list_after s.changes c outcome } in
    owes next (s.changes ++ changes_of c) outcome (record { rest = h.rest; changes = listed s.changes c outcome h.changes k; set = h.set; owed = h.owed })
    (All-append IsOneLineChange s.changes (changes_of c) h.changes (changes-by c k)) (answered s.block (live_names s.changes) s.set c k h.set)
at-this_act s (Signal flag) h k = at-owed s (Raising flag) h tt
at-this_act s (Await flag) h k = at-owed s (Awaiting flag) h tt
at-this_act s Quit h k =
    let ended : State = record s { block = Idle; changes = []; set = [] } in
    let one : HasOneLines ended = record { rest = h.rest; changes = All-nil IsOneLineChange; set = All-nil IsOneLine; owed = h.owed } in
    at-either (is_some s.mark) (record ended { owed = Quitting }) ended (at-owed ended Quitting one tt) one

at-this_line : (s : State) (lines : List ScriptLine) → HasOneLines s → All IsOneLineScript lines → HasOneLines (at_line s lines)
at-this_line s [] h all = at-owed s _ h tt
at-this_line s (line ∷ lines) h all =
    at-this_act (record s { rest = lines }) line.act (record { rest = All-tail IsOneLineScript line lines all; changes = h.changes; set = h.set; owed = h.owed }) (All-head IsOneLineScript line lines all)

enlisted : (s : State) (owed : Owed) → HasOneLines s → IsOneLineOwed owed → HasOneLines (at_enlist s owed)
enlisted s (Enlisting actions notes ending) h k = queueing s actions notes ending h k.0 k.1 k.2
enlisted s owed h k = h

published : (s : State) (owed : Owed) → HasOneLines s → IsOneLineOwed owed → HasOneLines (at_publish s owed)
published s (Queueing actions notes ending) h k = settling s actions ending h k.0 k.2
published s owed h k = h

was-full : (s : State) (owed : Owed) → HasOneLines s → IsOneLineOwed owed → HasOneLines (at_full s owed)
was-full s (Queueing actions notes ending) h k = answering s _ h tt
was-full s owed h k = h

left : (s : State) (owed : Owed) → HasOneLines s → IsOneLineOwed owed → HasOneLines (at_leave s owed)
left s (Leaving ending) h k = at-owed s (Answering ending) h k
left s owed h k = at-owed s Nothing h tt

rowed : (s : State) (owed : Owed) → HasOneLines s → IsOneLineOwed owed → HasOneLines (at_rows s owed)
rowed s (Listing names ending) h k = at-owed s (Answering ending) h k.1
rowed s (Measuring ending) h k = at-owed s (Answering ending) h k
rowed s owed h k = h

raised : (value : ℕ) (s : State) (owed : Owed) → HasOneLines s → HasOneLines (at_raise value s owed)
raised value s (Raising flag) h = record { rest = h.rest; changes = h.changes; set = h.set; owed = tt }
raised value s owed h = h

found : (value : ℕ) (s : State) (owed : Owed) → HasOneLines s → HasOneLines (at_found value s owed)
found value s (Awaiting flag) h = record { rest = h.rest; changes = h.changes; set = h.set; owed = tt }
found value s owed h = h

-- after an item
after : (s : State) (item : Item) → HasOneLines s → HasOneLines (after_item s item)
after s (Line n) h = at-this_line s s.rest h h.rest
after s (Enlist base point) h = enlisted (record s { mark = Some point; told = max s.told point; marks = s.marks ++ base ∷ [] ++ point ∷ [] }) s.owed (record { rest = h.rest; changes = h.changes; set = h.set; owed = h.owed }) h.owed
after s (Publish xid notes) h = published (record s { told = max s.told (xid + 1) }) s.owed (record { rest = h.rest; changes = h.changes; set = h.set; owed = h.owed }) h.owed
after s (QueueFull full notes) h =
    was-full (record s { told = max s.told (full.xid + 1); named = s.named ++ holder_at full.holder full.floor_mark }) s.owed (record { rest = h.rest; changes = h.changes; set = h.set; owed = h.owed }) h.owed
after s Leave h = left (record s { mark = None }) s.owed (record { rest = h.rest; changes = h.changes; set = h.set; owed = h.owed }) h.owed
after s (Reply done warning) h = at-owed s Nothing h tt
after s (Refuse refusal) h = at-owed s Nothing h tt
after s (Channels names) h = rowed s s.owed h h.owed
after s (Used usage) h = rowed (record s { named = s.named ++ holder_at usage.holder usage.floor_mark }) s.owed (record { rest = h.rest; changes = h.changes; set = h.set; owed = h.owed }) h.owed
after s (Raise value) h = raised value s s.owed h
after s (Found value) h = found value s s.owed h
after s (TimedOut looks) h = at-owed s Nothing h tt
after s (Read from to got) h = record { rest = h.rest; changes = h.changes; set = h.set; owed = h.owed }

-- What an item shows.

ending-of : (owed : Owed) (ending : Ending) → IsOneLineOwed owed → owed ≡ Answering ending → IsOneLineEnding ending
ending-of owed ending h e = subst IsOneLineOwed e h

names-of : (names : List (List ℕ)) (owed : Owed) → IsOneLineOwed owed → IsListing names owed → All IsOneLine names
names-of names (Listing others ending) h is = subst (λ (ns : List (List ℕ)). All IsOneLine ns) (sym is) h.0
names-of names owed h is = absurd is

queued : (notes : List Note) (owed : Owed) → IsOneLineOwed owed → IsQueueing notes owed → All IsOneLineNote notes
queued notes (Queueing actions others ending) h is = subst (λ (ns : List Note). All IsOneLineNote ns) (sym is) h.1
queued notes owed h is = absurd is

-- no LF stands in the notifications that an item shows as sent
abbrev pub SendsOneLines : Item → Type 0
SendsOneLines (Publish xid notes) = All IsOneLineNote notes
SendsOneLines (QueueFull full notes) = All IsOneLineNote notes
SendsOneLines item = Unit {0}

-- nor in those of a transaction
abbrev pub IsOneLineTx : Tx → Type 0
IsOneLineTx tx = All IsOneLineNote tx.notes

due-all : (db : ℕ) (channels : List (List ℕ)) (x : ℕ) (txs : List Tx) → All IsOneLineTx txs → All (λ delivery. IsOneLineNote delivery.note) (due_from db channels x txs)
due-all db channels x [] h = All-nil (λ (d : Delivery). IsOneLineNote d.note)
due-all db channels x (tx ∷ txs) h =
    All-append (λ (d : Delivery). IsOneLineNote d.note) (delivered_by db channels x tx) (due_from db channels (x + 1) txs) (by (is_committed_in db tx)) (due-all db channels (x + 1) txs (All-tail IsOneLineTx tx txs h))
  where
    by : (b : Bool) → All (λ delivery. IsOneLineNote delivery.note) (cond b (map (delivery x tx.session) (filter (listens channels) tx.notes)) [])
    by true =
        All-map (λ (d : Delivery). IsOneLineNote d.note) (delivery x tx.session) (filter (listens channels) tx.notes)
        (All-filter (listens channels) IsOneLineNote tx.notes (All-head IsOneLineTx tx txs h))
    by false = All-nil (λ (d : Delivery). IsOneLineNote d.note)

module _ (journal : List Tx) where
  -- an item sends notifications of one line where the session's state has no others
  pub sends : (terms : Terms) (s : State) (item : Item) → Allowed terms journal s item → HasOneLines s → SendsOneLines item
  sends terms s (Publish xid notes) k h = queued notes s.owed h.owed k.expected
  sends terms s (QueueFull full notes) k h = queued notes s.owed h.owed k.expected
  sends terms s item k h = tt

  -- an item shows a text of one line where the journal and the session's state have no others
  pub shows : All IsOneLineTx journal → (terms : Terms) (s : State) (item : Item) → Allowed terms journal s item → HasOneLines s → IsOneLineItem item
  shows all terms s (Refuse refusal) k h = ending-of s.owed (Refused refusal) h.owed k
  shows all terms s (Channels names) k h = names-of names s.owed h.owed k
  shows all terms s (Read from to got) k h =
      subst (λ (ds : List Delivery). All (λ d. IsOneLineNote d.note) ds) (sym k.received)
      (due-all terms.section.db s.set from (entries_between journal from to) (All-drop IsOneLineTx (from - FIRST_XID) (take (to - FIRST_XID) journal) (All-take IsOneLineTx (to - FIRST_XID) journal all)))
  shows all terms s item k h = tt

  -- along the items of a lawful trace, of which each shows so much in the state before it
  along : (Q : Item → Type 0) (terms : Terms) → ((s : State) (item : Item) → Allowed terms journal s item → HasOneLines s → Q item) → (s : State) (items : List Item) → Along after_item (Allowed terms journal) s items → HasOneLines s → All Q items
  along Q terms each s [] k h = All-nil Q
  along Q terms each s (item ∷ items) k h = All-cons Q item items (each s item k.0 h) (along Q terms each (after_item s item) items k.1 (after s item h))

  -- of all traces
  pub along-all : (settings : Settings) (flags : ℕ) (Q : Item → Type 0) → ((terms : Terms) (s : State) (item : Item) → Allowed terms journal s item → HasOneLines s → Q item)
      → (sections : List Section) (traces : List Trace) → All (IsSoundSection flags) sections → EachTrace settings (λ terms trace. TraceOk terms trace journal) sections traces → All (λ trace. All Q trace.items) traces
  along-all settings flags Q each [] [] sound ok = All-nil (λ (t : Trace). All Q t.items)
  along-all settings flags Q each [] (trace ∷ traces) sound ok = absurd ok
  along-all settings flags Q each (section ∷ sections) [] sound ok = absurd ok
  along-all settings flags Q each (section ∷ sections) (trace ∷ traces) sound ok =
      let terms : Terms = record { section = section; settings = settings } in
      let here : IsSoundSection flags section = All-head (IsSoundSection flags) section sections sound in
      All-cons (λ (t : Trace). All Q t.items) trace traces (along Q terms (each terms) (start section) trace.items ok.0.lawful (at-start section (λ k d lt. (here.one_line_texts k d lt).1)))
      (along-all settings flags Q each sections traces (All-tail (IsSoundSection flags) section sections sound) ok.1)
