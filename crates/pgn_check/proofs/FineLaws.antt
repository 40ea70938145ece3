-- What a lawful trace carries from its script can stand in lines: names, notifications, tags and refusals; and its numbers are from
-- the first transaction's on.
use Rattle.std.proofs.Common.{◌≡◌, ℕ, ◌+◌, ◌^◌, ◌<◌, ◌≤◌, max, Bool, true, false, cond, ◌&&◌, not, if◌then◌else◌, is_some, is_none, List, [], ◌∷◌, ◌++◌, length, fold, filter, filter_map, Option, None, Some, IfSome, bytes_eq, subst, arith}
use Rattle.std.specs.Prelude.{All}
use Rattle.std.specs.List.{list_any}
use Rattle.std.proofs.lemmas.List.Elements.{All-nil, All-cons, All-head, All-tail, All-append, All-filter}
use Rattle.pgn_base.specs.declared.limits.TheConstants.{FIRST_XID}
use Rattle.pgn_base.specs.declared.note.Note.{Note}
use Rattle.pgn_base.specs.declared.command.Command.{Command}
use Rattle.pgn_base.specs.declared.command.Command.TheVariants as command
use Rattle.pgn_base.specs.declared.action.Action.{Action}
use Rattle.pgn_base.specs.declared.action.Action.TheVariants.{Listen, Unlisten, UnlistenAll}
use Rattle.pgn_base.specs.Channels.{after_action, applied}
use Rattle.pgn_base.specs.Names.{has_name}
use Rattle.pgn_journal.specs.declared.tx.Tx.{Tx}
use Rattle.pgn_answers.specs.declared.block_state.BlockState.{BlockState}
use Rattle.pgn_answers.specs.declared.block_state.BlockState.TheVariants.{Idle, InBlock, Failed}
use Rattle.pgn_answers.specs.Savepoints.{Change, Saved, Acted, Noted, RolledBack, Released, is_savepoint, is_savepoint_of, has_savepoint, rolled_back, released, survivors_from, survivors, live_names, acted_action, noted_note, surviving_actions, surviving_notes, same_note, firsts_after, firsts, is_listen, changes_of}
use Rattle.pgn_answers.specs.Answers.{Outcome, Commits, Replies, Refuses, Silent, GivesChannels, GivesUsage, in_state, answer, next_state, list_after}
use Rattle.pgn_language.specs.declared.scenario.Act.{Act}
use Rattle.pgn_language.specs.declared.scenario.Act.TheVariants.{Run, Signal, Await, Quit}
use Rattle.pgn_language.specs.declared.scenario.ScriptLine.{ScriptLine}
use Rattle.pgn_model.specs.declared.item.Item.{Item}
use Rattle.pgn_model.specs.declared.item.Item.TheVariants.{Line, Enlist, Publish, QueueFull, Leave, Reply, Refuse, Channels, Used, Raise, Found, TimedOut, Read}
use Rattle.pgn_model.specs.Along.{Along}
use Rattle.pgn_model.specs.Walk.{Terms, State, Owed, Ending, Replied, Refused, Nothing, Enlisting, Queueing, Leaving, Answering, Listing, Measuring, Raising, Awaiting, Quitting, is_empty_set, leaving_or_answering, settled, queueing_or_settled, committing, owing, at_act, at_line, at_enlist, at_publish, at_full, at_leave, at_rows, at_raise, at_found, holder_at, after_item, Allowed, IsNext, IsListing, IsMeasuring}
use Rattle.pgn_reading.specs.Form.{IsLineName, IsLineNote, IsLineTag, IsLineRefusal}

-- What a script names.

-- names and notifications of a command can stand in a line, and so can its place
abbrev pub IsFineCommand : Command → Type 0
IsFineCommand (command.Savepoint name) = IsLineName name
IsFineCommand (command.RollbackTo name) = IsLineName name
IsFineCommand (command.Release name) = IsLineName name
IsFineCommand (command.Listen name) = IsLineName name
IsFineCommand (command.Unlisten name) = IsLineName name
IsFineCommand (command.Notify note) = IsLineNote note
IsFineCommand (command.PgNotify note) = IsLineNote note
IsFineCommand (command.Bad at) = at < 2 ^ 32
IsFineCommand other = Unit {0}

-- an act whose command can be shown in a line
abbrev pub IsFineAct : Act → Type 0
IsFineAct (Run c) = IsFineCommand c
IsFineAct act = Unit {0}

-- a script line whose act can be
abbrev pub IsFineLine : ScriptLine → Type 0
IsFineLine line = IsFineAct line.act

-- What a transaction's list holds.

abbrev IsFineAction : Action → Type 0
IsFineAction (Listen channel) = IsLineName channel
IsFineAction action = Unit {0}

abbrev IsFineChange : Change → Type 0
IsFineChange (Acted action) = IsFineAction action
IsFineChange (Noted note) = IsLineNote note
IsFineChange change = Unit {0}

-- the one or the other
either : {A : Type 0} (Q : A → Type 0) (b : Bool) (x y : A) → Q x → Q y → Q (cond b x y)
either Q true x y h k = h
either Q false x y h k = k

one-more : {A : Type 0} (Q : A → Type 0) (xs : List A) (x : A) → All Q xs → Q x → All Q (xs ++ x ∷ [])
one-more Q xs x h k = All-append Q xs (x ∷ []) h (All-cons Q x [] k (All-nil Q))

module _ (Q : Change → Type 0) where
  rolled_back-fine : (name : List ℕ) (changes : List Change) → All Q changes → All Q (rolled_back name changes)
  rolled_back-fine name [] h = h
  rolled_back-fine name (change ∷ changes) h =
      let first : Q change = All-head Q change changes h in
      either (λ (cs : List Change). All Q cs) (has_savepoint name changes) (change ∷ rolled_back name changes) (cond (is_savepoint_of name change) (change ∷ []) (change ∷ changes))
      (All-cons Q change (rolled_back name changes) first (rolled_back-fine name changes (All-tail Q change changes h)))
      (either (λ (cs : List Change). All Q cs) (is_savepoint_of name change) (change ∷ []) (change ∷ changes) (All-cons Q change [] first (All-nil Q)) h)

  released-fine : (name : List ℕ) (changes : List Change) → All Q changes → All Q (released name changes)
  released-fine name [] h = h
  released-fine name (change ∷ changes) h =
      let rest : All Q changes = All-tail Q change changes h in
      either (λ (cs : List Change). All Q cs) (has_savepoint name changes) (change ∷ released name changes) (cond (is_savepoint_of name change) (filter (λ later. not (is_savepoint later)) changes) (change ∷ changes))
      (All-cons Q change (released name changes) (All-head Q change changes h) (released-fine name changes rest))
      (either (λ (cs : List Change). All Q cs) (is_savepoint_of name change) (filter (λ later. not (is_savepoint later)) changes) (change ∷ changes) (All-filter (λ later. not (is_savepoint later)) Q changes rest) h)

  survivors-fine : (kept changes : List Change) → All Q kept → All Q changes → All Q (survivors_from kept changes)
  survivors-fine kept [] h k = h
  survivors-fine kept (RolledBack name ∷ changes) h k = survivors-fine (rolled_back name kept) changes (rolled_back-fine name kept h) (All-tail Q (RolledBack name) changes k)
  survivors-fine kept (Released name ∷ changes) h k = survivors-fine (released name kept) changes (released-fine name kept h) (All-tail Q (Released name) changes k)
  survivors-fine kept (Saved name ∷ changes) h k = survivors-fine (kept ++ Saved name ∷ []) changes (one-more Q kept (Saved name) h (All-head Q (Saved name) changes k)) (All-tail Q (Saved name) changes k)
  survivors-fine kept (Acted action ∷ changes) h k = survivors-fine (kept ++ Acted action ∷ []) changes (one-more Q kept (Acted action) h (All-head Q (Acted action) changes k)) (All-tail Q (Acted action) changes k)
  survivors-fine kept (Noted note ∷ changes) h k = survivors-fine (kept ++ Noted note ∷ []) changes (one-more Q kept (Noted note) h (All-head Q (Noted note) changes k)) (All-tail Q (Noted note) changes k)

acted-fine : (changes : List Change) → All IsFineChange changes → All IsFineAction (filter_map acted_action changes)
acted-fine [] h = All-nil IsFineAction
acted-fine (Acted action ∷ changes) h = All-cons IsFineAction action (filter_map acted_action changes) (All-head IsFineChange (Acted action) changes h) (acted-fine changes (All-tail IsFineChange (Acted action) changes h))
acted-fine (change ∷ changes) h = acted-fine changes (All-tail IsFineChange change changes h)

noted-fine : (changes : List Change) → All IsFineChange changes → All IsLineNote (filter_map noted_note changes)
noted-fine [] h = All-nil IsLineNote
noted-fine (Noted note ∷ changes) h = All-cons IsLineNote note (filter_map noted_note changes) (All-head IsFineChange (Noted note) changes h) (noted-fine changes (All-tail IsFineChange (Noted note) changes h))
noted-fine (change ∷ changes) h = noted-fine changes (All-tail IsFineChange change changes h)

actions-fine : (changes : List Change) → All IsFineChange changes → All IsFineAction (surviving_actions changes)
actions-fine changes h = acted-fine (survivors changes) (survivors-fine IsFineChange [] changes (All-nil IsFineChange) h)

firsts-fine : (seen notes : List Note) → All IsLineNote notes → All IsLineNote (firsts_after seen notes)
firsts-fine seen [] h = h
firsts-fine seen (note ∷ notes) h =
    let rest : All IsLineNote notes = All-tail IsLineNote note notes h in
    either (λ (ns : List Note). All IsLineNote ns) (list_any (same_note note) seen) (firsts_after seen notes) (note ∷ firsts_after (seen ++ note ∷ []) notes)
    (firsts-fine seen notes rest) (All-cons IsLineNote note (firsts_after (seen ++ note ∷ []) notes) (All-head IsLineNote note notes h) (firsts-fine (seen ++ note ∷ []) notes rest))

notes-fine : (changes : List Change) → All IsFineChange changes → All IsLineNote (firsts (surviving_notes changes))
notes-fine changes h = firsts-fine [] (surviving_notes changes) (noted-fine (survivors changes) (survivors-fine IsFineChange [] changes (All-nil IsFineChange) h))

action-fine : (set : List (List ℕ)) (action : Action) → All IsLineName set → IsFineAction action → All IsLineName (after_action set action)
action-fine set (Listen channel) h k = either (λ (names : List (List ℕ)). All IsLineName names) (has_name set channel) set (set ++ channel ∷ []) h (one-more IsLineName set channel h k)
action-fine set (Unlisten channel) h k = All-filter (λ other. not (bytes_eq channel other)) IsLineName set h
action-fine set UnlistenAll h k = All-nil IsLineName

applied-fine : (set : List (List ℕ)) (actions : List Action) → All IsLineName set → All IsFineAction actions → All IsLineName (applied set actions)
applied-fine set [] h k = h
applied-fine set (action ∷ actions) h k =
    applied-fine (after_action set action) actions (action-fine set action h (All-head IsFineAction action actions k)) (All-tail IsFineAction action actions k)

changes-fine : (c : Command) → IsFineCommand c → All IsFineChange (changes_of c)
changes-fine (command.Savepoint name) h = All-cons IsFineChange (Saved name) [] tt (All-nil IsFineChange)
changes-fine (command.RollbackTo name) h = All-cons IsFineChange (RolledBack name) [] tt (All-nil IsFineChange)
changes-fine (command.Release name) h = All-cons IsFineChange (Released name) [] tt (All-nil IsFineChange)
changes-fine (command.Listen name) h = All-cons IsFineChange (Acted (Listen name)) [] h (All-nil IsFineChange)
changes-fine (command.Unlisten name) h = All-cons IsFineChange (Acted (Unlisten name)) [] tt (All-nil IsFineChange)
changes-fine command.UnlistenAll h = All-cons IsFineChange (Acted UnlistenAll) [] tt (All-nil IsFineChange)
changes-fine (command.Notify note) h = All-cons IsFineChange (Noted note) [] h (All-nil IsFineChange)
changes-fine (command.PgNotify note) h = All-cons IsFineChange (Noted note) [] h (All-nil IsFineChange)
changes-fine other h = All-nil IsFineChange

-- What a command comes to.

abbrev IsFineOutcome : Outcome → Type 0
IsFineOutcome (Commits done) = IsLineTag done
IsFineOutcome (Replies done warning next) = IsLineTag done
IsFineOutcome (Refuses refusal next) = IsLineRefusal refusal
IsFineOutcome Silent = Unit {0}
IsFineOutcome (GivesChannels names) = All IsLineName names
IsFineOutcome GivesUsage = Unit {0}

in_state-fine : (state : BlockState) (idle in_block failed : Outcome) → IsFineOutcome idle → IsFineOutcome in_block → IsFineOutcome failed → IsFineOutcome (in_state state idle in_block failed)
in_state-fine Idle idle in_block failed a b c = a
in_state-fine InBlock idle in_block failed a b c = b
in_state-fine Failed idle in_block failed a b c = c

answer-fine : (state : BlockState) (live set : List (List ℕ)) (c : Command) → IsFineCommand c → All IsLineName set → IsFineOutcome (answer state live set c)
answer-fine state live set command.Begin h k = in_state-fine state _ _ _ tt tt tt
answer-fine state live set command.Start h k = in_state-fine state _ _ _ tt tt tt
answer-fine state live set command.Commit h k = in_state-fine state _ _ _ tt tt tt
answer-fine state live set command.Rollback h k = in_state-fine state _ _ _ tt tt tt
answer-fine state live set (command.Savepoint name) h k = in_state-fine state _ _ _ tt tt tt
answer-fine state live set (command.RollbackTo name) h k = either IsFineOutcome (has_name live name) _ _ (in_state-fine state _ _ _ tt tt tt) (in_state-fine state _ _ _ tt h h)
answer-fine state live set (command.Release name) h k = either IsFineOutcome (has_name live name) _ _ (in_state-fine state _ _ _ tt tt tt) (in_state-fine state _ _ _ tt h tt)
answer-fine state live set (command.Listen name) h k = in_state-fine state _ _ _ tt tt tt
answer-fine state live set (command.Unlisten name) h k = in_state-fine state _ _ _ tt tt tt
answer-fine state live set command.UnlistenAll h k = in_state-fine state _ _ _ tt tt tt
answer-fine state live set (command.Notify note) h k = in_state-fine state _ _ _ tt tt tt
answer-fine state live set (command.PgNotify note) h k = in_state-fine state _ _ _ (omega arith) (omega arith) tt
answer-fine state live set command.ListeningChannels h k = in_state-fine state _ _ _ k k tt
answer-fine state live set command.QueueUsage h k = in_state-fine state _ _ _ tt tt tt
answer-fine state live set (command.Invalid which) h k = in_state-fine state _ _ _ tt tt tt
answer-fine state live set (command.Bad at) h k = in_state-fine state _ _ _ h h h
answer-fine state live set command.Empty h k = in_state-fine state _ _ _ tt tt tt

list-fine : (changes : List Change) (c : Command) (outcome : Outcome) → All IsFineChange changes → IsFineCommand c → All IsFineChange (list_after changes c outcome)
list-fine changes c (Commits done) h k = All-nil IsFineChange
list-fine changes c (Replies done warning InBlock) h k = All-append IsFineChange changes (changes_of c) h (changes-fine c k)
list-fine changes c (Replies done warning Idle) h k = All-nil IsFineChange
list-fine changes c (Replies done warning Failed) h k = All-nil IsFineChange
list-fine changes c (Refuses refusal next) h k = h
list-fine changes c Silent h k = h
list-fine changes c (GivesChannels names) h k = h
list-fine changes c GivesUsage h k = h

-- What the walk carries.

-- an end of an answer that can be
abbrev pub IsFineEnding : Ending → Type 0
IsFineEnding (Replied done warning) = IsLineTag done
IsFineEnding (Refused refusal) = IsLineRefusal refusal

-- what a line still has to show, and can
abbrev pub IsFineOwed : Owed → Type 0
IsFineOwed (Enlisting actions notes ending) = All IsFineAction actions × All IsLineNote notes × IsFineEnding ending
IsFineOwed (Queueing actions notes ending) = All IsFineAction actions × All IsLineNote notes × IsFineEnding ending
IsFineOwed (Leaving ending) = IsFineEnding ending
IsFineOwed (Answering ending) = IsFineEnding ending
IsFineOwed (Listing names ending) = All IsLineName names × (length names < 2 ^ 32 → IsFineEnding ending)
IsFineOwed (Measuring ending) = IsFineEnding ending
IsFineOwed owed = Unit {0}

-- a state of which all that can still be shown fits a line, and all numbers are those of transactions
pub record IsFine (s : State) : Type 0 where
  pub rest : All IsFineLine s.rest
  pub changes : All IsFineChange s.changes
  pub set : All IsLineName s.set
  pub told : FIRST_XID ≤ s.told
  pub mark : IfSome s.mark (λ mark. FIRST_XID ≤ mark)
  pub marks : All (λ mark. FIRST_XID ≤ mark) s.marks
  pub raised : All (λ pair. FIRST_XID ≤ pair.1) s.raised
  pub owed : IsFineOwed s.owed

fine-owed : (s : State) (owed : Owed) → IsFine s → IsFineOwed owed → IsFine (record s { owed = owed })
fine-owed s owed h k = record { rest = h.rest; changes = h.changes; set = h.set; told = h.told; mark = h.mark; marks = h.marks; raised = h.raised; owed = k }

fine-if : (b : Bool) (x y : State) → IsFine x → IsFine y → IsFine (if b then x else y)
fine-if true x y h k = h
fine-if false x y h k = k

fine-answering : (s : State) (ending : Ending) → IsFine s → IsFineEnding ending → IsFine (leaving_or_answering s ending)
fine-answering s ending h k = fine-if (is_some s.mark && is_empty_set s.set) (record s { owed = Leaving ending }) (record s { owed = Answering ending }) (fine-owed s (Leaving ending) h k) (fine-owed s (Answering ending) h k)

fine-settled : (s : State) (actions : List Action) (ending : Ending) → IsFine s → All IsFineAction actions → IsFineEnding ending → IsFine (settled s actions ending)
fine-settled s actions ending h a k =
    fine-answering (record s { set = applied s.set actions }) ending
    (record { rest = h.rest; changes = h.changes; set = applied-fine s.set actions h.set a; told = h.told; mark = h.mark; marks = h.marks; raised = h.raised; owed = h.owed }) k

fine-queueing : (s : State) (actions : List Action) (notes : List Note) (ending : Ending) → IsFine s → All IsFineAction actions → All IsLineNote notes → IsFineEnding ending → IsFine (queueing_or_settled s actions notes ending)
fine-queueing s actions [] ending h a n k = fine-settled s actions ending h a k
fine-queueing s actions (note ∷ notes) ending h a n k = fine-owed s (Queueing actions (note ∷ notes) ending) h (a, n, k)

fine-committing : (s : State) (changes : List Change) (ending : Ending) → IsFine s → All IsFineChange changes → IsFineEnding ending → IsFine (committing s changes ending)
fine-committing s changes ending h c k =
    let actions : List Action = surviving_actions changes in
    let notes : List Note = firsts (surviving_notes changes) in
    fine-if (list_any is_listen actions && is_none s.mark) (record s { owed = Enlisting actions notes ending }) (queueing_or_settled s actions notes ending)
    (fine-owed s (Enlisting actions notes ending) h (actions-fine changes c, notes-fine changes c, k)) (fine-queueing s actions notes ending h (actions-fine changes c) (notes-fine changes c) k)

fine-owing : (s : State) (changes : List Change) (outcome : Outcome) → IsFine s → All IsFineChange changes → IsFineOutcome outcome → IsFine (owing s changes outcome)
fine-owing s changes (Commits done) h c k = fine-committing s changes (Replied done None) h c k
fine-owing s changes (Replies done warning next) h c k = fine-owed s (Answering (Replied done warning)) h k
fine-owing s changes (Refuses refusal next) h c k = fine-owed s (Answering (Refused refusal)) h k
fine-owing s changes Silent h c k = h
fine-owing s changes (GivesChannels names) h c k = fine-owed s _ h (k, λ few. few)
fine-owing s changes GivesUsage h c k = fine-owed s _ h (omega arith)

fine-act : (s : State) (act : Act) → IsFine s → IsFineAct act → IsFine (at_act s act)
fine-act s (Run c) h k =
    let outcome : Outcome = answer s.block (live_names s.changes) s.set c in
    let next : State = record s { block = next_state s.block outcome; changes = list_after s.changes c outcome } in
    fine-owing next (s.changes ++ changes_of c) outcome
    (record { rest = h.rest; changes = list-fine s.changes c outcome h.changes k; set = h.set; told = h.told; mark = h.mark; marks = h.marks; raised = h.raised; owed = h.owed })
    (All-append IsFineChange s.changes (changes_of c) h.changes (changes-fine c k)) (answer-fine s.block (live_names s.changes) s.set c k h.set)
fine-act s (Signal flag) h k = fine-owed s (Raising flag) h tt
fine-act s (Await flag) h k = fine-owed s (Awaiting flag) h tt
fine-act s Quit h k =
    let ended : State = record s { block = Idle; changes = []; set = [] } in
    let fine : IsFine ended = record { rest = h.rest; changes = All-nil IsFineChange; set = All-nil IsLineName; told = h.told; mark = h.mark; marks = h.marks; raised = h.raised; owed = h.owed } in
    fine-if (is_some s.mark) (record ended { owed = Quitting }) ended (fine-owed ended Quitting fine tt) fine

fine-line : (s : State) (n : ℕ) (lines : List ScriptLine) → IsFine s → All IsFineLine lines → IsNext n lines → IsFine (at_line s lines)
fine-line s n [] h all next = absurd next
fine-line s n (line ∷ lines) h all next =
    fine-act (record s { rest = lines }) line.act
    (record { rest = All-tail IsFineLine line lines all; changes = h.changes; set = h.set; told = h.told; mark = h.mark; marks = h.marks; raised = h.raised; owed = h.owed }) (All-head IsFineLine line lines all)

fine-enlist : (s : State) (owed : Owed) → IsFine s → IsFineOwed owed → IsFine (at_enlist s owed)
fine-enlist s (Enlisting actions notes ending) h k = fine-queueing s actions notes ending h k.0 k.1 k.2
fine-enlist s owed h k = h

fine-publish : (s : State) (owed : Owed) → IsFine s → IsFineOwed owed → IsFine (at_publish s owed)
fine-publish s (Queueing actions notes ending) h k = fine-settled s actions ending h k.0 k.2
fine-publish s owed h k = h

fine-full : (s : State) (owed : Owed) → IsFine s → IsFineOwed owed → IsFine (at_full s owed)
fine-full s (Queueing actions notes ending) h k = fine-answering s _ h tt
fine-full s owed h k = h

fine-leave : (s : State) (owed : Owed) → IsFine s → IsFineOwed owed → IsFine (at_leave s owed)
fine-leave s (Leaving ending) h k = fine-owed s (Answering ending) h k
fine-leave s owed h k = fine-owed s Nothing h tt

-- the rows of channels are not too many
abbrev pub IsShortItem : Item → Type 0
IsShortItem (Channels names) = length names < 2 ^ 32
IsShortItem item = Unit {0}

fine-channels : (s : State) (names : List (List ℕ)) (owed : Owed) → IsFine s → IsFineOwed owed → IsListing names owed → length names < 2 ^ 32 → IsFine (at_rows s owed)
fine-channels s names (Listing others ending) h k is few = fine-owed s (Answering ending) h (k.1 (subst (λ (ns : List (List ℕ)). length ns < 2 ^ 32) is few))
fine-channels s names owed h k is few = absurd is

fine-usage : (s : State) (owed : Owed) → IsFine s → IsFineOwed owed → IsMeasuring owed → IsFine (at_rows s owed)
fine-usage s (Measuring ending) h k is = fine-owed s (Answering ending) h k
fine-usage s owed h k is = absurd is

fine-raise : (value : ℕ) (s : State) (owed : Owed) → IsFine s → FIRST_XID ≤ value → IsFine (at_raise value s owed)
fine-raise value s (Raising flag) h k = record {
  rest = h.rest;
  changes = h.changes;
  set = h.set;
  told = h.told;
  mark = h.mark;
  marks = h.marks;
  raised = one-more (λ (pair : ℕ × ℕ). FIRST_XID ≤ pair.1) s.raised (flag, value) h.raised k;
  owed = tt;
}
fine-raise value s owed h k = h

fine-found : (value : ℕ) (s : State) (owed : Owed) → IsFine s → IsFine (at_found value s owed)
fine-found value s (Awaiting flag) h = record { rest = h.rest; changes = h.changes; set = h.set; told = omega (arith, h.told); mark = h.mark; marks = h.marks; raised = h.raised; owed = tt }
fine-found value s owed h = h

module _ (terms : Terms) (journal : List Tx) where
  abbrev Low : ℕ → Type 0
  Low n = FIRST_XID ≤ n

  fine-item : (s : State) (item : Item) → Allowed terms journal s item → IsShortItem item → IsFine s → IsFine (after_item s item)
  fine-item s (Line n) k few h = fine-line s n s.rest h h.rest k.next
  fine-item s (Enlist base point) k few h =
      let t : State = record s { mark = Some point; told = max s.told point; marks = s.marks ++ base ∷ [] ++ point ∷ [] } in
      let low : Low point = omega (arith, k.from_first, k.ordered) in
      let marks : All Low t.marks = one-more Low (s.marks ++ base ∷ []) point (one-more Low s.marks base h.marks k.from_first) low in
      fine-enlist t s.owed (record { rest = h.rest; changes = h.changes; set = h.set; told = omega (arith, h.told); mark = low; marks = marks; raised = h.raised; owed = h.owed }) h.owed
  fine-item s (Publish xid notes) k few h =
      let t : State = record s { told = max s.told (xid + 1) } in
      fine-publish t s.owed (record { rest = h.rest; changes = h.changes; set = h.set; told = omega (arith, h.told); mark = h.mark; marks = h.marks; raised = h.raised; owed = h.owed }) h.owed
  fine-item s (QueueFull full notes) k few h =
      let t : State = record s { told = max s.told (full.xid + 1); named = s.named ++ holder_at full.holder full.floor_mark } in
      fine-full t s.owed (record { rest = h.rest; changes = h.changes; set = h.set; told = omega (arith, h.told); mark = h.mark; marks = h.marks; raised = h.raised; owed = h.owed }) h.owed
  fine-item s Leave k few h =
      let t : State = record s { mark = None } in
      fine-leave t s.owed (record { rest = h.rest; changes = h.changes; set = h.set; told = h.told; mark = tt; marks = h.marks; raised = h.raised; owed = h.owed }) h.owed
  fine-item s (Reply done warning) k few h = fine-owed s Nothing h tt
  fine-item s (Refuse refusal) k few h = fine-owed s Nothing h tt
  fine-item s (Channels names) k few h = fine-channels s names s.owed h h.owed k few
  fine-item s (Used usage) k few h =
      let t : State = record s { named = s.named ++ holder_at usage.holder usage.floor_mark } in
      fine-usage t s.owed (record { rest = h.rest; changes = h.changes; set = h.set; told = h.told; mark = h.mark; marks = h.marks; raised = h.raised; owed = h.owed }) h.owed k.expected
  fine-item s (Raise value) k few h = fine-raise value s s.owed h (omega (arith, k.told, h.told))
  fine-item s (Found value) k few h = fine-found value s s.owed h
  fine-item s (TimedOut looks) k few h = fine-owed s Nothing h tt
  fine-item s (Read from to got) k few h =
      let low : Low to = low_to s.mark h.mark k.from_mark in
      record { rest = h.rest; changes = h.changes; set = h.set; told = omega (arith, h.told); mark = low; marks = one-more Low s.marks to h.marks low; raised = h.raised; owed = h.owed }
    where
      low_to : (mark : Option ℕ) → IfSome mark Low → mark ≡ Some from → Low to
      low_to None m is = absurd (let none : ⊥ = cc in none)
      low_to (Some n) m is = let same : n ≡ from = cc in omega (arith, m, same, k.forward)

  -- along a lawful trace whose rows are not too many
  pub fine-along : (s : State) (items : List Item) → Along after_item (Allowed terms journal) s items → All IsShortItem items → IsFine s → Along after_item (λ t item. IsFine t) s items × IsFine (fold after_item s items)
  fine-along s [] k few h = (tt, h)
  fine-along s (item ∷ items) k few h =
      let next : IsFine (after_item s item) = fine-item s item k.0 (All-head IsShortItem item items few) h in
      let rest = fine-along (after_item s item) items k.1 (All-tail IsShortItem item items few) next in
      ((h, rest.0), rest.1)
