-- Proofs of the laws of what a session's next line adds to its trace.
use Rattle.std.proofs.Common.{◌≡◌, ℕ, ◌+◌, max, Bool, true, false, cond, List, [], ◌∷◌, ◌++◌, Some, None, sym, ap, ◌∙◌, refl, subst, append-nil}
use Rattle.pgn_base.specs.declared.answers.Tag.{Tag}
use Rattle.pgn_answers.specs.declared.block_state.BlockState.{BlockState}
use Rattle.pgn_answers.specs.declared.block_state.BlockState.TheVariants.{Idle, InBlock, Failed}
use Rattle.pgn_base.specs.declared.command.Command.{Command}
use Rattle.pgn_language.specs.declared.scenario.Act.{Act}
use Rattle.pgn_language.specs.declared.scenario.Act.TheVariants.{Run, Signal, Await, Quit}
use Rattle.pgn_language.specs.declared.scenario.ScriptLine.{ScriptLine}
use Rattle.pgn_model.specs.declared.item.Item.{Item}
use Rattle.pgn_model.specs.declared.item.Item.TheVariants.{Line, Enlist, Publish, QueueFull, Leave, Reply, Refuse, Channels, Used, Raise, Found, TimedOut, Read}
use Rattle.pgn_answers.specs.Savepoints.{surviving_notes, firsts, changes_of, live_names, Change, surviving_actions}
use Rattle.pgn_answers.specs.Answers.{Outcome, Commits, Replies, Refuses, Silent, GivesChannels, GivesUsage, answer, next_state, list_after}
use Rattle.pgn_model.specs.Walk.{State, start, after_item, Allowed, at_line, holder_at, at_enlist, at_publish, at_full, at_leave, at_rows, at_raise}
use Rattle.pgn_model.specs.Trace.{state_after}
use Rattle.pgn_model.specs.laws.NextLine.{kept_tag, LineIsKept, BlockCommits, OneCommits, NoListOutside}
use Rattle.pgn_model.proofs.GrowingLaws.{Along-keeps}
use Rattle.pgn_base.specs.declared.answers.Refusal.{Refusal}
use Rattle.pgn_base.specs.declared.answers.Refusal.TheVariants.{NoSavepoint, Aborted}
use Rattle.pgn_base.specs.Names.{has_name}
use Rattle.pgn_model.proofs.CarriedLaws.{Carried, carried, begun, block_after_act, list_after_act, block_after_line, list_after_line, carried-line, carried-enlist, carried-publish, carried-full, carried-leave, carried-rows, carried-raise, marks-found}
use Rattle.pgn_base.specs.declared.answers.Tag.TheVariants as tag
use Rattle.pgn_base.specs.declared.command.Command.TheVariants as command
use Rattle.pgn_model.proofs.NextLineLaws.{line-replies, commits}

-- a command that is kept is answered by its tag
kept-replies : (live set : List (List ℕ)) (c : Command) (done : Tag) → kept_tag c ≡ Some done → answer InBlock live set c ≡ Replies done None InBlock
kept-replies live set (command.Listen name) done e = cc
kept-replies live set (command.Unlisten name) done e = cc
kept-replies live set command.UnlistenAll done e = cc
kept-replies live set (command.Notify note) done e = cc
kept-replies live set (command.PgNotify note) done e = cc
kept-replies live set other done e = absurd (let no : ⊥ = cc in no)

-- so does one whose command a block keeps for its commit
pub line-is_kept : LineIsKept
line-is_kept terms journal items s line lines command done h comes in_block kept =
    line-replies terms journal items s line lines command done None InBlock h comes
    (ap (λ (b : BlockState). answer b (live_names s.changes) s.set command) in_block ∙ kept-replies (live_names s.changes) s.set command done kept)

-- outside a block it commits
kept-commits : (live set : List (List ℕ)) (c : Command) (done : Tag) → kept_tag c ≡ Some done → answer Idle live set c ≡ Commits done
kept-commits live set (command.Listen name) done e = cc
kept-commits live set (command.Unlisten name) done e = cc
kept-commits live set command.UnlistenAll done e = cc
kept-commits live set (command.Notify note) done e = cc
kept-commits live set (command.PgNotify note) done e = cc
kept-commits live set other done e = absurd (let no : ⊥ = cc in no)

-- it puts one change into the list, so that its notifications have no repeats
kept-firsts : (c : Command) (done : Tag) → kept_tag c ≡ Some done → firsts (surviving_notes (changes_of c)) ≡ surviving_notes (changes_of c)
kept-firsts (command.Listen name) done e = refl
kept-firsts (command.Unlisten name) done e = refl
kept-firsts command.UnlistenAll done e = refl
kept-firsts (command.Notify note) done e = refl
kept-firsts (command.PgNotify note) done e = refl
kept-firsts other done e = absurd (let no : ⊥ = cc in no)

-- no block is open, so there is no list
abbrev IsClear : BlockState → List Change → Type 0
IsClear block changes = block ≡ Idle → changes ≡ []

clear-same : (s t : State) → carried t ≡ carried s → IsClear s.block s.changes → IsClear t.block t.changes
clear-same s t e h = subst (λ (c : Carried). IsClear c.block c.changes) (sym e) h

-- in a block no refusal leads out of it
refused-idle : (block : BlockState) (live set : List (List ℕ)) (c : Command) (refusal : Refusal) → answer block live set c ≡ Refuses refusal Idle → block ≡ Idle
refused-idle Idle live set c refusal e = refl
refused-idle InBlock live set (command.RollbackTo name) refusal e = absurd (either (has_name live name) e)
  where
    either : (b : Bool) → cond b (Replies tag.Rollback None InBlock) (Refuses (NoSavepoint name) Failed) ≡ Refuses refusal Idle → ⊥
    either true e = cc
    either false e = cc
refused-idle InBlock live set (command.Release name) refusal e = absurd (either (has_name live name) e)
  where
    either : (b : Bool) → cond b (Replies tag.Release None InBlock) (Refuses (NoSavepoint name) Failed) ≡ Refuses refusal Idle → ⊥
    either true e = cc
    either false e = cc
refused-idle InBlock live set c refusal e = absurd (let no : ⊥ = cc in no)
refused-idle Failed live set (command.RollbackTo name) refusal e = absurd (either (has_name live name) e)
  where
    either : (b : Bool) → cond b (Replies tag.Rollback None InBlock) (Refuses (NoSavepoint name) Failed) ≡ Refuses refusal Idle → ⊥
    either true e = cc
    either false e = cc
refused-idle Failed live set (command.Release name) refusal e = absurd (either (has_name live name) e)
  where
    either : (b : Bool) → cond b (Refuses Aborted Failed) (Refuses Aborted Failed) ≡ Refuses refusal Idle → ⊥
    either true e = cc
    either false e = cc
refused-idle Failed live set c refusal e = absurd (let no : ⊥ = cc in no)

clear-outcome : (block : BlockState) (changes : List Change) (c : Command) (outcome : Outcome) → IsClear block changes → ((refusal : Refusal) → outcome ≡ Refuses refusal Idle → block ≡ Idle)
    → IsClear (next_state block outcome) (list_after changes c outcome)
clear-outcome block changes c (Commits done) h out e = refl
clear-outcome block changes c (Replies done warning Idle) h out e = refl
clear-outcome block changes c (Replies done warning InBlock) h out e = absurd (let no : ⊥ = cc in no)
clear-outcome block changes c (Replies done warning Failed) h out e = refl
clear-outcome block changes c (Refuses refusal next) h out e = h (out refusal (ap (λ (b : BlockState). Refuses refusal b) e))
clear-outcome block changes c Silent h out e = h e
clear-outcome block changes c (GivesChannels names) h out e = h e
clear-outcome block changes c GivesUsage h out e = h e

clear-act : (s : State) (act : Act) → IsClear s.block s.changes → IsClear (block_after_act s act) (list_after_act s act)
clear-act s (Run command) h = clear-outcome s.block s.changes command (answer s.block (live_names s.changes) s.set command) h (refused-idle s.block (live_names s.changes) s.set command)
clear-act s (Signal flag) h = h
clear-act s (Await flag) h = h
clear-act s Quit h = λ e. refl

clear-line : (s : State) (lines : List ScriptLine) → IsClear s.block s.changes → IsClear (block_after_line s lines) (list_after_line s lines)
clear-line s [] h = h
clear-line s (line ∷ lines) h = clear-act s line.act h

clear-step : (s : State) (item : Item) → IsClear s.block s.changes → IsClear (after_item s item).block (after_item s item).changes
clear-step s (Line line) h = clear-same (begun s) (at_line s s.rest) (carried-line s s.rest) (clear-line s s.rest h)
clear-step s (Enlist base point) h =
    let before : State = record s { mark = Some point; told = max s.told point; marks = s.marks ++ base ∷ [] ++ point ∷ [] } in
    clear-same before (at_enlist before s.owed) (carried-enlist before s.owed) h
clear-step s (Publish xid notes) h =
    let before : State = record s { told = max s.told (xid + 1) } in
    clear-same before (at_publish before s.owed) (carried-publish before s.owed) h
clear-step s (QueueFull full notes) h =
    let before : State = record s { told = max s.told (full.xid + 1); named = s.named ++ holder_at full.holder full.floor_mark } in
    clear-same before (at_full before s.owed) (carried-full before s.owed) h
clear-step s Leave h =
    let before : State = record s { mark = None } in
    clear-same before (at_leave before s.owed) (carried-leave before s.owed) h
clear-step s (Reply done warning) h = h
clear-step s (Refuse refusal) h = h
clear-step s (Channels names) h = clear-same s (at_rows s s.owed) (carried-rows s s.owed) h
clear-step s (Used usage) h =
    let before : State = record s { named = s.named ++ holder_at usage.holder usage.floor_mark } in
    clear-same before (at_rows before s.owed) (carried-rows before s.owed) h
clear-step s (Raise value) h = clear-same s (at_raise value s s.owed) (carried-raise value s s.owed) h
clear-step s (Found value) h = subst (λ (c : Carried). IsClear c.block c.changes) (sym (marks-found value s s.owed)) h
clear-step s (TimedOut looks) h = h
clear-step s (Read from to got) h = h

-- outside a block the list is empty
pub no_list-outside : NoListOutside
no_list-outside terms journal items s h idle =
    let last : State = state_after terms items in
    let clear : IsClear last.block last.changes = Along-keeps after_item (Allowed terms journal) (λ (t : State). IsClear t.block t.changes) (λ t item p k. clear-step t item k) (start terms.section) items h.lawful (λ e. refl) in
    subst (λ (t : State). IsClear t.block t.changes) h.state clear idle

-- a COMMIT of a block that has not failed: what survives of the list is committed
pub block-commits : BlockCommits
block-commits terms journal s line lines actions notes comes in_block actions_are notes_are = record {
  comes = comes;
  commits = ap (λ (b : BlockState). answer b (live_names s.changes) s.set command.Commit) in_block;
  actions_are = actions_are ∙ ap surviving_actions (sym (append-nil s.changes));
  notes_are = notes_are ∙ ap (λ (cs : List Change). firsts (surviving_notes cs)) (sym (append-nil s.changes));
}

-- a command that is a transaction of its own: what survives of its changes is committed
pub one-commits : OneCommits
one-commits terms journal s line lines c done actions notes comes idle none kept actions_are notes_are = record {
  comes = comes;
  commits = ap (λ (b : BlockState). answer b (live_names s.changes) s.set c) idle ∙ kept-commits (live_names s.changes) s.set c done kept;
  actions_are = actions_are ∙ ap (λ (cs : List Change). surviving_actions (cs ++ changes_of c)) (sym none);
  notes_are = notes_are ∙ sym (kept-firsts c done kept) ∙ ap (λ (cs : List Change). firsts (surviving_notes (cs ++ changes_of c))) (sym none);
}
