-- Worked examples of savepoints, of repeats and of a failed block.
use Rattle.std.specs.Prelude.{ℕ, List, [], ◌∷◌, ◌++◌, Some, None, codes}
use Rattle.std.specs.List.{flat_map}
use Rattle.pgn_base.specs.declared.note.Note.{Note}
use Rattle.pgn_base.specs.declared.action.Action.{Action}
use Rattle.pgn_base.specs.declared.action.Action.TheVariants as action
use Rattle.pgn_base.specs.declared.answers.Tag.TheVariants as tag
use Rattle.pgn_base.specs.declared.answers.Warning.TheVariants.{NotInBlock}
use Rattle.pgn_base.specs.declared.answers.Which.TheVariants.{PayloadTooLong}
use Rattle.pgn_base.specs.declared.answers.Refusal.TheVariants.{Syntax, NoSavepoint, Aborted}
use Rattle.pgn_answers.specs.declared.block_state.BlockState.{BlockState}
use Rattle.pgn_answers.specs.declared.block_state.BlockState.TheVariants.{Idle, InBlock, Failed}
use Rattle.pgn_base.specs.declared.command.Command.{Command}
use Rattle.pgn_base.specs.declared.command.Command.TheVariants.{Empty, Begin, Start, Commit, Rollback, Savepoint, RollbackTo, Release, Listen, Unlisten, UnlistenAll, Notify, PgNotify, ListeningChannels, QueueUsage, Invalid, Bad}
use Rattle.pgn_answers.specs.Savepoints.{Change, Saved, Acted, Noted, changes_of, firsts, surviving_notes, live_names}
use Rattle.pgn_answers.specs.Answers.{Outcome, Commits, Replies, Refuses, answer, next_state, list_after}
use Rattle.pgn_answers.specs.Refusals.{tag_text, warning_lines, refusal_text}

-- the name `s`
abbrev pub s_name : List ℕ
s_name = codes "s"

-- the name `t`
abbrev pub t_name : List ℕ
t_name = codes "t"

-- a notification on the channel `c`
abbrev pub on_c : List ℕ → Note
on_c payload = record { channel = codes "c"; payload = payload }

-- the channel `d`
abbrev pub d_name : List ℕ
d_name = codes "d"

-- a notification on it
abbrev pub on_d : List ℕ → Note
on_d payload = record { channel = d_name; payload = payload }

-- the list of a block with these commands
abbrev pub list_of : List Command → List Change
list_of commands = flat_map changes_of commands

-- what a block with these commands sends
abbrev pub sent_by : List Command → List Note
sent_by commands = firsts (surviving_notes (list_of commands))

-- NOTIFY c, 'a'; NOTIFY c, 'b'; NOTIFY c, 'a'
abbrev pub repeats : List Command
repeats = Notify (on_c (codes "a")) ∷ Notify (on_c (codes "b")) ∷ Notify (on_c (codes "a")) ∷ []

-- SAVEPOINT s; NOTIFY c, 'a'; ROLLBACK TO s; NOTIFY c, 'a'
abbrev pub rolled_back_repeat : List Command
rolled_back_repeat = Savepoint s_name ∷ Notify (on_c (codes "a")) ∷ RollbackTo s_name ∷ Notify (on_c (codes "a")) ∷ []

-- SAVEPOINT s; NOTIFY c, '1'; SAVEPOINT s; NOTIFY c, '2'; RELEASE s; NOTIFY c, '3'; ROLLBACK TO s; NOTIFY c, '4'
abbrev pub savepoints_of_one_name : List Command
savepoints_of_one_name = Savepoint s_name ∷ Notify (on_c (codes "1")) ∷ Savepoint s_name ∷ Notify (on_c (codes "2")) ∷ Release s_name ∷ Notify (on_c (codes "3"))
    ∷ RollbackTo s_name ∷ Notify (on_c (codes "4")) ∷ []

-- SAVEPOINT s; NOTIFY c, '1'; SAVEPOINT inner; NOTIFY c, '2'; RELEASE s
abbrev pub outer_released : List Command
outer_released = Savepoint s_name ∷ Notify (on_c (codes "1")) ∷ Savepoint (codes "inner") ∷ Notify (on_c (codes "2")) ∷ Release s_name ∷ []

-- SAVEPOINT s; NOTIFY c, '1'; ROLLBACK TO s; NOTIFY c, '2'; ROLLBACK TO s; NOTIFY c, '3'
abbrev pub back_twice : List Command
back_twice = Savepoint s_name ∷ Notify (on_c (codes "1")) ∷ RollbackTo s_name ∷ Notify (on_c (codes "2")) ∷ RollbackTo s_name ∷ Notify (on_c (codes "3")) ∷ []

-- a repeat inside a savepoint that is rolled back: NOTIFY c, 'a'; SAVEPOINT s; NOTIFY c, 'a'; NOTIFY c, 'b'; ROLLBACK TO s; NOTIFY c, 'b'
abbrev pub repeat_across : List Command
repeat_across = Notify (on_c (codes "a")) ∷ Savepoint s_name ∷ Notify (on_c (codes "a")) ∷ Notify (on_c (codes "b")) ∷ RollbackTo s_name ∷ Notify (on_c (codes "b")) ∷ []

-- BEGIN; LISTEN d; UNLISTEN *; SELECT pg_notify('c', 'a'); SAVEPOINT s; UNLISTEN d; SELECT pg_notify('c', 'b'); UNLISTEN *; ROLLBACK TO s; UNLISTEN c;
-- NOTIFY d, 'a'; LISTEN c; NOTIFY c, 'a'; SELECT pg_listening_channels(); SELECT pg_notify('d', 'a'); UNLISTEN *; COMMIT
abbrev pub commands_of_each_kind : List Command
commands_of_each_kind = Begin ∷ Listen d_name ∷ UnlistenAll ∷ PgNotify (on_c (codes "a")) ∷ Savepoint s_name ∷ Unlisten d_name ∷ PgNotify (on_c (codes "b")) ∷ UnlistenAll
    ∷ RollbackTo s_name ∷ Unlisten (codes "c") ∷ Notify (on_d (codes "a")) ∷ Listen (codes "c") ∷ Notify (on_c (codes "a")) ∷ ListeningChannels
    ∷ PgNotify (on_d (codes "a")) ∷ UnlistenAll ∷ Commit ∷ []

-- commands that put nothing into the list
abbrev pub commands_without_change : List Command
commands_without_change = Empty ∷ Begin ∷ Start ∷ Commit ∷ Rollback ∷ ListeningChannels ∷ QueueUsage ∷ Invalid PayloadTooLong ∷ Bad 7 ∷ []

-- what survives of the list of commands of each kind
abbrev pub survivors_of_each_kind : List Change
survivors_of_each_kind = Acted (action.Listen d_name) ∷ Acted action.UnlistenAll ∷ Noted (on_c (codes "a")) ∷ Saved s_name ∷ Acted (action.Unlisten (codes "c"))
    ∷ Noted (on_d (codes "a")) ∷ Acted (action.Listen (codes "c")) ∷ Noted (on_c (codes "a")) ∷ Noted (on_d (codes "a")) ∷ Acted action.UnlistenAll ∷ []

-- the actions that its commit hands out
abbrev pub actions_of_each_kind : List Action
actions_of_each_kind = action.Listen d_name ∷ action.UnlistenAll ∷ action.Unlisten (codes "c") ∷ action.Listen (codes "c") ∷ action.UnlistenAll ∷ []

-- what commands come to one after another, from a state of the block and its list
abbrev pub outcomes_from : BlockState → List Change → List Command → List Outcome
outcomes_from state changes [] = []
outcomes_from state changes (command ∷ commands) =
    let outcome = answer state (live_names changes) [] command in
    outcome ∷ outcomes_from (next_state state outcome) (list_after changes command outcome) commands

-- what a session's commands come to
abbrev pub outcomes_of : List Command → List Outcome
outcomes_of commands = outcomes_from Idle [] commands

-- the lines that show an outcome where its commit meets no full queue
abbrev pub outcome_lines : Outcome → List (List ℕ)
outcome_lines (Commits tag) = tag_text tag ∷ []
outcome_lines (Replies tag warning next) = warning_lines warning ++ tag_text tag ∷ []
outcome_lines (Refuses refusal next) = (codes "ERROR: " ++ refusal_text refusal) ∷ []
outcome_lines outcome = []

-- BEGIN; ROLLBACK TO s; NOTIFY c; LISTEN 5; COMMIT; and a further COMMIT
abbrev pub failed_block_commands : List Command
failed_block_commands = Begin ∷ RollbackTo s_name ∷ Notify (on_c []) ∷ Bad 7 ∷ Commit ∷ Commit ∷ []

-- its answers, with the state that each leads to
abbrev pub failed_block_outcomes : List Outcome
failed_block_outcomes = Replies tag.Begin None InBlock ∷ Refuses (NoSavepoint s_name) Failed ∷ Refuses Aborted Failed ∷ Refuses (Syntax 7) Failed
    ∷ Replies tag.Rollback None Idle ∷ Replies tag.Commit (Some NotInBlock) Idle ∷ []

-- their lines
abbrev pub failed_block_text : List ℕ
failed_block_text = codes "BEGIN\nERROR: 3B001: savepoint \"s\" does not exist\nERROR: 25P02: current transaction is aborted, commands ignored until end of transaction block\nERROR: 42601: syntax error at byte 7\nROLLBACK\nWARNING: 25P01: there is no transaction in progress\nCOMMIT\n"

-- BEGIN; SAVEPOINT s; RELEASE t; RELEASE s; ROLLBACK TO t; ROLLBACK TO s; RELEASE s; ROLLBACK TO s; ROLLBACK
abbrev pub back_in_block_commands : List Command
back_in_block_commands = Begin ∷ Savepoint s_name ∷ Release t_name ∷ Release s_name ∷ RollbackTo t_name ∷ RollbackTo s_name ∷ Release s_name ∷ RollbackTo s_name ∷ Rollback ∷ []

-- its answers: the block fails, ROLLBACK TO the live savepoint goes on in it, and it fails again once that is released
abbrev pub back_in_block_outcomes : List Outcome
back_in_block_outcomes = Replies tag.Begin None InBlock ∷ Replies tag.Savepoint None InBlock ∷ Refuses (NoSavepoint t_name) Failed ∷ Refuses Aborted Failed
    ∷ Refuses (NoSavepoint t_name) Failed ∷ Replies tag.Rollback None InBlock ∷ Replies tag.Release None InBlock ∷ Refuses (NoSavepoint s_name) Failed
    ∷ Replies tag.Rollback None Idle ∷ []

-- commands that need a block, outside one: SAVEPOINT s; ROLLBACK TO s; RELEASE s
abbrev pub outside_commands : List Command
outside_commands = Savepoint s_name ∷ RollbackTo s_name ∷ Release s_name ∷ []

-- their lines
abbrev pub outside_text : List ℕ
outside_text = codes "ERROR: 25P01: SAVEPOINT can only be used in transaction blocks\nERROR: 25P01: ROLLBACK TO SAVEPOINT can only be used in transaction blocks\nERROR: 25P01: RELEASE SAVEPOINT can only be used in transaction blocks\n"
