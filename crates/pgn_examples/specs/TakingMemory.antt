-- What a step gives, computed.
use Rattle.std.specs.Prelude.{ℕ, List, [], ◌∷◌, Some, None, codes}
use Rattle.pgn_base.specs.declared.note.Note.{Note}
use Rattle.pgn_base.specs.declared.action.Action.TheVariants as action
use Rattle.pgn_base.specs.declared.answers.Tag.TheVariants as tag
use Rattle.pgn_base.specs.declared.answers.Warning.TheVariants.{NotInBlock}
use Rattle.pgn_base.specs.declared.answers.Which.TheVariants.{ChannelEmpty}
use Rattle.pgn_base.specs.declared.answers.Refusal.TheVariants.{Syntax, NoSavepoint, Aborted}
use Rattle.pgn_base.specs.declared.command.Command.{Command}
use Rattle.pgn_base.specs.declared.command.Command.TheVariants as command
use Rattle.pgn_block.specs.declared.effect.Kind.TheVariants.{ListeningChannels, QueueUsage}
use Rattle.pgn_block.specs.declared.effect.Effect.{Effect}
use Rattle.pgn_block.specs.declared.effect.Effect.TheVariants.{Nothing, Reply, Refuse, Commit, Query}

-- this payload on the channel c
abbrev pub on_c : List ℕ → Note
on_c payload = record { channel = codes "c"; payload = payload }

-- LISTEN c; BEGIN; NOTIFY c, 'a'; NOTIFY c, 'b'; NOTIFY c, 'a'; COMMIT
abbrev pub repeats : List Command
repeats = command.Listen (codes "c") ∷ command.Begin ∷ command.Notify (on_c (codes "a")) ∷ command.Notify (on_c (codes "b")) ∷ command.Notify (on_c (codes "a")) ∷ command.Commit ∷ []

-- the LISTEN commits at once, and the block hands out two notifications
abbrev pub repeats_give : List Effect
repeats_give = Commit (action.Listen (codes "c") ∷ []) [] tag.Listen ∷ Reply tag.Begin None ∷ Reply tag.Notify None ∷ Reply tag.Notify None ∷ Reply tag.Notify None
    ∷ Commit [] (on_c (codes "a") ∷ on_c (codes "b") ∷ []) tag.Commit ∷ []

-- BEGIN; LISTEN c; UNLISTEN *; NOTIFY c; COMMIT
abbrev pub registers_and_leaves : List Command
registers_and_leaves = command.Begin ∷ command.Listen (codes "c") ∷ command.UnlistenAll ∷ command.Notify (on_c []) ∷ command.Commit ∷ []

-- both actions are handed out, in order
abbrev pub registers_and_leaves_give : List Effect
registers_and_leaves_give = Reply tag.Begin None ∷ Reply tag.Listen None ∷ Reply tag.Unlisten None ∷ Reply tag.Notify None
    ∷ Commit (action.Listen (codes "c") ∷ action.UnlistenAll ∷ []) (on_c [] ∷ []) tag.Commit ∷ []

-- BEGIN; NOTIFY c, 'a'; ROLLBACK TO s; NOTIFY c, 'b'; a line that is no command; COMMIT; COMMIT
abbrev pub fails : List Command
fails = command.Begin ∷ command.Notify (on_c (codes "a")) ∷ command.RollbackTo (codes "s") ∷ command.Notify (on_c (codes "b")) ∷ command.Bad 7 ∷ command.Commit ∷ command.Commit ∷ []

-- nothing is handed out
abbrev pub fails_give : List Effect
fails_give = Reply tag.Begin None ∷ Reply tag.Notify None ∷ Refuse (NoSavepoint (codes "s")) ∷ Refuse Aborted ∷ Refuse (Syntax 7) ∷ Reply tag.Rollback None
    ∷ Reply tag.Commit (Some NotInBlock) ∷ []

-- an empty line; SELECT pg_listening_channels(); BEGIN; SELECT pg_notification_queue_usage(); ROLLBACK
abbrev pub queries : List Command
queries = command.Empty ∷ command.ListeningChannels ∷ command.Begin ∷ command.QueueUsage ∷ command.Rollback ∷ []

-- the rows are the session's to give
abbrev pub queries_give : List Effect
queries_give = Nothing ∷ Query ListeningChannels ∷ Reply tag.Begin None ∷ Query QueueUsage ∷ Reply tag.Rollback None ∷ []

-- a command of each kind
abbrev pub each_command : List Command
each_command = command.Savepoint (codes "s") ∷ command.Listen (codes "c") ∷ command.Unlisten (codes "c") ∷ command.UnlistenAll ∷ command.Notify (on_c []) ∷ command.PgNotify (on_c [])
    ∷ command.Empty ∷ command.Begin ∷ command.Start ∷ command.Commit ∷ command.Rollback ∷ command.RollbackTo (codes "s") ∷ command.Release (codes "s")
    ∷ command.ListeningChannels ∷ command.QueueUsage ∷ command.Invalid ChannelEmpty ∷ command.Bad 7 ∷ []
