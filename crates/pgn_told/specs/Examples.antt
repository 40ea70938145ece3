-- What a client sees of a trace, journals that it cannot tell apart, and scripts that are no client's.
use Rattle.std.specs.Prelude.{ℕ, List, [], ◌∷◌, Some, None, codes}
use Rattle.pgn_base.specs.declared.note.Note.{Note}
use Rattle.pgn_base.specs.declared.answers.Tag.TheVariants as tag
use Rattle.pgn_base.specs.declared.answers.Warning.TheVariants.{NotInBlock}
use Rattle.pgn_base.specs.declared.answers.Refusal.TheVariants as refused
use Rattle.pgn_base.specs.declared.command.Command.TheVariants as command
use Rattle.pgn_base.specs.declared.queue_answers.Usage.{Usage}
use Rattle.pgn_journal.specs.declared.tx.Tx.{Tx}
use Rattle.pgn_journal.specs.declared.tx.Fate.TheVariants.{Committed, Aborted}
use Rattle.pgn_language.specs.declared.scenario.Act.TheVariants.{Run, Signal, Quit}
use Rattle.pgn_language.specs.declared.scenario.ScriptLine.{ScriptLine}
use Rattle.pgn_language.specs.declared.scenario.Section.{Section}
use Rattle.pgn_model.specs.declared.item.Item.{Item}
use Rattle.pgn_model.specs.declared.item.Item.TheVariants.{Line, Enlist, Publish, Reply, Refuse, Channels, Used, Read}
use Rattle.pgn_told.specs.Told.{Seen, Answered, Declined, Listed, Measured, Received}

abbrev pub told_note : Note
told_note = record { channel = codes "c"; payload = codes "x" }

abbrev pub told_usage : Usage
told_usage = record { at = 4; occupied = 1; limit = 256; floor_mark = 4; holder = None }

-- a listener that notifies itself, asks for its channels and for the usage, and then for what is no command
abbrev pub told_items : List Item
told_items =
    Line 1 ∷ Enlist 3 3 ∷ Reply tag.Listen None ∷ Line 2 ∷ Publish 3 (told_note ∷ []) ∷ Reply tag.Notify None ∷ Read 3 4 (record { xid = 3; pid = 1001; note = told_note } ∷ [])
    ∷ Line 3 ∷ Channels (codes "c" ∷ []) ∷ Reply (tag.Select 1) None ∷ Line 4 ∷ Used told_usage ∷ Reply (tag.Select 1) None ∷ Line 5 ∷ Reply tag.Commit (Some NotInBlock) ∷ Line 6 ∷ Refuse (refused.Syntax 0) ∷ []

-- what its client sees
abbrev pub told_seen : List Seen
told_seen =
    Answered tag.Listen None ∷ Answered tag.Notify None ∷ Received 1001 told_note ∷ Listed (codes "c" ∷ []) ∷ Answered (tag.Select 1) None ∷ Measured 1 256 ∷ Answered (tag.Select 1) None
    ∷ Answered tag.Commit (Some NotInBlock) ∷ Declined (refused.Syntax 0) ∷ []

-- a transaction of two notifications, so many of which were queued where it met a full queue
abbrev pub cut_short : ℕ → Tx
cut_short queued = record { session = 1; db = 1; notes = told_note ∷ (record told_note { payload = codes "y" }) ∷ []; queued = queued; fate = Aborted }

-- one that committed
abbrev pub went_through : Tx
went_through = record (cut_short 2) { fate = Committed }

abbrev pub told_query : ScriptLine
told_query = record { line = 1; text = codes "LISTEN c"; act = Run (command.Listen (codes "c")) }

abbrev pub told_quit : ScriptLine
told_quit = record { line = 2; text = codes "\\quit"; act = Quit }

abbrev pub told_signal : ScriptLine
told_signal = record { line = 1; text = codes "\\signal f"; act = Signal 0 }

-- a section with these lines
abbrev pub told_section : List ScriptLine → Section
told_section lines = record { no = 1; name = codes "wire"; db = 1; lines = lines; note_lines = 0 }
