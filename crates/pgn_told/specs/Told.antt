-- What a client sees of a trace, and what it cannot see of a journal.
use Rattle.std.specs.Prelude.{◌≡◌, ℕ, cond, List, [], ◌∷◌, ◌++◌, map, flat_map, Option, All}
use Rattle.pgn_base.specs.declared.answers.Tag.{Tag}
use Rattle.pgn_base.specs.declared.answers.Warning.{Warning}
use Rattle.pgn_base.specs.declared.answers.Refusal.{Refusal}
use Rattle.pgn_base.specs.declared.command.Command.{Command}
use Rattle.pgn_base.specs.declared.note.Note.{Note}
use Rattle.pgn_base.specs.declared.note.Delivery.{Delivery}
use Rattle.pgn_journal.specs.declared.tx.Tx.{Tx}
use Rattle.pgn_journal.specs.Journal.{is_committed}
use Rattle.pgn_language.specs.declared.scenario.Act.TheVariants.{Run, Quit}
use Rattle.pgn_language.specs.declared.scenario.ScriptLine.{ScriptLine}
use Rattle.pgn_language.specs.declared.scenario.Section.{Section}
use Rattle.pgn_model.specs.declared.item.Item.{Item}
use Rattle.pgn_model.specs.declared.item.Item.TheVariants.{Reply, Refuse, Channels, Used, Read}

-- what a client sees
pub data Seen : Type 0 where
  -- an answer, with a warning where there is one
  Answered : (tag : Tag) → (warning : Option Warning) → Seen
  -- a refusal
  Declined : (refusal : Refusal) → Seen
  -- the channels that its session listens to
  Listed : (names : List (List ℕ)) → Seen
  -- how many of the queue's pages are in use, of how many
  Measured : (occupied limit : ℕ) → Seen
  -- a notification, with the process number of its sender
  Received : (pid : ℕ) → (note : Note) → Seen

-- a delivery, but for the number of its transaction
abbrev pub received : Delivery → Seen
received delivery = Received delivery.pid delivery.note

-- what it sees of an item
abbrev pub seen_of : Item → List Seen
seen_of (Reply tag warning) = Answered tag warning ∷ []
seen_of (Refuse refusal) = Declined refusal ∷ []
seen_of (Channels names) = Listed names ∷ []
seen_of (Used usage) = Measured usage.occupied usage.limit ∷ []
seen_of (Read from to got) = map received got
seen_of item = []

-- what it sees of a trace, in order
abbrev pub seen : List Item → List Seen
seen items = flat_map seen_of items

-- a transaction, but for how many notifications of an aborted one were queued
abbrev pub but_queued : Tx → Tx
but_queued tx = cond (is_committed tx.fate) tx (record tx { queued = 0 })

-- the line runs a command
abbrev pub IsQuery : ScriptLine → Type 0
IsQuery line = (command : Command) × (line.act ≡ Run command)

-- the section's script are queries, and then a `\quit`
pub record AsksThenQuits (section : Section) : Type 0 where
  pub queries : List ScriptLine
  pub last : ScriptLine
  pub split : section.lines ≡ queries ++ last ∷ []
  pub run : All IsQuery queries
  pub quits : last.act ≡ Quit
