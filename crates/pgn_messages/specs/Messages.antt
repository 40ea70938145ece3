-- A session's trace as messages: for each line of its script that has a command, those of its items, and then ReadyForQuery.
use Rattle.std.specs.Prelude.{ℕ, List, [], ◌∷◌, ◌++◌, codes, flat_map, Option, Some, None}
use Rattle.pgn_base.specs.declared.answers.Warning.{Warning}
use Rattle.pgn_base.specs.declared.command.Command.{Command}
use Rattle.pgn_base.specs.declared.command.Command.TheVariants as command
use Rattle.pgn_answers.specs.declared.block_state.BlockState.{BlockState}
use Rattle.pgn_language.specs.declared.scenario.Act.{Act}
use Rattle.pgn_language.specs.declared.scenario.Act.TheVariants.{Run}
use Rattle.pgn_language.specs.declared.scenario.ScriptLine.{ScriptLine}
use Rattle.pgn_language.specs.declared.scenario.Section.{Section}
use Rattle.pgn_model.specs.declared.item.Item.{Item}
use Rattle.pgn_model.specs.declared.item.Item.TheVariants.{Line, Reply, Refuse, Channels, Used, Read}
use Rattle.pgn_model.specs.Walk.{State, start, after_item}
use Rattle.pgn_messages.specs.Server.{notice, error, columns, row, complete, notification, empty_query, ready, share}

-- the notice of a warning, where there is one
abbrev pub notices : Option Warning → List ℕ
notices None = []
notices (Some warning) = notice warning

-- what stands before the tag that answers a command: a call of pg_notify has a row with an empty text
abbrev pub rows_of : Command → List ℕ
rows_of (command.PgNotify note) = columns (codes "pg_notify") ++ row []
rows_of other = []

-- the messages of an item, in a line with this command
abbrev pub item_messages : Command → Item → List ℕ
item_messages command (Reply tag warning) = notices warning ++ rows_of command ++ complete tag
item_messages command (Refuse refusal) = error refusal
item_messages command (Channels names) = columns (codes "pg_listening_channels") ++ flat_map row names
item_messages command (Used usage) = columns (codes "pg_notification_queue_usage") ++ row (share usage)
item_messages command (Read from to got) = flat_map notification got
item_messages command item = []

-- what stands first in the answer to a command: an empty query is answered by its own message
abbrev pub first_message : Command → List ℕ
first_message command.Empty = empty_query
first_message other = []

-- the whole answer to a query: the messages of the items of its line, and ReadyForQuery with the block's state after them
abbrev pub answer_messages : Command → List Item → BlockState → List ℕ
answer_messages command items state = first_message command ++ flat_map (item_messages command) items ++ ready state

-- the command of an act: only a query has one
abbrev pub act_command : Act → Option Command
act_command (Run command) = Some command
act_command act = None

-- the command of the next line
abbrev pub next_command : List ScriptLine → Option Command
next_command [] = None
next_command (line ∷ lines) = act_command line.act

-- where a line begins
abbrev pub line_begins : Option Command → List ℕ
line_begins None = []
line_begins (Some command) = first_message command

-- within a line
abbrev pub within_line : Option Command → Item → List ℕ
within_line None item = []
within_line (Some command) item = item_messages command item

-- where a line ends, with the block in this state
abbrev pub line_ends : Option Command → BlockState → List ℕ
line_ends None state = []
line_ends (Some command) state = ready state

-- what an item gives, within a line that has this command: where it begins the next line, the end of the one before it, and what stands
-- first in its own answer
abbrev pub step_messages : State → Option Command → Item → List ℕ
step_messages s current (Line n) = line_ends current s.block ++ line_begins (next_command s.rest)
step_messages s current item = within_line current item

-- the command of the line in which an item stands
abbrev pub current_command : State → Option Command → Item → Option Command
current_command s current (Line n) = next_command s.rest
current_command s current item = current

-- the messages of items that are shown from a state of the walk on, within a line that has this command, where it has one
abbrev pub messages_from : State → Option Command → List Item → List ℕ
messages_from s current [] = line_ends current s.block
messages_from s current (item ∷ items) = step_messages s current item ++ messages_from (after_item s item) (current_command s current item) items

-- the messages of a section's trace
abbrev pub messages : Section → List Item → List ℕ
messages section items = messages_from (start section) None items
