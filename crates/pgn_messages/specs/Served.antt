-- What a client of a service is answered, byte by byte: as a server puts it.
use Rattle.std.specs.Prelude.{ℕ, ◌+◌, cond, bytes_eq, nat_le, List, [], ◌++◌, codes, decimal, flat_map, length}
use Rattle.std.specs.Str.{str_to_ascii_lowercase}
use Rattle.pgn_base.specs.declared.limits.TheConstants.{NAME_BYTES_MAX, PID_BASE}
use Rattle.pgn_base.specs.declared.answers.Refusal.{Refusal}
use Rattle.pgn_base.specs.declared.answers.Refusal.TheVariants.{Syntax, Bounds, Aborted, QueueFull}
use Rattle.pgn_base.specs.declared.command.Command.{Command}
use Rattle.pgn_base.specs.declared.command.Command.TheVariants.{Listen, Notify, PgNotify, Release, RollbackTo, Savepoint, Unlisten}
use Rattle.pgn_answers.specs.declared.block_state.BlockState.{BlockState}
use Rattle.pgn_answers.specs.declared.block_state.BlockState.TheVariants.{Idle, InBlock, Failed}
use Rattle.pgn_model.specs.declared.item.Item.{Item}
use Rattle.pgn_model.specs.declared.item.Item.TheVariants.{Reply, Refuse, Channels, Used, Read}
use Rattle.pgn_language.specs.Grammar.{cut}
use Rattle.pgn_language.specs.Tokens.{Lexeme, Token, Quoted, Word, tokens}
use Rattle.pgn_messages.specs.Server.{columns, complete, completed, cut_notice, described, error, error_of, fraction, notification, ready, row, status}
use Rattle.pgn_messages.specs.Messages.{first_message, notices}
use Rattle.pgn_requests.specs.declared.complaint.Complaint.{Complaint}
use Rattle.pgn_requests.specs.declared.complaint.Wording.{Wording}
use Rattle.pgn_requests.specs.declared.complaint.Wording.TheVariants.{Called, Refused}
use Rattle.pgn_requests.specs.declared.setting.Setting.{Setting}
use Rattle.pgn_requests.specs.declared.settings.Entry.{Entry}
use Rattle.pgn_requests.specs.declared.settled.Settled.{Settled}
use Rattle.pgn_requests.specs.declared.settled.Settled.TheVariants.{Shows, One, Version, Process}
use Rattle.pgn_requests.specs.Settings.{Kept, reported_settings, set_back, setting_name, settled_kept, value_in}
use Rattle.pgn_requests.specs.Settled.{cause_code, settled_tag, version_text}
use Rattle.pgn_messages.specs.declared.asked.Asked.{Asked}

-- the column of a call of pg_notify: its type is void
abbrev pub call_column : List ℕ
call_column = described (codes "pg_notify") 2278 4

-- what stands before the tag that answers a command: a call of pg_notify has a row with an empty text
abbrev pub call_rows : Command → List ℕ
call_rows (PgNotify note) = call_column ++ row []
call_rows other = []

-- a refusal that is told by this
abbrev pub complained : Complaint → List ℕ
complained complaint = error_of (cause_code complaint.cause) complaint.text

-- what a client is told of a refusal of its line: a call of pg_notify has its row before a full queue is found, and its column before a limit
abbrev pub told_refusal : Command → Wording → Refusal → List ℕ
told_refusal command wording QueueFull = call_rows command ++ error QueueFull
told_refusal command Called (Bounds which) = call_column ++ error (Bounds which)
told_refusal command (Refused complaint) (Syntax at) = complained complaint
told_refusal command (Refused complaint) (Bounds which) = complained complaint
told_refusal command wording refusal = error refusal

-- the messages of an item of a query's line
abbrev pub told_item : Asked → Item → List ℕ
told_item query (Reply tag warning) = notices warning ++ call_rows query.command ++ complete tag
told_item query (Refuse refusal) = told_refusal query.command query.wording refusal
told_item query (Channels names) = columns (codes "pg_listening_channels") ++ flat_map row names
told_item query (Used usage) = described (codes "pg_notification_queue_usage") 701 8 ++ row (fraction usage)
told_item query (Read from to got) = flat_map notification got
told_item query item = []

-- the name of a command that is an identifier in its text
abbrev pub identifier_in : Command → List ℕ
identifier_in (Listen name) = name
identifier_in (Unlisten name) = name
identifier_in (Notify note) = note.channel
identifier_in (Savepoint name) = name
identifier_in (RollbackTo name) = name
identifier_in (Release name) = name
identifier_in other = []

-- the notice that a name is cut, where it is
abbrev pub name_notice : List ℕ → List ℕ
name_notice name = cond (nat_le (length name) NAME_BYTES_MAX) [] (cut_notice name (cut NAME_BYTES_MAX name))

-- that of a token: a word is told in lower case
abbrev pub lexeme_notice : Lexeme → List ℕ
lexeme_notice (Word text) = name_notice (str_to_ascii_lowercase text)
lexeme_notice (Quoted text) = name_notice text
lexeme_notice other = []

abbrev pub token_notice : Token → List ℕ
token_notice token = lexeme_notice token.lexeme

-- the notices of a query, in whose text an identifier may be cut: a character has at most four bytes, so a cut name has 60 at least
abbrev pub cut_notices : Asked → List ℕ
cut_notices query = cond (nat_le 60 (length (identifier_in query.command))) (flat_map token_notice (tokens query.text)) []

-- the whole answer to a query: what is cut in it, the messages of the items of its line, and ReadyForQuery with the block's state after them
abbrev pub told_answer : Asked → List Item → BlockState → List ℕ
told_answer query items state = cut_notices query ++ first_message query.command ++ flat_map (told_item query) items ++ ready state

-- the message of a setting that has another value now
abbrev pub changed_status : List Entry → List Entry → Setting → List ℕ
changed_status old new setting = cond (bytes_eq (value_in old setting) (value_in new setting)) [] (status (setting_name setting) (value_in new setting))

-- a message for each reported setting that changed
abbrev pub statuses : Kept → Kept → List ℕ
statuses old new = flat_map (changed_status old.now new.now) reported_settings

-- the row of what is settled, where it has one, for the client of a seat with this number. The types are text, and a number of four bytes
abbrev pub settled_rows : ℕ → Settled → Kept → List ℕ
settled_rows seat (Shows setting) kept = columns (setting_name setting) ++ row (value_in kept.now setting)
settled_rows seat One kept = described (codes "?column?") 23 4 ++ row (codes "1")
settled_rows seat Version kept = columns (codes "version") ++ row version_text
settled_rows seat Process kept = described (codes "pg_backend_pid") 23 4 ++ row (decimal (PID_BASE + seat))
settled_rows seat other kept = []

-- the answer where it is done
abbrev pub settled_done : ℕ → Settled → Kept → BlockState → List ℕ
settled_done seat settled kept state = settled_rows seat settled kept ++ completed (settled_tag settled) ++ statuses kept (settled_kept settled kept) ++ ready state

-- the whole answer to what is settled without the session, in a state of the block: in a failed one it is refused
abbrev pub settled_answer : ℕ → Settled → Kept → BlockState → List ℕ
settled_answer seat settled kept Idle = settled_done seat settled kept Idle
settled_answer seat settled kept InBlock = settled_done seat settled kept InBlock
settled_answer seat settled kept Failed = error Aborted ++ ready Failed

-- why `DISCARD ALL` is refused in a block
abbrev pub discard_error : List ℕ
discard_error = error_of (codes "25001") (codes "DISCARD ALL cannot run inside a transaction block")

-- the whole answer to `DISCARD ALL`, by the state of the block before it, where this was heard meanwhile
abbrev pub discard_answer : BlockState → Kept → List ℕ → List ℕ
discard_answer Idle kept heard = completed (codes "DISCARD ALL") ++ heard ++ statuses kept (set_back kept) ++ ready Idle
discard_answer InBlock kept heard = discard_error ++ heard ++ ready Failed
discard_answer Failed kept heard = error Aborted ++ heard ++ ready Failed

-- the settings after it
abbrev pub discarded : BlockState → Kept → Kept
discarded Idle kept = set_back kept
discarded InBlock kept = kept
discarded Failed kept = kept
