-- The tags, and the codes and texts of warnings and refusals.
use Rattle.std.specs.Prelude.{ℕ, List, [], ◌∷◌, ◌++◌, Option, Some, None, codes, decimal}
use Rattle.pgn_base.specs.declared.answers.Tag.{Tag}
use Rattle.pgn_base.specs.declared.answers.Tag.TheVariants as tag
use Rattle.pgn_base.specs.declared.answers.Warning.{Warning}
use Rattle.pgn_base.specs.declared.answers.Warning.TheVariants.{AlreadyInBlock, NotInBlock}
use Rattle.pgn_base.specs.declared.answers.Which.{Which}
use Rattle.pgn_base.specs.declared.answers.Which.TheVariants.{ChannelEmpty, ChannelTooLong, PayloadTooLong}
use Rattle.pgn_base.specs.declared.answers.Needs.{Needs}
use Rattle.pgn_base.specs.declared.answers.Needs.TheVariants as needs
use Rattle.pgn_base.specs.declared.answers.Refusal.{Refusal}
use Rattle.pgn_base.specs.declared.answers.Refusal.TheVariants.{Syntax, Bounds, NeedsBlock, NoSavepoint, Aborted, QueueFull}

-- a command tag
abbrev pub tag_text : Tag → List ℕ
tag_text tag.Begin = codes "BEGIN"
tag_text tag.Start = codes "START TRANSACTION"
tag_text tag.Commit = codes "COMMIT"
tag_text tag.Rollback = codes "ROLLBACK"
tag_text tag.Savepoint = codes "SAVEPOINT"
tag_text tag.Release = codes "RELEASE"
tag_text tag.Listen = codes "LISTEN"
tag_text tag.Unlisten = codes "UNLISTEN"
tag_text tag.Notify = codes "NOTIFY"
tag_text (tag.Select rows) = codes "SELECT " ++ decimal rows

-- a warning's code
abbrev pub warning_code : Warning → List ℕ
warning_code AlreadyInBlock = codes "25001"
warning_code NotInBlock = codes "25P01"

-- a warning's text
abbrev pub warning_message : Warning → List ℕ
warning_message AlreadyInBlock = codes "there is already a transaction in progress"
warning_message NotInBlock = codes "there is no transaction in progress"

-- the text of each limit
abbrev pub bounds_message : Which → List ℕ
bounds_message ChannelEmpty = codes "channel name cannot be empty"
bounds_message ChannelTooLong = codes "channel name too long"
bounds_message PayloadTooLong = codes "payload string too long"

-- a command that can only be used in a block, as it is named there
abbrev pub needs_text : Needs → List ℕ
needs_text needs.Savepoint = codes "SAVEPOINT"
needs_text needs.RollbackTo = codes "ROLLBACK TO SAVEPOINT"
needs_text needs.Release = codes "RELEASE SAVEPOINT"

-- a refusal's code
abbrev pub refusal_code : Refusal → List ℕ
refusal_code (Syntax at) = codes "42601"
refusal_code (Bounds which) = codes "22023"
refusal_code (NeedsBlock what) = codes "25P01"
refusal_code (NoSavepoint name) = codes "3B001"
refusal_code Aborted = codes "25P02"
refusal_code QueueFull = codes "54000"

-- a refusal's text; a savepoint's name stands in it as it is
abbrev pub refusal_message : Refusal → List ℕ
refusal_message (Syntax at) = codes "syntax error at byte " ++ decimal at
refusal_message (Bounds which) = bounds_message which
refusal_message (NeedsBlock what) = needs_text what ++ codes " can only be used in transaction blocks"
refusal_message (NoSavepoint name) = codes "savepoint \"" ++ name ++ codes "\" does not exist"
refusal_message Aborted = codes "current transaction is aborted, commands ignored until end of transaction block"
refusal_message QueueFull = codes "too many notifications in the NOTIFY queue"

-- a warning's code and text
abbrev pub warning_text : Warning → List ℕ
warning_text warning = warning_code warning ++ codes ": " ++ warning_message warning

-- the line of a warning, where there is one
abbrev pub warning_lines : Option Warning → List (List ℕ)
warning_lines None = []
warning_lines (Some warning) = (codes "WARNING: " ++ warning_text warning) ∷ []

-- a refusal's code and text
abbrev pub refusal_text : Refusal → List ℕ
refusal_text refusal = refusal_code refusal ++ codes ": " ++ refusal_message refusal
