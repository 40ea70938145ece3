-- What is said of what is settled without the session, and of refusals.
use Rattle.std.specs.Prelude.{ℕ, List, codes}
use Rattle.pgn_requests.specs.declared.complaint.Cause.{Cause}
use Rattle.pgn_requests.specs.declared.complaint.Cause.TheVariants.{NoSetting, BadValue, Fixed, Unsupported, BadEncoding, BadMessage}
use Rattle.pgn_requests.specs.declared.settled.Settled.{Settled}
use Rattle.pgn_requests.specs.declared.settled.Settled.TheVariants.{Sets, SetsBack, Resets, ResetsAll, Shows, Deallocates, Closes, One, Version, Process}

-- the tag that ends the answer
abbrev pub settled_tag : Settled → List ℕ
settled_tag (Sets setting value starts) = codes "SET"
settled_tag (SetsBack setting) = codes "SET"
settled_tag (Resets setting) = codes "RESET"
settled_tag ResetsAll = codes "RESET"
settled_tag (Shows setting) = codes "SHOW"
settled_tag Deallocates = codes "DEALLOCATE ALL"
settled_tag Closes = codes "CLOSE CURSOR ALL"
settled_tag One = codes "SELECT 1"
settled_tag Version = codes "SELECT 1"
settled_tag Process = codes "SELECT 1"

-- what the service calls itself
abbrev pub version_text : List ℕ
version_text = codes "PostgreSQL 15.0 (pgnotify)"

-- the code of a refusal
abbrev pub cause_code : Cause → List ℕ
cause_code NoSetting = codes "42704"
cause_code BadValue = codes "22023"
cause_code Fixed = codes "55P02"
cause_code Unsupported = codes "0A000"
cause_code BadEncoding = codes "22021"
cause_code BadMessage = codes "08P01"
