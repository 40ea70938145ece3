-- The clients of a seat, one after another, and what they ask.
use Rattle.std.specs.Prelude.{◌≡◌, ℕ, ◌+◌, ◌<◌, ◌⊎◌, Bool, true, false, ◌||◌, ◌==◌, List, [], ◌∷◌, ◌++◌, length, map, Option, Some, None}
use Rattle.pgn_language.specs.Inputs.{note_lines_of}
use Rattle.pgn_queries.specs.declared.limits.TheConstants.{QUERIES_MAX}
use Rattle.pgn_queries.specs.declared.wire_fault.WireFault.TheVariants.{BadLength, BadType, Truncated}
use Rattle.pgn_queries.specs.declared.coming.Coming.TheVariants as coming
use Rattle.pgn_queries.specs.Client.{IsQueryLength, NextIs, Tells, TerminateIs, query_letter, terminate_letter}
use Rattle.pgn_requests.specs.declared.request.Request.{Request}
use Rattle.pgn_requests.specs.declared.request.Request.TheVariants.{Line, Settles, Discards}
use Rattle.pgn_requests.specs.Reading.{RequestIs}
use Rattle.pgn_messages.specs.declared.asked.Ask.{Ask}
use Rattle.pgn_messages.specs.declared.asked.Ask.TheVariants.{Query, Settle, Discard, End}
use Rattle.pgn_messages.specs.declared.asked.Parting.{Parting}
use Rattle.pgn_messages.specs.declared.asked.Parting.TheVariants.{Plain, Refused, Extended, Spent}
use Rattle.pgn_messages.specs.Asks.{lines_for}

-- what was counted of what a seat is asked: the lines of its script, those of them that notify, and how many may
pub record Tally : Type 0 where
  pub lines : ℕ
  pub notes : ℕ
  pub most : ℕ

-- before the first client of a seat of which so many lines may notify
abbrev pub first_tally : ℕ → Tally
first_tally most = record { lines = 0; notes = 0; most = most }

-- after this was asked
abbrev pub after_ask : Tally → Ask → Tally
after_ask tally ask = record { lines = tally.lines + length (lines_for ask); notes = tally.notes + note_lines_of (lines_for ask); most = tally.most }

-- there were more lines, or more of them that notify, than a seat may have
abbrev pub AreTooMany : Tally → Type 0
AreTooMany tally = (QUERIES_MAX < tally.lines) ⊎ (tally.most < tally.notes)

-- a Query comes next, with this body, and these bytes behind it
pub record QueryNext (bytes body rest : List ℕ) : Type 0 where
  pub head : List ℕ
  pub len : ℕ
  pub split : bytes ≡ query_letter ∷ (head ++ (body ++ rest))
  pub tells : Tells head len
  pub may : IsQueryLength len
  pub size : len ≡ 4 + length body

-- a request as a seat is asked it, where the first line that it has gets this number
abbrev pub asked_as : ℕ → Request → Ask
asked_as number (Line text command wording) = Query (record { line = number; text = text; command = command; wording = wording })
asked_as number (Settles settled) = Settle settled
asked_as number Discards = Discard number

-- what a Query with this body asks
abbrev pub AskIs : ℕ → List ℕ → Ask → Type 0
AskIs number body ask = (request : Request) × RequestIs body request × (ask ≡ asked_as number request)

-- the letter of a message of the extended protocol, Parse, Bind, Execute, Describe, Close, Sync, Flush and FunctionCall
abbrev pub is_extended : ℕ → Bool
is_extended letter = letter == 80 || letter == 66 || letter == 69 || letter == 68 || letter == 67 || letter == 83 || letter == 72 || letter == 70

-- these bytes begin with such a letter
abbrev pub begins_extended : List ℕ → Bool
begins_extended [] = false
begins_extended (letter ∷ bytes) = is_extended letter

-- how the bytes of a client end: between two messages, by a Terminate, inside a message, or by what the server ends the conversation for
pub data Close : Type 0 where
  Open : Close
  Left : Close
  Cut : Close
  Wrong : (parting : Parting) → Close

-- what is asked by a client's bytes, and how they end
pub data ClientAsks : Tally → List ℕ → List Ask → Close → Type 0 where
  -- there are no more bytes
  Stops : (tally : Tally) (bytes : List ℕ) → bytes ≡ [] → ClientAsks tally bytes [] Open
  -- a Terminate
  Leaves : (tally : Tally) (bytes more rest : List ℕ) → bytes ≡ terminate_letter ∷ more → TerminateIs 0 coming.End more rest → ClientAsks tally bytes [] Left
  -- they end inside a message
  Cuts : (tally : Tally) (bytes text rest : List ℕ) → NextIs 0 (coming.Fault (Truncated 0)) text bytes rest → ClientAsks tally bytes [] Cut
  -- a message of another type
  NoType : (tally : Tally) (bytes text rest : List ℕ) → NextIs 0 (coming.Fault (BadType 0)) text bytes rest → begins_extended bytes ≡ false → ClientAsks tally bytes [] (Wrong Refused)
  -- one of the extended protocol
  Extends : (tally : Tally) (bytes : List ℕ) → begins_extended bytes ≡ true → ClientAsks tally bytes [] (Wrong Extended)
  -- a wrong length
  NoLength : (tally : Tally) (bytes text rest : List ℕ) → NextIs 0 (coming.Fault (BadLength 0)) text bytes rest → ClientAsks tally bytes [] (Wrong Refused)
  -- with what is asked next there are too many lines
  Exceeds : (tally : Tally) (bytes body rest : List ℕ) (ask : Ask) → QueryNext bytes body rest → AskIs (tally.lines + 1) body ask → AreTooMany (after_ask tally ask)
      → ClientAsks tally bytes [] (Wrong Spent)
  -- the next, and then the others
  Goes : (tally : Tally) (bytes body rest : List ℕ) (ask : Ask) (asks : List Ask) (close : Close) → QueryNext bytes body rest → AskIs (tally.lines + 1) body ask
      → (AreTooMany (after_ask tally ask) → ⊥) → ClientAsks (after_ask tally ask) rest asks close → ClientAsks tally bytes (ask ∷ asks) close

-- what was counted after all of this was asked
abbrev pub after_asks : Tally → List Ask → Tally
after_asks tally [] = tally
after_asks tally (ask ∷ asks) = after_asks (after_ask tally ask) asks

-- how a client parts whose bytes end so, where its end stands behind them
abbrev pub parting_of : Close → Parting
parting_of Open = Plain
parting_of Left = Plain
parting_of Cut = Refused
parting_of (Wrong parting) = parting

-- where the next client begins: behind the lines of those before it and the two that set the seat back
abbrev pub next_client : Tally → List Ask → Tally
next_client tally asks = record (after_asks tally asks) { lines = (after_asks tally asks).lines + 2 }

-- the number of the first of these two
abbrev pub next_line : Tally → List Ask → ℕ
next_line tally asks = (after_asks tally asks).lines + 1

-- the end of a client whose bytes end with the input: there is none where the input ends between two messages or inside one
abbrev pub last_end : ℕ → Close → List Ask
last_end number Open = []
last_end number Cut = []
last_end number Left = End number Plain ∷ []
last_end number (Wrong parting) = End number parting ∷ []

-- what a seat is asked by these signs, by clients of which the first begins so
pub data SeatAsks : Tally → List (Option ℕ) → List Ask → Type 0 where
  -- the input ends with a client's bytes
  Last : (tally : Tally) (signs : List (Option ℕ)) (bytes : List ℕ) (asks : List Ask) (close : Close) → signs ≡ map Some bytes → ClientAsks tally bytes asks close
      → SeatAsks tally signs (asks ++ last_end (next_line tally asks) close)
  -- a client ends, and another follows
  Next : (tally : Tally) (signs : List (Option ℕ)) (bytes : List ℕ) (asks : List Ask) (close : Close) (others : List (Option ℕ)) (later : List Ask)
      → signs ≡ map Some bytes ++ None ∷ others → ClientAsks tally bytes asks close → SeatAsks (next_client tally asks) others later
      → SeatAsks tally signs (asks ++ End (next_line tally asks) (parting_of close) ∷ later)
