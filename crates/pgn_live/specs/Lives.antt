-- What is written while sessions run: what came of each, behind its number.
use Rattle.std.specs.Prelude.{◌≡◌, ℕ, ◌+◌, ◌<◌, ◌≤◌, List, ◌++◌, map, flat_map, get_or, length, All, Option, Some, Result, Ok, Err, OnOk}
use Rattle.std.specs.Io.KnownBytes.{Appends}
use Rattle.pgn_base.specs.Outside.{AppendsPrefix, Rose}
use Rattle.pgn_hub.specs.declared.known.Known.{Known}
use Rattle.pgn_hub.specs.Shape.{Shape}
use Rattle.pgn_language.specs.declared.scenario.ScriptLine.{ScriptLine}
use Rattle.pgn_language.specs.declared.scenario.Section.{Section}
use Rattle.pgn_model.specs.declared.item.Item.{Item}
use Rattle.pgn_model.specs.declared.trace.Trace.{Trace}
use Rattle.pgn_model.specs.Text.{joined}
use Rattle.pgn_outlet.specs.Passes.{knows}
use Rattle.pgn_session.specs.declared.session.Session.{Session}
use Rattle.pgn_session.specs.Parts.{Begins}
use Rattle.pgn_session.specs.Runs.{HasStopped, IsLawful, IsOver}
use Rattle.pgn_live.specs.Cames.{Came, Hand, items_of}
use Rattle.pgn_live.specs.declared.writing.Writer.{Writer}
use Rattle.pgn_live.specs.declared.lives.LiveFault.{LiveFault}
use Rattle.pgn_live.specs.declared.lives.LiveFault.TheVariants.{Write, Memory}
use Rattle.pgn_text.specs.declared.line_cursor.LineCursor.{LineCursor}
use Rattle.pgn_text.specs.declared.out.Out.{Out}
use Rattle.pgn_text.specs.Rendering.{HasPassed, Puts, lines_of, marked_items}

-- the lines of what came of a session, each behind its number
abbrev pub came_lines : List Section → Came → List (List ℕ)
came_lines sections came = marked_items (Some came.session) (lines_of came.session sections) came.what

-- the text of all that came
abbrev pub tagged : List Section → List Came → List ℕ
tagged sections cames = joined (flat_map (came_lines sections) cames)

-- such items of a session
abbrev pub came_from : ℕ → List Item → Came
came_from n items = record { session = n; what = items }

-- what a session has recorded, as if it came in one piece; a trace
abbrev pub log_of : {P : Type 0} → Session P → Came
log_of s = record { session = s.section.no; what = s.items.items }

abbrev pub log_of_trace : Trace → Came
log_of_trace trace = record { session = trace.session; what = trace.items }

abbrev pub logs_of : {P : Type 0} → List (Session P) → List Came
logs_of sessions = map log_of sessions

-- of each session, and of no other, that which came is what it has recorded, in order, each item once
abbrev pub AreWhole : List Came → List Came → Type 0
AreWhole logs cames = (n : ℕ) → items_of n cames ≡ items_of n logs

-- it is the first items of that
abbrev pub AreFirst : List Came → List Came → Type 0
AreFirst logs cames = (n : ℕ) → Begins (items_of n cames) (items_of n logs)

-- all that the sessions have recorded came, in some order of the sessions, and this holds of its text
pub record ComesWhole (sections : List Section) (logs : List Came) (P : List ℕ → Type 0) : Type 0 where
  pub cames : List Came
  pub whole : AreWhole logs cames
  pub output : P (tagged sections cames)

-- of each session the first items came
pub record ComesFirst (sections : List Section) (logs : List Came) (P : List ℕ → Type 0) : Type 0 where
  pub cames : List Came
  pub first : AreFirst logs cames
  pub output : P (tagged sections cames)

-- each cursor stands in the lines of the section whose number is one more than its place
abbrev pub StandIn : List Section → List LineCursor → Type 0
StandIn sections cursors = (k : ℕ) (d : LineCursor) → k < length cursors → HasPassed (lines_of (k + 1) sections) (get_or cursors k d)

-- a cursor that has passed nothing
abbrev pub IsFresh : LineCursor → Type 0
IsFresh cursor = (lines : List ScriptLine) → HasPassed lines cursor

-- a session has this number
abbrev pub IsNumber : ℕ → Type 0
IsNumber n = (1 ≤ n) × (n ≤ 256)

-- the pass has taken more, and the text of that was given out
pub record Wrote {S : Type 0} (held : S → Option (List ℕ)) (faults : S → ℕ) (sections : List Section) (before after : Hand) (sink : S) (out : Out) (sink_now : S) (out_now : Out) : Type 0 where
  pub more : List Came
  pub numbers : All (λ came. IsNumber came.session) more
  pub got : after ≡ record before { got = before.got ++ more }
  pub puts : Puts held faults sink out sink_now out_now (tagged sections more)

-- the writer has taken more, and the text of that was given out
abbrev pub HasWritten : {S : Type 0} → (S → Option (List ℕ)) → (S → ℕ) → List Section → Writer → Writer → S → S → Type 0
HasWritten held faults sections old new sink sink_now = Wrote held faults sections (knows old.pass) (knows new.pass) sink old.out sink_now new.out

-- what a run comes to whose writes and whose sessions have come to this: a failed write before want of memory
abbrev pub answer_of : {A E D : Type 0} → Result Unit D → Result A E → Result Unit LiveFault
answer_of (Err d) played = Err Write
answer_of (Ok x) (Err e) = Err Memory
answer_of (Ok x) (Ok a) = Ok tt

-- what a run has come to, with this answer
pub record CameTo {P S : Type 0} (is_own : P → Type 0) (shape : Shape) (known : P → Known) (held : S → Option (List ℕ)) (faults : S → ℕ) (sections : List Section) (sessions : List (Session P)) (sink sink_now : S) (res : Result Unit LiveFault) : Type 0 where
  pub over : OnOk res (All (IsOver is_own shape known) sessions)
  pub stopped : All (HasStopped is_own shape known) sessions
  pub lawful : All (IsLawful shape) sessions
  pub done : OnOk res (ComesWhole sections (logs_of sessions) (Appends (held sink) (held sink_now)))
  pub front : res ≡ Err Write → ComesWhole sections (logs_of sessions) (AppendsPrefix (held sink) (held sink_now))
  pub first : res ≡ Err Memory → ComesFirst sections (logs_of sessions) (Appends (held sink) (held sink_now))
  pub rose : res ≡ Err Write → Rose (faults sink) (faults sink_now)
  pub due : faults sink < faults sink_now → res ≡ Err Write
  pub later : faults sink ≤ faults sink_now
