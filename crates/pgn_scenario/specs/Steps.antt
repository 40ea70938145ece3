-- What the lines so far make, and what one more line makes of it.
use Rattle.std.specs.Prelude.{ℕ, ◌+◌, ◌≤◌, IfSome, Bool, true, false, cond, not, ◌==◌, nat_lt, List, [], ◌∷◌, ◌++◌, length, Option, None, Some, option_map, Result, Ok, Err}
use Rattle.std.specs.List.{list_any}
use Rattle.std.specs.Option.{is_some, option_to_list}
use Rattle.std.specs.Str.{is_utf8}
use Rattle.std.specs.Str.Lossy.{utf8_valid_len}
use Rattle.pgn_base.specs.declared.limits.TheConstants.{FLAGS_MAX, INPUT_BYTES_MAX, LINE_BYTES_MAX, NOTE_LINES_MAX, SECTIONS_MAX}
use Rattle.pgn_base.specs.Names.{has_name}
use Rattle.pgn_base.specs.declared.command.Command.{Command}
use Rattle.pgn_language.specs.declared.scenario.Act.{Act}
use Rattle.pgn_language.specs.declared.scenario.Act.TheVariants.{Run, Signal, Await, Quit}
use Rattle.pgn_language.specs.declared.scenario.ScriptLine.{ScriptLine}
use Rattle.pgn_language.specs.declared.scenario.Section.{Section}
use Rattle.pgn_language.specs.declared.scenario.Scenario.{Scenario}
use Rattle.pgn_language.specs.declared.scenario.ScenarioFault.{ScenarioFault}
use Rattle.pgn_language.specs.declared.scenario.ScenarioFault.TheVariants as fault
use Rattle.pgn_language.specs.Lines.{Says, SaysNothing, Opens, Runs, Signals, Awaits, Quits, NoMeta, says, trimmed}
use Rattle.pgn_language.specs.Inputs.{with_name, flag_number, is_note_act, script_line, section}
use Rattle.pgn_scenario.specs.Flags.{Flags, no_flags, signalling, awaiting, first_unsignalled}

-- what the lines so far make: the sections that have ended, the one that has not, the names of both, the flags, how many lines
-- notify, whether the section that has not ended has its `\quit`, the number of the next line, and the byte at which it begins
pub record State : Type 0 where
  pub done : List Section
  pub part : Option Section
  pub names : List (List ℕ)
  pub flags : Flags
  pub notes : ℕ
  pub quit : Bool
  pub line : ℕ
  pub at : ℕ

-- what no lines make
abbrev pub at_start : State
at_start = record { done = []; part = None; names = []; flags = no_flags; notes = 0; quit = false; line = 1; at = 0 }

-- one if an act notifies
abbrev pub note_of : Act → ℕ
note_of act = cond (is_note_act act) 1 0

-- a section with one more line
abbrev pub with_line : ScriptLine → Section → Section
with_line line part = record part { lines = part.lines ++ line ∷ []; note_lines = part.note_lines + note_of line.act }

-- the session does something at a line with this text
abbrev pub acted : State → List ℕ → Act → State
acted s text act = record s { part = option_map (with_line (script_line s.line text act)) s.part; notes = s.notes + note_of act }

-- the section that has not ended ends
abbrev pub ended : State → State
ended s = record s { done = s.done ++ option_to_list s.part; part = None }

-- a section begins
abbrev pub opened : State → List ℕ → ℕ → State
opened s name db = record s {
  done = s.done ++ option_to_list s.part;
  part = Some (section (length s.names + 1) name db []);
  names = s.names ++ name ∷ [];
  quit = false;
}

-- what is after a line, unless there are too many
abbrev pub unless_many : State → Bool → State → Result State ScenarioFault
unless_many s many next = cond many (Err (fault.TooMany s.line)) (Ok next)

-- a line at which a section begins
abbrev pub opening : State → List ℕ → ℕ → Result State ScenarioFault
opening s name db = cond (has_name s.names name) (Err (fault.SameName s.line)) (unless_many s (nat_lt SECTIONS_MAX (length s.names + 1)) (opened s name db))

-- a line at which the session runs a command
abbrev pub running : State → List ℕ → Command → Result State ScenarioFault
running s text command = unless_many s (nat_lt NOTE_LINES_MAX (s.notes + note_of (Run command))) (acted s text (Run command))

-- a line that signals a flag
abbrev pub signals : State → List ℕ → List ℕ → Result State ScenarioFault
signals s text flag = unless_many s (nat_lt FLAGS_MAX (length (with_name s.flags.names flag)))
    (acted (record s { flags = signalling s.flags flag }) text (Signal (flag_number s.flags.names flag)))

-- a line that awaits one
abbrev pub awaits : State → List ℕ → List ℕ → Result State ScenarioFault
awaits s text flag = unless_many s (nat_lt FLAGS_MAX (length (with_name s.flags.names flag)))
    (acted (record s { flags = awaiting s.flags flag s.line }) text (Await (flag_number s.flags.names flag)))

-- a `\quit`
abbrev pub quits : State → List ℕ → Result State ScenarioFault
quits s text = Ok (record (acted s text Quit) { quit = true })

-- a line of a section: one has begun, and has no `\quit`
abbrev pub within : State → Result State ScenarioFault → Result State ScenarioFault
within s next = cond s.quit (Err (fault.BadMeta s.line)) (cond (is_some s.part) next (Err (fault.NoSession s.line)))

-- what a line with this text makes that says this
abbrev pub added : State → List ℕ → Says → Result State ScenarioFault
added s text SaysNothing = Ok s
added s text (Opens name db) = opening s name db
added s text (Runs command) = within s (running s text command)
added s text (Signals flag) = within s (signals s text flag)
added s text (Awaits flag) = within s (awaits s text flag)
added s text Quits = within s (quits s text)
added s text NoMeta = Err (fault.BadMeta s.line)

-- the line has ended, and the next one begins
abbrev pub passed : ℕ → State → State
passed bytes s = record s { line = s.line + 1; at = s.at + bytes + 1 }

abbrev pub after_ok : (State → State) → Result State ScenarioFault → Result State ScenarioFault
after_ok f (Ok s) = Ok (f s)
after_ok f (Err found) = Err found

-- what one more line makes, or its fault
abbrev pub step : State → List ℕ → Result State ScenarioFault
step s line =
    cond (nat_lt LINE_BYTES_MAX (length line)) (Err (fault.LineTooLong s.line))
    (cond (not (is_utf8 line)) (Err (fault.NotUtf8 (s.at + utf8_valid_len line)))
    (cond (list_any (λ byte. byte == 0) line) (Err (fault.NulByte s.line))
    (after_ok (passed (length line)) (added s (trimmed line) (says line)))))

-- what lines make, or the fault of the first that has one
abbrev pub steps : State → List (List ℕ) → Result State ScenarioFault
steps s [] = Ok s
steps s (line ∷ lines) = elim (step s line) [ Ok next ↦ steps next lines | Err found ↦ Err found ]

-- what all lines make that have no fault: a scenario, or a fault of the whole
abbrev pub finished : State → Result Scenario ScenarioFault
finished s = elim s.part [
  | None ↦ Err fault.Empty
  | Some part ↦ elim (first_unsignalled s.flags.signalled s.flags.awaited) [
    | Some line ↦ Err (fault.NeverSignalled line)
    | None ↦ Ok (record { sections = s.done ++ part ∷ []; flags = s.flags.names })
  ]
]

-- what a line gave: a fault, or what is there now
abbrev pub outcome : Option ScenarioFault → State → Result State ScenarioFault
outcome None s = Ok s
outcome (Some found) s = Err found

-- the lines that notify are within the limit, and no section counts more of them than there are
pub record IsCounted (notes : ℕ) (part : Option Section) : Type 0 where
  pub few : notes ≤ NOTE_LINES_MAX
  pub counted : IfSome part (λ one. one.note_lines ≤ notes)

-- no more lines than bytes, and no more bytes than an input may have, and one
pub record IsPlaced (line at : ℕ) : Type 0 where
  pub lines : line ≤ at + 1
  pub bytes : at ≤ INPUT_BYTES_MAX + 1
