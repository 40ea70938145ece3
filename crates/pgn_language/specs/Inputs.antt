-- The scenario that an input reads as, or its one fault.
use Rattle.std.specs.Prelude.{◌≡◌, ℕ, ◌+◌, ◌<◌, ◌≤◌, Bool, true, false, cond, not, ◌||◌, ◌==◌, nat_lt, List, [], ◌∷◌, ◌++◌, map, length, filter_map, fold, count_by, sum_by, Option, None, Some, option_map, Result, Ok, Err, bytes_eq, Contains, All}
use Rattle.std.specs.List.{list_any, position_or_len, position_from}
use Rattle.std.specs.Option.{option_to_list}
use Rattle.std.specs.Str.{is_utf8}
use Rattle.std.specs.Str.Lossy.{utf8_valid_len}
use Rattle.pgn_base.specs.declared.limits.TheConstants.{FLAGS_MAX, INPUT_BYTES_MAX, LINE_BYTES_MAX, NOTE_LINES_MAX, SECTIONS_MAX}
use Rattle.pgn_base.specs.Names.{has_name}
use Rattle.pgn_base.specs.declared.command.Command.{Command}
use Rattle.pgn_base.specs.declared.command.Command.TheVariants.{Savepoint, RollbackTo, Release, Listen, Unlisten, Notify, PgNotify}
use Rattle.pgn_language.specs.declared.scenario.Act.{Act}
use Rattle.pgn_language.specs.declared.scenario.Act.TheVariants.{Run, Signal, Await, Quit}
use Rattle.pgn_language.specs.declared.scenario.ScriptLine.{ScriptLine}
use Rattle.pgn_language.specs.declared.scenario.Section.{Section}
use Rattle.pgn_language.specs.declared.scenario.Scenario.{Scenario}
use Rattle.pgn_language.specs.declared.scenario.ScenarioFault.{ScenarioFault}
use Rattle.pgn_language.specs.declared.scenario.ScenarioFault.TheVariants as fault
use Rattle.pgn_language.specs.Lines.{Says, SaysNothing, Opens, Runs, Signals, Awaits, Quits, NoMeta, says, trimmed, lines_of}

-- what lines say, one after another
abbrev pub all_say : List (List ℕ) → List Says
all_say lines = map says lines

-- the line begins a section
abbrev pub is_opening : Says → Bool
is_opening (Opens name db) = true
is_opening said = false

-- the line is `\quit`
abbrev pub is_quit : Says → Bool
is_quit Quits = true
is_quit said = false

-- the command is NOTIFY or a call of pg_notify
abbrev pub is_note_command : Command → Bool
is_note_command (Notify note) = true
is_note_command (PgNotify note) = true
is_note_command command = false

-- the line has such a command
abbrev pub notifies : Says → Bool
notifies (Runs command) = is_note_command command
notifies said = false

-- the name of the section that begins
abbrev pub opened_name : Says → Option (List ℕ)
opened_name (Opens name db) = Some name
opened_name said = None

-- the flag that is signalled
abbrev pub signalled_flag : Says → Option (List ℕ)
signalled_flag (Signals flag) = Some flag
signalled_flag said = None

-- the flag that is signalled or awaited
abbrev pub named_flag : Says → Option (List ℕ)
named_flag (Signals flag) = Some flag
named_flag (Awaits flag) = Some flag
named_flag said = None

-- names, and one more at their end where it is not among them
abbrev pub with_name : List (List ℕ) → List ℕ → List (List ℕ)
with_name names name = cond (has_name names name) names (names ++ name ∷ [])

-- the names of the sections
abbrev pub section_names : List Says → List (List ℕ)
section_names said = filter_map opened_name said

-- the flags, each once, in order of first appearance
abbrev pub flags_of : List Says → List (List ℕ)
flags_of said = fold with_name [] (filter_map named_flag said)

-- a `\quit` stands after the last line that begins a section or, where none does, anywhere
abbrev pub has_quit : List Says → Bool
has_quit said = fold (λ quit line. cond (is_opening line) false (quit || is_quit line)) false said

-- The faults of a line after the lines before it, in their order.

-- a line begins as a meta line and is none; or it stands after a `\quit` of its section, and is neither blank nor begins a section
abbrev pub is_bad_meta : List Says → Says → Bool
is_bad_meta before NoMeta = true
is_bad_meta before SaysNothing = false
is_bad_meta before (Opens name db) = false
is_bad_meta before said = has_quit before

-- no section has begun, and the line is neither blank nor begins one
abbrev pub lacks_session : List Says → Says → Bool
lacks_session before SaysNothing = false
lacks_session before (Opens name db) = false
lacks_session before said = not (list_any is_opening before)

-- an earlier section has the name of the one that begins
abbrev pub repeats_name : List Says → Says → Bool
repeats_name before (Opens name db) = has_name (section_names before) name
repeats_name before said = false

-- there are more sections, more flags or more lines that notify than there may be
abbrev pub are_too_many : List Says → Bool
are_too_many said =
    nat_lt SECTIONS_MAX (length (section_names said)) || nat_lt FLAGS_MAX (length (flags_of said)) || nat_lt NOTE_LINES_MAX (count_by notifies said)

-- the fault of the line numbered n by what it says, after lines that say what is before
abbrev pub fault_said : ℕ → List Says → Says → Option ScenarioFault
fault_said n before said =
    cond (is_bad_meta before said) (Some (fault.BadMeta n))
    (cond (lacks_session before said) (Some (fault.NoSession n))
    (cond (repeats_name before said) (Some (fault.SameName n))
    (cond (are_too_many (before ++ said ∷ [])) (Some (fault.TooMany n)) None)))

-- the number of the line after these, from 1
abbrev pub line_number : List (List ℕ) → ℕ
line_number before = length before + 1

-- the byte of the input, from 0, at which the line after these begins: each of them has its LF
abbrev pub line_start : List (List ℕ) → ℕ
line_start before = sum_by (λ line. length line + 1) before

-- the fault of a line after the lines before it; a line that is not UTF-8 is at fault at the byte after its longest prefix that
-- is
unfoldable pub fault_of : List (List ℕ) → List ℕ → Option ScenarioFault
fault_of before line =
    cond (nat_lt LINE_BYTES_MAX (length line)) (Some (fault.LineTooLong (line_number before)))
    (cond (not (is_utf8 line)) (Some (fault.NotUtf8 (line_start before + utf8_valid_len line)))
    (cond (list_any (λ byte. byte == 0) line) (Some (fault.NulByte (line_number before)))
    (fault_said (line_number before) (all_say before) (says line))))

-- The scenario of lines without faults.

-- the number of a flag: its place among the flags, from 0
abbrev pub flag_number : List (List ℕ) → List ℕ → ℕ
flag_number flags flag = position_or_len (bytes_eq flag) flags

-- what a session does at a line, where it does something
abbrev pub act_of : List (List ℕ) → Says → Option Act
act_of flags (Runs command) = Some (Run command)
act_of flags (Signals flag) = Some (Signal (flag_number flags flag))
act_of flags (Awaits flag) = Some (Await (flag_number flags flag))
act_of flags Quits = Some Quit
act_of flags said = None

-- the script line with this number, this text and this act
abbrev pub script_line : ℕ → List ℕ → Act → ScriptLine
script_line n text act = record { line = n; text = text; act = act }

-- the script line of the line numbered n, where a session does something at it
abbrev pub script_line_of : List (List ℕ) → ℕ → List ℕ → Option ScriptLine
script_line_of flags n line = option_map (script_line n (trimmed line)) (act_of flags (says line))

-- the script lines of lines, of which the first is numbered n, up to the next at which a section begins
abbrev pub script_from : List (List ℕ) → ℕ → List (List ℕ) → List ScriptLine
script_from flags n [] = []
script_from flags n (line ∷ lines) = cond (is_opening (says line)) [] (option_to_list (script_line_of flags n line) ++ script_from flags (n + 1) lines)

-- a script line that notifies
abbrev pub is_note_act : Act → Bool
is_note_act (Run command) = is_note_command command
is_note_act act = false

-- how many script lines notify
abbrev pub note_lines_of : List ScriptLine → ℕ
note_lines_of script = count_by (λ line. is_note_act line.act) script

-- a section with its script
abbrev pub section : ℕ → List ℕ → ℕ → List ScriptLine → Section
section number name db script = record { no = number; name = name; db = db; lines = script; note_lines = note_lines_of script }

-- the section that begins at a line, where one does: it has this number, and its lines are those that follow, of which the first
-- is numbered n
abbrev pub section_at : List (List ℕ) → ℕ → ℕ → Says → List (List ℕ) → List Section
section_at flags number n (Opens name db) lines = section number name db (script_from flags n lines) ∷ []
section_at flags number n said lines = []

-- the sections of lines, of which the first is numbered n; the first section has this number
abbrev pub sections_from : List (List ℕ) → ℕ → ℕ → List (List ℕ) → List Section
sections_from flags number n [] = []
sections_from flags number n (line ∷ lines) =
    let here = section_at flags number (n + 1) (says line) lines in
    here ++ sections_from flags (number + length here) (n + 1) lines

-- the scenario of lines
unfoldable pub scenario_of : List (List ℕ) → Scenario
scenario_of lines = let flags = flags_of (all_say lines) in record { sections = sections_from flags 1 1 lines; flags = flags }

-- The reading of an input.

-- a flag is awaited, and is not among those that are signalled
abbrev pub is_unsignalled : List (List ℕ) → Says → Bool
is_unsignalled signalled (Awaits flag) = not (has_name signalled flag)
is_unsignalled signalled said = false

-- the number of the lowest line that awaits a flag which no line signals
abbrev pub unsignalled : List Says → Option ℕ
unsignalled said = position_from (is_unsignalled (filter_map signalled_flag said)) 1 said

-- no line has a fault after the lines before it
abbrev pub HaveNoFault : List (List ℕ) → Type 0
HaveNoFault lines = (before : List (List ℕ)) (line : List ℕ) (rest : List (List ℕ)) → lines ≡ before ++ line ∷ rest → fault_of before line ≡ None

-- some line begins a section
abbrev pub has_section : List Says → Bool
has_section said = list_any is_opening said

-- the scenario, or the one fault, that an input reads as
pub data ReadsAsScenario (input : List ℕ) : Result Scenario ScenarioFault → Type 0 where
  -- it is too large
  Large : INPUT_BYTES_MAX < length input → ReadsAsScenario input (Err fault.TooLarge)
  -- a line has a fault, and none before it has
  Faulty : length input ≤ INPUT_BYTES_MAX → (before : List (List ℕ)) → (line : List ℕ) → (rest : List (List ℕ)) → lines_of input ≡ before ++ line ∷ rest
      → HaveNoFault before → (found : ScenarioFault) → fault_of before line ≡ Some found → ReadsAsScenario input (Err found)
  -- no line has a fault, and no section begins
  Sectionless : length input ≤ INPUT_BYTES_MAX → HaveNoFault (lines_of input) → has_section (all_say (lines_of input)) ≡ false
      → ReadsAsScenario input (Err fault.Empty)
  -- no line has a fault, and the line numbered n is the lowest that awaits a flag which no line signals
  Unsignalled : length input ≤ INPUT_BYTES_MAX → HaveNoFault (lines_of input) → has_section (all_say (lines_of input)) ≡ true
      → (n : ℕ) → unsignalled (all_say (lines_of input)) ≡ Some n → ReadsAsScenario input (Err (fault.NeverSignalled n))
  -- none of these
  Faultless : length input ≤ INPUT_BYTES_MAX → HaveNoFault (lines_of input) → has_section (all_say (lines_of input)) ≡ true
      → unsignalled (all_say (lines_of input)) ≡ None → ReadsAsScenario input (Ok (scenario_of (lines_of input)))

-- A sound scenario.

-- sections are numbered one after another, from n on
abbrev pub AreNumbered : ℕ → List Section → Type 0
AreNumbered n [] = Unit {0}
AreNumbered n (section ∷ sections) = (section.no ≡ n) × AreNumbered (n + 1) sections

-- the flag of an act is one of so many
abbrev pub HasFlagBelow : ℕ → Act → Type 0
HasFlagBelow flags (Signal flag) = flag < flags
HasFlagBelow flags (Await flag) = flag < flags
HasFlagBelow flags act = Unit {0}

-- the number is below that of the first of these script lines, if there is one
abbrev pub IsBelowFirst : ℕ → List ScriptLine → Type 0
IsBelowFirst n [] = Unit {0}
IsBelowFirst n (line ∷ lines) = n < line.line

-- the numbers of script lines rise
abbrev pub Rise : List ScriptLine → Type 0
Rise [] = Unit {0}
Rise (line ∷ lines) = IsBelowFirst line.line lines × Rise lines

-- a `\quit` stands only as the last of these lines
abbrev pub QuitsLast : List ScriptLine → Type 0
QuitsLast [] = Unit {0}
QuitsLast (line ∷ lines) = (line.act ≡ Quit → lines ≡ []) × QuitsLast lines

-- no LF stands in a text
abbrev pub IsOneLine : List ℕ → Type 0
IsOneLine text = Contains text 10 → ⊥

-- no LF stands in a name or payload of a command
abbrev pub IsOneLineCommand : Command → Type 0
IsOneLineCommand (Savepoint name) = IsOneLine name
IsOneLineCommand (RollbackTo name) = IsOneLine name
IsOneLineCommand (Release name) = IsOneLine name
IsOneLineCommand (Listen name) = IsOneLine name
IsOneLineCommand (Unlisten name) = IsOneLine name
IsOneLineCommand (Notify note) = IsOneLine note.channel × IsOneLine note.payload
IsOneLineCommand (PgNotify note) = IsOneLine note.channel × IsOneLine note.payload
IsOneLineCommand command = Unit {0}

-- no LF stands in a name or payload of an act
abbrev pub IsOneLineAct : Act → Type 0
IsOneLineAct (Run command) = IsOneLineCommand command
IsOneLineAct act = Unit {0}

-- what holds of each section of a scenario with so many flags
pub record IsSoundSection (flags : ℕ) (part : Section) : Type 0 where
  -- each flag that it names is one of them
  pub flags_known : All (λ line. HasFlagBelow flags line.act) part.lines
  -- its lines are in the order of the input
  pub rising : Rise part.lines
  -- nothing follows a `\quit`
  pub quits_last : QuitsLast part.lines
  -- the lines that notify are counted
  pub counted : part.note_lines ≡ note_lines_of part.lines
  -- no LF stands in its name
  pub one_line_name : IsOneLine part.name
  -- no LF stands in a line, nor in what its command names
  pub one_line_texts : All (λ line. IsOneLine line.text × IsOneLineAct line.act) part.lines

-- what holds of each scenario that an input reads as
pub record IsSound (scenario : Scenario) : Type 0 where
  -- there is a section
  pub some : 0 < length scenario.sections
  -- and no more than there may be
  pub few : length scenario.sections ≤ SECTIONS_MAX
  -- numbered from 1
  pub numbered : AreNumbered 1 scenario.sections
  -- no more flags than there may be
  pub few_flags : length scenario.flags ≤ FLAGS_MAX
  -- no LF stands in their names
  pub one_line_flags : All IsOneLine scenario.flags
  -- each section is sound
  pub sections : All (IsSoundSection (length scenario.flags)) scenario.sections
  -- no more lines that notify than there may be
  pub few_note_lines : sum_by (λ section. section.note_lines) scenario.sections ≤ NOTE_LINES_MAX
