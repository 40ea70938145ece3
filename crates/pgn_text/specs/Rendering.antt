-- What is given out to a sink through a buffer.
use Rattle.std.specs.Prelude.{◌≡◌, ℕ, ◌<◌, ◌≤◌, ◌==◌, cond, List, [], ◌∷◌, ◌++◌, codes, decimal, flat_map, length, drop, map, Option, None, Some, MatchResult}
use Rattle.pgn_base.specs.Outside.{AppendsPrefix, HasCause}
use Rattle.pgn_language.specs.declared.scenario.ScriptLine.{ScriptLine}
use Rattle.pgn_base.specs.declared.note.Note.{Note}
use Rattle.pgn_language.specs.declared.scenario.Section.{Section}
use Rattle.pgn_model.specs.declared.item.Item.{Item}
use Rattle.pgn_model.specs.declared.trace.Trace.{Trace}
use Rattle.pgn_model.specs.Text.{end_line, item_lines, line_text, section_line}
use Rattle.pgn_language.specs.Quotes.{doubled_byte, quoted}
use Rattle.pgn_text.specs.declared.line_cursor.LineCursor.{LineCursor}
use Rattle.pgn_text.specs.declared.out.Out.{Out}

-- a line with its LF
abbrev pub ended : List ℕ → List ℕ
ended line = line ++ 10 ∷ []

-- what stands before each line where lines of several sessions are mixed: the session's number and a bar
abbrev pub mark_of : Option ℕ → List ℕ
mark_of None = []
mark_of (Some n) = decimal n ++ codes "| "

-- lines, each behind the mark
abbrev pub marked : Option ℕ → List (List ℕ) → List (List ℕ)
marked mark lines = map (λ line. mark_of mark ++ line) lines

-- the lines of items of a trace of these script lines, each behind the mark
abbrev pub marked_items : Option ℕ → List ScriptLine → List Item → List (List ℕ)
marked_items mark lines items = flat_map (λ item. marked mark (item_lines lines item)) items

-- the script lines of the section of a number
abbrev pub lines_of : ℕ → List Section → List ScriptLine
lines_of n [] = []
lines_of n (section ∷ sections) = cond (section.no == n) section.lines (lines_of n sections)

-- the heads of sections, each with the end of its trace
abbrev pub ends_lines : List Section → List Trace → List (List ℕ)
ends_lines [] traces = []
ends_lines (section ∷ sections) [] = []
ends_lines (section ∷ sections) (trace ∷ traces) = section_line section ∷ end_line trace.last ∷ ends_lines sections traces

-- a notification behind its first quote
abbrev pub note_behind : Note → List ℕ
note_behind note = flat_map (doubled_byte 34) note.channel ++ 34 ∷ [] ++ codes ", " ++ quoted 39 note.payload

-- known bytes grew by a prefix of the text, and the rest is kept back
abbrev pub GrewBut : Option (List ℕ) → Option (List ℕ) → List ℕ → List ℕ → Type 0
GrewBut None held kept text = Unit {0}
GrewBut (Some start) None kept text = ⊥
GrewBut (Some start) (Some held) kept text = (sent : List ℕ) × (text ≡ sent ++ kept) × (held ≡ start ++ sent)

-- a text is given out: the sink has a prefix of it, and while nothing has failed the rest is kept back
abbrev pub IsOut : Option (List ℕ) → Option (List ℕ) → Out → List ℕ → Type 0
IsOut start held out text = MatchResult out.so_far (λ _. GrewBut start held out.kept text) (λ _. AppendsPrefix start held text)

-- whatever was given out before, this text is given out after it, and a failure has its cause
pub record Puts {S : Type 0} (held : S → Option (List ℕ)) (faults : S → ℕ) (sink : S) (out : Out) (sink_now : S) (out_now : Out) (text : List ℕ) : Type 0 where
  pub bytes : (start : Option (List ℕ)) (before : List ℕ) → IsOut start (held sink) out before → IsOut start (held sink_now) out_now (before ++ text)
  pub cause : (start : ℕ) → HasCause start (faults sink) out.so_far → HasCause start (faults sink_now) out_now.so_far

-- a line whose number is above all that the cursor passed stands from the cursor on, if anywhere
pub record HasPassed (lines : List ScriptLine) (cursor : LineCursor) : Type 0 where
  pub within : cursor.next ≤ length lines
  pub above : (n : ℕ) → cursor.largest < n → line_text n lines ≡ line_text n (drop cursor.next lines)
