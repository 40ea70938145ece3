-- A client's bytes, and what it may conclude from its answers.
use Rattle.std.proofs.Common.{◌≡◌, ℕ, ◌+◌, ◌≤◌, cond, List, [], ◌∷◌, ◌++◌, length, All, Option, inl, inr, refl, arith}
use Rattle.std.proofs.lemmas.Bool.{cases_lt}
use Rattle.std.proofs.lemmas.List.Elements.{All-nil, All-cons}
use Rattle.std.proofs.lemmas.List.Sums.{sum_by-append}
use Rattle.pgn_base.specs.declared.limits.TheConstants.{NOTE_LINES_MAX}
use Rattle.pgn_base.specs.declared.command.Command.TheVariants.{Bad}
use Rattle.pgn_language.specs.declared.scenario.ScriptLine.{ScriptLine}
use Rattle.pgn_language.specs.Inputs.{is_note_act, note_lines_of}
use Rattle.pgn_queries.specs.declared.wire_fault.WireFault.{WireFault}
use Rattle.pgn_queries.specs.Queries as queries
use Rattle.pgn_queries.specs.Queries.{IsLineOf, Place, QueriesAre, after_query, first_place, note_of}
use Rattle.pgn_queries.specs.Script.{wire_quit, wire_section}
use Rattle.pgn_told.specs.Told.{AsksThenQuits, IsQuery}
use Rattle.pgn_told.specs.Laws.{ConversationTells}
use Rattle.pgn_told.proofs.TellLaws.{messages-tell}

-- each query runs a command
runs : (number : ℕ) (text : List ℕ) (line : ScriptLine) → IsLineOf number text line → IsQuery line
runs number text _ (queries.IsLineOf.OneLine _ command one reads) = (command, refl)
runs number text _ (queries.IsLineOf.Lines _ before rest split one) = (Bad (length before), refl)

all-run : (place : Place) (bytes : List ℕ) (lines : List ScriptLine) (fault : Option WireFault) → QueriesAre place bytes lines fault → All IsQuery lines
all-run place _ _ _ (queries.QueriesAre.Ends _ bytes text rest is) = All-nil IsQuery
all-run place _ _ _ (queries.QueriesAre.Fails _ bytes text rest fault is) = All-nil IsQuery
all-run place _ _ _ (queries.QueriesAre.Exceeds _ bytes text rest line is of many) = All-nil IsQuery
all-run place _ _ _ (queries.QueriesAre.Goes _ bytes text rest line lines fault is of few more) =
    All-cons IsQuery line lines (runs (place.queries + 1) text line of) (all-run (after_query place (length text) line.act) rest lines fault more)

-- how many of the lines notify
notes-append : (xs ys : List ScriptLine) → note_lines_of (xs ++ ys) ≡ note_lines_of xs + note_lines_of ys
notes-append xs ys = sum_by-append (λ (l : ScriptLine). cond (is_note_act l.act) 1 0) xs ys

-- no more than a client may ask
few-notes : (place : Place) (bytes : List ℕ) (lines : List ScriptLine) (fault : Option WireFault) → place.notes ≤ place.most → QueriesAre place bytes lines fault → place.notes + note_lines_of lines ≤ place.most
few-notes place _ _ _ low (queries.QueriesAre.Ends _ bytes text rest is) = omega (arith, low)
few-notes place _ _ _ low (queries.QueriesAre.Fails _ bytes text rest fault is) = omega (arith, low)
few-notes place _ _ _ low (queries.QueriesAre.Exceeds _ bytes text rest line is of many) = omega (arith, low)
few-notes place _ _ _ low (queries.QueriesAre.Goes _ bytes text rest line lines fault is of few more) =
    let next : Place = after_query place (length text) line.act in
    let all : note_lines_of (line ∷ lines) ≡ note_lines_of (line ∷ []) + note_lines_of lines = notes-append (line ∷ []) lines in
    let one : note_lines_of (line ∷ []) ≡ note_of line.act = omega arith in
    elim (cases_lt place.most next.notes) [
      | inl many ↦ absurd (few (inr many))
      | inr fits ↦ omega (arith, all, one, few-notes next rest lines fault fits more)
    ]

-- two runs of a client's bytes with the same messages: it saw the same of both, and their journals are the same, but for what was queued
pub conversation-tells : ConversationTells
conversation-tells most bytes lines fault settings journal other a b fits reads legal legal' e =
    let asks : AsksThenQuits (wire_section lines) = record { queries = lines; last = wire_quit; split = refl; run = all-run (first_place most) bytes lines fault reads; quits = refl } in
    let all : note_lines_of (lines ++ wire_quit ∷ []) ≡ note_lines_of lines + note_lines_of (wire_quit ∷ []) = notes-append lines (wire_quit ∷ []) in
    let few : note_lines_of lines ≤ NOTE_LINES_MAX = omega (arith, fits, few-notes (first_place most) bytes lines fault (omega arith) reads) in
    messages-tell (wire_section lines) settings journal other a b asks (omega (arith, all, few)) legal legal' e
