-- The verdict on a text.
use Rattle.std.proofs.Common.{◌≡◌, ℕ, ◌+◌, ◌^◌, ◌<◌, ◌≤◌, List, [], ◌∷◌, length, ap, subst, arith}
use Rattle.std.proofs.lemmas.List.{length-append}
use Rattle.std.proofs.lemmas.List.Sums.{sum_by-cons}
use Rattle.pgn_base.specs.declared.limits.TheConstants.{FIRST_XID}
use Rattle.pgn_journal.specs.declared.tx.Tx.{Tx}
use Rattle.pgn_language.specs.declared.scenario.Scenario.{Scenario}
use Rattle.pgn_language.specs.Inputs.{IsSound}
use Rattle.pgn_model.specs.declared.trace.Trace.{Trace}
use Rattle.pgn_model.specs.Walk.{Settings}
use Rattle.pgn_model.specs.Legal.{EachTrace}
use Rattle.pgn_model.specs.Text.{journal_lines, text_lines, traces_lines}
use Rattle.pgn_reading.specs.Form.{IsReading}
use Rattle.pgn_reading.specs.Blame.{IsLeastBlamed, IsLegalText}
use Rattle.pgn_reading.specs.WholeLaws.{IsWalked}
use Rattle.pgn_reading.proofs.BlameLaws.{least-in_traces}
use Rattle.pgn_reading.proofs.WholeLaws.{walked-is_legal_text}
use Rattle.pgn_check.specs.Laws.{IsHeld}
use Rattle.pgn_check.proofs.UnblamedLaws.{legal-is_unblamed}
use Rattle.pgn_ledger.specs.Places.{notes_in}
use Rattle.pgn_check.specs.Entries.{IsBlamedFirst, IsReadSoFar, lines_in}
use Rattle.pgn_check.specs.Sections.{IsLeastIn}
use Rattle.pgn_check.specs.Verdicts.{IsIllegal}
use Rattle.pgn_check.proofs.EntryLaws.{joined_long, lines_long}

notes_fewer : (txs : List Tx) → notes_in txs ≤ lines_in txs
notes_fewer [] = omega arith
notes_fewer (tx ∷ txs) = omega (arith, sum_by-cons (λ (t : Tx). length t.notes) tx txs, notes_fewer txs)

-- how many lines the parts have
pub text_long : (scenario : Scenario) (out : List ℕ) (journal : List Tx) (traces : List Trace) → IsReading scenario out journal traces → 1 + lines_in journal + length (traces_lines scenario.sections traces) ≤ length out
text_long scenario out journal traces h =
    let all : length (text_lines scenario journal traces) ≤ length out = omega (arith, joined_long (text_lines scenario journal traces), ap length h.shown) in
    omega (arith, all, lines_long FIRST_XID journal, length-append (journal_lines journal) (traces_lines scenario.sections traces))

-- a text within its limit has few notifications
pub few_notes : (scenario : Scenario) (out : List ℕ) (journal : List Tx) (traces : List Trace) → IsReading scenario out journal traces → length out ≤ 67108864 → notes_in journal < 2 ^ 40
few_notes scenario out journal traces h few = omega (arith, few, text_long scenario out journal traces h, notes_fewer journal)

-- a text within its limit has few lines of a journal
pub few_lines : (scenario : Scenario) (out : List ℕ) (journal : List Tx) (traces : List Trace) → IsReading scenario out journal traces → length out ≤ 67108864 → lines_in journal < 2 ^ 63
few_lines scenario out journal traces h few = omega (arith, few, text_long scenario out journal traces h)

-- all lines of a text within its limit can be numbered
pub lines_fit_all : (scenario : Scenario) (out : List ℕ) (journal : List Tx) (traces : List Trace) → IsReading scenario out journal traces → length out ≤ 67108864 → 2 + lines_in journal + length (traces_lines scenario.sections traces) < 2 ^ 64
lines_fit_all scenario out journal traces h few = omega (arith, few, text_long scenario out journal traces h)

-- The answers.

-- a text whose form or journal is to blame is illegal there
pub illegal_first : (scenario : Scenario) (settings : Settings) (out : List ℕ) (line : ℕ) → IsSound scenario → IsHeld scenario settings → length out ≤ 67108864 → IsBlamedFirst scenario out line → IsIllegal scenario settings out line
illegal_first scenario settings out line sound held few first = record {
  not_legal = λ legal. legal-is_unblamed scenario settings out line sound held few legal (first settings).blamed;
  least = first settings;
}

-- a text of which a trace is to blame is illegal there
pub illegal_walk : (scenario : Scenario) (settings : Settings) (out : List ℕ) (journal : List Tx) (traces : List Trace) (head line : ℕ) → IsSound scenario → IsHeld scenario settings → length out ≤ 67108864 → IsReadSoFar scenario out journal traces
    → head ≡ 2 + lines_in journal → IsLeastIn settings journal scenario.sections traces head line → IsIllegal scenario settings out line
illegal_walk scenario settings out journal traces head line sound held few read e least =
    let start : head ≡ length (journal_lines journal) + 1 = omega (arith, e, lines_long FIRST_XID journal) in
    let there : IsLeastIn settings journal scenario.sections traces (length (journal_lines journal) + 1) line = subst (λ (n : ℕ). IsLeastIn settings journal scenario.sections traces n line) start least in
    let first : IsLeastBlamed scenario settings out line = least-in_traces scenario settings out journal traces line sound read.read read.entries there.blamed there.least in
    record {
      not_legal = λ legal. legal-is_unblamed scenario settings out line sound held few legal first.blamed;
      least = first;
    }

-- a text of which no trace is to blame is that of a legal run
pub legal_walk : (scenario : Scenario) (settings : Settings) (out : List ℕ) (journal : List Tx) (traces : List Trace) → IsReadSoFar scenario out journal traces
    → EachTrace settings (λ terms trace. IsWalked terms journal scenario.sections traces trace) scenario.sections traces → IsLegalText scenario settings out
legal_walk scenario settings out journal traces read walked = walked-is_legal_text scenario settings out journal traces read.read read.entries walked
