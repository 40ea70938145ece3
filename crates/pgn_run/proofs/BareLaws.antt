-- What is written last of a live run whose traces are bare.
use Rattle.std.proofs.Common.{◌≡◌, ℕ, zero, suc, List, [], ◌∷◌, ◌++◌, map, drop, flat_map, Some, sym, ap, ◌∙◌, refl}
use Rattle.pgn_journal.specs.declared.tx.Tx.{Tx}
use Rattle.pgn_language.specs.declared.scenario.ScriptLine.{ScriptLine}
use Rattle.pgn_language.specs.declared.scenario.Section.{Section}
use Rattle.pgn_language.specs.declared.scenario.Scenario.{Scenario}
use Rattle.pgn_model.specs.declared.item.Item.{Item}
use Rattle.pgn_model.specs.declared.trace.Trace.{Trace}
use Rattle.pgn_model.specs.Text.{end_line, item_lines, joined, journal_lines, section_line}
use Rattle.pgn_text.specs.Rendering.{ends_lines, lines_of, marked, marked_items}
use Rattle.pgn_live.specs.Lives.{came_from, came_lines, tagged}
use Rattle.pgn_reading.specs.Bare.{bare, bare_item}
use Rattle.pgn_reading.proofs.BareLaws.{lines-bare}
use Rattle.pgn_run.specs.Live.{end_text, lasts}

-- behind so many items
drop-bare : (n : ℕ) (items : List Item) → drop n (map bare_item items) ≡ map bare_item (drop n items)
drop-bare zero items = refl
drop-bare (suc n) [] = refl
drop-bare (suc n) (item ∷ items) = drop-bare n items

-- the lines of items, each behind its session's number
marked-bare : (n : ℕ) (lines : List ScriptLine) (items : List Item) → marked_items (Some n) lines (map bare_item items) ≡ marked_items (Some n) lines items
marked-bare n lines [] = refl
marked-bare n lines (item ∷ items) =
    ap (λ (shown : List (List ℕ)). marked (Some n) shown ++ marked_items (Some n) lines (map bare_item items)) (lines-bare lines item)
    ∙ ap (λ (rest : List (List ℕ)). marked (Some n) (item_lines lines item) ++ rest) (marked-bare n lines items)

-- what comes last of a session
last-bare : (sections : List Section) (told : ℕ) (trace : Trace) → came_lines sections (came_from trace.session (drop told (map bare_item trace.items))) ≡ came_lines sections (came_from trace.session (drop told trace.items))
last-bare sections told trace =
    ap (λ (items : List Item). came_lines sections (came_from trace.session items)) (drop-bare told trace.items)
    ∙ marked-bare trace.session (lines_of trace.session sections) (drop told trace.items)

-- and of each
lasts-bare : (sections : List Section) (told : List ℕ) (traces : List Trace) → flat_map (came_lines sections) (lasts told (map bare traces)) ≡ flat_map (came_lines sections) (lasts told traces)
lasts-bare sections [] traces = refl
lasts-bare sections (n ∷ told) [] = refl
lasts-bare sections (n ∷ told) (trace ∷ traces) =
    ap (λ (shown : List (List ℕ)). shown ++ flat_map (came_lines sections) (lasts told (map bare traces))) (last-bare sections n trace)
    ∙ ap (λ (rest : List (List ℕ)). came_lines sections (came_from trace.session (drop n trace.items)) ++ rest) (lasts-bare sections told traces)

-- where each session ended
ends-bare : (sections : List Section) (traces : List Trace) → ends_lines sections (map bare traces) ≡ ends_lines sections traces
ends-bare [] traces = refl
ends-bare (section ∷ sections) [] = refl
ends-bare (section ∷ sections) (trace ∷ traces) = ap (λ (rest : List (List ℕ)). section_line section ∷ end_line trace.last ∷ rest) (ends-bare sections traces)

-- all that is written last
pub end-bare : (scenario : Scenario) (told : List ℕ) (journal : List Tx) (traces whole : List Trace) → traces ≡ map bare whole
    → tagged scenario.sections (lasts told traces) ++ end_text scenario journal traces ≡ tagged scenario.sections (lasts told whole) ++ end_text scenario journal whole
end-bare scenario told journal traces whole e =
    ap (λ (ts : List Trace). tagged scenario.sections (lasts told ts) ++ end_text scenario journal ts) e
    ∙ ap (λ (shown : List (List ℕ)). joined shown ++ end_text scenario journal (map bare whole)) (lasts-bare scenario.sections told whole)
    ∙ ap (λ (ends : List (List ℕ)). tagged scenario.sections (lasts told whole) ++ joined (journal_lines journal ++ ends)) (ends-bare scenario.sections whole)

sessions-bare : (traces : List Trace) → map (λ trace. trace.session) (map bare traces) ≡ map (λ trace. trace.session) traces
sessions-bare [] = refl
sessions-bare (trace ∷ traces) = ap (λ (numbers : List ℕ). trace.session ∷ numbers) (sessions-bare traces)

-- the sessions of whole traces are those of bare ones
pub sessions-whole : (traces whole : List Trace) (numbers : List ℕ) → traces ≡ map bare whole → map (λ trace. trace.session) traces ≡ numbers → map (λ trace. trace.session) whole ≡ numbers
sessions-whole traces whole numbers e named = sym (sessions-bare whole) ∙ ap (λ (ts : List Trace). map (λ (trace : Trace). trace.session) ts) (sym e) ∙ named
