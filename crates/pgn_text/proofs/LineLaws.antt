-- Laws of the text of a script line, and of a section's lines.
use Rattle.std.proofs.Common.{◌≡◌, ℕ, ◌+◌, ◌<◌, suc, List, length, drop, get_or, sym, ap, ◌∙◌, cond, eqb, add-one, drop-cons}
use Rattle.pgn_language.specs.declared.scenario.ScriptLine.{ScriptLine}
use Rattle.pgn_language.specs.declared.scenario.Section.{Section}
use Rattle.pgn_model.specs.Text.{line_text}
use Rattle.pgn_text.specs.Rendering.{lines_of}

-- what is found from the next line on
pub line_text-drop : (n : ℕ) (lines : List ScriptLine) (i : ℕ) (line : ScriptLine) → i < length lines → line ≡ get_or lines i line → line_text n (drop i lines) ≡ cond (eqb line.line n) line.text (line_text n (drop (i + 1) lines))
line_text-drop n lines i line h e = ap (line_text n) (drop-cons lines i line h) ∙ ap (λ (y : ScriptLine). cond (eqb y.line n) y.text (line_text n (drop (suc i) lines))) (sym e) ∙ ap (λ j. cond (eqb line.line n) line.text (line_text n (drop j lines))) (sym (add-one i))

-- what is found from the next section on
pub lines_of-drop : (n : ℕ) (sections : List Section) (i : ℕ) (section : Section) → i < length sections → section ≡ get_or sections i section → lines_of n (drop i sections) ≡ cond (eqb section.no n) section.lines (lines_of n (drop (i + 1) sections))
lines_of-drop n sections i section h e = ap (lines_of n) (drop-cons sections i section h) ∙ ap (λ (y : Section). cond (eqb y.no n) y.lines (lines_of n (drop (suc i) sections))) (sym e) ∙ ap (λ j. cond (eqb section.no n) section.lines (lines_of n (drop j sections))) (sym (add-one i))

-- the lines of a script from a place on
pub ruleset line_laws = (line_text-drop, lines_of-drop)
