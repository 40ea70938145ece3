-- Scripts that are no client's.
use Rattle.std.proofs.Common.{◌≡◌, List, [], ◌∷◌, ◌++◌, All, ap, ◌∙◌, refl}
use Rattle.std.proofs.lemmas.List.Elements.{All-nil, All-cons, All-head}
use Rattle.pgn_base.specs.declared.command.Command.TheVariants as command
use Rattle.pgn_language.specs.declared.scenario.Act.TheVariants.{Run, Signal, Quit}
use Rattle.pgn_language.specs.declared.scenario.ScriptLine.{ScriptLine}
use Rattle.pgn_told.specs.Examples.{told_query, told_quit, told_section, told_signal}
use Rattle.pgn_told.specs.Told.{AsksThenQuits, IsQuery}

-- a query and then the quit
pub query-asks : AsksThenQuits (told_section (told_query ∷ told_quit ∷ []))
query-asks = record { queries = told_query ∷ []; last = told_quit; split = refl; run = All-cons IsQuery told_query [] (command.Listen _, refl) (All-nil IsQuery); quits = refl }

-- the quit alone
pub none-asks : AsksThenQuits (told_section (told_quit ∷ []))
none-asks = record { queries = []; last = told_quit; split = refl; run = All-nil IsQuery; quits = refl }

-- the last of one line, and of two
only : (line last : ScriptLine) (queries : List ScriptLine) → line ∷ [] ≡ queries ++ last ∷ [] → line ≡ last
only line last [] e = cc
only line last (q ∷ []) e = absurd (let no : ⊥ = cc in no)
only line last (q ∷ r ∷ queries) e = absurd (let no : ⊥ = cc in no)

first : (line other last : ScriptLine) (queries : List ScriptLine) → line ∷ other ∷ [] ≡ queries ++ last ∷ [] → All IsQuery queries → IsQuery line
first line other last [] e run = absurd (let no : ⊥ = cc in no)
first line other last (q ∷ queries) e run = let same : line ≡ q = cc in let query = All-head IsQuery q queries run in (query.0, ap (λ (l : ScriptLine). l.act) same ∙ query.1)

-- a query without a quit behind it is not
pub no-quit : AsksThenQuits (told_section (told_query ∷ [])) → ⊥
no-quit h = let same : told_query ≡ h.last = only told_query h.last h.queries h.split in let quits : Run (command.Listen _) ≡ Quit = ap (λ (l : ScriptLine). l.act) same ∙ h.quits in let no : ⊥ = cc in no

-- nor is one that raises a flag
pub a-flag : AsksThenQuits (told_section (told_signal ∷ told_quit ∷ [])) → ⊥
a-flag h = let query = first told_signal told_quit h.last h.queries h.split h.run in let runs : Signal 0 ≡ Run query.0 = query.1 in let no : ⊥ = cc in no
