use Rattle.std.proofs.Common.{◌≡◌, ℕ, List, length, sym, ap, ◌∙◌, subst}
use Rattle.std.specs.Prelude.{Result, Ok, Err, IfOk}
use Rattle.pgn_base.specs.declared.command.Command.{Command}
use Rattle.pgn_language.specs.Tokens.{Token, tokens}
use Rattle.pgn_language.specs.Grammar.{ReadsAs, limited}
use Rattle.pgn_language.proofs.ValidForms.{readings-valid}
use Rattle.pgn_command.specs.Reading.{stated, outcome}
use Rattle.pgn_command.specs.Statements.{meant}
use Rattle.pgn_command.proofs.CommandSteps.{stated-reads}
use Rattle.pgn_command.proofs.line_parsing.parse_line.Goals as goal

-- what is told is what the line reads as
told : (line : List ℕ) (end : ℕ) (some : List Token) (result : Result Command ℕ) → some ≡ tokens line → end ≡ length line → stated end some ≡ result → ReadsAs line (outcome result)
told line end some result t e r =
    let same : stated (length line) (tokens line) ≡ result = ap (λ (n : ℕ). stated n (tokens line)) (sym e) ∙ ap (λ (ts : List Token). stated end ts) (sym t) ∙ r in
    subst (λ (o : Result Command ℕ). ReadsAs line (outcome o)) same (stated-reads line)

each : {E : Type 0} (line : List ℕ) (one : Command) (result : Result Command E) → ReadsAs line one → IfOk result (λ c. c ≡ one) → IfOk result (ReadsAs line)
each line one (Ok c) h e = subst (λ (x : Command). ReadsAs line x) (sym e) h
each line one (Err e) h _ = tt

pub command_of-requires : goal.command_of-requires
command_of-requires c =
    let reads : ReadsAs c.args.line.now (limited (meant c.in-Ok.statement)) = told c.args.line.now c.new-parser.result.end c.new-parser.result.tokens (Ok (meant c.in-Ok.statement)) c.new-parser.ensures.tokens c.new-parser.ensures.end c.in-Ok.ensures in
    readings-valid c.args.line.now (limited (meant c.in-Ok.statement)) c.utf8.line c.requires.no_nul reads

pub returns-in-Ok : goal.returns-in-Ok
returns-in-Ok c =
    let reads : ReadsAs c.args.line.now (limited (meant c.in-Ok.statement)) = told c.args.line.now c.new-parser.result.end c.new-parser.result.tokens (Ok (meant c.in-Ok.statement)) c.new-parser.ensures.tokens c.new-parser.ensures.end c.in-Ok.ensures in
    each c.args.line.now (limited (meant c.in-Ok.statement)) c.command_of.result reads c.command_of.ensures

pub returns-in-Err : goal.returns-in-Err
returns-in-Err c = told c.args.line.now c.new-parser.result.end c.new-parser.result.tokens (Err c.in-Err.stop.at) c.new-parser.ensures.tokens c.new-parser.ensures.end c.in-Err.ensures
