use Rattle.std.proofs.Common.{◌-◌, ◌<◌, ◌≤◌, List, length, sym, ap, ◌∙◌, arith}
use Rattle.std.proofs.lemmas.List.{length-map}
use Rattle.pgn_language.specs.Tokens as model
use Rattle.pgn_requests.specs.Phrases as told
use Rattle.pgn_statements.specs.Lexemes.{meant, all_meant}
use Rattle.pgn_statements.proofs.AskLaws.{modes-step}
use Rattle.pgn_statements.proofs.transaction_modes.+are_modes.Goals as goal

pub returns-in-Some : goal.returns-in-Some
returns-in-Some t c =
    let some : 0 < c.args.most = omega (arith, c.if-most-eq0.false) in
    let long : 1 ≤ length (all_meant c.in-Some.rest.now) = omega (arith, length-map c.in-Some.rest.now meant, c.in-Some.len_at_least) in
    c.are_modes.ensures ∙ ap (λ (l : List model.Lexeme). told.are_modes (c.args.most - 1) l) c.past_comma.ensures
    ∙ sym (modes-step c.args.most (all_meant c.args.lexemes.now) (all_meant c.in-Some.rest.now) some c.in-Some.ensures long)
