use Rattle.std.proofs.Common.{◌<◌, ◌≤◌, [], ◌∷◌, length, sym, ap, ◌∙◌, arith}
use Rattle.std.proofs.lemmas.List.{length-map, map-append}
use Rattle.pgn_statements.specs.Lexemes.{meant, all_meant}
use Rattle.pgn_statements.proofs.LexemeLaws.{put-few, put-many}
use Rattle.pgn_statements.proofs.lexemes.put.Goals as goal

pub returns-in_ok-push-clause-all : goal.returns-in_ok-push-clause-all
returns-in_ok-push-clause-all c =
    let old = c.args.lexemes.now.items in
    let few : length (all_meant old) ≤ 24 = omega (arith, length-map old meant, c.len.ensures, c.if-len-le-TOKENS_MAX.true) in
    ap all_meant c.in_ok-push.ensures.items ∙ map-append meant old (c.args.lexeme ∷ []) ∙ sym (put-few (all_meant old) (meant c.args.lexeme) few)

pub returns-else-len-le-TOKENS_MAX-clause-all : goal.returns-else-len-le-TOKENS_MAX-clause-all
returns-else-len-le-TOKENS_MAX-clause-all c =
    let old = c.args.lexemes.now.items in
    let many : 24 < length (all_meant old) = omega (arith, length-map old meant, c.len.ensures, c.if-len-le-TOKENS_MAX.false) in
    let most : length (all_meant old) ≤ 25 = omega (arith, length-map old meant, c.requires) in
    sym (put-many (all_meant old) (meant c.args.lexeme) many most)
