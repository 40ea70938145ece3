use Rattle.std.proofs.Common.{◌∙◌, map}
use Rattle.pgn_options.proofs.WordsLaws.{parsed, unparsed}
use Rattle.pgn_options.proofs.reading.read_words.Goals as goal

pub returns-in-Ok-try_get_matches_from-clause-asked : goal.returns-in-Ok-try_get_matches_from-clause-asked
returns-in-Ok-try_get_matches_from-clause-asked c =
    let matches = c.in-Ok-try_get_matches_from.ensures in
    (parsed _ c.in-Ok.ensures (map (λ word. word.now) c.args.words.now) _ c.asked_of.result matches.kinds (λ simple. (matches.matches simple).1) c.asked_of.ensures.found c.asked_of.ensures.too_much).0

pub returns-in-Ok-try_get_matches_from-clause-bad_words : goal.returns-in-Ok-try_get_matches_from-clause-bad_words
returns-in-Ok-try_get_matches_from-clause-bad_words c =
    let matches = c.in-Ok-try_get_matches_from.ensures in
    (parsed _ c.in-Ok.ensures (map (λ word. word.now) c.args.words.now) _ c.asked_of.result matches.kinds (λ simple. (matches.matches simple).1) c.asked_of.ensures.found c.asked_of.ensures.too_much).1

pub returns-in-Ok-try_get_matches_from-clause-within : goal.returns-in-Ok-try_get_matches_from-clause-within
returns-in-Ok-try_get_matches_from-clause-within c =
    let matches = c.in-Ok-try_get_matches_from.ensures in
    (parsed _ c.in-Ok.ensures (map (λ word. word.now) c.args.words.now) _ c.asked_of.result matches.kinds (λ simple. (matches.matches simple).1) c.asked_of.ensures.found c.asked_of.ensures.too_much).2

pub returns-in-Err-try_get_matches_from-clause-bad_words : goal.returns-in-Err-try_get_matches_from-clause-bad_words
returns-in-Err-try_get_matches_from-clause-bad_words c = λ bad.
    unparsed _ c.in-Ok.ensures (map (λ word. word.now) c.args.words.now) c.in-Err-try_get_matches_from.error c.fault_of.result c.in-Err-try_get_matches_from.ensures.kinds (λ out. c.fault_of.ensures (c.kind.ensures ∙ out)) (cc)
