use Rattle.std.proofs.Common.{◌≡◌, ℕ, List, ◌++◌, length, string_bytes, sym, ap, ◌∙◌, subst, IsUtf8}
use Rattle.pgn_command.specs.Texts.{single, IsQuoteAt, NoneAmong}
use Rattle.pgn_command.proofs.QuoteLaws.{quote-boundary, pair-boundary, written-step, no-quote-once}
use Rattle.pgn_command.proofs.quotes.unquoted.Goals as goal

pub range-requires-clause-end_boundary : goal.range-requires-clause-end_boundary
range-requires-clause-end_boundary c =
    let found : IsQuoteAt c.args.inside.quote c.loop-at.rest.now 0 c.in-Some.at = subst (λ (l : List ℕ). IsQuoteAt c.args.inside.quote l 0 c.in-Some.at) c.as_bytes.ensures.value c.in-Some.ensures in
    let text : IsUtf8 c.loop-at.rest.now = subst (λ (l : List ℕ). IsUtf8 l) c.as_bytes.ensures.value c.as_bytes.ensures.utf8 in
    quote-boundary c.args.inside.quote c.loop-at.rest.now c.in-Some.at text c.loop-at.invariant.ascii found.high found.is

pub range_from-rest-requires : goal.range_from-rest-requires
range_from-rest-requires c = λ _.
    let found : IsQuoteAt c.args.inside.quote c.loop-at.rest.now 0 c.in-Some.at = subst (λ (l : List ℕ). IsQuoteAt c.args.inside.quote l 0 c.in-Some.at) c.as_bytes.ensures.value c.in-Some.ensures in
    let text : IsUtf8 c.loop-at.rest.now = subst (λ (l : List ℕ). IsUtf8 l) c.as_bytes.ensures.value c.as_bytes.ensures.utf8 in
    pair-boundary c.args.inside.quote c.loop-at.rest.now c.in-Some.at text c.loop-at.invariant.ascii c.loop-at.invariant.twice found

pub loop-at-preserved : goal.loop-at-preserved
loop-at-preserved c =
    let found : IsQuoteAt c.args.inside.quote c.loop-at.rest.now 0 c.in-Some.at = subst (λ (l : List ℕ). IsQuoteAt c.args.inside.quote l 0 c.in-Some.at) c.as_bytes.ensures.value c.in-Some.ensures in
    let grown : string_bytes c.push_str.new.self ≡ string_bytes c.loop-at.text ++ c.range.result.now = c.in_ok-push_str.ensures.bytes in
    let step = written-step c.args.inside.quote c.loop-at.rest.now (string_bytes c.loop-at.text) (single c.args.inside.quote c.args.inside.raw.now) (string_bytes c.push_str.new.self) c.range_from-rest.result.now c.in-Some.at
    c.loop-at.invariant.twice found c.loop-at.invariant.built (grown ∙ ap (λ (l : List ℕ). string_bytes c.loop-at.text ++ l) c.range.ensures.value) c.range_from-rest.ensures.value in
    record { built = step.0; twice = step.1; ascii = c.loop-at.invariant.ascii; text = c.range_from-rest.utf8 }

pub returns : goal.returns
returns c =
    let none : NoneAmong c.args.inside.quote c.loop-at.rest.now (length c.loop-at.rest.now) =
    subst (λ (l : List ℕ). NoneAmong c.args.inside.quote l (length l)) c.as_bytes.ensures.value c.in_default.ensures in
    let grown : string_bytes c.push_str-2.new.self ≡ string_bytes c.loop-at.text ++ c.loop-at.rest.now = c.in_ok-push_str-2.ensures.bytes in
    grown ∙ ap (λ (l : List ℕ). string_bytes c.loop-at.text ++ l) (sym (no-quote-once c.args.inside.quote c.loop-at.rest.now none)) ∙ c.loop-at.invariant.built
