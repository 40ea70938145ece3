use Rattle.std.proofs.Common.{◌≡◌, ℕ, ◌+◌, List, length, take, flat_map, None, sym, ap, ◌∙◌, subst, arith}
use Rattle.pgn_language.specs.Quotes.{doubled_byte}
use Rattle.pgn_language.specs.Tokens.{closed}
use Rattle.pgn_command.specs.Texts.{single, IsInside}
use Rattle.pgn_command.proofs.QuoteLaws.{Written, written-next, written-spelled, written-counted, written-closed, written-twice, written-open, from_start}
use Rattle.pgn_command.proofs.quotes.inside.Goals as goal

pub invariant_of-result-clause-spelled : goal.invariant_of-result-clause-spelled
invariant_of-result-clause-spelled c =
    let bytes : List ℕ = c.as_bytes-bytes.result.now in
    let raw : c.range-raw.result.now ≡ take c.in-Some.at bytes = c.range-raw.ensures.value ∙ from_start c.in-Some.at c.args.text.now ∙ ap (take c.in-Some.at) (sym c.as_bytes-bytes.ensures.value) in
    let w : Written c.args.quote bytes c.in-Some.at c.loop-at.doubled = written-next c.args.quote bytes c.loop-at.end c.loop-at.doubled c.in-Some.at c.loop-at.invariant.written c.in-Some.ensures in
    subst (λ (l : List ℕ). l ≡ flat_map (doubled_byte c.args.quote) (single c.args.quote l)) (sym raw) (written-spelled c.args.quote bytes c.in-Some.at c.loop-at.doubled w)

pub invariant_of-result-clause-counted : goal.invariant_of-result-clause-counted
invariant_of-result-clause-counted c =
    let bytes : List ℕ = c.as_bytes-bytes.result.now in
    let raw : c.range-raw.result.now ≡ take c.in-Some.at bytes = c.range-raw.ensures.value ∙ from_start c.in-Some.at c.args.text.now ∙ ap (take c.in-Some.at) (sym c.as_bytes-bytes.ensures.value) in
    let w : Written c.args.quote bytes c.in-Some.at c.loop-at.doubled = written-next c.args.quote bytes c.loop-at.end c.loop-at.doubled c.in-Some.at c.loop-at.invariant.written c.in-Some.ensures in
    subst (λ (l : List ℕ). length (single c.args.quote l) + c.loop-at.doubled ≡ length l) (sym raw) (written-counted c.args.quote bytes c.in-Some.at c.loop-at.doubled w (omega (arith, c.in-Some.ensures.high)))

pub returns-then-not-is_quote : goal.returns-then-not-is_quote
returns-then-not-is_quote c =
    let bytes : List ℕ = c.as_bytes-bytes.result.now in
    let raw : c.range-raw.result.now ≡ take c.in-Some.at bytes = c.range-raw.ensures.value ∙ from_start c.in-Some.at c.args.text.now ∙ ap (take c.in-Some.at) (sym c.as_bytes-bytes.ensures.value) in
    let w : Written c.args.quote bytes c.in-Some.at c.loop-at.doubled = written-next c.args.quote bytes c.loop-at.end c.loop-at.doubled c.in-Some.at c.loop-at.invariant.written c.in-Some.ensures in
    let whole : IsInside c.args.quote bytes c.args.quote (take c.in-Some.at bytes) =
    written-closed c.args.quote bytes c.in-Some.at c.loop-at.doubled w c.in-Some.ensures.high c.in-Some.ensures.is (sym c.is_quote.ensures ∙ c.if-not-is_quote.true) in
    subst (λ (l : List ℕ). IsInside c.args.quote c.args.text.now c.args.quote l) (sym raw) (subst (λ (l : List ℕ). IsInside c.args.quote l c.args.quote (take c.in-Some.at bytes)) c.as_bytes-bytes.ensures.value whole)

pub loop-at-preserved : goal.loop-at-preserved
loop-at-preserved c =
    let bytes : List ℕ = c.as_bytes-bytes.result.now in
    let w : Written c.args.quote bytes c.in-Some.at c.loop-at.doubled = written-next c.args.quote bytes c.loop-at.end c.loop-at.doubled c.in-Some.at c.loop-at.invariant.written c.in-Some.ensures in
    let both = written-twice c.args.quote bytes c.in-Some.at c.loop-at.doubled w c.in-Some.ensures.high c.in-Some.ensures.is (sym c.is_quote.ensures ∙ c.if-not-is_quote.false) in
    record { written = both.0; within = both.1 }

pub returns : goal.returns
returns c =
    subst (λ (l : List ℕ). closed c.args.quote l ≡ None) c.as_bytes-bytes.ensures.value
    (written-open c.args.quote c.as_bytes-bytes.result.now c.loop-at.end c.loop-at.doubled c.loop-at.invariant.written c.in_default.ensures)
