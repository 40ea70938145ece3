use Rattle.std.proofs.Common.{◌≡◌, ℕ, List, ◌∷◌, take, drop, sym, ap, ◌∙◌, subst, IsCharBoundary}
use Rattle.std.specs.List.{prefix_len}
use Rattle.pgn_language.specs.Lines.{is_gap, parts_of}
use Rattle.pgn_language.specs.laws.Tokens.{NoneFollows}
use Rattle.pgn_command.proofs.QuoteLaws.{from_start}
use Rattle.pgn_scenario.specs.Parting.{past_gap}
use Rattle.pgn_scenario.proofs.PartLaws.{gap-boundary, is_part, part-boundary, parts-past, past-ends, parts-none, parts-next}
use Rattle.pgn_scenario.proofs.parts.next_part.Goals as goal

pub range_from-rest-requires : goal.range_from-rest-requires
range_from-rest-requires c = λ _.
    rw c.gap_bytes-start.ensures.value (subst (λ (l : List ℕ). IsCharBoundary l (prefix_len is_gap c.as_bytes.result.now)) c.as_bytes.ensures.value (gap-boundary c.as_bytes.result.now c.as_bytes.ensures.utf8))

pub returns-then-end-eq0 : goal.returns-then-end-eq0
returns-then-end-eq0 c =
    let past : c.range_from-rest.result.now ≡ past_gap c.args.text.now
    = c.range_from-rest.ensures.value ∙ ap (λ (n : ℕ). drop n c.args.text.now) (c.gap_bytes-start.ensures.value ∙ ap (prefix_len is_gap) c.as_bytes.ensures.value) in
    let text : List ℕ = c.range_from-rest.result.now in
    let ends : NoneFollows is_gap text = subst (NoneFollows is_gap) (sym past) (past-ends c.args.text.now) in
    let none : prefix_len is_part text ≡ 0 = ap (prefix_len is_part) (sym c.as_bytes-2.ensures.value) ∙ sym c.part_bytes-end.ensures.value ∙ c.if-end-eq0.true in
    parts-past c.args.text.now ∙ ap parts_of (sym past) ∙ parts-none text ends none

pub range-requires-clause-end_boundary : goal.range-requires-clause-end_boundary
range-requires-clause-end_boundary c =
    rw c.part_bytes-end.ensures.value (subst (λ (l : List ℕ). IsCharBoundary l (prefix_len is_part c.as_bytes-2.result.now)) c.as_bytes-2.ensures.value (part-boundary c.as_bytes-2.result.now))

pub range_from-requires : goal.range_from-requires
range_from-requires c = λ _.
    rw c.part_bytes-end.ensures.value (subst (λ (l : List ℕ). IsCharBoundary l (prefix_len is_part c.as_bytes-2.result.now)) c.as_bytes-2.ensures.value (part-boundary c.as_bytes-2.result.now))

pub returns : goal.returns
returns c =
    let past : c.range_from-rest.result.now ≡ past_gap c.args.text.now
    = c.range_from-rest.ensures.value ∙ ap (λ (n : ℕ). drop n c.args.text.now) (c.gap_bytes-start.ensures.value ∙ ap (prefix_len is_gap) c.as_bytes.ensures.value) in
    let text : List ℕ = c.range_from-rest.result.now in
    let end : c.part_bytes-end.result ≡ prefix_len is_part text = c.part_bytes-end.ensures.value ∙ ap (prefix_len is_part) c.as_bytes-2.ensures.value in
    let next = parts-next text (λ e. c.if-end-eq0.false (end ∙ e)) in
    parts-past c.args.text.now ∙ ap parts_of (sym past) ∙ next
    ∙ ap (λ (n : ℕ). take n text ∷ parts_of (drop n text)) (sym end)
    ∙ ap (λ (l : List ℕ). l ∷ parts_of (drop c.part_bytes-end.result text)) (sym (c.range.ensures.value ∙ from_start c.part_bytes-end.result text))
    ∙ ap (λ (l : List ℕ). c.range.result.now ∷ parts_of l) (sym c.range_from.ensures.value)
