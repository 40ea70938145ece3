use Rattle.std.proofs.Common.{sym, ◌∙◌}
use Rattle.pgn_base.specs.declared.limits.TheConstants.{LINE_BYTES_MAX}
use Rattle.pgn_lines.proofs.QuotedLaws.{at_payload, behind_channel, behind_payload, behind_quote, comma, empty_is, empty_not, pair_spelled, second_short, whole_pair}
use Rattle.pgn_lines.proofs.quoted.pair_of.Goals as goal

pub returns-in_default : goal.returns-in_default
returns-in_default c = λ a b e. c.in_default.ensures _ (sym e ∙ pair_spelled a b)

pub returns-in_default-enclosed : goal.returns-in_default-enclosed
returns-in_default-enclosed c = λ a b e. c.in_default-enclosed.ensures a _ comma (behind_quote _ _ c.in-Some.ensures a b e)

pub returns-in_default-after : goal.returns-in_default-after
returns-in_default-after c = λ a b e. c.in_default-after.ensures _ (behind_channel _ _ c.in-Some.ensures _ _ c.in-Some-enclosed.ensures.1 a b e).1

pub enclosed-requires-2-clause-short : goal.enclosed-requires-2-clause-short
enclosed-requires-2-clause-short c = second_short _ _ c.in-Some.ensures _ _ c.in-Some-enclosed.ensures.1 _ c.in-Some-after.ensures LINE_BYTES_MAX c.requires.short

pub returns-in_default-enclosed-2 : goal.returns-in_default-enclosed-2
returns-in_default-enclosed-2 c = λ a b e. c.in_default-enclosed-2.ensures b _ tt (at_payload _ _ c.in-Some.ensures _ _ c.in-Some-enclosed.ensures.1 _ c.in-Some-after.ensures a b e)

pub returns-then-not-is_empty : goal.returns-then-not-is_empty
returns-then-not-is_empty c = λ a b e.
    empty_not _ _ c.is_empty.ensures c.if-not-is_empty.true
    (behind_payload _ _ c.in-Some.ensures _ _ c.in-Some-enclosed.ensures.1 _ c.in-Some-after.ensures _ _ c.in-Some-enclosed-2.ensures.1 a b e).1

pub returns : goal.returns
returns c =
    whole_pair _ _ c.in-Some.ensures _ _ c.in-Some-enclosed.ensures.1 _ c.in-Some-after.ensures _ _ c.in-Some-enclosed-2.ensures.1 (empty_is _ _ c.is_empty.ensures c.if-not-is_empty.false)
