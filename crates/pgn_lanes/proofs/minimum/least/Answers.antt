use Rattle.std.proofs.Common.{◌*◌, ◌/◌, length, ap, ◌∙◌}
use Rattle.pgn_lanes.specs.Least.{least_with}
use Rattle.pgn_lanes.proofs.LeastLaws.{plain_least-parts}
use Rattle.pgn_lanes.proofs.minimum.least.Goals as goal

pub returns : goal.returns
returns c =
    plain_least-parts c.in_ok-first.field-0.now c.args.words.now c.least_lanes-lanes.result (length c.args.words.now / 8 * 8) c.least_of-least.result c.least_of.result
    c.in_ok-first.ensures.value c.least_lanes-lanes.ensures (c.least_of-least.ensures ∙ ap (least_with c.in_ok-first.field-0.now) c.as_array.ensures) c.least_of.ensures
