use Rattle.std.proofs.Common.{◌≡◌, ◌≤◌, length, sym, ◌∙◌, arith}
use Rattle.std.proofs.lemmas.List.{length-take-le}
use Rattle.pgn_wordhub.specs.Passes.{hub_shape}
use Rattle.pgn_wordhub.proofs.OpenedLaws.{dbs_long}
use Rattle.pgn_wordhub.proofs.hub.WordHub.wake_few.Goals as goal

pub wake_by-requires-clause-long : goal.wake_by-requires-clause-long
wake_by-requires-clause-long c =
    let same : c.len-seats.result ≡ length (hub_shape c.args.self.now).seats = c.len-seats.ensures ∙ dbs_long c.args.self.now in
    let few = c.requires.few in
    let within : c.len-seats.result ≤ 8 = omega (arith, same, few) in length-take-le _ _ within ∙ same

pub wake_by-requires-clause-each : goal.wake_by-requires-clause-each
wake_by-requires-clause-each c =
    let same : c.len-seats.result ≡ length (hub_shape c.args.self.now).seats = c.len-seats.ensures ∙ dbs_long c.args.self.now in
    let few = c.requires.few in
    let within : c.len-seats.result ≤ 8 = omega (arith, same, few) in length-take-le _ _ within ∙ same

pub slice_bounds-wake_by-end : goal.slice_bounds-wake_by-end
slice_bounds-wake_by-end c =
    let same : c.len-seats.result ≡ length (hub_shape c.args.self.now).seats = c.len-seats.ensures ∙ dbs_long c.args.self.now in
    let few = c.requires.few in
    let within : c.len-seats.result ≤ 8 = omega (arith, same, few) in sym (length-take-le _ _ within)

pub slice_bounds-wake_by-end-2 : goal.slice_bounds-wake_by-end-2
slice_bounds-wake_by-end-2 c =
    let same : c.len-seats.result ≡ length (hub_shape c.args.self.now).seats = c.len-seats.ensures ∙ dbs_long c.args.self.now in
    let few = c.requires.few in
    let within : c.len-seats.result ≤ 8 = omega (arith, same, few) in sym (length-take-le _ _ within)
