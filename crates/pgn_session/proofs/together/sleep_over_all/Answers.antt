use borrow.Author.Rules.{scaled_Fits}
use Rattle.std.proofs.Common.{refl, arith, ◌<◌, length, rules}
use Rattle.pgn_session.specs.Runs.{slept}
use Rattle.pgn_session.proofs.TogetherLaws.{part-more, part-all}
use Rattle.pgn_session.proofs.together.sleep_over_all.Goals as goal

pub loop-session-preserved : goal.loop-session-preserved
loop-session-preserved g c =
    part-more (slept c.args.micros) c.args.sessions.now c.loop-session.sessions c.loop-session.session-index c.session-item.result c.sleep_over.new.self
    (omega arith) c.loop-session.invariant c.sleep_over.ensures.same

pub returns : goal.returns
returns g c = part-all (slept c.args.micros) c.args.sessions.now c.loop-session.sessions c.loop-session.session-index (omega arith) c.loop-session.invariant

pub loop-session-init : goal.loop-session-init
loop-session-init g c = refl

pub offset_bounds-sessions-session-index : goal.offset_bounds-sessions-session-index
offset_bounds-sessions-session-index g c =
    let place : c.loop-session.session-index < length c.loop-session.sessions = omega arith in scaled_Fits c.loop-session.session-index (length c.loop-session.sessions) _ place (search rules)
