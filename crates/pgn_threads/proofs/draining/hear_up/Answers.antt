use Rattle.std.proofs.Common.{rules, ◌-◌, ◌<◌, length}
use borrow.Author.Rules.{scaled_Fits}
use Rattle.pgn_session.specs.Runs.{IsOver}
use Rattle.pgn_threads.proofs.ListLemmas.{all-front, all-behind, place-before, place-behind}
use Rattle.pgn_threads.proofs.MeetLaws.{up-all}
use Rattle.pgn_threads.proofs.draining.hear_up.Goals as goal

pub meet-requires-clause-own : goal.meet-requires-clause-own
meet-requires-clause-own g c =
    (all-front (IsOver (g.H.Hub.is_pass c.args.hub.now) (g.H.Hub.shape c.args.hub.now) g.P.PassView.known) c.args.sessions.now c.split_at_mut-front.result.0.now c.args.i c.split_at_mut-front.ensures.front c.requires.over (c.args.i - 1) c.index-front-i.result
    (place-before c.args.i (length c.split_at_mut-front.result.0.now) c.requires.place.0 c.split_at_mut-front.ensures.front_len)).own

pub meet-requires-clause-into_own : goal.meet-requires-clause-into_own
meet-requires-clause-into_own g c =
    (all-behind (IsOver (g.H.Hub.is_pass c.args.hub.now) (g.H.Hub.shape c.args.hub.now) g.P.PassView.known) c.args.sessions.now c.split_at_mut-front.result.1.now c.args.i c.split_at_mut-front.ensures.back c.requires.over 0 c.index-back-0.result
    (place-behind c.args.i (length c.split_at_mut-front.result.1.now) (length c.args.sessions.now) c.split_at_mut-front.ensures.back_len c.requires.place.1)).own

pub meet-requires-clause-over : goal.meet-requires-clause-over
meet-requires-clause-over g c =
    (all-behind (IsOver (g.H.Hub.is_pass c.args.hub.now) (g.H.Hub.shape c.args.hub.now) g.P.PassView.known) c.args.sessions.now c.split_at_mut-front.result.1.now c.args.i c.split_at_mut-front.ensures.back c.requires.over 0 c.index-back-0.result
    (place-behind c.args.i (length c.split_at_mut-front.result.1.now) (length c.args.sessions.now) c.split_at_mut-front.ensures.back_len c.requires.place.1)).over

pub meet-requires-clause-rested : goal.meet-requires-clause-rested
meet-requires-clause-rested g c =
    (all-behind (IsOver (g.H.Hub.is_pass c.args.hub.now) (g.H.Hub.shape c.args.hub.now) g.P.PassView.known) c.args.sessions.now c.split_at_mut-front.result.1.now c.args.i c.split_at_mut-front.ensures.back c.requires.over 0 c.index-back-0.result
    (place-behind c.args.i (length c.split_at_mut-front.result.1.now) (length c.args.sessions.now) c.split_at_mut-front.ensures.back_len c.requires.place.1)).rested

pub returns-clause-over : goal.returns-clause-over
returns-clause-over g c =
    (up-all (g.H.Hub.is_pass c.args.hub.now) (g.H.Hub.shape c.args.hub.now) g.P.PassView.known c.args.sessions.now c.index-front-i.result c.index-back-0.result c.meet.new.self c.meet.new.into
    c.split_at_mut-front.result.0.now c.split_at_mut-front.result.1.now c.args.i c.split_at_mut-front.ensures.front c.split_at_mut-front.ensures.back c.requires.place.0 c.requires.place.1
    (record { from_own = c.meet.ensures.own; into_own = c.meet.ensures.into_own; into_rested = c.meet.ensures.rested; told = c.meet.ensures.told; heard = c.meet.ensures.heard; from_same = c.meet.ensures.same; into_same = c.meet.ensures.into_same })
    c.requires.over).over

pub returns-clause-scripts : goal.returns-clause-scripts
returns-clause-scripts g c =
    (up-all (g.H.Hub.is_pass c.args.hub.now) (g.H.Hub.shape c.args.hub.now) g.P.PassView.known c.args.sessions.now c.index-front-i.result c.index-back-0.result c.meet.new.self c.meet.new.into
    c.split_at_mut-front.result.0.now c.split_at_mut-front.result.1.now c.args.i c.split_at_mut-front.ensures.front c.split_at_mut-front.ensures.back c.requires.place.0 c.requires.place.1
    (record { from_own = c.meet.ensures.own; into_own = c.meet.ensures.into_own; into_rested = c.meet.ensures.rested; told = c.meet.ensures.told; heard = c.meet.ensures.heard; from_same = c.meet.ensures.same; into_same = c.meet.ensures.into_same })
    c.requires.over).scripts

pub returns-clause-signals : goal.returns-clause-signals
returns-clause-signals g c =
    (up-all (g.H.Hub.is_pass c.args.hub.now) (g.H.Hub.shape c.args.hub.now) g.P.PassView.known c.args.sessions.now c.index-front-i.result c.index-back-0.result c.meet.new.self c.meet.new.into
    c.split_at_mut-front.result.0.now c.split_at_mut-front.result.1.now c.args.i c.split_at_mut-front.ensures.front c.split_at_mut-front.ensures.back c.requires.place.0 c.requires.place.1
    (record { from_own = c.meet.ensures.own; into_own = c.meet.ensures.into_own; into_rested = c.meet.ensures.rested; told = c.meet.ensures.told; heard = c.meet.ensures.heard; from_same = c.meet.ensures.same; into_same = c.meet.ensures.into_same })
    c.requires.over).signals

pub returns-clause-shown : goal.returns-clause-shown
returns-clause-shown g c =
    (up-all (g.H.Hub.is_pass c.args.hub.now) (g.H.Hub.shape c.args.hub.now) g.P.PassView.known c.args.sessions.now c.index-front-i.result c.index-back-0.result c.meet.new.self c.meet.new.into
    c.split_at_mut-front.result.0.now c.split_at_mut-front.result.1.now c.args.i c.split_at_mut-front.ensures.front c.split_at_mut-front.ensures.back c.requires.place.0 c.requires.place.1
    (record { from_own = c.meet.ensures.own; into_own = c.meet.ensures.into_own; into_rested = c.meet.ensures.rested; told = c.meet.ensures.told; heard = c.meet.ensures.heard; from_same = c.meet.ensures.same; into_same = c.meet.ensures.into_same })
    c.requires.over).shown

pub offset_bounds-front-i : goal.offset_bounds-front-i
offset_bounds-front-i g c =
    let front = c.split_at_mut-front.result.0.now in
    let place : c.args.i - 1 < length front = place-before c.args.i (length front) c.requires.place.0 c.split_at_mut-front.ensures.front_len in
    scaled_Fits (c.args.i - 1) (length front) _ place (search rules)
