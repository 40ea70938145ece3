use Rattle.std.proofs.Common.{inl, inr, ◌∙◌}
use Rattle.pgn_session.proofs.OpenLaws.{fed-read, fed-runs_served, quit-same}
use Rattle.pgn_wire.proofs.TakenLaws.{client-fed, client-read, client-same, fed-own, fed-section, not-fed, on_err, open-quits, query-between, query-taken, read-refused, read-section, runs-on, same-own, same-section, step-refused}
use Rattle.pgn_wire.proofs.taking.take_query.Goals as goal

pub feed-requires-clause-quits : goal.feed-requires-clause-quits
feed-requires-clause-quits g c = c.requires.ready.is_open.ends

pub feed-requires-clause-place : goal.feed-requires-clause-place
feed-requires-clause-place g c = c.requires.ready.is_open.between

pub feed-requires-clause-before_last : goal.feed-requires-clause-before_last
feed-requires-clause-before_last g c = open-quits c.args.session.now c.requires.ready.is_open

pub feed-requires-clause-goes_on : goal.feed-requires-clause-goes_on
feed-requires-clause-goes_on g c = runs-on c.args.line c.requires.runs

pub step-requires-clause-served : goal.step-requires-clause-served
step-requires-clause-served g c =
    fed-runs_served (g.H.Hub.shape c.args.hub.now) c.args.session.now c.feed.new.self c.args.line c.requires.ready.is_open c.requires.runs (fed-section c.args.session.now c.feed.new.self c.args.line c.in_ok-feed.ensures.fed)
    (client-fed c.args.session.now c.feed.new.self c.args.line c.in_ok-feed.ensures.fed) c.requires.ready.served

pub step-requires-clause-own : goal.step-requires-clause-own
step-requires-clause-own g c = fed-own (g.H.Hub.is_pass c.args.hub.now) c.args.session.now c.feed.new.self c.args.line c.in_ok-feed.ensures.fed c.requires.ready.own

pub step-requires-clause-rested : goal.step-requires-clause-rested
step-requires-clause-rested g c = c.in_ok-feed.ensures.rested (g.H.Hub.shape c.args.hub.now) c.requires.ready.rested

pub step-requires-clause-read_first : goal.step-requires-clause-read_first
step-requires-clause-read_first g c = fed-read g.P.PassView.known c.args.session.now c.feed.new.self c.args.line c.in_ok-feed.ensures.fed c.requires.ready.read_up

pub returns-in_err-feed-clause-own : goal.returns-in_err-feed-clause-own
returns-in_err-feed-clause-own g c = same-own (g.H.Hub.is_pass c.args.hub.now) c.args.session.now c.feed.new.self c.in_err-feed.ensures.unchanged c.requires.ready.own

pub returns-in_err-feed-clause-same : goal.returns-in_err-feed-clause-same
returns-in_err-feed-clause-same g c = client-same c.args.session.now c.feed.new.self c.in_err-feed.ensures.unchanged

pub returns-in_err-feed-clause-stopped : goal.returns-in_err-feed-clause-stopped
returns-in_err-feed-clause-stopped g c = on_err c.from_residual.result _ (not-fed (g.H.Hub.shape c.args.hub.now) g.P.PassView.known c.args.session.now c.feed.new.self c.in_err-feed.ensures.unchanged c.requires.ready.rested)

pub returns-in_err-feed-clause-script : goal.returns-in_err-feed-clause-script
returns-in_err-feed-clause-script g c = on_err c.from_residual.result _ (inl (same-section c.args.session.now c.feed.new.self c.in_err-feed.ensures.unchanged))

pub returns-in_err-_step-clause-same : goal.returns-in_err-_step-clause-same
returns-in_err-_step-clause-same g c = quit-same c.args.session.now c.feed.new.self c.step.new.self (client-fed c.args.session.now c.feed.new.self c.args.line c.in_ok-feed.ensures.fed) c.step.ensures.same

pub returns-in_err-_step-clause-script : goal.returns-in_err-_step-clause-script
returns-in_err-_step-clause-script g c =
    on_err c.from_residual-in_err-_step.result _ (inr (c.step.ensures.same.section ∙ fed-section c.args.session.now c.feed.new.self c.args.line c.in_ok-feed.ensures.fed))

pub returns-in_err-read_behind-clause-same : goal.returns-in_err-read_behind-clause-same
returns-in_err-read_behind-clause-same g c =
    client-read c.args.session.now c.step.new.self c.read_behind.new.session
    (quit-same c.args.session.now c.feed.new.self c.step.new.self (client-fed c.args.session.now c.feed.new.self c.args.line c.in_ok-feed.ensures.fed) c.step.ensures.same) c.read_behind.ensures.same

pub returns-in_err-read_behind-clause-script : goal.returns-in_err-read_behind-clause-script
returns-in_err-read_behind-clause-script g c =
    on_err c.from_residual-in_err-read_behind.result _
    (inr (read-section c.step.new.self c.read_behind.new.session c.read_behind.ensures.same ∙ c.step.ensures.same.section ∙ fed-section c.args.session.now c.feed.new.self c.args.line c.in_ok-feed.ensures.fed))

pub returns-clause-same : goal.returns-clause-same
returns-clause-same g c =
    client-read c.args.session.now c.step.new.self c.read_behind.new.session
    (quit-same c.args.session.now c.feed.new.self c.step.new.self (client-fed c.args.session.now c.feed.new.self c.args.line c.in_ok-feed.ensures.fed) c.step.ensures.same) c.read_behind.ensures.same

pub returns-in_err-_step-clause-stopped : goal.returns-in_err-_step-clause-stopped
returns-in_err-_step-clause-stopped g c =
    let shape = g.H.Hub.shape c.args.hub.now in
    on_err c.from_residual-in_err-_step.result _
    (step-refused shape g.P.PassView.known c.args.session.now c.feed.new.self c.step.new.self c.args.line c.requires.ready.is_open c.requires.ready.rested c.in_ok-feed.ensures.fed c.step.ensures.same c.in_err-_step.ensures.refused
    c.in_err-_step.ensures.unshown)

pub returns-in_err-read_behind-clause-stopped : goal.returns-in_err-read_behind-clause-stopped
returns-in_err-read_behind-clause-stopped g c =
    let shape = g.H.Hub.shape c.args.hub.now in
    on_err c.from_residual-in_err-read_behind.result _
    (read-refused shape g.P.PassView.known c.args.session.now c.feed.new.self c.step.new.self c.read_behind.new.session c.args.line c.in_ok-_step._step c.requires.ready.is_open c.requires.ready.rested c.requires.runs c.in_ok-feed.ensures.fed
    c.step.ensures.same c.in_ok-_step.ensures.moved c.read_behind.ensures.same c.read_behind.ensures.grows c.read_behind.ensures.stood)

pub returns-clause-taken : goal.returns-clause-taken
returns-clause-taken g c =
    let shape = g.H.Hub.shape c.args.hub.now in
    query-taken shape g.P.PassView.known c.args.session.now c.feed.new.self c.step.new.self c.read_behind.new.session c.args.line c.in_ok-_step._step c.requires.ready.is_open c.requires.ready.rested c.requires.runs c.in_ok-feed.ensures.fed
    (c.in_ok-feed.ensures.rested shape c.requires.ready.rested) c.step.ensures.same c.in_ok-_step.ensures.moved c.read_behind.ensures.same c.read_behind.ensures.grows c.in_ok-read_behind.ensures.rested

pub read_behind-requires-clause-between : goal.read_behind-requires-clause-between
read_behind-requires-clause-between g c =
    query-between g.P.PassView.known c.args.session.now c.feed.new.self c.step.new.self c.args.line c.in_ok-_step._step c.requires.ready.is_open c.requires.runs c.in_ok-feed.ensures.fed c.in_ok-_step.ensures.moved
