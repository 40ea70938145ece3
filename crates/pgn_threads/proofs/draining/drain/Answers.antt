use Rattle.std.proofs.Common.{rules}
use Rattle.pgn_threads.proofs.DrainLaws.{up-first, up-next, up-last, down-next, down-last, read-next, read-last, shown-last}
use Rattle.pgn_threads.proofs.draining.drain.Goals as goal

pub loop-i-init : goal.loop-i-init
loop-i-init g c = up-first (g.H.Hub.is_pass c.args.hub.now) (g.H.Hub.shape c.args.hub.now) g.P.PassView.known c.args.sessions.now c.requires.over

pub loop-i-preserved : goal.loop-i-preserved
loop-i-preserved g c =
    up-next (g.H.Hub.is_pass c.args.hub.now) (g.H.Hub.shape c.args.hub.now) g.P.PassView.known c.args.sessions.now c.loop-i.sessions c.hear_up.new.sessions c.loop-i.i (search rules) c.loop-i.invariant
    c.hear_up.ensures.over c.hear_up.ensures.scripts c.hear_up.ensures.signals c.hear_up.ensures.shown

pub loop-k-init : goal.loop-k-init
loop-k-init g c = up-last (g.H.Hub.is_pass c.args.hub.now) (g.H.Hub.shape c.args.hub.now) g.P.PassView.known c.args.sessions.now c.loop-i.sessions c.loop-i.i (search rules) c.loop-i.invariant

pub loop-k-preserved : goal.loop-k-preserved
loop-k-preserved g c =
    down-next (g.H.Hub.is_pass c.args.hub.now) (g.H.Hub.shape c.args.hub.now) g.P.PassView.known c.args.sessions.now c.loop-k.sessions c.hear_down.new.sessions c.loop-k.k (search rules) c.loop-k.invariant
    c.hear_down.ensures.over c.hear_down.ensures.scripts c.hear_down.ensures.signals c.hear_down.ensures.shown

pub loop-i-2-init : goal.loop-i-2-init
loop-i-2-init g c = down-last (g.H.Hub.is_pass c.args.hub.now) (g.H.Hub.shape c.args.hub.now) g.P.PassView.known c.args.sessions.now c.loop-k.sessions c.loop-k.k (search rules) c.loop-k.invariant

pub loop-i-2-preserved : goal.loop-i-2-preserved
loop-i-2-preserved g c =
    read-next (g.H.Hub.is_pass c.args.hub.now) (g.H.Hub.shape c.args.hub.now) g.P.PassView.known c.args.sessions.now c.loop-i-2.sessions c.read_last.new.sessions c.loop-i-2.i (search rules) c.loop-i-2.invariant
    c.in_ok-read_last.ensures.over c.in_ok-read_last.ensures.scripts c.in_ok-read_last.ensures.signals c.in_ok-read_last.ensures.read c.in_ok-read_last.ensures.shown

pub returns-clause-read : goal.returns-clause-read
returns-clause-read g c = read-last (g.H.Hub.is_pass c.args.hub.now) (g.H.Hub.shape c.args.hub.now) g.P.PassView.known c.args.sessions.now c.loop-i-2.sessions c.loop-i-2.i (search rules) c.loop-i-2.invariant

pub returns-clause-shown : goal.returns-clause-shown
returns-clause-shown g c = shown-last (g.H.Hub.is_pass c.args.hub.now) (g.H.Hub.shape c.args.hub.now) g.P.PassView.known c.args.sessions.now c.loop-i-2.sessions c.loop-i-2.i c.loop-i-2.invariant (search rules)
