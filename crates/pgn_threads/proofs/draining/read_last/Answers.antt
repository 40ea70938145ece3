use Rattle.std.proofs.Common.{rules, length}
use borrow.Author.Rules.{scaled_Fits}
use Rattle.pgn_threads.proofs.LastReadLaws.{read-over, read-scripts, read-signals, read-more, read-shown}
use Rattle.pgn_threads.proofs.draining.read_last.Goals as goal

pub finish_read-requires-clause-own : goal.finish_read-requires-clause-own
finish_read-requires-clause-own g c = (c.requires.over c.args.i c.index-sessions-i.result c.requires.place).own

pub finish_read-requires-clause-over : goal.finish_read-requires-clause-over
finish_read-requires-clause-over g c = (c.requires.over c.args.i c.index-sessions-i.result c.requires.place).over

pub finish_read-requires-clause-rested : goal.finish_read-requires-clause-rested
finish_read-requires-clause-rested g c = (c.requires.over c.args.i c.index-sessions-i.result c.requires.place).rested

pub returns-clause-over : goal.returns-clause-over
returns-clause-over g c =
    read-over (g.H.Hub.is_pass c.args.hub.now) (g.H.Hub.shape c.args.hub.now) g.P.PassView.known c.args.sessions.now c.args.i c.index-sessions-i.result c.finish_read.new.self c.requires.place
    (g.met.H.Hub.within c.args.hub.now _ (c.requires.over c.args.i c.index-sessions-i.result c.requires.place).own) c.finish_read.ensures.own c.finish_read.ensures.rested c.finish_read.ensures.same c.in_ok-finish_read.ensures.finished c.requires.over

pub returns-clause-scripts : goal.returns-clause-scripts
returns-clause-scripts g c =
    read-scripts (g.H.Hub.is_pass c.args.hub.now) (g.H.Hub.shape c.args.hub.now) g.P.PassView.known c.args.sessions.now c.args.i c.index-sessions-i.result c.finish_read.new.self c.requires.place
    (g.met.H.Hub.within c.args.hub.now _ (c.requires.over c.args.i c.index-sessions-i.result c.requires.place).own) c.finish_read.ensures.own c.finish_read.ensures.rested c.finish_read.ensures.same c.in_ok-finish_read.ensures.finished

pub returns-clause-signals : goal.returns-clause-signals
returns-clause-signals g c =
    read-signals (g.H.Hub.is_pass c.args.hub.now) (g.H.Hub.shape c.args.hub.now) g.P.PassView.known c.args.sessions.now c.args.i c.index-sessions-i.result c.finish_read.new.self c.requires.place
    (g.met.H.Hub.within c.args.hub.now _ (c.requires.over c.args.i c.index-sessions-i.result c.requires.place).own) c.finish_read.ensures.own c.finish_read.ensures.rested c.finish_read.ensures.same c.in_ok-finish_read.ensures.finished

pub returns-clause-read : goal.returns-clause-read
returns-clause-read g c =
    read-more (g.H.Hub.is_pass c.args.hub.now) (g.H.Hub.shape c.args.hub.now) g.P.PassView.known c.args.sessions.now c.args.i c.index-sessions-i.result c.finish_read.new.self c.requires.place
    (g.met.H.Hub.within c.args.hub.now _ (c.requires.over c.args.i c.index-sessions-i.result c.requires.place).own) c.finish_read.ensures.own c.finish_read.ensures.rested c.finish_read.ensures.same c.in_ok-finish_read.ensures.finished c.requires.before

pub returns-clause-shown : goal.returns-clause-shown
returns-clause-shown g c =
    read-shown (g.H.Hub.is_pass c.args.hub.now) (g.H.Hub.shape c.args.hub.now) g.P.PassView.known c.args.sessions.now c.args.i c.index-sessions-i.result c.finish_read.new.self c.requires.place
    (g.met.H.Hub.within c.args.hub.now _ (c.requires.over c.args.i c.index-sessions-i.result c.requires.place).own) c.finish_read.ensures.own c.finish_read.ensures.rested c.finish_read.ensures.same c.in_ok-finish_read.ensures.finished

pub offset_bounds-sessions-i : goal.offset_bounds-sessions-i
offset_bounds-sessions-i g c = scaled_Fits c.args.i (length c.args.sessions.now) _ c.requires.place (search rules)
