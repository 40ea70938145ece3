use Rattle.std.proofs.Common.{List, ℕ, refl, subst, sym}
use Rattle.std.specs.Io.KnownBytes.{Appends}
use Rattle.pgn_session.proofs.OpenLaws.{begins-open, begins-read, quit-same, stood-rest}
use Rattle.pgn_wire.proofs.ServingLaws.{quit-asked, quit-unasked}
use Rattle.pgn_wire.proofs.WrittenLaws.{stopped-wrote}
use Rattle.pgn_wire.proofs.serving.serve_wire.Goals as goal

pub converse-requires-clause-ready : goal.converse-requires-clause-ready
converse-requires-clause-ready g c = record {
  own = c.requires.own;
  served = c.requires.served;
  rested = c.requires.rested;
  read_up = begins-read (g.H.Hub.shape c.args.hub.now) g.P.PassView.known c.args.session.now c.requires.rested c.requires.begins;
  is_open = begins-open c.args.session.now c.requires.begins;
}

pub quit-requires-clause-own : goal.quit-requires-clause-own
quit-requires-clause-own g c = c.in-Ok.ensures.ready.own

pub quit-requires-clause-served : goal.quit-requires-clause-served
quit-requires-clause-served g c = c.in-Ok.ensures.ready.served

pub quit-requires-clause-rested : goal.quit-requires-clause-rested
quit-requires-clause-rested g c = c.in-Ok.ensures.ready.rested

pub quit-requires-clause-between : goal.quit-requires-clause-between
quit-requires-clause-between g c = c.in-Ok.ensures.ready.is_open

pub returns-in-Ok-quit-clause-same : goal.returns-in-Ok-quit-clause-same
returns-in-Ok-quit-clause-same g c = quit-same c.args.session.now c.converse.new.session c.quit.new.session c.in-Ok.ensures.ended.same c.quit.ensures.same

pub returns-in-Ok-quit-clause-stood : goal.returns-in-Ok-quit-clause-stood
returns-in-Ok-quit-clause-stood g c = stood-rest (g.H.Hub.shape c.args.hub.now) g.P.PassView.known c.quit.new.session c.in-Ok-quit.ensures.rested

pub returns-in-Ok-quit-clause-written : goal.returns-in-Ok-quit-clause-written
returns-in-Ok-quit-clause-written g c =
    subst (λ (text : List ℕ). Appends (g.K.Sink.held c.args.sink.now) (g.K.Sink.held c.converse.new.sink) text) (sym c.in-Ok-quit.ensures.silent) c.in-Ok.ensures.ended.written

pub returns-in-Ok-quit-clause-asked : goal.returns-in-Ok-quit-clause-asked
returns-in-Ok-quit-clause-asked g c =
    quit-asked c.args.session.now.section c.converse.new.session.section c.quit.new.session.section (g.S.Source.left c.args.source.now) c.quit.ensures.same.section c.in-Ok.ensures.ended.asked

pub returns-in-Err-quit-clause-same : goal.returns-in-Err-quit-clause-same
returns-in-Err-quit-clause-same g c = quit-same c.args.session.now c.converse.new.session c.quit.new.session c.in-Ok.ensures.ended.same c.quit.ensures.same

pub returns-in-Err-quit-clause-stood : goal.returns-in-Err-quit-clause-stood
returns-in-Err-quit-clause-stood g c = c.in-Err-quit.ensures.stopped.stood

pub returns-in-Err-quit-clause-written : goal.returns-in-Err-quit-clause-written
returns-in-Err-quit-clause-written g c =
    stopped-wrote (g.H.Hub.shape c.args.hub.now) g.P.PassView.known c.converse.new.session c.quit.new.session (g.K.Sink.held c.args.sink.now) (g.K.Sink.held c.converse.new.sink) (g.K.Sink.held c.converse.new.sink)
    c.in-Err-quit.ensures.stopped refl c.in-Ok.ensures.ended.written

pub returns-in-Err-quit-clause-asked : goal.returns-in-Err-quit-clause-asked
returns-in-Err-quit-clause-asked g c =
    quit-unasked c.args.session.now.section c.converse.new.session.section c.quit.new.session.section (g.S.Source.left c.args.source.now) c.quit.ensures.same.section c.in-Ok.ensures.ended.asked

pub returns-in-Err-clause-same : goal.returns-in-Err-clause-same
returns-in-Err-clause-same g c = c.in-Err.ensures.ended.same

pub returns-in-Err-clause-written : goal.returns-in-Err-clause-written
returns-in-Err-clause-written g c = c.in-Err.ensures.ended.written

pub returns-in-Err-clause-asked : goal.returns-in-Err-clause-asked
returns-in-Err-clause-asked g c = c.in-Err.ensures.ended.asked

pub returns-in-Err-clause-answered : goal.returns-in-Err-clause-answered
returns-in-Err-clause-answered g c = c.in-Err.ensures.answered
