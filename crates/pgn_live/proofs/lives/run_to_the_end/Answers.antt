use Rattle.std.proofs.Common.{ap, ◌∙◌}
use Rattle.pgn_outlet.specs.Passes.{knows}
use Rattle.pgn_live.specs.Cames.{Hand}
use Rattle.pgn_live.proofs.LiveLaws.{came-out, came-to, sends-still}
use Rattle.pgn_live.proofs.RoundLaws.{may-begin}
use Rattle.pgn_live.proofs.lives.run_to_the_end.Goals as goal

pub play_and_write-played-requires-clause-may : goal.play_and_write-played-requires-clause-may
play_and_write-played-requires-clause-may g c κs o =
    may-begin (g.H.Hub.is_pass c.args.live.now.hub.now) (g.H.Hub.shape c.args.live.now.hub.now) g.P.PassView.known c.args.sessions.now (knows c.args.telling.pass) c.requires.sends c.requires.ready c.requires.numbered c.requires.few

pub play_and_write-played-requires-clause-takes : goal.play_and_write-played-requires-clause-takes
play_and_write-played-requires-clause-takes g c κs o = ap (λ (v : Hand). v.takes) c.requires.takes

pub play_and_write-played-requires-clause-none : goal.play_and_write-played-requires-clause-none
play_and_write-played-requires-clause-none g c κs o = c.requires.none

pub close-requires-clause-takes : goal.close-requires-clause-takes
close-requires-clause-takes g c = ap (λ (v : Hand). v.takes) c.play_and_write-played.ensures.wrote.got ∙ ap (λ (v : Hand). v.takes) c.requires.takes

pub write_rest-requires-clause-takes : goal.write_rest-requires-clause-takes
write_rest-requires-clause-takes g c = ap (λ (v : Hand). v.takes) c.close.ensures.taken_over

pub returns-clause-came : goal.returns-clause-came
returns-clause-came g c =
    came-to (g.H.Hub.is_pass c.args.live.now.hub.now) (g.H.Hub.shape c.args.live.now.hub.now) g.P.PassView.known g.K.Sink.held g.K.Sink.faults c.args.live.now.sections.now c.args.sessions.now c.play_and_write-played.new.sessions
    (knows c.args.telling.pass) (knows c.play_and_write-played.new.telling.pass) (knows c.write_rest.new.writer.pass) c.args.sink.now c.write_rest.new.sink c.write_rest.new.writer.out.so_far c.play_and_write-played.result c.answer.result c.requires.numbered c.requires.few c.requires.sends
    c.play_and_write-played.ensures.played
    (came-out g.K.Sink.held g.K.Sink.faults c.args.live.now.sections.now (knows c.play_and_write-played.new.telling.pass) (knows c.args.writer.pass) (knows c.play_and_write-played.new.writer.pass) (knows c.close.new.pass) (knows c.write_rest.new.writer.pass)
    c.args.sink.now c.play_and_write-played.new.sink c.write_rest.new.sink c.args.writer.out c.play_and_write-played.new.writer.out c.write_rest.new.writer.out
    (sends-still (knows c.args.telling.pass) (knows c.play_and_write-played.new.telling.pass) c.requires.sends c.play_and_write-played.ensures.played.same) c.requires.takes c.close.ensures.taken_over c.play_and_write-played.ensures.wrote c.write_rest.ensures.wrote
    c.write_rest.ensures.has_all c.requires.nothing c.requires.fine c.write_rest.ensures.sent)
    c.answer.ensures
