use Rattle.std.proofs.Common.{◌≤◌, length, arith}
use Rattle.pgn_run.specs.declared.checking.TheConstants.{CHECK_BYTES_MAX}
use Rattle.pgn_run.specs.Checking.{Parts}
use Rattle.pgn_run.specs.Run.{settings_of}
use Rattle.pgn_run.proofs.CheckingLaws.{judged-in, told-answers}
use Rattle.pgn_run.proofs.checking.judge.Goals as goal

pub returns-in-Ok-Ok-clause-answers : goal.returns-in-Ok-Ok-clause-answers
returns-in-Ok-Ok-clause-answers g c =
    let fits : length c.args.input.now ≤ CHECK_BYTES_MAX = omega (arith, c.if-input-gt-CHECK_BYTES_MAX.false) in
    let parts : Parts = record { scenario = c.in-Some.scenario.now; output = c.in-Some.output.now } in
    let settings = settings_of c.args.settings in
    told-answers settings c.args.input.now c.in-Ok-Ok.verdict (g.K.Sink.held c.args.sink.now) (g.K.Sink.held c.tell.new.sink) _ _ c.tell.result
    (judged-in settings c.args.input.now parts c.in-Ok-Ok.verdict fits c.in-Some.ensures.parts (rw c.in-Ok-Ok.field-0-is at c.in-Ok-Ok.ensures.given)) c.tell.ensures.told
