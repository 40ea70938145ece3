use Rattle.std.proofs.Common.{sym, subst}
use Rattle.std.proofs.lemmas.Result.{on_ok_weaker}
use Rattle.pgn_model.specs.Walk.{at_act}
use Rattle.pgn_ledger.specs.declared.to_show.ToShow.{ToShow}
use Rattle.pgn_walk.specs.Steps.{BeginsFrom}
use Rattle.pgn_walk.proofs.LineLaws.{begins_await, begins_quit, begins_run, begins_signal}
use Rattle.pgn_walk.proofs.standing.Standing.begin.Goals as goal

pub returns-in-Run : goal.returns-in-Run
returns-in-Run c = on_ok_weaker c.run.result (begins_run c.args.self.now c.run.new.self c.args.act.now c.in-Run.command c.in-Run.is) c.run.ensures

pub returns-in-Signal : goal.returns-in-Signal
returns-in-Signal c =
    let old = c.args.self.now in
    subst (λ (left : ToShow). BeginsFrom old (record old { owed = left }) (λ s. at_act s c.args.act.now)) (sym c.set.ensures) (begins_signal old c.args.act.now c.in-Signal.flag c.in-Signal.is)

pub returns-in-Await : goal.returns-in-Await
returns-in-Await c =
    let old = c.args.self.now in
    subst (λ (left : ToShow). BeginsFrom old (record old { owed = left }) (λ s. at_act s c.args.act.now)) (sym c.set-in-Await.ensures) (begins_await old c.args.act.now c.in-Await.flag c.in-Await.is)

pub returns-in-Quit : goal.returns-in-Quit
returns-in-Quit c = begins_quit c.args.self.now c.quit.new.self c.args.act.now c.in-Quit.is c.quit.ensures
