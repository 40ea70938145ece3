use Rattle.std.proofs.Common.{List, length, ◌<◌, ◌≤◌, subst}
use Rattle.std.proofs.lemmas.List.{drop_all}
use Rattle.pgn_language.specs.declared.scenario.Act.TheVariants.{Run, Signal, Await, Quit}
use Rattle.pgn_language.specs.declared.scenario.ScriptLine.{ScriptLine}
use Rattle.pgn_session.proofs.KnownLaws.{on-err}
use Rattle.pgn_session.proofs.NextLaws.{comes-as, comes-below, read-for, refused-still}
use Rattle.pgn_session.proofs.session.Session.next_line.Goals as goal

pub begin_end-requires-clause-no_line : goal.begin_end-requires-clause-no_line
begin_end-requires-clause-no_line g c =
    let s = c.args.self.now in
    drop_all s.done s.section.lines (subst (λ (lines : List ScriptLine). length lines ≤ s.done) c.as_slice.ensures c.if-self-as_slice.true)

pub next_act-requires : goal.next_act-requires
next_act-requires g c = record {
  more =
      let s = c.args.self.now in
      subst (λ (lines : List ScriptLine). s.done < length lines) c.as_slice.ensures c.if-self-as_slice.false;
}

pub run-requires-clause-comes : goal.run-requires-clause-comes
run-requires-clause-comes g c = comes-as c.args.self.now c.in_ok-line.line c.in_ok-line.act (Run c.in-Run.command) c.in-Run.is c.in_ok-line.ensures.comes

pub run-requires-clause-read_first : goal.run-requires-clause-read_first
run-requires-clause-read_first g c =
    let s = c.args.self.now in
    read-for g.P.PassView.known s c.in_ok-line.line (Run c.in-Run.command) c.requires.place (comes-as s c.in_ok-line.line c.in_ok-line.act (Run c.in-Run.command) c.in-Run.is c.in_ok-line.ensures.comes) c.requires.read_first

pub signal-requires-clause-comes : goal.signal-requires-clause-comes
signal-requires-clause-comes g c = comes-as c.args.self.now c.in_ok-line.line c.in_ok-line.act (Signal c.in-Signal.flag) c.in-Signal.is c.in_ok-line.ensures.comes

pub signal-requires-clause-flag : goal.signal-requires-clause-flag
signal-requires-clause-flag g c =
    let s = c.args.self.now in
    comes-below (g.H.Hub.shape c.args.hub.now).flags s c.in_ok-line.line (Signal c.in-Signal.flag) (comes-as s c.in_ok-line.line c.in_ok-line.act (Signal c.in-Signal.flag) c.in-Signal.is c.in_ok-line.ensures.comes) c.requires.served.acts

pub await_flag-requires-clause-comes : goal.await_flag-requires-clause-comes
await_flag-requires-clause-comes g c = comes-as c.args.self.now c.in_ok-line.line c.in_ok-line.act (Await c.in-Await.flag) c.in-Await.is c.in_ok-line.ensures.comes

pub await_flag-requires-clause-flag : goal.await_flag-requires-clause-flag
await_flag-requires-clause-flag g c =
    let s = c.args.self.now in
    comes-below (g.H.Hub.shape c.args.hub.now).flags s c.in_ok-line.line (Await c.in-Await.flag) (comes-as s c.in_ok-line.line c.in_ok-line.act (Await c.in-Await.flag) c.in-Await.is c.in_ok-line.ensures.comes) c.requires.served.acts

pub quit-requires-clause-comes : goal.quit-requires-clause-comes
quit-requires-clause-comes g c = comes-as c.args.self.now c.in_ok-line.line c.in_ok-line.act Quit c.in-Quit.is c.in_ok-line.ensures.comes

pub returns-in_err-line-clause-refused : goal.returns-in_err-line-clause-refused
returns-in_err-line-clause-refused g c = on-err _ _ (refused-still (g.H.Hub.shape c.args.hub.now) g.P.PassView.known c.args.self.now c.requires.place c.requires.rested)

pub returns-in-Run-clause-own : goal.returns-in-Run-clause-own
returns-in-Run-clause-own g c = c.run.ensures.own

pub returns-in-Run-clause-stepped : goal.returns-in-Run-clause-stepped
returns-in-Run-clause-stepped g c = c.run.ensures.stepped

pub returns-in-Run-clause-refused : goal.returns-in-Run-clause-refused
returns-in-Run-clause-refused g c = c.run.ensures.refused

pub run-requires-clause-counted : goal.run-requires-clause-counted
run-requires-clause-counted g c = c.next_act.ensures.counted

pub run-requires-clause-rested : goal.run-requires-clause-rested
run-requires-clause-rested g c = c.requires.rested

pub returns-in-Signal-clause-own : goal.returns-in-Signal-clause-own
returns-in-Signal-clause-own g c = c.signal.ensures.own

pub returns-in-Signal-clause-stepped : goal.returns-in-Signal-clause-stepped
returns-in-Signal-clause-stepped g c = c.signal.ensures.stepped

pub returns-in-Signal-clause-refused : goal.returns-in-Signal-clause-refused
returns-in-Signal-clause-refused g c = c.signal.ensures.refused

pub signal-requires-clause-counted : goal.signal-requires-clause-counted
signal-requires-clause-counted g c = c.next_act.ensures.counted

pub signal-requires-clause-rested : goal.signal-requires-clause-rested
signal-requires-clause-rested g c = c.requires.rested

pub returns-in-Await-clause-own : goal.returns-in-Await-clause-own
returns-in-Await-clause-own g c = c.await_flag.ensures.own

pub returns-in-Await-clause-stepped : goal.returns-in-Await-clause-stepped
returns-in-Await-clause-stepped g c = c.await_flag.ensures.stepped

pub returns-in-Await-clause-refused : goal.returns-in-Await-clause-refused
returns-in-Await-clause-refused g c = c.await_flag.ensures.refused

pub await_flag-requires-clause-counted : goal.await_flag-requires-clause-counted
await_flag-requires-clause-counted g c = c.next_act.ensures.counted

pub await_flag-requires-clause-rested : goal.await_flag-requires-clause-rested
await_flag-requires-clause-rested g c = c.requires.rested

pub returns-in-Quit-clause-own : goal.returns-in-Quit-clause-own
returns-in-Quit-clause-own g c = c.quit.ensures.own

pub returns-in-Quit-clause-stepped : goal.returns-in-Quit-clause-stepped
returns-in-Quit-clause-stepped g c = c.quit.ensures.stepped

pub returns-in-Quit-clause-refused : goal.returns-in-Quit-clause-refused
returns-in-Quit-clause-refused g c = c.quit.ensures.refused

pub quit-requires-clause-counted : goal.quit-requires-clause-counted
quit-requires-clause-counted g c = c.next_act.ensures.counted

pub quit-requires-clause-rested : goal.quit-requires-clause-rested
quit-requires-clause-rested g c = c.requires.rested

pub quit-requires-clause-served : goal.quit-requires-clause-served
quit-requires-clause-served g c = c.requires.served
