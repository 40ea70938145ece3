use Rattle.std.proofs.Common.{◌≡◌, [], ◌∷◌, length, sym, refl, rules}
use Rattle.pgn_messages.specs.Asks.{line_of}
use Rattle.pgn_outlet.specs.Passes.{knows}
use Rattle.pgn_seats.proofs.DoneLaws.{done-first, first-untold, run-done}
use Rattle.pgn_seats.proofs.ResultLaws.{err_then, ok_then, on_err, on_ok}
use Rattle.pgn_seats.proofs.SayLaws.{may-at, pushed-at, pushed-same}
use Rattle.pgn_seats.proofs.WorkLaws.{no-script, ran-within}
use Rattle.pgn_seats.proofs.answering.run_query.Goals as goal

pub run_line-requires : goal.run_line-requires
run_line-requires g c = record { own = c.requires.line.own; served = c.requires.line.served; rested = c.requires.line.rested; read_up = c.requires.read_up }

pub say_answer-requires-clause-may : goal.say_answer-requires-clause-may
say_answer-requires-clause-may g c = may-at _ _ (knows c.args.tells.now) (sym (no-script c.args.session.now c.run_line.new.session c.run_line.ensures.same)) c.requires.may

pub say_answer-requires-clause-shown : goal.say_answer-requires-clause-shown
say_answer-requires-clause-shown g c =
    let from : c.len-from.result ≡ length c.args.session.now.items.items = search rules in
    ran-within c.args.session.now c.run_line.new.session (line_of c.args.query.now) c.len-from.result from (c.in_ok-run_line.ensures.ran (line_of c.args.query.now) c.requires.line).ran

pub returns-in_err-run_line-clause-alone : goal.returns-in_err-run_line-clause-alone
returns-in_err-run_line-clause-alone g c = pushed-same c.args.session.now.section.no (knows c.args.tells.now) (knows c.args.tells.now) refl

pub returns-in_err-run_line-clause-same : goal.returns-in_err-run_line-clause-same
returns-in_err-run_line-clause-same g c = c.run_line.ensures.same

pub returns-in_err-run_line-clause-lawful : goal.returns-in_err-run_line-clause-lawful
returns-in_err-run_line-clause-lawful g c = c.run_line.ensures.lawful

pub returns-in_err-run_line-clause-stopped : goal.returns-in_err-run_line-clause-stopped
returns-in_err-run_line-clause-stopped g c =
    on_err c.from_residual.result _ (λ kept asks h. c.run_line.ensures.first asks (knows c.args.tells.now) (done-first (line_of c.args.query.now ∷ []) asks c.args.session.now kept (knows c.args.tells.now) h))

pub returns-clause-alone : goal.returns-clause-alone
returns-clause-alone g c = pushed-at _ _ _ _ (no-script c.args.session.now c.run_line.new.session c.run_line.ensures.same) c.say_answer.ensures.alone

pub returns-clause-same : goal.returns-clause-same
returns-clause-same g c = c.run_line.ensures.same

pub returns-clause-lawful : goal.returns-clause-lawful
returns-clause-lawful g c = c.run_line.ensures.lawful

pub returns-clause-work : goal.returns-clause-work
returns-clause-work g c = on_ok c.say_answer.result _ (c.in_ok-run_line.ensures.ran (line_of c.args.query.now) c.requires.line).work

pub returns-clause-went : goal.returns-clause-went
returns-clause-went g c =
    let from : c.len-from.result ≡ length c.args.session.now.items.items = search rules in
    ok_then c.say_answer.result _ _
    (λ said kept asks h. run-done (g.H.Hub.is_pass c.args.service.now.hub.now) (g.H.Hub.shape c.args.service.now.hub.now) g.P.PassView.known asks c.args.query.now c.args.session.now c.run_line.new.session kept (knows c.args.tells.now) (knows c.say_answer.new.tells) c.len-from.result h
    c.run_line.ensures.same.section (c.in_ok-run_line.ensures.ran (line_of c.args.query.now) c.requires.line).ran (c.in_ok-run_line.ensures.ran (line_of c.args.query.now) c.requires.line).work from said)
    c.say_answer.ensures.said

pub returns-clause-stopped : goal.returns-clause-stopped
returns-clause-stopped g c =
    err_then c.say_answer.result _ _
    (λ same kept asks h. first-untold asks c.run_line.new.session (knows c.args.tells.now) (knows c.say_answer.new.tells) same (c.run_line.ensures.first asks (knows c.args.tells.now) (done-first (line_of c.args.query.now ∷ []) asks c.args.session.now kept (knows c.args.tells.now) h))) c.say_answer.ensures.unsaid
