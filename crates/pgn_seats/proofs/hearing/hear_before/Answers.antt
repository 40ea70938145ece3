use Rattle.std.proofs.Common.{◌≡◌, length, sym, refl, rules}
use Rattle.pgn_outlet.specs.Passes.{knows}
use Rattle.pgn_session.proofs.LawfulLaws.{rest-lawful}
use Rattle.pgn_session.proofs.LineTakenLaws.{first-shows}
use Rattle.pgn_seats.proofs.DoneLaws.{done-first, first-untold, read-done, read-stays}
use Rattle.pgn_seats.proofs.ResultLaws.{err_then, ok_then, on_err, on_ok}
use Rattle.pgn_seats.proofs.SayLaws.{may-at, pushed-at, pushed-same}
use Rattle.pgn_seats.proofs.WorkLaws.{line-read, no-read, within-grown}
use Rattle.pgn_seats.proofs.hearing.hear_before.Goals as goal

pub read_before_line-requires-clause-own : goal.read_before_line-requires-clause-own
read_before_line-requires-clause-own g c = c.requires.line.1.own

pub read_before_line-requires-clause-rested : goal.read_before_line-requires-clause-rested
read_before_line-requires-clause-rested g c = c.requires.line.1.rested

pub say_heard-requires-clause-may : goal.say_heard-requires-clause-may
say_heard-requires-clause-may g c = may-at _ _ (knows c.args.tells.now) (sym (no-read c.args.session.now c.read_before_line.new.self c.read_before_line.ensures.same)) c.requires.may

pub say_heard-requires-clause-within : goal.say_heard-requires-clause-within
say_heard-requires-clause-within g c =
    let from : c.len-from.result ≡ length c.args.session.now.items.items = search rules in
    within-grown c.len-from.result _ _ from c.read_before_line.ensures.grows

pub returns-in_err-read_before_line-clause-alone : goal.returns-in_err-read_before_line-clause-alone
returns-in_err-read_before_line-clause-alone g c = pushed-same c.args.session.now.section.no (knows c.args.tells.now) (knows c.args.tells.now) refl

pub returns-in_err-read_before_line-clause-lawful : goal.returns-in_err-read_before_line-clause-lawful
returns-in_err-read_before_line-clause-lawful g c = rest-lawful (g.H.Hub.shape c.args.service.now.hub.now) g.P.PassView.known c.read_before_line.new.self c.read_before_line.ensures.rested

pub returns-in_err-read_before_line-clause-line : goal.returns-in_err-read_before_line-clause-line
returns-in_err-read_before_line-clause-line g c = λ line h.
    line-read (g.H.Hub.is_pass c.args.service.now.hub.now) (g.H.Hub.shape c.args.service.now.hub.now) g.P.PassView.known c.args.session.now c.read_before_line.new.self line h c.read_before_line.ensures.own
    c.read_before_line.ensures.rested c.read_before_line.ensures.same

pub returns-in_err-read_before_line-clause-stopped : goal.returns-in_err-read_before_line-clause-stopped
returns-in_err-read_before_line-clause-stopped g c = λ rest.
    on_err c.from_residual.result _ (λ kept asks h. read-stays c.args.session.now c.read_before_line.new.self c.read_before_line.ensures.same c.read_before_line.ensures.grows asks (knows c.args.tells.now) (done-first rest asks c.args.session.now kept (knows c.args.tells.now) h))

pub returns-clause-alone : goal.returns-clause-alone
returns-clause-alone g c = pushed-at _ _ _ _ (no-read c.args.session.now c.read_before_line.new.self c.read_before_line.ensures.same) c.say_heard.ensures.alone

pub returns-clause-lawful : goal.returns-clause-lawful
returns-clause-lawful g c = rest-lawful (g.H.Hub.shape c.args.service.now.hub.now) g.P.PassView.known c.read_before_line.new.self c.read_before_line.ensures.rested

pub returns-clause-line : goal.returns-clause-line
returns-clause-line g c = λ line h.
    line-read (g.H.Hub.is_pass c.args.service.now.hub.now) (g.H.Hub.shape c.args.service.now.hub.now) g.P.PassView.known c.args.session.now c.read_before_line.new.self line h c.read_before_line.ensures.own
    c.read_before_line.ensures.rested c.read_before_line.ensures.same

pub returns-clause-read_up : goal.returns-clause-read_up
returns-clause-read_up g c = on_ok c.say_heard.result _ c.in_ok-read_before_line.ensures.read_up

pub returns-clause-went : goal.returns-clause-went
returns-clause-went g c = λ rest.
    let from : c.len-from.result ≡ length c.args.session.now.items.items = search rules in
    let shows = first-shows c.args.session.now (g.P.PassView.known c.args.session.now.pass) (g.P.PassView.known c.read_before_line.new.self.pass) c.read_before_line.new.self.items.items c.requires.line.1.before.between c.in_ok-read_before_line.ensures.read in
    ok_then c.say_heard.result _ _
    (λ said kept asks h. read-done rest asks c.args.session.now c.read_before_line.new.self kept (knows c.args.tells.now) (knows c.say_heard.new.tells) c.len-from.result h c.read_before_line.ensures.same shows from said) c.say_heard.ensures.said

pub returns-clause-stopped : goal.returns-clause-stopped
returns-clause-stopped g c = λ rest.
    err_then c.say_heard.result _ _
    (λ same kept asks h. first-untold asks c.read_before_line.new.self (knows c.args.tells.now) (knows c.say_heard.new.tells) same
    (read-stays c.args.session.now c.read_before_line.new.self c.read_before_line.ensures.same c.read_before_line.ensures.grows asks (knows c.args.tells.now) (done-first rest asks c.args.session.now kept (knows c.args.tells.now) h))) c.say_heard.ensures.unsaid
