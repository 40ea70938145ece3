use Rattle.std.proofs.Common.{rules, inl, inr, refl, ◌≡◌, length}
use Rattle.pgn_session.proofs.OpenLaws.{stood-rest}
use Rattle.pgn_wire.proofs.TakenLaws.{on_err}
use Rattle.pgn_wire.proofs.WrittenLaws.{answer-made, on_made, same-whole, some-behind, stopped-whole, taken-whole}
use Rattle.pgn_wire.proofs.answering.answered.Goals as goal

pub returns-in_default-clause-stood : goal.returns-in_default-clause-stood
returns-in_default-clause-stood g c = stood-rest (g.H.Hub.shape c.args.host.now.hub.now) g.P.PassView.known c.args.session.now c.requires.ready.rested

pub returns-in_default-clause-script : goal.returns-in_default-clause-script
returns-in_default-clause-script g c = inl refl

pub returns-in_default-clause-whole : goal.returns-in_default-clause-whole
returns-in_default-clause-whole g c = same-whole c.args.session.now

pub returns-in_default-take_query-clause-stood : goal.returns-in_default-take_query-clause-stood
returns-in_default-take_query-clause-stood g c = c.in_default-take_query.ensures.stopped.stood

pub returns-in_default-take_query-clause-whole : goal.returns-in_default-take_query-clause-whole
returns-in_default-take_query-clause-whole g c = stopped-whole (g.H.Hub.shape c.args.host.now.hub.now) g.P.PassView.known c.args.session.now c.take_query.new.session c.in_default-take_query.ensures.stopped

pub answer_behind-answer-requires : goal.answer_behind-answer-requires
answer_behind-answer-requires g c =
    let from : c.len-from.result ≡ length c.args.session.now.items.items = search rules in
    some-behind c.args.session.now c.take_query.new.session c.args.line c.len-from.result from c.in-Ok-take_query.ensures.taken

pub returns-clause-taken : goal.returns-clause-taken
returns-clause-taken g c = on_made c.answer_behind-answer.result _ c.in-Ok-take_query.ensures.taken

pub returns-clause-rested : goal.returns-clause-rested
returns-clause-rested g c = on_made c.answer_behind-answer.result _ c.in-Ok-take_query.ensures.rested

pub returns-clause-stood : goal.returns-clause-stood
returns-clause-stood g c = stood-rest (g.H.Hub.shape c.args.host.now.hub.now) g.P.PassView.known c.take_query.new.session c.in-Ok-take_query.ensures.rested

pub returns-clause-script : goal.returns-clause-script
returns-clause-script g c = on_err c.answer_behind-answer.result _ (inr c.in-Ok-take_query.ensures.taken.section)

pub returns-clause-answer : goal.returns-clause-answer
returns-clause-answer g c =
    let from : c.len-from.result ≡ length c.args.session.now.items.items = search rules in
    answer-made c.args.session.now c.take_query.new.session c.args.line c.in-Ok.command c.len-from.result c.answer_behind-answer.result c.in-Ok-take_query.ensures.taken c.in-Ok.ensures from c.answer_behind-answer.ensures

pub returns-clause-whole : goal.returns-clause-whole
returns-clause-whole g c = on_err c.answer_behind-answer.result _ (taken-whole c.args.session.now c.take_query.new.session c.args.line c.in-Ok-take_query.ensures.taken)
