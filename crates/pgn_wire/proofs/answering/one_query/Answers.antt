use Rattle.std.proofs.Common.{List, ℕ, ◌++◌, ap, ◌∙◌, sym}
use Rattle.pgn_messages.specs.Messages.{messages}
use Rattle.pgn_wire.proofs.WrittenLaws.{appends-more, appends-part}
use Rattle.pgn_wire.proofs.answering.one_query.Goals as goal

pub returns-in_default-clause-written : goal.returns-in_default-clause-written
returns-in_default-clause-written g c held wrote =
    let old = c.args.session.now in
    record { written = messages old.section old.items.items; whole = c.in_default.ensures.whole; wrote = wrote }

pub returns-in-Ok-sent-clause-written : goal.returns-in-Ok-sent-clause-written
returns-in-Ok-sent-clause-written g c held wrote =
    let old = c.args.session.now in
    let new = c.answered.new.session in
    appends-more held (g.K.Sink.held c.args.sink.now) (g.K.Sink.held c.write_all-sent.new.sink) (messages old.section old.items.items) c.as_slice.result.now (messages new.section new.items.items)
    (c.in-Ok.ensures.answer ∙ ap (λ (answer : List ℕ). messages old.section old.items.items ++ answer) (sym c.as_slice.ensures)) wrote c.in-Ok-sent.ensures.bytes

pub returns-in-Err-clause-written : goal.returns-in-Err-clause-written
returns-in-Err-clause-written g c held wrote =
    let old = c.args.session.now in
    let new = c.answered.new.session in
    appends-part held (g.K.Sink.held c.args.sink.now) (g.K.Sink.held c.write_all-sent.new.sink) (messages old.section old.items.items) c.as_slice.result.now (messages new.section new.items.items)
    (c.in-Ok.ensures.answer ∙ ap (λ (answer : List ℕ). messages old.section old.items.items ++ answer) (sym c.as_slice.ensures)) wrote c.in-Err.ensures.bytes
