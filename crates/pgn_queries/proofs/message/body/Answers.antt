use Rattle.pgn_queries.specs.Client.{IsBody}
use Rattle.pgn_queries.proofs.ClientLaws.{Body-bad, Body-cut, Body-whole, body_fails, body_passes, body_sound}
use Rattle.pgn_queries.proofs.message.body.Goals as goal

pub returns-then-n-size-clause-next : goal.returns-then-n-size-clause-next
returns-then-n-size-clause-next g c =
    Body-cut c.args.at c.args.size c.in-Ok.n c.fill.new.text.items _ (g.S.Source.left c.args.source.now) (g.S.Source.left c.fill.new.source)
    c.if-n-size.true c.in-Ok.ensures.bytes (c.in-Ok.ensures.ended c.if-n-size.true)

pub returns-then-not-is_body-clause-next : goal.returns-then-not-is_body-clause-next
returns-then-not-is_body-clause-next g c =
    Body-bad c.args.at c.args.size c.in-Ok.n c.fill.new.text.items _ (g.S.Source.left c.args.source.now) (g.S.Source.left c.fill.new.source)
    c.in-Ok.ensures.size c.if-n-size.false (body_fails c.is_body.result c.as_slice.result.now c.fill.new.text.items c.is_body.ensures c.as_slice.ensures.value c.if-not-is_body.true) c.in-Ok.ensures.bytes

pub returns-clause-next : goal.returns-clause-next
returns-clause-next g c =
    let is : IsBody c.fill.new.text.items = body_passes c.is_body.result c.as_slice.result.now c.fill.new.text.items c.is_body.ensures c.as_slice.ensures.value c.if-not-is_body.false in
    Body-whole c.args.at c.args.size c.in-Ok.n c.fill.new.text.items _ (g.S.Source.left c.args.source.now) (g.S.Source.left c.fill.new.source)
    c.in-Ok.ensures.size c.if-n-size.false is c.truncate.ensures.items c.in-Ok.ensures.bytes

pub returns-clause-sound : goal.returns-clause-sound
returns-clause-sound g c = λ _.
    let is : IsBody c.fill.new.text.items = body_passes c.is_body.result c.as_slice.result.now c.fill.new.text.items c.is_body.ensures c.as_slice.ensures.value c.if-not-is_body.false in
    body_sound c.args.size c.fill.new.text.items _ c.in-Ok.ensures.size c.requires.few is c.truncate.ensures.items
