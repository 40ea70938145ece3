use Rattle.std.specs.Prelude.{[], codes}
use Rattle.pgn_requests.specs.declared.complaint.Cause.TheVariants as cause
use Rattle.pgn_requests.specs.Phrases as told
use Rattle.pgn_requests.specs.Reading as asked
use Rattle.pgn_statements.proofs.StepLaws.{asks-body, told-body}
use Rattle.pgn_statements.proofs.statement_reading.read_request.Goals as goal

pub returns-in-Text : goal.returns-in-Text
returns-in-Text c = asks-body c.args.body.now c.in-Text.text.now c.read_text.result c.in-Text.ensures.0 c.in-Text.ensures.1 c.in-Text.ensures.2 c.read_text.ensures

pub returns-in-Garbled : goal.returns-in-Garbled
returns-in-Garbled c = told-body c.args.body.now (told.refused [] 0 cause.BadMessage (codes "invalid message format")) c.refused_as.result (asked.RequestIs.Garbled c.in-Garbled.ensures) c.refused_as.ensures

pub returns-in-Encoded : goal.returns-in-Encoded
returns-in-Encoded c =
    let e = c.in-Encoded.ensures in
    told-body c.args.body.now (told.refused [] 0 cause.BadEncoding (codes "invalid byte sequence for encoding \"UTF8\"")) c.refused_as-in-Encoded.result (asked.RequestIs.Encoded e.0 e.1 e.2 e.3) c.refused_as-in-Encoded.ensures
