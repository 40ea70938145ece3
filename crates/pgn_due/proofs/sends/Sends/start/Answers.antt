use Rattle.std.proofs.Common.{◌<◌, ◌∙◌, length, arith}
use Rattle.std.proofs.lemmas.List.{get_or_read}
use Rattle.pgn_due.proofs.SendLaws.{start_at}
use Rattle.pgn_due.proofs.sends.Sends.start.Goals as goal

pub returns : goal.returns
returns c =
    let sends = c.args.self.now in
    let within : c.min.result < length sends.starts.items = omega (arith, sends.begun.counted) in
    get_or_read sends.starts.items _ _ within c.index.ensures 0 ∙ start_at sends.journal.now sends.starts.items c.args.x c.min.result sends.begun (omega arith)
