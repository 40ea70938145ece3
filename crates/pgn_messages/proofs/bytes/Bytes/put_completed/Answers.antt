use Rattle.std.proofs.Common.{◌+◌, [], ◌∷◌, length, length-append, sym}
use Rattle.pgn_messages.specs.Server.{ended}
use Rattle.pgn_messages.proofs.BytesLaws.{put-message}
use Rattle.pgn_messages.proofs.bytes.Bytes.put_completed.Goals as goal

pub returns : goal.returns
returns c =
    let text = c.args.text.now in
    put-message c.args.self.now c.put_head.new.self c.put_ended.new.self 67 (length text + 1) (ended text) (sym (length-append text (0 ∷ []))) c.in_ok-put_head.ensures c.in_ok-put_ended.ensures
