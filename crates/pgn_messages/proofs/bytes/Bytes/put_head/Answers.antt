use Rattle.std.proofs.Common.{◌+◌, [], ◌∷◌}
use Rattle.pgn_messages.specs.Server.{four}
use Rattle.pgn_messages.proofs.BytesLaws.{put-two}
use Rattle.pgn_messages.proofs.bytes.Bytes.put_head.Goals as goal

pub returns : goal.returns
returns c = put-two c.args.self.now c.put.new.self c.put_four.new.self (c.args.letter ∷ []) (four (4 + c.args.size)) c.in_ok-put.ensures c.in_ok-put_four.ensures
