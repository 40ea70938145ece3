use Rattle.std.proofs.Common.{[], ◌∷◌}
use Rattle.pgn_messages.proofs.BytesLaws.{put-two}
use Rattle.pgn_messages.proofs.bytes.Bytes.put_ended.Goals as goal

pub returns : goal.returns
returns c = put-two c.args.self.now c.put.new.self c.put-2.new.self c.args.text.now (0 ∷ []) c.in_ok-put.ensures c.in_ok-put-2.ensures
