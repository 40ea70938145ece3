use Rattle.std.proofs.Common.{[], ◌∷◌}
use Rattle.pgn_messages.specs.Server.{ended}
use Rattle.pgn_messages.proofs.BytesLaws.{put-two}
use Rattle.pgn_messages.proofs.bytes.Bytes.put_field.Goals as goal

pub returns : goal.returns
returns c = put-two c.args.self.now c.put.new.self c.put_ended.new.self (c.args.letter ∷ []) (ended c.args.text.now) c.in_ok-put.ensures c.in_ok-put_ended.ensures
