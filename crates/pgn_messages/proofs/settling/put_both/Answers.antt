use Rattle.std.specs.Prelude.{flat_map}
use Rattle.pgn_messages.proofs.BytesLaws.{put-two}
use Rattle.pgn_messages.specs.Turns.{heard}
use Rattle.pgn_messages.proofs.settling.put_both.Goals as goal

pub returns : goal.returns
returns c =
    put-two c.args.bytes.now c.put_reads.new.bytes c.put_reads-2.new.bytes (flat_map heard c.args.first.now) (flat_map heard c.args.second.now) c.in_ok-put_reads.ensures c.in_ok-put_reads-2.ensures
