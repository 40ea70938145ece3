use Rattle.std.proofs.Common.{◌≡◌, ℕ, ◌+◌, List, [], ◌∷◌, ◌++◌, length, length-append, arith}
use Rattle.pgn_messages.specs.Server.{ended}
use Rattle.pgn_messages.proofs.BytesLaws.{put-two, put-message}
use Rattle.pgn_messages.proofs.bytes.Bytes.put_status.Goals as goal

status_size : (name value : List ℕ) → length name + 1 + length value + 1 ≡ length (ended name ++ ended value)
status_size name value = omega (arith, length-append name (0 ∷ []), length-append value (0 ∷ []), length-append (ended name) (ended value))

pub returns : goal.returns
returns c =
    let name = c.args.name.now in
    let value = c.args.value.now in
    put-message c.args.self.now c.put_head.new.self c.put_ended-2.new.self 83 (length name + 1 + length value + 1) (ended name ++ ended value) (status_size name value) c.in_ok-put_head.ensures
    (put-two c.put_head.new.self c.put_ended.new.self c.put_ended-2.new.self (ended name) (ended value) c.in_ok-put_ended.ensures c.in_ok-put_ended-2.ensures)
