use Rattle.std.proofs.Common.{◌++◌, refl}
use Rattle.pgn_frames.proofs.CallerLaws.{FirstBytes-none}
use Rattle.pgn_frames.proofs.taking.take_grown.Goals as goal

pub returns-then-is_err-clause-first : goal.returns-then-is_err-clause-first
returns-then-is_err-clause-first g c = FirstBytes-none c.args.inbox.now.seat c.args.caller.now c.args.caller.now (c.args.begun.now.items ++ c.args.bytes.now) refl
