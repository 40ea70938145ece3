use Rattle.std.proofs.Common.{rules, arith}
use Rattle.pgn_frames.proofs.CallerLaws.{Takes-passed}
use Rattle.pgn_frames.proofs.taking.take_signs.Goals as goal

pub returns-then-caller-clause-takes : goal.returns-then-caller-clause-takes
returns-then-caller-clause-takes g c = Takes-passed c.args.inbox.now.seat c.args.caller.now c.args.bytes.now c.if-caller.true (search (rules, arith))
