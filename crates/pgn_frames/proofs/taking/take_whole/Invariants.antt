use Rattle.std.proofs.Common.{◌≡◌, ◌≤◌, ◌-◌, true, length}
use Rattle.pgn_outlet.specs.Passes.{IsPassOf, knows}
use Rattle.pgn_outlet.specs.Rule.{MayPush}
use Rattle.pgn_frames.specs.Callers.{TakesBytes}
use Rattle.pgn_frames.proofs.taking.take_whole.Given as goal

-- the first messages were taken
abbrev pub invariant-messages : goal.invariant-messages
invariant-messages g l = record {
  own : IsPassOf l.fn.inbox.outlet.now l.caller.asks;
  may : MayPush (knows l.caller.asks) l.fn.inbox.seat;
  within : l.at ≤ length l.fn.bytes;
  takes : TakesBytes l.fn.inbox.seat l.fn.caller l.caller l.fn.bytes l.at;
  ended : l.caller.left ≡ true → l.at ≡ length l.fn.bytes;
  begun : l.caller.begun.items ≡ l.fn.caller.begun.items;
}

abbrev pub decreases-messages : goal.decreases-messages
decreases-messages g l = length l.fn.bytes - l.at
