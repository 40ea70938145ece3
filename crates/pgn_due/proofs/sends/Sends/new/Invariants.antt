use Rattle.std.proofs.Common.{◌≡◌, Some, length, map, take}
use Rattle.pgn_due.specs.Sent.{sent_in, shown_at}
use Rattle.pgn_due.proofs.SendLaws.{Begun}
use Rattle.pgn_due.proofs.sends.Sends.new.Given as goal

abbrev pub invariant-loop-tx : goal.invariant-loop-tx
invariant-loop-tx l = record {
  sent : map (shown_at l.journal) l.spots.items ≡ map Some (sent_in (take l.tx l.journal));
  long : length l.starts.items ≡ l.tx;
  begun : Begun l.journal l.starts.items l.tx;
}
