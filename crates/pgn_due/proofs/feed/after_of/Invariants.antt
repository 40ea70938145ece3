use Rattle.pgn_due.specs.Sent.{sent_in}
use Rattle.pgn_due.proofs.ListLaws.{AreAfterTo}
use Rattle.pgn_due.proofs.feed.after_of.Given as goal

abbrev pub invariant-loop-at : goal.invariant-loop-at
invariant-loop-at l = AreAfterTo (sent_in l.sends.journal.now) l.at l.after.items
