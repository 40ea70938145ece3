use Rattle.pgn_due.proofs.feed.Feed.new.Goals as goal

pub returns : goal.returns
returns c = c.in_ok-sends.ensures

pub invariant_of-result : goal.invariant_of-result
invariant_of-result c = record { listed = c.in_ok-lists.ensures; counted = c.in_ok-after.ensures.counted; follow = c.in_ok-after.ensures.follow }
