use Rattle.pgn_sorted.proofs.SortedLaws.{live-is_unique}
use Rattle.pgn_sorted.proofs.laws.live_is_unique.Goals as goal

pub returns : goal.returns
returns c = live-is_unique
