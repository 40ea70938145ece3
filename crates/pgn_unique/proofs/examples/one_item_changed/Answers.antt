use Rattle.pgn_unique.proofs.ExampleLaws.{changed-none}
use Rattle.pgn_unique.proofs.examples.one_item_changed.Goals as goal

pub returns : goal.returns
returns c = changed-none
