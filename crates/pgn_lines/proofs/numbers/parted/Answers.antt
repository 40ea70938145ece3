use Rattle.pgn_lines.proofs.FieldLaws.{parted_at}
use Rattle.pgn_lines.proofs.numbers.parted.Goals as goal

pub returns : goal.returns
returns c = parted_at c.args.mark c.args.text.now c.split_once.result c.split_once.ensures.cases c.requires
