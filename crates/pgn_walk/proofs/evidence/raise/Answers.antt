use Rattle.std.proofs.lemmas.Result.{on_ok_weaker}
use Rattle.pgn_walk.proofs.EvidenceLaws.{raises}
use Rattle.pgn_walk.proofs.evidence.raise.Goals as goal

pub returns-in-Some : goal.returns-in-Some
returns-in-Some c = on_ok_weaker c.put.result (raises c.args.pairs.now c.put.new.self c.args.flag c.args.item.now c.in-Some.flag c.in-Raise.value c.get.result c.in-Some.is c.in-Raise.is c.get.ensures.value) c.put.ensures
