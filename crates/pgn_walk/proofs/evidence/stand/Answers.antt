use Rattle.std.proofs.lemmas.Result.{on_ok_weaker}
use Rattle.pgn_walk.proofs.EvidenceLaws.{stands_one, stands_two}
use Rattle.pgn_walk.proofs.evidence.stand.Goals as goal

pub returns-in_ok-put-in-Enlist : goal.returns-in_ok-put-in-Enlist
returns-in_ok-put-in-Enlist c =
    on_ok_weaker c.put-in-Enlist.result
    (stands_two c.args.pairs.now c.put.new.self c.put-in-Enlist.new.self c.args.session c.args.item.now c.in-Enlist.base c.in-Enlist.point c.get.result c.get-in-Enlist.result c.in-Enlist.is c.get.ensures.value c.get-in-Enlist.ensures.value
    c.in_ok-put-in-Enlist.ensures) c.put-in-Enlist.ensures

pub returns-in-Read : goal.returns-in-Read
returns-in-Read c =
    on_ok_weaker c.put-in-Read.result
    (stands_one c.args.pairs.now c.put-in-Read.new.self c.args.session c.args.item.now c.in-Read.from c.in-Read.to c.get-in-Read.result c.in-Read.got c.in-Read.is c.get-in-Read.ensures.value) c.put-in-Read.ensures
