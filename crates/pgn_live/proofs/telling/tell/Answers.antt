use Rattle.std.proofs.Common.{length}
use Rattle.pgn_outlet.specs.Passes.{knows}
use Rattle.pgn_live.proofs.TellLaws.{pushed-one, told-none, told-set}
use Rattle.pgn_live.proofs.telling.tell.Goals as goal

pub returns-in-Ok-clause-alone : goal.returns-in-Ok-clause-alone
returns-in-Ok-clause-alone g c =
    told-set c.args.session c.get.result (length c.args.items.now) c.args.telling.now.told (knows c.args.telling.now.pass) (knows c.push_copies.new.pass) c.get.ensures.value (pushed-one c.args.session _ (knows c.args.telling.now.pass) (knows c.push_copies.new.pass) c.in-Ok.ensures.pushed)

pub returns-in-Err-clause-alone : goal.returns-in-Err-clause-alone
returns-in-Err-clause-alone g c = told-none c.args.session c.args.telling.now.told (knows c.args.telling.now.pass) (knows c.push_copies.new.pass) c.in-Err.ensures.refused
