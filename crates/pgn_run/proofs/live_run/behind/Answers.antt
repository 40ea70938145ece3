use Rattle.std.proofs.Common.{sym, arith}
use Rattle.std.proofs.lemmas.List.{drop_all}
use Rattle.pgn_run.proofs.live_run.behind.Goals as goal

pub returns-then-items-count : goal.returns-then-items-count
returns-then-items-count c = sym (drop_all c.args.count c.args.items.now (omega arith))
