use Rattle.std.proofs.Common.{ap}
use Rattle.pgn_model.specs.Legal.{finished_xid}
use Rattle.pgn_walk.proofs.BorneLaws.{next_none, next_own}
use Rattle.pgn_walk.proofs.borne.is_next_own.Goals as goal

pub returns-in-Publish : goal.returns-in-Publish
returns-in-Publish c = λ section before e f.
    next_own section c.args.ledger.now.journal.now before c.args.item.now c.args.session c.args.own c.in-Publish.xid c.is_next_of.result e f (ap finished_xid c.in-Publish.is) c.is_next_of.ensures

pub returns-in-QueueFull : goal.returns-in-QueueFull
returns-in-QueueFull c = λ section before e f.
    next_own section c.args.ledger.now.journal.now before c.args.item.now c.args.session c.args.own c.in-QueueFull.full.xid c.is_next_of-in-QueueFull.result e f (ap finished_xid c.in-QueueFull.is) c.is_next_of-in-QueueFull.ensures

pub returns-in_default : goal.returns-in_default
returns-in_default c = λ section before e f. next_none section c.args.ledger.now.journal.now before c.args.item.now c.in_default.not-Publish c.in_default.not-QueueFull
