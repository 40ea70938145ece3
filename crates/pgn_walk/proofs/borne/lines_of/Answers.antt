use Rattle.pgn_walk.proofs.BorneLaws.{lines_channels, lines_one, lines_read}
use Rattle.pgn_walk.proofs.borne.lines_of.Goals as goal

pub returns-in-Channels : goal.returns-in-Channels
returns-in-Channels c = λ lines. lines_channels lines c.args.item.now c.in-Channels.names c.as_slice.result.now c.in-Channels.is c.as_slice.ensures

pub returns-in-Read : goal.returns-in-Read
returns-in-Read c = λ lines. lines_read lines c.args.item.now c.in-Read.from c.in-Read.to c.in-Read.got c.as_slice-in-Read.result.now c.in-Read.is c.as_slice-in-Read.ensures

pub returns-in_default : goal.returns-in_default
returns-in_default c = λ lines. lines_one lines c.args.item.now c.in_default.not-Reply c.in_default.not-Channels c.in_default.not-Used c.in_default.not-Read
