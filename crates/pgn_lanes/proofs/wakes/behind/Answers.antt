use Rattle.std.proofs.Common.{◌*◌, arith}
use Rattle.pgn_lanes.specs.Behind.{plain_behind}
use Rattle.pgn_lanes.proofs.WakeLaws.{length-plain_behind, marked-none, marked-word, marked-all, word_bit}
use Rattle.pgn_lanes.proofs.wakes.behind.Goals as goal

pub loop-word-init : goal.loop-word-init
loop-word-init c = marked-none (plain_behind c.args.head c.args.db c.args.pos.now c.args.dbs.now) c.args.mask.now c.requires.clear

pub loop-word-preserved : goal.loop-word-preserved
loop-word-preserved c =
    let ps = c.args.pos.now in
    let ds = c.args.dbs.now in
    let w = c.loop-word.word in
    marked-word (plain_behind c.args.head c.args.db ps ds) c.loop-word.mask w c.word_marks.result (omega (arith, c.div_ceil-word-end.ensures))
    (word_bit c.args.head c.args.db ps ds (w * 64) c.min-to.result c.word_marks.result c.requires.same_length c.min-to.ensures c.word_marks.ensures) c.loop-word.invariant

pub returns : goal.returns
returns c =
    let answers = plain_behind c.args.head c.args.db c.args.pos.now c.args.dbs.now in
    let long = length-plain_behind c.args.head c.args.db c.args.pos.now c.args.dbs.now c.requires.same_length in
    marked-all answers c.loop-word.mask c.loop-word.word (omega (arith, c.div_ceil-word-end.ensures)) c.loop-word.invariant
