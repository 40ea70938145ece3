use Rattle.std.proofs.Common.{◌∙◌, arith}
use Rattle.pgn_words.specs.Passes.{shape_of}
use Rattle.pgn_words.proofs.RingLaws.{next_inside, next_around}
use Rattle.pgn_words.proofs.pass.WordQueue.next_word.Goals as goal

pub returns-then-next-self-clause-value : goal.returns-then-next-self-clause-value
returns-then-next-self-clause-value c at is =
    let inside = c.if-next-self.true in
    let end = c.args.self.now.ends in
    next_inside (shape_of c.args.self.now) at _ (omega (arith, is)) (omega (arith, inside, end))

pub returns-else-next-self-clause-value : goal.returns-else-next-self-clause-value
returns-else-next-self-clause-value c at is =
    let past = c.if-next-self.false in
    let end = c.args.self.now.ends in
    let begins = c.args.self.now.begins in
    begins ∙ next_around (shape_of c.args.self.now) at (omega (arith, is, past, end))
