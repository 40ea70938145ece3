use Rattle.pgn_cli.proofs.EndLaws.{texts-more}
use Rattle.pgn_cli.proofs.program.borrowed.Goals as goal

pub loop-word-preserved : goal.loop-word-preserved
loop-word-preserved c = texts-more _ _ _ _ _ c.args.words.now c.loop-word.word-index c.word-item.result c.loop-word.invariant c.in_ok-push.ensures.items c.as_str.ensures.value c.loop-word-test.true c.word-item.is
