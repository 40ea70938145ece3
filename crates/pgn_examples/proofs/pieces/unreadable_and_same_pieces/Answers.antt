use Rattle.std.proofs.Common.{arith}
use Rattle.pgn_base.specs.declared.format.Format.TheVariants.{One}
use Rattle.pgn_journal.proofs.BytesLemmas.{length-filler}
use Rattle.pgn_examples.proofs.pieces.unreadable_and_same_pieces.Goals as goal

pub returns-clause-unreadable_short : goal.returns-clause-unreadable_short
returns-clause-unreadable_short c = λ sound. absurd (omega (arith, length-filler One 16 3 1001 (omega arith), sound.long.least))

pub returns-clause-unreadable_long : goal.returns-clause-unreadable_long
returns-clause-unreadable_long c = λ sound. absurd (omega (arith, length-filler One 8196 3 1001 (omega arith), sound.long.fits))

pub returns-clause-unreadable_not_whole : goal.returns-clause-unreadable_not_whole
returns-clause-unreadable_not_whole c = λ sound. absurd (omega (arith, length-filler One 22 3 1001 (omega arith), sound.long.whole))
