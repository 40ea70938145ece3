use Rattle.std.proofs.Common.{arith}
use Rattle.std.specs.Str.Parse.{ExplainsUnsignedError, HasUnsignedDigitsIfOk, ParsesUnsigned}
use Rattle.clap.specs.Matches.{found_of}
use Rattle.pgn_options.proofs.ReadLaws.{found-reads}
use Rattle.pgn_options.proofs.reading.small_of.Goals as goal

pub returns : goal.returns
returns c =
    found-reads 32 4294967295 (omega arith) (omega arith) _ (λ bs r. ParsesUnsigned 32 10 bs r × ExplainsUnsignedError 10 bs r × HasUnsignedDigitsIfOk bs r)
    (found_of c.args.found.now) c.args.id.now c.get_one.result c.get_one.ensures.none c.get_one.ensures.value (λ u x g. g.0)
