use Rattle.std.proofs.Common.{refl}
use Rattle.pgn_base.specs.Hashes.{joined_product}
use Rattle.pgn_base.proofs.seed.joined_product.Goals as goal

pub returns : goal.returns
unfolding joined_product
returns c = refl
