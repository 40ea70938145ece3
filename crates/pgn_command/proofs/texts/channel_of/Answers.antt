use Rattle.std.proofs.Common.{ℕ, List, sym, subst}
use Rattle.pgn_base.specs.Texts.{IsName}
use Rattle.pgn_command.proofs.texts.channel_of.Goals as goal

pub of_valid-requires : goal.of_valid-requires
of_valid-requires c = subst (λ (l : List ℕ). IsName l) (sym c.in-Some.ensures) c.requires
