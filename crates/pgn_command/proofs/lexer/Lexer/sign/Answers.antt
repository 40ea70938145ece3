use Rattle.std.proofs.Common.{ℕ, List, get_or, ap, subst, IsUtf8}
use Rattle.pgn_command.proofs.TokenSteps.{sign-boundary, read-sign}
use Rattle.pgn_command.proofs.lexer.Lexer.sign.Goals as goal

pub skip-requires : goal.skip-requires
skip-requires c =
    sign-boundary c.args.self.now.rest.now (subst (λ (l : List ℕ). IsUtf8 l) c.as_bytes.ensures.value c.as_bytes.ensures.utf8) c.requires

pub returns : goal.returns
returns c =
    read-sign c.args.self.now.at c.args.self.now.rest.now (get_or c.as_bytes.result.now 0 0) c.skip.new.self.at c.skip.new.self.rest.now c.requires (ap (λ (l : List ℕ). get_or l 0 0) c.as_bytes.ensures.value) c.skip.ensures.at c.skip.ensures.rest
