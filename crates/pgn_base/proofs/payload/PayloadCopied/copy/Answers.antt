use Rattle.std.proofs.Common.{ℕ, List, sym, subst}
use Rattle.pgn_base.specs.Texts.{IsPayload}
use Rattle.pgn_base.proofs.payload.PayloadCopied.copy.Goals as goal

pub invariant_of-result : goal.invariant_of-result
invariant_of-result c = subst (λ (bytes : List ℕ). IsPayload bytes) (sym c.in_ok-text.ensures.equal) c.self.invariant
