-- The tokens of a text stand in it.
use Rattle.std.proofs.Common.{◌≡◌, ℕ, zero, suc, ◌+◌, List, [], ◌∷◌, drop, ap, ◌∙◌, refl, arith}
use Rattle.pgn_language.specs.Tokens.{tokens_from}

-- the bytes that belong to a token may be left out
pub tokens-skip : (at taken : ℕ) (bytes : List ℕ) → tokens_from at taken bytes ≡ tokens_from (at + taken) 0 (drop taken bytes)
tokens-skip at zero bytes = ap (λ (n : ℕ). tokens_from n 0 bytes) (omega arith)
tokens-skip at (suc taken) [] = refl
tokens-skip at (suc taken) (b ∷ bytes) = tokens-skip (at + 1) taken bytes ∙ ap (λ (n : ℕ). tokens_from n 0 (drop taken bytes)) (omega arith)
