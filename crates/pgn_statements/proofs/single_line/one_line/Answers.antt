use Rattle.std.proofs.Common.{ℕ, List, sym, subst, IsUtf8}
use Rattle.pgn_statements.proofs.Utf8Laws.{one_line-text}
use Rattle.pgn_statements.proofs.single_line.one_line.Goals as goal

pub unwrap-made-requires : goal.unwrap-made-requires
unwrap-made-requires c = c.from_utf8.ensures.succeeds (subst (λ (l : List ℕ). IsUtf8 l) (sym c.in_ok-bytes.ensures) (one_line-text c.as_bytes-2.result.now c.as_bytes-2.ensures.utf8))
