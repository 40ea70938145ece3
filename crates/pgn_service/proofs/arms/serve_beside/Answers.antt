use denote.Param.Send.{Quiet-if}
use mir.Syntax.{of_param}
use Rattle.std.proofs.Common.{rules}
use Rattle.pgn_service.proofs.arms.serve_beside.Goals as goal

pub join_mut-requires-after_bounds : goal.join_mut-requires-after_bounds
join_mut-requires-after_bounds g c κs within = (
  (
    (c.requires.own.1, c.requires.takes),
    ((record { owned = c.type_bounds.send-P.owned; leaving = λ k. Quiet-if (k (of_param 0)) _ _ (λ x w. tt) (λ x w. tt) }), (record { owned = c.type_bounds.send-K.owned; leaving = λ k. Quiet-if (k (of_param 3)) _ _ (λ x w. tt) (λ x w. tt) }), search rules, search rules),
  ),
  (
    (c.requires.own.0, c.requires.may),
    ((record { owned = c.type_bounds.send-P.owned; leaving = λ k. Quiet-if (k (of_param 0)) _ _ (λ x w. tt) (λ x w. tt) }), search rules, search rules),
  ),
)
