use Rattle.std.proofs.Common.{ℕ, arith, subst, sym, ap, ◌∙◌}
use Rattle.pgn_words.specs.Passes.{view_of}
use Rattle.pgn_words.specs.Told.{MayShow, head_stored}
use Rattle.pgn_words.proofs.CellKept.{store_head_allowed}
use Rattle.pgn_words.proofs.pass.WordQueue.store_head.Goals as goal

pub store-requires : goal.store-requires
store-requires c = (
  c.requires.own.table,
  (let counted = c.args.self.now.counted in omega (arith, counted)),
  store_head_allowed _ _ _ _ _ c.requires.phase (subst (λ (n : ℕ). MayShow (view_of c.args.pass.now) n) (sym c.get.ensures.value) c.requires.shows),
)

pub returns-clause-view : goal.returns-clause-view
returns-clause-view c = c.store.ensures.2.view ∙ ap (λ (n : ℕ). head_stored n (view_of c.args.pass.now)) c.get.ensures.value
