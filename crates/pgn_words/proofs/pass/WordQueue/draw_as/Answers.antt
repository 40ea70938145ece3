use Rattle.pgn_words.proofs.NumberKept.{draw_allowed}
use Rattle.std.proofs.Common.{List, ap, ◌∙◌, arith}
use Rattle.pgn_base.specs.declared.note.Note.{Note}
use Rattle.pgn_words.specs.Passes.{view_of}
use Rattle.pgn_words.specs.Told.{drawn}
use Rattle.pgn_words.proofs.pass.WordQueue.draw_as.Goals as goal

pub fetch_add-xid-requires : goal.fetch_add-xid-requires
fetch_add-xid-requires g c = (
  c.requires.own.table,
  (let counted = c.args.self.now.counted in omega (arith, counted)),
  draw_allowed _ _ _ _ _ c.requires.phase (rw c.requires.given (c.requires.some)) (rw c.requires.given (c.requires.valid)) (rw c.requires.given (c.requires.different)) (rw c.requires.given (c.requires.few)),
)

pub returns-clause-view : goal.returns-clause-view
returns-clause-view g c = c.fetch_add-xid.ensures.2.view ∙ ap (λ (notes : List Note). drawn notes (view_of c.args.pass.now)) c.requires.given
