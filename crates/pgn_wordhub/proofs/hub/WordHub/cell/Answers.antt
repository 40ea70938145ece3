use Rattle.std.proofs.Common.{slice_get, sym, ap, ◌∙◌}
use Rattle.pgn_hub.specs.Shape.{Shape}
use Rattle.pgn_journal.specs.Packing.{image}
use Rattle.pgn_words.specs.Passes.{view_of}
use Rattle.pgn_wordhub.proofs.hub.WordHub.cell.Goals as goal

pub returns-clause-value : goal.returns-clause-value
returns-clause-value c at x is from here =
    c.load_shown.ensures.value at x is from (ap (λ (z : Shape). slice_get (image z.format (view_of c.args.pass.now).walk.shown) at) (sym c.requires.own.setup) ∙ here)
