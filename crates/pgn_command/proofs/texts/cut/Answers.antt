use Rattle.std.proofs.Common.{sym, ◌∙◌}
use Rattle.pgn_command.proofs.CutLaws.{cut-at}
use Rattle.pgn_command.proofs.QuoteLaws.{from_start}
use Rattle.pgn_command.proofs.texts.cut.Goals as goal

pub returns : goal.returns
returns c =
    let f = c.floor_char_boundary-end in
    c.range.ensures.value ∙ from_start f.result c.args.text.now
    ∙ sym (cut-at 63 f.result c.args.text.now c.utf8.text f.ensures.bound f.ensures.boundary f.ensures.nearest)
