use Rattle.std.proofs.Common.{decimal, codes, sym, ◌∙◌}
use Rattle.pgn_lines.proofs.LineLaws.{follows, pages_shown, pages_spelled}
use Rattle.pgn_lines.proofs.rows.pages.Goals as goal

pub returns-in_default : goal.returns-in_default
returns-in_default c = λ o l h e. c.in_default.ensures _ (sym e ∙ pages_spelled o l)

pub returns-in_default-parted : goal.returns-in_default-parted
returns-in_default-parted c = λ o l h e. c.in_default-parted.ensures o _ h.0 (follows (codes "  ") _ _ _ c.in-Some.ensures (sym (pages_spelled o l) ∙ e))

pub returns-in_default-long : goal.returns-in_default-long
returns-in_default-long c = λ o l h e.
    c.in_default-long.ensures o h.0 (c.in-Some-parted.ensures.first o (decimal l) h.0 (follows (codes "  ") _ _ _ c.in-Some.ensures (sym (pages_spelled o l) ∙ e))).0

pub returns-in_default-short : goal.returns-in_default-short
returns-in_default-short c = λ o l h e.
    c.in_default-short.ensures l h.1 (c.in-Some-parted.ensures.first o (decimal l) h.0 (follows (codes "  ") _ _ _ c.in-Some.ensures (sym (pages_spelled o l) ∙ e))).1

pub returns : goal.returns
returns c = (
  (c.in-Some-long.ensures.0, c.in-Some-short.ensures.0),
  pages_shown _ _ _ _ _ _ c.in-Some.ensures c.in-Some-parted.ensures.parts c.in-Some-long.ensures.1 c.in-Some-short.ensures.1,
)
