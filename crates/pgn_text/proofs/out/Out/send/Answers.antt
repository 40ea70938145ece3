use Rattle.std.proofs.Common.{sym, ◌∙◌}
use Rattle.pgn_text.proofs.PutsLaws.{Puts-sent}
use Rattle.pgn_text.proofs.out.Out.send.Goals as goal

pub returns-clause-puts : goal.returns-clause-puts
returns-clause-puts g c = Puts-sent _ _ _ _ _ _ _ _ _ (sym c.is_err.ensures.value ∙ c.if-is_err.false) c.clear.ensures c.as_slice.ensures.value c.write_all-self.ensures.bytes c.write_all-self.ensures.cause
