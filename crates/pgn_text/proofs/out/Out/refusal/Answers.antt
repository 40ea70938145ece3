use Rattle.pgn_text.proofs.PutsLaws.{Puts-trans}
use Rattle.pgn_text.proofs.out.Out.refusal.Goals as goal

pub returns : goal.returns
returns g c = Puts-trans (Puts-trans (rw (c.code_of_refusal.ensures) at c.text.ensures) c.text-2.ensures) c.message.ensures
