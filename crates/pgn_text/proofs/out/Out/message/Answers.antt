use Rattle.std.proofs.Common.{refl}
use Rattle.pgn_text.proofs.PutsLaws.{Puts-same, Puts-trans}
use Rattle.pgn_text.proofs.out.Out.message.Goals as goal

pub returns-in-Syntax : goal.returns-in-Syntax
returns-in-Syntax g c = Puts-same (rw (c.in-Syntax.is, c.from.ensures) refl) c.labelled.ensures

pub returns-in-NoSavepoint : goal.returns-in-NoSavepoint
returns-in-NoSavepoint g c = Puts-same (rw (c.in-NoSavepoint.is, c.as_bytes.ensures.value) refl) (Puts-trans c.text-in-NoSavepoint.ensures (Puts-trans c.text-in-NoSavepoint-2.ensures c.text-in-NoSavepoint-3.ensures))

pub returns-in-Aborted : goal.returns-in-Aborted
returns-in-Aborted g c = Puts-same (rw (c.in-Aborted.is) refl) c.text-in-Aborted.ensures

pub returns-in-QueueFull : goal.returns-in-QueueFull
returns-in-QueueFull g c = Puts-same (rw (c.in-QueueFull.is) refl) c.text-in-QueueFull.ensures
