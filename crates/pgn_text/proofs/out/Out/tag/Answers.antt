use Rattle.std.proofs.Common.{refl}
use Rattle.pgn_text.proofs.PutsLaws.{Puts-same}
use Rattle.pgn_text.proofs.out.Out.tag.Goals as goal

pub returns-in-Begin : goal.returns-in-Begin
returns-in-Begin g c = Puts-same (rw c.in-Begin.is refl) c.text.ensures

pub returns-in-Start : goal.returns-in-Start
returns-in-Start g c = Puts-same (rw c.in-Start.is refl) c.text-in-Start.ensures

pub returns-in-Commit : goal.returns-in-Commit
returns-in-Commit g c = Puts-same (rw c.in-Commit.is refl) c.text-in-Commit.ensures

pub returns-in-Rollback : goal.returns-in-Rollback
returns-in-Rollback g c = Puts-same (rw c.in-Rollback.is refl) c.text-in-Rollback.ensures

pub returns-in-Savepoint : goal.returns-in-Savepoint
returns-in-Savepoint g c = Puts-same (rw c.in-Savepoint.is refl) c.text-in-Savepoint.ensures

pub returns-in-Release : goal.returns-in-Release
returns-in-Release g c = Puts-same (rw c.in-Release.is refl) c.text-in-Release.ensures

pub returns-in-Listen : goal.returns-in-Listen
returns-in-Listen g c = Puts-same (rw c.in-Listen.is refl) c.text-in-Listen.ensures

pub returns-in-Unlisten : goal.returns-in-Unlisten
returns-in-Unlisten g c = Puts-same (rw c.in-Unlisten.is refl) c.text-in-Unlisten.ensures

pub returns-in-Notify : goal.returns-in-Notify
returns-in-Notify g c = Puts-same (rw c.in-Notify.is refl) c.text-in-Notify.ensures

pub returns-in-Select : goal.returns-in-Select
returns-in-Select g c = Puts-same (rw (c.in-Select.is, c.from.ensures) refl) c.number_end.ensures
