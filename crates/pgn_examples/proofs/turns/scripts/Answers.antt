use Rattle.std.proofs.Common.{◌≡◌, codes, length, ap, refl, subst}
use Rattle.pgn_base.specs.declared.command.Command.{Command}
use Rattle.pgn_base.specs.declared.command.Command.TheVariants.{Bad, Rollback, UnlistenAll}
use Rattle.pgn_language.specs.Grammar.{ReadsAs, cut, reading, table}
use Rattle.pgn_language.proofs.GrammarLaws.{reading-reads}
use Rattle.pgn_examples.proofs.TurnLaws.{apart}
use Rattle.pgn_examples.proofs.turns.scripts.Goals as goal

pub returns-clause-met : goal.returns-clause-met
returns-clause-met c = refl

pub returns-clause-numbered : goal.returns-clause-numbered
returns-clause-numbered c = (refl, (refl, (refl, tt)))

pub returns-clause-numbers_lost : goal.returns-clause-numbers_lost
returns-clause-numbers_lost c h = apart 3 4 refl h.1.1.0

pub returns-clause-no_unlisten : goal.returns-clause-no_unlisten
returns-clause-no_unlisten c e = apart 3 2 refl (ap length e)

pub returns-clause-reads_rollback : goal.returns-clause-reads_rollback
unfolding table cut
returns-clause-reads_rollback c = subst (λ (command : Command). ReadsAs (codes "ROLLBACK") command) (let same : reading (codes "ROLLBACK") ≡ Rollback = refl in same) (reading-reads (codes "ROLLBACK"))

pub returns-clause-discards : goal.returns-clause-discards
returns-clause-discards c = refl

pub returns-clause-settles : goal.returns-clause-settles
returns-clause-settles c = refl

pub returns-clause-reads_discard : goal.returns-clause-reads_discard
unfolding table cut
returns-clause-reads_discard c = subst (λ (command : Command). ReadsAs (codes "DISCARD ALL") command) (let same : reading (codes "DISCARD ALL") ≡ Bad 0 = refl in same) (reading-reads (codes "DISCARD ALL"))

pub returns-clause-reads_unlisten : goal.returns-clause-reads_unlisten
unfolding table cut
returns-clause-reads_unlisten c = subst (λ (command : Command). ReadsAs (codes "UNLISTEN *") command) (let same : reading (codes "UNLISTEN *") ≡ UnlistenAll = refl in same) (reading-reads (codes "UNLISTEN *"))
