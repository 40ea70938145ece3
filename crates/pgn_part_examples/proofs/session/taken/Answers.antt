use Rattle.std.proofs.Common.{◌≡◌, [], ◌∷◌, refl, subst, sym}
use Rattle.pgn_base.specs.declared.command.Command.TheVariants.{Begin}
use Rattle.pgn_language.specs.declared.scenario.Act.TheVariants.{Run, Quit}
use Rattle.pgn_model.specs.declared.item.Item.TheVariants.{Read}
use Rattle.pgn_session.specs.Open.{IsReadAtMost}
use Rattle.pgn_part_examples.proofs.session.taken.Goals as goal

pub returns-clause-runs : goal.returns-clause-runs
returns-clause-runs c = (Begin, refl)

pub returns-clause-quits : goal.returns-clause-quits
returns-clause-quits c h = let same : Quit ≡ Run h.0 = h.1 in cc

pub returns-clause-nothing : goal.returns-clause-nothing
returns-clause-nothing c = record { reads = []; shown = refl; are = tt }

pub returns-clause-read : goal.returns-clause-read
returns-clause-read c = record { reads = Read 3 4 [] ∷ []; shown = refl; are = tt }

pub returns-clause-line : goal.returns-clause-line
returns-clause-line c h = subst IsReadAtMost (sym h.shown) h.are

pub returns-clause-two_reads : goal.returns-clause-two_reads
returns-clause-two_reads c h = subst IsReadAtMost (sym h.shown) h.are

pub returns-clause-forgets : goal.returns-clause-forgets
returns-clause-forgets c h = let none = h.shown in cc
