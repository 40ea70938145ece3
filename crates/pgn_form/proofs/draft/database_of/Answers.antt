use Rattle.std.proofs.Common.{sym, ◌∙◌}
use Rattle.pgn_form.proofs.ToldLaws.{database_here, database_next}
use Rattle.pgn_form.proofs.draft.database_of.Goals as goal

pub loop-section-preserved : goal.loop-section-preserved
loop-section-preserved c =
    database_next c.args.sections.now c.loop-section.section-index c.section-item.result c.args.session c.loop-section-test.true c.section-item.is (sym c.eq.ensures ∙ c.if-eq.false) ∙ c.loop-section.invariant

pub returns-then-eq : goal.returns-then-eq
returns-then-eq c =
    sym (database_here c.args.sections.now c.loop-section.section-index c.section-item.result c.args.session c.loop-section-test.true c.section-item.is (sym c.eq.ensures ∙ c.if-eq.true)) ∙ c.loop-section.invariant
