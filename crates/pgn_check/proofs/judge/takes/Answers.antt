use Rattle.std.proofs.Common.{Bool, refl, sym, subst}
use Rattle.pgn_walk.specs.Basis.{journal_of, terms_of}
use Rattle.pgn_check.specs.Walked.{IsJudged}
use Rattle.pgn_check.proofs.WalkLaws.{judged_by}
use Rattle.pgn_check.proofs.judge.takes.Goals as goal

pub returns : goal.returns
returns c = λ sections traces before tells e.
    let basis = c.args.basis.now in
    let i = c.args.item.now in
    subst (λ (t : Bool). IsJudged (terms_of basis) (journal_of basis) sections traces before c.args.at.now i t c.judge.new.at) (sym c.are_all.ensures)
    (judged_by (terms_of basis) (journal_of basis) sections traces before c.args.at.now c.judge.new.at i c.is_next_own-next.result c.is_borne_out-borne_out.result c.in_ok-allowed.allowed
    (c.is_next_own-next.ensures basis.section.now before refl e) (λ s h. c.is_borne_out-borne_out.ensures sections traces s tells h.owed) c.in_ok-allowed.ensures)
