use Rattle.std.proofs.Common.{◌≡◌, ◌↔◌, ℕ, true, subst}
use Rattle.pgn_walk.specs.Basis.{journal_of, terms_of}
use Rattle.pgn_check.proofs.FreshLaws.{IsClose, up_by, up_far}
use Rattle.pgn_check.proofs.fresh.is_up_to_date.Goals as goal

pub returns-then-not-is_close : goal.returns-then-not-is_close
returns-then-not-is_close c =
    let basis = c.args.basis.now in
    let test = subst (λ (x : ℕ). (c.is_close.result ≡ true) ↔ IsClose (terms_of basis) (journal_of basis) c.in-Some.mark x) c.get.ensures.value c.is_close.ensures in
    up_far (terms_of basis) (journal_of basis) c.in-Some.mark c.args.at.now c.is_close.result c.in-Some.is test c.if-not-is_close.true

pub returns : goal.returns
returns c =
    let basis = c.args.basis.now in
    let test = subst (λ (x : ℕ). (c.is_close.result ≡ true) ↔ IsClose (terms_of basis) (journal_of basis) c.in-Some.mark x) c.get.ensures.value c.is_close.ensures in
    up_by (terms_of basis) (journal_of basis) c.in-Some.mark c.args.at.now c.is_close.result c.finds_nothing.result c.in-Some.is test c.if-not-is_close.false
    (c.finds_nothing.ensures basis.section.now (journal_of basis) c.in-Some.mark c.in-Some.is)
