use Rattle.std.proofs.Common.{◌≡◌, ℕ, List, sym, ap, ◌∙◌, subst, IsCharBoundary, Contains}
use Rattle.std.specs.List.{prefix_len}
use Rattle.pgn_requests.specs.Texts.{is_tail}
use Rattle.pgn_statements.proofs.PlainLaws.{drop-clean, head-boundary}
use Rattle.pgn_statements.proofs.bare.without_head.Goals as goal

pub range_from-requires : goal.range_from-requires
range_from-requires c = λ _.
    let long : c.head_end-start.result ≡ prefix_len is_tail c.args.text.now = c.head_end-start.ensures ∙ ap (prefix_len is_tail) c.as_bytes.ensures.value in
    subst (λ (n : ℕ). IsCharBoundary c.args.text.now n) (sym long) (head-boundary c.args.text.now c.utf8.text)

pub returns-clause-no_nul : goal.returns-clause-no_nul
returns-clause-no_nul c = subst (λ (l : List ℕ). Contains l 0 → ⊥) (sym c.range_from.ensures.value) (drop-clean c.head_end-start.result c.args.text.now c.requires.no_nul)
