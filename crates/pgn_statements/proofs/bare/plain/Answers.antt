use Rattle.std.proofs.Common.{◌≡◌, ℕ, List, length, ap, ◌∙◌, sym, subst, arith, rules, IsUtf8, Contains, string_bytes}
use Rattle.pgn_requests.specs.Texts.{plain}
use Rattle.pgn_statements.proofs.PlainLaws.{plain-short, plain-clean}
use Rattle.pgn_statements.proofs.Utf8Laws.{plain-text}
use Rattle.pgn_statements.proofs.bare.plain.Goals as goal

pub unwrap-requires : goal.unwrap-requires
unwrap-requires c = c.from_utf8.ensures.succeeds (subst (λ (l : List ℕ). IsUtf8 l) (sym c.in_ok-bytes.ensures) (plain-text c.as_bytes.result.now c.as_bytes.ensures.utf8))

pub returns-clause-short : goal.returns-clause-short
returns-clause-short c =
    let bytes : string_bytes c.unwrap.result ≡ plain c.as_bytes.result.now = search rules in
    omega (arith, ap length bytes, plain-short c.as_bytes.result.now, ap length c.as_bytes.ensures.value, c.requires.short)

pub returns-clause-no_nul : goal.returns-clause-no_nul
returns-clause-no_nul c =
    let bytes : string_bytes c.unwrap.result ≡ plain c.as_bytes.result.now = search rules in
    subst (λ (l : List ℕ). Contains l 0 → ⊥) (sym (bytes ∙ ap plain c.as_bytes.ensures.value)) (plain-clean c.args.text.now c.requires.no_nul)
