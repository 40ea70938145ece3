use Rattle.std.proofs.Common.{◌≡◌, ℕ, true, List, IfOk, sym, ap, ◌∙◌, subst}
use Rattle.pgn_requests.specs.declared.mode.Mode.TheVariants.{Outside}
use Rattle.pgn_requests.specs.Texts.{plain, without_head, without_tail}
use Rattle.pgn_statements.specs.Modes.{is_calm}
use Rattle.pgn_statements.specs.Steps.{Asks}
use Rattle.pgn_statements.proofs.PlainLaws.{calm-plain}
use Rattle.pgn_statements.proofs.statement_reading.read_text.Goals as goal

pub returns-then-is_plain : goal.returns-then-is_plain
returns-then-is_plain c =
    let calm : is_calm 0 c.args.text.now ≡ true = ap (is_calm 0) (sym c.as_bytes.ensures.value) ∙ sym c.is_plain.ensures ∙ c.if-is_plain.true in
    let same : plain c.args.text.now ≡ c.args.text.now = calm-plain Outside 0 c.args.text.now tt calm in
    subst (λ (l : List ℕ). IfOk c.read_bare.result (Asks l)) (c.without_ends.ensures.text ∙ ap (λ (l : List ℕ). without_head (without_tail l)) (sym same)) c.read_bare.ensures
