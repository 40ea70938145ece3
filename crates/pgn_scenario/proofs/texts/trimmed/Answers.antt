use Rattle.std.proofs.Common.{◌≡◌, ℕ, ◌+◌, List, length, drop, reverse, sym, ap, ◌∙◌, subst, IsCharBoundary}
use Rattle.std.specs.List.{prefix_len}
use Rattle.pgn_language.specs.Tokens.{is_blank}
use Rattle.pgn_language.specs.Lines.{trimmed_end, trimmed_start}
use Rattle.pgn_command.proofs.GapLaws.{blanks-boundary}
use Rattle.pgn_command.proofs.QuoteLaws.{from_start}
use Rattle.pgn_scenario.proofs.ByteLaws.{trimmed_to}
use Rattle.pgn_scenario.proofs.texts.trimmed.Goals as goal

pub range_from-text-requires : goal.range_from-text-requires
range_from-text-requires c = λ _.
    rw c.blanks-start.ensures.value (subst (λ (l : List ℕ). IsCharBoundary l (prefix_len is_blank c.as_bytes.result.now)) c.as_bytes.ensures.value (blanks-boundary c.as_bytes.result.now c.as_bytes.ensures.utf8))

pub returns : goal.returns
returns c =
    let text : List ℕ = c.range_from-text.result.now in
    let start : text ≡ trimmed_start c.args.line.now
    = c.range_from-text.ensures.value ∙ ap (λ (n : ℕ). drop n c.args.line.now) (c.blanks-start.ensures.value ∙ ap (prefix_len is_blank) c.as_bytes.ensures.value) in
    let end : c.blanks_after-end.result + prefix_len is_blank (reverse text) ≡ length text
    = subst (λ (l : List ℕ). c.blanks_after-end.result + prefix_len is_blank (reverse l) ≡ length l) c.as_bytes-2.ensures.value c.blanks_after-end.ensures.value in
    c.range.ensures.value ∙ from_start c.blanks_after-end.result text ∙ sym (trimmed_to text c.blanks_after-end.result end) ∙ ap trimmed_end start
