use Rattle.std.proofs.Common.{◌≡◌, ℕ, ◌+◌, ◌-◌, true, false, List, length, take, drop, get_or, sym, ap, ◌∙◌}
use Rattle.std.proofs.lemmas.List.{drop-drop, take_rest}
use Rattle.pgn_statements.specs.Modes.{byte_before, is_break, is_calm}
use Rattle.pgn_statements.proofs.PlainLaws.{calm-step, calm-broken, calm-whole}
use Rattle.pgn_statements.proofs.bare.is_plain.Goals as goal

pub returns-then-is_break : goal.returns-then-is_break
returns-then-is_break c =
    let rest = c.loop-at.rest.now in
    let at : ℕ = c.in-Some.at in
    let broken : is_break (byte_before c.loop-at.before rest at) (get_or rest at 0) ≡ true =
    ap (λ (b : ℕ). is_break b (get_or rest at 0)) (sym c.byte_before-before.ensures) ∙ sym c.is_break.ensures ∙ c.if-is_break.true in
    sym (c.loop-at.invariant ∙ calm-broken c.loop-at.before rest at c.in-Some.ensures broken)

pub loop-at-preserved : goal.loop-at-preserved
loop-at-preserved c =
    let rest = c.loop-at.rest.now in
    let at : ℕ = c.in-Some.at in
    let whole : is_break (byte_before c.loop-at.before rest at) (get_or rest at 0) ≡ false =
    ap (λ (b : ℕ). is_break b (get_or rest at 0)) (sym c.byte_before-before.ensures) ∙ sym c.is_break.ensures ∙ c.if-is_break.false in
    let here : List ℕ = take (length rest - at) (drop at rest) in
    let next : drop (at + 1) rest ≡ take (length here - 1) (drop 1 here) = sym (drop-drop 1 at rest) ∙ ap (drop 1) (sym (take_rest rest at)) ∙ sym (take_rest here 1) in
    c.loop-at.invariant ∙ calm-step c.loop-at.before rest at c.in-Some.ensures whole ∙ ap (is_calm (get_or rest at 0)) next

pub returns : goal.returns
returns c = sym (c.loop-at.invariant ∙ calm-whole c.loop-at.before c.loop-at.rest.now c.in_default.ensures)
