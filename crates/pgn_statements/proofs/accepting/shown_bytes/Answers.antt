use Rattle.std.proofs.Common.{ℕ, List, [], ◌∷◌, ◌++◌, map, take, sym, ap, ◌∙◌}
use Rattle.std.proofs.lemmas.List.{map_more, take_all}
use Rattle.pgn_requests.specs.Values.{shown_byte}
use Rattle.pgn_statements.proofs.accepting.shown_bytes.Goals as goal

pub loop-byte-preserved : goal.loop-byte-preserved
loop-byte-preserved c =
    let bytes : List ℕ = c.args.bytes.now in
    let at : ℕ = c.loop-byte.byte-index in
    c.in_ok-push.ensures.items ∙ ap (λ (l : List ℕ). l ++ c.shown_byte.result ∷ []) c.loop-byte.invariant
    ∙ ap (λ (b : ℕ). map shown_byte (take at bytes) ++ b ∷ []) c.shown_byte.ensures ∙ sym (map_more shown_byte bytes at 0 c.loop-byte-test.true)

pub returns : goal.returns
returns c = c.loop-byte.invariant ∙ ap (map shown_byte) (take_all c.loop-byte.byte-index c.args.bytes.now c.loop-byte-test.false)
