use Rattle.std.proofs.Common.{◌≡◌, ℕ, List, map, length, ap, ◌∙◌, sym, subst, arith, rules, IsUtf8, string_bytes}
use Rattle.std.proofs.lemmas.List.{length-map}
use Rattle.pgn_language.specs.Grammar as grammar
use Rattle.pgn_requests.specs.Values.{shown_byte}
use Rattle.pgn_statements.proofs.ShortLaws.{cut-few, shown-text}
use Rattle.pgn_statements.proofs.accepting.application_name.Goals as goal

pub unwrap-made-requires : goal.unwrap-made-requires
unwrap-made-requires c = c.from_utf8.ensures.succeeds (subst (λ (l : List ℕ). IsUtf8 l) (sym c.in_ok-bytes.ensures) (shown-text c.as_bytes.result.now))

pub becomes-requires : goal.becomes-requires
becomes-requires c =
    let bytes : string_bytes c.unwrap-made.result ≡ map shown_byte c.as_bytes.result.now = search rules in
    let same : length c.as_bytes.result.now ≡ length (grammar.cut 63 c.args.value.now) = ap length (c.as_bytes.ensures.value ∙ c.cut.ensures) in
    let size : length c.as_str.result.now ≡ length (map shown_byte c.as_bytes.result.now) = ap length (c.as_str.ensures.value ∙ bytes) in
    omega (arith, size, same, length-map c.as_bytes.result.now shown_byte, cut-few c.args.value.now c.utf8.value)
