use Rattle.std.proofs.Common.{◌≡◌, ℕ, ◌≤◌, List, sym, ap, ◌∙◌, subst, length, arith, IfOk, string_bytes}
use Rattle.std.proofs.lemmas.Str.{IsUtf8-string_bytes}
use Rattle.pgn_base.specs.Texts.{IsName}
use Rattle.pgn_language.specs.Grammar as grammar
use Rattle.pgn_command.proofs.CutLaws.{cut-short}
use Rattle.pgn_command.proofs.texts.cut_name.Goals as goal

pub of_valid_string-requires : goal.of_valid_string-requires
of_valid_string-requires c =
    let short : length (string_bytes c.args.text) ≤ 63 = omega (arith, c.len.ensures, c.if-len-le-NAME_BYTES_MAX.true) in
    subst (λ (l : List ℕ). IsName l) (cut-short 63 (string_bytes c.args.text) (IsUtf8-string_bytes c.args.text) short) c.requires

pub returns-then-len-le-NAME_BYTES_MAX : goal.returns-then-len-le-NAME_BYTES_MAX
returns-then-len-le-NAME_BYTES_MAX c =
    let short : length (string_bytes c.args.text) ≤ 63 = omega (arith, c.len.ensures, c.if-len-le-NAME_BYTES_MAX.true) in
    subst (λ (l : List ℕ). IfOk c.of_valid_string.result (λ name. name ≡ l)) (sym (cut-short 63 (string_bytes c.args.text) (IsUtf8-string_bytes c.args.text) short)) c.of_valid_string.ensures.ok

pub of_valid-requires : goal.of_valid-requires
of_valid-requires c = subst (λ (l : List ℕ). IsName l) (sym (c.cut.ensures ∙ ap (λ (l : List ℕ). grammar.cut 63 l) c.as_str.ensures.value)) c.requires
