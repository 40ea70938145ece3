use Rattle.std.proofs.Common.{◌≡◌, ℕ, List, sym, ap, ◌∙◌, subst, IsCharBoundary, IsUtf8}
use Rattle.std.specs.List.{prefix_len}
use Rattle.std.specs.Char.{is_ascii_digit}
use Rattle.pgn_command.proofs.GapLaws.{digits-boundary}
use Rattle.pgn_command.proofs.TokenSteps.{read-number}
use Rattle.pgn_command.proofs.lexer.Lexer.number.Goals as goal

pub take-requires : goal.take-requires
take-requires c =
    let long : c.digits.result ≡ prefix_len is_ascii_digit c.args.self.now.rest.now = c.digits.ensures ∙ ap (prefix_len is_ascii_digit) c.as_bytes.ensures.value in
    let text : IsUtf8 c.args.self.now.rest.now = subst (λ (l : List ℕ). IsUtf8 l) c.as_bytes.ensures.value c.as_bytes.ensures.utf8 in
    subst (λ (n : ℕ). IsCharBoundary c.args.self.now.rest.now n) (sym long) (digits-boundary c.args.self.now.rest.now text)

pub returns : goal.returns
returns c =
    let long : c.digits.result ≡ prefix_len is_ascii_digit c.args.self.now.rest.now = c.digits.ensures ∙ ap (prefix_len is_ascii_digit) c.as_bytes.ensures.value in
    read-number c.args.self.now.at c.args.self.now.rest.now c.digits.result c.take.new.self.at c.take.new.self.rest.now c.take.result c.requires long c.take.ensures.taken c.take.ensures.at c.take.ensures.rest
