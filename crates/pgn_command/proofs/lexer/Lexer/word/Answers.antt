use Rattle.std.proofs.Common.{◌≡◌, ℕ, sym, ap, ◌∙◌, subst, IsCharBoundary}
use Rattle.std.specs.List.{prefix_len}
use Rattle.pgn_language.specs.Tokens.{goes_on_word}
use Rattle.pgn_command.proofs.GapLaws.{word-boundary}
use Rattle.pgn_command.proofs.TokenSteps.{read-word}
use Rattle.pgn_command.proofs.lexer.Lexer.word.Goals as goal

pub take-requires : goal.take-requires
take-requires c =
    let long : c.word_bytes.result ≡ prefix_len goes_on_word c.args.self.now.rest.now = c.word_bytes.ensures ∙ ap (prefix_len goes_on_word) c.as_bytes.ensures.value in
    subst (λ (n : ℕ). IsCharBoundary c.args.self.now.rest.now n) (sym long) (word-boundary c.args.self.now.rest.now)

pub returns : goal.returns
returns c =
    let long : c.word_bytes.result ≡ prefix_len goes_on_word c.args.self.now.rest.now = c.word_bytes.ensures ∙ ap (prefix_len goes_on_word) c.as_bytes.ensures.value in
    read-word c.args.self.now.at c.args.self.now.rest.now c.word_bytes.result c.take.new.self.at c.take.new.self.rest.now c.take.result c.requires long c.take.ensures.taken c.take.ensures.at c.take.ensures.rest
