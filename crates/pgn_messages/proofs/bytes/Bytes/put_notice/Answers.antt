use Rattle.std.proofs.Common.{◌++◌, List, ℕ, codes, ap, ◌∙◌}
use Rattle.pgn_answers.specs.Refusals.{warning_code}
use Rattle.pgn_messages.specs.Server.{fields, message}
use Rattle.pgn_messages.proofs.bytes.Bytes.put_notice.Goals as goal

pub returns : goal.returns
returns c =
    c.in_ok-fields.ensures
    ∙ ap (λ (code : List ℕ). c.args.self.now ++ message 78 (fields (codes "WARNING") code c.text_of_warning.result.now)) c.code_of_warning.ensures.value
    ∙ ap (λ (text : List ℕ). c.args.self.now ++ message 78 (fields (codes "WARNING") (warning_code c.args.warning) text)) c.text_of_warning.ensures.value
