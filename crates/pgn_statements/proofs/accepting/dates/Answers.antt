use Rattle.std.proofs.Common.{◌≡◌, ap, ◌∙◌}
use Rattle.std.specs.Prelude.{option_map}
use Rattle.pgn_requests.specs.Values.{chosen, closed_up, date_style}
use Rattle.pgn_statements.proofs.AskLaws.{IfOk-same}
use Rattle.pgn_statements.proofs.accepting.dates.Goals as goal

pub returns : goal.returns
returns c =
    let kept : c.in_ok-words.words.items ≡ closed_up c.as_bytes.result.now = c.in_ok-words.ensures in
    let words : c.as_slice.result.now ≡ closed_up c.args.value.now = c.as_slice.ensures.value ∙ kept ∙ ap closed_up c.as_bytes.ensures.value in
    IfOk-same c.chosen.result (chosen (option_map (λ text. text.now) c.date_style.result)) (chosen (date_style (closed_up c.args.value.now))) (ap chosen (c.date_style.ensures.value ∙ ap date_style words)) c.chosen.ensures
