use Rattle.std.proofs.Common.{◌≡◌, ap, ◌∙◌}
use Rattle.pgn_requests.specs.Values.{encoding, letters_of}
use Rattle.pgn_statements.proofs.AskLaws.{IfOk-same}
use Rattle.pgn_statements.proofs.accepting.encoding.Goals as goal

pub returns : goal.returns
returns c =
    let kept : c.in_ok-letters.letters.items ≡ letters_of c.as_bytes.result.now = c.in_ok-letters.ensures in
    let letters : c.as_slice.result.now ≡ letters_of c.args.value.now = c.as_slice.ensures.value ∙ kept ∙ ap letters_of c.as_bytes.ensures.value in
    IfOk-same c.encoding_of.result (encoding c.as_slice.result.now) (encoding (letters_of c.args.value.now)) (ap encoding letters) c.encoding_of.ensures
