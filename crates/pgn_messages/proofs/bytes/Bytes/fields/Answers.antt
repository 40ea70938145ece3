use Rattle.std.proofs.Common.{◌≡◌, ℕ, ◌+◌, ◌*◌, List, [], ◌∷◌, ◌++◌, length, length-append, arith}
use Rattle.pgn_messages.specs.Server.{field, fields}
use Rattle.pgn_messages.proofs.BytesLaws.{put-two, put-message}
use Rattle.pgn_messages.proofs.bytes.Bytes.fields.Goals as goal

field_size : (letter : ℕ) (text : List ℕ) → length (field letter text) ≡ length text + 2
field_size letter text = let long : length (text ++ 0 ∷ []) ≡ length text + 1 = length-append text (0 ∷ []) in omega arith

fields_size : (severity code text : List ℕ) → 2 * length severity + length code + length text + 9 ≡ length (fields severity code text)
fields_size severity code text =
    let two = field 83 severity ++ field 86 severity in
    let three = two ++ field 67 code in
    let four = three ++ field 77 text in
    omega (
      arith,
      field_size 83 severity,
      field_size 86 severity,
      field_size 67 code,
      field_size 77 text,
      length-append (field 83 severity) (field 86 severity),
      length-append two (field 67 code),
      length-append three (field 77 text),
      length-append four (0 ∷ []),
    )

pub returns : goal.returns
returns c =
    let severity = c.args.severity.now in
    let code = c.args.code.now in
    let text = c.args.text.now in
    let one = field 83 severity in
    let two = one ++ field 86 severity in
    let three = two ++ field 67 code in
    let four = three ++ field 77 text in
    let to_two = put-two c.put_head.new.self c.put_field.new.self c.put_field-2.new.self one (field 86 severity) c.in_ok-put_field.ensures c.in_ok-put_field-2.ensures in
    let to_three = put-two c.put_head.new.self c.put_field-2.new.self c.put_field-3.new.self two (field 67 code) to_two c.in_ok-put_field-3.ensures in
    let to_four = put-two c.put_head.new.self c.put_field-3.new.self c.put_field-4.new.self three (field 77 text) to_three c.in_ok-put_field-4.ensures in
    put-message c.args.self.now c.put_head.new.self c.put.new.self c.args.letter (2 * length severity + length code + length text + 9) (fields severity code text) (fields_size severity code text) c.in_ok-put_head.ensures
    (put-two c.put_head.new.self c.put_field-4.new.self c.put.new.self four (0 ∷ []) to_four c.in_ok-put.ensures)
