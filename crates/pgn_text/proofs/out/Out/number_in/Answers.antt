use Rattle.std.proofs.Common.{◌≡◌, ◌+◌, ◌∙◌, ap, arith, decimal, length, length-append}
use Rattle.std.proofs.lemmas.Fmt.{length-decimal-le}
use Rattle.pgn_text.proofs.PutsLaws.{Puts-kept, three-kept}
use Rattle.pgn_text.proofs.out.Out.number_in.Goals as goal

pub push-requires-2 : goal.push-requires-2
push-requires-2 g c =
    let one : length c.push.new.self ≡ length c.args.self.now.kept + length c.args.front.now = ap length c.push.ensures ∙ length-append _ _ in
    let two : length c.push_number.new.self ≡ length c.push.new.self + length (decimal c.args.number) = ap length c.push_number.ensures ∙ length-append _ _ in
    let few = length-decimal-le 20 c.args.number (omega arith) (omega arith) (omega arith) in omega arith

pub returns : goal.returns
returns g c = Puts-kept _ _ _ _ _ _ _ (three-kept _ _ _ _ _ _ _ c.push.ensures c.push_number.ensures c.push-2.ensures)
