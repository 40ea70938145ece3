use Rattle.std.proofs.Common.{◌≡◌, ◌∙◌, [], ◌∷◌, ◌++◌, length, take, get_or, sym, ap, arith, length-set, take_all}
use Rattle.std.specs.Prelude.{flat_map}
use Rattle.std.proofs.lemmas.List.{take_more_set}
use Rattle.pgn_language.specs.Quotes.{doubled_byte}
use Rattle.pgn_text.proofs.DoublingLaws.{doubled-more}
use Rattle.pgn_text.proofs.buffer.copied_without.Goals as goal

pub loop-i-preserved : goal.loop-i-preserved
loop-i-preserved c =
    let text = c.args.text.now in
    let at = c.loop-i.i in record {
      copied = take_more_set c.loop-i.into at _ (omega (arith, c.loop-i.invariant.same, c.requires)) ∙ ap (λ t. t ++ get_or text at 0 ∷ []) c.loop-i.invariant.copied ∙ doubled-more c.args.quote text at (omega arith) c.if-text-i.false;
      same = length-set c.loop-i.into at _ ∙ c.loop-i.invariant.same;
    }

pub returns-clause-whole : goal.returns-clause-whole
returns-clause-whole c = λ is.
    let end : c.loop-i.i ≡ length c.args.text.now = omega arith in
    ap (λ n. take n c.loop-i.into) (sym end) ∙ c.loop-i.invariant.copied ∙ ap (flat_map (doubled_byte c.args.quote)) (take_all c.loop-i.i c.args.text.now (omega arith))
