use Rattle.std.proofs.Common.{◌≡◌, ◌+◌, ◌*◌, ◌≤◌, List, length, take, ltb, sym, ap, subst, ◌∙◌, arith, w64, Bool, ℕ}
use Rattle.std.specs.Simd.Lanes.{zip2, sel_l, chunk}
use Rattle.std.proofs.lemmas.Simd.{tops_compared, length-chunk, length-zip2, length-sel_l}
use Rattle.pgn_lanes.specs.Least.{least_with}
use Rattle.pgn_lanes.proofs.LeastLaws.{least_with-block}
use Rattle.pgn_lanes.proofs.minimum.least_lanes.Goals as goal

pub loop-block-preserved : goal.loop-block-preserved
loop-block-preserved c =
    let at = c.loop-block.block * 8 in
    let words = c.args.words.now in
    let lanes = c.loop-block.lanes in
    let more = chunk at 8 words in
    let room : at + 8 ≤ length words = omega arith in
    let loaded : length more ≡ 8 = length-chunk at 8 words room in
    let long : length (zip2 ltb more lanes) ≡ 8 = length-zip2 ltb more lanes (loaded ∙ sym c.loop-block.invariant.0) ∙ loaded in
    let next : at + 8 ≡ (c.loop-block.block + 1) * 8 = omega arith in
    subst (λ (ms : List Bool). (length (sel_l ms more lanes) ≡ 8) × (least_with c.args.start (sel_l ms more lanes) ≡ least_with c.args.start (take ((c.loop-block.block + 1) * 8) words)))
    (sym (tops_compared w64 ltb more lanes)) (
      length-sel_l (zip2 ltb more lanes) more lanes (long ∙ sym loaded) (long ∙ sym c.loop-block.invariant.0) ∙ long,
      least_with-block c.args.start 8 at lanes words c.loop-block.invariant.0 room loaded c.loop-block.invariant.1
          ∙ ap (λ (n : ℕ). least_with c.args.start (take n words)) next,
    )
