use Rattle.std.proofs.Common.{ℕ, ◌-◌, ◌%◌, ◌^◌, List, Bool, map, ltb, eqb, replicate, cond, ap, ◌∙◌, arith, w64}
use Rattle.std.specs.Simd.Lanes.{mask_l, zip2, sel_l, top}
use Rattle.std.proofs.lemmas.Simd.{tops_compared}
use Rattle.std.proofs.lemmas.List.{map-id}
use Rattle.pgn_lanes.proofs.WakeLaws.{mask_of_woken}
use Rattle.pgn_lanes.proofs.wakes.lane_marks.Goals as goal

pub returns : goal.returns
returns c =
    let ps = c.args.pos in
    let db = c.args.db in
    let ones = λ (t : ℕ → ℕ → Bool) (a b : ℕ). cond (t a b) (2 ^ 64 - 1) 0 in
    let below = λ (ms : List Bool). sel_l ms (replicate 8 c.args.head) (replicate 8 c.far_below.result) in
    let masked = λ (ms : List Bool). mask_l (map (top 63) (zip2 (ones ltb) ps (below ms))) % 2 ^ 64 in
    let of_db = λ (ds : List ℕ) (x : ℕ). masked (map (top 63) (zip2 (ones eqb) ds (replicate 8 x))) in
    ap (of_db (map (λ (x : ℕ). x) c.args.owns)) c.from.ensures
    ∙ ap (λ (ds : List ℕ). of_db ds db) (map-id c.args.owns)
    ∙ ap masked (tops_compared w64 eqb c.args.owns (replicate 8 db))
    ∙ ap (λ (ms : List Bool). mask_l ms % 2 ^ 64) (tops_compared w64 ltb ps (below (zip2 eqb c.args.owns (replicate 8 db))))
    ∙ mask_of_woken c.args.head db c.far_below.result 8 ps c.args.owns c.fits-pos.0 c.fits-owns.0 (omega arith) c.far_below.ensures c.requires
