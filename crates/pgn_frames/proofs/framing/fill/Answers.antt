use Rattle.std.proofs.Common.{◌≡◌, ℕ, ◌++◌, List, length, take, drop, ap, ◌∙◌, arith}
use Rattle.std.proofs.lemmas.List.{length-append, length-take}
use Rattle.pgn_frames.proofs.framing.fill.Goals as goal

-- bytes written over as many are as many
filled : (n size : ℕ) (over items : List ℕ) → n ≡ size → length items ≡ n → length over ≡ length items → length (take n (over ++ drop (length over) items)) ≡ size
filled n size over items is long same = omega (arith, length-take n (over ++ drop (length over) items), length-append over (drop (length over) items), is, long, same)

pub returns-in-Ok-read_full-clause-size : goal.returns-in-Ok-read_full-clause-size
returns-in-Ok-read_full-clause-size g c =
    filled c.resize.new.self.len c.args.size c.read_full.new.buf c.resize.new.self.items c.in-Ok.ensures.len (omega (arith, c.resize.new.self.ok.0))
    (c.in-Ok-read_full.ensures.size ∙ ap (λ (l : List ℕ). length l) c.as_mut_slice.ensures.value)
