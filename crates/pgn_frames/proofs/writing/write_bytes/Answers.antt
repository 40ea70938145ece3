use Rattle.std.proofs.Common.{◌≡◌, ℕ, ◌<◌, ◌==◌, false, List, [], ◌∷◌, ◌++◌, length, take, sym, ap, ◌∙◌, take-append-drop, arith}
use Rattle.pgn_frames.proofs.WriteLaws.{GaveBut-more}
use Rattle.pgn_frames.proofs.writing.write_bytes.Goals as goal

some_bytes : (rest : List ℕ) → (length rest == 0) ≡ false → 0 < length rest
some_bytes [] e = absurd (cc)
some_bytes (byte ∷ bytes) e = omega arith

pub loop-rest-preserved : goal.loop-rest-preserved
loop-rest-preserved g c =
    let rest : List ℕ = c.loop-rest.rest.now in
    let piece : List ℕ = c.split_at.result.0.now in
    let behind : List ℕ = c.split_at.result.1.now in
    let some : 0 < length rest = some_bytes rest (sym c.is_empty.ensures ∙ c.loop-rest-test.true) in
    let size : length piece ≡ c.min.result = c.split_at.ensures.front_len in
    let most = c.min.ensures in
    let more : 0 < length piece = omega arith in
    let parts : piece ++ behind ≡ rest =
    ap (λ (l : List ℕ). l ++ behind) c.split_at.ensures.front ∙ ap (λ (l : List ℕ). take c.min.result rest ++ l) c.split_at.ensures.back ∙ take-append-drop c.min.result rest in
    GaveBut-more g.K.Sink.held g.K.Sink.faults c.args.seat c.args.bytes.now rest piece behind c.args.sink.now c.loop-rest.sink c.write_frame.new.sink c.args.out.now c.loop-rest.out c.write_frame.new.out
    c.loop-rest.invariant c.write_frame.ensures more parts
