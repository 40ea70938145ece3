use Rattle.std.proofs.Common.{◌≡◌, ◌≤◌, List, ℕ, ◌++◌, length, ◌∙◌, ap}
use Rattle.std.specs.Int.{w16, to_be_bytes}
use Rattle.pgn_text.proofs.PutsLaws.{Puts-same, Puts-trans}
use Rattle.pgn_frames.specs.Frames.{Frame, IsFrame, frame_bytes}
use Rattle.pgn_frames.proofs.WriteLaws.{Gave-frame}
use Rattle.pgn_frames.proofs.writing.write_frame.Goals as goal

pub returns : goal.returns
returns g c =
    let frame : Frame = record { seat = c.args.seat; bytes = c.args.bytes.now } in
    let least : 1 ≤ c.args.seat = c.get-number.ensures.positive in
    let most : c.args.seat ≤ 256 = c.get-number.ensures.within in
    let can : IsFrame 256 frame = record { seat = record { least = least; most = most }; few = c.requires } in
    let seat : c.to_be_bytes.result ≡ to_be_bytes w16 c.args.seat = c.to_be_bytes.ensures ∙ ap (to_be_bytes w16) c.get-number.ensures.value in
    let size : c.to_be_bytes-2.result ≡ to_be_bytes w16 (length c.args.bytes.now) = c.to_be_bytes-2.ensures in
    let all : (c.to_be_bytes.result ++ c.to_be_bytes-2.result) ++ c.args.bytes.now ≡ frame_bytes frame =
    ap (λ (l : List ℕ). (l ++ c.to_be_bytes-2.result) ++ c.args.bytes.now) seat ∙ ap (λ (l : List ℕ). (to_be_bytes w16 c.args.seat ++ l) ++ c.args.bytes.now) size in
    Gave-frame g.K.Sink.held g.K.Sink.faults c.args.seat c.args.bytes.now c.args.sink.now c.text-3.new.sink c.args.out.now c.text-3.new.self can
    (Puts-same {held = g.K.Sink.held} {faults = g.K.Sink.faults} all (Puts-trans (Puts-trans c.text.ensures c.text-2.ensures) c.text-3.ensures))
