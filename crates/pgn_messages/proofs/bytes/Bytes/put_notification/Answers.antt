use Rattle.std.proofs.Common.{◌≡◌, ℕ, ◌+◌, List, [], ◌∷◌, ◌++◌, ◌∙◌, ap, refl, length, length-append, arith}
use Rattle.pgn_messages.specs.Server.{ended, four, message}
use Rattle.pgn_messages.proofs.BytesLaws.{put-two, put-message}
use Rattle.pgn_messages.proofs.bytes.Bytes.put_notification.Goals as goal

noted_size : (pid : ℕ) (channel payload : List ℕ) → 4 + length channel + 1 + length payload + 1 ≡ length (four pid ++ ended channel ++ ended payload)
noted_size pid channel payload =
    let front : length (four pid) ≡ 4 = refl in
    omega (
      arith,
      front,
      length-append channel (0 ∷ []),
      length-append payload (0 ∷ []),
      length-append (four pid) (ended channel),
      length-append (four pid ++ ended channel) (ended payload),
    )

noted : (old head one two new channel payload seen heard : List ℕ) (pid : ℕ) → seen ≡ channel → heard ≡ payload → head ≡ old ++ 65 ∷ four (4 + (4 + length seen + 1 + length heard + 1))
    → one ≡ head ++ four pid → two ≡ one ++ ended seen → new ≡ two ++ ended heard → new ≡ old ++ message 65 (four pid ++ ended channel ++ ended payload)
noted old head one two new channel payload seen heard pid e f h a b d =
    put-message old head new 65 (4 + length seen + 1 + length heard + 1) (four pid ++ ended seen ++ ended heard) (noted_size pid seen heard) h
    (put-two head two new (four pid ++ ended seen) (ended heard) (put-two head one two (four pid) (ended seen) a b) d)
    ∙ ap (λ (t : List ℕ). old ++ message 65 (four pid ++ ended t ++ ended heard)) e
    ∙ ap (λ (t : List ℕ). old ++ message 65 (four pid ++ ended channel ++ ended t)) f

pub returns : goal.returns
returns c =
    noted _ _ _ _ _ _ _ _ _ _ c.as_bytes-channel.ensures.value c.as_bytes-payload.ensures.value c.in_ok-put_head.ensures c.in_ok-put_four.ensures c.in_ok-put_ended.ensures c.in_ok-put_ended-2.ensures
