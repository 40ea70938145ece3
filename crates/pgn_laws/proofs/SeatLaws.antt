-- Proofs of the laws of passes as they are opened.
use Rattle.std.proofs.Common.{◌≡◌, ℕ, ◌+◌, List, [], ◌∷◌, length, map, None, All, ap, refl}
use Rattle.std.specs.List.{range_with_len}
use Rattle.std.proofs.lemmas.List.Elements.{All-nil, All-cons}
use Rattle.pgn_hub.specs.declared.setup.SeatSetup.{SeatSetup}
use Rattle.pgn_hub.specs.declared.known.Known.{Known}
use Rattle.pgn_hub.specs.Passes.{opened_pass, opened_passes}

-- the passes that are opened are those of the seats, in their order
pub opened-seats : (n : ℕ) (seats : List SeatSetup) → map (λ k. k.session) (opened_passes n seats) ≡ range_with_len n (length seats)
opened-seats n [] = refl
opened-seats n (seat ∷ seats) = ap (λ xs. n ∷ xs) (opened-seats (n + 1) seats)

-- none of them listens
pub opened-marks : (n : ℕ) (seats : List SeatSetup) → All (λ k. k.mark ≡ None) (opened_passes n seats)
opened-marks n [] = All-nil (λ (k : Known). k.mark ≡ None)
opened-marks n (seat ∷ seats) = All-cons (λ (k : Known). k.mark ≡ None) (opened_pass n seat) (opened_passes (n + 1) seats) refl (opened-marks (n + 1) seats)

-- none has a channel in its set
pub opened-sets : (n : ℕ) (seats : List SeatSetup) → All (λ k. k.set ≡ []) (opened_passes n seats)
opened-sets n [] = All-nil (λ (k : Known). k.set ≡ [])
opened-sets n (seat ∷ seats) = All-cons (λ (k : Known). k.set ≡ []) (opened_pass n seat) (opened_passes (n + 1) seats) refl (opened-sets (n + 1) seats)
