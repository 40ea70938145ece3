-- Proofs of the laws of passes as they are opened.
use Rattle.std.proofs.Common.{ℕ, ◌+◌, ◌<◌, ◌≤◌, List, [], ◌∷◌, All, arith, ◌<◌}
use Rattle.std.proofs.lemmas.List.Elements.{All-nil, All-cons}
use Rattle.pgn_base.specs.declared.limits.TheConstants.{FIRST_XID}
use Rattle.pgn_hub.specs.declared.setup.SeatSetup.{SeatSetup}
use Rattle.pgn_journal.specs.Journal.{next_xid}
use Rattle.pgn_hub.specs.Passes.{IsWithin, IsPairWithin, opened_pass, opened_passes}

one-within : (n : ℕ) (seat : SeatSetup) → IsWithin (opened_pass n seat)
one-within n seat = record {
  mark = tt;
  marks = All-nil (λ (mark : ℕ). mark ≤ next_xid []);
  first = omega arith;
  own = All-nil (λ (x : ℕ). x < FIRST_XID);
  signalled = omega arith;
  told_of_read = tt;
  told = omega arith;
  raised = All-nil (IsPairWithin FIRST_XID);
  found = All-nil (IsPairWithin FIRST_XID);
  to_read = λ unowed. tt;
}

-- what always holds of a pass holds of each
pub opened-within : (n : ℕ) (seats : List SeatSetup) → All IsWithin (opened_passes n seats)
opened-within n [] = All-nil IsWithin
opened-within n (seat ∷ seats) = All-cons IsWithin (opened_pass n seat) (opened_passes (n + 1) seats) (one-within n seat) (opened-within (n + 1) seats)
