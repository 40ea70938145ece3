use Rattle.std.proofs.Common.{◌≡◌, ◌+◌, ◌++◌, drop}
use Rattle.pgn_base.specs.declared.limits.TheConstants.{FIRST_XID}
use Rattle.pgn_journal.specs.Packing.{place}
use Rattle.pgn_ledger.specs.Places.{places_from}
use Rattle.pgn_ledger.proofs.places.places_of.Given as goal

abbrev pub invariant-loop-tx : goal.invariant-loop-tx
invariant-loop-tx l = record {
  same : l.places.items ++ places_from l.format l.at (drop l.tx-index l.journal) ≡ places_from l.format 0 l.journal;
  here : l.at ≡ place l.format l.journal (FIRST_XID + l.tx-index);
}
