use Rattle.std.proofs.Common.{◌<◌, ◌^◌, ℕ, List, sym, subst}
use Rattle.std.specs.Prelude.{All}
use Rattle.pgn_ledger.proofs.PlaceLaws.{places_low}
use Rattle.pgn_ledger.proofs.ledger.Ledger.new.Goals as goal

pub invariant_of-result : goal.invariant_of-result
invariant_of-result c = record {
  known = record {
    placed = c.in_ok-places.ensures;
    ranked = c.in_ok-turns.ensures.ranks;
    counted = c.in_ok-turns.ensures.counts;
    low = subst (λ (ps : List ℕ). All (λ at. at < 2 ^ 53) ps) (sym c.in_ok-places.ensures) (places_low c.args.format c.args.journal.now c.requires.finished c.requires.few_notes);
    few = c.requires.few;
    few_notes = c.requires.few_notes;
  };
  fed = c.in_ok-feed.ensures;
}
