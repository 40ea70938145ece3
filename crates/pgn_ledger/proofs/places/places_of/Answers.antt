use Rattle.std.proofs.Common.{[], ◌∷◌, ◌++◌, sym, ◌∙◌, ap, List, ℕ, drop, ◌+◌}
use Rattle.pgn_journal.proofs.PackingLemmas.{first_place}
use Rattle.pgn_ledger.specs.Places.{places_from}
use Rattle.pgn_ledger.proofs.PlaceLaws.{place_low, place_more, places_end, places_more}
use Rattle.pgn_ledger.proofs.places.places_of.Goals as goal

pub loop-tx-init : goal.loop-tx-init
loop-tx-init c = record {
  same = ap (λ (ps : List ℕ). ps ++ places_from c.args.format 0 c.args.journal.now) c.in_ok-places.ensures.items;
  here = sym (first_place c.args.format c.args.journal.now);
}

pub after-at-requires-clause-low : goal.after-at-requires-clause-low
after-at-requires-clause-low c =
    place_low c.args.format c.args.journal.now c.loop-tx.at c.loop-tx.tx-index c.tx-item.result c.requires.finished c.requires.few c.loop-tx-test.true c.tx-item.is c.loop-tx.invariant.here

pub loop-tx-preserved : goal.loop-tx-preserved
loop-tx-preserved c =
    let next = c.after-at.ensures in
    record {
      same = ap (λ (ps : List ℕ). ps ++ places_from c.args.format c.after-at.result (drop (c.loop-tx.tx-index + 1) c.args.journal.now)) c.in_ok-push.ensures.items
          ∙ ap (λ (n : ℕ). (c.loop-tx.places.items ++ c.loop-tx.at ∷ []) ++ places_from c.args.format n (drop (c.loop-tx.tx-index + 1) c.args.journal.now)) next
          ∙ places_more c.args.format c.loop-tx.places.items c.loop-tx.at c.args.journal.now c.loop-tx.tx-index c.tx-item.result _ c.loop-tx-test.true c.tx-item.is c.loop-tx.invariant.same;
      here = next ∙ place_more c.args.format c.args.journal.now c.loop-tx.at c.loop-tx.tx-index c.tx-item.result c.loop-tx-test.true c.tx-item.is c.loop-tx.invariant.here;
    }

pub returns : goal.returns
returns c = c.in_ok-push-2.ensures.items ∙ places_end c.args.format c.loop-tx.places.items c.loop-tx.at c.args.journal.now c.loop-tx.tx-index _ c.loop-tx-test.false c.loop-tx.invariant.same
