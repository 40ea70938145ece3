use Rattle.std.proofs.Common.{◌≡◌, ◌<◌, ◌+◌, ◌∙◌, ◌++◌, ℕ, List, [], ap, subst, take, drop, length, arith, rules, slice_index}
use Rattle.std.proofs.lemmas.List.{get_or_read, take_all}
use Rattle.pgn_journal.specs.declared.tx.Tx.{Tx}
use Rattle.pgn_ledger.specs.Turns.{AreTurns, ranks_from, turns}
use Rattle.pgn_ledger.proofs.TurnLaws.{ranks_end, ranks_more, turn_low, turns_more, turns_none}
use Rattle.pgn_ledger.proofs.turns.turns_of.Goals as goal

pub loop-tx-init : goal.loop-tx-init
loop-tx-init c = record {
  same = ap (λ (rs : List ℕ). rs ++ ranks_from [] c.args.journal.now) c.in_ok-ranks.ensures.items;
  counted = turns_none c.in_ok-counts.counts.items (c.in_ok-counts.ensures.items_if_clones_equal (λ y same. search rules));
}

pub overflow_add-index_mut : goal.overflow_add-index_mut
overflow_add-index_mut c =
    let within : c.get-session.result < length c.loop-tx.counts.items = omega (arith, c.loop-tx.invariant.counted.counted, c.get-session.ensures.within) in
    let now : c.index_mut.result.now ≡ slice_index c.loop-tx.counts.items c.get-session.result = get_or_read c.loop-tx.counts.items _ _ within c.index_mut.ensures.value 0 in
    let low = turn_low c.args.journal.now c.loop-tx.counts.items c.loop-tx.tx-index c.get-session.result c.index_mut.result.now (omega arith) now c.loop-tx.invariant.counted in
    omega (arith, low)

pub loop-tx-preserved : goal.loop-tx-preserved
loop-tx-preserved c =
    let within : c.get-session.result < length c.loop-tx.counts.items = omega (arith, c.loop-tx.invariant.counted.counted, c.get-session.ensures.within) in
    let now : c.index_mut.result.now ≡ slice_index c.loop-tx.counts.items c.get-session.result = get_or_read c.loop-tx.counts.items _ _ within c.index_mut.ensures.value 0 in
    let rank : c.index.result.now ≡ slice_index c.loop-tx.counts.items c.get-session.result = get_or_read c.loop-tx.counts.items _ _ within c.index.ensures 0 in
    record {
      same =
          ap (λ (rs : List ℕ). rs ++ ranks_from (take (c.loop-tx.tx-index + 1) c.args.journal.now) (drop (c.loop-tx.tx-index + 1) c.args.journal.now)) c.in_ok-push.ensures.items
          ∙ ranks_more c.loop-tx.ranks.items c.args.journal.now c.loop-tx.tx-index c.index.result.now c.tx-item.result _ c.loop-tx-test.true c.tx-item.is
          (rank ∙ c.loop-tx.invariant.counted.each c.get-session.result (omega arith) ∙ ap (λ (s : ℕ). turns s (take c.loop-tx.tx-index c.args.journal.now)) c.get-session.ensures.value) c.loop-tx.invariant.same;
      counted = turns_more c.args.journal.now c.loop-tx.counts.items c.loop-tx.tx-index c.get-session.result c.index_mut.result.now c.tx-item.result c.loop-tx-test.true c.tx-item.is c.get-session.ensures.value (omega arith) now
          c.loop-tx.invariant.counted;
    }

pub returns-clause-ranks : goal.returns-clause-ranks
returns-clause-ranks c = ranks_end c.loop-tx.ranks.items c.args.journal.now c.loop-tx.tx-index c.loop-tx-test.false c.loop-tx.invariant.same

pub returns-clause-counts : goal.returns-clause-counts
returns-clause-counts c = subst (λ (txs : List Tx). AreTurns txs c.loop-tx.counts.items) (take_all c.loop-tx.tx-index c.args.journal.now c.loop-tx-test.false) c.loop-tx.invariant.counted
