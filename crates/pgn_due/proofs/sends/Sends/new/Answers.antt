-- One transaction more: its notifications behind those before, and how many there were.
use Rattle.std.proofs.Common.{◌≡◌, ◌∙◌, Some, arith, length, refl, rules, take}
use borrow.Author.Rules.{scaled_Fits}
use Rattle.std.specs.Prelude.{slice_get}
use Rattle.std.proofs.lemmas.Option.{slice_get_read}
use Rattle.pgn_due.specs.Sent.{sent_in}
use Rattle.pgn_due.proofs.SendLaws.{begun_more, sent_all, sent_more, spots_long, starts_all, starts_longer}
use Rattle.pgn_due.proofs.sends.Sends.new.Goals as goal

pub offset_bounds-journal-tx : goal.offset_bounds-journal-tx
offset_bounds-journal-tx c = scaled_Fits c.loop-tx.tx (length c.args.journal.now) _ c.loop-tx-test.true (search rules)

pub loop-tx-preserved : goal.loop-tx-preserved
loop-tx-preserved c =
    let h = c.loop-tx.invariant in let journal = c.args.journal.now in let k = c.loop-tx.tx in
    let here : slice_get journal k ≡ Some c.index-journal-tx.result = slice_get_read journal (length journal) k c.index-journal-tx.result refl c.loop-tx-test.true c.index-journal-tx.is in
    let many : c.len.result ≡ length c.loop-tx.spots.items = omega (arith, c.loop-tx.spots.ok.0) in
    record {
      sent = sent_more journal k c.index-journal-tx.result c.loop-tx.spots.items c.send.new.spots.items here (c.in_ok-send.ensures journal here) h.sent;
      long = starts_longer c.loop-tx.starts.items c.push.new.self.items k c.len.result h.long c.in_ok-push.ensures.items;
      begun = begun_more journal c.loop-tx.starts.items c.push.new.self.items k c.len.result h.long c.in_ok-push.ensures.items (many ∙ spots_long journal c.loop-tx.spots.items (sent_in (take k journal)) h.sent) h.begun;
    }

pub invariant_of-result : goal.invariant_of-result
invariant_of-result c =
    let h = c.loop-tx.invariant in let journal = c.args.journal.now in let k = c.loop-tx.tx in
    let many : c.len-2.result ≡ length c.loop-tx.spots.items = omega (arith, c.loop-tx.spots.ok.0) in
    record {
      sent = sent_all journal c.loop-tx.spots.items k c.loop-tx-test.false h.sent;
      begun = starts_all journal c.loop-tx.starts.items c.push-2.new.self.items k c.len-2.result h.long c.loop-tx-test.false c.loop-tx.auto.tx-end c.in_ok-push-2.ensures.items
          (many ∙ spots_long journal c.loop-tx.spots.items (sent_in (take k journal)) h.sent) h.begun;
    }
