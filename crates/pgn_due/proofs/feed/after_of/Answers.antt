use Rattle.std.proofs.Common.{arith}
use Rattle.std.proofs.lemmas.Option.{slice_get_within}
use Rattle.pgn_due.specs.Sent.{sent_in, shown}
use Rattle.pgn_due.proofs.ListLaws.{after_more, after_none}
use Rattle.pgn_due.proofs.feed.after_of.Goals as goal

pub loop-at-init : goal.loop-at-init
loop-at-init c = after_none (sent_in c.args.sends.now.journal.now) c.in_ok-after.after.items c.in_ok-after.ensures.items

pub loop-at-preserved : goal.loop-at-preserved
loop-at-preserved c =
    let sent = sent_in c.args.sends.now.journal.now in
    after_more sent c.loop-at.at c.loop-at.after.items c.push.new.self.items (shown c.at-sent.result) c.in_ok-next.next c.at-sent.ensures (c.in_ok-next.ensures sent c.requires) c.in_ok-push.ensures.items c.loop-at.invariant

pub returns : goal.returns
returns c = record {
  counted = omega (arith, c.len-at-end.ensures, c.loop-at-test.false, c.loop-at.auto.at-end, c.loop-at.invariant.counted);
  follow = λ k one there. c.loop-at.invariant.each k one (omega (arith, c.len-at-end.ensures, c.loop-at-test.false, slice_get_within (sent_in c.args.sends.now.journal.now) k one there)) there;
}
