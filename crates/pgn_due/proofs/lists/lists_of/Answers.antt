-- One place more goes to the list of its channel.
use Rattle.std.proofs.Common.{◌≤◌, ℕ, List, arith, length, rules, subst}
use Rattle.std.proofs.lemmas.List.{take_all}
use Rattle.pgn_base.specs.declared.note.Delivery.{Delivery}
use Rattle.pgn_due.specs.Lists.{AreLists}
use Rattle.pgn_due.specs.Sent.{sent_in, shown}
use Rattle.pgn_due.proofs.ListLaws.{lists_first, lists_more}
use Rattle.pgn_due.proofs.lists.lists_of.Goals as goal

pub loop-at-init : goal.loop-at-init
loop-at-init c = lists_first (sent_in c.args.sends.now.journal.now) c.with_hasher-lists.result.entries (search (rules, c.with_hasher-lists.ensures.empty))

pub loop-at-preserved : goal.loop-at-preserved
loop-at-preserved c =
    lists_more (sent_in c.args.sends.now.journal.now) c.loop-at.at (shown c.at-sent.result) c.in_ok-topic.topic c.loop-at.lists.entries c.put.new.lists.entries c.at-sent.ensures c.in_ok-topic.ensures c.in_ok-put.ensures c.loop-at.invariant

pub returns : goal.returns
returns c =
    let sent = sent_in c.args.sends.now.journal.now in
    let end : length sent ≤ c.loop-at.at = omega (arith, c.len-at-end.ensures, c.loop-at-test.false) in
    subst (λ (ones : List (ℕ × Delivery)). AreLists ones c.loop-at.lists.entries) (take_all c.loop-at.at sent end) c.loop-at.invariant
