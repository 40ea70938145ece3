-- Where there is no list of the channel, none of its notifications was sent.
use Rattle.std.proofs.Common.{ℕ, None, Option, ◌∙◌, ap, subst, sym}
use Rattle.pgn_due.specs.Lists.{items_of}
use Rattle.pgn_due.specs.Places.{IsFirst}
use Rattle.pgn_due.specs.Sent.{is_on}
use Rattle.pgn_due.specs.declared.lists.Topic.{Topic}
use Rattle.pgn_due.proofs.ListLaws.{first_nowhere}
use Rattle.pgn_due.proofs.feed.first_of.Goals as goal

pub returns-in-Some : goal.returns-in-Some
returns-in-Some c = λ sent listed.
    let topic : Topic = c.in_ok-topic.topic in
    subst (λ (t : Topic). IsFirst (is_on t.db t.channel) sent c.args.from c.first_in.result) c.in_ok-topic.ensures
    (c.first_in.ensures (is_on topic.db topic.channel) sent (c.deref.ensures.value ∙ ap items_of c.in-Some.ensures.value ∙ listed topic))

pub returns : goal.returns
returns c = λ sent listed.
    let none : Option ℕ = None in
    subst (λ (t : Topic). IsFirst (is_on t.db t.channel) sent c.args.from none) c.in_ok-topic.ensures
    (first_nowhere sent c.args.lists.now.entries c.in_ok-topic.topic c.args.from listed (sym c.in-None.ensures.value))
