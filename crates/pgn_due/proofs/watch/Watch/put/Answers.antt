use Rattle.std.proofs.Common.{ℕ, Option, None, Some, refl, subst}
use Rattle.pgn_due.specs.Places.{IsFirst}
use Rattle.pgn_due.specs.Sent.{is_on}
use Rattle.pgn_due.proofs.WatchLaws.{put_one, sent_of}
use Rattle.pgn_due.proofs.watch.Watch.put.Goals as goal

pub returns-in_ok-insert : goal.returns-in_ok-insert
returns-in_ok-insert c =
    let old = c.args.self.now in
    let first : IsFirst (is_on old.db c.args.channel.now) (sent_of old) c.args.from (Some c.in-Some.at) =
    subst (λ (o : Option ℕ). IsFirst (is_on old.db c.args.channel.now) (sent_of old) c.args.from o) c.in-Some.is c.in_ok-at.ensures in
    put_one old (record old { next = c.insert.new.self }) c.args.from c.args.channel.now (Some c.in-Some.at) first refl refl c.in_ok-insert.ensures.updates.0

pub returns-in_default : goal.returns-in_default
returns-in_default c =
    let old = c.args.self.now in
    let none : Option ℕ = None in
    put_one old old c.args.from c.args.channel.now none (subst (λ (o : Option ℕ). IsFirst (is_on old.db c.args.channel.now) (sent_of old) c.args.from o) c.in_default.is c.in_ok-at.ensures) refl refl (λ at. refl)
