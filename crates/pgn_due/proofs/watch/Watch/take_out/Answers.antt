use Rattle.std.proofs.Common.{ℕ, Option, None, Some, refl, subst}
use Rattle.pgn_due.specs.Places.{IsFirst}
use Rattle.pgn_due.specs.Sent.{is_on}
use Rattle.pgn_due.proofs.WatchLaws.{sent_of, took_one}
use Rattle.pgn_due.proofs.watch.Watch.take_out.Goals as goal

pub returns-in-Some : goal.returns-in-Some
returns-in-Some c =
    let old = c.args.self.now in
    let first : IsFirst (is_on old.db c.args.channel.now) (sent_of old) c.args.from (Some c.in-Some.left) =
    subst (λ (o : Option ℕ). IsFirst (is_on old.db c.args.channel.now) (sent_of old) c.args.from o) c.in-Some.is c.in_ok-left.ensures in
    took_one old (record old { next = c.remove.new.self }) c.args.from c.args.channel.now (Some c.in-Some.left) first refl refl c.remove.ensures.updates.0

pub returns-in_default : goal.returns-in_default
returns-in_default c =
    let old = c.args.self.now in
    let none : Option ℕ = None in
    took_one old old c.args.from c.args.channel.now none (subst (λ (o : Option ℕ). IsFirst (is_on old.db c.args.channel.now) (sent_of old) c.args.from o) c.in_default.is c.in_ok-left.ensures) refl refl (λ at. refl)
