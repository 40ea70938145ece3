use Rattle.std.proofs.Common.{ap, sym, ◌+◌, ℕ, Option, None, Some, refl, subst, arith}
use Rattle.std.specs.BTreeSet.{contains}
use Rattle.std.specs.Ordering.{nat_cmp}
use Rattle.pgn_due.specs.Places.{IsFirst}
use Rattle.pgn_due.specs.Sent.{is_on, shown}
use Rattle.pgn_due.proofs.WatchLaws.{keeps, keeps_nothing, least_is, pass_next, pass_other, pass_past, sent_of}
use Rattle.pgn_due.specs.declared.watch.Watch.{Watch}
use Rattle.pgn_due.proofs.NextLaws.{Adds}
use Rattle.pgn_due.proofs.watch.Watch.pass.Goals as goal
use Rattle.pgn_due.proofs.watch.Watch.pass.Goals.{in-Some-next+in_ok-insert, in_default-next}

pub returns-in_default : goal.returns-in_default
returns-in_default c = pass_past c.args.end c.args.self.now c.args.delivery.now (keeps_nothing c.args.self.now.next c.args.end (λ lt. c.in_default.ensures.variant.1 lt))

pub returns-then-at-end : goal.returns-then-at-end
returns-then-at-end c = pass_past c.args.end c.args.self.now c.args.delivery.now (λ at on. omega (arith, c.if-at-end.true, least_is c.args.self.now.next c.in-Some.first.now c.in-Some.ensures.least at on))

pub returns-then-not-is : goal.returns-then-not-is
returns-then-not-is c = pass_other c.args.end c.in-Some.first.now c.args.self.now c.args.delivery.now (shown c.at-sent.result) c.is.result c.in-Some.ensures.member (least_is c.args.self.now.next c.in-Some.first.now c.in-Some.ensures.least)
    c.if-at-end.false c.at-sent.ensures c.is.ensures c.if-not-is.true

pub returns : goal.returns
returns c = elim c.match-next.branch [
  | in-Some-next+in_ok-insert w ↦
      let next : IsFirst (is_on (shown c.at-sent.result).0 (shown c.at-sent.result).1.note.channel) (sent_of c.args.self.now) (c.in-Some.first.now + 1) (Some w.in-Some-next.next) =
      subst (λ (o : Option ℕ). IsFirst (is_on (shown c.at-sent.result).0 (shown c.at-sent.result).1.note.channel) (sent_of c.args.self.now) (c.in-Some.first.now + 1) o) w.in-Some-next.is (c.next.ensures (shown c.at-sent.result) c.at-sent.ensures) in
      pass_next c.args.end c.in-Some.first.now c.args.self.now (record c.match-next.self { next = c.remove.new.self }) c.args.delivery.now (shown c.at-sent.result) c.is.result (Some w.in-Some-next.next) (contains nat_cmp c.match-next.self.next)
      c.in-Some.ensures.member (least_is c.args.self.now.next c.in-Some.first.now c.in-Some.ensures.least) c.if-at-end.false c.at-sent.ensures c.is.ensures c.if-not-is.false next (ap (λ (v : Watch). v.feed) w.self-is) (ap (λ (v : Watch). v.db) w.self-is)
      (subst (λ (v : Watch). Adds (Some w.in-Some-next.next) (keeps c.args.self.now) (contains nat_cmp v.next)) (sym w.self-is) w.in_ok-insert.ensures.updates.0) c.remove.ensures.updates.0
  | in_default-next w ↦
      let none : Option ℕ = None in
      let next : IsFirst (is_on (shown c.at-sent.result).0 (shown c.at-sent.result).1.note.channel) (sent_of c.args.self.now) (c.in-Some.first.now + 1) none =
      subst (λ (o : Option ℕ). IsFirst (is_on (shown c.at-sent.result).0 (shown c.at-sent.result).1.note.channel) (sent_of c.args.self.now) (c.in-Some.first.now + 1) o) w.in_default-next.is (c.next.ensures (shown c.at-sent.result) c.at-sent.ensures) in
      pass_next c.args.end c.in-Some.first.now c.args.self.now (record c.match-next.self { next = c.remove.new.self }) c.args.delivery.now (shown c.at-sent.result) c.is.result none (contains nat_cmp c.match-next.self.next)
      c.in-Some.ensures.member (least_is c.args.self.now.next c.in-Some.first.now c.in-Some.ensures.least) c.if-at-end.false c.at-sent.ensures c.is.ensures c.if-not-is.false next (ap (λ (v : Watch). v.feed) w.self-is) (ap (λ (v : Watch). v.db) w.self-is)
      (subst (λ (v : Watch). Adds none (keeps c.args.self.now) (contains nat_cmp v.next)) (sym w.self-is) (λ at. refl)) c.remove.ensures.updates.0
]
