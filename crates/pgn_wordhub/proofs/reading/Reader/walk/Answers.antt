use Rattle.std.proofs.Common.{ℕ, ◌≤◌, length, take, Option, vec_len, refl, sym, ap, ◌∙◌, subst, arith}
use Rattle.std.proofs.lemmas.List.{take_all}
use Rattle.pgn_journal.specs.Journal.{next_xid}
use Rattle.pgn_hub.specs.Shape.{notes_of_seats}
use Rattle.pgn_words.specs.declared.view.View.{View}
use Rattle.pgn_words.specs.Passes.{view_of}
use Rattle.pgn_wordhub.specs.Passes.{hub_shape}
use Rattle.pgn_wordhub.specs.Walks.{HasTurned, IsWalking, shown_cells}
use Rattle.pgn_wordhub.proofs.WayLaws.{walks_there}
use Rattle.pgn_wordhub.proofs.ReadingLaws.{front_on}
use Rattle.pgn_wordhub.proofs.reading.Reader.walk.Goals as goal

pub loop-pass-smaller : goal.loop-pass-smaller
loop-pass-smaller c =
    let inv = c.loop-pass.invariant in
    let v = view_of c.args.pass.now in
    let t = subst (λ (o : Option ℕ). HasTurned c.args.self.now.format (shown_cells v) c.args.self.now.fin v.known.db c.args.self.now.set.now.channels v.known.seen c.loop-pass.at c.loop-pass.out.items c.turn.new.out.items o) c.in-Some.is
    (subst (λ (u : View). HasTurned c.args.self.now.format (shown_cells u) c.args.self.now.fin u.known.db c.args.self.now.set.now.channels u.known.seen c.loop-pass.at c.loop-pass.out.items c.turn.new.out.items c.in_ok-next.field-0) inv.1 c.in_ok-next.ensures.turned) in
    let walking = inv.5 in
    let next = t.turns walking.end walking.owed walking.walks in
    let further = next.0 in
    let within = next.1.way.within in
    let head = c.requires.head in
    let last = inv.3 in
    let test = c.loop-pass-test.true in
    let value = c.get.ensures.value in omega (arith, further, within, head, last, test, value)

pub loop-pass-preserved : goal.loop-pass-preserved
loop-pass-preserved c =
    let inv = c.loop-pass.invariant in
    let v = view_of c.args.pass.now in
    let t = subst (λ (o : Option ℕ). HasTurned c.args.self.now.format (shown_cells v) c.args.self.now.fin v.known.db c.args.self.now.set.now.channels v.known.seen c.loop-pass.at c.loop-pass.out.items c.turn.new.out.items o) c.in-Some.is
    (subst (λ (u : View). HasTurned c.args.self.now.format (shown_cells u) c.args.self.now.fin u.known.db c.args.self.now.set.now.channels u.known.seen c.loop-pass.at c.loop-pass.out.items c.turn.new.out.items c.in_ok-next.field-0) inv.1 c.in_ok-next.ensures.turned) in
    let walking = inv.5 in
    let next = t.turns walking.end walking.owed walking.walks in
    let further = next.0 in
    let from = inv.2 in (
      c.turn.ensures.own,
      c.turn.ensures.view ∙ inv.1,
      omega (arith, further, from),
      inv.3,
      ap (take (vec_len c.args.out.now)) t.after_is ∙ front_on (vec_len c.args.out.now) c.loop-pass.out.items c.args.out.now.items t.more (sym c.args.out.now.ok.0) inv.4,
      record { end = walking.end; owed = walking.owed; walks = next.1 },
      λ end owed walks. (t.turns end owed (inv.6 end owed walks)).1,
    )

pub returns-in-None-clause-walked : goal.returns-in-None-clause-walked
returns-in-None-clause-walked c end owed walks =
    let inv = c.loop-pass.invariant in
    let v = view_of c.args.pass.now in
    let t = subst (λ (o : Option ℕ). HasTurned c.args.self.now.format (shown_cells v) c.args.self.now.fin v.known.db c.args.self.now.set.now.channels v.known.seen c.loop-pass.at c.loop-pass.out.items c.turn.new.out.items o) c.in-None.is
    (subst (λ (u : View). HasTurned c.args.self.now.format (shown_cells u) c.args.self.now.fin u.known.db c.args.self.now.set.now.channels u.known.seen c.loop-pass.at c.loop-pass.out.items c.turn.new.out.items c.in_ok-next.field-0) inv.1 c.in_ok-next.ensures.turned) in
    t.turns end owed (inv.6 end owed walks)

pub returns-clause-walked : goal.returns-clause-walked
returns-clause-walked c end owed walks =
    let inv = c.loop-pass.invariant in
    let v = view_of c.args.pass.now in
    let head = c.requires.head in
    let last = inv.3 in
    let test = c.loop-pass-test.false in
    let value = c.get.ensures.value in
    walks_there c.args.self.now.format (shown_cells v) c.args.self.now.fin v.known.db c.args.self.now.set.now.channels v.known.seen c.loop-pass.at end c.loop-pass.out.items owed (inv.6 end owed walks) (omega (arith, head, last, test, value))

pub loop-pass-init : goal.loop-pass-init
loop-pass-init c = (
  c.requires.own,
  refl,
  omega arith,
  c.get-last.ensures.value,
  take_all (vec_len c.args.out.now) c.args.out.now.items (let long = c.args.out.now.ok.0 in omega (arith, long)),
  c.requires.walks,
  λ end owed walks. walks,
)

pub returns-in-None-clause-own : goal.returns-in-None-clause-own
returns-in-None-clause-own c = c.turn.ensures.own

pub returns-in-None-clause-view : goal.returns-in-None-clause-view
returns-in-None-clause-view c = c.turn.ensures.view ∙ c.loop-pass.invariant.1

pub returns-in-None-clause-front : goal.returns-in-None-clause-front
returns-in-None-clause-front c =
    let inv = c.loop-pass.invariant in
    let v = view_of c.args.pass.now in
    let t = subst (λ (o : Option ℕ). HasTurned c.args.self.now.format (shown_cells v) c.args.self.now.fin v.known.db c.args.self.now.set.now.channels v.known.seen c.loop-pass.at c.loop-pass.out.items c.turn.new.out.items o) c.in-None.is
    (subst (λ (u : View). HasTurned c.args.self.now.format (shown_cells u) c.args.self.now.fin u.known.db c.args.self.now.set.now.channels u.known.seen c.loop-pass.at c.loop-pass.out.items c.turn.new.out.items c.in_ok-next.field-0) inv.1 c.in_ok-next.ensures.turned) in
    ap (take (vec_len c.args.out.now)) t.after_is ∙ front_on (vec_len c.args.out.now) c.loop-pass.out.items c.args.out.now.items t.more (sym c.args.out.now.ok.0) inv.4

pub returns-in_err-next-clause-own : goal.returns-in_err-next-clause-own
returns-in_err-next-clause-own c = c.turn.ensures.own

pub returns-in_err-next-clause-view : goal.returns-in_err-next-clause-view
returns-in_err-next-clause-view c = c.turn.ensures.view ∙ c.loop-pass.invariant.1

pub returns-clause-own : goal.returns-clause-own
returns-clause-own c = c.loop-pass.invariant.0

pub returns-clause-view : goal.returns-clause-view
returns-clause-view c = c.loop-pass.invariant.1

pub returns-clause-front : goal.returns-clause-front
returns-clause-front c = c.loop-pass.invariant.4

pub turn-requires-clause-fin : goal.turn-requires-clause-fin
turn-requires-clause-fin c = c.requires.fin ∙ sym (ap (λ (u : View). next_xid u.known.seen) c.loop-pass.invariant.1)

pub turn-requires-clause-reach : goal.turn-requires-clause-reach
turn-requires-clause-reach c =
    let limit = notes_of_seats (hub_shape c.args.self.now.hub.now).seats in subst (λ (u : View). length u.known.seen ≤ limit) (sym c.loop-pass.invariant.1) c.requires.reach

pub turn-requires-clause-walks : goal.turn-requires-clause-walks
turn-requires-clause-walks c =
    subst (λ (u : View). IsWalking c.args.self.now.format (shown_cells u) c.args.self.now.fin u.known.db c.args.self.now.set.now.channels u.known.seen c.loop-pass.at c.loop-pass.out.items) (sym c.loop-pass.invariant.1) c.loop-pass.invariant.5
