use Rattle.std.proofs.Common.{◌+◌, ◌<◌, length, ◌∙◌, subst, arith}
use Rattle.pgn_words.specs.declared.view.View.{View}
use Rattle.pgn_words.specs.Passes.{view_of}
use Rattle.pgn_wordhub.specs.Walks.{IsCell, shown_cells}
use Rattle.pgn_wordhub.proofs.WayLaws.{leads_there, leads_stops, leads_on, leads_long}
use Rattle.pgn_wordhub.proofs.hub.WordHub.come_to.Goals as goal

pub returns-then-cells-end-clause-come : goal.returns-then-cells-end-clause-come
returns-then-cells-end-clause-come c end leads =
    let v = view_of c.args.pass.now in
    let head = c.requires.head in
    let test = c.loop-pass-test.true in
    let value = c.get.ensures.value in
    let last = c.loop-pass.invariant.3 in
    let past = c.if-cells-end.true in
    let fin = c.loop-pass.invariant.4 in
    leads_stops c.args.self.now.format (shown_cells v) c.args.fin c.loop-pass.at end c.head_at-cells.result.xid (c.loop-pass.invariant.6 end leads) (omega (arith, head, test, value, last))
    (subst (λ (u : View). IsCell (shown_cells u) (c.loop-pass.at + 2) c.head_at-cells.result.xid) c.loop-pass.invariant.1 c.head_at-cells.ensures.xid) (omega (arith, past, fin))

pub advance-at-requires-clause-least : goal.advance-at-requires-clause-least
advance-at-requires-clause-least c =
    let v = view_of c.args.pass.now in
    let head = c.requires.head in
    let test = c.loop-pass-test.true in
    let value = c.get.ensures.value in
    let last = c.loop-pass.invariant.3 in
    let below = c.if-cells-end.false in
    let fin = c.loop-pass.invariant.4 in
    let way = c.loop-pass.invariant.5 in
    let long = leads_long c.args.self.now.format (shown_cells v) c.args.fin c.loop-pass.at way.end c.head_at-cells.result.xid c.head_at-cells.result.len way.leads (omega (arith, head, test, value, last))
    (subst (λ (u : View). IsCell (shown_cells u) (c.loop-pass.at + 2) c.head_at-cells.result.xid) c.loop-pass.invariant.1 c.head_at-cells.ensures.xid)
    (subst (λ (u : View). IsCell (shown_cells u) (c.loop-pass.at + 0) c.head_at-cells.result.len) c.loop-pass.invariant.1 c.head_at-cells.ensures.len) (omega (arith, below, fin)) in
    long.least

pub loop-pass-preserved : goal.loop-pass-preserved
loop-pass-preserved c =
    let v = view_of c.args.pass.now in
    let head = c.requires.head in
    let test = c.loop-pass-test.true in
    let value = c.get.ensures.value in
    let last = c.loop-pass.invariant.3 in
    let below = c.if-cells-end.false in
    let fin = c.loop-pass.invariant.4 in
    let inv = c.loop-pass.invariant in
    let before : c.loop-pass.at < length (shown_cells v) = omega (arith, head, test, value, last) in
    let is = subst (λ (u : View). IsCell (shown_cells u) (c.loop-pass.at + 2) c.head_at-cells.result.xid) inv.1 c.head_at-cells.ensures.xid in
    let first = subst (λ (u : View). IsCell (shown_cells u) (c.loop-pass.at + 0) c.head_at-cells.result.len) inv.1 c.head_at-cells.ensures.len in
    let low : c.head_at-cells.result.xid < c.args.fin = omega (arith, below, fin) in
    let further = c.advance-at.ensures.further in
    let from = inv.2 in (
      c.head_at-cells.ensures.own,
      c.head_at-cells.ensures.view ∙ inv.1,
      omega (arith, further, from),
      inv.3,
      inv.4,
      record { end = inv.5.end; leads = leads_on c.args.self.now.format (shown_cells v) c.args.fin c.loop-pass.at inv.5.end c.head_at-cells.result.xid c.head_at-cells.result.len c.advance-at.result inv.5.leads before is first low c.advance-at.ensures.value },
      λ end leads. leads_on c.args.self.now.format (shown_cells v) c.args.fin c.loop-pass.at end c.head_at-cells.result.xid c.head_at-cells.result.len c.advance-at.result (inv.6 end leads) before is first low c.advance-at.ensures.value,
    )

pub returns-clause-come : goal.returns-clause-come
returns-clause-come c end leads =
    let v = view_of c.args.pass.now in
    let head = c.requires.head in
    let test = c.loop-pass-test.false in
    let value = c.get.ensures.value in
    let last = c.loop-pass.invariant.3 in
    leads_there c.args.self.now.format (shown_cells v) c.args.fin c.loop-pass.at end (c.loop-pass.invariant.6 end leads) (omega (arith, head, test, value, last))
