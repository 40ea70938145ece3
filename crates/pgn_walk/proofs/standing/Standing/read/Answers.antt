use Rattle.std.proofs.Common.{List, true, sym, subst}
use Rattle.pgn_base.specs.declared.note.Delivery.{Delivery}
use Rattle.pgn_model.specs.declared.item.Item.TheVariants as item
use Rattle.pgn_model.specs.Walk.{Terms}
use Rattle.pgn_walk.specs.declared.standing.Standing.{Standing}
use Rattle.pgn_walk.specs.Steps.{Moves}
use Rattle.pgn_walk.proofs.ReadLaws.{Takes, read_far, read_never, read_on, read_other}
use Rattle.pgn_walk.proofs.standing.Standing.read.Goals as goal

pub returns-then-not-may_read : goal.returns-then-not-may_read
returns-then-not-may_read c = λ settings.
    let terms : Terms = record { section = c.args.section.now; settings = settings } in
    read_never terms c.args.ledger.now.journal.now c.args.self.now c.args.self.now c.args.span.now.from c.args.span.now.to c.args.got.now c.may_read.result c.may_read.ensures c.if-not-may_read.true

pub returns-then-not-reaches : goal.returns-then-not-reaches
returns-then-not-reaches c = λ settings.
    let terms : Terms = record { section = c.args.section.now; settings = settings } in
    read_far terms c.args.ledger.now.journal.now c.args.self.now c.args.self.now c.args.span.now.from c.args.span.now.to c.args.got.now c.reaches.result c.reaches.ensures.value c.if-not-reaches.true

pub returns-then-not-branch : goal.returns-then-not-branch
returns-then-not-branch c = λ settings.
    let terms : Terms = record { section = c.args.section.now; settings = settings } in
    let old = c.args.self.now in
    let journal = c.args.ledger.now.journal.now in
    let takes = subst (λ (got : List Delivery). Takes c.args.span.now.to got old.watch c.in_ok-takes.field-0 c.takes.new.self) c.as_slice.ensures c.in_ok-takes.ensures in
    read_other terms journal old (record old { watch = c.takes.new.self }) c.takes.new.self c.args.span.now.from c.args.span.now.to c.args.got.now c.reaches.result c.in_ok-takes.field-0 (c.reaches.ensures.first c.if-not-reaches.false)
    c.reaches.ensures.value c.if-not-reaches.false takes c.if-not-branch.true

pub returns : goal.returns
returns c = λ settings.
    let terms : Terms = record { section = c.args.section.now; settings = settings } in
    let old = c.args.self.now in
    let journal = c.args.ledger.now.journal.now in
    let takes = subst (λ (got : List Delivery). Takes c.args.span.now.to got old.watch c.in_ok-takes.field-0 c.takes.new.self) c.as_slice.ensures c.in_ok-takes.ensures in
    subst (λ (new : Standing). Moves terms journal old (item.Read c.args.span.now.from c.args.span.now.to c.args.got.now) true new) (sym c.come_to.ensures)
    (read_on terms journal old c.takes.new.self c.args.span.now.from c.args.span.now.to c.args.got.now c.may_read.result c.reaches.result c.in_ok-takes.field-0 (c.reaches.ensures.first c.if-not-reaches.false) c.may_read.ensures c.if-not-may_read.false
    c.reaches.ensures.value c.if-not-reaches.false takes c.if-not-branch.false)
