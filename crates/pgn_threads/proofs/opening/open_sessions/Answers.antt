use Rattle.std.proofs.Common.{◌≡◌, ◌++◌, ◌∷◌, [], List, sym, subst, arith}
use Rattle.pgn_session.specs.declared.session.Session.{Session}
use Rattle.pgn_threads.specs.Opened.{HaveOpened}
use Rattle.pgn_threads.proofs.OpenLaws.{none-left, some-left, none-opened, is-fit, is-opened, one-opened, all-opened, all-scripts, same-script}
use Rattle.pgn_threads.proofs.opening.open_sessions.Goals as goal

pub loop-section-init : goal.loop-section-init
loop-section-init g c =
    none-opened g.P.PassView.known c.args.shared.plan c.args.shared.patience c.args.sections.items c.args.passes.items c.into_iter-section-iterator.result.rest.items c.into_iter-passes.result.rest.items c.in_ok-sessions.sessions.items
    c.into_iter-section-iterator.ensures.into_iter_gives.0 c.into_iter-passes.ensures.rest c.in_ok-sessions.ensures.items c.requires.fit c.requires.opened

pub loop-section-preserved : goal.loop-section-preserved
loop-section-preserved g c =
    let s = c.in_ok-new.field-0 in
    let begins = c.in_ok-new.ensures.begins in
    let now = c.loop-section in
    subst (λ (sessions : List (Session g.row.P.Denot)). HaveOpened g.P.PassView.known c.args.shared.plan c.args.shared.patience c.args.sections.items (now.yielded ++ c.in-Some.section ∷ []) c.next.new.self.rest.items c.args.passes.items c.next-in-loop-section.new.self.rest.items sessions) (sym c.in_ok-push.ensures.items)
    (one-opened g.P.PassView.known c.args.shared.plan c.args.shared.patience c.args.sections.items c.args.passes.items now.yielded now.section-iterator.rest.items now.passes.rest.items now.sessions.items
    c.in-Some.section c.next.new.self.rest.items c.in-Some.ensures.steps.0 now.invariant c.in-Some-next.pass c.next-in-loop-section.new.self.rest.items s c.in-Some-next.ensures.items begins.0
    (same-script s c.args.shared.plan c.args.shared.patience c.in-Some.section begins.1 begins.2 begins.3) c.in_ok-new.ensures.rested)

pub new-requires-clause-opened : goal.new-requires-clause-opened
new-requires-clause-opened g c =
    let now = c.loop-section in
    is-opened g.P.PassView.known c.args.shared.plan c.args.shared.patience c.args.sections.items c.args.passes.items now.yielded now.section-iterator.rest.items now.passes.rest.items now.sessions.items
    c.in-Some.section c.next.new.self.rest.items c.in-Some.ensures.steps.0 now.invariant c.in-Some-next.pass c.next-in-loop-section.new.self.rest.items c.in-Some-next.ensures.items

pub new-requires-clause-counted : goal.new-requires-clause-counted
new-requires-clause-counted g c =
    let now = c.loop-section in
    (is-fit g.P.PassView.known c.args.shared.plan c.args.shared.patience c.args.sections.items c.args.passes.items now.yielded now.section-iterator.rest.items now.passes.rest.items now.sessions.items
    c.in-Some.section c.next.new.self.rest.items c.in-Some.ensures.steps.0 now.invariant).counted

pub new-requires-clause-quits_last : goal.new-requires-clause-quits_last
new-requires-clause-quits_last g c =
    let now = c.loop-section in
    (is-fit g.P.PassView.known c.args.shared.plan c.args.shared.patience c.args.sections.items c.args.passes.items now.yielded now.section-iterator.rest.items now.passes.rest.items now.sessions.items
    c.in-Some.section c.next.new.self.rest.items c.in-Some.ensures.steps.0 now.invariant).quits_last

pub returns-clause-passes : goal.returns-clause-passes
returns-clause-passes g c =
    let now = c.loop-section in
    let none : now.section-iterator.rest.items ≡ [] = none-left now.section-iterator.rest.items (let ok = now.section-iterator.rest.ok in let none = c.in-None.ensures.steps in omega (arith, ok, none.0)) in
    all-opened g.P.PassView.known c.args.shared.plan c.args.shared.patience c.args.sections.items c.args.passes.items now.yielded now.section-iterator.rest.items now.passes.rest.items now.sessions.items none now.invariant

pub returns-clause-scripts : goal.returns-clause-scripts
returns-clause-scripts g c =
    let now = c.loop-section in
    let none : now.section-iterator.rest.items ≡ [] = none-left now.section-iterator.rest.items (let ok = now.section-iterator.rest.ok in let none = c.in-None.ensures.steps in omega (arith, ok, none.0)) in
    all-scripts g.P.PassView.known c.args.shared.plan c.args.shared.patience c.args.sections.items c.args.passes.items now.yielded now.section-iterator.rest.items now.passes.rest.items now.sessions.items none now.invariant

pub returns-clause-rested : goal.returns-clause-rested
returns-clause-rested g c = c.loop-section.invariant.rested

pub unreachable-requires : goal.unreachable-requires
unreachable-requires g c =
    let now = c.loop-section in
    let ok = now.passes.rest.ok in
    let none = c.in_default.ensures.cases in
    some-left g.P.PassView.known c.args.shared.plan c.args.shared.patience c.args.sections.items c.args.passes.items now.yielded now.section-iterator.rest.items now.passes.rest.items now.sessions.items
    c.in-Some.section c.next.new.self.rest.items c.in-Some.ensures.steps.0 now.invariant (omega (arith, ok, none.0))
