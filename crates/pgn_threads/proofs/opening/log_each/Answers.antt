use Rattle.std.proofs.Common.{◌≡◌, ◌∙◌, List, length, map, ap, refl, arith}
use Rattle.pgn_session.specs.declared.session.Session.{Session}
use Rattle.pgn_threads.specs.Parts.{part_of, trace_of}
use Rattle.pgn_threads.proofs.ListLemmas.{all-done, one-done, one-more}
use Rattle.pgn_threads.proofs.opening.log_each.Goals as goal

pub loop-session-init : goal.loop-session-init
loop-session-init g c = (c.requires.none.0, c.requires.none.1, c.requires.none.2, c.into_iter-session-iterator.ensures.into_iter_gives.0)

pub loop-session-preserved : goal.loop-session-preserved
loop-session-preserved g c = (
  one-more (λ (s : Session g.row.P.Denot). s.pass) c.loop-session.yielded c.in-Some.session c.loop-session.passes.items _ _ c.loop-session.invariant.0 refl c.in_ok-keep.ensures.passes,
  one-more (λ (s : Session g.row.P.Denot). trace_of (part_of g.P.PassView.known s)) c.loop-session.yielded c.in-Some.session c.loop-session.traces.items _ _ c.loop-session.invariant.1 refl c.in_ok-keep.ensures.traces,
  one-more (λ (s : Session g.row.P.Denot). s.section) c.loop-session.yielded c.in-Some.session c.loop-session.sections.items _ _ c.loop-session.invariant.2 refl c.in_ok-keep.ensures.sections,
  one-done c.loop-session.yielded c.in-Some.session c.loop-session.session-iterator.rest.items c.next.new.self.rest.items c.args.sessions.items c.in-Some.ensures.steps.0 c.loop-session.invariant.3,
)

pub returns-clause-passes : goal.returns-clause-passes
returns-clause-passes g c =
    let left = c.loop-session.session-iterator.rest in
    let none : length left.items ≡ 0 = (let ok = left.ok in let steps = c.in-None.ensures.steps in omega (arith, ok, steps.0)) in
    c.loop-session.invariant.0 ∙ ap (λ (ss : List (Session g.row.P.Denot)). map (λ (s : Session g.row.P.Denot). s.pass) ss) (all-done c.loop-session.yielded left.items c.args.sessions.items c.loop-session.invariant.3 none)

pub returns-clause-traces : goal.returns-clause-traces
returns-clause-traces g c =
    let left = c.loop-session.session-iterator.rest in
    let none : length left.items ≡ 0 = (let ok = left.ok in let steps = c.in-None.ensures.steps in omega (arith, ok, steps.0)) in
    c.loop-session.invariant.1 ∙ ap (λ (ss : List (Session g.row.P.Denot)). map (λ (s : Session g.row.P.Denot). trace_of (part_of g.P.PassView.known s)) ss) (all-done c.loop-session.yielded left.items c.args.sessions.items c.loop-session.invariant.3 none)

pub returns-clause-sections : goal.returns-clause-sections
returns-clause-sections g c =
    let left = c.loop-session.session-iterator.rest in
    let none : length left.items ≡ 0 = (let ok = left.ok in let steps = c.in-None.ensures.steps in omega (arith, ok, steps.0)) in
    c.loop-session.invariant.2 ∙ ap (λ (ss : List (Session g.row.P.Denot)). map (λ (s : Session g.row.P.Denot). s.section) ss) (all-done c.loop-session.yielded left.items c.args.sessions.items c.loop-session.invariant.3 none)
