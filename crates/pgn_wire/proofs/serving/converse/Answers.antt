use Rattle.std.proofs.Common.{◌≡◌, ℕ, ◌+◌, ◌∙◌, true, false, Ok, ap, arith, refl, rules, subst, sym}
use Rattle.pgn_queries.specs.Queries.{Place}
use Rattle.pgn_wire.specs.Serving.{IsServing}
use Rattle.pgn_wire.proofs.ServingLaws.{failed-as, serving-begins, unrisen, was-last, went-on}
use Rattle.pgn_wire.proofs.serving.converse.Goals as goal

pub loop-query-init : goal.loop-query-init
loop-query-init g c =
    let s = c.args.session.now in
    let left = g.S.Source.left c.args.source.now in
    let held = g.K.Sink.held c.args.sink.now in
    record {
      ready = c.requires.ready;
      serving = subst (λ (place : Place). IsServing s s place left left held held) (sym c.new-queries.ensures) (serving-begins s left held c.requires.begins);
      counted = ap (λ (place : Place). place.queries) c.new-queries.ensures;
      few = (let none : c.new-queries.result.queries ≡ 0 = ap (λ (place : Place). place.queries) c.new-queries.ensures in omega (arith, none));
      source = refl;
      sink = refl;
    }

pub take_turn-requires-clause-ready : goal.take_turn-requires-clause-ready
take_turn-requires-clause-ready g c = c.loop-query.invariant.ready

pub take_turn-requires-clause-notes : goal.take_turn-requires-clause-notes
take_turn-requires-clause-notes g c = c.loop-query.invariant.serving.notes

pub take_turn-requires-clause-most : goal.take_turn-requires-clause-most
take_turn-requires-clause-most g c = c.loop-query.invariant.serving.most

pub loop-query-preserved : goal.loop-query-preserved
loop-query-preserved g c =
    let first = c.args.session.now in
    let left = g.S.Source.left c.args.source.now in
    let held = g.K.Sink.held c.args.sink.now in
    let went : c.in-Ok-true.field-0 ≡ true = search rules in
    record {
      ready = c.in-Ok-true.ensures.ready;
      serving = went-on c.in-Ok-true.field-0 first c.take_turn.new.session c.take_turn.new.queries left (g.S.Source.left c.take_turn.new.source) held (g.K.Sink.held c.take_turn.new.sink) went
          (c.in-Ok-true.ensures.turned first left held c.loop-query.invariant.serving);
      counted = c.in-Ok-true.ensures.counted (ap Ok went) ∙ ap (λ (n : ℕ). n + 1) c.loop-query.invariant.counted;
      few = c.in-Ok-true.ensures.few (ap Ok went);
      source = unrisen (g.S.Source.faults c.loop-query.source) (g.S.Source.faults c.take_turn.new.source) _ c.take_turn.ensures.source_later c.in-Ok-true.ensures.source_rose (λ e. let no : ⊥ = cc in no)
          ∙ c.loop-query.invariant.source;
      sink = unrisen (g.K.Sink.faults c.loop-query.sink) (g.K.Sink.faults c.take_turn.new.sink) _ c.take_turn.ensures.sink_later c.in-Ok-true.ensures.sink_rose (λ e. let no : ⊥ = cc in no) ∙ c.loop-query.invariant.sink;
    }

pub returns-in-Ok-false-clause-ended : goal.returns-in-Ok-false-clause-ended
returns-in-Ok-false-clause-ended g c =
    let last : c.in-Ok-false.field-0 ≡ false = search rules in
    was-last c.in-Ok-false.field-0 c.args.session.now c.take_turn.new.session c.take_turn.new.queries (g.S.Source.left c.args.source.now) (g.S.Source.left c.take_turn.new.source) (g.K.Sink.held c.args.sink.now)
    (g.K.Sink.held c.take_turn.new.sink) last
    (c.in-Ok-false.ensures.turned c.args.session.now (g.S.Source.left c.args.source.now) (g.K.Sink.held c.args.sink.now) c.loop-query.invariant.serving)

pub returns-in-Err-clause-ended : goal.returns-in-Err-clause-ended
returns-in-Err-clause-ended g c =
    failed-as c.in-Err.end c.args.session.now c.take_turn.new.session (g.S.Source.left c.args.source.now) (g.K.Sink.held c.args.sink.now) (g.K.Sink.held c.take_turn.new.sink)
    (c.in-Err.ensures.turned c.args.session.now (g.S.Source.left c.args.source.now) (g.K.Sink.held c.args.sink.now) c.loop-query.invariant.serving)

pub returns-in-Err-clause-answered : goal.returns-in-Err-clause-answered
returns-in-Err-clause-answered g c = c.in-Err.ensures.answered
