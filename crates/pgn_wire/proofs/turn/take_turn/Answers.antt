use Rattle.std.proofs.Common.{◌≡◌, Bool, Option, Some, None, Result, Err, ap}
use Rattle.pgn_language.specs.declared.scenario.ScriptLine.{ScriptLine}
use Rattle.pgn_wire.specs.declared.wire_end.WireEnd.{WireEnd}
use Rattle.pgn_wire.specs.declared.wire_end.WireEnd.TheVariants.{Read, Write}
use Rattle.pgn_queries.specs.Queries.{Place}
use Rattle.pgn_wire.proofs.ServingLaws.{answer-fails, never-asked, passed-few, passed-limit, passed-most, passed-runs, serving-ends, serving-fails, serving-goes, some-gives, some-passed, taken-open, taken-served, where-asked}
use Rattle.pgn_session.proofs.OpenLaws.{stood-rest}
use Rattle.pgn_wire.proofs.turn.take_turn.Goals as goal

pub one_query-requires-clause-runs : goal.one_query-requires-clause-runs
one_query-requires-clause-runs g c =
    passed-runs c.args.queries.now c.next_query.new.queries c.in-Ok-Some.line (some-passed c.args.queries.now c.next_query.new.queries c.in-Ok-Some.field-0 c.in-Ok-Some.line c.in-Ok-Some.field-0-is c.in-Ok-Some.ensures.passed)

pub one_query-requires-clause-few : goal.one_query-requires-clause-few
one_query-requires-clause-few g c =
    passed-few c.args.queries.now c.next_query.new.queries c.in-Ok-Some.line c.args.session.now.section.lines c.args.session.now.section.note_lines
    (some-passed c.args.queries.now c.next_query.new.queries c.in-Ok-Some.field-0 c.in-Ok-Some.line c.in-Ok-Some.field-0-is c.in-Ok-Some.ensures.passed) c.requires.notes c.requires.most

pub returns-in-Ok-clause-ready : goal.returns-in-Ok-clause-ready
returns-in-Ok-clause-ready g c =
    let passed = some-passed c.args.queries.now c.next_query.new.queries c.in-Ok-Some.field-0 c.in-Ok-Some.line c.in-Ok-Some.field-0-is c.in-Ok-Some.ensures.passed in
    record {
      own = c.one_query.ensures.own;
      served = taken-served (g.H.Hub.shape c.args.host.now.hub.now) c.args.session.now c.one_query.new.session c.in-Ok-Some.line c.requires.ready.is_open (passed-runs c.args.queries.now c.next_query.new.queries c.in-Ok-Some.line passed) c.in-Ok.ensures.taken
          c.one_query.ensures.same c.requires.ready.served;
      rested = c.in-Ok.ensures.rested;
      read_up = c.in-Ok.ensures.read_up;
      is_open = taken-open c.args.session.now c.one_query.new.session c.in-Ok-Some.line c.requires.ready.is_open c.in-Ok.ensures.taken;
    }

pub returns-in-Ok-None-clause-ready : goal.returns-in-Ok-None-clause-ready
returns-in-Ok-None-clause-ready g c = c.requires.ready

pub returns-in-Ok-clause-counted : goal.returns-in-Ok-clause-counted
returns-in-Ok-clause-counted g c =
    let passed = some-passed c.args.queries.now c.next_query.new.queries c.in-Ok-Some.field-0 c.in-Ok-Some.line c.in-Ok-Some.field-0-is c.in-Ok-Some.ensures.passed in
    λ e. ap (λ (p : Place). p.queries) passed.after

pub returns-in-Ok-clause-few : goal.returns-in-Ok-clause-few
returns-in-Ok-clause-few g c =
    let passed = some-passed c.args.queries.now c.next_query.new.queries c.in-Ok-Some.field-0 c.in-Ok-Some.line c.in-Ok-Some.field-0-is c.in-Ok-Some.ensures.passed in
    λ e. passed-most c.args.queries.now c.next_query.new.queries c.in-Ok-Some.line passed

pub returns-in-Ok-clause-turned : goal.returns-in-Ok-clause-turned
returns-in-Ok-clause-turned g c =
    let place = c.args.queries.now in
    let next = c.next_query.new.queries in
    let left = g.S.Source.left c.args.source.now in
    let rest = g.S.Source.left c.next_query.new.source in
    λ start bytes held h. serving-goes start c.args.session.now c.one_query.new.session c.in-Ok-Some.line place next bytes left rest held (g.K.Sink.held c.args.sink.now) (g.K.Sink.held c.one_query.new.sink)
    (some-passed place next c.in-Ok-Some.field-0 c.in-Ok-Some.line c.in-Ok-Some.field-0-is c.in-Ok-Some.ensures.passed)
    (some-gives place next c.in-Ok-Some.field-0 (Some c.in-Ok-Some.line) left rest c.in-Ok-Some.field-0-is c.in-Ok-Some.ensures.next) c.in-Ok.ensures.taken c.one_query.ensures.same c.in-Ok.ensures.written h

pub returns-in-Err-one_query-clause-turned : goal.returns-in-Err-one_query-clause-turned
returns-in-Err-one_query-clause-turned g c =
    let place = c.args.queries.now in
    let next = c.next_query.new.queries in
    let left = g.S.Source.left c.args.source.now in
    let rest = g.S.Source.left c.next_query.new.source in
    λ start bytes held h. answer-fails c.in-Err-one_query.end start c.args.session.now c.one_query.new.session c.in-Ok-Some.line place next bytes left rest held (g.K.Sink.held c.args.sink.now) (g.K.Sink.held c.one_query.new.sink)
    (passed-limit place next c.in-Ok-Some.line (some-passed place next c.in-Ok-Some.field-0 c.in-Ok-Some.line c.in-Ok-Some.field-0-is c.in-Ok-Some.ensures.passed))
    c.in-Err-one_query.ensures.ends (some-gives place next c.in-Ok-Some.field-0 (Some c.in-Ok-Some.line) left rest c.in-Ok-Some.field-0-is c.in-Ok-Some.ensures.next) c.in-Err-one_query.ensures.script
    c.one_query.ensures.same c.in-Err-one_query.ensures.written h

pub returns-in-Ok-None-clause-stood : goal.returns-in-Ok-None-clause-stood
returns-in-Ok-None-clause-stood g c = stood-rest (g.H.Hub.shape c.args.host.now.hub.now) g.P.PassView.known c.args.session.now c.requires.ready.rested

pub returns-in-Ok-None-clause-turned : goal.returns-in-Ok-None-clause-turned
returns-in-Ok-None-clause-turned g c =
    let place = c.args.queries.now in
    let next = c.next_query.new.queries in
    let left = g.S.Source.left c.args.source.now in
    let rest = g.S.Source.left c.next_query.new.source in
    λ start bytes held h. serving-ends _ start c.args.session.now place next bytes left rest held (g.K.Sink.held c.args.sink.now)
    (some-gives place next c.in-Ok-None.field-0 None left rest c.in-Ok-None.field-0-is c.in-Ok-None.ensures.next) h

pub returns-in-Err-clause-turned : goal.returns-in-Err-clause-turned
returns-in-Err-clause-turned g c =
    λ start bytes held h. serving-fails c.in-Err.end start c.args.session.now c.args.queries.now bytes (g.S.Source.left c.args.source.now) held (g.K.Sink.held c.args.sink.now) c.in-Err.ensures.other c.in-Err.ensures.fault h

pub returns-in-Err-one_query-clause-answered : goal.returns-in-Err-one_query-clause-answered
returns-in-Err-one_query-clause-answered g c = never-asked c.in-Err-one_query.end _ c.in-Err-one_query.ensures.ends

pub returns-in-Err-clause-answered : goal.returns-in-Err-clause-answered
returns-in-Err-clause-answered g c = where-asked c.in-Err.end _ (record { is_open = c.requires.ready.is_open; rested = c.requires.ready.rested })

pub returns-in-Ok-clause-read : goal.returns-in-Ok-clause-read
returns-in-Ok-clause-read g c = λ e. let no : ⊥ = cc in absurd no

pub returns-in-Ok-clause-write : goal.returns-in-Ok-clause-write
returns-in-Ok-clause-write g c = λ e. let no : ⊥ = cc in absurd no

pub returns-in-Ok-clause-source_later : goal.returns-in-Ok-clause-source_later
returns-in-Ok-clause-source_later g c = c.next_query.ensures.later

pub returns-in-Ok-clause-source_rose : goal.returns-in-Ok-clause-source_rose
returns-in-Ok-clause-source_rose g c = λ less. let e = c.in-Ok-Some.ensures.rose less in let no : ⊥ = cc in absurd no

pub returns-in-Ok-clause-sink_later : goal.returns-in-Ok-clause-sink_later
returns-in-Ok-clause-sink_later g c = c.one_query.ensures.later

pub returns-in-Ok-clause-sink_rose : goal.returns-in-Ok-clause-sink_rose
returns-in-Ok-clause-sink_rose g c = λ less. let e = c.in-Ok.ensures.rose less in let no : ⊥ = cc in absurd no

pub returns-in-Ok-None-clause-read : goal.returns-in-Ok-None-clause-read
returns-in-Ok-None-clause-read g c = λ e. let no : ⊥ = cc in absurd no

pub returns-in-Ok-None-clause-write : goal.returns-in-Ok-None-clause-write
returns-in-Ok-None-clause-write g c = λ e. let no : ⊥ = cc in absurd no

pub returns-in-Ok-None-clause-source_later : goal.returns-in-Ok-None-clause-source_later
returns-in-Ok-None-clause-source_later g c = c.next_query.ensures.later

pub returns-in-Ok-None-clause-source_rose : goal.returns-in-Ok-None-clause-source_rose
returns-in-Ok-None-clause-source_rose g c = λ less. let e = c.in-Ok-None.ensures.rose less in let no : ⊥ = cc in absurd no

pub returns-in-Err-one_query-clause-write : goal.returns-in-Err-one_query-clause-write
returns-in-Err-one_query-clause-write g c = λ e. let is : c.in-Err-one_query.end ≡ Write = cc in c.in-Err-one_query.ensures.failed (ap (λ (w : WireEnd). let r : Result (Unit {0}) WireEnd = Err w in r) is)

pub returns-in-Err-one_query-clause-source_later : goal.returns-in-Err-one_query-clause-source_later
returns-in-Err-one_query-clause-source_later g c = c.next_query.ensures.later

pub returns-in-Err-one_query-clause-source_rose : goal.returns-in-Err-one_query-clause-source_rose
returns-in-Err-one_query-clause-source_rose g c = λ less. let e = c.in-Ok-Some.ensures.rose less in let no : ⊥ = cc in absurd no

pub returns-in-Err-one_query-clause-sink_later : goal.returns-in-Err-one_query-clause-sink_later
returns-in-Err-one_query-clause-sink_later g c = c.one_query.ensures.later

pub returns-in-Err-one_query-clause-sink_rose : goal.returns-in-Err-one_query-clause-sink_rose
returns-in-Err-one_query-clause-sink_rose g c = λ less. let e = c.in-Err-one_query.ensures.rose less in let is : c.in-Err-one_query.end ≡ Write = cc in ap (λ (w : WireEnd). let r : Result Bool WireEnd = Err w in r) is

pub returns-in-Err-clause-read : goal.returns-in-Err-clause-read
returns-in-Err-clause-read g c = λ e. let is : c.in-Err.end ≡ Read = cc in c.in-Err.ensures.failed (ap (λ (w : WireEnd). let r : Result (Option ScriptLine) WireEnd = Err w in r) is)

pub returns-in-Err-clause-write : goal.returns-in-Err-clause-write
returns-in-Err-clause-write g c = λ e. let is : c.in-Err.end ≡ Write = cc in absurd (c.in-Err.ensures.other (ap (λ (w : WireEnd). let r : Result (Option ScriptLine) WireEnd = Err w in r) is))

pub returns-in-Err-clause-source_later : goal.returns-in-Err-clause-source_later
returns-in-Err-clause-source_later g c = c.next_query.ensures.later

pub returns-in-Err-clause-source_rose : goal.returns-in-Err-clause-source_rose
returns-in-Err-clause-source_rose g c = λ less. let e = c.in-Err.ensures.rose less in let is : c.in-Err.end ≡ Read = cc in ap (λ (w : WireEnd). let r : Result Bool WireEnd = Err w in r) is
