use Rattle.std.proofs.Common.{◌≡◌, ◌∙◌, Result, Ok, Err, ap, refl, sym}
use Rattle.pgn_language.specs.declared.scenario.Section.{Section}
use Rattle.pgn_wire.specs.declared.wire_end.WireEnd.{WireEnd}
use Rattle.pgn_wire.specs.declared.wire_end.WireEnd.TheVariants as end
use Rattle.pgn_service.proofs.ConversationLaws.{served-known, short-known, stopped-known, unopened-known}
use Rattle.pgn_service.proofs.conversing.converse.Goals as goal

pub returns-in_default-clause-ends : goal.returns-in_default-clause-ends
returns-in_default-clause-ends g c = unopened-known (g.S.Source.left c.args.source.now) (g.K.Sink.held c.args.sink.now)

pub returns-in-Ok-finish-clause-ends : goal.returns-in-Ok-finish-clause-ends
returns-in-Ok-finish-clause-ends g c =
    served-known c.in-Ok.session c.serve_wire.new.session (g.S.Source.left c.args.source.now) (g.K.Sink.held c.args.sink.now) (g.K.Sink.held c.serve_wire.new.sink) c.in-Ok.ensures.section c.in-Ok-serve_wire.ensures.same
    c.in-Ok-serve_wire.ensures.asked c.in-Ok-serve_wire.ensures.written c.in-Ok-finish.ensures

pub returns-in-Err-finish-clause-ends : goal.returns-in-Err-finish-clause-ends
returns-in-Err-finish-clause-ends g c =
    short-known (g.H.Hub.shape c.in-Ok.hub) g.P.PassView.known c.in-Ok.session c.serve_wire.new.session (g.S.Source.left c.args.source.now) (g.K.Sink.held c.args.sink.now) (g.K.Sink.held c.serve_wire.new.sink)
    c.in-Ok.ensures.shape c.in-Ok.ensures.section c.in-Ok.ensures.patience c.in-Ok-serve_wire.ensures.same c.in-Ok-serve_wire.ensures.stood c.in-Ok-serve_wire.ensures.asked c.in-Ok-serve_wire.ensures.written

pub returns-in-Err-clause-ends : goal.returns-in-Err-clause-ends
returns-in-Err-clause-ends g c =
    stopped-known (g.H.Hub.shape c.in-Ok.hub) g.P.PassView.known c.in-Err.end c.in-Ok.session c.serve_wire.new.session (g.S.Source.left c.args.source.now) (g.K.Sink.held c.args.sink.now) (g.K.Sink.held c.serve_wire.new.sink)
    c.in-Ok.ensures.shape c.in-Ok.ensures.section c.in-Ok.ensures.patience c.in-Err.ensures.same c.in-Err.ensures.stood c.in-Err.ensures.answered c.in-Err.ensures.asked c.in-Err.ensures.written

-- what ended well has no cause to end, and want of memory is neither fault
no-end : {A T : Type 0} (x : T) (y : WireEnd) → Ok x ≡ Err y → A
no-end x y e = absurd (cc)

no-read : {A T : Type 0} (r : Result T WireEnd) → r ≡ Err end.Memory → r ≡ Err end.Read → A
no-read r is e = absurd (cc)

no-write : {A T : Type 0} (r : Result T WireEnd) → r ≡ Err end.Memory → r ≡ Err end.Write → A
no-write r is e = absurd (cc)

pub finish-requires-clause-shape : goal.finish-requires-clause-shape
finish-requires-clause-shape g c = c.in-Ok.ensures.shape

pub finish-requires-clause-own : goal.finish-requires-clause-own
finish-requires-clause-own g c = c.serve_wire.ensures.own

pub finish-requires-clause-rested : goal.finish-requires-clause-rested
finish-requires-clause-rested g c = c.in-Ok-serve_wire.ensures.rested

pub finish-requires-clause-number : goal.finish-requires-clause-number
finish-requires-clause-number g c = ap (λ (s : Section). s.no) (c.serve_wire.ensures.same.section) ∙ ap (λ (s : Section). s.no) c.in-Ok.ensures.section

pub finish-requires-clause-plan : goal.finish-requires-clause-plan
finish-requires-clause-plan g c = c.serve_wire.ensures.same.plan ∙ c.in-Ok.ensures.plan

pub finish-requires-clause-patience : goal.finish-requires-clause-patience
finish-requires-clause-patience g c = c.serve_wire.ensures.same.patience ∙ c.in-Ok.ensures.patience

pub returns-in-Ok-finish-clause-read : goal.returns-in-Ok-finish-clause-read
returns-in-Ok-finish-clause-read g c = λ e. no-end _ _ e

pub returns-in-Ok-finish-clause-write : goal.returns-in-Ok-finish-clause-write
returns-in-Ok-finish-clause-write g c = λ e. no-end _ _ e

pub returns-in-Ok-finish-clause-source_later : goal.returns-in-Ok-finish-clause-source_later
returns-in-Ok-finish-clause-source_later g c = c.serve_wire.ensures.source_later

pub returns-in-Ok-finish-clause-source_rose : goal.returns-in-Ok-finish-clause-source_rose
returns-in-Ok-finish-clause-source_rose g c = λ less. no-end _ _ (sym c.in-Ok-serve_wire.is ∙ c.serve_wire.ensures.source_rose less)

pub returns-in-Ok-finish-clause-sink_later : goal.returns-in-Ok-finish-clause-sink_later
returns-in-Ok-finish-clause-sink_later g c = c.serve_wire.ensures.sink_later

pub returns-in-Ok-finish-clause-sink_rose : goal.returns-in-Ok-finish-clause-sink_rose
returns-in-Ok-finish-clause-sink_rose g c = λ less. no-end _ _ (sym c.in-Ok-serve_wire.is ∙ c.serve_wire.ensures.sink_rose less)

pub returns-in-Err-finish-clause-read : goal.returns-in-Err-finish-clause-read
returns-in-Err-finish-clause-read g c = λ e. no-read _ refl e

pub returns-in-Err-finish-clause-write : goal.returns-in-Err-finish-clause-write
returns-in-Err-finish-clause-write g c = λ e. no-write _ refl e

pub returns-in-Err-finish-clause-source_later : goal.returns-in-Err-finish-clause-source_later
returns-in-Err-finish-clause-source_later g c = c.serve_wire.ensures.source_later

pub returns-in-Err-finish-clause-source_rose : goal.returns-in-Err-finish-clause-source_rose
returns-in-Err-finish-clause-source_rose g c = λ less. no-end _ _ (sym c.in-Ok-serve_wire.is ∙ c.serve_wire.ensures.source_rose less)

pub returns-in-Err-finish-clause-sink_later : goal.returns-in-Err-finish-clause-sink_later
returns-in-Err-finish-clause-sink_later g c = c.serve_wire.ensures.sink_later

pub returns-in-Err-finish-clause-sink_rose : goal.returns-in-Err-finish-clause-sink_rose
returns-in-Err-finish-clause-sink_rose g c = λ less. no-end _ _ (sym c.in-Ok-serve_wire.is ∙ c.serve_wire.ensures.sink_rose less)

pub returns-in_default-clause-read : goal.returns-in_default-clause-read
returns-in_default-clause-read g c = λ e. no-read _ refl e

pub returns-in_default-clause-write : goal.returns-in_default-clause-write
returns-in_default-clause-write g c = λ e. no-write _ refl e

pub returns-in-Err-clause-read : goal.returns-in-Err-clause-read
returns-in-Err-clause-read g c = λ e. c.serve_wire.ensures.read (c.in-Err.is ∙ e)

pub returns-in-Err-clause-write : goal.returns-in-Err-clause-write
returns-in-Err-clause-write g c = λ e. c.serve_wire.ensures.write (c.in-Err.is ∙ e)

pub returns-in-Err-clause-source_later : goal.returns-in-Err-clause-source_later
returns-in-Err-clause-source_later g c = c.serve_wire.ensures.source_later

pub returns-in-Err-clause-source_rose : goal.returns-in-Err-clause-source_rose
returns-in-Err-clause-source_rose g c = λ less. sym c.in-Err.is ∙ c.serve_wire.ensures.source_rose less

pub returns-in-Err-clause-sink_later : goal.returns-in-Err-clause-sink_later
returns-in-Err-clause-sink_later g c = c.serve_wire.ensures.sink_later

pub returns-in-Err-clause-sink_rose : goal.returns-in-Err-clause-sink_rose
returns-in-Err-clause-sink_rose g c = λ less. sym c.in-Err.is ∙ c.serve_wire.ensures.sink_rose less
