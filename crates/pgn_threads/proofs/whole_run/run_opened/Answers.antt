use Rattle.std.proofs.Common.{List, map, drop, length, sym, ap, ◌∙◌}
use Rattle.std.specs.List.{range_with_len}
use Rattle.std.proofs.lemmas.List.{length-map}
use Rattle.std.proofs.lemmas.List.Elements.{All-same}
use Rattle.pgn_hub.specs.declared.setup.SeatSetup.{SeatSetup}
use Rattle.pgn_hub.specs.Shape.{Shape}
use Rattle.pgn_session.specs.declared.session.Session.{Session}
use Rattle.pgn_session.specs.Runs.{IsOver, IsReady, script_of}
use Rattle.pgn_threads.specs.Opened.{plan_for, scenario_of, seat_for}
use Rattle.pgn_threads.proofs.ListLemmas.{written-back, same-count}
use Rattle.pgn_threads.proofs.WholeLaws.{numbers-opened, sections-are}
use Rattle.pgn_threads.proofs.whole_run.run_opened.Goals as goal

pub run_sessions-requires-clause-ready : goal.run_sessions-requires-clause-ready
run_sessions-requires-clause-ready g c κs within =
    All-same (IsReady (g.H.Hub.is_pass c.in_ok-hub.hub) (g.H.Hub.shape c.in_ok-hub.hub) g.P.PassView.known) c.as_mut_slice.result.now c.in_ok-hub.sessions.items c.as_mut_slice.ensures.value c.in_ok-hub.ensures.ready

pub finish_run-requires-clause-over : goal.finish_run-requires-clause-over
finish_run-requires-clause-over g c =
    let new : List (Session g.row.P.Denot) = c.run_sessions.new.sessions in
    let count = same-count script_of new c.as_mut_slice.result.now c.run_sessions.ensures.scripts ∙ c.as_mut_slice.ensures.len in
    let back = written-back new (drop (length new) c.in_ok-hub.sessions.items) c.in_ok-hub.sessions.len (sym count) in
    All-same (IsOver (g.H.Hub.is_pass c.in_ok-hub.hub) (g.H.Hub.shape c.in_ok-hub.hub) g.P.PassView.known) _ new back c.in-Ok.ensures.over

pub finish_run-requires-clause-all : goal.finish_run-requires-clause-all
finish_run-requires-clause-all g c =
    let new : List (Session g.row.P.Denot) = c.run_sessions.new.sessions in
    let count = same-count script_of new c.as_mut_slice.result.now c.run_sessions.ensures.scripts ∙ c.as_mut_slice.ensures.len in
    let back = written-back new (drop (length new) c.in_ok-hub.sessions.items) c.in_ok-hub.sessions.len (sym count) in
    let scripts = c.run_sessions.ensures.scripts ∙ ap (λ (sessions : List (Session g.row.P.Denot)). map script_of sessions) c.as_mut_slice.ensures.value ∙ c.in_ok-hub.ensures.scripts in
    let seats = ap (λ (shape : Shape). shape.seats) c.in_ok-hub.ensures.shape in
    ap (λ (sessions : List (Session g.row.P.Denot)). map (λ (s : Session g.row.P.Denot). s.section.no) sessions) back
    ∙ numbers-opened (scenario_of c.args.sections c.args.flags.now) (plan_for (scenario_of c.args.sections c.args.flags.now)) c.args.opening.patience new c.requires.sound scripts
    ∙ ap (λ n. range_with_len 1 n) (sym (ap (λ (s : List SeatSetup). length s) seats ∙ length-map c.args.sections seat_for))

pub returns-clause-back : goal.returns-clause-back
returns-clause-back g c =
    let new : List (Session g.row.P.Denot) = c.run_sessions.new.sessions in
    let count = same-count script_of new c.as_mut_slice.result.now c.run_sessions.ensures.scripts ∙ c.as_mut_slice.ensures.len in
    let back = written-back new (drop (length new) c.in_ok-hub.sessions.items) c.in_ok-hub.sessions.len (sym count) in
    let scripts = c.run_sessions.ensures.scripts ∙ ap (λ (sessions : List (Session g.row.P.Denot)). map script_of sessions) c.as_mut_slice.ensures.value ∙ c.in_ok-hub.ensures.scripts in
    c.in_ok-run.ensures.sections ∙ ap (λ (sessions : List (Session g.row.P.Denot)). map (λ (s : Session g.row.P.Denot). s.section) sessions) back
    ∙ sym (sections-are (plan_for (scenario_of c.args.sections c.args.flags.now)) c.args.opening.patience c.args.sections new scripts)

pub returns-clause-legal : goal.returns-clause-legal
returns-clause-legal g c =
    let new : List (Session g.row.P.Denot) = c.run_sessions.new.sessions in
    let count = same-count script_of new c.as_mut_slice.result.now c.run_sessions.ensures.scripts ∙ c.as_mut_slice.ensures.len in
    let back = written-back new (drop (length new) c.in_ok-hub.sessions.items) c.in_ok-hub.sessions.len (sym count) in
    let scripts = c.run_sessions.ensures.scripts ∙ ap (λ (sessions : List (Session g.row.P.Denot)). map script_of sessions) c.as_mut_slice.ensures.value ∙ c.in_ok-hub.ensures.scripts in
    let ended = c.in_ok-run.ensures.ended in
    record {
      whole = ended.whole;
      are_bare = ended.are_bare;
      legal =
          ended.legal (scenario_of c.args.sections c.args.flags.now) c.args.opening.pages c.args.opening.patience c.args.opening.format
          (record { sound = c.requires.sound; opened = c.in_ok-hub.ensures.shape; scripts = ap (λ (sessions : List (Session g.row.P.Denot)). map script_of sessions) back ∙ scripts });
    }
