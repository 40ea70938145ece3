use Rattle.std.proofs.Common.{rules, ℕ, List, length, map, ap, sym, ◌∙◌}
use Rattle.std.proofs.lemmas.List.Elements.{All-same}
use Rattle.pgn_hub.specs.Shape.{Shape}
use Rattle.pgn_language.specs.declared.scenario.Section.{Section}
use Rattle.pgn_session.specs.declared.doing.FlagPlan.{FlagPlan}
use Rattle.pgn_session.specs.Standing.{IsServedBy}
use Rattle.pgn_threads.specs.Opened.{IsFit, opened_for, scenario_of, script_for}
use Rattle.pgn_threads.proofs.OpenLaws.{passes-opened, all-fit, all-served}
use Rattle.pgn_threads.proofs.WholeLaws.{all-ready}
use Rattle.pgn_threads.proofs.whole_run.open_with.Goals as goal

pub open_sessions-requires-clause-opened : goal.open_sessions-requires-clause-opened
open_sessions-requires-clause-opened g c =
    passes-opened g.H.Pass.PassView.known c.in_ok-hub.passes.items c.new-setup.result.seats c.in_ok-seats.seats.items c.as_slice-scripts.result.now c.args.sections
    c.in_ok-hub.ensures.passes (ap (λ (shape : Shape). shape.seats) c.new-setup.ensures) c.in_ok-seats.ensures c.as_slice-scripts.ensures c.requires.sound.numbered
    ∙ ap (λ (ss : List Section). map opened_for ss) (c.as_slice-scripts.ensures ∙ sym c.into_items.ensures)

pub open_sessions-requires-clause-fit : goal.open_sessions-requires-clause-fit
open_sessions-requires-clause-fit g c = All-same IsFit c.into_items.result.items c.args.sections c.into_items.ensures (all-fit (scenario_of c.args.sections c.args.flags.now) c.requires.sound)

pub returns-clause-ready : goal.returns-clause-ready
returns-clause-ready g c =
    let plan : FlagPlan = record { first_end = length c.as_slice.result.now; sessions = length c.as_slice-scripts.result.now } in
    let shape = g.H.Hub.shape c.in_ok-hub.hub in
    let same = c.in_ok-hub.ensures.shape ∙ c.new-setup.ensures in
    let served = all-served shape plan (scenario_of c.args.sections c.args.flags.now) (ap (λ names. length names) c.as_slice.ensures) (ap (λ sections. length sections) c.as_slice-scripts.ensures) (search rules) c.requires.sound in
    all-ready (g.H.Hub.is_pass c.in_ok-hub.hub) shape g.H.Pass.PassView.known c.into_items.result.items plan c.args.opening.patience c.in_ok-sessions.sessions.items c.in_ok-hub.passes.items
    c.in_ok-sessions.ensures.passes c.in_ok-hub.ensures.own c.in_ok-sessions.ensures.scripts
    (All-same (λ (section : Section). IsServedBy shape section plan) c.into_items.result.items c.args.sections c.into_items.ensures served)
    (c.in_ok-sessions.ensures.rested shape)

pub returns-clause-scripts : goal.returns-clause-scripts
returns-clause-scripts g c =
    c.in_ok-sessions.ensures.scripts
    ∙ ap (λ (n : ℕ). let p : FlagPlan = record { first_end = n; sessions = length c.as_slice-scripts.result.now } in map (script_for p c.args.opening.patience) c.into_items.result.items) (ap (λ names. length names) c.as_slice.ensures)
    ∙ ap (λ (n : ℕ). let p : FlagPlan = record { first_end = length c.args.flags.now; sessions = n } in map (script_for p c.args.opening.patience) c.into_items.result.items) (ap (λ sections. length sections) c.as_slice-scripts.ensures)
    ∙ ap (λ (ss : List Section). let p : FlagPlan = record { first_end = length c.args.flags.now; sessions = length c.args.sections } in map (script_for p c.args.opening.patience) ss) c.into_items.ensures
