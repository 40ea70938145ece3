use borrow.Author.Rules.{scaled_Fits}
use Rattle.std.proofs.Common.{refl, ap, ◌∙◌, arith, ◌<◌, length, rules}
use Rattle.std.proofs.lemmas.List.Elements.{All-nil}
use Rattle.pgn_session.specs.declared.session.Session.{Session}
use Rattle.pgn_session.specs.Runs.{HasGivenUp, IsHeld, script_of, shown_of}
use Rattle.pgn_session.proofs.TogetherLaws.{front-more, front-all, back-here, back-more, set-same}
use Rattle.pgn_session.proofs.together.give_up_all.Goals as goal

pub give_up-requires-clause-own : goal.give_up-requires-clause-own
give_up-requires-clause-own g c =
    (back-here (IsHeld (g.H.Hub.is_pass c.args.hub.now) (g.H.Hub.shape c.args.hub.now)) c.loop-session.sessions c.loop-session.session-index c.session-item.result (omega arith) c.loop-session.invariant.held).own

pub give_up-requires-clause-served : goal.give_up-requires-clause-served
give_up-requires-clause-served g c =
    (back-here (IsHeld (g.H.Hub.is_pass c.args.hub.now) (g.H.Hub.shape c.args.hub.now)) c.loop-session.sessions c.loop-session.session-index c.session-item.result (omega arith) c.loop-session.invariant.held).served

pub loop-session-preserved : goal.loop-session-preserved
loop-session-preserved g c =
    let was = c.loop-session.sessions in
    let i = c.loop-session.session-index in
    let d = c.session-item.result in
    let x = c.give_up.new.self in
    record {
      gave_up = front-more (HasGivenUp g.P.PassView.known) was i x c.give_up.ensures.gave_up c.loop-session.invariant.gave_up;
      held = back-more (IsHeld (g.H.Hub.is_pass c.args.hub.now) (g.H.Hub.shape c.args.hub.now)) was i x c.loop-session.invariant.held;
      scripts = set-same (λ (s : Session g.row.P.Denot). script_of s) was i d x (ap (λ (s : Session g.row.P.Denot). script_of s) c.give_up.ensures.same) ∙ c.loop-session.invariant.scripts;
      shown = set-same (λ (s : Session g.row.P.Denot). shown_of s) was i d x (ap (λ (s : Session g.row.P.Denot). shown_of s) c.give_up.ensures.same) ∙ c.loop-session.invariant.shown;
    }

pub returns-clause-gave_up : goal.returns-clause-gave_up
returns-clause-gave_up g c = front-all (HasGivenUp g.P.PassView.known) c.loop-session.sessions c.loop-session.session-index (omega arith) c.loop-session.invariant.gave_up

pub loop-session-init : goal.loop-session-init
loop-session-init g c = record { gave_up = All-nil (HasGivenUp g.P.PassView.known); held = c.requires.held; scripts = refl; shown = refl }

pub returns-clause-scripts : goal.returns-clause-scripts
returns-clause-scripts g c = c.loop-session.invariant.scripts

pub returns-clause-shown : goal.returns-clause-shown
returns-clause-shown g c = c.loop-session.invariant.shown

pub offset_bounds-sessions-session-index : goal.offset_bounds-sessions-session-index
offset_bounds-sessions-session-index g c =
    let place : c.loop-session.session-index < length c.loop-session.sessions = omega arith in scaled_Fits c.loop-session.session-index (length c.loop-session.sessions) _ place (search rules)
