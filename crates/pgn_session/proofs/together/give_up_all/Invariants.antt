use Rattle.std.proofs.Common.{◌≡◌, map, take, drop, All}
use Rattle.pgn_session.specs.Runs.{HasGivenUp, IsHeld, script_of, shown_of}
use Rattle.pgn_session.proofs.together.give_up_all.Given as goal

abbrev pub invariant-loop-session : goal.invariant-loop-session
invariant-loop-session g l = record {
  gave_up : All (HasGivenUp g.P.PassView.known) (take l.session-index l.sessions);
  held : All (IsHeld (g.H.Hub.is_pass l.hub) (g.H.Hub.shape l.hub)) (drop l.session-index l.sessions);
  scripts : map script_of l.sessions ≡ map script_of l.fn.sessions;
  shown : map shown_of l.sessions ≡ map shown_of l.fn.sessions;
}
