use Rattle.std.proofs.Common.{take, All}
use Rattle.pgn_live.specs.Turns.{IsWhollyToldBy}
use Rattle.pgn_live.proofs.live_sessions.have_told.Given as goal

abbrev pub invariant-loop-session : goal.invariant-loop-session
invariant-loop-session g l = All (IsWhollyToldBy l.told) (take l.session-index l.sessions)
