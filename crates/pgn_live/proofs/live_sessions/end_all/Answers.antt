use Rattle.std.proofs.Common.{Result, Ok, refl, sym, subst}
use Rattle.std.specs.declared.alloc.AllocError.{AllocError}
use Rattle.pgn_live.specs.Turns.{HaveEnded}
use Rattle.pgn_live.proofs.live_sessions.end_all.Goals as goal

pub returns-then-have_told : goal.returns-then-have_told
returns-then-have_told g c =
    let sessions = c.args.sessions.now in
    subst (λ (rounds : Result Unit AllocError). HaveEnded g.P.PassView.known sessions sessions c.args.told.now rounds (Ok tt)) (sym c.in-Ok.is)
    (record { kept = refl; whole = c.have_told.ensures c.if-have_told.true; gave_up = tt; refused = tt; scripts = refl; shown = refl })
