-- A pass that tries to take the lock again and again.
use Rattle.std.proofs.Common.{◌≡◌, subst}
use Rattle.pgn_words.specs.declared.view.View.{View}
use Rattle.pgn_words.specs.Told.{HasLocked}

-- it has tried in vain: of it nothing has changed but who had the lock
abbrev pub IsTrying : View → View → Type 0
IsTrying v w = w ≡ record v { held_by = w.held_by }

-- the lock is then taken as if it had not tried before
pub locked_at_last : (v w x : View) → IsTrying v w → HasLocked w x → HasLocked v x
locked_at_last v w x tried h =
    let again : View = record v { held_by = w.held_by } in
    let g : HasLocked again x = subst (λ (y : View). HasLocked y x) tried h in record { more = g.more; view = g.view; finished = g.finished; few = g.few }
