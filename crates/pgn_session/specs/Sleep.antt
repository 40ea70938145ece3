-- What a sleep on a flag counts: so many looks as microseconds, with the look behind it.
use Rattle.std.specs.Prelude.{ℕ, ◌+◌, ◌-◌, ◌<◌, min, cond, nat_lt}
use Rattle.pgn_session.specs.declared.doing.FlagPlan.{FlagPlan}
use Rattle.pgn_session.specs.declared.doing.Doing.{Doing}
use Rattle.pgn_session.specs.declared.doing.Doing.TheVariants as doing

-- how many looks have given nothing, made or slept over, after a sleep of so many microseconds: one less than these, since the next look
-- is made; and it leaves a look of the patience
abbrev pub slept_looks : ℕ → ℕ → ℕ → ℕ
slept_looks patience looks micros = looks + min (micros - 1) (patience - 1 - looks)

-- where a session stands after it: it counts where the session waits, and nowhere else
abbrev pub slept_doing : ℕ → ℕ → Doing → Doing
slept_doing patience micros doing.Lines = doing.Lines
slept_doing patience micros (doing.Committing actions notes tag) = doing.Committing actions notes tag
slept_doing patience micros (doing.Awaiting flag looks) = doing.Awaiting flag (slept_looks patience looks micros)
slept_doing patience micros (doing.Ending first looks) = doing.Ending first (slept_looks patience looks micros)
slept_doing patience micros doing.Over = doing.Over

-- for how long it sleeps, of so many microseconds: where it waits for a flag, not longer than looks of its patience are left; elsewhere it
-- does not sleep
abbrev pub slept_for : FlagPlan → ℕ → ℕ → Doing → ℕ
slept_for plan patience micros doing.Lines = 0
slept_for plan patience micros (doing.Committing actions notes tag) = 0
slept_for plan patience micros (doing.Awaiting flag looks) = min micros (patience - looks)
slept_for plan patience micros (doing.Ending first looks) = cond (nat_lt first plan.sessions) (min micros (patience - looks)) 0
slept_for plan patience micros doing.Over = 0

-- the flag that a session standing so awaits is below this number
abbrev pub IsAwaitedBelow : ℕ → Doing → Type 0
IsAwaitedBelow flags doing.Lines = Unit {0}
IsAwaitedBelow flags (doing.Committing actions notes tag) = Unit {0}
IsAwaitedBelow flags (doing.Awaiting flag looks) = flag < flags
IsAwaitedBelow flags (doing.Ending first looks) = Unit {0}
IsAwaitedBelow flags doing.Over = Unit {0}
