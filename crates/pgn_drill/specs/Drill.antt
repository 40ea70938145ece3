-- The scenario of a drill: so many sessions of one database, which wait until all of them listen and then send so many notifications
-- each, whose payloads are drawn from a seed.
use Rattle.std.specs.Prelude.{◌≡◌, ℕ, ◌+◌, ◌*◌, ◌-◌, ◌/◌, ◌%◌, ◌==◌, cond, zero, suc, List, [], ◌∷◌, ◌++◌, codes, decimal}
use Rattle.pgn_model.specs.Text.{joined}

-- the lines of 1, of 2 and so on, up to those of n
unfoldable pub up_to : (ℕ → List (List ℕ)) → ℕ → List (List ℕ)
up_to lines zero = []
up_to lines (suc n) = up_to lines n ++ lines (suc n)

-- the next state
abbrev pub next_state : ℕ → ℕ
next_state state = (state * 6364136223846793005 + 1442695040888963407) % 18446744073709551616

-- the state after n draws
unfoldable pub state_after : ℕ → ℕ → ℕ
state_after seed zero = seed
state_after seed (suc n) = next_state (state_after seed n)

-- the number that the n-th draw gives
abbrev pub draw : ℕ → ℕ → ℕ
draw seed n = state_after seed n / 8589934592

-- the line that sends the number r as the payload on the channel numbered j
abbrev pub notify_line : ℕ → ℕ → List ℕ
notify_line j r = codes "NOTIFY c" ++ decimal j ++ codes ", '" ++ decimal r ++ codes "'"

-- r is sent in a block from which another notification was rolled back
abbrev pub block_lines : ℕ → ℕ → List (List ℕ)
block_lines j r = codes "BEGIN" ∷ codes "SAVEPOINT s" ∷ codes "NOTIFY gone" ∷ codes "ROLLBACK TO s" ∷ notify_line j r ∷ codes "COMMIT" ∷ []

-- how r is sent on the channel numbered j: on one line where r is even, else in such a block
abbrev pub note_lines : ℕ → ℕ → List (List ℕ)
note_lines j r = cond (r % 2 == 0) (notify_line j r ∷ []) (block_lines j r)

-- the line that waits for the session numbered i
abbrev pub await_line : ℕ → List (List ℕ)
await_line i = (codes "\\await up" ++ decimal i) ∷ []

-- how the session numbered i, of so many, begins: it listens, and waits in a block until all of them do
abbrev pub opening_lines : ℕ → ℕ → List (List ℕ)
opening_lines sessions i =
    (codes "\\session d" ++ decimal i ++ codes " 1") ∷ (codes "LISTEN c" ++ decimal (i % 4)) ∷ codes "BEGIN" ∷ (codes "\\signal up" ++ decimal i) ∷ []
    ++ up_to await_line sessions ++ codes "COMMIT" ∷ []

-- the notification numbered k of a session before which so many numbers were drawn
abbrev pub sent_lines : ℕ → ℕ → ℕ → List (List ℕ)
sent_lines seed drawn k = note_lines (k % 4) (draw seed (drawn + k))

-- the session numbered i: the sessions before it have drawn a number for each of their notifications
abbrev pub session_lines : ℕ → ℕ → ℕ → ℕ → List (List ℕ)
session_lines seed sessions notes i = opening_lines sessions i ++ up_to (sent_lines seed ((i - 1) * notes)) notes

-- the text of the scenario
abbrev pub drill : ℕ → ℕ → ℕ → List ℕ
drill seed sessions notes = joined (up_to (session_lines seed sessions notes) sessions)

-- lines were put at the end of a text
pub record AddsLines (old new : List ℕ) (lines : List (List ℕ)) : Type 0 where
  pub bytes : new ≡ old ++ joined lines
