-- The numbers of what a seat is asked go on.
use Rattle.std.proofs.Common.{◌≡◌, ℕ, ◌+◌, List, ◌∷◌, ◌++◌, length, sym, subst, refl, arith}
use Rattle.pgn_requests.specs.declared.request.Request.{Request}
use Rattle.pgn_requests.specs.declared.request.Request.TheVariants.{Line, Settles, Discards}
use Rattle.pgn_messages.specs.declared.asked.Ask.{Ask}
use Rattle.pgn_messages.specs.declared.asked.Ask.TheVariants as ask
use Rattle.pgn_messages.specs.Asks.{GoOnFrom, lines_for}
use Rattle.pgn_frames.specs.Clients as clients
use Rattle.pgn_frames.specs.Clients.{AskIs, Close, Open, Left, Cut, Wrong, ClientAsks, Tally, after_ask, asked_as, last_end, next_client, next_line, parting_of}
use Rattle.pgn_frames.specs.Laws.{NumbersGoOn}

-- the same, by another number
moved : (n m : ℕ) (asks : List Ask) → n ≡ m → GoOnFrom n asks → GoOnFrom m asks
moved n m asks e h = subst (λ (k : ℕ). GoOnFrom k asks) e h

-- what is asked has its number
one_request : (number : ℕ) (request : Request) (asks : List Ask) → GoOnFrom (number + length (lines_for (asked_as number request))) asks → GoOnFrom number (asked_as number request ∷ asks)
one_request number (Line text command wording) asks h = (refl, h)
one_request number (Settles settled) asks h = moved (number + length (lines_for (ask.Settle settled))) number asks (omega arith) h
one_request number Discards asks h = (refl, h)

one_ask : (number : ℕ) (body : List ℕ) (asked : Ask) (asks : List Ask) → AskIs number body asked → GoOnFrom (number + length (lines_for asked)) asks → GoOnFrom number (asked ∷ asks)
one_ask number body asked asks is h =
    subst (λ (a : Ask). GoOnFrom number (a ∷ asks)) (sym is.2) (one_request number is.0 asks (subst (λ (a : Ask). GoOnFrom (number + length (lines_for a)) asks) is.2 h))

-- behind what a client asks others go on
client-goes_on : (tally : Tally) (bytes : List ℕ) (asks : List Ask) (close : Close) (more : List Ask) → ClientAsks tally bytes asks close → GoOnFrom (next_line tally asks) more → GoOnFrom (tally.lines + 1) (asks ++ more)
client-goes_on tally bytes _ _ more (clients.ClientAsks.Stops _ _ e) h = h
client-goes_on tally bytes _ _ more (clients.ClientAsks.Leaves _ _ m r e is) h = h
client-goes_on tally bytes _ _ more (clients.ClientAsks.Cuts _ _ t r n) h = h
client-goes_on tally bytes _ _ more (clients.ClientAsks.NoType _ _ t r n other) h = h
client-goes_on tally bytes _ _ more (clients.ClientAsks.Extends _ _ e) h = h
client-goes_on tally bytes _ _ more (clients.ClientAsks.NoLength _ _ t r n) h = h
client-goes_on tally bytes _ _ more (clients.ClientAsks.Exceeds _ _ body rest asked q is many) h = h
client-goes_on tally bytes _ _ more (clients.ClientAsks.Goes _ _ body rest asked asks close q is few others) h =
    one_ask (tally.lines + 1) body asked (asks ++ more) is
    (moved ((after_ask tally asked).lines + 1) (tally.lines + 1 + length (lines_for asked)) (asks ++ more) (omega arith) (client-goes_on (after_ask tally asked) rest asks close more others h))

-- the end of the last client
last-goes_on : (number : ℕ) (close : Close) → GoOnFrom number (last_end number close)
last-goes_on number Open = tt
last-goes_on number Left = (refl, tt)
last-goes_on number Cut = tt
last-goes_on number (Wrong parting) = (refl, tt)

-- what is asked is numbered line after line, over all clients
pub numbers_go_on : NumbersGoOn
numbers_go_on tally signs _ (clients.SeatAsks.Last _ _ xs asks c e k) = client-goes_on tally xs asks c (last_end (next_line tally asks) c) k (last-goes_on (next_line tally asks) c)
numbers_go_on tally signs _ (clients.SeatAsks.Next _ _ xs asks c rest others e k n) =
    client-goes_on tally xs asks c (ask.End (next_line tally asks) (parting_of c) ∷ others) k
    (refl, moved ((next_client tally asks).lines + 1) (next_line tally asks + 2) others (omega arith) (numbers_go_on (next_client tally asks) rest others n))
