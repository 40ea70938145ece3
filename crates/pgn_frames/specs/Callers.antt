-- Where a reader stands with the clients of a seat, and what it has put of what they ask.
use Rattle.std.specs.Prelude.{◌≡◌, ◌⊎◌, ℕ, ◌+◌, ◌<◌, ◌≤◌, Bool, true, false, List, [], ◌∷◌, ◌++◌, length, map, drop, Option, Some, None, slice_range}
use Rattle.pgn_outlet.specs.declared.came.Came.{Came}
use Rattle.pgn_outlet.specs.declared.hand.Hand.{Hand}
use Rattle.pgn_outlet.specs.Passes.{knows}
use Rattle.pgn_queries.specs.declared.wire_fault.WireFault.TheVariants.{Truncated}
use Rattle.pgn_queries.specs.declared.coming.Coming.TheVariants.{Fault}
use Rattle.pgn_queries.specs.Client.{NextIs}
use Rattle.pgn_messages.specs.declared.asked.Ask.{Ask}
use Rattle.pgn_messages.specs.declared.asked.Ask.TheVariants.{End}
use Rattle.pgn_messages.specs.declared.asked.Parting.{Parting}
use Rattle.pgn_messages.specs.declared.asked.Parting.TheVariants.{Plain, Refused}
use Rattle.pgn_frames.specs.declared.caller.Caller.{Caller}
use Rattle.pgn_frames.specs.declared.message.Front.{Front}
use Rattle.pgn_frames.specs.declared.message.Front.TheVariants as front
use Rattle.pgn_frames.specs.Clients.{AreTooMany, AskIs, ClientAsks, Close, Open, Left, Cut, Wrong, QueryNext, SeatAsks, Tally, after_ask, first_tally, parting_of}

-- where a reader stands in the signs of a seat: what was counted, and which bytes of the next message have come. Where its client has
-- left, what comes up to the client's end is passed over, and what was counted is that before the next client
pub record Stand : Type 0 where
  pub tally : Tally
  pub begun : List ℕ
  pub left : Bool

-- before the first sign
abbrev pub first_stand : ℕ → Stand
first_stand most = record { tally = first_tally most; begun = []; left = false }

-- what signs ask of which those up to the first end are passed over, and the others are of clients that begin so
pub data AskBehind (next : Tally) : List (Option ℕ) → List Ask → Type 0 where
  Nothing : (bytes : List ℕ) (signs : List (Option ℕ)) → signs ≡ map Some bytes → AskBehind next signs []
  Others : (bytes : List ℕ) (signs others : List (Option ℕ)) (asks : List Ask) → signs ≡ map Some bytes ++ None ∷ others → SeatAsks next others asks → AskBehind next signs asks

abbrev pub AskFrom : Bool → Tally → List ℕ → List (Option ℕ) → List Ask → Type 0
AskFrom false tally begun signs asks = SeatAsks tally (map Some begun ++ signs) asks
AskFrom true tally begun signs asks = AskBehind tally signs asks

-- what further signs ask there
abbrev pub AskOn : Stand → List (Option ℕ) → List Ask → Type 0
AskOn stand signs asks = AskFrom stand.left stand.tally stand.begun signs asks

-- by these signs, which ask these, a reader came from one stand to another: whatever follows, and whatever that asks
abbrev pub HasCome : Stand → List (Option ℕ) → List Ask → Stand → Type 0
HasCome old signs asks new = (more : List (Option ℕ)) (others : List Ask) → AskOn new more others → AskOn old (signs ++ more) (asks ++ others)

-- no byte, or the bytes of a message that is not whole
abbrev pub IsUnfinished : List ℕ → Type 0
IsUnfinished bytes = (bytes ≡ []) ⊎ NextIs 0 (Fault (Truncated 0)) [] bytes []

-- a reader that has put all that is told so far
abbrev pub Waits : Stand → Type 0
Waits stand = stand.left ≡ false → IsUnfinished stand.begun

-- how bytes end is told by them: no byte behind them changes it
abbrev pub IsTold : Close → Type 0
IsTold Open = ⊥
IsTold Left = Unit {0}
IsTold Cut = ⊥
IsTold (Wrong parting) = Unit {0}

-- whatever follows these bytes, with what was counted they end their client, which parts so
pub record PartsBy (parting : Parting) (tally : Tally) (bytes : List ℕ) : Type 0 where
  pub some : 0 < length bytes
  pub close : Close
  pub told : IsTold close
  pub closes : (more : List ℕ) → ClientAsks tally (bytes ++ more) [] close
  pub how : parting_of close ≡ parting

-- a Query stands at the front of bytes, and this is where it ends
pub record QueryTo (bytes : List ℕ) (end : ℕ) : Type 0 where
  pub next : QueryNext bytes (slice_range bytes 5 end) (drop end bytes)
  pub some : 5 < end
  pub short : end ≤ 65542
  pub within : end ≤ length bytes

-- what stands at the front of bytes
abbrev pub HasFront : Front → List ℕ → Type 0
HasFront front.Unfinished bytes = IsUnfinished bytes
HasFront (front.Query end) bytes = QueryTo bytes end
HasFront (front.Parts parting) bytes = (tally : Tally) → PartsBy parting tally bytes

-- how a client parts that ends behind these bytes of a message
abbrev pub parting_behind : List ℕ → Parting
parting_behind [] = Plain
parting_behind (byte ∷ bytes) = Refused

-- what was counted before the next client, behind the two lines that set the seat back
abbrev pub behind_end : Tally → Tally
behind_end tally = record tally { lines = tally.lines + 2 }

-- where a caller stands
abbrev pub stand_of : Caller → Stand
stand_of caller = record { tally = caller.counts; begun = caller.begun.items; left = caller.left }

-- where it stands, where these are the bytes of its next message
abbrev pub holding : Caller → List ℕ → Stand
holding caller bytes = record { tally = caller.counts; begun = bytes; left = caller.left }

-- this, for a seat, as its inbox carries it
abbrev pub carried : ℕ → List (Option Ask) → List (Came (Option Ask))
carried seat whats = map (λ what. record { session = seat; what = what }) whats

-- a pass that has put this for a seat besides, and nothing else
abbrev pub with_put : ℕ → Hand (Option Ask) → List (Option Ask) → Hand (Option Ask)
with_put seat v whats = record v { sent = v.sent ++ carried seat whats }

-- the end of a seat's client was put, with the number of the first of the two lines that set the seat back, and the next client begins behind them
pub record HasEnded (seat : ℕ) (old new : Caller) (parting : Parting) : Type 0 where
  pub put : knows new.asks ≡ with_put seat (knows old.asks) (Some (End (old.counts.lines + 1) parting) ∷ [])
  pub next : new.counts ≡ behind_end old.counts

-- what a Query with this body asks was put, and counted: there are not too many lines with it
pub record HasAsked (seat : ℕ) (old new : Caller) (body : List ℕ) : Type 0 where
  pub ask : Ask
  pub is : AskIs (old.counts.lines + 1) body ask
  pub put : knows new.asks ≡ with_put seat (knows old.asks) (Some ask ∷ [])
  pub next : new.counts ≡ after_ask old.counts ask
  pub few : AreTooMany (after_ask old.counts ask) → ⊥

-- with what it asks there are too many: nothing was put
pub record IsSpent (old new : Caller) (body : List ℕ) : Type 0 where
  pub ask : Ask
  pub is : AskIs (old.counts.lines + 1) body ask
  pub many : AreTooMany (after_ask old.counts ask)
  pub same : knows new.asks ≡ knows old.asks
  pub next : new.counts ≡ old.counts

-- the one or the other
abbrev pub Answers : Bool → ℕ → Caller → Caller → List ℕ → Type 0
Answers true seat old new body = HasAsked seat old new body
Answers false seat old new body = IsSpent old new body

-- these signs of a seat were taken: what they ask was put, and nothing else
pub record Takes (seat : ℕ) (old new : Caller) (signs : List (Option ℕ)) : Type 0 where
  pub asks : List Ask
  pub put : knows new.asks ≡ with_put seat (knows old.asks) (map Some asks)
  pub come : HasCome (stand_of old) signs asks (stand_of new)
  pub waits : Waits (stand_of new)

-- until memory did not suffice: the first of what these signs ask were put
pub record TakesFirst (seat : ℕ) (old new : Caller) (signs : List (Option ℕ)) : Type 0 where
  pub asks : List Ask
  pub put : knows new.asks ≡ with_put seat (knows old.asks) (map Some asks)
  pub others : List Ask
  pub asked : AskOn (stand_of old) signs (asks ++ others)

-- of these bytes of a client so many were taken: what they ask was put, and nothing else
pub record TakesBytes (seat : ℕ) (old new : Caller) (bytes : List ℕ) (n : ℕ) : Type 0 where
  pub asks : List Ask
  pub put : knows new.asks ≡ with_put seat (knows old.asks) (map Some asks)
  pub come : HasCome (holding old bytes) [] asks (holding new (drop n bytes))

-- the first of what these bytes ask were put
pub record TakesFirstBytes (seat : ℕ) (old new : Caller) (bytes : List ℕ) : Type 0 where
  pub asks : List Ask
  pub put : knows new.asks ≡ with_put seat (knows old.asks) (map Some asks)
  pub others : List Ask
  pub asked : AskOn (holding old bytes) [] (asks ++ others)
