-- A writer that wakes listeners.
use Rattle.std.specs.Prelude.{◌≡◌, ℕ, ◌<◌, ◌≤◌, Bool, true, List, length, get_or, replicate}
use Rattle.pgn_lanes.specs.Behind.{mask_bit}
use Rattle.pgn_base.specs.Interest.{interest}
use Rattle.pgn_journal.specs.Interest.{channels_of}
use Rattle.pgn_journal.specs.Packing.{image}
use Rattle.pgn_hub.specs.Shape.{Shape}
use Rattle.pgn_words.specs.declared.view.View.{View}
use Rattle.pgn_words.specs.declared.view.Phase.TheVariants.{Signalling}
use Rattle.pgn_words.specs.declared.view.Verdict.{Verdict}
use Rattle.pgn_words.specs.declared.view.Verdict.TheVariants.{Unseen, Decided}
use Rattle.pgn_words.specs.Waking.{verdict_of, concerned_db}

-- it knows of each seat what it has found out
abbrev pub decided_as : List Verdict → View → View
decided_as verdicts v = record v { verdicts = verdicts }

-- it knows of each seat whether its transaction may concern the listener there
abbrev pub deemed_as : List Bool → View → View
deemed_as concerned v = record v { concerned = concerned }

-- it knows both
abbrev pub signalled_as : List Verdict → List Bool → View → View
signalled_as verdicts concerned v = record v { verdicts = verdicts; concerned = concerned }

-- each of the databases is the one by which the listener of its seat is to be tested
abbrev pub AreConcerned : View → List ℕ → Type 0
AreConcerned v owns = (i : ℕ) → i < length owns → get_or owns i 0 ≡ concerned_db v i

-- what the notifications of its transaction are on, a bit for each channel
abbrev pub IsSent : View → ℕ → Type 0
IsSent v sent = sent ≡ interest (channels_of v.pen.ending.notes)

-- a mask names the seats that need a wake, and the others need none
abbrev pub Names : List ℕ → List Verdict → Type 0
Names mask verdicts = (i : ℕ) → get_or verdicts i Decided ≡ verdict_of (mask_bit mask i)

-- the same of the seats from one on
abbrev pub NamesFrom : List ℕ → List Verdict → ℕ → Type 0
NamesFrom mask verdicts from = (i : ℕ) → from ≤ i → get_or verdicts i Decided ≡ verdict_of (mask_bit mask i)

-- it has looked at no seat yet, and loaded no interest
pub record IsWaiting (z : Shape) (v : View) : Type 0 where
  pub phase : v.phase ≡ Signalling
  pub all : v.verdicts ≡ replicate (length z.seats) Unseen
  pub may : v.concerned ≡ replicate (length z.seats) true

-- the place is the journal's end
abbrev pub IsAtHead : Shape → View → ℕ → Type 0
IsAtHead z v head = head ≡ length (image z.format v.known.seen)
