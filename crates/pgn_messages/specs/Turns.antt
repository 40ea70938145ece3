-- A session's trace in turns, and what the clients of its seat are told of them.
use Rattle.std.specs.Prelude.{◌≡◌, ℕ, ◌+◌, false, List, [], ◌∷◌, ◌++◌, Option, Some, None, All, codes, flat_map, fold, map}
use Rattle.std.specs.List.{list_any}
use Rattle.pgn_base.specs.declared.command.Command.{Command}
use Rattle.pgn_base.specs.declared.command.Command.TheVariants.{Bad, Rollback, UnlistenAll}
use Rattle.pgn_answers.specs.declared.block_state.BlockState.{BlockState}
use Rattle.pgn_language.specs.declared.scenario.Act.TheVariants.{Run}
use Rattle.pgn_language.specs.declared.scenario.ScriptLine.{ScriptLine}
use Rattle.pgn_model.specs.declared.item.Item.{Item}
use Rattle.pgn_model.specs.declared.item.Item.TheVariants.{Line, Read}
use Rattle.pgn_model.specs.Walk.{State, start, after_item, at_act}
use Rattle.pgn_messages.specs.Server.{fatal, notification}
use Rattle.pgn_messages.specs.Laws.{begins_line}
use Rattle.pgn_messages.specs.declared.asked.Asked.{Asked}
use Rattle.pgn_messages.specs.declared.asked.Ask.{Ask}
use Rattle.pgn_messages.specs.declared.asked.Ask.TheVariants.{Query, Settle, Discard, End}
use Rattle.pgn_messages.specs.declared.asked.Parting.{Parting}
use Rattle.pgn_messages.specs.declared.asked.Parting.TheVariants.{Plain, Refused, Extended, Spent}
use Rattle.pgn_requests.specs.declared.settled.Settled.{Settled}
use Rattle.pgn_requests.specs.Settings.{Kept, fresh, kept_after}
use Rattle.pgn_messages.specs.Asks.{lines_for}
use Rattle.pgn_messages.specs.Served.{discard_answer, discarded, settled_answer, told_answer}

-- a piece of a session's trace, as the clients of its seat are told of it
pub data Turn : Type 0 where
  -- a query is answered: these are the items of its line, behind the line itself
  Answers : (query : Asked) → (more : List Item) → Turn
  -- the session reads between two lines
  Hears : (reads : List Item) → Turn
  -- a client leaves, and the seat is set back: these are the items of the two lines for it, behind each line itself
  Leaves : (parting : Parting) → (line : ℕ) → (rolled : List Item) → (unlistened : List Item) → Turn
  -- what a client asks is settled without the session
  Settles : (settled : Settled) → Turn
  -- `DISCARD ALL`: these are the items of its two lines, behind each line itself
  Discards : (line : ℕ) → (refused : List Item) → (unlistened : List Item) → Turn

-- what was asked for a turn
abbrev pub asked_in : Turn → List Ask
asked_in (Answers query more) = Query query ∷ []
asked_in (Hears reads) = []
asked_in (Leaves parting line rolled unlistened) = End line parting ∷ []
asked_in (Settles settled) = Settle settled ∷ []
asked_in (Discards line refused unlistened) = Discard line ∷ []

-- the items of a turn
abbrev pub items_in : Turn → List Item
items_in (Answers query more) = Line query.line ∷ more
items_in (Hears reads) = reads
items_in (Leaves parting line rolled unlistened) = Line line ∷ rolled ++ Line (line + 1) ∷ unlistened
items_in (Settles settled) = []
items_in (Discards line refused unlistened) = Line line ∷ refused ++ Line (line + 1) ∷ unlistened

-- what was asked for turns, the lines of a script that it makes, and the items of them all
abbrev pub asks_of : List Turn → List Ask
asks_of turns = flat_map asked_in turns

abbrev pub lines_of : List Turn → List ScriptLine
lines_of turns = flat_map lines_for (asks_of turns)

abbrev pub items_of : List Turn → List Item
items_of turns = flat_map items_in turns

-- the item is a read
abbrev pub IsRead : Item → Type 0
IsRead (Read from to got) = Unit {0}
IsRead item = ⊥

-- no other line begins behind a turn's own, and between two lines nothing is heard but reads
abbrev pub IsPlain : Turn → Type 0
IsPlain (Answers query more) = list_any begins_line more ≡ false
IsPlain (Hears reads) = All IsRead reads
IsPlain (Leaves parting line rolled unlistened) = (list_any begins_line rolled ≡ false) × (list_any begins_line unlistened ≡ false)
IsPlain (Settles settled) = Unit {0}
IsPlain (Discards line refused unlistened) = (list_any begins_line refused ≡ false) × (list_any begins_line unlistened ≡ false)

-- before the first turn of a seat, where no line is to come
abbrev pub idle_state : State
idle_state = start (record { no = 1; name = []; db = 1; lines = []; note_lines = 0 })

-- the state after a line with this command and these items behind it
abbrev pub after_line : State → Command → List Item → State
after_line s command more = fold after_item (at_act s (Run command)) more

-- the state after a turn
abbrev pub after_turn : State → Turn → State
after_turn s (Answers query more) = after_line s query.command more
after_turn s (Hears reads) = fold after_item s reads
after_turn s (Leaves parting line rolled unlistened) = after_line (after_line s Rollback rolled) UnlistenAll unlistened
after_turn s (Settles settled) = s
after_turn s (Discards line refused unlistened) = after_line (after_line s (Bad 0) refused) UnlistenAll unlistened

-- the state after all turns of a seat
abbrev pub after_turns : List Turn → State
after_turns turns = fold after_turn idle_state turns

-- what is heard of an item: the notifications of a read
abbrev pub heard : Item → List ℕ
heard (Read from to got) = flat_map notification got
heard item = []

-- what a client is told of its end: nothing, where it left; else why the server ends the conversation
abbrev pub farewell : Parting → List ℕ
farewell Plain = []
farewell Refused = fatal (codes "08P01") (codes "bad message")
farewell Extended = fatal (codes "0A000") (codes "the extended protocol is not supported")
farewell Spent = fatal (codes "53400") (codes "too many notifications")

-- where a teller stands: the state of the walk, and the settings of the client
pub record Telling : Type 0 where
  pub walk : State
  pub kept : Kept

-- before the first turn of a seat
abbrev pub first_telling : Telling
first_telling = record { walk = idle_state; kept = fresh }

-- the settings after a turn that begins in a state of the block: those of the next client are fresh
abbrev pub kept_in : BlockState → Kept → Turn → Kept
kept_in state kept (Answers query more) = kept
kept_in state kept (Hears reads) = kept
kept_in state kept (Leaves parting line rolled unlistened) = fresh
kept_in state kept (Settles settled) = kept_after state settled kept
kept_in state kept (Discards line refused unlistened) = discarded state kept

-- where a teller stands after a turn
abbrev pub telling_after : Telling → Turn → Telling
telling_after t turn = record { walk = after_turn t.walk turn; kept = kept_in t.walk.block t.kept turn }

-- and after all turns of a seat
abbrev pub telling_of : List Turn → Telling
telling_of turns = fold telling_after first_telling turns

-- the bytes that the clients of a seat with this number are told of a turn. Nobody is told of the lines that set a seat back
abbrev pub said_in : ℕ → Telling → Turn → List ℕ
said_in seat t (Answers query more) = told_answer query more (after_line t.walk query.command more).block
said_in seat t (Hears reads) = flat_map heard reads
said_in seat t (Leaves parting line rolled unlistened) = farewell parting
said_in seat t (Settles settled) = settled_answer seat settled t.kept t.walk.block
said_in seat t (Discards line refused unlistened) = discard_answer t.walk.block t.kept (flat_map heard refused ++ flat_map heard unlistened)

-- the end of a client, where a turn is one
abbrev pub ends_in : Turn → List (Option ℕ)
ends_in (Leaves parting line rolled unlistened) = None ∷ []
ends_in turn = []

-- the same sign by sign. A sign is a byte, or the end of a client
abbrev pub signs_in : ℕ → Telling → Turn → List (Option ℕ)
signs_in seat t turn = map Some (said_in seat t turn) ++ ends_in turn

-- the signs of turns that begin where a teller stands
abbrev pub signs_said : ℕ → Telling → List Turn → List (Option ℕ)
signs_said seat t [] = []
signs_said seat t (turn ∷ turns) = signs_in seat t turn ++ signs_said seat (telling_after t turn) turns

-- what the clients of a seat are told, from the first turn on
abbrev pub said : ℕ → List Turn → List (Option ℕ)
said seat turns = signs_said seat first_telling turns

-- these signs may be told of a session whose seat was asked this so far, and whose trace begins by these items
pub record MayBeTold (seat : ℕ) (asks : List Ask) (items : List Item) (signs : List (Option ℕ)) : Type 0 where
  pub turns : List Turn
  pub plain : All IsPlain turns
  pub asked : asks_of turns ≡ asks
  pub trace : items_of turns ≡ items
  pub told : said seat turns ≡ signs
