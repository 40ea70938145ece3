-- How turns grow, and what they make of a trace.
use Rattle.std.specs.Prelude.{◌≡◌, ℕ, ◌+◌, ◌≤◌, Bool, true, false, List, [], ◌∷◌, ◌++◌, length, Option, Some, None, All, flat_map, map}
use Rattle.std.specs.List.{list_any}
use Rattle.pgn_base.specs.declared.command.Command.{Command}
use Rattle.pgn_base.specs.declared.command.Command.TheVariants.{PgNotify}
use Rattle.pgn_answers.specs.declared.block_state.BlockState.{BlockState}
use Rattle.pgn_answers.specs.declared.block_state.BlockState.TheVariants.{Idle}
use Rattle.pgn_language.specs.declared.scenario.ScriptLine.{ScriptLine}
use Rattle.pgn_language.specs.declared.scenario.Section.{Section}
use Rattle.pgn_language.specs.Inputs.{Rise, QuitsLast}
use Rattle.pgn_model.specs.declared.item.Item.{Item}
use Rattle.pgn_model.specs.declared.item.Item.TheVariants.{Line, Used}
use Rattle.pgn_messages.specs.Messages.{messages}
use Rattle.pgn_messages.specs.Laws.{after, begins_line}
use Rattle.pgn_requests.specs.declared.complaint.Wording.TheVariants as wording
use Rattle.pgn_requests.specs.declared.settled.Settled.{Settled}
use Rattle.pgn_requests.specs.Settings.{Kept, fresh}
use Rattle.pgn_messages.specs.declared.asked.Asked.{Asked}
use Rattle.pgn_messages.specs.declared.asked.Ask.{Ask}
use Rattle.pgn_messages.specs.declared.asked.Ask.TheVariants.{Query, Settle, Discard, End}
use Rattle.pgn_messages.specs.declared.asked.Parting.{Parting}
use Rattle.pgn_messages.specs.Asks.{GoOnFrom, lines_for, script_of}
use Rattle.pgn_messages.specs.Served.{cut_notices, discard_answer, settled_answer, told_answer}
use Rattle.pgn_messages.specs.Turns.{Turn, Answers, Hears, Leaves, Settles, Discards, IsPlain, IsRead, MayBeTold, after_line, after_turn, after_turns, asked_in, asks_of, farewell, heard, idle_state, items_in, items_of, lines_of, said, signs_in, signs_said, telling_after, telling_of}

-- what a turn more adds, at the seat with this number
pub record HasTurnMore (seat : ℕ) (turns : List Turn) (turn : Turn) : Type 0 where
  pub signs : said seat (turns ++ turn ∷ []) ≡ said seat turns ++ signs_in seat (telling_of turns) turn
  pub state : after_turns (turns ++ turn ∷ []) ≡ after_turn (after_turns turns) turn
  pub telling : telling_of (turns ++ turn ∷ []) ≡ telling_after (telling_of turns) turn
  pub asks : asks_of (turns ++ turn ∷ []) ≡ asks_of turns ++ asked_in turn
  pub lines : lines_of (turns ++ turn ∷ []) ≡ lines_of turns ++ flat_map lines_for (asked_in turn)
  pub items : items_of (turns ++ turn ∷ []) ≡ items_of turns ++ items_in turn

abbrev pub TurnsGrow : Type 0
TurnsGrow = (seat : ℕ) (turns : List Turn) (turn : Turn) → HasTurnMore seat turns turn

-- what was said stays, whatever turns follow
abbrev pub SaidStays : Type 0
SaidStays = (seat : ℕ) (turns more : List Turn) → said seat (turns ++ more) ≡ said seat turns ++ signs_said seat (telling_of turns) more

-- a teller stands where the walk does
abbrev pub TellingWalks : Type 0
TellingWalks = (turns : List Turn) → (telling_of turns).walk ≡ after_turns turns

-- turns lead a walk over a section's trace to where they lead, with the section's further lines still to come
abbrev pub TurnsWalk : Type 0
TurnsWalk = (section : Section) (turns : List Turn) (rest : List ScriptLine) → section.lines ≡ lines_of turns ++ rest → All IsPlain turns
    → after section (items_of turns) ≡ record (after_turns turns) { rest = rest }

-- the turn was asked for
abbrev pub IsAskedFor : Turn → Type 0
IsAskedFor (Answers query more) = Unit {0}
IsAskedFor (Hears reads) = ⊥
IsAskedFor (Leaves parting line rolled unlistened) = Unit {0}
IsAskedFor (Settles settled) = Unit {0}
IsAskedFor (Discards line refused unlistened) = Unit {0}

-- an item of all the turns' items, by what stands before and behind it, stands in a turn that was asked for
pub record StandsInTurn (turns : List Turn) (before : List Item) (item : Item) (behind : List Item) : Type 0 where
  pub front : List Turn
  pub turn : Turn
  pub back : List Turn
  pub split : turns ≡ front ++ turn ∷ back
  pub asked_for : IsAskedFor turn
  pub inside : List Item
  pub past : List Item
  pub items : items_in turn ≡ inside ++ item ∷ past
  pub all_before : before ≡ items_of front ++ inside
  pub all_behind : behind ≡ past ++ items_of back

-- an item that is no read does
abbrev pub OthersAreAskedFor : Type 0
OthersAreAskedFor = (turns : List Turn) (before behind : List Item) (item : Item) → All IsPlain turns → items_of turns ≡ before ++ item ∷ behind → (IsRead item → ⊥)
    → StandsInTurn turns before item behind

-- in the answer to a query it stands behind the query's line
abbrev pub StandsBehindLine : Type 0
StandsBehindLine = (query : Asked) (more inside past : List Item) (item : Item) → items_in (Answers query more) ≡ inside ++ item ∷ past → begins_line item ≡ false
    → (front : List Item) × (inside ≡ Line query.line ∷ front) × (more ≡ front ++ item ∷ past)

-- where nothing is asked, reads are all there is, and what is told is what is heard of them
abbrev pub ReadsAreHeard : Type 0
ReadsAreHeard = (seat : ℕ) (items : List Item) (signs : List (Option ℕ)) → MayBeTold seat [] items signs → All IsRead items × (signs ≡ map Some (flat_map heard items))

-- what may be told of one query, of which this item is the last that is no read: its answer with the first of the reads behind that item,
-- and the others behind the answer
pub record IsToldOf (query : Asked) (front : List Item) (last : Item) (reads : List Item) (signs : List (Option ℕ)) : Type 0 where
  pub within : List Item
  pub behind : List Item
  pub split : reads ≡ within ++ behind
  pub told : (let more : List Item = front ++ last ∷ within in
      signs ≡ map Some (told_answer query more (after_line idle_state query.command more).block) ++ map Some (flat_map heard behind))

abbrev pub OneQueryIsTold : Type 0
OneQueryIsTold = (seat : ℕ) (query : Asked) (front reads : List Item) (last : Item) (signs : List (Option ℕ)) → (IsRead last → ⊥)
    → MayBeTold seat (Query query ∷ []) (Line query.line ∷ (front ++ last ∷ reads)) signs → IsToldOf query front last reads signs

-- and of one end: why the server ends the conversation, where it does, the end itself, and then what is heard of reads
abbrev pub OneEndIsTold : Type 0
OneEndIsTold = (seat : ℕ) (parting : Parting) (line n : ℕ) (items : List Item) (signs : List (Option ℕ)) → MayBeTold seat (End line parting ∷ []) (Line n ∷ items) signs
    → (reads : List Item) × (signs ≡ map Some (farewell parting) ++ None ∷ map Some (flat_map heard reads))

-- what may be told of one thing that is settled, with these settings and in this state of the block: its answer, whole, between what is
-- heard of the reads before it and behind it
pub record IsSettledTold (seat : ℕ) (settled : Settled) (kept : Kept) (state : BlockState) (items : List Item) (signs : List (Option ℕ)) : Type 0 where
  pub before : List Item
  pub behind : List Item
  pub split : items ≡ before ++ behind
  pub reads : All IsRead items
  pub told : signs ≡ map Some (flat_map heard before) ++ (map Some (settled_answer seat settled kept state) ++ map Some (flat_map heard behind))

-- of a client's first: with fresh settings, outside of a block
abbrev pub OneSettledIsTold : Type 0
OneSettledIsTold = (seat : ℕ) (settled : Settled) (items : List Item) (signs : List (Option ℕ)) → MayBeTold seat (Settle settled ∷ []) items signs
    → IsSettledTold seat settled fresh Idle items signs

-- what may be told of one `DISCARD ALL`: its answer, with what is heard of the reads behind its two lines, and then what is heard of the others
pub record IsDiscardTold (line : ℕ) (items : List Item) (signs : List (Option ℕ)) : Type 0 where
  pub refused : List Item
  pub unlistened : List Item
  pub reads : List Item
  pub split : items ≡ (refused ++ Line (line + 1) ∷ unlistened) ++ reads
  pub told : signs ≡ map Some (discard_answer Idle fresh (flat_map heard refused ++ flat_map heard unlistened)) ++ map Some (flat_map heard reads)

abbrev pub OneDiscardIsTold : Type 0
OneDiscardIsTold = (seat line n : ℕ) (items : List Item) (signs : List (Option ℕ)) → MayBeTold seat (Discard line ∷ []) (Line n ∷ items) signs
    → IsDiscardTold line items signs

-- an item shows how much of the queue is in use
abbrev pub shows_usage : Item → Bool
shows_usage (Used usage) = true
shows_usage item = false

-- the command is no call of pg_notify
abbrev pub IsNoCall : Command → Type 0
IsNoCall (PgNotify note) = ⊥
IsNoCall command = Unit {0}

-- a query is answered as in the messages of a trace: its answer is put as the session answers it, it is no call of pg_notify, asks not for
-- the queue's usage, and has no name that is cut
pub record IsAnsweredAlike (query : Asked) (more : List Item) : Type 0 where
  pub one_line : list_any begins_line more ≡ false
  pub no_usage : list_any shows_usage more ≡ false
  pub as_usual : query.wording ≡ wording.Plain
  pub no_call : IsNoCall query.command
  pub uncut : cut_notices query ≡ []

-- the turn answers a query so
abbrev pub IsAnswer : Turn → Type 0
IsAnswer (Answers query more) = IsAnsweredAlike query more
IsAnswer (Hears reads) = ⊥
IsAnswer (Leaves parting line rolled unlistened) = ⊥
IsAnswer (Settles settled) = ⊥
IsAnswer (Discards line refused unlistened) = ⊥

-- where all turns do, what is told are the messages of the section's trace
abbrev pub AnswersAreMessages : Type 0
AnswersAreMessages = (seat : ℕ) (section : Section) (turns : List Turn) (rest : List ScriptLine) → section.lines ≡ lines_of turns ++ rest → All IsAnswer turns
    → said seat turns ≡ map Some (messages section (items_of turns))

-- the numbers of a script's lines rise, where what is asked is numbered and there are not too many lines; and its `\quit` is the last
abbrev pub ScriptRises : Type 0
ScriptRises = (asks : List Ask) (number : ℕ) → GoOnFrom number asks → number + length (flat_map lines_for asks) ≤ 4294967295 → Rise (script_of asks) × QuitsLast (script_of asks)
