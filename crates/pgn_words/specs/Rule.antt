-- The rule of the words, which holds before and after each step of each pass. It speaks of what the words hold, of what no word and
-- no pass by itself has, and of the passes. Each group of clauses takes what it reads.
use Rattle.std.specs.Prelude.{◌≡◌, ◌≢◌, ◌⊎◌, ℕ, ◌+◌, ◌*◌, ◌^◌, ◌<◌, ◌≤◌, Bool, true, List, [], ◌∷◌, ◌++◌, length, get_or, drop, Option, Some, All, Any, AllPairs, sum_by}
use mathlib.Core.Option.{some}
use lib.ListN.{get_elem?}
use Rattle.atomic_table.specs.Table.{State}
use Rattle.pgn_base.specs.declared.format.Format.{Format}
use Rattle.pgn_base.specs.declared.limits.TheConstants.{FIRST_XID}
use Rattle.pgn_base.specs.Notes.{IsNote}
use Rattle.pgn_journal.specs.declared.tx.Tx.{Tx}
use Rattle.pgn_journal.specs.Begins.{Begins}
use Rattle.pgn_layout.specs.Status.{status_word, status_in, status_code}
use Rattle.pgn_journal.specs.Journal.{next_xid, entry, xids_of, IsFinished}
use Rattle.pgn_journal.specs.Packing.{page_start, image}
use Rattle.pgn_journal.specs.Pieces.{IsWritten}
use Rattle.pgn_hub.specs.Shape.{Shape, IsShape, notes_of_seats}
use Rattle.pgn_words.specs.declared.view.View.{View}
use Rattle.pgn_words.specs.declared.view.Pen.{Pen}
use Rattle.pgn_words.specs.declared.view.Phase.{Phase}
use Rattle.pgn_words.specs.declared.view.Phase.TheVariants.{Free, Held, Headed, Ready, Open, Finished, Signalling}
pub use Rattle.pgn_words.specs.Each.{Each, Keeps}
use Rattle.pgn_words.specs.Each.{Someone}
use Rattle.pgn_words.specs.ListenRule.{Posts, Walks, Looks}
use Rattle.pgn_words.specs.WakeRule.{Wakes, Interests, Flags, Named, Taken}
use Rattle.pgn_words.specs.Words.{Content, row, seats_of, status_words, room_of}
use Rattle.pgn_words.specs.Views.{holds_lock, fated, knows_stop, drawn_by, seat_of, spent_by}

-- What no word and no pass by itself has: the finished transactions; these and what the head shows of the open one; the seat among the
-- table's seats that holds the lock; how many passes were made; where the pass of each session sits; at how many seats the
-- last second look has looked, and its target; and the seats that are not decided after the last transaction, and those whose listener it
-- may concern.
pub record World : Type 0 where
  pub past : List Tx
  pub shown : List Tx
  pub holder : ℕ
  pub made : ℕ
  pub seat : ℕ → ℕ
  pub looked : ℕ
  pub target : ℕ
  pub undecided : ℕ → Bool
  pub concerned : ℕ → Bool

-- there are as many words of each kind as the queue was opened for
pub record Laid (z : Shape) (pos wakes interests flags statuses cells : List ℕ) : Type 0 where
  pub pos_long : length pos ≡ seats_of z
  pub wakes_long : length wakes ≡ seats_of z
  pub interests_long : length interests ≡ seats_of z
  pub flags_long : length flags ≡ z.flags
  pub statuses_long : length statuses ≡ status_words z
  pub cells_long : length cells ≡ room_of z

-- a session's pass sits at its seat, was made, and has its seat's database
pub record IsSeated (z : Shape) (made : ℕ) (seat : ℕ → ℕ) (j : ℕ) (v : View) : Type 0 where
  pub sits : seat v.known.session ≡ j
  pub was_made : v.known.session ≤ made
  pub db_is : v.known.db ≡ (seat_of z v.known.session).db
  pub some_db : 0 < v.known.db
  pub db_fits : v.known.db < 2 ^ 32
  pub setup_is : v.setup ≡ z

-- a note, and a pass that was joined, have the number 0 and are no session's
abbrev pub Seated : Shape → ℕ → (ℕ → ℕ) → ℕ → View → Type 0
Seated z made seat j v = 0 < v.known.session → IsSeated z made seat j v

-- the pass that makes the others is that of session 1, and counts them
abbrev pub Makes : ℕ → ℕ → View → Type 0
Makes made j v = 0 < v.made → (v.known.session ≡ 1) × (v.made ≡ made)

-- who sits where
pub record Seats (z : Shape) (made : ℕ) (seat : ℕ → ℕ) (views : List View) : Type 0 where
  pub few : made ≤ seats_of z
  pub seated : Each (Seated z made seat) views
  pub makes : Each (Makes made) views

-- who holds the lock sits at the holder's seat, and the lock's word has its session's number
abbrev pub Locks : ℕ → ℕ → ℕ → View → Type 0
Locks lock holder j v = holds_lock v.phase ≡ true → (j ≡ holder) × (lock ≡ v.known.session) × (0 < v.known.session)

-- who holds the lock
pub record Locking (lock holder : ℕ) (views : List View) : Type 0 where
  pub locks : Each (Locks lock holder) views
  pub owned : lock ≢ 0 → (v : View) × (get_elem? views holder ≡ some v) × (v.known.session ≡ lock) × (holds_lock v.phase ≡ true)

-- what the cells hold up to the head
pub record Stored (z : Shape) (head stop : ℕ) (shown : List Tx) (cells : List ℕ) : Type 0 where
  pub headed : head ≡ length (image z.format shown)
  pub kept : Keeps (room_of z) (page_start stop) (image z.format shown) cells
  pub ahead : head ≤ page_start (stop + z.pages)
  -- it is no further than the notifications of all seats can bring it
  pub reach : head ≤ 4096 * notes_of_seats z.seats + 2048
  pub small : (k : ℕ) → get_or cells k 0 < 2 ^ 32
  pub low : head < 2 ^ 32

-- a transaction is of a session whose pass was made, and of its database
abbrev pub WasMade : Shape → ℕ → Tx → Type 0
WasMade z made tx = (1 ≤ tx.session) × (tx.session ≤ made) × (tx.db ≡ (seat_of z tx.session).db)

-- a pass knows the whole journal, or one that it took in did
abbrev pub KnowsAll : List Tx → View → Type 0
KnowsAll past v = (v.known.seen ≡ past) ⊎ Any (λ k. k.seen ≡ past) v.joined

-- the journal, and what each pass knows of it
pub record History (z : Shape) (lock fin made : ℕ) (past shown : List Tx) (views : List View) : Type 0 where
  pub counted : fin ≡ next_xid past
  pub finished : All IsFinished past
  pub sessions : All (WasMade z made) past
  pub written : All IsWritten shown
  pub one_more : length shown ≤ length past + 1
  pub begins : Begins past shown
  pub free : lock ≡ 0 → shown ≡ past
  pub sees : Each (λ _ v. Begins v.known.seen past) views
  pub whole : Someone (KnowsAll past) views
  pub owns : Each (λ _ v. v.known.own ≡ xids_of v.known.session past) views
  pub own_seen : Each (λ _ v. All (λ x. x < next_xid v.known.seen) v.known.own) views

-- the next number is the first unfinished one while the holder has drawn none, and else the one after it
abbrev pub Draws : ℕ → ℕ → ℕ → View → Type 0
Draws fin xid j v = holds_lock v.phase ≡ true → xid ≡ fin + drawn_by v.phase

-- the numbers: the next one is the first unfinished one, but for one that the holder has drawn
pub record Numbers (lock fin xid : ℕ) (views : List View) : Type 0 where
  pub free : lock ≡ 0 → xid ≡ fin
  pub draws : Each (Draws fin xid) views

-- a holder that has loaded the oldest kept page knows it
abbrev pub KnowsStop : ℕ → ℕ → View → Type 0
KnowsStop stop j v = knows_stop v.phase ≡ true → v.stop ≡ stop

-- What the holder knows, phase by phase. `keeps` says that the cells hold what stands in a list of cells.

-- it has drawn no number
pub record IsIdle (past shown seen : List Tx) : Type 0 where
  pub seen_is : seen ≡ past
  pub shown_is : shown ≡ past

-- it has loaded the head
pub record IsHeaded (format : Format) (past shown seen : List Tx) (pen : Pen) : Type 0 where
  pub idle : IsIdle past shown seen
  pub cells_are : pen.cells ≡ image format past
  pub batch_is : pen.batch ≡ []

-- it has drawn a number, and writes
pub record IsWriting (format : Format) (keeps : List (Option ℕ) → Type 0) (past shown seen : List Tx) (pen : Pen) : Type 0 where
  pub seen_is : seen ≡ past
  pub cells_are : pen.cells ≡ image format shown
  pub kept : keeps (pen.cells ++ pen.batch)
  pub some_notes : pen.notes ≢ []
  pub valid : All IsNote pen.notes
  pub different : AllPairs (λ a b. a ≢ b) pen.notes
  pub taken_is : pen.taken ≡ length pen.notes

-- it has set the status, and the head shows the journal with its transaction
pub record IsEnding (format : Format) (past shown seen : List Tx) (session db : ℕ) (pen : Pen) : Type 0 where
  pub seen_is : seen ≡ past
  pub shows : image format (past ++ pen.ending ∷ []) ≡ image format shown
  pub finished : IsFinished pen.ending
  pub session_is : pen.ending.session ≡ session
  pub db_is : pen.ending.db ≡ db
  pub taken_is : pen.taken ≡ length pen.ending.notes

-- its transaction is the last one of the journal
pub record IsSignalling (past shown seen : List Tx) (db : ℕ) (pen : Pen) : Type 0 where
  pub idle : IsIdle past shown seen
  pub before : List Tx
  pub last : past ≡ before ++ pen.ending ∷ []
  pub db_is : pen.ending.db ≡ db

-- the same by the phase
abbrev pub HoldsIn : Phase → Format → (List (Option ℕ) → Type 0) → List Tx → List Tx → List Tx → ℕ → ℕ → Pen → Type 0
HoldsIn Free format keeps past shown seen session db pen = Unit {0}
HoldsIn Held format keeps past shown seen session db pen = IsIdle past shown seen
HoldsIn Headed format keeps past shown seen session db pen = IsHeaded format past shown seen pen
HoldsIn Ready format keeps past shown seen session db pen = IsHeaded format past shown seen pen
HoldsIn Open format keeps past shown seen session db pen = IsWriting format keeps past shown seen pen
HoldsIn Finished format keeps past shown seen session db pen = IsEnding format past shown seen session db pen
HoldsIn Signalling format keeps past shown seen session db pen = IsSignalling past shown seen db pen

-- the same of a pass, by the cells from the oldest kept page on
abbrev pub Holds : Shape → ℕ → List Tx → List Tx → List ℕ → ℕ → View → Type 0
Holds z stop past shown cells j v = HoldsIn v.phase z.format (λ log. Keeps (room_of z) (page_start stop) log cells) past shown v.known.seen v.known.session v.known.db v.pen

-- the open transaction
pub record Holding (z : Shape) (stop : ℕ) (past shown : List Tx) (cells : List ℕ) (views : List View) : Type 0 where
  pub holds : Each (Holds z stop past shown cells) views
  pub stops : Each (KnowsStop stop) views

-- the status of a transaction among the status words
abbrev pub status_at : List ℕ → ℕ → ℕ
status_at ss x = status_in (get_or ss (status_word x) 0) x

-- the status of the first unfinished number is the fate that its holder has set, and none before that
abbrev pub Fates : List Tx → List ℕ → ℕ → View → Type 0
Fates past ss j v = holds_lock v.phase ≡ true → status_at ss (next_xid past) ≡ fated v.phase v.pen.ending.fate

-- Each finished transaction's status is its fate. The first unfinished one has the fate that its holder has set, and those after it have
-- none.
pub record Statuses (lock : ℕ) (past : List Tx) (ss : List ℕ) (views : List View) : Type 0 where
  pub below : (x : ℕ) (tx : Tx) → FIRST_XID ≤ x → entry past x ≡ Some tx → status_at ss x ≡ status_code tx.fate
  pub above : (x : ℕ) → next_xid past < x → status_at ss x ≡ 0
  pub free : lock ≡ 0 → status_at ss (next_xid past) ≡ 0
  pub fates : Each (Fates past ss) views

-- the notifications of transactions
abbrev pub notes_of : List Tx → ℕ
notes_of txs = sum_by (λ tx. length tx.notes) txs

-- no more notifications are sent than all seats may send: those of the journal, those that passes have left or have taken for an open
-- transaction, and those of the seats whose pass is not made yet
abbrev pub Budget : Shape → ℕ → List Tx → List View → Type 0
Budget z made past views = notes_of past + sum_by spent_by views + notes_of_seats (drop made z.seats) ≤ notes_of_seats z.seats

-- all groups of clauses, for these words, this world and these passes
pub record Law (z : Shape) (c : Content) (g : World) (views : List View) : Type 0 where
  pub laid : Laid z c.pos c.wakes c.interests c.flags c.statuses c.cells
  pub seats : Seats z g.made g.seat views
  pub locking : Locking c.lock g.holder views
  pub stored : Stored z c.head c.stop g.shown c.cells
  pub history : History z c.lock c.fin g.made g.past g.shown views
  pub numbers : Numbers c.lock c.fin c.xid views
  pub holding : Holding z c.stop g.past g.shown c.cells views
  pub statuses : Statuses c.lock g.past c.statuses views
  pub budget : Budget z g.made g.past views
  pub posts : Posts z.format g.past c.fin c.stop g.made c.tail c.pos views
  pub walks : Walks z.format (room_of z) c.head c.cells views
  pub looks : Looks z.format g.past c.fin c.stop g.looked g.target c.tail views
  pub wakes : Wakes z.format c.lock c.fin g.past g.undecided g.concerned c.wakes views
  pub interests : Interests g.concerned c.interests views
  pub flags : Flags c.fin c.flags views
  pub named : Named views
  pub taken : Taken z g.made c.fin g.seat g.past views

-- the rule
pub record Lawful (z : Shape) (s : State ℕ View) : Type 0 where
  pub shape : IsShape z
  pub content : Content
  pub world : World
  pub stands : s.words ≡ row content
  pub law : Law z content world s.views
