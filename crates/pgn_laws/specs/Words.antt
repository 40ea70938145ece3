-- What follows from the rule, for whoever reads, writes or waits.
use Rattle.std.specs.Prelude.{◌≡◌, ◌≢◌, ℕ, ◌+◌, ◌%◌, ◌<◌, ◌≤◌, true, false, List, length, get_or, slice_get, Some}
use mathlib.Core.Option.{some}
use lib.ListN.{get_elem?}
use Rattle.pgn_journal.specs.Due.{is_due_to}
use Rattle.pgn_journal.specs.Near.{Near}
use Rattle.pgn_journal.specs.Packing.{page_of, place, image}
use Rattle.pgn_hub.specs.Shape.{Shape, IsShape}
use Rattle.pgn_words.specs.declared.view.View.{View}
use Rattle.pgn_words.specs.declared.view.Listen.TheVariants.{Registered}
use Rattle.pgn_words.specs.declared.view.Phase.TheVariants.{Open}
use Rattle.pgn_words.specs.declared.view.Stage.TheVariants.{Shown}
use Rattle.pgn_words.specs.Words.{Content, room_of, ring_pages}
use Rattle.pgn_words.specs.Views.{is_walking}
use Rattle.pgn_words.specs.Positions.{is_placed}
use Rattle.pgn_words.specs.WakeRule.{IsHeard}
use Rattle.pgn_words.specs.Rule.{World, Law}

-- a cell that a walk loads from its mark's place on is that of the journal that the loaded head showed, whatever was stored since
abbrev pub WalksReadTheJournal : Type 0
WalksReadTheJournal = (z : Shape) (c : Content) (g : World) (views : List View) (j : ℕ) (v : View) → Law z c g views → get_elem? views j ≡ some v → v.walk.stage ≡ Shown
    → (at x : ℕ) → v.post.at ≤ at → slice_get (image z.format v.walk.shown) at ≡ Some (Some x) → get_or c.cells (at % room_of z) 0 ≡ x

-- up to the place of the number to which a walk goes a cell is that of the finished journal, and the pass knows that part of it
abbrev pub WalksReadTheFinished : Type 0
WalksReadTheFinished = (z : Shape) (c : Content) (g : World) (views : List View) (j : ℕ) (v : View) → Law z c g views → get_elem? views j ≡ some v → is_walking v.walk.stage ≡ true
    → (at x : ℕ) → v.post.at ≤ at → at < place z.format g.past v.walk.upto → slice_get (image z.format g.past) at ≡ Some (Some x)
    → (slice_get (image z.format v.known.seen) at ≡ Some (Some x)) × (get_or c.cells (at % room_of z) 0 ≡ x)

-- where that place is before the loaded head, the number that a walk loads there is no less than the one to which it goes: it stands in
-- the third cell of the entry or filler
abbrev pub WalksEndInTime : Type 0
WalksEndInTime = (z : Shape) (c : Content) (g : World) (views : List View) (j : ℕ) (v : View) → IsShape z → Law z c g views → get_elem? views j ≡ some v → v.walk.stage ≡ Shown
    → (at : ℕ) → at ≡ place z.format g.past v.walk.upto → at < length (image z.format v.walk.shown) → v.walk.upto ≤ get_or c.cells ((at + 2) % room_of z) 0

-- where a writer may store a cell of a page, the page that lay there before is an earlier one than that of each position, and of each
-- tail that a joiner has loaded
abbrev pub PagesAreSpared : Type 0
PagesAreSpared = (z : Shape) (c : Content) (g : World) (views : List View) (id : ℕ) (v : View) → Law z c g views → get_elem? views id ≡ some v → v.phase ≡ Open
    → (at old : ℕ) → page_of at < v.stop + z.pages → page_of at ≡ page_of (length v.pen.cells) → old + ring_pages z ≡ page_of at
    → (j : ℕ) (u : View) → get_elem? views j ≡ some u → is_placed u.post.listen ≡ true → old < page_of u.post.at

-- a listener whose wake is not set, and that owes no read, need not read up to where it knows wakes to be set, as far as its channels go
abbrev pub NoWakeIsLost : Type 0
NoWakeIsLost = (z : Shape) (c : Content) (g : World) (views : List View) (j i : ℕ) (v : View) → Law z c g views → get_elem? views j ≡ some v → v.post.listen ≡ Registered → v.known.session ≡ i + 1
    → get_or c.wakes i 0 ≢ 1 → v.known.owes ≡ false → Near z.format (is_due_to v.known.db v.known.set) g.past v.post.mark v.known.signalled

-- the transactions below the number that a flag shows are finished
abbrev pub FlagsAreFinished : Type 0
FlagsAreFinished = (z : Shape) (c : Content) (g : World) (views : List View) (f : ℕ) → Law z c g views → get_or c.flags f 0 ≤ c.fin

-- and so are those below what a pass was told
abbrev pub ToldIsFinished : Type 0
ToldIsFinished = (z : Shape) (c : Content) (g : World) (views : List View) (j : ℕ) (v : View) → Law z c g views → get_elem? views j ≡ some v → v.known.told ≤ c.fin

-- all wakes are set of the transactions below the number up to which a pass knows them to be
abbrev pub SignalledIsHeard : Type 0
SignalledIsHeard = (z : Shape) (c : Content) (g : World) (views : List View) (j : ℕ) (v : View) → Law z c g views → get_elem? views j ≡ some v → IsHeard c.fin g.undecided v.known.signalled
