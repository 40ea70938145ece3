-- How many notifications a section may send is no matter of its trace: it is looked at where a hub is opened, and nowhere else.
use Rattle.std.proofs.Common.{ℕ, List, [], ◌∷◌, Option, Some, None, IsSomeAnd}
use Rattle.pgn_base.specs.declared.note.Note.{Note}
use Rattle.pgn_journal.specs.declared.tx.Tx.{Tx}
use Rattle.pgn_language.specs.declared.scenario.Section.{Section}
use Rattle.pgn_model.specs.declared.item.Item.{Item}
use Rattle.pgn_model.specs.declared.item.Item.TheVariants.{Line, Enlist, Publish, QueueFull, Leave, Reply, Refuse, Channels, Used, Raise, Found, TimedOut, Read}
use Rattle.pgn_model.specs.declared.trace.Trace.{Trace}
use Rattle.pgn_journal.specs.Journal.{entry}
use Rattle.pgn_model.specs.Along.{Along}
use Rattle.pgn_model.specs.Walk.{Allowed, IsAbortedBy, IsCommittedBy, Settings, State, Terms, after_item}
use Rattle.pgn_model.specs.Trace.{Fresh, IsFreshAt, TraceOk}
use Rattle.pgn_model.specs.Legal.{Legal}
use Rattle.pgn_model.specs.laws.NextLine.{HoldsSoFar}

-- the section, with another count
abbrev pub with_notes : ℕ → Section → Section
with_notes n section = record section { note_lines = n }

abbrev noted : ℕ → Terms → Terms
noted n terms = record terms { section = with_notes n terms.section }

committed-noted : (n : ℕ) (section : Section) (notes : List Note) (found : Option Tx) → IsSomeAnd found (IsCommittedBy section notes) → IsSomeAnd found (IsCommittedBy (with_notes n section) notes)
committed-noted n section notes None h = absurd h
committed-noted n section notes (Some tx) h = record { by_session = h.by_session; in_database = h.in_database; with_notes = h.with_notes; committed = h.committed }

aborted-noted : (n : ℕ) (section : Section) (notes : List Note) (count : ℕ) (found : Option Tx) → IsSomeAnd found (IsAbortedBy section notes count) → IsSomeAnd found (IsAbortedBy (with_notes n section) notes count)
aborted-noted n section notes count None h = absurd h
aborted-noted n section notes count (Some tx) h = record { by_session = h.by_session; in_database = h.in_database; with_notes = h.with_notes; aborted = h.aborted; some = h.some }

allowed-noted : (n : ℕ) (terms : Terms) (journal : List Tx) (s : State) (item : Item) → Allowed terms journal s item → Allowed (noted n terms) journal s item
allowed-noted n terms journal s (Line line) h = h
allowed-noted n terms journal s (Enlist base point) h = h
allowed-noted n terms journal s (Publish xid notes) h =
    record { expected = h.expected; after_told = h.after_told; after_mark = h.after_mark; in_journal = committed-noted n terms.section notes (entry journal xid) h.in_journal }
allowed-noted n terms journal s (QueueFull full notes) h =
    record { expected = h.expected; after_told = h.after_told; after_mark = h.after_mark; in_journal = aborted-noted n terms.section notes full.queued (entry journal full.xid) h.in_journal; floor = h.floor }
allowed-noted n terms journal s Leave h = h
allowed-noted n terms journal s (Reply tag warning) h = h
allowed-noted n terms journal s (Refuse refusal) h = h
allowed-noted n terms journal s (Channels names) h = h
allowed-noted n terms journal s (Used usage) h = record { expected = h.expected; after_told = h.after_told; after_mark = h.after_mark; shown = h.shown; floor = h.floor }
allowed-noted n terms journal s (Raise value) h = h
allowed-noted n terms journal s (Found value) h = h
allowed-noted n terms journal s (TimedOut looks) h = record { awaited = h.awaited; patient = h.patient }
allowed-noted n terms journal s (Read from to got) h =
    record { in_turn = h.in_turn; from_mark = h.from_mark; forward = h.forward; after_told = h.after_told; in_journal = h.in_journal; received = h.received }

fresh_at-noted : (n : ℕ) (terms : Terms) (journal : List Tx) (s : State) (item : Item) → IsFreshAt terms journal s item → IsFreshAt (noted n terms) journal s item
fresh_at-noted n terms journal s (Line line) h = λ idle. record { up_to_date = (h idle).up_to_date; read_first = (h idle).read_first }
fresh_at-noted n terms journal s (Enlist base point) h = h
fresh_at-noted n terms journal s (Publish xid notes) h = h
fresh_at-noted n terms journal s (QueueFull full notes) h = h
fresh_at-noted n terms journal s Leave h = h
fresh_at-noted n terms journal s (Reply tag warning) h = h
fresh_at-noted n terms journal s (Refuse refusal) h = h
fresh_at-noted n terms journal s (Channels names) h = h
fresh_at-noted n terms journal s (Used usage) h = h
fresh_at-noted n terms journal s (Raise value) h = h
fresh_at-noted n terms journal s (Found value) h = h
fresh_at-noted n terms journal s (TimedOut looks) h = h
fresh_at-noted n terms journal s (Read from to got) h = h

lawful-noted : (n : ℕ) (terms : Terms) (journal : List Tx) (s : State) (items : List Item) → Along after_item (Allowed terms journal) s items → Along after_item (Allowed (noted n terms) journal) s items
lawful-noted n terms journal s [] h = tt
lawful-noted n terms journal s (item ∷ items) h = (allowed-noted n terms journal s item h.0, lawful-noted n terms journal (after_item s item) items h.1)

fresh-noted : (n : ℕ) (terms : Terms) (journal : List Tx) (s : State) (items : List Item) → Along after_item (IsFreshAt terms journal) s items → Along after_item (IsFreshAt (noted n terms) journal) s items
fresh-noted n terms journal s [] h = tt
fresh-noted n terms journal s (item ∷ items) h = (fresh_at-noted n terms journal s item h.0, fresh-noted n terms journal (after_item s item) items h.1)

-- what holds of a trace so far
pub holds-noted : (n : ℕ) (terms : Terms) (journal : List Tx) (items : List Item) (s : State) → HoldsSoFar terms journal items s → HoldsSoFar (noted n terms) journal items s
holds-noted n terms journal items s h = record {
  stands_fresh = record {
    stands = record { lawful = lawful-noted n terms journal _ items h.stands_fresh.stands.lawful; state = h.stands_fresh.stands.state };
    fresh = fresh-noted n terms journal _ items h.stands_fresh.fresh;
  };
  full = h.full;
  found = h.found;
}

-- what holds of a run of one session
pub legal-noted : (n : ℕ) (section : Section) (settings : Settings) (journal : List Tx) (trace : Trace) → Legal (record { sections = section ∷ []; flags = [] }) settings journal (trace ∷ [])
    → Legal (record { sections = with_notes n section ∷ []; flags = [] }) settings journal (trace ∷ [])
legal-noted n section settings journal trace h =
    let terms : Terms = record { section = section; settings = settings } in
    let ok : TraceOk terms trace journal = h.lawful.0 in
    let fresh : Fresh terms trace journal = h.fresh.0 in
    record {
      lawful = (record { session = ok.session; database = ok.database; lawful = lawful-noted n terms journal _ trace.items ok.lawful; ended = ok.ended }, tt);
      fresh = (record { between_lines = fresh-noted n terms journal _ trace.items fresh.between_lines; at_end = fresh.at_end }, tt);
      own = h.own;
      finished = h.finished;
      named = h.named;
      full = h.full;
      found = h.found;
      holders = h.holders;
      shown = h.shown;
      read_all = h.read_all;
    }
