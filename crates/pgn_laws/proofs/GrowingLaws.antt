-- Proofs of the laws of a trace as the journal grows.
use Rattle.std.proofs.Common.{ℕ, ◌+◌, ◌≤◌, ◌++◌, refl, arith, length-append}
use Rattle.std.proofs.lemmas.List.Elements.{All-weaker}
use Rattle.pgn_model.specs.declared.item.Item.{Item}
use Rattle.pgn_model.specs.declared.item.Item.TheVariants.{Line, Enlist, Publish, QueueFull, Leave, Reply, Refuse, Channels, Used, Raise, Found, TimedOut, Read}
use Rattle.pgn_journal.specs.Journal.{next_xid}
use Rattle.pgn_model.specs.Trace.{state_after}
use Rattle.pgn_model.specs.Legal.{IsShownWithin}
use Rattle.pgn_model.specs.laws.Growing.{ShownGrows, ShownOver, TraceOkGrows, FreshGrows}
use Rattle.pgn_model.proofs.WalkLaws.{Stands-grows}
use Rattle.pgn_model.proofs.GrowingLaws.{told-within, up_to_date-grows, fresh_so_far-grows}

-- a bound on what is shown may be greater
pub shown-weaker : (m n : ℕ) (item : Item) → m ≤ n → IsShownWithin m item → IsShownWithin n item
shown-weaker m n (Line line) h p = tt
shown-weaker m n (Enlist base point) h p = (omega (arith, p.0), omega (arith, p.1))
shown-weaker m n (Publish xid notes) h p = omega (arith, p)
shown-weaker m n (QueueFull full notes) h p = (omega (arith, p.0), omega (arith, p.1))
shown-weaker m n Leave h p = tt
shown-weaker m n (Reply tag warning) h p = tt
shown-weaker m n (Refuse refusal) h p = tt
shown-weaker m n (Channels names) h p = tt
shown-weaker m n (Used usage) h p = (omega (arith, p.0), omega (arith, p.1))
shown-weaker m n (Raise value) h p = omega (arith, p)
shown-weaker m n (Found value) h p = omega (arith, p)
shown-weaker m n (TimedOut looks) h p = tt
shown-weaker m n (Read from to got) h p = (omega (arith, p.0), omega (arith, p.1))

-- what shows numbers within a bound shows them within a greater one
pub shown-grows : ShownGrows
shown-grows m n items h shown = All-weaker (IsShownWithin m) (IsShownWithin n) (λ item p. shown-weaker m n item h p) items shown

-- what shows numbers within a journal shows them within a longer one
pub shown-over : ShownOver
shown-over journal more items shown = shown-grows (next_xid journal) (next_xid (journal ++ more)) items (omega (arith, length-append journal more)) shown

-- a trace stays lawful as the journal grows
pub trace_ok-grows : TraceOkGrows
trace_ok-grows terms trace journal more h = record {
  session = h.session;
  database = h.database;
  lawful = (Stands-grows terms journal more trace.items (state_after terms trace.items) (record { lawful = h.lawful; state = refl })).lawful;
  ended = h.ended;
}

-- no read is left out of a trace as the journal grows
pub fresh-grows : FreshGrows
fresh-grows terms trace journal more ok shown h = record {
  between_lines = fresh_so_far-grows terms journal more trace.items ok.lawful shown h.between_lines;
  at_end = up_to_date-grows terms journal more (state_after terms trace.items) (told-within terms journal trace.items ok.lawful shown) h.at_end;
}
