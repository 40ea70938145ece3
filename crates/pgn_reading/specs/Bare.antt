-- Traces whose notifications have moved into the journal.
use Rattle.std.specs.Prelude.{◌≡◌, List, [], map}
use Rattle.pgn_journal.specs.declared.tx.Tx.{Tx}
use Rattle.pgn_language.specs.declared.scenario.Scenario.{Scenario}
use Rattle.pgn_model.specs.declared.item.Item.{Item}
use Rattle.pgn_model.specs.declared.item.Item.TheVariants.{Publish, QueueFull}
use Rattle.pgn_model.specs.declared.trace.Trace.{Trace}
use Rattle.pgn_model.specs.Walk.{Settings}
use Rattle.pgn_model.specs.Legal.{Legal}

-- an item without the notifications of the transaction that it shows as finished
abbrev pub bare_item : Item → Item
bare_item (Publish xid notes) = Publish xid []
bare_item (QueueFull full notes) = QueueFull full []
bare_item item = item

-- a trace with such items, and else the same
abbrev pub bare : Trace → Trace
bare trace = record { session = trace.session; db = trace.db; items = map bare_item trace.items; last = trace.last }

-- the journal of a legal run of the scenario, and its traces, bare
pub record IsLegalBare (scenario : Scenario) (settings : Settings) (journal : List Tx) (traces : List Trace) : Type 0 where
  pub whole : List Trace
  pub are_bare : traces ≡ map bare whole
  pub legal : Legal scenario settings journal whole
