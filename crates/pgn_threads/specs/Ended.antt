-- What sessions come to that are over.
use Rattle.std.specs.Prelude.{◌≡◌, ℕ, List, map}
use Rattle.pgn_base.specs.declared.format.Format.{Format}
use Rattle.pgn_journal.specs.declared.tx.Tx.{Tx}
use Rattle.pgn_language.specs.declared.scenario.Scenario.{Scenario}
use Rattle.pgn_model.specs.declared.trace.Trace.{Trace}
use Rattle.pgn_model.specs.Legal.{Legal}
use Rattle.pgn_hub.specs.Shape.{Shape}
use Rattle.pgn_reading.specs.Bare.{bare}
use Rattle.pgn_session.specs.declared.session.Session.{Session}
use Rattle.pgn_session.specs.Runs.{shown_of}
use Rattle.pgn_threads.specs.Drain.{EachMayEndWithRead}
use Rattle.pgn_threads.specs.Opened.{AreOpenedFor}

-- sessions over a hub of this shape come to this journal and to these traces, which are bare: whole they are those of a legal run of
-- each scenario that the sessions were opened for, and each is what its session had shown and then one read at most
pub record HaveEnded {P : Type 0} (shape : Shape) (sessions : List (Session P)) (journal : List Tx) (traces : List Trace) : Type 0 where
  pub whole : List Trace
  pub are_bare : traces ≡ map bare whole
  pub legal : (scenario : Scenario) (pages patience : ℕ) (format : Format) → AreOpenedFor scenario pages patience format shape sessions
      → Legal scenario (record { format = format; limit = pages; patience = patience }) journal whole
  pub shown : EachMayEndWithRead (map shown_of sessions) (map (λ trace. trace.items) whole)
