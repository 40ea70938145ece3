-- What a live run writes, and what each outcome of it says.
use Rattle.std.specs.Prelude.{◌≡◌, ℕ, List, [], ◌∷◌, ◌++◌, length, map, drop}
use Rattle.pgn_base.specs.declared.format.Format.{Format}
use Rattle.pgn_journal.specs.declared.tx.Tx.{Tx}
use Rattle.pgn_language.specs.declared.scenario.Scenario.{Scenario}
use Rattle.pgn_language.specs.declared.scenario.Section.{Section}
use Rattle.pgn_model.specs.declared.trace.Trace.{Trace}
use Rattle.pgn_model.specs.Legal.{Legal}
use Rattle.pgn_model.specs.Text.{joined, journal_lines}
use Rattle.pgn_model.specs.Walk.{Settings}
use Rattle.pgn_hub.specs.Shape.{Shape}
use Rattle.pgn_session.specs.declared.session.Session.{Session}
use Rattle.pgn_text.specs.Rendering.{ends_lines}
use Rattle.pgn_threads.specs.Opened.{AreOpenedFor}
use Rattle.pgn_session.specs.Runs.{AreLawful}
use Rattle.pgn_live.specs.Cames.{Came}
use Rattle.pgn_live.specs.Lives.{AreFirst, AreWhole, came_from, log_of_trace, logs_of, tagged}

-- what stands behind the lines of the sessions: the journal, and where each session ended
abbrev pub end_text : Scenario → List Tx → List Trace → List ℕ
end_text scenario journal traces = joined (journal_lines journal ++ ends_lines scenario.sections traces)

-- what is written of a live run: the lines of all sessions, as they came, and what stands behind them
abbrev pub live_text : Scenario → List Came → List Tx → List Trace → List ℕ
live_text scenario cames journal traces = tagged scenario.sections cames ++ end_text scenario journal traces

-- P holds of what is written of a legal run of the scenario, with these settings, of which each item has come once, in its session's order
pub record LiveOver (scenario : Scenario) (settings : Settings) (P : List ℕ → Type 0) : Type 0 where
  pub journal : List Tx
  pub traces : List Trace
  pub cames : List Came
  pub legal : Legal scenario settings journal traces
  pub whole : AreWhole (map log_of_trace traces) cames
  pub output : P (live_text scenario cames journal traces)

-- what the sessions of these sections have shown, each lawful so far, over some journal
abbrev pub AreLawfulLogs : Settings → List Section → List Came → Type 0
AreLawfulLogs settings [] [] = Unit {0}
AreLawfulLogs settings [] (log ∷ logs) = ⊥
AreLawfulLogs settings (section ∷ sections) [] = ⊥
AreLawfulLogs settings (section ∷ sections) (log ∷ logs) =
    (log.session ≡ section.no) × AreLawful (record { section = section; settings = settings }) log.what × AreLawfulLogs settings sections logs

-- P holds of the lines of what has come of it: all, in each session's order
pub record EarlyOver (scenario : Scenario) (settings : Settings) (P : List ℕ → Type 0) : Type 0 where
  pub logs : List Came
  pub cames : List Came
  pub lawful : AreLawfulLogs settings scenario.sections logs
  pub whole : AreWhole logs cames
  pub output : P (tagged scenario.sections cames)

-- P holds of the lines of what has come of it: of each session the first items
pub record SoFarOver (scenario : Scenario) (settings : Settings) (P : List ℕ → Type 0) : Type 0 where
  pub logs : List Came
  pub cames : List Came
  pub lawful : AreLawfulLogs settings scenario.sections logs
  pub first : AreFirst logs cames
  pub output : P (tagged scenario.sections cames)

-- of each trace what stands behind so many items
abbrev pub lasts : List ℕ → List Trace → List Came
lasts [] traces = []
lasts (n ∷ ns) [] = []
lasts (n ∷ ns) (trace ∷ traces) = came_from trace.session (drop n trace.items) ∷ lasts ns traces

-- how many items each session has shown
abbrev pub counts_of : {P : Type 0} → List (Session P) → List ℕ
counts_of sessions = map (λ s. length s.items.items) sessions

-- P holds of what is written of a run once its sessions are over: the items that come last, and what stands behind them
pub record EndsOver {Q : Type 0} (scenario : Scenario) (shape : Shape) (sessions : List (Session Q)) (P : List ℕ → Type 0) : Type 0 where
  pub journal : List Tx
  pub traces : List Trace
  pub last : List Came
  pub legal : (pages patience : ℕ) (format : Format) → AreOpenedFor scenario pages patience format shape sessions → Legal scenario (record { format = format; limit = pages; patience = patience }) journal traces
  pub whole : AreWhole (map log_of_trace traces) (logs_of sessions ++ last)
  pub output : P (tagged scenario.sections last ++ end_text scenario journal traces)
