-- The sections of a text: which line of all is the first that is to blame.
use Rattle.std.specs.Prelude.{ℕ, ◌+◌, ◌≤◌, List, Option, MatchOption}
use Rattle.pgn_journal.specs.declared.tx.Tx.{Tx}
use Rattle.pgn_language.specs.declared.scenario.Section.{Section}
use Rattle.pgn_model.specs.declared.trace.Trace.{Trace}
use Rattle.pgn_model.specs.Legal.{EachTrace}
use Rattle.pgn_model.specs.Walk.{Settings}
use Rattle.pgn_ledger.specs.declared.ledger.Ledger.{Ledger}
use Rattle.pgn_reading.specs.Blame.{BlamesTraces}
use Rattle.pgn_reading.specs.WholeLaws.{IsWalked}
use Rattle.pgn_check.specs.declared.check.Rules.{Rules}
use Rattle.pgn_check.specs.declared.sections.Grounds.{Grounds}
use Rattle.pgn_check.specs.Entries.{lines_in}

-- what the command line sets
abbrev pub settings_at : Ledger → ℕ → ℕ → Settings
settings_at ledger limit patience = record { format = ledger.format; limit = limit; patience = patience }

-- the same, before the journal was read
abbrev pub settings_by : Rules → Settings
settings_by rules = record { format = rules.format; limit = rules.pages; patience = rules.patience }

-- the same, over the journal that was read
abbrev pub settings_on : Grounds → Settings
settings_on grounds = settings_at grounds.ledger.now grounds.limit grounds.patience

-- a line of all sections is to blame, and none before it
pub record IsLeastIn (settings : Settings) (journal : List Tx) (sections : List Section) (traces : List Trace) (head n : ℕ) : Type 0 where
  pub blamed : BlamesTraces settings journal sections traces head sections traces n
  pub least : (m : ℕ) → BlamesTraces settings journal sections traces head sections traces m → n ≤ m

-- where the head of the first section is the line of this number: this is the line, or none is to blame
abbrev pub IsFirstFrom : ℕ → Settings → List Section → List Tx → List Trace → Option ℕ → Type 0
IsFirstFrom head settings sections journal traces blamed =
    MatchOption blamed (EachTrace settings (λ terms trace. IsWalked terms journal sections traces trace) sections traces) (IsLeastIn settings journal sections traces head)

-- where each transaction is as it has to be, and the sections stand behind the journal
abbrev pub IsFirstBlamed : Settings → List Section → List Tx → List Trace → Option ℕ → Type 0
IsFirstBlamed settings sections journal traces blamed = IsFirstFrom (2 + lines_in journal) settings sections journal traces blamed
