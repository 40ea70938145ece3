-- What a trace is judged by.
use Rattle.std.specs.Prelude.{List}
use Rattle.pgn_journal.specs.declared.tx.Tx.{Tx}
use Rattle.pgn_language.specs.declared.scenario.Section.{Section}
use Rattle.pgn_model.specs.declared.trace.Trace.{Trace}
use Rattle.pgn_model.specs.Walk.{Settings, Terms}
use Rattle.pgn_walk.specs.declared.basis.Basis.{Basis}
use Rattle.pgn_walk.specs.Evidence.{IsEvidence}

-- what the command line sets
abbrev pub settings_of : Basis → Settings
settings_of basis = record { format = basis.ledger.now.format; limit = basis.limit; patience = basis.patience }

-- what a trace is judged by
abbrev pub terms_of : Basis → Terms
terms_of basis = record { section = basis.section.now; settings = settings_of basis }

-- the journal
abbrev pub journal_of : Basis → List Tx
journal_of basis = basis.ledger.now.journal.now

-- what these traces show
abbrev pub Tells : Basis → List Section → List Trace → Type 0
Tells basis sections traces = IsEvidence sections traces basis.evidence.now.raised basis.evidence.now.stood
