-- Laws of a full queue and of its usage.
use Rattle.std.specs.Prelude.{ℕ, List, ◌++◌}
use Rattle.pgn_base.specs.declared.format.Format.{Format}
use Rattle.pgn_base.specs.declared.queue_answers.Full.{Full}
use Rattle.pgn_base.specs.declared.queue_answers.Usage.{Usage}
use Rattle.pgn_journal.specs.declared.tx.Tx.{Tx}
use Rattle.pgn_journal.specs.QueueUse.{NoPage, ShowsUsage}

-- why the queue was full stays so over a longer journal
abbrev pub NoPageGrows : Type 0
NoPageGrows = (format : Format) (limit : ℕ) (journal more : List Tx) (full : Full) → NoPage format limit journal full → NoPage format limit (journal ++ more) full

-- what a usage shows stays so over a longer journal
abbrev pub UsageGrows : Type 0
UsageGrows = (format : Format) (limit : ℕ) (journal more : List Tx) (usage : Usage) → ShowsUsage format limit journal usage → ShowsUsage format limit (journal ++ more) usage
