use Rattle.pgn_scenario.proofs.ReadingLaws.{reads-large, read-sound}
use Rattle.pgn_scenario.proofs.scenario_reading.read_scenario.Goals as goal

pub returns-then-bytes-gt-INPUT_BYTES_MAX-clause-reads : goal.returns-then-bytes-gt-INPUT_BYTES_MAX-clause-reads
returns-then-bytes-gt-INPUT_BYTES_MAX-clause-reads c = reads-large c.args.bytes.now c.if-bytes-gt-INPUT_BYTES_MAX.true

pub returns-clause-sound : goal.returns-clause-sound
returns-clause-sound c = read-sound c.args.bytes.now c.read_all-reading.result c.read_all-reading.ensures
