use Rattle.std.proofs.Common.{◌-◌, length}
use borrow.Author.Tests.{le-leb, lt-leb, lt-ltb, le-ltb}
use Rattle.pgn_base.specs.Hashes.{last_word}
use Rattle.pgn_base.proofs.seed.last_word.Goals as goal

pub returns-then-left-ge4 : goal.returns-then-left-ge4
unfolding last_word
returns-then-left-ge4 c = rw (le-leb 4 (length c.args.bytes.now - c.args.at) c.if-left-ge4.true) c.from_le_bytes.ensures

pub returns-then-left-gt0 : goal.returns-then-left-gt0
unfolding last_word
returns-then-left-gt0 c = rw (lt-leb 4 (length c.args.bytes.now - c.args.at) c.if-left-ge4.false, lt-ltb 0 (length c.args.bytes.now - c.args.at) c.if-left-gt0.true) c.from_le_bytes-then-left-gt0.ensures

pub returns-else-left-gt0 : goal.returns-else-left-gt0
unfolding last_word
returns-else-left-gt0 c = rw (lt-leb 4 (length c.args.bytes.now - c.args.at) c.if-left-ge4.false, le-ltb 0 (length c.args.bytes.now - c.args.at) c.if-left-gt0.false) c.from_le_bytes-else-left-gt0.ensures
