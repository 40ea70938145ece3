use Rattle.std.proofs.Common.{◌+◌, refl, arith}
use Rattle.pgn_frames.proofs.FrontLaws.{Front-body_cut, Front-query, Front-query_cut, Front-too_long, Front-too_short}
use Rattle.pgn_frames.proofs.message.front_of_query.Goals as goal
use Rattle.pgn_frames.proofs.message.front_of_query.Goals.{then-len-lt-QUERY_LENGTH_MIN-via-then-len-lt-QUERY_LENGTH_MIN, then-len-lt-QUERY_LENGTH_MIN-via-else-len-lt-QUERY_LENGTH_MIN+then-len-gt-QUERY_LENGTH_MAX}

pub returns-then-bytes-lt-BODY_AT : goal.returns-then-bytes-lt-BODY_AT
returns-then-bytes-lt-BODY_AT c = Front-query_cut c.args.bytes.now c.requires.letter c.requires.some c.if-bytes-lt-BODY_AT.true

pub returns-then-len-lt-QUERY_LENGTH_MIN : goal.returns-then-len-lt-QUERY_LENGTH_MIN
returns-then-len-lt-QUERY_LENGTH_MIN c = elim c.then-len-lt-QUERY_LENGTH_MIN.branch [
  | then-len-lt-QUERY_LENGTH_MIN-via-then-len-lt-QUERY_LENGTH_MIN w ↦
      Front-too_short c.args.bytes.now c.length_of-len.result c.requires.letter c.if-bytes-lt-BODY_AT.false c.length_of-len.ensures w.if-len-lt-QUERY_LENGTH_MIN.true
  | then-len-lt-QUERY_LENGTH_MIN-via-else-len-lt-QUERY_LENGTH_MIN+then-len-gt-QUERY_LENGTH_MAX w ↦
      Front-too_long c.args.bytes.now c.length_of-len.result c.requires.letter c.if-bytes-lt-BODY_AT.false c.length_of-len.ensures w.if-len-gt-QUERY_LENGTH_MAX.true
]

pub returns-then-bytes-end : goal.returns-then-bytes-end
returns-then-bytes-end c =
    Front-body_cut c.args.bytes.now c.length_of-len.result c.requires.letter c.if-bytes-lt-BODY_AT.false c.length_of-len.ensures c.if-len-lt-QUERY_LENGTH_MIN.false c.if-len-gt-QUERY_LENGTH_MAX.false (omega arith)

pub returns : goal.returns
returns c =
    Front-query c.args.bytes.now c.length_of-len.result (c.length_of-len.result + 1) c.requires.letter c.if-bytes-lt-BODY_AT.false c.length_of-len.ensures c.if-len-lt-QUERY_LENGTH_MIN.false
    c.if-len-gt-QUERY_LENGTH_MAX.false refl c.if-bytes-end.false
