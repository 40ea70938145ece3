use Rattle.pgn_frames.proofs.FrontLaws.{Front-no_terminate, Front-terminate, Front-terminate_cut}
use Rattle.pgn_frames.proofs.message.front_of_terminate.Goals as goal

pub returns-then-bytes-lt-BODY_AT : goal.returns-then-bytes-lt-BODY_AT
returns-then-bytes-lt-BODY_AT c = Front-terminate_cut c.args.bytes.now c.requires.letter c.requires.some c.if-bytes-lt-BODY_AT.true

pub returns-then-length_of-ne-TERMINATE_LENGTH : goal.returns-then-length_of-ne-TERMINATE_LENGTH
returns-then-length_of-ne-TERMINATE_LENGTH c =
    Front-no_terminate c.args.bytes.now c.length_of.result c.requires.letter c.if-bytes-lt-BODY_AT.false c.length_of.ensures c.if-length_of-ne-TERMINATE_LENGTH.true

pub returns : goal.returns
returns c = Front-terminate c.args.bytes.now c.length_of.result c.requires.letter c.if-bytes-lt-BODY_AT.false c.length_of.ensures c.if-length_of-ne-TERMINATE_LENGTH.false
