use Rattle.std.proofs.Common.{sym, ◌∙◌}
use Rattle.pgn_frames.proofs.FrontLaws.{Front-extended, Front-no_type}
use Rattle.pgn_frames.proofs.message.front_of_other.Goals as goal

pub returns-then-is_extended : goal.returns-then-is_extended
returns-then-is_extended c = Front-extended c.args.bytes.now c.args.letter c.requires.letter c.requires.some (sym c.is_extended.ensures ∙ c.if-is_extended.true)

pub returns : goal.returns
returns c = Front-no_type c.args.bytes.now c.args.letter c.requires.letter c.requires.some c.requires.no_query c.requires.no_terminate (sym c.is_extended.ensures ∙ c.if-is_extended.false)
