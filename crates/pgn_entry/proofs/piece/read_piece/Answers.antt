use Rattle.pgn_entry.specs.Reading.{ReadsAs, told}
use Rattle.std.proofs.Common.{Ok, subst}
use Rattle.pgn_entry.proofs.PieceReads.{never-refused, piece-read}
use Rattle.pgn_entry.proofs.piece.read_piece.Goals as goal

pub unreachable-requires : goal.unreachable-requires
unreachable-requires c = never-refused c.args.format c.args.bytes.now c.in-Err.field-0 c.requires (subst (λ r. ReadsAs c.args.format c.args.bytes.now (told r)) c.in-Err.is c.read_entry.ensures.reads)

pub returns : goal.returns
returns c = λ piece sound e. piece-read c.args.format piece c.args.bytes.now (told (Ok c.in-Ok.view)) sound e (subst (λ r. ReadsAs c.args.format c.args.bytes.now (told r)) c.in-Ok.is c.read_entry.ensures.reads)
