use Rattle.std.proofs.Common.{arith, refl}
use Rattle.pgn_journal.specs.Pieces.{draft}
use Rattle.pgn_words.specs.Passes.{known_of, view_of}
use Rattle.pgn_words.proofs.StatusKept.{status_bits_allowed}
use Rattle.pgn_words.proofs.pass.WordQueue.set_status_as.Goals as goal

pub fetch_or-requires : goal.fetch_or-requires
fetch_or-requires g c =
    let pass = c.args.pass.now in
    let counted = c.args.self.now.counted in
    let within = c.word_of_status-word.ensures.within in (
      c.requires.own.table,
      omega (arith, counted, within),
      status_bits_allowed c.args.self.now.table.shared.key _ _ _ c.args.xid _ _
          (draft (known_of pass).session (known_of pass).db (view_of pass).pen.notes c.args.queued c.args.fate) _
          c.status_bits.ensures c.requires.given c.word_of_status-word.ensures.value c.requires.phase c.requires.number c.requires.reach c.requires.ends refl refl refl,
    )
