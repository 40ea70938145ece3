use Rattle.std.proofs.Common.{◌≡◌, drop}
use Rattle.pgn_check.specs.Entries.{repeats_after}
use Rattle.pgn_check.proofs.entries.put_all.Given as goal

abbrev pub invariant-loop-note : goal.invariant-loop-note
invariant-loop-note l = repeats_after l.seen.keys (drop l.note-index l.notes) ≡ repeats_after l.fn.seen.keys l.notes
