use Rattle.std.proofs.Common.{◌≡◌, ◌≤◌, ◌++◌, length, vec_capacity}
use Rattle.pgn_block.proofs.pending.in_list.Given as goal

abbrev pub invariant-loop-note : goal.invariant-loop-note
invariant-loop-note l = record {
  all : l.notes.items ++ l.note-iterator ≡ l.fn.set.keys;
  fits : length l.fn.set.keys ≤ vec_capacity l.notes;
}
