-- Where a session stands: what it begins with, and what changes one part of it.
use Rattle.std.proofs.Common.{◌≡◌, ℕ, ◌≤◌, List, [], drop, None, sym, ap, refl, arith}
use Rattle.std.proofs.lemmas.List.Elements.{All-nil}
use Rattle.pgn_journal.specs.declared.tx.Tx.{Tx}
use Rattle.pgn_due.specs.Next.{IsWatch}
use Rattle.pgn_language.specs.declared.scenario.Section.{Section}
use Rattle.pgn_model.specs.Walk.{Owed, State, start}
use Rattle.pgn_block.specs.Views.{BlockView, idle_view}
use Rattle.pgn_walk.specs.declared.standing.Standing.{Standing}
use Rattle.pgn_ledger.specs.declared.to_show.ToShow.{ToShow}
use Rattle.pgn_ledger.specs.declared.to_show.ToShow.TheVariants as show
use Rattle.pgn_ledger.specs.ToShow.{owed_of}
use Rattle.pgn_walk.specs.Standing.{AreKnown, Holds, IsGreatestMark}

no_mark : IsGreatestMark [] 0
no_mark point = (λ h. omega arith, λ h. All-nil (λ (mark : ℕ). mark ≤ point))

no_flag : AreKnown [] [] []
no_flag = record {
  greatest = λ flag value. (λ h. tt, λ h. (λ k d lt. absurd (omega (arith, lt)), λ k d lt. absurd (omega (arith, lt))));
  unknown = λ flag. (λ h. refl, λ h. (λ k d lt. absurd (omega (arith, lt)), λ k d lt. absurd (omega (arith, lt))));
}

-- a walk that stands at the beginning keeps what the first state has
pub holds_first : (section : Section) (journal : List Tx) (at : Standing) → at.next ≡ 0 → at.owed ≡ show.Nothing → at.block ≡ idle_view → at.set.channels ≡ [] → at.mark ≡ None → at.told ≡ 3 → at.greatest ≡ 0 → at.known.entries ≡ []
    → IsWatch journal section.db at.set.channels at.mark at.watch → Holds section journal at (start section)
holds_first section journal at next owed block set mark told greatest known watch = record {
  rest = ap (λ (k : ℕ). drop k section.lines) (sym next);
  owed = ap owed_of (sym owed);
  block = ap (λ (v : BlockView). v.state) (sym block);
  changes = ap (λ (v : BlockView). v.kept) (sym block);
  set = sym set;
  mark = sym mark;
  told = sym told;
  marks = rw greatest no_mark;
  flags = rw known no_flag;
  watch = watch;
}

-- something else is left to show
pub holds_owed : (section : Section) (journal : List Tx) (at : Standing) (s : State) (left : ToShow) (owed : Owed) → Holds section journal at s → owed ≡ owed_of left
    → Holds section journal (record at { owed = left }) (record s { owed = owed })
holds_owed section journal at s left owed h e = record {
  rest = h.rest;
  owed = e;
  block = h.block;
  changes = h.changes;
  set = h.set;
  mark = h.mark;
  told = h.told;
  marks = h.marks;
  flags = h.flags;
  watch = h.watch;
}
