-- Before which lines a session reads with the set that it has.
use Rattle.std.specs.Prelude.{◌≡◌, true, List, drop}
use Rattle.pgn_answers.specs.declared.block_state.BlockState.{BlockState}
use Rattle.pgn_answers.specs.declared.block_state.BlockState.TheVariants.{Idle}
use Rattle.pgn_hub.specs.declared.known.Known.{Known}
use Rattle.pgn_language.specs.declared.scenario.Act.{Act}
use Rattle.pgn_model.specs.declared.item.Item.{Item}
use Rattle.pgn_model.specs.Trace.{IsReadUp, reads_first, next_reads_first}
use Rattle.pgn_session.specs.declared.doing.Doing.TheVariants.{Lines}
use Rattle.pgn_session.specs.declared.session.Session.{Session}
use Rattle.pgn_session.specs.Parts.{HasFinished}

-- the listener has read up to what it was told of
abbrev pub HasReadTold : Known → Type 0
HasReadTold k = IsReadUp k.mark k.told

-- outside of a block a listener has read up to what it was told of, if it is to before a line that does this
abbrev pub HasReadFor : Act → BlockState → Known → Type 0
HasReadFor act state k = state ≡ Idle → reads_first act ≡ true → HasReadTold k

-- the session stands between two lines, no block is open, and a line comes next that listens or opens a block
pub record IsToReadFirst {P : Type 0} (s : Session P) : Type 0 where
  pub between : s.doing ≡ Lines
  pub outside : s.block.state ≡ Idle
  pub next : next_reads_first (drop s.done s.section.lines) ≡ true

-- it has read before such a line, and before no other
pub record HasReadFirst {P : Type 0} (s : Session P) (old new : Known) (after : List Item) : Type 0 where
  pub read : IsToReadFirst s → HasFinished old new s.set.channels s.items.items after
  pub else_same : (IsToReadFirst s → ⊥) → (new ≡ old)
  pub else_unshown : (IsToReadFirst s → ⊥) → (after ≡ s.items.items)
