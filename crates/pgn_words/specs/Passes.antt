-- A queue and its passes, as callers see them.
use Rattle.std.specs.Prelude.{◌≡◌, true, [], length, ◌<◌, ◌≤◌, None}
use Rattle.pgn_hub.specs.declared.known.Known.{Known}
use Rattle.pgn_hub.specs.Shape.{Shape}
use Rattle.pgn_words.specs.declared.view.View.{View}
use Rattle.pgn_words.specs.declared.pass.WordQueue.{WordQueue}
use Rattle.pgn_words.specs.declared.pass.WordPass.{WordPass}
use Rattle.pgn_words.specs.declared.pass.WordNote.{WordNote}
use Rattle.pgn_words.specs.declared.view.Phase.TheVariants.{Free}
use Rattle.pgn_words.specs.declared.view.Listen.TheVariants.{Out}
use Rattle.pgn_words.specs.Views.{is_settled}
use Rattle.pgn_words.specs.Positions.{listens_at}

-- what the queue was opened for
abbrev pub shape_of : WordQueue → Shape
shape_of queue = queue.table.shared.key

-- what the rule sees of the pass
abbrev pub view_of : WordPass → View
view_of pass = pass.seat.me.0

-- what is known of the pass
abbrev pub known_of : WordPass → Known
known_of pass = (view_of pass).known

-- the pass is one of the queue's
pub record IsPassOf (queue : WordQueue) (pass : WordPass) : Type 0 where
  pub table : pass.seat.table_id ≡ queue.table.shared.table_id
  pub bare : pass.seat.me.1 ≡ []
  pub setup : pass.seat.me.0.setup ≡ queue.table.shared.key
  pub number : 0 < pass.seat.me.0.known.session
  pub within : pass.seat.me.0.known.session ≤ length queue.table.shared.key.seats

-- what the rule sees of a note
abbrev pub noted_view : WordNote → View
noted_view note = note.seat.me.0

-- the note is of one of the queue's passes
pub record IsNoteOf (queue : WordQueue) (note : WordNote) : Type 0 where
  pub table : note.seat.table_id ≡ queue.table.shared.table_id
  pub bare : note.seat.me.1 ≡ []
  pub number : note.seat.me.0.known.session ≡ 0

-- the pass is as it was opened: it does not hold the lock, was told of nothing, and is no listener
pub record IsFresh (pass : WordPass) : Type 0 where
  pub free : (view_of pass).phase ≡ Free
  pub told : (view_of pass).ended ≡ None
  pub decided : (view_of pass).verdicts ≡ []
  pub out : (view_of pass).post.listen ≡ Out
  pub alone : (view_of pass).joined ≡ []

-- between the calls of a hub a pass neither holds the lock nor joins
pub record IsAtRest (view : View) : Type 0 where
  pub free : view.phase ≡ Free
  pub told : view.ended ≡ None
  pub decided : view.verdicts ≡ []
  pub settled : is_settled view.post.listen ≡ true
  pub alone : view.joined ≡ []
  -- a listener has its mark, and nobody else has one
  pub listens : view.known.mark ≡ listens_at view.post
