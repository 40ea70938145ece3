-- Which notifications can be sent.
use Rattle.pgn_base.specs.Texts.{IsName, IsPayload}
use Rattle.pgn_base.specs.declared.note.Note.{Note}

-- what holds of each notification: its channel is a name and its payload a payload
pub record IsNote (note : Note) : Type 0 where
  pub name : IsName note.channel
  pub text : IsPayload note.payload
