-- What examples of texts say.
use Rattle.std.specs.Prelude.{◌≡◌, ℕ, false, ◌++◌, ◌∷◌, List}
use Rattle.pgn_base.specs.declared.note.Note.{Note}
use Rattle.pgn_base.specs.declared.command.Command.{Command}
use Rattle.pgn_base.specs.declared.command.Command.TheVariants as command
use Rattle.pgn_requests.specs.declared.complaint.Cause.{Cause}
use Rattle.pgn_requests.specs.declared.request.Request.{Request}
use Rattle.pgn_requests.specs.declared.request.Request.TheVariants.{Settles}
use Rattle.pgn_requests.specs.declared.setting.Setting.{Setting}
use Rattle.pgn_requests.specs.declared.settled.Settled.{Settled}
use Rattle.pgn_requests.specs.declared.settled.Settled.TheVariants.{Sets}
use Rattle.pgn_requests.specs.Phrases.{refused, asked_of, commanded, unread}

-- two lines as one text
abbrev pub lines : List ℕ → List ℕ → List ℕ
lines one other = one ++ 10 ∷ other

-- a text that the grammar refuses at its first byte asks for this
abbrev pub AsksFor : List ℕ → Request → Type 0
AsksFor text request = asked_of text 0 ≡ request

-- it is settled without the session
abbrev pub AsksSettled : List ℕ → Settled → Type 0
AsksSettled text settled = AsksFor text (Settles settled)

-- it gives a setting this value
abbrev pub AsksValue : List ℕ → Setting → List ℕ → Type 0
AsksValue text setting value = AsksSettled text (Sets setting value false)

-- it is a line with this command
abbrev pub AsksCommand : List ℕ → Command → Type 0
AsksCommand text one = AsksFor text (commanded text one)

-- it is a call of pg_notify with this channel and this payload
abbrev pub AsksNote : List ℕ → List ℕ → List ℕ → Type 0
AsksNote text channel payload = let note : Note = record { channel = channel; payload = payload } in AsksCommand text (command.PgNotify note)

-- it is refused, and told why in these words
abbrev pub AsksRefused : List ℕ → Cause → List ℕ → Type 0
AsksRefused text cause words = AsksFor text (refused text 0 cause words)

-- it is refused as a syntax error
abbrev pub AsksNothing : List ℕ → Type 0
AsksNothing text = AsksFor text (unread text 0)
