-- What holds of a session that answers the queries of a client.
use Rattle.std.specs.Prelude.{◌≡◌, ℕ, ◌+◌, Bool, true, false, List, [], ◌∷◌, ◌++◌, Option, None, Some, Result, Ok, Err, IfSome}
use Rattle.std.specs.Io.KnownBytes.{Appends}
use Rattle.pgn_base.specs.Outside.{AppendsPrefix}
use Rattle.pgn_base.specs.declared.command.Command.{Command}
use Rattle.pgn_language.specs.declared.scenario.Act.TheVariants.{Run}
use Rattle.pgn_language.specs.declared.scenario.ScriptLine.{ScriptLine}
use Rattle.pgn_language.specs.declared.scenario.Section.{Section}
use Rattle.pgn_language.specs.Inputs.{note_lines_of}
use Rattle.pgn_model.specs.declared.item.Item.{Item}
use Rattle.pgn_model.specs.declared.item.Item.TheVariants.{Line}
use Rattle.pgn_hub.specs.declared.known.Known.{Known}
use Rattle.pgn_hub.specs.Shape.{Shape}
use Rattle.pgn_session.specs.declared.session.Session.{Session}
use Rattle.pgn_session.specs.declared.doing.Doing.TheVariants.{Lines}
use Rattle.pgn_session.specs.Whole.{HasRest}
use Rattle.pgn_session.specs.Feed.{fed}
use Rattle.pgn_session.specs.Open.{HasReadOutside, HasStood, IsOpen, IsSameClient}
use Rattle.pgn_session.specs.Standing.{IsServedBy}
use Rattle.pgn_queries.specs.declared.wire_fault.WireFault.{WireFault}
use Rattle.pgn_queries.specs.Client.{OfKnown}
use Rattle.pgn_queries.specs.Queries.{Place, QueriesAre, queries}
use Rattle.pgn_messages.specs.Messages.{answer_messages, messages}
use Rattle.pgn_wire.specs.declared.wire_end.WireEnd.{WireEnd}
use Rattle.pgn_wire.specs.declared.wire_end.WireEnd.TheVariants.{Bad, Read, Write, Memory}

-- a session that may take a query: its script is open, it left no read out, and outside a block it has read up to what it was told of
pub record IsReady {P : Type 0} (is_own : P → Type 0) (shape : Shape) (known : P → Known) (s : Session P) : Type 0 where
  pub own : is_own s.pass
  pub served : IsServedBy shape s.section s.plan
  pub rested : HasRest shape known s
  pub read_up : HasReadOutside known s
  pub is_open : IsOpen s

-- each query that was asked has its whole answer, and no read was left out: but for the `\quit` the script is done
pub record HasAnsweredAll {P : Type 0} (shape : Shape) (known : P → Known) (s : Session P) : Type 0 where
  pub is_open : IsOpen s
  pub rested : HasRest shape known s

-- P holds where the client was still asked: its bytes are at fault, or the source failed
abbrev pub WhereAsked : WireEnd → Type 0 → Type 0
WhereAsked (Bad fault) P = P
WhereAsked Read P = P
WhereAsked end P = Unit {0}

-- the first of the items begins a line, if there is one
abbrev pub BeginsByLine : List Item → Type 0
BeginsByLine [] = Unit {0}
BeginsByLine (Line n ∷ items) = Unit {0}
BeginsByLine (item ∷ items) = ⊥

-- the messages of the items up to where a line begins, or of all
pub record AreWhole (section : Section) (items : List Item) (written : List ℕ) : Type 0 where
  pub front : List Item
  pub behind : List Item
  pub split : items ≡ front ++ behind
  pub line : BeginsByLine behind
  pub are : written ≡ messages section front

-- known bytes grew by whole answers to the first of the lines
pub record WroteWhole (held now : Option (List ℕ)) (section : Section) (items : List Item) : Type 0 where
  pub written : List ℕ
  pub whole : AreWhole section items written
  pub wrote : Appends held now written

-- what stands written, by how a session ended: all messages of its trace; a prefix of them, where the sink failed; or whole answers to the
-- first of the lines, where memory did not suffice
abbrev pub HasWritten : {T : Type 0} → Result T WireEnd → Option (List ℕ) → Option (List ℕ) → Section → List Item → Type 0
HasWritten (Ok x) held now section items = Appends held now (messages section items)
HasWritten (Err (Bad fault)) held now section items = Appends held now (messages section items)
HasWritten (Err Read) held now section items = Appends held now (messages section items)
HasWritten (Err Write) held now section items = AppendsPrefix held now (messages section items)
HasWritten (Err Memory) held now section items = WroteWhole held now section items

-- a query was taken: its line stands before the `\quit`, and has its whole answer
pub record HasTaken {P : Type 0} (old : Session P) (line : ScriptLine) (new : Session P) : Type 0 where
  pub command : Command
  pub does : line.act ≡ Run command
  pub section : new.section ≡ fed old.section line
  pub more : List Item
  pub shown : new.items.items ≡ old.items.items ++ Line line.line ∷ more
  pub kept : messages new.section old.items.items ≡ messages old.section old.items.items
  pub answers : messages new.section new.items.items ≡ messages old.section old.items.items ++ answer_messages command more new.block.state
  pub counted : new.done ≡ old.done + 1
  pub between : new.doing ≡ Lines

-- memory did not suffice: the trace is lawful so far, no message of the items so far has changed, and what is behind them begins by a line
pub record HasStopped {P : Type 0} (shape : Shape) (known : P → Known) (old new : Session P) : Type 0 where
  pub stood : HasStood shape known new
  pub behind : List Item
  pub shown : new.items.items ≡ old.items.items ++ behind
  pub line : BeginsByLine behind
  pub same : messages new.section old.items.items ≡ messages old.section old.items.items

-- the lines of the section are the queries of these bytes, which end so, and then the last. As many may notify as the section may
pub record AsksAll (bytes : List ℕ) (fault : Option WireFault) (last : ScriptLine) (section : Section) : Type 0 where
  pub lines : List ScriptLine
  pub split : section.lines ≡ lines ++ last ∷ []
  pub reads : queries section.note_lines bytes lines fault

-- the lines of the section are queries of these bytes, from the first on, and then the last. As many may notify as the section may
pub record HasAsked (bytes : List ℕ) (last : ScriptLine) (section : Section) : Type 0 where
  pub lines : List ScriptLine
  pub split : section.lines ≡ lines ++ last ∷ []
  pub more : List ScriptLine
  pub fault : Option WireFault
  pub reads : queries section.note_lines bytes (lines ++ more) fault

-- by how a session ended: all queries were asked, and no fault ends them or this one
abbrev pub AsksBy : {T : Type 0} → Result T WireEnd → Option (List ℕ) → ScriptLine → Section → Type 0
AsksBy (Ok x) start last section = IfSome start (λ bytes. AsksAll bytes None last section)
AsksBy (Err (Bad fault)) start last section = IfSome start (λ bytes. AsksAll bytes (Some fault) last section)
AsksBy (Err other) start last section = IfSome start (λ bytes. HasAsked bytes last section)

-- whatever queries come from this place on, the client's bytes have these lines first and then those
abbrev pub AsksFirst : Place → List ScriptLine → List ℕ → List ℕ → Type 0
AsksFirst place front bytes rest = (lines : List ScriptLine) (fault : Option WireFault) → QueriesAre place rest lines fault → queries place.most bytes (front ++ lines) fault

-- a session that was given as `start` has answered all queries up to where the reader stands, and nothing else was written. Before the
-- first query `bytes` were left to be read and `held` was written
pub record IsServing {P : Type 0} (start s : Session P) (place : Place) (bytes left held now : Option (List ℕ)) : Type 0 where
  pub same : IsSameClient start s
  pub is_open : IsOpen s
  pub begun : start.section.lines ≡ is_open.ends.last ∷ []
  pub notes : note_lines_of s.section.lines ≡ place.notes
  pub most : place.most ≡ s.section.note_lines
  pub asked : OfKnown (AsksFirst place is_open.ends.front) bytes left
  pub wrote : Appends held now (messages s.section s.items.items)

-- the client is asked no more: what stands written, and which queries were asked, by how it ended
pub record HasEnded {P T : Type 0} (result : Result T WireEnd) (start s : Session P) (bytes held now : Option (List ℕ)) : Type 0 where
  pub same : IsSameClient start s
  pub written : HasWritten result held now s.section s.items.items
  pub asked : (last : ScriptLine) → start.section.lines ≡ last ∷ [] → AsksBy result bytes last s.section

-- what a turn came to: a query was answered, and it goes on so; there was none; or the client was not served
abbrev pub TurnsInto : {P : Type 0} → Result Bool WireEnd → Session P → Session P → Place → Option (List ℕ) → Option (List ℕ) → Option (List ℕ) → Option (List ℕ) → Type 0
TurnsInto {P} (Ok true) start s place bytes left held now = IsServing start s place bytes left held now
TurnsInto {P} (Ok false) start s place bytes left held now = HasEnded {P = P} {T = Bool} (Ok false) start s bytes held now
TurnsInto {P} (Err end) start s place bytes left held now = HasEnded {P = P} {T = Bool} (Err end) start s bytes held now
