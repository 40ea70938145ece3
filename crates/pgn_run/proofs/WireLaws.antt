-- What comes of a client that was served.
use Rattle.std.proofs.Common.{◌≡◌, ℕ, ◌⊎◌, List, Option, Some, None, IfSome, IsSomeAnd, inl, inr, refl, subst, ap}
use Rattle.std.specs.Io.KnownBytes.{Appends}
use Rattle.pgn_base.specs.declared.limits.TheConstants.{NOTE_LINES_MAX}
use Rattle.pgn_base.specs.Outside.{AppendsPrefix}
use Rattle.pgn_language.specs.declared.scenario.ScriptLine.{ScriptLine}
use Rattle.pgn_messages.specs.Messages.{messages}
use Rattle.pgn_queries.specs.declared.wire_fault.WireFault.{WireFault}
use Rattle.pgn_queries.specs.Queries.{first_place, queries}
use Rattle.pgn_queries.proofs.OneLaws.{one_reading}
use Rattle.pgn_wire.specs.Serving.{WroteWhole}
use Rattle.pgn_run.specs.declared.status.Status.{Status}
use Rattle.pgn_run.specs.declared.status.Status.TheVariants.{Done, BadWords, BadScenario, ReadFault, WriteFault, NoMemory, BadWire, BadFrame, Illegal, NoOutput, CheckTooLarge}
use Rattle.pgn_service.specs.Conversation.{BreaksOff, Converses, StopsAmong, StopsBetween}
use Rattle.pgn_run.specs.Run.{AnswersWire, EndsIn}

-- bytes end in one way
one-end : (bytes : List ℕ) (lines : List ScriptLine) (a b : Option WireFault) → queries NOTE_LINES_MAX bytes lines a → EndsIn bytes b → a ≡ b
one-end bytes lines a b reads h = (one_reading (first_place NOTE_LINES_MAX) bytes lines h.lines a b reads h.reads).1

module _ (left old new : Option (List ℕ)) (status : Status) (answers : IfSome left (λ bytes. AnswersWire bytes old new status)) where
  -- the answer where it is known
  answered : (other : Status) → status ≡ other → IfSome left (λ bytes. AnswersWire bytes old new other)
  answered other e = subst (λ (s : Status). IfSome left (λ bytes. AnswersWire bytes old new s)) e answers

  -- a client that is done was answered all that it asked
  pub done-wire : status ≡ Done → IfSome left (λ bytes. Converses bytes (Appends old new))
  done-wire e = answered Done e

  -- one that sent something at fault was answered all before
  pub bad-wire : (fault : WireFault) → status ≡ BadWire fault → IfSome left (λ bytes. BreaksOff bytes fault (Appends old new))
  bad-wire fault e = answered (BadWire fault) e

  -- after a read fault all that was read whole was answered
  pub read-wire : status ≡ ReadFault → IfSome left (λ bytes. StopsBetween bytes (Appends old new))
  read-wire e = answered ReadFault e

  -- after a write fault a prefix of the answers stands written
  pub write-wire : status ≡ WriteFault → IfSome left (λ bytes. StopsAmong bytes (λ section items. AppendsPrefix old new (messages section items)))
  write-wire e = answered WriteFault e

  -- where memory did not suffice whole answers were written
  pub memory-wire : status ≡ NoMemory → IfSome left (λ bytes. StopsAmong bytes (WroteWhole old new))
  memory-wire e = answered NoMemory e

-- bytes with a fault are refused for it, where no read and no write failed
pub wire-refused : (left old new : Option (List ℕ)) (status : Status) (fault : WireFault) (Reads Writes : Type 0) → IfSome left (λ bytes. AnswersWire bytes old new status)
    → IsSomeAnd left (λ bytes. EndsIn bytes (Some fault)) → (status ≡ ReadFault → Reads) → (status ≡ WriteFault → Writes) → ¬ Reads → ¬ Writes → (status ≡ BadWire fault) ⊎ (status ≡ NoMemory)
wire-refused None old new status fault Reads Writes answers ends read write no_read no_write = absurd ends
wire-refused (Some bytes) old new Done fault Reads Writes answers ends read write no_read no_write =
    let same : None ≡ Some fault = one-end bytes answers.lines None (Some fault) answers.reads ends in
    absurd (cc)
wire-refused (Some bytes) old new BadWords fault Reads Writes answers ends read write no_read no_write = absurd answers
wire-refused (Some bytes) old new (Illegal line) fault Reads Writes answers ends read write no_read no_write = absurd answers
wire-refused (Some bytes) old new NoOutput fault Reads Writes answers ends read write no_read no_write = absurd answers
wire-refused (Some bytes) old new (BadFrame other) fault Reads Writes answers ends read write no_read no_write = absurd answers
wire-refused (Some bytes) old new CheckTooLarge fault Reads Writes answers ends read write no_read no_write = absurd answers
wire-refused (Some bytes) old new (BadScenario other) fault Reads Writes answers ends read write no_read no_write = absurd answers
wire-refused (Some bytes) old new ReadFault fault Reads Writes answers ends read write no_read no_write = absurd (no_read (read refl))
wire-refused (Some bytes) old new WriteFault fault Reads Writes answers ends read write no_read no_write = absurd (no_write (write refl))
wire-refused (Some bytes) old new NoMemory fault Reads Writes answers ends read write no_read no_write = inr refl
wire-refused (Some bytes) old new (BadWire other) fault Reads Writes answers ends read write no_read no_write =
    let same : Some other ≡ Some fault = one-end bytes answers.lines (Some other) (Some fault) answers.reads ends in
    let faults : other ≡ fault = cc in
    inl (ap BadWire faults)

-- and those without one are answered
pub wire-completes : (left old new : Option (List ℕ)) (status : Status) (Reads Writes : Type 0) → IfSome left (λ bytes. AnswersWire bytes old new status)
    → IsSomeAnd left (λ bytes. EndsIn bytes None) → (status ≡ ReadFault → Reads) → (status ≡ WriteFault → Writes) → ¬ Reads → ¬ Writes → (status ≡ Done) ⊎ (status ≡ NoMemory)
wire-completes None old new status Reads Writes answers ends read write no_read no_write = absurd ends
wire-completes (Some bytes) old new Done Reads Writes answers ends read write no_read no_write = inl refl
wire-completes (Some bytes) old new BadWords Reads Writes answers ends read write no_read no_write = absurd answers
wire-completes (Some bytes) old new (Illegal line) Reads Writes answers ends read write no_read no_write = absurd answers
wire-completes (Some bytes) old new NoOutput Reads Writes answers ends read write no_read no_write = absurd answers
wire-completes (Some bytes) old new (BadFrame other) Reads Writes answers ends read write no_read no_write = absurd answers
wire-completes (Some bytes) old new CheckTooLarge Reads Writes answers ends read write no_read no_write = absurd answers
wire-completes (Some bytes) old new (BadScenario other) Reads Writes answers ends read write no_read no_write = absurd answers
wire-completes (Some bytes) old new ReadFault Reads Writes answers ends read write no_read no_write = absurd (no_read (read refl))
wire-completes (Some bytes) old new WriteFault Reads Writes answers ends read write no_read no_write = absurd (no_write (write refl))
wire-completes (Some bytes) old new NoMemory Reads Writes answers ends read write no_read no_write = inr refl
wire-completes (Some bytes) old new (BadWire other) Reads Writes answers ends read write no_read no_write =
    let same : Some other ≡ None = one-end bytes answers.lines (Some other) None answers.reads ends in
    absurd (cc)
