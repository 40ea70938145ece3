-- What comes of the clients of seats that were served.
use Rattle.std.proofs.Common.{◌≡◌, ℕ, ◌⊎◌, List, Option, Some, None, IfSome, IsSomeAnd, inl, inr, refl, subst, sym, ap}
use Rattle.std.specs.Io.KnownBytes.{Appends}
use Rattle.pgn_base.specs.Outside.{AppendsPrefix}
use Rattle.pgn_frames.specs.declared.frame_fault.FrameFault.{FrameFault}
use Rattle.pgn_frames.specs.Frames.{Frame, FramesAre}
use Rattle.pgn_frames.proofs.FrameLaws.{one_framing}
use Rattle.pgn_run.specs.declared.status.Status.{Status}
use Rattle.pgn_run.specs.declared.status.Status.TheVariants.{Done, BadWords, BadScenario, ReadFault, WriteFault, NoMemory, BadWire, BadFrame, Illegal, NoOutput, CheckTooLarge}
use Rattle.pgn_service.specs.Service.{ServesAll, ServesFirst, ServesInPart, StopsServing}
use Rattle.pgn_run.specs.Run.{AnswersServe, HasFrames}

-- an input ends in one way
one-end : (seats : ℕ) (bytes : List ℕ) (frames : List Frame) (a b : Option FrameFault) → FramesAre seats 0 bytes frames a → HasFrames seats bytes b → a ≡ b
one-end seats bytes frames a b are h = (one_framing seats 0 bytes frames h.frames a b are h.are).1

module _ (seats : ℕ) (left old new : Option (List ℕ)) (status : Status) (answers : IfSome left (λ bytes. AnswersServe seats bytes old new status)) where
  -- the answer where it is known
  answered : (other : Status) → status ≡ other → IfSome left (λ bytes. AnswersServe seats bytes old new other)
  answered other e = subst (λ (s : Status). IfSome left (λ bytes. AnswersServe seats bytes old new s)) e answers

  -- a service that is done has served all frames of what was left
  pub done-serve : status ≡ Done → IfSome left (λ bytes. ServesAll seats bytes None (Appends old new))
  done-serve e = answered Done e

  -- one whose input is at fault has served all frames before
  pub bad-serve : (fault : FrameFault) → status ≡ BadFrame fault → IfSome left (λ bytes. ServesAll seats bytes (Some fault) (Appends old new))
  bad-serve fault e = answered (BadFrame fault) e

  -- after a write fault a prefix of what was told stands written
  pub write-serve : status ≡ WriteFault → IfSome left (λ bytes. ServesInPart seats bytes (AppendsPrefix old new))
  write-serve e = answered WriteFault e

  -- after a read fault the frames that were read were served
  pub read-serve : (asked : ℕ) → asked ≡ seats → status ≡ ReadFault → IfSome left (λ bytes. ServesFirst asked bytes (Appends old new))
  read-serve asked same e = subst (λ (n : ℕ). IfSome left (λ bytes. ServesFirst n bytes (Appends old new))) (sym same) (answered ReadFault e)

  -- where memory did not suffice whole turns were told, or nothing
  pub memory-serve : (asked : ℕ) → asked ≡ seats → status ≡ NoMemory → (new ≡ old) ⊎ IfSome left (λ bytes. StopsServing asked bytes (Appends old new))
  memory-serve asked same e = subst (λ (n : ℕ). (new ≡ old) ⊎ IfSome left (λ bytes. StopsServing n bytes (Appends old new))) (sym same) (either left (answered NoMemory e))
    where
      either : (known : Option (List ℕ)) → IfSome known (λ bytes. AnswersServe seats bytes old new NoMemory) → (new ≡ old) ⊎ IfSome known (λ bytes. StopsServing seats bytes (Appends old new))
      either None h = inr tt
      either (Some bytes) h = h

-- an input with a fault is refused for it, where no read and no write failed
refused : (seats : ℕ) (left old new : Option (List ℕ)) (status : Status) (fault : FrameFault) (Reads Writes : Type 0) → IfSome left (λ bytes. AnswersServe seats bytes old new status)
    → IsSomeAnd left (λ bytes. HasFrames seats bytes (Some fault)) → (status ≡ ReadFault → Reads) → (status ≡ WriteFault → Writes) → ¬ Reads → ¬ Writes → (status ≡ BadFrame fault) ⊎ (status ≡ NoMemory)
refused seats None old new status fault Reads Writes answers ends read write no_read no_write = absurd ends
refused seats (Some bytes) old new Done fault Reads Writes answers ends read write no_read no_write =
    let same : None ≡ Some fault = one-end seats bytes answers.frames None (Some fault) answers.are ends in
    absurd (cc)
refused seats (Some bytes) old new BadWords fault Reads Writes answers ends read write no_read no_write = absurd answers
refused seats (Some bytes) old new (Illegal line) fault Reads Writes answers ends read write no_read no_write = absurd answers
refused seats (Some bytes) old new NoOutput fault Reads Writes answers ends read write no_read no_write = absurd answers
refused seats (Some bytes) old new CheckTooLarge fault Reads Writes answers ends read write no_read no_write = absurd answers
refused seats (Some bytes) old new (BadScenario other) fault Reads Writes answers ends read write no_read no_write = absurd answers
refused seats (Some bytes) old new (BadWire other) fault Reads Writes answers ends read write no_read no_write = absurd answers
refused seats (Some bytes) old new ReadFault fault Reads Writes answers ends read write no_read no_write = absurd (no_read (read refl))
refused seats (Some bytes) old new WriteFault fault Reads Writes answers ends read write no_read no_write = absurd (no_write (write refl))
refused seats (Some bytes) old new NoMemory fault Reads Writes answers ends read write no_read no_write = inr refl
refused seats (Some bytes) old new (BadFrame other) fault Reads Writes answers ends read write no_read no_write =
    let same : Some other ≡ Some fault = one-end seats bytes answers.frames (Some other) (Some fault) answers.are ends in
    let faults : other ≡ fault = cc in
    inl (ap BadFrame faults)

-- an input at fault is refused, where nothing fails, or memory does not suffice
pub serve-refused : (asked seats : ℕ) (left old new : Option (List ℕ)) (status : Status) (fault : FrameFault) (Reads Writes : Type 0) → asked ≡ seats → IfSome left (λ bytes. AnswersServe seats bytes old new status)
    → IsSomeAnd left (λ bytes. HasFrames asked bytes (Some fault)) → (status ≡ ReadFault → Reads) → (status ≡ WriteFault → Writes) → ¬ Reads → ¬ Writes → (status ≡ BadFrame fault) ⊎ (status ≡ NoMemory)
serve-refused asked seats left old new status fault Reads Writes same answers ends read write no_read no_write =
    refused seats left old new status fault Reads Writes answers (subst (λ (n : ℕ). IsSomeAnd left (λ bytes. HasFrames n bytes (Some fault))) same ends) read write no_read no_write

-- and one without is served to its end
completes : (seats : ℕ) (left old new : Option (List ℕ)) (status : Status) (Reads Writes : Type 0) → IfSome left (λ bytes. AnswersServe seats bytes old new status)
    → IsSomeAnd left (λ bytes. HasFrames seats bytes None) → (status ≡ ReadFault → Reads) → (status ≡ WriteFault → Writes) → ¬ Reads → ¬ Writes → (status ≡ Done) ⊎ (status ≡ NoMemory)
completes seats None old new status Reads Writes answers ends read write no_read no_write = absurd ends
completes seats (Some bytes) old new Done Reads Writes answers ends read write no_read no_write = inl refl
completes seats (Some bytes) old new BadWords Reads Writes answers ends read write no_read no_write = absurd answers
completes seats (Some bytes) old new (Illegal line) Reads Writes answers ends read write no_read no_write = absurd answers
completes seats (Some bytes) old new NoOutput Reads Writes answers ends read write no_read no_write = absurd answers
completes seats (Some bytes) old new CheckTooLarge Reads Writes answers ends read write no_read no_write = absurd answers
completes seats (Some bytes) old new (BadScenario other) Reads Writes answers ends read write no_read no_write = absurd answers
completes seats (Some bytes) old new (BadWire other) Reads Writes answers ends read write no_read no_write = absurd answers
completes seats (Some bytes) old new ReadFault Reads Writes answers ends read write no_read no_write = absurd (no_read (read refl))
completes seats (Some bytes) old new WriteFault Reads Writes answers ends read write no_read no_write = absurd (no_write (write refl))
completes seats (Some bytes) old new NoMemory Reads Writes answers ends read write no_read no_write = inr refl
completes seats (Some bytes) old new (BadFrame other) Reads Writes answers ends read write no_read no_write =
    let same : Some other ≡ None = one-end seats bytes answers.frames (Some other) None answers.are ends in
    absurd (cc)

-- an input without a fault is served to its end, where nothing fails, or memory does not suffice
pub serve-completes : (asked seats : ℕ) (left old new : Option (List ℕ)) (status : Status) (Reads Writes : Type 0) → asked ≡ seats → IfSome left (λ bytes. AnswersServe seats bytes old new status)
    → IsSomeAnd left (λ bytes. HasFrames asked bytes None) → (status ≡ ReadFault → Reads) → (status ≡ WriteFault → Writes) → ¬ Reads → ¬ Writes → (status ≡ Done) ⊎ (status ≡ NoMemory)
serve-completes asked seats left old new status Reads Writes same answers ends read write no_read no_write =
    completes seats left old new status Reads Writes answers (subst (λ (n : ℕ). IsSomeAnd left (λ bytes. HasFrames n bytes None)) same ends) read write no_read no_write
