use Rattle.std.proofs.Common.{◌≡◌, ◌<◌, ◌≤◌, ℕ, Option, Some, None, Result, Ok, Err, sym, ap, ◌∙◌, refl, rules, subst}
use Rattle.pgn_frames.specs.declared.frame_fault.FrameFault.{FrameFault}
use Rattle.pgn_frames.specs.declared.framing.NoFrame.{NoFrame}
use Rattle.pgn_frames.specs.declared.framing.NoFrame.TheVariants.{Memory}
use Rattle.pgn_base.specs.Outside.{Rose}
use Rattle.pgn_frames.specs.Reading.{TurnsInto}
use Rattle.pgn_frames.proofs.ReadingLaws.{Turns-to, unrisen}
use Rattle.pgn_frames.proofs.reading.read_on.Goals as goal

-- an answer is no error, and an error is the one that it is
apart : {A E : Type 0} (x : A) (y : E) → Ok x ≡ Err y → ⊥
apart x y e = cc

same_error : {A : Type 0} (m n : NoFrame) → (let r : Result A NoFrame = Err m in r) ≡ Err n → m ≡ n
same_error m n e = cc

pub loop-init : goal.loop-init
loop-init g c = record { size = refl; on = c.requires.on; reads = λ most bytes h. h; same = refl }

pub read_one-requires-clause-each : goal.read_one-requires-clause-each
read_one-requires-clause-each g c = c.requires.each ∙ sym c.loop.invariant.size

pub read_one-requires-clause-few : goal.read_one-requires-clause-few
read_one-requires-clause-few g c = subst (λ (n : ℕ). n ≤ 256) (sym c.loop.invariant.size) c.requires.few

pub read_one-requires-clause-on : goal.read_one-requires-clause-on
read_one-requires-clause-on g c = c.loop.invariant.on

pub read_one-requires-clause-seats : goal.read_one-requires-clause-seats
read_one-requires-clause-seats g c = c.requires.seats ∙ sym c.loop.invariant.size

pub loop-preserved : goal.loop-preserved
loop-preserved g c =
    let is : c.in-Ok-None.field-0 ≡ None = search rules in
    record {
      size = c.read_one.ensures.size ∙ c.loop.invariant.size;
      on = c.in-Ok-None.ensures.on (λ e. let no : ⊥ = cc in no);
      reads = λ most all h.
          subst (λ (o : Option (Option FrameFault)). TurnsInto (Ok o) most c.read_one.new.at all (g.S.Source.left c.read_one.new.source) c.args.seats.now.inboxes.now c.read_one.new.callers) is
          (c.in-Ok-None.ensures.turned most all (c.loop.invariant.reads most all h));
      same = unrisen (g.S.Source.faults c.loop.source) (g.S.Source.faults c.read_one.new.source) c.read_one.ensures.later (λ less. let e = c.in-Ok-None.ensures.rose less in let no : ⊥ = cc in no) ∙ c.loop.invariant.same;
    }

pub returns-in-Ok-Some-clause-on : goal.returns-in-Ok-Some-clause-on
returns-in-Ok-Some-clause-on g c = λ other. c.in-Ok-Some.ensures.on (λ e. let no : ⊥ = cc in no)

pub returns-in-Err-clause-on : goal.returns-in-Err-clause-on
returns-in-Err-clause-on g c = λ other.
    c.in-Err.ensures.on (λ e. let is : c.in-Err.none ≡ Memory = cc in other (ap (λ (n : NoFrame). let r : Result (Option FrameFault) NoFrame = Err n in r) is))

pub returns-in-Ok-Some-clause-reads : goal.returns-in-Ok-Some-clause-reads
returns-in-Ok-Some-clause-reads g c = λ most all h.
    let is : c.in-Ok-Some.field-0 ≡ Some c.in-Ok-Some.fault = search rules in
    subst (λ (o : Option (Option FrameFault)). TurnsInto (Ok o) most c.read_one.new.at all (g.S.Source.left c.read_one.new.source) c.args.seats.now.inboxes.now c.read_one.new.callers) is
    (c.in-Ok-Some.ensures.turned most all (c.loop.invariant.reads most all h))

pub returns-in-Err-clause-reads : goal.returns-in-Err-clause-reads
returns-in-Err-clause-reads g c = λ most all h.
    Turns-to most c.read_one.new.at all (g.S.Source.left c.read_one.new.source) c.args.seats.now.inboxes.now c.read_one.new.callers c.in-Err.none (c.in-Err.ensures.turned most all (c.loop.invariant.reads most all h))

pub returns-in-Ok-Some-clause-size : goal.returns-in-Ok-Some-clause-size
returns-in-Ok-Some-clause-size g c = c.read_one.ensures.size ∙ c.loop.invariant.size

pub returns-in-Err-clause-size : goal.returns-in-Err-clause-size
returns-in-Err-clause-size g c = c.read_one.ensures.size ∙ c.loop.invariant.size

pub returns-in-Ok-Some-clause-later : goal.returns-in-Ok-Some-clause-later
returns-in-Ok-Some-clause-later g c = subst (λ (n : ℕ). n ≤ g.S.Source.faults c.read_one.new.source) c.loop.invariant.same c.read_one.ensures.later

pub returns-in-Err-clause-later : goal.returns-in-Err-clause-later
returns-in-Err-clause-later g c = subst (λ (n : ℕ). n ≤ g.S.Source.faults c.read_one.new.source) c.loop.invariant.same c.read_one.ensures.later

pub returns-in-Ok-Some-clause-failed : goal.returns-in-Ok-Some-clause-failed
returns-in-Ok-Some-clause-failed g c = λ e. absurd (apart _ _ e)

pub returns-in-Err-clause-failed : goal.returns-in-Err-clause-failed
returns-in-Err-clause-failed g c = λ e.
    subst (λ (n : ℕ). Rose n (g.S.Source.faults c.read_one.new.source)) c.loop.invariant.same
    (c.in-Err.ensures.failed (ap (λ (n : NoFrame). let r : Result (Option (Option FrameFault)) NoFrame = Err n in r) (same_error _ _ e)))

pub returns-in-Ok-Some-clause-rose : goal.returns-in-Ok-Some-clause-rose
returns-in-Ok-Some-clause-rose g c = λ less. absurd (apart _ _ (c.in-Ok-Some.ensures.rose (subst (λ (n : ℕ). n < g.S.Source.faults c.read_one.new.source) (sym c.loop.invariant.same) less)))

pub returns-in-Err-clause-rose : goal.returns-in-Err-clause-rose
returns-in-Err-clause-rose g c = λ less.
    ap (λ (n : NoFrame). let r : Result (Option FrameFault) NoFrame = Err n in r)
    (same_error _ _ (c.in-Err.ensures.rose (subst (λ (n : ℕ). n < g.S.Source.faults c.read_one.new.source) (sym c.loop.invariant.same) less)))
