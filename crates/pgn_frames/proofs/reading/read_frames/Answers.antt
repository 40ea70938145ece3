use Rattle.std.proofs.Common.{◌≡◌, ◌≤◌, ℕ, length, true, false, Option, Result, Err, is_err, rules, subst}
use Rattle.pgn_frames.specs.declared.frame_fault.FrameFault.{FrameFault}
use Rattle.pgn_frames.specs.declared.framing.NoFrame.{NoFrame}
use Rattle.pgn_frames.specs.declared.framing.NoFrame.TheVariants.{Memory}
use Rattle.pgn_frames.specs.Reading.{AreEnded, ReadsTo}
use Rattle.pgn_frames.proofs.CallerLaws.{err_of, ok_of}
use Rattle.pgn_frames.proofs.ReadingLaws.{Reads-none, Told-done, Told-failed, Told-some, on_none}
use Rattle.pgn_frames.proofs.reading.read_frames.Goals as goal

pub read_on-read-requires-clause-on : goal.read_on-read-requires-clause-on
read_on-read-requires-clause-on g c = on_none c.requires.call.0 c.args.inboxes.now c.args.callers.now c.requires.call.1

pub returns-in-Err-Memory-clause-some : goal.returns-in-Err-Memory-clause-some
returns-in-Err-Memory-clause-some g c = λ most may e.
    let all = g.S.Source.left c.args.source.now in
    let is : c.read_on-read.result ≡ Err Memory = search rules in
    subst (λ (r : Result (Option FrameFault) NoFrame). ReadsTo r most all c.args.inboxes.now c.read_on-read.new.callers) is
    (c.read_on-read.ensures.reads most all (Reads-none most all c.args.inboxes.now c.args.callers.now may))

pub returns-then-is_err-clause-some : goal.returns-then-is_err-clause-some
returns-then-is_err-clause-some g c = λ most may e.
    let all = g.S.Source.left c.args.source.now in
    let mid = c.read_on-read.new.callers in
    let other : c.read_on-read.result ≡ Err Memory → ⊥ = search rules in
    let fails : is_err c.tell_end.result ≡ true = search rules in
    let ended : (n : ℕ) × (n ≤ length mid) × AreEnded n c.args.inboxes.now mid c.tell_end.new.callers = err_of c.tell_end.result ((n : ℕ) × (n ≤ length mid) × AreEnded n c.args.inboxes.now mid c.tell_end.new.callers) fails c.tell_end.ensures.first in
    Told-some most ended.0 all c.args.inboxes.now mid c.tell_end.new.callers c.read_on-read.result other
    (c.read_on-read.ensures.reads most all (Reads-none most all c.args.inboxes.now c.args.callers.now may)) (c.read_on-read.ensures.on other) ended.2

pub returns-clause-done : goal.returns-clause-done
returns-clause-done g c = λ most may.
    let all = g.S.Source.left c.args.source.now in
    let mid = c.read_on-read.new.callers in
    let other : c.read_on-read.result ≡ Err Memory → ⊥ = search rules in
    let passes : is_err c.tell_end.result ≡ false = search rules in
    let ended : AreEnded (length mid) c.args.inboxes.now mid c.tell_end.new.callers = ok_of c.tell_end.result (AreEnded (length mid) c.args.inboxes.now mid c.tell_end.new.callers) passes c.tell_end.ensures.told in
    Told-done most all c.args.inboxes.now mid c.tell_end.new.callers c.read_on-read.result
    (c.read_on-read.ensures.reads most all (Reads-none most all c.args.inboxes.now c.args.callers.now may)) (c.read_on-read.ensures.on other) ended

pub returns-clause-first : goal.returns-clause-first
returns-clause-first g c = λ most may e.
    let all = g.S.Source.left c.args.source.now in
    let mid = c.read_on-read.new.callers in
    let other : c.read_on-read.result ≡ Err Memory → ⊥ = search rules in
    let passes : is_err c.tell_end.result ≡ false = search rules in
    let ended : AreEnded (length mid) c.args.inboxes.now mid c.tell_end.new.callers = ok_of c.tell_end.result (AreEnded (length mid) c.args.inboxes.now mid c.tell_end.new.callers) passes c.tell_end.ensures.told in
    Told-failed most all c.args.inboxes.now mid c.tell_end.new.callers c.read_on-read.result e
    (c.read_on-read.ensures.reads most all (Reads-none most all c.args.inboxes.now c.args.callers.now may)) (c.read_on-read.ensures.on other) ended
