use Rattle.std.proofs.Common.{◌≡◌, ℕ, length, rules, arith, subst}
use Rattle.pgn_frames.specs.Reading.{AreEnded}
use Rattle.pgn_frames.proofs.ReadingLaws.{ended_kept, ended_more, ended_none}
use Rattle.pgn_frames.proofs.reading.tell_end.Goals as goal

pub loop-k-init : goal.loop-k-init
loop-k-init g c = ended_none c.args.seats.now.inboxes.now c.args.callers.now c.requires.on

pub returns-then-is_err-clause-first : goal.returns-then-is_err-clause-first
returns-then-is_err-clause-first g c = (
  c.loop-k.k,
  search (rules, arith),
  ended_kept c.loop-k.k c.args.seats.now.inboxes.now c.args.callers.now c.loop-k.callers c.index-seats-k.result c.index-callers-k.result c.tell_one.new.caller c.loop-k.invariant (search (rules, arith)) c.requires.each
      c.index-seats-k.is c.index-callers-k.is (search rules),
)

pub loop-k-preserved : goal.loop-k-preserved
loop-k-preserved g c =
    ended_more c.loop-k.k c.new.result c.args.seats.now.inboxes.now c.args.callers.now c.loop-k.callers c.index-seats-k.result c.index-callers-k.result c.tell_one.new.caller c.loop-k.invariant (search (rules, arith)) (search rules) c.requires.each
    c.index-seats-k.is c.index-callers-k.is (search rules)

pub returns-clause-told : goal.returns-clause-told
returns-clause-told g c =
    let all : c.loop-k.k ≡ length c.args.callers.now = omega (arith, c.loop-k-test.false, c.loop-k.auto.k-end) in
    subst (λ (n : ℕ). AreEnded n c.args.seats.now.inboxes.now c.args.callers.now c.loop-k.callers) all c.loop-k.invariant
