use Rattle.std.proofs.Common.{◌+◌, ◌*◌, refl, ap, ◌∙◌, arith}
use Rattle.pgn_words.specs.declared.view.View.{View}
use Rattle.pgn_words.specs.Passes.{view_of}
use Rattle.pgn_wordhub.specs.Wakes.{decided_as}
use Rattle.pgn_wordhub.proofs.DecidingLaws.{decides_none, decides_on, all_decided}
use Rattle.pgn_wordhub.proofs.hub.WordHub.set_wakes.Goals as goal

pub loop-word-init : goal.loop-word-init
loop-word-init c = (c.requires.own, refl, decides_none (view_of c.args.pass.now).verdicts 0 0 refl)

pub set_wakes_of-requires-clause-phase : goal.set_wakes_of-requires-clause-phase
set_wakes_of-requires-clause-phase c = ap (λ (u : View). u.phase) c.loop-word.invariant.1 ∙ c.requires.phase

pub set_wakes_of-requires-clause-named : goal.set_wakes_of-requires-clause-named
set_wakes_of-requires-clause-named c i low = c.loop-word.invariant.2.behind i low ∙ c.requires.named i

pub set_wakes_of-requires-clause-long : goal.set_wakes_of-requires-clause-long
set_wakes_of-requires-clause-long c = c.loop-word.invariant.2.long ∙ c.requires.long

pub loop-word-preserved : goal.loop-word-preserved
loop-word-preserved c =
    let inv = c.loop-word.invariant in
    let x = view_of c.set_wakes_of.new.pass in
    let word = c.loop-word.word in
    let set = c.set_wakes_of.ensures in (
      set.own,
      set.view ∙ ap (decided_as x.verdicts) inv.1,
      decides_on (view_of c.args.pass.now).verdicts (view_of c.loop-word.pass).verdicts x.verdicts 0 (64 * word) (64 * (word + 1)) (omega arith) (omega arith) inv.2
          (record { long = set.long; decided = set.decided; before = set.before; behind = set.behind }),
    )

pub returns-clause-decided : goal.returns-clause-decided
returns-clause-decided c =
    let long = c.requires.long in
    let test = c.loop-word-test.false in
    all_decided (view_of c.args.pass.now).verdicts (view_of c.loop-word.pass).verdicts (64 * c.loop-word.word) c.loop-word.invariant.2 (omega (arith, long, test))
