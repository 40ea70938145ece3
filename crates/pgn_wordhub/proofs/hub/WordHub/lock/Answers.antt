use Rattle.std.proofs.Common.{rules, sym, subst}
use Rattle.pgn_words.specs.declared.pass.WordPass.{WordPass}
use Rattle.pgn_words.specs.Passes.{view_of}
use Rattle.pgn_words.specs.Told.{HasLocked}
use Rattle.pgn_wordhub.proofs.LockLaws.{locked_at_last}
use Rattle.pgn_wordhub.proofs.hub.WordHub.lock.Goals as goal
use Rattle.pgn_wordhub.proofs.hub.WordHub.lock.Goals.{in-None, in-Some+then-is_ok}

pub returns-clause-locked : goal.returns-clause-locked
returns-clause-locked g c =
    elim c.match-next.branch [
      | in-None w ↦ absurd (let some = c.next.ensures.steps in search rules)
      | in-Some+then-is_ok w ↦
          let taken : HasLocked (view_of c.tries.pass) (view_of w.try_lock.new.pass) = search rules in
          subst (λ (p : WordPass). HasLocked (view_of c.args.pass.now) (view_of p)) (sym w.pass-is)
          (locked_at_last (view_of c.args.pass.now) (view_of c.tries.pass) (view_of w.try_lock.new.pass) c.tries.invariant.3 taken)
    ]
