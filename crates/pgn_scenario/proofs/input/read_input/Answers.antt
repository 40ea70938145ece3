use Rattle.std.proofs.Common.{◌≡◌, Result, Ok, Err, arith, subst, sym}
use Rattle.pgn_scenario.specs.declared.input.Unread.{Unread}
use Rattle.pgn_scenario.specs.declared.input.Unread.TheVariants as unread
use Rattle.pgn_scenario.proofs.input.read_input.Goals as goal

-- what was read did not fail, nor did what was not read for want of memory
abbrev HasFailed : {T : Type 0} → Result T Unread → Type 0
HasFailed (Ok x) = ⊥
HasFailed (Err unread.Failed) = Unit {0}
HasFailed (Err unread.Memory) = ⊥

no-failure : {T : Type 0} (res : Result T Unread) → res ≡ Err unread.Failed → HasFailed res
no-failure res e = subst HasFailed (sym e) tt

pub returns-in_default-clause-bytes : goal.returns-in_default-clause-bytes
returns-in_default-clause-bytes g c = tt

pub returns-in_default-clause-consumed : goal.returns-in_default-clause-consumed
returns-in_default-clause-consumed g c = tt

pub returns-in_default-extend_from_slice-clause-bytes : goal.returns-in_default-extend_from_slice-clause-bytes
returns-in_default-extend_from_slice-clause-bytes g c = tt

pub returns-in_default-extend_from_slice-clause-consumed : goal.returns-in_default-extend_from_slice-clause-consumed
returns-in_default-extend_from_slice-clause-consumed g c = tt

pub returns-in_default-extend_from_slice-clause-failed : goal.returns-in_default-extend_from_slice-clause-failed
returns-in_default-extend_from_slice-clause-failed g c = λ e. absurd (no-failure _ e)

pub returns-then-n-eq0-clause-failed : goal.returns-then-n-eq0-clause-failed
returns-then-n-eq0-clause-failed g c = λ e. absurd (no-failure _ e)

pub returns-clause-consumed : goal.returns-clause-consumed
returns-clause-consumed g c = c.loop-chunk.invariant.consumed

pub returns-clause-failed : goal.returns-clause-failed
returns-clause-failed g c = λ e. absurd (no-failure _ e)

pub returns-clause-rose : goal.returns-clause-rose
returns-clause-rose g c = λ rose. absurd (omega (arith, rose, c.loop-chunk.invariant.same))
