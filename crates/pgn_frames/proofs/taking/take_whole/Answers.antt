use Rattle.std.proofs.Common.{◌≡◌, ◌-◌, ◌+◌, ◌≤◌, ℕ, List, length, map, take, drop, length-drop, Some, rules, arith, refl, ap, ◌∙◌, subst}
use Rattle.std.proofs.lemmas.List.{take_all}
use Rattle.pgn_outlet.specs.Passes.{knows}
use Rattle.pgn_messages.specs.declared.asked.Ask.{Ask}
use Rattle.pgn_frames.specs.declared.caller.Caller.{Caller}
use Rattle.pgn_frames.specs.Callers.{TakesBytes}
use Rattle.pgn_frames.proofs.CallerLaws.{Bytes-then, FirstBytes-all, may-put}
use Rattle.pgn_frames.proofs.taking.take_whole.Goals as goal

-- what is left of bytes
left_is : (bytes : List ℕ) (at : ℕ) → take (length bytes - at) (drop at bytes) ≡ drop at bytes
left_is bytes at = take_all (length bytes - at) (drop at bytes) (omega (arith, length-drop at bytes))

pub returns-in-Ok-eq0-clause-takes : goal.returns-in-Ok-eq0-clause-takes
returns-in-Ok-eq0-clause-takes g c =
    let bytes : List ℕ = c.args.bytes.now in
    let at : ℕ = c.messages.at in
    let mid : Caller = c.messages.caller in
    let new : Caller = c.take_message.new.caller in
    let zero : c.in-Ok-eq0.field-0 ≡ 0 = search rules in
    let none : TakesBytes c.args.inbox.now.seat mid new (take (length bytes - at) (drop at bytes)) 0 = subst (λ (n : ℕ). TakesBytes c.args.inbox.now.seat mid new (take (length bytes - at) (drop at bytes)) n) zero c.in-Ok-eq0.ensures.takes in
    Bytes-then c.args.inbox.now.seat c.args.caller.now mid new bytes at 0 at c.messages.invariant.takes (subst (λ (l : List ℕ). TakesBytes c.args.inbox.now.seat mid new l 0) (left_is bytes at) none) (omega arith)

pub messages-preserved : goal.messages-preserved
messages-preserved g c =
    let bytes : List ℕ = c.args.bytes.now in
    let at : ℕ = c.messages.at in
    let n : ℕ = c.in-Ok.n in
    let mid : Caller = c.messages.caller in
    let new : Caller = c.take_message.new.caller in
    let size : length (take (length bytes - at) (drop at bytes)) ≡ length bytes - at = ap length (left_is bytes at) ∙ length-drop at bytes in
    let fits : n ≤ length (take (length bytes - at) (drop at bytes)) = c.in-Ok.ensures.within in
    let before : at ≤ length bytes = c.messages.invariant.within in
    let takes : TakesBytes c.args.inbox.now.seat mid new (drop at bytes) n = subst (λ (l : List ℕ). TakesBytes c.args.inbox.now.seat mid new l n) (left_is bytes at) c.in-Ok.ensures.takes in record {
      own = c.take_message.ensures.own;
      may = may-put c.args.inbox.now.seat c.args.inbox.now.seat (knows mid.asks) (knows new.asks) (map (λ (a : Ask). Some a) takes.asks) takes.put c.messages.invariant.may;
      within = omega arith;
      takes = Bytes-then c.args.inbox.now.seat c.args.caller.now mid new bytes at n (at + n) c.messages.invariant.takes takes refl;
      ended = λ e. let all : n ≡ length (take (length bytes - at) (drop at bytes)) = c.in-Ok.ensures.passed e in omega arith;
      begun = c.take_message.ensures.begun ∙ c.messages.invariant.begun;
    }

pub returns-in-Err-clause-first : goal.returns-in-Err-clause-first
returns-in-Err-clause-first g c =
    FirstBytes-all c.args.inbox.now.seat c.args.caller.now c.messages.caller c.take_message.new.caller c.args.bytes.now c.messages.at c.messages.invariant.takes c.in-Err.ensures.refused
