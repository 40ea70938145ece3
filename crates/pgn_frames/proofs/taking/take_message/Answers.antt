use Rattle.std.proofs.Common.{◌≡◌, ◌<◌, ℕ, List, length, drop, true, false, Bool, rules, arith, refl, ◌∙◌, subst}
use Rattle.std.specs.Prelude.{slice_range}
use Rattle.pgn_messages.specs.declared.asked.Parting.TheVariants.{Spent}
use Rattle.pgn_frames.specs.declared.caller.Caller.{Caller}
use Rattle.pgn_frames.specs.Callers.{Answers, HasAsked, HasEnded, IsSpent, PartsBy, QueryTo, TakesBytes}
use Rattle.pgn_frames.proofs.CallerLaws.{Bytes-left, Bytes-query, Bytes-spent, if_ok-at, if_ok-both}
use Rattle.pgn_frames.proofs.taking.take_message.Goals as goal

pub returns-in-Ok-true-clause-takes : goal.returns-in-Ok-true-clause-takes
returns-in-Ok-true-clause-takes g c =
    let bytes : List ℕ = c.args.bytes.now in
    let end : ℕ = c.in-Query.end in
    let body : List ℕ = slice_range bytes 5 end in
    let old : Caller = c.args.caller.now in
    let new : Caller = c.take_query.new.caller in
    let q : QueryTo bytes end = c.in-Query.ensures in
    let is : c.in-Ok-true.field-0 ≡ true = search rules in
    let h : HasAsked c.args.inbox.now.seat old new body = subst (λ (b : Bool). Answers b c.args.inbox.now.seat old new body) is c.in-Ok-true.ensures.answers in
    Bytes-query c.args.inbox.now.seat old new bytes body end q.next h c.requires.here (c.take_query.ensures.left ∙ c.requires.here)

pub returns-in-Ok-false-clause-takes : goal.returns-in-Ok-false-clause-takes
returns-in-Ok-false-clause-takes g c =
    let bytes : List ℕ = c.args.bytes.now in
    let end : ℕ = c.in-Query.end in
    let body : List ℕ = slice_range bytes 5 end in
    let old : Caller = c.args.caller.now in
    let mid : Caller = c.take_query.new.caller in
    let new : Caller = c.leave.new.caller in
    let q : QueryTo bytes end = c.in-Query.ensures in
    let is : c.in-Ok-false.field-0 ≡ false = search rules in
    let h : IsSpent old mid body = subst (λ (b : Bool). Answers b c.args.inbox.now.seat old mid body) is c.in-Ok-false.ensures.answers in
    if_ok-both c.leave.result (HasEnded c.args.inbox.now.seat mid new Spent) (new.left ≡ true) (λ n. TakesBytes c.args.inbox.now.seat old new bytes n)
    (λ n ended left. Bytes-spent c.args.inbox.now.seat old mid new bytes body (drop end bytes) n q.next h ended c.requires.here left) c.leave.ensures.ended c.leave.ensures.left

pub returns-in-Parts-clause-takes : goal.returns-in-Parts-clause-takes
returns-in-Parts-clause-takes g c =
    let bytes : List ℕ = c.args.bytes.now in
    let old : Caller = c.args.caller.now in
    let new : Caller = c.leave-in-Parts.new.caller in
    let by : PartsBy c.in-Parts.parting old.counts bytes = c.in-Parts.ensures old.counts in
    if_ok-both c.leave-in-Parts.result (HasEnded c.args.inbox.now.seat old new c.in-Parts.parting) (new.left ≡ true) (λ n. TakesBytes c.args.inbox.now.seat old new bytes n)
    (λ n ended left. Bytes-left c.args.inbox.now.seat old old new bytes c.in-Parts.parting n by refl refl ended c.requires.here left) c.leave-in-Parts.ensures.ended c.leave-in-Parts.ensures.left

pub returns-in-Parts-clause-waits : goal.returns-in-Parts-clause-waits
returns-in-Parts-clause-waits g c = λ e.
    let bytes : List ℕ = c.args.bytes.now in
    let by : PartsBy c.in-Parts.parting c.args.caller.now.counts bytes = c.in-Parts.ensures c.args.caller.now.counts in
    let some : 0 < length bytes = by.some in
    let none : 0 ≡ length bytes = if_ok-at c.leave-in-Parts.result 0 (λ n. n ≡ length bytes) e c.leave-in-Parts.ensures.all in
    absurd (omega arith)
