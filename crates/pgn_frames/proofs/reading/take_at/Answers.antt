use Rattle.std.proofs.Common.{◌≡◌, ◌+◌, ◌-◌, ◌<◌, ◌≤◌, ℕ, length, get_or, set, rules, arith, sym, subst}
use Rattle.pgn_outlet.specs.Passes.{knows}
use Rattle.pgn_outlet.specs.Rule.{MayPush}
use Rattle.pgn_frames.specs.declared.caller.Caller.{Caller}
use Rattle.pgn_frames.specs.Callers.{Takes}
use Rattle.pgn_frames.specs.Frames.{signs_in}
use Rattle.pgn_frames.specs.Reading.{CallsOn, EachSeat}
use Rattle.pgn_frames.proofs.CallerLaws.{on_ok}
use Rattle.pgn_frames.proofs.ReadingLaws.{on_at, owns_at}
use Rattle.pgn_frames.proofs.reading.take_at.Goals as goal

pub returns-clause-own : goal.returns-clause-own
returns-clause-own g c =
    let least : 1 ≤ c.args.seat = c.requires.seat.least in
    let most : c.args.seat ≤ length c.args.callers.now = c.requires.seat.most in
    let same : c.from-k.result ≡ c.args.seat = search rules in
    owns_at (c.from-k.result - 1) c.args.seats.now.inboxes.now c.args.callers.now c.index-inboxes-k.result c.take_signs.new.caller (omega arith) c.requires.each c.index-inboxes-k.is c.requires.on c.take_signs.ensures.own

pub returns-clause-on : goal.returns-clause-on
returns-clause-on g c =
    let k : ℕ = c.from-k.result - 1 in
    let number : ℕ = c.new-number.result in
    let old : Caller = get_or c.args.callers.now k c.index-callers-k.result in
    let new : Caller = c.take_signs.new.caller in
    let least : 1 ≤ c.args.seat = c.requires.seat.least in
    let most : c.args.seat ≤ length c.args.callers.now = c.requires.seat.most in
    let same : c.from-k.result ≡ c.args.seat = search rules in
    let numbered : c.new-number.result ≡ c.args.seat = search rules in
    let lt : k < length c.args.callers.now = omega arith in
    let is : number ≡ k + 1 = omega arith in
    let going : CallsOn (k + 1) (get_or c.args.seats.now.inboxes.now k c.index-inboxes-k.result) old = c.requires.on k c.index-inboxes-k.result c.index-callers-k.result lt in
    let may : MayPush (knows old.asks) number = subst (λ (n : ℕ). MayPush (knows old.asks) n) (sym is) going.may in
    on_ok c.take_signs.result (Takes number old new (signs_in c.args.bytes.now)) (EachSeat CallsOn c.args.seats.now.inboxes.now (set c.args.callers.now k new))
    (λ takes. on_at k number c.args.seats.now.inboxes.now c.args.callers.now c.index-inboxes-k.result old new (signs_in c.args.bytes.now) lt c.requires.each c.index-inboxes-k.is is c.requires.on c.take_signs.ensures.own may takes)
    c.take_signs.ensures.takes
