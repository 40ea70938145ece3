use Rattle.std.proofs.Common.{◌≡◌, ℕ, ◌≤◌, arith, subst}
use Rattle.pgn_hub.specs.Shape.{Shape, IsShape}
use Rattle.pgn_words.specs.Words.{seats_of}
use Rattle.pgn_words.proofs.LockKept.{try_lock_allowed}
use Rattle.pgn_words.proofs.pass.WordQueue.try_lock.Goals as goal

pub compare_exchange-by-requires : goal.compare_exchange-by-requires
compare_exchange-by-requires c =
    let pass = c.args.pass.now in
    let same = pass.session_is in
    let value = c.get.ensures in
    let number = c.from-number.ensures in (
      c.requires.own.table,
      (let counted = c.args.self.now.counted in omega (arith, counted)),
      try_lock_allowed _ _ _ _ _ c.requires.phase (omega (arith, value.value, value.positive, number)) (omega (arith, same, value.value, number)),
    )

-- a seat's number is a session's
few_seats : (by : ℕ) (mine queue : Shape) → IsShape queue → mine ≡ queue → by ≤ seats_of mine → by ≤ 256
few_seats by mine queue shape same seated =
    let few = shape.few_seats in
    let there : by ≤ seats_of queue = subst (λ (y : Shape). by ≤ seats_of y) same seated in omega (arith, few, there)

pub overflow_cast-by : goal.overflow_cast-by
overflow_cast-by c =
    let told = c.compare_exchange-by.ensures.2 in
    let locked = told.locked c.if-by-eq0.false in
    let low = few_seats c.compare_exchange-by.result _ c.args.self.now.table.shared.key c.args.self.now.shaped c.requires.own.setup locked.1.seated in omega (arith, low)

pub new-requires-clause-within : goal.new-requires-clause-within
new-requires-clause-within c =
    let told = c.compare_exchange-by.ensures.2 in
    let locked = told.locked c.if-by-eq0.false in
    few_seats c.compare_exchange-by.result _ c.args.self.now.table.shared.key c.args.self.now.shaped c.requires.own.setup locked.1.seated
