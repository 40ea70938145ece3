use Rattle.std.proofs.Common.{◌≡◌, ◌≤◌, false, All, sym, ◌∙◌, arith, drop, length-take}
use Rattle.pgn_block.specs.declared.savepoint.Savepoint.{Savepoint}
use Rattle.pgn_block.specs.Kept.{is_named}
use Rattle.pgn_block.proofs.CountLaws.{unnamed, none-among, within-all, next-all, named-all, newest-all}
use Rattle.pgn_block.proofs.savepoints.Savepoints.newest.Goals as goal

pub slice_bounds-newest-end : goal.slice_bounds-newest-end
slice_bounds-newest-end c = omega (arith, length-take 32 c.deref.result.now, c.deref.ensures.len, c.if-len-gt-FEW.true, c.len.ensures)

pub returns-then-count-eq0-clause-none : goal.returns-then-count-eq0-clause-none
returns-then-count-eq0-clause-none c =
    let later : All (λ (savepoint : Savepoint). is_named c.args.name.now savepoint ≡ false) (drop 32 c.self.inside.list.items) =
    unnamed c.args.name.now _ (sym (c.self.invariant c.args.name.now) ∙ sym c.count.ensures ∙ c.if-count-eq0.true) in
    rw (← c.self.view_is) (none-among c.args.name.now 32 c.self.inside.list.items c.newest.result later (rw (← c.deref.ensures.value) c.newest.ensures.none))

pub returns-then-count-eq0-clause-within : goal.returns-then-count-eq0-clause-within
returns-then-count-eq0-clause-within c =
    rw (← c.self.view_is) (within-all 32 c.self.inside.list.items c.newest.result (rw (← c.deref.ensures.value) c.newest.ensures.within))

pub returns-then-count-eq0-clause-named : goal.returns-then-count-eq0-clause-named
returns-then-count-eq0-clause-named c =
    rw (← c.self.view_is) (named-all c.args.name.now 32 c.self.inside.list.items c.newest.result (rw (← c.deref.ensures.value) c.newest.ensures.within) (rw (← c.deref.ensures.value) c.newest.ensures.named))

pub returns-then-count-eq0-clause-newest : goal.returns-then-count-eq0-clause-newest
returns-then-count-eq0-clause-newest c =
    let later : All (λ (savepoint : Savepoint). is_named c.args.name.now savepoint ≡ false) (drop 32 c.self.inside.list.items) =
    unnamed c.args.name.now _ (sym (c.self.invariant c.args.name.now) ∙ sym c.count.ensures ∙ c.if-count-eq0.true) in
    rw (← c.self.view_is) (newest-all c.args.name.now 32 c.self.inside.list.items c.newest.result later (rw (← c.deref.ensures.value) c.newest.ensures.newest))

pub returns-then-count-eq0-clause-next : goal.returns-then-count-eq0-clause-next
returns-then-count-eq0-clause-next c =
    let small : 32 ≤ 18446744073709551615 = omega arith in
    next-all 32 18446744073709551615 c.self.inside.list.items c.newest.result small (rw (← c.deref.ensures.value) c.newest.ensures.within)
