use Rattle.std.proofs.Common.{◌≡◌, false, sym, ◌∙◌, refl}
use Rattle.pgn_scenario.specs.Flags.{with_wait, has_wait}
use Rattle.pgn_scenario.proofs.FlagLaws.{wait-new}
use Rattle.pgn_scenario.proofs.flags.Flags.wait.Goals as goal

pub returns-in_ok-insert-clause-after : goal.returns-in_ok-insert-clause-after
returns-in_ok-insert-clause-after c =
    let absent : has_wait c.self.inside.awaited.entries c.in_ok-copy.copy ≡ false = sym c.contains_key.ensures ∙ c.if-not-contains_key.true in
    let after : c.insert.new.self.entries ≡ with_wait c.self.inside.awaited.entries c.args.flag c.args.line
    = wait-new c.self.inside.awaited.entries c.insert.new.self.entries c.args.flag c.in_ok-copy.copy c.args.line c.in_ok-copy.ensures.equal absent c.in_ok-insert.ensures.entries in
    rw (← c.self.view_is, c.in_ok-number.ensures.keys, after) refl
