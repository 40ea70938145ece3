-- The list that was there has one place more, or one is put in with that place alone.
use Rattle.std.proofs.Common.{◌∙◌, ◌∷◌, ◌++◌, List, [], ℕ, None, Some, ap, cond, rules, sym}
use Rattle.std.specs.Map.{lookup}
use Rattle.pgn_due.specs.Lists.{same_topic}
use Rattle.pgn_due.proofs.ListLaws.{put_in}
use Rattle.pgn_due.proofs.lists.put.Goals as goal

pub returns-in-Some : goal.returns-in-Some
returns-in-Some c = λ other.
    let h = c.get_mut.follows.holds c.push.new.self in
    put_in c.args.lists.now.entries (c.get_mut.follows.lender c.push.new.self).entries c.args.topic other c.args.at c.push.new.self (Some c.in-Some.list.now) (sym c.in-Some.ensures.value) c.in_ok-push.ensures.items ((h.3 (search rules)).0 other)

pub returns : goal.returns
returns c = λ other.
    let h = c.get_mut.follows.holds-at-none in
    put_in c.args.lists.now.entries c.insert.new.self.entries c.args.topic other c.args.at c.push-2.new.self None (sym c.in_default.ensures.value)
    (c.in_ok-push-2.ensures.items ∙ ap (λ (xs : List ℕ). xs ++ c.args.at ∷ []) c.new-list.ensures.items)
    (c.in_ok-insert.ensures.updates.0 other ∙ ap (λ m. cond (same_topic c.args.topic other) (Some c.push-2.new.self) (lookup (same_topic other) m.entries)) h)
