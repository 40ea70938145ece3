use Rattle.std.proofs.Common.{◌≡◌, ℕ, List, [], ◌∷◌, ◌++◌, sym, ap, subst, ◌∙◌, arith, drop, length, length-drop}
use Rattle.pgn_block.specs.declared.savepoint.Savepoint.{Savepoint}
use Rattle.pgn_block.specs.Counts.{AreCounted, CountsAt}
use Rattle.pgn_block.proofs.CountLaws.{how_many-le, counted-more}
use Rattle.pgn_block.proofs.savepoints.Savepoints.push.Goals as goal

pub count_at-requires : goal.count_at-requires
count_at-requires c =
    let later = drop 32 c.self.inside.list.items in
    omega (arith, c.self.invariant c.args.savepoint.name, how_many-le c.args.savepoint.name later, length-drop 32 c.self.inside.list.items, c.len.ensures, c.in_ok-reserve.ensures.len, c.self.inside.list.ok.0)

pub invariant_of-self-2 : goal.invariant_of-self-2
invariant_of-self-2 c =
    let place : c.len.result ≡ length c.self.inside.list.items = c.len.ensures ∙ c.in_ok-reserve.ensures.len ∙ c.self.inside.list.ok.0 in
    let pushed = rw c.unwrap.ensures at c.push.ensures.items in
    let longer : c.push.new.self.items ≡ c.self.inside.list.items ++ c.args.savepoint ∷ [] = pushed ∙ ap (λ (l : List Savepoint). l ++ c.args.savepoint ∷ []) c.reserve.ensures.items in
    let counts : CountsAt 32 (length c.self.inside.list.items) c.args.savepoint.name c.self.inside.names.entries c.count_at.new.counts.entries =
    subst (λ (n : ℕ). CountsAt 32 n c.args.savepoint.name c.self.inside.names.entries c.count_at.new.counts.entries) place c.in_ok-count_at.ensures.ok in
    subst (λ (l : List Savepoint). AreCounted 32 l c.count_at.new.counts.entries) (sym longer) (counted-more 32 c.self.inside.list.items c.args.savepoint _ _ c.self.invariant counts)
