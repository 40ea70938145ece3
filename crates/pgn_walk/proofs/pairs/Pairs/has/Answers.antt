use Rattle.std.proofs.Common.{◌≡◌, ◌↔◌, ℕ, List, Bool, nat_eq, true, sym, ap, ◌∙◌, arith, subst}
use Rattle.std.specs.Prelude.{Contains}
use Rattle.std.specs.List.{list_any}
use Rattle.pgn_walk.specs.Pairs.{key_of}
use Rattle.pgn_walk.proofs.pairs.Pairs.has.Goals as goal

pub returns : goal.returns
returns c = λ pairs are.
    let key = key_of c.args.first c.args.second in
    let test : c.contains.result ≡ list_any (nat_eq key) c.args.self.now =
    c.contains.ensures ∙ ap (λ (k : ℕ). list_any (nat_eq k) c.self.inside.keys.keys) c.key.ensures ∙ ap (λ (keys : List ℕ). list_any (nat_eq key) keys) c.self.view_is in
    subst (λ (b : Bool). (b ≡ true) ↔ Contains pairs (c.args.first, c.args.second)) (sym test) (are c.args.first c.args.second (omega arith))
