use Rattle.std.proofs.Common.{ℕ, cond, List, [], ◌∷◌, ◌++◌, nat_eq, ap, ◌∙◌, arith}
use Rattle.std.specs.List.{list_any}
use Rattle.pgn_walk.specs.Pairs.{key_of}
use Rattle.pgn_walk.proofs.PairLaws.{puts}
use Rattle.pgn_walk.proofs.pairs.Pairs.put.Goals as goal

pub returns : goal.returns
returns c =
    let keys = c.self.inside.keys.keys in
    let one = ap (λ (k : ℕ). cond (list_any (nat_eq k) keys) keys (keys ++ k ∷ [])) c.key.ensures in
    let key = key_of c.args.first c.args.second in
    let two = ap (λ (ks : List ℕ). cond (list_any (nat_eq key) ks) ks (ks ++ key ∷ [])) c.self.view_is in
    puts c.args.self.now c.insert.new.self.keys c.args.first c.args.second (omega arith) (c.in_ok-insert.ensures.keys ∙ one ∙ two)
