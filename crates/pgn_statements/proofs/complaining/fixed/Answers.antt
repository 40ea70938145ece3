use Rattle.std.proofs.Common.{ℕ, List, ◌++◌, ap}
use Rattle.std.specs.Prelude.{codes}
use Rattle.pgn_requests.specs.Phrases as told
use Rattle.pgn_statements.proofs.AskLaws.{IfOk-same}
use Rattle.pgn_statements.proofs.complaining.fixed.Goals as goal

pub returns : goal.returns
returns c =
    let head : List ℕ = codes "parameter \"" in
    let tail : List ℕ = codes "\" cannot be changed" in
    IfOk-same c.words_of.result (head ++ c.setting_name-name.result.now ++ tail) (told.fixed c.args.setting) (ap (λ (l : List ℕ). head ++ l ++ tail) c.setting_name-name.ensures.name) c.words_of.ensures
