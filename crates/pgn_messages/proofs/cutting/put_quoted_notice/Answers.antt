use Rattle.std.proofs.Common.{◌≡◌, ℕ, ◌++◌, List, OnOk, ◌∙◌, subst}
use Rattle.pgn_messages.specs.Served.{name_notice}
use Rattle.pgn_messages.proofs.cutting.put_quoted_notice.Goals as goal

pub returns : goal.returns
returns c =
    subst (λ (l : List ℕ). OnOk c.put_name_notice-put.result (c.put_name_notice-put.new.bytes ≡ c.args.bytes.now ++ name_notice l)) (c.as_str.ensures.value ∙ c.in_ok-text.ensures)
    c.put_name_notice-put.ensures
