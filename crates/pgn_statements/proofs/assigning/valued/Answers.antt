use Rattle.std.proofs.Common.{◌≡◌, ℕ, List, [], sym, ap, ◌∙◌, rules, Some, string_bytes}
use Rattle.pgn_requests.specs.Phrases as told
use Rattle.pgn_statements.specs.Lexemes.{all_meant}
use Rattle.pgn_statements.proofs.AskLaws.{IfOk-same, put-none, put-some, valued-given, valued-none}
use Rattle.pgn_statements.proofs.assigning.valued.Goals as goal

pub returns-then-branch : goal.returns-then-branch
returns-then-branch c =
    let empty : string_bytes c.new-value.result ≡ [] = search rules in
    let value = put-some c.in_ok-put_values.field-0 (string_bytes c.new-value.result) (string_bytes c.put_values.new.text) (told.value_of (all_meant c.args.lexemes.now)) c.in_ok-put_values.ensures c.if-branch.true empty in
    let starts = c.args.target.starts in
    let one = c.args.target.setting in
    let same = valued-given c.args.text.now c.args.at starts (all_meant c.args.lexemes.now) one (string_bytes c.put_values.new.text) (sym c.is_one.ensures ∙ c.if-is_one.false) value in
    IfOk-same c.sets.result (told.given_asks c.args.text.now c.args.at starts one (Some c.as_str.result.now)) (told.valued_asks c.args.text.now c.args.at starts (all_meant c.args.lexemes.now) one)
    (ap (λ (l : List ℕ). told.given_asks c.args.text.now c.args.at starts one (Some l)) c.as_str.ensures.value ∙ sym same) c.sets.ensures

pub returns : goal.returns
returns c =
    let lexemes = all_meant c.args.lexemes.now in
    let none = put-none c.in_ok-put_values.field-0 (string_bytes c.new-value.result) (string_bytes c.put_values.new.text) (told.value_of lexemes) c.in_ok-put_values.ensures c.if-branch.false in
    IfOk-same c.unread.result (told.unread c.args.text.now c.args.at) (told.valued_asks c.args.text.now c.args.at c.args.target.starts lexemes c.args.target.setting)
    (sym (valued-none c.args.text.now c.args.at c.args.target.starts lexemes c.args.target.setting (sym c.is_one.ensures ∙ c.if-is_one.false) none)) c.unread.ensures
