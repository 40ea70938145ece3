use Rattle.std.proofs.Common.{◌≡◌, ℕ, ◌-◌, List, length, take, drop, sym, ap, ◌∙◌}
use Rattle.pgn_language.specs.Tokens as model
use Rattle.pgn_command.specs.declared.token.Lexeme.{Lexeme}
use Rattle.pgn_requests.specs.declared.complaint.Cause.TheVariants as cause
use Rattle.pgn_requests.specs.Texts.{one_line}
use Rattle.pgn_requests.specs.Phrases as told
use Rattle.pgn_statements.specs.Lexemes.{meant, all_meant}
use Rattle.pgn_statements.proofs.AskLaws.{IfOk-same}
use Rattle.pgn_statements.proofs.SettingLaws.{front-two, assigned-some, assigned-none}
use Rattle.pgn_statements.proofs.assigning.assigned.Goals as goal

pub returns-in-Some : goal.returns-in-Some
returns-in-Some c =
    let text : List ℕ = c.args.text.now in
    let lexemes : List Lexeme = c.args.lexemes.now in
    let rest : List model.Lexeme = all_meant (take (length lexemes - 2) (drop 2 lexemes)) in
    let name : c.as_str.result.now ≡ told.ident_text (meant c.name-item.result) = c.as_str.ensures.value ∙ c.in_ok-name-in-len2-up.ensures in
    let same = assigned-some text c.args.at c.args.starts (all_meant lexemes) (meant c.name-item.result) (meant c.to-item.result) rest c.as_str.result.now c.in-Some.setting
    (front-two lexemes c.name-item.result c.to-item.result c.in-len2-up.len_at_least c.name-item.is c.to-item.is)
    (sym c.is_name.ensures ∙ c.if-is_name.true) (sym c.is_key.ensures ∙ c.if-is_key.true) name c.in-Some.ensures in
    IfOk-same c.valued.result (told.valued_asks text c.args.at c.args.starts rest c.in-Some.setting) (told.assigned_asks text c.args.at c.args.starts (all_meant lexemes)) (sym same) c.valued.ensures

pub returns-in-len2-up : goal.returns-in-len2-up
returns-in-len2-up c =
    let text : List ℕ = c.args.text.now in
    let lexemes : List Lexeme = c.args.lexemes.now in
    let rest : List model.Lexeme = all_meant (take (length lexemes - 2) (drop 2 lexemes)) in
    let name : c.as_str.result.now ≡ told.ident_text (meant c.name-item.result) = c.as_str.ensures.value ∙ c.in_ok-name-in-len2-up.ensures in
    let again : c.as_str-in-None.result.now ≡ c.as_str.result.now = c.as_str-in-None.ensures.value ∙ sym c.as_str.ensures.value in
    let same = assigned-none text c.args.at c.args.starts (all_meant lexemes) (meant c.name-item.result) (meant c.to-item.result) rest c.as_str.result.now
    (front-two lexemes c.name-item.result c.to-item.result c.in-len2-up.len_at_least c.name-item.is c.to-item.is)
    (sym c.is_name.ensures ∙ c.if-is_name.true) (sym c.is_key.ensures ∙ c.if-is_key.true) name c.in-None.ensures in
    IfOk-same c.unknown.result (told.refused (one_line text) c.args.at cause.NoSetting (told.no_setting c.as_str-in-None.result.now)) (told.assigned_asks text c.args.at c.args.starts (all_meant lexemes))
    (ap (λ (l : List ℕ). told.refused (one_line text) c.args.at cause.NoSetting (told.no_setting l)) again ∙ sym same) c.unknown.ensures
