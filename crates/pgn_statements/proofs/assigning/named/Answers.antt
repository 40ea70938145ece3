use Rattle.std.proofs.Common.{◌≡◌, ℕ, List, sym, ap, ◌∙◌, arith}
use Rattle.pgn_command.specs.declared.token.Lexeme.{Lexeme}
use Rattle.pgn_requests.specs.declared.complaint.Cause.TheVariants as cause
use Rattle.pgn_requests.specs.Texts.{one_line}
use Rattle.pgn_requests.specs.Phrases as told
use Rattle.pgn_statements.specs.Lexemes.{meant, all_meant}
use Rattle.pgn_statements.proofs.AskLaws.{IfOk-same}
use Rattle.pgn_statements.proofs.SettingLaws.{front-one, named-some, named-none}
use Rattle.pgn_statements.proofs.assigning.named.Goals as goal

pub returns-in-Some : goal.returns-in-Some
returns-in-Some c =
    let text : List ℕ = c.args.text.now in
    let lexemes : List Lexeme = c.args.lexemes.now in
    let name : c.as_str.result.now ≡ told.ident_text (meant c.name-item.result) = c.as_str.ensures.value ∙ c.in_ok-name-in-len1.ensures in
    let same = named-some text c.args.at c.args.shows (all_meant lexemes) (meant c.name-item.result) c.as_str.result.now c.in-Some.setting
    (front-one lexemes c.name-item.result (omega arith) c.name-item.is)
    (sym c.is_name.ensures ∙ c.if-is_name.true) name c.in-Some.ensures in
    IfOk-same c.settles.result (told.named_settled text c.args.at c.args.shows c.in-Some.setting) (told.named_asks text c.args.at c.args.shows (all_meant lexemes)) (sym same) c.settles.ensures

pub returns-in-len1 : goal.returns-in-len1
returns-in-len1 c =
    let text : List ℕ = c.args.text.now in
    let lexemes : List Lexeme = c.args.lexemes.now in
    let name : c.as_str.result.now ≡ told.ident_text (meant c.name-item.result) = c.as_str.ensures.value ∙ c.in_ok-name-in-len1.ensures in
    let again : c.as_str-in-None.result.now ≡ c.as_str.result.now = c.as_str-in-None.ensures.value ∙ sym c.as_str.ensures.value in
    let same = named-none text c.args.at c.args.shows (all_meant lexemes) (meant c.name-item.result) c.as_str.result.now
    (front-one lexemes c.name-item.result (omega arith) c.name-item.is)
    (sym c.is_name.ensures ∙ c.if-is_name.true) name c.in-None.ensures in
    IfOk-same c.unknown.result (told.refused (one_line text) c.args.at cause.NoSetting (told.no_setting c.as_str-in-None.result.now)) (told.named_asks text c.args.at c.args.shows (all_meant lexemes))
    (ap (λ (l : List ℕ). told.refused (one_line text) c.args.at cause.NoSetting (told.no_setting l)) again ∙ sym same) c.unknown.ensures
