-- What tokens ask of a setting that they name.
use Rattle.std.proofs.Common.{◌≡◌, ℕ, suc, ◌-◌, ◌≤◌, Bool, true, ◌&&◌, List, [], ◌∷◌, length, take, drop, get_or, Option, None, Some, sym, ap, ◌∙◌, arith}
use Rattle.std.specs.Prelude.{codes}
use Rattle.std.proofs.lemmas.Bool.{and_from}
use Rattle.std.proofs.lemmas.List.{take_all}
use Rattle.pgn_language.specs.Tokens as model
use Rattle.pgn_command.specs.declared.token.Lexeme.{Lexeme}
use Rattle.pgn_requests.specs.declared.complaint.Cause.TheVariants as cause
use Rattle.pgn_requests.specs.declared.request.Request.{Request}
use Rattle.pgn_requests.specs.declared.setting.Setting.{Setting}
use Rattle.pgn_requests.specs.Texts.{one_line}
use Rattle.pgn_requests.specs.Phrases.{assigned_asks, ident_text, is_key, is_name, named_asks, named_settled, no_setting, refused, setting_named, unread, valued_asks, with_setting}
use Rattle.pgn_statements.specs.Lexemes.{meant, all_meant}
use Rattle.pgn_statements.proofs.AskLaws.{pick_yes}

-- one token is all
pub front-one : (xs : List Lexeme) (a : Lexeme) → length xs ≡ 1 → a ≡ get_or xs 0 a → all_meant xs ≡ meant a ∷ []
front-one [] a l e = absurd (omega (arith, l))
front-one (x ∷ []) a l e = ap (λ (b : Lexeme). meant b ∷ []) (sym e)
front-one (x ∷ y ∷ xs) a l e = absurd (omega (arith, l))

-- tokens are the first two and the others
pub front-two : (xs : List Lexeme) (a b : Lexeme) → 2 ≤ length xs → a ≡ get_or xs 0 a → b ≡ get_or xs 1 b → all_meant xs ≡ meant a ∷ meant b ∷ all_meant (take (length xs - 2) (drop 2 xs))
front-two [] a b l e f = absurd (omega arith)
front-two (x ∷ []) a b l e f = absurd (omega arith)
front-two (x ∷ y ∷ xs) a b l e f =
    let all : take (suc (suc (length xs)) - 2) xs ≡ xs = take_all (suc (suc (length xs)) - 2) xs (omega arith) in
    ap (λ (some : List Lexeme). meant x ∷ meant y ∷ all_meant some) (sym all)
    ∙ ap (λ (c : Lexeme). meant c ∷ meant y ∷ all_meant (take (suc (suc (length xs)) - 2) xs)) (sym e)
    ∙ ap (λ (c : Lexeme). meant a ∷ meant c ∷ all_meant (take (suc (suc (length xs)) - 2) xs)) (sym f)

-- a name of a setting, or of none
with-some : (text : List ℕ) (at : ℕ) (name : List ℕ) (asks : Setting → Request) (one : Setting) → setting_named name ≡ Some one → with_setting text at name asks ≡ asks one
with-some text at name asks one e = ap (λ (o : Option Setting). elim o as (λ _. Request) [ Some x ↦ asks x | None ↦ refused (one_line text) at cause.NoSetting (no_setting name) ]) e

with-none : (text : List ℕ) (at : ℕ) (name : List ℕ) (asks : Setting → Request) → setting_named name ≡ None → with_setting text at name asks ≡ refused (one_line text) at cause.NoSetting (no_setting name)
with-none text at name asks e = ap (λ (o : Option Setting). elim o as (λ _. Request) [ Some x ↦ asks x | None ↦ refused (one_line text) at cause.NoSetting (no_setting name) ]) e

-- a name, TO and a value
assigned-by : (text : List ℕ) (at : ℕ) (starts : Bool) (a b : model.Lexeme) (rest : List model.Lexeme) → is_name a ≡ true → is_key (codes "to") b ≡ true
    → assigned_asks text at starts (a ∷ b ∷ rest) ≡ with_setting text at (ident_text a) (valued_asks text at starts rest)
assigned-by text at starts a b rest e f = pick_yes (is_name a && is_key (codes "to") b) _ (unread text at) (and_from (is_name a) (is_key (codes "to") b) e f)

-- with a setting of that name
pub assigned-some : (text : List ℕ) (at : ℕ) (starts : Bool) (lexemes : List model.Lexeme) (a b : model.Lexeme) (rest : List model.Lexeme) (name : List ℕ) (one : Setting) → lexemes ≡ a ∷ b ∷ rest
    → is_name a ≡ true → is_key (codes "to") b ≡ true → name ≡ ident_text a → Some one ≡ setting_named name → assigned_asks text at starts lexemes ≡ valued_asks text at starts rest one
assigned-some text at starts lexemes a b rest name one w e f n s =
    ap (assigned_asks text at starts) w ∙ assigned-by text at starts a b rest e f ∙ with-some text at (ident_text a) (valued_asks text at starts rest) one (ap setting_named (sym n) ∙ sym s)

-- with a name of none
pub assigned-none : (text : List ℕ) (at : ℕ) (starts : Bool) (lexemes : List model.Lexeme) (a b : model.Lexeme) (rest : List model.Lexeme) (name : List ℕ) → lexemes ≡ a ∷ b ∷ rest
    → is_name a ≡ true → is_key (codes "to") b ≡ true → name ≡ ident_text a → None ≡ setting_named name → assigned_asks text at starts lexemes ≡ refused (one_line text) at cause.NoSetting (no_setting name)
assigned-none text at starts lexemes a b rest name w e f n s =
    ap (assigned_asks text at starts) w ∙ assigned-by text at starts a b rest e f ∙ with-none text at (ident_text a) (valued_asks text at starts rest) (ap setting_named (sym n) ∙ sym s)
    ∙ ap (λ (l : List ℕ). refused (one_line text) at cause.NoSetting (no_setting l)) (sym n)

-- a setting's name and nothing else
pub named-some : (text : List ℕ) (at : ℕ) (shows : Bool) (lexemes : List model.Lexeme) (a : model.Lexeme) (name : List ℕ) (one : Setting) → lexemes ≡ a ∷ []
    → is_name a ≡ true → name ≡ ident_text a → Some one ≡ setting_named name → named_asks text at shows lexemes ≡ named_settled text at shows one
named-some text at shows lexemes a name one w e n s =
    ap (named_asks text at shows) w ∙ pick_yes (is_name a) _ (unread text at) e ∙ with-some text at (ident_text a) (named_settled text at shows) one (ap setting_named (sym n) ∙ sym s)

-- a name of none and nothing else
pub named-none : (text : List ℕ) (at : ℕ) (shows : Bool) (lexemes : List model.Lexeme) (a : model.Lexeme) (name : List ℕ) → lexemes ≡ a ∷ []
    → is_name a ≡ true → name ≡ ident_text a → None ≡ setting_named name → named_asks text at shows lexemes ≡ refused (one_line text) at cause.NoSetting (no_setting name)
named-none text at shows lexemes a name w e n s =
    ap (named_asks text at shows) w ∙ pick_yes (is_name a) _ (unread text at) e ∙ with-none text at (ident_text a) (named_settled text at shows) (ap setting_named (sym n) ∙ sym s)
    ∙ ap (λ (l : List ℕ). refused (one_line text) at cause.NoSetting (no_setting l)) (sym n)
