-- How what is told is what a text asks for.
use Rattle.std.proofs.Common.{◌≡◌, ℕ, zero, suc, ◌-◌, ◌<◌, ◌≤◌, Bool, true, false, cond, List, [], ◌∷◌, ◌++◌, length, Option, None, Some, Result, Ok, Err, IfOk, OnOk, sym, ap, ◌∙◌, refl, arith}
use Rattle.std.specs.Prelude.{codes}
use Rattle.std.proofs.lemmas.Bool.{false≢true}
use Rattle.pgn_language.specs.Tokens as model
use Rattle.pgn_requests.specs.declared.setting.Setting.{Setting}
use Rattle.pgn_requests.specs.Phrases.{going, is_one, unread, value_of, given_asks, valued_asks, past_mode, past_comma, is_end, are_modes}
use Rattle.pgn_statements.specs.Steps.{IsPut}
use Rattle.pgn_statements.proofs.PlainLaws.{pick_no}

-- the same told in other words
pub IfOk-same : {A E : Type 0} (result : Result A E) (one other : A) → one ≡ other → IfOk result (λ r. r ≡ one) → IfOk result (λ r. r ≡ other)
IfOk-same (Ok r) one other e h = h ∙ e
IfOk-same (Err r) one other e h = tt

-- what follows from what holds of an answer that is no error
pub OnOk-map : {A E : Type 0} (result : Result A E) (P Q : Type 0) → (P → Q) → OnOk result P → OnOk result Q
OnOk-map (Ok r) P Q f h = f h
OnOk-map (Err r) P Q f h = tt

-- the first of two
pub pick_yes : {A : Type 0} (x : Bool) (one other : A) → x ≡ true → cond x one other ≡ one
pick_yes true one other e = refl
pick_yes false one other e = absurd (false≢true e)

-- what follows some words
pub going-some : {A : Type 0} (o : Option (List model.Lexeme)) (rest : List model.Lexeme) (goes : List model.Lexeme → A) (otherwise : A) → o ≡ Some rest → going o goes otherwise ≡ goes rest
going-some o rest goes otherwise e = ap (λ (some : Option (List model.Lexeme)). going some goes otherwise) e

-- modes after a mode
end-no : (rest : List model.Lexeme) → 1 ≤ length rest → is_end rest ≡ false
end-no [] l = absurd (omega arith)
end-no (a ∷ rest) l = refl

-- one mode less, and the others behind its comma
pub modes-step : (most : ℕ) (lexemes rest : List model.Lexeme) → 0 < most → past_mode lexemes ≡ Some rest → 1 ≤ length rest → are_modes most lexemes ≡ are_modes (most - 1) (past_comma rest)
modes-step zero lexemes rest l e m = absurd (omega arith)
modes-step (suc most) lexemes rest l e m =
    let less : most ≡ suc most - 1 = omega arith in
    going-some (past_mode lexemes) rest _ _ e ∙ pick_no (is_end rest) true (are_modes most (past_comma rest)) (end-no rest m) ∙ ap (λ (n : ℕ). are_modes n (past_comma rest)) less

-- a value that was put behind nothing
pub put-some : (told : Bool) (old new : List ℕ) (value : Option (List ℕ)) → IsPut told old new value → told ≡ true → old ≡ [] → value ≡ Some new
put-some told old new None p t e = absurd (false≢true (sym p ∙ t))
put-some told old new (Some some) p t e = ap (λ (l : List ℕ). Some l) (sym (p.1 ∙ ap (λ (l : List ℕ). l ++ some) e))

-- none was put
pub put-none : (told : Bool) (old new : List ℕ) (value : Option (List ℕ)) → IsPut told old new value → told ≡ false → value ≡ None
put-none told old new None p f = refl
put-none told old new (Some some) p f = absurd (false≢true (sym f ∙ p.0))

-- what is no value
pub valued-none : (text : List ℕ) (at : ℕ) (starts : Bool) (lexemes : List model.Lexeme) (one : Setting) → is_one (codes "default") lexemes ≡ false → value_of lexemes ≡ None
    → valued_asks text at starts lexemes one ≡ unread text at
valued-none text at starts lexemes one e f = pick_no (is_one (codes "default") lexemes) _ (given_asks text at starts one (value_of lexemes)) e ∙ ap (given_asks text at starts one) f

-- a value that is not DEFAULT
pub valued-given : (text : List ℕ) (at : ℕ) (starts : Bool) (lexemes : List model.Lexeme) (one : Setting) (value : List ℕ) → is_one (codes "default") lexemes ≡ false → value_of lexemes ≡ Some value
    → valued_asks text at starts lexemes one ≡ given_asks text at starts one (Some value)
valued-given text at starts lexemes one value e f = pick_no (is_one (codes "default") lexemes) _ (given_asks text at starts one (value_of lexemes)) e ∙ ap (given_asks text at starts one) f
