-- How statements end.
use Rattle.std.proofs.Common.{◌≡◌, ◌≢◌, ℕ, Bool, true, false, cond, ◌||◌, inl, inr, List, [], ◌∷◌, ◌++◌, length, filter_map, sym, refl, subst, drop, codes}
use Rattle.std.specs.Str.{byte}
use Rattle.std.proofs.lemmas.Bool.{cases_Bool}
use Rattle.pgn_base.specs.declared.command.Command.{Command}
use Rattle.pgn_language.specs.Tokens.{Lexeme, Word, Quoted, Literal, Number, Sign, Wrong, Token}
use Rattle.pgn_language.specs.Grammar.{Slot, Key, Name, Punct, fits_slot, IsForm, ReadsAs, name_of}
use Rattle.pgn_language.specs.laws.Grammar.{after_first}
use Rattle.pgn_command.specs.Reading.{front_lexeme, ending, closing, past_work, naming, outcome}
use Rattle.pgn_command.proofs.FormSteps.{Stands, stands-next, stands-by, stands-stop, stands-whole, before_all, expecting-reads, alike, key-word, key-cases, sign-cases}

-- nothing more, or a `;`
abbrev pub done : List (List Slot)
done = [] ∷ (Punct (byte ";") ∷ []) ∷ []

-- the tokens are a command, and so they are with a `;`
pub record Complete (lexemes : List Lexeme) (one : Command) : Type 0 where
  pub bare : IsForm lexemes one
  pub ended : (l : Lexeme) → fits_slot (Punct (byte ";")) l ≡ true → IsForm (lexemes ++ l ∷ []) one

-- a `;` ends what may be ended so, and what is ahead fits nowhere else
pub record Endable (ways : List (List Slot)) (ahead : List Token) : Type 0 where
  pub some : ways ≢ []
  pub semicolon : (l : Lexeme) → fits_slot (Punct (byte ";")) l ≡ true → filter_map (after_first l) ways ≡ [] ∷ []
  pub other : fits_slot (Punct (byte ";")) (front_lexeme ahead) ≡ false → filter_map (after_first (front_lexeme ahead)) ways ≡ []

abbrev only : List (List Slot)
only = [] ∷ []

only-some : only ≢ []
only-some e = absurd (cc)

ending-reads : (text : List ℕ) (lexemes : List Lexeme) (one : Command) (ahead : List Token) → Stands text lexemes only ahead → IsForm lexemes one → ReadsAs text (outcome (ending (length text) one ahead))
ending-reads text lexemes one [] s form = stands-whole text lexemes only one s form
ending-reads text lexemes one (token ∷ ahead) s form = stands-stop text lexemes only token ahead s only-some refl

-- at the end of a statement a `;` may stand, and nothing else
pub closing-reads : (text : List ℕ) (lexemes : List Lexeme) (ways : List (List Slot)) (one : Command) (ahead : List Token) → Stands text lexemes ways ahead → Endable ways ahead → Complete lexemes one → ReadsAs text (outcome (closing (length text) one ahead))
closing-reads text lexemes ways one [] s e c = stands-whole text lexemes ways one s c.bare
closing-reads text lexemes ways one (token ∷ ahead) s e c = elim (cases_Bool (fits_slot (Punct (byte ";")) token.lexeme)) [
  | inl t ↦ subst (λ (b : Bool). ReadsAs text (outcome (ending (length text) one (cond b ahead (token ∷ ahead))))) (sym t)
      (ending-reads text (lexemes ++ token.lexeme ∷ []) one ahead (stands-by text (lexemes ++ token.lexeme ∷ []) (filter_map (after_first token.lexeme) ways) only ahead (e.semicolon token.lexeme t) (stands-next text lexemes ways token ahead s))
      (c.ended token.lexeme t))
  | inr t ↦ subst (λ (b : Bool). ReadsAs text (outcome (ending (length text) one (cond b ahead (token ∷ ahead))))) (sym t) (stands-stop text lexemes ways token ahead s e.some (e.other t))
]

done-semicolon : (l : Lexeme) → fits_slot (Punct (byte ";")) l ≡ true → filter_map (after_first l) done ≡ [] ∷ []
done-semicolon l t = rw t refl

done-other : (l : Lexeme) → fits_slot (Punct (byte ";")) l ≡ false → filter_map (after_first l) done ≡ []
done-other l t = rw t refl

pub done-endable : (ahead : List Token) → Endable done ahead
done-endable ahead = record { some = λ e. absurd (cc); semicolon = done-semicolon; other = done-other (front_lexeme ahead) }

-- the same where no other part may follow
pub done-reads : (text : List ℕ) (lexemes : List Lexeme) (one : Command) (ahead : List Token) → Stands text lexemes done ahead → Complete lexemes one → ReadsAs text (outcome (closing (length text) one ahead))
done-reads text lexemes one ahead s c = closing-reads text lexemes done one ahead s (done-endable ahead) c

-- a name, and then the end
abbrev pub named : List (List Slot)
named = before_all Name done

-- a name and the end read as the command of this name
pub naming-reads : (text : List ℕ) (lexemes : List Lexeme) (gives : List ℕ → Command) (ahead : List Token) → Stands text lexemes named ahead
    → ((l : Lexeme) → fits_slot Name l ≡ true → Complete (lexemes ++ l ∷ []) (gives (name_of l))) → ReadsAs text (outcome (naming (length text) gives ahead))
naming-reads text lexemes gives ahead s c =
    expecting-reads text lexemes Name done ahead (closing (length text) (gives (name_of (front_lexeme ahead)))) (λ e. absurd (cc)) s
    (λ f next. done-reads text (lexemes ++ front_lexeme ahead ∷ []) (gives (name_of (front_lexeme ahead))) (drop 1 ahead) next (c (front_lexeme ahead) f))

-- the word WORK or TRANSACTION, or neither, and then the end
abbrev pub worked : List (List Slot)
worked = done ++ before_all (Key (codes "work")) done ++ before_all (Key (codes "transaction")) done

worked-semicolon : (l : Lexeme) → fits_slot (Punct (byte ";")) l ≡ true → filter_map (after_first l) worked ≡ [] ∷ []
worked-semicolon l t = sign-cases (λ l. filter_map (after_first l) worked ≡ [] ∷ []) (byte ";") (λ s e. rw e refl) l t

worked-other : (l : Lexeme) → fits_slot (Punct (byte ";")) l ≡ false → fits_slot (Key (codes "work")) l ≡ false → fits_slot (Key (codes "transaction")) l ≡ false → filter_map (after_first l) worked ≡ []
worked-other (Word w) t e f = rw (e, f) refl
worked-other (Sign s) t e f = rw t refl
worked-other (Quoted text) t e f = refl
worked-other (Literal text) t e f = refl
worked-other (Number digits) t e f = refl
worked-other Wrong t e f = refl

worked-work : (l : Lexeme) → fits_slot (Key (codes "work")) l ≡ true → filter_map (after_first l) worked ≡ done
worked-work l e = key-cases (λ l. filter_map (after_first l) worked ≡ done) (codes "work") (λ w h. alike w (codes "work") worked (key-word (codes "work") w h)) l e

worked-transaction : (l : Lexeme) → fits_slot (Key (codes "transaction")) l ≡ true → filter_map (after_first l) worked ≡ done
worked-transaction l e = key-cases (λ l. filter_map (after_first l) worked ≡ done) (codes "transaction") (λ w h. alike w (codes "transaction") worked (key-word (codes "transaction") w h)) l e

-- the tokens are a command with and without that word
pub record WorkComplete (lexemes : List Lexeme) (one : Command) : Type 0 where
  pub bare : Complete lexemes one
  pub work : (l : Lexeme) → fits_slot (Key (codes "work")) l ≡ true → Complete (lexemes ++ l ∷ []) one
  pub transaction : (l : Lexeme) → fits_slot (Key (codes "transaction")) l ≡ true → Complete (lexemes ++ l ∷ []) one

-- WORK or TRANSACTION before the end changes nothing of the command
pub working-reads : (text : List ℕ) (lexemes : List Lexeme) (one : Command) (ahead : List Token) → Stands text lexemes worked ahead → WorkComplete lexemes one → ReadsAs text (outcome (closing (length text) one (past_work ahead)))
working-reads text lexemes one [] s c = stands-whole text lexemes worked one s c.bare.bare
working-reads text lexemes one (token ∷ ahead) s c =
    let l : Lexeme = token.lexeme in
    let next : Stands text (lexemes ++ l ∷ []) (filter_map (after_first l) worked) ahead = stands-next text lexemes worked token ahead s in
    elim (cases_Bool (fits_slot (Key (codes "work")) l)) [
      | inl e ↦ subst (λ (b : Bool). ReadsAs text (outcome (closing (length text) one (cond (b || fits_slot (Key (codes "transaction")) l) ahead (token ∷ ahead))))) (sym e)
          (done-reads text (lexemes ++ l ∷ []) one ahead (stands-by text (lexemes ++ l ∷ []) (filter_map (after_first l) worked) done ahead (worked-work l e) next) (c.work l e))
      | inr e ↦ elim (cases_Bool (fits_slot (Key (codes "transaction")) l)) [
        | inl f ↦ subst (λ (b : Bool). ReadsAs text (outcome (closing (length text) one (cond (b || fits_slot (Key (codes "transaction")) l) ahead (token ∷ ahead))))) (sym e)
            (subst (λ (b : Bool). ReadsAs text (outcome (closing (length text) one (cond b ahead (token ∷ ahead))))) (sym f)
            (done-reads text (lexemes ++ l ∷ []) one ahead (stands-by text (lexemes ++ l ∷ []) (filter_map (after_first l) worked) done ahead (worked-transaction l f) next) (c.transaction l f)))
        | inr f ↦ subst (λ (b : Bool). ReadsAs text (outcome (closing (length text) one (cond (b || fits_slot (Key (codes "transaction")) l) ahead (token ∷ ahead))))) (sym e)
            (subst (λ (b : Bool). ReadsAs text (outcome (closing (length text) one (cond b ahead (token ∷ ahead))))) (sym f)
            (closing-reads text lexemes worked one (token ∷ ahead) s (record { some = λ h. absurd (cc); semicolon = worked-semicolon; other = λ t. worked-other l t e f }) c.bare))
      ]
    ]
