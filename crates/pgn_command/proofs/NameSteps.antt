-- Names, savepoints, notifications and calls.
use Rattle.std.proofs.Common.{◌≡◌, ◌≢◌, ℕ, Bool, true, false, cond, ◌&&◌, ◌||◌, inl, inr, List, [], ◌∷◌, ◌++◌, length, filter_map, sym, refl, subst, drop, codes}
use Rattle.std.specs.Str.{byte, str_eq_ignore_ascii_case}
use Rattle.std.specs.Prelude.{Result, Ok, Err}
use Rattle.std.proofs.lemmas.Bool.{false≢true, cases_Bool, eqb-true}
use Rattle.pgn_base.specs.declared.command.Command.{Command}
use Rattle.pgn_base.specs.declared.command.Command.TheVariants as command
use Rattle.pgn_language.specs.Tokens.{Lexeme, Word, Quoted, Literal, Number, Sign, Wrong, Token}
use Rattle.pgn_language.specs.Grammar.{Slot, Key, Name, Quote, Punct, fits_slot, ReadsAs, name_of, text_of}
use Rattle.pgn_language.specs.laws.Grammar.{after_first}
use Rattle.pgn_command.specs.Reading.{front_lexeme, takes, expecting, closing, past_work, past_savepoint, naming, rolling, unlistening, notifying, paying, noted, Argument, after_argument, asking, outcome}
use Rattle.pgn_command.proofs.FormSteps.{Stands, stands-next, stands-by, stands-stop, stands-lack, stands-whole, stands-taken, stands-refused, before_all, expecting-reads, alike, key-word, key-cases, sign-cases}
use Rattle.pgn_command.proofs.CloseSteps.{done, Complete, closing-reads, done-reads, named, worked}

-- a name, before which the word SAVEPOINT may stand
abbrev pub saved : List (List Slot)
saved = named ++ before_all (Key (codes "savepoint")) named

-- after that word, which may be the name
abbrev after_word : List (List Slot)
after_word = done ++ named

-- what is a name gives a command, with and without the word before it
pub record SavedComplete (lexemes : List Lexeme) (gives : List ℕ → Command) : Type 0 where
  pub bare : (l : Lexeme) → fits_slot Name l ≡ true → Complete (lexemes ++ l ∷ []) (gives (name_of l))
  pub word : (l m : Lexeme) → fits_slot (Key (codes "savepoint")) l ≡ true → fits_slot Name m ≡ true → Complete (lexemes ++ l ∷ [] ++ m ∷ []) (gives (name_of m))

after_word-name : (l : Lexeme) → fits_slot Name l ≡ true → filter_map (after_first l) after_word ≡ done
after_word-name (Word w) e = refl
after_word-name (Quoted text) e = refl
after_word-name (Literal text) e = absurd (false≢true e)
after_word-name (Number digits) e = absurd (false≢true e)
after_word-name (Sign s) e = absurd (false≢true e)
after_word-name Wrong e = absurd (false≢true e)

after_word-other : (l : Lexeme) → fits_slot Name l ≡ false → fits_slot (Punct (byte ";")) l ≡ false → filter_map (after_first l) after_word ≡ []
after_word-other l e f = rw (e, f) refl

after_word-semicolon : (l : Lexeme) → fits_slot (Punct (byte ";")) l ≡ true → filter_map (after_first l) after_word ≡ [] ∷ []
after_word-semicolon l t = sign-cases (λ l. filter_map (after_first l) after_word ≡ [] ∷ []) (byte ";") (λ s e. rw e refl) l t

saved-name : (l : Lexeme) → fits_slot Name l ≡ true → fits_slot (Key (codes "savepoint")) l ≡ false → filter_map (after_first l) saved ≡ done
saved-name l e f = rw (e, f) refl

saved-word : (w : List ℕ) → str_eq_ignore_ascii_case (codes "savepoint") w ≡ true → filter_map (after_first (Word w)) saved ≡ after_word
saved-word w e = alike w (codes "savepoint") saved (key-word (codes "savepoint") w e)

saved-other : (l : Lexeme) → fits_slot Name l ≡ false → filter_map (after_first l) saved ≡ []
saved-other (Word w) e = absurd (false≢true (sym e))
saved-other (Quoted text) e = absurd (false≢true (sym e))
saved-other (Literal text) e = refl
saved-other (Number digits) e = refl
saved-other (Sign s) e = refl
saved-other Wrong e = refl

-- the first token is no name
front-fails : (ahead : List Token) → takes Name ahead ≡ false → fits_slot Name (front_lexeme ahead) ≡ false
front-fails [] e = refl
front-fails (token ∷ ahead) e = e

word-name : (text : List ℕ) (lexemes : List Lexeme) (gives : List ℕ → Command) (w : List ℕ) (ahead : List Token) → Stands text (lexemes ++ Word w ∷ []) after_word ahead → takes Name ahead ≡ true
    → fits_slot (Key (codes "savepoint")) (Word w) ≡ true → SavedComplete lexemes gives → ReadsAs text (outcome (naming (length text) gives ahead))
word-name text lexemes gives w [] s e f c = absurd (false≢true e)
word-name text lexemes gives w (token ∷ ahead) s e f c =
    let l : Lexeme = token.lexeme in
    let next : Stands text (lexemes ++ Word w ∷ [] ++ l ∷ []) done ahead =
    stands-by text (lexemes ++ Word w ∷ [] ++ l ∷ []) (filter_map (after_first l) after_word) done ahead (after_word-name l e) (stands-next text (lexemes ++ Word w ∷ []) after_word token ahead s) in
    subst (λ (b : Bool). ReadsAs text (outcome (cond b (closing (length text) (gives (name_of l)) ahead) (Err token.at)))) (sym e)
    (done-reads text (lexemes ++ Word w ∷ [] ++ l ∷ []) (gives (name_of l)) ahead next (c.word (Word w) l f e))

-- the word SAVEPOINT has been read
word-reads : (text : List ℕ) (lexemes : List Lexeme) (gives : List ℕ → Command) (w : List ℕ) (at : ℕ) (ahead : List Token) → Stands text (lexemes ++ Word w ∷ []) after_word ahead → fits_slot (Key (codes "savepoint")) (Word w) ≡ true
    → SavedComplete lexemes gives → let word : Token = record { lexeme = Word w; at = at } in ReadsAs text (outcome (naming (length text) gives (cond (takes Name ahead) ahead (word ∷ ahead))))
word-reads text lexemes gives w at ahead s f c =
    let word : Token = record { lexeme = Word w; at = at } in
    elim (cases_Bool (takes Name ahead)) [
      | inl e ↦ subst (λ (b : Bool). ReadsAs text (outcome (naming (length text) gives (cond b ahead (word ∷ ahead))))) (sym e)
          (word-name text lexemes gives w ahead s e f c)
      | inr e ↦ subst (λ (b : Bool). ReadsAs text (outcome (naming (length text) gives (cond b ahead (word ∷ ahead))))) (sym e)
          (closing-reads text (lexemes ++ Word w ∷ []) after_word (gives (name_of (Word w))) ahead s
          (record { some = λ h. absurd (cc); semicolon = after_word-semicolon; other = λ t. after_word-other (front_lexeme ahead) (front-fails ahead e) t }) (c.bare (Word w) refl))
    ]

-- another name
plain-reads : (text : List ℕ) (lexemes : List Lexeme) (gives : List ℕ → Command) (token : Token) (ahead : List Token) → Stands text lexemes saved (token ∷ ahead) → fits_slot (Key (codes "savepoint")) token.lexeme ≡ false
    → SavedComplete lexemes gives → ReadsAs text (outcome (naming (length text) gives (token ∷ ahead)))
plain-reads text lexemes gives token ahead s f c =
    let l : Lexeme = token.lexeme in
    elim (cases_Bool (fits_slot Name l)) [
      | inl e ↦ subst (λ (b : Bool). ReadsAs text (outcome (cond b (closing (length text) (gives (name_of l)) ahead) (Err token.at)))) (sym e)
          (done-reads text (lexemes ++ l ∷ []) (gives (name_of l)) ahead
          (stands-by text (lexemes ++ l ∷ []) (filter_map (after_first l) saved) done ahead (saved-name l e f) (stands-next text lexemes saved token ahead s)) (c.bare l e))
      | inr e ↦ subst (λ (b : Bool). ReadsAs text (outcome (cond b (closing (length text) (gives (name_of l)) ahead) (Err token.at)))) (sym e)
          (stands-stop text lexemes saved token ahead s (λ h. absurd (cc)) (saved-other l e))
    ]

saved_word-reads : (text : List ℕ) (lexemes : List Lexeme) (gives : List ℕ → Command) (l : Lexeme) (at : ℕ) (ahead : List Token) → let token : Token = record { lexeme = l; at = at } in Stands text lexemes saved (token ∷ ahead)
    → fits_slot (Key (codes "savepoint")) l ≡ true → SavedComplete lexemes gives → ReadsAs text (outcome (naming (length text) gives (cond (takes Name ahead) ahead (token ∷ ahead))))
saved_word-reads text lexemes gives (Word w) at ahead s e c =
    let token : Token = record { lexeme = Word w; at = at } in
    word-reads text lexemes gives w at ahead (stands-by text (lexemes ++ Word w ∷ []) (filter_map (after_first (Word w)) saved) after_word ahead (saved-word w e) (stands-next text lexemes saved token ahead s)) e c
saved_word-reads text lexemes gives (Quoted x) at ahead s e c = absurd (false≢true e)
saved_word-reads text lexemes gives (Literal x) at ahead s e c = absurd (false≢true e)
saved_word-reads text lexemes gives (Number x) at ahead s e c = absurd (false≢true e)
saved_word-reads text lexemes gives (Sign x) at ahead s e c = absurd (false≢true e)
saved_word-reads text lexemes gives Wrong at ahead s e c = absurd (false≢true e)

-- a name behind SAVEPOINT, which may be left out, reads as the command of this name
pub saving-reads : (text : List ℕ) (lexemes : List Lexeme) (gives : List ℕ → Command) (ahead : List Token) → Stands text lexemes saved ahead → SavedComplete lexemes gives → ReadsAs text (outcome (naming (length text) gives (past_savepoint ahead)))
saving-reads text lexemes gives [] s c = stands-lack text lexemes saved s (λ h. absurd (cc)) refl
saving-reads text lexemes gives (token ∷ ahead) s c = elim (cases_Bool (fits_slot (Key (codes "savepoint")) token.lexeme)) [
  | inl e ↦ subst (λ (b : Bool). ReadsAs text (outcome (naming (length text) gives (cond (b && takes Name ahead) ahead (token ∷ ahead))))) (sym e) (saved_word-reads text lexemes gives token.lexeme token.at ahead s e c)
  | inr e ↦ subst (λ (b : Bool). ReadsAs text (outcome (naming (length text) gives (cond (b && takes Name ahead) ahead (token ∷ ahead))))) (sym e) (plain-reads text lexemes gives token ahead s e c)
]

-- TO and a savepoint
abbrev pub toward : List (List Slot)
toward = before_all (Key (codes "to")) saved

-- after ROLLBACK, and after ROLLBACK WORK
abbrev pub rolled : List (List Slot)
rolled = worked ++ toward ++ before_all (Key (codes "work")) toward ++ before_all (Key (codes "transaction")) toward

abbrev pub rolled_work : List (List Slot)
rolled_work = done ++ toward

-- ROLLBACK is complete by itself, and with TO and a savepoint
pub record RollComplete (lexemes : List Lexeme) : Type 0 where
  pub bare : Complete lexemes command.Rollback
  pub back : (l : Lexeme) → fits_slot (Key (codes "to")) l ≡ true → SavedComplete (lexemes ++ l ∷ []) command.RollbackTo

-- what TO and anything else leave
record Rolls (ways : List (List Slot)) (ahead : List Token) : Type 0 where
  some : ways ≢ []
  to : (w : List ℕ) → str_eq_ignore_ascii_case (codes "to") w ≡ true → filter_map (after_first (Word w)) ways ≡ saved
  semicolon : (l : Lexeme) → fits_slot (Punct (byte ";")) l ≡ true → filter_map (after_first l) ways ≡ [] ∷ []
  other : fits_slot (Punct (byte ";")) (front_lexeme ahead) ≡ false → fits_slot (Key (codes "to")) (front_lexeme ahead) ≡ false → filter_map (after_first (front_lexeme ahead)) ways ≡ []

to-reads : (text : List ℕ) (lexemes : List Lexeme) (ways : List (List Slot)) (l : Lexeme) (at : ℕ) (ahead : List Token) → let token : Token = record { lexeme = l; at = at } in Stands text lexemes ways (token ∷ ahead) → Rolls ways (token ∷ ahead)
    → fits_slot (Key (codes "to")) l ≡ true → RollComplete lexemes → ReadsAs text (outcome (naming (length text) command.RollbackTo (past_savepoint ahead)))
to-reads text lexemes ways (Word w) at ahead s r e c =
    let token : Token = record { lexeme = Word w; at = at } in
    saving-reads text (lexemes ++ Word w ∷ []) command.RollbackTo ahead
    (stands-by text (lexemes ++ Word w ∷ []) (filter_map (after_first (Word w)) ways) saved ahead (r.to w e) (stands-next text lexemes ways token ahead s)) (c.back (Word w) e)
to-reads text lexemes ways (Quoted x) at ahead s r e c = absurd (false≢true e)
to-reads text lexemes ways (Literal x) at ahead s r e c = absurd (false≢true e)
to-reads text lexemes ways (Number x) at ahead s r e c = absurd (false≢true e)
to-reads text lexemes ways (Sign x) at ahead s r e c = absurd (false≢true e)
to-reads text lexemes ways Wrong at ahead s r e c = absurd (false≢true e)

roll-reads : (text : List ℕ) (lexemes : List Lexeme) (ways : List (List Slot)) (ahead : List Token) → Stands text lexemes ways ahead → Rolls ways ahead → RollComplete lexemes → ReadsAs text (outcome (rolling (length text) ahead))
roll-reads text lexemes ways [] s r c = stands-whole text lexemes ways command.Rollback s c.bare.bare
roll-reads text lexemes ways (token ∷ ahead) s r c = elim (cases_Bool (fits_slot (Key (codes "to")) token.lexeme)) [
  | inl e ↦ subst (λ (b : Bool). ReadsAs text (outcome (cond b (naming (length text) command.RollbackTo (past_savepoint ahead)) (closing (length text) command.Rollback (token ∷ ahead))))) (sym e)
      (to-reads text lexemes ways token.lexeme token.at ahead s r e c)
  | inr e ↦ subst (λ (b : Bool). ReadsAs text (outcome (cond b (naming (length text) command.RollbackTo (past_savepoint ahead)) (closing (length text) command.Rollback (token ∷ ahead))))) (sym e)
      (closing-reads text lexemes ways command.Rollback (token ∷ ahead) s (record { some = r.some; semicolon = r.semicolon; other = λ t. r.other t e }) c.bare)
]

work-to : (w : List ℕ) → str_eq_ignore_ascii_case (codes "to") w ≡ true → filter_map (after_first (Word w)) rolled_work ≡ saved
work-to w e = alike w (codes "to") rolled_work (key-word (codes "to") w e)

work-semicolon : (l : Lexeme) → fits_slot (Punct (byte ";")) l ≡ true → filter_map (after_first l) rolled_work ≡ [] ∷ []
work-semicolon l t = sign-cases (λ l. filter_map (after_first l) rolled_work ≡ [] ∷ []) (byte ";") (λ s e. rw e refl) l t

work-other : (l : Lexeme) → fits_slot (Punct (byte ";")) l ≡ false → fits_slot (Key (codes "to")) l ≡ false → filter_map (after_first l) rolled_work ≡ []
work-other l t e = rw (t, e) refl

work-rolls : (ahead : List Token) → Rolls rolled_work ahead
work-rolls ahead = record { some = λ h. absurd (cc); to = work-to; semicolon = work-semicolon; other = work-other (front_lexeme ahead) }

rolled-to : (w : List ℕ) → str_eq_ignore_ascii_case (codes "to") w ≡ true → filter_map (after_first (Word w)) rolled ≡ saved
rolled-to w e = alike w (codes "to") rolled (key-word (codes "to") w e)

rolled-semicolon : (l : Lexeme) → fits_slot (Punct (byte ";")) l ≡ true → filter_map (after_first l) rolled ≡ [] ∷ []
rolled-semicolon l t = sign-cases (λ l. filter_map (after_first l) rolled ≡ [] ∷ []) (byte ";") (λ s e. rw e refl) l t

rolled-other : (l : Lexeme) → fits_slot (Key (codes "work")) l ≡ false → fits_slot (Key (codes "transaction")) l ≡ false → fits_slot (Punct (byte ";")) l ≡ false → fits_slot (Key (codes "to")) l ≡ false → filter_map (after_first l) rolled ≡ []
rolled-other (Word w) e f t g = rw (e, f, g) refl
rolled-other (Quoted x) e f t g = refl
rolled-other (Literal x) e f t g = refl
rolled-other (Number x) e f t g = refl
rolled-other (Sign x) e f t g = rw t refl
rolled-other Wrong e f t g = refl

rolled-work : (l : Lexeme) → fits_slot (Key (codes "work")) l ≡ true → filter_map (after_first l) rolled ≡ rolled_work
rolled-work l e = key-cases (λ l. filter_map (after_first l) rolled ≡ rolled_work) (codes "work") (λ w h. alike w (codes "work") rolled (key-word (codes "work") w h)) l e

rolled-transaction : (l : Lexeme) → fits_slot (Key (codes "transaction")) l ≡ true → filter_map (after_first l) rolled ≡ rolled_work
rolled-transaction l e = key-cases (λ l. filter_map (after_first l) rolled ≡ rolled_work) (codes "transaction") (λ w h. alike w (codes "transaction") rolled (key-word (codes "transaction") w h)) l e

pub record RollWorkComplete (lexemes : List Lexeme) : Type 0 where
  pub bare : RollComplete lexemes
  pub work : (l : Lexeme) → fits_slot (Key (codes "work")) l ≡ true → RollComplete (lexemes ++ l ∷ [])
  pub transaction : (l : Lexeme) → fits_slot (Key (codes "transaction")) l ≡ true → RollComplete (lexemes ++ l ∷ [])

-- what stands behind ROLLBACK reads as the table says
pub rolling-reads : (text : List ℕ) (lexemes : List Lexeme) (ahead : List Token) → Stands text lexemes rolled ahead → RollWorkComplete lexemes → ReadsAs text (outcome (rolling (length text) (past_work ahead)))
rolling-reads text lexemes [] s c = stands-whole text lexemes rolled command.Rollback s c.bare.bare.bare
rolling-reads text lexemes (token ∷ ahead) s c =
    let l : Lexeme = token.lexeme in
    let next : Stands text (lexemes ++ l ∷ []) (filter_map (after_first l) rolled) ahead = stands-next text lexemes rolled token ahead s in
    elim (cases_Bool (fits_slot (Key (codes "work")) l)) [
      | inl e ↦ subst (λ (b : Bool). ReadsAs text (outcome (rolling (length text) (cond (b || fits_slot (Key (codes "transaction")) l) ahead (token ∷ ahead))))) (sym e)
          (roll-reads text (lexemes ++ l ∷ []) rolled_work ahead (stands-by text (lexemes ++ l ∷ []) (filter_map (after_first l) rolled) rolled_work ahead (rolled-work l e) next) (work-rolls ahead) (c.work l e))
      | inr e ↦ elim (cases_Bool (fits_slot (Key (codes "transaction")) l)) [
        | inl f ↦ subst (λ (b : Bool). ReadsAs text (outcome (rolling (length text) (cond (b || fits_slot (Key (codes "transaction")) l) ahead (token ∷ ahead))))) (sym e)
            (subst (λ (b : Bool). ReadsAs text (outcome (rolling (length text) (cond b ahead (token ∷ ahead))))) (sym f)
            (roll-reads text (lexemes ++ l ∷ []) rolled_work ahead (stands-by text (lexemes ++ l ∷ []) (filter_map (after_first l) rolled) rolled_work ahead (rolled-transaction l f) next) (work-rolls ahead) (c.transaction l f)))
        | inr f ↦ subst (λ (b : Bool). ReadsAs text (outcome (rolling (length text) (cond (b || fits_slot (Key (codes "transaction")) l) ahead (token ∷ ahead))))) (sym e)
            (subst (λ (b : Bool). ReadsAs text (outcome (rolling (length text) (cond b ahead (token ∷ ahead))))) (sym f)
            (roll-reads text lexemes rolled (token ∷ ahead) s (record { some = λ h. absurd (cc); to = rolled-to; semicolon = rolled-semicolon; other = rolled-other l e f }) c.bare))
      ]
    ]

-- after UNLISTEN
abbrev pub unlisted : List (List Slot)
unlisted = named ++ before_all (Punct (byte "*")) done

unlisted-name : (l : Lexeme) → fits_slot Name l ≡ true → filter_map (after_first l) unlisted ≡ done
unlisted-name (Word w) e = refl
unlisted-name (Quoted text) e = refl
unlisted-name (Literal text) e = absurd (false≢true e)
unlisted-name (Number digits) e = absurd (false≢true e)
unlisted-name (Sign s) e = absurd (false≢true e)
unlisted-name Wrong e = absurd (false≢true e)

unlisted-star : (l : Lexeme) → fits_slot (Punct (byte "*")) l ≡ true → filter_map (after_first l) unlisted ≡ done
unlisted-star l t = sign-cases (λ l. filter_map (after_first l) unlisted ≡ done) (byte "*") (λ s e. rw e refl) l t

unlisted-other : (l : Lexeme) → fits_slot Name l ≡ false → fits_slot (Punct (byte "*")) l ≡ false → filter_map (after_first l) unlisted ≡ []
unlisted-other l e f = rw (e, f) refl

-- what stands behind UNLISTEN is a name or a `*`
pub unlistening-reads : (text : List ℕ) (lexemes : List Lexeme) (ahead : List Token) → Stands text lexemes unlisted ahead → ((l : Lexeme) → fits_slot Name l ≡ true → Complete (lexemes ++ l ∷ []) (command.Unlisten (name_of l)))
    → ((l : Lexeme) → fits_slot (Punct (byte "*")) l ≡ true → Complete (lexemes ++ l ∷ []) command.UnlistenAll) → ReadsAs text (outcome (unlistening (length text) ahead))
unlistening-reads text lexemes [] s name all = stands-lack text lexemes unlisted s (λ h. absurd (cc)) refl
unlistening-reads text lexemes (token ∷ ahead) s name all =
    let l : Lexeme = token.lexeme in
    let end : ℕ = length text in
    let next : Stands text (lexemes ++ l ∷ []) (filter_map (after_first l) unlisted) ahead = stands-next text lexemes unlisted token ahead s in
    elim (cases_Bool (fits_slot (Punct (byte "*")) l)) [
      | inl e ↦ subst (λ (b : Bool). ReadsAs text (outcome (cond b (closing end command.UnlistenAll ahead) (naming end command.Unlisten (token ∷ ahead))))) (sym e)
          (done-reads text (lexemes ++ l ∷ []) command.UnlistenAll ahead (stands-by text (lexemes ++ l ∷ []) (filter_map (after_first l) unlisted) done ahead (unlisted-star l e) next) (all l e))
      | inr e ↦ subst (λ (b : Bool). ReadsAs text (outcome (cond b (closing end command.UnlistenAll ahead) (naming end command.Unlisten (token ∷ ahead))))) (sym e)
          (elim (cases_Bool (fits_slot Name l)) [
            | inl f ↦ subst (λ (b : Bool). ReadsAs text (outcome (cond b (closing end (command.Unlisten (name_of l)) ahead) (Err token.at)))) (sym f)
                (done-reads text (lexemes ++ l ∷ []) (command.Unlisten (name_of l)) ahead (stands-by text (lexemes ++ l ∷ []) (filter_map (after_first l) unlisted) done ahead (unlisted-name l f) next) (name l f))
            | inr f ↦ subst (λ (b : Bool). ReadsAs text (outcome (cond b (closing end (command.Unlisten (name_of l)) ahead) (Err token.at)))) (sym f)
                (stands-stop text lexemes unlisted token ahead s (λ h. absurd (cc)) (unlisted-other l f e))
          ])
    ]

-- after the name of NOTIFY
abbrev pub paid : List (List Slot)
paid = done ++ before_all (Punct (byte ",")) (before_all Quote done)

sign-same : (a s : ℕ) → fits_slot (Punct a) (Sign s) ≡ true → s ≡ a
sign-same a s e = sym (eqb-true a s e)

paid-comma : (l : Lexeme) → fits_slot (Punct (byte ",")) l ≡ true → filter_map (after_first l) paid ≡ before_all Quote done
paid-comma l t = sign-cases (λ l. filter_map (after_first l) paid ≡ before_all Quote done) (byte ",") (λ s e. subst (λ (x : ℕ). filter_map (after_first (Sign x)) paid ≡ before_all Quote done) (sym (sign-same (byte ",") s e)) refl) l t

paid-semicolon : (l : Lexeme) → fits_slot (Punct (byte ";")) l ≡ true → filter_map (after_first l) paid ≡ [] ∷ []
paid-semicolon l t = sign-cases (λ l. filter_map (after_first l) paid ≡ [] ∷ []) (byte ";") (λ s e. subst (λ (x : ℕ). filter_map (after_first (Sign x)) paid ≡ [] ∷ []) (sym (sign-same (byte ";") s e)) refl) l t

paid-other : (l : Lexeme) → fits_slot (Punct (byte ",")) l ≡ false → fits_slot (Punct (byte ";")) l ≡ false → filter_map (after_first l) paid ≡ []
paid-other l e f = rw (e, f) refl

-- NOTIFY is complete with a channel, and with a payload behind it
pub record NoteComplete (lexemes : List Lexeme) (channel : List ℕ) : Type 0 where
  pub bare : Complete lexemes (command.Notify (noted channel []))
  pub payload : (l m : Lexeme) → fits_slot (Punct (byte ",")) l ≡ true → fits_slot Quote m ≡ true → Complete (lexemes ++ l ∷ [] ++ m ∷ []) (command.Notify (noted channel (text_of m)))

abbrev sending : ℕ → List ℕ → Argument → Result Command ℕ
sending end channel payload = closing end (command.Notify (noted channel payload.text)) payload.rest

literal-reads : (text : List ℕ) (lexemes : List Lexeme) (channel : List ℕ) (l : Lexeme) (ahead : List Token) → Stands text (lexemes ++ l ∷ []) (before_all Quote done) ahead → fits_slot (Punct (byte ",")) l ≡ true → NoteComplete lexemes channel
    → ReadsAs text (outcome (after_argument (expecting Quote (length text) ahead (λ rest. let one : Argument = record { text = text_of (front_lexeme ahead); rest = rest } in Ok one)) (sending (length text) channel)))
literal-reads text lexemes channel l [] s e c = stands-lack text (lexemes ++ l ∷ []) (before_all Quote done) s (λ h. absurd (cc)) refl
literal-reads text lexemes channel l (token ∷ ahead) s e c =
    let m : Lexeme = token.lexeme in
    elim (cases_Bool (fits_slot Quote m)) [
      | inl f ↦ subst (λ (b : Bool). ReadsAs text (outcome (after_argument (cond b (let one : Argument = record { text = text_of m; rest = ahead } in Ok one) (Err token.at)) (sending (length text) channel)))) (sym f)
          (done-reads text (lexemes ++ l ∷ [] ++ m ∷ []) (command.Notify (noted channel (text_of m))) ahead (stands-taken text (lexemes ++ l ∷ []) Quote done (token ∷ ahead) s f) (c.payload l m e f))
      | inr f ↦ subst (λ (b : Bool). ReadsAs text (outcome (after_argument (cond b (let one : Argument = record { text = text_of m; rest = ahead } in Ok one) (Err token.at)) (sending (length text) channel)))) (sym f)
          (stands-refused text (lexemes ++ l ∷ []) Quote done (token ∷ ahead) (λ h. absurd (cc)) s f)
    ]

pub paying-reads : (text : List ℕ) (lexemes : List Lexeme) (channel : List ℕ) (ahead : List Token) → Stands text lexemes paid ahead → NoteComplete lexemes channel
    → ReadsAs text (outcome (after_argument (paying (length text) ahead) (sending (length text) channel)))
paying-reads text lexemes channel [] s c = stands-whole text lexemes paid (command.Notify (noted channel [])) s c.bare.bare
paying-reads text lexemes channel (token ∷ ahead) s c =
    let l : Lexeme = token.lexeme in
    let end : ℕ = length text in
    let bare : Result Argument ℕ = let one : Argument = record { text = []; rest = token ∷ ahead } in Ok one in
    let literal : Result Argument ℕ = expecting Quote end ahead (λ rest. let one : Argument = record { text = text_of (front_lexeme ahead); rest = rest } in Ok one) in
    elim (cases_Bool (fits_slot (Punct (byte ",")) l)) [
      | inl e ↦ subst (λ (b : Bool). ReadsAs text (outcome (after_argument (cond b literal bare) (sending end channel)))) (sym e)
          (literal-reads text lexemes channel l ahead (stands-by text (lexemes ++ l ∷ []) (filter_map (after_first l) paid) (before_all Quote done) ahead (paid-comma l e) (stands-next text lexemes paid token ahead s)) e c)
      | inr e ↦ subst (λ (b : Bool). ReadsAs text (outcome (after_argument (cond b literal bare) (sending end channel)))) (sym e)
          (closing-reads text lexemes paid (command.Notify (noted channel [])) (token ∷ ahead) s (record { some = λ h. absurd (cc); semicolon = paid-semicolon; other = λ t. paid-other l e t }) c.bare)
    ]

-- after NOTIFY
pub notifying-reads : (text : List ℕ) (lexemes : List Lexeme) (ahead : List Token) → Stands text lexemes (before_all Name paid) ahead → ((l : Lexeme) → fits_slot Name l ≡ true → NoteComplete (lexemes ++ l ∷ []) (name_of l))
    → ReadsAs text (outcome (notifying (length text) ahead))
notifying-reads text lexemes ahead s c =
    let channel : List ℕ = name_of (front_lexeme ahead) in
    expecting-reads text lexemes Name paid ahead (λ a. after_argument (paying (length text) a) (sending (length text) channel)) (λ h. absurd (cc)) s
    (λ f next. paying-reads text (lexemes ++ front_lexeme ahead ∷ []) channel (drop 1 ahead) next (c (front_lexeme ahead) f))

-- a call without arguments
abbrev pub asked : List (List Slot)
asked = before_all (Punct (byte "(")) (before_all (Punct (byte ")")) done)

-- two parentheses and the end read as a call without arguments
pub asking-reads : (text : List ℕ) (lexemes : List Lexeme) (one : Command) (ahead : List Token) → Stands text lexemes asked ahead
    → ((l m : Lexeme) → fits_slot (Punct (byte "(")) l ≡ true → fits_slot (Punct (byte ")")) m ≡ true → Complete (lexemes ++ l ∷ [] ++ m ∷ []) one) → ReadsAs text (outcome (asking (length text) one ahead))
asking-reads text lexemes one ahead s c =
    let l : Lexeme = front_lexeme ahead in
    expecting-reads text lexemes (Punct (byte "(")) (before_all (Punct (byte ")")) done) ahead (λ a. expecting (Punct (byte ")")) (length text) a (closing (length text) one)) (λ h. absurd (cc)) s
    (λ f next. expecting-reads text (lexemes ++ l ∷ []) (Punct (byte ")")) done (drop 1 ahead) (closing (length text) one) (λ h. absurd (cc)) next
    (λ g last. done-reads text (lexemes ++ l ∷ [] ++ front_lexeme (drop 1 ahead) ∷ []) one (drop 1 (drop 1 ahead)) last (c l (front_lexeme (drop 1 ahead)) f g)))
