-- The arguments of pg_notify.
use Rattle.std.proofs.Common.{◌≡◌, ◌≢◌, ℕ, Bool, true, false, cond, inl, inr, List, [], ◌∷◌, ◌++◌, length, filter_map, sym, ap, ◌∙◌, refl, subst, drop, codes}
use Rattle.std.specs.Str.{byte, bytes_eq, str_eq_ignore_ascii_case}
use Rattle.std.specs.List.{repeat, list_any}
use Rattle.std.specs.Prelude.{Result, Ok, Err}
use Rattle.std.proofs.lemmas.Bool.{false≢true, cases_Bool}
use Rattle.std.proofs.lemmas.List.{append-nil}
use Rattle.pgn_base.specs.declared.command.Command.{Command}
use Rattle.pgn_base.specs.declared.command.Command.TheVariants as command
use Rattle.pgn_language.specs.Tokens.{Lexeme, Word, Quoted, Literal, Number, Sign, Wrong, Token}
use Rattle.pgn_language.specs.Grammar.{Slot, Key, Quote, Count, Punct, fits_slot, ReadsAs, text_of, value_of}
use Rattle.pgn_language.specs.laws.Grammar.{after_first, is_done}
use Rattle.pgn_command.specs.Reading.{front_lexeme, front_at, takes, expecting, closing, noted, Argument, after_argument, arguing, repeating, calling, outcome}
use Rattle.pgn_command.proofs.FormSteps.{Stands, stands-next, stands-by, stands-stop, stands-lack, some-ways, stands-taken, stands-refused, before_all, expecting-reads, taken-fits, key-word, only-fits, only-fails}
use Rattle.pgn_command.proofs.CloseSteps.{done, Complete, done-reads}

-- what may follow where an argument may stand, before these
abbrev pub count_on : List (List Slot) → List (List Slot)
count_on ways = before_all (Punct (byte ",")) (before_all Count (before_all (Punct (byte ")")) ways))

abbrev pub call_on : List (List Slot) → List (List Slot)
call_on ways = before_all (Punct (byte "(")) (before_all Quote (count_on ways))

abbrev pub argued : List (List Slot) → List (List Slot)
argued ways = before_all Quote ways ++ (before_all (Key (codes "null")) ways ++ before_all (Key (codes "repeat")) (call_on ways))

-- tokens that are an argument, and its text
pub data IsArgument : List Lexeme → List ℕ → Type 0 where
  Written : (l : Lexeme) → fits_slot Quote l ≡ true → IsArgument (l ∷ []) (text_of l)
  Nothing : (l : Lexeme) → fits_slot (Key (codes "null")) l ≡ true → IsArgument (l ∷ []) []
  Repeated : (a b c d e f : Lexeme) → fits_slot (Key (codes "repeat")) a ≡ true → fits_slot (Punct (byte "(")) b ≡ true → fits_slot Quote c ≡ true → fits_slot (Punct (byte ",")) d ≡ true → fits_slot Count e ≡ true
      → fits_slot (Punct (byte ")")) f ≡ true → IsArgument (a ∷ b ∷ c ∷ d ∷ e ∷ f ∷ []) (repeat (value_of e) (text_of c))

-- what goes on from an argument is a reading
abbrev GoesOn : List ℕ → List Lexeme → List (List Slot) → (Argument → Result Command ℕ) → Type 0
GoesOn text lexemes ways go_on = (some : List Lexeme) (one : Argument) → IsArgument some one.text → Stands text (lexemes ++ some) ways one.rest → ReadsAs text (outcome (go_on one))

filter-append : (l : Lexeme) (a b : List (List Slot)) → filter_map (after_first l) (a ++ b) ≡ filter_map (after_first l) a ++ filter_map (after_first l) b
filter-append l [] b = refl
filter-append l ([] ∷ a) b = filter-append l a b
filter-append l ((slot ∷ slots) ∷ a) b = elim (cases_Bool (fits_slot slot l)) [
  | inl e ↦ rw e (ap (λ (ws : List (List Slot)). slots ∷ ws) (filter-append l a b))
  | inr e ↦ rw e (filter-append l a b)
]

-- what an argument's first token leaves
leaves : (l : Lexeme) (ways a b c : List (List Slot)) → filter_map (after_first l) (before_all Quote ways) ≡ a → filter_map (after_first l) (before_all (Key (codes "null")) ways) ≡ b
    → filter_map (after_first l) (before_all (Key (codes "repeat")) (call_on ways)) ≡ c → filter_map (after_first l) (argued ways) ≡ a ++ (b ++ c)
leaves l ways a b c ha hb hc =
    let nulls : List (List Slot) = before_all (Key (codes "null")) ways in
    let repeats : List (List Slot) = before_all (Key (codes "repeat")) (call_on ways) in
    filter-append l (before_all Quote ways) (nulls ++ repeats) ∙ ap (λ (x : List (List Slot)). x ++ filter_map (after_first l) (nulls ++ repeats)) ha
    ∙ ap (λ (x : List (List Slot)). a ++ x) (filter-append l nulls repeats ∙ ap (λ (x : List (List Slot)). x ++ filter_map (after_first l) repeats) hb ∙ ap (λ (x : List (List Slot)). b ++ x) hc)

word-quote : (l : Lexeme) → fits_slot Quote l ≡ true → (key : List ℕ) → fits_slot (Key key) l ≡ false
word-quote (Literal x) e key = refl
word-quote (Word x) e key = absurd (false≢true e)
word-quote (Quoted x) e key = absurd (false≢true e)
word-quote (Number x) e key = absurd (false≢true e)
word-quote (Sign x) e key = absurd (false≢true e)
word-quote Wrong e key = absurd (false≢true e)

argued-quote : (l : Lexeme) (ways : List (List Slot)) → fits_slot Quote l ≡ true → filter_map (after_first l) (argued ways) ≡ ways
argued-quote l ways e =
    leaves l ways ways [] [] (only-fits Quote ways l e) (only-fails (Key (codes "null")) ways l (word-quote l e (codes "null"))) (only-fails (Key (codes "repeat")) (call_on ways) l (word-quote l e (codes "repeat"))) ∙ append-nil ways

null_repeat : (w : List ℕ) → str_eq_ignore_ascii_case (codes "null") w ≡ true → str_eq_ignore_ascii_case (codes "repeat") w ≡ false
null_repeat w e = ap (bytes_eq (codes "repeat")) (key-word (codes "null") w e)

argued-null : (l : Lexeme) (ways : List (List Slot)) → fits_slot (Key (codes "null")) l ≡ true → filter_map (after_first l) (argued ways) ≡ ways
argued-null (Word w) ways e =
    leaves (Word w) ways [] ways [] (only-fails Quote ways (Word w) refl) (only-fits (Key (codes "null")) ways (Word w) e) (only-fails (Key (codes "repeat")) (call_on ways) (Word w) (null_repeat w e)) ∙ append-nil ways
argued-null (Literal x) ways e = absurd (false≢true e)
argued-null (Quoted x) ways e = absurd (false≢true e)
argued-null (Number x) ways e = absurd (false≢true e)
argued-null (Sign x) ways e = absurd (false≢true e)
argued-null Wrong ways e = absurd (false≢true e)

argued-repeat : (l : Lexeme) (ways : List (List Slot)) → fits_slot Quote l ≡ false → fits_slot (Key (codes "null")) l ≡ false → fits_slot (Key (codes "repeat")) l ≡ true → filter_map (after_first l) (argued ways) ≡ call_on ways
argued-repeat l ways e f g = leaves l ways [] [] (call_on ways) (only-fails Quote ways l e) (only-fails (Key (codes "null")) ways l f) (only-fits (Key (codes "repeat")) (call_on ways) l g)

argued-none : (l : Lexeme) (ways : List (List Slot)) → fits_slot Quote l ≡ false → fits_slot (Key (codes "null")) l ≡ false → fits_slot (Key (codes "repeat")) l ≡ false → filter_map (after_first l) (argued ways) ≡ []
argued-none l ways e f g = leaves l ways [] [] [] (only-fails Quote ways l e) (only-fails (Key (codes "null")) ways l f) (only-fails (Key (codes "repeat")) (call_on ways) l g)

six : (xs : List Lexeme) (a b c d e f : Lexeme) → xs ++ a ∷ [] ++ b ∷ [] ++ c ∷ [] ++ d ∷ [] ++ e ∷ [] ++ f ∷ [] ≡ xs ++ (a ∷ b ∷ c ∷ d ∷ e ∷ f ∷ [])
six [] a b c d e f = refl
six (x ∷ xs) a b c d e f = ap (λ (ls : List Lexeme). x ∷ ls) (six xs a b c d e f)

some-before : (slot : Slot) (ways : List (List Slot)) → ways ≢ [] → before_all slot ways ≢ []
some-before slot [] h e = h refl
some-before slot (way ∷ ways) h e = absurd (cc)

-- a token at a slot, in the middle of an argument
step-reads : (text : List ℕ) (lexemes : List Lexeme) (slot : Slot) (ways : List (List Slot)) (ahead : List Token) (go_on : Argument → Result Command ℕ) (next : List Token → Result Argument ℕ) → ways ≢ [] → Stands text lexemes (before_all slot ways) ahead
    → (fits_slot slot (front_lexeme ahead) ≡ true → Stands text (lexemes ++ front_lexeme ahead ∷ []) ways (drop 1 ahead) → ReadsAs text (outcome (after_argument (next (drop 1 ahead)) go_on)))
    → ReadsAs text (outcome (after_argument (expecting slot (length text) ahead next) go_on))
step-reads text lexemes slot ways ahead go_on next some s k = elim (cases_Bool (takes slot ahead)) [
  | inl e ↦ subst (λ (b : Bool). ReadsAs text (outcome (after_argument (cond b (next (drop 1 ahead)) (Err (front_at (length text) ahead))) go_on))) (sym e) (k (taken-fits slot ahead e) (stands-taken text lexemes slot ways ahead s e))
  | inr e ↦ subst (λ (b : Bool). ReadsAs text (outcome (after_argument (cond b (next (drop 1 ahead)) (Err (front_at (length text) ahead))) go_on))) (sym e) (stands-refused text lexemes slot ways ahead some s e)
]

pub repeating-reads : (text : List ℕ) (lexemes : List Lexeme) (ways : List (List Slot)) (a : Lexeme) (ahead : List Token) (go_on : Argument → Result Command ℕ) → ways ≢ [] → Stands text (lexemes ++ a ∷ []) (call_on ways) ahead
    → fits_slot (Key (codes "repeat")) a ≡ true → GoesOn text lexemes ways go_on → ReadsAs text (outcome (after_argument (repeating (length text) ahead) go_on))
repeating-reads text lexemes ways a ahead go_on some s fa k =
    let end : ℕ = length text in
    let closed : List (List Slot) = before_all (Punct (byte ")")) ways in
    let counted : List (List Slot) = before_all Count closed in
    let closed_some : closed ≢ [] = some-before (Punct (byte ")")) ways some in
    let counted_some : counted ≢ [] = some-before Count closed closed_some in
    let comma_some : count_on ways ≢ [] = some-before (Punct (byte ",")) counted counted_some in
    let quote_some : before_all Quote (count_on ways) ≢ [] = some-before Quote (count_on ways) comma_some in
    let b : Lexeme = front_lexeme ahead in
    let t1 : List Token = drop 1 ahead in
    let c : Lexeme = front_lexeme t1 in
    let t2 : List Token = drop 1 t1 in
    let d : Lexeme = front_lexeme t2 in
    let t3 : List Token = drop 1 t2 in
    let e : Lexeme = front_lexeme t3 in
    let t4 : List Token = drop 1 t3 in
    let f : Lexeme = front_lexeme t4 in
    let last : List Token → Result Argument ℕ = λ rest. let one : Argument = record { text = repeat (value_of e) (text_of c); rest = rest } in Ok one in
    step-reads text (lexemes ++ a ∷ []) (Punct (byte "(")) (before_all Quote (count_on ways)) ahead go_on
    (λ a. expecting Quote end a (λ b. expecting (Punct (byte ",")) end b (λ c. expecting Count end c (λ d. expecting (Punct (byte ")")) end d (λ e. let one : Argument = record { text = repeat (value_of (front_lexeme c)) (text_of (front_lexeme a)); rest = e } in Ok one)))))
    quote_some s
    (λ fb s1. step-reads text (lexemes ++ a ∷ [] ++ b ∷ []) Quote (count_on ways) t1 go_on
    (λ b. expecting (Punct (byte ",")) end b (λ c. expecting Count end c (λ d. expecting (Punct (byte ")")) end d (λ e. let one : Argument = record { text = repeat (value_of (front_lexeme c)) (text_of (front_lexeme t1)); rest = e } in Ok one))))
    comma_some s1
    (λ fc s2. step-reads text (lexemes ++ a ∷ [] ++ b ∷ [] ++ c ∷ []) (Punct (byte ",")) counted t2 go_on
    (λ c. expecting Count end c (λ d. expecting (Punct (byte ")")) end d (λ e. let one : Argument = record { text = repeat (value_of (front_lexeme c)) (text_of (front_lexeme t1)); rest = e } in Ok one)))
    counted_some s2
    (λ fd s3. step-reads text (lexemes ++ a ∷ [] ++ b ∷ [] ++ c ∷ [] ++ d ∷ []) Count closed t3 go_on (λ d. expecting (Punct (byte ")")) end d last) closed_some s3
    (λ fe s4. step-reads text (lexemes ++ a ∷ [] ++ b ∷ [] ++ c ∷ [] ++ d ∷ [] ++ e ∷ []) (Punct (byte ")")) ways t4 go_on last some s4
    (λ ff s5. k (a ∷ b ∷ c ∷ d ∷ e ∷ f ∷ []) (record { text = repeat (value_of e) (text_of c); rest = drop 1 t4 }) (Repeated a b c d e f fa fb fc fd fe ff)
    (subst (λ (ls : List Lexeme). Stands text ls ways (drop 1 t4)) (six lexemes a b c d e f) s5))))))

argued-some : (ways : List (List Slot)) → ways ≢ [] → argued ways ≢ []
argued-some [] h e = h refl
argued-some (way ∷ ways) h e = absurd (cc)

open-before : (slot : Slot) (ways : List (List Slot)) → list_any is_done (before_all slot ways) ≡ false
open-before slot [] = refl
open-before slot (way ∷ ways) = open-before slot ways

any-append : (a b : List (List Slot)) → list_any is_done a ≡ false → list_any is_done b ≡ false → list_any is_done (a ++ b) ≡ false
any-append [] b h k = k
any-append ([] ∷ a) b h k = absurd (false≢true (sym h))
any-append ((slot ∷ slots) ∷ a) b h k = any-append a b h k

argued-open : (ways : List (List Slot)) → list_any is_done (argued ways) ≡ false
argued-open ways = any-append (before_all Quote ways) (before_all (Key (codes "null")) ways ++ before_all (Key (codes "repeat")) (call_on ways)) (open-before Quote ways)
    (any-append (before_all (Key (codes "null")) ways) (before_all (Key (codes "repeat")) (call_on ways)) (open-before (Key (codes "null")) ways) (open-before (Key (codes "repeat")) (call_on ways)))

pub arguing-reads : (text : List ℕ) (lexemes : List Lexeme) (ways : List (List Slot)) (ahead : List Token) (go_on : Argument → Result Command ℕ) → ways ≢ [] → Stands text lexemes (argued ways) ahead → GoesOn text lexemes ways go_on
    → ReadsAs text (outcome (after_argument (arguing (length text) ahead) go_on))
arguing-reads text lexemes ways [] go_on some s k = stands-lack text lexemes (argued ways) s (argued-some ways some) (argued-open ways)
arguing-reads text lexemes ways (token ∷ ahead) go_on some s k =
    let l : Lexeme = token.lexeme in
    let end : ℕ = length text in
    let literal : Argument = record { text = text_of l; rest = ahead } in
    let null : Argument = record { text = []; rest = ahead } in
    let next : Stands text (lexemes ++ l ∷ []) (filter_map (after_first l) (argued ways)) ahead = stands-next text lexemes (argued ways) token ahead s in
    elim (cases_Bool (fits_slot Quote l)) [
      | inl e ↦ subst (λ (b : Bool). ReadsAs text (outcome (after_argument (cond b (Ok literal) (cond (fits_slot (Key (codes "null")) l) (Ok null) (cond (fits_slot (Key (codes "repeat")) l) (repeating end ahead) (Err token.at)))) go_on))) (sym e)
          (k (l ∷ []) literal (Written l e) (stands-by text (lexemes ++ l ∷ []) (filter_map (after_first l) (argued ways)) ways ahead (argued-quote l ways e) next))
      | inr e ↦ subst (λ (b : Bool). ReadsAs text (outcome (after_argument (cond b (Ok literal) (cond (fits_slot (Key (codes "null")) l) (Ok null) (cond (fits_slot (Key (codes "repeat")) l) (repeating end ahead) (Err token.at)))) go_on))) (sym e)
          (elim (cases_Bool (fits_slot (Key (codes "null")) l)) [
            | inl f ↦ subst (λ (b : Bool). ReadsAs text (outcome (after_argument (cond b (Ok null) (cond (fits_slot (Key (codes "repeat")) l) (repeating end ahead) (Err token.at))) go_on))) (sym f)
                (k (l ∷ []) null (Nothing l f) (stands-by text (lexemes ++ l ∷ []) (filter_map (after_first l) (argued ways)) ways ahead (argued-null l ways f) next))
            | inr f ↦ subst (λ (b : Bool). ReadsAs text (outcome (after_argument (cond b (Ok null) (cond (fits_slot (Key (codes "repeat")) l) (repeating end ahead) (Err token.at))) go_on))) (sym f)
                (elim (cases_Bool (fits_slot (Key (codes "repeat")) l)) [
                  | inl g ↦ subst (λ (b : Bool). ReadsAs text (outcome (after_argument (cond b (repeating end ahead) (Err token.at)) go_on))) (sym g)
                      (repeating-reads text lexemes ways l ahead go_on some (stands-by text (lexemes ++ l ∷ []) (filter_map (after_first l) (argued ways)) (call_on ways) ahead (argued-repeat l ways e f g) next) g k)
                  | inr g ↦ subst (λ (b : Bool). ReadsAs text (outcome (after_argument (cond b (repeating end ahead) (Err token.at)) go_on))) (sym g)
                      (stands-stop text lexemes (argued ways) token ahead s (argued-some ways some) (argued-none l ways e f g))
                ])
          ])
    ]

-- between the parentheses of pg_notify
abbrev pub second : List (List Slot)
second = argued (before_all (Punct (byte ")")) done)

-- the two arguments between parentheses, and the end
abbrev pub called : List (List Slot)
called = before_all (Punct (byte "(")) (argued (before_all (Punct (byte ",")) second))

pub record CallComplete (lexemes : List Lexeme) : Type 0 where
  pub forms : (o c e : Lexeme) (some more : List Lexeme) (channel payload : List ℕ) → fits_slot (Punct (byte "(")) o ≡ true → IsArgument some channel → fits_slot (Punct (byte ",")) c ≡ true → IsArgument more payload
      → fits_slot (Punct (byte ")")) e ≡ true → Complete (lexemes ++ o ∷ [] ++ some ++ c ∷ [] ++ more ++ e ∷ []) (command.PgNotify (noted channel payload))

-- what stands behind the word pg_notify reads as the table says
pub calling-reads : (text : List ℕ) (lexemes : List Lexeme) (ahead : List Token) → Stands text lexemes called ahead → CallComplete lexemes → ReadsAs text (outcome (calling (length text) ahead))
calling-reads text lexemes ahead s c =
    let end : ℕ = length text in
    let o : Lexeme = front_lexeme ahead in
    let closed : List (List Slot) = before_all (Punct (byte ")")) done in
    let after_two : List ℕ → Argument → Result Command ℕ = λ channel two. expecting (Punct (byte ")")) end two.rest (closing end (command.PgNotify (noted channel two.text))) in
    let after_one : Argument → Result Command ℕ = λ one. expecting (Punct (byte ",")) end one.rest (λ b. after_argument (arguing end b) (after_two one.text)) in
    expecting-reads text lexemes (Punct (byte "(")) (argued (before_all (Punct (byte ",")) second)) ahead (λ a. after_argument (arguing end a) after_one) (some-ways _ refl) s
    (λ fo s1. arguing-reads text (lexemes ++ o ∷ []) (before_all (Punct (byte ",")) second) (drop 1 ahead) after_one (some-ways _ refl) s1
    (λ some one is_one s2. expecting-reads text (lexemes ++ o ∷ [] ++ some) (Punct (byte ",")) second one.rest (λ b. after_argument (arguing end b) (after_two one.text)) (some-ways _ refl) s2
    (λ fc s3. arguing-reads text (lexemes ++ o ∷ [] ++ some ++ front_lexeme one.rest ∷ []) closed (drop 1 one.rest) (after_two one.text) (some-ways _ refl) s3
    (λ more two is_two s4. expecting-reads text (lexemes ++ o ∷ [] ++ some ++ front_lexeme one.rest ∷ [] ++ more) (Punct (byte ")")) done two.rest (closing end (command.PgNotify (noted one.text two.text))) (some-ways _ refl) s4
    (λ fe s5. done-reads text (lexemes ++ o ∷ [] ++ some ++ front_lexeme one.rest ∷ [] ++ more ++ front_lexeme two.rest ∷ []) (command.PgNotify (noted one.text two.text)) (drop 1 two.rest) s5
    (c.forms o (front_lexeme one.rest) (front_lexeme two.rest) some more one.text two.text fo is_one fc is_two fe))))))
