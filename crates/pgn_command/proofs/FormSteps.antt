-- Tokens read so far, and what may follow them.
use Rattle.std.proofs.Common.{◌≡◌, ◌≢◌, ℕ, zero, suc, Bool, true, false, cond, inl, inr, List, [], ◌∷◌, ◌++◌, map, length, filter_map, sym, ap, ◌∙◌, refl, subst, append_assoc, get_or, drop, slice_get, is_some}
use Rattle.std.specs.List.{list_any}
use Rattle.std.specs.Str.{str_to_ascii_lowercase, str_eq_ignore_ascii_case, bytes_eq}
use Rattle.std.proofs.lemmas.Slice.Eq.{bytes_eq-Decides}
use Rattle.std.proofs.lemmas.Bool.{false≢true, both_ways, cases_Bool}
use Rattle.std.proofs.lemmas.List.{map-append, append-nil}
use Rattle.std.specs.Prelude.{Result, Err}
use Rattle.pgn_base.specs.declared.command.Command.{Command}
use Rattle.pgn_base.specs.declared.command.Command.TheVariants as command
use Rattle.pgn_language.specs.Tokens.{Lexeme, Word, Quoted, Literal, Number, Sign, Wrong, Token, tokens}
use Rattle.pgn_language.specs.Grammar.{Slot, Key, Name, Quote, Count, Punct, fits_slot, all_fit, Form, table, IsForm, IsOneOf, BeginsForm, lexemes_of, ReadsAs, Whole, Stops, Lacks, limited}
use Rattle.pgn_language.specs.laws.Grammar.{after_first, followers, table_slots, is_done}
use Rattle.pgn_language.proofs.GrammarLaws.{followers-tell, followers-done}
use Rattle.pgn_command.specs.Reading.{front_lexeme, front_at, takes, expecting, outcome}

followers-append : (ways : List (List Slot)) (some more : List Lexeme) → followers ways (some ++ more) ≡ followers (followers ways some) more
followers-append ways [] more = refl
followers-append ways (lexeme ∷ some) more = followers-append (filter_map (after_first lexeme) ways) some more

-- tokens of a text that have been read, what they are, what may follow them, and those that are ahead
pub record Stands (text : List ℕ) (lexemes : List Lexeme) (ways : List (List Slot)) (ahead : List Token) : Type 0 where
  pub read : List Token
  pub whole : tokens text ≡ read ++ ahead
  pub are : lexemes_of read ≡ lexemes
  pub follow : followers table_slots lexemes ≡ ways

-- before the first token each form of the table may follow
pub stands-start : (text : List ℕ) → Stands text [] table_slots (tokens text)
stands-start text = record { read = []; whole = refl; are = refl; follow = refl }

-- one token further
pub stands-next : (text : List ℕ) (lexemes : List Lexeme) (ways : List (List Slot)) (token : Token) (ahead : List Token) → Stands text lexemes ways (token ∷ ahead)
    → Stands text (lexemes ++ token.lexeme ∷ []) (filter_map (after_first token.lexeme) ways) ahead
stands-next text lexemes ways token ahead s = record {
  read = s.read ++ token ∷ [];
  whole = s.whole ∙ sym (append_assoc s.read (token ∷ []) ahead);
  are = map-append (λ (t : Token). t.lexeme) s.read (token ∷ []) ∙ ap (λ (ls : List Lexeme). ls ++ token.lexeme ∷ []) s.are;
  follow = followers-append table_slots lexemes (token.lexeme ∷ []) ∙ ap (λ (ws : List (List Slot)). filter_map (after_first token.lexeme) ws) s.follow;
}

-- what may follow, said otherwise
pub stands-by : (text : List ℕ) (lexemes : List Lexeme) (ways other : List (List Slot)) (ahead : List Token) → ways ≡ other → Stands text lexemes ways ahead → Stands text lexemes other ahead
stands-by text lexemes ways other ahead e s = record { read = s.read; whole = s.whole; are = s.are; follow = s.follow ∙ e }

begins : (text : List ℕ) (lexemes : List Lexeme) (ways : List (List Slot)) (ahead : List Token) (s : Stands text lexemes ways ahead) → ways ≢ [] → BeginsForm (lexemes_of s.read)
begins text lexemes ways ahead s some = (followers-tell (lexemes_of s.read)).1 (λ e. some (sym s.follow ∙ ap (followers table_slots) (sym s.are) ∙ e))

-- a token that fits nowhere
pub stands-stop : (text : List ℕ) (lexemes : List Lexeme) (ways : List (List Slot)) (token : Token) (ahead : List Token) → Stands text lexemes ways (token ∷ ahead) → ways ≢ [] → filter_map (after_first token.lexeme) ways ≡ []
    → ReadsAs text (command.Bad token.at)
unfolding stands-next
stands-stop text lexemes ways token ahead s some none =
    let next : Stands text (lexemes ++ token.lexeme ∷ []) (filter_map (after_first token.lexeme) ways) ahead = stands-next text lexemes ways token ahead s in
    Stops s.read token ahead s.whole (begins text lexemes ways (token ∷ ahead) s some)
    (λ more. (followers-tell (lexemes_of (s.read ++ token ∷ []))).0 more (ap (followers table_slots) next.are ∙ next.follow ∙ none))

-- the line ends too early
pub stands-lack : (text : List ℕ) (lexemes : List Lexeme) (ways : List (List Slot)) → Stands text lexemes ways [] → ways ≢ [] → list_any is_done ways ≡ false → ReadsAs text (command.Bad (length text))
stands-lack text lexemes ways s some none =
    let whole : tokens text ≡ s.read = s.whole ∙ append-nil s.read in
    let are : lexemes_of (tokens text) ≡ lexemes = ap lexemes_of whole ∙ s.are in
    Lacks (subst (λ (ts : List Token). BeginsForm (lexemes_of ts)) (sym whole) (begins text lexemes ways [] s some))
    (λ one form. both_ways (list_any is_done ways) none (ap (list_any is_done) (sym (ap (followers table_slots) are ∙ s.follow)) ∙ (followers-done (lexemes_of (tokens text))).0 (one, form)))

-- the line is a command of the table
pub stands-whole : (text : List ℕ) (lexemes : List Lexeme) (ways : List (List Slot)) (one : Command) → Stands text lexemes ways [] → IsForm lexemes one → ReadsAs text (limited one)
stands-whole text lexemes ways one s form =
    let are : lexemes_of (tokens text) ≡ lexemes = ap lexemes_of (s.whole ∙ append-nil s.read) ∙ s.are in
    Whole one (subst (λ (ls : List Lexeme). IsForm ls one) (sym are) form)

-- the form of the table at a place
abbrev nothing : Form
nothing = record { slots = []; command = λ lexemes. command.Empty }

one-at : (forms : List Form) (i : ℕ) (lexemes : List Lexeme) → is_some (slice_get forms i) ≡ true → all_fit (get_or forms i nothing).slots lexemes ≡ true → IsOneOf forms lexemes ((get_or forms i nothing).command lexemes)
one-at [] i lexemes some h = absurd (false≢true some)
one-at (form ∷ forms) zero lexemes some h = inl (h, refl)
one-at (form ∷ forms) (suc i) lexemes some h = inr (one-at forms i lexemes some h)

abbrev pub slots_at : ℕ → List Slot
slots_at i = (get_or table i nothing).slots

abbrev pub command_at : ℕ → List Lexeme → Command
command_at i lexemes = (get_or table i nothing).command lexemes

-- tokens that fit the slots of the form at a place are its command
pub form-at : (i : ℕ) (lexemes : List Lexeme) → is_some (slice_get table i) ≡ true → all_fit (slots_at i) lexemes ≡ true → IsForm lexemes (command_at i lexemes)
form-at i lexemes some h = one-at table i lexemes some h

-- a slot that is first everywhere
abbrev pub before_all : Slot → List (List Slot) → List (List Slot)
before_all slot ways = map (λ slots. slot ∷ slots) ways

-- behind a token that fits the slot the ways go on
pub only-fits : (slot : Slot) (ways : List (List Slot)) (lexeme : Lexeme) → fits_slot slot lexeme ≡ true → filter_map (after_first lexeme) (before_all slot ways) ≡ ways
only-fits slot [] lexeme h = refl
only-fits slot (way ∷ ways) lexeme h = rw h (ap (λ (ws : List (List Slot)). way ∷ ws) (only-fits slot ways lexeme h))

-- behind one that does not no way goes on
pub only-fails : (slot : Slot) (ways : List (List Slot)) (lexeme : Lexeme) → fits_slot slot lexeme ≡ false → filter_map (after_first lexeme) (before_all slot ways) ≡ []
only-fails slot [] lexeme h = refl
only-fails slot (way ∷ ways) lexeme h = rw h (only-fails slot ways lexeme h)

-- there is a way
abbrev pub is_way : List (List Slot) → Bool
is_way [] = false
is_way (way ∷ ways) = true

-- where there is a way the ways are not none
pub some-ways : (ways : List (List Slot)) → is_way ways ≡ true → ways ≢ []
some-ways [] e h = absurd (false≢true e)
some-ways (way ∷ ways) e h = absurd (cc)

only-some : (slot : Slot) (ways : List (List Slot)) → ways ≢ [] → before_all slot ways ≢ []
only-some slot [] h e = h refl
only-some slot (way ∷ ways) h e = absurd (cc)

only-open : (slot : Slot) (ways : List (List Slot)) → list_any is_done (before_all slot ways) ≡ false
only-open slot [] = refl
only-open slot (way ∷ ways) = only-open slot ways

-- where only this slot may follow, and its token is not ahead
pub stands-refused : (text : List ℕ) (lexemes : List Lexeme) (slot : Slot) (ways : List (List Slot)) (ahead : List Token) → ways ≢ [] → Stands text lexemes (before_all slot ways) ahead → takes slot ahead ≡ false
    → ReadsAs text (command.Bad (front_at (length text) ahead))
stands-refused text lexemes slot ways [] some s h = stands-lack text lexemes (before_all slot ways) s (only-some slot ways some) (only-open slot ways)
stands-refused text lexemes slot ways (token ∷ ahead) some s h = stands-stop text lexemes (before_all slot ways) token ahead s (only-some slot ways some) (only-fails slot ways token.lexeme h)

-- where it is
pub stands-taken : (text : List ℕ) (lexemes : List Lexeme) (slot : Slot) (ways : List (List Slot)) (ahead : List Token) → Stands text lexemes (before_all slot ways) ahead → takes slot ahead ≡ true
    → Stands text (lexemes ++ front_lexeme ahead ∷ []) ways (drop 1 ahead)
stands-taken text lexemes slot ways [] s h = absurd (false≢true h)
stands-taken text lexemes slot ways (token ∷ ahead) s h =
    stands-by text (lexemes ++ token.lexeme ∷ []) (filter_map (after_first token.lexeme) (before_all slot ways)) ways ahead (only-fits slot ways token.lexeme h) (stands-next text lexemes (before_all slot ways) token ahead s)

-- what a token fits
pub taken-fits : (slot : Slot) (ahead : List Token) → takes slot ahead ≡ true → fits_slot slot (front_lexeme ahead) ≡ true
taken-fits slot [] h = absurd (false≢true h)
taken-fits slot (token ∷ ahead) h = h

-- a token at the one slot that may follow, and then the rest
pub expecting-reads : (text : List ℕ) (lexemes : List Lexeme) (slot : Slot) (ways : List (List Slot)) (ahead : List Token) (go_on : List Token → Result Command ℕ) → ways ≢ [] → Stands text lexemes (before_all slot ways) ahead
    → (fits_slot slot (front_lexeme ahead) ≡ true → Stands text (lexemes ++ front_lexeme ahead ∷ []) ways (drop 1 ahead) → ReadsAs text (outcome (go_on (drop 1 ahead)))) → ReadsAs text (outcome (expecting slot (length text) ahead go_on))
expecting-reads text lexemes slot ways ahead go_on some s next = elim (cases_Bool (takes slot ahead)) [
  | inl e ↦ subst (λ (b : Bool). ReadsAs text (outcome (cond b (go_on (drop 1 ahead)) (Err (front_at (length text) ahead))))) (sym e) (next (taken-fits slot ahead e) (stands-taken text lexemes slot ways ahead s e))
  | inr e ↦ subst (λ (b : Bool). ReadsAs text (outcome (cond b (go_on (drop 1 ahead)) (Err (front_at (length text) ahead))))) (sym e) (stands-refused text lexemes slot ways ahead some s e)
]

same-fits : (w v : List ℕ) (slot : Slot) → str_to_ascii_lowercase w ≡ str_to_ascii_lowercase v → fits_slot slot (Word w) ≡ fits_slot slot (Word v)
same-fits w v (Key key) e = ap (bytes_eq (str_to_ascii_lowercase key)) e
same-fits w v Name e = refl
same-fits w v Quote e = refl
same-fits w v Count e = refl
same-fits w v (Punct sign) e = refl

-- words that are one without regard to case are followed alike
pub alike : (w v : List ℕ) (ways : List (List Slot)) → str_to_ascii_lowercase w ≡ str_to_ascii_lowercase v → filter_map (after_first (Word w)) ways ≡ filter_map (after_first (Word v)) ways
alike w v [] e = refl
alike w v ([] ∷ ways) e = alike w v ways e
alike w v ((slot ∷ slots) ∷ ways) e =
    let fits : fits_slot slot (Word w) ≡ fits_slot slot (Word v) = same-fits w v slot e in
    elim (cases_Bool (fits_slot slot (Word v))) [
      | inl t ↦ rw (fits ∙ t, t) (ap (λ (ws : List (List Slot)). slots ∷ ws) (alike w v ways e))
      | inr t ↦ rw (fits ∙ t, t) (alike w v ways e)
    ]

-- a word that is a key word
pub key-word : (key w : List ℕ) → str_eq_ignore_ascii_case key w ≡ true → str_to_ascii_lowercase w ≡ str_to_ascii_lowercase key
key-word key w e = sym ((bytes_eq-Decides (str_to_ascii_lowercase key) (str_to_ascii_lowercase w)).0 e)

-- only a word is a key word, and only a sign stands at a sign's slot
pub key-cases : (P : Lexeme → Type 0) (key : List ℕ) → ((w : List ℕ) → str_eq_ignore_ascii_case key w ≡ true → P (Word w)) → (l : Lexeme) → fits_slot (Key key) l ≡ true → P l
key-cases P key h (Word w) e = h w e
key-cases P key h (Quoted text) e = absurd (false≢true e)
key-cases P key h (Literal text) e = absurd (false≢true e)
key-cases P key h (Number digits) e = absurd (false≢true e)
key-cases P key h (Sign s) e = absurd (false≢true e)
key-cases P key h Wrong e = absurd (false≢true e)

-- what holds of each sign that fits holds of each token that fits a sign
pub sign-cases : (P : Lexeme → Type 0) (sign : ℕ) → ((s : ℕ) → fits_slot (Punct sign) (Sign s) ≡ true → P (Sign s)) → (l : Lexeme) → fits_slot (Punct sign) l ≡ true → P l
sign-cases P sign h (Sign s) e = h s e
sign-cases P sign h (Word text) e = absurd (false≢true e)
sign-cases P sign h (Quoted text) e = absurd (false≢true e)
sign-cases P sign h (Literal text) e = absurd (false≢true e)
sign-cases P sign h (Number digits) e = absurd (false≢true e)
sign-cases P sign h Wrong e = absurd (false≢true e)
