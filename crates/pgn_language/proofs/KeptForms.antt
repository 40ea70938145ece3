-- What the table of commands keeps of the texts of tokens.
use Rattle.std.proofs.Common.{◌≡◌, ℕ, zero, suc, true, ◌⊎◌, inl, inr, List, [], ◌∷◌, ◌++◌, map, length, take, drop, flat_map, refl, subst, codes}
use Rattle.std.specs.Str.{byte}
use Rattle.std.specs.List.{repeat}
use Rattle.std.proofs.lemmas.Bool.{false≢true, and_parts}
use Rattle.pgn_base.specs.declared.note.Note.{Note}
use Rattle.pgn_base.specs.declared.command.Command.{Command}
use Rattle.pgn_base.specs.declared.command.Command.TheVariants as command
use Rattle.pgn_language.specs.Tokens.{Lexeme, Wrong, tokens}
use Rattle.pgn_language.specs.Grammar.{Slot, Key, Name, Quote, Punct, fits_slot, all_fit, name_of, text_of, value_of, token_at, Way, silent, key, either, sign, optional, work, name, literal, argument, followed, sequence, Form, row, first, note, table, IsOneOf, lexemes_of, limited, ReadsAs, Whole, Stops, Lacks}

-- what a way gives: a name or a text
pub data Sort : Type 0 where
  AName : Sort
  AText : Sort

-- what holds of tokens, of what their ways give, and of commands
pub record Rule : Type 1 where
  pub clean : Lexeme → Type 0
  pub suits : Sort → List ℕ → Type 0
  pub valid : Command → Type 0

-- each token is clean
abbrev pub AllClean : Rule → List Lexeme → Type 0
AllClean r [] = Unit {0}
AllClean r (lexeme ∷ lexemes) = r.clean lexeme × AllClean r lexemes

abbrev pub AllSuit : Rule → List Sort → List (List ℕ) → Type 0
AllSuit r [] [] = Unit {0}
AllSuit r (s ∷ sorts) (t ∷ texts) = r.suits s t × AllSuit r sorts texts
AllSuit r sorts texts = ⊥

all_suit-append : (r : Rule) (a b : List Sort) (xs ys : List (List ℕ)) → AllSuit r a xs → AllSuit r b ys → AllSuit r (a ++ b) (xs ++ ys)
all_suit-append r [] b [] ys h k = k
all_suit-append r [] b (x ∷ xs) ys h k = absurd h
all_suit-append r (s ∷ a) b [] ys h k = absurd h
all_suit-append r (s ∷ a) b (x ∷ xs) ys h k = (h.0, all_suit-append r a b xs ys h.1 k)

clean-take : (r : Rule) (n : ℕ) (lexemes : List Lexeme) → AllClean r lexemes → AllClean r (take n lexemes)
clean-take r zero lexemes h = tt
clean-take r (suc n) [] h = tt
clean-take r (suc n) (t ∷ lexemes) h = (h.0, clean-take r n lexemes h.1)

clean-drop : (r : Rule) (n : ℕ) (lexemes : List Lexeme) → AllClean r lexemes → AllClean r (drop n lexemes)
clean-drop r zero lexemes h = h
clean-drop r (suc n) [] h = tt
clean-drop r (suc n) (t ∷ lexemes) h = clean-drop r n lexemes h.1

all_fit-split : (a b : List Slot) (lexemes : List Lexeme) → all_fit (a ++ b) lexemes ≡ true → (all_fit a (take (length a) lexemes) ≡ true) × (all_fit b (drop (length a) lexemes) ≡ true)
all_fit-split [] b lexemes h = (refl, h)
all_fit-split (p ∷ a) b [] h = absurd (false≢true h)
all_fit-split (p ∷ a) b (t ∷ lexemes) h =
    let parts : (fits_slot p t ≡ true) × (all_fit (a ++ b) lexemes ≡ true) = and_parts _ _ h in
    let rest : (all_fit a (take (length a) lexemes) ≡ true) × (all_fit b (drop (length a) lexemes) ≡ true) = all_fit-split a b lexemes parts.1 in
    (rw parts.0 rest.0, rest.1)

-- the texts that a way gives at clean tokens
record Gives (r : Rule) (sorts : List Sort) (way : Way) : Type 0 where
  texts : (lexemes : List Lexeme) → all_fit way.slots lexemes ≡ true → AllClean r lexemes → AllSuit r sorts (way.texts lexemes)

abbrev EachGives : Rule → List Sort → List Way → Type 0
EachGives r sorts [] = Unit {0}
EachGives r sorts (way ∷ ways) = Gives r sorts way × EachGives r sorts ways

each-append : (r : Rule) (sorts : List Sort) (a b : List Way) → EachGives r sorts a → EachGives r sorts b → EachGives r sorts (a ++ b)
each-append r sorts [] b h k = k
each-append r sorts (way ∷ a) b h k = (h.0, each-append r sorts a b h.1 k)

followed-gives : (r : Rule) (some more : List Sort) (a b : Way) → Gives r some a → Gives r more b → Gives r (some ++ more) (followed a b)
followed-gives r some more a b h k = record {
  texts = λ lexemes fit clean.
      let parts : (all_fit a.slots (take (length a.slots) lexemes) ≡ true) × (all_fit b.slots (drop (length a.slots) lexemes) ≡ true) = all_fit-split a.slots b.slots lexemes fit in
      all_suit-append r some more (a.texts (take (length a.slots) lexemes)) (b.texts (drop (length a.slots) lexemes))
      (h.texts (take (length a.slots) lexemes) parts.0 (clean-take r (length a.slots) lexemes clean))
      (k.texts (drop (length a.slots) lexemes) parts.1 (clean-drop r (length a.slots) lexemes clean));
}

each-followed : (r : Rule) (some more : List Sort) (way : Way) (ways : List Way) → Gives r some way → EachGives r more ways → EachGives r (some ++ more) (map (followed way) ways)
each-followed r some more way [] h k = tt
each-followed r some more way (other ∷ ways) h k = (followed-gives r some more way other h k.0, each-followed r some more way ways h k.1)

each-part : (r : Rule) (some more : List Sort) (part rest : List Way) → EachGives r some part → EachGives r more rest → EachGives r (some ++ more) (flat_map (λ way. map (followed way) rest) part)
each-part r some more [] rest h k = tt
each-part r some more (way ∷ part) rest h k =
    each-append r (some ++ more) (map (followed way) rest) (flat_map (λ way. map (followed way) rest) part) (each-followed r some more way rest h.0 k) (each-part r some more part rest h.1 k)

silent-gives : (r : Rule) (slots : List Slot) → Gives r [] (silent slots)
silent-gives r slots = record { texts = λ lexemes fit clean. tt }

-- each way of a part gives such texts
record PartGives (r : Rule) (sorts : List Sort) (part : List Way) : Type 0 where
  ways : EachGives r sorts part

-- parts give such texts, one after another
data AllGive (r : Rule) : List (List Way) → List Sort → Type 0 where
  NoPart : AllGive r [] []
  OnePart : (part : List Way) → (parts : List (List Way)) → (some more : List Sort) → PartGives r some part → AllGive r parts more → AllGive r (part ∷ parts) (some ++ more)

also : (r : Rule) {part : List Way} {parts : List (List Way)} {some more : List Sort} → PartGives r some part → AllGive r parts more → AllGive r (part ∷ parts) (some ++ more)
also r {part} {parts} {some} {more} h k = OnePart part parts some more h k

semicolon-gives : (r : Rule) → EachGives r [] (optional (sign (byte ";")))
semicolon-gives r = (silent-gives r [], (silent-gives r (Punct (byte ";") ∷ []), tt))

-- one after another, and the semicolon that may follow
sequence-gives : (r : Rule) (parts : List (List Way)) (sorts : List Sort) → AllGive r parts sorts → EachGives r sorts (sequence (parts ++ optional (sign (byte ";")) ∷ []))
sequence-gives r _ _ NoPart = each-part r [] [] (optional (sign (byte ";"))) (silent [] ∷ []) (semicolon-gives r) (silent-gives r [], tt)
sequence-gives r _ _ (OnePart part parts some more h k) = each-part r some more part (sequence (parts ++ optional (sign (byte ";")) ∷ [])) h.ways (sequence-gives r parts more k)

-- what these forms make of clean tokens is valid
pub record AllValid (r : Rule) (forms : List Form) : Type 0 where
  pub commands : (lexemes : List Lexeme) (command : Command) → IsOneOf forms lexemes command → AllClean r lexemes → r.valid (limited command)

one_of-cases : (a b : List Form) (lexemes : List Lexeme) (command : Command) → IsOneOf (a ++ b) lexemes command → IsOneOf a lexemes command ⊎ IsOneOf b lexemes command
one_of-cases [] b lexemes command h = inr h
one_of-cases (form ∷ a) b lexemes command (inl h) = inl (inl h)
one_of-cases (form ∷ a) b lexemes command (inr h) = elim (one_of-cases a b lexemes command h) [
  | inl k ↦ inl (inr k)
  | inr k ↦ inr k
]

valid-append : (r : Rule) (a b : List Form) → AllValid r a → AllValid r b → AllValid r (a ++ b)
valid-append r a b h k = record {
  commands = λ lexemes command one clean. elim (one_of-cases a b lexemes command one) [
    | inl x ↦ h.commands lexemes command x clean
    | inr x ↦ k.commands lexemes command x clean
  ];
}

abbrev form_of : (List (List ℕ) → Command) → Way → Form
form_of gives way = record { slots = way.slots; command = λ lexemes. gives (way.texts lexemes) }

ways-valid : (r : Rule) (sorts : List Sort) (gives : List (List ℕ) → Command) → ((texts : List (List ℕ)) → AllSuit r sorts texts → r.valid (limited (gives texts)))
    → (ways : List Way) → EachGives r sorts ways → (lexemes : List Lexeme) (command : Command) → IsOneOf (map (form_of gives) ways) lexemes command → AllClean r lexemes → r.valid (limited command)
ways-valid r sorts gives valid [] h lexemes command one clean = absurd one
ways-valid r sorts gives valid (way ∷ ways) h lexemes command (inl one) clean =
    subst (λ (c : Command). r.valid (limited c)) one.1 (valid (way.texts lexemes) (h.0.texts lexemes one.0 clean))
ways-valid r sorts gives valid (way ∷ ways) h lexemes command (inr one) clean = ways-valid r sorts gives valid ways h.1 lexemes command one clean

row-valid : (r : Rule) {sorts : List Sort} {parts : List (List Way)} (gives : List (List ℕ) → Command) → AllGive r parts sorts
    → ((texts : List (List ℕ)) → AllSuit r sorts texts → r.valid (limited (gives texts))) → AllValid r (row parts gives)
row-valid r {sorts} {parts} gives h valid = record {
  commands = ways-valid r sorts gives valid (sequence (parts ++ optional (sign (byte ";")) ∷ [])) (sequence-gives r parts sorts h);
}

-- a row whose command has no text
plain-ways : (r : Rule) (plain : Command) → r.valid (limited plain) → (ways : List Way) (lexemes : List Lexeme) (command : Command) → IsOneOf (map (form_of (λ texts. plain)) ways) lexemes command → r.valid (limited command)
plain-ways r plain valid [] lexemes command one = absurd one
plain-ways r plain valid (way ∷ ways) lexemes command (inl one) = subst (λ (c : Command). r.valid (limited c)) one.1 valid
plain-ways r plain valid (way ∷ ways) lexemes command (inr one) = plain-ways r plain valid ways lexemes command one

plain-valid : (r : Rule) (parts : List (List Way)) (plain : Command) → r.valid (limited plain) → AllValid r (row parts (λ texts. plain))
plain-valid r parts plain valid = record { commands = λ lexemes command one clean. plain-ways r plain valid (sequence (parts ++ optional (sign (byte ";")) ∷ [])) lexemes command one }

-- What a rule asks of the texts of tokens and of commands, so that the table keeps it.

-- a command without a text
abbrev pub IsPlain : Command → Type 0
IsPlain command.Empty = Unit {0}
IsPlain command.Begin = Unit {0}
IsPlain command.Start = Unit {0}
IsPlain command.Commit = Unit {0}
IsPlain command.Rollback = Unit {0}
IsPlain command.UnlistenAll = Unit {0}
IsPlain command.ListeningChannels = Unit {0}
IsPlain command.QueueUsage = Unit {0}
IsPlain other = ⊥

-- what a rule has to keep, from the tokens to the command that they make
pub record Keeps (r : Rule) : Type 0 where
  pub nothing : r.clean Wrong
  pub named : (lexeme : Lexeme) → fits_slot Name lexeme ≡ true → r.clean lexeme → r.suits AName (name_of lexeme)
  pub written : (lexeme : Lexeme) → r.clean lexeme → r.suits AText (text_of lexeme)
  pub empty : r.suits AText []
  pub again : (n : ℕ) (text : List ℕ) → r.suits AText text → r.suits AText (repeat n text)
  pub plain : (one : Command) → IsPlain one → r.valid (limited one)
  pub savepoint : (text : List ℕ) → r.suits AName text → r.valid (command.Savepoint text)
  pub rollback_to : (text : List ℕ) → r.suits AName text → r.valid (command.RollbackTo text)
  pub release : (text : List ℕ) → r.suits AName text → r.valid (command.Release text)
  pub listen : (text : List ℕ) → r.suits AName text → r.valid (command.Listen text)
  pub unlisten : (text : List ℕ) → r.suits AName text → r.valid (command.Unlisten text)
  pub notify : (n : Note) → r.suits AName n.channel → r.suits AText n.payload → r.valid (limited (command.Notify n))
  pub pg_notify : (n : Note) → r.suits AText n.channel → r.suits AText n.payload → r.valid (limited (command.PgNotify n))

-- the texts of the parts
token_at-clean : (r : Rule) → Keeps r → (lexemes : List Lexeme) (n : ℕ) → AllClean r lexemes → r.clean (token_at lexemes n)
token_at-clean r h [] n c = h.nothing
token_at-clean r h (t ∷ lexemes) zero c = c.0
token_at-clean r h (t ∷ lexemes) (suc n) c = token_at-clean r h lexemes n c.1

name_at : (r : Rule) → Keeps r → (lexemes : List Lexeme) → all_fit (Name ∷ []) lexemes ≡ true → AllClean r lexemes → r.suits AName (name_of (token_at lexemes 0))
name_at r h [] fit c = absurd (false≢true fit)
name_at r h (t ∷ lexemes) fit c = h.named t (and_parts (fits_slot Name t) (all_fit [] lexemes) fit).0 c.0

text_at : (r : Rule) → Keeps r → (lexemes : List Lexeme) (n : ℕ) → AllClean r lexemes → r.suits AText (text_of (token_at lexemes n))
text_at r h lexemes n c = h.written (token_at lexemes n) (token_at-clean r h lexemes n c)

name-gives : (r : Rule) → Keeps r → PartGives r (AName ∷ []) name
name-gives r h = record { ways = (record { texts = λ lexemes fit c. (name_at r h lexemes fit c, tt) }, tt) }

literal_way : (r : Rule) → Keeps r → Gives r (AText ∷ []) (record { slots = Quote ∷ []; texts = λ lexemes. text_of (token_at lexemes 0) ∷ [] })
literal_way r h = record { texts = λ lexemes fit c. (text_at r h lexemes 0 c, tt) }

literal-gives : (r : Rule) → Keeps r → PartGives r (AText ∷ []) literal
literal-gives r h = record { ways = (literal_way r h, tt) }

argument-gives : (r : Rule) → Keeps r → PartGives r (AText ∷ []) argument
argument-gives r h = record {
  ways = (
    literal_way r h,
    (record { texts = λ lexemes fit c. (h.empty, tt) }, (record { texts = λ lexemes fit c. (h.again (value_of (token_at lexemes 4)) (text_of (token_at lexemes 2)) (text_at r h lexemes 2 c), tt) }, tt)),
  );
}

key-gives : (r : Rule) (word : List ℕ) → PartGives r [] (key word)
key-gives r word = record { ways = (silent-gives r (Key word ∷ []), tt) }

optional_key-gives : (r : Rule) (word : List ℕ) → PartGives r [] (optional (key word))
optional_key-gives r word = record { ways = (silent-gives r [], (silent-gives r (Key word ∷ []), tt)) }

sign-gives : (r : Rule) (mark : ℕ) → PartGives r [] (sign mark)
sign-gives r mark = record { ways = (silent-gives r (Punct mark ∷ []), tt) }

work-gives : (r : Rule) → PartGives r [] work
work-gives r = record { ways = (silent-gives r [], (silent-gives r (Key (codes "work") ∷ []), (silent-gives r (Key (codes "transaction") ∷ []), tt))) }

-- what the commands make of them
one-name : (r : Rule) (gives : List ℕ → Command) → ((text : List ℕ) → r.suits AName text → r.valid (limited (gives text)))
    → (texts : List (List ℕ)) → AllSuit r (AName ∷ []) texts → r.valid (limited (gives (first texts)))
one-name r gives valid [] s = absurd s
one-name r gives valid (t ∷ []) s = valid t s.0
one-name r gives valid (t ∷ u ∷ texts) s = absurd s.1

notified : (r : Rule) → Keeps r → (texts : List (List ℕ)) → AllSuit r (AName ∷ []) texts → r.valid (limited (command.Notify (note texts)))
notified r h [] s = absurd s
notified r h (t ∷ []) s = h.notify (note (t ∷ [])) s.0 h.empty
notified r h (t ∷ u ∷ texts) s = absurd s.1

notified_with : (r : Rule) → Keeps r → (texts : List (List ℕ)) → AllSuit r (AName ∷ AText ∷ []) texts → r.valid (limited (command.Notify (note texts)))
notified_with r h [] s = absurd s
notified_with r h (t ∷ []) s = absurd s.1
notified_with r h (t ∷ u ∷ []) s = h.notify (note (t ∷ u ∷ [])) s.0 s.1.0
notified_with r h (t ∷ u ∷ v ∷ texts) s = absurd s.1.1

called : (r : Rule) → Keeps r → (texts : List (List ℕ)) → AllSuit r (AText ∷ AText ∷ []) texts → r.valid (limited (command.PgNotify (note texts)))
called r h [] s = absurd s
called r h (t ∷ []) s = absurd s.1
called r h (t ∷ u ∷ []) s = h.pg_notify (note (t ∷ u ∷ [])) s.0 s.1.0
called r h (t ∷ u ∷ v ∷ texts) s = absurd s.1.1

-- the rows with texts
last_name : (r : Rule) → Keeps r → AllGive r (name ∷ []) (AName ∷ [])
last_name r h = also r (name-gives r h) NoPart

savepoint-valid : (r : Rule) → Keeps r → AllValid r (row (key (codes "savepoint") ∷ name ∷ []) (λ texts. command.Savepoint (first texts)))
savepoint-valid r h = row-valid r (λ texts. command.Savepoint (first texts)) (also r (key-gives r (codes "savepoint")) (last_name r h)) (one-name r (λ t. command.Savepoint t) h.savepoint)

rollback_to-valid : (r : Rule) → Keeps r → AllValid r (row (key (codes "rollback") ∷ work ∷ key (codes "to") ∷ optional (key (codes "savepoint")) ∷ name ∷ []) (λ texts. command.RollbackTo (first texts)))
rollback_to-valid r h = row-valid r (λ texts. command.RollbackTo (first texts))
    (also r (key-gives r (codes "rollback")) (also r (work-gives r) (also r (key-gives r (codes "to")) (also r (optional_key-gives r (codes "savepoint")) (last_name r h))))) (one-name r (λ t. command.RollbackTo t) h.rollback_to)

release-valid : (r : Rule) → Keeps r → AllValid r (row (key (codes "release") ∷ optional (key (codes "savepoint")) ∷ name ∷ []) (λ texts. command.Release (first texts)))
release-valid r h = row-valid r (λ texts. command.Release (first texts)) (also r (key-gives r (codes "release")) (also r (optional_key-gives r (codes "savepoint")) (last_name r h))) (one-name r (λ t. command.Release t) h.release)

listen-valid : (r : Rule) → Keeps r → AllValid r (row (key (codes "listen") ∷ name ∷ []) (λ texts. command.Listen (first texts)))
listen-valid r h = row-valid r (λ texts. command.Listen (first texts)) (also r (key-gives r (codes "listen")) (last_name r h)) (one-name r (λ t. command.Listen t) h.listen)

unlisten-valid : (r : Rule) → Keeps r → AllValid r (row (key (codes "unlisten") ∷ name ∷ []) (λ texts. command.Unlisten (first texts)))
unlisten-valid r h = row-valid r (λ texts. command.Unlisten (first texts)) (also r (key-gives r (codes "unlisten")) (last_name r h)) (one-name r (λ t. command.Unlisten t) h.unlisten)

notify-valid : (r : Rule) → Keeps r → AllValid r (row (key (codes "notify") ∷ name ∷ []) (λ texts. command.Notify (note texts)))
notify-valid r h = row-valid r (λ texts. command.Notify (note texts)) (also r (key-gives r (codes "notify")) (last_name r h)) (notified r h)

notify_with-valid : (r : Rule) → Keeps r → AllValid r (row (key (codes "notify") ∷ name ∷ sign (byte ",") ∷ literal ∷ []) (λ texts. command.Notify (note texts)))
notify_with-valid r h = row-valid r (λ texts. command.Notify (note texts))
    (also r (key-gives r (codes "notify")) (also r (name-gives r h) (also r (sign-gives r (byte ",")) (also r (literal-gives r h) NoPart)))) (notified_with r h)

called_with : (r : Rule) → Keeps r → AllGive r (argument ∷ sign (byte ",") ∷ argument ∷ sign (byte ")") ∷ []) (AText ∷ AText ∷ [])
called_with r h = also r (argument-gives r h) (also r (sign-gives r (byte ",")) (also r (argument-gives r h) (also r (sign-gives r (byte ")")) NoPart)))

pg_notify-valid : (r : Rule) → Keeps r → AllValid r (row (key (codes "select") ∷ key (codes "pg_notify") ∷ sign (byte "(") ∷ argument ∷ sign (byte ",") ∷ argument ∷ sign (byte ")") ∷ []) (λ texts. command.PgNotify (note texts)))
pg_notify-valid r h = row-valid r (λ texts. command.PgNotify (note texts))
    (also r (key-gives r (codes "select")) (also r (key-gives r (codes "pg_notify")) (also r (sign-gives r (byte "(")) (called_with r h)))) (called r h)

-- what the table makes of clean tokens is valid
pub table-valid : (r : Rule) → Keeps r → AllValid r table
unfolding table
table-valid r h =
    let to_3 = valid-append r _ _ (valid-append r _ _ (plain-valid r [] command.Empty (h.plain command.Empty tt)) (plain-valid r (key (codes "begin") ∷ work ∷ []) command.Begin (h.plain command.Begin tt)))
    (plain-valid r (key (codes "start") ∷ key (codes "transaction") ∷ []) command.Start (h.plain command.Start tt)) in
    let to_5 = valid-append r _ _ (valid-append r _ _ to_3 (plain-valid r (either (codes "commit") (codes "end") ∷ work ∷ []) command.Commit (h.plain command.Commit tt)))
    (plain-valid r (either (codes "rollback") (codes "abort") ∷ work ∷ []) command.Rollback (h.plain command.Rollback tt)) in
    let to_8 = valid-append r _ _ (valid-append r _ _ (valid-append r _ _ to_5 (savepoint-valid r h)) (rollback_to-valid r h)) (release-valid r h) in
    let to_11 = valid-append r _ _ (valid-append r _ _ (valid-append r _ _ to_8 (listen-valid r h)) (unlisten-valid r h)) (plain-valid r (key (codes "unlisten") ∷ sign (byte "*") ∷ []) command.UnlistenAll (h.plain command.UnlistenAll tt)) in
    let to_14 = valid-append r _ _ (valid-append r _ _ (valid-append r _ _ to_11 (notify-valid r h)) (notify_with-valid r h)) (pg_notify-valid r h) in
    valid-append r _ _
    (valid-append r _ _ to_14 (plain-valid r (key (codes "select") ∷ key (codes "pg_listening_channels") ∷ sign (byte "(") ∷ sign (byte ")") ∷ []) command.ListeningChannels (h.plain command.ListeningChannels tt)))
    (plain-valid r (key (codes "select") ∷ key (codes "pg_notification_queue_usage") ∷ sign (byte "(") ∷ sign (byte ")") ∷ []) command.QueueUsage (h.plain command.QueueUsage tt))

-- so is what a text reads as whose tokens are clean, where a line that goes wrong is
pub kept-reading : (r : Rule) → Keeps r → (text : List ℕ) (one : Command) → AllClean r (lexemes_of (tokens text)) → ((at : ℕ) → r.valid (command.Bad at)) → ReadsAs text one → r.valid one
kept-reading r h text _ clean bad (Whole one form) = (table-valid r h).commands (lexemes_of (tokens text)) one form clean
kept-reading r h text _ clean bad (Stops front token rest e begin stuck) = bad token.at
kept-reading r h text _ clean bad (Lacks begin stuck) = bad (length text)
