-- Laws of the grammar.
use Rattle.std.specs.List.{list_any}
use Rattle.std.proofs.Common.{map, ◌≡◌, ◌↔◌, ℕ, Bool, true, false, ◌&&◌, ◌||◌, ◌==◌, not, inl, inr, List, [], ◌∷◌, ◌++◌, length, Option, None, Some, sym, ap, ◌∙◌, refl, subst, append_assoc, codes, filter_map, ◌≢◌}
use Rattle.std.specs.Str.{str_eq_ignore_ascii_case, str_to_ascii_lowercase}
use Rattle.std.proofs.lemmas.Bool.{false≢true, and_parts, and_from, or_cases, or_left, or_right, both_ways, eq-eqb, eqb-true, not-true, false_from_ne_true, cases_Bool}
use Rattle.std.proofs.lemmas.List.{map-append, append-nil}
use Rattle.std.proofs.lemmas.Slice.Eq.{bytes_eq-Decides}
use Rattle.pgn_base.specs.declared.command.Command.{Command}
use Rattle.pgn_base.specs.declared.command.Command.TheVariants as command
use Rattle.pgn_language.specs.Tokens.{Lexeme, Word, Quoted, Literal, Number, Sign, Wrong, Token, tokens}
use Rattle.pgn_language.specs.Grammar.{Slot, Key, Name, Quote, Count, Punct, fits_slot, all_fit, Form, table, IsOneOf, BeginsForm, lexemes_of, ReadsAs, Whole, Stops, Lacks, prefix_fits, begin_one, command_of, stop, reading_of, reading}
use Rattle.pgn_language.specs.laws.Grammar.{after_first, followers, table_slots, is_done}

-- a prefix of tokens that fit
prefix_fits-all : (slots : List Slot) (lexemes more : List Lexeme) → all_fit slots (lexemes ++ more) ≡ true → prefix_fits slots lexemes ≡ true
prefix_fits-all slots [] more h = refl
prefix_fits-all [] (t ∷ ts) more h = absurd (false≢true h)
prefix_fits-all (p ∷ ps) (t ∷ ts) more h =
    let parts : (fits_slot p t ≡ true) × (all_fit ps (ts ++ more) ≡ true) = and_parts _ _ h in
    and_from _ _ parts.0 (prefix_fits-all ps ts more parts.1)

prefix_fits-front : (slots : List Slot) (lexemes more : List Lexeme) → prefix_fits slots (lexemes ++ more) ≡ true → prefix_fits slots lexemes ≡ true
prefix_fits-front slots [] more h = refl
prefix_fits-front [] (t ∷ ts) more h = absurd (false≢true h)
prefix_fits-front (p ∷ ps) (t ∷ ts) more h =
    let parts : (fits_slot p t ≡ true) × (prefix_fits ps (ts ++ more) ≡ true) = and_parts _ _ h in
    and_from _ _ parts.0 (prefix_fits-front ps ts more parts.1)

-- a token that may stand at a slot
abbrev sample : Slot → Lexeme
sample (Key word) = Word word
sample Name = Word (codes "x")
sample Quote = Literal []
sample Count = Number (codes "0")
sample (Punct sign) = Sign sign

sample-fits_slot : (slot : Slot) → fits_slot slot (sample slot) ≡ true
sample-fits_slot (Key word) = (bytes_eq-Decides (str_to_ascii_lowercase word) (str_to_ascii_lowercase word)).1 refl
sample-fits_slot Name = refl
sample-fits_slot Quote = refl
sample-fits_slot Count = refl
sample-fits_slot (Punct sign) = eq-eqb sign sign refl

-- tokens for the slots that are left
abbrev completion : List Slot → List Lexeme → List Lexeme
completion [] lexemes = []
completion (p ∷ ps) [] = sample p ∷ completion ps []
completion (p ∷ ps) (t ∷ ts) = completion ps ts

completion-fits_slot : (slots : List Slot) (lexemes : List Lexeme) → prefix_fits slots lexemes ≡ true → all_fit slots (lexemes ++ completion slots lexemes) ≡ true
completion-fits_slot [] [] h = refl
completion-fits_slot [] (t ∷ ts) h = absurd (false≢true h)
completion-fits_slot (p ∷ ps) [] h = and_from _ _ (sample-fits_slot p) (completion-fits_slot ps [] refl)
completion-fits_slot (p ∷ ps) (t ∷ ts) h =
    let parts : (fits_slot p t ≡ true) × (prefix_fits ps ts ≡ true) = and_parts _ _ h in
    and_from _ _ parts.0 (completion-fits_slot ps ts parts.1)

-- a prefix of one of the forms begins it
one-begins : (forms : List Form) (lexemes more : List Lexeme) (command : Command) → IsOneOf forms (lexemes ++ more) command → begin_one forms lexemes ≡ true
one-begins [] lexemes more command h = absurd h
one-begins (form ∷ forms) lexemes more command (inl h) = or_left _ _ (prefix_fits-all form.slots lexemes more h.0)
one-begins (form ∷ forms) lexemes more command (inr h) = or_right _ _ (one-begins forms lexemes more command h)

one-completes : (forms : List Form) (lexemes : List Lexeme) → begin_one forms lexemes ≡ true → (more : List Lexeme) × (command : Command) × IsOneOf forms (lexemes ++ more) command
one-completes [] lexemes h = absurd (false≢true h)
one-completes (form ∷ forms) lexemes h = elim (or_cases (prefix_fits form.slots lexemes) (begin_one forms lexemes) h) [
  | inl e ↦ (completion form.slots lexemes, form.command (lexemes ++ completion form.slots lexemes), inl (completion-fits_slot form.slots lexemes e, refl))
  | inr e ↦ let rest : (more : List Lexeme) × (command : Command) × IsOneOf forms (lexemes ++ more) command = one-completes forms lexemes e in (rest.0, rest.1, inr rest.2)
]

-- what begins a form is begun by its front
pub begin_one-front : (forms : List Form) (lexemes more : List Lexeme) → begin_one forms (lexemes ++ more) ≡ true → begin_one forms lexemes ≡ true
begin_one-front [] lexemes more h = absurd (false≢true h)
begin_one-front (form ∷ forms) lexemes more h = elim (or_cases (prefix_fits form.slots (lexemes ++ more)) (begin_one forms (lexemes ++ more)) h) [
  | inl e ↦ or_left _ _ (prefix_fits-front form.slots lexemes more e)
  | inr e ↦ or_right _ _ (begin_one-front forms lexemes more e)
]

-- tokens begin a form exactly where the computed test says so
pub begins-computes : (lexemes : List Lexeme) → BeginsForm lexemes ↔ (begin_one table lexemes ≡ true)
begins-computes lexemes = (
  (λ h. one-begins table lexemes h.more h.command h.form),
  (λ h. let rest : (more : List Lexeme) × (command : Command) × IsOneOf table (lexemes ++ more) command = one-completes table lexemes h in
      record { more = rest.0; command = rest.1; form = rest.2 }),
)

-- no token may stand at both of these slots
abbrev apart : Slot → Slot → Bool
apart (Key a) (Key b) = not (str_eq_ignore_ascii_case a b)
apart (Key a) Name = false
apart Name (Key b) = false
apart Name Name = false
apart Quote Quote = false
apart Count Count = false
apart (Punct a) (Punct b) = not (a == b)
apart p q = true

apart-excludes : (p q : Slot) (t : Lexeme) → apart p q ≡ true → fits_slot p t ≡ true → fits_slot q t ≡ true → ⊥
apart-excludes (Key a) (Key b) (Word t) h f g =
    let one : str_to_ascii_lowercase a ≡ str_to_ascii_lowercase t = (bytes_eq-Decides (str_to_ascii_lowercase a) (str_to_ascii_lowercase t)).0 f in
    let two : str_to_ascii_lowercase b ≡ str_to_ascii_lowercase t = (bytes_eq-Decides (str_to_ascii_lowercase b) (str_to_ascii_lowercase t)).0 g in
    both_ways (str_eq_ignore_ascii_case a b) (not-true _ h) ((bytes_eq-Decides (str_to_ascii_lowercase a) (str_to_ascii_lowercase b)).1 (one ∙ sym two))
apart-excludes (Key a) Name t h f g = absurd (false≢true h)
apart-excludes Name (Key b) t h f g = absurd (false≢true h)
apart-excludes Name Name t h f g = absurd (false≢true h)
apart-excludes Quote Quote t h f g = absurd (false≢true h)
apart-excludes Count Count t h f g = absurd (false≢true h)
apart-excludes (Punct a) (Punct b) (Sign t) h f g =
    both_ways (a == b) (not-true _ h) (eq-eqb a b (eqb-true a t f ∙ sym (eqb-true b t g)))
apart-excludes p q (Word t) h f g = cc
apart-excludes p q (Quoted t) h f g = cc
apart-excludes p q (Literal t) h f g = cc
apart-excludes p q (Number t) h f g = cc
apart-excludes p q (Sign t) h f g = cc
apart-excludes p q Wrong h f g = cc

-- no tokens may stand at both of these lists of slots
abbrev clash : List Slot → List Slot → Bool
clash [] [] = false
clash [] (q ∷ qs) = true
clash (p ∷ ps) [] = true
clash (p ∷ ps) (q ∷ qs) = apart p q || clash ps qs

clash-excludes : (ps qs : List Slot) (ts : List Lexeme) → clash ps qs ≡ true → all_fit ps ts ≡ true → all_fit qs ts ≡ true → ⊥
clash-excludes [] [] ts h f g = absurd (false≢true h)
clash-excludes [] (q ∷ qs) [] h f g = absurd (false≢true g)
clash-excludes [] (q ∷ qs) (t ∷ ts) h f g = absurd (false≢true f)
clash-excludes (p ∷ ps) [] [] h f g = absurd (false≢true f)
clash-excludes (p ∷ ps) [] (t ∷ ts) h f g = absurd (false≢true g)
clash-excludes (p ∷ ps) (q ∷ qs) [] h f g = absurd (false≢true f)
clash-excludes (p ∷ ps) (q ∷ qs) (t ∷ ts) h f g =
    let fs : (fits_slot p t ≡ true) × (all_fit ps ts ≡ true) = and_parts _ _ f in
    let gs : (fits_slot q t ≡ true) × (all_fit qs ts ≡ true) = and_parts _ _ g in
    elim (or_cases (apart p q) (clash ps qs) h) [
      | inl e ↦ apart-excludes p q t e fs.0 gs.0
      | inr e ↦ clash-excludes ps qs ts e fs.1 gs.1
    ]

-- no tokens are both this form and one of those
abbrev clashes : Form → List Form → Bool
clashes form [] = true
clashes form (other ∷ forms) = clash form.slots other.slots && clashes form forms

-- no tokens are two of these forms
abbrev all_clash : List Form → Bool
all_clash [] = true
all_clash (form ∷ forms) = clashes form forms && all_clash forms

clashes-exclude : (form : Form) (forms : List Form) (ts : List Lexeme) (command : Command) → clashes form forms ≡ true → all_fit form.slots ts ≡ true → IsOneOf forms ts command → ⊥
clashes-exclude form [] ts command h f g = g
clashes-exclude form (other ∷ forms) ts command h f (inl g) = clash-excludes form.slots other.slots ts (and_parts _ _ h).0 f g.0
clashes-exclude form (other ∷ forms) ts command h f (inr g) = clashes-exclude form forms ts command (and_parts _ _ h).1 f g

command_of-one : (forms : List Form) (ts : List Lexeme) (command : Command) → all_clash forms ≡ true → IsOneOf forms ts command → command_of forms ts ≡ Some command
command_of-one [] ts command h g = absurd g
command_of-one (form ∷ forms) ts command h (inl g) = rw (g.0, command_of) (ap Some g.1)
command_of-one (form ∷ forms) ts command h (inr g) =
    let parts : (clashes form forms ≡ true) × (all_clash forms ≡ true) = and_parts _ _ h in
    let no_fit : all_fit form.slots ts ≡ false = false_from_ne_true _ (λ f. clashes-exclude form forms ts command parts.0 f g) in
    rw (no_fit, command_of) (command_of-one forms ts command parts.1 g)

one-command_of : (forms : List Form) (ts : List Lexeme) (command : Command) → command_of forms ts ≡ Some command → IsOneOf forms ts command
one-command_of [] ts command h = cc
one-command_of (form ∷ forms) ts command h =
    elim (all_fit form.slots ts) as (λ b. all_fit form.slots ts ≡ b → elim b as (λ _. Option Command) [ true ↦ Some (form.command ts) | false ↦ command_of forms ts ] ≡ Some command → IsOneOf (form ∷ forms) ts command) [
      | true ↦ λ f e. inl (f, cc)
      | false ↦ λ f e. inr (one-command_of forms ts command e)
    ] refl h

-- the table has no two forms that the same tokens may be
table_clash : all_clash table ≡ true
unfolding table
table_clash = refl

none_from : (o : Option Command) → ((command : Command) → o ≡ Some command → ⊥) → o ≡ None
none_from None h = refl
none_from (Some command) h = absurd (h command refl)

no_form-none : (ts : List Lexeme) → ((command : Command) → IsOneOf table ts command → ⊥) → command_of table ts ≡ None
no_form-none ts h = none_from (command_of table ts) (λ command e. h command (one-command_of table ts command e))

none-no_form : (ts : List Lexeme) → command_of table ts ≡ None → (command : Command) → IsOneOf table ts command → ⊥
none-no_form ts e command h = let f : command_of table ts ≡ Some command = command_of-one table ts command table_clash h in cc

-- a form begins one, at each of its prefixes
form-begins : (front rest : List Lexeme) (command : Command) → IsOneOf table (front ++ rest) command → begin_one table front ≡ true
form-begins front rest command h = one-begins table front rest command h

stop-end : (forms : List Form) (end : ℕ) (front : List Lexeme) (ts : List Token) → begin_one forms (front ++ lexemes_of ts) ≡ true → stop forms end front ts ≡ end
stop-end forms end front [] h = refl
stop-end forms end front (t ∷ ts) h =
    let next : begin_one forms (front ++ t.lexeme ∷ [] ++ lexemes_of ts) ≡ true = ap (begin_one forms) (append_assoc front (t.lexeme ∷ []) (lexemes_of ts)) ∙ h in
    rw (begin_one-front forms (front ++ t.lexeme ∷ []) (lexemes_of ts) next, stop) (stop-end forms end (front ++ t.lexeme ∷ []) ts next)

stop-at : (forms : List Form) (end : ℕ) (front : List Lexeme) (ts : List Token) (token : Token) (rest : List Token) → begin_one forms (front ++ lexemes_of ts) ≡ true
    → begin_one forms (front ++ lexemes_of (ts ++ token ∷ [])) ≡ false → stop forms end front (ts ++ token ∷ rest) ≡ token.at
stop-at forms end front [] token rest h k = rw (k, stop)
stop-at forms end front (t ∷ ts) token rest h k =
    let next : begin_one forms (front ++ t.lexeme ∷ [] ++ lexemes_of ts) ≡ true = ap (begin_one forms) (append_assoc front (t.lexeme ∷ []) (lexemes_of ts)) ∙ h in
    let last : begin_one forms (front ++ t.lexeme ∷ [] ++ lexemes_of (ts ++ token ∷ [])) ≡ false = ap (begin_one forms) (append_assoc front (t.lexeme ∷ []) (lexemes_of (ts ++ token ∷ []))) ∙ k in
    rw (begin_one-front forms (front ++ t.lexeme ∷ []) (lexemes_of ts) next, stop) (stop-at forms end (front ++ t.lexeme ∷ []) ts token rest next last)

-- what a text reads as is what is computed
pub reads-computes : (text : List ℕ) (command : Command) → ReadsAs text command → reading text ≡ command
reads-computes text _ (Whole command form) = ap (reading_of (length text) (tokens text)) (command_of-one table (lexemes_of (tokens text)) command table_clash form)
reads-computes text _ (Stops front token rest e begin stuck) =
    let both : lexemes_of (tokens text) ≡ lexemes_of (front ++ token ∷ []) ++ lexemes_of rest =
    ap lexemes_of (e ∙ sym (append_assoc front (token ∷ []) rest)) ∙ map-append (λ (t : Token). t.lexeme) (front ++ token ∷ []) rest in
    let none : command_of table (lexemes_of (tokens text)) ≡ None = no_form-none (lexemes_of (tokens text)) (λ c h. stuck ((begins-computes (lexemes_of (front ++ token ∷ []))).1
    (form-begins (lexemes_of (front ++ token ∷ [])) (lexemes_of rest) c (subst (λ (ts : List Lexeme). IsOneOf table ts c) both h)))) in
    let at : stop table (length text) [] (tokens text) ≡ token.at = ap (stop table (length text) []) e ∙ stop-at table (length text) [] front token rest ((begins-computes (lexemes_of front)).0 begin)
    (false_from_ne_true _ (λ h. stuck ((begins-computes (lexemes_of (front ++ token ∷ []))).1 h))) in
    ap (reading_of (length text) (tokens text)) none ∙ ap (λ n. command.Bad n) at
reads-computes text _ (Lacks begin stuck) =
    ap (reading_of (length text) (tokens text)) (no_form-none (lexemes_of (tokens text)) stuck)
    ∙ ap (λ n. command.Bad n) (stop-end table (length text) [] (tokens text) ((begins-computes (lexemes_of (tokens text))).0 begin))

reads_where : (text : List ℕ) (front rest : List Token) → tokens text ≡ front ++ rest → begin_one table (lexemes_of front) ≡ true → command_of table (lexemes_of (tokens text)) ≡ None
    → ReadsAs text (command.Bad (stop table (length text) (lexemes_of front) rest))
reads_where text front [] e h none =
    let whole : tokens text ≡ front = e ∙ append-nil front in
    Lacks ((begins-computes (lexemes_of (tokens text))).1 (ap (λ (ts : List Token). begin_one table (lexemes_of ts)) whole ∙ h)) (none-no_form (lexemes_of (tokens text)) none)
reads_where text front (t ∷ rest) e h none =
    let more : lexemes_of (front ++ t ∷ []) ≡ lexemes_of front ++ t.lexeme ∷ [] = map-append (λ (t : Token). t.lexeme) front (t ∷ []) in
    elim (begin_one table (lexemes_of front ++ t.lexeme ∷ [])) as (λ b. begin_one table (lexemes_of front ++ t.lexeme ∷ []) ≡ b
    → ReadsAs text (command.Bad (elim b as (λ _. ℕ) [ true ↦ stop table (length text) (lexemes_of front ++ t.lexeme ∷ []) rest | false ↦ t.at ]))) [
      | true ↦ λ b. subst (λ (ts : List Lexeme). ReadsAs text (command.Bad (stop table (length text) ts rest))) more
          (reads_where text (front ++ t ∷ []) rest (e ∙ sym (append_assoc front (t ∷ []) rest)) (ap (begin_one table) more ∙ b) none)
      | false ↦ λ b. Stops front t rest e ((begins-computes (lexemes_of front)).1 h) (λ begin. both_ways _ (ap (begin_one table) more ∙ b) ((begins-computes (lexemes_of (front ++ t ∷ []))).0 begin))
    ] refl

nothing_begins : begin_one table [] ≡ true
unfolding table
nothing_begins = refl

-- a text reads as what is computed of it
pub reading-reads : (text : List ℕ) → ReadsAs text (reading text)
reading-reads text =
    elim (command_of table (lexemes_of (tokens text))) as (λ o. command_of table (lexemes_of (tokens text)) ≡ o → ReadsAs text (reading_of (length text) (tokens text) o)) [
      | Some command ↦ λ e. Whole command (one-command_of table (lexemes_of (tokens text)) command e)
      | None ↦ λ e. reads_where text [] (tokens text) refl nothing_begins e
    ] refl

-- the grammar and the computed reading are the same
pub reading-computes : (text : List ℕ) (command : Command) → ReadsAs text command ↔ (reading text ≡ command)
reading-computes text command = (reads-computes text command, λ e. subst (λ (c : Command). ReadsAs text c) e (reading-reads text))

-- tokens begin one of these lists of slots, and are one of them
abbrev any_front : List (List Slot) → List Lexeme → Bool
any_front ways lexemes = list_any (λ slots. prefix_fits slots lexemes) ways

abbrev any_whole : List (List Slot) → List Lexeme → Bool
any_whole ways lexemes = list_any (λ slots. all_fit slots lexemes) ways

any_front-step : (ways : List (List Slot)) (t : Lexeme) (ts : List Lexeme) → any_front ways (t ∷ ts) ≡ any_front (filter_map (after_first t) ways) ts
any_front-step [] t ts = refl
any_front-step ([] ∷ ways) t ts = any_front-step ways t ts
any_front-step ((p ∷ ps) ∷ ways) t ts = elim (cases_Bool (fits_slot p t)) [
  | inl e ↦ rw e (ap (λ b. prefix_fits ps ts || b) (any_front-step ways t ts))
  | inr e ↦ rw e (any_front-step ways t ts)
]

any_whole-step : (ways : List (List Slot)) (t : Lexeme) (ts : List Lexeme) → any_whole ways (t ∷ ts) ≡ any_whole (filter_map (after_first t) ways) ts
any_whole-step [] t ts = refl
any_whole-step ([] ∷ ways) t ts = any_whole-step ways t ts
any_whole-step ((p ∷ ps) ∷ ways) t ts = elim (cases_Bool (fits_slot p t)) [
  | inl e ↦ rw e (ap (λ b. all_fit ps ts || b) (any_whole-step ways t ts))
  | inr e ↦ rw e (any_whole-step ways t ts)
]

any_front-followers : (ways : List (List Slot)) (ts : List Lexeme) → any_front ways ts ≡ any_front (followers ways ts) []
any_front-followers ways [] = refl
any_front-followers ways (t ∷ ts) = any_front-step ways t ts ∙ any_front-followers (filter_map (after_first t) ways) ts

done-whole : (slots : List Slot) → all_fit slots [] ≡ is_done slots
done-whole [] = refl
done-whole (p ∷ ps) = refl

any_whole-done : (ways : List (List Slot)) → any_whole ways [] ≡ list_any is_done ways
any_whole-done [] = refl
any_whole-done (slots ∷ ways) = ap (λ b. b || any_whole ways []) (done-whole slots) ∙ ap (λ b. is_done slots || b) (any_whole-done ways)

any_whole-followers : (ways : List (List Slot)) (ts : List Lexeme) → any_whole ways ts ≡ list_any is_done (followers ways ts)
any_whole-followers ways [] = any_whole-done ways
any_whole-followers ways (t ∷ ts) = any_whole-step ways t ts ∙ any_whole-followers (filter_map (after_first t) ways) ts

any_front-forms : (forms : List Form) (ts : List Lexeme) → any_front (map (λ form. form.slots) forms) ts ≡ begin_one forms ts
any_front-forms [] ts = refl
any_front-forms (form ∷ forms) ts = ap (λ b. prefix_fits form.slots ts || b) (any_front-forms forms ts)

any_front-some : (ways : List (List Slot)) → ways ≢ [] → any_front ways [] ≡ true
any_front-some [] h = absurd (h refl)
any_front-some (slots ∷ ways) h = refl

some-any_front : (ways : List (List Slot)) → any_front ways [] ≡ true → ways ≢ []
some-any_front [] h e = false≢true h
some-any_front (slots ∷ ways) h e = cc

-- tokens begin a form exactly where some row of the table is left behind them
pub followers-tell : (lexemes : List Lexeme) → BeginsForm lexemes ↔ (followers table_slots lexemes ≢ [])
followers-tell lexemes =
    let same : begin_one table lexemes ≡ any_front (followers table_slots lexemes) [] = sym (any_front-forms table lexemes) ∙ any_front-followers table_slots lexemes in (
      λ h. some-any_front (followers table_slots lexemes) (sym same ∙ (begins-computes lexemes).0 h),
      λ h. (begins-computes lexemes).1 (same ∙ any_front-some (followers table_slots lexemes) h),
    )

one-whole : (forms : List Form) (ts : List Lexeme) (command : Command) → IsOneOf forms ts command → any_whole (map (λ form. form.slots) forms) ts ≡ true
one-whole [] ts command h = absurd h
one-whole (form ∷ forms) ts command (inl h) = or_left _ _ h.0
one-whole (form ∷ forms) ts command (inr h) = or_right _ _ (one-whole forms ts command h)

whole-one : (forms : List Form) (ts : List Lexeme) → any_whole (map (λ form. form.slots) forms) ts ≡ true → (command : Command) × IsOneOf forms ts command
whole-one [] ts h = absurd (false≢true h)
whole-one (form ∷ forms) ts h = elim (or_cases (all_fit form.slots ts) (any_whole (map (λ form. form.slots) forms) ts) h) [
  | inl e ↦ (form.command ts, inl (e, refl))
  | inr e ↦ let rest : (command : Command) × IsOneOf forms ts command = whole-one forms ts e in (rest.0, inr rest.1)
]

-- tokens are a whole form exactly where a row that is left behind them is at its end
pub followers-done : (lexemes : List Lexeme) → ((command : Command) × IsOneOf table lexemes command) ↔ (list_any is_done (followers table_slots lexemes) ≡ true)
followers-done lexemes =
    let same : any_whole table_slots lexemes ≡ list_any is_done (followers table_slots lexemes) = any_whole-followers table_slots lexemes in
    (λ h. sym same ∙ one-whole table lexemes h.0 h.1, λ h. whole-one table lexemes (same ∙ h))
