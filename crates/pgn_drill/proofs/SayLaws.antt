-- What each kind of line of a drill says.
use Rattle.std.proofs.Common.{◌≡◌, ℕ, zero, suc, ◌+◌, ◌<◌, ◌≤◌, ◌==◌, Bool, true, false, cond, ◌&&◌, inl, inr, ◌⊎◌, nat_le, List, [], ◌∷◌, ◌++◌, length, codes, decimal, Some, refl, sym, ap, ◌∙◌, arith, append_assoc, append-nil, length-append}
use Rattle.std.specs.Fmt.{digits}
use Rattle.std.specs.List.{list_all, list_any}
use Rattle.std.specs.Prelude.{option_map}
use Rattle.std.proofs.lemmas.Bool.{le-leb, le-ltb, cond-false, or_parts}
use Rattle.std.proofs.lemmas.Bool.Decides.{nat_tests}
use Rattle.std.proofs.lemmas.List.{same_from_push}
use Rattle.std.proofs.lemmas.List.Folds.{list_any-append}
use Rattle.pgn_base.specs.declared.limits.TheConstants.{PAYLOAD_BYTES_MAX}
use Rattle.pgn_base.specs.declared.answers.Which.TheVariants.{PayloadTooLong}
use Rattle.pgn_base.specs.declared.command.Command.{Command}
use Rattle.pgn_base.specs.declared.command.Command.TheVariants as command
use Rattle.pgn_language.specs.Tokens.{Lexeme, Word, Literal, Sign, Token, Inside, closed, is_blank, preceded, tokens, tokens_from}
use Rattle.pgn_language.specs.Grammar.{command_of, cut, is_long, lexemes_of, reading, reading_of, table}
use Rattle.pgn_language.specs.Lines.{Says, Opens, Runs, Signals, Awaits, NoMeta, command_says, is_gap, is_label, is_label_byte, meta_says, parts_of, says, text_says, trimmed}
use Rattle.pgn_language.specs.laws.Inputs.{PartsAreCut}
use Rattle.pgn_language.proofs.LineLaws.{parts-are_cut, texts-trimmed}
use Rattle.pgn_drill.proofs.DigitLaws.{AreDigits, IsFigure, digits-printed, each-digit, figure, is_printed, no-digit, printed-append}
use Rattle.pgn_drill.specs.Drill.{notify_line}

-- a line of a drill: its bytes can be printed, it is short, and it says this
pub record IsLine (line : List ℕ) (said : Says) : Type 0 where
  pub printed : list_all is_printed line ≡ true
  pub short : length line ≤ 40
  pub told : says line ≡ said

-- A line whose last bytes are no blanks is its own text.

-- a list is empty or has a last element
pub last-of : {X : Type 0} (xs : List X) → (xs ≡ []) ⊎ ((front : List X) × (x : X) × (xs ≡ front ++ x ∷ []))
last-of [] = inl refl
last-of (x ∷ xs) = elim (last-of xs) [
  | inl e ↦ inr ([], x, ap (λ rest. x ∷ rest) e)
  | inr l ↦ inr (x ∷ l.0, l.1, ap (λ rest. x ∷ rest) l.2)
]

ends-clean : (xs ys : List ℕ) → 0 < length ys → list_any is_blank ys ≡ false → (byte : ℕ) (front : List ℕ) → xs ++ ys ≡ front ++ byte ∷ [] → is_blank byte ≡ false
ends-clean xs ys some clean byte front e = elim (last-of ys) [
  | inl none ↦ let size : length ys ≡ 0 = ap length none in absurd (omega (arith, some, size))
  | inr l ↦
      let whole : xs ++ ys ≡ (xs ++ l.0) ++ l.1 ∷ [] = ap (λ t. xs ++ t) l.2 ∙ sym (append_assoc xs l.0 (l.1 ∷ [])) in
      let same : l.1 ≡ byte = (same_from_push (xs ++ l.0) front l.1 byte (sym whole ∙ e)).1 in
      let parts = or_parts (list_any is_blank l.0) (list_any is_blank (l.1 ∷ [])) (sym (list_any-append is_blank l.0 (l.1 ∷ [])) ∙ ap (list_any is_blank) (sym l.2) ∙ clean) in
      ap is_blank (sym same) ∙ (or_parts (is_blank l.1) false parts.1).0
]

pub trimmed-whole : (b : ℕ) (xs ys : List ℕ) → is_blank b ≡ false → 0 < length ys → list_any is_blank ys ≡ false → trimmed (b ∷ (xs ++ ys)) ≡ b ∷ (xs ++ ys)
trimmed-whole b xs ys starts some clean =
    let line : List ℕ = b ∷ (xs ++ ys) in
    sym ((texts-trimmed line line).0 (record {
      before = [];
      after = [];
      whole = sym (append-nil line);
      blank_before = refl;
      blank_after = refl;
      first = λ byte rest same. let one : b ≡ byte = cc in ap is_blank (sym one) ∙ starts;
      last = λ byte front same. ends-clean (b ∷ xs) ys some clean byte front same;
    }))

no-blank : (b : ℕ) → 48 ≤ b → b ≤ 57 → is_blank b ≡ false
no-blank b low high = grind (arith, nat_tests)

digits-no_blank : (digits : List ℕ) → AreDigits digits → list_any is_blank digits ≡ false
digits-no_blank digits d = no-digit is_blank no-blank digits d

-- Meta lines.

no-gap : (b : ℕ) → 48 ≤ b → b ≤ 57 → is_gap b ≡ false
no-gap b low high = grind (arith, nat_tests)

label-byte : (b : ℕ) → 48 ≤ b → b ≤ 57 → is_label_byte b ≡ true
label-byte b low high = grind (arith, nat_tests)

three-hold : (a b c : Bool) → a ≡ true → b ≡ true → c ≡ true → (a && b && c) ≡ true
three-hold true true true p q r = refl
three-hold false b c p q r = absurd (cc)
three-hold true false c p q r = absurd (cc)
three-hold true true false p q r = absurd (cc)

-- a name of one letter or two before digits
label-from : (front digits : List ℕ) → length front ≤ 2 → list_all is_label_byte (front ++ digits) ≡ true → IsFigure digits → is_label (front ++ digits) ≡ true
label-from front digits short bytes f =
    let size : length (front ++ digits) ≡ length front + length digits = length-append front digits in
    let some : 0 < length digits = f.some in
    let few : length digits ≤ 10 = f.few in
    three-hold (nat_le 1 (length (front ++ digits))) (nat_le (length (front ++ digits)) 63) (list_all is_label_byte (front ++ digits))
    (le-leb 1 (length (front ++ digits)) (omega (arith, size, some))) (le-leb (length (front ++ digits)) 63 (omega (arith, size, few, short))) bytes

flag-label : (digits : List ℕ) → IsFigure digits → is_label (codes "up" ++ digits) ≡ true
flag-label digits f = label-from (codes "up") digits (omega arith) (each-digit is_label_byte label-byte digits f.all) f

name-label : (digits : List ℕ) → IsFigure digits → is_label (codes "d" ++ digits) ≡ true
name-label digits f = label-from (codes "d") digits (omega arith) (each-digit is_label_byte label-byte digits f.all) f

flag-parts : (word digits : List ℕ) → list_any is_gap word ≡ false → 0 < length word → IsFigure digits → parts_of (word ++ 32 ∷ (codes "up" ++ digits)) ≡ word ∷ (codes "up" ++ digits) ∷ []
flag-parts word digits clean some f =
    let law : PartsAreCut = parts-are_cut in
    let size : length (codes "up" ++ digits) ≡ 2 + length digits = length-append (codes "up") digits in
    law.ended word (codes "up" ++ digits) 32 clean some refl ∙ ap (λ (parts : List (List ℕ)). word ∷ parts) (law.last (codes "up" ++ digits) (no-digit is_gap no-gap digits f.all) (omega (arith, size)))

name-parts : (digits : List ℕ) → IsFigure digits → parts_of (codes "\\session d" ++ digits ++ codes " 1") ≡ codes "\\session" ∷ (codes "d" ++ digits) ∷ codes "1" ∷ []
name-parts digits f =
    let law : PartsAreCut = parts-are_cut in
    let size : length (codes "d" ++ digits) ≡ 1 + length digits = length-append (codes "d") digits in
    law.ended (codes "\\session") (codes "d" ++ digits ++ codes " 1") 32 refl (omega arith) refl
    ∙ ap (λ (parts : List (List ℕ)). codes "\\session" ∷ parts)
    (law.ended (codes "d" ++ digits) (codes "1") 32 (no-digit is_gap no-gap digits f.all) (omega (arith, size)) refl ∙ ap (λ (parts : List (List ℕ)). (codes "d" ++ digits) ∷ parts) (law.last (codes "1") refl (omega arith)))

awaits-where : (b : Bool) (flag : List ℕ) → b ≡ true → cond (false && b) (Signals flag) (cond (true && b) (Awaits flag) NoMeta) ≡ Awaits flag
awaits-where true flag e = refl
awaits-where false flag e = absurd (cc)

signals-where : (b : Bool) (flag : List ℕ) → b ≡ true → cond (true && b) (Signals flag) (cond (false && b) (Awaits flag) NoMeta) ≡ Signals flag
signals-where true flag e = refl
signals-where false flag e = absurd (cc)

opens-where : (b : Bool) (name : List ℕ) → b ≡ true → cond (true && b && true) (Opens name 1) NoMeta ≡ Opens name 1
opens-where true name e = refl
opens-where false name e = absurd (cc)

await-says : (digits : List ℕ) → IsFigure digits → says (codes "\\await up" ++ digits) ≡ Awaits (codes "up" ++ digits)
unfolding says
await-says digits f =
    ap text_says (trimmed-whole 92 (codes "await up") digits refl f.some (digits-no_blank digits f.all)) ∙ ap meta_says (flag-parts (codes "\\await") digits refl (omega arith) f)
    ∙ awaits-where (is_label (codes "up" ++ digits)) (codes "up" ++ digits) (flag-label digits f)

signal-says : (digits : List ℕ) → IsFigure digits → says (codes "\\signal up" ++ digits) ≡ Signals (codes "up" ++ digits)
unfolding says
signal-says digits f =
    ap text_says (trimmed-whole 92 (codes "signal up") digits refl f.some (digits-no_blank digits f.all)) ∙ ap meta_says (flag-parts (codes "\\signal") digits refl (omega arith) f)
    ∙ signals-where (is_label (codes "up" ++ digits)) (codes "up" ++ digits) (flag-label digits f)

session-trimmed : (digits : List ℕ) → trimmed (codes "\\session d" ++ digits ++ codes " 1") ≡ codes "\\session d" ++ digits ++ codes " 1"
session-trimmed digits =
    let e : codes "\\session d" ++ digits ++ 32 ∷ [] ++ codes "1" ≡ codes "\\session d" ++ digits ++ codes " 1" = append_assoc (codes "\\session d" ++ digits) (32 ∷ []) (codes "1") in
    ap trimmed (sym e) ∙ trimmed-whole 92 (codes "session d" ++ digits ++ 32 ∷ []) (codes "1") refl (omega arith) refl ∙ e

session-says : (digits : List ℕ) → IsFigure digits → says (codes "\\session d" ++ digits ++ codes " 1") ≡ Opens (codes "d" ++ digits) 1
unfolding says
session-says digits f =
    ap text_says (session-trimmed digits) ∙ ap meta_says (name-parts digits f) ∙ opens-where (is_label (codes "d" ++ digits)) (codes "d" ++ digits) (name-label digits f)

-- A notification with digits as its payload.

no-quote : (b : ℕ) → 48 ≤ b → b ≤ 57 → (b == 39) ≡ false
no-quote b low high = grind (arith, nat_tests)

-- digits end at the quote behind them
abbrev inside : List ℕ → Inside
inside digits = record { text = digits; size = length digits + 1 }

more-inside : (b : ℕ) (digits : List ℕ) → Some (preceded b 1 (inside digits)) ≡ Some (inside (b ∷ digits))
more-inside b digits =
    let size : 1 + (length digits + 1) ≡ length (b ∷ digits) + 1 = omega arith in
    ap (λ (n : ℕ). let i : Inside = record { text = b ∷ digits; size = n } in Some i) size

closed-digit : (b c : ℕ) (bytes digits : List ℕ) → (b == 39) ≡ false → closed 39 (c ∷ bytes) ≡ Some (inside digits) → closed 39 (b ∷ c ∷ bytes) ≡ Some (inside (b ∷ digits))
closed-digit b c bytes digits other h = rw (other, closed) (ap (option_map (preceded b 1)) h ∙ more-inside b digits)

closed-digits : (digits : List ℕ) → AreDigits digits → closed 39 (digits ++ 39 ∷ []) ≡ Some (inside digits)
closed-digits [] d = refl
closed-digits (b ∷ []) d = closed-digit b 39 [] [] (no-quote b d.0.0 d.0.1) refl
closed-digits (b ∷ c ∷ digits) d = closed-digit b c (digits ++ 39 ∷ []) (c ∷ digits) (no-quote b d.0.0 d.0.1) (closed-digits (c ∷ digits) d.1)

-- no token begins within what belongs to the token before
all-taken : (at n : ℕ) (bytes : List ℕ) → length bytes ≡ n → tokens_from at n bytes ≡ []
all-taken at n [] e = refl
all-taken at zero (b ∷ bytes) e = absurd (omega (arith, e))
all-taken at (suc n) (b ∷ bytes) e = all-taken (at + 1) n bytes (omega (arith, e))

abbrev literal_at : ℕ → List ℕ → Token
literal_at at digits = record { lexeme = Literal digits; at = at }

literal-token : (at b : ℕ) (digits : List ℕ) → AreDigits (b ∷ digits) → tokens_from at 0 (39 ∷ (b ∷ digits ++ 39 ∷ [])) ≡ literal_at at (b ∷ digits) ∷ []
literal-token at b digits d =
    rw (closed-digits (b ∷ digits) d, tokens_from) (ap (λ (more : List Token). literal_at at (b ∷ digits) ∷ more)
    (all-taken (at + 1) (length (b ∷ digits) + 1) (b ∷ digits ++ 39 ∷ []) (length-append (b ∷ digits) (39 ∷ []))))

-- the line that sends digits on a channel
abbrev note_text : ℕ → List ℕ → List ℕ
note_text j digits = codes "NOTIFY c" ++ decimal j ++ codes ", '" ++ digits ++ codes "'"

abbrev note_lexemes : ℕ → List ℕ → List Lexeme
note_lexemes j digits = Word (codes "NOTIFY") ∷ Word (codes "c" ++ decimal j) ∷ Sign 44 ∷ Literal digits ∷ []

abbrev pub channel : ℕ → List ℕ
channel j = codes "c" ++ decimal j

abbrev pub sent : ℕ → List ℕ → Command
sent j digits = command.Notify (record { channel = channel j; payload = digits })

note-tokens : (j b : ℕ) (digits : List ℕ) → j < 4 → AreDigits (b ∷ digits) → lexemes_of (tokens (note_text j (b ∷ digits))) ≡ note_lexemes j (b ∷ digits)
unfolding digits
note-tokens zero b ds l d = ap (λ (more : List Token). Word (codes "NOTIFY") ∷ Word (codes "c0") ∷ Sign 44 ∷ lexemes_of more) (literal-token 11 b ds d)
note-tokens (suc zero) b ds l d = ap (λ (more : List Token). Word (codes "NOTIFY") ∷ Word (codes "c1") ∷ Sign 44 ∷ lexemes_of more) (literal-token 11 b ds d)
note-tokens (suc (suc zero)) b ds l d = ap (λ (more : List Token). Word (codes "NOTIFY") ∷ Word (codes "c2") ∷ Sign 44 ∷ lexemes_of more) (literal-token 11 b ds d)
note-tokens (suc (suc (suc zero))) b ds l d = ap (λ (more : List Token). Word (codes "NOTIFY") ∷ Word (codes "c3") ∷ Sign 44 ∷ lexemes_of more) (literal-token 11 b ds d)
note-tokens (suc (suc (suc (suc j)))) b ds l d = absurd (omega (arith, l))

-- they are a form of the table
note-command : (j end : ℕ) (tokens : List Token) (payload : List ℕ) → j < 4 → reading_of end tokens (command_of table (note_lexemes j payload)) ≡ cond (is_long payload) (command.Invalid PayloadTooLong) (sent j payload)
unfolding digits table cut
note-command zero end tokens payload l = refl
note-command (suc zero) end tokens payload l = refl
note-command (suc (suc zero)) end tokens payload l = refl
note-command (suc (suc (suc zero))) end tokens payload l = refl
note-command (suc (suc (suc (suc j)))) end tokens payload l = absurd (omega (arith, l))

note-reads : (j b : ℕ) (digits : List ℕ) → j < 4 → IsFigure (b ∷ digits) → reading (note_text j (b ∷ digits)) ≡ sent j (b ∷ digits)
note-reads j b digits l f =
    let text : List ℕ = note_text j (b ∷ digits) in
    let few : length (b ∷ digits) ≤ 10 = f.few in
    ap (λ (lexemes : List Lexeme). reading_of (length text) (tokens text) (command_of table lexemes)) (note-tokens j b digits l f.all)
    ∙ note-command j (length text) (tokens text) (b ∷ digits) l
    ∙ cond-false (is_long (b ∷ digits)) (command.Invalid PayloadTooLong) (sent j (b ∷ digits)) (le-ltb PAYLOAD_BYTES_MAX (length (b ∷ digits)) (omega (arith, few)))

note-says : (j : ℕ) (digits : List ℕ) → j < 4 → IsFigure digits → says (note_text j digits) ≡ Runs (sent j digits)
unfolding says
note-says j [] l f = let some : 0 < 0 = f.some in absurd (omega (arith, some))
note-says j (b ∷ digits) l f =
    ap text_says (trimmed-whole 78 (codes "OTIFY c" ++ decimal j ++ codes ", '" ++ (b ∷ digits)) (codes "'") refl (omega arith) refl) ∙ ap command_says (note-reads j b digits l f)

-- The lines of a drill.

four-long : (a b c d : List ℕ) → length (a ++ b ++ c ++ d) ≡ length a + length b + length c + length d
four-long a b c d = omega (arith, length-append (a ++ b ++ c) d, length-append (a ++ b) c, length-append a b)

-- the line that begins a session opens a section of that name, of database 1
pub session-line : (i : ℕ) → i ≤ 32 → IsLine (codes "\\session d" ++ decimal i ++ codes " 1") (Opens (codes "d" ++ decimal i) 1)
session-line i l =
    let f : IsFigure (decimal i) = figure i (omega (arith, l)) in
    let few : length (decimal i) ≤ 10 = f.few in
    let all : list_all is_printed (codes "\\session d" ++ decimal i) ≡ true = printed-append (codes "\\session d") (decimal i) refl (digits-printed (decimal i) f.all) in
    record {
      printed = printed-append (codes "\\session d" ++ decimal i) (codes " 1") all refl;
      short = omega (arith, few, length-append (codes "\\session d" ++ decimal i) (codes " 1"), length-append (codes "\\session d") (decimal i));
      told = session-says (decimal i) f;
    }

-- the line that awaits a session's flag says so
pub await-line : (i : ℕ) → i ≤ 32 → IsLine (codes "\\await up" ++ decimal i) (Awaits (codes "up" ++ decimal i))
await-line i l =
    let f : IsFigure (decimal i) = figure i (omega (arith, l)) in
    let few : length (decimal i) ≤ 10 = f.few in
    record {
      printed = printed-append (codes "\\await up") (decimal i) refl (digits-printed (decimal i) f.all);
      short = omega (arith, few, length-append (codes "\\await up") (decimal i));
      told = await-says (decimal i) f;
    }

-- the line that signals it says so
pub signal-line : (i : ℕ) → i ≤ 32 → IsLine (codes "\\signal up" ++ decimal i) (Signals (codes "up" ++ decimal i))
signal-line i l =
    let f : IsFigure (decimal i) = figure i (omega (arith, l)) in
    let few : length (decimal i) ≤ 10 = f.few in
    record {
      printed = printed-append (codes "\\signal up") (decimal i) refl (digits-printed (decimal i) f.all);
      short = omega (arith, few, length-append (codes "\\signal up") (decimal i));
      told = signal-says (decimal i) f;
    }

-- the line that listens on one of the four channels is that command
pub listen-line : (j : ℕ) → j < 4 → IsLine (codes "LISTEN c" ++ decimal j) (Runs (command.Listen (channel j)))
unfolding says table cut digits
listen-line zero l = record { printed = refl; short = omega arith; told = refl }
listen-line (suc zero) l = record { printed = refl; short = omega arith; told = refl }
listen-line (suc (suc zero)) l = record { printed = refl; short = omega arith; told = refl }
listen-line (suc (suc (suc zero))) l = record { printed = refl; short = omega arith; told = refl }
listen-line (suc (suc (suc (suc j)))) l = absurd (omega (arith, l))

-- the line that sends a drawn number on a channel is that command
pub note-line : (j r : ℕ) → j < 4 → r < 10000000000 → IsLine (notify_line j r) (Runs (sent j (decimal r)))
note-line j r l small =
    let f : IsFigure (decimal r) = figure r small in
    let g : IsFigure (decimal j) = figure j (omega (arith, l)) in
    let few : length (decimal r) ≤ 10 = f.few in
    let some : length (decimal j) ≤ 10 = g.few in
    let one : list_all is_printed (codes "NOTIFY c" ++ decimal j) ≡ true = printed-append (codes "NOTIFY c") (decimal j) refl (digits-printed (decimal j) g.all) in
    let two : list_all is_printed (codes "NOTIFY c" ++ decimal j ++ codes ", '") ≡ true = printed-append (codes "NOTIFY c" ++ decimal j) (codes ", '") one refl in
    let three : list_all is_printed (codes "NOTIFY c" ++ decimal j ++ codes ", '" ++ decimal r) ≡ true =
    printed-append (codes "NOTIFY c" ++ decimal j ++ codes ", '") (decimal r) two (digits-printed (decimal r) f.all) in
    record {
      printed = printed-append (codes "NOTIFY c" ++ decimal j ++ codes ", '" ++ decimal r) (codes "'") three refl;
      short = omega (arith, few, some, length-append (codes "NOTIFY c" ++ decimal j ++ codes ", '" ++ decimal r) (codes "'"), four-long (codes "NOTIFY c") (decimal j) (codes ", '") (decimal r));
      told = note-says j (decimal r) l f;
    }

-- the line that begins a transaction is that command
pub begin-line : IsLine (codes "BEGIN") (Runs command.Begin)
unfolding says table cut
begin-line = record { printed = refl; short = omega arith; told = refl }

-- the line that commits it is that command
pub commit-line : IsLine (codes "COMMIT") (Runs command.Commit)
unfolding says table cut
commit-line = record { printed = refl; short = omega arith; told = refl }

-- the line of the savepoint is that command
pub savepoint-line : IsLine (codes "SAVEPOINT s") (Runs (command.Savepoint (codes "s")))
unfolding says table cut
savepoint-line = record { printed = refl; short = omega arith; told = refl }

-- the notification that is rolled back has no payload
pub gone-line : IsLine (codes "NOTIFY gone") (Runs (command.Notify (record { channel = codes "gone"; payload = [] })))
unfolding says table cut
gone-line = record { printed = refl; short = omega arith; told = refl }

-- the line that rolls back to the savepoint is that command
pub rollback-line : IsLine (codes "ROLLBACK TO s") (Runs (command.RollbackTo (codes "s")))
unfolding says table cut
rollback-line = record { printed = refl; short = omega arith; told = refl }
