-- Fields of a line: a number, a text between quotes, a holder and a notification end where what follows them shows.
use Rattle.std.proofs.Common.{◌≡◌, ◌≢◌, ℕ, ◌^◌, ◌<◌, ◌==◌, Bool, true, false, cond, List, [], ◌∷◌, ◌++◌, Option, None, Some, IfSome, codes, decimal, sym, ap, ◌∙◌, refl, arith, append_assoc, eqb-true, eq-eqb}
use Rattle.std.specs.Prelude.{flat_map}
use Rattle.std.specs.Int.{IsInRange}
use Rattle.std.proofs.lemmas.Fmt.{digits_decimal, decimal_injective}
use Rattle.std.proofs.lemmas.List.{append_cancel_left}
use Rattle.std.proofs.lemmas.Str.Parse.{IsDigitsTest, numerals_by_value}
use Rattle.pgn_base.specs.declared.note.Note.{Note}
use Rattle.pgn_base.specs.declared.queue_answers.Full.{Full}
use Rattle.pgn_base.specs.declared.queue_answers.Usage.{Usage}
use Rattle.pgn_language.specs.Quotes.{doubled_byte}
use Rattle.pgn_model.specs.Text.{holder_text, note_line}

-- digits
abbrev pub AreDigits : List ℕ → Type 0
AreDigits [] = Unit {0}
AreDigits (b ∷ bytes) = IsInRange 48 57 b × AreDigits bytes

are-digits : IsDigitsTest AreDigits
are-digits = record { empty = tt; parts = λ b bytes h. h; more = λ b bytes h k. (h, k) }

-- a number is spelled in digits alone
pub digits-decimal : (n : ℕ) → n < 2 ^ 64 → AreDigits (decimal n)
digits-decimal n h = digits_decimal (numerals_by_value AreDigits are-digits) n h

-- a byte below the digits follows
abbrev pub EndsNumber : List ℕ → Type 0
EndsNumber [] = ⊥
EndsNumber (b ∷ bytes) = b < 48

digits-end : (xs ys rest more : List ℕ) → AreDigits xs → AreDigits ys → EndsNumber rest → EndsNumber more → xs ++ rest ≡ ys ++ more → (xs ≡ ys) × (rest ≡ more)
digits-end [] [] rest more dx dy hr hm e = (refl, e)
digits-end [] (y ∷ ys) [] more dx dy hr hm e = absurd hr
digits-end [] (y ∷ ys) (b ∷ rest) more dx dy hr hm e = let same : b ≡ y = cc in absurd (omega (arith, hr, dy.0))
digits-end (x ∷ xs) [] rest [] dx dy hr hm e = absurd hm
digits-end (x ∷ xs) [] rest (b ∷ more) dx dy hr hm e = let same : x ≡ b = cc in absurd (omega (arith, hm, dx.0))
digits-end (x ∷ xs) (y ∷ ys) rest more dx dy hr hm e =
    let first : x ≡ y = cc in
    let tail : xs ++ rest ≡ ys ++ more = cc in
    let got = digits-end xs ys rest more dx.1 dy.1 hr hm tail in
    let whole : xs ≡ ys = got.0 in
    (cc, got.1)

-- a number ends where no digit follows
pub number-ends : (m n : ℕ) (rest more : List ℕ) → m < 2 ^ 64 → n < 2 ^ 64 → EndsNumber rest → EndsNumber more → decimal m ++ rest ≡ decimal n ++ more → (m ≡ n) × (rest ≡ more)
number-ends m n rest more hm hn hr hs e =
    let got = digits-end (decimal m) (decimal n) rest more (digits-decimal m hm) (digits-decimal n hn) hr hs e in
    (decimal_injective m n hm hn got.0, got.1)

-- no number begins with a letter
no-letter : (letter : ℕ) (bytes xs rest : List ℕ) → AreDigits xs → EndsNumber rest → 57 < letter → letter ∷ bytes ≡ xs ++ rest → ⊥
no-letter letter bytes [] [] dx hr far e = absurd hr
no-letter letter bytes [] (b ∷ rest) dx hr far e = let same : letter ≡ b = cc in omega (arith, hr)
no-letter letter bytes (x ∷ xs) rest dx hr far e = let same : letter ≡ x = cc in omega (arith, dx.0)

-- a holder's number is not too great
abbrev pub IsHeld : Option ℕ → Type 0
IsHeld holder = IfSome holder (λ session. session < 2 ^ 64)

-- a holder ends where no digit follows
pub holder-ends : (holder other : Option ℕ) (rest more : List ℕ) → IsHeld holder → IsHeld other → EndsNumber rest → EndsNumber more → holder_text holder ++ rest ≡ holder_text other ++ more → (holder ≡ other) × (rest ≡ more)
holder-ends None None rest more h k hr hm e = (refl, append_cancel_left (codes "none") rest more e)
holder-ends None (Some n) rest more h k hr hm e = absurd (no-letter 110 (codes "one" ++ rest) (decimal n) more (digits-decimal n k) hm (omega arith) e)
holder-ends (Some m) None rest more h k hr hm e = absurd (no-letter 110 (codes "one" ++ more) (decimal m) rest (digits-decimal m h) hr (omega arith) (sym e))
holder-ends (Some m) (Some n) rest more h k hr hm e =
    let got = number-ends m n rest more h k hr hm e in
    (ap (λ (session : ℕ). Some session) got.0, got.1)

-- no quote follows
abbrev pub EndsQuote : ℕ → List ℕ → Type 0
EndsQuote quote [] = Unit {0}
EndsQuote quote (b ∷ bytes) = b ≢ quote

-- a text in which each quote stands twice
abbrev pub doubled : ℕ → List ℕ → List ℕ
doubled quote text = flat_map (doubled_byte quote) text

-- a quote that ends a text is not the first of two
not-two : (quote : ℕ) (rest more : List ℕ) → EndsQuote quote rest → quote ∷ rest ≡ quote ∷ quote ∷ more → ⊥
not-two quote [] more h e = let no : ⊥ = cc in no
not-two quote (b ∷ rest) more h e = let same : b ≡ quote = cc in h same

-- nor another byte
not-other : (quote b : ℕ) (rest more : List ℕ) → (b == quote) ≡ false → quote ∷ rest ≡ b ∷ more → ⊥
not-other quote b rest more apart e =
    let same : b ≡ quote = cc in
    let yes : (b == quote) ≡ true = eq-eqb b quote same in
    let never : true ≡ false = sym yes ∙ apart in
    let none : ⊥ = cc in
    none

-- a text between quotes ends at the first quote that is not followed by another
pub quoted-ends : (quote : ℕ) (text other rest more : List ℕ) → EndsQuote quote rest → EndsQuote quote more → doubled quote text ++ quote ∷ rest ≡ doubled quote other ++ quote ∷ more → (text ≡ other) × (rest ≡ more)
quoted-ends quote [] [] rest more hr hm e = (refl, cc)
quoted-ends quote [] (y ∷ ys) rest more hr hm e = absurd (by (y == quote) refl e)
  where
    by : (b : Bool) → (y == quote) ≡ b → quote ∷ rest ≡ (cond b (quote ∷ quote ∷ []) (y ∷ []) ++ doubled quote ys) ++ quote ∷ more → ⊥
    by true is e = not-two quote rest (doubled quote ys ++ quote ∷ more) hr e
    by false is e = not-other quote y rest (doubled quote ys ++ quote ∷ more) is e
quoted-ends quote (x ∷ xs) [] rest more hr hm e = absurd (by (x == quote) refl (sym e))
  where
    by : (b : Bool) → (x == quote) ≡ b → quote ∷ more ≡ (cond b (quote ∷ quote ∷ []) (x ∷ []) ++ doubled quote xs) ++ quote ∷ rest → ⊥
    by true is e = not-two quote more (doubled quote xs ++ quote ∷ rest) hm e
    by false is e = not-other quote x more (doubled quote xs ++ quote ∷ rest) is e
quoted-ends quote (x ∷ xs) (y ∷ ys) rest more hr hm e = by (x == quote) (y == quote) refl refl (λ h. quoted-ends quote xs ys rest more hr hm h) e
  where
    by : (b c : Bool) → (x == quote) ≡ b → (y == quote) ≡ c → (doubled quote xs ++ quote ∷ rest ≡ doubled quote ys ++ quote ∷ more → (xs ≡ ys) × (rest ≡ more))
        → (cond b (quote ∷ quote ∷ []) (x ∷ []) ++ doubled quote xs) ++ quote ∷ rest ≡ (cond c (quote ∷ quote ∷ []) (y ∷ []) ++ doubled quote ys) ++ quote ∷ more → (x ∷ xs ≡ y ∷ ys) × (rest ≡ more)
    by true true is so later e =
        let got = later (append_cancel_left (quote ∷ quote ∷ []) (doubled quote xs ++ quote ∷ rest) (doubled quote ys ++ quote ∷ more) e) in
        let first : x ≡ y = eqb-true x quote is ∙ sym (eqb-true y quote so) in
        let others : xs ≡ ys = got.0 in
        (cc, got.1)
    by true false is so later e = absurd (not-other quote y (quote ∷ doubled quote xs ++ quote ∷ rest) (doubled quote ys ++ quote ∷ more) so e)
    by false true is so later e = absurd (not-other quote x (quote ∷ doubled quote ys ++ quote ∷ more) (doubled quote xs ++ quote ∷ rest) is (sym e))
    by false false is so later e =
        let first : x ≡ y = cc in
        let tail : doubled quote xs ++ quote ∷ rest ≡ doubled quote ys ++ quote ∷ more = cc in
        let got = later tail in
        let others : xs ≡ ys = got.0 in
        (cc, got.1)

-- a number after a start that both have
pub field : (start : List ℕ) (m n : ℕ) (rest more : List ℕ) → m < 2 ^ 64 → n < 2 ^ 64 → EndsNumber rest → EndsNumber more → start ++ (decimal m ++ rest) ≡ start ++ (decimal n ++ more) → (m ≡ n) × (rest ≡ more)
field start m n rest more hm hn hr hs e = number-ends m n rest more hm hn hr hs (append_cancel_left start (decimal m ++ rest) (decimal n ++ more) e)

-- a blank, LF and what follows are no digits
pub blank : (rest : List ℕ) → EndsNumber (32 ∷ rest)
blank rest = omega arith

-- LF ends a number
pub line-feed : (rest : List ℕ) → EndsNumber (10 ∷ rest)
line-feed rest = omega arith

-- the line of a notification, and what follows it
two-texts : (channel payload rest : List ℕ)
    → (34 ∷ (channel ++ 34 ∷ []) ++ 44 ∷ 32 ∷ [] ++ 39 ∷ (payload ++ 39 ∷ [])) ++ rest ≡ 34 ∷ (channel ++ 34 ∷ 44 ∷ 32 ∷ 39 ∷ (payload ++ 39 ∷ rest))
two-texts channel payload rest = simp append_assoc

pub note-spelled : (note : Note) (rest : List ℕ) → note_line note ++ 10 ∷ rest ≡ 32 ∷ 32 ∷ 34 ∷ (doubled 34 note.channel ++ 34 ∷ 44 ∷ 32 ∷ 39 ∷ (doubled 39 note.payload ++ 39 ∷ 10 ∷ rest))
note-spelled note rest = ap (λ (bytes : List ℕ). 32 ∷ 32 ∷ bytes) (two-texts (doubled 34 note.channel) (doubled 39 note.payload) (10 ∷ rest))

pub same-note : (a b : Note) → a.channel ≡ b.channel → a.payload ≡ b.payload → a ≡ b
same-note a b e1 e2 =
    ap (λ (text : List ℕ). let n : Note = record { channel = text; payload = a.payload } in n) e1
    ∙ ap (λ (text : List ℕ). let n : Note = record { channel = b.channel; payload = text } in n) e2

-- the line of a notification tells it, and what stands behind the line
pub note-ends : (note other : Note) (rest more : List ℕ) → note_line note ++ 10 ∷ rest ≡ note_line other ++ 10 ∷ more → (note ≡ other) × (rest ≡ more)
note-ends note other rest more e =
    let behind : List ℕ = 44 ∷ 32 ∷ 39 ∷ (doubled 39 note.payload ++ 39 ∷ 10 ∷ rest) in
    let after : List ℕ = 44 ∷ 32 ∷ 39 ∷ (doubled 39 other.payload ++ 39 ∷ 10 ∷ more) in
    let spelled : 32 ∷ 32 ∷ 34 ∷ (doubled 34 note.channel ++ 34 ∷ behind) ≡ 32 ∷ 32 ∷ 34 ∷ (doubled 34 other.channel ++ 34 ∷ after) = sym (note-spelled note rest) ∙ e ∙ note-spelled other more in
    let comma : (44 ≡ 34) → ⊥ = λ h. omega (arith, h) in
    let line_feed : (10 ≡ 39) → ⊥ = λ h. omega (arith, h) in
    let channels = quoted-ends 34 note.channel other.channel behind after comma comma (append_cancel_left (32 ∷ 32 ∷ 34 ∷ []) (doubled 34 note.channel ++ 34 ∷ behind) (doubled 34 other.channel ++ 34 ∷ after) spelled) in
    let payloads = quoted-ends 39 note.payload other.payload (10 ∷ rest) (10 ∷ more) line_feed line_feed
    (append_cancel_left (44 ∷ 32 ∷ 39 ∷ []) (doubled 39 note.payload ++ 39 ∷ 10 ∷ rest) (doubled 39 other.payload ++ 39 ∷ 10 ∷ more) channels.1) in
    (same-note note other channels.0 payloads.0, append_cancel_left (10 ∷ []) rest more payloads.1)

-- two full queues with the same in each field are the same
pub same-full : (a b : Full) → a.xid ≡ b.xid → a.queued ≡ b.queued → a.head_page ≡ b.head_page → a.floor_mark ≡ b.floor_mark → a.floor_page ≡ b.floor_page → a.holder ≡ b.holder → a ≡ b
same-full a b e1 e2 e3 e4 e5 e6 =
    ap (λ (n : ℕ). let f : Full = record { xid = n; queued = a.queued; head_page = a.head_page; floor_mark = a.floor_mark; floor_page = a.floor_page; holder = a.holder } in f) e1
    ∙ ap (λ (n : ℕ). let f : Full = record { xid = b.xid; queued = n; head_page = a.head_page; floor_mark = a.floor_mark; floor_page = a.floor_page; holder = a.holder } in f) e2
    ∙ ap (λ (n : ℕ). let f : Full = record { xid = b.xid; queued = b.queued; head_page = n; floor_mark = a.floor_mark; floor_page = a.floor_page; holder = a.holder } in f) e3
    ∙ ap (λ (n : ℕ). let f : Full = record { xid = b.xid; queued = b.queued; head_page = b.head_page; floor_mark = n; floor_page = a.floor_page; holder = a.holder } in f) e4
    ∙ ap (λ (n : ℕ). let f : Full = record { xid = b.xid; queued = b.queued; head_page = b.head_page; floor_mark = b.floor_mark; floor_page = n; holder = a.holder } in f) e5
    ∙ ap (λ (o : Option ℕ). let f : Full = record { xid = b.xid; queued = b.queued; head_page = b.head_page; floor_mark = b.floor_mark; floor_page = b.floor_page; holder = o } in f) e6

-- two usages with the same in each field are the same
pub same-usage : (a b : Usage) → a.at ≡ b.at → a.occupied ≡ b.occupied → a.limit ≡ b.limit → a.floor_mark ≡ b.floor_mark → a.holder ≡ b.holder → a ≡ b
same-usage a b e1 e2 e3 e4 e5 =
    ap (λ (n : ℕ). let u : Usage = record { at = n; occupied = a.occupied; limit = a.limit; floor_mark = a.floor_mark; holder = a.holder } in u) e1
    ∙ ap (λ (n : ℕ). let u : Usage = record { at = b.at; occupied = n; limit = a.limit; floor_mark = a.floor_mark; holder = a.holder } in u) e2
    ∙ ap (λ (n : ℕ). let u : Usage = record { at = b.at; occupied = b.occupied; limit = n; floor_mark = a.floor_mark; holder = a.holder } in u) e3
    ∙ ap (λ (n : ℕ). let u : Usage = record { at = b.at; occupied = b.occupied; limit = b.limit; floor_mark = n; holder = a.holder } in u) e4
    ∙ ap (λ (o : Option ℕ). let u : Usage = record { at = b.at; occupied = b.occupied; limit = b.limit; floor_mark = b.floor_mark; holder = o } in u) e5

-- pieces of a line, one after another
pub four-apart : (a b c d : List ℕ) → a ++ b ++ c ++ d ≡ a ++ (b ++ (c ++ d))
four-apart a b c d = simp append_assoc

-- five texts joined, taken apart from the left
pub five-apart : (a b c d e : List ℕ) → a ++ b ++ c ++ d ++ e ≡ a ++ (b ++ (c ++ (d ++ e)))
five-apart a b c d e = simp append_assoc

-- six texts joined, taken apart from the left
pub six-apart : (a b c d e f : List ℕ) → a ++ b ++ c ++ d ++ e ++ f ≡ a ++ (b ++ (c ++ (d ++ (e ++ f))))
six-apart a b c d e f = simp append_assoc

-- twelve texts joined, taken apart from the left
pub twelve-apart : (a b c d e f g h i j k l : List ℕ) → a ++ b ++ c ++ d ++ e ++ f ++ g ++ h ++ i ++ j ++ k ++ l ≡ a ++ (b ++ (c ++ (d ++ (e ++ (f ++ (g ++ (h ++ (i ++ (j ++ (k ++ l))))))))))
twelve-apart a b c d e f g h i j k l = simp append_assoc
