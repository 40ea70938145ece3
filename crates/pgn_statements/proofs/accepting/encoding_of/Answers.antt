use Rattle.std.proofs.Common.{◌≡◌, ℕ, Bool, true, false, cond, ◌||◌, List, sym, ◌∙◌}
use Rattle.std.specs.Prelude.{bytes_eq, codes}
use Rattle.std.proofs.lemmas.Bool.{or_from}
use Rattle.pgn_requests.specs.declared.verdict.Verdict.TheVariants.{Becomes, Invalid, Unsupported}
use Rattle.pgn_requests.specs.Values.{encoding, is_encoding}
use Rattle.pgn_statements.proofs.PlainLaws.{pick_no}
use Rattle.pgn_statements.proofs.AskLaws.{IfOk-same, pick_yes}
use Rattle.pgn_statements.proofs.accepting.encoding_of.Goals as goal

-- the second choice, the third and the last
second : {A : Type 0} (a b : Bool) (x y z : A) → a ≡ false → b ≡ true → y ≡ cond a x (cond b y z)
second a b x y z e f = sym (pick_no a x (cond b y z) e ∙ pick_yes b y z f)

third : {A : Type 0} (a b c : Bool) (x y z w : A) → a ≡ false → b ≡ false → c ≡ true → z ≡ cond a x (cond b y (cond c z w))
third a b c x y z w e f g = sym (pick_no a x (cond b y (cond c z w)) e ∙ pick_no b y (cond c z w) f ∙ pick_yes c z w g)

last : {A : Type 0} (a b c : Bool) (x y z w : A) → a ≡ false → b ≡ false → c ≡ false → w ≡ cond a x (cond b y (cond c z w))
last a b c x y z w e f g = sym (pick_no a x (cond b y (cond c z w)) e ∙ pick_no b y (cond c z w) f ∙ pick_no c z w g)

pub returns-then-is_same-3 : goal.returns-then-is_same-3
returns-then-is_same-3 c =
    let letters : List ℕ = c.args.letters.now in
    let not_utf8 = or_from (bytes_eq (codes "utf8") letters) (bytes_eq (codes "unicode") letters) (sym c.is_same.ensures ∙ c.if-is_same.false) (sym c.is_same-else-is_same.ensures ∙ c.if-is_same-2.false) in
    IfOk-same c.becomes-then-is_same-3.result (Becomes (codes "SQL_ASCII")) (encoding letters)
    (second (bytes_eq (codes "utf8") letters || bytes_eq (codes "unicode") letters) (bytes_eq (codes "sqlascii") letters) (Becomes (codes "UTF8")) (Becomes (codes "SQL_ASCII")) (cond (is_encoding letters) Unsupported Invalid)
    not_utf8 (sym c.is_same-2.ensures ∙ c.if-is_same-3.true))
    c.becomes-then-is_same-3.ensures

pub returns-then-is_encoding : goal.returns-then-is_encoding
returns-then-is_encoding c =
    let letters : List ℕ = c.args.letters.now in
    let not_utf8 = or_from (bytes_eq (codes "utf8") letters) (bytes_eq (codes "unicode") letters) (sym c.is_same.ensures ∙ c.if-is_same.false) (sym c.is_same-else-is_same.ensures ∙ c.if-is_same-2.false) in
    third (bytes_eq (codes "utf8") letters || bytes_eq (codes "unicode") letters) (bytes_eq (codes "sqlascii") letters) (is_encoding letters) (Becomes (codes "UTF8")) (Becomes (codes "SQL_ASCII")) Unsupported Invalid
    not_utf8 (sym c.is_same-2.ensures ∙ c.if-is_same-3.false) (sym c.is_encoding.ensures ∙ c.if-is_encoding.true)

pub returns : goal.returns
returns c =
    let letters : List ℕ = c.args.letters.now in
    let not_utf8 = or_from (bytes_eq (codes "utf8") letters) (bytes_eq (codes "unicode") letters) (sym c.is_same.ensures ∙ c.if-is_same.false) (sym c.is_same-else-is_same.ensures ∙ c.if-is_same-2.false) in
    last (bytes_eq (codes "utf8") letters || bytes_eq (codes "unicode") letters) (bytes_eq (codes "sqlascii") letters) (is_encoding letters) (Becomes (codes "UTF8")) (Becomes (codes "SQL_ASCII")) Unsupported Invalid
    not_utf8 (sym c.is_same-2.ensures ∙ c.if-is_same-3.false) (sym c.is_encoding.ensures ∙ c.if-is_encoding.false)
