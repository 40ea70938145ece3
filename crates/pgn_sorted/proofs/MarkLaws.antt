-- The lines of a session are those behind its mark.
use Rattle.std.proofs.Common.{◌≡◌, ℕ, ◌^◌, ◌<◌, ◌⊎◌, inl, inr, Bool, true, false, cond, ◌&&◌, nat_le, ◌==◌, not, List, [], ◌∷◌, ◌++◌, length, get_or, map, filter, filter_map, codes, decimal, Option, None, Some, sym, ap, ◌∙◌, refl, subst, arith, append_assoc, eqb-true, eq-eqb}
use Rattle.std.specs.Prelude.{All, flat_map}
use Rattle.std.specs.Int.{IsInRange}
use Rattle.std.specs.List.{cons_option}
use Rattle.std.proofs.lemmas.Bool.{false≢true, eqb-false, and_from, le-leb}
use Rattle.std.proofs.lemmas.Fmt.{decimal_injective, decimal_nonempty}
use Rattle.std.proofs.lemmas.List.Concat.{flat_map-append}
use Rattle.std.proofs.lemmas.List.Elements.{All-nil, All-cons, All-head, All-tail, All-append, All-map, filter_map-append}
use Rattle.std.proofs.lemmas.Option.{same_Some, none-some}
use Rattle.pgn_language.specs.declared.scenario.ScriptLine.{ScriptLine}
use Rattle.pgn_language.specs.declared.scenario.Section.{Section}
use Rattle.pgn_model.specs.declared.item.Item.{Item}
use Rattle.pgn_model.specs.Text.{item_lines}
use Rattle.pgn_reading.proofs.FieldLaws.{AreDigits, digits-decimal}
use Rattle.pgn_text.specs.Rendering.{mark_of, marked, marked_items, lines_of}
use Rattle.pgn_live.specs.Cames.{Came, items_in, items_of}
use Rattle.pgn_live.specs.Lives.{came_lines}
use Rattle.pgn_sorted.specs.Sorting.{behind, lines_from, is_marked}

-- A line and what begins it.

behind-start : (start rest : List ℕ) → behind start (start ++ rest) ≡ Some rest
behind-start [] rest = refl
behind-start (byte ∷ start) rest = ap (λ (b : Bool). cond b (behind start (start ++ rest)) None) (eq-eqb byte byte refl) ∙ behind-start start rest

behind-is : (start line rest : List ℕ) → behind start line ≡ Some rest → line ≡ start ++ rest
behind-is [] line rest e = same_Some line rest e
behind-is (byte ∷ start) [] rest e = absurd (none-some rest e)
behind-is (byte ∷ start) (first ∷ line) rest e = by (first == byte) refl (λ h. behind-is start line rest h) e
  where
    by : (b : Bool) → (first == byte) ≡ b → (behind start line ≡ Some rest → line ≡ start ++ rest) → cond b (behind start line) None ≡ Some rest → first ∷ line ≡ byte ∷ (start ++ rest)
    by true is later e =
        let head : first ≡ byte = eqb-true first byte is in
        let tail : line ≡ start ++ rest = later e in
        cc
    by false is later e = absurd (none-some rest e)

behind-none : (start line : List ℕ) → ((rest : List ℕ) → line ≡ start ++ rest → ⊥) → behind start line ≡ None
behind-none start line h = by (behind start line) refl
  where
    by : (o : Option (List ℕ)) → behind start line ≡ o → o ≡ None
    by None e = refl
    by (Some rest) e = absurd (h rest (behind-is start line rest e))

-- Marks.

-- digits end at a bar
digits-end : (xs ys rest more : List ℕ) → AreDigits xs → AreDigits ys → xs ++ 124 ∷ rest ≡ ys ++ 124 ∷ more → xs ≡ ys
digits-end [] [] rest more dx dy e = refl
digits-end [] (y ∷ ys) rest more dx dy e = let same : 124 ≡ y = cc in absurd (omega (arith, same, dy.0))
digits-end (x ∷ xs) [] rest more dx dy e = let same : x ≡ 124 = cc in absurd (omega (arith, same, dx.0))
digits-end (x ∷ xs) (y ∷ ys) rest more dx dy e =
    let first : x ≡ y = cc in
    let tail : xs ++ 124 ∷ rest ≡ ys ++ 124 ∷ more = cc in
    let others : xs ≡ ys = digits-end xs ys rest more dx.1 dy.1 tail in
    cc

-- the line behind another session's mark is none of this session
other-mark : (m n : ℕ) (line : List ℕ) → m < 2 ^ 64 → n < 2 ^ 64 → (m ≡ n → ⊥) → behind (mark_of (Some n)) (mark_of (Some m) ++ line) ≡ None
other-mark m n line hm hn apart =
    behind-none (mark_of (Some n)) (mark_of (Some m) ++ line)
    (λ rest e.
    apart (decimal_injective m n hm hn (digits-end (decimal m) (decimal n) (32 ∷ line) (32 ∷ rest) (digits-decimal m hm) (digits-decimal n hn)
    (sym (append_assoc (decimal m) (codes "| ") line) ∙ e ∙ append_assoc (decimal n) (codes "| ") rest))))

-- a mark begins with a digit
pub marked-mark : (n : ℕ) (line : List ℕ) → n < 2 ^ 64 → is_marked (mark_of (Some n) ++ line) ≡ true
marked-mark n line h = by (decimal n) (decimal_nonempty n h) (digits-decimal n h)
  where
    digit : (b : ℕ) → IsInRange 48 57 b → (nat_le 48 b && nat_le b 57) ≡ true
    digit b h = and_from (nat_le 48 b) (nat_le b 57) (le-leb 48 b h.0) (le-leb b 57 h.1)

    by : (bytes : List ℕ) → 0 < length bytes → AreDigits bytes → is_marked ((bytes ++ codes "| ") ++ line) ≡ true
    by [] some digits = absurd (omega (arith, some))
    by (b ∷ bytes) some digits = digit b digits.0

-- a line that begins with none is no session's
pub unmarked-none : (n : ℕ) (line : List ℕ) → n < 2 ^ 64 → is_marked line ≡ false → behind (mark_of (Some n)) line ≡ None
unmarked-none n line h none = behind-none (mark_of (Some n)) line (λ rest e. false≢true (sym none ∙ ap (λ (bytes : List ℕ). is_marked bytes) e ∙ marked-mark n rest h))

-- Lists of lines.

-- nothing is left of lines none of which is kept
pub none-kept : (f : List ℕ → Option (List ℕ)) (lines : List (List ℕ)) → All (λ line. f line ≡ None) lines → filter_map f lines ≡ []
none-kept f [] h = refl
none-kept f (line ∷ lines) h =
    ap (λ (o : Option (List ℕ)). cons_option o (filter_map f lines)) (All-head (λ line. f line ≡ None) line lines h) ∙ none-kept f lines (All-tail (λ line. f line ≡ None) line lines h)

all-behind : (start : List ℕ) (lines : List (List ℕ)) → filter_map (behind start) (map (λ line. start ++ line) lines) ≡ lines
all-behind start [] = refl
all-behind start (line ∷ lines) =
    ap (λ (o : Option (List ℕ)). cons_option o (filter_map (behind start) (map (λ line. start ++ line) lines))) (behind-start start line) ∙ ap (λ (rest : List (List ℕ)). let all : List (List ℕ) = line ∷ rest in all) (all-behind start lines)

-- without its marked lines a list of marked lines is empty
pub none-left : (lines : List (List ℕ)) → All (λ line. is_marked line ≡ true) lines → filter (λ line. not (is_marked line)) lines ≡ []
none-left [] h = refl
none-left (line ∷ lines) h =
    ap (λ (b : Bool). cond (not b) (line ∷ filter (λ line. not (is_marked line)) lines) (filter (λ line. not (is_marked line)) lines)) (All-head (λ line. is_marked line ≡ true) line lines h)
    ∙ none-left lines (All-tail (λ line. is_marked line ≡ true) line lines h)

-- without its marked lines a list that has none is as it was
pub all-left : (lines : List (List ℕ)) → All (λ line. is_marked line ≡ false) lines → filter (λ line. not (is_marked line)) lines ≡ lines
all-left [] h = refl
all-left (line ∷ lines) h =
    ap (λ (b : Bool). cond (not b) (line ∷ filter (λ line. not (is_marked line)) lines) (filter (λ line. not (is_marked line)) lines)) (All-head (λ line. is_marked line ≡ false) line lines h)
    ∙ ap (λ (rest : List (List ℕ)). let all : List (List ℕ) = line ∷ rest in all) (all-left lines (All-tail (λ line. is_marked line ≡ false) line lines h))

-- what all elements of two lists have
pub all-parts : {A : Type 0} (P : A → Type 0) (xs ys : List A) → All P (xs ++ ys) → All P xs × All P ys
all-parts P [] ys h = (All-nil P, h)
all-parts P (x ∷ xs) ys h = let two = all-parts P xs ys (All-tail P x (xs ++ ys) h) in (All-cons P x xs (All-head P x (xs ++ ys) h) two.0, two.1)

-- The lines of items behind a mark.

-- what each line has for which P holds, behind the mark
pub all-marked : (P Q : List ℕ → Type 0) (n : ℕ) (lines : List ScriptLine) (items : List Item) → ((line : List ℕ) → P line → Q (mark_of (Some n) ++ line)) → All P (flat_map (item_lines lines) items) → All Q (marked_items (Some n) lines items)
all-marked P Q n lines [] each h = All-nil Q
all-marked P Q n lines (item ∷ items) each h =
    let two = all-parts P (item_lines lines item) (flat_map (item_lines lines) items) h in
    All-append Q (marked (Some n) (item_lines lines item)) (marked_items (Some n) lines items)
    (All-map Q (λ line. mark_of (Some n) ++ line) (item_lines lines item) (λ k d lt. each (get_or (item_lines lines item) k d) (two.0 k d lt)))
    (all-marked P Q n lines items each two.1)

mine : (n : ℕ) (lines : List ScriptLine) (items : List Item) → lines_from n (marked_items (Some n) lines items) ≡ flat_map (item_lines lines) items
mine n lines [] = refl
mine n lines (item ∷ items) =
    filter_map-append (behind (mark_of (Some n))) (marked (Some n) (item_lines lines item)) (marked_items (Some n) lines items)
    ∙ ap (λ (first : List (List ℕ)). first ++ lines_from n (marked_items (Some n) lines items)) (all-behind (mark_of (Some n)) (item_lines lines item))
    ∙ ap (λ (rest : List (List ℕ)). item_lines lines item ++ rest) (mine n lines items)

none-of_these : (m n : ℕ) (lines : List ScriptLine) (items : List Item) → m < 2 ^ 64 → n < 2 ^ 64 → (m ≡ n → ⊥) → lines_from n (marked_items (Some m) lines items) ≡ []
none-of_these m n lines items hm hn apart =
    none-kept (behind (mark_of (Some n))) (marked_items (Some m) lines items)
    (all-marked (λ line. Unit {0}) (λ line. behind (mark_of (Some n)) line ≡ None) m lines items (λ line h. other-mark m n line hm hn apart) (λ k d lt. tt))

-- What came.

-- nothing came of it, or its session is not numbered too high
abbrev pub IsFew : Came → Type 0
IsFew came = (came.session < 2 ^ 64) ⊎ (came.what ≡ [])

lines-of_one : (n : ℕ) (sections : List Section) (came : Came) → n < 2 ^ 64 → IsFew came → lines_from n (came_lines sections came) ≡ flat_map (item_lines (lines_of n sections)) (items_in n came)
lines-of_one n sections came hn few = by (came.session == n) refl few
  where
    by : (b : Bool) → (came.session == n) ≡ b → IsFew came → lines_from n (came_lines sections came) ≡ flat_map (item_lines (lines_of n sections)) (cond b came.what [])
    by true is h =
        subst (λ (m : ℕ). lines_from n (marked_items (Some m) (lines_of m sections) came.what) ≡ flat_map (item_lines (lines_of n sections)) came.what) (sym (eqb-true came.session n is))
        (mine n (lines_of n sections) came.what)
    by false is (inl low) = none-of_these came.session n (lines_of came.session sections) came.what low hn (eqb-false came.session n is)
    by false is (inr none) = ap (λ (items : List Item). lines_from n (marked_items (Some came.session) (lines_of came.session sections) items)) none

-- the lines of a session in a live output are those of the items that came of it
pub lines-of_all : (n : ℕ) (sections : List Section) (cames : List Came) → n < 2 ^ 64 → All IsFew cames → lines_from n (flat_map (came_lines sections) cames) ≡ flat_map (item_lines (lines_of n sections)) (items_of n cames)
lines-of_all n sections [] hn few = refl
lines-of_all n sections (came ∷ cames) hn few =
    filter_map-append (behind (mark_of (Some n))) (came_lines sections came) (flat_map (came_lines sections) cames)
    ∙ ap (λ (first : List (List ℕ)). first ++ lines_from n (flat_map (came_lines sections) cames)) (lines-of_one n sections came hn (All-head IsFew came cames few))
    ∙ ap (λ (rest : List (List ℕ)). flat_map (item_lines (lines_of n sections)) (items_in n came) ++ rest) (lines-of_all n sections cames hn (All-tail IsFew came cames few))
    ∙ sym (flat_map-append (item_lines (lines_of n sections)) (items_in n came) (items_of n cames))

-- the lines of one have what those of its items have behind its mark
pub all-of_one : (P Q : List ℕ → Type 0) (sections : List Section) (came : Came) → IsFew came → (came.session < 2 ^ 64 → (line : List ℕ) → P line → Q (mark_of (Some came.session) ++ line))
    → All P (flat_map (item_lines (lines_of came.session sections)) came.what) → All Q (came_lines sections came)
all-of_one P Q sections came (inl low) each h = all-marked P Q came.session (lines_of came.session sections) came.what (each low) h
all-of_one P Q sections came (inr none) each h =
    subst (λ (items : List Item). All Q (marked_items (Some came.session) (lines_of came.session sections) items)) (sym none) (All-nil Q)
