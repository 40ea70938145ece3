-- Sessions whose numbers follow one another, in two parts.
use Rattle.std.proofs.Common.{◌≡◌, ◌≢◌, ℕ, ◌+◌, ◌<◌, ◌≤◌, List, [], ◌∷◌, ◌++◌, length, map, All, sym, ap, ◌∙◌, refl, subst, arith}
use Rattle.std.proofs.lemmas.List.{map-append}
use Rattle.std.proofs.lemmas.List.Elements.{All-nil, All-cons, All-head, All-tail}
use Rattle.pgn_language.specs.declared.scenario.Section.{Section}
use Rattle.pgn_language.specs.Inputs.{AreNumbered}
use Rattle.pgn_session.specs.declared.session.Session.{Session}
use Rattle.pgn_session.specs.Runs.{Script, script_of}
use Rattle.pgn_live.specs.Playing.{sections_of}
use Rattle.pgn_live.specs.Turns.{IsNoneOf}

-- numbers of sections in a row, the first ones and those behind them
numbered-front : (n : ℕ) (xs ys : List Section) → AreNumbered n (xs ++ ys) → AreNumbered n xs
numbered-front n [] ys h = tt
numbered-front n (x ∷ xs) ys h = (h.0, numbered-front (n + 1) xs ys h.1)

numbered-behind : (n k : ℕ) (xs ys : List Section) → k ≡ n + length xs → AreNumbered n (xs ++ ys) → AreNumbered k ys
numbered-behind n k [] ys is h = let e : n ≡ k = omega (arith, is) in subst (λ (m : ℕ). AreNumbered m ys) e h
numbered-behind n k (x ∷ xs) ys is h = numbered-behind (n + 1) k xs ys (omega (arith, is)) h.1

-- what holds of each of two lists that are joined
pub All-front : {X : Type 0} (Q : X → Type 0) (xs ys : List X) → All Q (xs ++ ys) → All Q xs
All-front Q [] ys h = All-nil Q
All-front Q (x ∷ xs) ys h = All-cons Q x xs (All-head Q x (xs ++ ys) h) (All-front Q xs ys (All-tail Q x (xs ++ ys) h))

-- what holds of all holds of those behind the first ones
pub All-behind : {X : Type 0} (Q : X → Type 0) (xs ys : List X) → All Q (xs ++ ys) → All Q ys
All-behind Q [] ys h = h
All-behind Q (x ∷ xs) ys h = All-behind Q xs ys (All-tail Q x (xs ++ ys) h)

module _ {P : Type 0} where
  length-sections : (xs : List (Session P)) → length (sections_of xs) ≡ length xs
  length-sections [] = refl
  length-sections (x ∷ xs) = let rest : length (sections_of xs) ≡ length xs = length-sections xs in omega (arith, rest)

  -- the numbers of two parts
  pub row-front : (n : ℕ) (xs ys : List (Session P)) → AreNumbered n (sections_of (xs ++ ys)) → AreNumbered n (sections_of xs)
  row-front n xs ys h = numbered-front n (sections_of xs) (sections_of ys) (subst (AreNumbered n) (map-append (λ (s : Session P). s.section) xs ys) h)

  -- the numbers of those behind go on where the first ones end
  pub row-behind : (n k : ℕ) (xs ys : List (Session P)) → k ≡ n + length xs → AreNumbered n (sections_of (xs ++ ys)) → AreNumbered k (sections_of ys)
  row-behind n k xs ys is h =
      numbered-behind n k (sections_of xs) (sections_of ys) (omega (arith, is, length-sections xs)) (subst (AreNumbered n) (map-append (λ (s : Session P). s.section) xs ys) h)

  -- what holds of each session, by its number
  pub by_number : (n : ℕ) (xs : List (Session P)) (Q R : Session P → Type 0) → AreNumbered n (sections_of xs) → ((s : Session P) → n ≤ s.section.no → s.section.no < n + length xs → Q s → R s) → All Q xs → All R xs
  by_number n [] Q R numbered step all = All-nil R
  by_number n (x ∷ xs) Q R numbered step all =
      let is : x.section.no ≡ n = numbered.0 in
      All-cons R x xs (step x (omega (arith, is)) (omega (arith, is)) (All-head Q x xs all))
      (by_number (n + 1) xs Q R numbered.1 (λ s low high q. step s (omega (arith, low)) (omega (arith, high)) q) (All-tail Q x xs all))

  -- what holds of each number in a row holds of each of its sessions
  pub each_numbered : (n : ℕ) (xs : List (Session P)) (R : Session P → Type 0) → AreNumbered n (sections_of xs) → ((s : Session P) → n ≤ s.section.no → s.section.no < n + length xs → R s) → All R xs
  each_numbered n [] R numbered step = All-nil R
  each_numbered n (x ∷ xs) R numbered step =
      let is : x.section.no ≡ n = numbered.0 in
      All-cons R x xs (step x (omega (arith, is)) (omega (arith, is))) (each_numbered (n + 1) xs R numbered.1 (λ s low high. step s (omega (arith, low)) (omega (arith, high))))

  -- a number before the first of them or behind the last is none of theirs
  pub none-before : (n m : ℕ) (xs : List (Session P)) → AreNumbered n (sections_of xs) → m < n → IsNoneOf m xs
  none-before n m xs numbered less = each_numbered n xs (λ s. s.section.no ≢ m) numbered (λ s low high e. omega (arith, less, low, e))

  -- a number behind a row is none of its sessions'
  pub none-behind : (n m : ℕ) (xs : List (Session P)) → AreNumbered n (sections_of xs) → n + length xs ≤ m → IsNoneOf m xs
  none-behind n m xs numbered more = each_numbered n xs (λ s. s.section.no ≢ m) numbered (λ s low high e. omega (arith, more, high, e))

  -- sessions with the same scripts
  pub sections-same : (old new : List (Session P)) → map script_of new ≡ map script_of old → sections_of new ≡ sections_of old
  sections-same old new e = sym (of_scripts new) ∙ ap (λ (l : List Script). map (λ s. s.section) l) e ∙ of_scripts old
    where
      of_scripts : (xs : List (Session P)) → map (λ (s : Script). s.section) (map script_of xs) ≡ sections_of xs
      of_scripts [] = refl
      of_scripts (x ∷ xs) = ap (λ (l : List Section). x.section ∷ l) (of_scripts xs)

  -- the scripts of two parts that kept theirs
  pub both-scripts : (left left_new right right_new : List (Session P)) → map script_of left_new ≡ map script_of left → map script_of right_new ≡ map script_of right → map script_of (left_new ++ right_new) ≡ map script_of (left ++ right)
  both-scripts left left_new right right_new l r =
      map-append (λ (s : Session P). script_of s) left_new right_new
      ∙ ap (λ (scripts : List Script). scripts ++ map script_of right_new) l
      ∙ ap (λ (scripts : List Script). map script_of left ++ scripts) r
      ∙ sym (map-append (λ (s : Session P). script_of s) left right)

  -- who has the same scripts are as many
  pub same-length : (old new : List (Session P)) → map script_of new ≡ map script_of old → length new ≡ length old
  same-length old new e = sym (length-sections new) ∙ ap (λ (l : List Section). length l) (sections-same old new e) ∙ length-sections old

  -- a number that no session had, none has that kept their scripts
  pub none-still : (m : ℕ) (old new : List (Session P)) → map script_of new ≡ map script_of old → IsNoneOf m old → IsNoneOf m new
  none-still m old new e none = of_sections new (subst (λ (l : List Section). All (λ x. x.no ≢ m) l) (sym (sections-same old new e)) (to_sections old none))
    where
      to_sections : (xs : List (Session P)) → IsNoneOf m xs → All (λ (x : Section). x.no ≢ m) (sections_of xs)
      to_sections [] h = All-nil (λ (x : Section). x.no ≢ m)
      to_sections (x ∷ xs) h = All-cons (λ (y : Section). y.no ≢ m) x.section (sections_of xs) (All-head (λ (s : Session P). s.section.no ≢ m) x xs h) (to_sections xs (All-tail (λ (s : Session P). s.section.no ≢ m) x xs h))

      of_sections : (xs : List (Session P)) → All (λ (x : Section). x.no ≢ m) (sections_of xs) → IsNoneOf m xs
      of_sections [] h = All-nil (λ (s : Session P). s.section.no ≢ m)
      of_sections (x ∷ xs) h = All-cons (λ (s : Session P). s.section.no ≢ m) x xs (All-head (λ (y : Section). y.no ≢ m) x.section (sections_of xs) h) (of_sections xs (All-tail (λ (y : Section). y.no ≢ m) x.section (sections_of xs) h))
