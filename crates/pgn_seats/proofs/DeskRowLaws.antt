-- Desks whose numbers follow one another, in two parts, and as their sessions go on.
use Rattle.std.proofs.Common.{◌≡◌, ◌≢◌, ℕ, ◌+◌, ◌<◌, ◌≤◌, List, [], ◌∷◌, ◌++◌, length, All, sym, ap, ◌∙◌, refl, subst, arith}
use Rattle.std.proofs.lemmas.List.Elements.{All-nil, All-cons, All-head, All-tail}
use Rattle.pgn_language.specs.declared.scenario.Section.{Section}
use Rattle.pgn_language.specs.Inputs.{AreNumbered}
use Rattle.pgn_session.specs.declared.session.Session.{Session}
use Rattle.pgn_session.specs.Open.{IsSameClient}
use Rattle.pgn_session.proofs.OpenLaws.{same-client}
use Rattle.pgn_seats.specs.declared.desk.Desk.{Desk}
use Rattle.pgn_seats.specs.Desks.{AreSameClients, sections_of}
use Rattle.pgn_seats.specs.Workers.{IsNoneOf}

-- what holds of each of some, where two things do
pub both-hold : {X : Type 0} (A B D : X → Type 0) → ((x : X) → A x → B x → D x) → (xs : List X) → All A xs → All B xs → All D xs
both-hold A B D step [] a b = All-nil D
both-hold A B D step (x ∷ xs) a b = All-cons D x xs (step x (All-head A x xs a) (All-head B x xs b)) (both-hold A B D step xs (All-tail A x xs a) (All-tail B x xs b))

-- what holds of all holds of the first ones
pub all-first : {X : Type 0} (P : X → Type 0) (xs ys : List X) → All P (xs ++ ys) → All P xs
all-first P [] ys all = All-nil P
all-first P (x ∷ xs) ys all = All-cons P x xs (All-head P x (xs ++ ys) all) (all-first P xs ys (All-tail P x (xs ++ ys) all))

-- and of those behind them
pub all-rest : {X : Type 0} (P : X → Type 0) (xs ys : List X) → All P (xs ++ ys) → All P ys
all-rest P [] ys all = all
all-rest P (x ∷ xs) ys all = all-rest P xs ys (All-tail P x (xs ++ ys) all)

module _ {P : Type 0} where
  -- the numbers of two parts
  pub row-front : (n : ℕ) (xs ys : List (Desk P)) → AreNumbered n (sections_of (xs ++ ys)) → AreNumbered n (sections_of xs)
  row-front n [] ys h = tt
  row-front n (x ∷ xs) ys h = (h.0, row-front (n + 1) xs ys h.1)

  -- the desks behind others are numbered behind them
  pub row-behind : (n k : ℕ) (xs ys : List (Desk P)) → k ≡ n + length xs → AreNumbered n (sections_of (xs ++ ys)) → AreNumbered k (sections_of ys)
  row-behind n k [] ys is h = let e : n ≡ k = omega (arith, is) in subst (λ (m : ℕ). AreNumbered m (sections_of ys)) e h
  row-behind n k (x ∷ xs) ys is h = row-behind (n + 1) k xs ys (omega (arith, is)) h.1

  -- what holds of each desk, by its number
  pub by-number : (n : ℕ) (xs : List (Desk P)) (Q R : Desk P → Type 0) → AreNumbered n (sections_of xs)
      → ((d : Desk P) → n ≤ d.session.section.no → d.session.section.no < n + length xs → Q d → R d) → All Q xs → All R xs
  by-number n [] Q R numbered step all = All-nil R
  by-number n (x ∷ xs) Q R numbered step all =
      let is : x.session.section.no ≡ n = numbered.0 in
      All-cons R x xs (step x (omega (arith, is)) (omega (arith, is)) (All-head Q x xs all))
      (by-number (n + 1) xs Q R numbered.1 (λ d low high q. step d (omega (arith, low)) (omega (arith, high)) q) (All-tail Q x xs all))

  -- what holds of all desks with the numbers of a row holds of each desk of it
  pub each-numbered : (n : ℕ) (xs : List (Desk P)) (R : Desk P → Type 0) → AreNumbered n (sections_of xs)
      → ((d : Desk P) → n ≤ d.session.section.no → d.session.section.no < n + length xs → R d) → All R xs
  each-numbered n xs R numbered step = by-number n xs (λ d. Unit {0}) R numbered (λ d low high q. step d low high) (λ k d less. tt)

  -- a number before the first of them or behind the last is none of theirs
  pub none-before : (n m : ℕ) (xs : List (Desk P)) → AreNumbered n (sections_of xs) → m < n → IsNoneOf m xs
  none-before n m xs numbered less = each-numbered n xs (λ d. d.session.section.no ≢ m) numbered (λ d low high e. omega (arith, less, low, e))

  -- a number behind a row is none of its desks'
  pub none-behind : (n m : ℕ) (xs : List (Desk P)) → AreNumbered n (sections_of xs) → n + length xs ≤ m → IsNoneOf m xs
  none-behind n m xs numbered more = each-numbered n xs (λ d. d.session.section.no ≢ m) numbered (λ d low high e. omega (arith, more, high, e))

  -- the same clients, desk by desk
  pub clients-none : (xs : List (Desk P)) → AreSameClients xs xs
  clients-none [] = tt
  clients-none (x ∷ xs) = (record { section = refl; plan = refl; patience = refl }, clients-none xs)

  -- the clients are the same after one step and then another
  pub clients-on : (xs ys zs : List (Desk P)) → AreSameClients xs ys → AreSameClients ys zs → AreSameClients xs zs
  clients-on [] [] zs f g = g
  clients-on [] (y ∷ ys) zs f g = absurd f
  clients-on (x ∷ xs) [] zs f g = absurd f
  clients-on (x ∷ xs) (y ∷ ys) [] f g = absurd g
  clients-on (x ∷ xs) (y ∷ ys) (z ∷ zs) f g = (same-client x.session y.session z.session f.0 g.0, clients-on xs ys zs f.1 g.1)

  -- and of two rows together
  pub clients-both : (xs ys us vs : List (Desk P)) → AreSameClients xs us → AreSameClients ys vs → AreSameClients (xs ++ ys) (us ++ vs)
  clients-both [] ys [] vs f g = g
  clients-both [] ys (u ∷ us) vs f g = absurd f
  clients-both (x ∷ xs) ys [] vs f g = absurd f
  clients-both (x ∷ xs) ys (u ∷ us) vs f g = (f.0, clients-both xs ys us vs f.1 g)

  same-number : (x y : Session P) → IsSameClient x y → y.section.no ≡ x.section.no
  same-number x y same = ap (λ (s : Section). s.no) same.section

  -- they are as many
  pub clients-count : (xs ys : List (Desk P)) → AreSameClients xs ys → length ys ≡ length xs
  clients-count [] [] f = refl
  clients-count [] (y ∷ ys) f = absurd f
  clients-count (x ∷ xs) [] f = absurd f
  clients-count (x ∷ xs) (y ∷ ys) f = let rest : length ys ≡ length xs = clients-count xs ys f.1 in omega (arith, rest)

  -- and numbered as before
  pub clients-numbered : (n : ℕ) (xs ys : List (Desk P)) → AreSameClients xs ys → AreNumbered n (sections_of xs) → AreNumbered n (sections_of ys)
  clients-numbered n [] [] f h = tt
  clients-numbered n [] (y ∷ ys) f h = absurd f
  clients-numbered n (x ∷ xs) [] f h = absurd f
  clients-numbered n (x ∷ xs) (y ∷ ys) f h = (same-number x.session y.session f.0 ∙ h.0, clients-numbered (n + 1) xs ys f.1 h.1)

  -- what holds of their numbers
  pub clients-all : (Q : ℕ → Type 0) (xs ys : List (Desk P)) → AreSameClients xs ys → All (λ d. Q d.session.section.no) xs → All (λ d. Q d.session.section.no) ys
  clients-all Q [] [] f h = All-nil (λ (d : Desk P). Q d.session.section.no)
  clients-all Q [] (y ∷ ys) f h = absurd f
  clients-all Q (x ∷ xs) [] f h = absurd f
  clients-all Q (x ∷ xs) (y ∷ ys) f h =
      All-cons (λ (d : Desk P). Q d.session.section.no) y ys (subst Q (sym (same-number x.session y.session f.0)) (All-head (λ (d : Desk P). Q d.session.section.no) x xs h))
      (clients-all Q xs ys f.1 (All-tail (λ (d : Desk P). Q d.session.section.no) x xs h))
