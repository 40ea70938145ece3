-- What the refused runs need: tests that compute, for what a lawful run holds of its flags and holders.
use Rattle.std.proofs.Common.{◌≡◌, ℕ, Bool, true, ◌&&◌, nat_eq, eq-eqb, List, [], ◌∷◌, ◌++◌, fold, ap, ◌∙◌, refl}
use Rattle.std.specs.Prelude.{Contains, flat_map}
use Rattle.std.specs.List.{list_any}
use Rattle.std.proofs.lemmas.Bool.{and_from}
use Rattle.std.proofs.lemmas.List.Folds.{list_any_at}
use Rattle.pgn_journal.specs.declared.tx.Tx.{Tx}
use Rattle.pgn_model.specs.declared.item.Item.{Item}
use Rattle.pgn_model.specs.Along.{Along}
use Rattle.pgn_model.specs.Walk.{Terms, start, after_item, Allowed}
use Rattle.pgn_model.specs.Trace.{IsLawful, state_after}
use Rattle.pgn_model.specs.Legal.{End, WasRaised, StoodAt}
use Rattle.pgn_examples.proofs.RunSteps.{same_pair, stood_at}

Along-at : {S I : Type 0} (next : S → I → S) (P : S → I → Type 0) (s : S) (front : List I) (item : I) (rest : List I) → Along next P s (front ++ item ∷ rest) → P (fold next s front) item
Along-at next P s [] item rest h = h.0
Along-at next P s (i ∷ front) item rest h = Along-at next P (next s i) front item rest h.1

-- an item of a lawful trace is allowed in the state before it
pub allowed_at : (terms : Terms) (journal : List Tx) (front : List Item) (item : Item) (rest : List Item) → IsLawful terms journal (front ++ item ∷ rest) → Allowed terms journal (state_after terms front) item
allowed_at terms journal front item rest h = Along-at after_item (Allowed terms journal) (start terms.section) front item rest h

found-test : {X : Type 0} (same : X → X → Bool) → ((x : X) → same x x ≡ true) → (xs : List X) (x : X) → Contains xs x → list_any (same x) xs ≡ true
found-test same f xs x h = list_any_at (same x) xs h.0 x h.1 (ap (same x) h.2 ∙ f x)

nat_same : (n : ℕ) → nat_eq n n ≡ true
nat_same n = eq-eqb n n refl

-- a number with which a flag was raised passes the test
pub raised-test : (all : List End) (pair : ℕ × ℕ) → WasRaised all pair → list_any (same_pair pair) (flat_map (λ end. end.state.raised) all) ≡ true
raised-test all pair h =
    found-test same_pair (λ (p : ℕ × ℕ). and_from (nat_eq p.0 p.0) (nat_eq p.1 p.1) (nat_same p.0) (nat_same p.1)) (flat_map (λ (end : End). end.state.raised) all) pair h

-- a session that stood at a mark passes the test
pub stood-test : (all : List End) (pair : ℕ × ℕ) → StoodAt all pair → stood_at all pair ≡ true
stood-test all pair h =
    let test = λ (end : End). nat_eq end.session pair.0 && list_any (nat_eq pair.1) end.state.marks in
    let here = and_from (nat_eq h.1.session pair.0) (list_any (nat_eq pair.1) h.1.state.marks) (eq-eqb h.1.session pair.0 h.4.0) (found-test nat_eq nat_same h.1.state.marks pair.1 h.4.1) in
    list_any_at test all h.0 h.1 h.2 (ap test h.3 ∙ here)
