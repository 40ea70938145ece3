-- How far lines lead.
use Rattle.std.proofs.Common.{◌≡◌, ℕ, List, [], ◌∷◌, ◌++◌, sym, ◌∙◌, refl, subst}
use Rattle.pgn_language.specs.declared.scenario.Scenario.{Scenario}
use Rattle.pgn_form.specs.declared.place.Place.{Place}
use Rattle.pgn_form.specs.Places.{IsStep, Lead}
use Rattle.pgn_form.proofs.StepLaws.{step_once}

-- one line more
pub lead_on : (scenario : Scenario) (from place next : Place) (before : List (List ℕ)) (line : List ℕ) → Lead scenario from before place → IsStep scenario place line next → Lead scenario from (before ++ line ∷ []) next
lead_on scenario from place next [] line h s = (next, subst (λ (p : Place). IsStep scenario p line next) (sym h) s, refl)
lead_on scenario from place next (first ∷ before) line h s = (h.0, h.1, lead_on scenario h.0 place next before line h.2 s)

-- lines and then others
pub lead_both : (scenario : Scenario) (from place next : Place) (front rest : List (List ℕ)) → Lead scenario from front place → Lead scenario place rest next → Lead scenario from (front ++ rest) next
lead_both scenario from place next [] rest h k = subst (λ (p : Place). Lead scenario p rest next) (sym h) k
lead_both scenario from place next (line ∷ front) rest h k = (h.0, h.1, lead_both scenario h.0 place next front rest h.2 k)

-- where the first of them lead
pub lead_front : (scenario : Scenario) (from last : Place) (front rest : List (List ℕ)) → Lead scenario from (front ++ rest) last → (place : Place) × Lead scenario from front place × Lead scenario place rest last
lead_front scenario from last [] rest h = (from, refl, h)
lead_front scenario from last (line ∷ front) rest h =
    let behind = lead_front scenario h.0 last front rest h.2 in
    (behind.0, (h.0, h.1, behind.1), behind.2)

-- lines lead to one place at most
pub lead_once : (scenario : Scenario) (from a b : Place) (lines : List (List ℕ)) → Lead scenario from lines a → Lead scenario from lines b → a ≡ b
lead_once scenario from a b [] h k = sym h ∙ k
lead_once scenario from a b (line ∷ lines) h k =
    let same : k.0 ≡ h.0 = step_once scenario from k.0 h.0 line k.1 h.1 in
    lead_once scenario h.0 a b lines h.2 (subst (λ (p : Place). Lead scenario p lines b) same k.2)

-- where they lead to a place from which a line leads nowhere, they and the line lead nowhere
pub lead_nowhere : (scenario : Scenario) (from place last : Place) (before : List (List ℕ)) (line : List ℕ) → Lead scenario from before place → ((next : Place) → IsStep scenario place line next → ⊥)
    → Lead scenario from (before ++ line ∷ []) last → ⊥
lead_nowhere scenario from place last before line h none k =
    let apart = lead_front scenario from last before (line ∷ []) k in
    let same : apart.0 ≡ place = lead_once scenario from apart.0 place before apart.1 h in
    none apart.2.0 (subst (λ (p : Place). IsStep scenario p line apart.2.0) same apart.2.1)
