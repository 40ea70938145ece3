use Rattle.std.proofs.Common.{◌≡◌, ℕ, [], ◌∷◌, ap, refl, arith, rules}
use Rattle.std.proofs.lemmas.List.Elements.{All-contains_itself}
use Rattle.pgn_part_examples.proofs.HubLemmas.{no_page, larger_no_page, only}
use Rattle.pgn_part_examples.proofs.hub.full.Goals as goal

pub returns-clause-met : goal.returns-clause-met
returns-clause-met c = record {
  more = [];
  named = (1, 3) ∷ (1, 3) ∷ [];
  number = refl;
  known = refl;
  no_page = no_page;
  looked = search rules;
  floor = search rules;
  met = search rules;
}

pub returns-clause-both_listen : goal.returns-clause-both_listen
returns-clause-both_listen c = record {
  more = [];
  named = (1, 3) ∷ (2, 3) ∷ (1, 3) ∷ (2, 3) ∷ [];
  number = refl;
  known = refl;
  no_page = no_page;
  looked = search rules;
  floor = search rules;
  met = All-contains_itself ((1, 3) ∷ (2, 3) ∷ (1, 3) ∷ (2, 3) ∷ []);
}

pub returns-clause-nobody_listens : goal.returns-clause-nobody_listens
returns-clause-nobody_listens c = record {
  more = [];
  named = [];
  number = refl;
  known = refl;
  no_page = larger_no_page;
  looked = search rules;
  floor = search rules;
  met = search rules;
}

pub returns-clause-floor_of_the_second_look : goal.returns-clause-floor_of_the_second_look
returns-clause-floor_of_the_second_look c h = omega (arith, h.floor.least 0 (1, 3) (omega arith))

pub returns-clause-not_met_first : goal.returns-clause-not_met_first
returns-clause-not_met_first c h =
    let same : 1 ≡ 2 = ap (λ (pair : ℕ × ℕ). pair.0) (only (1, 3) (2, 3) h.looked.own_met.0) in
    omega (arith, same)

pub returns-clause-not_met_second : goal.returns-clause-not_met_second
returns-clause-not_met_second c h =
    let same : 1 ≡ 2 = ap (λ (pair : ℕ × ℕ). pair.0) (only (1, 3) (2, 3) h.looked.own_met.1) in
    omega (arith, same)
