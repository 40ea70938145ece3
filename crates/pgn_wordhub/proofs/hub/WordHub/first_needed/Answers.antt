use Rattle.std.proofs.Common.{◌≡◌, ℕ, List, [], ◌∷◌, Some, unwrap_or, slice_get, ap, ◌∙◌}
use Rattle.pgn_lanes.specs.Least.{plain_least, least_with}
use Rattle.pgn_lanes.proofs.LeastLaws.{plain_least-start}
use Rattle.pgn_wordhub.proofs.hub.WordHub.first_needed.Goals as goal

-- the least is taken with the first
needed : (places : List ℕ) (tail : ℕ) → slice_get places 0 ≡ Some tail → unwrap_or (plain_least places) tail ≡ least_with tail places
needed [] tail is = absurd (cc)
needed (p ∷ places) tail is =
    let same : p ≡ tail = cc in
    ap (λ o. unwrap_or o tail) (plain_least-start p places) ∙ ap (λ n. least_with n (p ∷ places)) same

pub returns : goal.returns
returns c = c.new.ensures ∙ c.unwrap_or.ensures ∙ ap (λ o. unwrap_or o c.get.result) c.least.ensures ∙ ap (unwrap_or (plain_least c.args.places.now)) c.get.ensures.value ∙ needed c.args.places.now c.args.tail c.requires
