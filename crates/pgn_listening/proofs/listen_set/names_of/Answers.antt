use Rattle.std.proofs.Common.{◌≡◌, ℕ, ◌+◌, List, [], ◌∷◌, ◌++◌, Option, sym, ap, ◌∙◌, take}
use Rattle.std.proofs.lemmas.List.{take_more}
use Rattle.pgn_listening.specs.Listening.{listed}
use Rattle.pgn_listening.proofs.ListeningLaws.{listed-append}
use Rattle.pgn_listening.proofs.listen_set.names_of.Goals as goal

pub loop-place-preserved : goal.loop-place-preserved
loop-place-preserved c =
    let places = c.args.places.now in
    let at = c.loop-place.place-index in
    let place = c.place-item.result in
    let more : take (at + 1) places ≡ take at places ++ place ∷ [] = take_more places at place c.loop-place-test.true ∙ ap (λ (o : Option (List ℕ)). take at places ++ o ∷ []) (sym c.place-item.is) in
    c.in_ok-push_name.ensures ∙ ap (λ (names : List (List ℕ)). names ++ listed (place ∷ [])) c.loop-place.invariant
    ∙ sym (ap listed more ∙ listed-append (take at places) (place ∷ []))
