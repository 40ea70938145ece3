use Rattle.std.proofs.Common.{◌≡◌, ℕ, ◌+◌, List, [], ◌∷◌, ◌++◌, Option, sym, ap, subst, ◌∙◌, arith, take, length, length-take}
use Rattle.std.proofs.lemmas.List.{take_more}
use Rattle.pgn_listening.specs.Listening.{AreThere, AreOnce, listed}
use Rattle.pgn_listening.proofs.ListeningLaws.{once-take}
use Rattle.pgn_listening.proofs.listen_set.put_all.Goals as goal

pub loop-at-preserved : goal.loop-at-preserved
loop-at-preserved c =
    let places = c.args.places.now in
    let at = c.loop-at.at in
    let place = c.index-places-at.result in
    let more : take (at + 1) places ≡ take at places ++ place ∷ [] = take_more places at place c.loop-at-test.true ∙ ap (λ (o : Option (List ℕ)). take at places ++ o ∷ []) (sym c.index-places-at.is) in
    let last : at ≡ length (take at places) = omega (arith, length-take at places, c.loop-at-test.true) in
    let once : AreOnce (listed (take at places ++ place ∷ [])) = subst (λ (l : List (Option (List ℕ))). AreOnce (listed l)) more (once-take (at + 1) places c.requires.once) in
    record {
      there = subst (λ (l : List (Option (List ℕ))). AreThere l c.put.new.index.entries) (sym more) (c.put.ensures.entries (take at places) c.loop-at.invariant.there last once);
      room = omega (arith, c.put.ensures.room, c.loop-at.invariant.room);
    }
