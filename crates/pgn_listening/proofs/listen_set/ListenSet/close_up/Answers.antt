use Rattle.std.proofs.Common.{◌≡◌, ℕ, List, Option, is_some, filter, length, sym, ap, subst, ◌∙◌, arith, rules}
use Rattle.std.proofs.lemmas.Fn.{filter_same}
use Rattle.pgn_listening.specs.Listening.{Listening, AreOnce, AreThere, listed}
use Rattle.pgn_listening.specs.Bits.{AreBits}
use Rattle.pgn_listening.proofs.ListeningLaws.{listed-closed, length-closed}
use Rattle.pgn_listening.proofs.listen_set.ListenSet.close_up.Goals as goal

pub put_all-requires-clause-room : goal.put_all-requires-clause-room
put_all-requires-clause-room c =
    let left : c.retain.new.self.items ≡ filter is_some c.self.inside.places.items = filter_same _ _ _ (λ x b f' k. search rules) _ _ c.retain.ensures.filtered in
    omega (arith, ap length (c.deref.ensures.value ∙ left), length-closed c.self.inside.places.items, c.self.invariant.0.there.counted, c.truncate.ensures.capacity (omega arith), c.truncate.ensures.len)

pub put_all-requires-clause-once : goal.put_all-requires-clause-once
put_all-requires-clause-once c =
    let left : c.retain.new.self.items ≡ filter is_some c.self.inside.places.items = filter_same _ _ _ (λ x b f' k. search rules) _ _ c.retain.ensures.filtered in
    subst (λ (names : List (List ℕ)). AreOnce names) (sym (ap listed (c.deref.ensures.value ∙ left) ∙ listed-closed c.self.inside.places.items)) c.self.invariant.0.once

pub invariant_of-self : goal.invariant_of-self
invariant_of-self c =
    let left : c.retain.new.self.items ≡ filter is_some c.self.inside.places.items = filter_same _ _ _ (λ x b f' k. search rules) _ _ c.retain.ensures.filtered in
    let same : length c.deref.result.now ≡ length c.retain.new.self.items = ap length c.deref.ensures.value in
    let size : length c.retain.new.self.items ≡ length (listed c.self.inside.places.items) = ap length left ∙ length-closed c.self.inside.places.items in (
      record {
        there = subst (λ (places : List (Option (List ℕ))). AreThere places c.put_all.new.index.entries) c.deref.ensures.value c.put_all.ensures.entries;
        once = subst (λ (names : List (List ℕ)). AreOnce names) (sym (ap listed left ∙ listed-closed c.self.inside.places.items)) c.self.invariant.0.once;
        fits = omega (arith, c.retain.ensures.bound, c.retain.new.self.ok.0, c.self.inside.places.ok.0, c.retain.ensures.capacity, c.self.invariant.0.fits);
        indexed = omega (arith, same, size, c.put_all.ensures.room, c.truncate.ensures.capacity (omega arith), c.truncate.ensures.len, c.self.invariant.0.there.counted, c.self.invariant.0.indexed);
      },
      subst (λ (names : List (List ℕ)). AreBits names c.self.inside.bits) (sym (ap listed left ∙ listed-closed c.self.inside.places.items)) c.self.invariant.1,
    )

pub returns : goal.returns
returns c =
    let left : c.retain.new.self.items ≡ filter is_some c.self.inside.places.items = filter_same _ _ _ (λ x b f' k. search rules) _ _ c.retain.ensures.filtered in
    ap (λ (channels : List (List ℕ)). let set : Listening = record { channels = channels; room = c.self.inside.room } in set) (ap listed left ∙ listed-closed c.self.inside.places.items) ∙ c.self.view_is
