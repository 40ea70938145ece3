use Rattle.std.proofs.Common.{◌≡◌, ℕ, ◌≤◌, List, Option, ◌∙◌, ap, sym, subst, not, is_some, true, false, Some, None, filter, get_or, set, bytes_eq, arith}
use Rattle.pgn_base.specs.Names.{has_name}
use Rattle.pgn_listening.specs.Listening.{Listening, IsIndexed, AreThere, place_from, listed}
use Rattle.pgn_base.specs.Interest.{channel_bit}
use Rattle.pgn_listening.specs.Bits.{with_bit, AreBits}
use Rattle.pgn_listening.proofs.ListeningLaws.{place-within, indexed-left, listed-left, is_some-place, none-less, has-placed}
use Rattle.pgn_listening.proofs.BitsLaws.{with_bit-has, bit-within}
use Rattle.pgn_listening.proofs.listen_set.ListenSet.leave.Goals as goal

pub index_mut-requires : goal.index_mut-requires
index_mut-requires c =
    let stood = rw (c.new.ensures, c.as_bytes.ensures.value) at c.in-Some.ensures.value in
    let place : place_from 0 c.args.name.now c.self.inside.places.items ≡ Some c.in-Some.at = sym (c.self.invariant.0.there.found c.args.name.now) ∙ sym stood in
    omega (arith, (place-within 0 c.in-Some.at c.args.name.now c.self.inside.places.items place).1, c.self.inside.places.ok.0)

pub take_out-requires : goal.take_out-requires
take_out-requires c =
    let stood = rw (c.new.ensures, c.as_bytes.ensures.value) at c.in-Some.ensures.value in
    let has : has_name (listed c.self.inside.places.items) c.args.name.now ≡ true = has-placed c.args.name.now c.in-Some.at c.self.inside.places.items (sym (c.self.invariant.0.there.found c.args.name.now) ∙ sym stood) in
    let bit : ℕ = channel_bit c.args.name.now in
    let is : get_or c.self.inside.bits.counts bit 0 ≡ with_bit bit (listed c.self.inside.places.items) = c.self.invariant.1.counted bit (bit-within c.args.name.now) in
    rw c.as_bytes-in-Some.ensures.value (omega (arith, is, with_bit-has c.args.name.now (listed c.self.inside.places.items) has))

pub invariant_of-self : goal.invariant_of-self
invariant_of-self c =
    let places = c.self.inside.places.items in
    let stood = rw (c.new.ensures, c.as_bytes.ensures.value) at c.in-Some.ensures.value in
    let taken = rw (c.new.ensures, c.as_bytes.ensures.value) at c.swap_remove.ensures.updates in
    let place : place_from 0 c.args.name.now places ≡ Some c.in-Some.at = sym (c.self.invariant.0.there.found c.args.name.now) ∙ sym stood in
    let has : has_name (listed places) c.args.name.now ≡ true = has-placed c.args.name.now c.in-Some.at places place in
    let bits = rw c.as_bytes-in-Some.ensures.value at c.take_out.ensures in
    let fewer : listed (set places c.in-Some.at None) ≡ filter (λ other. not (bytes_eq c.args.name.now other)) (listed places) = listed-left places c.args.name.now c.in-Some.at c.self.invariant.0.once place in
    rw c.empty.ensures (
      indexed-left c.self.inside.places.items c.args.name.now _ _ _ _ _ _ c.in-Some.at c.self.invariant.0 (sym stood) taken.0 c.in-Some.ensures.len c.swap_remove.ensures.room.0,
      subst (λ (names : List (List ℕ)). AreBits names c.take_out.new.self) (sym fewer) (bits (listed places) c.self.invariant.1 c.self.invariant.0.once has),
    )

pub returns-in-Some-clause-channels : goal.returns-in-Some-clause-channels
returns-in-Some-clause-channels c =
    let stood = rw (c.new.ensures, c.as_bytes.ensures.value) at c.in-Some.ensures.value in
    let place : place_from 0 c.args.name.now c.self.inside.places.items ≡ Some c.in-Some.at = sym (c.self.invariant.0.there.found c.args.name.now) ∙ sym stood in
    rw c.empty.ensures (listed-left c.self.inside.places.items c.args.name.now c.in-Some.at c.self.invariant.0.once place
    ∙ ap (λ (set : Listening). filter (λ other. not (bytes_eq c.args.name.now other)) set.channels) c.self.view_is)

pub returns-in_default-clause-channels : goal.returns-in_default-clause-channels
returns-in_default-clause-channels c =
    let none = rw (c.new.ensures, c.as_bytes.ensures.value) at c.in_default.ensures.value in
    let absent : has_name (listed c.self.inside.places.items) c.args.name.now ≡ false = sym (is_some-place 0 c.args.name.now c.self.inside.places.items) ∙ ap is_some (sym (c.self.invariant.0.there.found c.args.name.now) ∙ sym none) in
    sym (none-less c.args.name.now (listed c.self.inside.places.items) absent)
    ∙ ap (λ (set : Listening). filter (λ other. not (bytes_eq c.args.name.now other)) set.channels) c.self.view_is

-- the same entries, and no less room
indexed-same : (places : List (Option (List ℕ))) (capacity : ℕ) (was now : List (List ℕ × ℕ)) (spare spare' room : ℕ)
    → IsIndexed places capacity was spare room → now ≡ was → spare ≤ spare' → IsIndexed places capacity now spare' room
indexed-same places capacity was now spare spare' room h same le =
    record {
      there = subst (λ (entries : List (List ℕ × ℕ)). AreThere places entries) (sym same) h.there;
      once = h.once;
      fits = h.fits;
      indexed = omega (arith, h.indexed, le);
    }

pub invariant_of-self-in_default : goal.invariant_of-self-in_default
invariant_of-self-in_default c =
    (indexed-same _ _ _ _ _ _ _ c.self.invariant.0 c.in_default.ensures.unchanged c.in_default.ensures.room.0, c.self.invariant.1)

pub returns-in-Some-clause-room : goal.returns-in-Some-clause-room
returns-in-Some-clause-room c = ap (λ (set : Listening). set.room) c.self.view_is

pub returns-in_default-clause-room : goal.returns-in_default-clause-room
returns-in_default-clause-room c = ap (λ (set : Listening). set.room) c.self.view_is
