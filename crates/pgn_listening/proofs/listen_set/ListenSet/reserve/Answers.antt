use Rattle.std.proofs.Common.{◌≡◌, ℕ, ◌+◌, ◌≤◌, List, Option, length, refl, sym, ap, subst, arith}
use Rattle.pgn_listening.specs.Listening.{AreThere, AreOnce, IsIndexed, listed}
use Rattle.pgn_listening.specs.Bits.{AreBits}
use Rattle.pgn_listening.specs.declared.channel_bits.ChannelBits.{ChannelBits}
use Rattle.pgn_listening.proofs.listen_set.ListenSet.reserve.Goals as goal

-- the same places and entries, for which there is room
roomier : (old new : List (Option (List ℕ))) (was now : List (List ℕ × ℕ)) (capacity capacity' spare spare' room room' : ℕ) (bits : ChannelBits)
    → IsIndexed old capacity was spare room × AreBits (listed old) bits → new ≡ old → now ≡ was → length new + room' ≤ capacity' → room' ≤ spare'
    → IsIndexed new capacity' now spare' room' × AreBits (listed new) bits
roomier old new was now capacity capacity' spare spare' room room' bits h same kept fits indexed = (
  record {
    there = subst (λ (entries : List (List ℕ × ℕ)). AreThere new entries) (sym kept) (subst (λ (places : List (Option (List ℕ))). AreThere places was) (sym same) h.0.there);
    once = subst (λ (places : List (Option (List ℕ))). AreOnce (listed places)) (sym same) h.0.once;
    fits = fits;
    indexed = indexed;
  },
  subst (λ (places : List (Option (List ℕ))). AreBits (listed places) bits) (sym same) h.1,
)

pub invariant_of-self : goal.invariant_of-self
invariant_of-self c =
    let size : length c.reserve.new.self.items ≡ length c.self.inside.places.items = ap length c.reserve.ensures.items in
    roomier c.self.inside.places.items c.reserve.new.self.items _ _ _ _ _ _ _ _ c.self.inside.bits c.self.invariant c.reserve.ensures.items refl
    (omega (arith, size, c.reserve.ensures.capacity, c.self.invariant.0.fits)) c.self.invariant.0.indexed

pub invariant_of-self-in_err-reserve-2 : goal.invariant_of-self-in_err-reserve-2
invariant_of-self-in_err-reserve-2 c =
    let size : length c.reserve.new.self.items ≡ length c.self.inside.places.items = ap length c.reserve.ensures.items in
    roomier c.self.inside.places.items c.reserve.new.self.items _ _ _ _ _ _ _ _ c.self.inside.bits c.self.invariant c.reserve.ensures.items c.reserve-2.ensures.entries
    (omega (arith, size, c.reserve.ensures.capacity, c.self.invariant.0.fits)) (omega (arith, c.reserve-2.ensures.room.0, c.self.invariant.0.indexed))

pub invariant_of-self-2 : goal.invariant_of-self-2
invariant_of-self-2 c =
    roomier c.self.inside.places.items c.reserve.new.self.items _ _ _ _ _ _ _ _ c.self.inside.bits c.self.invariant c.reserve.ensures.items c.reserve-2.ensures.entries
    (omega (arith, c.in_ok-reserve.ensures.ok, c.reserve.new.self.ok.0)) c.in_ok-reserve-2.ensures.ok
