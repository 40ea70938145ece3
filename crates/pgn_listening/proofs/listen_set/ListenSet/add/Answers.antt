use Rattle.std.proofs.Common.{◌≡◌, ◌+◌, ◌-◌, ◌<◌, ◌≤◌, ℕ, ◌∙◌, ap, sym, subst, Option, Some, List, [], ◌∷◌, ◌++◌, false, arith, get_or, length, length-append}
use Rattle.pgn_base.specs.Names.{has_name}
use Rattle.pgn_listening.specs.Listening.{Listening, AreThere, AreOnce, listed}
use Rattle.pgn_base.specs.Interest.{channel_bit}
use Rattle.pgn_listening.specs.Bits.{with_bit, AreBits}
use Rattle.pgn_listening.proofs.ListeningLaws.{there-push, once-push, listed-append, listed-le}
use Rattle.pgn_listening.proofs.BitsLaws.{with_bit-le, bit-within}
use Rattle.pgn_listening.proofs.listen_set.ListenSet.add.Goals as goal

pub invariant_of-self : goal.invariant_of-self
invariant_of-self c =
    let places = c.self.inside.places.items in
    let put = rw c.unwrap.ensures at c.insert.ensures.updates in
    let here = rw (c.new.ensures, c.as_bytes.ensures.value) at put in
    let was = rw c.unwrap.ensures at c.insert.ensures.old in
    let old = rw (c.new.ensures, c.as_bytes.ensures.value) at was in
    let size = rw c.unwrap.ensures at c.insert.ensures.len in
    let absent : has_name (listed places) c.args.name ≡ false = ap (λ (set : Listening). has_name set.channels c.args.name) c.self.view_is ∙ c.requires.absent in
    let longer : c.push.new.self.items ≡ places ++ Some c.args.name ∷ [] = rw c.unwrap-2.ensures at c.push.ensures.items in
    let grown : length c.push.new.self.items ≡ length places + 1 = ap length longer ∙ length-append places (Some c.args.name ∷ []) in
    let there : AreThere (places ++ Some c.args.name ∷ []) c.insert.new.self.entries = there-push places c.args.name _ _ c.len-at.result _ c.self.invariant.0.there absent (c.len-at.ensures ∙ c.self.inside.places.ok.0) here.0 old size in
    let bits : AreBits (listed places ++ c.args.name ∷ []) c.put.new.self = rw c.as_bytes-2.ensures.value at (c.put.ensures (listed places) c.self.invariant.1) in
    let all : listed c.push.new.self.items ≡ listed places ++ c.args.name ∷ [] = ap listed longer ∙ listed-append places (Some c.args.name ∷ []) in (
      record {
        there = subst (λ (l : List (Option (List ℕ))). AreThere l c.insert.new.self.entries) (sym longer) there;
        once = subst (λ (names : List (List ℕ)). AreOnce names) (sym (ap listed longer ∙ listed-append places (Some c.args.name ∷ []))) (once-push (listed places) c.args.name c.self.invariant.0.once absent);
        fits = omega (arith, grown, c.push.ensures.capacity, c.self.invariant.0.fits, c.requires.room);
        indexed = omega (arith, c.insert.ensures.spare, c.self.invariant.0.indexed, c.requires.room);
      },
      subst (λ (names : List (List ℕ)). AreBits names c.put.new.self) (sym all) bits,
    )

pub put-requires : goal.put-requires
put-requires c =
    let places = c.self.inside.places.items in
    let bit : ℕ = channel_bit c.as_bytes-2.result.now in
    let is : get_or c.self.inside.bits.counts bit 0 ≡ with_bit bit (listed places) = c.self.invariant.1.counted bit (bit-within c.as_bytes-2.result.now) in
    omega (arith, is, with_bit-le bit (listed places), listed-le places, c.self.inside.places.ok.0, c.len-at.ensures)

pub returns-clause-channels : goal.returns-clause-channels
returns-clause-channels c =
    let places = c.self.inside.places.items in
    let longer : c.push.new.self.items ≡ places ++ Some c.args.name ∷ [] = rw c.unwrap-2.ensures at c.push.ensures.items in
    ap listed longer ∙ listed-append places (Some c.args.name ∷ []) ∙ ap (λ (set : Listening). set.channels ++ c.args.name ∷ []) c.self.view_is

room-less : (a b : ℕ) → a ≡ b → 1 ≤ b → (a - 1) + 1 ≡ b
room-less a b e some = omega arith

room-some : (a b : ℕ) → a ≡ b → 1 ≤ b → 1 ≤ a
room-some a b e some = omega arith

spare-some : (a b : ℕ) → 1 ≤ a → a ≤ b → 0 < b
spare-some a b some le = omega arith

pub returns-clause-room : goal.returns-clause-room
returns-clause-room c = room-less _ _ (ap (λ (set : Listening). set.room) c.self.view_is) c.requires.room

pub overflow_sub-self : goal.overflow_sub-self
overflow_sub-self c = room-some _ _ (ap (λ (set : Listening). set.room) c.self.view_is) c.requires.room

pub unwrap-requires : goal.unwrap-requires
unwrap-requires c =
    let some : 1 ≤ c.self.inside.room = room-some _ _ (ap (λ (set : Listening). set.room) c.self.view_is) c.requires.room in
    c.insert.ensures.succeeds (spare-some _ _ some c.self.invariant.0.indexed)

pub unwrap-requires-2 : goal.unwrap-requires-2
unwrap-requires-2 c =
    let some : 1 ≤ c.self.inside.room = room-some _ _ (ap (λ (set : Listening). set.room) c.self.view_is) c.requires.room in
    c.push.ensures.succeeds (omega (arith, some, c.self.invariant.0.fits, c.self.inside.places.ok.0))
