-- Laws of which channels a reader may care for.
use Rattle.std.proofs.Common.{◌≡◌, ℕ, ◌^◌, ◌==◌, Bool, true, false, ◌||◌, not, List, [], ◌∷◌, fold, sym, ap, ◌∙◌, refl, arith, true≢false, bytes_eq}
use Rattle.std.specs.List.{list_any}
use Rattle.std.specs.Int.{bit_at}
use Rattle.std.specs.Int.RustNames.{bit_and}
use Rattle.std.proofs.lemmas.Slice.Eq.{bytes_eq-Decides}
use Rattle.std.proofs.lemmas.Nat.Bits.{bit_at_or, bit_at_and, bit_at-lt, bit_at-zero, bit_at-pow_same}
use Rattle.std.proofs.lemmas.Bool.Decides.{nat_tests}
use Rattle.std.proofs.lemmas.List.Elements.{All-nil, All-cons, All-head, All-tail}
use Rattle.pgn_base.specs.Names.{has_name}
use Rattle.pgn_base.specs.declared.note.Note.{Note}
use Rattle.pgn_journal.specs.Due.{listens}
use Rattle.pgn_base.specs.Interest.{channel_bit, with_channel, interest}
use Rattle.pgn_journal.specs.Interest.{channels_of, Covers}
use Rattle.pgn_journal.specs.laws.Interest.{InterestCovers, NothingInCommon}

-- a bit that is set stays so
set_stays : (word i : ℕ) (channel : List ℕ) → bit_at word i ≡ 1 → bit_at (with_channel word channel) i ≡ 1
set_stays word i channel is =
    let or = bit_at_or word (2 ^ channel_bit channel) i in
    let low = bit_at-lt (2 ^ channel_bit channel) i in omega (arith, or, low, is)

all_stay : (word i : ℕ) (channels : List (List ℕ)) → bit_at word i ≡ 1 → bit_at (fold with_channel word channels) i ≡ 1
all_stay word i [] is = is
all_stay word i (channel ∷ channels) is = all_stay (with_channel word channel) i channels (set_stays word i channel is)

-- the bit of a channel that is put in is set
set_now : (word : ℕ) (channel : List ℕ) → bit_at (with_channel word channel) (channel_bit channel) ≡ 1
set_now word channel =
    let or = bit_at_or word (2 ^ channel_bit channel) (channel_bit channel) in
    let one = bit_at-pow_same (channel_bit channel) in
    let low = bit_at-lt word (channel_bit channel) in omega (arith, or, one, low)

covers_from : (word : ℕ) (channels : List (List ℕ)) → Covers (fold with_channel word channels) channels
covers_from word [] = All-nil (λ (channel : List ℕ). bit_at word (channel_bit channel) ≡ 1)
covers_from word (channel ∷ channels) =
    All-cons (λ (c : List ℕ). bit_at (fold with_channel (with_channel word channel) channels) (channel_bit c) ≡ 1) channel channels
    (all_stay (with_channel word channel) (channel_bit channel) channels (set_now word channel)) (covers_from (with_channel word channel) channels)

-- each channel has its bit among those of all
pub interest-covers : InterestCovers
interest-covers channels = covers_from 0 channels

-- a number that covers channels has the bit of one that is among them
covers_one : (word : ℕ) (channels : List (List ℕ)) (channel : List ℕ) → Covers word channels → has_name channels channel ≡ true → bit_at word (channel_bit channel) ≡ 1
covers_one word [] channel covers has = absurd (true≢false (sym has))
covers_one word (first ∷ channels) channel covers has =
    by_first (bytes_eq channel first) refl (λ there. covers_one word channels channel (All-tail (λ (c : List ℕ). bit_at word (channel_bit c) ≡ 1) first channels covers) there)
  where
    by_first : (b : Bool) → bytes_eq channel first ≡ b → (has_name channels channel ≡ true → bit_at word (channel_bit channel) ≡ 1) → bit_at word (channel_bit channel) ≡ 1
    by_first true e rest = ap (λ (c : List ℕ). bit_at word (channel_bit c)) ((bytes_eq-Decides channel first).0 e) ∙ All-head (λ (c : List ℕ). bit_at word (channel_bit c) ≡ 1) first channels covers
    by_first false e rest = rest (ap (λ (b : Bool). b || has_name channels channel) (sym e) ∙ has)

-- who has a bit that is not in common listens to none
none_heard : (word sent : ℕ) (channels : List (List ℕ)) (notes : List Note) → Covers word channels → bit_and word sent ≡ 0 → Covers sent (channels_of notes) → list_any (listens channels) notes ≡ false
none_heard word sent channels [] covers apart sends = refl
none_heard word sent channels (note ∷ notes) covers apart sends = by_note (listens channels note) refl (none_heard word sent channels notes covers apart (All-tail has_bit note.channel (channels_of notes) sends))
  where
    has_bit : List ℕ → Type 0
    has_bit c = bit_at sent (channel_bit c) ≡ 1

    by_note : (b : Bool) → listens channels note ≡ b → list_any (listens channels) notes ≡ false → list_any (listens channels) (note ∷ notes) ≡ false
    by_note true e rest =
        let i : ℕ = channel_bit note.channel in
        let mine = covers_one word channels note.channel covers e in
        let theirs : bit_at sent i ≡ 1 = All-head has_bit note.channel (channels_of notes) sends in
        let both = bit_at_and word sent i in
        let none : bit_at (bit_and word sent) i ≡ 0 = ap (λ (n : ℕ). bit_at n i) apart ∙ bit_at-zero i in absurd (omega (arith, mine, theirs, both, none))
    by_note false e rest = ap (λ (b : Bool). b || list_any (listens channels) notes) e ∙ rest

-- where no bit is shared, no notification is on one of the channels
pub nothing-in_common : NothingInCommon
nothing-in_common word channels notes covers apart = none_heard word (interest (channels_of notes)) channels notes covers (by_test (bit_and word (interest (channels_of notes)) == 0) refl apart) (interest-covers (channels_of notes))
  where
    by_test : (b : Bool) → (bit_and word (interest (channels_of notes)) == 0) ≡ b → not b ≡ false → bit_and word (interest (channels_of notes)) ≡ 0
    by_test true e is = grind (arith, nat_tests)
    by_test false e is = absurd (true≢false is)
