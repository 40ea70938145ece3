-- Laws of channels as bits, and of how many have each bit.
use Rattle.std.proofs.Common.{◌≡◌, ◌≢◌, ℕ, ◌+◌, ◌^◌, ◌<◌, ◌≤◌, ◌==◌, Bool, true, false, cond, not, max, min, ◌||◌, List, [], ◌∷◌, ◌++◌, fold, filter, get_or, set, length, bytes_eq, refl, sym, ap, ◌∙◌, arith, true≢false}
use Rattle.std.specs.Int.{bit_at}
use Rattle.std.specs.Int.RustNames.{bit_xor}
use Rattle.std.proofs.lemmas.Bool.Decides.{nat_tests}
use Rattle.std.proofs.lemmas.Slice.Eq.{bytes_eq-Decides}
use Rattle.std.proofs.lemmas.Nat.Bits.{bit_at_or, bit_at_xor, bit_at-lt, bit_at-zero, bit_at-pow_same, bit_at-pow_other, same_from_bits}
use Rattle.std.proofs.lemmas.List.{get_or-set_same, get_or-set_other, length-set}
use Rattle.pgn_base.specs.Names.{has_name}
use Rattle.pgn_listening.specs.Listening.{AreOnce}
use Rattle.pgn_base.specs.Interest.{channel_bit, with_channel, interest}
use Rattle.pgn_listening.specs.Bits.{with_bit, AreBits}
use Rattle.pgn_listening.specs.declared.channel_bits.ChannelBits.{ChannelBits}
use Rattle.pgn_listening.proofs.ListeningLaws.{none-less, absent-like}

-- two numbers are equal where the test says so, and differ where it does not
equal : (a b : ℕ) → (a == b) ≡ true → a ≡ b
equal a b e = grind (arith, nat_tests)

differ : (a b : ℕ) → (a == b) ≡ false → b ≢ a
differ a b e = grind (arith, nat_tests)

-- the bits of channels and of one more
interest-push : (word : ℕ) (channels : List (List ℕ)) (channel : List ℕ) → fold with_channel word (channels ++ channel ∷ []) ≡ with_channel (fold with_channel word channels) channel
interest-push word [] channel = refl
interest-push word (first ∷ channels) channel = interest-push (with_channel word first) channels channel

-- how many have a bit with one more
with_bit-push : (bit : ℕ) (channels : List (List ℕ)) (channel : List ℕ) → with_bit bit (channels ++ channel ∷ []) ≡ with_bit bit channels + cond (channel_bit channel == bit) 1 0
with_bit-push bit [] channel = elim (channel_bit channel == bit) as (λ b. cond b (0 + 1) 0 ≡ 0 + cond b 1 0) [ true ↦ refl | false ↦ refl ]
with_bit-push bit (first ∷ channels) channel =
    let rest : with_bit bit (channels ++ channel ∷ []) ≡ with_bit bit channels + cond (channel_bit channel == bit) 1 0 = with_bit-push bit channels channel in
    elim (channel_bit first == bit) as (λ b. cond b (with_bit bit (channels ++ channel ∷ []) + 1) (with_bit bit (channels ++ channel ∷ [])) ≡ cond b (with_bit bit channels + 1) (with_bit bit channels) + cond (channel_bit channel == bit) 1 0) [
      | true ↦ omega (arith, rest)
      | false ↦ rest
    ]

-- no more than there are
pub with_bit-le : (bit : ℕ) (channels : List (List ℕ)) → with_bit bit channels ≤ length channels
with_bit-le bit [] = omega arith
with_bit-le bit (first ∷ channels) =
    let rest : with_bit bit channels ≤ length channels = with_bit-le bit channels in
    elim (channel_bit first == bit) as (λ b. cond b (with_bit bit channels + 1) (with_bit bit channels) ≤ length (first ∷ channels)) [
      | true ↦ omega (arith, rest)
      | false ↦ omega (arith, rest)
    ]

-- at least one has the bit of a channel that is among them
pub with_bit-has : (channel : List ℕ) (channels : List (List ℕ)) → has_name channels channel ≡ true → 1 ≤ with_bit (channel_bit channel) channels
with_bit-has channel [] has = absurd (true≢false (sym has))
with_bit-has channel (first ∷ channels) has = by_first (bytes_eq channel first) refl (channel_bit first == channel_bit channel) refl (with_bit-has channel channels)
  where
    by_first : (same : Bool) → bytes_eq channel first ≡ same → (b : Bool) → (channel_bit first == channel_bit channel) ≡ b
        → (has_name channels channel ≡ true → 1 ≤ with_bit (channel_bit channel) channels) → 1 ≤ cond b (with_bit (channel_bit channel) channels + 1) (with_bit (channel_bit channel) channels)
    by_first same e true is rest = omega arith
    by_first true e false is rest =
        let alike : channel_bit channel ≡ channel_bit first = ap channel_bit ((bytes_eq-Decides channel first).0 e) in
        absurd (differ (channel_bit first) (channel_bit channel) is alike)
    by_first false e false is rest = rest (ap (λ (b : Bool). b || has_name channels channel) (sym e) ∙ has)

-- one less has the bit of a channel that is taken out
with_bit-less : (bit : ℕ) (channel : List ℕ) (channels : List (List ℕ)) → AreOnce channels → has_name channels channel ≡ true
    → with_bit bit (filter (λ other. not (bytes_eq channel other)) channels) + cond (channel_bit channel == bit) 1 0 ≡ with_bit bit channels
with_bit-less bit channel [] once has = absurd (true≢false (sym has))
with_bit-less bit channel (first ∷ channels) once has = by_first (bytes_eq channel first) refl (λ there. with_bit-less bit channel channels once.1 there)
  where
    fewer : List (List ℕ)
    fewer = filter (λ other. not (bytes_eq channel other)) channels

    by_first : (same : Bool) → bytes_eq channel first ≡ same → (has_name channels channel ≡ true → with_bit bit fewer + cond (channel_bit channel == bit) 1 0 ≡ with_bit bit channels)
        → with_bit bit (cond (not same) (first ∷ fewer) fewer) + cond (channel_bit channel == bit) 1 0 ≡ with_bit bit (first ∷ channels)
    by_first true e rest =
        let absent : has_name channels channel ≡ false = absent-like channel first channels e once.0 in
        let same : with_bit bit fewer ≡ with_bit bit channels = ap (with_bit bit) (none-less channel channels absent) in
        let alike : channel_bit channel ≡ channel_bit first = ap channel_bit ((bytes_eq-Decides channel first).0 e) in
        ap (λ (n : ℕ). n + cond (channel_bit channel == bit) 1 0) same ∙ ap (λ (k : ℕ). with_bit bit channels + cond (k == bit) 1 0) alike
        ∙ elim (channel_bit first == bit) as (λ b. with_bit bit channels + cond b 1 0 ≡ cond b (with_bit bit channels + 1) (with_bit bit channels)) [ true ↦ refl | false ↦ omega arith ]
    by_first false e rest =
        let later = rest (ap (λ (b : Bool). b || has_name channels channel) (sym e) ∙ has) in
        elim (channel_bit first == bit) as (λ b. cond b (with_bit bit fewer + 1) (with_bit bit fewer) + cond (channel_bit channel == bit) 1 0 ≡ cond b (with_bit bit channels + 1) (with_bit bit channels)) [
          | true ↦ omega (arith, later)
          | false ↦ later
        ]

-- a bit of the number is set exactly where some channel has it
interest-bit : (word i : ℕ) (channels : List (List ℕ)) → bit_at (fold with_channel word channels) i ≡ max (bit_at word i) (min 1 (with_bit i channels))
interest-bit word i [] = omega arith
interest-bit word i (first ∷ channels) = by_first (channel_bit first == i) refl (interest-bit (with_channel word first) i channels)
  where
    by_first : (b : Bool) → (channel_bit first == i) ≡ b → bit_at (fold with_channel (with_channel word first) channels) i ≡ max (bit_at (with_channel word first) i) (min 1 (with_bit i channels))
        → bit_at (fold with_channel (with_channel word first) channels) i ≡ max (bit_at word i) (min 1 (cond b (with_bit i channels + 1) (with_bit i channels)))
    by_first true e rest =
        let or = bit_at_or word (2 ^ channel_bit first) i in
        let one : bit_at (2 ^ channel_bit first) i ≡ 1 = ap (λ (k : ℕ). bit_at (2 ^ channel_bit first) k) (sym (equal (channel_bit first) i e)) ∙ bit_at-pow_same (channel_bit first) in
        let low = bit_at-lt word i in
        omega (arith, rest, or, one, low)
    by_first false e rest =
        let or = bit_at_or word (2 ^ channel_bit first) i in
        let none : bit_at (2 ^ channel_bit first) i ≡ 0 = bit_at-pow_other (channel_bit first) i (differ (channel_bit first) i e) in
        omega (arith, rest, or, none)

-- so of a number that is none at first
some-bit : (i : ℕ) (channels : List (List ℕ)) → bit_at (interest channels) i ≡ min 1 (with_bit i channels)
some-bit i channels =
    let all = interest-bit 0 i channels in
    let none = bit_at-zero i in
    omega (arith, all, none)

-- a channel's bit is below 64
pub bit-within : (channel : List ℕ) → channel_bit channel < 64
bit-within channel = omega arith

-- no channel has a bit
pub no-bits : (bits : ChannelBits) → bits.word ≡ 0 → length bits.counts ≡ 64 → ((i : ℕ) → i < 64 → get_or bits.counts i 0 ≡ 0) → AreBits [] bits
no-bits bits none long each = record { word = none; long = long; counted = each }

-- the bits with one more channel
pub bits-put : (channels : List (List ℕ)) (channel : List ℕ) (old new : ChannelBits) → AreBits channels old
    → new.word ≡ with_channel old.word channel → new.counts ≡ set old.counts (channel_bit channel) (get_or old.counts (channel_bit channel) 0 + 1) → AreBits (channels ++ channel ∷ []) new
bits-put channels channel old new bits word counts =
    record {
      word = word ∙ ap (λ (w : ℕ). with_channel w channel) bits.word ∙ sym (interest-push 0 channels channel);
      long = ap length counts ∙ length-set old.counts (channel_bit channel) (get_or old.counts (channel_bit channel) 0 + 1) ∙ bits.long;
      counted = λ i below. ap (λ (l : List ℕ). get_or l i 0) counts ∙ by_bit i below (channel_bit channel == i) refl ∙ sym (with_bit-push i channels channel);
    }
  where
    by_bit : (i : ℕ) → i < 64 → (b : Bool) → (channel_bit channel == i) ≡ b → get_or (set old.counts (channel_bit channel) (get_or old.counts (channel_bit channel) 0 + 1)) i 0 ≡ with_bit i channels + cond b 1 0
    by_bit i below true e =
        let here : channel_bit channel ≡ i = equal (channel_bit channel) i e in
        let within : channel_bit channel < length old.counts = omega (arith, bit-within channel, bits.long) in
        ap (λ (k : ℕ). get_or (set old.counts (channel_bit channel) (get_or old.counts (channel_bit channel) 0 + 1)) k 0) (sym here)
        ∙ get_or-set_same old.counts (channel_bit channel) (get_or old.counts (channel_bit channel) 0 + 1) 0 within
        ∙ ap (λ (k : ℕ). get_or old.counts k 0 + 1) here ∙ ap (λ (n : ℕ). n + 1) (bits.counted i below)
    by_bit i below false e =
        let same : get_or (set old.counts (channel_bit channel) (get_or old.counts (channel_bit channel) 0 + 1)) i 0 ≡ get_or old.counts i 0 = get_or-set_other old.counts (channel_bit channel) i (get_or old.counts (channel_bit channel) 0 + 1) 0 (differ (channel_bit channel) i e) in
        let is = bits.counted i below in
        omega (arith, same, is)

-- the counts with one channel less
counts-less : (channels : List (List ℕ)) (channel : List ℕ) (old : ChannelBits) (left : ℕ) → AreBits channels old → AreOnce channels → has_name channels channel ≡ true
    → left + 1 ≡ get_or old.counts (channel_bit channel) 0 → (i : ℕ) → i < 64 → get_or (set old.counts (channel_bit channel) left) i 0 ≡ with_bit i (filter (λ other. not (bytes_eq channel other)) channels)
counts-less channels channel old left bits once has one i below = by_bit (channel_bit channel == i) refl (with_bit-less i channel channels once has)
  where
    fewer : List (List ℕ)
    fewer = filter (λ other. not (bytes_eq channel other)) channels

    by_bit : (b : Bool) → (channel_bit channel == i) ≡ b → with_bit i fewer + cond b 1 0 ≡ with_bit i channels → get_or (set old.counts (channel_bit channel) left) i 0 ≡ with_bit i fewer
    by_bit true e less =
        let here : channel_bit channel ≡ i = equal (channel_bit channel) i e in
        let within : channel_bit channel < length old.counts = omega (arith, bit-within channel, bits.long) in
        let now : get_or (set old.counts (channel_bit channel) left) i 0 ≡ left = ap (λ (k : ℕ). get_or (set old.counts (channel_bit channel) left) k 0) (sym here) ∙ get_or-set_same old.counts (channel_bit channel) left 0 within in
        let was : get_or old.counts (channel_bit channel) 0 ≡ with_bit i channels = ap (λ (k : ℕ). get_or old.counts k 0) here ∙ bits.counted i below in
        omega (arith, less, now, was, one)
    by_bit false e less =
        let same : get_or (set old.counts (channel_bit channel) left) i 0 ≡ get_or old.counts i 0 = get_or-set_other old.counts (channel_bit channel) i left 0 (differ (channel_bit channel) i e) in
        let is = bits.counted i below in
        omega (arith, less, same, is)

-- the number with one channel less: its bit goes where no other has it
word-less : (channels : List (List ℕ)) (channel : List ℕ) → AreOnce channels → has_name channels channel ≡ true → (left : ℕ) → left + 1 ≡ with_bit (channel_bit channel) channels
    → cond (left == 0) (bit_xor (interest channels) (2 ^ channel_bit channel)) (interest channels) ≡ interest (filter (λ other. not (bytes_eq channel other)) channels)
word-less channels channel once has left one = by_left (left == 0) refl
  where
    fewer : List (List ℕ)
    fewer = filter (λ other. not (bytes_eq channel other)) channels

    gone : left ≡ 0 → (i : ℕ) (b : Bool) → (channel_bit channel == i) ≡ b → with_bit i fewer + cond b 1 0 ≡ with_bit i channels → bit_at (bit_xor (interest channels) (2 ^ channel_bit channel)) i ≡ bit_at (interest fewer) i
    gone none i true e less =
        let here : channel_bit channel ≡ i = equal (channel_bit channel) i e in
        let count : with_bit (channel_bit channel) channels ≡ with_bit i channels = ap (λ (k : ℕ). with_bit k channels) here in
        let power : bit_at (2 ^ channel_bit channel) i ≡ 1 = ap (λ (k : ℕ). bit_at (2 ^ channel_bit channel) k) (sym here) ∙ bit_at-pow_same (channel_bit channel) in
        let was = some-bit i channels in
        let now = some-bit i fewer in
        let both = bit_at_xor (interest channels) (2 ^ channel_bit channel) i in
        omega (arith, none, one, count, less, power, was, now, both)
    gone none i false e less =
        let power : bit_at (2 ^ channel_bit channel) i ≡ 0 = bit_at-pow_other (channel_bit channel) i (differ (channel_bit channel) i e) in
        let was = some-bit i channels in
        let now = some-bit i fewer in
        let both = bit_at_xor (interest channels) (2 ^ channel_bit channel) i in
        omega (arith, less, power, was, now, both)

    kept : 1 ≤ left → (i : ℕ) (b : Bool) → (channel_bit channel == i) ≡ b → with_bit i fewer + cond b 1 0 ≡ with_bit i channels → bit_at (interest channels) i ≡ bit_at (interest fewer) i
    kept some i true e less =
        let here : channel_bit channel ≡ i = equal (channel_bit channel) i e in
        let count : with_bit (channel_bit channel) channels ≡ with_bit i channels = ap (λ (k : ℕ). with_bit k channels) here in
        let was = some-bit i channels in
        let now = some-bit i fewer in
        omega (arith, some, one, count, less, was, now)
    kept some i false e less =
        let was = some-bit i channels in
        let now = some-bit i fewer in
        omega (arith, less, was, now)

    by_left : (b : Bool) → (left == 0) ≡ b → cond b (bit_xor (interest channels) (2 ^ channel_bit channel)) (interest channels) ≡ interest fewer
    by_left true e = same_from_bits (bit_xor (interest channels) (2 ^ channel_bit channel)) (interest fewer) (λ i. gone (equal left 0 e) i (channel_bit channel == i) refl (with_bit-less i channel channels once has))
    by_left false e =
        let some : 1 ≤ left = grind (arith, nat_tests) in
        same_from_bits (interest channels) (interest fewer) (λ i. kept some i (channel_bit channel == i) refl (with_bit-less i channel channels once has))

-- the bits with one channel less
pub bits-less : (channels : List (List ℕ)) (channel : List ℕ) (old new : ChannelBits) (left : ℕ) → AreBits channels old → AreOnce channels → has_name channels channel ≡ true
    → left + 1 ≡ get_or old.counts (channel_bit channel) 0 → new.counts ≡ set old.counts (channel_bit channel) left
    → new.word ≡ cond (left == 0) (bit_xor old.word (2 ^ channel_bit channel)) old.word → AreBits (filter (λ other. not (bytes_eq channel other)) channels) new
bits-less channels channel old new left bits once has one counts word =
    let counted : left + 1 ≡ with_bit (channel_bit channel) channels = one ∙ bits.counted (channel_bit channel) (bit-within channel) in
    record {
      word = word ∙ ap (λ (w : ℕ). cond (left == 0) (bit_xor w (2 ^ channel_bit channel)) w) bits.word ∙ word-less channels channel once has left counted;
      long = ap length counts ∙ length-set old.counts (channel_bit channel) left ∙ bits.long;
      counted = λ i below. ap (λ (l : List ℕ). get_or l i 0) counts ∙ counts-less channels channel old left bits once has one i below;
    }
