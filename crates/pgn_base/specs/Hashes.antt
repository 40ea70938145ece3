-- What a `SeededHasher` computes.
use Rattle.std.specs.Prelude.{ℕ, zero, suc, ◌+◌, ◌-◌, ◌*◌, ◌/◌, ◌%◌, ◌^◌, List, [], ◌∷◌, length, if◌then◌else◌, nat_le, nat_lt, slice_index}
use Rattle.std.specs.Int.{w64, from_le_bytes}
use Rattle.std.specs.Int.RustNames.{bit_and, bit_xor}
use Rattle.pgn_base.specs.declared.seed.Seed.{Seed}
use Rattle.pgn_base.specs.declared.seed.SeededHasher.{SeededHasher}

-- the hasher that a seed makes
abbrev pub first_hasher : Seed → SeededHasher
first_hasher seed = seed.first

-- the two halves of the 128 bits of a product, joined by xor
unfoldable pub joined_product : ℕ → ℕ → ℕ
joined_product a b = bit_xor (bit_and (a * b) (2 ^ 64 - 1)) (a * b / 2 ^ 64)

-- a state with one more word
abbrev pub mixed : ℕ → ℕ → ℕ → ℕ
mixed multiplier state word = joined_product (bit_xor state word) multiplier

-- the eight bytes from a place on as a word, the lowest first
unfoldable pub word_at : List ℕ → ℕ → ℕ
word_at bytes at = from_le_bytes w64 (slice_index bytes at ∷ slice_index bytes (at + 1) ∷ slice_index bytes (at + 2) ∷ slice_index bytes (at + 3) ∷ slice_index bytes (at + 4) ∷ slice_index bytes (at + 5) ∷ slice_index bytes (at + 6) ∷ slice_index bytes (at + 7) ∷ [])

-- the bytes that are left from a place on, fewer than eight, as a word, with how many bytes there are as its highest byte
unfoldable pub last_word : List ℕ → ℕ → ℕ
last_word bytes at =
    let len = length bytes in
    let four = from_le_bytes w64 (slice_index bytes at ∷ slice_index bytes (at + 1) ∷ slice_index bytes (at + 2) ∷ slice_index bytes (at + 3) ∷ slice_index bytes (len - 3) ∷ slice_index bytes (len - 2) ∷ slice_index bytes (len - 1) ∷ len % 256 ∷ []) in
    let one = from_le_bytes w64 (slice_index bytes at ∷ slice_index bytes (at + (len - at) / 2) ∷ slice_index bytes (len - 1) ∷ 0 ∷ 0 ∷ 0 ∷ 0 ∷ len % 256 ∷ []) in
    let none = from_le_bytes w64 (0 ∷ 0 ∷ 0 ∷ 0 ∷ 0 ∷ 0 ∷ 0 ∷ len % 256 ∷ []) in
    if nat_le 4 (len - at) then four else (if nat_lt 0 (len - at) then one else none)

-- the state after the first so many words
unfoldable pub mixed_words : ℕ → List ℕ → ℕ → ℕ → ℕ
mixed_words multiplier bytes state zero = state
mixed_words multiplier bytes state (suc count) = mixed multiplier (mixed_words multiplier bytes state count) (word_at bytes (8 * count))

-- the hasher after a write
unfoldable pub written : SeededHasher → List ℕ → SeededHasher
written hasher bytes =
    let count = length bytes / 8 in
    record hasher { state = mixed hasher.multiplier (mixed_words hasher.multiplier bytes hasher.state count) (last_word bytes (8 * count)) }

-- the hash of what was written
abbrev pub hash_of : SeededHasher → ℕ
hash_of hasher = hasher.state
