-- The bytes of a head and the numbers that they state.
use Rattle.std.proofs.Common.{◌≡◌, ℕ, ◌+◌, ◌-◌, ◌<◌, ◌≤◌, ◌^◌, List, ◌++◌, length, take, drop, replicate, get_or, refl, sym, ap, ◌∙◌, inl, inr, arith, length-drop}
use Rattle.std.specs.Int.{w32, w64, from_le_bytes}
use Rattle.std.proofs.Math.Seq.{take-add}
use Rattle.std.proofs.lemmas.List.{take-append-drop, length-take-le, get_or-take, take_at, drop_at, drop-drop, get_or-drop, get_or_past, length-take}
use Rattle.std.proofs.lemmas.Bool.{cases_lt}
use Rattle.std.proofs.lemmas.Nat.{le_bytes_4, le_bytes_8, from_le_bytes-to_le_bytes_4, from_le_bytes-to_le_bytes_8}
use Rattle.pgn_base.specs.declared.format.Format.{Format}
use Rattle.pgn_base.specs.declared.format.Format.TheVariants.{One, Two}
use Rattle.pgn_journal.specs.Bytes.{header_bytes, xid_bits, four_bytes, eight_bytes, header, IsHead}
use Rattle.pgn_entry.specs.Reading.{number_at, long_at, stated_xid, stated_pid, head_padding, IsAllZero, body}
use Rattle.pgn_entry.proofs.BodyLaws.{zeros_are, are_zeros}

-- each of these is a byte
abbrev pub AreBytes : List ℕ → Type 0
AreBytes bytes = (i : ℕ) → get_or bytes i 0 < 256

-- the first bytes of bytes are bytes
are_front : (count : ℕ) (bytes : List ℕ) → AreBytes bytes → AreBytes (take count bytes)
are_front count bytes are i = elim (cases_lt i count) [
  | inl within ↦ rw (get_or-take count bytes i 0) (are i)
  | inr past ↦ rw (get_or_past (take count bytes) i 0 (omega (arith, length-take count bytes))) (omega arith)
]

-- the number that four bytes read as gives these four bytes again
pub four_back : (place : ℕ) (bytes : List ℕ) → AreBytes bytes → place + 4 ≤ length bytes → four_bytes (number_at place bytes) ≡ take 4 (drop place bytes)
unfolding number_at
four_back place bytes are room =
    let rest : List ℕ = drop place bytes in
    let size : length (take 4 rest) ≡ 4 = length-take-le 4 rest (omega (arith, length-drop place bytes)) in
    let same : from_le_bytes w32 rest ≡ from_le_bytes w32 (take 4 rest) = rw (get_or-take 4 rest 0 0 (omega arith), get_or-take 4 rest 1 0 (omega arith), get_or-take 4 rest 2 0 (omega arith), get_or-take 4 rest 3 0 (omega arith)) refl in
    le_bytes_4 (take 4 rest) (from_le_bytes w32 rest) size (are_front 4 rest (λ i. rw (get_or-drop place bytes i 0) (are (place + i)))) same

-- the same of eight bytes
eight_back : (place : ℕ) (bytes : List ℕ) → AreBytes bytes → place + 8 ≤ length bytes → eight_bytes (long_at place bytes) ≡ take 8 (drop place bytes)
unfolding long_at
eight_back place bytes are room =
    let rest : List ℕ = drop place bytes in
    let size : length (take 8 rest) ≡ 8 = length-take-le 8 rest (omega (arith, length-drop place bytes)) in
    let at = λ (i : ℕ) (h : i < 8). get_or-take 8 rest i 0 h in
    let same : from_le_bytes w64 rest ≡ from_le_bytes w64 (take 8 rest) = rw (at 0 (omega arith), at 1 (omega arith), at 2 (omega arith), at 3 (omega arith), at 4 (omega arith), at 5 (omega arith), at 6 (omega arith), at 7 (omega arith)) refl in
    le_bytes_8 (take 8 rest) (from_le_bytes w64 rest) size (are_front 8 rest (λ i. rw (get_or-drop place bytes i 0) (are (place + i)))) same

-- the head that the numbers of bytes make is the front of these bytes
pub header_back : (format : Format) (bytes : List ℕ) → AreBytes bytes → header_bytes format ≤ length bytes → IsAllZero (head_padding format bytes)
    → header format (number_at 0 bytes) (number_at 4 bytes) (stated_xid format bytes) (stated_pid format bytes) ≡ take (header_bytes format) bytes
unfolding header
header_back One bytes are room clean =
    let first : four_bytes (number_at 0 bytes) ≡ take 4 bytes = four_back 0 bytes are (omega arith) in
    let second = four_back 4 bytes are (omega arith) in
    let third = four_back 8 bytes are (omega arith) in
    let fourth = four_back 12 bytes are (omega arith) in
    let split : take 16 bytes ≡ take 4 bytes ++ take 4 (drop 4 bytes) ++ take 4 (drop 8 bytes) ++ take 4 (drop 12 bytes) =
    take-add 12 4 bytes ∙ ap (λ (l : List ℕ). l ++ take 4 (drop 12 bytes)) (take-add 8 4 bytes ∙ ap (λ (l : List ℕ). l ++ take 4 (drop 8 bytes)) (take-add 4 4 bytes)) in
    cc
header_back Two bytes are room clean =
    let first : four_bytes (number_at 0 bytes) ≡ take 4 bytes = four_back 0 bytes are (omega arith) in
    let second = four_back 4 bytes are (omega arith) in
    let third = eight_back 8 bytes are (omega arith) in
    let fourth = four_back 16 bytes are (omega arith) in
    let size : length (take 4 (drop 20 bytes)) ≡ 4 = length-take-le 4 (drop 20 bytes) (omega (arith, length-drop 20 bytes)) in
    let fifth : replicate 4 0 ≡ take 4 (drop 20 bytes) = sym (zeros_are (take 4 (drop 20 bytes)) clean ∙ ap (λ (n : ℕ). replicate n 0) size) in
    let split : take 24 bytes ≡ take 4 bytes ++ take 4 (drop 4 bytes) ++ take 8 (drop 8 bytes) ++ take 4 (drop 16 bytes) ++ take 4 (drop 20 bytes) =
    take-add 20 4 bytes ∙ ap (λ (l : List ℕ). l ++ take 4 (drop 20 bytes)) (take-add 16 4 bytes ∙ ap (λ (l : List ℕ). l ++ take 4 (drop 16 bytes)) (take-add 8 8 bytes ∙ ap (λ (l : List ℕ). l ++ take 8 (drop 8 bytes)) (take-add 4 4 bytes))) in
    cc

-- bytes are their head, their body, and what stands after
pub parts_back : (format : Format) (bytes : List ℕ) → header_bytes format ≤ number_at 0 bytes → number_at 0 bytes ≤ length bytes
    → bytes ≡ take (header_bytes format) bytes ++ (body format bytes ++ drop (number_at 0 bytes) bytes)
unfolding body
parts_back format bytes low high =
    let len : ℕ = number_at 0 bytes in
    let head : ℕ = header_bytes format in
    let after : drop (len - head) (drop head bytes) ≡ drop len bytes = drop-drop (len - head) head bytes ∙ ap (λ (n : ℕ). drop n bytes) (let e : head + (len - head) ≡ len = omega (arith, low) in e) in
    sym (take-append-drop head bytes)
    ∙ ap (λ (l : List ℕ). take head bytes ++ l) (sym (take-append-drop (len - head) (drop head bytes)) ∙ ap (λ (l : List ℕ). take (len - head) (drop head bytes) ++ l) after)

-- the numbers that a head states, and that it ends with zero bytes
pub record States (format : Format) (len db xid pid : ℕ) (bytes : List ℕ) : Type 0 where
  pub stated_len : number_at 0 bytes ≡ len
  pub stated_db : number_at 4 bytes ≡ db
  pub stated_xid : stated_xid format bytes ≡ xid
  pub stated_pid : stated_pid format bytes ≡ pid
  pub clean : IsAllZero (head_padding format bytes)

-- a head of numbers that fit states these numbers, whatever stands behind it
pub head_states : (format : Format) (len db xid pid : ℕ) (rest : List ℕ) → len < 2 ^ 32 → IsHead format db xid pid → States format len db xid pid (header format len db xid pid ++ rest)
unfolding number_at long_at header
head_states One len db xid pid rest low fits = record {
  stated_len = from_le_bytes-to_le_bytes_4 len low;
  stated_db = from_le_bytes-to_le_bytes_4 db fits.db_fits;
  stated_xid = from_le_bytes-to_le_bytes_4 xid fits.xid_fits;
  stated_pid = from_le_bytes-to_le_bytes_4 pid fits.pid_fits;
  clean = are_zeros 0;
}
head_states Two len db xid pid rest low fits = record {
  stated_len = from_le_bytes-to_le_bytes_4 len low;
  stated_db = from_le_bytes-to_le_bytes_4 db fits.db_fits;
  stated_xid = from_le_bytes-to_le_bytes_8 xid fits.xid_fits;
  stated_pid = from_le_bytes-to_le_bytes_4 pid fits.pid_fits;
  clean = are_zeros 4;
}

-- the body after a head
pub body_after : (format : Format) (head middle rest : List ℕ) (len : ℕ) → length head ≡ header_bytes format → len ≡ header_bytes format + length middle
    → number_at 0 (head ++ (middle ++ rest)) ≡ len → body format (head ++ (middle ++ rest)) ≡ middle
unfolding body
body_after format head middle rest len size whole states =
    let count : number_at 0 (head ++ (middle ++ rest)) - header_bytes format ≡ length middle = omega (arith, whole, states) in
    rw (count, drop_at head (middle ++ rest) (header_bytes format) size) (take_at middle rest (length middle) refl)

-- a number of four bytes fits in them
pub number_fits : (place : ℕ) (bytes : List ℕ) → AreBytes bytes → number_at place bytes < 2 ^ 32
unfolding number_at
number_fits place bytes are =
    let at = λ (i : ℕ). let e = get_or-drop place bytes i 0 in let h : get_or (drop place bytes) i 0 < 256 = rw e (are (place + i)) in h in
    omega (arith, at 0, at 1, at 2, at 3)

-- and one of eight in these
long_fits : (place : ℕ) (bytes : List ℕ) → AreBytes bytes → long_at place bytes < 2 ^ 64
unfolding long_at
long_fits place bytes are =
    let at = λ (i : ℕ). let e = get_or-drop place bytes i 0 in let h : get_or (drop place bytes) i 0 < 256 = rw e (are (place + i)) in h in
    omega (arith, at 0, at 1, at 2, at 3, at 4, at 5, at 6, at 7)

-- the numbers of the sender that bytes state fit in a head
pub xid_fits : (format : Format) (bytes : List ℕ) → AreBytes bytes → stated_xid format bytes < 2 ^ xid_bits format
xid_fits One bytes are = number_fits 8 bytes are
xid_fits Two bytes are = long_fits 8 bytes are

-- the process number that bytes state has 32 bits
pub pid_fits : (format : Format) (bytes : List ℕ) → AreBytes bytes → stated_pid format bytes < 2 ^ 32
pid_fits One bytes are = number_fits 12 bytes are
pid_fits Two bytes are = number_fits 16 bytes are

-- how many bytes a body has
pub length-body : (format : Format) (bytes : List ℕ) → number_at 0 bytes ≤ length bytes → length (body format bytes) ≡ number_at 0 bytes - header_bytes format
unfolding body
length-body format bytes high = length-take-le (number_at 0 bytes - header_bytes format) (drop (header_bytes format) bytes) (omega (arith, length-drop (header_bytes format) bytes, high))
