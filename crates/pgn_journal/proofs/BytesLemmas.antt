-- Proofs of the laws of the bytes of entries and fillers.
use Rattle.std.proofs.Common.{◌≡◌, ℕ, zero, suc, ◌+◌, ◌-◌, ◌^◌, ◌<◌, ◌≤◌, List, [], ◌∷◌, ◌++◌, length, take, drop, replicate, get_or, sym, ap, ◌∙◌, refl, subst, arith, append_assoc}
use Rattle.std.specs.Prelude.{All, Contains}
use Rattle.std.specs.Int.{w32, w64, from_le_bytes}
use Rattle.std.proofs.lemmas.List.{append-nil, append_cancel_left, length-append, length-replicate, take_at, drop_at}
use Rattle.std.proofs.lemmas.List.Elements.{All-append, All-push, All-replicate, All-from_get_or}
use Rattle.std.proofs.lemmas.Nat.{from_le_bytes-to_le_bytes_4, from_le_bytes-to_le_bytes_8}
use Rattle.pgn_journal.proofs.TextBytes.{utf8_are}
use Rattle.pgn_base.specs.declared.format.Format.{Format}
use Rattle.pgn_base.specs.declared.format.Format.TheVariants.{One, Two}
use Rattle.pgn_base.specs.declared.note.Note.{Note}
use Rattle.pgn_journal.specs.Bytes.{four_bytes, eight_bytes, header_bytes, xid_bits, header, padded, entry_length, spelled, filler}
use Rattle.pgn_journal.specs.laws.Bytes.{SpelledLength, AreBytes, FillerLength, EntryLengths, SpellingReadsBack, NoSpellingBegins, NoSpellingIsFiller, FillerReadsBack}

-- two lists that are equal, where their fronts have one length
pub same_fronts : {A : Type 0} (a b c d : List A) → length a ≡ length b → a ++ c ≡ b ++ d → (a ≡ b) × (c ≡ d)
same_fronts a b c d e h = (
  sym (take_at a c (length b) e) ∙ ap (take (length b)) h ∙ take_at b d (length b) refl,
  sym (drop_at a c (length b) e) ∙ ap (drop (length b)) h ∙ drop_at b d (length b) refl,
)

-- a number is read back from its four bytes
number_same : (m n : ℕ) → m < 2 ^ 32 → n < 2 ^ 32 → four_bytes m ≡ four_bytes n → m ≡ n
number_same m n hm hn h = sym (from_le_bytes-to_le_bytes_4 m hm) ∙ ap (from_le_bytes w32) h ∙ from_le_bytes-to_le_bytes_4 n hn

-- and from its eight bytes
long_same : (m n : ℕ) → m < 2 ^ 64 → n < 2 ^ 64 → eight_bytes m ≡ eight_bytes n → m ≡ n
long_same m n hm hn h = sym (from_le_bytes-to_le_bytes_8 m hm) ∙ ap (from_le_bytes w64) h ∙ from_le_bytes-to_le_bytes_8 n hn

-- an entry's head has as many bytes as its format says
pub length-header : (format : Format) (len db xid pid : ℕ) → length (header format len db xid pid) ≡ header_bytes format
unfolding header
length-header One len db xid pid = refl
length-header Two len db xid pid = refl

pub record Heads (format : Format) (len len' db db' xid xid' pid pid' : ℕ) : Type 0 where
  pub lens : four_bytes len ≡ four_bytes len'
  pub dbs : four_bytes db ≡ four_bytes db'
  pub xids : xid < 2 ^ xid_bits format → xid' < 2 ^ xid_bits format → xid ≡ xid'
  pub pids : four_bytes pid ≡ four_bytes pid'

-- the numbers of equal heads have the same bytes
headers : (format : Format) (len len' db db' xid xid' pid pid' : ℕ) → header format len db xid pid ≡ header format len' db' xid' pid'
    → Heads format len len' db db' xid xid' pid pid'
unfolding header
headers One len len' db db' xid xid' pid pid' h =
    let a = same_fronts (four_bytes len ++ four_bytes db ++ four_bytes xid) (four_bytes len' ++ four_bytes db' ++ four_bytes xid') (four_bytes pid) (four_bytes pid') refl h in
    let b = same_fronts (four_bytes len ++ four_bytes db) (four_bytes len' ++ four_bytes db') (four_bytes xid) (four_bytes xid') refl a.0 in
    let c = same_fronts (four_bytes len) (four_bytes len') (four_bytes db) (four_bytes db') refl b.0 in
    record { lens = c.0; dbs = c.1; xids = λ fits fits'. number_same xid xid' fits fits' b.1; pids = a.1 }
headers Two len len' db db' xid xid' pid pid' h =
    let zeros : List ℕ = replicate 4 0 in
    let e = same_fronts (four_bytes len ++ four_bytes db ++ eight_bytes xid ++ four_bytes pid) (four_bytes len' ++ four_bytes db' ++ eight_bytes xid' ++ four_bytes pid') zeros zeros refl h in
    let a = same_fronts (four_bytes len ++ four_bytes db ++ eight_bytes xid) (four_bytes len' ++ four_bytes db' ++ eight_bytes xid') (four_bytes pid) (four_bytes pid') refl e.0 in
    let b = same_fronts (four_bytes len ++ four_bytes db) (four_bytes len' ++ four_bytes db') (eight_bytes xid) (eight_bytes xid') refl a.0 in
    let c = same_fronts (four_bytes len) (four_bytes len') (four_bytes db) (four_bytes db') refl b.0 in
    record { lens = c.0; dbs = c.1; xids = λ fits fits'. long_same xid xid' fits fits' b.1; pids = a.1 }

-- texts without a zero byte, up to the first zero byte of equal bytes
until_zero : (xs ys s t : List ℕ) → (Contains xs 0 → ⊥) → (Contains ys 0 → ⊥) → xs ++ 0 ∷ s ≡ ys ++ 0 ∷ t → (xs ≡ ys) × (s ≡ t)
until_zero [] [] s t p q h = (refl, ap (drop 1) h)
until_zero [] (y ∷ ys) s t p q h = absurd (q (0, omega arith, sym (ap (λ (l : List ℕ). get_or l 0 0) h)))
until_zero (x ∷ xs) [] s t p q h = absurd (p (0, omega arith, ap (λ (l : List ℕ). get_or l 0 0) h))
until_zero (x ∷ xs) (y ∷ ys) s t p q h =
    let head : x ≡ y = ap (λ (l : List ℕ). get_or l 0 0) h in
    let rest = until_zero xs ys s t (λ c. p (suc c.0, omega (arith, c.1), c.2)) (λ c. q (suc c.0, omega (arith, c.1), c.2)) (ap (drop 1) h) in
    (cc, rest.1)

pub length-padded : (len : ℕ) (bytes : List ℕ) → length bytes ≤ len → length (padded len bytes) ≡ len
length-padded len bytes h = simp (length-append, length-replicate) (omega arith)

-- how many bytes the head and the texts of an entry are
length-front : (format : Format) (note : Note) (len db xid pid : ℕ)
    → length (header format len db xid pid ++ (note.channel ++ 0 ∷ []) ++ (note.payload ++ 0 ∷ [])) ≡ header_bytes format + (length note.channel + 1) + (length note.payload + 1)
length-front format note len db xid pid = simp length-append (omega (arith, length-header format len db xid pid))

-- an entry's length is no less than that of its head and its texts
pub front_fits : (format : Format) (note : Note) → header_bytes format + (length note.channel + 1) + (length note.payload + 1) ≤ entry_length format note
unfolding entry_length
front_fits One note = omega arith
front_fits Two note = omega arith

-- the length of an entry counts the bytes that spell it
pub length-spelled : SpelledLength
unfolding spelled
length-spelled format note db xid pid =
    let front : List ℕ = header format (entry_length format note) db xid pid ++ (note.channel ++ 0 ∷ []) ++ (note.payload ++ 0 ∷ []) in
    length-padded (entry_length format note) front (rw (length-front format note (entry_length format note) db xid pid) (front_fits format note))

-- the length of a filler counts the bytes that spell it
pub length-filler : FillerLength
unfolding filler
length-filler format len xid pid h = length-padded len (header format len 0 xid pid) (rw (length-header format len 0 xid pid) h)

-- the length of a notification's entry is one that an entry may have
pub entry_lengths : EntryLengths
unfolding entry_length
entry_lengths One note h =
    let some : 0 < length note.channel = h.name.some in
    let short : length note.channel ≤ 63 = h.name.short in
    let short_text : length note.payload ≤ 7999 = h.text.short in
    record { whole = omega arith; least = omega arith; fits = omega arith }
entry_lengths Two note h =
    let some : 0 < length note.channel = h.name.some in
    let short : length note.channel ≤ 63 = h.name.short in
    let short_text : length note.payload ≤ 7999 = h.text.short in
    record { whole = omega arith; least = omega arith; fits = omega arith }

-- the zero bytes at the end of an entry
zeros : Format → Note → List ℕ
zeros format note = replicate (entry_length format note - (header_bytes format + (length note.channel + 1) + (length note.payload + 1))) 0

-- an entry, and bytes after it, from the left
split : (format : Format) (note : Note) (db xid pid : ℕ) (rest : List ℕ)
    → spelled format note db xid pid ++ rest ≡ header format (entry_length format note) db xid pid ++ (note.channel ++ 0 ∷ (note.payload ++ 0 ∷ (zeros format note ++ rest)))
unfolding spelled zeros
split format note db xid pid rest = rw (length-front format note (entry_length format note) db xid pid) (simp append_assoc)

-- equal notes
same_notes : (a b : Note) → a.channel ≡ b.channel → a.payload ≡ b.payload → a ≡ b
same_notes a b p q = ap (λ (c : List ℕ). let n : Note = record { channel = c; payload = a.payload } in n) p
    ∙ ap (λ (t : List ℕ). let n : Note = record { channel = b.channel; payload = t } in n) q

-- one entry alone is spelled by the bytes that begin with it
pub reads_back : SpellingReadsBack
reads_back format a b db db' xid xid' pid pid' rest rest' ha hb fits fits' h =
    let whole = sym (split format a db xid pid rest) ∙ h ∙ split format b db' xid' pid' rest' in
    let parts = same_fronts (header format (entry_length format a) db xid pid) (header format (entry_length format b) db' xid' pid') (a.channel ++ 0 ∷ (a.payload ++ 0 ∷ (zeros format a ++ rest))) (b.channel ++ 0 ∷ (b.payload ++ 0 ∷ (zeros format b ++ rest')))
    (length-header format (entry_length format a) db xid pid ∙ sym (length-header format (entry_length format b) db' xid' pid')) whole in
    let heads = headers format (entry_length format a) (entry_length format b) db db' xid xid' pid pid' parts.0 in
    let channels = until_zero a.channel b.channel (a.payload ++ 0 ∷ (zeros format a ++ rest)) (b.payload ++ 0 ∷ (zeros format b ++ rest')) ha.name.no_nul hb.name.no_nul parts.1 in
    let payloads = until_zero a.payload b.payload (zeros format a ++ rest) (zeros format b ++ rest') ha.text.no_nul hb.text.no_nul channels.1 in
    let same = same_notes a b channels.0 payloads.0 in
    let ends : zeros format b ++ rest ≡ zeros format b ++ rest' = subst (λ (n : Note). zeros format n ++ rest ≡ zeros format b ++ rest') same payloads.1 in
    record {
      same_note = same;
      same_db = number_same db db' fits.db_fits fits'.db_fits heads.dbs;
      same_xid = heads.xids fits.xid_fits fits'.xid_fits;
      same_pid = number_same pid pid' fits.pid_fits fits'.pid_fits heads.pids;
      same_rest = append_cancel_left (zeros format b) rest rest' ends;
    }

-- no entry's bytes go on to those of another
pub none_begins : NoSpellingBegins
none_begins format a b db db' xid xid' pid pid' rest ha hb fits fits' h =
    (reads_back format a b db db' xid xid' pid pid' rest [] ha hb fits fits' (h ∙ sym (append-nil (spelled format b db' xid' pid')))).same_rest

-- a filler, and bytes after it, from the left
split_filler : (format : Format) (len xid pid : ℕ) (rest : List ℕ)
    → filler format len xid pid ++ rest ≡ header format len 0 xid pid ++ (replicate (len - header_bytes format) 0 ++ rest)
unfolding filler
split_filler format len xid pid rest = rw (length-header format len 0 xid pid) (append_assoc (header format len 0 xid pid) (replicate (len - header_bytes format) 0) rest)

-- an entry is told from a filler by its bytes
pub none_is_filler : NoSpellingIsFiller
none_is_filler format note db xid pid len xid' pid' rest rest' some fits h =
    let whole = sym (split format note db xid pid rest) ∙ h ∙ split_filler format len xid' pid' rest' in
    let parts = same_fronts (header format (entry_length format note) db xid pid) (header format len 0 xid' pid') (note.channel ++ 0 ∷ (note.payload ++ 0 ∷ (zeros format note ++ rest))) (replicate (len - header_bytes format) 0 ++ rest')
    (length-header format (entry_length format note) db xid pid ∙ sym (length-header format len 0 xid' pid')) whole in
    let heads = headers format (entry_length format note) len db 0 xid xid' pid pid' parts.0 in
    let none : db ≡ 0 = number_same db 0 fits (omega arith) heads.dbs in
    absurd (omega (arith, none))

-- one filler alone is spelled by the bytes that begin with it
pub filler_reads_back : FillerReadsBack
filler_reads_back format len len' xid xid' pid pid' rest rest' small small' fits fits' h =
    let whole = sym (split_filler format len xid pid rest) ∙ h ∙ split_filler format len' xid' pid' rest' in
    let parts = same_fronts (header format len 0 xid pid) (header format len' 0 xid' pid') (replicate (len - header_bytes format) 0 ++ rest) (replicate (len' - header_bytes format) 0 ++ rest')
    (length-header format len 0 xid pid ∙ sym (length-header format len' 0 xid' pid')) whole in
    let heads = headers format len len' 0 0 xid xid' pid pid' parts.0 in
    let lens = number_same len len' (omega arith) (omega arith) heads.lens in
    let ends : replicate (len' - header_bytes format) 0 ++ rest ≡ replicate (len' - header_bytes format) 0 ++ rest' = subst (λ (n : ℕ). replicate (n - header_bytes format) 0 ++ rest ≡ replicate (len' - header_bytes format) 0 ++ rest') lens parts.1 in
    record {
      same_len = lens;
      same_xid = heads.xids fits.xid_fits fits'.xid_fits;
      same_pid = number_same pid pid' fits.pid_fits fits'.pid_fits heads.pids;
      same_rest = append_cancel_left (replicate (len' - header_bytes format) 0) rest rest' ends;
    }

-- each of the four bytes of a number is one
four_at : (n i : ℕ) → i < 4 → get_or (four_bytes n) i 0 < 256
four_at n zero h = omega arith
four_at n (suc zero) h = omega arith
four_at n (suc (suc zero)) h = omega arith
four_at n (suc (suc (suc zero))) h = omega arith
four_at n (suc (suc (suc (suc i)))) h = absurd (omega arith)

four_are : (n : ℕ) → All (λ byte. byte < 256) (four_bytes n)
four_are n = let P : ℕ → Type 0 = λ byte. byte < 256 in All-from_get_or P (four_bytes n) 0 (four_at n)

-- and each of the eight bytes
eight_at : (n i : ℕ) → i < 8 → get_or (eight_bytes n) i 0 < 256
eight_at n zero h = omega arith
eight_at n (suc zero) h = omega arith
eight_at n (suc (suc zero)) h = omega arith
eight_at n (suc (suc (suc zero))) h = omega arith
eight_at n (suc (suc (suc (suc zero)))) h = omega arith
eight_at n (suc (suc (suc (suc (suc zero))))) h = omega arith
eight_at n (suc (suc (suc (suc (suc (suc zero)))))) h = omega arith
eight_at n (suc (suc (suc (suc (suc (suc (suc zero))))))) h = omega arith
eight_at n (suc (suc (suc (suc (suc (suc (suc (suc i)))))))) h = absurd (omega arith)

eight_are : (n : ℕ) → All (λ byte. byte < 256) (eight_bytes n)
eight_are n = let P : ℕ → Type 0 = λ byte. byte < 256 in All-from_get_or P (eight_bytes n) 0 (eight_at n)

zeros_are : (n : ℕ) → All (λ byte. byte < 256) (replicate n 0)
zeros_are n = let P : ℕ → Type 0 = λ byte. byte < 256 in All-replicate P n 0 (omega arith)

push_zero : (bytes : List ℕ) → All (λ byte. byte < 256) bytes → All (λ byte. byte < 256) (bytes ++ 0 ∷ [])
push_zero bytes h = let P : ℕ → Type 0 = λ byte. byte < 256 in All-push P bytes 0 h (omega arith)

header_are : (format : Format) (len db xid pid : ℕ) → All (λ byte. byte < 256) (header format len db xid pid)
unfolding header
header_are One len db xid pid =
    let P : ℕ → Type 0 = λ byte. byte < 256 in
    All-append P (four_bytes len ++ four_bytes db ++ four_bytes xid) (four_bytes pid)
    (All-append P (four_bytes len ++ four_bytes db) (four_bytes xid)
    (All-append P (four_bytes len) (four_bytes db) (four_are len) (four_are db))
    (four_are xid))
    (four_are pid)
header_are Two len db xid pid =
    let P : ℕ → Type 0 = λ byte. byte < 256 in
    All-append P (four_bytes len ++ four_bytes db ++ eight_bytes xid ++ four_bytes pid) (replicate 4 0)
    (All-append P (four_bytes len ++ four_bytes db ++ eight_bytes xid) (four_bytes pid)
    (All-append P (four_bytes len ++ four_bytes db) (eight_bytes xid)
    (All-append P (four_bytes len) (four_bytes db) (four_are len) (four_are db))
    (eight_are xid))
    (four_are pid))
    (zeros_are 4)

-- an entry and a filler are spelled in numbers below 256
pub are_bytes : AreBytes
unfolding spelled filler
are_bytes = record {
  of_entry = λ format note db xid pid h.
      let P : ℕ → Type 0 = λ byte. byte < 256 in
      let len = entry_length format note in
      let head = header format len db xid pid in
      let front : List ℕ = head ++ (note.channel ++ 0 ∷ []) ++ (note.payload ++ 0 ∷ []) in
      All-append P front (replicate (len - length front) 0)
      (All-append P (head ++ (note.channel ++ 0 ∷ [])) (note.payload ++ 0 ∷ [])
      (All-append P head (note.channel ++ 0 ∷ []) (header_are format len db xid pid) (push_zero note.channel (utf8_are note.channel h.name.text)))
      (push_zero note.payload (utf8_are note.payload h.text.text)))
      (zeros_are (len - length front));
  of_filler = λ format len xid pid.
      let P : ℕ → Type 0 = λ byte. byte < 256 in
      let head = header format len 0 xid pid in
      All-append P head (replicate (len - length head) 0) (header_are format len 0 xid pid) (zeros_are (len - length head));
}
