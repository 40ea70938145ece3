-- What bytes begin with an entry or a filler: from their parts, and their parts from it.
use Rattle.std.proofs.Common.{◌≡◌, ℕ, ◌+◌, ◌-◌, ◌%◌, ◌^◌, ◌<◌, ◌≤◌, List, [], ◌∷◌, ◌++◌, length, take, drop, replicate, sym, ap, subst, ◌∙◌, inl, inr, arith, append_assoc, length-append}
use Rattle.std.specs.List.{before_first, after_first}
use Rattle.std.proofs.lemmas.List.{length-replicate}
use Rattle.std.proofs.lemmas.Bool.{cases_lt, cases_eq}
use Rattle.pgn_base.specs.declared.format.Format.{Format}
use Rattle.pgn_base.specs.declared.format.Format.TheVariants.{One, Two}
use Rattle.pgn_base.specs.declared.note.Note.{Note}
use Rattle.pgn_base.specs.Notes.{IsNote}
use Rattle.pgn_journal.specs.Bytes.{alignment, least_bytes, page_bytes, header_bytes, header, entry_length, spelled, filler, IsHead, IsEntryLength}
use Rattle.pgn_journal.proofs.BytesLemmas.{length-header, front_fits, entry_lengths}
use Rattle.pgn_entry.specs.Reading.{is_zero, number_at, stated_xid, stated_pid, head_padding, body, IsAllZero, note_of, padding_of, HasHead, BeginsEntry, BeginsFiller}
use Rattle.pgn_entry.specs.Parts.{IsWhole}
use Rattle.pgn_entry.proofs.BodyLaws.{body_parts, before_zero, after_zero, count_zero, zeros_are, are_zeros}
use Rattle.pgn_entry.proofs.HeadLaws.{AreBytes, header_back, parts_back, States, head_states, body_after, length-body}

-- the least length has room for a head
pub head_within : (format : Format) (len : ℕ) → IsEntryLength format len → header_bytes format ≤ len
head_within One len h = let low = h.least in omega arith
head_within Two len h = let low = h.least in omega arith

-- how many zero bytes fill an entry up
abbrev pub fill : Format → Note → ℕ
fill format note = entry_length format note - (header_bytes format + (length note.channel + 1) + (length note.payload + 1))

-- the body of an entry
abbrev pub entry_body : Format → Note → List ℕ
entry_body format note = note.channel ++ 0 ∷ (note.payload ++ 0 ∷ replicate (fill format note) 0)

length-entry_body : (format : Format) (note : Note) → header_bytes format + length (entry_body format note) ≡ entry_length format note
length-entry_body format note =
    let room = front_fits format note in
    simp (length-append, length-replicate) (omega (arith, room))

-- an entry, and bytes after it, from the left
entry_split : (format : Format) (note : Note) (db xid pid : ℕ) (rest : List ℕ) → spelled format note db xid pid ++ rest ≡ header format (entry_length format note) db xid pid ++ (entry_body format note ++ rest)
unfolding spelled
entry_split format note db xid pid rest =
    let head : List ℕ = header format (entry_length format note) db xid pid in
    let size : length (head ++ (note.channel ++ 0 ∷ []) ++ (note.payload ++ 0 ∷ [])) ≡ header_bytes format + (length note.channel + 1) + (length note.payload + 1) =
    simp length-append (omega (arith, length-header format (entry_length format note) db xid pid)) in
    rw size (simp append_assoc)

-- a filler, and bytes after it, from the left
filler_split : (format : Format) (len xid pid : ℕ) (rest : List ℕ) → filler format len xid pid ++ rest ≡ header format len 0 xid pid ++ (replicate (len - header_bytes format) 0 ++ rest)
unfolding filler
filler_split format len xid pid rest = rw (length-header format len 0 xid pid) (append_assoc (header format len 0 xid pid) (replicate (len - header_bytes format) 0) rest)

-- bytes that are an entry in their parts begin with it
pub entry_from_parts : (format : Format) (bytes : List ℕ) → AreBytes bytes → header_bytes format ≤ number_at 0 bytes → number_at 0 bytes ≤ length bytes → IsAllZero (head_padding format bytes) → IsWhole format (number_at 0 bytes) (body format bytes)
    → bytes ≡ spelled format (note_of (body format bytes)) (number_at 4 bytes) (stated_xid format bytes) (stated_pid format bytes) ++ drop (number_at 0 bytes) bytes
entry_from_parts format bytes are low high clean whole =
    let len : ℕ = number_at 0 bytes in
    let db : ℕ = number_at 4 bytes in
    let xid : ℕ = stated_xid format bytes in
    let pid : ℕ = stated_pid format bytes in
    let note = note_of (body format bytes) in
    let rest = drop len bytes in
    let parts = body_parts (body format bytes) whole.zeros in
    let sizes : length (body format bytes) ≡ length note.channel + (1 + (length note.payload + (1 + length (padding_of (body format bytes))))) = ap length parts ∙ simp length-append (omega arith) in
    let count : length (padding_of (body format bytes)) ≡ fill format note = omega (arith, whole.size, length-body format bytes high) in
    let zeros : padding_of (body format bytes) ≡ replicate (fill format note) 0 = zeros_are (padding_of (body format bytes)) whole.padding ∙ ap (λ (n : ℕ). replicate n 0) count in
    let middle : body format bytes ≡ entry_body format note = parts ∙ ap (λ (l : List ℕ). note.channel ++ 0 ∷ (note.payload ++ 0 ∷ l)) zeros in
    let head : take (header_bytes format) bytes ≡ header format (entry_length format note) db xid pid = sym (header_back format bytes are (omega (arith, low, high)) clean) ∙ ap (λ (n : ℕ). header format n db xid pid) whole.size in
    parts_back format bytes low high
    ∙ ap (λ (l : List ℕ). l ++ (body format bytes ++ rest)) head
    ∙ ap (λ (l : List ℕ). header format (entry_length format note) db xid pid ++ (l ++ rest)) middle
    ∙ sym (entry_split format note db xid pid rest)

-- bytes that are a filler in their parts begin with it
pub filler_from_parts : (format : Format) (bytes : List ℕ) → AreBytes bytes → header_bytes format ≤ number_at 0 bytes → number_at 0 bytes ≤ length bytes → IsAllZero (head_padding format bytes) → number_at 4 bytes ≡ 0 → IsAllZero (body format bytes)
    → bytes ≡ filler format (number_at 0 bytes) (stated_xid format bytes) (stated_pid format bytes) ++ drop (number_at 0 bytes) bytes
filler_from_parts format bytes are low high clean none zero =
    let len : ℕ = number_at 0 bytes in
    let xid : ℕ = stated_xid format bytes in
    let pid : ℕ = stated_pid format bytes in
    let rest = drop len bytes in
    let middle : body format bytes ≡ replicate (len - header_bytes format) 0 = zeros_are (body format bytes) zero ∙ ap (λ (n : ℕ). replicate n 0) (length-body format bytes high) in
    let head : take (header_bytes format) bytes ≡ header format len 0 xid pid = sym (header_back format bytes are (omega (arith, low, high)) clean) ∙ ap (λ (n : ℕ). header format len n xid pid) none in
    parts_back format bytes low high
    ∙ ap (λ (l : List ℕ). l ++ (body format bytes ++ rest)) head
    ∙ ap (λ (l : List ℕ). header format len 0 xid pid ++ (l ++ rest)) middle
    ∙ sym (filler_split format len xid pid rest)

-- the parts of bytes that begin with an entry or a filler
pub record Parts (format : Format) (len db xid pid : ℕ) (middle bytes : List ℕ) : Type 0 where
  pub states : States format len db xid pid bytes
  pub room : len ≤ length bytes
  pub whole : body format bytes ≡ middle

-- the parts of a head, a body and what stands after it
joined_parts : (format : Format) (len db xid pid : ℕ) (middle rest : List ℕ) → len < 2 ^ 32 → IsHead format db xid pid → len ≡ header_bytes format + length middle
    → Parts format len db xid pid middle (header format len db xid pid ++ (middle ++ rest))
joined_parts format len db xid pid middle rest low fits e =
    let head = header format len db xid pid in
    let states = head_states format len db xid pid (middle ++ rest) low fits in
    record {
      states = states;
      room = simp length-append (omega (arith, length-header format len db xid pid));
      whole = body_after format head middle rest len (length-header format len db xid pid) e states.stated_len;
    }

-- bytes that begin with a notification's entry have its head, its body and a rest as their parts
pub parts_of_entry : (format : Format) (note : Note) (db xid pid : ℕ) (bytes : List ℕ) → BeginsEntry format note db xid pid bytes → Parts format (entry_length format note) db xid pid (entry_body format note) bytes
parts_of_entry format note db xid pid bytes h =
    let fits = (entry_lengths format note h.valid).fits in
    subst (Parts format (entry_length format note) db xid pid (entry_body format note)) (sym (h.spelling ∙ entry_split format note db xid pid h.rest))
    (joined_parts format (entry_length format note) db xid pid (entry_body format note) h.rest (omega arith) h.numbers (sym (length-entry_body format note)))

-- bytes that begin with a filler have its head, zeros and a rest as their parts
pub parts_of_filler : (format : Format) (len xid pid : ℕ) (bytes : List ℕ) → BeginsFiller format len xid pid bytes → Parts format len 0 xid pid (replicate (len - header_bytes format) 0) bytes
parts_of_filler format len xid pid bytes h =
    let high = h.valid.fits in
    subst (Parts format len 0 xid pid (replicate (len - header_bytes format) 0)) (sym (h.spelling ∙ filler_split format len xid pid h.rest))
    (joined_parts format len 0 xid pid (replicate (len - header_bytes format) 0) h.rest (omega (arith, high)) h.numbers (omega (arith, head_within format len h.valid, length-replicate {A = ℕ} (len - header_bytes format) 0)))

-- the body of an entry is that of its note
pub entry_is_whole : (format : Format) (note : Note) → IsNote note → IsWhole format (entry_length format note) (entry_body format note) × (note_of (entry_body format note) ≡ note)
entry_is_whole format note valid =
    let tail : List ℕ = note.payload ++ 0 ∷ replicate (fill format note) 0 in
    let channel : before_first is_zero (entry_body format note) ≡ note.channel = before_zero note.channel tail valid.name.no_nul in
    let rest : after_first is_zero (entry_body format note) ≡ tail = after_zero note.channel tail valid.name.no_nul in
    let payload : before_first is_zero (after_first is_zero (entry_body format note)) ≡ note.payload = ap (before_first is_zero) rest ∙ before_zero note.payload (replicate (fill format note) 0) valid.text.no_nul in
    let padding : padding_of (entry_body format note) ≡ replicate (fill format note) 0 = ap (after_first is_zero) rest ∙ after_zero note.payload (replicate (fill format note) 0) valid.text.no_nul in
    let same : note_of (entry_body format note) ≡ note =
    ap (λ (c : List ℕ). let n : Note = record { channel = c; payload = before_first is_zero (after_first is_zero (entry_body format note)) } in n) channel
    ∙ ap (λ (t : List ℕ). let n : Note = record { channel = note.channel; payload = t } in n) payload in
    let one = count_zero note.channel tail valid.name.no_nul in
    let two = count_zero note.payload (replicate (fill format note) 0) valid.text.no_nul in (
      record {
        zeros = omega (arith, one, two);
        valid = subst IsNote (sym same) valid;
        size = ap (entry_length format) (sym same);
        padding = subst IsAllZero (sym padding) (are_zeros (fill format note));
      },
      same,
    )

-- bytes with enough of them, a length that fits and a head that ends with zero bytes
pub head_from : (format : Format) (bytes : List ℕ) → IsEntryLength format (number_at 0 bytes) → number_at 0 bytes ≤ length bytes → IsAllZero (head_padding format bytes) → HasHead format bytes
head_from format bytes fits room clean =
    let whole = fits.whole in
    let low = fits.least in
    let high = fits.fits in
    record {
      enough = λ short. elim short [ inl a ↦ omega (arith, a, low, room) | inr b ↦ omega (arith, b, room) ];
      fits = λ bad. elim bad [ inl a ↦ omega (arith, a, low) | inr b ↦ elim b [ inl c ↦ omega (arith, c, high) | inr d ↦ d whole ] ];
      clean = clean;
    }

-- the same from what is not wrong with them
pub head_tells : (format : Format) (bytes : List ℕ) → HasHead format bytes → IsEntryLength format (number_at 0 bytes) × (number_at 0 bytes ≤ length bytes)
head_tells format bytes h =
    let len : ℕ = number_at 0 bytes in (
      record {
        whole = elim (cases_eq (len % alignment format) 0) [ inl same ↦ same | inr other ↦ absurd (h.fits (inr (inr other))) ];
        least = elim (cases_lt len (least_bytes format)) [ inl low ↦ absurd (h.fits (inl low)) | inr high ↦ high ];
        fits = elim (cases_lt page_bytes len) [ inl high ↦ absurd (h.fits (inr (inl high))) | inr low ↦ low ];
      },
      elim (cases_lt (length bytes) len) [ inl few ↦ absurd (h.enough (inr few)) | inr many ↦ many ],
    )
