-- Bytes read as one thing, and what it is follows from what their parts read as.
use Rattle.std.proofs.Common.{◌≡◌, ◌≢◌, ℕ, ◌-◌, List, drop, Result, Ok, Err, refl, sym, ap, subst, ◌∙◌, inl, inr, arith}
use Rattle.std.specs.Prelude.{◌↔◌}
use Rattle.pgn_base.specs.declared.format.Format.{Format}
use Rattle.pgn_base.specs.declared.note.Note.{Note}
use Rattle.pgn_journal.specs.Bytes.{header_bytes, entry_length, IsEntryLength}
use Rattle.pgn_journal.proofs.BytesLemmas.{entry_lengths, reads_back, none_is_filler, filler_reads_back}
use Rattle.pgn_entry.specs.declared.entry_fault.EntryFault.{EntryFault}
use Rattle.pgn_entry.specs.declared.entry_fault.EntryFault.TheVariants.{Short, BadLength, NoNul, BadText, BadPad}
use Rattle.pgn_entry.specs.declared.entry_view.EntryView.{EntryView}
use Rattle.pgn_entry.specs.declared.entry_view.EntryView.TheVariants.{Entry, Filler}
use Rattle.pgn_entry.specs.declared.head.Head.{Head}
use Rattle.pgn_entry.specs.Reading.{number_at, stated_xid, stated_pid, body, IsAllZero, note_of, HasHead, LacksZeros, HasBadTexts, HasBadPadding, IsRefused, BeginsEntry, BeginsFiller, Reading, AnEntry, AFiller, AFault, ReadsAs, told}
use Rattle.pgn_entry.specs.Parts.{IsHeadOf, IsWhole, BodyReadsAs, FillerReadsAs}
use Rattle.pgn_entry.specs.Laws.{ReadsAsOne}
use Rattle.pgn_entry.proofs.BodyLaws.{are_zeros}
use Rattle.pgn_entry.proofs.HeadLaws.{AreBytes, number_fits, xid_fits, pid_fits}
use Rattle.pgn_entry.proofs.BeginsLaws.{entry_from_parts, filler_from_parts, parts_of_entry, parts_of_filler, entry_is_whole, head_from, head_tells, head_within}

-- a body that is whole has no fault
whole_has_zeros : (format : Format) (len : ℕ) (bytes : List ℕ) → IsWhole format len bytes → ¬ (LacksZeros bytes)
whole_has_zeros format len bytes whole few = let two = whole.zeros in absurd (omega arith)

whole_has_texts : (format : Format) (len : ℕ) (bytes : List ℕ) → IsWhole format len bytes → ¬ (HasBadTexts bytes)
whole_has_texts format len bytes whole bad = elim bad [ inl name ↦ name whole.valid.name | inr text ↦ text whole.valid.text ]

whole_has_padding : (format : Format) (len : ℕ) (bytes : List ℕ) → IsWhole format len bytes → ¬ (HasBadPadding format len bytes)
whole_has_padding format len bytes whole bad = elim bad [ inl size ↦ size whole.size | inr zero ↦ zero whole.padding ]

-- no bytes whose parts are those of an entry are refused
entry_refutes : (format : Format) (bytes : List ℕ) (fault : EntryFault) → HasHead format bytes → (number_at 4 bytes ≢ 0) → IsWhole format (number_at 0 bytes) (body format bytes) → ¬ (IsRefused format fault bytes)
entry_refutes format bytes Short head some whole r = head.enough r
entry_refutes format bytes BadLength head some whole r = head.fits r.1
entry_refutes format bytes NoNul head some whole r = whole_has_zeros format (number_at 0 bytes) (body format bytes) whole r.2
entry_refutes format bytes BadText head some whole r = elim r.1 [ inl a ↦ some a.0 | inr b ↦ whole_has_texts format (number_at 0 bytes) (body format bytes) whole b.2 ]
entry_refutes format bytes BadPad head some whole r = elim r [ inl a ↦ a.2 head.clean | inr b ↦ whole_has_padding format (number_at 0 bytes) (body format bytes) whole b.4 ]

-- no bytes begin with an entry and are refused
entry_not_refused : (format : Format) (note : Note) (db xid pid : ℕ) (bytes : List ℕ) (fault : EntryFault) → BeginsEntry format note db xid pid bytes → ¬ (IsRefused format fault bytes)
entry_not_refused format note db xid pid bytes fault h =
    let parts = parts_of_entry format note db xid pid bytes h in
    let len = parts.states.stated_len in
    let some : number_at 4 bytes ≢ 0 = λ none. let of = h.of_database in let is = parts.states.stated_db in absurd (omega arith) in
    let head : HasHead format bytes = head_from format bytes (subst (IsEntryLength format) (sym len) (entry_lengths format note h.valid)) (let room = parts.room in omega arith) parts.states.clean in
    let whole : IsWhole format (number_at 0 bytes) (body format bytes) =
    subst (λ (n : ℕ). IsWhole format n (body format bytes)) (sym len) (subst (IsWhole format (entry_length format note)) (sym parts.whole) (entry_is_whole format note h.valid).0) in
    entry_refutes format bytes fault head some whole

-- no bytes whose parts are those of a filler are refused
filler_refutes : (format : Format) (bytes : List ℕ) (fault : EntryFault) → HasHead format bytes → number_at 4 bytes ≡ 0 → IsAllZero (body format bytes) → ¬ (IsRefused format fault bytes)
filler_refutes format bytes Short head none zero r = head.enough r
filler_refutes format bytes BadLength head none zero r = head.fits r.1
filler_refutes format bytes NoNul head none zero r = r.1 none
filler_refutes format bytes BadText head none zero r = elim r.1 [ inl a ↦ a.1 zero | inr b ↦ b.0 none ]
filler_refutes format bytes BadPad head none zero r = elim r [ inl a ↦ a.2 head.clean | inr b ↦ b.1 none ]

-- no bytes begin with a filler and are refused
filler_not_refused : (format : Format) (len xid pid : ℕ) (bytes : List ℕ) (fault : EntryFault) → BeginsFiller format len xid pid bytes → ¬ (IsRefused format fault bytes)
filler_not_refused format len xid pid bytes fault h =
    let parts = parts_of_filler format len xid pid bytes h in
    let same = parts.states.stated_len in
    let head : HasHead format bytes = head_from format bytes (subst (IsEntryLength format) (sym same) h.valid) (let room = parts.room in omega arith) parts.states.clean in
    filler_refutes format bytes fault head parts.states.stated_db (subst IsAllZero (sym parts.whole) (are_zeros (len - header_bytes format)))

-- bytes that are refused are refused in one way
one_fault : (format : Format) (bytes : List ℕ) (a b : EntryFault) → IsRefused format a bytes → IsRefused format b bytes → a ≡ b
one_fault format bytes Short Short p q = refl
one_fault format bytes Short BadLength p q = absurd (q.0 p)
one_fault format bytes Short NoNul p q = absurd (q.0.enough p)
one_fault format bytes Short BadText p q = absurd (q.0.enough p)
one_fault format bytes Short BadPad p q = absurd (elim q [ inl a ↦ a.0 p | inr b ↦ b.0.enough p ])
one_fault format bytes BadLength Short p q = absurd (p.0 q)
one_fault format bytes BadLength BadLength p q = refl
one_fault format bytes BadLength NoNul p q = absurd (q.0.fits p.1)
one_fault format bytes BadLength BadText p q = absurd (q.0.fits p.1)
one_fault format bytes BadLength BadPad p q = absurd (elim q [ inl a ↦ a.1 p.1 | inr b ↦ b.0.fits p.1 ])
one_fault format bytes NoNul Short p q = absurd (p.0.enough q)
one_fault format bytes NoNul BadLength p q = absurd (p.0.fits q.1)
one_fault format bytes NoNul NoNul p q = refl
one_fault format bytes NoNul BadText p q = elim q.1 [ inl a ↦ absurd (p.1 a.0) | inr b ↦ absurd (b.1 p.2) ]
one_fault format bytes NoNul BadPad p q = absurd (elim q [ inl a ↦ a.2 p.0.clean | inr b ↦ b.2 p.2 ])
one_fault format bytes BadText Short p q = absurd (p.0.enough q)
one_fault format bytes BadText BadLength p q = absurd (p.0.fits q.1)
one_fault format bytes BadText NoNul p q = elim p.1 [ inl a ↦ absurd (q.1 a.0) | inr b ↦ absurd (b.1 q.2) ]
one_fault format bytes BadText BadText p q = refl
one_fault format bytes BadText BadPad p q = absurd (elim q [ inl a ↦ a.2 p.0.clean | inr b ↦ elim p.1 [ inl c ↦ b.1 c.0 | inr d ↦ b.3 d.2 ] ])
one_fault format bytes BadPad Short p q = absurd (elim p [ inl a ↦ a.0 q | inr b ↦ b.0.enough q ])
one_fault format bytes BadPad BadLength p q = absurd (elim p [ inl a ↦ a.1 q.1 | inr b ↦ b.0.fits q.1 ])
one_fault format bytes BadPad NoNul p q = absurd (elim p [ inl a ↦ a.2 q.0.clean | inr b ↦ b.2 q.2 ])
one_fault format bytes BadPad BadText p q = absurd (elim p [ inl a ↦ a.2 q.0.clean | inr b ↦ elim q.1 [ inl c ↦ b.1 c.0 | inr d ↦ b.3 d.2 ] ])
one_fault format bytes BadPad BadPad p q = refl

-- the fields of two entries that the same bytes begin with
same_entry : (format : Format) (bytes : List ℕ) (len len' : ℕ) (a b : Note) (db db' xid xid' pid pid' : ℕ) → ReadsAs format bytes (AnEntry len a db xid pid) → ReadsAs format bytes (AnEntry len' b db' xid' pid')
    → AnEntry len a db xid pid ≡ AnEntry len' b db' xid' pid'
same_entry format bytes len len' a b db db' xid xid' pid pid' p q =
    let same = reads_back format a b db db' xid xid' pid pid' p.1.rest q.1.rest p.1.valid q.1.valid p.1.numbers q.1.numbers (sym p.1.spelling ∙ q.1.spelling) in
    let lens : len ≡ len' = p.0 ∙ ap (entry_length format) same.same_note ∙ sym q.0 in
    cc

-- those of two fillers
same_filler : (format : Format) (bytes : List ℕ) (len len' xid xid' pid pid' : ℕ) → ReadsAs format bytes (AFiller len xid pid) → ReadsAs format bytes (AFiller len' xid' pid')
    → AFiller len xid pid ≡ AFiller len' xid' pid'
same_filler format bytes len len' xid xid' pid pid' p q =
    let same = filler_reads_back format len len' xid xid' pid pid' p.rest q.rest p.valid.fits q.valid.fits p.numbers q.numbers (sym p.spelling ∙ q.spelling) in
    cc

-- no bytes begin with an entry and with a filler
not_both : (format : Format) (bytes : List ℕ) (note : Note) (db xid pid len xid' pid' : ℕ) → BeginsEntry format note db xid pid bytes → BeginsFiller format len xid' pid' bytes → ⊥
not_both format bytes note db xid pid len xid' pid' p q =
    none_is_filler format note db xid pid len xid' pid' p.rest q.rest p.of_database p.numbers.db_fits (sym p.spelling ∙ q.spelling)

-- bytes read as one thing at most
pub reads_as_one : ReadsAsOne
reads_as_one format bytes (AnEntry len note db xid pid) (AnEntry len' note' db' xid' pid') p q = same_entry format bytes len len' note note' db db' xid xid' pid pid' p q
reads_as_one format bytes (AnEntry len note db xid pid) (AFiller len' xid' pid') p q = absurd (not_both format bytes note db xid pid len' xid' pid' p.1 q)
reads_as_one format bytes (AnEntry len note db xid pid) (AFault fault) p q = absurd (entry_not_refused format note db xid pid bytes fault p.1 q)
reads_as_one format bytes (AFiller len xid pid) (AnEntry len' note db xid' pid') p q = absurd (not_both format bytes note db xid' pid' len xid pid q.1 p)
reads_as_one format bytes (AFiller len xid pid) (AFiller len' xid' pid') p q = same_filler format bytes len len' xid xid' pid pid' p q
reads_as_one format bytes (AFiller len xid pid) (AFault fault) p q = absurd (filler_not_refused format len xid pid bytes fault p q)
reads_as_one format bytes (AFault fault) (AnEntry len note db xid pid) p q = absurd (entry_not_refused format note db xid pid bytes fault q.1 p)
reads_as_one format bytes (AFault fault) (AFiller len xid pid) p q = absurd (filler_not_refused format len xid pid bytes fault q p)
reads_as_one format bytes (AFault a) (AFault b) p q = ap (λ (fault : EntryFault). AFault fault) (one_fault format bytes a b p q)

-- an entry whose parts are read begins the bytes
entry_reads : (format : Format) (bytes : List ℕ) → AreBytes bytes → HasHead format bytes → (number_at 4 bytes ≢ 0) → IsWhole format (number_at 0 bytes) (body format bytes)
    → ReadsAs format bytes (AnEntry (number_at 0 bytes) (note_of (body format bytes)) (number_at 4 bytes) (stated_xid format bytes) (stated_pid format bytes))
entry_reads format bytes are head some whole =
    let tells = head_tells format bytes head in (
      whole.size,
      record {
        valid = whole.valid;
        numbers = record { db_fits = number_fits 4 bytes are; xid_fits = xid_fits format bytes are; pid_fits = pid_fits format bytes are };
        of_database = omega arith;
        rest = drop (number_at 0 bytes) bytes;
        spelling = entry_from_parts format bytes are (head_within format (number_at 0 bytes) tells.0) tells.1 head.clean whole;
      },
    )

-- a filler whose parts are read begins the bytes
filler_reads : (format : Format) (bytes : List ℕ) → AreBytes bytes → HasHead format bytes → number_at 4 bytes ≡ 0 → IsAllZero (body format bytes)
    → ReadsAs format bytes (AFiller (number_at 0 bytes) (stated_xid format bytes) (stated_pid format bytes))
filler_reads format bytes are head none zero =
    let tells = head_tells format bytes head in
    record {
      valid = tells.0;
      numbers = record { db_fits = omega arith; xid_fits = xid_fits format bytes are; pid_fits = pid_fits format bytes are };
      rest = drop (number_at 0 bytes) bytes;
      spelling = filler_from_parts format bytes are (head_within format (number_at 0 bytes) tells.0) tells.1 head.clean none zero;
    }

-- what a body reads as, the bytes do
pub body_reads : (format : Format) (bytes : List ℕ) (head : Head) (answer : Reading) → AreBytes bytes → IsHeadOf format bytes head → (head.db ≢ 0) → BodyReadsAs format head (body format bytes) answer → ReadsAs format bytes answer
body_reads format bytes head (AnEntry len note db xid pid) are h some r =
    let of : number_at 4 bytes ≢ 0 = λ none. some (h.db ∙ none) in
    let whole : IsWhole format (number_at 0 bytes) (body format bytes) = subst (λ (n : ℕ). IsWhole format n (body format bytes)) h.len r.0 in
    let len-is = h.len in
    let db-is = h.db in
    let xid-is = h.xid in
    let pid-is = h.pid in
    let same : AnEntry head.len (note_of (body format bytes)) head.db head.xid head.pid ≡ AnEntry (number_at 0 bytes) (note_of (body format bytes)) (number_at 4 bytes) (stated_xid format bytes) (stated_pid format bytes) = cc in
    subst (ReadsAs format bytes) (sym (r.1 ∙ same)) (entry_reads format bytes are h.sound of whole)
body_reads format bytes head (AFiller len xid pid) are h some r = absurd r
body_reads format bytes head (AFault Short) are h some r = absurd r
body_reads format bytes head (AFault BadLength) are h some r = absurd r
body_reads format bytes head (AFault NoNul) are h some r = (h.sound, (λ none. some (h.db ∙ none)), r)
body_reads format bytes head (AFault BadText) are h some r = (h.sound, inr ((λ none. some (h.db ∙ none)), r.0, r.1))
body_reads format bytes head (AFault BadPad) are h some r = inr (h.sound, (λ none. some (h.db ∙ none)), r.0, r.1, subst (λ (n : ℕ). HasBadPadding format n (body format bytes)) h.len r.2)

-- what a filler's body reads as, the bytes do
pub filler_body_reads : (format : Format) (bytes : List ℕ) (head : Head) (answer : Reading) → AreBytes bytes → IsHeadOf format bytes head → head.db ≡ 0 → FillerReadsAs head (body format bytes) answer → ReadsAs format bytes answer
filler_body_reads format bytes head (AnEntry len note db xid pid) are h none r = absurd r
filler_body_reads format bytes head (AFiller len xid pid) are h none r =
    let len-is = h.len in
    let xid-is = h.xid in
    let pid-is = h.pid in
    let same : AFiller head.len head.xid head.pid ≡ AFiller (number_at 0 bytes) (stated_xid format bytes) (stated_pid format bytes) = cc in
    subst (ReadsAs format bytes) (sym (r.1 ∙ same)) (filler_reads format bytes are h.sound (sym h.db ∙ none) r.0)
filler_body_reads format bytes head (AFault Short) are h none r = absurd r
filler_body_reads format bytes head (AFault BadLength) are h none r = absurd r
filler_body_reads format bytes head (AFault NoNul) are h none r = absurd r
filler_body_reads format bytes head (AFault BadText) are h none r = (h.sound, inl (sym h.db ∙ none, r))
filler_body_reads format bytes head (AFault BadPad) are h none r = absurd r

-- an answer that tells a fault is that fault
told_fault : (answer : Result EntryView EntryFault) (fault : EntryFault) → told answer ≡ AFault fault → answer ≡ Err fault
told_fault (Ok (Entry len db xid pid channel payload)) fault e = absurd (cc)
told_fault (Ok (Filler len xid pid)) fault e = absurd (cc)
told_fault (Err other) fault e = let same : other ≡ fault = cc in cc

-- an answer tells just what the bytes read as
answers : (format : Format) (bytes : List ℕ) (answer : Result EntryView EntryFault) → ReadsAs format bytes (told answer) → (reading : Reading) → (told answer ≡ reading) ↔ ReadsAs format bytes reading
answers format bytes answer r reading = ((λ e. subst (ReadsAs format bytes) e r), (λ other. reads_as_one format bytes (told answer) reading r other))

-- an answer is a fault just where the bytes are refused so
refuses : (format : Format) (bytes : List ℕ) (answer : Result EntryView EntryFault) → ReadsAs format bytes (told answer) → (fault : EntryFault) → (answer ≡ Err fault) ↔ IsRefused format fault bytes
refuses format bytes answer r fault =
    ((λ e. subst (ReadsAs format bytes) (ap told e) r), (λ other. told_fault answer fault (reads_as_one format bytes (told answer) (AFault fault) r other)))

-- all that is promised of an answer
pub record IsExact (format : Format) (bytes : List ℕ) (answer : Result EntryView EntryFault) : Type 0 where
  pub entry : (len : ℕ) (note : Note) (db xid pid : ℕ) → (told answer ≡ AnEntry len note db xid pid) ↔ ((len ≡ entry_length format note) × BeginsEntry format note db xid pid bytes)
  pub filler : (len xid pid : ℕ) → (told answer ≡ AFiller len xid pid) ↔ BeginsFiller format len xid pid bytes
  pub refused : (fault : EntryFault) → (answer ≡ Err fault) ↔ IsRefused format fault bytes

-- an answer that reads the bytes as the format says is the exact one
pub exact : (format : Format) (bytes : List ℕ) (answer : Result EntryView EntryFault) → ReadsAs format bytes (told answer) → IsExact format bytes answer
exact format bytes answer r = record {
  entry = λ len note db xid pid. answers format bytes answer r (AnEntry len note db xid pid);
  filler = λ len xid pid. answers format bytes answer r (AFiller len xid pid);
  refused = refuses format bytes answer r;
}
