-- The lines of a journal give it back, whatever follows them.
use Rattle.std.proofs.Common.{◌≡◌, ℕ, ◌+◌, ◌^◌, ◌<◌, ◌≤◌, List, [], ◌∷◌, ◌++◌, length, map, get_or, codes, decimal, sym, ap, ◌∙◌, refl, subst, arith, append_assoc}
use Rattle.std.specs.Prelude.{All, Any}
use Rattle.std.proofs.lemmas.List.{append_cancel_left, get_or_default}
use Rattle.std.proofs.lemmas.List.Concat.{flat_map-append}
use Rattle.std.proofs.lemmas.List.Elements.{All-head, All-tail}
use Rattle.pgn_base.specs.declared.limits.TheConstants.{FIRST_XID, NOTE_LINES_MAX, SECTIONS_MAX}
use Rattle.pgn_base.specs.declared.note.Note.{Note}
use Rattle.pgn_journal.specs.declared.tx.Tx.{Tx}
use Rattle.pgn_journal.specs.declared.tx.Fate.{Fate}
use Rattle.pgn_journal.specs.declared.tx.Fate.TheVariants.{Committed, Aborted}
use Rattle.pgn_language.specs.declared.scenario.Section.{Section}
use Rattle.pgn_language.specs.Inputs.{AreNumbered}
use Rattle.pgn_journal.specs.Journal.{IsFinished, IsQueued}
use Rattle.pgn_model.specs.Text.{joined, note_line, fate_text, entry_lines, entries_lines, journal_lines}
use Rattle.pgn_unique.specs.Laws.{IsOf, IsJournalOf, JournalIsUnique}
use Rattle.pgn_reading.proofs.NumberLaws.{number-at}
use Rattle.pgn_reading.proofs.FieldLaws.{EndsNumber, number-ends, line-feed, note-ends}

-- lines one after another
pub joined-append : (lines more : List (List ℕ)) → joined (lines ++ more) ≡ joined lines ++ joined more
joined-append lines more = flat_map-append (λ (line : List ℕ). line ++ 10 ∷ []) lines more

-- a line, those that follow it, and whatever follows them
pub joined-cons : (line : List ℕ) (lines : List (List ℕ)) (rest : List ℕ) → joined (line ∷ lines) ++ rest ≡ line ++ 10 ∷ (joined lines ++ rest)
joined-cons line lines rest = append_assoc (line ++ 10 ∷ []) (joined lines) rest ∙ append_assoc line (10 ∷ []) (joined lines ++ rest)

-- the lines of as many notifications
notes-end : (notes others : List Note) (rest more : List ℕ) → length notes ≡ length others → joined (map note_line notes) ++ rest ≡ joined (map note_line others) ++ more → (notes ≡ others) × (rest ≡ more)
notes-end [] [] rest more as_many e = (refl, e)
notes-end [] (other ∷ others) rest more as_many e = absurd (omega (arith, as_many))
notes-end (note ∷ notes) [] rest more as_many e = absurd (omega (arith, as_many))
notes-end (note ∷ notes) (other ∷ others) rest more as_many e =
    let lines : List ℕ = joined (map note_line notes) ++ rest in
    let after : List ℕ = joined (map note_line others) ++ more in
    let one = note-ends note other lines after (sym (joined-cons (note_line note) (map note_line notes) rest) ∙ e ∙ joined-cons (note_line other) (map note_line others) more) in
    let tail = notes-end notes others rest more (omega (arith, as_many)) one.1 in
    let first : note ≡ other = one.0 in
    let others_too : notes ≡ others = tail.0 in
    (cc, tail.1)

-- pieces one after another
pub in-two : (a b rest : List ℕ) → (a ++ b) ++ rest ≡ a ++ (b ++ rest)
in-two a b rest = append_assoc a b rest

-- a text before four others joined, taken apart from the left
pub in-four : (a b c d rest : List ℕ) → (a ++ b ++ c ++ d) ++ rest ≡ a ++ (b ++ (c ++ (d ++ rest)))
in-four a b c d rest = simp append_assoc

-- how a transaction ended: the first byte is no digit
fate-ends : (fate : Fate) (queued count : ℕ) (rest : List ℕ) → EndsNumber (fate_text fate queued count ++ rest)
fate-ends Committed queued count rest = let low : 32 < 48 = omega arith in low
fate-ends Aborted queued count rest = let low : 32 < 48 = omega arith in low

-- so many were queued, of so many
record FateFits (queued count : ℕ) : Type 0 where
  few : count < 2 ^ 64
  fewer : queued ≤ count

-- what a fate shows
record SameFate (fate other : Fate) (queued queued' count count' : ℕ) (rest more : List ℕ) : Type 0 where
  same : fate ≡ other
  as_many : count ≡ count'
  as_queued : fate ≡ Aborted → queued ≡ queued'
  follows : rest ≡ more

fates-end : (fate other : Fate) (queued queued' count count' : ℕ) (rest more : List ℕ) → FateFits queued count → FateFits queued' count' → fate_text fate queued count ++ 10 ∷ rest ≡ fate_text other queued' count' ++ 10 ∷ more
    → SameFate fate other queued queued' count count' rest more
fates-end Committed Committed queued queued' count count' rest more h k e =
    let spelled : decimal count ++ 10 ∷ rest ≡ decimal count' ++ 10 ∷ more = append_cancel_left (codes " commit ") (decimal count ++ 10 ∷ rest) (decimal count' ++ 10 ∷ more) e in
    let got = number-ends count count' (10 ∷ rest) (10 ∷ more) h.few k.few (line-feed rest) (line-feed more) spelled in
    record { same = refl; as_many = got.0; as_queued = λ h. absurd (let none : ⊥ = cc in none); follows = append_cancel_left (10 ∷ []) rest more got.1 }
fates-end Committed Aborted queued queued' count count' rest more h k e = absurd (let apart : 99 ≡ 97 = ap (λ (bytes : List ℕ). get_or bytes 1 0) e in omega (arith, apart))
fates-end Aborted Committed queued queued' count count' rest more h k e = absurd (let apart : 97 ≡ 99 = ap (λ (bytes : List ℕ). get_or bytes 1 0) e in omega (arith, apart))
fates-end Aborted Aborted queued queued' count count' rest more h k e =
    let behind : List ℕ = codes " of " ++ (decimal count ++ 10 ∷ rest) in
    let after : List ℕ = codes " of " ++ (decimal count' ++ 10 ∷ more) in
    let spelled : codes " abort " ++ (decimal queued ++ behind) ≡ codes " abort " ++ (decimal queued' ++ after) =
    sym (in-four (codes " abort ") (decimal queued) (codes " of ") (decimal count) (10 ∷ rest)) ∙ e ∙ in-four (codes " abort ") (decimal queued') (codes " of ") (decimal count') (10 ∷ more) in
    let low : 32 < 48 = omega arith in
    let one = number-ends queued queued' behind after (omega (arith, h.few, h.fewer)) (omega (arith, k.few, k.fewer)) low low (append_cancel_left (codes " abort ") (decimal queued ++ behind) (decimal queued' ++ after) spelled) in
    let got = number-ends count count' (10 ∷ rest) (10 ∷ more) h.few k.few (line-feed rest) (line-feed more) (append_cancel_left (codes " of ") (decimal count ++ 10 ∷ rest) (decimal count' ++ 10 ∷ more) one.1) in
    record { same = refl; as_many = got.0; as_queued = λ h. one.0; follows = append_cancel_left (10 ∷ []) rest more got.1 }

-- the lines of a transaction, and what follows them
entry-spelled : (x : ℕ) (tx : Tx) (rest : List ℕ)
    → joined (entry_lines x tx) ++ rest ≡ (codes "xid " ++ decimal x) ++ (codes " session " ++ (decimal tx.session ++ (fate_text tx.fate tx.queued (length tx.notes) ++ 10 ∷ (joined (map note_line tx.notes) ++ rest))))
entry-spelled x tx rest =
    let lines : List ℕ = joined (map note_line tx.notes) ++ rest in
    joined-cons (codes "xid " ++ decimal x ++ codes " session " ++ decimal tx.session ++ fate_text tx.fate tx.queued (length tx.notes)) (map note_line tx.notes) rest
    ∙ in-four (codes "xid " ++ decimal x) (codes " session ") (decimal tx.session) (fate_text tx.fate tx.queued (length tx.notes)) (10 ∷ lines)

-- a transaction whose database its session tells, and whose numbers are not too great
record IsTold (database : ℕ → ℕ → Type 0) (tx : Tx) : Type 0 where
  finished : IsFinished tx
  own : database tx.session tx.db
  few_notes : length tx.notes < 2 ^ 64
  session : tx.session < 2 ^ 64

same-tx : (a b : Tx) → a.session ≡ b.session → a.db ≡ b.db → a.notes ≡ b.notes → a.queued ≡ b.queued → a.fate ≡ b.fate → a ≡ b
same-tx a b e1 e2 e3 e4 e5 =
    ap (λ (n : ℕ). let t : Tx = record { session = n; db = a.db; notes = a.notes; queued = a.queued; fate = a.fate } in t) e1
    ∙ ap (λ (n : ℕ). let t : Tx = record { session = b.session; db = n; notes = a.notes; queued = a.queued; fate = a.fate } in t) e2
    ∙ ap (λ (n : List Note). let t : Tx = record { session = b.session; db = b.db; notes = n; queued = a.queued; fate = a.fate } in t) e3
    ∙ ap (λ (n : ℕ). let t : Tx = record { session = b.session; db = b.db; notes = b.notes; queued = n; fate = a.fate } in t) e4
    ∙ ap (λ (f : Fate). let t : Tx = record { session = b.session; db = b.db; notes = b.notes; queued = b.queued; fate = f } in t) e5

fate-fits : (fate : Fate) (queued count : ℕ) → IsQueued fate queued count → count < 2 ^ 64 → FateFits queued count
fate-fits Committed queued count h few = record { few = few; fewer = omega (arith, h) }
fate-fits Aborted queued count h few = record { few = few; fewer = omega (arith, h) }

-- as many are queued as the lines tell
same-queued : (fate : Fate) (queued queued' count count' : ℕ) → IsQueued fate queued count → IsQueued fate queued' count' → count ≡ count' → (fate ≡ Aborted → queued ≡ queued') → queued ≡ queued'
same-queued Committed queued queued' count count' h k as_many as_queued = h ∙ as_many ∙ sym k
same-queued Aborted queued queued' count count' h k as_many as_queued = as_queued refl

-- a session has one database
abbrev IsOneEach : (ℕ → ℕ → Type 0) → Type 0
IsOneEach database = (session db db' : ℕ) → database session db → database session db' → db ≡ db'

entry-ends : (database : ℕ → ℕ → Type 0) (x : ℕ) (tx other : Tx) (rest more : List ℕ) → IsOneEach database → IsTold database tx → IsTold database other
    → joined (entry_lines x tx) ++ rest ≡ joined (entry_lines x other) ++ more → (tx ≡ other) × (rest ≡ more)
entry-ends database x tx other rest more one h k e =
    let lines : List ℕ = joined (map note_line tx.notes) ++ rest in
    let lines' : List ℕ = joined (map note_line other.notes) ++ more in
    let fate : List ℕ = fate_text tx.fate tx.queued (length tx.notes) ++ 10 ∷ lines in
    let fate' : List ℕ = fate_text other.fate other.queued (length other.notes) ++ 10 ∷ lines' in
    let spelled : codes " session " ++ (decimal tx.session ++ fate) ≡ codes " session " ++ (decimal other.session ++ fate') =
    append_cancel_left (codes "xid " ++ decimal x) (codes " session " ++ (decimal tx.session ++ fate)) (codes " session " ++ (decimal other.session ++ fate')) (sym (entry-spelled x tx rest) ∙ e ∙ entry-spelled x other more) in
    let sessions = number-ends tx.session other.session fate fate' h.session k.session (fate-ends tx.fate tx.queued (length tx.notes) (10 ∷ lines)) (fate-ends other.fate other.queued (length other.notes) (10 ∷ lines'))
    (append_cancel_left (codes " session ") (decimal tx.session ++ fate) (decimal other.session ++ fate') spelled) in
    let f = fates-end tx.fate other.fate tx.queued other.queued (length tx.notes) (length other.notes) lines lines' (fate-fits tx.fate tx.queued (length tx.notes) h.finished.queueing h.few_notes)
    (fate-fits other.fate other.queued (length other.notes) k.finished.queueing k.few_notes) sessions.1 in
    let notes = notes-end tx.notes other.notes rest more f.as_many f.follows in
    let queueing : IsQueued tx.fate other.queued (length other.notes) = subst (λ (g : Fate). IsQueued g other.queued (length other.notes)) (sym f.same) k.finished.queueing in
    let own : database tx.session other.db = subst (λ (n : ℕ). database n other.db) (sym sessions.0) k.own in
    (same-tx tx other sessions.0 (one tx.session tx.db other.db h.own own) notes.0 (same-queued tx.fate tx.queued other.queued (length tx.notes) (length other.notes) h.finished.queueing queueing f.as_many f.as_queued) f.same, notes.1)

-- the lines of as many transactions
entries-end : (database : ℕ → ℕ → Type 0) (x : ℕ) (txs others : List Tx) (rest more : List ℕ) → IsOneEach database → All (IsTold database) txs → All (IsTold database) others → length txs ≡ length others
    → joined (entries_lines x txs) ++ rest ≡ joined (entries_lines x others) ++ more → (txs ≡ others) × (rest ≡ more)
entries-end database x [] [] rest more one h k as_many e = (refl, e)
entries-end database x [] (other ∷ others) rest more one h k as_many e = absurd (omega (arith, as_many))
entries-end database x (tx ∷ txs) [] rest more one h k as_many e = absurd (omega (arith, as_many))
entries-end database x (tx ∷ txs) (other ∷ others) rest more one h k as_many e =
    let lines : List ℕ = joined (entries_lines (x + 1) txs) ++ rest in
    let lines' : List ℕ = joined (entries_lines (x + 1) others) ++ more in
    let head = entry-ends database x tx other lines lines' one (All-head (IsTold database) tx txs h) (All-head (IsTold database) other others k)
    (sym (apart (entry_lines x tx) (entries_lines (x + 1) txs) rest) ∙ e ∙ apart (entry_lines x other) (entries_lines (x + 1) others) more) in
    let tail = entries-end database (x + 1) txs others rest more one (All-tail (IsTold database) tx txs h) (All-tail (IsTold database) other others k) (omega (arith, as_many)) head.1 in
    let first : tx ≡ other = head.0 in
    let behind : txs ≡ others = tail.0 in
    (cc, tail.1)
  where
    apart : (lines behind : List (List ℕ)) (rest : List ℕ) → joined (lines ++ behind) ++ rest ≡ joined lines ++ (joined behind ++ rest)
    apart lines behind rest = ap (λ (bytes : List ℕ). bytes ++ rest) (joined-append lines behind) ∙ append_assoc (joined lines) (joined behind) rest

-- the lines of a journal
journal-ends : (database : ℕ → ℕ → Type 0) (journal other : List Tx) (rest more : List ℕ) → IsOneEach database → All (IsTold database) journal → All (IsTold database) other → length journal < 2 ^ 64 → length other < 2 ^ 64
    → joined (journal_lines journal) ++ rest ≡ joined (journal_lines other) ++ more → (journal ≡ other) × (rest ≡ more)
journal-ends database journal other rest more one h k few few' e =
    let lines : List ℕ = joined (entries_lines FIRST_XID journal) ++ rest in
    let lines' : List ℕ = joined (entries_lines FIRST_XID other) ++ more in
    let spelled : codes "journal " ++ (decimal (length journal) ++ 10 ∷ lines) ≡ codes "journal " ++ (decimal (length other) ++ 10 ∷ lines') =
    sym (joined-cons (codes "journal " ++ decimal (length journal)) (entries_lines FIRST_XID journal) rest) ∙ e ∙ joined-cons (codes "journal " ++ decimal (length other)) (entries_lines FIRST_XID other) more in
    let count = number-ends (length journal) (length other) (10 ∷ lines) (10 ∷ lines') few few' (line-feed lines) (line-feed lines')
    (append_cancel_left (codes "journal ") (decimal (length journal) ++ 10 ∷ lines) (decimal (length other) ++ 10 ∷ lines') spelled) in
    entries-end database FIRST_XID journal other rest more one h k count.0 (append_cancel_left (10 ∷ []) lines lines' count.1)

-- some section has this number and this database
abbrev Names : List Section → ℕ → ℕ → Type 0
Names sections session db = Any (λ section. (section.no ≡ session) × (section.db ≡ db)) sections

one-database : (sections : List Section) → AreNumbered 1 sections → IsOneEach (Names sections)
one-database sections numbered session db db' (i, a, within, is, same) (j, b, within', is', same') =
    let first : (get_or sections i a).no ≡ 1 + i = number-at 1 sections i a numbered within in
    let second : (get_or sections j b).no ≡ 1 + j = number-at 1 sections j b numbered within' in
    let place : i ≡ j = omega (arith, first, second, ap (λ (s : Section). s.no) is, ap (λ (s : Section). s.no) is', same.0, same'.0) in
    let there : get_or sections i a ≡ b = ap (λ (n : ℕ). get_or sections n a) place ∙ get_or_default sections j a b within' ∙ is' in
    sym same.1 ∙ ap (λ (s : Section). s.db) (sym is ∙ there) ∙ same'.1

-- a session that a section has is not numbered too high
few-sessions : (sections : List Section) (session db : ℕ) → AreNumbered 1 sections → length sections ≤ SECTIONS_MAX → Names sections session db → session ≤ SECTIONS_MAX
few-sessions sections session db numbered few (i, a, within, is, same) =
    omega (arith, few, within, number-at 1 sections i a numbered within, ap (λ (s : Section). s.no) is, same.0)

all-told : (sections : List Section) (journal : List Tx) → AreNumbered 1 sections → length sections ≤ SECTIONS_MAX → IsJournalOf sections journal → All (IsTold (Names sections)) journal
all-told sections journal numbered few h k d lt =
    let tx : Tx = get_or journal k d in
    let named : Any (IsOf tx) sections = h.named k d lt in
    let own : Names sections tx.session tx.db = (named.0, named.1, named.2, named.3, (named.4.session, named.4.database)) in
    let notes : length tx.notes ≤ NOTE_LINES_MAX = h.short.few_notes k d lt in
    record { finished = h.finished k d lt; own = own; few_notes = omega (arith, notes); session = omega (arith, few-sessions sections tx.session tx.db numbered few own) }

-- the lines of a journal tell it, and what stands behind them
pub journal-unique : JournalIsUnique
journal-unique scenario journal other rest more sound h k e =
    journal-ends (Names scenario.sections) journal other rest more (one-database scenario.sections sound.numbered) (all-told scenario.sections journal sound.numbered sound.few h) (all-told scenario.sections other sound.numbered sound.few k)
    (omega (arith, h.short.few)) (omega (arith, k.short.few)) e
