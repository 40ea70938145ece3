-- From each place in an output some output goes on: with transactions that have no notifications, and sections without items.
use Rattle.std.proofs.Common.{◌≡◌, ℕ, zero, suc, ◌+◌, ◌-◌, List, [], ◌∷◌, ◌++◌, length, map, replicate, None, codes, decimal, sym, ap, ◌∙◌, refl, subst, arith, append_assoc, append-nil}
use Rattle.std.specs.Prelude.{flat_map}
use Rattle.std.proofs.lemmas.List.{length-append, length-replicate, map-append}
use Rattle.std.proofs.lemmas.List.Elements.{All-nil, All-cons, All-append, All-replicate}
use Rattle.pgn_base.specs.declared.limits.TheConstants.{FIRST_XID}
use Rattle.pgn_base.specs.declared.note.Note.{Note}
use Rattle.pgn_journal.specs.declared.tx.Tx.{Tx}
use Rattle.pgn_journal.specs.declared.tx.Fate.TheVariants.{Committed}
use Rattle.pgn_journal.specs.Journal.{next_xid}
use Rattle.pgn_journal.proofs.PlainNotes.{plain-note}
use Rattle.pgn_language.specs.declared.scenario.Section.{Section}
use Rattle.pgn_language.specs.Inputs.{IsOneLine}
use Rattle.pgn_model.specs.declared.trace.Trace.{Trace}
use Rattle.pgn_model.specs.Text.{note_line, entry_lines, entries_lines, journal_lines, item_lines, end_line, section_line, trace_lines, traces_lines, text_lines}
use Rattle.pgn_reading.specs.Form.{IsLineNote, IsReadItem, IsReadTrace, database_of, IsReadQueued, IsReadTx, EachSection, BeginOutput}
use Rattle.pgn_reading.specs.GoesOnLaws.{BeginsShorter, BeginsWhole, JournalGoesOn, EntryGoesOn, SectionGoesOn, entry_head}

-- A trace without items.

still : Section → Trace
still section = record { session = section.no; db = section.db; items = []; last = None }

still-read : (section : Section) → IsReadTrace section (still section)
unfolding still
still-read section = record { session = refl; database = refl; in_order = tt; items = All-nil IsReadItem; apart = tt; last = tt }

all-still : (sections : List Section) → EachSection IsReadTrace sections (map still sections)
all-still [] = tt
all-still (section ∷ sections) = (still-read section, all-still sections)

-- sections in front with their traces, and those behind with theirs
pub each-append : (front back : List Section) (done left : List Trace) → EachSection IsReadTrace front done → EachSection IsReadTrace back left → EachSection IsReadTrace (front ++ back) (done ++ left)
each-append [] back [] left h k = k
each-append [] back (trace ∷ done) left h k = absurd h
each-append (section ∷ front) back [] left h k = absurd h
each-append (section ∷ front) back (trace ∷ done) left h k = (h.0, each-append front back done left h.1 k)

-- the lines of the sections in front, and then those of the ones behind
pub traces-append : (front back : List Section) (done left : List Trace) → EachSection IsReadTrace front done → traces_lines (front ++ back) (done ++ left) ≡ traces_lines front done ++ traces_lines back left
traces-append [] back [] left h = refl
traces-append [] back (trace ∷ done) left h = absurd h
traces-append (section ∷ front) back [] left h = absurd h
traces-append (section ∷ front) back (trace ∷ done) left h =
    ap (λ (lines : List (List ℕ)). trace_lines section trace ++ lines) (traces-append front back done left h.1) ∙ sym (append_assoc (trace_lines section trace) (traces_lines front done) (traces_lines back left))

-- A notification and a transaction that fill up.

short_note : Note
short_note = record { channel = codes "c"; payload = [] }

short-read : IsLineNote short_note
unfolding short_note
short-read = record { note = plain-note short_note refl refl (omega arith) (omega arith) (omega arith); one_line = (letter, none) }
  where
    letter : IsOneLine (codes "c")
    letter (zero, lt, is) = omega (arith, is)
    letter (suc k, lt, is) = omega (arith, lt)

    none : IsOneLine []
    none there = omega (arith, there.1)

filler : List Section → Tx
filler sections = record { session = 1; db = database_of sections 1; notes = []; queued = 0; fate = Committed }

filler-read : (sections : List Section) → IsReadTx sections (filler sections)
unfolding filler
filler-read sections = record { session = (omega arith, omega arith); database = refl; queueing = refl; few = omega arith; notes = All-nil IsLineNote }

-- the lines of transactions in front, and then those of the ones behind, numbered on
pub entries-append : (x : ℕ) (front back : List Tx) → entries_lines x (front ++ back) ≡ entries_lines x front ++ entries_lines (x + length front) back
entries-append x [] back = ap (λ (n : ℕ). entries_lines n back) (omega arith)
entries-append x (tx ∷ front) back =
    ap (λ (lines : List (List ℕ)). entry_lines x tx ++ lines) (entries-append (x + 1) front back)
    ∙ ap (λ (n : ℕ). entry_lines x tx ++ (entries_lines (x + 1) front ++ entries_lines n back)) (omega arith)
    ∙ sym (append_assoc (entry_lines x tx) (entries_lines (x + 1) front) (entries_lines (x + length (tx ∷ front)) back))

-- fewer lines of what begins an output begin one too
pub begins-shorter : BeginsShorter
begins-shorter scenario lines more h = record { journal = h.journal; traces = h.traces; rest = more ++ h.rest; readable = h.readable; goes_on = h.goes_on ∙ append_assoc lines more h.rest }

-- a readable text begins an output
pub begins-whole : BeginsWhole
begins-whole scenario journal traces h = record { journal = journal; traces = traces; rest = []; readable = h; goes_on = sym (append-nil (text_lines scenario journal traces)) }

-- a journal's first line, and lines of some of the transactions that it tells, begin an output
pub journal-goes_on : JournalGoesOn
journal-goes_on scenario count journal few fits h =
    let fill : List Tx = replicate (count - length journal) (filler scenario.sections) in
    let all : List Tx = journal ++ fill in
    let many : length all ≡ count = omega (arith, fits, length-append journal fill, length-replicate (count - length journal) (filler scenario.sections)) in
    let traces : List Trace = map still scenario.sections in
    let rest : List (List ℕ) = entries_lines (FIRST_XID + length journal) fill ++ traces_lines scenario.sections traces in
    record {
      journal = all;
      traces = traces;
      rest = rest;
      readable = record {
        few = omega (arith, few, many);
        entries = All-append (IsReadTx scenario.sections) journal fill h (All-replicate (IsReadTx scenario.sections) (count - length journal) (filler scenario.sections) (filler-read scenario.sections));
        each = all-still scenario.sections;
      };
      goes_on = ap (λ (n : ℕ). (codes "journal " ++ decimal n) ∷ (entries_lines FIRST_XID all ++ traces_lines scenario.sections traces)) many
          ∙ ap (λ (lines : List (List ℕ)). (codes "journal " ++ decimal count) ∷ (lines ++ traces_lines scenario.sections traces)) (entries-append FIRST_XID journal fill)
          ∙ ap (λ (lines : List (List ℕ)). (codes "journal " ++ decimal count) ∷ lines) (append_assoc (entries_lines FIRST_XID journal) (entries_lines (FIRST_XID + length journal) fill) (traces_lines scenario.sections traces));
    }

-- so do these, a transaction's first line, and lines of some of the notifications that it tells
pub entry-goes_on : EntryGoesOn
entry-goes_on scenario count journal session queued many fate notes few fits h number bound queueing as_many read =
    let sections : List Section = scenario.sections in
    let fill : List Note = replicate (many - length notes) short_note in
    let all : List Note = notes ++ fill in
    let long : length all ≡ many = omega (arith, as_many, length-append notes fill, length-replicate (many - length notes) short_note) in
    let tx : Tx = record { session = session; db = database_of sections session; notes = all; queued = queued; fate = fate } in
    let tx_read : IsReadTx sections tx =
    record {
      session = number;
      database = refl;
      queueing = subst (λ (n : ℕ). IsReadQueued fate queued n) (sym long) queueing;
      few = omega (arith, bound, long);
      notes = All-append IsLineNote notes fill read (All-replicate IsLineNote (many - length notes) short_note short-read);
    } in
    let whole : List Tx = journal ++ tx ∷ [] in
    let first : List ℕ = codes "journal " ++ decimal count in
    let before : List (List ℕ) = entries_lines FIRST_XID journal in
    let head : List ℕ = entry_head (next_xid journal) session fate queued many in
    let goes : BeginOutput scenario (first ∷ entries_lines FIRST_XID whole) =
    journal-goes_on scenario count whole few (omega (arith, fits, length-append journal (tx ∷ []))) (All-append (IsReadTx sections) journal (tx ∷ []) h (All-cons (IsReadTx sections) tx [] tx_read (All-nil (IsReadTx sections)))) in
    let spelled : entries_lines FIRST_XID whole ≡ (before ++ head ∷ map note_line notes) ++ map note_line fill =
    entries-append FIRST_XID journal (tx ∷ [])
    ∙ ap (λ (lines : List (List ℕ)). before ++ lines) (append-nil (entry_lines (next_xid journal) tx))
    ∙ ap (λ (n : ℕ). before ++ entry_head (next_xid journal) session fate queued n ∷ map note_line all) long
    ∙ ap (λ (lines : List (List ℕ)). before ++ head ∷ lines) (map-append note_line notes fill)
    ∙ sym (append_assoc before (head ∷ map note_line notes) (map note_line fill)) in
    begins-shorter scenario (first ∷ (before ++ head ∷ map note_line notes)) (map note_line fill) (subst (λ (lines : List (List ℕ)). BeginOutput scenario (first ∷ lines)) spelled goes)

-- so do the lines of a journal, of whole sections, and of the front of one more
pub section-goes_on : SectionGoesOn
section-goes_on scenario journal front back section done trace few h split before read =
    let left : List Trace = trace ∷ map still back in
    let items : List (List ℕ) = flat_map (item_lines section.lines) trace.items in
    let lines : List (List ℕ) = traces_lines front done in
    let rest : List (List ℕ) = end_line trace.last ∷ traces_lines back (map still back) in
    let each : EachSection IsReadTrace (front ++ section ∷ back) (done ++ left) = each-append front (section ∷ back) done left before (read, all-still back) in
    record {
      journal = journal;
      traces = done ++ left;
      rest = rest;
      readable = record { few = few; entries = h; each = subst (λ (sections : List Section). EachSection IsReadTrace sections (done ++ left)) (sym split) each };
      goes_on = ap (λ (sections : List Section). journal_lines journal ++ traces_lines sections (done ++ left)) split
          ∙ ap (λ (all : List (List ℕ)). journal_lines journal ++ all) (traces-append front (section ∷ back) done left before)
          ∙ ap (λ (all : List (List ℕ)). journal_lines journal ++ (lines ++ section_line section ∷ all)) (append_assoc items (end_line trace.last ∷ []) (traces_lines back (map still back)))
          ∙ ap (λ (all : List (List ℕ)). journal_lines journal ++ all) (sym (append_assoc lines (section_line section ∷ items) rest))
          ∙ sym (append_assoc (journal_lines journal) (lines ++ section_line section ∷ items) rest);
    }
