-- A text that is a legal run's, and texts that break the form.
use Rattle.std.proofs.Common.{◌≡◌, ℕ, zero, suc, ◌+◌, ◌^◌, ◌<◌, ◌≤◌, Bool, true, false, cond, nat_eq, List, [], ◌∷◌, ◌++◌, length, get_or, codes, decimal, sym, ap, ◌∙◌, refl, arith, rules, append_assoc, append-nil}
use Rattle.std.specs.Prelude.{All, flat_map}
use Rattle.std.specs.Fmt.{digits}
use Rattle.std.proofs.Math.Seq.{get_or-append_seam}
use Rattle.std.proofs.lemmas.List.{append_cancel_left, length-append}
use Rattle.std.proofs.lemmas.List.Elements.{All-nil, All-cons, All-head}
use Rattle.std.proofs.lemmas.Fmt.{first_decimal}
use Rattle.pgn_base.specs.declared.limits.TheConstants.{FIRST_XID}
use Rattle.pgn_base.specs.declared.note.Delivery.{Delivery}
use Rattle.pgn_base.specs.Notes.{IsNote}
use Rattle.pgn_base.specs.declared.command.Command.TheVariants as command
use Rattle.pgn_journal.specs.declared.tx.Tx.{Tx}
use Rattle.pgn_journal.specs.Journal.{is_committed_in}
use Rattle.pgn_journal.specs.Near.{Near}
use Rattle.pgn_journal.proofs.PlainNotes.{plain-note}
use Rattle.pgn_journal.proofs.NearLaws.{near-itself}
use Rattle.pgn_language.specs.declared.scenario.Act.TheVariants.{Run}
use Rattle.pgn_language.specs.declared.scenario.ScriptLine.{ScriptLine}
use Rattle.pgn_language.specs.Inputs.{IsOneLine, IsOneLineAct, IsSoundSection, IsSound}
use Rattle.pgn_model.specs.declared.trace.Trace.{Trace}
use Rattle.pgn_model.specs.Walk.{default_settings}
use Rattle.pgn_model.specs.Legal.{Legal}
use Rattle.pgn_model.specs.Text.{joined, journal_lines, entries_lines, traces_lines, text_lines, text, item_lines, end_line}
use Rattle.pgn_reading.specs.Form.{IsLineNote, IsLineDelivery, IsReadTrace, EachSection, IsReadable, IsReading, BeginOutput, BreaksForm, Broken, Short, whole_lines}
use Rattle.pgn_reading.specs.Blame.{IsLegalText, IsLeastBlamed}
use Rattle.pgn_examples.specs.Reading.{self, self_notify, sent, note, run, run_seen, run_text, one_line_text, zero_text, unended_text, codes_x}
use Rattle.pgn_reading.proofs.OneLineLaws.{one-line}
use Rattle.pgn_reading.proofs.GoesOnLaws.{begins-shorter, begins-whole, journal-goes_on}
use Rattle.pgn_reading.proofs.BlameLaws.{least-in_form}

-- The scenario is sound.

first_line : ScriptLine
first_line = record { line = 2; text = codes "LISTEN c"; act = Run (command.Listen (codes "c")) }

second_line : ScriptLine
second_line = record { line = 3; text = codes "NOTIFY c, 'x'"; act = Run (command.Notify (note codes_x)) }

self-lines : All (λ line. IsOneLine line.text × IsOneLineAct line.act) self.lines
unfolding first_line second_line
self-lines =
    let P : ScriptLine → Type 0 = λ line. IsOneLine line.text × IsOneLineAct line.act in
    let first : P first_line = (one-line (codes "LISTEN c") refl, one-line (codes "c") refl) in
    let second : P second_line = (one-line (codes "NOTIFY c, 'x'") refl, (one-line (codes "c") refl, one-line (codes "x") refl)) in
    All-cons P first_line (second_line ∷ []) first (All-cons P second_line [] second (All-nil P))

self-sound : IsSoundSection 0 self
self-sound = record {
  flags_known = search rules;
  rising = search rules;
  quits_last = search rules;
  counted = refl;
  one_line_name = one-line self.name refl;
  one_line_texts = self-lines;
}

sound : IsSound self_notify
sound = record {
  some = omega arith;
  few = omega arith;
  numbered = (refl, tt);
  few_flags = omega arith;
  one_line_flags = All-nil IsOneLine;
  sections = All-cons (IsSoundSection 0) self [] self-sound (All-nil (IsSoundSection 0));
  few_note_lines = omega arith;
}

-- The run is legal.

sent-valid : All IsNote (note codes_x ∷ [])
sent-valid = All-cons IsNote (note codes_x) [] (plain-note (note codes_x) refl refl (omega arith) (omega arith) (omega arith)) (All-nil IsNote)

run-legal : Legal self_notify default_settings (sent codes_x) (run ∷ [])
run-legal =
    let valid : All IsNote (note codes_x ∷ []) = sent-valid in
    let first : Near default_settings.format (is_committed_in self.db) (sent codes_x) 3 3 = near-itself default_settings.format (is_committed_in self.db) (sent codes_x) 3 3 (omega arith) in
    let last : Near default_settings.format (is_committed_in self.db) (sent codes_x) 4 4 = near-itself default_settings.format (is_committed_in self.db) (sent codes_x) 4 4 (omega arith) in
    search rules

whole-shown : text self_notify (sent codes_x) (run ∷ []) ≡ run_text
unfolding digits
whole-shown = refl

-- the text of the example's run is that of a legal run
pub run-is_legal : IsLegalText self_notify default_settings run_text
run-is_legal = record { journal = sent codes_x; traces = run ∷ []; legal = run-legal; shown = whole-shown }

-- What is seen of it is readable.

run-readable : IsReadable self_notify (sent codes_x) (run_seen ∷ [])
run-readable =
    let valid : All IsNote (note codes_x ∷ []) = sent-valid in
    let sent_line : IsLineNote (note codes_x) = record { note = All-head IsNote (note codes_x) [] valid; one_line = (one-line (codes "c") refl, one-line (codes "x") refl) } in
    let received : Delivery = record { xid = 3; pid = 1001; note = note codes_x } in
    let got : IsLineDelivery received = record { xid = (omega arith, omega arith); pid = omega arith; note = sent_line } in
    search rules

-- Each output of the scenario has three lines or more, and ends with LF.

some-lines : (journal : List Tx) (traces : List Trace) → EachSection IsReadTrace self_notify.sections traces → 3 ≤ length (text_lines self_notify journal traces)
some-lines journal [] h = absurd h
some-lines journal (trace ∷ []) h = omega (arith, length-append (journal_lines journal) (traces_lines self_notify.sections (trace ∷ [])), some-trace trace)
  where
    some-trace : (trace : Trace) → 2 ≤ length (traces_lines self_notify.sections (trace ∷ []))
    some-trace trace =
        let items : List (List ℕ) = flat_map (item_lines self.lines) trace.items in
        omega (arith, length-append items (end_line trace.last ∷ []), length-append (items ++ end_line trace.last ∷ []) [])
some-lines journal (trace ∷ other ∷ traces) h = absurd h.1

-- how many LF stand in a text
feeds : List ℕ → ℕ
feeds [] = 0
feeds (b ∷ bytes) = cond (nat_eq b 10) (1 + feeds bytes) (feeds bytes)

feeds-behind : (line bytes : List ℕ) → 1 + feeds bytes ≤ feeds (line ++ 10 ∷ bytes)
unfolding feeds
feeds-behind [] bytes = omega arith
feeds-behind (b ∷ line) bytes = by (nat_eq b 10) (feeds-behind line bytes)
  where
    by : (t : Bool) → 1 + feeds bytes ≤ feeds (line ++ 10 ∷ bytes) → 1 + feeds bytes ≤ cond t (1 + feeds (line ++ 10 ∷ bytes)) (feeds (line ++ 10 ∷ bytes))
    by true h = omega (arith, h)
    by false h = h

feeds-lines : (lines : List (List ℕ)) → length lines ≤ feeds (joined lines)
unfolding feeds
feeds-lines [] = omega arith
feeds-lines (line ∷ lines) = omega (arith, feeds-lines lines, feeds-behind line (joined lines), ap feeds (append_assoc line (10 ∷ []) (joined lines)))

one-feed : feeds one_line_text ≡ 1
unfolding feeds
one-feed = refl

-- A first line alone.

no-reading : (journal : List Tx) (traces : List Trace) → IsReading self_notify one_line_text journal traces → ⊥
no-reading journal traces r =
    omega (arith, some-lines journal traces r.readable.each, feeds-lines (text_lines self_notify journal traces), ap feeds r.shown, one-feed)

first-begins : BeginOutput self_notify (whole_lines one_line_text)
unfolding digits
first-begins = journal-goes_on self_notify 1 [] (omega arith) (omega arith) (All-nil _)

pub one_line-short : BreaksForm self_notify one_line_text 2
one_line-short = Short first-begins no-reading

-- of a text that ends behind its first line the missing second one is to blame
pub one_line-blamed : IsLeastBlamed self_notify default_settings one_line_text 2
one_line-blamed = least-in_form self_notify default_settings one_line_text 2 sound one_line-short

-- A number with a zero before it.

no-zero : (n : ℕ) → n < 2 ^ 64 → decimal n ≡ codes "00" → ⊥
unfolding digits
no-zero zero few e = let one : 1 ≡ 2 = ap (λ (bytes : List ℕ). length bytes) e in omega (arith, one)
no-zero (suc n) few e =
    let first : 48 < get_or (decimal (suc n)) 0 0 = first_decimal (suc n) (omega arith) few in
    let is : get_or (decimal (suc n)) 0 0 ≡ 48 = ap (λ (bytes : List ℕ). get_or bytes 0 0) e in
    omega (arith, first, is)

no-zero_line : BeginOutput self_notify ([] ++ codes "journal 00" ∷ []) → ⊥
no-zero_line h =
    let few : FIRST_XID + length h.journal < 2 ^ 32 = h.readable.few in
    no-zero (length h.journal) (omega (arith, few))
    (append_cancel_left (codes "journal ") (decimal (length h.journal)) (codes "00") (ap (λ (lines : List (List ℕ)). get_or lines 0 []) h.goes_on))

none-begins : BeginOutput self_notify []
none-begins = begins-shorter self_notify [] ((codes "journal " ++ decimal 0) ∷ []) (journal-goes_on self_notify 0 [] (omega arith) (omega arith) (All-nil _))

-- a first line with a zero too many breaks the form
pub zero-broken : BreaksForm self_notify zero_text 1
zero-broken = Broken [] _ (codes "journal 00") refl none-begins no-zero_line

-- A last line without its LF.

ends-with_feed : (line : List ℕ) (lines : List (List ℕ)) → (front : List ℕ) × (joined (line ∷ lines) ≡ front ++ 10 ∷ [])
ends-with_feed line [] = (line, append-nil (line ++ 10 ∷ []))
ends-with_feed line (other ∷ lines) =
    let rest = ends-with_feed other lines in
    ((line ++ 10 ∷ []) ++ rest.0, ap (λ (bytes : List ℕ). (line ++ 10 ∷ []) ++ bytes) rest.1 ∙ sym (append_assoc (line ++ 10 ∷ []) rest.0 (10 ∷ [])))

unended-long : length unended_text ≡ 174
unended-long = refl

unended-last : get_or unended_text 173 0 ≡ 52
unended-last = refl

unended-none : (journal : List Tx) (traces : List Trace) → IsReading self_notify unended_text journal traces → ⊥
unended-none journal traces r =
    let first : List ℕ = codes "journal " ++ decimal (length journal) in
    let rest : List (List ℕ) = entries_lines FIRST_XID journal ++ traces_lines self_notify.sections traces in
    let end = ends-with_feed first rest in
    let is : unended_text ≡ end.0 ++ 10 ∷ [] = sym r.shown ∙ end.1 in
    let long : length unended_text ≡ length end.0 + 1 = ap (λ (bytes : List ℕ). length bytes) is ∙ length-append end.0 (10 ∷ []) in
    let place : length end.0 ≡ 173 = omega (arith, long, unended-long) in
    let byte : get_or unended_text (length end.0) 0 ≡ 10 = ap (λ (bytes : List ℕ). get_or bytes (length end.0) 0) is ∙ get_or-append_seam end.0 10 [] 0 in
    let four : 52 ≡ 10 = sym unended-last ∙ ap (λ (n : ℕ). get_or unended_text n 0) (sym place) ∙ byte in
    omega (arith, four)

unended-begins : BeginOutput self_notify (whole_lines unended_text)
unfolding digits
unended-begins = begins-shorter self_notify (whole_lines unended_text) (codes "end mark 4" ∷ []) (begins-whole self_notify (sent codes_x) (run_seen ∷ []) run-readable)

-- a text without its last LF breaks the form in its last line
pub unended-short : BreaksForm self_notify unended_text 13
unended-short = Short unended-begins unended-none
