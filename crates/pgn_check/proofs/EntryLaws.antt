-- The first transaction that is not as it has to be, and its line.
use Rattle.std.proofs.Common.{◌≡◌, ℕ, ◌+◌, ◌^◌, ◌<◌, ◌≤◌, ◌==◌, Bool, true, false, cond, not, inl, inr, List, [], ◌∷◌, ◌++◌, length, None, Some, sym, ap, ◌∙◌, refl, subst, arith, length-append}
use Rattle.std.specs.Prelude.{All}
use Rattle.std.proofs.lemmas.Bool.{cases_Bool}
use Rattle.std.proofs.lemmas.Bool.Decides.{Decides-eqb, Decides-ltb}
use Rattle.std.proofs.lemmas.List.{length-map, nil_from_length}
use Rattle.std.proofs.lemmas.List.Elements.{All-nil, All-cons, All-head, All-tail}
use Rattle.pgn_base.specs.declared.limits.TheConstants.{FIRST_XID}
use Rattle.pgn_base.specs.Notes.{IsNote}
use Rattle.pgn_journal.specs.declared.tx.Tx.{Tx}
use Rattle.pgn_journal.specs.declared.tx.Fate.{Fate}
use Rattle.pgn_journal.specs.declared.tx.Fate.TheVariants.{Committed, Aborted}
use Rattle.pgn_journal.specs.Journal.{IsQueued}
use Rattle.pgn_language.specs.declared.scenario.Section.{Section}
use Rattle.pgn_language.specs.declared.scenario.Scenario.{Scenario}
use Rattle.pgn_language.specs.Inputs.{IsSound}
use Rattle.pgn_model.specs.declared.trace.Trace.{Trace}
use Rattle.pgn_model.specs.Legal.{names_section}
use Rattle.pgn_model.specs.Text.{entries_lines, entry_lines, joined, journal_lines, note_line, text_lines, traces_lines}
use Rattle.pgn_reading.specs.Form.{BreaksForm, IsReading}
use Rattle.pgn_reading.specs.Blame.{IsGoodTx, IsLeastBlamed}
use Rattle.pgn_reading.proofs.BlameLaws.{least-in_form, least-in_journal}
use Rattle.pgn_check.specs.Entries.{first_bad_from, is_good, is_queued, IsBlamedFirst, IsReadSoFar, lines_in, queued_as, repeats_after}
use Rattle.pgn_check.proofs.NoteLaws.{apart_has_none, are_apart}

-- the parts of the test
pub record Passes (empty queued named repeats : Bool) : Type 0 where
  pub some : empty ≡ false
  pub right : queued ≡ true
  pub known : named ≡ true
  pub apart : repeats ≡ false

parts : (e q n r : Bool) → cond e false (cond q (cond n (not r) false) false) ≡ true → Passes e q n r
parts true q n r h = absurd (let no : ⊥ = cc in no)
parts false false n r h = absurd (let no : ⊥ = cc in no)
parts false true false r h = absurd (let no : ⊥ = cc in no)
parts false true true true h = absurd (let no : ⊥ = cc in no)
parts false true true false h = record { some = refl; right = refl; known = refl; apart = refl }

whole : (e q n r : Bool) → Passes e q n r → cond e false (cond q (cond n (not r) false) false) ≡ true
whole e q n r h =
    ap (λ (t : Bool). cond t false (cond q (cond n (not r) false) false)) h.some ∙ ap (λ (t : Bool). cond t (cond n (not r) false) false) h.right ∙ ap (λ (t : Bool). cond t (not r) false) h.known ∙ ap not h.apart

queued_is : (f : Fate) (queued count : ℕ) → queued_as f queued count ≡ true → IsQueued f queued count
queued_is Committed queued count h = (Decides-eqb queued count).0 h
queued_is Aborted queued count h = (Decides-ltb queued count).0 h

is_queued_as : (f : Fate) (queued count : ℕ) → IsQueued f queued count → queued_as f queued count ≡ true
is_queued_as Committed queued count h = (Decides-eqb queued count).1 h
is_queued_as Aborted queued count h = (Decides-ltb queued count).1 h

none_at_zero : (n : ℕ) → (n ≡ 0 → ⊥) → (n == 0) ≡ false
none_at_zero n h = elim (cases_Bool (n == 0)) [ inl e ↦ absurd (h ((Decides-eqb n 0).0 e)) | inr e ↦ e ]

true_is_not : true ≡ false → ⊥
true_is_not e = let no : ⊥ = cc in no

good_tx : (sections : List Section) (tx : Tx) → All IsNote tx.notes → is_good sections tx ≡ true → IsGoodTx sections tx
good_tx sections tx valid h =
    let p = parts (length tx.notes == 0) (is_queued tx) (names_section sections tx.session) (repeats_after [] tx.notes) h in
    record {
      finished = record {
        some = λ e. true_is_not (sym ((Decides-eqb (length tx.notes) 0).1 (ap length e)) ∙ p.some);
        valid = valid;
        different = are_apart tx.notes p.apart;
        queueing = queued_is tx.fate tx.queued (length tx.notes) p.right;
      };
      named = p.known;
    }

tests_good : (sections : List Section) (tx : Tx) → IsGoodTx sections tx → is_good sections tx ≡ true
tests_good sections tx h =
    whole (length tx.notes == 0) (is_queued tx) (names_section sections tx.session) (repeats_after [] tx.notes)
    (record {
      some = none_at_zero (length tx.notes) (λ e. h.finished.some (nil_from_length tx.notes e));
      right = is_queued_as tx.fate tx.queued (length tx.notes) h.finished.queueing;
      known = h.named;
      apart = apart_has_none tx.notes h.finished.different;
    })

-- notifications that can be sent
abbrev AreValid : Tx → Type 0
AreValid tx = All IsNote tx.notes

-- the first bad one of transactions of which the first is numbered x and begins in the line numbered n
record IsFirst (sections : List Section) (n x : ℕ) (txs : List Tx) (m : ℕ) : Type 0 where
  before : List Tx
  after : List Tx
  tx : Tx
  apart : txs ≡ before ++ tx ∷ after
  good : All (IsGoodTx sections) before
  bad : IsGoodTx sections tx → ⊥
  number : m ≡ n + length (entries_lines x before)

same_some : (a b : ℕ) → Some a ≡ Some b → a ≡ b
same_some a b e = cc

entry_long : (x : ℕ) (tx : Tx) → length (entry_lines x tx) ≡ 1 + length tx.notes
entry_long x tx = omega (arith, length-map tx.notes note_line)

first_is : (sections : List Section) (n x : ℕ) (txs : List Tx) (m : ℕ) → All AreValid txs → first_bad_from sections n txs ≡ Some m → IsFirst sections n x txs m
first_is sections n x [] m valid e = absurd (let no : ⊥ = cc in no)
first_is sections n x (tx ∷ txs) m valid e = elim (cases_Bool (is_good sections tx)) [
  | inl is ↦
      let next : ℕ = n + (1 + length tx.notes) in
      let rest : first_bad_from sections next txs ≡ Some m = sym (ap (λ (t : Bool). cond t (first_bad_from sections next txs) (Some n)) is) ∙ e in
      let found = first_is sections next (x + 1) txs m (All-tail AreValid tx txs valid) rest in
      record {
        before = tx ∷ found.before;
        after = found.after;
        tx = found.tx;
        apart = ap (λ (ts : List Tx). tx ∷ ts) found.apart;
        good = All-cons (IsGoodTx sections) tx found.before (good_tx sections tx (All-head AreValid tx txs valid) is) found.good;
        bad = found.bad;
        number = omega (arith, found.number, entry_long x tx, length-append (entry_lines x tx) (entries_lines (x + 1) found.before));
      }
  | inr is ↦
      let here : Some n ≡ Some m = sym (ap (λ (t : Bool). cond t (first_bad_from sections (n + (1 + length tx.notes)) txs) (Some n)) is) ∙ e in
      record {
        before = [];
        after = txs;
        tx = tx;
        apart = refl;
        good = All-nil (IsGoodTx sections);
        bad = λ good. true_is_not (sym (tests_good sections tx good) ∙ is);
        number = omega (arith, same_some n m here);
      }
]

all_good : (sections : List Section) (n : ℕ) (txs : List Tx) → All AreValid txs → first_bad_from sections n txs ≡ None → All (IsGoodTx sections) txs
all_good sections n [] valid e = All-nil (IsGoodTx sections)
all_good sections n (tx ∷ txs) valid e = elim (cases_Bool (is_good sections tx)) [
  | inl is ↦
      let next : ℕ = n + (1 + length tx.notes) in
      let rest : first_bad_from sections next txs ≡ None = sym (ap (λ (t : Bool). cond t (first_bad_from sections next txs) (Some n)) is) ∙ e in
      All-cons (IsGoodTx sections) tx txs (good_tx sections tx (All-head AreValid tx txs valid) is) (all_good sections next txs (All-tail AreValid tx txs valid) rest)
  | inr is ↦
      let here : Some n ≡ None = sym (ap (λ (t : Bool). cond t (first_bad_from sections (n + (1 + length tx.notes)) txs) (Some n)) is) ∙ e in
      absurd (let no : ⊥ = cc in no)
]

read_valid : (scenario : Scenario) (out : List ℕ) (journal : List Tx) (traces : List Trace) → IsReading scenario out journal traces → All AreValid journal
read_valid scenario out journal traces h = λ k d lt j note within. ((h.readable.entries k d lt).notes j note within).note

-- The answers.

-- a text that is read, and whose transactions are all good, is read so far
pub read_so_far : (scenario : Scenario) (out : List ℕ) (journal : List Tx) (traces : List Trace) → IsReading scenario out journal traces → first_bad_from scenario.sections 2 journal ≡ None → IsReadSoFar scenario out journal traces
read_so_far scenario out journal traces h e = record { read = h; entries = all_good scenario.sections 2 journal (read_valid scenario out journal traces h) e }

-- the line that breaks the form is the first to blame
pub blamed_in_form : (scenario : Scenario) (out : List ℕ) (n : ℕ) → IsSound scenario → BreaksForm scenario out n → IsBlamedFirst scenario out n
blamed_in_form scenario out n sound h settings = least-in_form scenario settings out n sound h

-- the first line of the first bad transaction is the first to blame
pub blamed_in_journal : (scenario : Scenario) (out : List ℕ) (n : ℕ) (journal : List Tx) (traces : List Trace) → IsSound scenario → IsReading scenario out journal traces → first_bad_from scenario.sections 2 journal ≡ Some n
    → IsBlamedFirst scenario out n
blamed_in_journal scenario out n journal traces sound h e settings =
    let found = first_is scenario.sections 2 FIRST_XID journal n (read_valid scenario out journal traces h) e in
    let number : length (entries_lines FIRST_XID found.before) + 2 ≡ n = omega (arith, found.number) in
    subst (λ (m : ℕ). IsLeastBlamed scenario settings out m) number (least-in_journal scenario settings out journal found.before found.after found.tx traces sound h found.apart found.good found.bad)

-- Each line has a byte of its own.

-- joined lines have at least a byte each
pub joined_long : (lines : List (List ℕ)) → length lines ≤ length (joined lines)
joined_long [] = omega arith
joined_long (line ∷ lines) = omega (arith, joined_long lines, length-append (line ++ 10 ∷ []) (joined lines), length-append line (10 ∷ []))

-- the lines of transactions are counted by their notifications
pub lines_long : (x : ℕ) (txs : List Tx) → length (entries_lines x txs) ≡ lines_in txs
lines_long x [] = refl
lines_long x (tx ∷ txs) = omega (arith, entry_long x tx, lines_long (x + 1) txs, length-append (entry_lines x tx) (entries_lines (x + 1) txs))

-- a text of fewer than 2^63 bytes has a journal whose lines can be numbered
pub lines_fit : (scenario : Scenario) (out : List ℕ) (journal : List Tx) (traces : List Trace) → IsReading scenario out journal traces → length out < 2 ^ 63 → 2 + lines_in journal < 2 ^ 64
lines_fit scenario out journal traces h few =
    let all : length (text_lines scenario journal traces) ≤ length out = omega (arith, joined_long (text_lines scenario journal traces), ap length h.shown) in
    omega (arith, few, all, lines_long FIRST_XID journal, length-append (journal_lines journal) (traces_lines scenario.sections traces))
