-- Cut at each LF, the text of a legal run gives its lines.
use Rattle.std.proofs.Common.{◌≡◌, ℕ, zero, suc, ◌+◌, ◌<◌, List, [], ◌∷◌, length, get_or, slice_get, Some, sym, ap, ◌∙◌, refl, subst, arith}
use Rattle.std.specs.Prelude.{All, Contains}
use Rattle.std.proofs.lemmas.List.Elements.{All-head, All-tail}
use Rattle.std.proofs.lemmas.Option.{same_Some}
use Rattle.pgn_base.specs.declared.limits.TheConstants.{FIRST_XID}
use Rattle.pgn_journal.specs.declared.tx.Tx.{Tx}
use Rattle.pgn_journal.specs.Journal.{entry}
use Rattle.pgn_language.specs.declared.scenario.Scenario.{Scenario}
use Rattle.pgn_language.specs.Inputs.{IsSound}
use Rattle.pgn_model.specs.declared.item.Item.{Item}
use Rattle.pgn_model.specs.declared.item.Item.TheVariants.{Publish, QueueFull}
use Rattle.pgn_model.specs.declared.trace.Trace.{Trace}
use Rattle.pgn_model.specs.Walk.{Settings}
use Rattle.pgn_model.specs.Legal.{finished_xids, Legal}
use Rattle.pgn_model.specs.laws.Text.{IsOneLineItem}
use Rattle.pgn_model.proofs.TextLines.{text-has_lines}
use Rattle.pgn_reading.specs.Merged.{IsShownIn, ShowsJournal}
use Rattle.pgn_reading.proofs.MergedLaws.{legal-shows_journal}
use Rattle.pgn_sorted.specs.Laws.{LegalHasLines}
use Rattle.pgn_sorted.proofs.WalkLaws.{IsOneLineTx, SendsOneLines, sends, shows, along-all}

-- a number that stands in a list stands first or later
first-or : (n : ℕ) (xs : List ℕ) (x : ℕ) (R : Type 0) → Contains (n ∷ xs) x → (n ≡ x → R) → (Contains xs x → R) → R
first-or n xs x R (zero, lt, is) here later = here is
first-or n xs x R (suc k, lt, is) here later = later (k, omega (arith, lt), is)

-- a transaction that items show as finished
shown-by : (journal : List Tx) (session db : ℕ) (items : List Item) (x : ℕ) (tx : Tx) → All (IsShownIn journal session db) items → All SendsOneLines items → entry journal x ≡ Some tx → Contains (finished_xids items) x → IsOneLineTx tx
shown-by journal session db [] x tx shown sent is there = absurd (omega (arith, there.1))
shown-by journal session db (Publish n notes ∷ items) x tx shown sent is there =
    let one = All-head (IsShownIn journal session db) (Publish n notes) items shown in
    first-or n (finished_xids items) x (IsOneLineTx tx) there
    (λ same. subst IsOneLineTx (same_Some _ tx (sym one.1 ∙ ap (λ (y : ℕ). entry journal y) same ∙ is)) (All-head SendsOneLines (Publish n notes) items sent))
    (λ later. shown-by journal session db items x tx (All-tail (IsShownIn journal session db) (Publish n notes) items shown) (All-tail SendsOneLines (Publish n notes) items sent) is later)
shown-by journal session db (QueueFull full notes ∷ items) x tx shown sent is there =
    let one = All-head (IsShownIn journal session db) (QueueFull full notes) items shown in
    first-or full.xid (finished_xids items) x (IsOneLineTx tx) there
    (λ same. subst IsOneLineTx (same_Some _ tx (sym one.1 ∙ ap (λ (y : ℕ). entry journal y) same ∙ is)) (All-head SendsOneLines (QueueFull full notes) items sent))
    (λ later. shown-by journal session db items x tx (All-tail (IsShownIn journal session db) (QueueFull full notes) items shown) (All-tail SendsOneLines (QueueFull full notes) items sent) is later)
shown-by journal session db (item ∷ items) x tx shown sent is there =
    shown-by journal session db items x tx (All-tail (IsShownIn journal session db) item items shown) (All-tail SendsOneLines item items sent) is there

slice-at : (txs : List Tx) (k : ℕ) (d : Tx) → k < length txs → slice_get txs k ≡ Some (get_or txs k d)
slice-at [] k d lt = absurd (omega (arith, lt))
slice-at (tx ∷ txs) zero d lt = refl
slice-at (tx ∷ txs) (suc k) d lt = slice-at txs k d (omega (arith, lt))

-- no LF stands in the journal of a legal run
journal-one_line : (scenario : Scenario) (settings : Settings) (journal : List Tx) (traces : List Trace) → IsSound scenario → Legal scenario settings journal traces → All IsOneLineTx journal
journal-one_line scenario settings journal traces sound legal k d lt =
    let tx : Tx = get_or journal k d in
    let shows_all : ShowsJournal journal traces = legal-shows_journal scenario settings journal traces legal in
    let sent : All (λ trace. All SendsOneLines trace.items) traces = along-all journal settings (length scenario.flags) SendsOneLines (sends journal) scenario.sections traces sound.sections legal.lawful in
    let here : entry journal (FIRST_XID + k) ≡ Some tx = ap (λ (n : ℕ). slice_get journal n) (omega arith) ∙ slice-at journal k d lt in
    let at = shows_all.whole k lt in
    let trace : Trace = get_or traces at.0 at.1 in
    let there : Contains (finished_xids trace.items) (FIRST_XID + k) = subst (λ (t : Trace). Contains (finished_xids t.items) (FIRST_XID + k)) (sym at.3) at.4 in
    shown-by journal trace.session trace.db trace.items (FIRST_XID + k) tx (shows_all.shown at.0 at.1 at.2) (sent at.0 at.1 at.2) here there

-- the text of a legal run falls into its lines where it is cut at each LF
pub legal-has_lines : LegalHasLines
legal-has_lines scenario settings journal traces sound legal =
    let notes : All IsOneLineTx journal = journal-one_line scenario settings journal traces sound legal in
    text-has_lines scenario journal traces sound notes (along-all journal settings (length scenario.flags) IsOneLineItem (shows journal notes) scenario.sections traces sound.sections legal.lawful)
