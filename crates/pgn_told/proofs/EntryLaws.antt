-- The journal that one session's trace shows, but for how many notifications of aborted transactions were queued.
use Rattle.std.proofs.Common.{◌≡◌, ℕ, suc, ◌+◌, Bool, true, false, cond, List, [], ◌∷◌, length, map, Some, slice_get, sym, ap, ◌∙◌, refl, arith, eq-eqb}
use Rattle.std.specs.Prelude.{All, sum_by}
use Rattle.std.proofs.lemmas.List.Elements.{All-head, All-tail}
use Rattle.std.proofs.lemmas.List.Sums.{sum_by-cons}
use Rattle.std.proofs.lemmas.Option.{same_Some}
use Rattle.pgn_base.specs.declared.note.Note.{Note}
use Rattle.pgn_journal.specs.declared.tx.Tx.{Tx}
use Rattle.pgn_journal.specs.declared.tx.Fate.{Fate}
use Rattle.pgn_journal.specs.declared.tx.Fate.TheVariants.{Committed, Aborted}
use Rattle.pgn_journal.specs.Journal.{entry, is_committed, xids_from}
use Rattle.pgn_model.specs.declared.item.Item.{Item}
use Rattle.pgn_model.specs.declared.item.Item.TheVariants.{Publish, QueueFull}
use Rattle.pgn_model.specs.Legal.{finished_xids}
use Rattle.pgn_reading.specs.Merged.{IsShownIn}
use Rattle.pgn_unique.proofs.SpentLaws.{sent_by, sent_in}
use Rattle.pgn_told.specs.Told.{but_queued}
use Rattle.pgn_told.proofs.StageLaws.{sent}

-- the transaction of a session that ended so and sent these
abbrev pub entry_by : ℕ → ℕ → Fate → List Note → Tx
entry_by session db Committed notes = record { session = session; db = db; notes = notes; queued = length notes; fate = Committed }
entry_by session db Aborted notes = record { session = session; db = db; notes = notes; queued = 0; fate = Aborted }

-- the entry of a transaction of this session, with this end and these notifications
abbrev pub entry_of : ℕ → ℕ → Fate × List Note → Tx
entry_of session db pair = entry_by session db pair.0 pair.1

-- a session's own transaction has the first number
own-first : (session x : ℕ) (tx : Tx) (txs : List Tx) → tx.session ≡ session → xids_from session x (tx ∷ txs) ≡ x ∷ xids_from session (x + 1) txs
own-first session x tx txs e = ap (λ (b : Bool). cond b (x ∷ xids_from session (x + 1) txs) (xids_from session (x + 1) txs)) (eq-eqb tx.session session e)

module _ (session db : ℕ) (journal : List Tx) where
  abbrev Own : Tx → Type 0
  Own tx = tx.session ≡ session

  -- these stand in the journal from this number on
  abbrev AreThere : ℕ → List Tx → Type 0
  AreThere x txs = (k : ℕ) → entry journal (x + k) ≡ slice_get txs k

  there-behind : (x : ℕ) (tx : Tx) (txs : List Tx) → AreThere x (tx ∷ txs) → AreThere (x + 1) txs
  there-behind x tx txs h k = ap (λ (n : ℕ). entry journal n) (omega arith) ∙ h (suc k)

  -- one that is shown
  one-shown : (x n : ℕ) (tx shown : Tx) (txs : List Tx) (ns : List ℕ) → Own tx → AreThere x (tx ∷ txs) → n ∷ ns ≡ xids_from session x (tx ∷ txs) → entry journal n ≡ Some shown → (tx ≡ shown) × (ns ≡ xids_from session (x + 1) txs)
  one-shown x n tx shown txs ns own there e is =
      let whole : n ∷ ns ≡ x ∷ xids_from session (x + 1) txs = e ∙ own-first session x tx txs own in
      let first : n ≡ x = cc in
      let rest : ns ≡ xids_from session (x + 1) txs = cc in
      let here : entry journal n ≡ Some tx = ap (λ (k : ℕ). entry journal k) (omega (arith, first)) ∙ there 0 in
      (same_Some tx shown (sym here ∙ is), rest)

  -- a journal that a session wrote alone is told by its items, but for what was queued
  pub journal-shown : (x : ℕ) (txs : List Tx) (items : List Item) → AreThere x txs → All Own txs → finished_xids items ≡ xids_from session x txs → All (IsShownIn journal session db) items
      → map but_queued txs ≡ map (entry_of session db) (sent items)
  journal-shown x [] [] there own e shown = refl
  journal-shown x (tx ∷ txs) [] there own e shown =
      absurd (let none : [] ≡ x ∷ xids_from session (x + 1) txs = e ∙ own-first session x tx txs (All-head Own tx txs own) in let no : ⊥ = cc in no)
  journal-shown x [] (Publish xid notes ∷ items) there own e shown = absurd (let no : ⊥ = cc in no)
  journal-shown x (tx ∷ txs) (Publish xid notes ∷ items) there own e shown =
      let one = All-head (IsShownIn journal session db) (Publish xid notes) items shown in
      let got = one-shown x xid tx (entry_by session db Committed notes) txs (finished_xids items) (All-head Own tx txs own) there e one.1 in
      let tail = journal-shown (x + 1) txs items (there-behind x tx txs there) (All-tail Own tx txs own) got.1 (All-tail (IsShownIn journal session db) (Publish xid notes) items shown) in
      ap (λ (t : Tx). but_queued t ∷ map but_queued txs) got.0 ∙ ap (λ (ts : List Tx). entry_by session db Committed notes ∷ ts) tail
  journal-shown x [] (QueueFull full notes ∷ items) there own e shown = absurd (let no : ⊥ = cc in no)
  journal-shown x (tx ∷ txs) (QueueFull full notes ∷ items) there own e shown =
      let one = All-head (IsShownIn journal session db) (QueueFull full notes) items shown in
      let full_tx : Tx = record { session = session; db = db; notes = notes; queued = full.queued; fate = Aborted } in
      let got = one-shown x full.xid tx full_tx txs (finished_xids items) (All-head Own tx txs own) there e one.1 in
      let tail = journal-shown (x + 1) txs items (there-behind x tx txs there) (All-tail Own tx txs own) got.1 (All-tail (IsShownIn journal session db) (QueueFull full notes) items shown) in
      ap (λ (t : Tx). but_queued t ∷ map but_queued txs) got.0 ∙ ap (λ (ts : List Tx). entry_by session db Aborted notes ∷ ts) tail
  journal-shown x txs (item ∷ items) there own e shown = journal-shown x txs items there own e (All-tail (IsShownIn journal session db) item items shown)

-- how many notifications there are in all
abbrev pub notes_in : List Tx → ℕ
notes_in txs = sum_by (λ tx. length tx.notes) txs

notes-cons : (tx : Tx) (txs : List Tx) → notes_in (tx ∷ txs) ≡ length tx.notes + notes_in txs
notes-cons tx txs = sum_by-cons (λ (t : Tx). length t.notes) tx txs

notes-kept : (txs : List Tx) → notes_in (map but_queued txs) ≡ notes_in txs
notes-kept [] = refl
notes-kept (tx ∷ txs) = omega (arith, notes-cons (but_queued tx) (map but_queued txs), notes-cons tx txs, notes-kept txs, ap (λ (ns : List Note). length ns) (by (is_committed tx.fate)))
  where
    by : (b : Bool) → (let t : Tx = cond b tx (record tx { queued = 0 }) in t.notes) ≡ tx.notes
    by true = refl
    by false = refl

notes-sent : (session db : ℕ) (items : List Item) → notes_in (map (entry_of session db) (sent items)) ≡ sent_in items
notes-sent session db [] = refl
notes-sent session db (Publish xid notes ∷ items) =
    omega (arith, notes-cons (entry_by session db Committed notes) (map (entry_of session db) (sent items)), sum_by-cons (λ (i : Item). length (sent_by i)) (Publish xid notes) items, notes-sent session db items)
notes-sent session db (QueueFull full notes ∷ items) =
    omega (arith, notes-cons (entry_by session db Aborted notes) (map (entry_of session db) (sent items)), sum_by-cons (λ (i : Item). length (sent_by i)) (QueueFull full notes) items, notes-sent session db items)
notes-sent session db (item ∷ items) = omega (arith, sum_by-cons (λ (i : Item). length (sent_by i)) item items, notes-sent session db items)

-- as many as the trace shows as sent
pub notes-shown : (session db : ℕ) (txs : List Tx) (items : List Item) → map but_queued txs ≡ map (entry_of session db) (sent items) → notes_in txs ≡ sent_in items
notes-shown session db txs items e = sym (notes-kept txs) ∙ ap notes_in e ∙ notes-sent session db items
