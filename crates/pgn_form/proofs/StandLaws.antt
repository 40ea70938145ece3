-- The journal, read line by line.
use Rattle.std.proofs.Common.{◌≡◌, ℕ, zero, suc, ◌+◌, ◌-◌, ◌^◌, ◌<◌, ◌==◌, Bool, cond, inl, inr, List, [], ◌∷◌, ◌++◌, length, map, None, Some, codes, decimal, sym, ap, ◌∙◌, refl, subst, arith, append_assoc, append-nil, length-append, eqb-true}
use Rattle.std.specs.Prelude.{All}
use Rattle.std.proofs.lemmas.Bool.{cases_Bool}
use Rattle.std.proofs.lemmas.List.{map-append}
use Rattle.std.proofs.lemmas.List.Elements.{All-nil, All-push}
use Rattle.pgn_base.specs.declared.limits.TheConstants.{FIRST_XID}
use Rattle.pgn_base.specs.declared.note.Note.{Note}
use Rattle.pgn_journal.specs.declared.tx.Tx.{Tx}
use Rattle.pgn_journal.specs.declared.tx.Fate.{Fate}
use Rattle.pgn_journal.specs.declared.tx.Fate.TheVariants as fate
use Rattle.pgn_journal.specs.Journal.{next_xid}
use Rattle.pgn_language.specs.declared.scenario.Scenario.{Scenario}
use Rattle.pgn_language.specs.Inputs.{IsOneLine}
use Rattle.pgn_model.specs.declared.trace.Trace.{Trace}
use Rattle.pgn_model.specs.Text.{entries_lines, entry_lines, journal_lines, note_line}
use Rattle.pgn_lines.specs.Shown.{Shows}
use Rattle.pgn_lines.specs.declared.shown.Shown.{Shown}
use Rattle.pgn_lines.specs.declared.shown.Shown.TheVariants.{Journal, Committed, Aborted, Sent}
use Rattle.pgn_reading.specs.Form.{database_of, EachSection, IsLineNote, IsReadQueued, IsReadTrace, IsReadTx, IsSession}
use Rattle.pgn_reading.specs.GoesOnLaws.{entry_head}
use Rattle.pgn_reading.proofs.GoesOnLaws.{entries-append}
use Rattle.pgn_form.specs.declared.place.Place.{Place}
use Rattle.pgn_form.specs.declared.place.Place.TheVariants.{Start, Entries, Notes, Sections}
use Rattle.pgn_form.specs.declared.draft.Draft.{Draft}
use Rattle.pgn_form.specs.declared.draft.Part.{Part}
use Rattle.pgn_form.specs.declared.draft.Part.TheVariants as part
use Rattle.pgn_form.specs.Places.{entries_from, entry_from, moved, notes_from}
use Rattle.pgn_form.specs.Drafts.{added, first_draft, noted, with_entry}
use Rattle.pgn_form.proofs.CleanLaws.{sent_clean}
use Rattle.pgn_form.proofs.ForwardLaws.{some_more}
use Rattle.pgn_form.specs.Stands.{BeforeEntry, BeforeNote, Stands}

-- who moves nowhere has not moved to a place
pub nowhere : (place : Place) → None ≡ Some place → ⊥
nowhere place e = let no : ⊥ = cc in no

-- a place that is found is the one that was found
pub same_place : (a b : Place) → Some a ≡ Some b → a ≡ b
same_place a b e = cc

module _ (scenario : Scenario) where
  -- so many entries are left, or none
  entries_on : (left next count : ℕ) (draft : Draft) (lines : List (List ℕ)) → FIRST_XID + count < 2 ^ 32 → left + length draft.journal ≡ count → next ≡ next_xid draft.journal → All (IsReadTx scenario.sections) draft.journal
      → draft.traces ≡ [] → draft.items ≡ [] → draft.part ≡ part.Nothing → lines ≡ (codes "journal " ++ decimal count) ∷ entries_lines FIRST_XID draft.journal → Stands scenario (entries_from left next) draft lines
  entries_on zero next count draft lines few counted number entries traces items o shown = let same : length draft.journal ≡ count = omega (arith, counted) in record {
    front = [];
    back = scenario.sections;
    sections = refl;
    place = refl;
    few = omega (arith, few, same);
    entries = entries;
    each = subst (λ (ts : List Trace). EachSection IsReadTrace [] ts) (sym traces) tt;
    items = items;
    part = o;
    shown = shown ∙ ap (λ (n : ℕ). (codes "journal " ++ decimal n) ∷ entries_lines FIRST_XID draft.journal) (sym same) ∙ sym (append-nil (journal_lines draft.journal));
  }
  entries_on (suc left) next count draft lines few counted number entries traces items o shown =
      let before : BeforeEntry scenario (suc left) next draft lines =
      record { count = count; few = few; some_left = omega arith; counted = counted; number = number; entries = entries; traces = traces; items = items; part = o; shown = shown } in
      subst (λ (t : Bool). Stands scenario (cond t (Sections 0) (Entries (suc left) next)) draft lines) (sym (some_more left)) before

  -- so many notifications of a transaction are left, or none
  notes_on : (notes left next count session queued many : ℕ) (f : Fate) (sent : List Note) (draft : Draft) (lines : List (List ℕ)) → FIRST_XID + count < 2 ^ 32 → left + (length draft.journal + 1) ≡ count
      → next ≡ next_xid draft.journal + 1 → All (IsReadTx scenario.sections) draft.journal → draft.traces ≡ [] → draft.items ≡ [] → IsSession session → many < 2 ^ 32 → IsReadQueued f queued many → length sent + notes ≡ many
      → All IsLineNote sent → lines ≡ (codes "journal " ++ decimal count) ∷ (entries_lines FIRST_XID draft.journal ++ entry_head (next_xid draft.journal) session f queued many ∷ map note_line sent)
      → Stands scenario (notes_from notes left next) (with_entry scenario.sections notes session queued f sent draft) lines
  notes_on zero left next count session queued many f sent draft lines few counted number entries traces items by_session bound queueing all valid shown =
      let tx : Tx = record { session = session; db = database_of scenario.sections session; notes = sent; queued = queued; fate = f } in
      let length_is : length sent ≡ many = omega (arith, all) in
      let tx_read : IsReadTx scenario.sections tx =
      record { session = by_session; database = refl; queueing = subst (λ (n : ℕ). IsReadQueued f queued n) (sym length_is) queueing; few = omega (arith, bound, length_is); notes = valid } in
      let whole : List Tx = draft.journal ++ tx ∷ [] in
      let long : length whole ≡ length draft.journal + 1 = length-append draft.journal (tx ∷ []) in
      let spelled : lines ≡ (codes "journal " ++ decimal count) ∷ entries_lines FIRST_XID whole =
      shown ∙ ap (λ (n : ℕ). (codes "journal " ++ decimal count) ∷ (entries_lines FIRST_XID draft.journal ++ entry_head (next_xid draft.journal) session f queued n ∷ map note_line sent)) (sym length_is)
      ∙ ap (λ (ls : List (List ℕ)). (codes "journal " ++ decimal count) ∷ (entries_lines FIRST_XID draft.journal ++ ls)) (sym (append-nil (entry_lines (next_xid draft.journal) tx)))
      ∙ ap (λ (ls : List (List ℕ)). (codes "journal " ++ decimal count) ∷ ls) (sym (entries-append FIRST_XID draft.journal (tx ∷ []))) in
      entries_on left next count (record draft { journal = whole; part = part.Nothing }) lines few (omega (arith, counted, long)) (omega (arith, number, long)) (All-push (IsReadTx scenario.sections) draft.journal tx entries tx_read)
      traces items refl spelled
  notes_on (suc notes) left next count session queued many f sent draft lines few counted number entries traces items by_session bound queueing all valid shown =
      let tx : Tx = record { session = session; db = database_of scenario.sections session; notes = sent; queued = queued; fate = f } in
      let whole : Draft = record draft { journal = draft.journal ++ tx ∷ []; part = part.Nothing } in
      let after : Draft = record draft { part = part.Entry session queued f sent } in
      let before : BeforeNote scenario (suc notes) left next after lines =
      record {
        count = count;
        session = session;
        queued = queued;
        many = many;
        fate = f;
        sent = sent;
        few = few;
        some_left = omega arith;
        counted = counted;
        number = number;
        entries = entries;
        traces = traces;
        items = items;
        part = refl;
        of_session = by_session;
        bounded = bound;
        queueing = queueing;
        all = all;
        valid = valid;
        shown = shown;
      } in
      subst (λ (t : Bool). Stands scenario (cond t (entries_from left next) (Notes (suc notes) left next)) (cond t whole after) lines) (sym (some_more notes)) before

  -- the head of the journal
  pub start_on : (draft : Draft) (lines : List (List ℕ)) (line : List ℕ) (shown : Shown) (next : Place) → Stands scenario Start draft lines → Shows line shown → moved Start shown ≡ Some next
      → Stands scenario next (added scenario Start draft shown) (lines ++ line ∷ [])
  start_on draft lines line (Journal entries) next h s e =
      let there : entries_from entries FIRST_XID ≡ next = same_place (entries_from entries FIRST_XID) next e in
      let spelled : lines ++ line ∷ [] ≡ (codes "journal " ++ decimal entries) ∷ [] = ap (λ (ls : List (List ℕ)). ls ++ line ∷ []) h.1 ∙ ap (λ (l : List ℕ). let ls : List (List ℕ) = l ∷ [] in ls) (sym s.1) in
      let first : Stands scenario (entries_from entries FIRST_XID) first_draft (lines ++ line ∷ []) =
      entries_on entries FIRST_XID entries first_draft (lines ++ line ∷ []) s.0 (omega arith) refl (All-nil (IsReadTx scenario.sections)) refl refl refl spelled in
      subst (λ (p : Place). Stands scenario p draft (lines ++ line ∷ [])) there (subst (λ (d : Draft). Stands scenario (entries_from entries FIRST_XID) d (lines ++ line ∷ [])) (sym h.0) first)
  start_on draft lines line shown next h s e = absurd (nowhere next e)

  -- the first line of a transaction
  entry_on : (left next : ℕ) (draft : Draft) (lines : List (List ℕ)) (line : List ℕ) (xid session queued notes : ℕ) (f : Fate) (to : Place) → BeforeEntry scenario left next draft lines → IsSession session → notes < 2 ^ 32
      → IsReadQueued f queued notes → entry_head xid session f queued notes ≡ line → entry_from left next xid notes ≡ Some to → Stands scenario to (with_entry scenario.sections notes session queued f [] draft) (lines ++ line ∷ [])
  entry_on left next draft lines line xid session queued notes f to h by_session bound queueing spelled e = elim (cases_Bool (xid == next)) [
    | inl is ↦
        let x : xid ≡ next_xid draft.journal = eqb-true xid next is ∙ h.number in
        let there : notes_from notes (left - 1) (next + 1) ≡ to =
        same_place (notes_from notes (left - 1) (next + 1)) to (sym (ap (λ (t : Bool). cond t (Some (notes_from notes (left - 1) (next + 1))) None) is) ∙ e) in
        let shown : lines ++ line ∷ [] ≡ (codes "journal " ++ decimal h.count) ∷ (entries_lines FIRST_XID draft.journal ++ entry_head (next_xid draft.journal) session f queued notes ∷ []) =
        ap (λ (ls : List (List ℕ)). ls ++ line ∷ []) h.shown
        ∙ ap (λ (l : List ℕ). (codes "journal " ++ decimal h.count) ∷ (entries_lines FIRST_XID draft.journal ++ l ∷ [])) (sym spelled ∙ ap (λ (n : ℕ). entry_head n session f queued notes) x) in
        subst (λ (p : Place). Stands scenario p (with_entry scenario.sections notes session queued f [] draft) (lines ++ line ∷ [])) there
        (notes_on notes (left - 1) (next + 1) h.count session queued notes f [] draft (lines ++ line ∷ []) h.few (omega (arith, h.counted, h.some_left)) (omega (arith, h.number)) h.entries h.traces h.items by_session bound queueing (omega arith) (All-nil IsLineNote) shown)
    | inr is ↦ absurd (nowhere to (sym (ap (λ (t : Bool). cond t (Some (notes_from notes (left - 1) (next + 1))) None) is) ∙ e))
  ]

  -- the first line of a transaction goes on from the lines of those before it
  pub entries_step : (left next : ℕ) (draft : Draft) (lines : List (List ℕ)) (line : List ℕ) (shown : Shown) (to : Place) → BeforeEntry scenario left next draft lines → Shows line shown → moved (Entries left next) shown ≡ Some to
      → Stands scenario to (added scenario (Entries left next) draft shown) (lines ++ line ∷ [])
  entries_step left next draft lines line (Committed xid session notes) to h s e = entry_on left next draft lines line xid session notes notes fate.Committed to h s.0.1 s.0.2 refl s.1 e
  entries_step left next draft lines line (Aborted xid session queued notes) to h s e = entry_on left next draft lines line xid session queued notes fate.Aborted to h s.0.1 s.0.3 s.0.2 s.1 e
  entries_step left next draft lines line shown to h s e = absurd (nowhere to e)

  -- a notification of a transaction
  pub notes_step : (notes left next : ℕ) (draft : Draft) (lines : List (List ℕ)) (line : List ℕ) (shown : Shown) (to : Place) → BeforeNote scenario notes left next draft lines → Shows line shown → IsOneLine line
      → moved (Notes notes left next) shown ≡ Some to → Stands scenario to (added scenario (Notes notes left next) draft shown) (lines ++ line ∷ [])
  notes_step notes left next draft lines line (Sent note) to h s clean e =
      let there : notes_from (notes - 1) left next ≡ to = same_place (notes_from (notes - 1) left next) to e in
      let valid : IsLineNote note = sent_clean note s.0 (subst IsOneLine (sym s.1) clean) in
      let sent : List Note = h.sent ++ note ∷ [] in
      let front : List (List ℕ) = entries_lines FIRST_XID draft.journal in
      let head : List ℕ = entry_head (next_xid draft.journal) h.session h.fate h.queued h.many in
      let shown : lines ++ line ∷ [] ≡ (codes "journal " ++ decimal h.count) ∷ (front ++ head ∷ map note_line sent) =
      ap (λ (ls : List (List ℕ)). ls ++ line ∷ []) h.shown
      ∙ ap (λ (ls : List (List ℕ)). (codes "journal " ++ decimal h.count) ∷ ls) (append_assoc front (head ∷ map note_line h.sent) (line ∷ []))
      ∙ ap (λ (l : List ℕ). (codes "journal " ++ decimal h.count) ∷ (front ++ head ∷ (map note_line h.sent ++ l ∷ []))) (sym s.1)
      ∙ ap (λ (ls : List (List ℕ)). (codes "journal " ++ decimal h.count) ∷ (front ++ head ∷ ls)) (sym (map-append note_line h.sent (note ∷ []))) in
      let one : Stands scenario (notes_from (notes - 1) left next) (with_entry scenario.sections (notes - 1) h.session h.queued h.fate sent draft) (lines ++ line ∷ []) =
      notes_on (notes - 1) left next h.count h.session h.queued h.many h.fate sent draft (lines ++ line ∷ []) h.few h.counted h.number h.entries h.traces h.items h.of_session h.bounded h.queueing
      (omega (arith, h.all, h.some_left, length-append h.sent (note ∷ []))) (All-push IsLineNote h.sent note h.valid valid) shown in
      subst (λ (o : Part). Stands scenario to (noted scenario.sections (notes - 1) draft o note) (lines ++ line ∷ [])) (sym h.part)
      (subst (λ (p : Place). Stands scenario p (with_entry scenario.sections (notes - 1) h.session h.queued h.fate sent draft) (lines ++ line ∷ [])) there one)
  notes_step notes left next draft lines line shown to h s clean e = absurd (nowhere to e)
