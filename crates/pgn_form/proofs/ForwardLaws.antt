-- The lines of each output lead from its start to its end.
use Rattle.std.proofs.Common.{◌≡◌, ℕ, zero, suc, ◌+◌, ◌-◌, ◌^◌, ◌<◌, ◌≤◌, ◌==◌, ◌&&◌, Bool, true, false, cond, inl, inr, List, [], ◌∷◌, ◌++◌, length, map, drop, get_or, slice_get, Option, None, Some, codes, decimal, sym, ap, ◌∙◌, refl, subst, arith, append_assoc, length-append, eqb-true, eq-eqb}
use Rattle.std.specs.Prelude.{All, flat_map, bytes_eq}
use Rattle.std.proofs.lemmas.Bool.{cases_Bool}
use Rattle.std.proofs.lemmas.Bool.Decides.{eqb_tells}
use Rattle.std.proofs.lemmas.Slice.Eq.{bytes_eq-Decides}
use Rattle.std.proofs.lemmas.List.Elements.{All-head, All-tail}
use Rattle.pgn_base.specs.declared.limits.TheConstants.{FIRST_XID}
use Rattle.pgn_base.specs.declared.note.Note.{Note}
use Rattle.pgn_base.specs.declared.note.Delivery.{Delivery}
use Rattle.pgn_base.specs.declared.answers.Tag.{Tag}
use Rattle.pgn_base.specs.declared.answers.Tag.TheVariants as tag
use Rattle.pgn_base.specs.declared.answers.Refusal.{Refusal}
use Rattle.pgn_base.specs.declared.answers.Refusal.TheVariants as refused
use Rattle.pgn_journal.specs.declared.tx.Tx.{Tx}
use Rattle.pgn_journal.specs.declared.tx.Fate.{Fate}
use Rattle.pgn_journal.specs.declared.tx.Fate.TheVariants as fate
use Rattle.pgn_language.specs.declared.scenario.ScriptLine.{ScriptLine}
use Rattle.pgn_language.specs.declared.scenario.Section.{Section}
use Rattle.pgn_language.specs.declared.scenario.Scenario.{Scenario}
use Rattle.pgn_language.specs.Inputs.{IsSound, Rise}
use Rattle.pgn_model.specs.declared.item.Item.{Item}
use Rattle.pgn_model.specs.declared.item.Item.TheVariants as item
use Rattle.pgn_model.specs.declared.trace.Trace.{Trace}
use Rattle.pgn_model.specs.Along.{Along}
use Rattle.pgn_model.specs.Text.{channel_line, delivery_line, end_line, entries_lines, entry_lines, fate_text, item_lines, line_text, note_line, section_line, text_lines, trace_lines, traces_lines}
use Rattle.pgn_reading.specs.Form.{EachSection, IsLineDelivery, IsLineName, IsLineNote, IsLineRefusal, IsLineTag, IsNextLine, IsReadable, IsReadItem, IsReadQueued, IsReadTrace, IsReadTx, lines_left}
use Rattle.pgn_lines.specs.Shown.{IsHeld, shown_text}
use Rattle.pgn_lines.specs.declared.shown.Shown.{Shown}
use Rattle.pgn_lines.specs.declared.shown.Shown.TheVariants.{Journal, Committed, Aborted, Sent, Enlist, Publish, QueueFull, Leave, Warn, Tagged, Refuse, Channel, Measured, Pages, Raise, Found, TimedOut, Read, Received, End}
use Rattle.pgn_form.specs.declared.place.Place.{Place}
use Rattle.pgn_form.specs.declared.place.Place.TheVariants.{Start, Entries, Notes, Sections, Inside}
use Rattle.pgn_form.specs.declared.place.Within.{Within}
use Rattle.pgn_form.specs.declared.place.Within.TheVariants.{Free, Warned, Measuring, Receiving}
use Rattle.pgn_form.specs.Places.{Ended, entries_from, entry_from, free_from, IsStep, Known, Lead, moved, notes_from, opened, script_at, Showing, told, went_on}
use Rattle.pgn_form.proofs.LeadLaws.{lead_both}

-- Lists.

-- one more is not none
pub some_more : (k : ℕ) → (suc k == 0) ≡ false
some_more k = elim (eqb_tells (suc k) 0) [ inl s ↦ absurd (omega (arith, s.1)) | inr s ↦ s.0 ]

-- what stands between two lists stands at the length of the first
pub at_place : {X : Type 0} (front back : List X) (x : X) → slice_get (front ++ x ∷ back) (length front) ≡ Some x
at_place [] back x = refl
at_place (y ∷ front) back x = at_place front back x

-- what is left of a list from a place on
pub drop_first : {X : Type 0} (xs rest : List X) (k : ℕ) (x : X) → drop k xs ≡ x ∷ rest → (slice_get xs k ≡ Some x) × (drop (k + 1) xs ≡ rest)
drop_first [] rest zero x e = absurd (let no : ⊥ = cc in no)
drop_first [] rest (suc k) x e = absurd (let no : ⊥ = cc in no)
drop_first (y ∷ xs) rest zero x e = (let same : y ≡ x = cc in ap (λ z. Some z) same, let same : xs ≡ rest = cc in same)
drop_first (y ∷ xs) rest (suc k) x e =
    let behind = drop_first xs rest k x e in
    let next : suc k + 1 ≡ suc (k + 1) = omega arith in
    (behind.0, ap (λ (m : ℕ). drop m (y ∷ xs)) next ∙ behind.1)

-- Lines that are known beforehand.

same_bytes : (bytes : List ℕ) → bytes_eq bytes bytes ≡ true
same_bytes bytes = (bytes_eq-Decides bytes bytes).1 refl

-- the first byte of a line
abbrev first_byte : List ℕ → ℕ
first_byte [] = 0
first_byte (b ∷ bytes) = b

-- no line that shows something is a line of a script
shown_first : (shown : Shown) → (62 == first_byte (shown_text shown)) ≡ false
shown_first (Journal entries) = refl
shown_first (Committed xid session notes) = refl
shown_first (Aborted xid session queued notes) = refl
shown_first (Sent note) = refl
shown_first (Enlist base point) = refl
shown_first (Publish xid) = refl
shown_first (QueueFull full) = refl
shown_first Leave = refl
shown_first (Warn warning) = refl
shown_first (Tagged tag.Begin) = refl
shown_first (Tagged tag.Start) = refl
shown_first (Tagged tag.Commit) = refl
shown_first (Tagged tag.Rollback) = refl
shown_first (Tagged tag.Savepoint) = refl
shown_first (Tagged tag.Release) = refl
shown_first (Tagged tag.Listen) = refl
shown_first (Tagged tag.Unlisten) = refl
shown_first (Tagged tag.Notify) = refl
shown_first (Tagged (tag.Select rows)) = refl
shown_first (Refuse refusal) = refl
shown_first (Channel name) = refl
shown_first (Measured at floor holder) = refl
shown_first (Pages occupied limit) = refl
shown_first (Raise value) = refl
shown_first (Found value) = refl
shown_first (TimedOut looks) = refl
shown_first (Read from to) = refl
shown_first (Received delivery) = refl
shown_first (End None) = refl
shown_first (End (Some mark)) = refl

no_script : (line text : List ℕ) → (62 == first_byte line) ≡ false → bytes_eq (62 ∷ 32 ∷ text) line ≡ false
no_script [] text h = refl
no_script (b ∷ line) text h = ap (λ (t : Bool). t && bytes_eq (32 ∷ text) line) h

no_line : (n begun : ℕ) (line : List ℕ) (script : Option ScriptLine) → (62 == first_byte line) ≡ false → went_on n begun line script ≡ None
no_line n begun line None h = refl
no_line n begun line (Some script) h = ap (λ (t : Bool). cond t (Some (Inside n (begun + 1) Free)) None) (no_script line script.text h)

-- where items may follow
abbrev pub IsFree : Within → Type 0
IsFree Free = Unit {0}
IsFree Receiving = Unit {0}
IsFree within = ⊥

module _ (scenario : Scenario) (n : ℕ) where
  untold : (begun : ℕ) (within : Within) (shown : Shown) → told scenario (Inside n begun within) (shown_text shown) ≡ None
  untold begun Free shown = no_line n begun (shown_text shown) (script_at begun (slice_get scenario.sections n)) (shown_first shown)
  untold begun Receiving shown = no_line n begun (shown_text shown) (script_at begun (slice_get scenario.sections n)) (shown_first shown)
  untold begun Warned shown = refl
  untold begun Measuring shown = refl

  nowhere : (p : Place) → None ≡ Some p → ⊥
  nowhere p e = let no : ⊥ = cc in no

  free_moved : (begun : ℕ) (within : Within) (shown : Shown) (p : Place) → IsFree within → free_from n begun shown ≡ Some p → moved (Inside n begun within) shown ≡ Some p
  free_moved begun Free shown p f e = e
  free_moved begun Receiving (Received delivery) p f e = absurd (nowhere p e)
  free_moved begun Receiving shown p f e = e
  free_moved begun within shown p f e = absurd f

  -- a line that shows something where items may follow
  free_step : (begun : ℕ) (within : Within) (shown : Shown) (p : Place) → IsFree within → IsHeld shown → free_from n begun shown ≡ Some p → IsStep scenario (Inside n begun within) (shown_text shown) p
  free_step begun within shown p f h e = Showing (untold begun within shown) shown (h, refl) (free_moved begun within shown p f e)

  -- or where something goes on
  next_step : (begun : ℕ) (within : Within) (shown : Shown) (p : Place) → IsHeld shown → moved (Inside n begun within) shown ≡ Some p → IsStep scenario (Inside n begun within) (shown_text shown) p
  next_step begun within shown p h e = Showing (untold begun within shown) shown (h, refl) e

  rows_lead : (begun : ℕ) (within : Within) (names : List (List ℕ)) → IsFree within → All IsLineName names → (last : Within) × IsFree last × Lead scenario (Inside n begun within) (map channel_line names) (Inside n begun last)
  rows_lead begun within [] f h = (within, f, refl)
  rows_lead begun within (name ∷ names) f h =
      let rest = rows_lead begun Free names tt (All-tail IsLineName name names h) in
      (rest.0, rest.1, (Inside n begun Free, free_step begun within (Channel name) (Inside n begun Free) f (All-head IsLineName name names h).text refl, rest.2))

  received_lead : (begun : ℕ) (got : List Delivery) → All IsLineDelivery got → Lead scenario (Inside n begun Receiving) (map delivery_line got) (Inside n begun Receiving)
  received_lead begun [] h = refl
  received_lead begun (delivery ∷ got) h =
      let first : IsLineDelivery delivery = All-head IsLineDelivery delivery got h in (
        Inside n begun Receiving,
        next_step begun Receiving (Received delivery) (Inside n begun Receiving) (first.xid, first.pid, first.note.note) refl,
        received_lead begun got (All-tail IsLineDelivery delivery got h),
      )

  held_tag : (done : Tag) → IsLineTag done → IsHeld (Tagged done)
  held_tag (tag.Select rows) h = h
  held_tag done h = tt

  held_refusal : (refusal : Refusal) → IsLineRefusal refusal → IsHeld (Refuse refusal)
  held_refusal (refused.Syntax at) h = h
  held_refusal (refused.NoSavepoint name) h = h.text
  held_refusal refusal h = tt

  -- numbers of script lines rise, so that the text of a number is that of the line at its place
  above_first : (line script : ScriptLine) (lines : List ScriptLine) (k : ℕ) → Rise (line ∷ lines) → slice_get lines k ≡ Some script → line.line < script.line
  above_first line script [] k h e = absurd (let no : ⊥ = cc in no)
  above_first line script (other ∷ lines) zero h e = let same : other ≡ script = cc in subst (λ (s : ScriptLine). line.line < s.line) same h.0
  above_first line script (other ∷ lines) (suc k) h e = omega (arith, h.0, above_first other script lines k h.1 e)

  -- a script line is found by its number
  pub text_at : (lines : List ScriptLine) (k : ℕ) (script : ScriptLine) → Rise lines → slice_get lines k ≡ Some script → line_text script.line lines ≡ script.text
  text_at [] k script h e = absurd (let no : ⊥ = cc in no)
  text_at (line ∷ lines) zero script h e =
      let same : line ≡ script = cc in
      ap (λ (t : Bool). cond t line.text (line_text script.line lines)) (eq-eqb line.line script.line (ap (λ (s : ScriptLine). s.line) same)) ∙ ap (λ (s : ScriptLine). s.text) same
  text_at (line ∷ lines) (suc k) script h e = elim (cases_Bool (line.line == script.line)) [
    | inl is ↦ absurd (omega (arith, eqb-true line.line script.line is, above_first line script lines k h e))
    | inr is ↦ ap (λ (t : Bool). cond t line.text (line_text script.line lines)) is ∙ text_at lines k script h.1 e
  ]

  module _ (section : Section) (there : slice_get scenario.sections n ≡ Some section) (rising : Rise section.lines) where
    -- a script line begins
    line_step : (begun : ℕ) (within : Within) (script : ScriptLine) → IsFree within → slice_get section.lines begun ≡ Some script → IsStep scenario (Inside n begun within) (codes "> " ++ script.text) (Inside n (begun + 1) Free)
    line_step begun within script f e = by within f
      where
        known : went_on n begun (codes "> " ++ script.text) (script_at begun (slice_get scenario.sections n)) ≡ Some (Inside n (begun + 1) Free)
        known =
            ap (λ (s : Option Section). went_on n begun (codes "> " ++ script.text) (script_at begun s)) there
            ∙ ap (λ (s : Option ScriptLine). went_on n begun (codes "> " ++ script.text) s) e
            ∙ ap (λ (t : Bool). cond t (Some (Inside n (begun + 1) Free)) None) (same_bytes (codes "> " ++ script.text))

        by : (w : Within) → IsFree w → IsStep scenario (Inside n begun w) (codes "> " ++ script.text) (Inside n (begun + 1) Free)
        by Free f = Known known
        by Receiving f = Known known
        by w f = absurd f

    -- where the lines of items lead
    pub record Leads (begun : ℕ) (within : Within) (left : List ScriptLine) (lines : List (List ℕ)) : Type 0 where
      pub count : ℕ
      pub last : Within
      pub free : IsFree last
      pub rest : drop count section.lines ≡ left
      pub lead : Lead scenario (Inside n begun within) lines (Inside n count last)

    in_one : (begun : ℕ) (within : Within) (left : List ScriptLine) (shown : Shown) → IsFree within → drop begun section.lines ≡ left → IsHeld shown → free_from n begun shown ≡ Some (Inside n begun Free) → Leads begun within left (shown_text shown ∷ [])
    in_one begun within left shown f d h e = record { count = begun; last = Free; free = tt; rest = d; lead = (Inside n begun Free, free_step begun within shown (Inside n begun Free) f h e, refl) }

    item_lead : (begun : ℕ) (within : Within) (left : List ScriptLine) (one : Item) → IsFree within → drop begun section.lines ≡ left → IsReadItem one → IsNextLine left one → Leads begun within (lines_left left one) (item_lines section.lines one)
    item_lead begun within [] (item.Line m) f d h next = absurd next
    item_lead begun within (script ∷ left) (item.Line m) f d h next =
        let at = drop_first section.lines left begun script d in
        let text : line_text m section.lines ≡ script.text = ap (λ (k : ℕ). line_text k section.lines) (sym next) ∙ text_at section.lines begun script rising at.0 in
        record {
          count = begun + 1;
          last = Free;
          free = tt;
          rest = at.1;
          lead = (Inside n (begun + 1) Free, subst (λ (bytes : List ℕ). IsStep scenario (Inside n begun within) (codes "> " ++ bytes) (Inside n (begun + 1) Free)) (sym text) (line_step begun within script f at.0), refl);
        }
    item_lead begun within left (item.Enlist base point) f d h next = in_one begun within left (Enlist base point) f d h refl
    item_lead begun within left (item.Publish xid notes) f d h next = in_one begun within left (Publish xid) f d h.0 refl
    item_lead begun within left (item.QueueFull full notes) f d h next =
        in_one begun within left (QueueFull full) f d (h.0.xid, h.0.queued, h.0.head_page, h.0.floor_mark, h.0.floor_page, h.0.holder) refl
    item_lead begun within left item.Leave f d h next = in_one begun within left Leave f d tt refl
    item_lead begun within left (item.Reply done None) f d h next = in_one begun within left (Tagged done) f d (held_tag done h) refl
    item_lead begun within left (item.Reply done (Some warning)) f d h next = record {
      count = begun;
      last = Free;
      free = tt;
      rest = d;
      lead = (Inside n begun Warned, free_step begun within (Warn warning) (Inside n begun Warned) f tt refl, (Inside n begun Free, next_step begun Warned (Tagged done) (Inside n begun Free) (held_tag done h) refl, refl));
    }
    item_lead begun within left (item.Refuse refusal) f d h next = in_one begun within left (Refuse refusal) f d (held_refusal refusal h) refl
    item_lead begun within left (item.Channels names) f d h next =
        let rows = rows_lead begun within names f h.1 in
        record { count = begun; last = rows.0; free = rows.1; rest = d; lead = rows.2 }
    item_lead begun within left (item.Used usage) f d h next = record {
      count = begun;
      last = Free;
      free = tt;
      rest = d;
      lead = (
        Inside n begun Measuring,
        free_step begun within (Measured usage.at usage.floor_mark usage.holder) (Inside n begun Measuring) f (h.at, h.floor_mark, h.holder) refl,
        (Inside n begun Free, next_step begun Measuring (Pages usage.occupied usage.limit) (Inside n begun Free) (h.occupied, h.limit) refl, refl),
      );
    }
    item_lead begun within left (item.Raise value) f d h next = in_one begun within left (Raise value) f d h refl
    item_lead begun within left (item.Found value) f d h next = in_one begun within left (Found value) f d h refl
    item_lead begun within left (item.TimedOut looks) f d h next = in_one begun within left (TimedOut looks) f d h refl
    item_lead begun within left (item.Read from to got) f d h next = record {
      count = begun;
      last = Receiving;
      free = tt;
      rest = d;
      lead = (Inside n begun Receiving, free_step begun within (Read from to) (Inside n begun Receiving) f (h.0, h.1) refl, received_lead begun got h.2);
    }

    items_lead : (begun : ℕ) (within : Within) (left : List ScriptLine) (items : List Item) → IsFree within → drop begun section.lines ≡ left → All IsReadItem items → Along lines_left IsNextLine left items
        → (count : ℕ) × (last : Within) × IsFree last × Lead scenario (Inside n begun within) (flat_map (item_lines section.lines) items) (Inside n count last)
    items_lead begun within left [] f d h along = (begun, within, f, refl)
    items_lead begun within left (one ∷ items) f d h along =
        let first = item_lead begun within left one f d (All-head IsReadItem one items h) along.0 in
        let rest = items_lead first.count first.last (lines_left left one) items first.free first.rest (All-tail IsReadItem one items h) along.1 in (
          rest.0,
          rest.1,
          rest.2,
          lead_both scenario (Inside n begun within) (Inside n first.count first.last) (Inside n rest.0 rest.1) (item_lines section.lines one) (flat_map (item_lines section.lines) items) first.lead rest.3,
        )

    trace_lead : (trace : Trace) → IsReadTrace section trace → Lead scenario (Sections n) (trace_lines section trace) (Sections (n + 1))
    trace_lead trace h =
        let items = items_lead 0 Free section.lines trace.items tt refl h.items h.in_order in
        let head : IsStep scenario (Sections n) (section_line section) (Inside n 0 Free) =
        Known (ap (λ (s : Option Section). opened n (section_line section) s) there ∙ ap (λ (t : Bool). cond t (Some (Inside n 0 Free)) None) (same_bytes (section_line section))) in
        let last : Lead scenario (Inside n items.0 items.1) (end_line trace.last ∷ []) (Sections (n + 1)) =
        (Sections (n + 1), free_step items.0 items.1 (End trace.last) (Sections (n + 1)) items.2 h.last refl, refl) in
        (Inside n 0 Free, head, lead_both scenario (Inside n 0 Free) (Inside n items.0 items.1) (Sections (n + 1)) (flat_map (item_lines section.lines) trace.items) (end_line trace.last ∷ []) items.3 last)

module _ (scenario : Scenario) where
  traces_lead : (front back : List Section) (traces : List Trace) (n : ℕ) → scenario.sections ≡ front ++ back → length front ≡ n → All (λ section. Rise section.lines) back → EachSection IsReadTrace back traces
      → Lead scenario (Sections n) (traces_lines back traces) (Ended scenario)
  traces_lead front [] [] n e l r h = ap (λ (k : ℕ). Sections k) (omega (arith, l, ap length e, length-append front []))
  traces_lead front [] (trace ∷ traces) n e l r h = absurd h
  traces_lead front (section ∷ back) [] n e l r h = absurd h
  traces_lead front (section ∷ back) (trace ∷ traces) n e l r h =
      let there : slice_get scenario.sections n ≡ Some section =
      ap (λ (k : ℕ). slice_get scenario.sections k) (sym l) ∙ ap (λ (sections : List Section). slice_get sections (length front)) e ∙ at_place front back section in
      let first = trace_lead scenario n section there (All-head (λ (s : Section). Rise s.lines) section back r) trace h.0 in
      let more : scenario.sections ≡ (front ++ section ∷ []) ++ back = e ∙ sym (append_assoc front (section ∷ []) back) in
      let rest = traces_lead (front ++ section ∷ []) back traces (n + 1) more (omega (arith, l, length-append front (section ∷ []))) (All-tail (λ (s : Section). Rise s.lines) section back r) h.1 in
      lead_both scenario (Sections n) (Sections (n + 1)) (Ended scenario) (trace_lines section trace) (traces_lines back traces) first rest

  notes_lead : (left next : ℕ) (notes : List Note) → All IsLineNote notes → Lead scenario (notes_from (length notes) left next) (map note_line notes) (entries_from left next)
  notes_lead left next [] h = refl
  notes_lead left next (note ∷ notes) h =
      let first : IsLineNote note = All-head IsLineNote note notes h in
      let count : ℕ = length notes in
      let fewer : suc count - 1 ≡ count = omega arith in
      let step : IsStep scenario (Notes (suc count) left next) (note_line note) (notes_from count left next) = Showing refl (Sent note) (first.note, refl) (ap (λ (m : ℕ). Some (notes_from m left next)) fewer) in
      let rest : Lead scenario (Notes (suc count) left next) (map note_line (note ∷ notes)) (entries_from left next) = (notes_from count left next, step, notes_lead left next notes (All-tail IsLineNote note notes h)) in
      subst (λ (t : Bool). Lead scenario (cond t (entries_from left next) (Notes (suc count) left next)) (map note_line (note ∷ notes)) (entries_from left next)) (sym (some_more count)) rest

  entry_lead : (left x : ℕ) (tx : Tx) → 3 ≤ x → x < 2 ^ 32 → IsReadTx scenario.sections tx → Lead scenario (Entries (left + 1) x) (entry_lines x tx) (entries_from left (x + 1))
  entry_lead left x tx first few h = by tx.fate refl
    where
      count : ℕ
      count = length tx.notes

      to : Place
      to = notes_from count left (x + 1)

      there : entry_from (left + 1) x x count ≡ Some to
      there = ap (λ (t : Bool). cond t (Some (notes_from count ((left + 1) - 1) (x + 1))) None) (eq-eqb x x refl) ∙ ap (λ (k : ℕ). Some (notes_from count k (x + 1))) (omega arith)

      head : Fate → List ℕ
      head f = codes "xid " ++ decimal x ++ codes " session " ++ decimal tx.session ++ fate_text f tx.queued count

      by : (f : Fate) → tx.fate ≡ f → Lead scenario (Entries (left + 1) x) (entry_lines x tx) (entries_from left (x + 1))
      by fate.Committed e =
          (to, subst (λ (f : Fate). IsStep scenario (Entries (left + 1) x) (head f) to) (sym e) (Showing refl (Committed x tx.session count) (((first, few), h.session, h.few), refl) there), notes_lead left (x + 1) tx.notes h.notes)
      by fate.Aborted e =
          let queued : tx.queued < 2 ^ 32 = subst (λ (f : Fate). IsReadQueued f tx.queued count) e h.queueing in (
            to,
            subst (λ (f : Fate). IsStep scenario (Entries (left + 1) x) (head f) to) (sym e) (Showing refl (Aborted x tx.session tx.queued count) (((first, few), h.session, queued, h.few), refl) there),
            notes_lead left (x + 1) tx.notes h.notes,
          )

  entries_lead : (x : ℕ) (txs : List Tx) → 3 ≤ x → x + length txs < 2 ^ 32 → All (IsReadTx scenario.sections) txs → Lead scenario (entries_from (length txs) x) (entries_lines x txs) (Sections 0)
  entries_lead x [] first few h = refl
  entries_lead x (tx ∷ txs) first few h =
      let one = entry_lead (length txs) x tx first (omega (arith, few)) (All-head (IsReadTx scenario.sections) tx txs h) in
      let start : Lead scenario (Entries (suc (length txs)) x) (entry_lines x tx) (entries_from (length txs) (x + 1)) = subst (λ (k : ℕ). Lead scenario (Entries k x) (entry_lines x tx) (entries_from (length txs) (x + 1))) (omega arith) one in
      let all : Lead scenario (Entries (suc (length txs)) x) (entries_lines x (tx ∷ txs)) (Sections 0) =
      lead_both scenario (Entries (suc (length txs)) x) (entries_from (length txs) (x + 1)) (Sections 0) (entry_lines x tx) (entries_lines (x + 1) txs) start
      (entries_lead (x + 1) txs (omega (arith, first)) (omega (arith, few)) (All-tail (IsReadTx scenario.sections) tx txs h)) in
      subst (λ (t : Bool). Lead scenario (cond t (Sections 0) (Entries (suc (length txs)) x)) (entries_lines x (tx ∷ txs)) (Sections 0)) (sym (some_more (length txs))) all

  rising : (k : ℕ) (d : Section) → IsSound scenario → k < length scenario.sections → Rise (get_or scenario.sections k d).lines
  rising k d sound lt = (sound.sections k d lt).rising

  -- the lines of a readable journal and traces lead through
  pub readable_leads : (journal : List Tx) (traces : List Trace) → IsSound scenario → IsReadable scenario journal traces → Lead scenario Start (text_lines scenario journal traces) (Ended scenario)
  readable_leads journal traces sound h =
      let head : IsStep scenario Start (codes "journal " ++ decimal (length journal)) (entries_from (length journal) FIRST_XID) = Showing refl (Journal (length journal)) (h.few, refl) refl in
      let entries = entries_lead FIRST_XID journal (omega arith) (omega (arith, h.few)) h.entries in
      let rest = traces_lead [] scenario.sections traces 0 refl refl (λ k d lt. rising k d sound lt) h.each in
      (entries_from (length journal) FIRST_XID, head, lead_both scenario (entries_from (length journal) FIRST_XID) (Sections 0) (Ended scenario) (entries_lines FIRST_XID journal) (traces_lines scenario.sections traces) entries rest)
