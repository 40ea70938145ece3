-- A section, read line by line.
use Rattle.std.proofs.Common.{◌≡◌, ◌≢◌, ℕ, zero, suc, ◌+◌, ◌^◌, ◌<◌, ◌≤◌, ◌&&◌, Bool, true, false, cond, inl, inr, List, [], ◌∷◌, ◌++◌, length, map, drop, slice_get, Option, None, Some, IfSome, codes, decimal, sym, ap, ◌∙◌, refl, subst, arith, append_assoc, append-nil, length-append}
use Rattle.std.specs.Prelude.{All, flat_map, bytes_eq}
use Rattle.std.proofs.lemmas.Bool.{cases_Bool}
use Rattle.std.proofs.lemmas.List.{flat_map_more, map-append}
use Rattle.std.proofs.lemmas.List.Elements.{All-nil, All-cons, All-push}
use Rattle.std.proofs.lemmas.Slice.Eq.{bytes_eq-Decides}
use Rattle.std.proofs.lemmas.Option.{get_or_from_slice_get, slice_get_within}
use Rattle.pgn_base.specs.declared.note.Delivery.{Delivery}
use Rattle.pgn_base.specs.declared.answers.Tag.{Tag}
use Rattle.pgn_base.specs.declared.answers.Tag.TheVariants as tag
use Rattle.pgn_base.specs.declared.queue_answers.Usage.{Usage}
use Rattle.pgn_journal.specs.declared.tx.Tx.{Tx}
use Rattle.pgn_language.specs.declared.scenario.ScriptLine.{ScriptLine}
use Rattle.pgn_language.specs.declared.scenario.Section.{Section}
use Rattle.pgn_language.specs.declared.scenario.Scenario.{Scenario}
use Rattle.pgn_language.specs.Inputs.{IsOneLine, IsSound, Rise}
use Rattle.pgn_model.specs.declared.item.Item.{Item}
use Rattle.pgn_model.specs.declared.item.Item.TheVariants as item
use Rattle.pgn_model.specs.declared.trace.Trace.{Trace}
use Rattle.pgn_model.specs.Walk.{IsNext}
use Rattle.pgn_model.specs.Text.{channel_line, delivery_line, end_line, item_lines, journal_lines, line_text, section_line, trace_lines, traces_lines}
use Rattle.pgn_model.proofs.WalkLaws.{Along-push_at, fold-push}
use Rattle.pgn_lines.specs.Shown.{IsHeld, Shows, shown_text}
use Rattle.pgn_lines.specs.declared.shown.Shown.{Shown}
use Rattle.pgn_lines.specs.declared.shown.Shown.TheVariants.{Enlist, Publish, QueueFull, Leave, Warn, Tagged, Refuse, Channel, Measured, Pages, Raise, Found, TimedOut, Read, Received, End}
use Rattle.pgn_reading.specs.Form.{AreApart, is_rows, IsLineDelivery, IsLineName, IsLineTag, IsNextLine, IsReadItem, IsReadTrace, lines_left}
use Rattle.pgn_reading.proofs.GoesOnLaws.{each-append, traces-append}
use Rattle.pgn_form.specs.declared.place.Place.{Place}
use Rattle.pgn_form.specs.declared.place.Place.TheVariants.{Sections, Inside}
use Rattle.pgn_form.specs.declared.place.Within.{Within}
use Rattle.pgn_form.specs.declared.place.Within.TheVariants.{Free, Warned, Measuring, Receiving}
use Rattle.pgn_form.specs.declared.draft.Draft.{Draft}
use Rattle.pgn_form.specs.declared.draft.Part.{Part}
use Rattle.pgn_form.specs.declared.draft.Part.TheVariants as part
use Rattle.pgn_form.specs.Places.{free_from, opened, script_at, told, went_on, within_from}
use Rattle.pgn_form.specs.Drafts.{added, begun as opening, closed, ended, known, lined, of_section, paged, received, rowed, tagged, with_item}
use Rattle.pgn_form.specs.Stands.{AtItem, BeforeSection, ends_rows, InSection, HasPart, Stands}
use Rattle.pgn_form.proofs.CleanLaws.{received_clean, refusal_clean, row_clean}
use Rattle.pgn_form.proofs.ForwardLaws.{at_place, IsFree, text_at}
use Rattle.pgn_form.proofs.StandLaws.{nowhere, same_place}

-- Lists.

flat_push : {X A : Type 0} (f : X → List A) (xs : List X) (x : X) → flat_map f (xs ++ x ∷ []) ≡ flat_map f xs ++ f x
flat_push f xs x = sym (flat_map_more f [] xs x)

-- what stands behind the first of two lists
behind : {X : Type 0} (front back : List X) (x : X) → slice_get (front ++ back) (length front) ≡ Some x → (rest : List X) × (back ≡ x ∷ rest)
behind [] [] x e = absurd (let no : ⊥ = cc in no)
behind [] (y ∷ back) x e = (back, let same : y ≡ x = cc in ap (λ z. z ∷ back) same)
behind (y ∷ front) back x e = behind front back x e

-- what is left of a list from the place of one of its items on
drop_at_place : {X : Type 0} (xs : List X) (k : ℕ) (x : X) → slice_get xs k ≡ Some x → drop k xs ≡ x ∷ drop (k + 1) xs
drop_at_place [] k x e = absurd (let no : ⊥ = cc in no)
drop_at_place (y ∷ xs) zero x e = let same : y ≡ x = cc in ap (λ z. z ∷ xs) same
drop_at_place (y ∷ xs) (suc k) x e = drop_at_place xs k x e ∙ ap (λ (m : ℕ). x ∷ drop m (y ∷ xs)) (next k)
  where
    next : (k : ℕ) → suc (k + 1) ≡ suc k + 1
    next k = omega arith

-- Rows.

never : (b : Bool) → (b && false) ≡ false
never true = refl
never false = refl

pub ends_push : (items : List Item) (one : Item) → ends_rows (items ++ one ∷ []) ≡ is_rows one
ends_push [] one = refl
ends_push (first ∷ []) one = refl
ends_push (first ∷ next ∷ items) one = ends_push (next ∷ items) one

apart_push : (items : List Item) (one : Item) → AreApart items → (is_rows one ≡ true → ends_rows items ≡ false) → AreApart (items ++ one ∷ [])
apart_push [] one h k = (never (is_rows one), tt)
apart_push (first ∷ []) one h k = (by (is_rows one) refl, (never (is_rows one), tt))
  where
    by : (b : Bool) → is_rows one ≡ b → (is_rows first && b) ≡ false
    by true is = ap (λ (t : Bool). t && true) (k is)
    by false is = never (is_rows first)
apart_push (first ∷ next ∷ items) one h k = (h.0, apart_push (next ∷ items) one h.1 k)

-- Items.

shape_on : (journal traces : List (List ℕ)) (head : List ℕ) (items added : List (List ℕ)) → (journal ++ (traces ++ head ∷ items)) ++ added ≡ journal ++ (traces ++ head ∷ (items ++ added))
shape_on journal traces head items added =
    append_assoc journal (traces ++ head ∷ items) added ∙ ap (λ (ls : List (List ℕ)). journal ++ ls) (append_assoc traces (head ∷ items) added)

module _ (scenario : Scenario) (n : ℕ) where
  -- the section that has begun
  there : (begun : ℕ) (journal : List Tx) (traces : List Trace) (items : List Item) (lines : List (List ℕ)) → (h : InSection scenario n begun journal traces items lines) → slice_get scenario.sections n ≡ Some h.section
  there begun journal traces items lines h =
      ap (λ (sections : List Section). slice_get sections n) h.sections ∙ ap (λ (k : ℕ). slice_get (h.front ++ h.section ∷ h.back) k) (sym h.place) ∙ at_place h.front h.back h.section

  -- one item more
  item_on : (begun count : ℕ) (journal : List Tx) (traces : List Trace) (items : List Item) (lines added : List (List ℕ)) (one : Item) (h : InSection scenario n begun journal traces items lines) → IsReadItem one
      → (is_rows one ≡ true → ends_rows items ≡ false) → IsNextLine (drop begun h.section.lines) one → lines_left (drop begun h.section.lines) one ≡ drop count h.section.lines → item_lines h.section.lines one ≡ added
      → InSection scenario n count journal traces (items ++ one ∷ []) (lines ++ added)
  item_on begun count journal traces items lines added one h valid apart next left shown =
      let head : List ℕ = section_line h.section in
      let so_far : List (List ℕ) = flat_map (item_lines h.section.lines) items in
      let before : List (List ℕ) = journal_lines journal in
      let done : List (List ℕ) = traces_lines h.front traces in
      record {
        front = h.front;
        back = h.back;
        section = h.section;
        sections = h.sections;
        place = h.place;
        few = h.few;
        entries = h.entries;
        each = h.each;
        in_order = Along-push_at lines_left IsNextLine h.section.lines (drop begun h.section.lines) items one h.rest h.in_order next;
        rest = fold-push lines_left h.section.lines items one ∙ ap (λ (left : List ScriptLine). lines_left left one) h.rest ∙ left;
        valid = All-push IsReadItem items one h.valid valid;
        apart = apart_push items one h.apart apart;
        shown = ap (λ (ls : List (List ℕ)). ls ++ added) h.shown ∙ shape_on before done head so_far added
            ∙ ap (λ (ls : List (List ℕ)). before ++ (done ++ head ∷ (so_far ++ ls))) (sym shown) ∙ ap (λ (ls : List (List ℕ)). before ++ (done ++ head ∷ ls)) (sym (flat_push (item_lines h.section.lines) items one));
      }

  -- and no script line
  pub plain_on : (begun : ℕ) (journal : List Tx) (traces : List Trace) (items : List Item) (lines added : List (List ℕ)) (one : Item) → InSection scenario n begun journal traces items lines → IsReadItem one
      → (is_rows one ≡ true → ends_rows items ≡ false) → ((left : List ScriptLine) → IsNextLine left one) → ((left : List ScriptLine) → lines_left left one ≡ left) → ((lines : List ScriptLine) → item_lines lines one ≡ added)
      → InSection scenario n begun journal traces (items ++ one ∷ []) (lines ++ added)
  plain_on begun journal traces items lines added one h valid apart next left shown =
      item_on begun begun journal traces items lines added one h valid apart (next (drop begun h.section.lines)) (left (drop begun h.section.lines)) (shown h.section.lines)

  -- what has begun is whole
  close : (begun : ℕ) (within : Within) (o : Part) (journal : List Tx) (traces : List Trace) (items : List Item) (lines before after : List (List ℕ)) → IsFree within → InSection scenario n begun journal traces items before
      → HasPart within o items after → lines ≡ before ++ after → InSection scenario n begun journal traces (items ++ closed o) lines × (within ≡ Receiving → ends_rows (items ++ closed o) ≡ false)
  close begun Free part.Nothing journal traces items lines before after f h k e =
      let same : lines ≡ before = e ∙ ap (λ (ls : List (List ℕ)). before ++ ls) k.0 ∙ append-nil before in (
        subst (λ (ls : List (List ℕ)). InSection scenario n begun journal traces (items ++ []) ls) (sym same) (subst (λ (is : List Item). InSection scenario n begun journal traces is before) (sym (append-nil items)) h),
        λ no. absurd (let none : ⊥ = cc in none),
      )
  close begun Free (part.Rows names) journal traces items lines before after f h k e =
      let one : Item = item.Channels names in
      let same : lines ≡ before ++ map channel_line names = e ∙ ap (λ (ls : List (List ℕ)). before ++ ls) k.2 in (
        subst (λ (ls : List (List ℕ)). InSection scenario n begun journal traces (items ++ one ∷ []) ls) (sym same)
            (plain_on begun journal traces items before (map channel_line names) one h (k.0, k.1) (λ is. k.3) (λ left. tt) (λ left. refl) (λ lines. refl)),
        λ no. absurd (let none : ⊥ = cc in none),
      )
  close begun Receiving (part.Reads from to got) journal traces items lines before after f h k e =
      let one : Item = item.Read from to got in
      let added : List (List ℕ) = (codes "+read " ++ decimal from ++ codes " " ++ decimal to) ∷ map delivery_line got in
      let same : lines ≡ before ++ added = e ∙ ap (λ (ls : List (List ℕ)). before ++ ls) k.3 in (
        subst (λ (ls : List (List ℕ)). InSection scenario n begun journal traces (items ++ one ∷ []) ls) (sym same)
            (plain_on begun journal traces items before added one h (k.0, k.1, k.2) (λ is. absurd (let none : ⊥ = cc in none)) (λ left. tt) (λ left. refl) (λ lines. refl)),
        λ is. ends_push items one,
      )
  close begun Free o journal traces items lines before after f h k e = absurd k
  close begun Receiving o journal traces items lines before after f h k e = absurd k
  close begun within o journal traces items lines before after f h k e = absurd f

  -- the lines so far are those of a section with the open part as its last item
  pub shut : (begun : ℕ) (within : Within) (draft : Draft) (lines : List (List ℕ)) → IsFree within → AtItem scenario n begun within draft lines → InSection scenario n begun draft.journal draft.traces (draft.items ++ closed draft.part) lines
  shut begun within draft lines f h = (close begun within draft.part draft.journal draft.traces draft.items lines h.before h.after f h.whole h.part h.all).0

  module _ (begun : ℕ) (within : Within) (draft : Draft) (lines : List (List ℕ)) (f : IsFree within) (h : AtItem scenario n begun within draft lines) where
    -- an item that stands in one line
    one_on : (line : List ℕ) (one : Item) → IsReadItem one → is_rows one ≡ false → ((left : List ScriptLine) → IsNextLine left one) → ((left : List ScriptLine) → lines_left left one ≡ left)
        → ((lines : List ScriptLine) → item_lines lines one ≡ line ∷ []) → AtItem scenario n begun Free (with_item draft one) (lines ++ line ∷ [])
    one_on line one valid plain next left shown = record {
      before = lines ++ line ∷ [];
      after = [];
      whole = plain_on begun draft.journal draft.traces (draft.items ++ closed draft.part) lines (line ∷ []) one (shut begun within draft lines f h) valid (λ is. absurd (let none : ⊥ = cc in none)) next left shown;
      part = (refl, ends_push (draft.items ++ closed draft.part) one ∙ plain);
      all = sym (append-nil (lines ++ line ∷ []));
    }

    -- something begins
    open_on : (line : List ℕ) (after : Within) (o : Part) → HasPart after o (draft.items ++ closed draft.part) (line ∷ []) → AtItem scenario n begun after (opening draft o) (lines ++ line ∷ [])
    open_on line after o k = record { before = lines; after = line ∷ []; whole = shut begun within draft lines f h; part = k; all = refl }

    -- a tag without a warning
    plain_tag : (o : Part) (after : List (List ℕ)) (done : Tag) → HasPart within o draft.items after → tagged draft o done ≡ with_item draft (item.Reply done None)
    plain_tag o after done k = by within o f k
      where
        by : (w : Within) (p : Part) → IsFree w → HasPart w p draft.items after → tagged draft p done ≡ with_item draft (item.Reply done None)
        by Free part.Nothing g k = refl
        by Free (part.Rows names) g k = refl
        by Receiving (part.Reads from to got) g k = refl
        by Free o g k = absurd k
        by Receiving o g k = absurd k
        by w o g k = absurd g

    -- the row of a channel
    row_on : (name line : List ℕ) → IsLineName name → channel_line name ≡ line → AtItem scenario n begun Free (rowed draft draft.part name) (lines ++ line ∷ [])
    row_on name line valid shown = by within draft.part refl f h.part
      where
        first : All IsLineName (name ∷ [])
        first = All-cons IsLineName name [] valid (All-nil IsLineName)

        some : name ∷ [] ≢ []
        some e = let none : ⊥ = cc in none

        grown : (names : List (List ℕ)) → names ++ name ∷ [] ≢ []
        grown [] e = let none : ⊥ = cc in none
        grown (other ∷ names) e = let none : ⊥ = cc in none

        new : ends_rows (draft.items ++ closed draft.part) ≡ false → AtItem scenario n begun Free (opening draft (part.Rows (name ∷ []))) (lines ++ line ∷ [])
        new k = open_on line Free (part.Rows (name ∷ [])) (some, first, ap (λ (l : List ℕ). let ls : List (List ℕ) = l ∷ [] in ls) (sym shown), k)

        by : (w : Within) (o : Part) → draft.part ≡ o → IsFree w → HasPart w o draft.items h.after → AtItem scenario n begun Free (rowed draft o name) (lines ++ line ∷ [])
        by Free part.Nothing e g k = new (ap (λ (p : Part). ends_rows (draft.items ++ closed p)) e ∙ ap ends_rows (append-nil draft.items) ∙ k.1)
        by Free (part.Rows names) e g k = record {
          before = h.before;
          after = h.after ++ line ∷ [];
          whole = h.whole;
          part = (
            grown names,
            All-push IsLineName names name k.1 valid,
            ap (λ (ls : List (List ℕ)). ls ++ line ∷ []) k.2 ∙ ap (λ (l : List ℕ). map channel_line names ++ l ∷ []) (sym shown) ∙ sym (map-append channel_line names (name ∷ [])),
            k.3,
          );
          all = ap (λ (ls : List (List ℕ)). ls ++ line ∷ []) h.all ∙ append_assoc h.before h.after (line ∷ []);
        }
        by Receiving (part.Reads from to got) e g k = new (ap (λ (p : Part). ends_rows (draft.items ++ closed p)) e ∙ ends_push draft.items (item.Read from to got))
        by Free o e g k = absurd k
        by Receiving o e g k = absurd k
        by w o e g k = absurd g

    -- the section ends
    end_on : (mark : Option ℕ) (line : List ℕ) → IfSome mark (λ m. (3 ≤ m) × (m < 2 ^ 32)) → end_line mark ≡ line → Stands scenario (Sections (n + 1)) (ended draft mark (slice_get scenario.sections n)) (lines ++ line ∷ [])
    end_on mark line valid shown =
        let whole = shut begun within draft lines f h in
        let section : Section = whole.section in
        let trace : Trace = record { session = section.no; db = section.db; items = draft.items ++ closed draft.part; last = mark } in
        let read : IsReadTrace section trace = record { session = refl; database = refl; in_order = whole.in_order; items = whole.valid; apart = whole.apart; last = valid } in
        let here : slice_get scenario.sections n ≡ Some section = there begun draft.journal draft.traces (draft.items ++ closed draft.part) lines whole in
        let items : List (List ℕ) = flat_map (item_lines section.lines) (draft.items ++ closed draft.part) in
        let done : List (List ℕ) = traces_lines whole.front draft.traces in
        let spelled : lines ++ line ∷ [] ≡ journal_lines draft.journal ++ traces_lines (whole.front ++ section ∷ []) (draft.traces ++ trace ∷ []) =
        ap (λ (ls : List (List ℕ)). ls ++ line ∷ []) whole.shown ∙ shape_on (journal_lines draft.journal) done (section_line section) items (line ∷ [])
        ∙ ap (λ (l : List ℕ). journal_lines draft.journal ++ (done ++ section_line section ∷ (items ++ l ∷ []))) (sym shown)
        ∙ ap (λ (ls : List (List ℕ)). journal_lines draft.journal ++ (done ++ ls)) (sym (append-nil (trace_lines section trace)))
        ∙ ap (λ (ls : List (List ℕ)). journal_lines draft.journal ++ ls) (sym (traces-append whole.front (section ∷ []) draft.traces (trace ∷ []) whole.each)) in
        let next : BeforeSection scenario (n + 1) (ended draft mark (Some section)) (lines ++ line ∷ []) =
        record {
          front = whole.front ++ section ∷ [];
          back = whole.back;
          sections = whole.sections ∙ sym (append_assoc whole.front (section ∷ []) whole.back);
          place = omega (arith, whole.place, length-append whole.front (section ∷ []));
          few = whole.few;
          entries = whole.entries;
          each = each-append whole.front (section ∷ []) draft.traces (trace ∷ []) whole.each (read, tt);
          items = refl;
          part = refl;
          shown = spelled;
        } in
        subst (λ (s : Option Section). Stands scenario (Sections (n + 1)) (ended draft mark s) (lines ++ line ∷ [])) (sym here) next

    -- a script line begins
    script_on : (line : List ℕ) (next : Place) → IsSound scenario → went_on n begun line (script_at begun (slice_get scenario.sections n)) ≡ Some next
        → Stands scenario next (lined draft (script_at begun (slice_get scenario.sections n))) (lines ++ line ∷ [])
    script_on line next sound told_it =
        subst (λ (s : Option Section). Stands scenario next (lined draft (script_at begun s)) (lines ++ line ∷ [])) (sym here)
        (by (slice_get section.lines begun) refl (sym (ap (λ (s : Option Section). went_on n begun line (script_at begun s)) here) ∙ told_it))
      where
        items : List Item
        items = draft.items ++ closed draft.part

        whole : InSection scenario n begun draft.journal draft.traces items lines
        whole = shut begun within draft lines f h

        section : Section
        section = whole.section

        here : slice_get scenario.sections n ≡ Some section
        here = there begun draft.journal draft.traces items lines whole

        rising : Rise section.lines
        rising =
            subst (λ (s : Section). Rise s.lines) (get_or_from_slice_get scenario.sections n section section here)
            (sound.sections n section (slice_get_within scenario.sections n section here)).rising

        by : (s : Option ScriptLine) → slice_get section.lines begun ≡ s → went_on n begun line s ≡ Some next → Stands scenario next (lined draft s) (lines ++ line ∷ [])
        by None e k = absurd (nowhere next k)
        by (Some script) e k = elim (cases_Bool (bytes_eq (codes "> " ++ script.text) line)) [
          | inl is ↦
              let one : Item = item.Line script.line in
              let left : drop begun section.lines ≡ script ∷ drop (begun + 1) section.lines = drop_at_place section.lines begun script e in
              let text : line_text script.line section.lines ≡ script.text = text_at scenario n section.lines begun script rising e in
              let same : codes "> " ++ script.text ≡ line = (bytes_eq-Decides (codes "> " ++ script.text) line).0 is in
              let to : Inside n (begun + 1) Free ≡ next = same_place (Inside n (begun + 1) Free) next (sym (ap (λ (t : Bool). cond t (Some (Inside n (begun + 1) Free)) None) is) ∙ k) in
              let stands : AtItem scenario n (begun + 1) Free (with_item draft one) (lines ++ line ∷ []) =
              record {
                before = lines ++ line ∷ [];
                after = [];
                whole = item_on begun (begun + 1) draft.journal draft.traces items lines (line ∷ []) one whole tt (λ is. absurd (let none : ⊥ = cc in none))
                    (subst (λ (ls : List ScriptLine). IsNext script.line ls) (sym left) refl) (ap (λ (ls : List ScriptLine). drop 1 ls) left)
                    (ap (λ (t : List ℕ). let ls : List (List ℕ) = (codes "> " ++ t) ∷ [] in ls) text ∙ ap (λ (l : List ℕ). let ls : List (List ℕ) = l ∷ [] in ls) same);
                part = (refl, ends_push items one);
                all = sym (append-nil (lines ++ line ∷ []));
              } in
              subst (λ (p : Place). Stands scenario p (with_item draft one) (lines ++ line ∷ [])) to stands
          | inr is ↦ absurd (nowhere next (sym (ap (λ (t : Bool). cond t (Some (Inside n (begun + 1) Free)) None) is) ∙ k))
        ]

    alone : (shown : Shown) (line : List ℕ) → shown_text shown ≡ line → shown_text shown ∷ [] ≡ line ∷ []
    alone shown line e = ap (λ (l : List ℕ). let ls : List (List ℕ) = l ∷ [] in ls) e

    leads : (to next : Place) (after : Draft) (line : List ℕ) → Some to ≡ Some next → Stands scenario to after (lines ++ line ∷ []) → Stands scenario next after (lines ++ line ∷ [])
    leads to next after line e k = subst (λ (p : Place). Stands scenario p after (lines ++ line ∷ [])) (same_place to next e) k

    read_tag : (done : Tag) → IsHeld (Tagged done) → IsLineTag done
    read_tag (tag.Select rows) held = held
    read_tag done held = tt

    -- a line that shows something, where nothing has to go on
    free_shown : (line : List ℕ) (shown : Shown) (next : Place) → IsOneLine line → Shows line shown → free_from n begun shown ≡ Some next
        → Stands scenario next (of_section (slice_get scenario.sections n) draft shown) (lines ++ line ∷ [])
    free_shown line (Enlist base point) next clean s e =
        leads (Inside n begun Free) next (with_item draft (item.Enlist base point)) line e (one_on line (item.Enlist base point) s.0 refl (λ left. tt) (λ left. refl) (λ ls. alone (Enlist base point) line s.1))
    free_shown line (Publish xid) next clean s e =
        leads (Inside n begun Free) next (with_item draft (item.Publish xid [])) line e (one_on line (item.Publish xid []) (s.0, refl) refl (λ left. tt) (λ left. refl) (λ ls. alone (Publish xid) line s.1))
    free_shown line (QueueFull full) next clean s e =
        leads (Inside n begun Free) next (with_item draft (item.QueueFull full [])) line e
        (one_on line (item.QueueFull full [])
        (record { xid = s.0.0; queued = s.0.1; head_page = s.0.2; floor_mark = s.0.3; floor_page = s.0.4; holder = s.0.5 }, refl) refl (λ left. tt) (λ left. refl) (λ ls. alone (QueueFull full) line s.1))
    free_shown line Leave next clean s e = leads (Inside n begun Free) next (with_item draft item.Leave) line e (one_on line item.Leave tt refl (λ left. tt) (λ left. refl) (λ ls. alone Leave line s.1))
    free_shown line (Warn warning) next clean s e =
        leads (Inside n begun Warned) next (opening draft (part.Warned warning)) line e (open_on line Warned (part.Warned warning) (sym (alone (Warn warning) line s.1)))
    free_shown line (Tagged done) next clean s e =
        subst (λ (d : Draft). Stands scenario next d (lines ++ line ∷ [])) (sym (plain_tag draft.part h.after done h.part))
        (leads (Inside n begun Free) next (with_item draft (item.Reply done None)) line e
        (one_on line (item.Reply done None) (read_tag done s.0) refl (λ left. tt) (λ left. refl) (λ ls. alone (Tagged done) line s.1)))
    free_shown line (Refuse refusal) next clean s e =
        leads (Inside n begun Free) next (with_item draft (item.Refuse refusal)) line e
        (one_on line (item.Refuse refusal) (refusal_clean refusal s.0 (subst IsOneLine (sym s.1) clean)) refl (λ left. tt) (λ left. refl) (λ ls. alone (Refuse refusal) line s.1))
    free_shown line (Channel name) next clean s e =
        leads (Inside n begun Free) next (rowed draft draft.part name) line e (row_on name line (row_clean name s.0 (subst IsOneLine (sym s.1) clean)) s.1)
    free_shown line (Measured at floor_mark holder) next clean s e =
        leads (Inside n begun Measuring) next (opening draft (part.Measured at floor_mark holder)) line e
        (open_on line Measuring (part.Measured at floor_mark holder) (s.0.0, s.0.1, s.0.2, sym (alone (Measured at floor_mark holder) line s.1)))
    free_shown line (Raise value) next clean s e =
        leads (Inside n begun Free) next (with_item draft (item.Raise value)) line e (one_on line (item.Raise value) s.0 refl (λ left. tt) (λ left. refl) (λ ls. alone (Raise value) line s.1))
    free_shown line (Found value) next clean s e =
        leads (Inside n begun Free) next (with_item draft (item.Found value)) line e (one_on line (item.Found value) s.0 refl (λ left. tt) (λ left. refl) (λ ls. alone (Found value) line s.1))
    free_shown line (TimedOut looks) next clean s e =
        leads (Inside n begun Free) next (with_item draft (item.TimedOut looks)) line e (one_on line (item.TimedOut looks) s.0 refl (λ left. tt) (λ left. refl) (λ ls. alone (TimedOut looks) line s.1))
    free_shown line (Read from to) next clean s e =
        leads (Inside n begun Receiving) next (opening draft (part.Reads from to [])) line e
        (open_on line Receiving (part.Reads from to []) (s.0.0, s.0.1, All-nil IsLineDelivery, sym (alone (Read from to) line s.1)))
    free_shown line (End mark) next clean s e =
        leads (Sections (n + 1)) next (ended draft mark (slice_get scenario.sections n)) line e (end_on mark line s.0 s.1)
    free_shown line shown next clean s e = absurd (nowhere next e)

  -- a notification that was received
  received_on : (begun : ℕ) (draft : Draft) (lines : List (List ℕ)) (line : List ℕ) (delivery : Delivery) → AtItem scenario n begun Receiving draft lines → IsLineDelivery delivery → delivery_line delivery ≡ line
      → AtItem scenario n begun Receiving (received draft draft.part delivery) (lines ++ line ∷ [])
  received_on begun draft lines line delivery h valid shown = by draft.part h.part
    where
      by : (o : Part) → HasPart Receiving o draft.items h.after → AtItem scenario n begun Receiving (received draft o delivery) (lines ++ line ∷ [])
      by (part.Reads from to got) k = record {
        before = h.before;
        after = h.after ++ line ∷ [];
        whole = h.whole;
        part = (
          k.0,
          k.1,
          All-push IsLineDelivery got delivery k.2 valid,
          ap (λ (ls : List (List ℕ)). ls ++ line ∷ []) k.3 ∙ ap (λ (l : List ℕ). (codes "+read " ++ decimal from ++ codes " " ++ decimal to) ∷ (map delivery_line got ++ l ∷ [])) (sym shown)
              ∙ ap (λ (ls : List (List ℕ)). (codes "+read " ++ decimal from ++ codes " " ++ decimal to) ∷ ls) (sym (map-append delivery_line got (delivery ∷ []))),
        );
        all = ap (λ (ls : List (List ℕ)). ls ++ line ∷ []) h.all ∙ append_assoc h.before h.after (line ∷ []);
      }
      by o k = absurd k

  -- an item of two lines
  pair_on : (begun : ℕ) (draft : Draft) (lines before : List (List ℕ)) (first line : List ℕ) (one : Item) → InSection scenario n begun draft.journal draft.traces draft.items before → lines ≡ before ++ first ∷ [] → closed draft.part ≡ []
      → IsReadItem one → is_rows one ≡ false → ((left : List ScriptLine) → IsNextLine left one) → ((left : List ScriptLine) → lines_left left one ≡ left) → ((lines : List ScriptLine) → item_lines lines one ≡ first ∷ line ∷ [])
      → AtItem scenario n begun Free (with_item draft one) (lines ++ line ∷ [])
  pair_on begun draft lines before first line one h all nothing valid plain next left shown =
      let pushed : InSection scenario n begun draft.journal draft.traces (draft.items ++ one ∷ []) (before ++ first ∷ line ∷ []) =
      plain_on begun draft.journal draft.traces draft.items before (first ∷ line ∷ []) one h valid (λ is. absurd (let none : ⊥ = cc in none)) next left shown in
      let items : draft.items ++ one ∷ [] ≡ draft.items ++ closed draft.part ++ one ∷ [] =
      ap (λ (is : List Item). is ++ one ∷ []) (sym (append-nil draft.items) ∙ ap (λ (is : List Item). draft.items ++ is) (sym nothing)) in
      let spelled : before ++ first ∷ line ∷ [] ≡ lines ++ line ∷ [] = sym (append_assoc before (first ∷ []) (line ∷ [])) ∙ ap (λ (ls : List (List ℕ)). ls ++ line ∷ []) (sym all) in
      record {
        before = lines ++ line ∷ [];
        after = [];
        whole = subst (λ (ls : List (List ℕ)). InSection scenario n begun draft.journal draft.traces (draft.items ++ closed draft.part ++ one ∷ []) ls) spelled
            (subst (λ (is : List Item). InSection scenario n begun draft.journal draft.traces is (before ++ first ∷ line ∷ [])) items pushed);
        part = (refl, ends_push (draft.items ++ closed draft.part) one ∙ plain);
        all = sym (append-nil (lines ++ line ∷ []));
      }

  reads_tag : (done : Tag) → IsHeld (Tagged done) → IsLineTag done
  reads_tag (tag.Select rows) held = held
  reads_tag done held = tt

  -- the tag of a warning
  warned_on : (begun : ℕ) (draft : Draft) (lines : List (List ℕ)) (line : List ℕ) (done : Tag) → AtItem scenario n begun Warned draft lines → Shows line (Tagged done)
      → AtItem scenario n begun Free (tagged draft draft.part done) (lines ++ line ∷ [])
  warned_on begun draft lines line done h s = by draft.part refl h.part
    where
      by : (o : Part) → draft.part ≡ o → HasPart Warned o draft.items h.after → AtItem scenario n begun Free (tagged draft o done) (lines ++ line ∷ [])
      by (part.Warned warning) e k =
          pair_on begun draft lines h.before (shown_text (Warn warning)) line (item.Reply done (Some warning)) h.whole (h.all ∙ ap (λ (ls : List (List ℕ)). h.before ++ ls) k) (ap closed e) (reads_tag done s.0) refl
          (λ left. tt) (λ left. refl) (λ ls. ap (λ (l : List ℕ). shown_text (Warn warning) ∷ l ∷ []) s.1)
      by o e k = absurd k

  -- the pages of a usage
  measured_on : (begun : ℕ) (draft : Draft) (lines : List (List ℕ)) (line : List ℕ) (occupied limit : ℕ) → AtItem scenario n begun Measuring draft lines → Shows line (Pages occupied limit)
      → AtItem scenario n begun Free (paged draft draft.part occupied limit) (lines ++ line ∷ [])
  measured_on begun draft lines line occupied limit h s = by draft.part refl h.part
    where
      by : (o : Part) → draft.part ≡ o → HasPart Measuring o draft.items h.after → AtItem scenario n begun Free (paged draft o occupied limit) (lines ++ line ∷ [])
      by (part.Measured at floor_mark holder) e k =
          let usage : Usage = record { at = at; occupied = occupied; limit = limit; floor_mark = floor_mark; holder = holder } in
          pair_on begun draft lines h.before (shown_text (Measured at floor_mark holder)) line (item.Used usage) h.whole (h.all ∙ ap (λ (ls : List (List ℕ)). h.before ++ ls) k.3) (ap closed e)
          (record { at = k.0; occupied = s.0.0; limit = s.0.1; floor_mark = k.1; holder = k.2 }) refl (λ left. tt) (λ left. refl) (λ ls. ap (λ (l : List ℕ). shown_text (Measured at floor_mark holder) ∷ l ∷ []) s.1)
      by o e k = absurd k

  to_next : (to next : Place) (after : Draft) (lines : List (List ℕ)) → Some to ≡ Some next → Stands scenario to after lines → Stands scenario next after lines
  to_next to next after lines e k = subst (λ (p : Place). Stands scenario p after lines) (same_place to next e) k

  -- a line of a section that shows something
  pub section_shown : (begun : ℕ) (within : Within) (draft : Draft) (lines : List (List ℕ)) (line : List ℕ) (shown : Shown) (next : Place) → AtItem scenario n begun within draft lines → IsOneLine line → Shows line shown
      → within_from n begun within shown ≡ Some next → Stands scenario next (of_section (slice_get scenario.sections n) draft shown) (lines ++ line ∷ [])
  section_shown begun Free draft lines line shown next h clean s e = free_shown begun Free draft lines tt h line shown next clean s e
  section_shown begun Receiving draft lines line (Received delivery) next h clean s e =
      to_next (Inside n begun Receiving) next (received draft draft.part delivery) (lines ++ line ∷ []) e (received_on begun draft lines line delivery h (received_clean delivery s.0 (subst IsOneLine (sym s.1) clean)) s.1)
  section_shown begun Receiving draft lines line shown next h clean s e = free_shown begun Receiving draft lines tt h line shown next clean s e
  section_shown begun Warned draft lines line (Tagged done) next h clean s e =
      to_next (Inside n begun Free) next (tagged draft draft.part done) (lines ++ line ∷ []) e (warned_on begun draft lines line done h s)
  section_shown begun Warned draft lines line shown next h clean s e = absurd (nowhere next e)
  section_shown begun Measuring draft lines line (Pages occupied limit) next h clean s e =
      to_next (Inside n begun Free) next (paged draft draft.part occupied limit) (lines ++ line ∷ []) e (measured_on begun draft lines line occupied limit h s)
  section_shown begun Measuring draft lines line shown next h clean s e = absurd (nowhere next e)

  -- a line of a section that is known beforehand
  pub section_known : (begun : ℕ) (within : Within) (draft : Draft) (lines : List (List ℕ)) (line : List ℕ) (next : Place) → IsSound scenario → AtItem scenario n begun within draft lines
      → told scenario (Inside n begun within) line ≡ Some next → Stands scenario next (known scenario (Inside n begun within) draft) (lines ++ line ∷ [])
  section_known begun Free draft lines line next sound h e = script_on begun Free draft lines tt h line next sound e
  section_known begun Receiving draft lines line next sound h e = script_on begun Receiving draft lines tt h line next sound e
  section_known begun Warned draft lines line next sound h e = absurd (nowhere next e)
  section_known begun Measuring draft lines line next sound h e = absurd (nowhere next e)

  -- the head of a section
  pub section_opened : (draft : Draft) (lines : List (List ℕ)) (line : List ℕ) (next : Place) → BeforeSection scenario n draft lines → told scenario (Sections n) line ≡ Some next → Stands scenario next draft (lines ++ line ∷ [])
  section_opened draft lines line next h e = by (slice_get scenario.sections n) refl e
    where
      by : (s : Option Section) → slice_get scenario.sections n ≡ s → opened n line s ≡ Some next → Stands scenario next draft (lines ++ line ∷ [])
      by None here k = absurd (nowhere next k)
      by (Some section) here k = elim (cases_Bool (bytes_eq (section_line section) line)) [
        | inl is ↦
            let same : section_line section ≡ line = (bytes_eq-Decides (section_line section) line).0 is in
            let found = behind h.front h.back section (sym (ap (λ (ss : List Section). slice_get ss (length h.front)) h.sections) ∙ ap (λ (k : ℕ). slice_get scenario.sections k) h.place ∙ here) in
            let done : List (List ℕ) = traces_lines h.front draft.traces in
            let whole : InSection scenario n 0 draft.journal draft.traces [] (lines ++ line ∷ []) =
            record {
              front = h.front;
              back = found.0;
              section = section;
              sections = h.sections ∙ ap (λ (ss : List Section). h.front ++ ss) found.1;
              place = h.place;
              few = h.few;
              entries = h.entries;
              each = h.each;
              in_order = tt;
              rest = refl;
              valid = All-nil IsReadItem;
              apart = tt;
              shown = ap (λ (ls : List (List ℕ)). ls ++ line ∷ []) h.shown ∙ append_assoc (journal_lines draft.journal) done (line ∷ [])
                  ∙ ap (λ (l : List ℕ). journal_lines draft.journal ++ (done ++ l ∷ [])) (sym same);
            } in
            let o : HasPart Free draft.part [] [] = subst (λ (p : Part). HasPart Free p [] []) (sym h.part) (refl, refl) in
            let stands : AtItem scenario n 0 Free draft (lines ++ line ∷ []) =
            record {
              before = lines ++ line ∷ [];
              after = [];
              whole = subst (λ (is : List Item). InSection scenario n 0 draft.journal draft.traces is (lines ++ line ∷ [])) (sym h.items) whole;
              part = subst (λ (is : List Item). HasPart Free draft.part is []) (sym h.items) o;
              all = sym (append-nil (lines ++ line ∷ []));
            } in
            to_next (Inside n 0 Free) next draft (lines ++ line ∷ []) (sym (ap (λ (t : Bool). cond t (Some (Inside n 0 Free)) None) is) ∙ k) stands
        | inr is ↦ absurd (nowhere next (sym (ap (λ (t : Bool). cond t (Some (Inside n 0 Free)) None) is) ∙ k))
      ]
