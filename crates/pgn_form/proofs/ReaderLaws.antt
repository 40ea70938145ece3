-- How far a text has been read.
use Rattle.std.proofs.Common.{◌≡◌, ℕ, ◌+◌, ◌≤◌, ◌↔◌, Bool, true, false, List, [], ◌∷◌, ◌++◌, length, Option, None, Some, MatchOption, codes, decimal, sym, ap, ◌∙◌, refl, subst, arith, append_assoc, append-nil, length-append}
use Rattle.std.proofs.lemmas.List.{append_cancel_left, nil_from_length}
use Rattle.pgn_base.specs.declared.answers.Tag.TheVariants as tag
use Rattle.pgn_base.specs.declared.queue_answers.Usage.{Usage}
use Rattle.pgn_journal.specs.declared.tx.Tx.{Tx}
use Rattle.pgn_language.specs.declared.scenario.ScriptLine.{ScriptLine}
use Rattle.pgn_language.specs.declared.scenario.Section.{Section}
use Rattle.pgn_language.specs.declared.scenario.Scenario.{Scenario}
use Rattle.pgn_language.specs.Inputs.{IsOneLine, IsSound}
use Rattle.pgn_model.specs.declared.item.Item.{Item}
use Rattle.pgn_model.specs.declared.item.Item.TheVariants as item
use Rattle.pgn_model.specs.declared.trace.Trace.{Trace}
use Rattle.pgn_model.specs.Text.{item_lines, joined, journal_lines, section_line, text_lines, traces_lines}
use Rattle.pgn_reading.specs.Form.{BeginOutput, BreaksForm, Broken, EachSection, IsReadable, IsReading, IsReadTrace, Short, whole_lines, is_rows, IsNextLine, IsReadItem, lines_left}
use Rattle.pgn_reading.proofs.GoesOnLaws.{begins-shorter, begins-whole, entry-goes_on, journal-goes_on, section-goes_on}
use Rattle.pgn_reading.proofs.ReadableLaws.{readable-has_lines}
use Rattle.pgn_form.specs.Cuts.{IsCut}
use Rattle.pgn_form.specs.declared.draft.Draft.{Draft}
use Rattle.pgn_form.specs.declared.draft.Part.{Part}
use Rattle.pgn_form.specs.declared.draft.Part.TheVariants as part
use Rattle.pgn_form.specs.declared.place.Place.{Place}
use Rattle.pgn_form.specs.declared.place.Place.TheVariants.{Start, Entries, Notes, Sections, Inside}
use Rattle.pgn_form.specs.declared.place.Within.TheVariants.{Free, Warned, Measuring, Receiving}
use Rattle.pgn_form.specs.Places.{Ended, IsStep, Known, Lead, Showing}
use Rattle.pgn_lines.specs.Shown.{shown_text}
use Rattle.pgn_lines.specs.declared.shown.Shown.TheVariants.{Measured, Warn}
use Rattle.pgn_form.specs.Drafts.{closed, first_draft, IsTaken, Known as Comes, Showing as Shown_here}
use Rattle.pgn_form.specs.Stands.{BeforeSection, InSection, HasPart, Stands}
use Rattle.pgn_form.proofs.ForwardLaws.{readable_leads}
use Rattle.pgn_form.proofs.LeadLaws.{lead_front, lead_nowhere, lead_on, lead_once}
use Rattle.pgn_form.proofs.StandLaws.{entries_step, notes_step, nowhere, start_on}
use Rattle.pgn_form.proofs.SectionLaws.{section_known, section_opened, section_shown, shut, plain_on}

taken_step : (scenario : Scenario) (place : Place) (draft after : Draft) (line : List ℕ) (next : Place) → IsTaken scenario place draft line next after → IsStep scenario place line next
taken_step scenario place draft after line next (Comes e) = Known e
taken_step scenario place draft after line next (Shown_here none shown s e) = Showing none shown s e

-- what has been read stands behind a line that leads on
stand_on : (scenario : Scenario) (place : Place) (draft after : Draft) (lines : List (List ℕ)) (line : List ℕ) (next : Place) → IsSound scenario → IsOneLine line → Stands scenario place draft lines → IsTaken scenario place draft line next after
    → Stands scenario next after (lines ++ line ∷ [])
stand_on scenario Start draft after lines line next sound clean h (Comes e) = absurd (nowhere next e)
stand_on scenario Start draft after lines line next sound clean h (Shown_here none shown s e) = start_on scenario draft lines line shown next h s e
stand_on scenario (Entries left number) draft after lines line next sound clean h (Comes e) = absurd (nowhere next e)
stand_on scenario (Entries left number) draft after lines line next sound clean h (Shown_here none shown s e) = entries_step scenario left number draft lines line shown next h s e
stand_on scenario (Notes notes left number) draft after lines line next sound clean h (Comes e) = absurd (nowhere next e)
stand_on scenario (Notes notes left number) draft after lines line next sound clean h (Shown_here none shown s e) = notes_step scenario notes left number draft lines line shown next h s clean e
stand_on scenario (Sections n) draft after lines line next sound clean h (Comes e) = section_opened scenario n draft lines line next h e
stand_on scenario (Sections n) draft after lines line next sound clean h (Shown_here none shown s e) = absurd (nowhere next e)
stand_on scenario (Inside n begun within) draft after lines line next sound clean h (Comes e) = section_known scenario n begun within draft lines line next sound h e
stand_on scenario (Inside n begun within) draft after lines line next sound clean h (Shown_here none shown s e) = section_shown scenario n begun within draft lines line shown next h clean s e

module _ (scenario : Scenario) where
  -- lines of a section begin some output
  section_begins : (n begun : ℕ) (journal : List Tx) (traces : List Trace) (items : List Item) (lines : List (List ℕ)) → InSection scenario n begun journal traces items lines → BeginOutput scenario lines
  section_begins n begun journal traces items lines h =
      let trace : Trace = record { session = h.section.no; db = h.section.db; items = items; last = None } in
      let read : IsReadTrace h.section trace = record { session = refl; database = refl; in_order = h.in_order; items = h.valid; apart = h.apart; last = tt } in
      subst (λ (ls : List (List ℕ)). BeginOutput scenario ls) (sym h.shown) (section-goes_on scenario journal h.front h.back h.section traces trace h.few h.entries h.sections h.each read)

  -- the first line of an item of two
  longer : (n begun : ℕ) (draft : Draft) (lines before : List (List ℕ)) (first line : List ℕ) (one : Item) → InSection scenario n begun draft.journal draft.traces draft.items before → lines ≡ before ++ first ∷ [] → IsReadItem one
      → is_rows one ≡ false → ((left : List ScriptLine) → IsNextLine left one) → ((left : List ScriptLine) → lines_left left one ≡ left) → ((lines : List ScriptLine) → item_lines lines one ≡ first ∷ line ∷ []) → BeginOutput scenario lines
  longer n begun draft lines before first line one h all valid plain next left shown =
      let more : InSection scenario n begun draft.journal draft.traces (draft.items ++ one ∷ []) (before ++ first ∷ line ∷ []) =
      plain_on scenario n begun draft.journal draft.traces draft.items before (first ∷ line ∷ []) one h valid (λ is. absurd (let none : ⊥ = cc in none)) next left shown in
      let same : before ++ first ∷ line ∷ [] ≡ lines ++ line ∷ [] = sym (append_assoc before (first ∷ []) (line ∷ [])) ∙ ap (λ (ls : List (List ℕ)). ls ++ line ∷ []) (sym all) in
      begins-shorter scenario lines (line ∷ []) (subst (λ (ls : List (List ℕ)). BeginOutput scenario ls) same (section_begins n begun draft.journal draft.traces (draft.items ++ one ∷ []) (before ++ first ∷ line ∷ []) more))

  -- what has been read begins some output
  stands_begin : (place : Place) (draft : Draft) (lines : List (List ℕ)) → IsSound scenario → Stands scenario place draft lines → BeginOutput scenario lines
  stands_begin Start draft lines sound h =
      let all : BeginOutput scenario ((codes "journal " ++ decimal 0) ∷ []) = journal-goes_on scenario 0 [] (omega arith) (omega arith) (λ k d lt. absurd (omega (arith, lt))) in
      subst (λ (ls : List (List ℕ)). BeginOutput scenario ls) (sym h.1) (begins-shorter scenario [] ((codes "journal " ++ decimal 0) ∷ []) all)
  stands_begin (Entries left next) draft lines sound h =
      subst (λ (ls : List (List ℕ)). BeginOutput scenario ls) (sym h.shown) (journal-goes_on scenario h.count draft.journal h.few (omega (arith, h.counted)) h.entries)
  stands_begin (Notes notes left next) draft lines sound h =
      subst (λ (ls : List (List ℕ)). BeginOutput scenario ls) (sym h.shown)
      (entry-goes_on scenario h.count draft.journal h.session h.queued h.many h.fate h.sent h.few (omega (arith, h.counted)) h.entries h.of_session h.bounded h.queueing (omega (arith, h.all)) h.valid)
  stands_begin (Sections n) draft lines sound h = by h.back h.sections
    where
      by : (back : List Section) → scenario.sections ≡ h.front ++ back → BeginOutput scenario lines
      by [] e =
          let whole : IsReadable scenario draft.journal draft.traces =
          record { few = h.few; entries = h.entries; each = subst (λ (ss : List Section). EachSection IsReadTrace ss draft.traces) (sym (e ∙ append-nil h.front)) h.each } in
          subst (λ (ls : List (List ℕ)). BeginOutput scenario ls) (ap (λ (ss : List Section). journal_lines draft.journal ++ traces_lines ss draft.traces) (e ∙ append-nil h.front) ∙ sym h.shown) (begins-whole scenario draft.journal draft.traces whole)
      by (section ∷ back) e =
          let trace : Trace = record { session = section.no; db = section.db; items = []; last = None } in
          let read : IsReadTrace section trace = record { session = refl; database = refl; in_order = tt; items = λ k d lt. absurd (omega (arith, lt)); apart = tt; last = tt } in
          let done : List (List ℕ) = traces_lines h.front draft.traces in
          let all : BeginOutput scenario (journal_lines draft.journal ++ (done ++ section_line section ∷ [])) = section-goes_on scenario draft.journal h.front back section draft.traces trace h.few h.entries e h.each read in
          let apart : BeginOutput scenario (lines ++ section_line section ∷ []) =
          subst (λ (ls : List (List ℕ)). BeginOutput scenario ls) (sym (append_assoc (journal_lines draft.journal) done (section_line section ∷ [])) ∙ ap (λ (ls : List (List ℕ)). ls ++ section_line section ∷ []) (sym h.shown)) all in
          begins-shorter scenario lines (section_line section ∷ []) apart
  stands_begin (Inside n begun Free) draft lines sound h = section_begins n begun draft.journal draft.traces (draft.items ++ closed draft.part) lines (shut scenario n begun Free draft lines tt h)
  stands_begin (Inside n begun Receiving) draft lines sound h = section_begins n begun draft.journal draft.traces (draft.items ++ closed draft.part) lines (shut scenario n begun Receiving draft lines tt h)
  stands_begin (Inside n begun Warned) draft lines sound h = by draft.part h.part
    where
      by : (o : Part) → HasPart Warned o draft.items h.after → BeginOutput scenario lines
      by (part.Warned warning) k = longer n begun draft lines h.before (shown_text (Warn warning)) (codes "BEGIN") (item.Reply tag.Begin (Some warning)) h.whole (h.all ∙ ap (λ (ls : List (List ℕ)). h.before ++ ls) k) tt refl (λ left. tt) (λ left. refl) (λ ls. refl)
      by o k = absurd k
  stands_begin (Inside n begun Measuring) draft lines sound h = by draft.part h.part
    where
      by : (o : Part) → HasPart Measuring o draft.items h.after → BeginOutput scenario lines
      by (part.Measured at floor_mark holder) k =
          let usage : Usage = record { at = at; occupied = 0; limit = 0; floor_mark = floor_mark; holder = holder } in
          longer n begun draft lines h.before (shown_text (Measured at floor_mark holder)) (codes "  " ++ decimal 0 ++ codes "/" ++ decimal 0) (item.Used usage) h.whole (h.all ∙ ap (λ (ls : List (List ℕ)). h.before ++ ls) k.3)
          (record { at = k.0; occupied = omega arith; limit = omega arith; floor_mark = k.1; holder = k.2 }) refl (λ left. tt) (λ left. refl) (λ ls. refl)
      by o k = absurd k

  -- The reader's loop.

  -- the lines before a rest lead from the start to a place, what they show has been read, and the next has this number
  pub record HasCome (out rest : List ℕ) (place : Place) (draft : Draft) (number : ℕ) : Type 0 where
    pub before : List (List ℕ)
    pub lead : Lead scenario Start before place
    pub read : Stands scenario place draft before
    pub text : out ≡ joined before ++ rest
    pub lines : whole_lines out ≡ before ++ whole_lines rest
    pub numbered : number ≡ length before + 1
    pub within : number + length rest ≤ length out + 1

-- before the first line the reader is at the start of the text
pub come_first : (scenario : Scenario) (out : List ℕ) → HasCome scenario out out Start first_draft 1
come_first scenario out = record { before = []; lead = refl; read = (refl, refl); text = refl; lines = refl; numbered = refl; within = omega arith }

joined_on : (before : List (List ℕ)) (line rest : List ℕ) → joined before ++ (line ++ 10 ∷ rest) ≡ joined (before ++ line ∷ []) ++ rest
joined_on [] line rest = simp append_assoc
joined_on (first ∷ before) line rest =
    append_assoc (first ++ 10 ∷ []) (joined before) (line ++ 10 ∷ rest) ∙ ap (λ (bytes : List ℕ). (first ++ 10 ∷ []) ++ bytes) (joined_on before line rest)
    ∙ sym (append_assoc (first ++ 10 ∷ []) (joined (before ++ line ∷ [])) rest)

-- past a line that is taken it has come to the next
pub come_on : (scenario : Scenario) (out rest tail line : List ℕ) (place next : Place) (draft after : Draft) (number : ℕ) → IsSound scenario → HasCome scenario out rest place draft number → IsCut rest line tail
    → IsTaken scenario place draft line next after → HasCome scenario out tail next after (number + 1)
come_on scenario out rest tail line place next draft after number sound h c s = record {
  before = h.before ++ line ∷ [];
  lead = lead_on scenario Start place next h.before line h.lead (taken_step scenario place draft after line next s);
  read = stand_on scenario place draft after h.before line next sound c.one_line h.read s;
  text = h.text ∙ ap (λ (bytes : List ℕ). joined h.before ++ bytes) c.parts ∙ joined_on h.before line tail;
  lines = h.lines ∙ ap (λ (lines : List (List ℕ)). h.before ++ lines) c.lines ∙ sym (append_assoc h.before (line ∷ []) (whole_lines tail));
  numbered = omega (arith, h.numbered, length-append h.before (line ∷ []));
  within = omega (arith, h.within, ap length c.parts, length-append line (10 ∷ tail));
}

-- so it has where a step has found the next place
pub come_on_at : (scenario : Scenario) (out rest tail line : List ℕ) (place next : Place) (draft after : Draft) (number : ℕ) (found : Option Place) → IsSound scenario → HasCome scenario out rest place draft number → IsCut rest line tail
    → MatchOption found ((other : Place) → IsStep scenario place line other → ⊥) (λ to. IsTaken scenario place draft line to after) → found ≡ Some next → HasCome scenario out tail next after (number + 1)
come_on_at scenario out rest tail line place next draft after number found sound h c m e =
    come_on scenario out rest tail line place next draft after number sound h c
    (subst (λ (o : Option Place). MatchOption o ((other : Place) → IsStep scenario place line other → ⊥) (λ to. IsTaken scenario place draft line to after)) e m)

-- lines that begin some output lead from its start
begin_leads : (scenario : Scenario) (lines : List (List ℕ)) → IsSound scenario → BeginOutput scenario lines → (place : Place) × Lead scenario Start lines place
begin_leads scenario lines sound h =
    let all : Lead scenario Start (lines ++ h.rest) (Ended scenario) = subst (λ (ls : List (List ℕ)). Lead scenario Start ls (Ended scenario)) h.goes_on (readable_leads scenario h.journal h.traces sound h.readable) in
    let apart = lead_front scenario Start (Ended scenario) lines h.rest all in
    (apart.0, apart.1)

-- a line that leads nowhere
pub come_to_nothing : (scenario : Scenario) (out rest tail line : List ℕ) (place : Place) (draft : Draft) (number : ℕ) → IsSound scenario → HasCome scenario out rest place draft number → IsCut rest line tail
    → ((next : Place) → IsStep scenario place line next → ⊥) → BreaksForm scenario out number
come_to_nothing scenario out rest tail line place draft number sound h c none =
    subst (λ (n : ℕ). BreaksForm scenario out n) (sym h.numbered)
    (Broken h.before (whole_lines tail) line (h.lines ∙ ap (λ (lines : List (List ℕ)). h.before ++ lines) c.lines) (stands_begin scenario place draft h.before sound h.read)
    (λ begins. let leads = begin_leads scenario (h.before ++ line ∷ []) sound begins in lead_nowhere scenario Start place leads.0 h.before line h.lead none leads.1))

-- a line that leads nowhere breaks the form
pub come_to_nothing_at : (scenario : Scenario) (out rest tail line : List ℕ) (place : Place) (draft after : Draft) (number : ℕ) (next : Option Place) → IsSound scenario → HasCome scenario out rest place draft number → IsCut rest line tail
    → MatchOption next ((other : Place) → IsStep scenario place line other → ⊥) (λ to. IsTaken scenario place draft line to after) → next ≡ None → BreaksForm scenario out number
come_to_nothing_at scenario out rest tail line place draft after number None sound h c none e = come_to_nothing scenario out rest tail line place draft number sound h c none
come_to_nothing_at scenario out rest tail line place draft after number (Some to) sound h c none e = absurd (let no : ⊥ = cc in no)

all_lines : (scenario : Scenario) (out rest : List ℕ) (place : Place) (draft : Draft) (number : ℕ) → (h : HasCome scenario out rest place draft number) → whole_lines rest ≡ [] → whole_lines out ≡ h.before
all_lines scenario out rest place draft number h none = h.lines ∙ ap (λ (lines : List (List ℕ)). h.before ++ lines) none ∙ append-nil h.before

-- what has been read at the end
end_reads : (scenario : Scenario) (out rest : List ℕ) (draft : Draft) (number : ℕ) → HasCome scenario out rest (Ended scenario) draft number → whole_lines rest ≡ [] → rest ≡ [] → IsReading scenario out draft.journal draft.traces
end_reads scenario out rest draft number h none empty =
    let at : BeforeSection scenario (length scenario.sections) draft h.before = h.read in
    let nothing : at.back ≡ [] = nil_from_length at.back (omega (arith, at.place, ap length at.sections, length-append at.front at.back)) in
    let all : scenario.sections ≡ at.front = at.sections ∙ ap (λ (ss : List Section). at.front ++ ss) nothing ∙ append-nil at.front in
    record {
      readable = record { few = at.few; entries = at.entries; each = subst (λ (ss : List Section). EachSection IsReadTrace ss draft.traces) (sym all) at.each };
      shown = ap (λ (ss : List Section). joined (journal_lines draft.journal ++ traces_lines ss draft.traces)) all ∙ ap joined (sym at.shown) ∙ sym (append-nil (joined h.before))
          ∙ ap (λ (bytes : List ℕ). joined h.before ++ bytes) (sym empty) ∙ sym h.text;
    }

-- past all lines, in the place of the end, the draft is what was read
pub come_to_end : (scenario : Scenario) (out rest : List ℕ) (place : Place) (draft : Draft) (number : ℕ) (journal : List Tx) (traces : List Trace) (done : Bool) → HasCome scenario out rest place draft number → whole_lines rest ≡ []
    → ((done ≡ true) ↔ ((rest ≡ []) × (place ≡ Ended scenario))) → done ≡ true → journal ≡ draft.journal → traces ≡ draft.traces → IsReading scenario out journal traces
come_to_end scenario out rest place draft number journal traces done h none tells is a b =
    subst (λ (j : List Tx). IsReading scenario out j traces) (sym a) (subst (λ (t : List Trace). IsReading scenario out draft.journal t) (sym b)
    (end_reads scenario out rest draft number (subst (λ (p : Place). HasCome scenario out rest p draft number) (tells.0 is).1 h) none (tells.0 is).0))

true_is_not : true ≡ false → ⊥
true_is_not e = let no : ⊥ = cc in no

-- nothing was added to a list that has not grown
none_added : (front rest : List ℕ) → front ≡ front ++ rest → rest ≡ []
none_added front rest e = append_cancel_left front rest [] (sym e ∙ sym (append-nil front))

-- a line is missing, or something follows the last
pub come_short : (scenario : Scenario) (out rest : List ℕ) (place : Place) (draft : Draft) (number : ℕ) (done : Bool) → IsSound scenario → HasCome scenario out rest place draft number → whole_lines rest ≡ []
    → ((done ≡ true) ↔ ((rest ≡ []) × (place ≡ Ended scenario))) → done ≡ false → BreaksForm scenario out number
come_short scenario out rest place draft number done sound h none tells is =
    let not_both : rest ≡ [] → place ≡ Ended scenario → ⊥ = λ a b. true_is_not (sym (tells.1 (a, b)) ∙ is) in
    let all : whole_lines out ≡ h.before = all_lines scenario out rest place draft number h none in
    let numbered : number ≡ length (whole_lines out) + 1 = h.numbered ∙ ap (λ (lines : List (List ℕ)). length lines + 1) (sym all) in
    let begins : BeginOutput scenario (whole_lines out) = subst (λ (ls : List (List ℕ)). BeginOutput scenario ls) (sym all) (stands_begin scenario place draft h.before sound h.read) in
    subst (λ (n : ℕ). BreaksForm scenario out n) (sym numbered) (Short begins (λ journal traces reading.
    let lines : h.before ≡ text_lines scenario journal traces = sym all ∙ ap whole_lines (sym reading.shown) ∙ readable-has_lines scenario journal traces sound reading.readable in
    let lead : Lead scenario Start h.before (Ended scenario) = subst (λ (ls : List (List ℕ)). Lead scenario Start ls (Ended scenario)) (sym lines) (readable_leads scenario journal traces sound reading.readable) in
    not_both (none_added (joined h.before) rest (ap joined lines ∙ reading.shown ∙ h.text)) (lead_once scenario Start place (Ended scenario) h.before h.lead lead)))
