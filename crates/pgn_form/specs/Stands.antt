-- What has been read at a place is what the lines before it show.
use Rattle.std.specs.Prelude.{◌≡◌, ◌≢◌, ℕ, ◌+◌, ◌^◌, ◌<◌, Bool, false, List, [], ◌∷◌, ◌++◌, length, map, drop, fold, flat_map, IfSome, codes, decimal, All}
use Rattle.pgn_base.specs.declared.limits.TheConstants.{FIRST_XID}
use Rattle.pgn_base.specs.declared.note.Note.{Note}
use Rattle.pgn_journal.specs.declared.tx.Tx.{Tx}
use Rattle.pgn_journal.specs.declared.tx.Fate.{Fate}
use Rattle.pgn_journal.specs.Journal.{next_xid}
use Rattle.pgn_language.specs.declared.scenario.Section.{Section}
use Rattle.pgn_language.specs.declared.scenario.Scenario.{Scenario}
use Rattle.pgn_answers.specs.Refusals.{warning_text}
use Rattle.pgn_model.specs.declared.item.Item.{Item}
use Rattle.pgn_model.specs.declared.trace.Trace.{Trace}
use Rattle.pgn_model.specs.Along.{Along}
use Rattle.pgn_model.specs.Text.{channel_line, delivery_line, entries_lines, holder_text, item_lines, journal_lines, note_line, section_line, traces_lines}
use Rattle.pgn_reading.specs.Form.{AreApart, EachSection, is_rows, IsLineDelivery, IsLineName, IsLineNote, IsNextLine, IsReadItem, IsReadQueued, IsReadTrace, IsReadTx, IsSession, IsXid, lines_left}
use Rattle.pgn_reading.specs.GoesOnLaws.{entry_head}
use Rattle.pgn_form.specs.declared.place.Place.{Place}
use Rattle.pgn_form.specs.declared.place.Place.TheVariants.{Start, Entries, Notes, Sections, Inside}
use Rattle.pgn_form.specs.declared.place.Within.{Within}
use Rattle.pgn_form.specs.declared.place.Within.TheVariants.{Free, Warned, Measuring, Receiving}
use Rattle.pgn_form.specs.declared.draft.Draft.{Draft}
use Rattle.pgn_form.specs.declared.draft.Part.{Part}
use Rattle.pgn_form.specs.declared.draft.Part.TheVariants as part
use Rattle.pgn_form.specs.Drafts.{first_draft}

-- rows of channels come last
abbrev pub ends_rows : List Item → Bool
ends_rows [] = false
ends_rows (item ∷ []) = is_rows item
ends_rows (item ∷ next ∷ items) = ends_rows (next ∷ items)

-- so many entries are left, and the next has this number
pub record BeforeEntry (scenario : Scenario) (left next : ℕ) (draft : Draft) (lines : List (List ℕ)) : Type 0 where
  pub count : ℕ
  pub few : FIRST_XID + count < 2 ^ 32
  pub some_left : 0 < left
  pub counted : left + length draft.journal ≡ count
  pub number : next ≡ next_xid draft.journal
  pub entries : All (IsReadTx scenario.sections) draft.journal
  pub traces : draft.traces ≡ []
  pub items : draft.items ≡ []
  pub part : draft.part ≡ part.Nothing
  pub shown : lines ≡ (codes "journal " ++ decimal count) ∷ entries_lines FIRST_XID draft.journal

-- so many notifications of a transaction are left, and so many entries after it, of which the first has this number
pub record BeforeNote (scenario : Scenario) (notes left next : ℕ) (draft : Draft) (lines : List (List ℕ)) : Type 0 where
  pub count : ℕ
  pub session : ℕ
  pub queued : ℕ
  pub many : ℕ
  pub fate : Fate
  pub sent : List Note
  pub few : FIRST_XID + count < 2 ^ 32
  pub some_left : 0 < notes
  pub counted : left + (length draft.journal + 1) ≡ count
  pub number : next ≡ next_xid draft.journal + 1
  pub entries : All (IsReadTx scenario.sections) draft.journal
  pub traces : draft.traces ≡ []
  pub items : draft.items ≡ []
  pub part : draft.part ≡ part.Entry session queued fate sent
  pub of_session : IsSession session
  pub bounded : many < 2 ^ 32
  pub queueing : IsReadQueued fate queued many
  pub all : length sent + notes ≡ many
  pub valid : All IsLineNote sent
  pub shown : lines ≡ (codes "journal " ++ decimal count) ∷ (entries_lines FIRST_XID draft.journal ++ entry_head (next_xid draft.journal) session fate queued many ∷ map note_line sent)

-- so many sections are whole
pub record BeforeSection (scenario : Scenario) (n : ℕ) (draft : Draft) (lines : List (List ℕ)) : Type 0 where
  pub front : List Section
  pub back : List Section
  pub sections : scenario.sections ≡ front ++ back
  pub place : length front ≡ n
  pub few : next_xid draft.journal < 2 ^ 32
  pub entries : All (IsReadTx scenario.sections) draft.journal
  pub each : EachSection IsReadTrace front draft.traces
  pub items : draft.items ≡ []
  pub part : draft.part ≡ part.Nothing
  pub shown : lines ≡ journal_lines draft.journal ++ traces_lines front draft.traces

-- lines are those of a journal, of traces, of the head of the next section and of items of it, in which so many script lines have begun
pub record InSection (scenario : Scenario) (n begun : ℕ) (journal : List Tx) (traces : List Trace) (items : List Item) (lines : List (List ℕ)) : Type 0 where
  pub front : List Section
  pub back : List Section
  pub section : Section
  pub sections : scenario.sections ≡ front ++ section ∷ back
  pub place : length front ≡ n
  pub few : next_xid journal < 2 ^ 32
  pub entries : All (IsReadTx scenario.sections) journal
  pub each : EachSection IsReadTrace front traces
  pub in_order : Along lines_left IsNextLine section.lines items
  pub rest : fold lines_left section.lines items ≡ drop begun section.lines
  pub valid : All IsReadItem items
  pub apart : AreApart items
  pub shown : lines ≡ journal_lines journal ++ (traces_lines front traces ++ section_line section ∷ flat_map (item_lines section.lines) items)

-- what has begun behind these items, as these lines show it
abbrev pub HasPart : Within → Part → List Item → List (List ℕ) → Type 0
HasPart Free part.Nothing items lines = (lines ≡ []) × (ends_rows items ≡ false)
HasPart Free (part.Rows names) items lines = (names ≢ []) × All IsLineName names × (lines ≡ map channel_line names) × (ends_rows items ≡ false)
HasPart Warned (part.Warned warning) items lines = lines ≡ (codes "WARNING: " ++ warning_text warning) ∷ []
HasPart Measuring (part.Measured at floor_mark holder) items lines =
    IsXid at × IsXid floor_mark × IfSome holder IsSession × (lines ≡ (codes "+usage " ++ decimal at ++ codes " floor " ++ decimal floor_mark ++ codes " holder " ++ holder_text holder) ∷ [])
HasPart Receiving (part.Reads from to got) items lines =
    IsXid from × IsXid to × All IsLineDelivery got × (lines ≡ (codes "+read " ++ decimal from ++ codes " " ++ decimal to) ∷ map delivery_line got)
HasPart within other items lines = ⊥

-- inside a section
pub record AtItem (scenario : Scenario) (n begun : ℕ) (within : Within) (draft : Draft) (lines : List (List ℕ)) : Type 0 where
  pub before : List (List ℕ)
  pub after : List (List ℕ)
  pub whole : InSection scenario n begun draft.journal draft.traces draft.items before
  pub part : HasPart within draft.part draft.items after
  pub all : lines ≡ before ++ after

-- what has been read at a place is what these lines show
abbrev pub Stands : Scenario → Place → Draft → List (List ℕ) → Type 0
Stands scenario Start draft lines = (draft ≡ first_draft) × (lines ≡ [])
Stands scenario (Entries left next) draft lines = BeforeEntry scenario left next draft lines
Stands scenario (Notes notes left next) draft lines = BeforeNote scenario notes left next draft lines
Stands scenario (Sections n) draft lines = BeforeSection scenario n draft lines
Stands scenario (Inside n begun within) draft lines = AtItem scenario n begun within draft lines
