-- What is shown of bare traces.
use Rattle.std.proofs.Common.{◌≡◌, ℕ, ◌+◌, List, [], ◌∷◌, ◌++◌, map, flat_map, sum_by, None, sym, ap, ◌∙◌, refl}
use Rattle.std.proofs.lemmas.List.{length-map}
use Rattle.std.proofs.lemmas.List.Sums.{sum_by-cons}
use Rattle.pgn_base.specs.declared.note.Note.{Note}
use Rattle.pgn_base.specs.declared.queue_answers.Full.{Full}
use Rattle.pgn_language.specs.declared.scenario.ScriptLine.{ScriptLine}
use Rattle.pgn_language.specs.declared.scenario.Section.{Section}
use Rattle.pgn_model.specs.declared.item.Item.{Item}
use Rattle.pgn_model.specs.declared.item.Item.TheVariants.{Line, Enlist, Publish, QueueFull, Leave, Reply, Refuse, Channels, Used, Raise, Found, TimedOut, Read}
use Rattle.pgn_model.specs.declared.trace.Trace.{Trace}
use Rattle.pgn_model.specs.Legal.{finished_xid}
use Rattle.pgn_model.specs.Text.{end_line, item_lines, joined, journal_lines, received_by, received_in, section_line, traces_lines}
use Rattle.pgn_reading.specs.Bare.{bare, bare_item}
use Rattle.pgn_reading.specs.Laws.{BareHasSameLines, BareHasSameText, BareHasSameBrief}

-- what holds of an item beside its bare one, where it does of a commit, of a full queue, and of each other item beside itself
pub bare-item : (P : Item → Item → Type 0) → ((xid : ℕ) (notes : List Note) → P (Publish xid []) (Publish xid notes)) → ((full : Full) (notes : List Note) → P (QueueFull full []) (QueueFull full notes))
    → ((item : Item) → finished_xid item ≡ None → P item item) → (item : Item) → P (bare_item item) item
bare-item P commit full other (Line line) = other (Line line) refl
bare-item P commit full other (Enlist base point) = other (Enlist base point) refl
bare-item P commit full other (Publish xid notes) = commit xid notes
bare-item P commit full other (QueueFull met notes) = full met notes
bare-item P commit full other Leave = other Leave refl
bare-item P commit full other (Reply tag warning) = other (Reply tag warning) refl
bare-item P commit full other (Refuse refusal) = other (Refuse refusal) refl
bare-item P commit full other (Channels names) = other (Channels names) refl
bare-item P commit full other (Used usage) = other (Used usage) refl
bare-item P commit full other (Raise value) = other (Raise value) refl
bare-item P commit full other (Found value) = other (Found value) refl
bare-item P commit full other (TimedOut looks) = other (TimedOut looks) refl
bare-item P commit full other (Read from to got) = other (Read from to got) refl

-- the lines of an item
pub lines-bare : BareHasSameLines
lines-bare lines item = bare-item (λ bare item. item_lines lines bare ≡ item_lines lines item) (λ xid notes. refl) (λ full notes. refl) (λ other none. refl) item

-- what an item received
received-bare : (item : Item) → received_by (bare_item item) ≡ received_by item
received-bare item = bare-item (λ bare item. received_by bare ≡ received_by item) (λ xid notes. refl) (λ full notes. refl) (λ other none. refl) item

-- the lines of a trace
items-bare : (lines : List ScriptLine) (items : List Item) → flat_map (item_lines lines) (map bare_item items) ≡ flat_map (item_lines lines) items
items-bare lines [] = refl
items-bare lines (item ∷ items) =
    ap (λ (shown : List (List ℕ)). shown ++ flat_map (item_lines lines) (map bare_item items)) (lines-bare lines item)
    ∙ ap (λ (rest : List (List ℕ)). item_lines lines item ++ rest) (items-bare lines items)

-- those of all traces
traces-bare : (sections : List Section) (traces : List Trace) → traces_lines sections (map bare traces) ≡ traces_lines sections traces
traces-bare [] traces = refl
traces-bare (section ∷ sections) [] = refl
traces-bare (section ∷ sections) (trace ∷ traces) =
    ap (λ (shown : List (List ℕ)). (section_line section ∷ (shown ++ end_line trace.last ∷ [])) ++ traces_lines sections (map bare traces)) (items-bare section.lines trace.items)
    ∙ ap (λ (rest : List (List ℕ)). (section_line section ∷ (flat_map (item_lines section.lines) trace.items ++ end_line trace.last ∷ [])) ++ rest) (traces-bare sections traces)

-- the output of a run
pub text-bare : BareHasSameText
text-bare scenario journal traces = ap (λ (shown : List (List ℕ)). joined (journal_lines journal ++ shown)) (traces-bare scenario.sections traces)

-- what all items received
counts-bare : (items : List Item) → sum_by received_by (map bare_item items) ≡ sum_by received_by items
counts-bare [] = refl
counts-bare (item ∷ items) =
    sum_by-cons received_by (bare_item item) (map bare_item items) ∙ ap (λ (n : ℕ). n + sum_by received_by (map bare_item items)) (received-bare item)
    ∙ ap (λ (n : ℕ). received_by item + n) (counts-bare items) ∙ sym (sum_by-cons received_by item items)

-- and all traces
received_in-bare : (traces : List Trace) → received_in (map bare traces) ≡ received_in traces
received_in-bare [] = refl
received_in-bare (trace ∷ traces) =
    sum_by-cons (λ (t : Trace). sum_by received_by t.items) (bare trace) (map bare traces)
    ∙ ap (λ (n : ℕ). n + received_in (map bare traces)) (counts-bare trace.items)
    ∙ ap (λ (n : ℕ). sum_by received_by trace.items + n) (received_in-bare traces) ∙ sym (sum_by-cons (λ (t : Trace). sum_by received_by t.items) trace traces)

-- the summary of a drill
pub brief-bare : BareHasSameBrief
brief-bare seed notes journal traces = rw (length-map traces bare, received_in-bare traces)
