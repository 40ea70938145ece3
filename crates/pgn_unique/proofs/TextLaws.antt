-- One text comes from one journal and one set of traces.
use Rattle.std.proofs.Common.{◌≡◌, ℕ, ◌^◌, ◌<◌, List, [], ◌∷◌, ◌++◌, get_or, Option, None, Some, sym, ap, ◌∙◌, subst, arith, append-nil}
use Rattle.std.specs.Prelude.{All, flat_map}
use Rattle.std.proofs.lemmas.List.Elements.{All-nil, All-cons, All-head, All-tail, All-weaker}
use Rattle.pgn_journal.specs.declared.tx.Tx.{Tx}
use Rattle.pgn_language.specs.declared.scenario.Section.{Section}
use Rattle.pgn_language.specs.declared.scenario.Scenario.{Scenario}
use Rattle.pgn_language.specs.Inputs.{IsSound}
use Rattle.pgn_model.specs.declared.item.Item.{Item}
use Rattle.pgn_model.specs.declared.item.Item.TheVariants.{QueueFull, Used}
use Rattle.pgn_model.specs.declared.trace.Trace.{Trace}
use Rattle.pgn_journal.specs.Journal.{next_xid}
use Rattle.pgn_model.specs.Walk.{Settings, Terms, start, holder_at}
use Rattle.pgn_model.specs.Trace.{TraceOk, state_after}
use Rattle.pgn_model.specs.Legal.{EachTrace, IsShownWithin, IsFullThere, End, ends, StoodAt, Legal}
use Rattle.pgn_model.specs.Text.{joined, journal_lines, traces_lines, text}
use Rattle.pgn_unique.specs.Laws.{TextIsUnique, NoTextBegins}
use Rattle.pgn_reading.proofs.FieldLaws.{IsHeld}
use Rattle.pgn_reading.proofs.NumberLaws.{number-at}
use Rattle.pgn_unique.proofs.JournalLines.{journal-unique}
use Rattle.pgn_unique.proofs.ItemLines.{holder_of}
use Rattle.pgn_unique.proofs.TraceLines.{lines-apart, AllKnown, traces-same}
use Rattle.pgn_unique.proofs.SpentLaws.{named_by, names-shown}
use Rattle.pgn_unique.proofs.ShortLaws.{journal-is_short, legal-has_journal}

-- a pair of a session and a mark whose session is not numbered too high
abbrev IsLow : ℕ × ℕ → Type 0
IsLow pair = pair.0 < 2 ^ 64

low-holder : (holder : Option ℕ) (mark : ℕ) → All IsLow (holder_at holder mark) → IsHeld holder
low-holder None mark h = tt
low-holder (Some session) mark h = All-head IsLow (session, mark) [] h

held-item : (item : Item) → All IsLow (named_by item) → IsHeld (holder_of item)
held-item (QueueFull full notes) h = low-holder full.holder full.floor_mark h
held-item (Used usage) h = low-holder usage.holder usage.floor_mark h
held-item item h = tt

-- the ends of traces are those of sections
low-ends : (settings : Settings) (sections : List Section) (traces : List Trace) → All (λ section. section.no < 2 ^ 64) sections → All (λ end. end.session < 2 ^ 64) (ends settings sections traces)
low-ends settings [] traces h = All-nil (λ end. end.session < 2 ^ 64)
low-ends settings (section ∷ sections) [] h = All-nil (λ end. end.session < 2 ^ 64)
low-ends settings (section ∷ sections) (trace ∷ traces) h =
    All-cons (λ (end : End). end.session < 2 ^ 64) _ (ends settings sections traces) (All-head (λ s. s.no < 2 ^ 64) section sections h) (low-ends settings sections traces (All-tail (λ s. s.no < 2 ^ 64) section sections h))

-- who stood at a mark is a session
low-stood : (all : List End) (pair : ℕ × ℕ) → All (λ end. end.session < 2 ^ 64) all → StoodAt all pair → IsLow pair
low-stood all pair h (k, end, within, at, (same, stood)) =
    let low : (get_or all k end).session < 2 ^ 64 = h k end within in
    omega (arith, low, ap (λ (e : End). e.session) at, same)

module _ (settings : Settings) (journal : List Tx) where
  abbrev Lawful : Terms → Trace → Type 0
  Lawful terms trace = TraceOk terms trace journal

  -- what a legal run says of each item
  all-known : (sections : List Section) (traces : List Trace) → EachTrace settings Lawful sections traces → All (λ trace. All (IsShownWithin (next_xid journal)) trace.items) traces → All (λ trace. All (IsFullThere settings journal) trace.items) traces
      → All IsLow (flat_map (λ end. end.state.named) (ends settings sections traces)) → AllKnown settings journal sections traces
  all-known [] [] lawful shown full low = tt
  all-known [] (trace ∷ traces) lawful shown full low = absurd lawful
  all-known (section ∷ sections) [] lawful shown full low = absurd lawful
  all-known (section ∷ sections) (trace ∷ traces) lawful shown full low =
      let terms : Terms = record { section = section; settings = settings } in
      let parts = all-parts (state_after terms trace.items).named (flat_map (λ (end : End). end.state.named) (ends settings sections traces)) low in
      let names = (names-shown terms journal IsLow (start section) trace.items lawful.0.lawful parts.0).1 in
      let shown_here : All (IsShownWithin (next_xid journal)) trace.items = All-head (λ t. All (IsShownWithin (next_xid journal)) t.items) trace traces shown in
      let full_here : All (IsFullThere settings journal) trace.items = All-head (λ t. All (IsFullThere settings journal) t.items) trace traces full in (
        λ k d lt. record { shown = shown_here k d lt; full = full_here k d lt; held = held-item (get_or trace.items k d) (names k d lt) },
        all-known sections traces lawful.1 (All-tail (λ t. All (IsShownWithin (next_xid journal)) t.items) trace traces shown) (All-tail (λ t. All (IsFullThere settings journal) t.items) trace traces full) parts.1,
      )
    where
      all-parts : (xs ys : List (ℕ × ℕ)) → All IsLow (xs ++ ys) → All IsLow xs × All IsLow ys
      all-parts [] ys h = (All-nil IsLow, h)
      all-parts (x ∷ xs) ys h = let tail = all-parts xs ys (All-tail IsLow x (xs ++ ys) h) in (All-cons IsLow x xs (All-head IsLow x (xs ++ ys) h) tail.0, tail.1)

-- what the traces of a legal run show is known of each of them
pub legal-known : (scenario : Scenario) (settings : Settings) (journal : List Tx) (traces : List Trace) → IsSound scenario → Legal scenario settings journal traces → AllKnown settings journal scenario.sections traces
legal-known scenario settings journal traces sound legal =
    let all : List End = ends settings scenario.sections traces in
    let low : All (λ section. section.no < 2 ^ 64) scenario.sections = λ k d lt. omega (arith, sound.few, lt, number-at 1 scenario.sections k d sound.numbered lt) in
    all-known settings journal scenario.sections traces legal.lawful legal.shown legal.full
    (All-weaker (StoodAt all) IsLow (λ pair. low-stood all pair (low-ends settings scenario.sections traces low)) (flat_map (λ (end : End). end.state.named) all) legal.holders)

-- the numbers of the journal of a legal run are not too great
pub few-xids : (scenario : Scenario) (settings : Settings) (journal : List Tx) (traces : List Trace) → IsSound scenario → Legal scenario settings journal traces → next_xid journal < 2 ^ 64
few-xids scenario settings journal traces sound legal = omega (arith, (journal-is_short scenario settings journal traces sound legal).few)

-- the text of a legal run gives back the run, whatever follows it
pub text-ends : (scenario : Scenario) (settings : Settings) (journal other : List Tx) (traces others : List Trace) (rest more : List ℕ) → IsSound scenario → Legal scenario settings journal traces → Legal scenario settings other others
    → text scenario journal traces ++ rest ≡ text scenario other others ++ more → (journal ≡ other) × (traces ≡ others) × (rest ≡ more)
text-ends scenario settings journal other traces others rest more sound legal legal' e =
    let behind : List ℕ = joined (traces_lines scenario.sections traces) ++ rest in
    let after : List ℕ = joined (traces_lines scenario.sections others) ++ more in
    let one = journal-unique scenario journal other behind after sound (legal-has_journal scenario settings journal traces sound legal) (legal-has_journal scenario settings other others sound legal')
    (sym (lines-apart (journal_lines journal) (traces_lines scenario.sections traces) rest) ∙ e ∙ lines-apart (journal_lines other) (traces_lines scenario.sections others) more) in
    let over : Legal scenario settings journal others = subst (λ (txs : List Tx). Legal scenario settings txs others) (sym one.0) legal' in
    let two = traces-same settings journal scenario.sections traces others rest more (few-xids scenario settings journal traces sound legal) legal.lawful over.lawful
    (legal-known scenario settings journal traces sound legal) (legal-known scenario settings journal others sound over) one.1 in
    (one.0, two.0, two.1)

-- two legal runs of a sound scenario with one text are the same
pub text-unique : TextIsUnique
text-unique scenario settings journal other traces others sound legal legal' e =
    let got = text-ends scenario settings journal other traces others [] [] sound legal legal' (ap (λ (bytes : List ℕ). bytes ++ []) e) in
    (got.0, got.1)

-- no text of a legal run goes on to that of another
pub no_text-begins : NoTextBegins
no_text-begins scenario settings journal other traces others rest sound legal legal' e =
    (text-ends scenario settings journal other traces others rest [] sound legal legal' (e ∙ sym (append-nil (text scenario other others)))).2
