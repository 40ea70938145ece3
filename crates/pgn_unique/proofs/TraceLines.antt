-- The lines of a trace give it back: along two lists of items from one state.
use Rattle.std.proofs.Common.{◌≡◌, ℕ, ◌^◌, ◌<◌, List, [], ◌∷◌, ◌++◌, fold, Option, sym, ap, ◌∙◌, refl, subst, append_assoc, append-nil}
use Rattle.std.specs.Prelude.{flat_map, All}
use Rattle.std.proofs.lemmas.List.{append_cancel_left}
use Rattle.std.proofs.lemmas.List.Elements.{All-head, All-tail}
use Rattle.pgn_journal.specs.declared.tx.Tx.{Tx}
use Rattle.pgn_language.specs.declared.scenario.ScriptLine.{ScriptLine}
use Rattle.pgn_language.specs.declared.scenario.Section.{Section}
use Rattle.pgn_model.specs.declared.item.Item.{Item}
use Rattle.pgn_model.specs.declared.trace.Trace.{Trace}
use Rattle.pgn_journal.specs.Journal.{next_xid}
use Rattle.pgn_model.specs.Along.{Along}
use Rattle.pgn_model.specs.Walk.{Settings, Terms, State, start, after_item, Allowed}
use Rattle.pgn_model.specs.Trace.{TraceOk, IsEnd}
use Rattle.pgn_model.specs.Legal.{EachTrace}
use Rattle.pgn_model.specs.Text.{joined, item_lines, end_line, section_line, trace_lines, traces_lines}
use Rattle.pgn_unique.proofs.JournalLines.{joined-append, joined-cons}
use Rattle.pgn_unique.proofs.ItemKinds.{ended, not-ended}
use Rattle.pgn_unique.proofs.ItemLines.{IsKnown, same-item}

-- the lines of items of a trace of these script lines, and what follows them
abbrev pub spelled : List ScriptLine → List Item → List ℕ → List ℕ
spelled lines items rest = joined (flat_map (item_lines lines) items) ++ rest

-- the bytes of lines, and then those of the lines behind them
pub lines-apart : (lines behind : List (List ℕ)) (rest : List ℕ) → joined (lines ++ behind) ++ rest ≡ joined lines ++ (joined behind ++ rest)
lines-apart lines behind rest = ap (λ (bytes : List ℕ). bytes ++ rest) (joined-append lines behind) ∙ append_assoc (joined lines) (joined behind) rest

spelled-cons : (lines : List ScriptLine) (item : Item) (items : List Item) (rest : List ℕ) → spelled lines (item ∷ items) rest ≡ joined (item_lines lines item) ++ spelled lines items rest
spelled-cons lines item items rest = lines-apart (item_lines lines item) (flat_map (item_lines lines) items) rest

-- a whole list of items goes on after its front, whose lines begin its own
pub record GoesOn (lines : List ScriptLine) (front others : List Item) (text : List ℕ) (last : Option ℕ) (more : List ℕ) : Type 0 where
  pub tail : List Item
  pub whole : others ≡ front ++ tail
  pub follows : text ≡ spelled lines tail (ended last more)

module _ (terms : Terms) (journal : List Tx) (few : next_xid journal < 2 ^ 64) where
  abbrev Lawful : State → List Item → Type 0
  Lawful s items = Along after_item (Allowed terms journal) s items

  abbrev Known : List Item → Type 0
  Known items = All (IsKnown terms journal) items

  abbrev lines : List ScriptLine
  lines = terms.section.lines

  -- items whose lines begin those of a whole trace are its first
  pub front-same : (s : State) (front others : List Item) (mark last : Option ℕ) (text more : List ℕ) → Lawful s front → Lawful s others → IsEnd (fold after_item s others) mark → Known front → Known others
      → spelled lines front text ≡ spelled lines others (ended last more) → GoesOn lines front others text last more
  front-same s [] others mark last text more h k end known known' e = record { tail = others; whole = refl; follows = e }
  front-same s (item ∷ front) [] mark last text more h k end known known' e =
      absurd (not-ended terms journal lines s item mark last (spelled lines front text) more end h.0 (sym (spelled-cons lines item front text) ∙ e))
  front-same s (item ∷ front) (other ∷ others) mark last text more h k end known known' e =
      let behind : List ℕ = spelled lines front text in
      let after : List ℕ = spelled lines others (ended last more) in
      let both : joined (item_lines lines item) ++ behind ≡ joined (item_lines lines other) ++ after = sym (spelled-cons lines item front text) ∙ e ∙ spelled-cons lines other others (ended last more) in
      let same : item ≡ other =
      same-item terms journal few lines s item other behind after h.0 k.0 (All-head (IsKnown terms journal) item front known) (All-head (IsKnown terms journal) other others known') both in
      let rest = front-same (after_item s item) front others mark last text more h.1
      (subst (λ (i : Item). Lawful (after_item s i) others) (sym same) k.1)
      (subst (λ (i : Item). IsEnd (fold after_item (after_item s i) others) mark) (sym same) end)
      (All-tail (IsKnown terms journal) item front known) (All-tail (IsKnown terms journal) other others known')
      (append_cancel_left (joined (item_lines lines item)) behind after (both ∙ ap (λ (i : Item). joined (item_lines lines i) ++ after) (sym same))) in
      let tails : others ≡ front ++ rest.tail = rest.whole in
      record { tail = rest.tail; whole = cc; follows = rest.follows }

  -- the tail of lawful items is lawful from where their front leads
  pub Along-back : (s : State) (front tail : List Item) → Lawful s (front ++ tail) → Lawful (fold after_item s front) tail
  Along-back s [] tail h = h
  Along-back s (item ∷ front) tail h = Along-back (after_item s item) front tail h.1

  -- whole lists of items
  whole-same : (s : State) (items others : List Item) (last last' : Option ℕ) (rest more : List ℕ) → Lawful s items → Lawful s others → IsEnd (fold after_item s items) last → IsEnd (fold after_item s others) last' → Known items → Known others
      → spelled lines items (ended last rest) ≡ spelled lines others (ended last' more) → (items ≡ others) × (last ≡ last') × (rest ≡ more)
  whole-same s items others last last' rest more h k end end' known known' e =
      let on = front-same s items others last' last' (ended last rest) more h k end' known known' e in
      by on.tail on.whole on.follows
    where
      by : (tail : List Item) → others ≡ items ++ tail → ended last rest ≡ spelled lines tail (ended last' more) → (items ≡ others) × (last ≡ last') × (rest ≡ more)
      by [] whole follows =
          let same : items ≡ others = sym (append-nil items) ∙ sym whole in
          let lasts : last ≡ last' = sym end.mark ∙ ap (λ (is : List Item). (fold after_item s is).mark) same ∙ end'.mark in
          let both : ended last rest ≡ ended last more = follows ∙ ap (λ (o : Option ℕ). ended o more) (sym lasts) in
          (same, lasts, append_cancel_left (10 ∷ []) rest more (append_cancel_left (end_line last) (10 ∷ rest) (10 ∷ more) both))
      by (item ∷ tail) whole follows =
          let back : Lawful (fold after_item s items) (item ∷ tail) = Along-back s items (item ∷ tail) (subst (λ (is : List Item). Lawful s is) whole k) in
          absurd (not-ended terms journal lines (fold after_item s items) item last last (spelled lines tail (ended last' more)) rest end back.0
          (sym (spelled-cons lines item tail (ended last' more)) ∙ sym follows))

  same-trace : (a b : Trace) → a.session ≡ b.session → a.db ≡ b.db → a.items ≡ b.items → a.last ≡ b.last → a ≡ b
  same-trace a b e1 e2 e3 e4 =
      ap (λ (n : ℕ). let t : Trace = record { session = n; db = a.db; items = a.items; last = a.last } in t) e1
      ∙ ap (λ (n : ℕ). let t : Trace = record { session = b.session; db = n; items = a.items; last = a.last } in t) e2
      ∙ ap (λ (is : List Item). let t : Trace = record { session = b.session; db = b.db; items = is; last = a.last } in t) e3
      ∙ ap (λ (o : Option ℕ). let t : Trace = record { session = b.session; db = b.db; items = b.items; last = o } in t) e4

  -- the lines of a section with its trace, and what follows them
  pub trace-spelled : (trace : Trace) (rest : List ℕ) → joined (trace_lines terms.section trace) ++ rest ≡ section_line terms.section ++ 10 ∷ spelled lines trace.items (ended trace.last rest)
  trace-spelled trace rest =
      let items : List (List ℕ) = flat_map (item_lines lines) trace.items in
      joined-cons (section_line terms.section) (items ++ end_line trace.last ∷ []) rest
      ∙ ap (λ (bytes : List ℕ). section_line terms.section ++ 10 ∷ bytes) (lines-apart items (end_line trace.last ∷ []) rest)
      ∙ ap (λ (bytes : List ℕ). section_line terms.section ++ 10 ∷ (joined items ++ bytes)) (joined-cons (end_line trace.last) [] rest)

  trace-same : (trace other : Trace) (rest more : List ℕ) → TraceOk terms trace journal → TraceOk terms other journal → Known trace.items → Known other.items
      → joined (trace_lines terms.section trace) ++ rest ≡ joined (trace_lines terms.section other) ++ more → (trace ≡ other) × (rest ≡ more)
  trace-same trace other rest more h k known known' e =
      let one : List ℕ = spelled lines trace.items (ended trace.last rest) in
      let two : List ℕ = spelled lines other.items (ended other.last more) in
      let both : section_line terms.section ++ 10 ∷ one ≡ section_line terms.section ++ 10 ∷ two = sym (trace-spelled trace rest) ∙ e ∙ trace-spelled other more in
      let got = whole-same (start terms.section) trace.items other.items trace.last other.last rest more h.lawful k.lawful h.ended k.ended known known'
      (append_cancel_left (10 ∷ []) one two (append_cancel_left (section_line terms.section) (10 ∷ one) (10 ∷ two) both)) in
      (same-trace trace other (h.session ∙ sym k.session) (h.database ∙ sym k.database) got.0 got.1, got.2)

-- each item of each trace is known
abbrev pub AllKnown : Settings → List Tx → List Section → List Trace → Type 0
AllKnown settings journal sections traces = EachTrace settings (λ terms trace. All (IsKnown terms journal) trace.items) sections traces

-- the lines of all sections with their traces
pub traces-same : (settings : Settings) (journal : List Tx) (sections : List Section) (traces others : List Trace) (rest more : List ℕ) → next_xid journal < 2 ^ 64
    → EachTrace settings (λ terms trace. TraceOk terms trace journal) sections traces → EachTrace settings (λ terms trace. TraceOk terms trace journal) sections others
    → AllKnown settings journal sections traces → AllKnown settings journal sections others
    → joined (traces_lines sections traces) ++ rest ≡ joined (traces_lines sections others) ++ more → (traces ≡ others) × (rest ≡ more)
traces-same settings journal [] [] [] rest more few h k known known' e = (refl, e)
traces-same settings journal [] [] (other ∷ others) rest more few h k known known' e = absurd k
traces-same settings journal [] (trace ∷ traces) others rest more few h k known known' e = absurd h
traces-same settings journal (section ∷ sections) [] others rest more few h k known known' e = absurd h
traces-same settings journal (section ∷ sections) (trace ∷ traces) [] rest more few h k known known' e = absurd k
traces-same settings journal (section ∷ sections) (trace ∷ traces) (other ∷ others) rest more few h k known known' e =
    let terms : Terms = record { section = section; settings = settings } in
    let behind : List ℕ = joined (traces_lines sections traces) ++ rest in
    let after : List ℕ = joined (traces_lines sections others) ++ more in
    let one = trace-same terms journal few trace other behind after h.0 k.0 known.0 known'.0
    (sym (lines-apart (trace_lines section trace) (traces_lines sections traces) rest) ∙ e ∙ lines-apart (trace_lines section other) (traces_lines sections others) more) in
    let tail = traces-same settings journal sections traces others rest more few h.1 k.1 known.1 known'.1 one.1 in
    let first : trace ≡ other = one.0 in
    let behind_same : traces ≡ others = tail.0 in
    (cc, tail.1)
