-- Two items that are allowed in one state and have the same lines are the same.
use Rattle.std.proofs.Common.{◌≡◌, ℕ, ◌+◌, ◌^◌, ◌<◌, ◌≤◌, List, [], ◌∷◌, ◌++◌, map, Option, None, Some, IsSomeAnd, codes, decimal, sym, ap, ◌∙◌, refl, arith, append_assoc}
use Rattle.std.proofs.lemmas.List.{append_cancel_left}
use Rattle.std.proofs.lemmas.Option.{same_Some}
use Rattle.pgn_base.specs.declared.note.Note.{Note}
use Rattle.pgn_base.specs.declared.note.Delivery.{Delivery}
use Rattle.pgn_base.specs.declared.format.Format.{Format}
use Rattle.pgn_base.specs.declared.queue_answers.Full.{Full}
use Rattle.pgn_base.specs.declared.queue_answers.Usage.{Usage}
use Rattle.pgn_journal.specs.declared.tx.Tx.{Tx}
use Rattle.pgn_language.specs.declared.scenario.ScriptLine.{ScriptLine}
use Rattle.pgn_model.specs.declared.item.Item.{Item}
use Rattle.pgn_model.specs.declared.item.Item.TheVariants.{Line, Enlist, Publish, QueueFull, Leave, Reply, Refuse, Channels, Used, Raise, Found, TimedOut, Read}
use Rattle.pgn_journal.specs.Journal.{entry, next_xid}
use Rattle.pgn_journal.specs.Due.{due}
use Rattle.pgn_journal.specs.Packing.{page_of, place}
use Rattle.pgn_model.specs.Walk.{Terms, State, Owed, Queueing, Listing, Allowed, IsNext, IsQueueing, IsListing, IsAbortedBy}
use Rattle.pgn_model.specs.Legal.{IsShownWithin, IsFullThere}
use Rattle.pgn_model.specs.Text.{joined, item_lines, holder_text, full_line, delivery_line}
use Rattle.pgn_reading.proofs.FieldLaws.{IsHeld, holder-ends, field, blank, line-feed, same-full, same-usage}
use Rattle.pgn_reading.proofs.LineLaws.{kind}
use Rattle.pgn_unique.proofs.JournalLines.{joined-cons, in-two, in-four}
use Rattle.pgn_unique.proofs.ItemKinds.{same-kind}

-- the holder that an item names
abbrev pub holder_of : Item → Option ℕ
holder_of (QueueFull full notes) = full.holder
holder_of (Used usage) = usage.holder
holder_of item = None

-- pieces one after another
in-six : (a b c d e f rest : List ℕ) → (a ++ b ++ c ++ d ++ e ++ f) ++ rest ≡ a ++ (b ++ (c ++ (d ++ (e ++ (f ++ rest)))))
in-six a b c d e f rest = simp append_assoc

-- a number that is the same for another reason
pub known : (start : List ℕ) (m n : ℕ) (rest more : List ℕ) → m ≡ n → start ++ (decimal m ++ rest) ≡ start ++ (decimal n ++ more) → rest ≡ more
known start m n rest more same e =
    append_cancel_left (decimal m) rest more (append_cancel_left start (decimal m ++ rest) (decimal n ++ more) e ∙ ap (λ (k : ℕ). decimal k ++ more) (sym same))

-- the state tells the same line, the same notifications and the same channels
same-next : (n m : ℕ) (lines : List ScriptLine) → IsNext n lines → IsNext m lines → n ≡ m
same-next n m [] h k = absurd h
same-next n m (line ∷ lines) h k = sym h ∙ k

same-notes : (notes others : List Note) (owed : Owed) → IsQueueing notes owed → IsQueueing others owed → notes ≡ others
same-notes notes others (Queueing actions some ending) h k = h ∙ sym k
same-notes notes others owed h k = absurd h

same-names : (names others : List (List ℕ)) (owed : Owed) → IsListing names owed → IsListing others owed → names ≡ others
same-names names others (Listing some ending) h k = h ∙ sym k
same-names names others owed h k = absurd h

-- the journal tells how many were queued
same-queued : (terms : Terms) (notes others : List Note) (q q' : ℕ) (o o' : Option Tx) → o ≡ o' → IsSomeAnd o (IsAbortedBy terms.section notes q) → IsSomeAnd o' (IsAbortedBy terms.section others q') → q ≡ q'
same-queued terms notes others q q' None o' e h k = absurd h
same-queued terms notes others q q' (Some tx) None e h k = absurd k
same-queued terms notes others q q' (Some tx) (Some tx') e h k = sym h.some ∙ ap (λ (t : Tx). t.queued) (same_Some tx tx' e) ∙ k.some

in-twelve : (a b c d e f g h i j k l rest : List ℕ)
    → (a ++ b ++ c ++ d ++ e ++ f ++ g ++ h ++ i ++ j ++ k ++ l) ++ rest ≡ a ++ (b ++ (c ++ (d ++ (e ++ (f ++ (g ++ (h ++ (i ++ (j ++ (k ++ (l ++ rest)))))))))))
in-twelve a b c d e f g h i j k l rest = simp append_assoc

full-spelled : (full : Full) (rest : List ℕ)
    → full_line full ++ rest ≡ codes "+full " ++ (decimal full.xid ++ (codes " queued " ++ (decimal full.queued ++ (codes " head " ++ (decimal full.head_page ++ (codes " floor " ++ (decimal full.floor_mark ++ (codes " page " ++ (decimal full.floor_page ++ (codes " holder " ++ (holder_text full.holder ++ rest)))))))))))
full-spelled full rest =
    in-twelve (codes "+full ") (decimal full.xid) (codes " queued ") (decimal full.queued) (codes " head ") (decimal full.head_page) (codes " floor ") (decimal full.floor_mark) (codes " page ") (decimal full.floor_page) (codes " holder ")
    (holder_text full.holder) rest

-- what is known of an item besides that it is allowed: its numbers are within the journal, a queue that it shows as full was full,
-- and the holder that it names is not numbered too high
pub record IsKnown (terms : Terms) (journal : List Tx) (item : Item) : Type 0 where
  pub shown : IsShownWithin (next_xid journal) item
  pub full : IsFullThere terms.settings journal item
  pub held : IsHeld (holder_of item)

module _ (terms : Terms) (journal : List Tx) (few : next_xid journal < 2 ^ 64) (lines : List ScriptLine) where
  abbrev Same : State → Item → Item → Type 0
  Same s item other = (rest more : List ℕ) → Allowed terms journal s item → Allowed terms journal s other → IsKnown terms journal item → IsKnown terms journal other
      → joined (item_lines lines item) ++ rest ≡ joined (item_lines lines other) ++ more → item ≡ other

  enlists-same : (s : State) (base base' point point' : ℕ) → Same s (Enlist base point) (Enlist base' point')
  enlists-same s base base' point point' rest more h k known_of known_too e =
      let spelled : codes "+enlist " ++ (decimal base ++ (codes " " ++ (decimal point ++ 10 ∷ rest))) ≡ codes "+enlist " ++ (decimal base' ++ (codes " " ++ (decimal point' ++ 10 ∷ more))) =
      sym (in-four (codes "+enlist ") (decimal base) (codes " ") (decimal point) (10 ∷ rest)) ∙ sym (joined-cons (codes "+enlist " ++ decimal base ++ codes " " ++ decimal point) [] rest)
      ∙ e ∙ joined-cons (codes "+enlist " ++ decimal base' ++ codes " " ++ decimal point') [] more ∙ in-four (codes "+enlist ") (decimal base') (codes " ") (decimal point') (10 ∷ more) in
      let one = field (codes "+enlist ") base base' (codes " " ++ (decimal point ++ 10 ∷ rest)) (codes " " ++ (decimal point' ++ 10 ∷ more))
      (omega (arith, few, known_of.shown.0)) (omega (arith, few, known_too.shown.0)) (blank (decimal point ++ 10 ∷ rest)) (blank (decimal point' ++ 10 ∷ more)) spelled in
      let two = field (codes " ") point point' (10 ∷ rest) (10 ∷ more) (omega (arith, few, known_of.shown.1)) (omega (arith, few, known_too.shown.1)) (line-feed rest) (line-feed more) one.1 in
      ap (λ (n : ℕ). let i : Item = Enlist n point in i) one.0 ∙ ap (λ (n : ℕ). let i : Item = Enlist base' n in i) two.0

  -- a line of one number
  number-line : (start : List ℕ) (m n : ℕ) (rest more : List ℕ) → m ≤ next_xid journal → n ≤ next_xid journal → joined ((start ++ decimal m) ∷ []) ++ rest ≡ joined ((start ++ decimal n) ∷ []) ++ more → m ≡ n
  number-line start m n rest more hm hn e =
      let spelled : start ++ (decimal m ++ 10 ∷ rest) ≡ start ++ (decimal n ++ 10 ∷ more) =
      sym (in-two start (decimal m) (10 ∷ rest)) ∙ sym (joined-cons (start ++ decimal m) [] rest) ∙ e ∙ joined-cons (start ++ decimal n) [] more ∙ in-two start (decimal n) (10 ∷ more) in
      (field start m n (10 ∷ rest) (10 ∷ more) (omega (arith, few, hm)) (omega (arith, few, hn)) (line-feed rest) (line-feed more) spelled).0

  publishes-same : (s : State) (xid xid' : ℕ) (notes others : List Note) → Same s (Publish xid notes) (Publish xid' others)
  publishes-same s xid xid' notes others rest more h k known_of known_too e =
      ap (λ (n : ℕ). let i : Item = Publish n notes in i) (number-line (codes "+publish ") xid xid' rest more known_of.shown known_too.shown e)
      ∙ ap (λ (ns : List Note). let i : Item = Publish xid' ns in i) (same-notes notes others s.owed h.expected k.expected)

  -- the numbers of a full queue are told by that of its transaction and by its floor
  full-same : (s : State) (full other : Full) (notes others : List Note) → Same s (QueueFull full notes) (QueueFull other others)
  full-same s full other notes others rest more h k known_of known_too e =
      let in_floor : List ℕ = codes " page " ++ (decimal full.floor_page ++ (codes " holder " ++ (holder_text full.holder ++ 10 ∷ rest))) in
      let in_floor' : List ℕ = codes " page " ++ (decimal other.floor_page ++ (codes " holder " ++ (holder_text other.holder ++ 10 ∷ more))) in
      let in_head : List ℕ = codes " floor " ++ (decimal full.floor_mark ++ in_floor) in
      let in_head' : List ℕ = codes " floor " ++ (decimal other.floor_mark ++ in_floor') in
      let in_queued : List ℕ = codes " head " ++ (decimal full.head_page ++ in_head) in
      let in_queued' : List ℕ = codes " head " ++ (decimal other.head_page ++ in_head') in
      let spelled : codes "+full " ++ (decimal full.xid ++ (codes " queued " ++ (decimal full.queued ++ in_queued))) ≡ codes "+full " ++ (decimal other.xid ++ (codes " queued " ++ (decimal other.queued ++ in_queued'))) =
      sym (full-spelled full (10 ∷ rest)) ∙ sym (joined-cons (full_line full) [] rest) ∙ e ∙ joined-cons (full_line other) [] more ∙ full-spelled other (10 ∷ more) in
      let low : 32 < 48 = omega arith in
      let xids = field (codes "+full ") full.xid other.xid (codes " queued " ++ (decimal full.queued ++ in_queued)) (codes " queued " ++ (decimal other.queued ++ in_queued'))
      (omega (arith, few, known_of.shown.0)) (omega (arith, few, known_too.shown.0)) low low spelled in
      let queued : full.queued ≡ other.queued = same-queued terms notes others full.queued other.queued (entry journal full.xid) (entry journal other.xid) (ap (λ (x : ℕ). entry journal x) xids.0) h.in_journal k.in_journal in
      let heads : full.head_page ≡ other.head_page = known_of.full.head ∙ ap (λ (x : ℕ). page_of (place terms.settings.format journal (x + 1))) xids.0 ∙ sym known_too.full.head in
      let at_head : in_queued ≡ in_queued' = known (codes " queued ") full.queued other.queued in_queued in_queued' queued xids.1 in
      let at_floor : in_head ≡ in_head' = known (codes " head ") full.head_page other.head_page in_head in_head' heads at_head in
      let floors = field (codes " floor ") full.floor_mark other.floor_mark in_floor in_floor' (omega (arith, few, known_of.shown.1)) (omega (arith, few, known_too.shown.1)) low low at_floor in
      let pages : full.floor_page ≡ other.floor_page = known_of.full.floor ∙ ap (λ (x : ℕ). page_of (place terms.settings.format journal x)) floors.0 ∙ sym known_too.full.floor in
      let at_holder : codes " holder " ++ (holder_text full.holder ++ 10 ∷ rest) ≡ codes " holder " ++ (holder_text other.holder ++ 10 ∷ more) =
      known (codes " page ") full.floor_page other.floor_page (codes " holder " ++ (holder_text full.holder ++ 10 ∷ rest)) (codes " holder " ++ (holder_text other.holder ++ 10 ∷ more)) pages floors.1 in
      let holders = holder-ends full.holder other.holder (10 ∷ rest) (10 ∷ more) known_of.held known_too.held (line-feed rest) (line-feed more)
      (append_cancel_left (codes " holder ") (holder_text full.holder ++ 10 ∷ rest) (holder_text other.holder ++ 10 ∷ more) at_holder) in
      ap (λ (f : Full). let i : Item = QueueFull f notes in i) (same-full full other xids.0 queued heads floors.0 pages holders.0)
      ∙ ap (λ (ns : List Note). let i : Item = QueueFull other ns in i) (same-notes notes others s.owed h.expected k.expected)

  -- those of a usage by its number and by its floor
  usage-same : (s : State) (usage other : Usage) → Same s (Used usage) (Used other)
  usage-same s usage other rest more h k known_of known_too e =
      let row : List ℕ = joined ((codes "  " ++ decimal usage.occupied ++ codes "/" ++ decimal usage.limit) ∷ []) ++ rest in
      let row' : List ℕ = joined ((codes "  " ++ decimal other.occupied ++ codes "/" ++ decimal other.limit) ∷ []) ++ more in
      let in_floor : List ℕ = codes " holder " ++ (holder_text usage.holder ++ 10 ∷ row) in
      let in_floor' : List ℕ = codes " holder " ++ (holder_text other.holder ++ 10 ∷ row') in
      let spelled : codes "+usage " ++ (decimal usage.at ++ (codes " floor " ++ (decimal usage.floor_mark ++ in_floor))) ≡ codes "+usage " ++ (decimal other.at ++ (codes " floor " ++ (decimal other.floor_mark ++ in_floor'))) =
      sym (usage-spelled usage rest) ∙ e ∙ usage-spelled other more in
      let low : 32 < 48 = omega arith in
      let ats = field (codes "+usage ") usage.at other.at (codes " floor " ++ (decimal usage.floor_mark ++ in_floor)) (codes " floor " ++ (decimal other.floor_mark ++ in_floor'))
      (omega (arith, few, known_of.shown.0)) (omega (arith, few, known_too.shown.0)) low low spelled in
      let floors = field (codes " floor ") usage.floor_mark other.floor_mark in_floor in_floor' (omega (arith, few, known_of.shown.1)) (omega (arith, few, known_too.shown.1)) low low ats.1 in
      let holders = holder-ends usage.holder other.holder (10 ∷ row) (10 ∷ row') known_of.held known_too.held (line-feed row) (line-feed row')
      (append_cancel_left (codes " holder ") (holder_text usage.holder ++ 10 ∷ row) (holder_text other.holder ++ 10 ∷ row') floors.1) in
      let format : Format = terms.settings.format in
      let floor_pages : page_of (place format journal usage.floor_mark) ≡ page_of (place format journal other.floor_mark) = ap (λ (x : ℕ). page_of (place format journal x)) floors.0 in
      let at_pages : page_of (place format journal usage.at) ≡ page_of (place format journal other.at) = ap (λ (x : ℕ). page_of (place format journal x)) ats.0 in
      let occupied : usage.occupied ≡ other.occupied = omega (arith, floor_pages, at_pages, h.shown.in_use, k.shown.in_use) in
      ap (λ (u : Usage). let i : Item = Used u in i) (same-usage usage other ats.0 occupied (h.shown.limited ∙ sym k.shown.limited) floors.0 holders.0)
    where
      usage-spelled : (u : Usage) (rest : List ℕ)
          → joined (item_lines lines (Used u)) ++ rest ≡ codes "+usage " ++ (decimal u.at ++ (codes " floor " ++ (decimal u.floor_mark ++ (codes " holder " ++ (holder_text u.holder ++ 10 ∷ (joined ((codes "  " ++ decimal u.occupied ++ codes "/" ++ decimal u.limit) ∷ []) ++ rest))))))
      usage-spelled u rest =
          let row : List ℕ = codes "  " ++ decimal u.occupied ++ codes "/" ++ decimal u.limit in
          joined-cons (codes "+usage " ++ decimal u.at ++ codes " floor " ++ decimal u.floor_mark ++ codes " holder " ++ holder_text u.holder) (row ∷ []) rest
          ∙ in-six (codes "+usage ") (decimal u.at) (codes " floor ") (decimal u.floor_mark) (codes " holder ") (holder_text u.holder) (10 ∷ (joined (row ∷ []) ++ rest))

  reads-same : (s : State) (from from' to to' : ℕ) (got got' : List Delivery) → Same s (Read from to got) (Read from' to' got')
  reads-same s from from' to to' got got' rest more h k known_of known_too e =
      let rows : List ℕ = joined (map delivery_line got) ++ rest in
      let rows' : List ℕ = joined (map delivery_line got') ++ more in
      let spelled : codes "+read " ++ (decimal from ++ (codes " " ++ (decimal to ++ 10 ∷ rows))) ≡ codes "+read " ++ (decimal from' ++ (codes " " ++ (decimal to' ++ 10 ∷ rows'))) =
      sym (in-four (codes "+read ") (decimal from) (codes " ") (decimal to) (10 ∷ rows)) ∙ sym (joined-cons (codes "+read " ++ decimal from ++ codes " " ++ decimal to) (map delivery_line got) rest)
      ∙ e ∙ joined-cons (codes "+read " ++ decimal from' ++ codes " " ++ decimal to') (map delivery_line got') more ∙ in-four (codes "+read ") (decimal from') (codes " ") (decimal to') (10 ∷ rows') in
      let froms : from ≡ from' = same_Some from from' (sym h.from_mark ∙ k.from_mark) in
      let at_to : codes " " ++ (decimal to ++ 10 ∷ rows) ≡ codes " " ++ (decimal to' ++ 10 ∷ rows') = known (codes "+read ") from from' (codes " " ++ (decimal to ++ 10 ∷ rows)) (codes " " ++ (decimal to' ++ 10 ∷ rows')) froms spelled in
      let tos = field (codes " ") to to' (10 ∷ rows) (10 ∷ rows') (omega (arith, few, known_of.shown.1)) (omega (arith, few, known_too.shown.1)) (line-feed rows) (line-feed rows') at_to in
      let gots : got ≡ got' =
      h.received ∙ ap (λ (n : ℕ). due journal n to terms.section.db s.set) froms ∙ ap (λ (n : ℕ). due journal from' n terms.section.db s.set) tos.0 ∙ sym k.received in
      ap (λ (n : ℕ). let i : Item = Read n to got in i) froms ∙ ap (λ (n : ℕ). let i : Item = Read from' n got in i) tos.0 ∙ ap (λ (ds : List Delivery). let i : Item = Read from' to' ds in i) gots

  -- two items of one kind
  of-one-kind : (s : State) (item other : Item) → kind item ≡ kind other → Same s item other
  of-one-kind s (Line n) (Line m) t rest more h k known_of known_too e = ap (λ (l : ℕ). let i : Item = Line l in i) (same-next n m s.rest h.next k.next)
  of-one-kind s (Line n) other t rest more h k known_of known_too e = absurd (omega (arith, t))
  of-one-kind s (Enlist base point) (Enlist base' point') t rest more h k known_of known_too e = enlists-same s base base' point point' rest more h k known_of known_too e
  of-one-kind s (Enlist base point) other t rest more h k known_of known_too e = absurd (omega (arith, t))
  of-one-kind s (Publish xid notes) (Publish xid' others) t rest more h k known_of known_too e = publishes-same s xid xid' notes others rest more h k known_of known_too e
  of-one-kind s (Publish xid notes) other t rest more h k known_of known_too e = absurd (omega (arith, t))
  of-one-kind s (QueueFull full notes) (QueueFull full' others) t rest more h k known_of known_too e = full-same s full full' notes others rest more h k known_of known_too e
  of-one-kind s (QueueFull full notes) other t rest more h k known_of known_too e = absurd (omega (arith, t))
  of-one-kind s Leave Leave t rest more h k known_of known_too e = refl
  of-one-kind s Leave other t rest more h k known_of known_too e = absurd (omega (arith, t))
  of-one-kind s (Reply done warning) (Reply done' warning') t rest more h k known_of known_too e = cc
  of-one-kind s (Reply done warning) other t rest more h k known_of known_too e = absurd (omega (arith, t))
  of-one-kind s (Refuse refusal) (Refuse refusal') t rest more h k known_of known_too e = cc
  of-one-kind s (Refuse refusal) other t rest more h k known_of known_too e = absurd (omega (arith, t))
  of-one-kind s (Channels names) (Channels names') t rest more h k known_of known_too e = ap (λ (ns : List (List ℕ)). let i : Item = Channels ns in i) (same-names names names' s.owed h k)
  of-one-kind s (Channels names) other t rest more h k known_of known_too e = absurd (omega (arith, t))
  of-one-kind s (Used usage) (Used usage') t rest more h k known_of known_too e = usage-same s usage usage' rest more h k known_of known_too e
  of-one-kind s (Used usage) other t rest more h k known_of known_too e = absurd (omega (arith, t))
  of-one-kind s (Raise value) (Raise value') t rest more h k known_of known_too e = ap (λ (n : ℕ). let i : Item = Raise n in i) (h.told ∙ sym k.told)
  of-one-kind s (Raise value) other t rest more h k known_of known_too e = absurd (omega (arith, t))
  of-one-kind s (Found value) (Found value') t rest more h k known_of known_too e = ap (λ (n : ℕ). let i : Item = Found n in i) (number-line (codes "+await ") value value' rest more known_of.shown known_too.shown e)
  of-one-kind s (Found value) other t rest more h k known_of known_too e = absurd (omega (arith, t))
  of-one-kind s (TimedOut looks) (TimedOut looks') t rest more h k known_of known_too e = ap (λ (n : ℕ). let i : Item = TimedOut n in i) (h.patient ∙ sym k.patient)
  of-one-kind s (TimedOut looks) other t rest more h k known_of known_too e = absurd (omega (arith, t))
  of-one-kind s (Read from to got) (Read from' to' got') t rest more h k known_of known_too e = reads-same s from from' to to' got got' rest more h k known_of known_too e
  of-one-kind s (Read from to got) other t rest more h k known_of known_too e = absurd (omega (arith, t))

  -- two items that are allowed in a state, with the same lines, whatever follows them
  pub same-item : (s : State) (item other : Item) → Same s item other
  same-item s item other rest more h k known_of known_too e = of-one-kind s item other (same-kind terms journal lines s item other rest more h k e) rest more h k known_of known_too e
