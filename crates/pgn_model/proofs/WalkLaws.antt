-- Laws of the walk over a trace.
use Rattle.std.proofs.Common.{◌≡◌, ℕ, ◌+◌, ◌-◌, ◌≤◌, List, [], ◌∷◌, ◌++◌, length, fold, sym, ap, ◌∙◌, refl, subst, arith, length-append}
use Rattle.pgn_journal.specs.declared.tx.Tx.{Tx}
use Rattle.pgn_model.specs.declared.item.Item.{Item}
use Rattle.pgn_model.specs.declared.item.Item.TheVariants.{Line, Enlist, Publish, QueueFull, Leave, Reply, Refuse, Channels, Used, Raise, Found, TimedOut, Read}
use Rattle.pgn_model.specs.Along.{Along}
use Rattle.pgn_model.specs.Walk.{Terms, State, after_item, start, Allowed, IsCommittedBy, IsAbortedBy}
use Rattle.pgn_model.specs.Trace.{IsLawful, Stands}
use Rattle.pgn_journal.proofs.DueLaws.{due-grows}
use Rattle.pgn_journal.proofs.JournalLaws.{entry-append}
use Rattle.pgn_journal.proofs.QueueUseLaws.{usage-grows}

-- one more item at the end
pub Along-push : {S I : Type 0} (next : S → I → S) (P : S → I → Type 0) (s : S) (items : List I) (item : I) → Along next P s items → P (fold next s items) item → Along next P s (items ++ item ∷ [])
Along-push next P s [] item h p = (p, tt)
Along-push next P s (i ∷ items) item h p = (h.0, Along-push next P (next s i) items item h.1 p)

-- a walk over one item more takes one step more
pub fold-push : {S I : Type 0} (next : S → I → S) (s : S) (items : List I) (item : I) → fold next s (items ++ item ∷ []) ≡ next (fold next s items) item
fold-push next s [] item = refl
fold-push next s (i ∷ items) item = fold-push next (next s i) items item

-- a prefix of the list
pub Along-front : {S I : Type 0} (next : S → I → S) (P : S → I → Type 0) (s : S) (front rest : List I) → Along next P s (front ++ rest) → Along next P s front
Along-front next P s [] rest h = tt
Along-front next P s (i ∷ front) rest h = (h.0, Along-front next P (next s i) front rest h.1)

-- what implies another fact in each state
pub Along-weaker : {S I : Type 0} (next : S → I → S) (P Q : S → I → Type 0) → ((s : S) (item : I) → P s item → Q s item) → (s : S) (items : List I) → Along next P s items → Along next Q s items
Along-weaker next P Q f s [] h = tt
Along-weaker next P Q f s (i ∷ items) h = (f s i h.0, Along-weaker next P Q f (next s i) items h.1)

-- the state may be given by an equation
pub Along-push_at : {S I : Type 0} (next : S → I → S) (P : S → I → Type 0) (first s : S) (items : List I) (item : I) → fold next first items ≡ s → Along next P first items → P s item → Along next P first (items ++ item ∷ [])
Along-push_at {S = S} next P first s items item e h p = Along-push next P first items item h (subst (λ (t : S). P t item) (sym e) p)

-- an item that is allowed goes on from where items lead
pub Stands-push : (terms : Terms) (journal : List Tx) (items : List Item) (s : State) (item : Item) → Stands terms journal items s → Allowed terms journal s item → Stands terms journal (items ++ item ∷ []) (after_item s item)
Stands-push terms journal items s item h p = record {
  lawful = Along-push_at after_item (Allowed terms journal) (start terms.section) s items item h.state h.lawful p;
  state = fold-push after_item (start terms.section) items item ∙ ap (λ (t : State). after_item t item) h.state;
}

longer : (journal more : List Tx) (n : ℕ) → n ≤ 3 + length journal → n ≤ 3 + length (journal ++ more)
longer journal more n h = omega (arith, length-append journal more)

-- what is allowed over a journal is allowed over a longer one
pub Allowed-grows : (terms : Terms) (journal more : List Tx) (s : State) (item : Item) → Allowed terms journal s item → Allowed terms (journal ++ more) s item
Allowed-grows terms journal more s (Line line) h = h
Allowed-grows terms journal more s (Enlist base point) h = record {
  expected = h.expected;
  from_first = h.from_first;
  ordered = h.ordered;
  after_told = h.after_told;
  after_marks = h.after_marks;
  in_journal = longer journal more point h.in_journal;
}
Allowed-grows terms journal more s (Publish xid notes) h = record {
  expected = h.expected;
  after_told = h.after_told;
  after_mark = h.after_mark;
  in_journal = entry-append journal more (xid - 3) (IsCommittedBy terms.section notes) h.in_journal;
}
Allowed-grows terms journal more s (QueueFull full notes) h = record {
  expected = h.expected;
  after_told = h.after_told;
  after_mark = h.after_mark;
  in_journal = entry-append journal more (full.xid - 3) (IsAbortedBy terms.section notes full.queued) h.in_journal;
  floor = h.floor;
}
Allowed-grows terms journal more s Leave h = h
Allowed-grows terms journal more s (Reply tag warning) h = h
Allowed-grows terms journal more s (Refuse refusal) h = h
Allowed-grows terms journal more s (Channels names) h = h
Allowed-grows terms journal more s (Used usage) h = record {
  expected = h.expected;
  after_told = h.after_told;
  after_mark = h.after_mark;
  shown = usage-grows terms.settings.format terms.settings.limit journal more usage h.shown;
  floor = h.floor;
}
Allowed-grows terms journal more s (Raise value) h = h
Allowed-grows terms journal more s (Found value) h = h
Allowed-grows terms journal more s (TimedOut looks) h = h
Allowed-grows terms journal more s (Read from to got) h = record {
  in_turn = h.in_turn;
  from_mark = h.from_mark;
  forward = h.forward;
  after_told = h.after_told;
  in_journal = longer journal more to h.in_journal;
  received = h.received ∙ sym (due-grows journal more from to terms.section.db s.set h.in_journal);
}

-- items lead to the same state over a longer journal
pub Stands-grows : (terms : Terms) (journal more : List Tx) (items : List Item) (s : State) → Stands terms journal items s → Stands terms (journal ++ more) items s
Stands-grows terms journal more items s h = record {
  lawful = Along-weaker after_item (Allowed terms journal) (Allowed terms (journal ++ more)) (λ t item. Allowed-grows terms journal more t item) (start terms.section) items h.lawful;
  state = h.state;
}

-- the front of lawful items is lawful
pub lawful-prefix : (terms : Terms) (journal : List Tx) (front rest : List Item) → IsLawful terms journal (front ++ rest) → IsLawful terms journal front
lawful-prefix terms journal front rest h = Along-front after_item (Allowed terms journal) (start terms.section) front rest h

-- of lawful items a front is lawful, and they stay so as the journal grows
pub ruleset walk_laws = (Stands-grows, lawful-prefix)
