-- Lawful items are what is seen of them, with what the walk adds.
use Rattle.std.proofs.Common.{◌≡◌, ℕ, List, [], ◌∷◌, ◌++◌, fold, sym, ap, ◌∙◌, refl, append-nil}
use Rattle.std.specs.Prelude.{flat_map}
use Rattle.std.proofs.lemmas.List.Concat.{flat_map-append}
use Rattle.pgn_base.specs.declared.note.Note.{Note}
use Rattle.pgn_journal.specs.declared.tx.Tx.{Tx}
use Rattle.pgn_language.specs.declared.scenario.ScriptLine.{ScriptLine}
use Rattle.pgn_model.specs.declared.item.Item.{Item}
use Rattle.pgn_model.specs.declared.item.Item.TheVariants.{Line, Enlist, Publish, QueueFull, Leave, Reply, Refuse, Channels, Used, Raise, Found, TimedOut, Read}
use Rattle.pgn_model.specs.Along.{Along}
use Rattle.pgn_model.specs.Walk.{Terms, State, Owed, Nothing, Enlisting, Queueing, Leaving, Listing, Measuring, Raising, Awaiting, Quitting, Allowed, after_item, at_rows, IsEnlisting, IsQueueing, IsLeaving, IsListing, IsMeasuring, IsRaising, IsAwaiting, MayRead}
use Rattle.pgn_model.specs.Text.{item_lines}
use Rattle.pgn_reading.specs.Completed.{seen_of, seen, notes_of, with_owed, without_line, completed}
use Rattle.pgn_reading.specs.WalkLaws.{ReadShowsSame, ReadIsCompleted}

-- what is seen of an item has its lines
one-shows : (lines : List ScriptLine) (item : Item) → flat_map (item_lines lines) (seen_of item) ≡ item_lines lines item
one-shows lines (Line n) = refl
one-shows lines (Enlist base point) = refl
one-shows lines (Publish xid notes) = refl
one-shows lines (QueueFull full notes) = refl
one-shows lines Leave = refl
one-shows lines (Reply done warning) = append-nil (item_lines lines (Reply done warning))
one-shows lines (Refuse refusal) = refl
one-shows lines (Channels []) = refl
one-shows lines (Channels (name ∷ names)) = append-nil (item_lines lines (Channels (name ∷ names)))
one-shows lines (Used usage) = refl
one-shows lines (Raise value) = refl
one-shows lines (Found value) = refl
one-shows lines (TimedOut looks) = refl
one-shows lines (Read from to got) = append-nil (item_lines lines (Read from to got))

-- what is not seen of items has no line
pub read-shows_same : ReadShowsSame
read-shows_same lines [] = refl
read-shows_same lines (item ∷ items) =
    flat_map-append (item_lines lines) (seen_of item) (seen items)
    ∙ ap (λ (here : List (List ℕ)). here ++ flat_map (item_lines lines) (seen items)) (one-shows lines item)
    ∙ ap (λ (rest : List (List ℕ)). item_lines lines item ++ rest) (read-shows_same lines items)

-- an item that was read from a state, after these that have no line, and the rest
after_these : State → List Item → Item → List Item → List Item
after_these s none item items =
    let t : State = fold after_item s none in
    none ++ with_owed t.owed item ∷ completed (after_item t (with_owed t.owed item)) items

-- where each line of an item is seen the walk adds nothing before it
pub plain-step : (s : State) (item : Item) (items : List Item) → without_line s.owed ≡ [] → completed s (item ∷ items) ≡ with_owed s.owed item ∷ completed (after_item s (with_owed s.owed item)) items
unfolding after_these
plain-step s item items h = ap (λ (none : List Item). after_these s none item items) h

-- where the rows of no channel come next it adds them
empty-step : (s : State) (item : Item) (items : List Item) → without_line s.owed ≡ Channels [] ∷ [] → without_line (after_item s (Channels [])).owed ≡ [] → completed s (item ∷ items) ≡ Channels [] ∷ completed (after_item s (Channels [])) (item ∷ items)
unfolding after_these
empty-step s item items h k =
    let t : State = after_item s (Channels []) in
    ap (λ (none : List Item). after_these s none item items) h ∙ ap (λ (rest : List Item). let all : List Item = Channels [] ∷ rest in all) (sym (plain-step t item items k))

-- what comes next, by the item that is allowed
enlisting : (owed : Owed) → IsEnlisting owed → without_line owed ≡ []
enlisting (Enlisting actions notes ending) h = refl
enlisting owed h = absurd h

queueing : (notes : List Note) (owed : Owed) → IsQueueing notes owed → without_line owed ≡ []
queueing notes (Queueing actions others ending) h = refl
queueing notes owed h = absurd h

queued : (notes : List Note) (owed : Owed) → IsQueueing notes owed → notes_of owed ≡ notes
queued notes (Queueing actions others ending) h = sym h
queued notes owed h = absurd h

leaving : (owed : Owed) → IsLeaving owed → without_line owed ≡ []
leaving (Leaving ending) h = refl
leaving Quitting h = refl
leaving owed h = absurd h

some-listed : (name : List ℕ) (names : List (List ℕ)) (owed : Owed) → IsListing (name ∷ names) owed → without_line owed ≡ []
some-listed name names (Listing [] ending) h = absurd (let none : ⊥ = cc in none)
some-listed name names (Listing (other ∷ others) ending) h = refl
some-listed name names owed h = absurd h

none-listed : (owed : Owed) → IsListing [] owed → without_line owed ≡ Channels [] ∷ []
none-listed (Listing [] ending) h = refl
none-listed (Listing (other ∷ others) ending) h = absurd (let none : ⊥ = cc in none)
none-listed owed h = absurd h

rows-shown : (s : State) (names : List (List ℕ)) (owed : Owed) → IsListing names owed → without_line (at_rows s owed).owed ≡ []
rows-shown s names (Listing others ending) h = refl
rows-shown s names owed h = absurd h

rows-owe : (s : State) (names : List (List ℕ)) (owed : Owed) → IsListing names owed → (at_rows s owed).owed ≡ Nothing → ⊥
rows-owe s names (Listing others ending) h e = let none : ⊥ = cc in none
rows-owe s names owed h e = h

measuring : (owed : Owed) → IsMeasuring owed → without_line owed ≡ []
measuring (Measuring ending) h = refl
measuring owed h = absurd h

raising : (owed : Owed) → IsRaising owed → without_line owed ≡ []
raising (Raising flag) h = refl
raising owed h = absurd h

awaiting : (P : ℕ → Type 0) (owed : Owed) → IsAwaiting owed P → without_line owed ≡ []
awaiting P (Awaiting flag) h = refl
awaiting P owed h = absurd h

may-read : (s : State) (owed : Owed) → MayRead s owed → without_line owed ≡ []
may-read s Nothing h = refl
may-read s (Awaiting flag) h = refl
may-read s owed h = absurd h

-- one item of a lawful list
seen-step : (s : State) (item other : Item) (items : List Item) → without_line s.owed ≡ [] → with_owed s.owed other ≡ item → completed (after_item s item) (seen items) ≡ items → completed s (other ∷ seen items) ≡ item ∷ items
seen-step s item other items none same rest =
    plain-step s other (seen items) none ∙ ap (λ (i : Item). let all : List Item = i ∷ completed (after_item s i) (seen items) in all) same ∙ ap (λ (is : List Item). let all : List Item = item ∷ is in all) rest

module _ (terms : Terms) (journal : List Tx) where
  -- a lawful list that leaves nothing owed is what comes of its lines, when they are completed
  pub read-is_completed_from : (s : State) (items : List Item) → Along after_item (Allowed terms journal) s items → (fold after_item s items).owed ≡ Nothing → completed s (seen items) ≡ items
  read-is_completed_from s [] h end = refl
  read-is_completed_from s (Line n ∷ items) h end = seen-step s (Line n) (Line n) items (ap without_line h.0.answered) refl (read-is_completed_from (after_item s (Line n)) items h.1 end)
  read-is_completed_from s (Enlist base point ∷ items) h end = seen-step s (Enlist base point) (Enlist base point) items (enlisting s.owed h.0.expected) refl (read-is_completed_from (after_item s (Enlist base point)) items h.1 end)
  read-is_completed_from s (Publish xid notes ∷ items) h end =
      seen-step s (Publish xid notes) (Publish xid []) items (queueing notes s.owed h.0.expected) (ap (λ (ns : List Note). let i : Item = Publish xid ns in i) (queued notes s.owed h.0.expected))
      (read-is_completed_from (after_item s (Publish xid notes)) items h.1 end)
  read-is_completed_from s (QueueFull full notes ∷ items) h end =
      seen-step s (QueueFull full notes) (QueueFull full []) items (queueing notes s.owed h.0.expected) (ap (λ (ns : List Note). let i : Item = QueueFull full ns in i) (queued notes s.owed h.0.expected))
      (read-is_completed_from (after_item s (QueueFull full notes)) items h.1 end)
  read-is_completed_from s (Leave ∷ items) h end = seen-step s Leave Leave items (leaving s.owed h.0) refl (read-is_completed_from (after_item s Leave) items h.1 end)
  read-is_completed_from s (Reply done warning ∷ items) h end = seen-step s (Reply done warning) (Reply done warning) items (ap without_line h.0) refl (read-is_completed_from (after_item s (Reply done warning)) items h.1 end)
  read-is_completed_from s (Refuse refusal ∷ items) h end = seen-step s (Refuse refusal) (Refuse refusal) items (ap without_line h.0) refl (read-is_completed_from (after_item s (Refuse refusal)) items h.1 end)
  read-is_completed_from s (Channels [] ∷ items) h end =
      let t : State = after_item s (Channels []) in
      let rest : completed t (seen items) ≡ items = read-is_completed_from t items h.1 end in
      by t (seen items) rest
    where
      by : (t : State) (read : List Item) → completed (after_item s (Channels [])) read ≡ items → completed s read ≡ Channels [] ∷ items
      by t [] rest = absurd (rows-owe s [] s.owed h.0 (ap (λ (is : List Item). (fold after_item (after_item s (Channels [])) is).owed) rest ∙ end))
      by t (item ∷ read) rest =
          empty-step s item read (none-listed s.owed h.0) (rows-shown s [] s.owed h.0) ∙ ap (λ (is : List Item). let all : List Item = Channels [] ∷ is in all) rest
  read-is_completed_from s (Channels (name ∷ names) ∷ items) h end =
      seen-step s (Channels (name ∷ names)) (Channels (name ∷ names)) items (some-listed name names s.owed h.0) refl (read-is_completed_from (after_item s (Channels (name ∷ names))) items h.1 end)
  read-is_completed_from s (Used usage ∷ items) h end = seen-step s (Used usage) (Used usage) items (measuring s.owed h.0.expected) refl (read-is_completed_from (after_item s (Used usage)) items h.1 end)
  read-is_completed_from s (Raise value ∷ items) h end = seen-step s (Raise value) (Raise value) items (raising s.owed h.0.expected) refl (read-is_completed_from (after_item s (Raise value)) items h.1 end)
  read-is_completed_from s (Found value ∷ items) h end = seen-step s (Found value) (Found value) items (awaiting _ s.owed h.0) refl (read-is_completed_from (after_item s (Found value)) items h.1 end)
  read-is_completed_from s (TimedOut looks ∷ items) h end = seen-step s (TimedOut looks) (TimedOut looks) items (awaiting _ s.owed h.0.awaited) refl (read-is_completed_from (after_item s (TimedOut looks)) items h.1 end)
  read-is_completed_from s (Read from to got ∷ items) h end = seen-step s (Read from to got) (Read from to got) items (may-read s s.owed h.0.in_turn) refl (read-is_completed_from (after_item s (Read from to got)) items h.1 end)

-- the walk adds to what is seen of lawful items all that is not seen
pub read-is_completed : ReadIsCompleted
read-is_completed terms journal s items h end = read-is_completed_from terms journal s items h end
