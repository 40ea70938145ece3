-- What the walk collects is what the items show.
use Rattle.std.proofs.Common.{◌≡◌, ℕ, ◌+◌, max, Bool, true, false, ◌&&◌, if◌then◌else◌, is_some, is_none, List, [], ◌∷◌, ◌++◌, drop, fold, Option, None, Some, sym, ap, ◌∙◌, refl, subst, append_assoc, append-nil}
use Rattle.std.specs.Prelude.{All, Contains, flat_map}
use Rattle.std.specs.List.{list_any}
use Rattle.std.proofs.lemmas.List.Elements.{All-nil, All-cons, All-head, All-tail, All-append}
use Rattle.pgn_base.specs.declared.note.Note.{Note}
use Rattle.pgn_base.specs.declared.action.Action.{Action}
use Rattle.pgn_journal.specs.declared.tx.Tx.{Tx}
use Rattle.pgn_answers.specs.declared.block_state.BlockState.TheVariants.{Idle}
use Rattle.pgn_answers.specs.Savepoints.{Change, changes_of, live_names, surviving_actions, surviving_notes, firsts, is_listen}
use Rattle.pgn_answers.specs.Answers.{Outcome, Commits, Replies, Refuses, Silent, GivesChannels, GivesUsage, answer, next_state, list_after}
use Rattle.pgn_language.specs.declared.scenario.Act.{Act}
use Rattle.pgn_language.specs.declared.scenario.Act.TheVariants.{Run, Signal, Await, Quit}
use Rattle.pgn_language.specs.declared.scenario.ScriptLine.{ScriptLine}
use Rattle.pgn_model.specs.declared.item.Item.{Item}
use Rattle.pgn_model.specs.declared.item.Item.TheVariants.{Line, Enlist, Publish, QueueFull, Leave, Reply, Refuse, Channels, Used, Raise, Found, TimedOut, Read}
use Rattle.pgn_model.specs.Along.{Along}
use Rattle.pgn_model.specs.Walk.{Terms, State, Owed, Ending, Nothing, Enlisting, Queueing, Leaving, Answering, Listing, Measuring, Raising, Awaiting, Quitting, is_empty_set, leaving_or_answering, queueing_or_settled, committing, owing, at_act, at_line, at_enlist, at_publish, at_full, at_leave, at_rows, at_raise, at_found, holder_at, start, after_item, Allowed, IsNext, IsEnlisting, IsQueueing, IsListing, IsMeasuring, IsRaising, IsAwaiting}
use Rattle.pgn_reading.specs.Completed.{without_line, whole, stepped, completed}
use Rattle.pgn_reading.specs.Form.{lines_left}
use Rattle.pgn_reading.specs.Shown.{marks_shown, named_shown, flag_of, next_flag, flag_at, lines_behind, raised_from, found_shown}
use Rattle.pgn_reading.specs.ShownLaws.{MarksAreShown, NamedAreShown, RaisedAreShown, FoundAreShown, MarksAreRead, NamedAreRead, RaisedAreRead}

-- what the walk collects stays, and the rest of the script
record Keeps (s t : State) : Type 0 where
  rest : t.rest ≡ s.rest
  marks : t.marks ≡ s.marks
  raised : t.raised ≡ s.raised
  found : t.found ≡ s.found
  named : t.named ≡ s.named

keeps-owed : (s : State) (owed : Owed) → Keeps s (record s { owed = owed })
keeps-owed s owed = record { rest = refl; marks = refl; raised = refl; found = refl; named = refl }

keeps-either : (s x y : State) (b : Bool) → Keeps s x → Keeps s y → Keeps s (if b then x else y)
keeps-either s x y true h k = h
keeps-either s x y false h k = k

keeps-answering : (s : State) (ending : Ending) → Keeps s (leaving_or_answering s ending)
keeps-answering s ending = keeps-either s (record s { owed = Leaving ending }) (record s { owed = Answering ending }) (is_some s.mark && is_empty_set s.set) (keeps-owed s (Leaving ending)) (keeps-owed s (Answering ending))

keeps-set : (s : State) (set : List (List ℕ)) (ending : Ending) → Keeps s (leaving_or_answering (record s { set = set }) ending)
keeps-set s set ending = let h = keeps-answering (record s { set = set }) ending in record { rest = h.rest; marks = h.marks; raised = h.raised; found = h.found; named = h.named }

keeps-queueing : (s : State) (actions : List Action) (notes : List Note) (ending : Ending) → Keeps s (queueing_or_settled s actions notes ending)
keeps-queueing s actions [] ending = keeps-set s _ ending
keeps-queueing s actions (note ∷ notes) ending = keeps-owed s (Queueing actions (note ∷ notes) ending)

keeps-committing : (s : State) (changes : List Change) (ending : Ending) → Keeps s (committing s changes ending)
keeps-committing s changes ending =
    let actions : List Action = surviving_actions changes in
    let notes : List Note = firsts (surviving_notes changes) in
    keeps-either s (record s { owed = Enlisting actions notes ending }) (queueing_or_settled s actions notes ending) (list_any is_listen actions && is_none s.mark) (keeps-owed s (Enlisting actions notes ending)) (keeps-queueing s actions notes ending)

keeps-owing : (s : State) (changes : List Change) (outcome : Outcome) → Keeps s (owing s changes outcome)
keeps-owing s changes (Commits done) = keeps-committing s changes _
keeps-owing s changes (Replies done warning next) = keeps-owed s _
keeps-owing s changes (Refuses refusal next) = keeps-owed s _
keeps-owing s changes Silent = keeps-owed s s.owed
keeps-owing s changes (GivesChannels names) = keeps-owed s _
keeps-owing s changes GivesUsage = keeps-owed s _

keeps-act : (s : State) (act : Act) → Keeps s (at_act s act)
keeps-act s (Run c) =
    let outcome : Outcome = answer s.block (live_names s.changes) s.set c in
    let next : State = record s { block = next_state s.block outcome; changes = list_after s.changes c outcome } in
    let h = keeps-owing next (s.changes ++ changes_of c) outcome in
    record { rest = h.rest; marks = h.marks; raised = h.raised; found = h.found; named = h.named }
keeps-act s (Signal flag) = keeps-owed s (Raising flag)
keeps-act s (Await flag) = keeps-owed s (Awaiting flag)
keeps-act s Quit =
    let ended : State = record s { block = Idle; changes = []; set = [] } in
    let both = keeps-either ended (record ended { owed = Quitting }) ended (is_some s.mark) (keeps-owed ended Quitting) (keeps-owed ended s.owed) in
    record { rest = both.rest; marks = both.marks; raised = both.raised; found = both.found; named = both.named }

-- what an item adds to what the walk collects
record Adds (s : State) (item : Item) (t : State) : Type 0 where
  marks : t.marks ≡ s.marks ++ marks_shown item
  found : t.found ≡ s.found ++ found_shown s.owed item
  named : t.named ≡ s.named ++ named_shown item

-- a line that begins
keeps-line : (s : State) (lines : List ScriptLine) → Keeps (record s { rest = (at_line s lines).rest }) (at_line s lines)
keeps-line s [] = record { rest = refl; marks = refl; raised = refl; found = refl; named = refl }
keeps-line s (line ∷ lines) = let h = keeps-act (record s { rest = lines }) line.act in record { rest = refl; marks = h.marks; raised = h.raised; found = h.found; named = h.named }

keeps-enlist : (s : State) (owed : Owed) → Keeps s (at_enlist s owed)
keeps-enlist s (Enlisting actions notes ending) = keeps-queueing s actions notes ending
keeps-enlist s owed = keeps-owed s s.owed

keeps-publish : (s : State) (owed : Owed) → Keeps s (at_publish s owed)
keeps-publish s (Queueing actions notes ending) = keeps-set s _ ending
keeps-publish s owed = keeps-owed s s.owed

keeps-full : (s : State) (owed : Owed) → Keeps s (at_full s owed)
keeps-full s (Queueing actions notes ending) = keeps-answering s _
keeps-full s owed = keeps-owed s s.owed

keeps-leave : (s : State) (owed : Owed) → Keeps s (at_leave s owed)
keeps-leave s (Leaving ending) = keeps-owed s (Answering ending)
keeps-leave s owed = keeps-owed s Nothing

keeps-rows : (s : State) (owed : Owed) → Keeps s (at_rows s owed)
keeps-rows s (Listing names ending) = keeps-owed s (Answering ending)
keeps-rows s (Measuring ending) = keeps-owed s (Answering ending)
keeps-rows s owed = keeps-owed s s.owed

-- what an item that finds no flag adds
adds : (s t u : State) (item : Item) → Keeps t u → t.marks ≡ s.marks ++ marks_shown item → t.named ≡ s.named ++ named_shown item → t.found ≡ s.found → found_shown s.owed item ≡ [] → Adds s item u
adds s t u item h marks named found none = record {
  marks = h.marks ∙ marks;
  found = h.found ∙ found ∙ sym (append-nil s.found) ∙ ap (λ (xs : List (ℕ × ℕ)). s.found ++ xs) (sym none);
  named = h.named ∙ named;
}

-- no flag is found but by the item that finds one
abbrev pub finds_flag : Item → Bool
finds_flag (Found value) = true
finds_flag item = false

-- an item that finds no flag shows none as found
pub finds-none : (owed : Owed) (item : Item) → finds_flag item ≡ false → found_shown owed item ≡ []
finds-none (Awaiting flag) (Found value) h = absurd (let none : ⊥ = cc in none)
finds-none (Awaiting flag) item h = refl
finds-none owed item h = refl

item-adds : (s : State) (item : Item) → Adds s item (after_item s item)
item-adds s (Line n) = adds s (record s { rest = (at_line s s.rest).rest }) (at_line s s.rest) (Line n) (keeps-line s s.rest) (sym (append-nil s.marks)) (sym (append-nil s.named)) refl (finds-none s.owed (Line n) refl)
item-adds s (Enlist base point) =
    let t : State = record s { mark = Some point; told = max s.told point; marks = s.marks ++ base ∷ [] ++ point ∷ [] } in
    adds s t (at_enlist t s.owed) (Enlist base point) (keeps-enlist t s.owed) (append_assoc s.marks (base ∷ []) (point ∷ [])) (sym (append-nil s.named)) refl (finds-none s.owed (Enlist base point) refl)
item-adds s (Publish xid notes) =
    let t : State = record s { told = max s.told (xid + 1) } in
    adds s t (at_publish t s.owed) (Publish xid notes) (keeps-publish t s.owed) (sym (append-nil s.marks)) (sym (append-nil s.named)) refl (finds-none s.owed (Publish xid notes) refl)
item-adds s (QueueFull full notes) =
    let t : State = record s { told = max s.told (full.xid + 1); named = s.named ++ holder_at full.holder full.floor_mark } in
    adds s t (at_full t s.owed) (QueueFull full notes) (keeps-full t s.owed) (sym (append-nil s.marks)) refl refl (finds-none s.owed (QueueFull full notes) refl)
item-adds s Leave =
    let t : State = record s { mark = None } in
    adds s t (at_leave t s.owed) Leave (keeps-leave t s.owed) (sym (append-nil s.marks)) (sym (append-nil s.named)) refl (finds-none s.owed Leave refl)
item-adds s (Reply done warning) = adds s s (record s { owed = Nothing }) (Reply done warning) (keeps-owed s Nothing) (sym (append-nil s.marks)) (sym (append-nil s.named)) refl (finds-none s.owed (Reply done warning) refl)
item-adds s (Refuse refusal) = adds s s (record s { owed = Nothing }) (Refuse refusal) (keeps-owed s Nothing) (sym (append-nil s.marks)) (sym (append-nil s.named)) refl (finds-none s.owed (Refuse refusal) refl)
item-adds s (Channels names) = adds s s (at_rows s s.owed) (Channels names) (keeps-rows s s.owed) (sym (append-nil s.marks)) (sym (append-nil s.named)) refl (finds-none s.owed (Channels names) refl)
item-adds s (Used usage) =
    let t : State = record s { named = s.named ++ holder_at usage.holder usage.floor_mark } in
    adds s t (at_rows t s.owed) (Used usage) (keeps-rows t s.owed) (sym (append-nil s.marks)) refl refl (finds-none s.owed (Used usage) refl)
item-adds s (Raise value) = by s.owed
  where
    by : (owed : Owed) → Adds s (Raise value) (at_raise value s owed)
    by (Raising flag) = record { marks = sym (append-nil s.marks); found = sym (append-nil s.found) ∙ ap (λ (xs : List (ℕ × ℕ)). s.found ++ xs) (sym (finds-none s.owed (Raise value) refl)); named = sym (append-nil s.named) }
    by owed = record { marks = sym (append-nil s.marks); found = sym (append-nil s.found) ∙ ap (λ (xs : List (ℕ × ℕ)). s.found ++ xs) (sym (finds-none s.owed (Raise value) refl)); named = sym (append-nil s.named) }
item-adds s (Found value) = by s.owed refl
  where
    by : (owed : Owed) → s.owed ≡ owed → Adds s (Found value) (at_found value s owed)
    by (Awaiting flag) e = record { marks = sym (append-nil s.marks); found = ap (λ (o : Owed). s.found ++ found_shown o (Found value)) (sym e); named = sym (append-nil s.named) }
    by owed e = record { marks = sym (append-nil s.marks); found = sym (append-nil s.found) ∙ ap (λ (o : Owed). s.found ++ found_shown o (Found value)) (sym e); named = sym (append-nil s.named) }
item-adds s (TimedOut looks) = adds s s (record s { owed = Nothing }) (TimedOut looks) (keeps-owed s Nothing) (sym (append-nil s.marks)) (sym (append-nil s.named)) refl (finds-none s.owed (TimedOut looks) refl)
item-adds s (Read from to got) =
    let t : State = record s { mark = Some to; told = max s.told to; marks = s.marks ++ to ∷ [] } in
    adds s t t (Read from to got) (keeps-owed t t.owed) refl (sym (append-nil s.named)) refl (finds-none s.owed (Read from to got) refl)

-- the marks of a walk are those that its items show
pub marks-are_shown : MarksAreShown
marks-are_shown s [] = sym (append-nil s.marks)
marks-are_shown s (item ∷ items) =
    marks-are_shown (after_item s item) items ∙ ap (λ (xs : List ℕ). xs ++ flat_map marks_shown items) (item-adds s item).marks
    ∙ append_assoc s.marks (marks_shown item) (flat_map marks_shown items)

-- the holders of a walk are those that its items name
pub named-are_shown : NamedAreShown
named-are_shown s [] = sym (append-nil s.named)
named-are_shown s (item ∷ items) =
    named-are_shown (after_item s item) items ∙ ap (λ (xs : List (ℕ × ℕ)). xs ++ flat_map named_shown items) (item-adds s item).named
    ∙ append_assoc s.named (named_shown item) (flat_map named_shown items)

-- what holds of two lists together holds of each
pub all-parts : (P : ℕ × ℕ → Type 0) (xs ys : List (ℕ × ℕ)) → All P (xs ++ ys) → All P xs × All P ys
all-parts P [] ys h = (All-nil P, h)
all-parts P (x ∷ xs) ys h =
    let tail = all-parts P xs ys (All-tail P x (xs ++ ys) h) in
    (All-cons P x xs (All-head P x (xs ++ ys) h) tail.0, tail.1)

-- where all flags that a walk has found are among some, so are those of its items, and the other way round
pub found-are_shown : FoundAreShown
found-are_shown pairs s items = (to s items, from s items)
  where
    to : (s : State) (items : List Item) → All (Contains pairs) (fold after_item s items).found → All (Contains pairs) s.found × Along after_item (λ t item. All (Contains pairs) (found_shown t.owed item)) s items
    to s [] h = (h, tt)
    to s (item ∷ items) h =
        let rest = to (after_item s item) items h in
        let parts = all-parts (Contains pairs) s.found (found_shown s.owed item) (subst (λ (xs : List (ℕ × ℕ)). All (Contains pairs) xs) (item-adds s item).found rest.0) in
        (parts.0, (parts.1, rest.1))

    from : (s : State) (items : List Item) → All (Contains pairs) s.found × Along after_item (λ t item. All (Contains pairs) (found_shown t.owed item)) s items → All (Contains pairs) (fold after_item s items).found
    from s [] h = h.0
    from s (item ∷ items) h =
        from (after_item s item) items (subst (λ (xs : List (ℕ × ℕ)). All (Contains pairs) xs) (sym (item-adds s item).found) (All-append (Contains pairs) s.found (found_shown s.owed item) h.0 h.1.0), h.1.1)

-- The flags that are raised.

-- a flag that is to be raised is the current line's
FlagIs : Option ℕ → Owed → Type 0
FlagIs flag (Raising other) = flag ≡ Some other
FlagIs flag owed = Unit {0}

is_raising : Owed → Bool
is_raising (Raising flag) = true
is_raising owed = false

flag-none : (flag : Option ℕ) (owed : Owed) → is_raising owed ≡ false → FlagIs flag owed
unfolding FlagIs is_raising
flag-none flag (Raising other) h = absurd (let none : ⊥ = cc in none)
flag-none flag owed h = tt

calm-either : (x y : State) (b : Bool) → is_raising x.owed ≡ false → is_raising y.owed ≡ false → is_raising (if b then x else y).owed ≡ false
calm-either x y true h k = h
calm-either x y false h k = k

calm-answering : (s : State) (ending : Ending) → is_raising (leaving_or_answering s ending).owed ≡ false
unfolding is_raising
calm-answering s ending = calm-either (record s { owed = Leaving ending }) (record s { owed = Answering ending }) (is_some s.mark && is_empty_set s.set) refl refl

calm-queueing : (s : State) (actions : List Action) (notes : List Note) (ending : Ending) → is_raising (queueing_or_settled s actions notes ending).owed ≡ false
unfolding is_raising
calm-queueing s actions [] ending = calm-answering (record s { set = _ }) ending
calm-queueing s actions (note ∷ notes) ending = refl

calm-owing : (s : State) (changes : List Change) (outcome : Outcome) → is_raising s.owed ≡ false → is_raising (owing s changes outcome).owed ≡ false
unfolding is_raising
calm-owing s changes (Commits done) h =
    let actions : List Action = surviving_actions changes in
    let notes : List Note = firsts (surviving_notes changes) in
    calm-either (record s { owed = Enlisting actions notes _ }) (queueing_or_settled s actions notes _) (list_any is_listen actions && is_none s.mark) refl (calm-queueing s actions notes _)
calm-owing s changes (Replies done warning next) h = refl
calm-owing s changes (Refuses refusal next) h = refl
calm-owing s changes Silent h = h
calm-owing s changes (GivesChannels names) h = refl
calm-owing s changes GivesUsage h = refl

flag-act : (s : State) (act : Act) → is_raising s.owed ≡ false → FlagIs (flag_of act) (at_act s act).owed
unfolding is_raising FlagIs
flag-act s (Run c) h =
    let outcome : Outcome = answer s.block (live_names s.changes) s.set c in
    let next : State = record s { block = next_state s.block outcome; changes = list_after s.changes c outcome } in
    flag-none None (owing next (s.changes ++ changes_of c) outcome).owed (calm-owing next (s.changes ++ changes_of c) outcome h)
flag-act s (Signal flag) h = refl
flag-act s (Await flag) h = tt
flag-act s Quit h =
    let ended : State = record s { block = Idle; changes = []; set = [] } in
    flag-none None (if is_some s.mark then record ended { owed = Quitting } else ended).owed (calm-either (record ended { owed = Quitting }) ended (is_some s.mark) refl h)

-- an item that is no line and raises nothing
record Calm (s t : State) : Type 0 where
  rest : t.rest ≡ s.rest
  raised : t.raised ≡ s.raised
  calm : is_raising t.owed ≡ false

calm : (s t u : State) → Keeps t u → t.rest ≡ s.rest → t.raised ≡ s.raised → is_raising u.owed ≡ false → Calm s u
calm s t u h rest raised c = record { rest = h.rest ∙ rest; raised = h.raised ∙ raised; calm = c }

calm-enlist : (s : State) (owed : Owed) → IsEnlisting owed → is_raising (at_enlist s owed).owed ≡ false
calm-enlist s (Enlisting actions notes ending) h = calm-queueing s actions notes ending
calm-enlist s owed h = absurd h

calm-publish : (s : State) (notes : List Note) (owed : Owed) → IsQueueing notes owed → is_raising (at_publish s owed).owed ≡ false
calm-publish s notes (Queueing actions others ending) h = calm-answering (record s { set = _ }) ending
calm-publish s notes owed h = absurd h

calm-full : (s : State) (notes : List Note) (owed : Owed) → IsQueueing notes owed → is_raising (at_full s owed).owed ≡ false
calm-full s notes (Queueing actions others ending) h = calm-answering s _
calm-full s notes owed h = absurd h

calm-leave : (s : State) (owed : Owed) → is_raising (at_leave s owed).owed ≡ false
unfolding is_raising
calm-leave s (Leaving ending) = refl
calm-leave s owed = refl

calm-listing : (s : State) (names : List (List ℕ)) (owed : Owed) → IsListing names owed → is_raising (at_rows s owed).owed ≡ false
unfolding is_raising
calm-listing s names (Listing others ending) h = refl
calm-listing s names owed h = absurd h

calm-measuring : (s : State) (owed : Owed) → IsMeasuring owed → is_raising (at_rows s owed).owed ≡ false
unfolding is_raising
calm-measuring s (Measuring ending) h = refl
calm-measuring s owed h = absurd h

keeps-found : (value : ℕ) (s : State) (owed : Owed) → (at_found value s owed).rest ≡ s.rest
keeps-found value s (Awaiting flag) = refl
keeps-found value s owed = refl

calm-found : (value : ℕ) (s : State) (P : ℕ → Type 0) (owed : Owed) → IsAwaiting owed P → Calm s (at_found value s owed)
unfolding is_raising
calm-found value s P (Awaiting flag) h = record { rest = refl; raised = refl; calm = refl }
calm-found value s P owed h = absurd h

module _ (terms : Terms) (journal : List Tx) where
  -- what the flags are that are raised from a state on, where the current line has this flag
  abbrev Raises : Option ℕ → State → List Item → Type 0
  Raises flag s items = (fold after_item s items).raised ≡ s.raised ++ raised_from flag s.rest items

  raises-on : (flag : Option ℕ) (s t : State) (items : List Item) → Calm s t → Raises flag t items → (fold after_item t items).raised ≡ s.raised ++ raised_from flag s.rest items
  raises-on flag s t items h rest = rest ∙ ap (λ (xs : List (ℕ × ℕ)). xs ++ raised_from flag t.rest items) h.raised ∙ ap (λ (lines : List ScriptLine). s.raised ++ raised_from flag lines items) h.rest

  -- neither a line nor a flag that is raised nor a read
  is_plain : Item → Bool
  is_plain (Line n) = false
  is_plain (Raise value) = false
  is_plain (Read from to got) = false
  is_plain item = true

  plain-calm : (s : State) (item : Item) → is_plain item ≡ true → Allowed terms journal s item → Calm s (after_item s item)
  unfolding is_plain is_raising
  plain-calm s (Line n) e h = absurd (let none : ⊥ = cc in none)
  plain-calm s (Enlist base point) e h =
      let t : State = record s { mark = Some point; told = max s.told point; marks = s.marks ++ base ∷ [] ++ point ∷ [] } in
      calm s t (at_enlist t s.owed) (keeps-enlist t s.owed) refl refl (calm-enlist t s.owed h.expected)
  plain-calm s (Publish xid notes) e h =
      let t : State = record s { told = max s.told (xid + 1) } in
      calm s t (at_publish t s.owed) (keeps-publish t s.owed) refl refl (calm-publish t notes s.owed h.expected)
  plain-calm s (QueueFull full notes) e h =
      let t : State = record s { told = max s.told (full.xid + 1); named = s.named ++ holder_at full.holder full.floor_mark } in
      calm s t (at_full t s.owed) (keeps-full t s.owed) refl refl (calm-full t notes s.owed h.expected)
  plain-calm s Leave e h = let t : State = record s { mark = None } in calm s t (at_leave t s.owed) (keeps-leave t s.owed) refl refl (calm-leave t s.owed)
  plain-calm s (Reply done warning) e h = calm s s (record s { owed = Nothing }) (keeps-owed s Nothing) refl refl refl
  plain-calm s (Refuse refusal) e h = calm s s (record s { owed = Nothing }) (keeps-owed s Nothing) refl refl refl
  plain-calm s (Channels names) e h = calm s s (at_rows s s.owed) (keeps-rows s s.owed) refl refl (calm-listing s names s.owed h)
  plain-calm s (Used usage) e h =
      let t : State = record s { named = s.named ++ holder_at usage.holder usage.floor_mark } in
      calm s t (at_rows t s.owed) (keeps-rows t s.owed) refl refl (calm-measuring t s.owed h.expected)
  plain-calm s (Raise value) e h = absurd (let none : ⊥ = cc in none)
  plain-calm s (Found value) e h = calm-found value s _ s.owed h
  plain-calm s (TimedOut looks) e h = calm s s (record s { owed = Nothing }) (keeps-owed s Nothing) refl refl refl
  plain-calm s (Read from to got) e h = absurd (let none : ⊥ = cc in none)

  -- the state after a flag was raised
  raised-one : (value : ℕ) (flag : Option ℕ) (s : State) (owed : Owed) → FlagIs flag owed → IsRaising owed
      → ((at_raise value s owed).raised ≡ s.raised ++ flag_at flag value) × ((at_raise value s owed).rest ≡ s.rest) × (is_raising (at_raise value s owed).owed ≡ false)
  unfolding FlagIs is_raising
  raised-one value flag s (Raising other) f h = (ap (λ (o : Option ℕ). s.raised ++ flag_at o value) (sym f), refl, refl)
  raised-one value flag s owed f h = absurd h

  raised : (flag : Option ℕ) (s : State) (items : List Item) → FlagIs flag s.owed → Along after_item (Allowed terms journal) s items → Raises flag s items
  unfolding is_plain is_raising FlagIs
  raised flag s [] f h = sym (append-nil s.raised)
  raised flag s (Line n ∷ items) f h = by (λ other t g k. raised other t items g k) s.rest refl h.0.next
    where
      by : ((other : Option ℕ) (t : State) → FlagIs other t.owed → Along after_item (Allowed terms journal) t items → Raises other t items) → (lines : List ScriptLine) → s.rest ≡ lines → IsNext n lines → (fold after_item (after_item s (Line n)) items).raised ≡ s.raised ++ raised_from (next_flag s.rest) (lines_behind s.rest) items
      by later [] e next = absurd next
      by later (line ∷ lines) e next =
          let t : State = at_line s (line ∷ lines) in
          let there : at_line s s.rest ≡ t = ap (λ (ls : List ScriptLine). at_line s ls) e in
          let kept = keeps-act (record s { rest = lines }) line.act in
          let calm_before : is_raising s.owed ≡ false = ap is_raising h.0.answered in
          let after : Along after_item (Allowed terms journal) t items = subst (λ (u : State). Along after_item (Allowed terms journal) u items) there h.1 in
          ap (λ (u : State). (fold after_item u items).raised) there
          ∙ later (flag_of line.act) t (flag-act (record s { rest = lines }) line.act calm_before) after
          ∙ ap (λ (xs : List (ℕ × ℕ)). xs ++ raised_from (flag_of line.act) t.rest items) kept.raised
          ∙ ap (λ (ls : List ScriptLine). s.raised ++ raised_from (flag_of line.act) ls items) kept.rest
          ∙ ap (λ (ls : List ScriptLine). s.raised ++ raised_from (next_flag ls) (lines_behind ls) items) (sym e)
  raised flag s (Raise value ∷ items) f h =
      let t : State = after_item s (Raise value) in
      let one = raised-one value flag s s.owed f h.0.expected in
      raised flag t items (flag-none flag t.owed one.2) h.1
      ∙ ap (λ (xs : List (ℕ × ℕ)). xs ++ raised_from flag t.rest items) one.0
      ∙ append_assoc s.raised (flag_at flag value) (raised_from flag t.rest items)
      ∙ ap (λ (lines : List ScriptLine). s.raised ++ (flag_at flag value ++ raised_from flag lines items)) one.1
  raised flag s (Read from to got ∷ items) f h = raised flag (after_item s (Read from to got)) items f h.1
  raised flag s (item ∷ items) f h =
      let c = plain-calm s item refl h.0 in
      raises-on flag s (after_item s item) items c (raised flag (after_item s item) items (flag-none flag (after_item s item).owed c.calm) h.1)

-- the flags of a walk over lawful items are those of the script lines that raise them
pub raised-are_shown : RaisedAreShown
unfolding FlagIs
raised-are_shown terms journal items h = raised terms journal None (start terms.section) items tt h

-- The rest of the script.

line-rest : (s : State) (lines : List ScriptLine) → s.rest ≡ lines → (at_line s lines).rest ≡ drop 1 lines
line-rest s [] e = e
line-rest s (line ∷ lines) e = (keeps-act (record s { rest = lines }) line.act).rest

rest-raised : (value : ℕ) (s : State) (owed : Owed) → (at_raise value s owed).rest ≡ s.rest
rest-raised value s (Raising flag) = refl
rest-raised value s owed = refl

-- the script lines that an item leaves, told by those before it and the item alone
pub item-rest : (s : State) (item : Item) → (after_item s item).rest ≡ lines_left s.rest item
item-rest s (Line n) = line-rest s s.rest refl
item-rest s (Enlist base point) = (keeps-enlist (record s { mark = Some point; told = max s.told point; marks = s.marks ++ base ∷ [] ++ point ∷ [] }) s.owed).rest
item-rest s (Publish xid notes) = (keeps-publish (record s { told = max s.told (xid + 1) }) s.owed).rest
item-rest s (QueueFull full notes) = (keeps-full (record s { told = max s.told (full.xid + 1); named = s.named ++ holder_at full.holder full.floor_mark }) s.owed).rest
item-rest s Leave = (keeps-leave (record s { mark = None }) s.owed).rest
item-rest s (Reply done warning) = refl
item-rest s (Refuse refusal) = refl
item-rest s (Channels names) = (keeps-rows s s.owed).rest
item-rest s (Used usage) = (keeps-rows (record s { named = s.named ++ holder_at usage.holder usage.floor_mark }) s.owed).rest
item-rest s (Raise value) = rest-raised value s s.owed
item-rest s (Found value) = keeps-found value s s.owed
item-rest s (TimedOut looks) = refl
item-rest s (Read from to got) = refl

-- What was read and what the walk makes of it show the same.

shown-added : {A : Type 0} (shows : Item → List A) → shows (Channels []) ≡ [] → (owed : Owed) (rest : List Item) → flat_map shows (without_line owed ++ rest) ≡ flat_map shows rest
shown-added shows h (Listing [] ending) rest = ap (λ xs. xs ++ flat_map shows rest) h
shown-added shows h (Listing (name ∷ names) ending) rest = refl
shown-added shows h owed rest = refl

marks-whole : (s : State) (item : Item) → marks_shown (whole s item) ≡ marks_shown item
marks-whole s (Publish xid notes) = refl
marks-whole s (QueueFull full notes) = refl
marks-whole s item = refl

named-whole : (s : State) (item : Item) → named_shown (whole s item) ≡ named_shown item
named-whole s (Publish xid notes) = refl
named-whole s (QueueFull full notes) = refl
named-whole s item = refl

-- the walk adds no mark to items that were read
pub marks-are_read : MarksAreRead
marks-are_read s [] = refl
marks-are_read s (item ∷ items) =
    shown-added marks_shown refl s.owed (whole s item ∷ completed (stepped s item) items)
    ∙ ap (λ (xs : List ℕ). marks_shown (whole s item) ++ xs) (marks-are_read (stepped s item) items)
    ∙ ap (λ (xs : List ℕ). xs ++ flat_map marks_shown items) (marks-whole s item)

-- nor a holder
pub named-are_read : NamedAreRead
named-are_read s [] = refl
named-are_read s (item ∷ items) =
    shown-added named_shown refl s.owed (whole s item ∷ completed (stepped s item) items)
    ∙ ap (λ (xs : List (ℕ × ℕ)). named_shown (whole s item) ++ xs) (named-are_read (stepped s item) items)
    ∙ ap (λ (xs : List (ℕ × ℕ)). xs ++ flat_map named_shown items) (named-whole s item)

raised-added : (flag : Option ℕ) (lines : List ScriptLine) (owed : Owed) (rest : List Item) → raised_from flag lines (without_line owed ++ rest) ≡ raised_from flag lines rest
raised-added flag lines (Listing [] ending) rest = refl
raised-added flag lines (Listing (name ∷ names) ending) rest = refl
raised-added flag lines owed rest = refl

raised-read : (flag : Option ℕ) (lines : List ScriptLine) (s : State) (items : List Item) → raised_from flag lines (completed s items) ≡ raised_from flag lines items
raised-read flag lines s [] = refl
raised-read flag lines s (Line n ∷ items) =
    raised-added flag lines s.owed (whole s (Line n) ∷ completed (stepped s (Line n)) items) ∙ raised-read (next_flag lines) (lines_behind lines) (stepped s (Line n)) items
raised-read flag lines s (Raise value ∷ items) =
    raised-added flag lines s.owed (whole s (Raise value) ∷ completed (stepped s (Raise value)) items) ∙ ap (λ (xs : List (ℕ × ℕ)). flag_at flag value ++ xs) (raised-read flag lines (stepped s (Raise value)) items)
raised-read flag lines s (item ∷ items) = raised-added flag lines s.owed (whole s item ∷ completed (stepped s item) items) ∙ raised-read flag lines (stepped s item) items

-- nor a flag that is raised
pub raised-are_read : RaisedAreRead
raised-are_read section s items = raised-read None section.lines s items
