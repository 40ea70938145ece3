-- Of which kind an item is, as its first two bytes and the state before it tell.
use Rattle.std.proofs.Common.{◌≡◌, ℕ, ◌+◌, Bool, true, false, cond, nat_eq, List, [], ◌∷◌, ◌++◌, Option, None, Some, sym, ap, ◌∙◌, refl, subst, arith}
use Rattle.pgn_base.specs.declared.note.Note.{Note}
use Rattle.pgn_base.specs.declared.answers.Tag.TheVariants as tag
use Rattle.pgn_journal.specs.declared.tx.Tx.{Tx}
use Rattle.pgn_language.specs.declared.scenario.ScriptLine.{ScriptLine}
use Rattle.pgn_model.specs.declared.item.Item.{Item}
use Rattle.pgn_model.specs.declared.item.Item.TheVariants.{Line, Enlist, Publish, QueueFull, Leave, Reply, Refuse, Channels, Used, Raise, Found, TimedOut, Read}
use Rattle.pgn_model.specs.Walk.{Terms, State, Owed, Nothing, Enlisting, Queueing, Leaving, Listing, Measuring, Raising, Awaiting, Quitting, Allowed, IsNext, IsEnlisting, IsQueueing, IsLeaving, IsListing, IsMeasuring, IsRaising, IsAwaiting, MayRead}
use Rattle.pgn_model.specs.Trace.{IsEnd}
use Rattle.pgn_model.specs.Text.{joined, item_lines, end_line}
use Rattle.pgn_reading.proofs.LineLaws.{kind}

-- what the first two bytes tell: an event of the queue begins with a plus sign, and its second byte tells which
abbrev sign : List ℕ → ℕ
sign [] = 0
sign (b ∷ []) = 0
sign (b ∷ c ∷ bytes) = cond (nat_eq b 43) (1000 + c) (cond (nat_eq b 62) 62 (cond (nat_eq b 69) 69 0))

abbrev is_channels : Item → Bool
is_channels (Channels names) = true
is_channels item = false

-- the lines of an item tell its kind, but for the rows of channels, of which there may be none
sign-tells : (lines : List ScriptLine) (item : Item) (rest : List ℕ) → is_channels item ≡ false → sign (joined (item_lines lines item) ++ rest) ≡ kind item
sign-tells lines (Line n) rest h = refl
sign-tells lines (Enlist base point) rest h = refl
sign-tells lines (Publish xid notes) rest h = refl
sign-tells lines (QueueFull full notes) rest h = refl
sign-tells lines Leave rest h = refl
sign-tells lines (Reply tag.Begin None) rest h = refl
sign-tells lines (Reply tag.Start None) rest h = refl
sign-tells lines (Reply tag.Commit None) rest h = refl
sign-tells lines (Reply tag.Rollback None) rest h = refl
sign-tells lines (Reply tag.Savepoint None) rest h = refl
sign-tells lines (Reply tag.Release None) rest h = refl
sign-tells lines (Reply tag.Listen None) rest h = refl
sign-tells lines (Reply tag.Unlisten None) rest h = refl
sign-tells lines (Reply tag.Notify None) rest h = refl
sign-tells lines (Reply (tag.Select rows) None) rest h = refl
sign-tells lines (Reply done (Some warning)) rest h = refl
sign-tells lines (Refuse refusal) rest h = refl
sign-tells lines (Channels names) rest h = absurd (let none : ⊥ = cc in none)
sign-tells lines (Used usage) rest h = refl
sign-tells lines (Raise value) rest h = refl
sign-tells lines (Found value) rest h = refl
sign-tells lines (TimedOut looks) rest h = refl
sign-tells lines (Read from to got) rest h = refl

-- the rows of channels come next
abbrev listed : Owed → Bool
listed (Listing names ending) = true
listed owed = false

enlisting : (owed : Owed) → IsEnlisting owed → listed owed ≡ false
enlisting (Enlisting actions notes ending) h = refl
enlisting owed h = absurd h

queueing : (notes : List Note) (owed : Owed) → IsQueueing notes owed → listed owed ≡ false
queueing notes (Queueing actions others ending) h = refl
queueing notes owed h = absurd h

leaving : (owed : Owed) → IsLeaving owed → listed owed ≡ false
leaving (Leaving ending) h = refl
leaving Quitting h = refl
leaving owed h = absurd h

listing : (names : List (List ℕ)) (owed : Owed) → IsListing names owed → listed owed ≡ true
listing names (Listing others ending) h = refl
listing names owed h = absurd h

measuring : (owed : Owed) → IsMeasuring owed → listed owed ≡ false
measuring (Measuring ending) h = refl
measuring owed h = absurd h

raising : (owed : Owed) → IsRaising owed → listed owed ≡ false
raising (Raising flag) h = refl
raising owed h = absurd h

awaiting : (P : ℕ → Type 0) (owed : Owed) → IsAwaiting owed P → listed owed ≡ false
awaiting P (Awaiting flag) h = refl
awaiting P owed h = absurd h

reading : (s : State) (owed : Owed) → MayRead s owed → listed owed ≡ false
reading s Nothing h = refl
reading s (Awaiting flag) h = refl
reading s owed h = absurd h

-- where they come next nothing else is allowed, and they are allowed nowhere else
channels-listed : (terms : Terms) (journal : List Tx) (s : State) (item : Item) → Allowed terms journal s item → listed s.owed ≡ is_channels item
channels-listed terms journal s (Line n) h = ap listed h.answered
channels-listed terms journal s (Enlist base point) h = enlisting s.owed h.expected
channels-listed terms journal s (Publish xid notes) h = queueing notes s.owed h.expected
channels-listed terms journal s (QueueFull full notes) h = queueing notes s.owed h.expected
channels-listed terms journal s Leave h = leaving s.owed h
channels-listed terms journal s (Reply done warning) h = ap listed h
channels-listed terms journal s (Refuse refusal) h = ap listed h
channels-listed terms journal s (Channels names) h = listing names s.owed h
channels-listed terms journal s (Used usage) h = measuring s.owed h.expected
channels-listed terms journal s (Raise value) h = raising s.owed h.expected
channels-listed terms journal s (Found value) h = awaiting _ s.owed h
channels-listed terms journal s (TimedOut looks) h = awaiting _ s.owed h.awaited
channels-listed terms journal s (Read from to got) h = reading s s.owed h.in_turn

channels-kind : (item : Item) → is_channels item ≡ true → kind item ≡ 1
channels-kind (Channels names) h = refl
channels-kind item h = absurd (let none : ⊥ = cc in none)

-- two items that are allowed in a state, with the same lines, whatever follows them, are of one kind
pub same-kind : (terms : Terms) (journal : List Tx) (lines : List ScriptLine) (s : State) (item other : Item) (rest more : List ℕ) → Allowed terms journal s item → Allowed terms journal s other
    → joined (item_lines lines item) ++ rest ≡ joined (item_lines lines other) ++ more → kind item ≡ kind other
same-kind terms journal lines s item other rest more h k e = by (listed s.owed) refl
  where
    by : (b : Bool) → listed s.owed ≡ b → kind item ≡ kind other
    by true is = channels-kind item (sym (channels-listed terms journal s item h) ∙ is) ∙ sym (channels-kind other (sym (channels-listed terms journal s other k) ∙ is))
    by false is =
        sym (sign-tells lines item rest (sym (channels-listed terms journal s item h) ∙ is)) ∙ ap sign e
        ∙ sign-tells lines other more (sym (channels-listed terms journal s other k) ∙ is)

never-awaiting : (P : ℕ → Type 0) (owed : Owed) → owed ≡ Nothing → IsAwaiting owed P → ⊥
never-awaiting P (Awaiting flag) e h = let none : ⊥ = cc in none
never-awaiting P owed e h = h

-- where the script is done, and its last line has its whole answer, nothing but a read is allowed
pub at-end : (terms : Terms) (journal : List Tx) (s : State) (item : Item) → s.owed ≡ Nothing → s.rest ≡ [] → Allowed terms journal s item → kind item ≡ 1114
at-end terms journal s (Line n) e done h = absurd (subst (IsNext n) done h.next)
at-end terms journal s (Enlist base point) e done h = absurd (subst IsEnlisting e h.expected)
at-end terms journal s (Publish xid notes) e done h = absurd (subst (IsQueueing notes) e h.expected)
at-end terms journal s (QueueFull full notes) e done h = absurd (subst (IsQueueing notes) e h.expected)
at-end terms journal s Leave e done h = absurd (subst IsLeaving e h)
at-end terms journal s (Reply done_tag warning) e done h = absurd (let none : ⊥ = cc in none)
at-end terms journal s (Refuse refusal) e done h = absurd (let none : ⊥ = cc in none)
at-end terms journal s (Channels names) e done h = absurd (subst (IsListing names) e h)
at-end terms journal s (Used usage) e done h = absurd (subst IsMeasuring e h.expected)
at-end terms journal s (Raise value) e done h = absurd (subst IsRaising e h.expected)
at-end terms journal s (Found value) e done h = absurd (never-awaiting _ s.owed e h)
at-end terms journal s (TimedOut looks) e done h = absurd (never-awaiting _ s.owed e h.awaited)
at-end terms journal s (Read from to got) e done h = refl

-- the last line of a trace, and what follows it
abbrev pub ended : Option ℕ → List ℕ → List ℕ
ended last rest = end_line last ++ 10 ∷ rest

ended-sign : (last : Option ℕ) (rest : List ℕ) → sign (ended last rest) ≡ 0
ended-sign None rest = refl
ended-sign (Some mark) rest = refl

-- the last line of a trace is that of no item that is allowed there
pub not-ended : (terms : Terms) (journal : List Tx) (lines : List ScriptLine) (s : State) (item : Item) (mark last : Option ℕ) (rest more : List ℕ) → IsEnd s mark → Allowed terms journal s item
    → joined (item_lines lines item) ++ rest ≡ ended last more → ⊥
not-ended terms journal lines s item mark last rest more end h e =
    let none : is_channels item ≡ false = sym (channels-listed terms journal s item h) ∙ ap listed end.answered in
    let read : kind item ≡ 1114 = at-end terms journal s item end.answered end.done h in
    let same : kind item ≡ 0 = sym (sign-tells lines item rest none) ∙ ap sign e ∙ ended-sign last more in
    omega (arith, read, same)
