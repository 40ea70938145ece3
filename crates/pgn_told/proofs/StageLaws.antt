-- Two traces with the same messages, item by item, within the line of a query.
use Rattle.std.proofs.Common.{◌≡◌, ℕ, ◌+◌, false, List, [], ◌∷◌, ◌++◌, fold, Option, Some, None, inl, inr, sym, ap, ◌∙◌, refl, subst, get_or, codes, arith, append_assoc}
use Rattle.std.specs.Prelude.{All, flat_map, max}
use Rattle.std.proofs.lemmas.List.{append_cancel_left}
use Rattle.std.proofs.lemmas.List.Elements.{All-head, All-tail}
use Rattle.pgn_base.specs.declared.note.Note.{Note}
use Rattle.pgn_base.specs.declared.command.Command.{Command}
use Rattle.pgn_base.specs.declared.command.Command.TheVariants as command
use Rattle.pgn_base.specs.declared.answers.Tag.{Tag}
use Rattle.pgn_base.specs.declared.answers.Refusal.TheVariants as refused
use Rattle.pgn_base.specs.declared.action.Action.{Action}
use Rattle.pgn_base.specs.declared.queue_answers.Full.{Full}
use Rattle.pgn_base.specs.declared.queue_answers.Usage.{Usage}
use Rattle.pgn_base.specs.Channels.{applied}
use Rattle.pgn_journal.specs.declared.tx.Tx.{Tx}
use Rattle.pgn_journal.specs.declared.tx.Fate.{Fate}
use Rattle.pgn_journal.specs.declared.tx.Fate.TheVariants.{Committed, Aborted}
use Rattle.pgn_language.specs.declared.scenario.ScriptLine.{ScriptLine}
use Rattle.pgn_model.specs.declared.item.Item.{Item}
use Rattle.pgn_model.specs.declared.item.Item.TheVariants.{Enlist, Publish, QueueFull, Leave, Reply, Refuse, Channels, Used}
use Rattle.pgn_model.specs.Along.{Along}
use Rattle.pgn_model.specs.Walk.{Allowed, Ending, Replied, Refused, Owed, Nothing, Enlisting, Queueing, Leaving, Answering, Listing, Measuring, State, Terms, after_item, at_enlist, at_publish, at_full, at_leave, at_rows, holder_at}
use Rattle.pgn_model.specs.Trace.{IsEnd}
use Rattle.pgn_messages.specs.Server.{columns, complete, row, share}
use Rattle.pgn_messages.specs.Messages.{current_command, item_messages, messages_from, rows_of}
use Rattle.pgn_messages.specs.Laws.{begins_line}
use Rattle.pgn_messages.proofs.GrowLaws.{within}
use Rattle.pgn_messages.proofs.RestLaws.{rest-kept}
use Rattle.pgn_told.specs.Told.{Seen, seen, seen_of}
use Rattle.pgn_told.proofs.ByteLaws.{usage-ends}
use Rattle.pgn_told.proofs.FitLaws.{Fits, Ends, IsCommit, IsOwed, IsReplied, answer_item, fits, leaving-ends, queueing-commits}
use Rattle.pgn_told.proofs.KnownLaws.{IsKnown}
use Rattle.pgn_told.proofs.PlainLaws.{answer-like, channels-like, enlist-like, full-like, leave-like, owed-like, plain, publish-like, usage-like}

-- how a transaction ended, and what it sent
abbrev pub sent_of : Item → List (Fate × List Note)
sent_of (Publish xid notes) = (Committed, notes) ∷ []
sent_of (QueueFull full notes) = (Aborted, notes) ∷ []
sent_of item = []

-- what the items show as finished: how each ended, and its notifications
abbrev pub sent : List Item → List (Fate × List Note)
sent items = flat_map sent_of items

-- the client saw the same of both, and both sent the same
pub record AreAlike (items others : List Item) : Type 0 where
  pub seen_same : seen items ≡ seen others
  pub sent_same : sent items ≡ sent others

-- an item more of each, of which the client sees the same
pub more-alike : (i j : Item) (items others : List Item) → seen_of i ≡ seen_of j → sent_of i ≡ sent_of j → AreAlike items others → AreAlike (i ∷ items) (j ∷ others)
more-alike i j items others e f h = record {
  seen_same = ap (λ (s : List Seen). s ++ seen items) e ∙ ap (λ (s : List Seen). seen_of j ++ s) h.seen_same;
  sent_same = ap (λ (s : List (Fate × List Note)). s ++ sent items) f ∙ ap (λ (s : List (Fate × List Note)). sent_of j ++ s) h.sent_same;
}

-- items that go on from a state to a trace's end, with what is known of each
pub record Goes (terms : Terms) (journal : List Tx) (s : State) (items : List Item) : Type 0 where
  pub lawful : Along after_item (Allowed terms journal) s items
  pub last : Option ℕ
  pub ended : IsEnd (fold after_item s items) last
  pub known : All (IsKnown terms) items

-- a walk goes on behind each of its items
pub goes-on : (terms : Terms) (journal : List Tx) (s : State) (item : Item) (items : List Item) → Goes terms journal s (item ∷ items) → Goes terms journal (after_item s item) items
goes-on terms journal s item items h = record { lawful = h.lawful.1; last = h.last; ended = h.ended; known = All-tail (IsKnown terms) item items h.known }

-- two items for two that are the same
pub at-items : (P : Item → Item → Type 0) (x y i j : Item) → x ≡ i → y ≡ j → P i j → P x y
at-items P x y i j e f h = subst (λ (k : Item). P k y) (sym e) (subst (λ (k : Item). P i k) (sym f) h)

module _ (terms : Terms) (journal other : List Tx) where
  -- from states that are the same but for their numbers, with this owed and these lines to come, in this line: items with the same messages
  -- are alike
  abbrev pub Tells : List ScriptLine → Option Command → Owed → Type 0
  Tells lines current owed = (s t : State) (xs ys : List Item) → s.rest ≡ lines → s.owed ≡ owed → plain s ≡ plain t → Goes terms journal s xs → Goes terms other t ys
      → messages_from s current xs ≡ messages_from t current ys → AreAlike xs ys

  abbrev Pair : Command → State → State → List Item → List Item → Item → Item → Type 0
  Pair c s t xs ys i j = Goes terms journal s (i ∷ xs) → Goes terms other t (j ∷ ys) → messages_from s (Some c) (i ∷ xs) ≡ messages_from t (Some c) (j ∷ ys) → AreAlike (i ∷ xs) (j ∷ ys)

  -- the messages of an item in a query's line come first
  first-messages : (c : Command) (s : State) (i : Item) (items : List Item) → begins_line i ≡ false → messages_from s (Some c) (i ∷ items) ≡ item_messages c i ++ messages_from (after_item s i) (Some c) items
  first-messages c s i items h =
      let here = within s (Some c) i h in
      ap (λ (t : List ℕ). t ++ messages_from (after_item s i) (current_command s (Some c) i) items) here.0 ∙ ap (λ (d : Option Command). item_messages c i ++ messages_from (after_item s i) d items) here.1

  -- an item of each, with the same messages
  onward : (c : Command) (lines : List ScriptLine) (s t : State) (xs ys : List Item) (i j : Item) (owed : Owed) → begins_line i ≡ false → begins_line j ≡ false → item_messages c i ≡ item_messages c j → seen_of i ≡ seen_of j → sent_of i ≡ sent_of j
      → s.rest ≡ lines → plain (after_item s i) ≡ plain (after_item t j) → (after_item s i).owed ≡ owed → Tells lines (Some c) owed → Pair c s t xs ys i j
  onward c lines s t xs ys i j owed hi hj same saw did rest like owes next g h e =
      let behind : List ℕ = messages_from (after_item s i) (Some c) xs in
      let behind' : List ℕ = messages_from (after_item t j) (Some c) ys in
      let both : item_messages c i ++ behind ≡ item_messages c i ++ behind' =
      sym (first-messages c s i xs hi) ∙ e ∙ first-messages c t j ys hj ∙ ap (λ (m : List ℕ). m ++ behind') (sym same) in
      more-alike i j xs ys saw did
      (next (after_item s i) (after_item t j) xs ys (rest-kept s i hi ∙ rest) owes like (goes-on terms journal s i xs g) (goes-on terms other t j ys h) (append_cancel_left (item_messages c i) behind behind' both))

  -- where something is owed, something is to come
  unfinished : (line : List Tx) (s : State) (owed : Owed) → s.owed ≡ owed → (Nothing ≡ owed → ⊥) → Goes terms line s [] → ⊥
  unfinished line s owed e apart h = apart (sym h.ended.answered ∙ e)

  -- The answer.
  answering : (c : Command) (lines : List ScriptLine) → Tells lines (Some c) Nothing → (ending : Ending) → Tells lines (Some c) (Answering ending)
  answering c lines next ending s t [] ys rest owed like g h e = absurd (unfinished journal s (Answering ending) owed (λ no. cc) g)
  answering c lines next ending s t (x ∷ xs) [] rest owed like g h e = absurd (unfinished other t (Answering ending) (owed-like s t like ∙ owed) (λ no. cc) h)
  answering c lines next ending s t (x ∷ xs) (y ∷ ys) rest owed like g h e =
      let i : Item = answer_item ending in
      let fx : x ≡ i = subst (λ (o : Owed). Fits o x) owed (fits terms journal s x g.lawful.0) in
      let fy : y ≡ i = subst (λ (o : Owed). Fits o y) (owed-like s t like ∙ owed) (fits terms other t y h.lawful.0) in
      at-items (Pair c s t xs ys) x y i i fx fy (by ending) g h e
    where
      by : (ending : Ending) → Pair c s t xs ys (answer_item ending) (answer_item ending)
      by (Replied tag warning) = onward c lines s t xs ys (Reply tag warning) (Reply tag warning) Nothing refl refl refl refl refl rest (answer-like s t like) refl next
      by (Refused refusal) = onward c lines s t xs ys (Refuse refusal) (Refuse refusal) Nothing refl refl refl refl refl rest (answer-like s t like) refl next

  -- A session that leaves.
  leaving : (c : Command) (lines : List ScriptLine) → Tells lines (Some c) Nothing → (ending : Ending) → Tells lines (Some c) (Leaving ending)
  leaving c lines next ending s t [] ys rest owed like g h e = absurd (unfinished journal s (Leaving ending) owed (λ no. cc) g)
  leaving c lines next ending s t (x ∷ xs) [] rest owed like g h e = absurd (unfinished other t (Leaving ending) (owed-like s t like ∙ owed) (λ no. cc) h)
  leaving c lines next ending s t (x ∷ xs) (y ∷ ys) rest owed like g h e =
      let fx : x ≡ Leave = subst (λ (o : Owed). Fits o x) owed (fits terms journal s x g.lawful.0) in
      let fy : y ≡ Leave = subst (λ (o : Owed). Fits o y) (owed-like s t like ∙ owed) (fits terms other t y h.lawful.0) in
      let before : State = record s { mark = None } in
      at-items (Pair c s t xs ys) x y Leave Leave fx fy
      (onward c lines s t xs ys Leave Leave (Answering ending) refl refl refl refl refl rest (leave-like s t like ending owed) (ap (λ (o : Owed). (at_leave before o).owed) owed) (answering c lines next ending)) g h e

  -- Where a commit ends, its answer comes first.

  first-answer : (line : List Tx) (c : Command) (s : State) (xs : List Item) (ending : Ending) → s.owed ≡ Answering ending → Goes terms line s xs
      → (behind : List ℕ) × (messages_from s (Some c) xs ≡ item_messages c (answer_item ending) ++ behind)
  first-answer line c s [] ending owed h = absurd (unfinished line s (Answering ending) owed (λ no. cc) h)
  first-answer line c s (x ∷ xs) ending owed h =
      let fx : x ≡ answer_item ending = subst (λ (o : Owed). Fits o x) owed (fits terms line s x h.lawful.0) in
      let i : Item = answer_item ending in
      (messages_from (after_item s i) (Some c) xs, ap (λ (j : Item). messages_from s (Some c) (j ∷ xs)) fx ∙ first-messages c s i xs (no-line ending))
    where
      no-line : (ending : Ending) → begins_line (answer_item ending) ≡ false
      no-line (Replied tag warning) = refl
      no-line (Refused refusal) = refl

  answer-comes : (line : List Tx) (c : Command) (s : State) (xs : List Item) (ending : Ending) (owed : Owed) → s.owed ≡ owed → Ends ending owed → Goes terms line s xs
      → (behind : List ℕ) × (messages_from s (Some c) xs ≡ item_messages c (answer_item ending) ++ behind)
  answer-comes line c s [] ending (Leaving e) owed ends h = absurd (unfinished line s (Leaving e) owed (λ no. cc) h)
  answer-comes line c s (x ∷ xs) ending (Leaving e) owed ends h =
      let fx : x ≡ Leave = subst (λ (o : Owed). Fits o x) owed (fits terms line s x h.lawful.0) in
      let left : Goes terms line s (Leave ∷ xs) = subst (λ (i : Item). Goes terms line s (i ∷ xs)) fx h in
      let before : State = record s { mark = None } in
      let later = first-answer line c (after_item s Leave) xs ending (ap (λ (o : Owed). (at_leave before o).owed) owed ∙ ap (λ (k : Ending). Answering k) ends) (goes-on terms line s Leave xs left) in
      (later.0, ap (λ (j : Item). messages_from s (Some c) (j ∷ xs)) fx ∙ later.1)
  answer-comes line c s xs ending (Answering e) owed ends h = first-answer line c s xs ending (owed ∙ ap (λ (k : Ending). Answering k) ends) h
  answer-comes line c s xs ending owe owed ends h = absurd ends

  published-ends : (s : State) (actions : List Action) (notes : List Note) (ending : Ending) (x : ℕ) → s.owed ≡ Queueing actions notes ending → Ends ending (after_item s (Publish x notes)).owed
  published-ends s actions notes ending x owed =
      let before : State = record s { told = max s.told (x + 1) } in
      subst (λ (o : Owed). Ends ending (at_publish before o).owed) (sym owed) (leaving-ends (record before { set = applied s.set actions }) ending)

  full-ends : (s : State) (actions : List Action) (notes : List Note) (ending : Ending) (full : Full) → s.owed ≡ Queueing actions notes ending → Ends (Refused refused.QueueFull) (after_item s (QueueFull full notes)).owed
  full-ends s actions notes ending full owed =
      let before : State = record s { told = max s.told (full.xid + 1); named = s.named ++ holder_at full.holder full.floor_mark } in
      subst (λ (o : Owed). Ends (Refused refused.QueueFull) (at_full before o).owed) (sym owed) (leaving-ends before (Refused refused.QueueFull))

  -- no answer of a command that was carried out begins as a refusal
  rows-apart : (c : Command) (tag : Tag) (rest : List ℕ) → get_or ((rows_of c ++ complete tag) ++ rest) 0 0 ≡ 69 → ⊥
  rows-apart (command.PgNotify note) tag rest e = omega (arith, e)
  rows-apart c tag rest e = omega (arith, e)

  replied-apart : (c : Command) (ending : Ending) → IsReplied ending → (behind behind' : List ℕ) → item_messages c (answer_item ending) ++ behind ≡ item_messages c (Refuse refused.QueueFull) ++ behind' → ⊥
  replied-apart c (Replied tag None) h behind behind' e = rows-apart c tag behind (ap (λ (bytes : List ℕ). get_or bytes 0 0) e)
  replied-apart c (Replied tag (Some warning)) h behind behind' e = let apart : 78 ≡ 69 = ap (λ (bytes : List ℕ). get_or bytes 0 0) e in omega (arith, apart)
  replied-apart c (Refused refusal) h behind behind' e = absurd h

  -- The end of a commit.
  ending-tells : (c : Command) (lines : List ScriptLine) → Tells lines (Some c) Nothing → (ending : Ending) (owed : Owed) → Ends ending owed → Tells lines (Some c) owed
  ending-tells c lines next ending (Leaving e) h = leaving c lines next e
  ending-tells c lines next ending (Answering e) h = answering c lines next e
  ending-tells c lines next ending owed h = absurd h

  -- The notifications of a commit: they were published, or met a full queue.
  module _ (c : Command) (lines : List ScriptLine) (next : Tells lines (Some c) Nothing) (actions : List Action) (notes : List Note) (ending : Ending) (replied : IsReplied ending)
      (s t : State) (xs ys : List Item) (rest : s.rest ≡ lines) (owed : s.owed ≡ Queueing actions notes ending) (like : plain s ≡ plain t) where
    both-published : (x x' : ℕ) → Pair c s t xs ys (Publish x notes) (Publish x' notes)
    both-published x x' =
        let after : State = after_item s (Publish x notes) in
        onward c lines s t xs ys (Publish x notes) (Publish x' notes) after.owed refl refl refl refl refl rest (publish-like s t like actions notes ending x x' notes notes owed) refl
        (ending-tells c lines next ending after.owed (published-ends s actions notes ending x owed))

    both-full : (full full' : Full) → Pair c s t xs ys (QueueFull full notes) (QueueFull full' notes)
    both-full full full' =
        let after : State = after_item s (QueueFull full notes) in
        onward c lines s t xs ys (QueueFull full notes) (QueueFull full' notes) after.owed refl refl refl refl refl rest (full-like s t like actions notes ending full full' notes notes owed) refl
        (ending-tells c lines next (Refused refused.QueueFull) after.owed (full-ends s actions notes ending full owed))

    owed_too : t.owed ≡ Queueing actions notes ending
    owed_too = owed-like s t like ∙ owed

    one-full : (x : ℕ) (full : Full) → Pair c s t xs ys (Publish x notes) (QueueFull full notes)
    one-full x full g h e =
        let one = answer-comes journal c (after_item s (Publish x notes)) xs ending (after_item s (Publish x notes)).owed refl (published-ends s actions notes ending x owed) (goes-on terms journal s (Publish x notes) xs g) in
        let two = answer-comes other c (after_item t (QueueFull full notes)) ys (Refused refused.QueueFull) (after_item t (QueueFull full notes)).owed refl (full-ends t actions notes ending full owed_too) (goes-on terms other t (QueueFull full notes) ys h) in
        absurd (replied-apart c ending replied one.0 two.0 (sym one.1 ∙ e ∙ two.1))

    one-published : (x : ℕ) (full : Full) → Pair c s t xs ys (QueueFull full notes) (Publish x notes)
    one-published x full g h e =
        let one = answer-comes journal c (after_item s (QueueFull full notes)) xs (Refused refused.QueueFull) (after_item s (QueueFull full notes)).owed refl (full-ends s actions notes ending full owed) (goes-on terms journal s (QueueFull full notes) xs g) in
        let two = answer-comes other c (after_item t (Publish x notes)) ys ending (after_item t (Publish x notes)).owed refl (published-ends t actions notes ending x owed_too) (goes-on terms other t (Publish x notes) ys h) in
        absurd (replied-apart c ending replied two.0 one.0 (sym two.1 ∙ sym e ∙ one.1))

    queued-pair : (x y : Item) → Fits (Queueing actions notes ending) x → Fits (Queueing actions notes ending) y → Pair c s t xs ys x y
    queued-pair x y (inl (n, e)) (inl (m, f)) = at-items (Pair c s t xs ys) x y (Publish n notes) (Publish m notes) e f (both-published n m)
    queued-pair x y (inl (n, e)) (inr (full, f)) = at-items (Pair c s t xs ys) x y (Publish n notes) (QueueFull full notes) e f (one-full n full)
    queued-pair x y (inr (full, e)) (inl (m, f)) = at-items (Pair c s t xs ys) x y (QueueFull full notes) (Publish m notes) e f (one-published m full)
    queued-pair x y (inr (full, e)) (inr (full', f)) = at-items (Pair c s t xs ys) x y (QueueFull full notes) (QueueFull full' notes) e f (both-full full full')

  queueing : (c : Command) (lines : List ScriptLine) → Tells lines (Some c) Nothing → (actions : List Action) (notes : List Note) (ending : Ending) → IsReplied ending → Tells lines (Some c) (Queueing actions notes ending)
  queueing c lines next actions notes ending replied s t [] ys rest owed like g h e = absurd (unfinished journal s (Queueing actions notes ending) owed (λ no. cc) g)
  queueing c lines next actions notes ending replied s t (x ∷ xs) [] rest owed like g h e = absurd (unfinished other t (Queueing actions notes ending) (owed-like s t like ∙ owed) (λ no. cc) h)
  queueing c lines next actions notes ending replied s t (x ∷ xs) (y ∷ ys) rest owed like g h e =
      queued-pair c lines next actions notes ending replied s t xs ys rest owed like x y (subst (λ (o : Owed). Fits o x) owed (fits terms journal s x g.lawful.0))
      (subst (λ (o : Owed). Fits o y) (owed-like s t like ∙ owed) (fits terms other t y h.lawful.0)) g h e

  -- A commit of a session that is a listener, if it is to be one.
  commit-tells : (c : Command) (lines : List ScriptLine) → Tells lines (Some c) Nothing → (owed : Owed) → IsCommit owed → Tells lines (Some c) owed
  commit-tells c lines next (Queueing actions notes ending) h = queueing c lines next actions notes ending h
  commit-tells c lines next (Leaving ending) h = leaving c lines next ending
  commit-tells c lines next (Answering ending) h = answering c lines next ending
  commit-tells c lines next owed h = absurd h

  -- One that becomes a listener.
  enlisting : (c : Command) (lines : List ScriptLine) → Tells lines (Some c) Nothing → (actions : List Action) (notes : List Note) (ending : Ending) → IsReplied ending → Tells lines (Some c) (Enlisting actions notes ending)
  enlisting c lines next actions notes ending replied s t [] ys rest owed like g h e = absurd (unfinished journal s (Enlisting actions notes ending) owed (λ no. cc) g)
  enlisting c lines next actions notes ending replied s t (x ∷ xs) [] rest owed like g h e = absurd (unfinished other t (Enlisting actions notes ending) (owed-like s t like ∙ owed) (λ no. cc) h)
  enlisting c lines next actions notes ending replied s t (x ∷ xs) (y ∷ ys) rest owed like g h e =
      let fx = subst (λ (o : Owed). Fits o x) owed (fits terms journal s x g.lawful.0) in
      let fy = subst (λ (o : Owed). Fits o y) (owed-like s t like ∙ owed) (fits terms other t y h.lawful.0) in
      let i : Item = Enlist fx.0 fx.1 in
      let j : Item = Enlist fy.0 fy.1 in
      let before : State = record s { mark = Some fx.1; told = max s.told fx.1; marks = s.marks ++ fx.0 ∷ [] ++ fx.1 ∷ [] } in
      at-items (Pair c s t xs ys) x y i j fx.2 fy.2
      (onward c lines s t xs ys i j (after_item s i).owed refl refl refl refl refl rest (enlist-like s t like actions notes ending fx.0 fx.1 fy.0 fy.1 owed) refl
      (commit-tells c lines next (after_item s i).owed (subst (λ (o : Owed). IsCommit (at_enlist before o).owed) (sym owed) (queueing-commits before actions notes ending replied)))) g h e

  -- The rows of channels, and of a usage.
  listing : (c : Command) (lines : List ScriptLine) → Tells lines (Some c) Nothing → (names : List (List ℕ)) (ending : Ending) → Tells lines (Some c) (Listing names ending)
  listing c lines next names ending s t [] ys rest owed like g h e = absurd (unfinished journal s (Listing names ending) owed (λ no. cc) g)
  listing c lines next names ending s t (x ∷ xs) [] rest owed like g h e = absurd (unfinished other t (Listing names ending) (owed-like s t like ∙ owed) (λ no. cc) h)
  listing c lines next names ending s t (x ∷ xs) (y ∷ ys) rest owed like g h e =
      let fx : x ≡ Channels names = subst (λ (o : Owed). Fits o x) owed (fits terms journal s x g.lawful.0) in
      let fy : y ≡ Channels names = subst (λ (o : Owed). Fits o y) (owed-like s t like ∙ owed) (fits terms other t y h.lawful.0) in
      at-items (Pair c s t xs ys) x y (Channels names) (Channels names) fx fy
      (onward c lines s t xs ys (Channels names) (Channels names) (Answering ending) refl refl refl refl refl rest (channels-like s t like names ending owed) (ap (λ (o : Owed). (at_rows s o).owed) owed) (answering c lines next ending)) g h e

  both-measured : (c : Command) (lines : List ScriptLine) → Tells lines (Some c) Nothing → (ending : Ending) (s t : State) (xs ys : List Item) → s.rest ≡ lines → s.owed ≡ Measuring ending → plain s ≡ plain t
      → (u v : Usage) → Pair c s t xs ys (Used u) (Used v)
  both-measured c lines next ending s t xs ys rest owed like u v g h e =
      let behind : List ℕ = messages_from (after_item s (Used u)) (Some c) xs in
      let behind' : List ℕ = messages_from (after_item t (Used v)) (Some c) ys in
      let head : List ℕ = columns (codes "pg_notification_queue_usage") in
      let one = All-head (IsKnown terms) (Used u) xs g.known in
      let two = All-head (IsKnown terms) (Used v) ys h.known in
      let rows : row (share u) ++ behind ≡ row (share v) ++ behind' =
      append_cancel_left head (row (share u) ++ behind) (row (share v) ++ behind') (sym (append_assoc head (row (share u)) behind) ∙ e ∙ append_assoc head (row (share v)) behind') in
      let got = usage-ends u v behind behind' one.0 two.0 (one.1 ∙ sym two.1) rows in
      let before : State = record s { named = s.named ++ holder_at u.holder u.floor_mark } in
      more-alike (Used u) (Used v) xs ys
      (ap (λ (n : ℕ). Seen.Measured n u.limit ∷ []) got.0 ∙ ap (λ (n : ℕ). Seen.Measured v.occupied n ∷ []) (one.1 ∙ sym two.1)) refl
      (answering c lines next ending (after_item s (Used u)) (after_item t (Used v)) xs ys (rest-kept s (Used u) refl ∙ rest) (ap (λ (o : Owed). (at_rows before o).owed) owed) (usage-like s t like ending u v owed)
      (goes-on terms journal s (Used u) xs g) (goes-on terms other t (Used v) ys h) got.1)

  measuring : (c : Command) (lines : List ScriptLine) → Tells lines (Some c) Nothing → (ending : Ending) → Tells lines (Some c) (Measuring ending)
  measuring c lines next ending s t [] ys rest owed like g h e = absurd (unfinished journal s (Measuring ending) owed (λ no. cc) g)
  measuring c lines next ending s t (x ∷ xs) [] rest owed like g h e = absurd (unfinished other t (Measuring ending) (owed-like s t like ∙ owed) (λ no. cc) h)
  measuring c lines next ending s t (x ∷ xs) (y ∷ ys) rest owed like g h e =
      let fx = subst (λ (o : Owed). Fits o x) owed (fits terms journal s x g.lawful.0) in
      let fy = subst (λ (o : Owed). Fits o y) (owed-like s t like ∙ owed) (fits terms other t y h.lawful.0) in
      at-items (Pair c s t xs ys) x y (Used fx.0) (Used fy.0) fx.1 fy.1 (both-measured c lines next ending s t xs ys rest owed like fx.0 fy.0) g h e

  -- Whatever a query owes.
  pub owed-tells : (c : Command) (lines : List ScriptLine) → Tells lines (Some c) Nothing → (owed : Owed) → IsOwed owed → Tells lines (Some c) owed
  owed-tells c lines next Nothing h = next
  owed-tells c lines next (Enlisting actions notes ending) h = enlisting c lines next actions notes ending h
  owed-tells c lines next (Queueing actions notes ending) h = queueing c lines next actions notes ending h
  owed-tells c lines next (Leaving ending) h = leaving c lines next ending
  owed-tells c lines next (Answering ending) h = answering c lines next ending
  owed-tells c lines next (Listing names ending) h = listing c lines next names ending
  owed-tells c lines next (Measuring ending) h = measuring c lines next ending
  owed-tells c lines next owed h = absurd h
