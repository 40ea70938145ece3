-- Proofs of the laws of what a session's next line adds to its trace.
use Rattle.std.proofs.Common.{◌≡◌, ◌≢◌, ℕ, ◌+◌, max, Bool, true, false, cond, List, [], ◌∷◌, ◌++◌, length, Option, Some, None, if◌then◌else◌, IfSome, sym, ap, ◌∙◌, refl, subst, inl, inr, append-nil, IsSomeAnd, All, slice_get, arith, ◌-◌, ◌≤◌, length-append}
use Rattle.pgn_base.specs.declared.note.Note.{Note}
use Rattle.pgn_base.specs.declared.answers.Tag.{Tag}
use Rattle.pgn_base.specs.declared.queue_answers.Full.{Full}
use Rattle.pgn_base.specs.declared.action.Action.{Action}
use Rattle.pgn_base.specs.Channels.{applied}
use Rattle.pgn_journal.specs.declared.tx.Tx.{Tx}
use Rattle.pgn_answers.specs.declared.block_state.BlockState.TheVariants.{Idle}
use Rattle.pgn_base.specs.declared.command.Command.{Command}
use Rattle.pgn_language.specs.declared.scenario.Act.{Act}
use Rattle.pgn_language.specs.declared.scenario.Act.TheVariants.{Run, Signal, Await, Quit}
use Rattle.pgn_language.specs.declared.scenario.ScriptLine.{ScriptLine}
use Rattle.pgn_model.specs.declared.item.Item.{Item}
use Rattle.pgn_model.specs.declared.item.Item.TheVariants.{Line, Enlist, Publish, QueueFull, Leave, Reply, Refuse, Channels, Used, Raise, Found, TimedOut, Read}
use Rattle.pgn_journal.specs.Journal.{next_xid, entry}
use Rattle.pgn_journal.specs.Due.{due, is_due_to}
use Rattle.pgn_journal.specs.Near.{Near}
use Rattle.pgn_answers.specs.Savepoints.{surviving_notes, firsts, changes_of}
use Rattle.pgn_answers.specs.Answers.{Outcome, Commits, Replies, Refuses, Silent, GivesChannels, GivesUsage}
use Rattle.pgn_model.specs.Walk.{Terms, State, Owed, Nothing, Enlisting, Queueing, Leaving, Answering, Listing, Measuring, Raising, Awaiting, Quitting, Ending, Replied, Refused, start, after_item, Allowed, MayRead, leaving_or_answering, queueing_or_settled, settled, at_outcome, at_act, at_line, quitting, IsNext, holder_at, IsCommittedBy, IsAbortedBy}
use Rattle.pgn_model.specs.Trace.{IsEnd, IsUpToDate, IsFreshAt}
use Rattle.pgn_model.specs.laws.NextLine.{StandsFresh, ComesNext, CommitsNext, MayEnlist, MayPublish, MayMeetFull, MayReadTo, outcome_in, is_enlisting, is_leaving, enlist_items, publish_items, leave_items, quit_items, enlisted_mark, enlisted_marks, enlisted_told, left_mark, published_told, EmptyStands, StandsFreshGrows, ComesNextGrows, LineReplies, LineRefuses, LineIsSilent, LineCommits, LineMeetsFull, LineGivesChannels, LineGivesUsage, LineSignals, LineAwaits, AwaitFinds, AwaitTimesOut, LineQuits, IdleReads, AwaitReads, EndReads, NoListenerIsUpToDate, ReaderIsUpToDate, EndIsLawful, EndIsFresh, LastIsPublished, LastMetFull, CommitFinishes, FullFinishes, CommitKeepsFull, FullKeepsFull, QuietIsUpToDate, published_xids, HoldsGrows, HoldsShows, HoldsWithin, CommitsNextGrows}
use Rattle.pgn_journal.proofs.NearLaws.{near-itself, near-shrinks}
use Rattle.pgn_model.proofs.WalkLaws.{Along-push_at, Stands-push, Stands-grows}
use Rattle.pgn_model.proofs.GrowingLaws.{up_to_date-grows, fresh_so_far-grows, lawful-shows, state-within, full-grows}
use Rattle.std.proofs.lemmas.List.Elements.{All-nil, All-push, All-append, filter_map-append, All-weaker}
use Rattle.pgn_model.specs.Legal.{finished_xid, finished_xids, IsFullThere}
use Rattle.pgn_model.proofs.CarriedLaws.{begun}
use Rattle.pgn_base.specs.declared.answers.Tag.TheVariants as tag
use Rattle.pgn_base.specs.declared.answers.Refusal.TheVariants as refused
use Rattle.pgn_base.specs.declared.command.Command.TheVariants as command

-- no items lead to where a session begins
pub empty-stands : EmptyStands
empty-stands terms journal = record { stands = record { lawful = tt; state = refl }; fresh = tt }

-- items that are lawful and left no read out stay so as the journal grows
pub stands_fresh-grows : StandsFreshGrows
stands_fresh-grows terms journal more items s h shown = record {
  stands = Stands-grows terms journal more items s h.stands;
  fresh = fresh_so_far-grows terms journal more items h.stands.lawful shown h.fresh;
}

-- what a session keeps of its trace shows no number past the journal
pub holds-shows : HoldsShows
holds-shows terms journal items s h = lawful-shows terms journal items s h.stands_fresh.stands h.full h.found

-- nor has the session been told of such a number, or a mark there
pub holds-within : HoldsWithin
holds-within terms journal items s h = state-within terms journal items s h.stands_fresh.stands (holds-shows terms journal items s h)

-- all that a session keeps of its trace stays so as the journal grows
pub holds-grows : HoldsGrows
holds-grows terms journal more items s h = record {
  stands_fresh = stands_fresh-grows terms journal more items s h.stands_fresh (holds-shows terms journal items s h);
  full = full-grows terms.settings journal more items h.full;
  found = All-weaker (λ (pair : ℕ × ℕ). pair.1 ≤ next_xid journal) (λ (pair : ℕ × ℕ). pair.1 ≤ next_xid (journal ++ more)) (λ pair e. omega (arith, e, length-append journal more)) s.found h.found;
}

-- the line that comes next still does as the journal grows
pub comes_next-grows : ComesNextGrows
comes_next-grows terms journal more s line act lines told h = record {
  answered = h.answered;
  next = h.next;
  does = h.does;
  fresh = λ idle. record { up_to_date = up_to_date-grows terms journal more s told (h.fresh idle).up_to_date; read_first = (h.fresh idle).read_first };
}

-- one more item at the end
pub StandsFresh-push : (terms : Terms) (journal : List Tx) (items : List Item) (s : State) (item : Item)
    → StandsFresh terms journal items s → Allowed terms journal s item → IsFreshAt terms journal s item → StandsFresh terms journal (items ++ item ∷ []) (after_item s item)
StandsFresh-push terms journal items s item h allowed fresh = record {
  stands = Stands-push terms journal items s item h.stands allowed;
  fresh = Along-push_at after_item (IsFreshAt terms journal) (start terms.section) s items item h.stands.state h.fresh fresh;
}

-- no item at the end
without : (terms : Terms) (journal : List Tx) (items : List Item) (s : State) → StandsFresh terms journal items s → StandsFresh terms journal (items ++ []) s
without terms journal items s h = subst (λ (is : List Item). StandsFresh terms journal is s) (sym (append-nil items)) h

-- what the line still has to show may be given by an equation
at-owed : (terms : Terms) (journal : List Tx) (items : List Item) (s : State) (owed : Owed) → s.owed ≡ owed → StandsFresh terms journal items s → StandsFresh terms journal items (record s { owed = owed })
at-owed terms journal items s owed e h = subst (λ (o : Owed). StandsFresh terms journal items (record s { owed = o })) e h

-- the next line begins
begins : (terms : Terms) (journal : List Tx) (items : List Item) (s : State) (line : ScriptLine) (act : Act) (lines : List ScriptLine)
    → StandsFresh terms journal items s → ComesNext terms journal s line act lines
    → StandsFresh terms journal (items ++ Line line.line ∷ []) (at_act (record s { rest = lines; owed = Nothing }) act)
begins terms journal items s line act lines h next =
    let begun : List Item = items ++ Line line.line ∷ [] in
    let is_next : IsNext line.line s.rest = subst (λ (ls : List ScriptLine). IsNext line.line ls) (sym next.next) refl in
    let one : StandsFresh terms journal begun (at_line s s.rest) = StandsFresh-push terms journal items s (Line line.line) h (record { answered = next.answered; next = is_next }) next.fresh in
    let two : StandsFresh terms journal begun (at_line s (line ∷ lines)) = subst (λ (ls : List ScriptLine). StandsFresh terms journal begun (at_line s ls)) next.next one in
    let three : StandsFresh terms journal begun (at_act (record s { rest = lines; owed = Nothing }) line.act) =
    subst (λ (o : Owed). StandsFresh terms journal begun (at_act (record s { rest = lines; owed = o }) line.act)) next.answered two in
    subst (λ (a : Act). StandsFresh terms journal begun (at_act (record s { rest = lines; owed = Nothing }) a)) next.does three

-- a command begins
begins-command : (terms : Terms) (journal : List Tx) (items : List Item) (s : State) (line : ScriptLine) (command : Command) (lines : List ScriptLine) (outcome : Outcome)
    → StandsFresh terms journal items s → ComesNext terms journal s line (Run command) lines → outcome_in s command ≡ outcome
    → StandsFresh terms journal (items ++ Line line.line ∷ []) (at_outcome (record s { rest = lines; owed = Nothing }) command outcome)
begins-command terms journal items s line command lines outcome h next e =
    subst (λ (o : Outcome). StandsFresh terms journal (items ++ Line line.line ∷ []) (at_outcome (record s { rest = lines; owed = Nothing }) command o)) e
    (begins terms journal items s line (Run command) lines h next)

-- a line that is answered by its tag leads on, and its items are lawful
pub line-replies : LineReplies
line-replies terms journal items s line lines command done warning next h comes e =
    let begun : State = at_outcome (record s { rest = lines; owed = Nothing }) command (Replies done warning next) in
    StandsFresh-push terms journal (items ++ Line line.line ∷ []) begun (Reply done warning) (begins-command terms journal items s line command lines (Replies done warning next) h comes e) refl tt

-- so does one that is refused
pub line-refuses : LineRefuses
line-refuses terms journal items s line lines command refusal next h comes e =
    let begun : State = at_outcome (record s { rest = lines; owed = Nothing }) command (Refuses refusal next) in
    StandsFresh-push terms journal (items ++ Line line.line ∷ []) begun (Refuse refusal) (begins-command terms journal items s line command lines (Refuses refusal next) h comes e) refl tt

-- so does one without an answer
pub line-is_silent : LineIsSilent
line-is_silent terms journal items s line lines command h comes e = begins-command terms journal items s line command lines Silent h comes e

-- a line that commits next still does as the journal grows
pub commits_next-grows : CommitsNextGrows
commits_next-grows terms journal more s line lines command done actions notes told h = record {
  comes = comes_next-grows terms journal more s line (Run command) lines told h.comes;
  commits = h.commits;
  actions_are = h.actions_are;
  notes_are = h.notes_are;
}

-- the item that ends an answer
abbrev answer_item : Ending → Item
answer_item (Replied done warning) = Reply done warning
answer_item (Refused refusal) = Refuse refusal

-- the answer comes
answers : (terms : Terms) (journal : List Tx) (items : List Item) (s : State) (ending : Ending)
    → StandsFresh terms journal items (record s { owed = Answering ending }) → StandsFresh terms journal (items ++ answer_item ending ∷ []) (record s { owed = Nothing })
answers terms journal items s (Replied done warning) h = StandsFresh-push terms journal items (record s { owed = Answering (Replied done warning) }) (Reply done warning) h refl tt
answers terms journal items s (Refused refusal) h = StandsFresh-push terms journal items (record s { owed = Answering (Refused refusal) }) (Refuse refusal) h refl tt

-- a listener whose set is empty leaves, and the answer comes
leaves : (terms : Terms) (journal : List Tx) (items : List Item) (s : State) (ending : Ending) (b : Bool)
    → (let leaving : State = record s { owed = Leaving ending } in let answering : State = record s { owed = Answering ending } in StandsFresh terms journal items (if b then leaving else answering))
    → StandsFresh terms journal (items ++ cond b (Leave ∷ []) [] ++ answer_item ending ∷ []) (record s { owed = Nothing; mark = cond b None s.mark })
leaves terms journal items s ending true h =
    answers terms journal (items ++ Leave ∷ []) (record s { mark = None }) ending (StandsFresh-push terms journal items (record s { owed = Leaving ending }) Leave h tt tt)
leaves terms journal items s ending false h = answers terms journal (items ++ []) s ending (without terms journal items (record s { owed = Answering ending }) h)

-- the end of a commit
ends : (terms : Terms) (journal : List Tx) (items : List Item) (s : State) (ending : Ending) → StandsFresh terms journal items (leaving_or_answering s ending)
    → StandsFresh terms journal (items ++ leave_items s.mark s.set ++ answer_item ending ∷ []) (record s { owed = Nothing; mark = left_mark s.mark s.set })
ends terms journal items s ending h = leaves terms journal items s ending (is_leaving s.mark s.set) h

-- the notifications of a commit, if there are any
publishes : (terms : Terms) (journal : List Tx) (items : List Item) (s : State) (actions : List Action) (notes : List Note) (ending : Ending) (xid : ℕ)
    → StandsFresh terms journal items (queueing_or_settled s actions notes ending) → (notes ≢ [] → MayPublish terms journal s.told s.mark xid notes)
    → StandsFresh terms journal (items ++ publish_items notes xid) (settled (record s { told = published_told notes s.told xid }) actions ending)
publishes terms journal items s actions [] ending xid h may = without terms journal items (settled s actions ending) h
publishes terms journal items s actions (note ∷ notes) ending xid h may =
    let now : MayPublish terms journal s.told s.mark xid (note ∷ notes) = may (λ e. cc) in
    StandsFresh-push terms journal items (record s { owed = Queueing actions (note ∷ notes) ending }) (Publish xid (note ∷ notes)) h
    (record { expected = refl; after_told = now.after_told; after_mark = now.after_mark; in_journal = now.in_journal }) tt

-- the notifications of a commit meet a full queue
meets : (terms : Terms) (journal : List Tx) (items : List Item) (s : State) (actions : List Action) (notes : List Note) (ending : Ending) (full : Full)
    → StandsFresh terms journal items (queueing_or_settled s actions notes ending) → notes ≢ [] → MayMeetFull terms journal s.told s.mark full notes
    → StandsFresh terms journal (items ++ QueueFull full notes ∷ [])
    (leaving_or_answering (record s { told = max s.told (full.xid + 1); named = s.named ++ holder_at full.holder full.floor_mark }) (Refused refused.QueueFull))
meets terms journal items s actions [] ending full h some may = absurd (some refl)
meets terms journal items s actions (note ∷ notes) ending full h some may =
    StandsFresh-push terms journal items (record s { owed = Queueing actions (note ∷ notes) ending }) (QueueFull full (note ∷ notes)) h
    (record { expected = refl; after_told = may.after_told; after_mark = may.after_mark; in_journal = may.in_journal; floor = may.floor }) tt

-- what was owed before the notifications is lost
owed-lost : (s : State) (owed : Owed) (actions : List Action) (notes : List Note) (ending : Ending) → queueing_or_settled (record s { owed = owed }) actions notes ending ≡ queueing_or_settled s actions notes ending
owed-lost s owed actions [] ending = refl
owed-lost s owed actions (note ∷ notes) ending = refl

-- the session becomes a listener, if it is to
enlists : (terms : Terms) (journal : List Tx) (items : List Item) (s : State) (actions : List Action) (notes : List Note) (ending : Ending) (base point : ℕ) (b : Bool)
    → (let enlisting : State = record s { owed = Enlisting actions notes ending } in StandsFresh terms journal items (if b then enlisting else queueing_or_settled s actions notes ending))
    → (b ≡ true → MayEnlist journal s.told s.marks base point)
    → StandsFresh terms journal (items ++ cond b (Enlist base point ∷ []) [])
    (queueing_or_settled (record s { mark = cond b (Some point) s.mark; told = cond b (max s.told point) s.told; marks = cond b (s.marks ++ base ∷ [] ++ point ∷ []) s.marks }) actions notes ending)
enlists terms journal items s actions notes ending base point true h may =
    let now : MayEnlist journal s.told s.marks base point = may refl in
    let after : State = record s { mark = Some point; told = max s.told point; marks = s.marks ++ base ∷ [] ++ point ∷ [] } in
    subst (λ (t : State). StandsFresh terms journal (items ++ Enlist base point ∷ []) t) (owed-lost after (Enlisting actions notes ending) actions notes ending)
    (StandsFresh-push terms journal items (record s { owed = Enlisting actions notes ending }) (Enlist base point) h
    (record { expected = tt; from_first = now.from_first; ordered = now.ordered; after_told = now.after_told; after_marks = now.after_marks; in_journal = now.in_journal }) tt)
enlists terms journal items s actions notes ending base point false h may = without terms journal items (queueing_or_settled s actions notes ending) h

-- a commit begins, and makes the session a listener, if it is to
pub commits : (terms : Terms) (journal : List Tx) (items : List Item) (s : State) (line : ScriptLine) (lines : List ScriptLine) (command : Command) (done : Tag) (actions : List Action) (notes : List Note) (base point : ℕ)
    → StandsFresh terms journal items s → CommitsNext terms journal s line lines command done actions notes
    → (is_enlisting actions s.mark ≡ true → MayEnlist journal s.told s.marks base point)
    → StandsFresh terms journal (items ++ Line line.line ∷ [] ++ enlist_items actions s.mark base point)
    (queueing_or_settled (record s { rest = lines; owed = Nothing; block = Idle; changes = []; mark = enlisted_mark actions s.mark point; told = enlisted_told actions s.mark s.told point; marks = enlisted_marks actions s.mark s.marks base point }) actions notes (Replied done None))
commits terms journal items s line lines command done actions notes base point h next may =
    let ending : Ending = Replied done None in
    let begun : List Item = items ++ Line line.line ∷ [] in
    let idle : State = record s { rest = lines; owed = Nothing; block = Idle; changes = [] } in
    let one = begins-command terms journal items s line command lines (Commits done) h next.comes next.commits in
    let two = subst (λ (acts : List Action). let enlisting : State = record idle { owed = Enlisting acts (firsts (surviving_notes (s.changes ++ changes_of command))) ending } in
    StandsFresh terms journal begun (if is_enlisting acts s.mark then enlisting else queueing_or_settled idle acts (firsts (surviving_notes (s.changes ++ changes_of command))) ending)) (sym next.actions_are) one in
    let three = subst (λ (ns : List Note). let enlisting : State = record idle { owed = Enlisting actions ns ending } in
    StandsFresh terms journal begun (if is_enlisting actions s.mark then enlisting else queueing_or_settled idle actions ns ending)) (sym next.notes_are) two in
    enlists terms journal begun idle actions notes ending base point (is_enlisting actions s.mark) three may

-- a commit leads on by its Enlist, Publish and Leave, as far as it has them
pub line-commits : LineCommits
line-commits terms journal items s line lines command done actions notes base point xid h next enlist publish =
    let begun : List Item = items ++ Line line.line ∷ [] ++ enlist_items actions s.mark base point in
    let joined : State = record s { rest = lines; owed = Nothing; block = Idle; changes = []; mark = enlisted_mark actions s.mark point; told = enlisted_told actions s.mark s.told point; marks = enlisted_marks actions s.mark s.marks base point } in
    let one = commits terms journal items s line lines command done actions notes base point h next enlist in
    let two = publishes terms journal begun joined actions notes (Replied done None) xid one publish in
    ends terms journal (begun ++ publish_items notes xid) (record joined { told = published_told notes (enlisted_told actions s.mark s.told point) xid; set = applied s.set actions }) (Replied done None) two

-- a commit that meets a full queue leads on with the set as it was
pub line-meets_full : LineMeetsFull
line-meets_full terms journal items s line lines command done actions notes base point full h next enlist some meet =
    let begun : List Item = items ++ Line line.line ∷ [] ++ enlist_items actions s.mark base point in
    let joined : State = record s { rest = lines; owed = Nothing; block = Idle; changes = []; mark = enlisted_mark actions s.mark point; told = enlisted_told actions s.mark s.told point; marks = enlisted_marks actions s.mark s.marks base point } in
    let one = commits terms journal items s line lines command done actions notes base point h next enlist in
    let two = meets terms journal begun joined actions notes (Replied done None) full one some meet in
    ends terms journal (begun ++ QueueFull full notes ∷ []) (record joined { told = max (enlisted_told actions s.mark s.told point) (full.xid + 1); named = s.named ++ holder_at full.holder full.floor_mark }) (Refused refused.QueueFull) two

-- the last of a journal
entry-last : (journal : List Tx) (tx : Tx) (P : Tx → Type 0) → P tx → IsSomeAnd (slice_get (journal ++ tx ∷ []) (length journal)) P
entry-last [] tx P p = p
entry-last (first ∷ journal) tx P p = entry-last journal tx P p

pub entry-next : (journal : List Tx) (tx : Tx) (x : ℕ) (P : Tx → Type 0) → x ≡ next_xid journal → P tx → IsSomeAnd (entry (journal ++ tx ∷ []) x) P
entry-next journal tx x P e p =
    let place : x - 3 ≡ length journal = omega arith in
    subst (λ (k : ℕ). IsSomeAnd (slice_get (journal ++ tx ∷ []) k) P) (sym place) (entry-last journal tx P p)

-- a journal that ends with the session's committed transaction lets it be published
pub last-is_published : LastIsPublished
last-is_published terms journal tx told mark xid notes e after_told after_mark by = record {
  after_told = omega arith;
  after_mark = subst (λ (n : ℕ). IfSome mark (λ own. own ≤ n)) (sym e) after_mark;
  in_journal = entry-next journal tx xid (IsCommittedBy terms.section notes) e by;
}

-- a journal that ends with its aborted one lets it meet a full queue
pub last-met_full : LastMetFull
last-met_full terms journal tx told mark full notes e after_told after_mark by floor = record {
  after_told = omega arith;
  after_mark = subst (λ (n : ℕ). IfSome mark (λ own. own ≤ n)) (sym e) after_mark;
  in_journal = entry-next journal tx full.xid (IsAbortedBy terms.section notes full.queued) e by;
  floor = floor;
}

-- a fact of each item of a commit, where it has one
enlist-all : (P : Item → Type 0) (base point : ℕ) (b : Bool) → (b ≡ true → P (Enlist base point)) → All P (cond b (Enlist base point ∷ []) [])
enlist-all P base point true h = All-push P [] (Enlist base point) (All-nil P) (h refl)
enlist-all P base point false h = All-nil P

publish-all : (P : Item → Type 0) (notes : List Note) (xid : ℕ) → (notes ≢ [] → P (Publish xid notes)) → All P (publish_items notes xid)
publish-all P [] xid h = All-nil P
publish-all P (note ∷ notes) xid h = All-push P [] (Publish xid (note ∷ notes)) (All-nil P) (h (λ e. cc))

leave-all : (P : Item → Type 0) (b : Bool) → P Leave → All P (cond b (Leave ∷ []) [])
leave-all P true h = All-push P [] Leave (All-nil P) h
leave-all P false h = All-nil P

-- a fact of each item after a commit
pub commit-all : (P : Item → Type 0) (items : List Item) (line : ℕ) (actions : List Action) (notes : List Note) (mark after : Option ℕ) (set : List (List ℕ)) (done : Tag) (base point xid : ℕ)
    → All P items → P (Line line) → (is_enlisting actions mark ≡ true → P (Enlist base point)) → (notes ≢ [] → P (Publish xid notes)) → P Leave → P (Reply done None)
    → All P (items ++ Line line ∷ [] ++ enlist_items actions mark base point ++ publish_items notes xid ++ leave_items after set ++ Reply done None ∷ [])
commit-all P items line actions notes mark after set done base point xid h begun enlist publish leave reply =
    let begin : List Item = items ++ Line line ∷ [] in
    let joined : List Item = begin ++ enlist_items actions mark base point in
    let sent : List Item = joined ++ publish_items notes xid in
    let one = All-push P items (Line line) h begun in
    let two = All-append P begin (enlist_items actions mark base point) one (enlist-all P base point (is_enlisting actions mark) enlist) in
    let three = All-append P joined (publish_items notes xid) two (publish-all P notes xid publish) in
    let four = All-append P sent (leave_items after set) three (leave-all P (is_leaving after set) leave) in
    All-push P (sent ++ leave_items after set) (Reply done None) four reply

-- a fact of each item after a commit that met a full queue
pub full-all : (P : Item → Type 0) (items : List Item) (line : ℕ) (actions : List Action) (notes : List Note) (mark after : Option ℕ) (set : List (List ℕ)) (base point : ℕ) (full : Full)
    → All P items → P (Line line) → (is_enlisting actions mark ≡ true → P (Enlist base point)) → P (QueueFull full notes) → P Leave → P (Refuse refused.QueueFull)
    → All P (items ++ Line line ∷ [] ++ enlist_items actions mark base point ++ QueueFull full notes ∷ [] ++ leave_items after set ++ Refuse refused.QueueFull ∷ [])
full-all P items line actions notes mark after set base point full h begun enlist met leave refuse =
    let begin : List Item = items ++ Line line ∷ [] in
    let joined : List Item = begin ++ enlist_items actions mark base point in
    let sent : List Item = joined ++ QueueFull full notes ∷ [] in
    let one = All-push P items (Line line) h begun in
    let two = All-append P begin (enlist_items actions mark base point) one (enlist-all P base point (is_enlisting actions mark) enlist) in
    let three = All-push P joined (QueueFull full notes) two met in
    let four = All-append P sent (leave_items after set) three (leave-all P (is_leaving after set) leave) in
    All-push P (sent ++ leave_items after set) (Refuse refused.QueueFull) four refuse

-- what the optional items show as finished
enlist-finishes : (base point : ℕ) (b : Bool) → finished_xids (cond b (Enlist base point ∷ []) []) ≡ []
enlist-finishes base point true = refl
enlist-finishes base point false = refl

publish-finishes : (notes : List Note) (xid : ℕ) → finished_xids (publish_items notes xid) ≡ published_xids notes xid
publish-finishes [] xid = refl
publish-finishes (note ∷ notes) xid = refl

leave-finishes : (b : Bool) → finished_xids (cond b (Leave ∷ []) []) ≡ []
leave-finishes true = refl
leave-finishes false = refl

-- items that show nothing as finished
pub finished-more : (items more : List Item) → finished_xids more ≡ [] → finished_xids (items ++ more) ≡ finished_xids items
finished-more items more e = filter_map-append finished_xid items more ∙ ap (λ (xs : List ℕ). finished_xids items ++ xs) e ∙ append-nil (finished_xids items)

-- a commit shows the transaction that it publishes as finished, and no other one
pub commit-finishes : CommitFinishes
commit-finishes items line actions notes mark after set done base point xid =
    let begin : List Item = items ++ Line line ∷ [] in
    let joined : List Item = begin ++ enlist_items actions mark base point in
    let sent : List Item = joined ++ publish_items notes xid in
    finished-more (sent ++ leave_items after set) (Reply done None ∷ []) refl
    ∙ finished-more sent (leave_items after set) (leave-finishes (is_leaving after set))
    ∙ filter_map-append finished_xid joined (publish_items notes xid)
    ∙ ap (λ (xs : List ℕ). finished_xids joined ++ xs) (publish-finishes notes xid)
    ∙ ap (λ (xs : List ℕ). xs ++ published_xids notes xid) (finished-more begin (enlist_items actions mark base point) (enlist-finishes base point (is_enlisting actions mark)) ∙ finished-more items (Line line ∷ []) refl)

-- so does a commit that meets a full queue
pub full-finishes : FullFinishes
full-finishes items line actions notes mark after set base point full =
    let begin : List Item = items ++ Line line ∷ [] in
    let joined : List Item = begin ++ enlist_items actions mark base point in
    let sent : List Item = joined ++ QueueFull full notes ∷ [] in
    finished-more (sent ++ leave_items after set) (Refuse refused.QueueFull ∷ []) refl
    ∙ finished-more sent (leave_items after set) (leave-finishes (is_leaving after set))
    ∙ filter_map-append finished_xid joined (QueueFull full notes ∷ [])
    ∙ ap (λ (xs : List ℕ). xs ++ full.xid ∷ []) (finished-more begin (enlist_items actions mark base point) (enlist-finishes base point (is_enlisting actions mark)) ∙ finished-more items (Line line ∷ []) refl)

-- the full queues that are shown were full, also behind a commit that is published
pub commit-keeps_full : CommitKeepsFull
commit-keeps_full settings journal items line actions notes mark after set done base point xid h =
    commit-all (IsFullThere settings journal) items line actions notes mark after set done base point xid h tt (λ e. tt) (λ e. tt) tt tt

-- and behind one that meets a full queue, if that was full
pub full-keeps_full : FullKeepsFull
full-keeps_full settings journal items line actions notes mark after set base point full h no_page =
    full-all (IsFullThere settings journal) items line actions notes mark after set base point full h tt (λ e. tt) no_page tt tt

-- a line that is answered by the channels leads on, and its items are lawful
pub line-gives_channels : LineGivesChannels
line-gives_channels terms journal items s line lines command names h comes e =
    let ending : Ending = Replied (tag.Select (length names)) None in
    let begun : List Item = items ++ Line line.line ∷ [] in
    let next : State = record s { rest = lines } in
    let one = begins-command terms journal items s line command lines (GivesChannels names) h comes e in
    let two = StandsFresh-push terms journal begun (record next { owed = Listing names ending }) (Channels names) one refl tt in
    answers terms journal (begun ++ Channels names ∷ []) next ending two

-- so does one that is answered by the queue's usage
pub line-gives_usage : LineGivesUsage
line-gives_usage terms journal items s line lines command usage h comes e may =
    let ending : Ending = Replied (tag.Select 1) None in
    let begun : List Item = items ++ Line line.line ∷ [] in
    let next : State = record s { rest = lines } in
    let one = begins-command terms journal items s line command lines GivesUsage h comes e in
    let two = StandsFresh-push terms journal begun (record next { owed = Measuring ending }) (Used usage) one
    (record { expected = tt; after_told = may.after_told; after_mark = may.after_mark; shown = may.shown; floor = may.floor }) tt in
    answers terms journal (begun ++ Used usage ∷ []) (record next { named = s.named ++ holder_at usage.holder usage.floor_mark }) ending two

-- so does one that raises a flag
pub line-signals : LineSignals
line-signals terms journal items s line lines flag h comes =
    StandsFresh-push terms journal (items ++ Line line.line ∷ []) (record s { rest = lines; owed = Raising flag }) (Raise s.told) (begins terms journal items s line (Signal flag) lines h comes) (record { expected = tt; told = refl }) tt

-- a line that awaits a flag begins, and owes what it finds
pub line-awaits : LineAwaits
line-awaits terms journal items s line lines flag h comes = begins terms journal items s line (Await flag) lines h comes

-- an awaited flag is found with a number that none of those known for it exceeds
pub await-finds : AwaitFinds
await-finds terms journal items s flag value h awaited raised found =
    StandsFresh-push terms journal items (record s { owed = Awaiting flag }) (Found value) (at-owed terms journal items s (Awaiting flag) awaited h) (raised, found) tt

-- an awaited flag for which no number is known may be given up
pub await-times_out : AwaitTimesOut
await-times_out terms journal items s flag h awaited raised found =
    StandsFresh-push terms journal items (record s { owed = Awaiting flag }) (TimedOut terms.settings.patience) (at-owed terms journal items s (Awaiting flag) awaited h) (record { awaited = (raised, found); patient = refl }) tt

-- a listener that quits leaves
quits : (terms : Terms) (journal : List Tx) (items : List Item) (s : State) (mark : Option ℕ) → StandsFresh terms journal items (quitting (record s { owed = Nothing; mark = mark }))
    → StandsFresh terms journal (items ++ quit_items mark) (record s { owed = Nothing; block = Idle; changes = []; set = []; mark = None })
quits terms journal items s None h = without terms journal items (record s { owed = Nothing; block = Idle; changes = []; set = []; mark = None }) h
quits terms journal items s (Some mark) h = StandsFresh-push terms journal items (record s { owed = Quitting; block = Idle; changes = []; set = []; mark = Some mark }) Leave h tt tt

-- a line that quits leads on, and a listener leaves by it
pub line-quits : LineQuits
line-quits terms journal items s line lines h comes = quits terms journal (items ++ Line line.line ∷ []) (record s { rest = lines }) s.mark (begins terms journal items s line Quit lines h comes)

-- a read where the session may read
reads : (terms : Terms) (journal : List Tx) (items : List Item) (s : State) (from to : ℕ) → StandsFresh terms journal items s → MayRead s s.owed → MayReadTo journal s from to
    → StandsFresh terms journal (items ++ Read from to (due journal from to terms.section.db s.set) ∷ []) (record s { mark = Some to; told = max s.told to; marks = s.marks ++ to ∷ [] })
reads terms journal items s from to h in_turn may =
    StandsFresh-push terms journal items s (Read from to (due journal from to terms.section.db s.set)) h
    (record { in_turn = in_turn; from_mark = may.from_mark; forward = may.forward; after_told = may.after_told; in_journal = may.in_journal; received = refl }) tt

-- a listener may read between two lines
pub idle-reads : IdleReads
idle-reads terms journal items s from to h answered idle may = reads terms journal items s from to h (subst (MayRead s) (sym answered) (inl idle)) may

-- it may read while it awaits a flag
pub await-reads : AwaitReads
await-reads terms journal items s flag from to h awaited idle may = reads terms journal items s from to h (subst (MayRead s) (sym awaited) idle) may

-- it may read at the script's end, whatever block is open
pub end-reads : EndReads
end-reads terms journal items s from to h answered done may = reads terms journal items s from to h (subst (MayRead s) (sym answered) (inr done)) may

-- a session that does not listen is up to date
pub no_listener-is_up_to_date : NoListenerIsUpToDate
no_listener-is_up_to_date terms journal s e = subst (λ (mark : Option ℕ). IfSome mark (λ m. Near terms.settings.format (is_due_to terms.section.db s.set) journal m s.told)) (sym e) tt

-- a listener whose mark has come to all that it was told of is up to date
pub reader-is_up_to_date : ReaderIsUpToDate
reader-is_up_to_date terms journal s mark e told = subst (λ (mark : Option ℕ). IfSome mark (λ m. Near terms.settings.format (is_due_to terms.section.db s.set) journal m s.told)) (sym e)
    (near-itself terms.settings.format (is_due_to terms.section.db s.set) journal mark s.told told)

-- so is one to whom nothing is near that it was told of
pub quiet-is_up_to_date : QuietIsUpToDate
quiet-is_up_to_date terms journal s told below near = lower s.mark near
  where
    lower : (mark : Option ℕ) → IfSome mark (λ m. Near terms.settings.format (is_due_to terms.section.db s.set) journal m told)
        → IfSome mark (λ m. Near terms.settings.format (is_due_to terms.section.db s.set) journal m s.told)
    lower None h = h
    lower (Some m) h = near-shrinks terms.settings.format (is_due_to terms.section.db s.set) journal m m told s.told below (omega arith) h

-- items that lead to the script's end are a lawful trace
pub end-is_lawful : EndIsLawful
end-is_lawful terms journal trace s h closes = record {
  session = closes.session;
  database = closes.database;
  lawful = h.lawful;
  ended = subst (λ (t : State). IsEnd t trace.last) (sym h.state) (record { answered = closes.answered; done = closes.done; mark = closes.mark });
}

-- and one that left no read out, if it ends up to date
pub end-is_fresh : EndIsFresh
end-is_fresh terms journal trace s h up_to_date = record {
  between_lines = h.fresh;
  at_end = subst (λ (t : State). IsUpToDate terms journal t) (sym h.stands.state) up_to_date;
}
