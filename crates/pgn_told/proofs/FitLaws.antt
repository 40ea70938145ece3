-- Which item is allowed, by what the current line still has to show; and what that can be.
use Rattle.std.proofs.Common.{◌≡◌, ℕ, Bool, true, false, List, [], ◌∷◌, ◌++◌, Option, Some, None, inl, inr, sym, ap, refl, subst}
use Rattle.std.specs.Prelude.{if◌then◌else◌, is_none, is_some, ◌&&◌, ◌⊎◌}
use Rattle.std.specs.List.{list_any}
use Rattle.pgn_base.specs.declared.note.Note.{Note}
use Rattle.pgn_base.specs.declared.note.Delivery.{Delivery}
use Rattle.pgn_base.specs.declared.command.Command.{Command}
use Rattle.pgn_base.specs.declared.action.Action.{Action}
use Rattle.pgn_base.specs.declared.queue_answers.Full.{Full}
use Rattle.pgn_base.specs.declared.queue_answers.Usage.{Usage}
use Rattle.pgn_base.specs.Channels.{applied}
use Rattle.pgn_journal.specs.declared.tx.Tx.{Tx}
use Rattle.pgn_answers.specs.Savepoints.{Change, live_names, surviving_actions, surviving_notes, firsts, is_listen, changes_of}
use Rattle.pgn_answers.specs.Answers.{Outcome, Commits, Replies, Refuses, Silent, GivesChannels, GivesUsage, answer, next_state, list_after}
use Rattle.pgn_language.specs.declared.scenario.Act.TheVariants.{Run}
use Rattle.pgn_model.specs.declared.item.Item.{Item}
use Rattle.pgn_model.specs.declared.item.Item.TheVariants.{Line, Enlist, Publish, QueueFull, Leave, Reply, Refuse, Channels, Used, Raise, Found, TimedOut, Read}
use Rattle.pgn_model.specs.Walk.{Terms, State, Owed, Ending, Replied, Refused, Nothing, Enlisting, Queueing, Leaving, Answering, Listing, Measuring, Raising, Awaiting, Quitting, Allowed, IsEnlisting, IsQueueing, IsLeaving, IsListing, IsMeasuring, IsRaising, IsAwaiting, MayRead, at_act, is_empty_set, leaving_or_answering, queueing_or_settled, committing, owing, quitting}

-- the item that an answer is
abbrev pub answer_item : Ending → Item
answer_item (Replied tag warning) = Reply tag warning
answer_item (Refused refusal) = Refuse refusal

-- which items what is owed allows, where no flag is in play
abbrev pub Fits : Owed → Item → Type 0
Fits Nothing item = ((n : ℕ) × (item ≡ Line n)) ⊎ ((from : ℕ) × (to : ℕ) × (got : List Delivery) × (item ≡ Read from to got))
Fits (Enlisting actions notes ending) item = (base : ℕ) × (point : ℕ) × (item ≡ Enlist base point)
Fits (Queueing actions notes ending) item = ((xid : ℕ) × (item ≡ Publish xid notes)) ⊎ ((full : Full) × (item ≡ QueueFull full notes))
Fits (Leaving ending) item = item ≡ Leave
Fits (Answering ending) item = item ≡ answer_item ending
Fits (Listing names ending) item = item ≡ Channels names
Fits (Measuring ending) item = (usage : Usage) × (item ≡ Used usage)
Fits Quitting item = item ≡ Leave
Fits owed item = Unit {0}

fits-enlist : (owed : Owed) (base point : ℕ) → IsEnlisting owed → Fits owed (Enlist base point)
fits-enlist (Enlisting actions notes ending) base point h = (base, point, refl)
fits-enlist owed base point h = absurd h

fits-publish : (owed : Owed) (xid : ℕ) (notes : List Note) → IsQueueing notes owed → Fits owed (Publish xid notes)
fits-publish (Queueing actions others ending) xid notes h = inl (xid, ap (λ (ns : List Note). let i : Item = Publish xid ns in i) h)
fits-publish owed xid notes h = absurd h

fits-full : (owed : Owed) (full : Full) (notes : List Note) → IsQueueing notes owed → Fits owed (QueueFull full notes)
fits-full (Queueing actions others ending) full notes h = inr (full, ap (λ (ns : List Note). let i : Item = QueueFull full ns in i) h)
fits-full owed full notes h = absurd h

fits-leave : (owed : Owed) → IsLeaving owed → Fits owed Leave
fits-leave (Leaving ending) h = refl
fits-leave Quitting h = refl
fits-leave owed h = absurd h

fits-channels : (owed : Owed) (names : List (List ℕ)) → IsListing names owed → Fits owed (Channels names)
fits-channels (Listing others ending) names h = ap (λ (ns : List (List ℕ)). let i : Item = Channels ns in i) h
fits-channels owed names h = absurd h

fits-usage : (owed : Owed) (usage : Usage) → IsMeasuring owed → Fits owed (Used usage)
fits-usage (Measuring ending) usage h = (usage, refl)
fits-usage owed usage h = absurd h

fits-raise : (owed : Owed) (item : Item) → IsRaising owed → Fits owed item
fits-raise (Raising flag) item h = tt
fits-raise owed item h = absurd h

fits-await : (P : ℕ → Type 0) (owed : Owed) (item : Item) → IsAwaiting owed P → Fits owed item
fits-await P (Awaiting flag) item h = tt
fits-await P owed item h = absurd h

fits-read : (s : State) (owed : Owed) (from to : ℕ) (got : List Delivery) → MayRead s owed → Fits owed (Read from to got)
fits-read s Nothing from to got h = inr (from, to, got, refl)
fits-read s (Awaiting flag) from to got h = tt
fits-read s owed from to got h = absurd h

-- an item that is allowed is one of these
pub fits : (terms : Terms) (journal : List Tx) (s : State) (item : Item) → Allowed terms journal s item → Fits s.owed item
fits terms journal s (Line n) h = subst (λ (o : Owed). Fits o (Line n)) (sym h.answered) (inl (n, refl))
fits terms journal s (Enlist base point) h = fits-enlist s.owed base point h.expected
fits terms journal s (Publish xid notes) h = fits-publish s.owed xid notes h.expected
fits terms journal s (QueueFull full notes) h = fits-full s.owed full notes h.expected
fits terms journal s Leave h = fits-leave s.owed h
fits terms journal s (Reply tag warning) h = subst (λ (o : Owed). Fits o (Reply tag warning)) (sym h) refl
fits terms journal s (Refuse refusal) h = subst (λ (o : Owed). Fits o (Refuse refusal)) (sym h) refl
fits terms journal s (Channels names) h = fits-channels s.owed names h
fits terms journal s (Used usage) h = fits-usage s.owed usage h.expected
fits terms journal s (Raise value) h = fits-raise s.owed (Raise value) h.expected
fits terms journal s (Found value) h = fits-await _ s.owed (Found value) h
fits terms journal s (TimedOut looks) h = fits-await _ s.owed (TimedOut looks) h.awaited
fits terms journal s (Read from to got) h = fits-read s s.owed from to got h.in_turn

-- What is owed.

-- the answer comes, or a session that leaves and then the answer
abbrev pub Ends : Ending → Owed → Type 0
Ends ending (Leaving other) = other ≡ ending
Ends ending (Answering other) = other ≡ ending
Ends ending owed = ⊥

-- a command was carried out
abbrev pub IsReplied : Ending → Type 0
IsReplied (Replied tag warning) = Unit {0}
IsReplied (Refused refusal) = ⊥

-- a commit whose session is a listener, if it is to be one
abbrev pub IsCommit : Owed → Type 0
IsCommit (Queueing actions notes ending) = IsReplied ending
IsCommit (Leaving ending) = Unit {0}
IsCommit (Answering ending) = Unit {0}
IsCommit owed = ⊥

-- any of a query
abbrev pub IsOwed : Owed → Type 0
IsOwed Nothing = Unit {0}
IsOwed (Enlisting actions notes ending) = IsReplied ending
IsOwed (Queueing actions notes ending) = IsReplied ending
IsOwed (Leaving ending) = Unit {0}
IsOwed (Answering ending) = Unit {0}
IsOwed (Listing names ending) = Unit {0}
IsOwed (Measuring ending) = Unit {0}
IsOwed owed = ⊥

ends-commit : (ending : Ending) (owed : Owed) → Ends ending owed → IsCommit owed
ends-commit ending (Leaving other) h = tt
ends-commit ending (Answering other) h = tt
ends-commit ending owed h = absurd h

pub commit-owed : (owed : Owed) → IsCommit owed → IsOwed owed
commit-owed (Queueing actions notes ending) h = h
commit-owed (Leaving ending) h = tt
commit-owed (Answering ending) h = tt
commit-owed owed h = absurd h

ends-either : (s : State) (ending : Ending) (b : Bool) → Ends ending (if b then record s { owed = Leaving ending } else record s { owed = Answering ending }).owed
ends-either s ending true = refl
ends-either s ending false = refl

-- what is owed where the session leaves or answers ends in that ending
pub leaving-ends : (s : State) (ending : Ending) → Ends ending (leaving_or_answering s ending).owed
leaving-ends s ending = ends-either s ending (is_some s.mark && is_empty_set s.set)

-- what is owed where it queues or settles is owed for a commit
pub queueing-commits : (s : State) (actions : List Action) (notes : List Note) (ending : Ending) → IsReplied ending → IsCommit (queueing_or_settled s actions notes ending).owed
queueing-commits s actions [] ending h = ends-commit ending (queueing_or_settled s actions [] ending).owed (leaving-ends (record s { set = applied s.set actions }) ending)
queueing-commits s actions (note ∷ notes) ending h = h

committing-owes : (s : State) (changes : List Change) (ending : Ending) → IsReplied ending → IsOwed (committing s changes ending).owed
committing-owes s changes ending h = either (list_any is_listen (surviving_actions changes) && is_none s.mark)
  where
    actions : List Action
    actions = surviving_actions changes

    notes : List Note
    notes = firsts (surviving_notes changes)

    either : (b : Bool) → IsOwed (if b then record s { owed = Enlisting actions notes ending } else queueing_or_settled s actions notes ending).owed
    either true = h
    either false = commit-owed (queueing_or_settled s actions notes ending).owed (queueing-commits s actions notes ending h)

owing-owes : (s : State) (changes : List Change) (outcome : Outcome) → s.owed ≡ Nothing → IsOwed (owing s changes outcome).owed
owing-owes s changes (Commits tag) e = committing-owes s changes (Replied tag None) tt
owing-owes s changes (Replies tag warning next) e = tt
owing-owes s changes (Refuses refusal next) e = tt
owing-owes s changes Silent e = subst IsOwed (sym e) tt
owing-owes s changes (GivesChannels names) e = tt
owing-owes s changes GivesUsage e = tt

-- what a query owes
pub query-owes : (s : State) (command : Command) → s.owed ≡ Nothing → IsOwed (at_act s (Run command)).owed
query-owes s command e =
    let outcome : Outcome = answer s.block (live_names s.changes) s.set command in
    owing-owes (record s { block = next_state s.block outcome; changes = list_after s.changes command outcome }) (s.changes ++ changes_of command) outcome e

-- what a `\quit` owes: a listener leaves, and else there is nothing to come
pub quit-owes : (s : State) → s.owed ≡ Nothing → ((quitting s).owed ≡ Quitting) ⊎ (((quitting s).owed ≡ Nothing) × ((quitting s).mark ≡ None))
quit-owes s e = at s.mark
  where
    at : (m : Option ℕ) → (let t : State = record s { mark = m } in ((quitting t).owed ≡ Quitting) ⊎ (((quitting t).owed ≡ Nothing) × ((quitting t).mark ≡ None)))
    at None = inr (e, refl)
    at (Some n) = inl refl
