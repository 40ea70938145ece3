-- The flags that a trace shows as found are those that its script awaits.
use Rattle.std.proofs.Common.{ℕ, ◌<◌, Bool, true, false, List, [], ◌∷◌, ◌++◌, fold, if◌then◌else◌, ◌&&◌, is_some, is_none, All}
use Rattle.std.specs.List.{list_any}
use Rattle.std.proofs.lemmas.List.Elements.{All-nil, All-head, All-tail, All-push}
use Rattle.pgn_base.specs.declared.note.Note.{Note}
use Rattle.pgn_base.specs.declared.action.Action.{Action}
use Rattle.pgn_answers.specs.declared.block_state.BlockState.TheVariants.{Idle}
use Rattle.pgn_model.specs.declared.item.Item.{Item}
use Rattle.pgn_model.specs.declared.item.Item.TheVariants.{Line, Enlist, Publish, QueueFull, Leave, Reply, Refuse, Channels, Used, Raise, Found, TimedOut, Read}
use Rattle.pgn_language.specs.declared.scenario.Act.{Act}
use Rattle.pgn_language.specs.declared.scenario.Act.TheVariants.{Run, Signal, Await, Quit}
use Rattle.pgn_language.specs.declared.scenario.ScriptLine.{ScriptLine}
use Rattle.pgn_language.specs.declared.scenario.Section.{Section}
use Rattle.pgn_language.specs.Inputs.{HasFlagBelow}
use Rattle.pgn_answers.specs.Savepoints.{Change, surviving_actions, surviving_notes, firsts, is_listen, live_names, changes_of}
use Rattle.pgn_answers.specs.Answers.{Outcome, Commits, Replies, Refuses, Silent, GivesChannels, GivesUsage, answer, next_state, list_after}
use Rattle.pgn_model.specs.Walk.{State, Owed, Ending, Enlisting, Queueing, Leaving, Answering, Listing, Measuring, Raising, Awaiting, Quitting, start, is_empty_set, leaving_or_answering, queueing_or_settled, committing, owing, at_act, at_line, at_enlist, at_publish, at_full, at_leave, at_rows, at_raise, at_found, after_item}

-- the flag that is awaited is below n
abbrev IsOwedBelow : ℕ → Owed → Type 0
IsOwedBelow n (Awaiting flag) = flag < n
IsOwedBelow n owed = Unit {0}

-- the flags that the rest of the script names, that is awaited, and that were found, are below n
pub record AreFlagsBelow (n : ℕ) (s : State) : Type 0 where
  pub rest : All (λ line. HasFlagBelow n line.act) s.rest
  pub owed : IsOwedBelow n s.owed
  pub found : All (λ pair. pair.0 < n) s.found

-- whatever the line still has to show besides
module _ (n : ℕ) where
  flags-either : (x y : State) (b : Bool) → AreFlagsBelow n x → AreFlagsBelow n y → AreFlagsBelow n (if b then x else y)
  flags-either x y true h k = h
  flags-either x y false h k = k

  flags-answering : (s : State) (ending : Ending) → AreFlagsBelow n s → AreFlagsBelow n (leaving_or_answering s ending)
  flags-answering s ending h =
      flags-either (record s { owed = Leaving ending }) (record s { owed = Answering ending }) (is_some s.mark && is_empty_set s.set)
      (record { rest = h.rest; owed = tt; found = h.found }) (record { rest = h.rest; owed = tt; found = h.found })

  flags-queueing : (s : State) (actions : List Action) (notes : List Note) (ending : Ending) → AreFlagsBelow n s → AreFlagsBelow n (queueing_or_settled s actions notes ending)
  flags-queueing s actions [] ending h = flags-answering (record s { set = _ }) ending (record { rest = h.rest; owed = h.owed; found = h.found })
  flags-queueing s actions (note ∷ notes) ending h = record { rest = h.rest; owed = tt; found = h.found }

  flags-committing : (s : State) (changes : List Change) (ending : Ending) → AreFlagsBelow n s → AreFlagsBelow n (committing s changes ending)
  flags-committing s changes ending h =
      let actions : List Action = surviving_actions changes in
      let notes : List Note = firsts (surviving_notes changes) in
      flags-either (record s { owed = Enlisting actions notes ending }) (queueing_or_settled s actions notes ending) (list_any is_listen actions && is_none s.mark)
      (record { rest = h.rest; owed = tt; found = h.found }) (flags-queueing s actions notes ending h)

  flags-owing : (s : State) (changes : List Change) (outcome : Outcome) → AreFlagsBelow n s → AreFlagsBelow n (owing s changes outcome)
  flags-owing s changes (Commits tag) h = flags-committing s changes _ h
  flags-owing s changes (Replies tag warning next) h = record { rest = h.rest; owed = tt; found = h.found }
  flags-owing s changes (Refuses refusal next) h = record { rest = h.rest; owed = tt; found = h.found }
  flags-owing s changes Silent h = h
  flags-owing s changes (GivesChannels names) h = record { rest = h.rest; owed = tt; found = h.found }
  flags-owing s changes GivesUsage h = record { rest = h.rest; owed = tt; found = h.found }

  flags-act : (s : State) (act : Act) → HasFlagBelow n act → AreFlagsBelow n s → AreFlagsBelow n (at_act s act)
  flags-act s (Run command) f h =
      let outcome : Outcome = answer s.block (live_names s.changes) s.set command in
      flags-owing (record s { block = next_state s.block outcome; changes = list_after s.changes command outcome }) (s.changes ++ changes_of command) outcome
      (record { rest = h.rest; owed = h.owed; found = h.found })
  flags-act s (Signal flag) f h = record { rest = h.rest; owed = tt; found = h.found }
  flags-act s (Await flag) f h = record { rest = h.rest; owed = f; found = h.found }
  flags-act s Quit f h =
      let ended : State = record s { block = Idle; changes = []; set = [] } in
      flags-either (record ended { owed = Quitting }) ended (is_some s.mark) (record { rest = h.rest; owed = tt; found = h.found }) (record { rest = h.rest; owed = h.owed; found = h.found })

  flags-line : (s : State) (lines : List ScriptLine) → All (λ line. HasFlagBelow n line.act) lines → AreFlagsBelow n s → AreFlagsBelow n (at_line s lines)
  flags-line s [] f h = record { rest = h.rest; owed = tt; found = h.found }
  flags-line s (line ∷ lines) f h =
      flags-act (record s { rest = lines }) line.act (All-head (λ l. HasFlagBelow n l.act) line lines f) (record { rest = All-tail (λ l. HasFlagBelow n l.act) line lines f; owed = h.owed; found = h.found })

  flags-enlist : (s : State) (owed : Owed) → AreFlagsBelow n s → AreFlagsBelow n (at_enlist s owed)
  flags-enlist s (Enlisting actions notes ending) h = flags-queueing s actions notes ending h
  flags-enlist s owed h = h

  flags-publish : (s : State) (owed : Owed) → AreFlagsBelow n s → AreFlagsBelow n (at_publish s owed)
  flags-publish s (Queueing actions notes ending) h = flags-answering (record s { set = _ }) ending (record { rest = h.rest; owed = h.owed; found = h.found })
  flags-publish s owed h = h

  flags-full : (s : State) (owed : Owed) → AreFlagsBelow n s → AreFlagsBelow n (at_full s owed)
  flags-full s (Queueing actions notes ending) h = flags-answering s _ h
  flags-full s owed h = h

  flags-leave : (s : State) (owed : Owed) → AreFlagsBelow n s → AreFlagsBelow n (at_leave s owed)
  flags-leave s (Leaving ending) h = record { rest = h.rest; owed = tt; found = h.found }
  flags-leave s owed h = record { rest = h.rest; owed = tt; found = h.found }

  flags-rows : (s : State) (owed : Owed) → AreFlagsBelow n s → AreFlagsBelow n (at_rows s owed)
  flags-rows s (Listing names ending) h = record { rest = h.rest; owed = tt; found = h.found }
  flags-rows s (Measuring ending) h = record { rest = h.rest; owed = tt; found = h.found }
  flags-rows s owed h = h

  flags-raise : (value : ℕ) (s : State) (owed : Owed) → AreFlagsBelow n s → AreFlagsBelow n (at_raise value s owed)
  flags-raise value s (Raising flag) h = record { rest = h.rest; owed = tt; found = h.found }
  flags-raise value s owed h = h

  flags-found : (value : ℕ) (s : State) (owed : Owed) → IsOwedBelow n owed → AreFlagsBelow n s → AreFlagsBelow n (at_found value s owed)
  flags-found value s (Awaiting flag) f h = record { rest = h.rest; owed = tt; found = All-push (λ pair. pair.0 < n) s.found (flag, value) h.found f }
  flags-found value s owed f h = h

  flags-item : (s : State) (item : Item) → AreFlagsBelow n s → AreFlagsBelow n (after_item s item)
  flags-item s (Line line) h = flags-line s s.rest h.rest h
  flags-item s (Enlist base point) h = flags-enlist (record s { mark = _; told = _; marks = _ }) s.owed (record { rest = h.rest; owed = h.owed; found = h.found })
  flags-item s (Publish xid notes) h = flags-publish (record s { told = _ }) s.owed (record { rest = h.rest; owed = h.owed; found = h.found })
  flags-item s (QueueFull full notes) h = flags-full (record s { told = _; named = _ }) s.owed (record { rest = h.rest; owed = h.owed; found = h.found })
  flags-item s Leave h = flags-leave (record s { mark = _ }) s.owed (record { rest = h.rest; owed = h.owed; found = h.found })
  flags-item s (Reply tag warning) h = record { rest = h.rest; owed = tt; found = h.found }
  flags-item s (Refuse refusal) h = record { rest = h.rest; owed = tt; found = h.found }
  flags-item s (Channels names) h = flags-rows s s.owed h
  flags-item s (Used usage) h = flags-rows (record s { named = _ }) s.owed (record { rest = h.rest; owed = h.owed; found = h.found })
  flags-item s (Raise value) h = flags-raise value s s.owed h
  flags-item s (Found value) h = flags-found value s s.owed h.owed h
  flags-item s (TimedOut looks) h = record { rest = h.rest; owed = tt; found = h.found }
  flags-item s (Read from to got) h = record { rest = h.rest; owed = h.owed; found = h.found }

  flags-items : (s : State) (items : List Item) → AreFlagsBelow n s → AreFlagsBelow n (fold after_item s items)
  flags-items s [] h = h
  flags-items s (item ∷ items) h = flags-items (after_item s item) items (flags-item s item h)

-- each flag that a trace shows as found is one that the script names
pub found-below : (n : ℕ) (section : Section) (items : List Item) → All (λ line. HasFlagBelow n line.act) section.lines → All (λ pair. pair.0 < n) (fold after_item (start section) items).found
found-below n section items h = (flags-items n (start section) items (record { rest = h; owed = tt; found = All-nil (λ pair. pair.0 < n) })).found
