-- What the steps of an answer leave as it is.
use Rattle.std.proofs.Common.{◌≡◌, ℕ, ◌≤◌, Bool, true, false, List, [], ◌∷◌, ◌++◌, Option, if◌then◌else◌, is_some, is_none, ◌&&◌, refl, arith}
use Rattle.std.specs.List.{list_any}
use Rattle.pgn_base.specs.declared.note.Note.{Note}
use Rattle.pgn_base.specs.declared.action.Action.{Action}
use Rattle.pgn_language.specs.declared.scenario.Act.{Act}
use Rattle.pgn_language.specs.declared.scenario.Act.TheVariants.{Run, Signal, Await, Quit}
use Rattle.pgn_language.specs.declared.scenario.ScriptLine.{ScriptLine}
use Rattle.pgn_answers.specs.Savepoints.{Change, surviving_actions, surviving_notes, firsts, is_listen, live_names, changes_of}
use Rattle.pgn_answers.specs.Answers.{Outcome, Commits, Replies, Refuses, Silent, GivesChannels, GivesUsage, answer, next_state, list_after}
use Rattle.pgn_model.specs.Walk.{State, Owed, Enlisting, Queueing, Leaving, Answering, Listing, Measuring, Raising, Awaiting, Quitting, Ending, is_empty_set, leaving_or_answering, queueing_or_settled, committing, owing, at_act, at_line, at_enlist, at_publish, at_full, at_leave, at_rows, at_raise, at_found}
use Rattle.pgn_answers.specs.declared.block_state.BlockState.{BlockState}
use Rattle.pgn_answers.specs.declared.block_state.BlockState.TheVariants.{Idle}

-- what the walk carries beside the script, what a line still has to show, and the set
pub record Carried : Type 0 where
  pub told : ℕ
  pub mark : Option ℕ
  pub marks : List ℕ
  pub found : List (ℕ × ℕ)
  pub block : BlockState
  pub changes : List Change

-- what is carried in a state
abbrev pub carried : State → Carried
carried s = record { told = s.told; mark = s.mark; marks = s.marks; found = s.found; block = s.block; changes = s.changes }

pub carried-either : (x y : State) (c : Carried) (b : Bool) → carried x ≡ c → carried y ≡ c → carried (if b then x else y) ≡ c
carried-either x y c true h k = h
carried-either x y c false h k = k

pub carried-answering : (s : State) (ending : Ending) → carried (leaving_or_answering s ending) ≡ carried s
carried-answering s ending = carried-either (record s { owed = Leaving ending }) (record s { owed = Answering ending }) (carried s) (is_some s.mark && is_empty_set s.set) refl refl

pub carried-queueing : (s : State) (actions : List Action) (notes : List Note) (ending : Ending) → carried (queueing_or_settled s actions notes ending) ≡ carried s
carried-queueing s actions [] ending = carried-answering (record s { set = _ }) ending
carried-queueing s actions (note ∷ notes) ending = refl

pub carried-committing : (s : State) (changes : List Change) (ending : Ending) → carried (committing s changes ending) ≡ carried s
carried-committing s changes ending =
    let actions : List Action = surviving_actions changes in
    let notes : List Note = firsts (surviving_notes changes) in
    carried-either (record s { owed = Enlisting actions notes ending }) (queueing_or_settled s actions notes ending) (carried s) (list_any is_listen actions && is_none s.mark) refl (carried-queueing s actions notes ending)

pub carried-owing : (s : State) (changes : List Change) (outcome : Outcome) → carried (owing s changes outcome) ≡ carried s
carried-owing s changes (Commits tag) = carried-committing s changes _
carried-owing s changes (Replies tag warning next) = refl
carried-owing s changes (Refuses refusal next) = refl
carried-owing s changes Silent = refl
carried-owing s changes (GivesChannels names) = refl
carried-owing s changes GivesUsage = refl

-- the state of the block, and its list, after the beginning of a line
abbrev pub block_after_act : State → Act → BlockState
block_after_act s (Run command) = next_state s.block (answer s.block (live_names s.changes) s.set command)
block_after_act s Quit = Idle
block_after_act s act = s.block

-- the list of the block after an act
abbrev pub list_after_act : State → Act → List Change
list_after_act s (Run command) = list_after s.changes command (answer s.block (live_names s.changes) s.set command)
list_after_act s Quit = []
list_after_act s act = s.changes

-- the block's state after the next line's beginning, where there is one
abbrev pub block_after_line : State → List ScriptLine → BlockState
block_after_line s [] = s.block
block_after_line s (line ∷ lines) = block_after_act s line.act

-- and its list
abbrev pub list_after_line : State → List ScriptLine → List Change
list_after_line s [] = s.changes
list_after_line s (line ∷ lines) = list_after_act s line.act

-- the beginning of a line changes the block and its list alone
abbrev pub begun : State → State
begun s = record s { block = block_after_line s s.rest; changes = list_after_line s s.rest }

pub carried-act : (s : State) (act : Act) → carried (at_act s act) ≡ carried (record s { block = block_after_act s act; changes = list_after_act s act })
carried-act s (Run command) =
    let outcome : Outcome = answer s.block (live_names s.changes) s.set command in
    carried-owing (record s { block = next_state s.block outcome; changes = list_after s.changes command outcome }) (s.changes ++ changes_of command) outcome
carried-act s (Signal flag) = refl
carried-act s (Await flag) = refl
carried-act s Quit =
    let ended : State = record s { block = Idle; changes = []; set = [] } in
    carried-either (record ended { owed = Quitting }) ended (carried ended) (is_some s.mark) refl refl

-- a line that begins changes the block and its list, and nothing else that is carried
pub carried-line : (s : State) (lines : List ScriptLine) → carried (at_line s lines) ≡ carried (record s { block = block_after_line s lines; changes = list_after_line s lines })
carried-line s [] = refl
carried-line s (line ∷ lines) = carried-act (record s { rest = lines }) line.act

-- what is put into the listening set changes nothing that is carried
pub carried-enlist : (s : State) (owed : Owed) → carried (at_enlist s owed) ≡ carried s
carried-enlist s (Enlisting actions notes ending) = carried-queueing s actions notes ending
carried-enlist s owed = refl

-- nor does what is published
pub carried-publish : (s : State) (owed : Owed) → carried (at_publish s owed) ≡ carried s
carried-publish s (Queueing actions notes ending) = carried-answering (record s { set = _ }) ending
carried-publish s owed = refl

-- nor does a full queue
pub carried-full : (s : State) (owed : Owed) → carried (at_full s owed) ≡ carried s
carried-full s (Queueing actions notes ending) = carried-answering s _
carried-full s owed = refl

-- nor that the session leaves
pub carried-leave : (s : State) (owed : Owed) → carried (at_leave s owed) ≡ carried s
carried-leave s (Leaving ending) = refl
carried-leave s owed = refl

-- nor rows that are shown
pub carried-rows : (s : State) (owed : Owed) → carried (at_rows s owed) ≡ carried s
carried-rows s (Listing names ending) = refl
carried-rows s (Measuring ending) = refl
carried-rows s owed = refl

-- nor a flag that is raised
pub carried-raise : (value : ℕ) (s : State) (owed : Owed) → carried (at_raise value s owed) ≡ carried s
carried-raise value s (Raising flag) = refl
carried-raise value s owed = refl

-- of what is carried a flag that is found changes what was told and what was found
pub marks-found : (value : ℕ) (s : State) (owed : Owed) → carried (at_found value s owed) ≡ record { told = (at_found value s owed).told; mark = s.mark; marks = s.marks; found = (at_found value s owed).found; block = s.block; changes = s.changes }
marks-found value s (Awaiting flag) = refl
marks-found value s owed = refl

-- who finds a flag is told of no more than it knew or the flag says
pub told-found : (value : ℕ) (s : State) (owed : Owed) (n : ℕ) → value ≤ n → s.told ≤ n → (at_found value s owed).told ≤ n
told-found value s (Awaiting flag) n h k = omega arith
told-found value s owed n h k = k
