-- From a step by the table to what the contract of a block's step says.
use Rattle.std.proofs.Common.{◌≡◌, ◌↔◌, ℕ, true, IsTrue, List, [], ◌++◌, Result, Ok, Err, IfOk, OnOk, OnErr, IsErr, refl, sym, ap, subst, ◌∙◌}
use Rattle.std.proofs.lemmas.Bool.{false≢true}
use Rattle.std.specs.declared.alloc.AllocError.{AllocError}
use Rattle.pgn_answers.specs.declared.block_state.BlockState.{BlockState}
use Rattle.pgn_answers.specs.declared.block_state.BlockState.TheVariants.{Idle, InBlock, Failed}
use Rattle.pgn_base.specs.declared.command.Command.{Command}
use Rattle.pgn_base.specs.declared.command.Command.TheVariants.{Empty}
use Rattle.pgn_answers.specs.Answers.{Outcome, Commits, Replies, Refuses, Silent, GivesChannels, GivesUsage, answer, next_state, list_after}
use Rattle.pgn_answers.specs.laws.Answers.{is_silent, is_empty_line}
use Rattle.pgn_answers.specs.Savepoints.{Change, changes_of, live_names}
use Rattle.pgn_answers.proofs.AnswerLemmas.{silent-empty}
use Rattle.pgn_block.specs.Kept.{HasHistory, StandsFor}
use Rattle.pgn_block.specs.declared.effect.Effect.{Effect}
use Rattle.pgn_block.specs.declared.effect.Effect.TheVariants.{Nothing}
use Rattle.pgn_block.specs.declared.stage.Stage.{Stage}
use Rattle.pgn_block.specs.Views.{BlockView, view_of}
use Rattle.pgn_block.specs.Effects.{effect_of, takes_memory}
use Rattle.pgn_block.specs.Steps.{IsStep, list_with}

-- with what a command puts into it, the list is the one that the table leaves
list_with-list_after : (changes : List Change) (command : Command) (outcome : Outcome) → list_with changes (changes_of command) outcome ≡ list_after changes command outcome
list_with-list_after changes command (Commits tag) = refl
list_with-list_after changes command (Replies tag warning Idle) = refl
list_with-list_after changes command (Replies tag warning InBlock) = refl
list_with-list_after changes command (Replies tag warning Failed) = refl
list_with-list_after changes command outcome = refl

-- the effect of a step
pub step-effect : (old : BlockView) (stage : Stage) (command : Command) (result : Result Effect AllocError) (new : Stage) → view_of stage ≡ old → IfOk result (λ effect. IsStep stage command effect new)
    → IfOk result (λ effect. (changes : List Change) (set : List (List ℕ)) → StandsFor changes old.kept → effect ≡ effect_of (changes ++ changes_of command) (answer old.state (live_names changes) set command))
step-effect old stage command (Ok effect) new same step =
    subst (λ (view : BlockView). (changes : List Change) (set : List (List ℕ)) → StandsFor changes view.kept → effect ≡ effect_of (changes ++ changes_of command) (answer view.state (live_names changes) set command)) same
    (λ changes set h. (step set).gives changes h)
step-effect old stage command (Err error) new same step = tt

-- the state that it leads to
pub step-state : (old : BlockView) (stage : Stage) (command : Command) (result : Result Effect AllocError) (new : Stage) → view_of stage ≡ old → IfOk result (λ effect. IsStep stage command effect new)
    → OnOk result ((changes : List Change) (set : List (List ℕ)) → StandsFor changes old.kept → (view_of new).state ≡ next_state old.state (answer old.state (live_names changes) set command))
step-state old stage command (Ok effect) new same step =
    subst (λ (view : BlockView). (changes : List Change) (set : List (List ℕ)) → StandsFor changes view.kept → (view_of new).state ≡ next_state view.state (answer view.state (live_names changes) set command)) same
    (λ changes set h. (step set).leads changes h)
step-state old stage command (Err error) new same step = tt

-- the list that it leaves
pub step-list : (old : BlockView) (stage : Stage) (command : Command) (result : Result Effect AllocError) (new : Stage) → view_of stage ≡ old → IfOk result (λ effect. IsStep stage command effect new)
    → OnOk result ((changes : List Change) (set : List (List ℕ)) → StandsFor changes old.kept → StandsFor (list_after changes command (answer old.state (live_names changes) set command)) (view_of new).kept)
step-list old stage command (Ok effect) new same step =
    subst (λ (view : BlockView). (changes : List Change) (set : List (List ℕ)) → StandsFor changes view.kept → StandsFor (list_after changes command (answer view.state (live_names changes) set command)) (view_of new).kept) same
    (λ changes set h. subst (λ (list : List Change). StandsFor list (view_of new).kept) (list_with-list_after changes command (answer (view_of stage).state (live_names changes) set command)) ((step set).leaves changes h))
step-list old stage command (Err error) new same step = tt

-- a history stands before a step and after it
pub step-history : (old : Stage) (command : Command) (result : Result Effect AllocError) (new : Stage) → IfOk result (λ effect. IsStep old command effect new) → OnErr result (new ≡ old)
    → HasHistory (view_of old).kept → HasHistory (view_of new).kept
step-history old command (Ok effect) new step same history =
    (list_with history.0 (changes_of command) (answer (view_of old).state (live_names history.0) [] command), (step []).leaves history.0 history.1)
step-history old command (Err error) new step same history = subst (λ (stage : Stage). HasHistory (view_of stage).kept) (sym same) history

-- where nothing is given the outcome is silent
silent-nothing : (changes : List Change) (outcome : Outcome) → effect_of changes outcome ≡ Nothing → is_silent outcome ≡ true
silent-nothing changes Silent nothing = refl
silent-nothing changes (Commits tag) nothing = absurd (cc)
silent-nothing changes (Replies tag warning next) nothing = absurd (cc)
silent-nothing changes (Refuses refusal next) nothing = absurd (cc)
silent-nothing changes (GivesChannels names) nothing = absurd (cc)
silent-nothing changes GivesUsage nothing = absurd (cc)

-- the command of an empty line is Empty
empty-empty_line : (command : Command) → is_empty_line command ≡ true → command ≡ Empty
empty-empty_line Empty empty = refl
empty-empty_line command empty = absurd (cc)

-- an empty line gives nothing in each state
empty-nothing : (state : BlockState) (changes : List Change) (live set : List (List ℕ)) → effect_of changes (answer state live set Empty) ≡ Nothing
empty-nothing Idle changes live set = refl
empty-nothing InBlock changes live set = refl
empty-nothing Failed changes live set = refl

-- where nothing is given the line is empty
nothing-empty : (old : Stage) (command : Command) (result : Result Effect AllocError) (new : Stage) → IfOk result (λ effect. IsStep old command effect new) → HasHistory (view_of old).kept
    → result ≡ Ok Nothing → command ≡ Empty
nothing-empty old command (Err error) new step history nothing = absurd (cc)
nothing-empty old command (Ok effect) new step history nothing =
    let given : effect ≡ Nothing = cc in
    let by_table : effect ≡ effect_of (history.0 ++ changes_of command) (answer (view_of old).state (live_names history.0) [] command) = (step []).gives history.0 history.1 in
    empty-empty_line command (sym (silent-empty (view_of old).state (live_names history.0) [] command) ∙ silent-nothing (history.0 ++ changes_of command) (answer (view_of old).state (live_names history.0) [] command) (sym by_table ∙ given))

-- for an empty line nothing is given
empty-gives_nothing : (state : BlockState) (old : Stage) (result : Result Effect AllocError) (new : Stage) → IfOk result (λ effect. IsStep old Empty effect new) → (IsErr result → IsTrue (takes_memory state Empty)) → HasHistory (view_of old).kept
    → result ≡ Ok Nothing
empty-gives_nothing state old (Ok effect) new step memory history =
    let by_table : effect ≡ Nothing = (step []).gives history.0 history.1 ∙ empty-nothing (view_of old).state (history.0 ++ []) (live_names history.0) [] in
    ap (λ (given : Effect). let done : Result Effect AllocError = Ok given in done) by_table
empty-gives_nothing state old (Err error) new step memory history = absurd (false≢true (memory refl))

-- nothing is given exactly for an empty line
pub step-nothing : (state : BlockState) (old : Stage) (command : Command) (result : Result Effect AllocError) (new : Stage) → IfOk result (λ effect. IsStep old command effect new) → (IsErr result → IsTrue (takes_memory state command))
    → HasHistory (view_of old).kept → (result ≡ Ok Nothing) ↔ (command ≡ Empty)
step-nothing state old command result new step memory history = (
  nothing-empty old command result new step history,
  λ empty. empty-gives_nothing state old result new (subst (λ (other : Command). IfOk result (λ effect. IsStep old other effect new)) empty step)
      (subst (λ (other : Command). IsErr result → IsTrue (takes_memory state other)) empty memory) history,
)

-- what holds whatever the listening set
pub each-set : {X E : Type 0} (r : Result X E) (Q : X → Type 0) → IfOk r Q → IfOk r (λ x. (set : List (List ℕ)) → Q x)
each-set (Ok x) Q h = λ set. h
each-set (Err e) Q h = tt
