-- States but for their numbers: what an item does to a state but for its numbers is told by the state but for its numbers.
use Rattle.std.proofs.Common.{◌≡◌, ℕ, ◌+◌, Bool, true, false, List, [], ◌∷◌, ◌++◌, Option, Some, None, sym, ap, ◌∙◌, refl}
use Rattle.std.specs.Prelude.{if◌then◌else◌, is_none, ◌&&◌, max}
use Rattle.std.specs.List.{list_any}
use Rattle.pgn_base.specs.declared.note.Note.{Note}
use Rattle.pgn_base.specs.declared.note.Delivery.{Delivery}
use Rattle.pgn_base.specs.declared.action.Action.{Action}
use Rattle.pgn_base.specs.declared.answers.Refusal.TheVariants as refused
use Rattle.pgn_base.specs.declared.queue_answers.Full.{Full}
use Rattle.pgn_base.specs.declared.queue_answers.Usage.{Usage}
use Rattle.pgn_base.specs.Channels.{applied}
use Rattle.pgn_answers.specs.Savepoints.{Change, live_names, surviving_actions, surviving_notes, firsts, is_listen, changes_of}
use Rattle.pgn_answers.specs.Answers.{Outcome, Commits, Replies, Refuses, Silent, GivesChannels, GivesUsage, answer, next_state, list_after}
use Rattle.pgn_language.specs.declared.scenario.Act.{Act}
use Rattle.pgn_language.specs.declared.scenario.Act.TheVariants.{Run, Signal, Await, Quit}
use Rattle.pgn_language.specs.declared.scenario.ScriptLine.{ScriptLine}
use Rattle.pgn_model.specs.declared.item.Item.TheVariants as item
use Rattle.pgn_model.specs.Walk as walk
use Rattle.pgn_model.specs.Walk.{State, Owed, Ending, Replied, Refused, after_item, at_line, at_act, at_enlist, at_publish, at_full, at_leave, at_rows, holder_at, is_empty_set, leaving_or_answering, settled, queueing_or_settled, committing, owing, quitting}

-- a listener, at whatever mark
abbrev pub plain_mark : Option ℕ → Option ℕ
plain_mark None = None
plain_mark (Some mark) = Some 0

-- a state but for its numbers
abbrev pub plain : State → State
plain s = record s { mark = plain_mark s.mark; told = 0; marks = []; raised = []; found = []; named = [] }

leaving-either : (s : State) (ending : Ending) (b : Bool)
    → plain (if b then record s { owed = walk.Leaving ending } else record s { owed = walk.Answering ending }) ≡ (let t : State = plain s in if b then record t { owed = walk.Leaving ending } else record t { owed = walk.Answering ending })
leaving-either s ending true = refl
leaving-either s ending false = refl

leaving-plain : (s : State) (ending : Ending) → plain (leaving_or_answering s ending) ≡ leaving_or_answering (plain s) ending
leaving-plain s ending = at s.mark
  where
    at : (m : Option ℕ) → (let t : State = record s { mark = m } in plain (leaving_or_answering t ending) ≡ leaving_or_answering (plain t) ending)
    at None = refl
    at (Some n) = leaving-either (record s { mark = Some n }) ending (is_empty_set s.set)

queueing-plain : (s : State) (actions : List Action) (notes : List Note) (ending : Ending) → plain (queueing_or_settled s actions notes ending) ≡ queueing_or_settled (plain s) actions notes ending
queueing-plain s actions [] ending = leaving-plain (record s { set = applied s.set actions }) ending
queueing-plain s actions (note ∷ notes) ending = refl

committing-plain : (s : State) (changes : List Change) (ending : Ending) → plain (committing s changes ending) ≡ committing (plain s) changes ending
committing-plain s changes ending = at s.mark (list_any is_listen (surviving_actions changes))
  where
    actions : List Action
    actions = surviving_actions changes

    notes : List Note
    notes = firsts (surviving_notes changes)

    at : (m : Option ℕ) (b : Bool)
        → (
        let t : State = record s { mark = m } in
        let p : State = plain t in
        plain (if b && is_none m then record t { owed = walk.Enlisting actions notes ending } else queueing_or_settled t actions notes ending)
        ≡ (if b && is_none (plain_mark m) then record p { owed = walk.Enlisting actions notes ending } else queueing_or_settled p actions notes ending))
    at None true = refl
    at None false = queueing-plain (record s { mark = None }) actions notes ending
    at (Some n) true = queueing-plain (record s { mark = Some n }) actions notes ending
    at (Some n) false = queueing-plain (record s { mark = Some n }) actions notes ending

owing-plain : (s : State) (changes : List Change) (outcome : Outcome) → plain (owing s changes outcome) ≡ owing (plain s) changes outcome
owing-plain s changes (Commits tag) = committing-plain s changes (Replied tag None)
owing-plain s changes (Replies tag warning next) = refl
owing-plain s changes (Refuses refusal next) = refl
owing-plain s changes Silent = refl
owing-plain s changes (GivesChannels names) = refl
owing-plain s changes GivesUsage = refl

quitting-plain : (s : State) → plain (quitting s) ≡ quitting (plain s)
quitting-plain s = at s.mark
  where
    at : (m : Option ℕ) → (let t : State = record s { mark = m } in plain (quitting t) ≡ quitting (plain t))
    at None = refl
    at (Some n) = refl

act-plain : (s : State) (act : Act) → plain (at_act s act) ≡ at_act (plain s) act
act-plain s (Run command) =
    let outcome : Outcome = answer s.block (live_names s.changes) s.set command in
    owing-plain (record s { block = next_state s.block outcome; changes = list_after s.changes command outcome }) (s.changes ++ changes_of command) outcome
act-plain s (Signal flag) = refl
act-plain s (Await flag) = refl
act-plain s Quit = quitting-plain s

-- two states that are the same but for their numbers
module _ (s t : State) (like : plain s ≡ plain t) where
  -- two states that are plainly the same have the same lines to come
  pub rest-like : t.rest ≡ s.rest
  rest-like = sym (ap (λ (u : State). u.rest) like)

  -- and owe the same
  pub owed-like : t.owed ≡ s.owed
  owed-like = sym (ap (λ (u : State). u.owed) like)

  -- a line leads both to plainly the same
  pub line-like : (line : ScriptLine) (lines : List ScriptLine) → s.rest ≡ line ∷ lines → plain (at_line s s.rest) ≡ plain (at_line t t.rest)
  line-like line lines e =
      ap (λ (ls : List ScriptLine). plain (at_line s ls)) e ∙ act-plain (record s { rest = lines }) line.act ∙ ap (λ (u : State). at_act (record u { rest = lines }) line.act) like
      ∙ sym (act-plain (record t { rest = lines }) line.act) ∙ ap (λ (ls : List ScriptLine). plain (at_line t ls)) (sym (rest-like ∙ e))

  -- so does an enlist, wherever it stands in the journal
  pub enlist-like : (actions : List Action) (notes : List Note) (ending : Ending) (b p b' p' : ℕ) → s.owed ≡ walk.Enlisting actions notes ending
      → plain (after_item s (item.Enlist b p)) ≡ plain (after_item t (item.Enlist b' p'))
  enlist-like actions notes ending b p b' p' e =
      let before : State = record s { mark = Some p; told = max s.told p; marks = s.marks ++ b ∷ [] ++ p ∷ [] } in
      let before' : State = record t { mark = Some p'; told = max t.told p'; marks = t.marks ++ b' ∷ [] ++ p' ∷ [] } in
      ap (λ (o : Owed). plain (at_enlist before o)) e ∙ queueing-plain before actions notes ending
      ∙ ap (λ (u : State). queueing_or_settled (record u { mark = Some 0 }) actions notes ending) like
      ∙ sym (queueing-plain before' actions notes ending) ∙ ap (λ (o : Owed). plain (at_enlist before' o)) (sym (owed-like ∙ e))

  -- a publish, whatever its number
  pub publish-like : (actions : List Action) (notes : List Note) (ending : Ending) (x x' : ℕ) (sent sent' : List Note) → s.owed ≡ walk.Queueing actions notes ending
      → plain (after_item s (item.Publish x sent)) ≡ plain (after_item t (item.Publish x' sent'))
  publish-like actions notes ending x x' sent sent' e =
      let before : State = record s { told = max s.told (x + 1) } in
      let before' : State = record t { told = max t.told (x' + 1) } in
      ap (λ (o : Owed). plain (at_publish before o)) e ∙ leaving-plain (record before { set = applied s.set actions }) ending
      ∙ ap (λ (u : State). settled u actions ending) like
      ∙ sym (leaving-plain (record before' { set = applied t.set actions }) ending) ∙ ap (λ (o : Owed). plain (at_publish before' o)) (sym (owed-like ∙ e))

  -- a full queue, whatever its measures
  pub full-like : (actions : List Action) (notes : List Note) (ending : Ending) (full full' : Full) (sent sent' : List Note) → s.owed ≡ walk.Queueing actions notes ending
      → plain (after_item s (item.QueueFull full sent)) ≡ plain (after_item t (item.QueueFull full' sent'))
  full-like actions notes ending full full' sent sent' e =
      let before : State = record s { told = max s.told (full.xid + 1); named = s.named ++ holder_at full.holder full.floor_mark } in
      let before' : State = record t { told = max t.told (full'.xid + 1); named = t.named ++ holder_at full'.holder full'.floor_mark } in
      ap (λ (o : Owed). plain (at_full before o)) e ∙ leaving-plain before (Refused refused.QueueFull)
      ∙ ap (λ (u : State). leaving_or_answering u (Refused refused.QueueFull)) like
      ∙ sym (leaving-plain before' (Refused refused.QueueFull)) ∙ ap (λ (o : Owed). plain (at_full before' o)) (sym (owed-like ∙ e))

  -- a leave
  pub leave-like : (ending : Ending) → s.owed ≡ walk.Leaving ending → plain (after_item s item.Leave) ≡ plain (after_item t item.Leave)
  leave-like ending e =
      let before : State = record s { mark = None } in
      let before' : State = record t { mark = None } in
      ap (λ (o : Owed). plain (at_leave before o)) e ∙ ap (λ (u : State). record u { mark = None; owed = walk.Answering ending }) like ∙ ap (λ (o : Owed). plain (at_leave before' o)) (sym (owed-like ∙ e))

  -- the same channels
  pub channels-like : (names : List (List ℕ)) (ending : Ending) → s.owed ≡ walk.Listing names ending → plain (after_item s (item.Channels names)) ≡ plain (after_item t (item.Channels names))
  channels-like names ending e =
      ap (λ (o : Owed). plain (at_rows s o)) e ∙ ap (λ (u : State). record u { owed = walk.Answering ending }) like ∙ ap (λ (o : Owed). plain (at_rows t o)) (sym (owed-like ∙ e))

  -- a usage, whatever it measures
  pub usage-like : (ending : Ending) (usage usage' : Usage) → s.owed ≡ walk.Measuring ending → plain (after_item s (item.Used usage)) ≡ plain (after_item t (item.Used usage'))
  usage-like ending usage usage' e =
      let before : State = record s { named = s.named ++ holder_at usage.holder usage.floor_mark } in
      let before' : State = record t { named = t.named ++ holder_at usage'.holder usage'.floor_mark } in
      ap (λ (o : Owed). plain (at_rows before o)) e ∙ ap (λ (u : State). record u { owed = walk.Answering ending }) like ∙ ap (λ (o : Owed). plain (at_rows before' o)) (sym (owed-like ∙ e))

  -- and an answer
  pub answer-like : plain (record s { owed = walk.Nothing }) ≡ plain (record t { owed = walk.Nothing })
  answer-like = ap (λ (u : State). record u { owed = walk.Nothing }) like

-- a read moves a mark, and nothing else
pub read-like : (s : State) (from to : ℕ) (got : List Delivery) → s.mark ≡ Some from → plain (after_item s (item.Read from to got)) ≡ plain s
read-like s from to got e = ap (λ (m : Option ℕ). let t : State = record s { mark = plain_mark m; told = 0; marks = []; raised = []; found = []; named = [] } in t) (sym e)
