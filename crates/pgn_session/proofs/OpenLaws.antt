-- A session whose script is open: what is to come of it, and how lines are put in.
use Rattle.std.proofs.Common.{◌≡◌, ℕ, ◌+◌, false, true≢false, List, [], ◌∷◌, ◌++◌, length, drop, fold, Option, None, sym, ap, ◌∙◌, subst, arith, append_assoc}
use Rattle.std.proofs.lemmas.List.{length-append}
use lib.Seq.{drop-append_seam}
use Rattle.pgn_language.specs.declared.scenario.Act.{Act}
use Rattle.pgn_language.specs.declared.scenario.ScriptLine.{ScriptLine}
use Rattle.pgn_language.specs.declared.scenario.Section.{Section}
use Rattle.pgn_language.specs.Inputs.{note_lines_of}
use Rattle.pgn_model.specs.declared.item.Item.{Item}
use Rattle.pgn_model.specs.Walk.{Terms, State, start, after_item}
use Rattle.pgn_model.specs.Trace.{IsReadUp, next_reads_first, reads_first, state_after}
use Rattle.pgn_hub.specs.declared.known.Known.{Known}
use Rattle.pgn_hub.specs.Shape.{Shape}
use Rattle.pgn_block.specs.Views.{BlockView}
use Rattle.pgn_session.specs.declared.session.Session.{Session}
use Rattle.pgn_session.specs.declared.doing.FlagPlan.{FlagPlan}
use Rattle.pgn_session.specs.declared.doing.Doing.{Doing}
use Rattle.pgn_session.specs.declared.doing.Doing.TheVariants.{Lines}
use Rattle.pgn_session.specs.Standing.{IsFlagBelow, IsRested, IsServedBy, terms_of}
use Rattle.pgn_session.specs.Whole.{HasAnswer, HasRest, IsSameScript}
use Rattle.pgn_session.specs.Feed.{EndsByQuit, fed}
use Rattle.pgn_session.specs.FirstRead.{HasReadTold, IsToReadFirst}
use Rattle.pgn_session.specs.Open.{BeginsEmpty, HasReadOutside, HasStood, IsBefore, IsOpen, IsSameClient, RunsCommand}
use Rattle.pgn_session.proofs.FeedLaws.{fed-served, fed-split, notes-append}

-- a session that has rested, or answered, has a lawful trace
pub stood-rest : {P : Type 0} (shape : Shape) (known : P → Known) (s : Session P) → HasRest shape known s → HasStood shape known s
stood-rest shape known s h = record { state = h.state; stands = h.stands }

-- a session that has answered stands at some state of the walk
pub stood-answer : {P : Type 0} (shape : Shape) (known : P → Known) (s : Session P) → HasAnswer shape known s → HasStood shape known s
stood-answer shape known s h = record { state = h.state; stands = h.stands }

-- the lines that are to come after the items so far
pub rested-rest : {P : Type 0} (shape : Shape) (known : P → Known) (s : Session P) → HasRest shape known s → (fold after_item (start s.section) s.items.items).rest ≡ drop s.done s.section.lines
rested-rest shape known s h = ap (λ (t : State). t.rest) h.stands.holds.stands_fresh.stands.state ∙ h.rest

-- the block is the walk's
block-at : (terms : Terms) (plan : FlagPlan) (done : ℕ) (block : BlockView) (set : List (List ℕ)) (doing : Doing) (k : Known) (items : List Item) → doing ≡ Lines
    → IsRested terms plan done block set doing k items → (state_after terms items).block ≡ block.state
block-at terms plan done block set doing k items e h =
    let rested : IsRested terms plan done block set Lines k items = subst (λ (d : Doing). IsRested terms plan done block set d k items) e h in
    ap (λ (t : State). t.block) rested.stands.holds.stands_fresh.stands.state ∙ rested.here.0.block_state

-- between two lines the walk's block is the session's
pub rested-block : {P : Type 0} (shape : Shape) (known : P → Known) (s : Session P) → s.doing ≡ Lines → HasRest shape known s → (fold after_item (start s.section) s.items.items).block ≡ s.block.state
rested-block shape known s e h = block-at (terms_of shape s.section s.patience) s.plan s.done s.block s.set.channels s.doing (known s.pass) s.items.items e h

-- a session that may begin is open, and is no listener
abbrev pub begins-open : {P : Type 0} (s : Session P) → BeginsEmpty s → IsOpen s
begins-open s h = record { ends = record { front = []; last = h.last; split = h.lines; quits = h.quits }; begun = h.begun; between = h.between }

-- a session that begins has no read to make up for
pub begins-read : {P : Type 0} (shape : Shape) (known : P → Known) (s : Session P) → HasRest shape known s → BeginsEmpty s → HasReadOutside known s
begins-read shape known s h begins =
    let terms : Terms = terms_of shape s.section s.patience in
    let none : ◌≡◌ {A = Option ℕ} None (known s.pass).mark =
    ap (λ (items : List Item). (state_after terms items).mark) (sym begins.shown) ∙ ap (λ (t : State). t.mark) h.stands.holds.stands_fresh.stands.state ∙ h.stands.mark in
    λ idle. subst (λ (mark : Option ℕ). IsReadUp mark (known s.pass).told) none tt

-- what is to come of an open session is its `\quit`
pub open-comes : {P : Type 0} (s : Session P) → (h : IsOpen s) → drop s.done s.section.lines ≡ h.ends.last ∷ []
open-comes s h =
    ap (λ (n : ℕ). drop n s.section.lines) h.begun ∙ ap (λ (ls : List ScriptLine). drop (length h.ends.front) ls) h.ends.split ∙ drop-append_seam h.ends.front (h.ends.last ∷ [])

-- to the walk of an open session only the `\quit` is still to come
pub open-rest : {P : Type 0} (shape : Shape) (known : P → Known) (s : Session P) → (h : IsOpen s) → HasRest shape known s → (fold after_item (start s.section) s.items.items).rest ≡ h.ends.last ∷ []
open-rest shape known s h rested = rested-rest shape known s rested ∙ open-comes s h

-- before it nothing is to be read
pub quit-unread : {P : Type 0} (s : Session P) → IsOpen s → IsToReadFirst s → ⊥
quit-unread s h first =
    let none : next_reads_first (drop s.done s.section.lines) ≡ false = ap next_reads_first (open-comes s h) ∙ ap reads_first h.ends.quits in
    true≢false (sym first.next ∙ none)

-- a session into whose script a line was put stands before it
abbrev pub fed-before : {P : Type 0} (old once : Session P) (line : ScriptLine) → IsOpen old → once ≡ record old { section = fed old.section line } → IsBefore once line
fed-before {P} old once line h e = record {
  front = h.ends.front;
  last = h.ends.last;
  split = ap (λ (s : Session P). s.section.lines) e ∙ fed-split old.section line h.ends;
  quits = h.ends.quits;
  begun = ap (λ (s : Session P). s.done) e ∙ h.begun;
  between = ap (λ (s : Session P). s.doing) e ∙ h.between;
}

-- it does so still where it has read
abbrev pub read-before : {P : Type 0} (old new : Session P) (line : ScriptLine) → IsBefore old line → new ≡ record old { pass = new.pass; items = new.items } → IsBefore new line
read-before {P} old new line h e = record {
  front = h.front;
  last = h.last;
  split = ap (λ (s : Session P). s.section.lines) e ∙ h.split;
  quits = h.quits;
  begun = ap (λ (s : Session P). s.done) e ∙ h.begun;
  between = ap (λ (s : Session P). s.doing) e ∙ h.between;
}

-- what is to come of it
pub before-comes : {P : Type 0} (s : Session P) (line : ScriptLine) → (h : IsBefore s line) → drop s.done s.section.lines ≡ line ∷ h.last ∷ []
before-comes s line h =
    ap (λ (n : ℕ). drop n s.section.lines) h.begun ∙ ap (λ (ls : List ScriptLine). drop (length h.front) ls) h.split ∙ drop-append_seam h.front (line ∷ h.last ∷ [])

-- to that of a session before a line, the line and the `\quit` are
pub before-rest : {P : Type 0} (shape : Shape) (known : P → Known) (s : Session P) (line : ScriptLine) → (h : IsBefore s line) → HasRest shape known s
    → (fold after_item (start s.section) s.items.items).rest ≡ line ∷ h.last ∷ []
before-rest shape known s line h rested = rested-rest shape known s rested ∙ before-comes s line h

-- once the line has begun the session is open again
abbrev pub before-open : {P : Type 0} (old new : Session P) (line : ScriptLine) → IsBefore old line → new.section ≡ old.section → new.done ≡ old.done + 1 → new.doing ≡ Lines → IsOpen new
before-open old new line h section counted between = record {
  ends = record {
    front = h.front ++ line ∷ [];
    last = h.last;
    split = ap (λ (s : Section). s.lines) section ∙ h.split ∙ sym (append_assoc h.front (line ∷ []) (h.last ∷ []));
    quits = h.quits;
  };
  begun = counted ∙ ap (λ (n : ℕ). n + 1) h.begun ∙ sym (length-append h.front (line ∷ []));
  between = between;
}

-- a line that was put in changes nothing of what was read
pub fed-read : {P : Type 0} (known : P → Known) (old once : Session P) (line : ScriptLine) → once ≡ record old { section = fed old.section line } → HasReadOutside known old
    → IsToReadFirst once → HasReadTold (known once.pass)
fed-read {P} known old once line e read first =
    subst (λ (s : Session P). HasReadTold (known s.pass)) (sym e) (read (sym (ap (λ (s : Session P). s.block.state) e) ∙ first.outside))

-- no flag stands in a line that runs a command
runs-flagless : (flags : ℕ) (line : ScriptLine) → RunsCommand line → IsFlagBelow flags line.act
runs-flagless flags line h = subst (λ (act : Act). IsFlagBelow flags act) (sym h.1) tt

-- so the hub serves the session still
pub fed-runs_served : {P : Type 0} (shape : Shape) (old new : Session P) (line : ScriptLine) → IsOpen old → RunsCommand line → new.section ≡ fed old.section line → IsSameClient old new
    → IsServedBy shape old.section old.plan → IsServedBy shape new.section new.plan
fed-runs_served shape old new line is_open h section same served =
    subst (λ (plan : FlagPlan). IsServedBy shape new.section plan) (sym same.plan)
    (subst (λ (s : Section). IsServedBy shape s old.plan) (sym section) (fed-served shape old.section old.plan line is_open.ends (runs-flagless shape.flags line h) served))

-- with one line more so many notify
pub notes-fed : (section : Section) (line : ScriptLine) → EndsByQuit section.lines → note_lines_of (fed section line).lines ≡ note_lines_of section.lines + note_lines_of (line ∷ [])
notes-fed section line ends =
    let new : note_lines_of (fed section line).lines ≡ note_lines_of ends.front + note_lines_of (line ∷ ends.last ∷ []) = ap note_lines_of (fed-split section line ends) ∙ notes-append ends.front (line ∷ ends.last ∷ []) in
    let old : note_lines_of section.lines ≡ note_lines_of ends.front + note_lines_of (ends.last ∷ []) = ap note_lines_of ends.split ∙ notes-append ends.front (ends.last ∷ []) in
    let more : note_lines_of (line ∷ ends.last ∷ []) ≡ note_lines_of (line ∷ []) + note_lines_of (ends.last ∷ []) = notes-append (line ∷ []) (ends.last ∷ []) in
    omega (arith, new, old, more)

-- the same client, over two calls
pub same-client : {P : Type 0} (a b c : Session P) → IsSameClient a b → IsSameClient b c → IsSameClient a c
same-client a b c h k = record {
  section = k.section ∙ ap (λ (s : Section). record s { lines = c.section.lines }) h.section;
  plan = k.plan ∙ h.plan;
  patience = k.patience ∙ h.patience;
}

-- over a call that leaves the script
pub quit-same : {P : Type 0} (a b c : Session P) → IsSameClient a b → IsSameScript b c → IsSameClient a c
quit-same a b c h k = record {
  section = k.section ∙ h.section ∙ ap (λ (s : Section). record a.section { lines = s.lines }) (sym k.section);
  plan = k.plan ∙ h.plan;
  patience = k.patience ∙ h.patience;
}
