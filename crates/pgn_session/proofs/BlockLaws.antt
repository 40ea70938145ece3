-- A line that the block alone answers.
use Rattle.std.proofs.Common.{◌≡◌, ℕ, ◌+◌, ◌≤◌, Bool, true, false, true≢false, cond, List, [], ◌∷◌, ◌++◌, length, drop, Option, None, All, sym, ap, ◌∙◌, refl, subst, arith}
use Rattle.std.proofs.lemmas.List.Sums.{sum_by-cons}
use Rattle.std.proofs.lemmas.List.Elements.{All-push}
use Rattle.pgn_base.specs.declared.answers.Tag.TheVariants as tag
use Rattle.pgn_base.specs.declared.answers.Refusal.TheVariants.{NeedsBlock, NoSavepoint}
use Rattle.pgn_base.specs.declared.answers.Needs.TheVariants as needs
use Rattle.pgn_base.specs.Names.{has_name}
use Rattle.pgn_answers.specs.declared.block_state.BlockState.{BlockState}
use Rattle.pgn_answers.specs.declared.block_state.BlockState.TheVariants.{Idle, InBlock, Failed}
use Rattle.pgn_base.specs.declared.command.Command.{Command}
use Rattle.pgn_base.specs.declared.command.Command.TheVariants as command
use Rattle.pgn_language.specs.declared.scenario.Act.{Act}
use Rattle.pgn_language.specs.declared.scenario.Act.TheVariants.{Run}
use Rattle.pgn_language.specs.declared.scenario.ScriptLine.{ScriptLine}
use Rattle.pgn_model.specs.declared.item.Item.{Item}
use Rattle.pgn_model.specs.declared.item.Item.TheVariants as item
use Rattle.pgn_hub.specs.declared.known.Known.{Known}
use Rattle.pgn_answers.specs.Savepoints.{Change, changes_of, live_names, count_noted}
use Rattle.pgn_answers.proofs.NotedLemmas.{noted-after}
use Rattle.pgn_language.specs.Inputs.{QuitsLast, note_lines_of, is_note_command, is_note_act}
use Rattle.pgn_answers.specs.Answers.{Outcome, Commits, Replies, Refuses, Silent, GivesChannels, GivesUsage, answer, next_state, list_after, in_state, ignored}
use Rattle.pgn_model.specs.Walk.{Terms, State, Nothing}
use Rattle.pgn_model.specs.Legal.{IsFullThere, finished_xids}
use Rattle.pgn_model.specs.Trace.{IsReadUp, reads_first, next_reads_first}
use Rattle.pgn_model.specs.laws.NextLine.{StandsFresh, ComesNext, outcome_in}
use Rattle.pgn_model.proofs.NextLineLaws.{line-replies, line-refuses, line-is_silent, line-gives_channels, finished-more}
use Rattle.pgn_block.specs.Kept.{StandsFor}
use Rattle.pgn_block.specs.Views.{BlockView}
use Rattle.pgn_block.specs.Effects.{effect_of}
use Rattle.pgn_block.specs.declared.effect.Effect.{Effect}
use Rattle.pgn_session.specs.declared.doing.FlagPlan.{FlagPlan}
use Rattle.pgn_session.specs.declared.doing.Doing.TheVariants.{Lines}
use Rattle.pgn_session.specs.Parts.{HasTaken, answered_items, IsToldByBlock}
use Rattle.pgn_session.specs.FirstRead.{HasReadFor}
use Rattle.pgn_session.specs.Standing.{IsAnswered, IsRested, spare_of}

-- a command puts a notification into the list where it notifies
pub noted-one : (c : Command) → count_noted (changes_of c) ≡ cond (is_note_command c) 1 0
noted-one (command.Savepoint name) = refl
noted-one (command.RollbackTo name) = refl
noted-one (command.Release name) = refl
noted-one (command.Listen name) = refl
noted-one (command.Unlisten name) = refl
noted-one command.UnlistenAll = refl
noted-one (command.Notify note) = refl
noted-one (command.PgNotify note) = refl
noted-one other = refl

-- the notifications that may still come, as a line is done
pub budget-line : (spare : ℕ) (changes : List Change) (c : Command) (outcome : Outcome) (line : ScriptLine) (lines rest : List ScriptLine) (left : ℕ) → rest ≡ line ∷ lines → line.act ≡ Run c
    → spare + count_noted changes + note_lines_of rest ≤ left → spare + count_noted (list_after changes c outcome) + note_lines_of lines ≤ left
budget-line spare changes c outcome line lines rest left e does h =
    let all : note_lines_of rest ≡ cond (is_note_act line.act) 1 0 + note_lines_of lines = ap note_lines_of e ∙ sum_by-cons (λ (l : ScriptLine). cond (is_note_act l.act) 1 0) line lines in
    let one : cond (is_note_act line.act) 1 0 ≡ count_noted (changes_of c) = ap (λ (a : Act). cond (is_note_act a) 1 0) does ∙ sym (noted-one c) in
    omega (arith, noted-after changes c outcome)

-- the next line comes next
pub comes : (terms : Terms) (plan : FlagPlan) (done : ℕ) (block : BlockView) (set : List (List ℕ)) (k : Known) (items : List Item) (line : ScriptLine) (act : Act) (lines : List ScriptLine)
    → (h : IsRested terms plan done block set Lines k items) → drop done terms.section.lines ≡ line ∷ lines → line.act ≡ act → HasReadFor act block.state k → ComesNext terms k.seen h.state line act lines
comes terms plan done block set k items line act lines h e does read = record {
  answered = h.here.0.owes;
  next = h.rest ∙ e;
  does = does;
  fresh = λ idle. record {
    up_to_date = h.here.1 idle;
    read_first = λ first.
        let reads : reads_first act ≡ true = sym (ap next_reads_first (h.rest ∙ e) ∙ ap reads_first does) ∙ first in
        subst (λ (mark : Option ℕ). IsReadUp mark h.state.told) (sym h.stands.mark)
        (subst (λ (told : ℕ). IsReadUp k.mark told) (sym h.here.0.tells.told) (read (sym h.here.0.block_state ∙ idle) reads));
  };
}

-- before a line that neither listens nor opens a block nothing is to be read
pub reads-nothing : (act : Act) (state : BlockState) (k : Known) → reads_first act ≡ false → HasReadFor act state k
reads-nothing act state k other idle first = absurd (true≢false (sym first ∙ other))

-- a line that shows nothing of the hub, and leads to this state
after-block : (terms : Terms) (plan : FlagPlan) (done : ℕ) (block next : BlockView) (set : List (List ℕ)) (k : Known) (items after : List Item) (line : ScriptLine) (lines : List ScriptLine) (c : Command) (outcome : Outcome)
    → (h : IsRested terms plan done block set Lines k items) → drop done terms.section.lines ≡ line ∷ lines → lines ≡ drop (done + 1) terms.section.lines → line.act ≡ Run c
    → next.state ≡ next_state block.state outcome → StandsFor (list_after h.state.changes c outcome) next.kept
    → StandsFresh terms k.seen after (record h.state { rest = lines; owed = Nothing; block = next_state h.state.block outcome; changes = list_after h.state.changes c outcome })
    → finished_xids after ≡ finished_xids items → All (IsFullThere terms.settings k.seen) after
    → IsAnswered terms plan (done + 1) next set Lines k after
after-block terms plan done block next set k items after line lines c outcome h e behind does leads leaves shown own full =
    let s : State = h.state in
    let rest : s.rest ≡ line ∷ lines = h.rest ∙ e in
    record {
      state = record s { rest = lines; owed = Nothing; block = next_state s.block outcome; changes = list_after s.changes c outcome };
      stands = record {
        holds = record { stands_fresh = shown; full = full; found = h.stands.holds.found };
        session = h.stands.session;
        database = h.stands.database;
        own = own ∙ h.stands.own;
        mark = h.stands.mark;
        marks = h.stands.marks;
        stood = h.stands.stood;
        named = h.stands.named;
        interested = h.stands.interested;
        patient = h.stands.patient;
      };
      rest = behind;
      channels = h.channels;
      here = record {
        owes = refl;
        block_state = ap (λ (b : BlockState). next_state b outcome) h.here.0.block_state ∙ sym leads;
        list = leaves;
        tells = record { told = h.here.0.tells.told; raised = h.here.0.tells.raised; found = h.here.0.tells.found };
        budget = budget-line (spare_of terms.section) s.changes c outcome line lines s.rest k.notes_left rest does h.here.0.budget;
        quits_last = (subst QuitsLast rest h.here.0.quits_last).1;
      };
    }

-- the channels that are given are those of the set
channels-are : (state : BlockState) (live set : List (List ℕ)) (c : Command) (names : List (List ℕ)) → answer state live set c ≡ GivesChannels names → names ≡ set
channels-are Idle live set command.ListeningChannels names e = cc
channels-are InBlock live set command.ListeningChannels names e = cc
channels-are Failed live set command.ListeningChannels names e = absurd (let no : ⊥ = cc in no)
channels-are state live set (command.RollbackTo name) names e = absurd (either state (has_name live name) e)
  where
    either : (state : BlockState) (b : Bool) → cond b (in_state state (Refuses (NeedsBlock needs.RollbackTo) Idle) (Replies tag.Rollback None InBlock) (Replies tag.Rollback None InBlock))
        (in_state state (Refuses (NeedsBlock needs.RollbackTo) Idle) (Refuses (NoSavepoint name) Failed) (Refuses (NoSavepoint name) Failed)) ≡ GivesChannels names → ⊥
    either Idle true e = cc
    either Idle false e = cc
    either InBlock true e = cc
    either InBlock false e = cc
    either Failed true e = cc
    either Failed false e = cc
channels-are state live set (command.Release name) names e = absurd (either state (has_name live name) e)
  where
    either : (state : BlockState) (b : Bool) → cond b (in_state state (Refuses (NeedsBlock needs.Release) Idle) (Replies tag.Release None InBlock) ignored)
        (in_state state (Refuses (NeedsBlock needs.Release) Idle) (Refuses (NoSavepoint name) Failed) ignored) ≡ GivesChannels names → ⊥
    either Idle true e = cc
    either Idle false e = cc
    either InBlock true e = cc
    either InBlock false e = cc
    either Failed true e = cc
    either Failed false e = cc
channels-are Idle live set other names e = absurd (let no : ⊥ = cc in no)
channels-are InBlock live set other names e = absurd (let no : ⊥ = cc in no)
channels-are Failed live set other names e = absurd (let no : ⊥ = cc in no)

-- by what the command comes to
by-outcome : (terms : Terms) (plan : FlagPlan) (done : ℕ) (block next : BlockView) (set : List (List ℕ)) (k : Known) (items : List Item) (line : ScriptLine) (lines : List ScriptLine) (c : Command) (outcome : Outcome)
    → (h : IsRested terms plan done block set Lines k items) → drop done terms.section.lines ≡ line ∷ lines → lines ≡ drop (done + 1) terms.section.lines → line.act ≡ Run c → HasReadFor (Run c) block.state k
    → next.state ≡ next_state block.state outcome → StandsFor (list_after h.state.changes c outcome) next.kept → outcome_in h.state c ≡ outcome
    → IsToldByBlock (effect_of (h.state.changes ++ changes_of c) outcome) → IsAnswered terms plan (done + 1) next set Lines k (answered_items items line.line h.state.set (effect_of (h.state.changes ++ changes_of c) outcome))
by-outcome terms plan done block next set k items line lines c (Commits done_tag) h e behind does read leads leaves is told = absurd told
by-outcome terms plan done block next set k items line lines c GivesUsage h e behind does read leads leaves is told = absurd told
by-outcome terms plan done block next set k items line lines c (Replies done_tag warning state) h e behind does read leads leaves is told =
    after-block terms plan done block next set k items (items ++ item.Line line.line ∷ [] ++ item.Reply done_tag warning ∷ []) line lines c (Replies done_tag warning state) h e behind does leads leaves
    (line-replies terms k.seen items h.state line lines c done_tag warning state h.stands.holds.stands_fresh (comes terms plan done block set k items line (Run c) lines h e does read) is)
    (finished-more (items ++ item.Line line.line ∷ []) (item.Reply done_tag warning ∷ []) refl ∙ finished-more items (item.Line line.line ∷ []) refl)
    (All-push (IsFullThere terms.settings k.seen) (items ++ item.Line line.line ∷ []) (item.Reply done_tag warning) (All-push (IsFullThere terms.settings k.seen) items (item.Line line.line) h.stands.holds.full tt) tt)
by-outcome terms plan done block next set k items line lines c (Refuses refusal state) h e behind does read leads leaves is told =
    after-block terms plan done block next set k items (items ++ item.Line line.line ∷ [] ++ item.Refuse refusal ∷ []) line lines c (Refuses refusal state) h e behind does leads leaves
    (line-refuses terms k.seen items h.state line lines c refusal state h.stands.holds.stands_fresh (comes terms plan done block set k items line (Run c) lines h e does read) is)
    (finished-more (items ++ item.Line line.line ∷ []) (item.Refuse refusal ∷ []) refl ∙ finished-more items (item.Line line.line ∷ []) refl)
    (All-push (IsFullThere terms.settings k.seen) (items ++ item.Line line.line ∷ []) (item.Refuse refusal) (All-push (IsFullThere terms.settings k.seen) items (item.Line line.line) h.stands.holds.full tt) tt)
by-outcome terms plan done block next set k items line lines c Silent h e behind does read leads leaves is told =
    after-block terms plan done block next set k items (items ++ item.Line line.line ∷ []) line lines c Silent h e behind does leads leaves
    (line-is_silent terms k.seen items h.state line lines c h.stands.holds.stands_fresh (comes terms plan done block set k items line (Run c) lines h e does read) is)
    (finished-more items (item.Line line.line ∷ []) refl)
    (All-push (IsFullThere terms.settings k.seen) items (item.Line line.line) h.stands.holds.full tt)
by-outcome terms plan done block next set k items line lines c (GivesChannels names) h e behind does read leads leaves is told =
    let s : State = h.state in
    let same : names ≡ s.set = channels-are s.block (live_names s.changes) s.set c names is in
    let shown = line-gives_channels terms k.seen items s line lines c names h.stands.holds.stands_fresh (comes terms plan done block set k items line (Run c) lines h e does read) is in
    after-block terms plan done block next set k items (items ++ item.Line line.line ∷ [] ++ item.Channels s.set ∷ [] ++ item.Reply (tag.Select (length s.set)) None ∷ []) line lines c (GivesChannels names) h e behind does leads leaves
    (subst (λ (ns : List (List ℕ)). StandsFresh terms k.seen (items ++ item.Line line.line ∷ [] ++ item.Channels ns ∷ [] ++ item.Reply (tag.Select (length ns)) None ∷ []) (record s { rest = lines; owed = Nothing })) same shown)
    (finished-more (items ++ item.Line line.line ∷ [] ++ item.Channels s.set ∷ []) (item.Reply (tag.Select (length s.set)) None ∷ []) refl
    ∙ finished-more (items ++ item.Line line.line ∷ []) (item.Channels s.set ∷ []) refl ∙ finished-more items (item.Line line.line ∷ []) refl)
    (All-push (IsFullThere terms.settings k.seen) (items ++ item.Line line.line ∷ [] ++ item.Channels s.set ∷ []) (item.Reply (tag.Select (length s.set)) None)
    (All-push (IsFullThere terms.settings k.seen) (items ++ item.Line line.line ∷ []) (item.Channels s.set) (All-push (IsFullThere terms.settings k.seen) items (item.Line line.line) h.stands.holds.full tt) tt) tt)

-- a line that the block alone answers is answered
pub block-answered : (terms : Terms) (plan : FlagPlan) (done : ℕ) (block next : BlockView) (set : List (List ℕ)) (k : Known) (items : List Item) (line : ScriptLine) (lines : List ScriptLine) (c : Command) (told : Effect)
    → IsRested terms plan done block set Lines k items → drop done terms.section.lines ≡ line ∷ lines → lines ≡ drop (done + 1) terms.section.lines → line.act ≡ Run c → HasReadFor (Run c) block.state k
    → HasTaken block c told next → IsToldByBlock told → IsAnswered terms plan (done + 1) next set Lines k (answered_items items line.line set told)
block-answered terms plan done block next set k items line lines c told h e behind does read taken alone =
    let s : State = h.state in
    let o : Outcome = answer block.state (live_names s.changes) s.set c in
    let is : outcome_in s c ≡ o = ap (λ (b : BlockState). answer b (live_names s.changes) s.set c) h.here.0.block_state in
    let gives : told ≡ effect_of (s.changes ++ changes_of c) o = taken.gives s.changes s.set h.here.0.list in
    subst (λ (channels : List (List ℕ)). IsAnswered terms plan (done + 1) next set Lines k (answered_items items line.line channels told)) h.channels
    (subst (λ (f : Effect). IsAnswered terms plan (done + 1) next set Lines k (answered_items items line.line s.set f)) (sym gives)
    (by-outcome terms plan done block next set k items line lines c o h e behind does read (taken.leads s.changes s.set h.here.0.list) (taken.leaves s.changes s.set h.here.0.list) is (subst IsToldByBlock gives alone)))
