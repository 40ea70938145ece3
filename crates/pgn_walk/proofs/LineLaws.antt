-- A line of the script begins.
use Rattle.std.proofs.Common.{◌≡◌, ◌≢◌, ℕ, Bool, true, false, cond, List, [], ◌++◌, length, Option, None, is_some, if◌then◌else◌, sym, ap, ◌∙◌, refl, subst}
use Rattle.pgn_base.specs.Names.{has_name}
use Rattle.pgn_listening.specs.Listening.{Listening}
use Rattle.pgn_base.specs.declared.note.Note.{Note}
use Rattle.pgn_base.specs.declared.action.Action.{Action}
use Rattle.pgn_base.specs.declared.command.Command.{Command}
use Rattle.pgn_base.specs.declared.command.Command.TheVariants as command
use Rattle.pgn_base.specs.declared.answers.Tag.{Tag}
use Rattle.pgn_base.specs.declared.answers.Tag.TheVariants as tag
use Rattle.pgn_base.specs.declared.answers.Warning.{Warning}
use Rattle.pgn_base.specs.declared.answers.Refusal.{Refusal}
use Rattle.pgn_base.specs.declared.answers.Refusal.TheVariants.{NeedsBlock, NoSavepoint}
use Rattle.pgn_base.specs.declared.answers.Needs.TheVariants as needs
use Rattle.pgn_answers.specs.declared.block_state.BlockState.{BlockState}
use Rattle.pgn_answers.specs.declared.block_state.BlockState.TheVariants.{Idle, InBlock, Failed}
use Rattle.pgn_answers.specs.Answers.{Outcome, Commits, Replies, Refuses, Silent, GivesChannels, GivesUsage, answer, next_state, list_after, in_state, ignored}
use Rattle.pgn_answers.specs.Savepoints.{Change, changes_of, live_names, surviving_actions, surviving_notes, firsts}
use Rattle.pgn_journal.specs.declared.tx.Tx.{Tx}
use Rattle.pgn_due.specs.Next.{IsWatch}
use Rattle.pgn_due.specs.declared.watch.Watch.{Watch}
use Rattle.pgn_language.specs.declared.scenario.Section.{Section}
use Rattle.pgn_language.specs.declared.scenario.Act.{Act}
use Rattle.pgn_language.specs.declared.scenario.Act.TheVariants.{Run, Signal, Await, Quit}
use Rattle.pgn_model.specs.Walk.{State, quitting, at_act, at_outcome}
use Rattle.pgn_model.specs.Walk as walk
use Rattle.pgn_block.specs.Kept.{StandsFor}
use Rattle.pgn_block.specs.Views.{BlockView, idle_view}
use Rattle.pgn_block.specs.Effects.{effect_of}
use Rattle.pgn_block.specs.declared.effect.Effect.{Effect}
use Rattle.pgn_block.specs.declared.effect.Effect.TheVariants as effect
use Rattle.pgn_block.specs.declared.effect.Kind.TheVariants.{ListeningChannels, QueueUsage}
use Rattle.pgn_walk.specs.declared.standing.Standing.{Standing}
use Rattle.pgn_ledger.specs.declared.to_show.Ending.TheVariants.{Replied, Refused}
use Rattle.pgn_ledger.specs.declared.to_show.ToShow.TheVariants as show
use Rattle.pgn_ledger.specs.ToShow.{ending_of}
use Rattle.pgn_walk.specs.Standing.{Holds, Leads, commits}
use Rattle.pgn_walk.specs.Steps.{BeginsFrom, HasRows, IsGivenBy}
use Rattle.pgn_walk.proofs.StandingLaws.{holds_owed}

-- The session quits.

-- what is due next, where the set has ended
abbrev pub Ends : Watch → Watch → Type 0
Ends old new = (journal : List Tx) (db : ℕ) (set : List (List ℕ)) (mark : Option ℕ) → IsWatch journal db set mark old → IsWatch journal db [] mark new

quit_holds : (section : Section) (journal : List Tx) (at : Standing) (block : BlockView) (set : Listening) (watch : Watch) (s : State) → block ≡ idle_view → set.channels ≡ [] → Ends at.watch watch → Holds section journal at s
    → Holds section journal (record at { block = block; set = set; watch = watch }) (record s { block = Idle; changes = []; set = [] })
quit_holds section journal at block set watch s is none ends h = record {
  rest = h.rest;
  owed = h.owed;
  block = ap (λ (v : BlockView). v.state) (sym is);
  changes = ap (λ (v : BlockView). v.kept) (sym is);
  set = sym none;
  mark = h.mark;
  told = h.told;
  marks = h.marks;
  flags = h.flags;
  watch = subst (λ (channels : List (List ℕ)). IsWatch journal section.db channels at.mark watch) (sym none) (ends journal section.db at.set.channels at.mark h.watch);
}

-- a listener that quits owes to leave
pub quits_listening : (at : Standing) (block : BlockView) (set : Listening) (watch : Watch) → block ≡ idle_view → set.channels ≡ [] → Ends at.watch watch → is_some at.mark ≡ true
    → BeginsFrom at (record at { block = block; set = set; watch = watch; owed = show.Quitting }) quitting
quits_listening at block set watch is none ends test section journal s h e =
    let ended : State = record s { block = Idle; changes = []; set = [] } in
    let stands = quit_holds section journal at block set watch s is none ends h in
    subst (λ (b : Bool). Holds section journal (record at { block = block; set = set; watch = watch; owed = show.Quitting }) (if b then record ended { owed = walk.Quitting } else ended))
    (sym (ap (λ (m : Option ℕ). is_some m) h.mark ∙ test)) (holds_owed section journal (record at { block = block; set = set; watch = watch }) ended show.Quitting walk.Quitting stands refl)

-- who is no listener quits and owes nothing
pub quits_idle : (at : Standing) (block : BlockView) (set : Listening) (watch : Watch) → block ≡ idle_view → set.channels ≡ [] → Ends at.watch watch → is_some at.mark ≡ false
    → BeginsFrom at (record at { block = block; set = set; watch = watch }) quitting
quits_idle at block set watch is none ends test section journal s h e =
    let ended : State = record s { block = Idle; changes = []; set = [] } in
    subst (λ (b : Bool). Holds section journal (record at { block = block; set = set; watch = watch }) (if b then record ended { owed = walk.Quitting } else ended))
    (sym (ap (λ (m : Option ℕ). is_some m) h.mark ∙ test)) (quit_holds section journal at block set watch s is none ends h)

-- What the block gives.

-- a command without an answer leaves the walk where it stands
pub gives_nothing : (at : Standing) (names : List (List ℕ)) (count : ℕ) → IsGivenBy at effect.Nothing names count at
gives_nothing at names count section journal s changes Silent h e is rows = h
gives_nothing at names count section journal s changes (Commits t) h e is rows = absurd (let no : ⊥ = cc in no)
gives_nothing at names count section journal s changes (Replies t w n) h e is rows = absurd (let no : ⊥ = cc in no)
gives_nothing at names count section journal s changes (Refuses r n) h e is rows = absurd (let no : ⊥ = cc in no)
gives_nothing at names count section journal s changes (GivesChannels c) h e is rows = absurd (let no : ⊥ = cc in no)
gives_nothing at names count section journal s changes GivesUsage h e is rows = absurd (let no : ⊥ = cc in no)

-- a command that is answered by a tag owes it
pub gives_reply : (at : Standing) (t : Tag) (w : Option Warning) (names : List (List ℕ)) (count : ℕ) → IsGivenBy at (effect.Reply t w) names count (record at { owed = show.Answering (Replied t w) })
gives_reply at t w names count section journal s changes (Replies u v n) h e is rows =
    let one : t ≡ u = cc in
    let two : w ≡ v = cc in
    holds_owed section journal at s (show.Answering (Replied t w)) (walk.Answering (walk.Replied u v)) h (ap (λ (x : Tag). walk.Answering (walk.Replied x v)) (sym one) ∙ ap (λ (x : Option Warning). walk.Answering (walk.Replied t x)) (sym two))
gives_reply at t w names count section journal s changes Silent h e is rows = absurd (let no : ⊥ = cc in no)
gives_reply at t w names count section journal s changes (Commits u) h e is rows = absurd (let no : ⊥ = cc in no)
gives_reply at t w names count section journal s changes (Refuses r n) h e is rows = absurd (let no : ⊥ = cc in no)
gives_reply at t w names count section journal s changes (GivesChannels c) h e is rows = absurd (let no : ⊥ = cc in no)
gives_reply at t w names count section journal s changes GivesUsage h e is rows = absurd (let no : ⊥ = cc in no)

-- a command that is refused owes the refusal
pub gives_refusal : (at : Standing) (r : Refusal) (names : List (List ℕ)) (count : ℕ) → IsGivenBy at (effect.Refuse r) names count (record at { owed = show.Answering (Refused r) })
gives_refusal at r names count section journal s changes (Refuses u n) h e is rows =
    let one : r ≡ u = cc in
    holds_owed section journal at s (show.Answering (Refused r)) (walk.Answering (walk.Refused u)) h (ap (λ (x : Refusal). walk.Answering (walk.Refused x)) (sym one))
gives_refusal at r names count section journal s changes Silent h e is rows = absurd (let no : ⊥ = cc in no)
gives_refusal at r names count section journal s changes (Commits u) h e is rows = absurd (let no : ⊥ = cc in no)
gives_refusal at r names count section journal s changes (Replies t w n) h e is rows = absurd (let no : ⊥ = cc in no)
gives_refusal at r names count section journal s changes (GivesChannels c) h e is rows = absurd (let no : ⊥ = cc in no)
gives_refusal at r names count section journal s changes GivesUsage h e is rows = absurd (let no : ⊥ = cc in no)

-- a command that asks for the channels owes them, and then their number
pub gives_rows : (at : Standing) (names : List (List ℕ)) (count : ℕ) → IsGivenBy at (effect.Query ListeningChannels) names count (record at { owed = show.Listing names (Replied (tag.Select count) None) })
gives_rows at names count section journal s changes (GivesChannels c) h e is rows =
    holds_owed section journal at s (show.Listing names (Replied (tag.Select count) None)) (walk.Listing c (walk.Replied (tag.Select (length c)) None)) h
    (ap (λ (ns : List (List ℕ)). walk.Listing ns (walk.Replied (tag.Select (length ns)) None)) (sym rows.0) ∙ ap (λ (n : ℕ). walk.Listing names (walk.Replied (tag.Select n) None)) (sym rows.1))
gives_rows at names count section journal s changes Silent h e is rows = absurd (let no : ⊥ = cc in no)
gives_rows at names count section journal s changes (Commits u) h e is rows = absurd (let no : ⊥ = cc in no)
gives_rows at names count section journal s changes (Replies t w n) h e is rows = absurd (let no : ⊥ = cc in no)
gives_rows at names count section journal s changes (Refuses r n) h e is rows = absurd (let no : ⊥ = cc in no)
gives_rows at names count section journal s changes GivesUsage h e is rows = absurd (let no : ⊥ = cc in no)

-- a command that asks for the usage owes it, and then one row
pub gives_usage : (at : Standing) (names : List (List ℕ)) (count : ℕ) → IsGivenBy at (effect.Query QueueUsage) names count (record at { owed = show.Measuring (Replied (tag.Select 1) None) })
gives_usage at names count section journal s changes GivesUsage h e is rows = holds_owed section journal at s (show.Measuring (Replied (tag.Select 1) None)) (walk.Measuring (walk.Replied (tag.Select 1) None)) h refl
gives_usage at names count section journal s changes Silent h e is rows = absurd (let no : ⊥ = cc in no)
gives_usage at names count section journal s changes (Commits u) h e is rows = absurd (let no : ⊥ = cc in no)
gives_usage at names count section journal s changes (Replies t w n) h e is rows = absurd (let no : ⊥ = cc in no)
gives_usage at names count section journal s changes (Refuses r n) h e is rows = absurd (let no : ⊥ = cc in no)
gives_usage at names count section journal s changes (GivesChannels c) h e is rows = absurd (let no : ⊥ = cc in no)

-- a command that commits leads to what its commit does
pub gives_commit : (at new : Standing) (actions : List Action) (notes : List Note) (t : Tag) (names : List (List ℕ)) (count : ℕ) → Leads at new (λ s. commits s actions notes (ending_of (Replied t None)))
    → IsGivenBy at (effect.Commit actions notes t) names count new
gives_commit at new actions notes t names count on section journal s changes (Commits u) h e is rows =
    let one : actions ≡ surviving_actions changes = cc in
    let two : notes ≡ firsts (surviving_notes changes) = cc in
    let three : t ≡ u = cc in
    subst (λ (x : Tag). Holds section journal new (commits s (surviving_actions changes) (firsts (surviving_notes changes)) (walk.Replied x None))) three
    (subst (λ (ns : List Note). Holds section journal new (commits s (surviving_actions changes) ns (walk.Replied t None))) two
    (subst (λ (them : List Action). Holds section journal new (commits s them notes (walk.Replied t None))) one (on section journal s h)))
gives_commit at new actions notes t names count on section journal s changes Silent h e is rows = absurd (let no : ⊥ = cc in no)
gives_commit at new actions notes t names count on section journal s changes (Replies v w n) h e is rows = absurd (let no : ⊥ = cc in no)
gives_commit at new actions notes t names count on section journal s changes (Refuses r n) h e is rows = absurd (let no : ⊥ = cc in no)
gives_commit at new actions notes t names count on section journal s changes (GivesChannels c) h e is rows = absurd (let no : ⊥ = cc in no)
gives_commit at new actions notes t names count on section journal s changes GivesUsage h e is rows = absurd (let no : ⊥ = cc in no)

-- The rows of a command.

back_rows : (state : BlockState) (b : Bool) (name : List ℕ) (names : List (List ℕ)) (count : ℕ) → HasRows (cond b (in_state state (Refuses (NeedsBlock needs.RollbackTo) Idle) (Replies tag.Rollback None InBlock) (Replies tag.Rollback None InBlock))
    (in_state state (Refuses (NeedsBlock needs.RollbackTo) Idle) (Refuses (NoSavepoint name) Failed) (Refuses (NoSavepoint name) Failed))) names count
back_rows Idle true name names count = tt
back_rows Idle false name names count = tt
back_rows InBlock true name names count = tt
back_rows InBlock false name names count = tt
back_rows Failed true name names count = tt
back_rows Failed false name names count = tt

release_rows : (state : BlockState) (b : Bool) (name : List ℕ) (names : List (List ℕ)) (count : ℕ) → HasRows (cond b (in_state state (Refuses (NeedsBlock needs.Release) Idle) (Replies tag.Release None InBlock) ignored)
    (in_state state (Refuses (NeedsBlock needs.Release) Idle) (Refuses (NoSavepoint name) Failed) ignored)) names count
release_rows Idle true name names count = tt
release_rows Idle false name names count = tt
release_rows InBlock true name names count = tt
release_rows InBlock false name names count = tt
release_rows Failed true name names count = tt
release_rows Failed false name names count = tt

pub has_rows : (state : BlockState) (live set : List (List ℕ)) (c : Command) (names : List (List ℕ)) (count : ℕ) → (c ≡ command.ListeningChannels → state ≢ Failed → names ≡ set) → count ≡ length names → HasRows (answer state live set c) names count
has_rows Idle live set command.ListeningChannels names count f e = (f refl (λ failed. let no : ⊥ = cc in no), e)
has_rows InBlock live set command.ListeningChannels names count f e = (f refl (λ failed. let no : ⊥ = cc in no), e)
has_rows Failed live set command.ListeningChannels names count f e = tt
has_rows state live set (command.RollbackTo name) names count f e = back_rows state (has_name live name) name names count
has_rows state live set (command.Release name) names count f e = release_rows state (has_name live name) name names count
has_rows Idle live set other names count f e = tt
has_rows InBlock live set other names count f e = tt
has_rows Failed live set other names count f e = tt

-- A command.

-- the block has taken a command, and what it gave is owed
pub runs : (at new : Standing) (c : Command) (block : BlockView) (gave : Effect) (names : List (List ℕ)) (count : ℕ)
    → (c ≡ command.ListeningChannels → at.block.state ≢ Failed → names ≡ at.set.channels) → count ≡ length names
    → ((changes : List Change) (set : List (List ℕ)) → StandsFor changes at.block.kept → gave ≡ effect_of (changes ++ changes_of c) (answer at.block.state (live_names changes) set c))
    → ((changes : List Change) (set : List (List ℕ)) → StandsFor changes at.block.kept → block.state ≡ next_state at.block.state (answer at.block.state (live_names changes) set c))
    → ((changes : List Change) (set : List (List ℕ)) → StandsFor changes at.block.kept → StandsFor (list_after changes c (answer at.block.state (live_names changes) set c)) block.kept)
    → IsGivenBy (record at { block = block }) gave names count new → BeginsFrom at new (λ s. at_outcome s c (answer s.block (live_names s.changes) s.set c))
runs at new c block gave names count rows long gives leads leaves on section journal s h e =
    let o : Outcome = answer s.block (live_names s.changes) s.set c in
    let same : answer at.block.state (live_names s.changes) s.set c ≡ o = ap (λ (b : BlockState). answer b (live_names s.changes) s.set c) (sym h.block) in
    let next : State = record s { block = next_state s.block o; changes = list_after s.changes c o } in
    let stands : Holds section journal (record at { block = block }) next = record {
      rest = h.rest;
      owed = h.owed;
      block = ap (λ (b : BlockState). next_state b o) h.block ∙ ap (λ (p : Outcome). next_state at.block.state p) (sym same) ∙ sym (leads s.changes s.set h.changes);
      changes = subst (λ (p : Outcome). StandsFor (list_after s.changes c p) block.kept) same (leaves s.changes s.set h.changes);
      set = h.set;
      mark = h.mark;
      told = h.told;
      marks = h.marks;
      flags = h.flags;
      watch = h.watch;
    } in
    on section journal next (s.changes ++ changes_of c) o stands e (gives s.changes s.set h.changes ∙ ap (λ (p : Outcome). effect_of (s.changes ++ changes_of c) p) same)
    (has_rows s.block (live_names s.changes) s.set c names count (λ is unfailed. rows is (λ failed. unfailed (h.block ∙ failed)) ∙ sym h.set) long)

-- What a line does.

-- a line with a command begins as the command's answer says
pub begins_run : (at new : Standing) (act : Act) (c : Command) → act ≡ Run c → BeginsFrom at new (λ s. at_outcome s c (answer s.block (live_names s.changes) s.set c)) → BeginsFrom at new (λ s. at_act s act)
begins_run at new act c e h section journal s holds none = subst (λ (a : Act). Holds section journal new (at_act s a)) (sym e) (h section journal s holds none)

-- a line that raises a flag owes it
pub begins_signal : (at : Standing) (act : Act) (flag : ℕ) → act ≡ Signal flag → BeginsFrom at (record at { owed = show.Raising flag }) (λ s. at_act s act)
begins_signal at act flag e section journal s holds none =
    subst (λ (a : Act). Holds section journal (record at { owed = show.Raising flag }) (at_act s a)) (sym e) (holds_owed section journal at s (show.Raising flag) (walk.Raising flag) holds refl)

-- a line that awaits a flag owes to find it
pub begins_await : (at : Standing) (act : Act) (flag : ℕ) → act ≡ Await flag → BeginsFrom at (record at { owed = show.Awaiting flag }) (λ s. at_act s act)
begins_await at act flag e section journal s holds none =
    subst (λ (a : Act). Holds section journal (record at { owed = show.Awaiting flag }) (at_act s a)) (sym e) (holds_owed section journal at s (show.Awaiting flag) (walk.Awaiting flag) holds refl)

-- a line that quits begins as a quit does
pub begins_quit : (at new : Standing) (act : Act) → act ≡ Quit → BeginsFrom at new quitting → BeginsFrom at new (λ s. at_act s act)
begins_quit at new act e h section journal s holds none = subst (λ (a : Act). Holds section journal new (at_act s a)) (sym e) (h section journal s holds none)
