-- A line that runs a command, taken from an open script; and what was read before it and behind it.
use Rattle.std.proofs.Common.{◌≡◌, ℕ, ◌+◌, ◌⊎◌, inl, inr, Bool, true, false, true≢false, cond, nat_lt, List, [], ◌∷◌, ◌++◌, drop, Option, Some, None, All, sym, ◌∙◌, subst, refl, append_assoc, append-nil}
use Rattle.std.proofs.lemmas.List.Elements.{All-nil, All-cons}
use Rattle.pgn_base.specs.declared.command.Command.{Command}
use Rattle.pgn_base.specs.declared.format.Format.{Format}
use Rattle.pgn_base.specs.declared.note.Delivery.{Delivery}
use Rattle.pgn_answers.specs.declared.block_state.BlockState.{BlockState}
use Rattle.pgn_answers.specs.declared.block_state.BlockState.TheVariants.{Idle, InBlock, Failed}
use Rattle.pgn_language.specs.declared.scenario.Act.{Act}
use Rattle.pgn_language.specs.declared.scenario.Act.TheVariants.{Run}
use Rattle.pgn_language.specs.declared.scenario.ScriptLine.{ScriptLine}
use Rattle.pgn_model.specs.declared.item.Item.{Item}
use Rattle.pgn_model.specs.declared.item.Item.TheVariants.{Line, Read}
use Rattle.pgn_model.specs.Trace.{next_reads_first}
use Rattle.pgn_hub.specs.declared.known.Known.{Known}
use Rattle.pgn_session.specs.declared.session.Session.{Session}
use Rattle.pgn_session.specs.declared.doing.FlagPlan.{FlagPlan}
use Rattle.pgn_session.specs.declared.doing.Doing.{Doing}
use Rattle.pgn_session.specs.declared.doing.Doing.TheVariants.{Lines}
use Rattle.pgn_session.specs.declared.doing.Step.{Step}
use Rattle.pgn_session.specs.declared.doing.IdleDone.{IdleDone}
use Rattle.pgn_session.specs.declared.doing.IdleDone.TheVariants as idled
use Rattle.pgn_session.specs.Steps.{HasBegun, HasMoved, IsNoLine}
use Rattle.pgn_session.specs.Parts.{HasFinishedFrom, HasIdled}
use Rattle.pgn_session.specs.Feed.{fed}
use Rattle.pgn_session.specs.FirstRead.{HasReadFirst, IsToReadFirst}
pub use Rattle.pgn_session.specs.Whole.{Moves}
use Rattle.pgn_session.specs.Open.{IsBefore, IsOpen, IsReadAtMost, RunsCommand, ShowsRead}
use Rattle.pgn_session.proofs.OpenLaws.{before-comes, before-open, fed-before}

-- a step over a line with a command: the line and what it shows stand behind what was shown, and no other line has begun
pub record LineMoved (before after : List Item) (done counted n : ℕ) (stands : Doing) : Type 0 where
  pub more : List Item
  pub shown : after ≡ before ++ Line n ∷ more
  pub one_line : All IsNoLine more
  pub counts : counted ≡ done + 1
  pub between : stands ≡ Lines

moved-line : (plan : FlagPlan) (session patience : ℕ) (lines rest : List ScriptLine) (doing : Doing) (done counted : ℕ) (k l : Known) (before after : List Item) (stands : Doing) (step : Step) (line : ScriptLine) (command : Command)
    → lines ≡ line ∷ rest → doing ≡ Lines → line.act ≡ Run command → HasMoved plan session patience lines doing done counted k l before after stands step → LineMoved before after done counted line.line stands
moved-line plan session patience lines rest doing done counted k l before after stands step line command e between does moved =
    let at_lines : HasMoved plan session patience (line ∷ rest) Lines done counted k l before after stands step =
    subst (λ (d : Doing). HasMoved plan session patience (line ∷ rest) d done counted k l before after stands step) between
    (subst (λ (ls : List ScriptLine). HasMoved plan session patience ls doing done counted k l before after stands step) e moved) in
    let begun = subst (λ (act : Act). HasBegun plan session patience line.line act k l before after stands step) does at_lines.0 in
    record { more = begun.0.more; shown = begun.0.shown ∙ append_assoc before (Line line.line ∷ []) begun.0.more; one_line = begun.0.one_line; counts = at_lines.1; between = begun.1 }

-- a step of a session before a line with a command shows that line alone, and goes on between two lines
pub line-moved : {P : Type 0} (known : P → Known) (old new : Session P) (line : ScriptLine) (step : Step) → IsBefore old line → RunsCommand line → Moves known old new step
    → LineMoved old.items.items new.items.items old.done new.done line.line new.doing
line-moved known old new line step h runs moved =
    moved-line old.plan old.section.no old.patience (drop old.done old.section.lines) (h.last ∷ []) old.doing old.done new.done (known old.pass) (known new.pass) old.items.items new.items.items new.doing step line runs.0
    (before-comes old line h) h.between runs.1 moved

-- of a read that was shown at most, what holds of each read holds of all
pub read-all : (Q : Item → Type 0) → ((from to : ℕ) (got : List Delivery) → Q (Read from to got)) → (reads : List Item) → IsReadAtMost reads → All Q reads
read-all Q h [] are = All-nil Q
read-all Q h (Read from to got ∷ []) are = All-cons Q (Read from to got) [] (h from to got) (All-nil Q)
read-all Q h (item ∷ items) are = absurd are

-- it begins no line
pub reads-no_line : (reads : List Item) → IsReadAtMost reads → All IsNoLine reads
reads-no_line reads are = read-all IsNoLine (λ from to got. tt) reads are

no-read : (before after : List Item) → after ≡ before → ShowsRead before after
no-read before after e = record { reads = []; shown = e ∙ sym (append-nil before); are = tt }

one-read : (before after : List Item) (from to : ℕ) (got : List Delivery) (b : Bool) → after ≡ cond b (before ++ Read from to got ∷ []) before → ShowsRead before after
one-read before after from to got true e = record { reads = Read from to got ∷ []; shown = e; are = tt }
one-read before after from to got false e = no-read before after e

-- an idle session shows a read at most
pub idle-shows : (format : Format) (k l : Known) (set : List (List ℕ)) (before after : List Item) (done : IdleDone) → HasIdled format k l set before after done → ShowsRead before after
idle-shows format k l set before after idled.InBlock h = no-read before after h.1
idle-shows format k l set before after idled.NotListening h = no-read before after h.1
idle-shows format k l set before after idled.Quiet h = no-read before after h.1
idle-shows format k l set before after (idled.Read to) h = one-read before after h.0 to h.3.got (nat_lt h.0 to) h.3.shown

-- so does one that has finished, and one that has read before a line
finished-shows : (mark : Option ℕ) (k l : Known) (set : List (List ℕ)) (before after : List Item) → HasFinishedFrom mark k l set before after → ShowsRead before after
finished-shows None k l set before after h = no-read before after h.1
finished-shows (Some from) k l set before after h = one-read before after from h.0 h.1.got (nat_lt from h.0) h.1.shown

-- a read is due before the next line, or is not
first-or_not : {P : Type 0} (s : Session P) → s.doing ≡ Lines → IsToReadFirst s ⊎ (IsToReadFirst s → ⊥)
first-or_not s between = by s.block.state (next_reads_first (drop s.done s.section.lines)) refl refl
  where
    by : (state : BlockState) (next : Bool) → s.block.state ≡ state → next_reads_first (drop s.done s.section.lines) ≡ next → IsToReadFirst s ⊎ (IsToReadFirst s → ⊥)
    by Idle true outside next = inl (record { between = between; outside = outside; next = next })
    by Idle false outside next = inr (λ first. true≢false (sym first.next ∙ next))
    by InBlock due outside next = inr (λ first. let same : InBlock ≡ Idle = sym outside ∙ first.outside in let no : ⊥ = cc in no)
    by Failed due outside next = inr (λ first. let same : Failed ≡ Idle = sym outside ∙ first.outside in let no : ⊥ = cc in no)

-- the read before a line shows a read at most
pub first-shows : {P : Type 0} (s : Session P) (k l : Known) (after : List Item) → s.doing ≡ Lines → HasReadFirst s k l after → ShowsRead s.items.items after
first-shows s k l after between h = elim (first-or_not s between) [
  | inl first ↦ finished-shows k.mark k l s.set.channels s.items.items after (h.read first)
  | inr none ↦ no-read s.items.items after (h.else_unshown none)
]

-- the session is open again
abbrev pub line-open : {P : Type 0} (old new : Session P) (line : ScriptLine) → IsOpen old → new.section ≡ fed old.section line → new.done ≡ old.done + 1 → new.doing ≡ Lines → IsOpen new
line-open old new line is_open section counted between =
    before-open (record old { section = fed old.section line }) new line (fed-before old (record old { section = fed old.section line }) line is_open refl) section counted between
