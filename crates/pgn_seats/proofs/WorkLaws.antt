-- A session at work, over the parts of a turn.
use Rattle.std.proofs.Common.{◌≡◌, ℕ, ◌+◌, ◌<◌, ◌≤◌, Bool, cond, false, true≢false, List, [], ◌∷◌, ◌++◌, length, drop, Option, Some, None, All, sym, ap, ◌∙◌, refl, subst, arith, append_assoc}
use Rattle.std.specs.Prelude.{◌||◌}
use Rattle.std.specs.List.{list_any}
use Rattle.std.proofs.lemmas.List.{length-append}
use Rattle.std.proofs.lemmas.List.Elements.{All-nil, All-cons, All-head, All-tail, All-append}
use Rattle.pgn_base.specs.declared.command.Command.{Command}
use Rattle.pgn_language.specs.declared.scenario.Act.TheVariants.{Quit, Run}
use Rattle.pgn_language.specs.declared.scenario.ScriptLine.{ScriptLine}
use Rattle.pgn_language.specs.declared.scenario.Section.{Section}
use Rattle.pgn_language.specs.Inputs.{is_note_act, note_lines_of}
use Rattle.pgn_model.specs.declared.item.Item.{Item}
use Rattle.pgn_model.specs.declared.item.Item.TheVariants.{Leave, Line}
use Rattle.pgn_model.specs.laws.NextLine.{quit_items}
use Rattle.pgn_model.specs.Trace.{next_reads_first, reads_first}
use Rattle.pgn_hub.specs.declared.known.Known.{Known}
use Rattle.pgn_hub.specs.Shape.{Shape}
use Rattle.pgn_messages.specs.Laws.{begins_line}
use Rattle.pgn_session.specs.declared.session.Session.{Session}
use Rattle.pgn_session.specs.declared.doing.Doing.{Doing}
use Rattle.pgn_session.specs.declared.doing.FlagPlan.{FlagPlan}
use Rattle.pgn_session.specs.declared.doing.Doing.TheVariants.{Lines}
use Rattle.pgn_session.specs.declared.doing.IdleDone.{IdleDone}
use Rattle.pgn_session.specs.declared.doing.Step.{Step}
use Rattle.pgn_session.specs.Feed.{EndsByQuit, fed}
use Rattle.pgn_session.specs.FirstRead.{IsToReadFirst}
use Rattle.pgn_session.specs.Open.{IsBefore, IsOpen, IsReadAtMost, IsSameClient, RunsCommand}
use Rattle.pgn_session.specs.Parts.{Begins, HasIdled}
use Rattle.pgn_session.specs.Runs.{IsLawful}
use Rattle.pgn_session.specs.Standing.{IsServedBy}
use Rattle.pgn_session.specs.Steps.{IsNoLine}
use Rattle.pgn_session.specs.Whole.{AnswersAt, HasAnswer, HasRest, IsSameScript, RestsAt}
use Rattle.pgn_session.proofs.LawfulLaws.{rest-lawful}
use Rattle.pgn_session.proofs.LineTakenLaws.{Moves, idle-shows, line-moved, read-all, reads-no_line}
use Rattle.pgn_session.proofs.OpenLaws.{before-comes, before-open, fed-before, fed-runs_served, notes-fed, read-before}
use Rattle.pgn_session.proofs.OpenQuitLaws.{quit-taken}
use Rattle.pgn_messages.specs.declared.asked.Asked.{Asked}
use Rattle.pgn_messages.specs.Asks.{line_of, seat_quit}
use Rattle.pgn_messages.specs.Turns.{Turn, IsRead, lines_of}
use Rattle.pgn_seats.specs.Serving.{HasQuitBehind, IsInTurns}
use Rattle.pgn_seats.specs.declared.desk.Desk.{Desk}
use Rattle.pgn_seats.specs.Working.{HasQuit, HasRun, IsAtLine, IsAtWork, MayTake}

-- the same client, over each kind of part
pub client-fed : {P : Type 0} (old new : Session P) (line : ScriptLine) → new ≡ record old { section = fed old.section line } → IsSameClient old new
client-fed {P} old new line e = record {
  section = ap (λ (s : Session P). s.section) e ∙ ap (λ (ls : List ScriptLine). record old.section { lines = ls }) (sym (ap (λ (s : Session P). s.section.lines) e));
  plan = ap (λ (s : Session P). s.plan) e;
  patience = ap (λ (s : Session P). s.patience) e;
}

-- the section of a session whose script was fed
pub fed-section : {P : Type 0} (old new : Session P) (line : ScriptLine) → new ≡ record old { section = fed old.section line } → new.section ≡ fed old.section line
fed-section {P} old new line e = ap (λ (s : Session P). s.section) e

-- a session that did not change serves the same client
pub client-same : {P : Type 0} (old new : Session P) → new ≡ old → IsSameClient old new
client-same {P} old new e = subst (λ (s : Session P). IsSameClient old s) (sym e) (record { section = refl; plan = refl; patience = refl })

-- and one that has only read
pub client-read : {P : Type 0} (old new : Session P) → new ≡ record old { pass = new.pass; items = new.items } → IsSameClient old new
client-read {P} old new e = record {
  section = ap (λ (s : Session P). s.section) e ∙ ap (λ (ls : List ScriptLine). record old.section { lines = ls }) (sym (ap (λ (s : Session P). s.section.lines) e));
  plan = ap (λ (s : Session P). s.plan) e;
  patience = ap (λ (s : Session P). s.patience) e;
}

-- it has the same number
pub client-no : {P : Type 0} (old new : Session P) → IsSameClient old new → new.section.no ≡ old.section.no
client-no old new h = ap (λ (s : Section). s.no) h.section

-- its number is the same
pub no-read : {P : Type 0} (old new : Session P) → new ≡ record old { pass = new.pass; items = new.items } → new.section.no ≡ old.section.no
no-read {P} old new e = ap (λ (s : Session P). s.section.no) e

-- the number of a session with the same script is the same
pub no-script : {P : Type 0} (old new : Session P) → IsSameScript old new → new.section.no ≡ old.section.no
no-script old new h = ap (λ (s : Section). s.no) h.section

-- reading changes none of the lines that notify
pub notes-read : {P : Type 0} (old new : Session P) → new ≡ record old { pass = new.pass; items = new.items } → note_lines_of old.section.lines ≡ note_lines_of new.section.lines
notes-read {P} old new e = ap (λ (s : Session P). note_lines_of s.section.lines) (sym e)

-- nor does what leaves the session
pub same-notes : {P : Type 0} (old new : Session P) → new ≡ old → note_lines_of old.section.lines ≡ note_lines_of new.section.lines
same-notes {P} old new e = ap (λ (s : Session P). note_lines_of s.section.lines) (sym e)

-- a place in items that have grown
pub within-grown : (from : ℕ) (before after : List Item) → from ≡ length before → Begins before after → from ≤ length after
within-grown from before after e grows =
    let long : length after ≡ length (before ++ grows.more) = ap (λ (is : List Item). length is) grows.split in
    omega (arith, e, long, length-append before grows.more)

-- the script stays over a read
pub script-read : {P : Type 0} (old two new : Session P) → IsSameScript old two → new ≡ record two { pass = new.pass; items = new.items } → IsSameScript old new
script-read {P} old two new h e = record {
  section = ap (λ (s : Session P). s.section) e ∙ h.section;
  plan = ap (λ (s : Session P). s.plan) e ∙ h.plan;
  patience = ap (λ (s : Session P). s.patience) e ∙ h.patience;
}

-- how the script ends, and that its `\quit` is to come
pub open-quits : {P : Type 0} (s : Session P) → IsOpen s → s.done < length s.section.lines
open-quits s h =
    let long : length s.section.lines ≡ length (h.ends.front ++ h.ends.last ∷ []) = ap (λ (ls : List ScriptLine). length ls) h.ends.split in
    omega (arith, long, h.begun, length-append h.ends.front (h.ends.last ∷ []))

-- who runs a command does not quit
pub runs-on : (line : ScriptLine) → RunsCommand line → line.act ≡ Quit → ⊥
runs-on line runs is = let both : Run runs.0 ≡ Quit = sym runs.1 ∙ is in let no : ⊥ = cc in no

-- how many notify
pub few-notes : (line : ScriptLine) (lines : List ScriptLine) (more notes most : ℕ) → more ≡ cond (is_note_act line.act) 1 0 → notes ≡ note_lines_of lines → more + notes ≤ most
    → note_lines_of (line ∷ []) + note_lines_of lines ≤ most
few-notes line lines more notes most e f few =
    let one : note_lines_of (line ∷ []) ≡ cond (is_note_act line.act) 1 0 = omega arith in
    omega (arith, one, e, f, few)

-- a line more in the script counts, if it notifies
pub more-notes : {P : Type 0} (old new : Session P) (line : ScriptLine) (more notes : ℕ) → IsOpen old → more ≡ cond (is_note_act line.act) 1 0 → notes ≡ note_lines_of old.section.lines
    → new ≡ record old { section = fed old.section line } → notes + more ≡ note_lines_of new.section.lines
more-notes {P} old new line more notes is_open e f put =
    let one : note_lines_of (line ∷ []) ≡ cond (is_note_act line.act) 1 0 = omega arith in
    let all : note_lines_of new.section.lines ≡ note_lines_of (fed old.section line).lines = ap (λ (s : Session P). note_lines_of s.section.lines) put in
    omega (arith, one, e, f, all, notes-fed old.section line is_open.ends)

-- the line of a query runs its command
pub query-runs : (query : Asked) (line : ScriptLine) → line ≡ line_of query → RunsCommand line
query-runs query line e = (query.command, ap (λ (l : ScriptLine). l.act) e)

-- a line was put in
pub line-put : {P : Type 0} (is_own : P → Type 0) (shape : Shape) (known : P → Known) (old new : Session P) (line : ScriptLine) → RunsCommand line → IsAtWork is_own shape known old
    → new ≡ record old { section = fed old.section line } → HasRest shape known new → IsAtLine is_own shape known line new
line-put {P} is_own shape known old new line runs h e rested = record {
  own = subst (λ (s : Session P). is_own s.pass) (sym e) h.own;
  served = fed-runs_served shape old new line h.is_open runs (ap (λ (s : Session P). s.section) e) (client-fed old new line e) h.served;
  rested = rested;
  before = fed-before old new line h.is_open e;
  runs = runs;
}

-- before the line the session has read
pub line-read : {P : Type 0} (is_own : P → Type 0) (shape : Shape) (known : P → Known) (old new : Session P) (line : ScriptLine) → IsAtLine is_own shape known line old
    → is_own new.pass → HasRest shape known new → new ≡ record old { pass = new.pass; items = new.items } → IsAtLine is_own shape known line new
line-read {P} is_own shape known old new line h own rested e = record {
  own = own;
  served = subst (λ (s : Session P). IsServedBy shape s.section s.plan) (sym e) h.served;
  rested = rested;
  before = read-before old new line h.before e;
  runs = h.runs;
}

-- between two lines it has
pub work-read : {P : Type 0} (is_own : P → Type 0) (shape : Shape) (known : P → Known) (old new : Session P) → IsAtWork is_own shape known old → is_own new.pass → HasRest shape known new
    → new ≡ record old { pass = new.pass; items = new.items } → IsAtWork is_own shape known new
work-read {P} is_own shape known old new h own rested e = record {
  own = own;
  served = subst (λ (s : Session P). IsServedBy shape s.section s.plan) (sym e) h.served;
  rested = rested;
  is_open = record {
    ends = record { front = h.is_open.ends.front; last = h.is_open.ends.last; split = ap (λ (s : Session P). s.section.lines) e ∙ h.is_open.ends.split; quits = h.is_open.ends.quits };
    begun = ap (λ (s : Session P). s.done) e ∙ h.is_open.begun;
    between = ap (λ (s : Session P). s.doing) e ∙ h.is_open.between;
  };
}

-- before a line that neither listens nor opens a block nothing is to be read
pub line-unread : {P : Type 0} (s : Session P) (line : ScriptLine) → IsBefore s line → reads_first line.act ≡ false → IsToReadFirst s → ⊥
line-unread s line h none first =
    let next : next_reads_first (drop s.done s.section.lines) ≡ false = ap next_reads_first (before-comes s line h) ∙ none in
    true≢false (sym first.next ∙ next)

-- the line was run
pub line-work : {P : Type 0} (is_own : P → Type 0) (shape : Shape) (known : P → Known) (old two new : Session P) (line : ScriptLine) (step : Step) → IsAtLine is_own shape known line old
    → IsSameScript old two → Moves known old two step → new ≡ record two { pass = new.pass; items = new.items } → is_own new.pass → HasRest shape known new → IsAtWork is_own shape known new
line-work {P} is_own shape known old two new line step h same moved e own rested =
    let run = line-moved known old two line step h.before h.runs moved in
    let kept : IsSameScript old new = script-read old two new same e in
    record {
      own = own;
      served = subst (λ (plan : FlagPlan). IsServedBy shape new.section plan) (sym kept.plan) (subst (λ (s : Section). IsServedBy shape s old.plan) (sym kept.section) h.served);
      rested = rested;
      is_open = before-open old new line h.before kept.section (ap (λ (s : Session P). s.done) e ∙ run.counts) (ap (λ (s : Session P). s.doing) e ∙ run.between);
    }

-- what begins no line
no-line : (item : Item) → IsNoLine item → begins_line item ≡ false
no-line (Line n) h = absurd h
no-line item h = refl

pub no-lines : (items : List Item) → All IsNoLine items → list_any begins_line items ≡ false
no-lines [] h = refl
no-lines (item ∷ items) h =
    ap (λ (b : Bool). b || list_any begins_line items) (no-line item (All-head IsNoLine item items h)) ∙ no-lines items (All-tail IsNoLine item items h)

-- a session that has stepped over a line, and idled, has run it
pub line-ran : {P : Type 0} (shape : Shape) (known : P → Known) (old two new : Session P) (line : ScriptLine) (step : Step) (done : IdleDone) → IsBefore old line → RunsCommand line → Moves known old two step
    → HasIdled shape.format (known two.pass) (known new.pass) two.set.channels two.items.items new.items.items done → HasRun old line new
line-ran shape known old two new line step done before runs moved idled =
    let run = line-moved known old two line step before runs moved in
    let behind = idle-shows shape.format (known two.pass) (known new.pass) two.set.channels two.items.items new.items.items done idled in
    record {
      more = run.more ++ behind.reads;
      shown = behind.shown ∙ ap (λ (is : List Item). is ++ behind.reads) run.shown ∙ append_assoc old.items.items (Line line.line ∷ run.more) behind.reads;
      one_line = no-lines (run.more ++ behind.reads) (All-append IsNoLine run.more behind.reads run.one_line (reads-no_line behind.reads behind.are));
    }

-- the line stands among the items of a session that has run it
pub ran-within : {P : Type 0} (old new : Session P) (line : ScriptLine) (from : ℕ) → from ≡ length old.items.items → HasRun old line new → from < length new.items.items
ran-within old new line from e h =
    let long : length new.items.items ≡ length (old.items.items ++ Line line.line ∷ h.more) = ap (λ (is : List Item). length is) h.shown in
    omega (arith, e, long, length-append old.items.items (Line line.line ∷ h.more))

-- the same behind a line that was put in
pub ran-behind : {P : Type 0} (old mid new : Session P) (line : ScriptLine) → mid ≡ record old { section = fed old.section line } → HasRun mid line new → HasRun old line new
ran-behind {P} old mid new line e h = record { more = h.more; shown = h.shown ∙ ap (λ (s : Session P). s.items.items ++ Line line.line ∷ h.more) e; one_line = h.one_line }

-- a session that is as it was has a lawful trace
pub lawful-same : {P : Type 0} (shape : Shape) (known : P → Known) (old new : Session P) → new ≡ old → HasRest shape known old → IsLawful shape new
lawful-same {P} shape known old new e h = subst (λ (s : Session P). IsLawful shape s) (sym e) (rest-lawful shape known old h)

-- a read is what is heard between two lines
pub reads-are : (reads : List Item) → IsReadAtMost reads → All IsRead reads
reads-are reads are = read-all IsRead (λ from to got. tt) reads are

-- a session that has rested between two lines has answered
pub rest-answers : {P : Type 0} (shape : Shape) (known : P → Known) (s : Session P) → s.doing ≡ Lines → HasRest shape known s → HasAnswer shape known s
rest-answers shape known s e h =
    let rested : RestsAt shape known s Lines = subst (λ (d : Doing). RestsAt shape known s d) e h in
    let answered : AnswersAt shape known s Lines = record { state = rested.state; stands = rested.stands; rest = rested.rest; channels = rested.channels; here = rested.here.0 } in
    subst (λ (d : Doing). AnswersAt shape known s d) (sym e) answered

-- what quitting shows is no read
quit-unread : (mark : Option ℕ) → All (λ (item : Item). IsRead item → ⊥) (quit_items mark)
quit-unread None = All-nil (λ (item : Item). IsRead item → ⊥)
quit-unread (Some n) = All-cons (λ (item : Item). IsRead item → ⊥) Leave [] (λ h. h) (All-nil (λ (item : Item). IsRead item → ⊥))

-- the `\quit` behind turns
quit-behind : {P : Type 0} (shape : Shape) (known : P → Known) (old two new : Session P) (step : Step) (done : IdleDone) → IsOpen old → IsSameScript old two → Moves known old two step
    → new ≡ record two { pass = new.pass; items = new.items } → HasIdled shape.format (known two.pass) (known new.pass) two.set.channels two.items.items new.items.items done
    → (turns : List Turn) → IsInTurns old turns → HasQuitBehind new turns
quit-behind {P} shape known old two new step done is_open same moved e idled turns h =
    let ends : EndsByQuit old.section.lines = record { front = lines_of turns; last = seat_quit; split = h.lines; quits = refl } in
    let long : length (is_open.ends.front ++ is_open.ends.last ∷ []) ≡ length (lines_of turns ++ seat_quit ∷ []) = ap (λ (ls : List ScriptLine). length ls) (sym is_open.ends.split ∙ h.lines) in
    let begun : old.done ≡ length (lines_of turns) =
    omega (arith, is_open.begun, long, length-append is_open.ends.front (is_open.ends.last ∷ []), length-append (lines_of turns) (seat_quit ∷ [])) in
    let opened : IsOpen old = record { ends = ends; begun = begun; between = is_open.between } in
    let quit = quit-taken shape known old two new step done opened moved e idled in
    record {
      plain = h.plain;
      lines = ap (λ (s : Section). s.lines) (script-read old two new same e).section ∙ h.lines;
      more = quit_items quit.mark;
      items = quit.shown ∙ ap (λ (is : List Item). is ++ Line seat_quit.line ∷ quit_items quit.mark) h.items;
      unread = quit-unread quit.mark;
    }

-- a session that has stepped over its `\quit`, and idled, has quit
pub quit-done : {P : Type 0} (shape : Shape) (known : P → Known) (old two new : Session P) (step : Step) (done : IdleDone) → IsOpen old → IsSameScript old two → Moves known old two step
    → new ≡ record two { pass = new.pass; items = new.items } → HasIdled shape.format (known two.pass) (known new.pass) two.set.channels two.items.items new.items.items done → HasQuit known old new
quit-done {P} shape known old two new step done is_open same moved e idled =
    let quit = quit-taken shape known old two new step done is_open moved e idled in
    record { over = quit.over; left = quit.left; behind = quit-behind shape known old two new step done is_open same moved e idled }

-- what stays of a desk where a line is put into its session's script
pub put-asks : {P : Type 0} (old new : Desk P) → new ≡ record old { session = new.session; notes = new.notes } → new.asks ≡ old.asks
put-asks {P} old new e = ap (λ (d : Desk P). d.asks) e

-- its settings stay too
pub put-settings : {P : Type 0} (old new : Desk P) → new ≡ record old { session = new.session; notes = new.notes } → new.settings ≡ old.settings
put-settings {P} old new e = ap (λ (d : Desk P). d.settings) e

-- a desk may take a line with a command before which no session reads
pub may-take : {P : Type 0} (is_own : P → Type 0) (shape : Shape) (known : P → Known) (line other : ScriptLine) (desk : Desk P) (command : Command) → line ≡ other → other.act ≡ Run command → reads_first other.act ≡ false
    → IsAtWork is_own shape known desk.session → desk.notes ≡ note_lines_of desk.session.section.lines → MayTake is_own shape known line desk
may-take is_own shape known line other desk command e does unread work counted = record {
  work = work;
  runs = (command, ap (λ (l : ScriptLine). l.act) e ∙ does);
  unread = ap (λ (l : ScriptLine). reads_first l.act) e ∙ unread;
  counted = counted;
}
