-- A query that was taken, and a session that was stopped.
use Rattle.std.proofs.Common.{◌≡◌, ◌≢◌, ℕ, ◌+◌, ◌<◌, false, length, arith, List, [], ◌∷◌, ◌++◌, Option, Result, Ok, Err, OnOk, OnErr, Some, None, sym, ap, ◌∙◌, subst, refl, append_assoc, append-nil}
use Rattle.std.specs.List.{list_any}
use Rattle.std.proofs.lemmas.List.{length-append}
use Rattle.pgn_base.specs.declared.command.Command.{Command}
use Rattle.pgn_language.specs.declared.scenario.Act.TheVariants.{Quit, Run}
use Rattle.pgn_language.specs.declared.scenario.ScriptLine.{ScriptLine}
use Rattle.pgn_language.specs.declared.scenario.Section.{Section}
use Rattle.pgn_model.specs.declared.item.Item.{Item}
use Rattle.pgn_model.specs.declared.item.Item.TheVariants.{Line}
use Rattle.pgn_model.specs.Walk.{State}
use Rattle.pgn_model.specs.laws.NextLine.{quit_items}
use Rattle.pgn_hub.specs.declared.known.Known.{Known}
use Rattle.pgn_hub.specs.Shape.{Shape}
use Rattle.pgn_session.specs.declared.session.Session.{Session}
use Rattle.pgn_session.specs.declared.doing.Doing.TheVariants.{Lines}
use Rattle.pgn_session.specs.declared.doing.Step.{Step}
use Rattle.pgn_session.specs.declared.doing.IdleDone.{IdleDone}
use Rattle.pgn_session.specs.Whole.{HasAnswer, HasRest, IsSameScript}
use Rattle.pgn_session.specs.Parts.{Begins, HasIdled}
use Rattle.pgn_session.specs.Feed.{fed}
use Rattle.pgn_session.specs.Open.{HasStood, IsBefore, IsOpen, IsSameClient, RunsCommand}
use Rattle.pgn_session.proofs.FeedLaws.{fed-split}
use Rattle.pgn_session.proofs.OpenLaws.{before-rest, fed-before, open-rest, rested-block, stood-answer, stood-rest}
use Rattle.pgn_session.proofs.LineTakenLaws.{LineMoved, Moves, line-moved, line-open}
use Rattle.pgn_session.proofs.OpenQuitLaws.{quit-moved, quit-taken}
use Rattle.pgn_messages.specs.Messages.{act_command, answer_messages, messages, next_command}
use Rattle.pgn_messages.specs.Laws.{after, begins_line}
use Rattle.pgn_messages.proofs.GrowLaws.{query_answers, others_are_silent}
use Rattle.pgn_messages.proofs.RestLaws.{line_is_put_in, one_line_begins}
use Rattle.pgn_wire.specs.Serving.{HasStopped, HasTaken}

-- a session whose script was fed has its pass still
pub fed-own : {P : Type 0} (is_own : P → Type 0) (old new : Session P) (line : ScriptLine) → new ≡ record old { section = fed old.section line } → is_own old.pass → is_own new.pass
fed-own {P} is_own old new line e h = subst (λ (s : Session P). is_own s.pass) (sym e) h

-- what holds anyhow
pub on_ok : {T E : Type 0} (r : Result T E) (P : Type 0) → P → OnOk r P
on_ok (Ok x) P p = p
on_ok (Err e) P p = tt

-- what feeding a session asks: its `\quit` is to come, and the line is none
pub open-quits : {P : Type 0} (s : Session P) → IsOpen s → s.done < length s.section.lines
open-quits s h =
    let long : length s.section.lines ≡ length (h.ends.front ++ h.ends.last ∷ []) = ap (λ (ls : List ScriptLine). length ls) h.ends.split in
    omega (arith, long, h.begun, length-append h.ends.front (h.ends.last ∷ []))

-- a line that runs a command is no `\quit`
pub runs-on : (line : ScriptLine) → RunsCommand line → line.act ≢ Quit
runs-on line runs is = let both : Run runs.0 ≡ Quit = sym runs.1 ∙ is in let no : ⊥ = cc in no

-- what holds of a session whose script was fed, or was not
pub fed-section : {P : Type 0} (old new : Session P) (line : ScriptLine) → new ≡ record old { section = fed old.section line } → new.section ≡ fed old.section line
fed-section {P} old new line e = ap (λ (s : Session P). s.section) e

-- it serves the same client
pub client-fed : {P : Type 0} (old new : Session P) (line : ScriptLine) → new ≡ record old { section = fed old.section line } → IsSameClient old new
client-fed {P} old new line e = record {
  section = ap (λ (s : Session P). s.section) e ∙ ap (λ (ls : List ScriptLine). record old.section { lines = ls }) (sym (ap (λ (s : Session P). s.section.lines) e));
  plan = ap (λ (s : Session P). s.plan) e;
  patience = ap (λ (s : Session P). s.patience) e;
}

-- and so does one that stayed as it was
pub client-same : {P : Type 0} (old new : Session P) → new ≡ old → IsSameClient old new
client-same {P} old new e = subst (λ (s : Session P). IsSameClient old s) (sym e) (record { section = refl; plan = refl; patience = refl })

-- a session that was not fed has stopped as it stood
pub not-fed : {P : Type 0} (shape : Shape) (known : P → Known) (old new : Session P) → new ≡ old → HasRest shape known old → HasStopped shape known old new
not-fed {P} shape known old new e rested =
    subst (λ (s : Session P). HasStopped shape known old s) (sym e) (record { stood = stood-rest shape known old rested; behind = []; shown = sym (append-nil old.items.items); line = tt; same = refl })

-- its pass is still the hub's
pub same-own : {P : Type 0} (is_own : P → Type 0) (old new : Session P) → new ≡ old → is_own old.pass → is_own new.pass
same-own {P} is_own old new e h = subst (λ (s : Session P). is_own s.pass) (sym e) h

-- and its section is the same
pub same-section : {P : Type 0} (old new : Session P) → new ≡ old → new.section ≡ old.section
same-section {P} old new e = ap (λ (s : Session P). s.section) e

-- of one that has read
pub read-section : {P : Type 0} (old new : Session P) → new ≡ record old { pass = new.pass; items = new.items } → new.section ≡ old.section
read-section {P} old new e = ap (λ (s : Session P). s.section) e

-- and it serves the same client as before it was fed
pub client-read : {P : Type 0} (old mid new : Session P) → IsSameClient old mid → new ≡ record mid { pass = new.pass; items = new.items } → IsSameClient old new
client-read {P} old mid new h e = record {
  section = ap (λ (s : Session P). s.section) e ∙ h.section ∙ ap (λ (ls : List ScriptLine). record old.section { lines = ls }) (sym (ap (λ (s : Session P). s.section.lines) e));
  plan = ap (λ (s : Session P). s.plan) e ∙ h.plan;
  patience = ap (λ (s : Session P). s.patience) e ∙ h.patience;
}

-- two reads are one
pub read-both : {P : Type 0} (old mid new : Session P) → mid ≡ record old { pass = mid.pass; items = mid.items } → new ≡ record mid { pass = new.pass; items = new.items } → new ≡ record old { pass = new.pass; items = new.items }
read-both {P} old mid new h e = e ∙ ap (λ (s : Session P). record s { pass = new.pass; items = new.items }) h

-- a line more changes no message of an open session
pub put-in : {P : Type 0} (shape : Shape) (known : P → Known) (old : Session P) (line : ScriptLine) → IsOpen old → HasRest shape known old
    → messages (fed old.section line) old.items.items ≡ messages old.section old.items.items
put-in shape known old line is_open rested =
    let ends = is_open.ends in
    let come : (after old.section old.items.items).rest ≡ ends.last ∷ [] = open-rest shape known old is_open rested in
    ap (λ (ls : List ScriptLine). messages (record old.section { lines = ls }) old.items.items) (fed-split old.section line ends)
    ∙ line_is_put_in old.section ends.front line ends.last old.items.items ends.split (λ none. let no : ⊥ = cc in no)

-- the messages after a line with this command, said of the section and the items alone
answered : (old section : Section) (items more all : List Item) (line last : ScriptLine) (command : Command) → section ≡ fed old line → all ≡ items ++ Line line.line ∷ more
    → (after (fed old line) items).rest ≡ line ∷ last ∷ [] → (after section all).rest ≡ last ∷ [] → line.act ≡ Run command
    → messages (fed old line) items ≡ messages old items → messages section all ≡ messages old items ++ answer_messages command more (after section all).block
answered old section items more all line last command e f next end does kept =
    let new : Section = fed old line in
    let whole : List Item = items ++ Line line.line ∷ more in
    let same : after section all ≡ after new whole = ap (λ (s : Section). after s all) e ∙ ap (λ (is : List Item). after new is) f in
    let behind : (after new whole).rest ≡ last ∷ [] = ap (λ (t : State). t.rest) (sym same) ∙ end in
    ap (λ (s : Section). messages s all) e ∙ ap (λ (is : List Item). messages new is) f
    ∙ query_answers new items more line.line command (ap next_command next ∙ ap act_command does) (one_line_begins new items more line.line line last [] next behind)
    ∙ ap (λ (t : List ℕ). t ++ answer_messages command more (after new whole).block) kept
    ∙ ap (λ (t : State). messages old items ++ answer_messages command more t.block) (sym same)

-- the session has taken the query
pub taken : {P : Type 0} (shape : Shape) (known : P → Known) (old once new : Session P) (line : ScriptLine) (command : Command) (more : List Item) → IsOpen old → HasRest shape known old
    → once ≡ record old { section = fed old.section line } → HasRest shape known once → HasRest shape known new → line.act ≡ Run command → new.section ≡ fed old.section line
    → new.items.items ≡ old.items.items ++ Line line.line ∷ more → new.done ≡ old.done + 1 → new.doing ≡ Lines → HasTaken old line new
taken {P} shape known old once new line command more is_open rested e again ends does section shown counted between =
    let put : Session P = record old { section = fed old.section line } in
    let stands : IsBefore put line = fed-before old put line is_open refl in
    let next : (after (fed old.section line) old.items.items).rest ≡ line ∷ is_open.ends.last ∷ [] =
    before-rest shape known put line stands (subst (λ (s : Session P). HasRest shape known s) e again) in
    let behind : (after new.section new.items.items).rest ≡ is_open.ends.last ∷ [] = open-rest shape known new (line-open old new line is_open section counted between) ends in
    record {
      command = command;
      does = does;
      section = section;
      more = more;
      shown = shown;
      kept = ap (λ (s : Section). messages s old.items.items) section ∙ put-in shape known old line is_open rested;
      answers = answered old.section new.section old.items.items more new.items.items line is_open.ends.last command section shown next behind does (put-in shape known old line is_open rested)
          ∙ ap (λ b. messages old.section old.items.items ++ answer_messages command more b) (rested-block shape known new between ends);
      counted = counted;
      between = between;
    }

-- nothing more was shown, by a session whose script has the line or has it not
pub stopped-before : {P : Type 0} (shape : Shape) (known : P → Known) (old new : Session P) → HasStood shape known new → new.items.items ≡ old.items.items
    → messages new.section old.items.items ≡ messages old.section old.items.items → HasStopped shape known old new
stopped-before shape known old new stood shown same = record { stood = stood; behind = []; shown = shown ∙ sym (append-nil old.items.items); line = tt; same = same }

-- a line was shown, and its answer was not sent
pub stopped-behind : {P : Type 0} (shape : Shape) (known : P → Known) (old new : Session P) (n : ℕ) (more : List Item) → HasStood shape known new → new.items.items ≡ old.items.items ++ Line n ∷ more
    → messages new.section old.items.items ≡ messages old.section old.items.items → HasStopped shape known old new
stopped-behind shape known old new n more stood shown same = record { stood = stood; behind = Line n ∷ more; shown = shown; line = tt; same = same }

-- it holds in the case of an error
pub on_err : {T E : Type 0} (r : Result T E) (P : Type 0) → P → OnErr r P
on_err (Ok x) P p = tt
on_err (Err e) P p = p

-- a step over the query's line
stepped-line : {P : Type 0} (known : P → Known) (old once two : Session P) (line : ScriptLine) (step : Step) → IsOpen old → RunsCommand line → once ≡ record old { section = fed old.section line } → Moves known once two step
    → LineMoved old.items.items two.items.items old.done two.done line.line two.doing
stepped-line {P} known old once two line step is_open runs e moved =
    let stepped = line-moved known once two line step (fed-before old once line is_open e) runs moved in
    record {
      more = stepped.more;
      shown = stepped.shown ∙ ap (λ (s : Session P). s.items.items ++ Line line.line ∷ stepped.more) e;
      one_line = stepped.one_line;
      counts = stepped.counts ∙ ap (λ (s : Session P). s.done + 1) e;
      between = stepped.between;
    }

-- after it the session stands between two lines
pub query-between : {P : Type 0} (known : P → Known) (old once two : Session P) (line : ScriptLine) (step : Step) → IsOpen old → RunsCommand line → once ≡ record old { section = fed old.section line }
    → Moves known once two step → two.doing ≡ Lines
query-between known old once two line step is_open runs e moved = (stepped-line known old once two line step is_open runs e moved).between

-- the whole of a query
pub query-taken : {P : Type 0} (shape : Shape) (known : P → Known) (old once two new : Session P) (line : ScriptLine) (step : Step) → IsOpen old → HasRest shape known old → RunsCommand line
    → once ≡ record old { section = fed old.section line } → HasRest shape known once → IsSameScript once two → Moves known once two step
    → new ≡ record two { pass = new.pass; items = new.items } → Begins two.items.items new.items.items → HasRest shape known new → HasTaken old line new
query-taken {P} shape known old once two new line step is_open rested runs e again same moved kept grows ends =
    let stepped = stepped-line known old once two line step is_open runs e moved in
    let section : new.section ≡ fed old.section line = ap (λ (s : Session P). s.section) kept ∙ same.section ∙ ap (λ (s : Session P). s.section) e in
    let shown : new.items.items ≡ old.items.items ++ Line line.line ∷ (stepped.more ++ grows.more) =
    grows.split ∙ ap (λ (is : List Item). is ++ grows.more) stepped.shown ∙ append_assoc old.items.items (Line line.line ∷ stepped.more) grows.more in
    taken shape known old once new line runs.0 (stepped.more ++ grows.more) is_open rested e again ends runs.1 section shown (ap (λ (s : Session P). s.done) kept ∙ stepped.counts) (ap (λ (s : Session P). s.doing) kept ∙ stepped.between)

-- a query whose step was refused
pub step-refused : {P : Type 0} (shape : Shape) (known : P → Known) (old once new : Session P) (line : ScriptLine) → IsOpen old → HasRest shape known old → once ≡ record old { section = fed old.section line }
    → IsSameScript once new → HasRest shape known new → new.items.items ≡ once.items.items → HasStopped shape known old new
step-refused {P} shape known old once new line is_open rested e same still unshown =
    stopped-before shape known old new (stood-rest shape known new still) (unshown ∙ ap (λ (s : Session P). s.items.items) e)
    (ap (λ (s : Section). messages s old.items.items) (same.section ∙ ap (λ (s : Session P). s.section) e) ∙ put-in shape known old line is_open rested)

-- a query behind which a read was refused
pub read-refused : {P : Type 0} (shape : Shape) (known : P → Known) (old once two new : Session P) (line : ScriptLine) (step : Step) → IsOpen old → HasRest shape known old → RunsCommand line
    → once ≡ record old { section = fed old.section line } → IsSameScript once two → Moves known once two step
    → new ≡ record two { pass = new.pass; items = new.items } → Begins two.items.items new.items.items → HasStood shape known new → HasStopped shape known old new
read-refused {P} shape known old once two new line step is_open rested runs e same moved kept grows stood =
    let stepped = stepped-line known old once two line step is_open runs e moved in
    let shown : new.items.items ≡ old.items.items ++ Line line.line ∷ (stepped.more ++ grows.more) =
    grows.split ∙ ap (λ (is : List Item). is ++ grows.more) stepped.shown ∙ append_assoc old.items.items (Line line.line ∷ stepped.more) grows.more in
    stopped-behind shape known old new line.line (stepped.more ++ grows.more) stood shown
    (ap (λ (s : Section). messages s old.items.items) (ap (λ (s : Session P). s.section) kept ∙ same.section ∙ ap (λ (s : Session P). s.section) e) ∙ put-in shape known old line is_open rested)

-- what quitting shows begins no line
quit-silent : (mark : Option ℕ) → list_any begins_line (quit_items mark) ≡ false
quit-silent None = refl
quit-silent (Some n) = refl

-- the whole of a `\quit`
pub quit-is-silent : {P : Type 0} (shape : Shape) (known : P → Known) (old two new : Session P) (step : Step) (done : IdleDone) → IsOpen old → HasRest shape known old → IsSameScript old two
    → Moves known old two step → new ≡ record two { pass = new.pass; items = new.items } → HasIdled shape.format (known two.pass) (known new.pass) two.set.channels two.items.items new.items.items done
    → messages new.section new.items.items ≡ messages old.section old.items.items
quit-is-silent {P} shape known old two new step done is_open rested same moved kept has_idled =
    let quit = quit-taken shape known old two new step done is_open moved kept has_idled in
    let section : new.section ≡ old.section = ap (λ (s : Session P). s.section) kept ∙ same.section in
    let come : (after old.section old.items.items).rest ≡ is_open.ends.last ∷ [] = open-rest shape known old is_open rested in
    ap (λ (s : Section). messages s new.items.items) section ∙ ap (λ (is : List Item). messages old.section is) quit.shown
    ∙ others_are_silent old.section old.items.items (quit_items quit.mark) is_open.ends.last.line (ap next_command come ∙ ap act_command is_open.ends.quits) (quit-silent quit.mark)

-- a `\quit` that was refused
pub quit-refused : {P : Type 0} (shape : Shape) (known : P → Known) (old new : Session P) → IsSameScript old new → HasRest shape known new → new.items.items ≡ old.items.items → HasStopped shape known old new
quit-refused shape known old new same still unshown = stopped-before shape known old new (stood-rest shape known new still) unshown (ap (λ (s : Section). messages s old.items.items) same.section)

-- a session that stepped over its `\quit`, and was refused the read behind it, has stopped
pub quit-read-refused : {P : Type 0} (shape : Shape) (known : P → Known) (old two new : Session P) (step : Step) → IsOpen old → IsSameScript old two → Moves known old two step
    → new ≡ record two { pass = new.pass; items = new.items } → new.items.items ≡ two.items.items → HasAnswer shape known new → HasStopped shape known old new
quit-read-refused {P} shape known old two new step is_open same moved kept unshown answer =
    let quit = quit-moved known old two step is_open moved in
    stopped-behind shape known old new is_open.ends.last.line (quit_items quit.mark) (stood-answer shape known new answer) (unshown ∙ quit.shown)
    (ap (λ (s : Section). messages s old.items.items) (ap (λ (s : Session P). s.section) kept ∙ same.section))

-- a fact of an Ok, behind any premise
pub whatever : {T E : Type 0} (r : Result T E) (P Q : Type 0) → OnOk r Q → OnOk r (P → Q)
whatever (Ok x) P Q h = λ p. h
whatever (Err e) P Q h = tt
