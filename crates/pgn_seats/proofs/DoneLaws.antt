-- What was done and told of what was asked, over the parts of a turn.
use Rattle.std.proofs.Common.{◌≡◌, ℕ, ◌+◌, false, List, [], ◌∷◌, ◌++◌, length, drop, All, Option, Some, None, sym, ap, ◌∙◌, refl, subst, append_assoc, append-nil}
use Rattle.std.specs.Prelude.{flat_map, fold, map}
use Rattle.std.proofs.lemmas.List.{length-append}
use lib.Seq.{drop-append_seam}
use Rattle.std.specs.List.{list_any}
use Rattle.std.proofs.lemmas.Grind.{flat_map-append}
use Rattle.std.proofs.lemmas.List.Elements.{All-nil, All-cons, All-append}
use Rattle.pgn_answers.specs.declared.block_state.BlockState.{BlockState}
use Rattle.pgn_language.specs.declared.scenario.ScriptLine.{ScriptLine}
use Rattle.pgn_language.specs.declared.scenario.Section.{Section}
use Rattle.pgn_model.specs.declared.item.Item.{Item}
use Rattle.pgn_model.specs.declared.item.Item.TheVariants.{Line}
use Rattle.pgn_model.specs.Walk.{State, after_item, start}
use Rattle.pgn_hub.specs.declared.known.Known.{Known}
use Rattle.pgn_hub.specs.Shape.{Shape}
use Rattle.pgn_messages.specs.Laws.{begins_line}
use Rattle.pgn_outlet.specs.declared.hand.Hand.{Hand}
use Rattle.pgn_outlet.specs.Cames.{what_of}
use Rattle.pgn_requests.specs.declared.settled.Settled.{Settled}
use Rattle.pgn_requests.specs.Settings.{Kept, fresh, kept_after}
use Rattle.pgn_session.specs.declared.session.Session.{Session}
use Rattle.pgn_session.specs.declared.doing.Doing.TheVariants.{Lines}
use Rattle.pgn_session.specs.Feed.{EndsByQuit, fed}
use Rattle.pgn_session.specs.Open.{ShowsRead}
use Rattle.pgn_session.specs.Parts.{Begins}
use Rattle.pgn_session.specs.Whole.{HasRest}
use Rattle.pgn_session.proofs.FeedLaws.{fed-split}
use Rattle.pgn_session.proofs.OpenLaws.{rested-block}
use Rattle.pgn_messages.specs.declared.asked.Ask.{Ask}
use Rattle.pgn_messages.specs.declared.asked.Ask.TheVariants.{Discard, End, Query, Settle}
use Rattle.pgn_messages.specs.declared.asked.Asked.{Asked}
use Rattle.pgn_messages.specs.declared.asked.Parting.{Parting}
use Rattle.pgn_messages.specs.declared.saying.Saying.{Saying}
use Rattle.pgn_messages.specs.Asks.{discard_line, line_of, lines_for, rollback_line, seat_quit, unlisten_line}
use Rattle.pgn_messages.specs.TurnLaws.{HasTurnMore}
use Rattle.pgn_messages.specs.Sayings.{all_told}
use Rattle.pgn_messages.specs.Served.{discard_answer, discarded, settled_answer, told_answer}
use Rattle.pgn_messages.specs.Turns.{Telling, Turn, Answers, Discards, Hears, IsPlain, IsRead, Leaves, Settles, after_line, asked_in, farewell, heard, items_in, items_of, kept_in, lines_of, said, signs_in, telling_of}
use Rattle.pgn_messages.proofs.TurnGrowLaws.{telling_walks, turns_grow}
use Rattle.pgn_messages.proofs.WalkLaws.{turns_walk}
use Rattle.pgn_seats.specs.Working.{HasDone, HasDoneFirst, HasRun, HasRunBoth, HasSaid, IsAtWork, StaysDone}
use Rattle.pgn_seats.proofs.WorkLaws.{reads-are}

-- what was done whole was done first
pub done-first : {P : Type 0} (rest : List ScriptLine) (asks : List Ask) (s : Session P) (kept : Kept) (tells : Hand Saying) → HasDone rest asks s kept tells → HasDoneFirst asks s tells
done-first rest asks s kept tells h =
    record { turns = h.turns; plain = h.plain; asked = h.asked; rest = rest; lines = h.lines; more = []; items = h.items ∙ sym (append-nil (items_of h.turns)); told = h.told }

-- the settings, by another name
pub done-kept : {P : Type 0} (rest : List ScriptLine) (asks : List Ask) (s : Session P) (kept other : Kept) (tells : Hand Saying) → other ≡ kept → HasDone rest asks s kept tells → HasDone rest asks s other tells
done-kept {P} rest asks s kept other tells e h = subst (λ (k : Kept). HasDone rest asks s k tells) (sym e) h

-- nothing more was told
pub first-untold : {P : Type 0} (asks : List Ask) (s : Session P) (before after : Hand Saying) → after ≡ before → HasDoneFirst asks s before → HasDoneFirst asks s after
first-untold {P} asks s before after e h = subst (λ (v : Hand Saying). HasDoneFirst asks s v) (sym e) h

-- what was told, by the same number
told-at : (n m : ℕ) (turns : List Turn) (tells : Hand Saying) → n ≡ m → all_told (what_of m tells.sent) ≡ said m turns → all_told (what_of n tells.sent) ≡ said n turns
told-at n m turns tells e h = subst (λ (k : ℕ). all_told (what_of k tells.sent) ≡ said k turns) (sym e) h

-- a call that leaves the session
pub same-stays : {P : Type 0} (old new : Session P) → new ≡ old → StaysDone old new
same-stays {P} old new e asks tells h = subst (λ (s : Session P). HasDoneFirst asks s tells) (sym e) h

-- one that shows more
pub shown-stays : {P : Type 0} (old new : Session P) → new.section ≡ old.section → Begins old.items.items new.items.items → StaysDone old new
shown-stays old new e begins asks tells h = record {
  turns = h.turns;
  plain = h.plain;
  asked = h.asked;
  rest = h.rest;
  lines = ap (λ (s : Section). s.lines) e ∙ h.lines;
  more = h.more ++ begins.more;
  items = begins.split ∙ ap (λ (is : List Item). is ++ begins.more) h.items ∙ append_assoc (items_of h.turns) h.more begins.more;
  told = told-at new.section.no old.section.no h.turns tells (ap (λ (s : Section). s.no) e) h.told;
}

-- what was done first stays so where the session reads
pub read-stays : {P : Type 0} (old new : Session P) → new ≡ record old { pass = new.pass; items = new.items } → Begins old.items.items new.items.items → StaysDone old new
read-stays {P} old new e begins asks tells h = shown-stays old new (ap (λ (s : Session P). s.section) e) begins asks tells h

-- how a script ends of which the first lines are these
abbrev quits : (lines front : List ScriptLine) → lines ≡ front ++ seat_quit ∷ [] → EndsByQuit lines
quits lines front e = record { front = front; last = seat_quit; split = e; quits = refl }

-- a line that was put in stands behind those of the turns
fed-lines : (section : Section) (line : ScriptLine) (front rest : List ScriptLine) → section.lines ≡ front ++ (rest ++ seat_quit ∷ []) → (fed section line).lines ≡ front ++ ((rest ++ line ∷ []) ++ seat_quit ∷ [])
fed-lines section line front rest e =
    let split : section.lines ≡ (front ++ rest) ++ seat_quit ∷ [] = e ∙ sym (append_assoc front rest (seat_quit ∷ [])) in
    let all : (fed section line).lines ≡ (front ++ rest) ++ line ∷ seat_quit ∷ [] = fed-split section line (quits section.lines (front ++ rest) split) in
    all ∙ append_assoc front rest (line ∷ seat_quit ∷ []) ∙ ap (λ (ls : List ScriptLine). front ++ ls) (sym (append_assoc rest (line ∷ []) (seat_quit ∷ [])))

-- and where a line is put into its script
pub put-stays : {P : Type 0} (old new : Session P) (line : ScriptLine) → new ≡ record old { section = fed old.section line } → StaysDone old new
put-stays {P} old new line e asks tells h = record {
  turns = h.turns;
  plain = h.plain;
  asked = h.asked;
  rest = h.rest ++ line ∷ [];
  lines = ap (λ (s : Session P). s.section.lines) e ∙ fed-lines old.section line (lines_of h.turns) h.rest h.lines;
  more = h.more;
  items = ap (λ (s : Session P). s.items.items) e ∙ h.items;
  told = told-at new.section.no old.section.no h.turns tells (ap (λ (s : Session P). s.section.no) e) h.told;
}

-- what was done is done still, with the line to come
pub put-done : {P : Type 0} (asks : List Ask) (old new : Session P) (kept : Kept) (tells : Hand Saying) (line : ScriptLine) → new ≡ record old { section = fed old.section line } → HasDone [] asks old kept tells
    → HasDone (line ∷ []) asks new kept tells
put-done {P} asks old new kept tells line e h = record {
  turns = h.turns;
  plain = h.plain;
  asked = h.asked;
  lines = ap (λ (s : Session P). s.section.lines) e ∙ fed-lines old.section line (lines_of h.turns) [] h.lines;
  items = ap (λ (s : Session P). s.items.items) e ∙ h.items;
  told = told-at new.section.no old.section.no h.turns tells (ap (λ (s : Session P). s.section.no) e) h.told;
  settings = h.settings;
}

-- one part behind another
pub stays-both : {P : Type 0} (a b c : Session P) → StaysDone a b → StaysDone b c → StaysDone a c
stays-both a b c h k asks tells first = k asks tells (h asks tells first)

-- the state of the block behind turns is the session's
pub block-now : {P : Type 0} (shape : Shape) (known : P → Known) (s : Session P) (turns : List Turn) → s.doing ≡ Lines → HasRest shape known s → All IsPlain turns → s.section.lines ≡ lines_of turns ++ seat_quit ∷ []
    → s.items.items ≡ items_of turns → (telling_of turns).walk.block ≡ s.block.state
block-now shape known s turns between rested plain lines items =
    let walk = turns_walk s.section turns (seat_quit ∷ []) lines plain in
    ap (λ (t : State). t.block) (telling_walks turns)
    ∙ sym (ap (λ (t : State). t.block) walk)
    ∙ ap (λ (is : List Item). (fold after_item (start s.section) is).block) (sym items)
    ∙ rested-block shape known s between rested

-- the same before what is done next
pub block-done : {P : Type 0} (is_own : P → Type 0) (shape : Shape) (known : P → Known) (asks : List Ask) (s : Session P) (kept : Kept) (tells : Hand Saying) → IsAtWork is_own shape known s → (h : HasDone [] asks s kept tells)
    → (telling_of h.turns).walk.block ≡ s.block.state
block-done is_own shape known asks s kept tells work h = block-now shape known s h.turns work.is_open.between work.rested h.plain h.lines h.items

-- a turn more was done and told
turn-done : {P : Type 0} (rest next : List ScriptLine) (asks all : List Ask) (old new : Session P) (kept later : Kept) (before after : Hand Saying) (turn : Turn) → (h : HasDone rest asks old kept before) → IsPlain turn
    → asks ++ asked_in turn ≡ all → new.section.no ≡ old.section.no → new.section.lines ≡ (lines_of h.turns ++ flat_map lines_for (asked_in turn)) ++ (next ++ seat_quit ∷ []) → new.items.items ≡ old.items.items ++ items_in turn
    → later ≡ kept_in (telling_of h.turns).walk.block kept turn → HasSaid new.section.no (signs_in new.section.no (telling_of h.turns) turn) before after → HasDone next all new later after
turn-done rest next asks all old new kept later before after turn h plain asked number lines items settings told =
    let n : ℕ = new.section.no in
    let grown : HasTurnMore n h.turns turn = turns_grow n h.turns turn in
    record {
      turns = h.turns ++ turn ∷ [];
      plain = All-append IsPlain h.turns (turn ∷ []) h.plain (All-cons IsPlain turn [] plain (All-nil IsPlain));
      asked = grown.asks ∙ ap (λ (l : List Ask). l ++ asked_in turn) h.asked ∙ asked;
      lines = lines ∙ ap (λ (ls : List ScriptLine). ls ++ (next ++ seat_quit ∷ [])) (sym grown.lines);
      items = items ∙ ap (λ (is : List Item). is ++ items_in turn) h.items ∙ sym grown.items;
      told = told ∙ ap (λ (l : List (Option ℕ)). l ++ signs_in n (telling_of h.turns) turn) (told-at n old.section.no h.turns before number h.told) ∙ sym grown.signs;
      settings = settings
          ∙ ap (λ (k : Kept). kept_in (telling_of h.turns).walk.block k turn) h.settings
          ∙ sym (ap (λ (t : Telling). t.kept) grown.telling);
    }

-- bytes are all that is told of a turn that ends no client
plain-signs : (n : ℕ) (bytes : List ℕ) (before after : Hand Saying) → HasSaid n (map Some bytes) before after → HasSaid n (map Some bytes ++ []) before after
plain-signs n bytes before after told = told ∙ ap (λ (l : List (Option ℕ)). all_told (what_of n before.sent) ++ l) (sym (append-nil (map Some bytes)))

-- reads were heard and told
hears-done : {P : Type 0} (rest : List ScriptLine) (asks : List Ask) (old new : Session P) (kept : Kept) (before after : Hand Saying) (reads : List Item) → HasDone rest asks old kept before
    → new ≡ record old { pass = new.pass; items = new.items } → new.items.items ≡ old.items.items ++ reads → All IsRead reads → HasSaid new.section.no (map Some (flat_map heard reads)) before after
    → HasDone rest asks new kept after
hears-done {P} rest asks old new kept before after reads h e shown are told =
    turn-done rest rest asks asks old new kept kept before after (Hears reads) h are (append-nil asks) (ap (λ (s : Session P). s.section.no) e)
    (ap (λ (s : Session P). s.section.lines) e ∙ h.lines ∙ ap (λ (ls : List ScriptLine). ls ++ (rest ++ seat_quit ∷ [])) (sym (append-nil (lines_of h.turns)))) shown refl
    (plain-signs new.section.no (flat_map heard reads) before after told)

-- what was shown behind the first items
shown-behind : (xs ys all : List Item) (from : ℕ) → from ≡ length xs → all ≡ xs ++ ys → drop from all ≡ ys
shown-behind xs ys all from place shown = ap (λ (n : ℕ). drop n all) place ∙ ap (λ (is : List Item). drop (length xs) is) shown ∙ drop-append_seam xs ys

-- a read that was shown behind the first items, and was told from there on
pub read-done : {P : Type 0} (rest : List ScriptLine) (asks : List Ask) (old new : Session P) (kept : Kept) (before after : Hand Saying) (from : ℕ) → HasDone rest asks old kept before
    → new ≡ record old { pass = new.pass; items = new.items } → ShowsRead old.items.items new.items.items → from ≡ length old.items.items
    → HasSaid new.section.no (map Some (flat_map heard (drop from new.items.items))) before after → HasDone rest asks new kept after
read-done rest asks old new kept before after from h e shows place told =
    let reads : drop from new.items.items ≡ shows.reads = shown-behind old.items.items shows.reads new.items.items from place shows.shown in
    hears-done rest asks old new kept before after shows.reads h e shows.shown (reads-are shows.reads shows.are)
    (subst (λ (is : List Item). HasSaid new.section.no (map Some (flat_map heard is)) before after) reads told)

-- the state of the block behind an answer is the session's
answer-state : {P : Type 0} (shape : Shape) (known : P → Known) (new : Session P) (turns : List Turn) (query : Asked) (more : List Item) (lines : new.section.lines ≡ (lines_of turns ++ line_of query ∷ []) ++ seat_quit ∷ [])
    (items : new.items.items ≡ items_of turns ++ Line query.line ∷ more) → new.doing ≡ Lines → HasRest shape known new → All IsPlain turns → list_any begins_line more ≡ false
    → (after_line (telling_of turns).walk query.command more).block ≡ new.block.state
answer-state shape known new turns query more lines items between rested plain silent =
    let turn : Turn = Answers query more in
    let grown : HasTurnMore new.section.no turns turn = turns_grow new.section.no turns turn in
    sym (ap (λ (t : Telling). t.walk.block) grown.telling)
    ∙ block-now shape known new (turns ++ turn ∷ []) between rested (All-append IsPlain turns (turn ∷ []) plain (All-cons IsPlain turn [] silent (All-nil IsPlain)))
    (lines ∙ ap (λ (ls : List ScriptLine). ls ++ seat_quit ∷ []) (sym grown.lines)) (items ∙ sym grown.items)

-- a query was answered and told
answers-done : {P : Type 0} (shape : Shape) (known : P → Known) (asks : List Ask) (query : Asked) (old new : Session P) (kept : Kept) (before after : Hand Saying) (more : List Item)
    → HasDone (line_of query ∷ []) asks old kept before → new.section ≡ old.section → new.items.items ≡ old.items.items ++ Line query.line ∷ more → list_any begins_line more ≡ false → new.doing ≡ Lines → HasRest shape known new
    → HasSaid new.section.no (map Some (told_answer query more new.block.state)) before after → HasDone [] (asks ++ Query query ∷ []) new kept after
answers-done shape known asks query old new kept before after more h e shown silent between rested told =
    let turn : Turn = Answers query more in
    let lines : new.section.lines ≡ (lines_of h.turns ++ line_of query ∷ []) ++ seat_quit ∷ [] = ap (λ (s : Section). s.lines) e ∙ h.lines ∙ sym (append_assoc (lines_of h.turns) (line_of query ∷ []) (seat_quit ∷ [])) in
    let items : new.items.items ≡ items_of h.turns ++ Line query.line ∷ more = shown ∙ ap (λ (is : List Item). is ++ Line query.line ∷ more) h.items in
    let state : (after_line (telling_of h.turns).walk query.command more).block ≡ new.block.state = answer-state shape known new h.turns query more lines items between rested h.plain silent in
    turn-done (line_of query ∷ []) [] asks (asks ++ Query query ∷ []) old new kept kept before after turn h silent refl (ap (λ (s : Section). s.no) e) lines shown refl
    (subst (λ (b : BlockState). HasSaid new.section.no (map Some (told_answer query more b) ++ []) before after) (sym state) (plain-signs new.section.no (told_answer query more new.block.state) before after told))

-- what stands behind a line
behind-line : (xs : List Item) (x : Item) (ys : List Item) → drop (length xs + 1) (xs ++ x ∷ ys) ≡ ys
behind-line xs x ys =
    let long : length xs + 1 ≡ length (xs ++ x ∷ []) = sym (length-append xs (x ∷ [])) in
    ap (λ (n : ℕ). drop n (xs ++ x ∷ ys)) long
    ∙ ap (λ (is : List Item). drop (length (xs ++ x ∷ [])) is) (sym (append_assoc xs (x ∷ []) ys))
    ∙ drop-append_seam (xs ++ x ∷ []) ys

-- a line that was shown behind the first items was answered, and told from there on
pub run-done : {P : Type 0} (is_own : P → Type 0) (shape : Shape) (known : P → Known) (asks : List Ask) (query : Asked) (old new : Session P) (kept : Kept) (before after : Hand Saying) (from : ℕ)
    → HasDone (line_of query ∷ []) asks old kept before → new.section ≡ old.section → HasRun old (line_of query) new → IsAtWork is_own shape known new → from ≡ length old.items.items
    → HasSaid new.section.no (map Some (told_answer query (drop (from + 1) new.items.items) new.block.state)) before after → HasDone [] (asks ++ Query query ∷ []) new kept after
run-done is_own shape known asks query old new kept before after from h e run work place told =
    let more : drop (from + 1) new.items.items ≡ run.more =
    ap (λ (n : ℕ). drop (n + 1) new.items.items) place ∙ ap (λ (is : List Item). drop (length old.items.items + 1) is) run.shown ∙ behind-line old.items.items (Line query.line) run.more in
    answers-done shape known asks query old new kept before after run.more h e run.shown run.one_line work.is_open.between work.rested
    (subst (λ (is : List Item). HasSaid new.section.no (map Some (told_answer query is new.block.state)) before after) more told)

-- two lines that were put in stand behind those of the turns
both-lines : (section : Section) (first second : ScriptLine) (front : List ScriptLine) → section.lines ≡ front ++ seat_quit ∷ []
    → (fed (fed section first) second).lines ≡ (front ++ (first ∷ second ∷ [])) ++ seat_quit ∷ []
both-lines section first second front e =
    fed-lines (fed section first) second front (first ∷ []) (fed-lines section first front [] e) ∙ sym (append_assoc front (first ∷ second ∷ []) (seat_quit ∷ []))

-- a client's end was done and told: the next one's settings are fresh
pub leaves-done : {P : Type 0} (asks : List Ask) (parting : Parting) (number : ℕ) (old new : Session P) (kept later : Kept) (before after : Hand Saying) → HasDone [] asks old kept before
    → HasRunBoth old (rollback_line number) (unlisten_line (number + 1)) new → later ≡ fresh → HasSaid new.section.no (map Some (farewell parting) ++ None ∷ []) before after → HasDone [] (asks ++ End number parting ∷ []) new later after
leaves-done asks parting number old new kept later before after h set settings told =
    turn-done [] [] asks (asks ++ End number parting ∷ []) old new kept later before after (Leaves parting number set.one set.two) h (set.one_line, set.one_more) refl (ap (λ (s : Section). s.no) set.section)
    (ap (λ (s : Section). s.lines) set.section ∙ both-lines old.section (rollback_line number) (unlisten_line (number + 1)) (lines_of h.turns) h.lines) set.shown settings told

-- what is settled without the session was told by the settings and the state of its block, and the settings are those behind it
pub settles-done : {P : Type 0} (is_own : P → Type 0) (shape : Shape) (known : P → Known) (asks : List Ask) (settled : Settled) (state : BlockState) (s : Session P) (kept later : Kept) (before after : Hand Saying)
    → IsAtWork is_own shape known s → HasDone [] asks s kept before → state ≡ s.block.state → later ≡ kept_after state settled kept → HasSaid s.section.no (map Some (settled_answer s.section.no settled kept state)) before after
    → HasDone [] (asks ++ Settle settled ∷ []) s later after
settles-done is_own shape known asks settled state s kept later before after work h is settings told =
    let n : ℕ = s.section.no in
    let block : (telling_of h.turns).walk.block ≡ state = block-done is_own shape known asks s kept before work h ∙ sym is in
    let here : HasSaid n (map Some (settled_answer n settled (telling_of h.turns).kept (telling_of h.turns).walk.block)) before after =
    subst (λ (b : BlockState). HasSaid n (map Some (settled_answer n settled (telling_of h.turns).kept b)) before after) (sym block)
    (subst (λ (k : Kept). HasSaid n (map Some (settled_answer n settled k state)) before after) h.settings told) in
    turn-done [] [] asks (asks ++ Settle settled ∷ []) s s kept later before after (Settles settled) h tt refl refl
    (h.lines ∙ ap (λ (ls : List ScriptLine). ls ++ seat_quit ∷ []) (sym (append-nil (lines_of h.turns)))) (sym (append-nil s.items.items))
    (settings ∙ ap (λ (b : BlockState). kept_after b settled kept) (sym block)) (plain-signs n _ before after here)

-- what is heard of two lines, with the lines themselves
heard-both : (n m : ℕ) (one two : List Item) → flat_map heard (Line n ∷ one ++ Line m ∷ two) ≡ flat_map heard one ++ flat_map heard two
heard-both n m one two = flat_map-append heard one (Line m ∷ two)

-- `DISCARD ALL` was done and told, by the state of the block before its lines
pub discards-done : {P : Type 0} (is_own : P → Type 0) (shape : Shape) (known : P → Known) (asks : List Ask) (number from : ℕ) (state : BlockState) (old new : Session P) (kept later : Kept) (before after : Hand Saying)
    → IsAtWork is_own shape known old → HasDone [] asks old kept before → HasRunBoth old (discard_line number) (unlisten_line (number + 1)) new → from ≡ length old.items.items → state ≡ old.block.state → later ≡ discarded state kept
    → HasSaid new.section.no (map Some (discard_answer state kept (flat_map heard (drop from new.items.items)))) before after → HasDone [] (asks ++ Discard number ∷ []) new later after
discards-done is_own shape known asks number from state old new kept later before after work h ran place is settings told =
    let n : ℕ = new.section.no in
    let t : Telling = telling_of h.turns in
    let block : t.walk.block ≡ state = block-done is_own shape known asks old kept before work h ∙ sym is in
    let items : List Item = Line number ∷ ran.one ++ Line (number + 1) ∷ ran.two in
    let all : flat_map heard (drop from new.items.items) ≡ flat_map heard ran.one ++ flat_map heard ran.two =
    ap (λ (is : List Item). flat_map heard is) (shown-behind old.items.items items new.items.items from place ran.shown) ∙ heard-both number (number + 1) ran.one ran.two in
    let here : HasSaid n (map Some (discard_answer t.walk.block t.kept (flat_map heard ran.one ++ flat_map heard ran.two))) before after =
    subst (λ (b : BlockState). HasSaid n (map Some (discard_answer b t.kept (flat_map heard ran.one ++ flat_map heard ran.two))) before after) (sym block)
    (subst (λ (k : Kept). HasSaid n (map Some (discard_answer state k (flat_map heard ran.one ++ flat_map heard ran.two))) before after) h.settings
    (subst (λ (bytes : List ℕ). HasSaid n (map Some (discard_answer state kept bytes)) before after) all told)) in
    turn-done [] [] asks (asks ++ Discard number ∷ []) old new kept later before after (Discards number ran.one ran.two) h (ran.one_line, ran.one_more) refl (ap (λ (s : Section). s.no) ran.section)
    (ap (λ (s : Section). s.lines) ran.section ∙ both-lines old.section (discard_line number) (unlisten_line (number + 1)) (lines_of h.turns) h.lines) ran.shown
    (settings ∙ ap (λ (b : BlockState). discarded b kept) (sym block)) (plain-signs n _ before after here)

-- both lines were run
pub both-ran : {P : Type 0} (old mid new : Session P) (first second : ScriptLine) → HasRun old first mid → mid.section ≡ fed old.section first → HasRun mid second new → new.section ≡ fed mid.section second
    → HasRunBoth old first second new
both-ran old mid new first second h e k f = record {
  one = h.more;
  two = k.more;
  shown = k.shown ∙ ap (λ (is : List Item). is ++ Line second.line ∷ k.more) h.shown ∙ append_assoc old.items.items (Line first.line ∷ h.more) (Line second.line ∷ k.more);
  one_line = h.one_line;
  one_more = k.one_line;
  section = f ∙ ap (λ (s : Section). fed s second) e;
}
