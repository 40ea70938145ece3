-- A session whose script has got a line more, before its last one.
use Rattle.std.proofs.Common.{◌≡◌, ◌≢◌, ℕ, ◌+◌, ◌-◌, ◌<◌, ◌≤◌, cond, List, [], ◌∷◌, ◌++◌, length, drop, take, fold, insert, All, sym, ap, ◌∙◌, subst, arith, length-append, length-drop, take_all}
use Rattle.std.proofs.lemmas.List.{take-append-le, drop-append-le, drop_all}
use Rattle.std.proofs.lemmas.List.Sums.{sum_by-append}
use Rattle.std.proofs.lemmas.List.Elements.{All-head, All-tail, All-cons}
use Rattle.pgn_language.specs.declared.scenario.Act.TheVariants.{Quit}
use Rattle.pgn_language.specs.declared.scenario.ScriptLine.{ScriptLine}
use Rattle.pgn_language.specs.declared.scenario.Section.{Section}
use Rattle.pgn_language.specs.Inputs.{QuitsLast, note_lines_of, is_note_act}
use Rattle.pgn_model.specs.declared.item.Item.{Item}
use Rattle.pgn_model.specs.Along.{Along}
use Rattle.pgn_model.specs.Walk.{Terms, State, start, after_item, Allowed}
use Rattle.pgn_model.specs.Trace.{IsFreshAt, state_after}
use Rattle.pgn_hub.specs.declared.known.Known.{Known}
use Rattle.pgn_hub.specs.Shape.{Shape}
use Rattle.pgn_block.specs.Views.{BlockView}
use Rattle.pgn_session.specs.declared.session.Session.{Session}
use Rattle.pgn_session.specs.declared.doing.FlagPlan.{FlagPlan}
use Rattle.pgn_session.specs.declared.doing.Doing.{Doing}
use Rattle.pgn_session.specs.declared.doing.Doing.TheVariants.{Lines}
use Rattle.pgn_session.specs.Standing.{IsRested, IsServedBy, IsFlagBelow, terms_of}
use Rattle.pgn_session.specs.Feed.{EndsByQuit, fed}
use Rattle.pgn_session.specs.Whole.{HasRest}
use Rattle.pgn_session.proofs.FeedWalkLaws.{with_rest, with_lines, lines_in, rest-is, fed-state, fed-lawful, fed-fresh}

-- the line stands before the last one
insert-split : (front : List ScriptLine) (last line : ScriptLine) → insert (front ++ last ∷ []) (length (front ++ last ∷ []) - 1) line ≡ front ++ line ∷ last ∷ []
insert-split front last line =
    let place : length (front ++ last ∷ []) - 1 ≡ length front = omega (arith, length-append front (last ∷ [])) in
    let before : take (length front) (front ++ last ∷ []) ≡ front = take-append-le (length front) front (last ∷ []) (omega arith) ∙ take_all (length front) front (omega arith) in
    let behind : drop (length front) (front ++ last ∷ []) ≡ last ∷ [] =
    drop-append-le (length front) front (last ∷ []) (omega arith) ∙ ap (λ (ls : List ScriptLine). ls ++ last ∷ []) (drop_all (length front) front (omega arith)) in
    ap (λ (n : ℕ). insert (front ++ last ∷ []) n line) place
    ∙ ap (λ (ls : List ScriptLine). ls ++ line ∷ drop (length front) (front ++ last ∷ [])) before ∙ ap (λ (ls : List ScriptLine). front ++ line ∷ ls) behind

-- the line that was put in stands before the last one
pub fed-split : (section : Section) (line : ScriptLine) → (e : EndsByQuit section.lines) → (fed section line).lines ≡ e.front ++ line ∷ e.last ∷ []
fed-split section line e = ap (λ (ls : List ScriptLine). insert ls (length ls - 1) line) e.split ∙ insert-split e.front e.last line

-- the flag that the line names is below this number
abbrev HasFlag : ℕ → ScriptLine → Type 0
HasFlag flags line = IsFlagBelow flags line.act

flags-fed : (flags : ℕ) (front : List ScriptLine) (last line : ScriptLine) → HasFlag flags line → All (HasFlag flags) (front ++ last ∷ []) → All (HasFlag flags) (front ++ line ∷ last ∷ [])
flags-fed flags [] last line below all = All-cons (HasFlag flags) line (last ∷ []) below all
flags-fed flags (l ∷ front) last line below all =
    All-cons (HasFlag flags) l (front ++ line ∷ last ∷ []) (All-head (HasFlag flags) l (front ++ last ∷ []) all) (flags-fed flags front last line below (All-tail (HasFlag flags) l (front ++ last ∷ []) all))

-- a hub has its flags
pub fed-served : (shape : Shape) (section : Section) (plan : FlagPlan) (line : ScriptLine) → EndsByQuit section.lines → IsFlagBelow shape.flags line.act → IsServedBy shape section plan → IsServedBy shape (fed section line) plan
fed-served shape section plan line e below served = record {
  acts = subst (λ (ls : List ScriptLine). All (HasFlag shape.flags) ls) (sym (fed-split section line e)) (flags-fed shape.flags e.front e.last line below (subst (λ (ls : List ScriptLine). All (HasFlag shape.flags) ls) e.split served.acts));
  ends = served.ends;
  session = served.session;
}

-- a `\quit` is still the last
quits-fed : (front : List ScriptLine) (last line : ScriptLine) → line.act ≢ Quit → QuitsLast (front ++ last ∷ []) → QuitsLast (front ++ line ∷ last ∷ [])
quits-fed [] last line goes_on h = (λ e. absurd (goes_on e), h)
quits-fed (l ∷ front) last line goes_on h = (λ e. absurd (some front (h.0 e)), quits-fed front last line goes_on h.1)
  where
    some : (front : List ScriptLine) → front ++ last ∷ [] ≢ []
    some [] is = let no : ⊥ = cc in no
    some (l ∷ front) is = let no : ⊥ = cc in no

-- how many of the lines notify
pub notes-append : (xs ys : List ScriptLine) → note_lines_of (xs ++ ys) ≡ note_lines_of xs + note_lines_of ys
notes-append xs ys = sum_by-append (λ (l : ScriptLine). cond (is_note_act l.act) 1 0) xs ys

-- the trace so far shows the lines that have begun
lines-shown : (terms : Terms) (items : List Item) (s : State) (done : ℕ) → state_after terms items ≡ s → s.rest ≡ drop done terms.section.lines → done < length terms.section.lines → lines_in items ≡ done
lines-shown terms items s done state rest before =
    let lines : List ScriptLine = terms.section.lines in
    let same : drop (lines_in items) lines ≡ drop done lines = sym (rest-is items (start terms.section) lines) ∙ ap (λ (t : State). t.rest) state ∙ rest in
    let long : length (drop (lines_in items) lines) ≡ length (drop done lines) = ap (λ (ls : List ScriptLine). length ls) same in
    omega (arith, long, before, length-drop (lines_in items) lines, length-drop done lines)

-- a session that has rested between two lines has rested still
fed-rested : (terms : Terms) (lines : List ScriptLine) (plan : FlagPlan) (done : ℕ) (block : BlockView) (set : List (List ℕ)) (k : Known) (items : List Item) (front : List ScriptLine) (last line : ScriptLine)
    → terms.section.lines ≡ front ++ last ∷ [] → lines ≡ front ++ line ∷ last ∷ [] → done < length terms.section.lines → line.act ≢ Quit
    → note_lines_of (line ∷ []) + note_lines_of terms.section.lines ≤ terms.section.note_lines
    → IsRested terms plan done block set Lines k items → IsRested (with_lines lines terms) plan done block set Lines k items
fed-rested terms lines plan done block set k items front last line split is before goes_on few h =
    let s : State = h.state in
    let first : State = start terms.section in
    let more : List ScriptLine = line ∷ last ∷ [] in
    let stands = h.stands.holds.stands_fresh in
    let long : length terms.section.lines ≡ length (front ++ last ∷ []) = ap (λ (ls : List ScriptLine). length ls) split in
    let done_few : done ≤ length front = omega (arith, before, long, length-append front (last ∷ [])) in
    let shown : lines_in items ≡ done = lines-shown terms items s done stands.stands.state h.rest before in
    let count : lines_in items ≤ length front = omega (arith, shown, done_few) in
    let rest : List ScriptLine = drop done front ++ more in
    let was : s.rest ≡ drop done front ++ last ∷ [] = h.rest ∙ ap (λ (ls : List ScriptLine). drop done ls) split ∙ drop-append-le done front (last ∷ []) done_few in
    let state : fold after_item (with_rest lines first) items ≡ with_rest rest s =
    ap (λ (ls : List ScriptLine). fold after_item (with_rest ls first) items) is
    ∙ fed-state items first front (last ∷ []) more count
    ∙ ap (λ (n : ℕ). with_rest (drop n front ++ more) (fold after_item (with_rest (front ++ last ∷ []) first) items)) shown
    ∙ ap (λ (ls : List ScriptLine). with_rest rest (fold after_item (with_rest ls first) items)) (sym split)
    ∙ ap (λ (t : State). with_rest rest t) stands.stands.state in
    let lawful : Along after_item (Allowed (with_lines lines terms) k.seen) (with_rest lines first) items =
    subst (λ (ls : List ScriptLine). Along after_item (Allowed (with_lines lines terms) k.seen) (with_rest ls first) items) (sym is)
    (fed-lawful terms lines k.seen items first front last more count
    (subst (λ (ls : List ScriptLine). Along after_item (Allowed terms k.seen) (with_rest ls first) items) split stands.stands.lawful)) in
    let fresh : Along after_item (IsFreshAt (with_lines lines terms) k.seen) (with_rest lines first) items =
    subst (λ (ls : List ScriptLine). Along after_item (IsFreshAt (with_lines lines terms) k.seen) (with_rest ls first) items) (sym is)
    (fed-fresh terms lines k.seen items first front (last ∷ []) more count
    (subst (λ (ls : List ScriptLine). Along after_item (IsFreshAt terms k.seen) (with_rest ls first) items) split stands.fresh)) in
    let old_notes : note_lines_of terms.section.lines ≡ note_lines_of front + note_lines_of (last ∷ []) = ap note_lines_of split ∙ notes-append front (last ∷ []) in
    let new_notes : note_lines_of lines ≡ note_lines_of front + note_lines_of more = ap note_lines_of is ∙ notes-append front more in
    let more_notes : note_lines_of more ≡ note_lines_of (line ∷ []) + note_lines_of (last ∷ []) = notes-append (line ∷ []) (last ∷ []) in
    let old_rest : note_lines_of s.rest ≡ note_lines_of (drop done front) + note_lines_of (last ∷ []) = ap note_lines_of was ∙ notes-append (drop done front) (last ∷ []) in
    let new_rest : note_lines_of rest ≡ note_lines_of (drop done front) + note_lines_of more = notes-append (drop done front) more in
    record {
      state = with_rest rest s;
      stands = record {
        holds = record { stands_fresh = record { stands = record { lawful = lawful; state = state }; fresh = fresh }; full = h.stands.holds.full; found = h.stands.holds.found };
        session = h.stands.session;
        database = h.stands.database;
        own = h.stands.own;
        mark = h.stands.mark;
        marks = h.stands.marks;
        stood = h.stands.stood;
        named = h.stands.named;
        interested = h.stands.interested;
        patient = h.stands.patient;
      };
      rest = sym (ap (λ (ls : List ScriptLine). drop done ls) is ∙ drop-append-le done front more done_few);
      channels = h.channels;
      here = (
        record {
          owes = h.here.0.owes;
          block_state = h.here.0.block_state;
          list = h.here.0.list;
          tells = record { told = h.here.0.tells.told; raised = h.here.0.tells.raised; found = h.here.0.tells.found };
          budget = omega (arith, h.here.0.budget, few, old_notes, new_notes, more_notes, old_rest, new_rest);
          quits_last = quits-fed (drop done front) last line goes_on (subst QuitsLast was h.here.0.quits_last);
        },
        h.here.1,
      );
    }

-- the same of a whole session
pub feed-rested : {P : Type 0} (shape : Shape) (known : P → Known) (old new : Session P) (line : ScriptLine) → EndsByQuit old.section.lines → old.done < length old.section.lines → old.doing ≡ Lines → line.act ≢ Quit
    → note_lines_of (line ∷ []) + note_lines_of old.section.lines ≤ old.section.note_lines → new ≡ record old { section = fed old.section line } → HasRest shape known old → HasRest shape known new
feed-rested {P} shape known old new line ends before place goes_on few same h =
    subst (λ (s : Session P). HasRest shape known s) (sym same)
    (subst (λ (d : Doing). IsRested (terms_of shape (fed old.section line) old.patience) old.plan old.done old.block old.set.channels d (known old.pass) old.items.items) (sym place)
    (fed-rested (terms_of shape old.section old.patience) (fed old.section line).lines old.plan old.done old.block old.set.channels (known old.pass) old.items.items ends.front ends.last line ends.split (fed-split old.section line ends) before goes_on few
    (subst (λ (d : Doing). IsRested (terms_of shape old.section old.patience) old.plan old.done old.block old.set.channels d (known old.pass) old.items.items) place h)))
