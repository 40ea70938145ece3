-- Examples of steps: one that finds its flag, and why others are refused.
use Rattle.pgn_base.specs.declared.command.Command.TheVariants as command
use Rattle.pgn_language.specs.declared.scenario.Act.{Act}
use Rattle.pgn_language.specs.declared.scenario.Act.TheVariants.{Run, Quit}
use Rattle.pgn_language.specs.declared.scenario.ScriptLine.{ScriptLine}
use Rattle.pgn_session.specs.Feed.{EndsByQuit}
use Rattle.pgn_part_examples.specs.Session.{begin_line, quit_line, quits}
use Rattle.std.proofs.Common.{◌≡◌, inl, ⊎_elim, ℕ, ◌≤◌, Bool, true, false, List, [], ◌∷◌, ◌++◌, Option, Some, None, All, ap, arith, refl, subst, sym, ◌∙◌}
use Rattle.std.proofs.lemmas.List.Elements.{All-nil, All-cons, All-head, All-contains}
use Rattle.pgn_base.specs.declared.answers.Tag.TheVariants.{Begin, Notify}
use Rattle.pgn_model.specs.declared.item.Item.{Item}
use Rattle.pgn_model.specs.declared.item.Item.TheVariants.{Line, Publish, Reply, TimedOut, Found}
use Rattle.pgn_hub.specs.declared.known.Known.{Known}
use Rattle.pgn_hub.specs.Calls.{HasLooked}
use Rattle.pgn_part_examples.specs.Hub.{both_notes, tx_3, opened_2, published, listening, woken_1, found_0, found_none}
use Rattle.pgn_session.specs.Parts.{looked_items}
use Rattle.pgn_session.specs.Standing.{HaveEnded}
use Rattle.pgn_session.specs.Steps.{LooksInVain, HasToldAtMost, IsWithoutHub, IsNoLine, ShowsLine, HasTurned}
use Rattle.pgn_session.specs.declared.doing.Doing.TheVariants.{Lines}
use Rattle.pgn_session.specs.declared.doing.Step.TheVariants.{Did}
use Rattle.pgn_part_examples.specs.Session.{two_sessions}

-- a timeout is not shown at the first of three looks
pub too-early : (found : Option ℕ) → TimedOut 1 ∷ [] ≡ looked_items [] 1 3 found → ⊥
too-early (Some value) e = cc
too-early None e = cc

-- the last look that the patience allows does not pass without an item
pub shows-last : (found : Option ℕ) → [] ≡ looked_items [] 3 3 found → ⊥
shows-last (Some value) e = cc
shows-last None e = cc

-- a look changes what the pass knows
pub looks-once : (found : Option ℕ) → HasLooked listening listening 1 found → ⊥
looks-once (Some value) h = omega (arith, ap (λ (k : Known). k.looks) h.known)
looks-once None h = omega (arith, ap (λ (k : Known). k.looks) h.known)

-- the flag of a look
flag_at : Option (ℕ × Option ℕ) → ℕ
flag_at None = 0
flag_at (Some look) = look.0

-- this pass has looked at flag 1, and not at flag 0
pub looked-at : (found : Option ℕ) → HasLooked listening found_none 0 found → [] ≡ looked_items [] 1 3 found → ⊥
unfolding flag_at
looked-at (Some value) h e = cc
looked-at None h e = omega (arith, ap (λ (k : Known). flag_at k.flag_look) h.known)

-- nor has it looked at flag 0 in vain
pub at-zero : LooksInVain listening found_none 0 → ⊥
unfolding flag_at
at-zero w = omega (arith, ap flag_at w.none)

-- one end flag that was found is not both of two sessions
pub one-missing : HaveEnded two_sessions 2 ((0, 4) ∷ []) → ⊥
one-missing all =
    let was = all 1 (omega arith) in
    omega (arith, All-contains (λ (pair : ℕ × ℕ). pair.0 ≡ 0) ((0, 4) ∷ []) (1, was.0) (All-cons (λ (pair : ℕ × ℕ). pair.0 ≡ 0) (0, 4) [] refl (All-nil (λ (pair : ℕ × ℕ). pair.0 ≡ 0))) was.1)

-- a second look that finds the flag is a turn that answers the line
pub finds-it : HasTurned 0 2 3 listening found_0 [] (Found 4 ∷ []) Lines Did
finds-it = record {
  found = Some 4;
  looked = record { more = tx_3 ∷ []; known = refl; after_raised = All-nil (λ (pair : ℕ × ℕ). pair.0 ≡ 0 → pair.1 ≤ 4); after_found = All-nil (λ (pair : ℕ × ℕ). pair.0 ≡ 0 → pair.1 ≤ 4) };
  shown = refl;
  place = refl;
  comes_to = refl;
}

-- an answer of the block
abbrev begun : List Item
begun = Reply Begin None ∷ []

begun-alone : All IsWithoutHub begun
begun-alone = All-cons IsWithoutHub (Reply Begin None) [] tt (All-nil IsWithoutHub)

-- a line with its answer, and the pass untouched
pub shows-answer : ShowsLine 2 listening listening [] (Line 2 ∷ Reply Begin None ∷ [])
shows-answer = record { more = begun; shown = refl; one_line = All-cons IsNoLine (Reply Begin None) [] tt (All-nil IsNoLine); untouched = λ all. inl refl }

-- a line that is not answered
pub shows-nothing : ShowsLine 2 listening listening [] (Line 2 ∷ [])
shows-nothing = record { more = []; shown = refl; one_line = All-nil IsNoLine; untouched = λ all. inl refl }

-- a line that sends, where the pass has published
pub shows-sent : ShowsLine 2 opened_2 published [] (Line 2 ∷ Publish 3 both_notes ∷ Reply Notify None ∷ [])
shows-sent = record {
  more = Publish 3 both_notes ∷ Reply Notify None ∷ [];
  shown = refl;
  one_line = All-cons IsNoLine (Publish 3 both_notes) (Reply Notify None ∷ []) tt (All-cons IsNoLine (Reply Notify None) [] tt (All-nil IsNoLine));
  untouched = λ all. absurd (All-head IsWithoutHub (Publish 3 both_notes) (Reply Notify None ∷ []) all);
}

-- the pass has looked at its wake
has-looked : woken_1 ≡ listening → ⊥
has-looked e = let looks : ◌≡◌ {A = Option (Bool × Bool)} (Some (true, false)) None = ap (λ (k : Known). k.wake_look) e in cc

-- nor has it told its channels alone
not-told : HasToldAtMost listening woken_1 → ⊥
not-told h = ⊎_elim has-looked (λ told. let looks : ◌≡◌ {A = Option (Bool × Bool)} (Some (true, false)) None = ap (λ (k : Known). k.wake_look) told.1 in cc) h

-- a line that only answers does not take a wake
pub takes-wake : ShowsLine 2 listening woken_1 [] (Line 2 ∷ Reply Begin None ∷ []) → ⊥
takes-wake s = let same : begun ≡ s.more = cc (s.shown) in not-told (s.untouched (subst (λ (items : List Item). All IsWithoutHub items) same begun-alone))

-- nor does a line that is not answered
pub takes-at-empty : ShowsLine 2 listening woken_1 [] (Line 2 ∷ []) → ⊥
takes-at-empty s = let same : [] ≡ s.more = cc (s.shown) in not-told (s.untouched (subst (λ (items : List Item). All IsWithoutHub items) same (All-nil IsWithoutHub)))

-- another line than the one asked for is not shown
pub other-line : ShowsLine 2 listening listening [] (Line 3 ∷ Reply Begin None ∷ []) → ⊥
other-line s = let same : ◌≡◌ {A = ℕ} 3 2 = cc (s.shown) in omega (arith, same)

-- no second line begins among what a line shows
pub two-lines : ShowsLine 2 listening listening [] (Line 2 ∷ Line 3 ∷ []) → ⊥
two-lines s = let same : Line 3 ∷ [] ≡ s.more = cc (s.shown) in All-head IsNoLine (Line 3) [] (subst (λ (items : List Item). All IsNoLine items) (sym same) s.one_line)

-- a script that is a `\quit` ends by one
pub ends-quits : EndsByQuit quits.lines
ends-quits = record { front = []; last = quit_line; split = refl; quits = refl }

none-ends : (front : List ScriptLine) (last : ScriptLine) → [] ≡ front ++ last ∷ [] → ⊥
none-ends [] last e = let no : ⊥ = cc in no
none-ends (line ∷ front) last e = let no : ⊥ = cc in no

-- a script without a line does not
pub no-line_ends : EndsByQuit [] → ⊥
no-line_ends e = none-ends e.front e.last e.split

-- nor does one with a line behind its `\quit`
pub goes_on-ends : EndsByQuit (quit_line ∷ begin_line ∷ []) → ⊥
goes_on-ends e = by-front e.front e.last e.split e.quits
  where
    by-front : (front : List ScriptLine) (last : ScriptLine) → quit_line ∷ begin_line ∷ [] ≡ front ++ last ∷ [] → last.act ≡ Quit → ⊥
    by-front [] last e quits = let no : ⊥ = cc in no
    by-front (line ∷ []) last e quits = let is : begin_line ≡ last = cc in let act : ◌≡◌ {A = Act} (Run command.Begin) Quit = ap (λ (l : ScriptLine). l.act) is ∙ quits in let no : ⊥ = cc in no
    by-front (line ∷ next ∷ front) last e quits = let none : [] ≡ front ++ last ∷ [] = cc in none-ends front last none
