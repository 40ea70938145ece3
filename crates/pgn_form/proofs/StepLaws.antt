-- A line that leads nowhere.
use Rattle.std.proofs.Common.{◌≡◌, ℕ, List, Option, None, Some, subst, ap, sym, ◌∙◌}
use Rattle.pgn_language.specs.declared.scenario.Scenario.{Scenario}
use Rattle.pgn_lines.specs.Shown.{Reads, Shows, Unshown}
use Rattle.pgn_lines.specs.declared.shown.Shown.{Shown}
use Rattle.pgn_lines.proofs.OnceLaws.{shown_once}
use Rattle.pgn_form.specs.declared.place.Place.{Place}
use Rattle.pgn_form.specs.declared.draft.Draft.{Draft}
use Rattle.pgn_form.specs.Drafts.{added, IsTaken, known, Known as Comes, Showing as Shows_here}
use Rattle.pgn_form.specs.Places.{IsStep, Known, Showing, moved, told}

nowhere : (place : Place) → None ≡ Some place → ⊥
nowhere place e = let no : ⊥ = cc in no

-- it is none that is known, and shows nothing
pub no_step : (scenario : Scenario) (place : Place) (line : List ℕ) → told scenario place line ≡ None → ((shown : Shown) → Unshown line shown) → (next : Place) → IsStep scenario place line next → ⊥
no_step scenario place line a b next (Known e) = nowhere next (sym a ∙ e)
no_step scenario place line a b next (Showing n shown s e) = b shown s.0 s.1

-- or what it shows may not stand there
pub no_move : (scenario : Scenario) (place : Place) (line : List ℕ) (shown : Shown) → told scenario place line ≡ None → Shows line shown → moved place shown ≡ None → (next : Place) → IsStep scenario place line next → ⊥
no_move scenario place line shown a s b next (Known e) = nowhere next (sym a ∙ e)
no_move scenario place line shown a s b next (Showing n other t e) =
    let same : shown ≡ other = shown_once line shown other s t in
    nowhere next (sym b ∙ ap (λ (x : Shown). moved place x) same ∙ e)

same_some : (a b : Place) → Some a ≡ Some b → a ≡ b
same_some a b e = cc

-- a line leads to one place at most
pub step_once : (scenario : Scenario) (place one other : Place) (line : List ℕ) → IsStep scenario place line one → IsStep scenario place line other → one ≡ other
step_once scenario place one other line (Known e) (Known f) = same_some one other (sym e ∙ f)
step_once scenario place one other line (Known e) (Showing n shown s f) = absurd (nowhere one (sym n ∙ e))
step_once scenario place one other line (Showing n shown s e) (Known f) = absurd (nowhere other (sym n ∙ f))
step_once scenario place one other line (Showing n shown s e) (Showing m second t f) =
    let same : shown ≡ second = shown_once line shown second s t in
    same_some one other (sym e ∙ ap (λ (x : Shown). moved place x) same ∙ f)

-- a line that is known beforehand
pub taken_known : (scenario : Scenario) (place : Place) (draft : Draft) (line : List ℕ) (found : Option Place) (next : Place) (after : Draft) → found ≡ told scenario place line → found ≡ Some next → after ≡ known scenario place draft
    → IsTaken scenario place draft line next after
taken_known scenario place draft line found next after a b c = subst (λ (d : Draft). IsTaken scenario place draft line next d) (sym c) (Comes (sym a ∙ b))

reads_shown : (line : List ℕ) (read : Option Shown) (shown : Shown) → Reads line read → read ≡ Some shown → Shows line shown
reads_shown line read shown h e = subst (λ (o : Option Shown). Reads line o) e h

-- a line that shows something
pub taken_shown : (scenario : Scenario) (place : Place) (draft : Draft) (line : List ℕ) (found : Option Place) (read : Option Shown) (shown : Shown) (to : Option Place) (next : Place) (after : Draft) → found ≡ told scenario place line
    → found ≡ None → Reads line read → read ≡ Some shown → to ≡ moved place shown → to ≡ Some next → after ≡ added scenario place draft shown → IsTaken scenario place draft line next after
taken_shown scenario place draft line found read shown to next after a b c d e f g =
    subst (λ (x : Draft). IsTaken scenario place draft line next x) (sym g) (Shows_here (sym a ∙ b) shown (reads_shown line read shown c d) (sym e ∙ f))

-- a line that shows what may not stand there
pub no_move_at : (scenario : Scenario) (place : Place) (line : List ℕ) (found : Option Place) (read : Option Shown) (shown : Shown) (to : Option Place) → found ≡ told scenario place line → found ≡ None → Reads line read → read ≡ Some shown
    → to ≡ moved place shown → to ≡ None → (next : Place) → IsStep scenario place line next → ⊥
no_move_at scenario place line found read shown to a b c d e f next s = no_move scenario place line shown (sym a ∙ b) (reads_shown line read shown c d) (sym e ∙ f) next s
