-- What is got of a list, and where a line that is known beforehand leads.
use Rattle.std.proofs.Common.{◌≡◌, ℕ, ◌+◌, ◌<◌, ◌≤◌, ◌==◌, Bool, true, false, cond, List, ◌∷◌, ◌++◌, length, drop, get_or, slice_get, Option, None, Some, Result, Ok, Err, OnOk, codes, sym, ap, ◌∙◌, refl}
use Rattle.std.specs.Prelude.{bytes_eq}
use Rattle.std.proofs.lemmas.List.{drop_more}
use Rattle.std.proofs.lemmas.Option.{slice_get_past, slice_get_read}
use Rattle.pgn_language.specs.declared.scenario.ScriptLine.{ScriptLine}
use Rattle.pgn_language.specs.declared.scenario.Section.{Section}
use Rattle.pgn_language.specs.declared.scenario.Scenario.{Scenario}
use Rattle.pgn_model.specs.declared.item.Item.TheVariants as item
use Rattle.pgn_model.specs.Text.{section_line}
use Rattle.pgn_reading.specs.Form.{database_of}
use Rattle.pgn_lines.specs.declared.shown.Shown.{Shown}
use Rattle.pgn_lines.specs.declared.shown.Shown.TheVariants.{End}
use Rattle.pgn_form.specs.declared.draft.Draft.{Draft}
use Rattle.pgn_form.specs.declared.place.Place.{Place}
use Rattle.pgn_form.specs.declared.place.Place.TheVariants.{Inside}
use Rattle.pgn_form.specs.declared.place.Within.{Within}
use Rattle.pgn_form.specs.declared.place.Within.TheVariants.{Free}
use Rattle.pgn_form.specs.Drafts.{ended, known, lined, of_section, with_item}
use Rattle.pgn_form.specs.Places.{opened, script_at, went_on}

-- what is got of a list by another name
pub got : {X : Type 0} (xs ys : List X) (n : ℕ) (x : X) → xs ≡ ys → n < length xs → x ≡ get_or xs n x → slice_get ys n ≡ Some x
got xs ys n x e h i = sym (ap (λ l. slice_get l n) e) ∙ slice_get_read xs (length xs) n x refl h i

-- nothing is got past its end
pub got_none : {X : Type 0} (xs ys : List X) (n : ℕ) → xs ≡ ys → length xs ≤ n → slice_get ys n ≡ None
got_none xs ys n e h = sym (ap (λ l. slice_get l n) e) ∙ slice_get_past xs n h

-- where no section is, no line is its head
pub opened_nowhere : (n : ℕ) (line : List ℕ) (section : Option Section) → section ≡ None → None ≡ opened n line section
opened_nowhere n line section e = sym (ap (λ (s : Option Section). opened n line s) e)

-- a line is the head of the section that is there, or not
pub opened_at : (n : ℕ) (line : List ℕ) (section : Option Section) (part : Section) (same is : Bool) → section ≡ Some part → same ≡ bytes_eq (section_line part) line → same ≡ is → cond is (Some (Inside n 0 Free)) None ≡ opened n line section
opened_at n line section part same is e f g = sym (ap (λ (s : Option Section). opened n line s) e ∙ ap (λ (t : Bool). cond t (Some (Inside n 0 Free)) None) (sym f ∙ g))

-- where no section is, no script line is
pub script_nowhere : (begun : ℕ) (section : Option Section) → section ≡ None → script_at begun section ≡ None
script_nowhere begun section e = ap (λ (s : Option Section). script_at begun s) e

-- the script line of the section that is there
pub script_there : (begun : ℕ) (section : Option Section) (part : Section) (script : Option ScriptLine) → section ≡ Some part → slice_get part.lines begun ≡ script → script_at begun section ≡ script
script_there begun section part script e f = ap (λ (s : Option Section). script_at begun s) e ∙ f

-- where no script line is, a line leads nowhere
pub went_nowhere : (n begun : ℕ) (line : List ℕ) (script : Option ScriptLine) → script ≡ None → None ≡ went_on n begun line script
went_nowhere n begun line script e = sym (ap (λ (s : Option ScriptLine). went_on n begun line s) e)

-- a line is the script line that is there, or not
pub went_at : (n begun : ℕ) (line : List ℕ) (found : Option ScriptLine) (script : ScriptLine) (same is : Bool) → found ≡ Some script → same ≡ bytes_eq (codes "> " ++ script.text) line → same ≡ is
    → cond is (Some (Inside n (begun + 1) Free)) None ≡ went_on n begun line found
went_at n begun line found script same is e f g =
    sym (ap (λ (s : Option ScriptLine). went_on n begun line s) e ∙ ap (λ (t : Bool). cond t (Some (Inside n (begun + 1) Free)) None) (sym f ∙ g))

-- where no script line is, nothing is added
pub known_nothing : (scenario : Scenario) (place : Place) (draft : Draft) (n begun : ℕ) (within : Within) → place ≡ Inside n begun within → script_at begun (slice_get scenario.sections n) ≡ None → draft ≡ known scenario place draft
known_nothing scenario place draft n begun within e f = sym (ap (λ (p : Place). known scenario p draft) e ∙ ap (λ (s : Option ScriptLine). lined draft s) f)

-- the script line that is there is added
pub known_line : {E : Type 0} (done : Result Unit E) (scenario : Scenario) (place : Place) (draft after : Draft) (n begun : ℕ) (within : Within) (script : ScriptLine) → place ≡ Inside n begun within
    → script_at begun (slice_get scenario.sections n) ≡ Some script → OnOk done (after ≡ with_item draft (item.Line script.line)) → OnOk done (after ≡ known scenario place draft)
known_line (Ok x) scenario place draft after n begun within script e f h = h ∙ sym (ap (λ (p : Place). known scenario p draft) e ∙ ap (λ (s : Option ScriptLine). lined draft s) f)
known_line (Err x) scenario place draft after n begun within script e f h = tt

-- where no section is, its end adds nothing
pub ended_nowhere : (section : Option Section) (draft : Draft) (shown : Shown) (mark : Option ℕ) → shown ≡ End mark → section ≡ None → draft ≡ of_section section draft shown
ended_nowhere section draft shown mark e f = sym (ap (λ (s : Shown). of_section section draft s) e ∙ ap (λ (s : Option Section). ended draft mark s) f)

-- the end of the section that is there is added
pub ended_at : {E : Type 0} (done : Result Unit E) (section : Option Section) (part : Section) (draft after : Draft) (shown : Shown) (mark : Option ℕ) → shown ≡ End mark → section ≡ Some part
    → OnOk done (after ≡ ended draft mark (Some part)) → OnOk done (after ≡ of_section section draft shown)
ended_at (Ok x) section part draft after shown mark e f h = h ∙ sym (ap (λ (s : Shown). of_section section draft s) e ∙ ap (λ (s : Option Section). ended draft mark s) f)
ended_at (Err x) section part draft after shown mark e f h = tt

-- the database of a session, from a place in the sections on
database_at : (sections : List Section) (i : ℕ) (section : Section) (session : ℕ) (is : Bool) → i < length sections → section ≡ get_or sections i section → (section.no == session) ≡ is
    → database_of (drop i sections) session ≡ cond is section.db (database_of (drop (i + 1) sections) session)
database_at sections i section session is h e f =
    ap (λ (ss : List Section). database_of ss session) (drop_more sections i section h ∙ ap (λ (s : Section). s ∷ drop (i + 1) sections) (sym e))
    ∙ ap (λ (t : Bool). cond t section.db (database_of (drop (i + 1) sections) session)) f

-- it is that of the section there, if this has its number
pub database_here : (sections : List Section) (i : ℕ) (section : Section) (session : ℕ) → i < length sections → section ≡ get_or sections i section → (section.no == session) ≡ true → database_of (drop i sections) session ≡ section.db
database_here sections i section session h e f = database_at sections i section session true h e f

-- and else it is told from the next on
pub database_next : (sections : List Section) (i : ℕ) (section : Section) (session : ℕ) → i < length sections → section ≡ get_or sections i section → (section.no == session) ≡ false
    → database_of (drop (i + 1) sections) session ≡ database_of (drop i sections) session
database_next sections i section session h e f = sym (database_at sections i section session false h e f)
