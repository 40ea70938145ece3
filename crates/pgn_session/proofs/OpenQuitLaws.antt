-- The `\quit` of a script that was open.
use Rattle.std.proofs.Common.{◌≡◌, ℕ, List, [], ◌∷◌, ◌++◌, drop, Option, Some, None, sym, ap, ◌∙◌, subst, refl, append_assoc}
use Rattle.pgn_base.specs.declared.format.Format.{Format}
use Rattle.pgn_language.specs.declared.scenario.Act.{Act}
use Rattle.pgn_language.specs.declared.scenario.Act.TheVariants.{Quit}
use Rattle.pgn_language.specs.declared.scenario.ScriptLine.{ScriptLine}
use Rattle.pgn_model.specs.declared.item.Item.{Item}
use Rattle.pgn_model.specs.declared.item.Item.TheVariants.{Line}
use Rattle.pgn_model.specs.laws.NextLine.{quit_items}
use Rattle.pgn_hub.specs.declared.known.Known.{Known}
use Rattle.pgn_hub.specs.Shape.{Shape}
use Rattle.pgn_session.specs.declared.session.Session.{Session}
use Rattle.pgn_session.specs.declared.doing.FlagPlan.{FlagPlan}
use Rattle.pgn_session.specs.declared.doing.Doing.{Doing}
use Rattle.pgn_session.specs.declared.doing.Doing.TheVariants.{Lines, Over}
use Rattle.pgn_session.specs.declared.doing.Step.{Step}
use Rattle.pgn_session.specs.declared.doing.IdleDone.{IdleDone}
use Rattle.pgn_session.specs.declared.doing.IdleDone.TheVariants as idled
use Rattle.pgn_session.specs.Steps.{HasBegun, HasMoved}
use Rattle.pgn_session.specs.Parts.{HasIdled, HasQuitFrom}
use Rattle.pgn_session.specs.Open.{IsOpen}
use Rattle.pgn_session.specs.Whole.{Moves}
use Rattle.pgn_session.proofs.OpenLaws.{open-comes}

-- a `\quit` was taken: what it shows stands behind what was shown, and the session is over and no listener
pub record QuitMoved (before after : List Item) (n : ℕ) (stands : Doing) (known : Known) : Type 0 where
  pub mark : Option ℕ
  pub shown : after ≡ before ++ Line n ∷ quit_items mark
  pub over : stands ≡ Over
  pub left : known.mark ≡ None

-- who quits is no listener then
quit-leaves : (old new : Known) (mark : Option ℕ) → old.mark ≡ mark → HasQuitFrom mark old new → new.mark ≡ None
quit-leaves old new None e h = ap (λ (k : Known). k.mark) h ∙ e
quit-leaves old new (Some n) e h = ap (λ (k : Known). k.mark) h.known

moved-quit : (plan : FlagPlan) (session patience : ℕ) (lines rest : List ScriptLine) (doing : Doing) (done counted : ℕ) (k l : Known) (before after : List Item) (stands : Doing) (step : Step) (line : ScriptLine)
    → lines ≡ line ∷ rest → doing ≡ Lines → line.act ≡ Quit → HasMoved plan session patience lines doing done counted k l before after stands step → QuitMoved before after line.line stands l
moved-quit plan session patience lines rest doing done counted k l before after stands step line e between does moved =
    let at_lines : HasMoved plan session patience (line ∷ rest) Lines done counted k l before after stands step =
    subst (λ (d : Doing). HasMoved plan session patience (line ∷ rest) d done counted k l before after stands step) between
    (subst (λ (ls : List ScriptLine). HasMoved plan session patience ls doing done counted k l before after stands step) e moved) in
    let begun = subst (λ (act : Act). HasBegun plan session patience line.line act k l before after stands step) does at_lines.0 in
    record {
      mark = k.mark;
      shown = begun.0.shown ∙ append_assoc before (Line line.line ∷ []) (quit_items k.mark);
      over = begun.1;
      left = ap (λ (n : Known). n.mark) begun.0.raised.known ∙ quit-leaves k begun.0.left k.mark refl begun.0.leaves;
    }

-- a step of an open session takes its `\quit`, and the session is over
pub quit-moved : {P : Type 0} (known : P → Known) (old new : Session P) (step : Step) → (is_open : IsOpen old) → Moves known old new step
    → QuitMoved old.items.items new.items.items is_open.ends.last.line new.doing (known new.pass)
quit-moved known old new step is_open moved =
    moved-quit old.plan old.section.no old.patience (drop old.done old.section.lines) [] old.doing old.done new.done (known old.pass) (known new.pass) old.items.items new.items.items new.doing step is_open.ends.last
    (open-comes old is_open) is_open.between is_open.ends.quits moved

-- who is no listener reads nothing
idle-leaves : (format : Format) (k l : Known) (set : List (List ℕ)) (before after : List Item) (done : IdleDone) → HasIdled format k l set before after done → k.mark ≡ None → (l.mark ≡ None) × (after ≡ before)
idle-leaves format k l set before after idled.InBlock h none = (ap (λ (n : Known). n.mark) h.0 ∙ none, h.1)
idle-leaves format k l set before after idled.NotListening h none = (ap (λ (n : Known). n.mark) h.0 ∙ none, h.1)
idle-leaves format k l set before after idled.Quiet h none = (ap (λ (n : Known). n.mark) h.0.known ∙ none, h.1)
idle-leaves format k l set before after (idled.Read to) h none =
    let woken : h.1.mark ≡ k.mark = ap (λ (n : Known). n.mark) h.2.known in
    let reads : Some h.3.read.from ≡ None = sym h.3.read.from_mark ∙ woken ∙ none in
    absurd (let no : ⊥ = cc in no)

-- the whole of a `\quit`, once the session was idle behind it
pub quit-taken : {P : Type 0} (shape : Shape) (known : P → Known) (old two new : Session P) (step : Step) (done : IdleDone) → (is_open : IsOpen old) → Moves known old two step
    → new ≡ record two { pass = new.pass; items = new.items } → HasIdled shape.format (known two.pass) (known new.pass) two.set.channels two.items.items new.items.items done
    → QuitMoved old.items.items new.items.items is_open.ends.last.line new.doing (known new.pass)
quit-taken {P} shape known old two new step done is_open moved kept has_idled =
    let quit = quit-moved known old two step is_open moved in
    let leaves = idle-leaves shape.format (known two.pass) (known new.pass) two.set.channels two.items.items new.items.items done has_idled quit.left in
    record { mark = quit.mark; shown = leaves.1 ∙ quit.shown; over = ap (λ (s : Session P). s.doing) kept ∙ quit.over; left = leaves.0 }
