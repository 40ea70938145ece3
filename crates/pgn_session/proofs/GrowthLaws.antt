-- Items only come behind those that are there.
use Rattle.std.proofs.Common.{◌≡◌, ℕ, ◌+◌, Bool, true, false, cond, nat_lt, List, [], ◌∷◌, ◌++◌, drop, Option, Some, None, Result, Ok, Err, sym, ap, ◌∙◌, refl, subst, append-nil, append_assoc}
use Rattle.pgn_base.specs.declared.note.Delivery.{Delivery}
use Rattle.pgn_language.specs.declared.scenario.Act.{Act}
use Rattle.pgn_language.specs.declared.scenario.Act.TheVariants.{Run, Signal, Await, Quit}
use Rattle.pgn_language.specs.declared.scenario.ScriptLine.{ScriptLine}
use Rattle.pgn_model.specs.declared.item.Item.{Item}
use Rattle.pgn_model.specs.declared.item.Item.TheVariants as item
use Rattle.pgn_model.specs.laws.NextLine.{quit_items}
use Rattle.pgn_hub.specs.declared.known.Known.{Known}
use Rattle.pgn_hub.specs.Shape.{Shape}
use Rattle.pgn_session.specs.declared.session.Session.{Session}
use Rattle.pgn_session.specs.declared.doing.FlagPlan.{FlagPlan}
use Rattle.pgn_session.specs.declared.doing.Doing.{Doing}
use Rattle.pgn_session.specs.declared.doing.Doing.TheVariants.{Lines, Committing, Awaiting, Ending, Over}
use Rattle.pgn_session.specs.declared.doing.Step.{Step}
use Rattle.pgn_session.specs.Parts.{Begins, with_read, looked_items}
use Rattle.pgn_session.specs.Steps.{HasBegun, HasGoneOn, HasMoved, ShowsNext}
use Rattle.pgn_session.proofs.WholeLaws.{Came}

-- items that stayed begin with what was there
pub none-more : (before after : List Item) → after ≡ before → Begins before after
none-more before after is = record { more = []; split = is ∙ sym (append-nil before) }

-- items that grew twice begin with the first ones
pub begins-then : (before between after : List Item) → Begins before between → Begins between after → Begins before after
begins-then before between after h k = record { more = h.more ++ k.more; split = k.split ∙ ap (λ (is : List Item). is ++ k.more) h.split ∙ append_assoc before h.more k.more }

-- after two lists more
two-more : (before first second after : List Item) → after ≡ before ++ first ++ second → Begins before after
two-more before first second after is = record { more = first ++ second; split = is ∙ append_assoc before first second }

looked-more : (before : List Item) (looks patience : ℕ) (found : Option ℕ) → Begins before (looked_items before looks patience found)
looked-more before looks patience (Some value) = record { more = item.Found value ∷ []; split = refl }
looked-more before looks patience None = either (nat_lt looks patience)
  where
    either : (b : Bool) → Begins before (cond b before (before ++ item.TimedOut looks ∷ []))
    either true = none-more before before refl
    either false = record { more = item.TimedOut looks ∷ []; split = refl }

-- the items after a read begin with those before it
pub read-more : (before : List Item) (from to : ℕ) (got : List Delivery) → Begins before (with_read before from to got)
read-more before from to got = either (nat_lt from to)
  where
    either : (b : Bool) → Begins before (cond b (before ++ item.Read from to got ∷ []) before)
    either true = record { more = item.Read from to got ∷ []; split = refl }
    either false = none-more before before refl

begun-more : (plan : FlagPlan) (session patience line : ℕ) (act : Act) (old new : Known) (before after : List Item) (stands : Doing) (step : Step) → HasBegun plan session patience line act old new before after stands step → Begins before after
begun-more plan session patience line (Run command) old new before after stands step h = two-more before (item.Line line ∷ []) h.0.more after h.0.shown
begun-more plan session patience line (Signal flag) old new before after stands step h = two-more before (item.Line line ∷ []) (item.Raise old.told ∷ []) after h.0.shown
begun-more plan session patience line (Await flag) old new before after stands step h =
    begins-then before (before ++ item.Line line ∷ []) after (record { more = item.Line line ∷ []; split = refl })
    (subst (λ (is : List Item). Begins (before ++ item.Line line ∷ []) is) (sym h.shown) (looked-more (before ++ item.Line line ∷ []) 1 patience h.found))
begun-more plan session patience line Quit old new before after stands step h = two-more before (item.Line line ∷ []) (quit_items old.mark) after h.0.shown

gone-more : (plan : FlagPlan) (session patience : ℕ) (lines : List ScriptLine) (done counted : ℕ) (old new : Known) (before after : List Item) (stands : Doing) (step : Step) → HasGoneOn plan session patience lines done counted old new before after stands step → Begins before after
gone-more plan session patience [] done counted old new before after stands step h = none-more before after h.0.shown
gone-more plan session patience (line ∷ lines) done counted old new before after stands step h = begun-more plan session patience line.line line.act old new before after stands step h.0

next-more : (lines : List ScriptLine) (old new : Known) (before after : List Item) → ShowsNext lines old new before after → Begins before after
next-more [] old new before after h = absurd h
next-more (line ∷ lines) old new before after h = two-more before (item.Line line.line ∷ []) h.more after h.shown

moved-more : (plan : FlagPlan) (session patience : ℕ) (lines : List ScriptLine) (doing : Doing) (done counted : ℕ) (old new : Known) (before after : List Item) (stands : Doing) (step : Step)
    → HasMoved plan session patience lines doing done counted old new before after stands step → Begins before after
moved-more plan session patience lines Lines done counted old new before after stands step h = gone-more plan session patience lines done counted old new before after stands step h
moved-more plan session patience lines (Committing actions notes tag) done counted old new before after stands step h = next-more lines old new before after h.0
moved-more plan session patience lines (Awaiting flag looks) done counted old new before after stands step h =
    subst (λ (is : List Item). Begins before is) (sym h.0.shown) (looked-more before (looks + 1) patience h.0.found)
moved-more plan session patience lines (Ending first looks) done counted old new before after stands step h = none-more before after h.1
moved-more plan session patience lines Over done counted old new before after stands step h = none-more before after h.1

-- of a step
pub came-more : {P E : Type 0} (shape : Shape) (known : P → Known) (old new : Session P) (r : Result Step E) → Came shape known old new r → Begins old.items.items new.items.items
came-more shape known old new (Ok step) c =
    moved-more old.plan old.section.no old.patience (drop old.done old.section.lines) old.doing old.done new.done (known old.pass) (known new.pass) old.items.items new.items.items new.doing step c.stepped.moved
came-more shape known old new (Err e) c = none-more old.items.items new.items.items c.refused.shown
