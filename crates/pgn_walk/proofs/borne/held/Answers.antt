use Rattle.std.proofs.Common.{◌≡◌, ◌↔◌, ℕ, true, Option, refl, sym, subst}
use Rattle.std.specs.Prelude.{All}
use Rattle.std.proofs.lemmas.List.Elements.{All-nil}
use Rattle.pgn_model.specs.Walk.{holder_at}
use Rattle.pgn_reading.specs.Shown.{ShowsMark}
use Rattle.pgn_walk.proofs.BorneLaws.{all_one}
use Rattle.pgn_walk.proofs.borne.held.Goals as goal

pub returns-in-Some : goal.returns-in-Some
returns-in-Some c = λ sections traces is.
    subst (λ (o : Option ℕ). (c.stood_at.result ≡ true) ↔ All (ShowsMark traces) (holder_at o c.args.mark)) (sym c.in-Some.is)
    (all_one (ShowsMark traces) (c.in-Some.session, c.args.mark) c.stood_at.result (c.stood_at.ensures sections traces is))

pub returns-in-None : goal.returns-in-None
returns-in-None c = λ sections traces is.
    subst (λ (o : Option ℕ). (true ≡ true) ↔ All (ShowsMark traces) (holder_at o c.args.mark)) (sym c.in-None.is) (λ _. All-nil (ShowsMark traces), λ _. refl)
