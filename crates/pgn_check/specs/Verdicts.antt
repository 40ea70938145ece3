-- What a verdict says of a text.
use Rattle.std.specs.Prelude.{ℕ, List}
use Rattle.pgn_language.specs.declared.scenario.Scenario.{Scenario}
use Rattle.pgn_model.specs.Walk.{Settings}
use Rattle.pgn_reading.specs.Blame.{IsLeastBlamed, IsLegalText}
use Rattle.pgn_check.specs.declared.check.Verdict.{Verdict}
use Rattle.pgn_check.specs.declared.check.Verdict.TheVariants.{Legal, Illegal}

-- it is the output of a legal run; or it is not, and this line is the first that is to blame
pub record IsIllegal (scenario : Scenario) (settings : Settings) (out : List ℕ) (line : ℕ) : Type 0 where
  pub not_legal : IsLegalText scenario settings out → ⊥
  pub least : IsLeastBlamed scenario settings out line

abbrev pub Judges : Scenario → Settings → List ℕ → Verdict → Type 0
Judges scenario settings out Legal = IsLegalText scenario settings out
Judges scenario settings out (Illegal line) = IsIllegal scenario settings out line
