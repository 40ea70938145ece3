-- The parts of a meta line.
use Rattle.std.specs.Prelude.{◌≡◌, ℕ, List, [], ◌∷◌, drop}
use Rattle.std.specs.List.{prefix_len}
use Rattle.pgn_language.specs.Lines.{NoMeta, is_gap, meta_says}
use Rattle.pgn_scenario.specs.declared.parts.Parts.{Parts}
use Rattle.pgn_scenario.specs.declared.parts.Parts.TheVariants.{One, Two, Three, Other}

-- a text without the spaces and tabs at its front
abbrev pub past_gap : List ℕ → List ℕ
past_gap text = drop (prefix_len is_gap text) text

-- the parts are these; as many as no meta line has make none
abbrev pub IsParted : Parts → List (List ℕ) → Type 0
IsParted (One first) parts = parts ≡ first.now ∷ []
IsParted (Two first second) parts = parts ≡ first.now ∷ second.now ∷ []
IsParted (Three first second third) parts = parts ≡ first.now ∷ second.now ∷ third.now ∷ []
IsParted Other parts = meta_says parts ≡ NoMeta
