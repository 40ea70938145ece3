-- What a Query's body is.
use Rattle.std.specs.Prelude.{◌≡◌, ℕ, List, Contains, IsUtf8}
use Rattle.pgn_requests.specs.Reading.{body_of, IsGarbled}
use Rattle.pgn_statements.specs.declared.body.Body.{Body}
use Rattle.pgn_statements.specs.declared.body.Body.TheVariants as body

-- the body is this
abbrev pub BodyIs : List ℕ → Body → Type 0
BodyIs bytes (body.Text text) = (bytes ≡ body_of text.now) × (Contains text.now 0 → ⊥) × IsUtf8 text.now
BodyIs bytes body.Garbled = IsGarbled bytes
BodyIs bytes body.Encoded = (text : List ℕ) × (bytes ≡ body_of text) × (Contains text 0 → ⊥) × (IsUtf8 text → ⊥)
