-- A body asks for something, and for one thing.
use Rattle.std.specs.Prelude.{◌≡◌, ℕ, List}
use Rattle.pgn_requests.specs.declared.request.Request.{Request}
use Rattle.pgn_requests.specs.Reading.{RequestIs}

-- each body asks for something
abbrev pub EachHasRequest : Type 0
EachHasRequest = (body : List ℕ) → (request : Request) × RequestIs body request

-- no body asks for two things
abbrev pub OneRequest : Type 0
OneRequest = (body : List ℕ) (one other : Request) → RequestIs body one → RequestIs body other → one ≡ other
