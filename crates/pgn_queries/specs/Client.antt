-- What a client sends, and what comes next of it.
use Rattle.std.specs.Prelude.{◌≡◌, ◌≢◌, ℕ, ◌+◌, ◌<◌, ◌≤◌, List, [], ◌∷◌, ◌++◌, length, Option, None, Some, Contains, IsUtf8}
use Rattle.std.specs.Int.{w32, from_be_bytes}
use Rattle.pgn_base.specs.declared.limits.TheConstants.{LINE_BYTES_MAX}
use Rattle.pgn_queries.specs.declared.limits.TheConstants.{QUERY_LENGTH_MIN, QUERY_LENGTH_MAX, TERMINATE_LENGTH}
use Rattle.pgn_queries.specs.declared.wire_fault.WireFault.TheVariants.{BadType, BadLength, Truncated, BadText}
use Rattle.pgn_queries.specs.declared.coming.Coming.{Coming}
use Rattle.pgn_queries.specs.declared.coming.Coming.TheVariants.{End, Query, Fault}

-- the letter of a Query, and of a Terminate
abbrev pub query_letter : ℕ
query_letter = 81

abbrev pub terminate_letter : ℕ
terminate_letter = 88

-- four bytes that tell a length, the most significant first
pub record Tells (head : List ℕ) (len : ℕ) : Type 0 where
  pub four : length head ≡ 4
  pub value : len ≡ from_be_bytes w32 head

-- a Query may have this length: it counts itself, the text and its zero byte
pub record IsQueryLength (len : ℕ) : Type 0 where
  pub least : QUERY_LENGTH_MIN ≤ len
  pub most : len ≤ QUERY_LENGTH_MAX

-- a query's text is UTF-8 without a zero byte
pub record IsText (text : List ℕ) : Type 0 where
  pub utf8 : IsUtf8 text
  pub no_nul : Contains text 0 → ⊥

-- the body of a Query with this text
abbrev pub body_of : List ℕ → List ℕ
body_of text = text ++ 0 ∷ []

-- these bytes are no Query's body: they do not end with their only zero byte, or what stands before it is not UTF-8
abbrev pub IsNoBody : List ℕ → Type 0
IsNoBody body = (text : List ℕ) → body ≡ body_of text → IsText text → ⊥

-- a Query's body of so many bytes comes next, in a message that begins at this offset. After a fault nothing is said of the text and
-- of the rest
pub data BodyIs (at size : ℕ) : Coming → List ℕ → List ℕ → List ℕ → Type 0 where
  -- the bytes end inside it
  Cut : (bytes text rest : List ℕ) → length bytes < size → BodyIs at size (Fault (Truncated at)) text bytes rest
  -- it is none
  Bad : (bytes body more text rest : List ℕ) → bytes ≡ body ++ more → length body ≡ size → IsNoBody body → BodyIs at size (Fault (BadText at)) text bytes rest
  -- it is that of a text
  Whole : (bytes text rest : List ℕ) → bytes ≡ body_of text ++ rest → length (body_of text) ≡ size → IsText text → BodyIs at size Query text bytes rest

-- the length and the body of a Query come next
pub data QueryIs (at : ℕ) : Coming → List ℕ → List ℕ → List ℕ → Type 0 where
  -- the bytes end inside the length
  CutHead : (bytes text rest : List ℕ) → length bytes < 4 → QueryIs at (Fault (Truncated at)) text bytes rest
  -- it is no length of a Query
  BadHead : (bytes head more text rest : List ℕ) (len : ℕ) → bytes ≡ head ++ more → Tells head len → (IsQueryLength len → ⊥) → QueryIs at (Fault (BadLength at)) text bytes rest
  -- the body follows
  HasBody : (bytes head more : List ℕ) (coming : Coming) (text rest : List ℕ) (len size : ℕ) → bytes ≡ head ++ more → Tells head len → IsQueryLength len → len ≡ 4 + size
      → BodyIs at size coming text more rest → QueryIs at coming text bytes rest

-- the length of a Terminate comes next
pub data TerminateIs (at : ℕ) : Coming → List ℕ → List ℕ → Type 0 where
  CutHead : (bytes rest : List ℕ) → length bytes < 4 → TerminateIs at (Fault (Truncated at)) bytes rest
  BadHead : (bytes head more rest : List ℕ) (len : ℕ) → bytes ≡ head ++ more → Tells head len → len ≢ TERMINATE_LENGTH → TerminateIs at (Fault (BadLength at)) bytes rest
  Whole : (bytes head rest : List ℕ) → bytes ≡ head ++ rest → Tells head TERMINATE_LENGTH → TerminateIs at End bytes rest

-- what comes next of a client's bytes, of which the first has this offset: the end, a query with its text, or a fault; and the bytes
-- behind it. What follows a Terminate, and what follows a fault, is not looked at
pub data NextIs (at : ℕ) : Coming → List ℕ → List ℕ → List ℕ → Type 0 where
  -- there are no more bytes
  Ended : (bytes text : List ℕ) → bytes ≡ [] → NextIs at End text bytes []
  -- a message of another type
  NoType : (letter : ℕ) (bytes more text rest : List ℕ) → bytes ≡ letter ∷ more → letter ≢ query_letter → letter ≢ terminate_letter → NextIs at (Fault (BadType at)) text bytes rest
  -- a Terminate
  Terminates : (bytes more : List ℕ) (coming : Coming) (text rest : List ℕ) → bytes ≡ terminate_letter ∷ more → TerminateIs at coming more rest → NextIs at coming text bytes rest
  -- a Query
  Asks : (bytes more : List ℕ) (coming : Coming) (text rest : List ℕ) → bytes ≡ query_letter ∷ more → QueryIs at coming text more rest → NextIs at coming text bytes rest

-- a length comes next, or there are too few bytes for one
abbrev pub HasLength : Option ℕ → List ℕ → List ℕ → Type 0
HasLength None bytes rest = length bytes < 4
HasLength (Some len) bytes rest = (head : List ℕ) × Tells head len × (bytes ≡ head ++ rest)

-- these bytes are the body of a Query with some text
abbrev pub IsBody : List ℕ → Type 0
IsBody body = (text : List ℕ) × (body ≡ body_of text) × IsText text

-- what a Query's text is, and that it is no longer than a line
pub record IsQueryText (text : List ℕ) : Type 0 where
  pub sound : IsText text
  pub short : length text ≤ LINE_BYTES_MAX

-- P holds of what was left before and what is left now, where the bytes are known
abbrev pub OfKnown : (List ℕ → List ℕ → Type 0) → Option (List ℕ) → Option (List ℕ) → Type 0
OfKnown P None new = Unit {0}
OfKnown P (Some bytes) None = ⊥
OfKnown P (Some bytes) (Some rest) = P bytes rest
