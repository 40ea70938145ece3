-- Fields of a line: a number, and a number with a blank and a word after it.
use Rattle.std.specs.Prelude.{◌≡◌, ℕ, ◌^◌, ◌<◌, List, [], ◌∷◌, ◌++◌, Option, IfSome, codes, decimal, flat_map}
use Rattle.pgn_model.specs.Text.{holder_text}
use Rattle.pgn_base.specs.declared.answers.Refusal.TheVariants as refused
use Rattle.pgn_language.specs.Quotes.{doubled_byte, quoted}
use Rattle.pgn_answers.specs.Refusals.{refusal_text}
use Rattle.pgn_lines.specs.Shown.{IsLong, IsSession, IsShort, IsXid}

-- a text is no number of these
abbrev pub NoNumber : (ℕ → Type 0) → List ℕ → Type 0
NoNumber P text = (n : ℕ) → P n → decimal n ≡ text → ⊥

-- it is this one
abbrev pub IsNumber : (ℕ → Type 0) → List ℕ → ℕ → Type 0
IsNumber P text n = P n × (decimal n ≡ text)

-- a text does not begin with one of these numbers, a blank and a word
abbrev pub NotLed : (ℕ → Type 0) → List ℕ → List ℕ → Type 0
NotLed P text word = (n : ℕ) → (rest : List ℕ) → P n → text ≡ decimal n ++ 32 ∷ (word ++ rest) → ⊥

-- it begins with this number, a blank and a word, and with no other number
pub record IsLed (P : ℕ → Type 0) (text word : List ℕ) (n : ℕ) (rest : List ℕ) : Type 0 where
  pub held : P n
  pub spelled : text ≡ decimal n ++ 32 ∷ (word ++ rest)
  pub alone : (m : ℕ) → (more : List ℕ) → m < 2 ^ 64 → text ≡ decimal m ++ 32 ∷ (word ++ more) → (m ≡ n) × (rest ≡ more)

-- a line is not a start and one of these numbers
abbrev pub NotNumbered : (ℕ → Type 0) → List ℕ → List ℕ → Type 0
NotNumbered P start line = (n : ℕ) → P n → start ++ decimal n ≡ line → ⊥

-- it is this start and this number
abbrev pub IsNumbered : (ℕ → Type 0) → List ℕ → List ℕ → ℕ → Type 0
IsNumbered P start line n = P n × (start ++ decimal n ≡ line)

-- a start, and two numbers with a blank between
abbrev pub two_text : List ℕ → ℕ → ℕ → List ℕ
two_text start first second = start ++ decimal first ++ codes " " ++ decimal second

-- a line is not a start and two transaction numbers
abbrev pub NotTwo : List ℕ → List ℕ → Type 0
NotTwo start line = (first second : ℕ) → IsXid first → IsXid second → two_text start first second ≡ line → ⊥

-- it is this start and these
abbrev pub IsTwo : List ℕ → List ℕ → ℕ → ℕ → Type 0
IsTwo start line first second = IsXid first × IsXid second × (two_text start first second ≡ line)

-- a text names no holder
abbrev pub NoHolder : List ℕ → Type 0
NoHolder text = (holder : Option ℕ) → IfSome holder IsSession → holder_text holder ≡ text → ⊥

-- it names this one
abbrev pub IsHolder : List ℕ → Option ℕ → Type 0
IsHolder text holder = IfSome holder IsSession × (holder_text holder ≡ text)

-- no number and a mark stand at the front
abbrev pub NotParted : ℕ → List ℕ → Type 0
NotParted mark text = (n : ℕ) → (rest : List ℕ) → n < 2 ^ 64 → text ≡ decimal n ++ mark ∷ rest → ⊥

-- a text is these two parts with a mark between; where it begins with a number and a mark, the first part is the number
pub record IsParted (mark : ℕ) (text front back : List ℕ) : Type 0 where
  pub parts : text ≡ front ++ mark ∷ back
  pub first : (n : ℕ) → (rest : List ℕ) → n < 2 ^ 64 → text ≡ decimal n ++ mark ∷ rest → (decimal n ≡ front) × (rest ≡ back)

-- the floor of a full queue as it stands in a line: its mark, its page and its holder
abbrev pub floor_text : ℕ → ℕ → Option ℕ → List ℕ
floor_text mark page holder = decimal mark ++ 32 ∷ (codes "page " ++ (decimal page ++ 32 ∷ (codes "holder " ++ holder_text holder)))

-- what stands there before it: how many notifications were queued, and the head's page
abbrev pub stand_text : ℕ → ℕ → ℕ → ℕ → Option ℕ → List ℕ
stand_text queued head mark page holder = decimal queued ++ 32 ∷ (codes "head " ++ (decimal head ++ 32 ∷ (codes "floor " ++ floor_text mark page holder)))

-- the whole line
abbrev pub full_text : ℕ → ℕ → ℕ → ℕ → ℕ → Option ℕ → List ℕ
full_text xid queued head mark page holder = codes "+full " ++ (decimal xid ++ 32 ∷ (codes "queued " ++ stand_text queued head mark page holder))

-- a line is not that of a full queue
abbrev pub NotFull : List ℕ → Type 0
NotFull line =
    (xid queued head mark page : ℕ) (holder : Option ℕ) → IsXid xid → IsShort queued → IsLong head → IsXid mark → IsLong page → IfSome holder IsSession
    → full_text xid queued head mark page holder ≡ line → ⊥

-- no quote follows
abbrev pub EndsQuote : ℕ → List ℕ → Type 0
EndsQuote quote [] = Unit {0}
EndsQuote quote (b ∷ bytes) = b ≡ quote → ⊥

-- no text, each quote in it twice, and a closing quote stand at the front
abbrev pub NotEnclosed : ℕ → List ℕ → Type 0
NotEnclosed quote text = (inner : List ℕ) → (rest : List ℕ) → EndsQuote quote rest → text ≡ flat_map (doubled_byte quote) inner ++ quote ∷ rest → ⊥

-- this text stands there, and no other
pub record IsEnclosed (quote : ℕ) (text inner rest : List ℕ) : Type 0 where
  pub spelled : text ≡ flat_map (doubled_byte quote) inner ++ quote ∷ rest
  pub alone : (other : List ℕ) → (more : List ℕ) → EndsQuote quote more → text ≡ flat_map (doubled_byte quote) other ++ quote ∷ more → (other ≡ inner) × (rest ≡ more)

-- the line of a savepoint that is not there
abbrev pub savepoint_line : List ℕ → List ℕ
savepoint_line name = codes "ERROR: " ++ refusal_text (refused.NoSavepoint name)

-- a line is that of this name, and of no other
pub record IsSavepoint (line name : List ℕ) : Type 0 where
  pub spelled : savepoint_line name ≡ line
  pub alone : (other : List ℕ) → savepoint_line other ≡ line → other ≡ name

-- a channel and a payload, each between its quotes
abbrev pub pair_text : List ℕ → List ℕ → List ℕ
pair_text channel payload = quoted 34 channel ++ codes ", " ++ quoted 39 payload

-- a text is a channel and a payload, and no others
pub record IsPair (text channel payload : List ℕ) : Type 0 where
  pub spelled : pair_text channel payload ≡ text
  pub alone : (a b : List ℕ) → pair_text a b ≡ text → (a ≡ channel) × (b ≡ payload)

-- a text is a name between double quotes, and no other
pub record IsAlone (text name : List ℕ) : Type 0 where
  pub spelled : quoted 34 name ≡ text
  pub alone : (other : List ℕ) → quoted 34 other ≡ text → other ≡ name
