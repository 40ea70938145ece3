-- How sessions that are over hear from each other, and read once more.
use Rattle.std.specs.Prelude.{◌≡◌, ◌⊎◌, ℕ, ◌-◌, ◌<◌, ◌≤◌, max, List, [], ◌∷◌, ◌++◌, map, take, set, get_or, length, IfSome, All}
use Rattle.pgn_base.specs.declared.note.Delivery.{Delivery}
use Rattle.pgn_model.specs.declared.item.Item.{Item}
use Rattle.pgn_model.specs.declared.item.Item.TheVariants.{Read}
use Rattle.pgn_hub.specs.declared.known.Known.{Known}
use Rattle.pgn_hub.specs.Shape.{Shape}
use Rattle.pgn_session.specs.declared.session.Session.{Session}
use Rattle.pgn_session.specs.Runs.{IsOver, script_of, shown_of}

-- what is known of each pass
abbrev pub passes_of : {P : Type 0} → (P → Known) → List (Session P) → List Known
passes_of known sessions = map (λ s. known s.pass) sessions

-- up to where each knows wakes to be set
abbrev pub signals_of : {P : Type 0} → (P → Known) → List (Session P) → List ℕ
signals_of known sessions = map (λ s. (known s.pass).signalled) sessions

-- the number of the one at this place
abbrev pub told_at : List ℕ → ℕ → ℕ
told_at tolds place = get_or tolds place 0

-- the one at this place heard from the one before it
abbrev pub heard_up : List ℕ → ℕ → List ℕ
heard_up tolds place = set tolds place (max (told_at tolds place) (told_at tolds (place - 1)))

-- the one before this place heard from the one at it
abbrev pub heard_down : List ℕ → ℕ → List ℕ
heard_down tolds place = set tolds (place - 1) (max (told_at tolds (place - 1)) (told_at tolds place))

-- of those before this place nobody has a greater number than the last
abbrev pub Rises : List ℕ → ℕ → Type 0
Rises tolds place = (j : ℕ) → j < place → told_at tolds j ≤ told_at tolds (place - 1)

-- nobody has a greater number than any of those from this place on
abbrev pub AreTop : List ℕ → ℕ → Type 0
AreTop tolds place = (j : ℕ) → place ≤ j → j < length tolds → (h : ℕ) → h < length tolds → told_at tolds h ≤ told_at tolds j

-- a session that still listens has read up to where it knows wakes to be set itself
abbrev pub HasReadOwn : Known → Type 0
HasReadOwn k = IfSome k.mark (λ mark. k.signalled ≤ mark)

-- a read has come behind the items
pub record EndsWithRead (before after : List Item) : Type 0 where
  pub from : ℕ
  pub to : ℕ
  pub got : List Delivery
  pub shown : after ≡ before ++ Read from to got ∷ []

-- the items are as they were, or a read has come behind them
abbrev pub MayEndWithRead : List Item → List Item → Type 0
MayEndWithRead before after = (after ≡ before) ⊎ EndsWithRead before after

-- so it is with each of these lists of items
pub record EachMayEndWithRead (before after : List (List Item)) : Type 0 where
  pub count : length after ≡ length before
  pub each : (j : ℕ) → MayEndWithRead (get_or before j []) (get_or after j [])

-- so it is with the list at this place, and the others are as they were
pub record MayReadAt (place : ℕ) (before after : List (List Item)) : Type 0 where
  pub items : List Item
  pub one : MayEndWithRead (get_or before place []) items
  pub rest : after ≡ set before place items

-- so it is with the first ones, so many, and the others are as they were
pub record FirstMayEndWithRead (count : ℕ) (before after : List (List Item)) : Type 0 where
  pub length_same : length after ≡ length before
  pub first : (j : ℕ) → j < count → MayEndWithRead (get_or before j []) (get_or after j [])
  pub rest : (j : ℕ) → count ≤ j → get_or after j [] ≡ get_or before j []

-- the sessions are over still, with what each was given
pub record AreOver {P : Type 0} (is_own : P → Type 0) (shape : Shape) (known : P → Known) (old new : List (Session P)) : Type 0 where
  pub over : All (IsOver is_own shape known) new
  pub scripts : map script_of new ≡ map script_of old
  pub count : length new ≡ length old

-- up to this place each has heard from the one before it
pub record HaveHeardUp {P : Type 0} (is_own : P → Type 0) (shape : Shape) (known : P → Known) (old new : List (Session P)) (place : ℕ) : Type 0 where
  pub still : AreOver is_own shape known old new
  pub first : 1 ≤ place
  pub last : place ≤ max 1 (length old)
  pub rises : Rises (signals_of known new) place
  pub shown : map shown_of new ≡ map shown_of old

-- and then down to this place each from the one behind it: so many have
pub record HaveHeardDown {P : Type 0} (is_own : P → Type 0) (shape : Shape) (known : P → Known) (old new : List (Session P)) (count : ℕ) : Type 0 where
  pub still : AreOver is_own shape known old new
  pub first : 1 ≤ count
  pub tops : AreTop (signals_of known new) (length old - count)
  pub shown : map shown_of new ≡ map shown_of old

-- and then the first ones, so many, have read once more
pub record HaveRead {P : Type 0} (is_own : P → Type 0) (shape : Shape) (known : P → Known) (old new : List (Session P)) (count : ℕ) : Type 0 where
  pub still : AreOver is_own shape known old new
  pub tops : AreTop (signals_of known new) 0
  pub read : All HasReadOwn (take count (passes_of known new))
  pub shown : FirstMayEndWithRead count (map shown_of old) (map shown_of new)
