-- What parts of workers have come to.
use Rattle.std.specs.Prelude.{◌≡◌, ◌<◌, List, length, All, Option, Some, None, Result, OnOk, OnErr}
use Rattle.std.specs.Result.{result_and}

-- workers that stand next to each other, and what they share
pub record Part (W A : Type 0) : Type 0 where
  pub workers : List W
  pub hand : A

abbrev pub part : {W A : Type 0} → List W → A → Part W A
part workers hand = record { workers = workers; hand = hand }

-- a part has run, where there is an answer, and where there is none it is as it was
abbrev pub MayHaveRun : {W A X : Type 0} → (Part W A → Part W A → X → Type 0) → Part W A → Part W A → Option X → Type 0
MayHaveRun ran old new None = new ≡ old
MayHaveRun ran old new (Some answer) = ran old new answer

-- a part may begin where another may, and whatever it comes to, the other comes to
pub record StandsFor {W A X : Type 0} (begins : Part W A → Type 0) (ran : Part W A → Part W A → X → Type 0) (old new : Part W A) : Type 0 where
  pub same : new.workers ≡ old.workers
  pub may : begins new
  pub comes_to : (last : Part W A) (answer : X) → ran new last answer → ran old last answer

-- a part has run, where there is an answer, and where there is none it may run still
abbrev pub MayStillRun : {W A X : Type 0} → (Part W A → Type 0) → (Part W A → Part W A → X → Type 0) → Part W A → Part W A → Option X → Type 0
MayStillRun begins ran old new None = StandsFor begins ran old new
MayStillRun begins ran old new (Some answer) = ran old new answer

-- both of two halves have run, and this is what they answer together
pub record BothHaveRun {W A X E : Type 0} (ran : Part W A → Part W A → Result X E → Type 0) (left left_new right right_new : Part W A) (answer : Result X E) : Type 0 where
  pub first : Result X E
  pub second : Result X E
  pub left_ran : ran left left_new first
  pub right_ran : ran right right_new second
  pub answers : answer ≡ result_and first second

-- both halves have run, where there is an answer, and where there is none they are as they were
abbrev pub HalvesMayHaveRun : {W A X E : Type 0} → (Part W A → Part W A → Result X E → Type 0) → Part W A → Part W A → Part W A → Part W A → Option (Result X E) → Type 0
HalvesMayHaveRun ran left left_new right right_new None = (left_new ≡ left) × (right_new ≡ right)
HalvesMayHaveRun ran left left_new right right_new (Some answer) = BothHaveRun ran left left_new right right_new answer

-- what two halves of a part share, once both have run or neither has
pub record AreOfHalves {W A X E : Type 0} (cut : Part W A → Part W A → Part W A → Type 0) (ran : Part W A → Part W A → Result X E → Type 0) (first second : A) : Type 0 where
  pub whole : Part W A
  pub left : Part W A
  pub left_new : Part W A
  pub right : Part W A
  pub right_new : Part W A
  pub answer : Option (Result X E)
  pub halves : cut whole left right
  pub came_to : HalvesMayHaveRun ran left left_new right right_new answer
  pub first_hand : left_new.hand ≡ first
  pub second_hand : right_new.hand ≡ second

-- a part began, and has taken rounds of turns until all were over, or one was refused
pub record HasTakenRounds {W A X E : Type 0} (begins : Part W A → Type 0) (took : Part W A → Part W A → Type 0) (over : W → Type 0) (old new : Part W A) (answer : Result X E) : Type 0 where
  pub begun : begins old
  pub turns : took old new
  pub all_over : OnOk answer (All over new.workers)
  pub some : OnErr answer (0 < length old.workers)
