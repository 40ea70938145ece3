-- Laws of choices by tests.
use Rattle.std.proofs.Common.{◌≡◌, Bool, true, false, cond, ◌||◌, refl}

-- a choice by one test or another is a choice by each of them
pub or_cond : {A : Type 0} (a b : Bool) (x y : A) → cond (a || b) x y ≡ cond a x (cond b x y)
or_cond true b x y = refl
or_cond false b x y = refl

-- one test or another, in another order of brackets
pub or_assoc : (a b c : Bool) → ((a || b) || c) ≡ (a || (b || c))
or_assoc true b c = refl
or_assoc false b c = refl

-- one test or none is the one
pub or_none : (a : Bool) → (a || false) ≡ a
or_none true = refl
or_none false = refl
