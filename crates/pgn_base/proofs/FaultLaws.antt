-- What a test of a text says of each fault, as its callers pass it on.
use Rattle.std.proofs.Common.{◌≡◌, ℕ, ◌<◌, ◌==◌, ◌↔◌, ◌∙◌, Bool, true, false, List, [], ◌∷◌, length, Result, Ok, Err, IfOk, OnErr, IsErr, IsErrAnd, IsErrOf, refl, sym, ap, arith}
use Rattle.std.proofs.lemmas.Bool.{false≢true, eqb-true}

-- a value is none of the faults
pub ok-fault : {A E : Type 0} (x : A) (e : E) → IsErrOf (Ok x) e → ⊥
ok-fault x e q = cc

-- a result's fault is the one that it holds
pub fault-is : {A E : Type 0} (f e : E) → IsErrOf {T = A} (Err f) e → f ≡ e
fault-is f e q = cc

-- and no other one
pub fault-not : {A E : Type 0} (f e : E) → (f ≡ e → ⊥) → IsErrOf {T = A} (Err f) e → ⊥
fault-not f e differ q = differ (fault-is f e q)

-- an error is the same fault in a result of another type
pub fault-moved : {A B E : Type 0} (f e : E) → IsErrOf {T = A} (Err f) e → IsErrOf {T = B} (Err f) e
fault-moved f e q = let same : f ≡ e = fault-is f e q in cc

-- the same fault in another result
pub fault-same : {A B E P : Type 0} (f e : E) → (IsErrOf {T = A} (Err f) e ↔ P) → IsErrOf {T = B} (Err f) e ↔ P
fault-same f e h = (λ q. h.0 (fault-moved f e q), λ p. fault-moved f e (h.1 p))

-- and in one that is known to hold it
pub err-held : {A E : Type 0} (r : Result A E) (f : E) → IsErrAnd r (λ e. e ≡ f) → r ≡ Err f
err-held (Ok x) f h = absurd h
err-held (Err e) f h = ap Err h

-- where a result holds an error, its fault is that of the error by itself
pub fault-held : {A B E P : Type 0} (r : Result B E) (f e : E) → IsErrAnd r (λ g. g ≡ f) → (IsErrOf {T = A} (Err f) e ↔ P) → IsErrOf r e ↔ P
fault-held r f e is h =
    let held : r ≡ Err f = err-held r f is in
    (λ q. h.0 (fault-moved f e (sym held ∙ q)), λ p. held ∙ fault-moved f e (h.1 p))

-- and it has no fault that the error does not have
pub held-not : {A B E : Type 0} (r : Result B E) (f e : E) → IsErrAnd r (λ g. g ≡ f) → (IsErrOf {T = A} (Err f) e → ⊥) → IsErrOf r e → ⊥
held-not r f e is differ q = differ (fault-moved f e (sym (err-held r f is) ∙ q))

-- a text that passed has no fault in another result either
pub fault-none : {A B E P : Type 0} (x : A) (y : B) (e : E) → (IsErrOf (Ok x) e ↔ P) → IsErrOf (Ok y) e ↔ P
fault-none x y e h = (λ q. absurd (ok-fault y e q), λ p. absurd (ok-fault x e (h.1 p)))

-- nor has it where memory was refused
pub fault-other : {A B E P : Type 0} (x : A) (f e : E) → (f ≡ e → ⊥) → (IsErrOf (Ok x) e ↔ P) → IsErrOf {T = B} (Err f) e ↔ P
fault-other x f e differ h = (λ q. absurd (fault-not f e differ q), λ p. absurd (ok-fault x e (h.1 p)))

-- a fault that is not this one stands where this one's cause does not hold
pub fault-differs : {A E P : Type 0} (f e : E) → (f ≡ e → ⊥) → (P → ⊥) → IsErrOf {T = A} (Err f) e ↔ P
fault-differs f e differ none = (λ q. absurd (fault-not f e differ q), λ p. absurd (none p))

-- and this one where it does
pub fault-here : {A E P : Type 0} (e : E) → P → IsErrOf {T = A} (Err e) e ↔ P
fault-here e p = (λ q. p, λ h. refl)

-- a value stands where no fault's cause holds
pub fault-passed : {A E P : Type 0} (x : A) (e : E) → (P → ⊥) → IsErrOf (Ok x) e ↔ P
fault-passed x e none = (λ q. absurd (ok-fault x e q), λ p. absurd (none p))

-- what a result that holds an error says of values, and of errors
pub held-ok : {A E : Type 0} (r : Result A E) (P : A → Type 0) → IsErr r → IfOk r P
held-ok (Ok x) P is = absurd (false≢true is)
held-ok (Err e) P is = tt

-- what is so is so of a result's error
pub held-err : {A E : Type 0} (r : Result A E) (P : Type 0) → P → OnErr r P
held-err (Ok x) P p = tt
held-err (Err e) P p = p

-- a text is empty exactly where it has no byte
pub none-of : (bytes : List ℕ) (b : Bool) → b ≡ (length bytes == 0) → b ≡ true → bytes ≡ []
none-of [] b e t = refl
none-of (x ∷ xs) b e t = let zero : length (x ∷ xs) ≡ 0 = eqb-true (length (x ∷ xs)) 0 (sym e ∙ t) in absurd (omega (arith, zero))

-- and it has a byte where it is not empty
pub some-of : (bytes : List ℕ) (b : Bool) → b ≡ (length bytes == 0) → b ≡ false → 0 < length bytes
some-of [] b e f = absurd (false≢true (sym f ∙ e))
some-of (x ∷ xs) b e f = omega arith
