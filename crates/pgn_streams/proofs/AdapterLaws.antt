-- Bytes that an interrupted call has kept.
use Rattle.std.proofs.Common.{ℕ, List, ◌++◌, Option, Some, None, Result, Ok, Err, take, sym, ap, ◌∙◌, refl}
use Rattle.std.specs.Io.KnownBytes.{Keeps, Appends, Consumes, ReadConsumes, WriteAppends}

-- bytes keep themselves
pub Keeps-same : (known : Option (List ℕ)) → Keeps known known
Keeps-same None = tt
Keeps-same (Some xs) = refl

-- bytes that were kept twice
pub Keeps-trans : (old mid new : Option (List ℕ)) → Keeps old mid → Keeps mid new → Keeps old new
Keeps-trans None mid new a b = tt
Keeps-trans (Some xs) None new a b = absurd a
Keeps-trans (Some xs) (Some ys) None a b = absurd b
Keeps-trans (Some xs) (Some ys) (Some zs) a b = b ∙ a

consumes-kept : (old mid new : Option (List ℕ)) (bytes : List ℕ) → Keeps old mid → Consumes mid new bytes → Consumes old new bytes
consumes-kept None mid new bytes k h = tt
consumes-kept (Some xs) None new bytes k h = absurd k
consumes-kept (Some xs) (Some ys) None bytes k h = absurd h
consumes-kept (Some xs) (Some ys) (Some zs) bytes k h = sym k ∙ h

appends-kept : (old mid new : Option (List ℕ)) (bytes : List ℕ) → Keeps old mid → Appends mid new bytes → Appends old new bytes
appends-kept None mid new bytes k h = tt
appends-kept (Some xs) None new bytes k h = absurd k
appends-kept (Some xs) (Some ys) None bytes k h = absurd h
appends-kept (Some xs) (Some ys) (Some zs) bytes k h = h ∙ ap (λ (ws : List ℕ). ws ++ bytes) k

-- a read of bytes that were kept
pub ReadConsumes-kept : {E : Type 0} (old mid new : Option (List ℕ)) (result : Result ℕ E) (buf : List ℕ) → Keeps old mid → ReadConsumes mid new result buf → ReadConsumes old new result buf
ReadConsumes-kept old mid new (Ok n) buf k h = (consumes-kept old mid new (take n buf) k h.0, h.1)
ReadConsumes-kept old mid new (Err e) buf k h = Keeps-trans old mid new k h

-- a write behind bytes that were kept
pub WriteAppends-kept : {E : Type 0} (old mid new : Option (List ℕ)) (result : Result ℕ E) (piece : List ℕ) → Keeps old mid → WriteAppends mid new result piece → WriteAppends old new result piece
WriteAppends-kept old mid new (Ok n) piece k h = appends-kept old mid new (take n piece) k h
WriteAppends-kept old mid new (Err e) piece k h = Keeps-trans old mid new k h

-- what an adapter's reads and writes keep of its count of faults
pub ruleset adapter_laws = (Keeps-same, Keeps-trans, ReadConsumes-kept, WriteAppends-kept)
