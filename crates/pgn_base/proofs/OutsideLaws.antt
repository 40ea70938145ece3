-- Texts that are written one after another, up to a failure.
use Rattle.std.proofs.Common.{ℕ, List, ◌++◌, Option, Some, None, Result, Ok, Err, sym, ap, ◌∙◌, append_assoc}
use Rattle.std.specs.Io.KnownBytes.{Appends}
use Rattle.pgn_base.specs.Outside.{AppendsPrefix, Writes}

-- what was written of a text was written of a longer one
pub AppendsPrefix-more : (old new : Option (List ℕ)) (text more : List ℕ) → AppendsPrefix old new text → AppendsPrefix old new (text ++ more)
AppendsPrefix-more None new text more h = tt
AppendsPrefix-more (Some xs) None text more h = h
AppendsPrefix-more (Some xs) (Some ys) text more h = (h.0, h.1 ++ more, ap (λ (bytes : List ℕ). bytes ++ more) h.2 ∙ append_assoc h.0 h.1 more, h.3)

-- a text was written, and then something of another
pub AppendsPrefix-then : (old mid new : Option (List ℕ)) (text next : List ℕ) → Appends old mid text → AppendsPrefix mid new next → AppendsPrefix old new (text ++ next)
AppendsPrefix-then None mid new text next a h = tt
AppendsPrefix-then (Some xs) None new text next a h = absurd a
AppendsPrefix-then (Some xs) (Some ys) None text next a h = h
AppendsPrefix-then (Some xs) (Some ys) (Some zs) text next a h =
    (text ++ h.0, h.1, ap (λ (bytes : List ℕ). text ++ bytes) h.2 ∙ sym (append_assoc text h.0 h.1), h.3 ∙ ap (λ (bytes : List ℕ). bytes ++ h.0) a ∙ append_assoc xs text h.0)

-- one text was written, and then another
pub Appends-then : (old mid new : Option (List ℕ)) (text next : List ℕ) → Appends old mid text → Appends mid new next → Appends old new (text ++ next)
Appends-then None mid new text next a b = a
Appends-then (Some xs) None new text next a b = absurd a
Appends-then (Some xs) (Some ys) None text next a b = b
Appends-then (Some xs) (Some ys) (Some zs) text next a b = b ∙ ap (λ (bytes : List ℕ). bytes ++ next) a ∙ append_assoc xs text next

-- one text was written, and then another as far as it went
pub Writes-then : {T E : Type 0} (old mid new : Option (List ℕ)) (result : Result T E) (text next : List ℕ) → Appends old mid text → Writes mid new result next → Writes old new result (text ++ next)
Writes-then old mid new (Ok value) text next a h = Appends-then old mid new text next a h
Writes-then old mid new (Err error) text next a h = AppendsPrefix-then old mid new text next a h

-- to write more behind a front of a text, and one text behind another
pub ruleset writings = (AppendsPrefix-more, Writes-then)
