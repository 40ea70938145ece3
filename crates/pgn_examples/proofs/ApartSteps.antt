-- What refused traces need: two values are different where a test, which computes, holds of the first and not of the second.
use Rattle.std.proofs.Common.{◌≡◌, ℕ, Bool, true, false, nat_eq, List, [], ◌∷◌, Option, None, Some, sym, ap, ◌∙◌}
use Rattle.std.proofs.lemmas.Bool.{true≢false}
use Rattle.pgn_base.specs.declared.answers.Tag.TheVariants as tag
use Rattle.pgn_answers.specs.declared.block_state.BlockState.{BlockState}
use Rattle.pgn_answers.specs.declared.block_state.BlockState.TheVariants.{Idle}
use Rattle.pgn_language.specs.declared.scenario.ScriptLine.{ScriptLine}
use Rattle.pgn_model.specs.Walk.{Owed, Nothing, Answering, Replied}

-- the first of two values passes the test, and the second does not
pub apart : {A : Type 0} (test : A → Bool) {a b : A} → a ≡ b → test a ≡ true → test b ≡ false → ⊥
apart test e p q = true≢false (sym p ∙ ap test e ∙ q)

-- the mark is this one
abbrev pub is_mark : ℕ → Option ℕ → Bool
is_mark n None = false
is_mark n (Some mark) = nat_eq n mark

-- the line has nothing to show
abbrev pub is_nothing : Owed → Bool
is_nothing Nothing = true
is_nothing owed = false

-- the answer comes next
abbrev pub is_answering : Owed → Bool
is_answering (Answering ending) = true
is_answering owed = false

-- the answer of LISTEN comes next
abbrev pub is_listening : Owed → Bool
is_listening (Answering (Replied tag.Listen warning)) = true
is_listening owed = false

-- an answer with a warning comes next
abbrev pub is_warning : Owed → Bool
is_warning (Answering (Replied tag (Some warning))) = true
is_warning owed = false

-- no block is open
abbrev pub is_idle : BlockState → Bool
is_idle Idle = true
is_idle state = false

-- no line is to come
abbrev pub is_done : List ScriptLine → Bool
is_done [] = true
is_done (line ∷ lines) = false
