-- What a session has told, as its items grow and as it pushes.
use Rattle.std.proofs.Common.{◌≡◌, ℕ, zero, suc, List, set, replicate, sym, ◌∙◌, refl, subst}
use Rattle.std.proofs.lemmas.List.{get_or-set_other}
use Rattle.pgn_model.specs.declared.item.Item.{Item}
use Rattle.pgn_outlet.specs.Rule.{with_sent}
use Rattle.pgn_live.specs.Cames.{Came, Hand}
use Rattle.pgn_live.specs.Telling.{HasPushedFor, HasToldFor, told_of}
use Rattle.pgn_live.proofs.CameLaws.{pushed_other}

pub pushed-none : (n : ℕ) (v : Hand) → HasPushedFor n v v
pushed-none n v = record { same = refl; others = λ m apart. refl }

pub pushed-same : (n : ℕ) (old new : Hand) → new ≡ old → HasPushedFor n old new
pushed-same n old new is = subst (λ (v : Hand). HasPushedFor n old v) (sym is) (pushed-none n old)

-- a push for a session is one for no other
pub pushed-one : (n : ℕ) (items : List Item) (old new : Hand) → new ≡ with_sent old (record { session = n; what = items }) → HasPushedFor n old new
pushed-one n items old new is =
    let came : Came = record { session = n; what = items } in
    subst (λ (v : Hand). HasPushedFor n old v) (sym is) (record { same = refl; others = λ m apart. pushed_other m came old.sent (λ e. apart (sym e)) })

-- nothing was told
pub told-none : (n : ℕ) (told : List ℕ) (old new : Hand) → new ≡ old → HasToldFor n told told old new
told-none n told old new is = record { pushed = pushed-same n old new is; counted = λ m apart. refl }

-- and then its place alone in the list of counts may change
pub told-set : (n place k : ℕ) (told : List ℕ) (old new : Hand) → place ≡ n → HasPushedFor n old new → HasToldFor n told (set told place k) old new
told-set n place k told old new is pushed = record { pushed = pushed; counted = λ m apart. get_or-set_other told place m k 0 (λ e. apart (e ∙ is)) }

-- a list of nothing
pub none-told : (size n : ℕ) → told_of (replicate size 0) n ≡ 0
none-told zero n = refl
none-told (suc size) zero = refl
none-told (suc size) (suc n) = none-told size n
