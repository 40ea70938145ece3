-- What a pass knows that has told something for a seat, and one that has taken what a seat was asked.
use Rattle.std.proofs.Common.{◌≡◌, ℕ, List, Some, sym, ap, ◌∙◌, refl, subst}
use Rattle.std.specs.Prelude.{map}
use Rattle.pgn_outlet.specs.declared.came.Came.{Came}
use Rattle.pgn_outlet.specs.declared.hand.Hand.{Hand}
use Rattle.pgn_outlet.specs.Rule.{MayPush, with_sent}
use Rattle.pgn_outlet.proofs.CameLaws.{pushed_other}
use Rattle.pgn_messages.specs.declared.saying.Saying.{Saying}
use Rattle.pgn_seats.specs.Serving.{HasPushedFor}
use Rattle.pgn_seats.specs.Working.{HasSaid}

-- nothing was pushed
pub pushed-same : (n : ℕ) (old new : Hand Saying) → new ≡ old → HasPushedFor n old new
pushed-same n old new e = subst (λ (v : Hand Saying). HasPushedFor n old v) (sym e) (record { same = refl; others = λ m apart. refl })

-- a pass that has pushed one saying has pushed for its number alone
pub pushed-one : (n : ℕ) (saying : Saying) (old new : Hand Saying) → new ≡ with_sent old (record { session = n; what = saying }) → HasPushedFor n old new
pushed-one n saying old new e =
    let came : Came Saying = record { session = n; what = saying } in
    subst (λ (v : Hand Saying). HasPushedFor n old v) (sym e) (record { same = refl; others = λ m apart. pushed_other m came old.sent (λ is. apart (sym is)) })

-- one push after another
pub pushed-both : (n : ℕ) (a b c : Hand Saying) → HasPushedFor n a b → HasPushedFor n b c → HasPushedFor n a c
pushed-both n a b c h k = record {
  same = k.same ∙ ap (λ (v : Hand Saying). record v { sent = c.sent }) h.same;
  others = λ m apart. k.others m apart ∙ h.others m apart;
}

-- for the same number
pub pushed-at : (n m : ℕ) (old new : Hand Saying) → m ≡ n → HasPushedFor m old new → HasPushedFor n old new
pushed-at n m old new e h = subst (λ (k : ℕ). HasPushedFor k old new) e h

-- what may push may push on
pub may-still : (n m : ℕ) (old new : Hand Saying) → HasPushedFor m old new → MayPush old n → MayPush new n
may-still n m old new h may = subst (λ (v : Hand Saying). MayPush v n) (sym h.same) may

-- a pass that may push for a number may, by whatever name this goes
pub may-at : (n m : ℕ) (v : Hand Saying) → m ≡ n → MayPush v m → MayPush v n
may-at n m v e may = subst (λ (k : ℕ). MayPush v k) e may

-- the same bytes
pub said-as : (n : ℕ) (bytes others : List ℕ) (old new : Hand Saying) → bytes ≡ others → HasSaid n (map Some bytes) old new → HasSaid n (map Some others) old new
said-as n bytes others old new e h = subst (λ (l : List ℕ). HasSaid n (map Some l) old new) e h
