use Rattle.std.proofs.Common.{◌≡◌, ℕ, List, insert, ap, ◌∙◌}
use Rattle.pgn_base.proofs.seq.Seq.insert.Goals as goal

put-in : {A : Type 0} (new old seen : List A) (place : ℕ) (item : A) → new ≡ insert old place item → old ≡ seen → new ≡ insert seen place item
put-in {A} new old seen place item p q = p ∙ ap (λ (items : List A). insert items place item) q

pub returns : goal.returns
returns g c = record { ok = put-in _ _ _ _ _ c.in_ok-insert.ensures.items c.self.view_is; err = tt }
