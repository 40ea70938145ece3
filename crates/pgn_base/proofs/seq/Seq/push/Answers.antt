use Rattle.std.proofs.Common.{◌≡◌, List, [], ◌∷◌, ◌++◌, ap, ◌∙◌}
use Rattle.pgn_base.proofs.seq.Seq.push.Goals as goal

pushed : {A : Type 0} (new old seen : List A) (item : A) → new ≡ old ++ item ∷ [] → old ≡ seen → new ≡ seen ++ item ∷ []
pushed {A} new old seen item p q = p ∙ ap (λ (items : List A). items ++ item ∷ []) q

pub returns : goal.returns
returns g c = record { ok = pushed _ _ _ _ c.in_ok-push.ensures.items c.self.view_is; err = tt }
