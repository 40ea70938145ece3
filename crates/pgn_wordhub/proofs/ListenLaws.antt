-- Who is a listener, by its mark.
use Rattle.std.proofs.Common.{◌≡◌, ℕ, Option, Some, IsSome, refl, ap, ◌∙◌, subst}
use Rattle.pgn_words.specs.declared.view.View.{View}
use Rattle.pgn_words.specs.declared.view.Listen.{Listen}
use Rattle.pgn_words.specs.declared.view.Listen.TheVariants.{Out, Joining, Based, Registered}
use Rattle.pgn_words.specs.Positions.{marked, shown_as}
use Rattle.pgn_words.specs.Passes.{IsAtRest}

-- who has a mark is a listener
with_mark : (listen : Listen) (mark at : ℕ) → IsSome (marked (shown_as listen mark at)) → listen ≡ Registered
with_mark Out mark at h = absurd (cc)
with_mark Joining mark at h = absurd (cc)
with_mark Based mark at h = absurd (cc)
with_mark Registered mark at h = refl

-- a pass at rest that has a mark is registered with it
pub listens : (v : View) → IsAtRest v → IsSome v.known.mark → v.post.listen ≡ Registered
listens v rest some = with_mark v.post.listen v.post.mark v.post.at (subst (λ (m : Option ℕ). IsSome m) rest.listens some)

-- its mark
pub mark_of_listener : (v : View) → IsAtRest v → v.post.listen ≡ Registered → v.known.mark ≡ Some v.post.mark
mark_of_listener v rest listener = rest.listens ∙ ap (λ l. marked (shown_as l v.post.mark v.post.at)) listener
