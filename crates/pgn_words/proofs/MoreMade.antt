-- Groups of the rule on flags and marks, after a pass was made.
use Rattle.std.specs.Prelude.{Contains}
use Rattle.std.proofs.Common.{◌≡◌, ⊎_elim, inl, inr, ℕ, List, [], ◌∷◌, ◌++◌, get_or, All, sym, subst}
use Rattle.std.proofs.lemmas.List.Elements.{All-nil, All-weaker}
use Rattle.atomic_table.proofs.Lists.{at_longer}
use Rattle.pgn_words.specs.declared.view.View.{View}
use Rattle.pgn_words.specs.declared.view.Listen.TheVariants.{Registered}
use Rattle.pgn_words.specs.Each.{Someone}
use Rattle.pgn_words.specs.WakeRule.{raised_in, found_in, named_in, Raised, IsMost, IsTold, Flags, MarkedBy, Marked, Named, IsLast}
use Rattle.pgn_words.proofs.EachLaws.{each_made}

module _ (views : List View) (w : View) where
  -- somebody of whom a fact holds is there still beside a new view
  pub someone_more : (P : View → Type 0) → Someone P views → Someone P (views ++ w ∷ [])
  someone_more P (j, u, there, positive, p) = (j, u, at_longer views (w ∷ []) j u there, positive, p)

  -- the flags stay beside a new view that has raised and found none, and is told of what is finished
  pub flags_more : (fin : ℕ) (flags : List ℕ) → Flags fin flags views → IsTold fin w.known.told w.known.signalled → raised_in w ≡ [] → found_in w ≡ [] → Flags fin flags (views ++ w ∷ [])
  flags_more fin flags h told raised found = record {
    finished = h.finished;
    told = each_made (λ _ u. IsTold fin u.known.told u.known.signalled) views w h.told told;
    most = each_made (λ _ u. All (IsMost flags) (raised_in u)) views w h.most (subst (λ (l : List (ℕ × ℕ)). All (IsMost flags) l) (sym raised) (All-nil (IsMost flags)));
    source = λ f. ⊎_elim (λ none. inl none) (λ r. inr (someone_more (λ u. Contains (raised_in u) (f, get_or flags f 0)) r)) (h.source f);
    found = λ j u there. All-weaker (Raised views) (Raised (views ++ w ∷ [])) (λ x r. someone_more (λ y. Contains (raised_in y) x) r) (found_in u)
        (each_made (λ _ x. All (Raised views) (found_in x)) views w h.found (subst (λ (l : List (ℕ × ℕ)). All (Raised views) l) (sym found) (All-nil (Raised views))) j u there);
  }

  -- the marks that were named stay beside a new view that has named none
  pub named_more : Named views → (w.post.listen ≡ Registered → IsLast w.known.marks w.post.mark) → named_in w ≡ [] → Named (views ++ w ∷ [])
  named_more h current named = record {
    current = each_made (λ _ u. u.post.listen ≡ Registered → IsLast u.known.marks u.post.mark) views w h.current current;
    named = λ j u there. All-weaker (Marked views) (Marked (views ++ w ∷ [])) (λ x m. someone_more (MarkedBy x) m) (named_in u)
        (each_made (λ _ x. All (Marked views) (named_in x)) views w h.named (subst (λ (l : List (ℕ × ℕ)). All (Marked views) l) (sym named) (All-nil (Marked views))) j u there);
  }
