-- What is shown of bare traces.
use Rattle.std.proofs.Common.{◌≡◌, ◌≢◌, ℕ, List, [], ◌∷◌, map, Some, None, sym, ap, ◌∙◌, refl}
use Rattle.pgn_base.specs.declared.note.Note.{Note}
use Rattle.pgn_base.specs.declared.queue_answers.Full.{Full}
use Rattle.pgn_model.specs.declared.item.Item.{Item}
use Rattle.pgn_model.specs.declared.item.Item.TheVariants.{Publish, QueueFull}
use Rattle.pgn_model.specs.declared.trace.Trace.{Trace}
use Rattle.pgn_model.specs.Legal.{finished_xid}
use Rattle.pgn_reading.specs.Bare.{bare, bare_item}
use Rattle.pgn_reading.specs.Merged.{finished}
use Rattle.pgn_reading.specs.Laws.{OthersAreBare, BareHasNoNote, LegalIsLegalBare}
use Rattle.pgn_reading.proofs.BareLaws.{bare-item}

-- an item that shows no transaction as finished
pub others-bare : OthersAreBare
others-bare session db item =
    bare-item (λ bare item. finished session db item ≡ None → bare ≡ item) (λ xid notes h. absurd (cc)) (λ full notes h. absurd (cc)) (λ item none h. refl) item

-- no bare item has a notification
pub none-bare : BareHasNoNote
none-bare item note notes =
    bare-item (λ bare item. ((xid : ℕ) → bare ≢ Publish xid (note ∷ notes)) × ((full : Full) → bare ≢ QueueFull full (note ∷ notes)))
    (λ x ns. (λ xid e. cc, λ full e. cc)) (λ f ns. (λ xid e. cc, λ full e. cc))
    (λ other none. (
      λ xid e. let is : None ≡ Some xid = sym none ∙ ap finished_xid e in cc,
      λ full e. let is : None ≡ Some full.xid = sym none ∙ ap finished_xid e in cc,
    ))
    item

-- no bare traces begin with one that begins with a commit that has some
pub commit-first : (trace : Trace) (traces whole : List Trace) (xid : ℕ) (note : Note) (notes : List Note) (items : List Item) → trace ∷ traces ≡ map bare whole → trace.items ≡ Publish xid (note ∷ notes) ∷ items → ⊥
commit-first trace traces [] xid note notes items e is = cc
commit-first trace traces (first ∷ whole) xid note notes items e is =
    let same : trace ≡ bare first = cc in
    begins first.items (sym (ap (λ (t : Trace). t.items) same) ∙ is)
  where
    begins : (those : List Item) → map bare_item those ≡ Publish xid (note ∷ notes) ∷ items → ⊥
    begins [] e = cc
    begins (item ∷ those) e = (none-bare item note notes).0 xid (cc)

-- no traces are bare ones of no trace
pub no-whole : (whole : List Trace) → [] ≡ map bare whole → whole ≡ []
no-whole [] e = refl
no-whole (trace ∷ whole) e = absurd (let none : ⊥ = cc in none)

-- the traces of a legal run
pub legal-bare : LegalIsLegalBare
legal-bare scenario settings journal traces legal = record { whole = traces; are_bare = refl; legal = legal }
