use Rattle.std.proofs.Common.{◌≡◌, ℕ, ◌+◌, ◌<◌, ◌≤◌, length, get_or, List, [], ◌∷◌, ◌++◌, ◌∙◌, take, take_all}
use Rattle.std.proofs.lemmas.List.{take_more}
use Rattle.pgn_base.proofs.seq.SeqCopied.copy.Goals as goal

-- one more item, copied
more-copied : {A : Type 0} (new old items : List A) (at : ℕ) (copy item : A) → new ≡ old ++ copy ∷ [] → old ≡ take at items → copy ≡ item → item ≡ get_or items at item → at < length items → new ≡ take (at + 1) items
more-copied new old items at copy item p q r s lt = let more = take_more items at item lt in cc

all-copied : {A : Type 0} (new items : List A) (at : ℕ) → new ≡ take at items → length items ≤ at → new ≡ items
all-copied new items at p le = p ∙ take_all at items le

pub loop-item-preserved : goal.loop-item-preserved
loop-item-preserved g c =
    more-copied _ _ _ _ _ _ c.in_ok-push.ensures.items c.loop-item.invariant c.in_ok-copy.ensures.equal c.item-item.is c.loop-item-test.true

pub returns : goal.returns
returns g c = record { equal = all-copied _ _ _ c.loop-item.invariant c.loop-item-test.false ∙ c.as_slice-item-items.ensures.value ∙ c.self.view_is }
