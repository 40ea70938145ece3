-- What a session has told so far.
use Rattle.std.specs.Prelude.{◌≡◌, ◌≢◌, ℕ, ◌≤◌, List, take, length, slice_index}
use Rattle.pgn_model.specs.declared.item.Item.{Item}
use Rattle.pgn_live.specs.Cames.{Hand, items_of}

-- so many of the items of session n were pushed, the first ones, in order, each once
pub record IsTold (n : ℕ) (items : List Item) (told : ℕ) (v : Hand) : Type 0 where
  pub within : told ≤ length items
  pub shown : items_of n v.sent ≡ take told items

-- of session n so many were, by a list of such numbers
abbrev pub told_of : List ℕ → ℕ → ℕ
told_of told n = slice_index told n

-- the pass may have pushed for session n, and has pushed nothing for others
pub record HasPushedFor (n : ℕ) (old new : Hand) : Type 0 where
  pub same : new ≡ record old { sent = new.sent }
  pub others : (m : ℕ) → m ≢ n → items_of m new.sent ≡ items_of m old.sent

-- and the list may have another number for session n alone
pub record HasToldFor (n : ℕ) (told_old told_new : List ℕ) (old new : Hand) : Type 0 where
  pub pushed : HasPushedFor n old new
  pub counted : (m : ℕ) → m ≢ n → told_of told_new m ≡ told_of told_old m
