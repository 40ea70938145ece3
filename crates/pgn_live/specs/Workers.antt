-- Sessions that tell, as workers: a part of them has a pass in its hand, and how many items of each were told.
use Rattle.std.specs.Prelude.{◌≡◌, List, ◌++◌, length, Result}
use Rattle.std.specs.declared.alloc.AllocError.{AllocError}
use Rattle.pgn_hub.specs.declared.known.Known.{Known}
use Rattle.pgn_hub.specs.Shape.{Shape}
use Rattle.pgn_model.specs.declared.item.Item.{Item}
use Rattle.pgn_outlet.specs.declared.outlet.Outlet.{Outlet}
use Rattle.pgn_outlet.specs.Passes.{IsPassOf, knows}
use Rattle.pgn_outlet.specs.Rule.{joined, lower, upper}
use Rattle.pgn_session.specs.declared.session.Session.{Session}
use Rattle.pgn_workers.specs.Parts.{Part}
use Rattle.pgn_live.specs.declared.telling.Telling.{Telling}
use Rattle.pgn_live.specs.Playing.{HavePlayed, IsNoneTold, MayPlay}
use Rattle.pgn_live.specs.Turns.{HaveGone, MayGo}

-- they may begin, with a pass that has pushed nothing
pub record PartMayPlay {P : Type 0} (is_own : P → Type 0) (shape : Shape) (known : P → Known) (outlet : Outlet (List Item)) (p : Part (Session P) Telling) : Type 0 where
  pub own : IsPassOf outlet p.hand.pass
  pub may : MayPlay is_own shape known p.workers (knows p.hand.pass)
  pub none : IsNoneTold p.hand.told

-- they may take a round of turns
pub record PartMayGo {P : Type 0} (is_own : P → Type 0) (shape : Shape) (known : P → Known) (outlet : Outlet (List Item)) (p : Part (Session P) Telling) : Type 0 where
  pub own : IsPassOf outlet p.hand.pass
  pub may : MayGo is_own shape known p.workers p.hand.told (knows p.hand.pass)

-- they have taken turns
pub record PartHasGone {P : Type 0} (is_own : P → Type 0) (shape : Shape) (outlet : Outlet (List Item)) (p q : Part (Session P) Telling) : Type 0 where
  pub own : IsPassOf outlet q.hand.pass
  pub gone : HaveGone is_own shape p.workers q.workers p.hand.told q.hand.told (knows p.hand.pass) (knows q.hand.pass)

-- they have run
pub record PartHasPlayed {P : Type 0} (is_own : P → Type 0) (shape : Shape) (known : P → Known) (outlet : Outlet (List Item)) (p q : Part (Session P) Telling) (answer : Result Unit AllocError) : Type 0 where
  pub own : IsPassOf outlet q.hand.pass
  pub played : HavePlayed is_own shape known p.workers q.workers (knows p.hand.pass) (knows q.hand.pass) answer

-- they were cut in two that may begin, and their pass with them
pub record PartWasCut {P : Type 0} (is_own : P → Type 0) (shape : Shape) (known : P → Known) (outlet : Outlet (List Item)) (p l r : Part (Session P) Telling) : Type 0 where
  pub whole : p.workers ≡ l.workers ++ r.workers
  pub begun : MayPlay is_own shape known p.workers (knows p.hand.pass)
  pub left_own : IsPassOf outlet l.hand.pass
  pub right_own : IsPassOf outlet r.hand.pass
  pub left_pass : knows l.hand.pass ≡ lower (length l.workers) (knows p.hand.pass)
  pub right_pass : knows r.hand.pass ≡ upper (length l.workers) (knows p.hand.pass)
  pub left_none : IsNoneTold l.hand.told
  pub right_none : IsNoneTold r.hand.told

-- two hands were made one
pub record HandsWereJoined (outlet : Outlet (List Item)) (l r h : Telling) : Type 0 where
  pub own : IsPassOf outlet h.pass
  pub pass : knows h.pass ≡ joined (knows l.pass) (knows r.pass)
  pub told : h.told ≡ l.told
