-- An item shows two numbers, one, or none.
use Rattle.std.proofs.Common.{◌≡◌, ◌↔◌, inl, inr, nat_le, true, sym, subst}
use Rattle.pgn_model.specs.declared.item.Item.{Item}
use Rattle.pgn_model.specs.Legal.{IsShownWithin}
use Rattle.pgn_walk.proofs.BorneLaws.{within_first, within_none, within_one, within_second}
use Rattle.pgn_walk.proofs.borne.is_within.Goals as goal

pub returns-then-get-most : goal.returns-then-get-most
returns-then-get-most c =
    subst (λ (i : Item). (nat_le c.get-then-get-most.result c.args.most ≡ true) ↔ IsShownWithin c.args.most i) (sym c.in-Enlist.is)
    (within_second c.args.most c.in-Enlist.base c.in-Enlist.point c.get.result c.get-then-get-most.result c.get.ensures.value c.get-then-get-most.ensures.value c.if-get-most.true)

pub returns-else-get-most : goal.returns-else-get-most
returns-else-get-most c =
    subst (λ (i : Item). (nat_le c.get.result c.args.most ≡ true) ↔ IsShownWithin c.args.most i) (sym c.in-Enlist.is)
    (within_first c.args.most c.in-Enlist.base c.in-Enlist.point c.get.result c.get.ensures.value c.if-get-most.false)

pub returns-then-get-most-2 : goal.returns-then-get-most-2
returns-then-get-most-2 c =
    subst (λ (i : Item). (nat_le c.get-then-get-most-2.result c.args.most ≡ true) ↔ IsShownWithin c.args.most i) (sym c.in-QueueFull.is)
    (within_second c.args.most c.in-QueueFull.full.xid c.in-QueueFull.full.floor_mark c.get-in-QueueFull.result c.get-then-get-most-2.result c.get-in-QueueFull.ensures.value c.get-then-get-most-2.ensures.value c.if-get-most-2.true)

pub returns-else-get-most-2 : goal.returns-else-get-most-2
returns-else-get-most-2 c =
    subst (λ (i : Item). (nat_le c.get-in-QueueFull.result c.args.most ≡ true) ↔ IsShownWithin c.args.most i) (sym c.in-QueueFull.is)
    (within_first c.args.most c.in-QueueFull.full.xid c.in-QueueFull.full.floor_mark c.get-in-QueueFull.result c.get-in-QueueFull.ensures.value c.if-get-most-2.false)

pub returns-then-get-most-3 : goal.returns-then-get-most-3
returns-then-get-most-3 c =
    subst (λ (i : Item). (nat_le c.get-then-get-most-3.result c.args.most ≡ true) ↔ IsShownWithin c.args.most i) (sym c.in-Used.is)
    (within_second c.args.most c.in-Used.usage.at c.in-Used.usage.floor_mark c.get-in-Used.result c.get-then-get-most-3.result c.get-in-Used.ensures.value c.get-then-get-most-3.ensures.value c.if-get-most-3.true)

pub returns-else-get-most-3 : goal.returns-else-get-most-3
returns-else-get-most-3 c =
    subst (λ (i : Item). (nat_le c.get-in-Used.result c.args.most ≡ true) ↔ IsShownWithin c.args.most i) (sym c.in-Used.is)
    (within_first c.args.most c.in-Used.usage.at c.in-Used.usage.floor_mark c.get-in-Used.result c.get-in-Used.ensures.value c.if-get-most-3.false)

pub returns-then-get-most-4 : goal.returns-then-get-most-4
returns-then-get-most-4 c =
    subst (λ (i : Item). (nat_le c.get-then-get-most-4.result c.args.most ≡ true) ↔ IsShownWithin c.args.most i) (sym c.in-Read.is)
    (within_second c.args.most c.in-Read.from c.in-Read.to c.get-in-Read.result c.get-then-get-most-4.result c.get-in-Read.ensures.value c.get-then-get-most-4.ensures.value c.if-get-most-4.true)

pub returns-else-get-most-4 : goal.returns-else-get-most-4
returns-else-get-most-4 c =
    subst (λ (i : Item). (nat_le c.get-in-Read.result c.args.most ≡ true) ↔ IsShownWithin c.args.most i) (sym c.in-Read.is)
    (within_first c.args.most c.in-Read.from c.in-Read.to c.get-in-Read.result c.get-in-Read.ensures.value c.if-get-most-4.false)

pub returns-in-Publish : goal.returns-in-Publish
returns-in-Publish c =
    subst (λ (i : Item). (nat_le c.get-in-Publish.result c.args.most ≡ true) ↔ IsShownWithin c.args.most i) (sym c.in-Publish.is) (within_one c.args.most c.in-Publish.xid c.get-in-Publish.result c.get-in-Publish.ensures.value)

pub returns-in-Raise : goal.returns-in-Raise
returns-in-Raise c =
    let one = within_one c.args.most c.in-Raise.value c.get-in-Raise.result c.get-in-Raise.ensures.value in
    elim c.in-Raise.is as (λ _. (nat_le c.get-in-Raise.result c.args.most ≡ true) ↔ IsShownWithin c.args.most c.args.item.now) [
      | inl raised ↦ subst (λ (i : Item). (nat_le c.get-in-Raise.result c.args.most ≡ true) ↔ IsShownWithin c.args.most i) (sym raised) one
      | inr found ↦ subst (λ (i : Item). (nat_le c.get-in-Raise.result c.args.most ≡ true) ↔ IsShownWithin c.args.most i) (sym found) one
    ]

pub returns-in_default : goal.returns-in_default
returns-in_default c =
    let d = c.in_default in
    within_none c.args.most c.args.item.now d.not-Enlist d.not-Publish d.not-QueueFull d.not-Used d.not-Raise d.not-Found d.not-Read
