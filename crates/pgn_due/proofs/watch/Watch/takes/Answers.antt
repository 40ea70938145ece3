use Rattle.std.proofs.Common.{◌≡◌, ◌≤◌, ◌+◌, ◌++◌, ◌∷◌, [], ℕ, Bool, List, take, length, ap, sym, subst, ◌∙◌, arith}
use Rattle.std.proofs.lemmas.List.{take_all, take_more}
use Rattle.pgn_base.specs.declared.note.Delivery.{Delivery}
use Rattle.pgn_journal.specs.declared.tx.Tx.{Tx}
use Rattle.pgn_due.specs.Sent.{sent_before, sent_in}
use Rattle.pgn_due.specs.Next.{Passes}
use Rattle.pgn_due.proofs.DueLaws.{before_within}
use Rattle.pgn_due.proofs.WatchLaws.{HasTaken, journal_of, taken_first, taken_more, takes_end, takes_off}
use Rattle.pgn_due.proofs.watch.Watch.takes.Goals as goal

pub loop-delivery-init : goal.loop-delivery-init
loop-delivery-init c = taken_first c.start-end.result c.args.self.now

pub pass-requires : goal.pass-requires
pass-requires c =
    let same = (c.loop-delivery.invariant c.start-end.result (omega arith)).feed in
    let j : List Tx = journal_of c.args.self.now in
    let is : c.start-end.result ≡ sent_before j c.get.result = c.start-end.ensures in
    let within : c.start-end.result ≤ length (sent_in j) = omega (arith, is, before_within j c.get.result) in
    subst (λ (f : _). c.start-end.result ≤ length (sent_in f.now.sends.journal.now)) (sym same) within

pub returns-then-not-branch : goal.returns-then-not-branch
returns-then-not-branch c = λ journal db mark set low le h.
    let is : c.start-end.result ≡ sent_before (journal_of c.args.self.now) c.args.to = c.start-end.ensures ∙ ap (λ (x : ℕ). sent_before (journal_of c.args.self.now) x) c.get.ensures.value in
    let off = subst (λ (b : Bool). Passes c.start-end.result c.loop-delivery.self c.delivery-item.result b c.pass.new.self) c.if-not-branch.true c.in_ok-pass.ensures in
    takes_off journal db mark set c.args.to c.start-end.result c.args.got.now c.loop-delivery.delivery-index c.delivery-item.result c.args.self.now c.loop-delivery.self c.pass.new.self is c.loop-delivery.invariant off c.loop-delivery-test.true
    c.delivery-item.is low le h

pub loop-delivery-preserved : goal.loop-delivery-preserved
loop-delivery-preserved c =
    let on = subst (λ (b : Bool). Passes c.start-end.result c.loop-delivery.self c.delivery-item.result b c.pass.new.self) c.if-not-branch.false c.in_ok-pass.ensures in
    let more : take c.loop-delivery.delivery-index c.args.got.now ++ c.delivery-item.result ∷ [] ≡ take (c.loop-delivery.delivery-index + 1) c.args.got.now =
    ap (λ (d : Delivery). take c.loop-delivery.delivery-index c.args.got.now ++ d ∷ []) c.delivery-item.is ∙ sym (take_more c.args.got.now c.loop-delivery.delivery-index c.delivery-item.result c.loop-delivery-test.true) in
    subst (λ (ds : List Delivery). HasTaken c.start-end.result c.args.self.now ds c.pass.new.self) more
    (taken_more c.start-end.result c.args.self.now c.loop-delivery.self c.pass.new.self (take c.loop-delivery.delivery-index c.args.got.now) c.delivery-item.result c.loop-delivery.invariant on)

pub returns : goal.returns
returns c = λ journal db mark set low le h.
    let is : c.start-end.result ≡ sent_before (journal_of c.args.self.now) c.args.to = c.start-end.ensures ∙ ap (λ (x : ℕ). sent_before (journal_of c.args.self.now) x) c.get.ensures.value in
    let all = subst (λ (ds : List Delivery). HasTaken c.start-end.result c.args.self.now ds c.loop-delivery.self) (take_all c.loop-delivery.delivery-index c.args.got.now c.loop-delivery-test.false) c.loop-delivery.invariant in
    takes_end journal db mark set c.args.to c.start-end.result c.args.got.now c.args.self.now c.loop-delivery.self c.is_past.result is all c.is_past.ensures low le h
