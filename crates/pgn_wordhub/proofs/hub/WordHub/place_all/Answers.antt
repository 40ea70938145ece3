use Rattle.std.proofs.Common.{is_some, true≢false, length, subst, sym, ap, ◌∙◌, arith}
use Rattle.std.proofs.lemmas.Option.{IfSome_then}
use Rattle.pgn_journal.specs.Journal.{next_xid}
use Rattle.pgn_journal.specs.Packing.{image}
use Rattle.pgn_words.specs.declared.view.View.{View}
use Rattle.pgn_words.specs.Passes.{view_of}
use Rattle.pgn_words.specs.Views.{AreDecided, may_look}
use Rattle.pgn_wordhub.specs.Passes.{hub_shape}
use Rattle.pgn_wordhub.proofs.PlacingKept.{batch_written, held_up, then_written, placing_on, writes_on, nothing_written}
use Rattle.pgn_wordhub.proofs.hub.WordHub.place_all.Goals as goal

pub find_page-stop-requires-clause-phase : goal.find_page-stop-requires-clause-phase
find_page-stop-requires-clause-phase g c = ap may_look c.batches.invariant.4.phase

pub find_page-stop-requires-clause-decided : goal.find_page-stop-requires-clause-decided
find_page-stop-requires-clause-decided g c = subst (λ (u : View). AreDecided u.verdicts) (sym c.batches.invariant.3.view) c.requires.decided

pub find_page-stop-requires-clause-number : goal.find_page-stop-requires-clause-number
find_page-stop-requires-clause-number g c = c.requires.xid ∙ sym (ap (λ (u : View). next_xid u.known.seen) c.batches.invariant.3.view)

pub find_page-stop-requires-clause-start : goal.find_page-stop-requires-clause-start
find_page-stop-requires-clause-start g c =
    let z = hub_shape c.args.self.now in
    c.requires.start ∙ sym (ap (λ (u : View). length (image z.format u.known.seen)) c.batches.invariant.3.view)

pub find_page-stop-requires-clause-listens : goal.find_page-stop-requires-clause-listens
find_page-stop-requires-clause-listens g c = writes_on (view_of c.args.pass.now) (view_of c.batches.pass) c.batches.invariant.3 c.requires.listens

pub returns-then-is_some-clause-writes : goal.returns-then-is_some-clause-writes
returns-then-is_some-clause-writes g c = then_written (view_of c.args.pass.now) (view_of c.batches.pass) (view_of c.find_page-stop.new.pass) c.batches.invariant.3 c.find_page-stop.ensures.writes

pub returns-then-is_some-clause-placing : goal.returns-then-is_some-clause-placing
returns-then-is_some-clause-placing g c =
    placing_on (view_of c.batches.pass) (view_of c.find_page-stop.new.pass) c.args.tx.now.notes.now c.batches.placing.placed c.batches.placing.at c.find_page-stop.ensures.view c.find_page-stop.ensures.grows c.batches.invariant.4

pub returns-then-is_some-clause-full : goal.returns-then-is_some-clause-full
returns-then-is_some-clause-full g c =
    let z = hub_shape c.args.self.now in
    let left = c.if-placing-tx.false in
    let none = c.find_page-stop.ensures.no_page (sym c.is_some.ensures ∙ c.if-is_some.true) in
    let stop = c.find_page-stop.ensures.stop in
    IfSome_then c.find_page-stop.result.1 c.find_page-stop.ensures.held
    (λ floor advanced. held_up z (view_of c.args.pass.now) (view_of c.batches.pass) (view_of c.find_page-stop.new.pass) (length c.args.tx.now.notes.now) c.batches.placing.placed c.batches.placing.at floor.mark floor.at floor.holder
    c.batches.invariant.3 advanced (omega (arith, left)) (omega (arith, none, stop)))

pub place_batch-requires-clause-placing : goal.place_batch-requires-clause-placing
place_batch-requires-clause-placing g c =
    placing_on (view_of c.batches.pass) (view_of c.find_page-stop.new.pass) c.args.tx.now.notes.now c.batches.placing.placed c.batches.placing.at c.find_page-stop.ensures.view c.find_page-stop.ensures.grows c.batches.invariant.4

pub place_batch-requires-clause-xid : goal.place_batch-requires-clause-xid
place_batch-requires-clause-xid g c =
    c.requires.xid ∙ sym (ap (λ (u : View). next_xid u.known.seen) (then_written (view_of c.args.pass.now) (view_of c.batches.pass) (view_of c.find_page-stop.new.pass) c.batches.invariant.3 c.find_page-stop.ensures.writes).view)

pub place_batch-requires-clause-pages : goal.place_batch-requires-clause-pages
place_batch-requires-clause-pages g c = c.find_page-stop.ensures.page (sym c.is_some.ensures ∙ c.if-is_some.false)

pub batches-preserved : goal.batches-preserved
batches-preserved g c =
    let v = view_of c.args.pass.now in
    let x = view_of c.find_page-stop.new.pass in
    let y = view_of c.place_batch.new.pass in (
      tt,
      tt,
      c.place_batch.ensures.own,
      then_written v x y (then_written v (view_of c.batches.pass) x c.batches.invariant.3 c.find_page-stop.ensures.writes) (batch_written x y c.place_batch.ensures.view),
      c.place_batch.ensures.placing,
      c.place_batch.ensures.within,
      c.place_batch.ensures.stop ∙ c.find_page-stop.ensures.stop ∙ sym (ap (λ (u : View). u.stop) c.place_batch.ensures.view),
    )

pub batches-init : goal.batches-init
batches-init g c = (tt, tt, c.requires.own, nothing_written (view_of c.args.pass.now), c.requires.placing, c.requires.within, c.requires.stop)

pub find_page-stop-requires-clause-own : goal.find_page-stop-requires-clause-own
find_page-stop-requires-clause-own g c = c.batches.invariant.2

pub find_page-stop-requires-clause-low : goal.find_page-stop-requires-clause-low
find_page-stop-requires-clause-low g c = c.requires.low

pub find_page-stop-requires-clause-stop : goal.find_page-stop-requires-clause-stop
find_page-stop-requires-clause-stop g c = c.batches.invariant.6

pub place_batch-requires-clause-own : goal.place_batch-requires-clause-own
place_batch-requires-clause-own g c = c.find_page-stop.ensures.own

pub place_batch-requires-clause-stop : goal.place_batch-requires-clause-stop
place_batch-requires-clause-stop g c = c.find_page-stop.ensures.stop

pub place_batch-requires-clause-left : goal.place_batch-requires-clause-left
place_batch-requires-clause-left g c = let left = c.if-placing-tx.false in omega (arith, left)

pub returns-then-is_some-clause-own : goal.returns-then-is_some-clause-own
returns-then-is_some-clause-own g c = c.find_page-stop.ensures.own

pub returns-then-is_some-clause-within : goal.returns-then-is_some-clause-within
returns-then-is_some-clause-within g c = c.batches.invariant.5

pub returns-then-is_some-clause-stop : goal.returns-then-is_some-clause-stop
returns-then-is_some-clause-stop g c = c.find_page-stop.ensures.stop

pub returns-then-is_some-clause-all : goal.returns-then-is_some-clause-all
returns-then-is_some-clause-all g c none = absurd (true≢false (sym c.if-is_some.true ∙ c.is_some.ensures ∙ ap is_some none))
