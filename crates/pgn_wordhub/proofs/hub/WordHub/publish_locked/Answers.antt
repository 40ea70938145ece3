use Rattle.std.proofs.Common.{◌<◌, List, length, sym, ap, ◌∙◌, subst}
use Rattle.pgn_base.specs.declared.note.Note.{Note}
use Rattle.pgn_base.specs.Interest.{interest}
use Rattle.pgn_base.specs.declared.queue_answers.Full.{Full}
use Rattle.pgn_journal.specs.declared.tx.Fate.TheVariants as fates
use Rattle.pgn_journal.specs.declared.tx.Tx.{Tx}
use Rattle.pgn_journal.specs.Interest.{channels_of}
use Rattle.pgn_journal.specs.Journal.{next_xid}
use Rattle.pgn_journal.specs.Packing.{image}
use Rattle.pgn_hub.specs.Shape.{notes_of_seats}
use Rattle.pgn_hub.specs.Calls.{HasMetFull}
use Rattle.pgn_words.specs.declared.view.View.{View}
use Rattle.pgn_words.specs.Passes.{view_of}
use Rattle.pgn_words.specs.Positions.{listens_at}
use Rattle.pgn_words.specs.Views.{AreDecided}
use Rattle.pgn_words.specs.Told.{freed}
use Rattle.pgn_wordhub.specs.Passes.{hub_shape}
use Rattle.pgn_wordhub.specs.Finishing.{own_tx}
use Rattle.pgn_wordhub.proofs.PublishLaws.{may_commit, may_abort, shown_end, publishes, meets_full, one_more, ends_full, ends_whole}
use Rattle.pgn_wordhub.proofs.PlacingKept.{writes_on}
use Rattle.pgn_wordhub.proofs.hub.WordHub.publish_locked.Goals as goal

pub commit-requires-clause-ends : goal.commit-requires-clause-ends
commit-requires-clause-ends g c =
    let e = view_of c.place_all.new.pass in
    may_commit e c.args.notes.now c.place_all.new.placing.placed c.place_all.new.placing.at c.place_all.ensures.placing (c.place_all.ensures.all c.in-None.is) c.requires.some c.requires.different

pub finish-requires-clause-ends : goal.finish-requires-clause-ends
finish-requires-clause-ends g c =
    may_abort (hub_shape c.args.self.now) (view_of c.begin.new.pass) (view_of c.place_all.new.pass) c.args.notes.now c.place_all.new.placing.placed c.place_all.new.placing.at c.in-Some.floor.mark c.in-Some.floor.at c.in-Some.floor.holder
    c.place_all.ensures.placing c.in-Some.ensures.full c.place_all.ensures.own.setup c.requires.some c.requires.different

pub finish-requires-clause-head : goal.finish-requires-clause-head
finish-requires-clause-head g c =
    let e = view_of c.place_all.new.pass in
    shown_end (hub_shape c.args.self.now) e (own_tx e c.place_all.new.placing.placed fates.Aborted) c.place_all.new.placing.at c.place_all.ensures.own.setup c.place_all.ensures.placing.end (finish-requires-clause-ends g c)

pub returns-in-None-clause-committed : goal.returns-in-None-clause-committed
returns-in-None-clause-committed g c =
    publishes (view_of c.args.pass.now) (view_of c.begin.new.pass) (view_of c.place_all.new.pass) (view_of c.commit.new.pass) c.args.notes.now c.begin.result.1.stop c.place_all.new.placing.placed c.begin.result.0
    c.begin.ensures.view c.place_all.ensures.writes (c.place_all.ensures.all c.in-None.is) c.commit.ensures.committed c.begin.ensures.number

pub returns-in-Some-clause-full : goal.returns-in-Some-clause-full
returns-in-Some-clause-full g c =
    let z = hub_shape c.args.self.now in
    let v = view_of c.args.pass.now in
    let w = view_of c.finish.new.pass in
    subst (λ (full : Full). HasMetFull z v.known (freed w).known c.args.notes.now full) (sym c.full_of.ensures)
    (meets_full z v (view_of c.begin.new.pass) (view_of c.place_all.new.pass) w c.args.notes.now c.begin.result.1.stop c.place_all.new.placing.placed c.place_all.new.placing.at c.in-Some.floor.mark c.in-Some.floor.at c.begin.result.0
    c.in-Some.floor.holder w.verdicts w.concerned c.requires.own.setup c.begin.ensures.view c.place_all.ensures.writes c.place_all.ensures.placing c.in-Some.ensures.full c.finish.ensures.view c.begin.ensures.number)

pub place_all-requires-clause-xid : goal.place_all-requires-clause-xid
place_all-requires-clause-xid g c = c.begin.ensures.number ∙ sym (ap (λ (u : View). next_xid u.known.seen) c.begin.ensures.view)

pub place_all-requires-clause-start : goal.place_all-requires-clause-start
place_all-requires-clause-start g c = c.begin.ensures.start ∙ sym (ap (λ (u : View). length (image (hub_shape c.args.self.now).format u.known.seen)) c.begin.ensures.view)

pub place_all-requires-clause-stop : goal.place_all-requires-clause-stop
place_all-requires-clause-stop g c = sym (ap (λ (u : View). u.stop) c.begin.ensures.view)

pub place_all-requires-clause-decided : goal.place_all-requires-clause-decided
place_all-requires-clause-decided g c = subst (λ (u : View). AreDecided u.verdicts) (sym c.begin.ensures.view) c.requires.decided

pub place_all-requires-clause-listens : goal.place_all-requires-clause-listens
place_all-requires-clause-listens g c = ap (λ (u : View). u.known.mark) c.begin.ensures.view ∙ c.requires.listens ∙ sym (ap (λ (u : View). listens_at u.post) c.begin.ensures.view)

pub commit-requires-clause-own : goal.commit-requires-clause-own
commit-requires-clause-own g c = c.place_all.ensures.own

pub commit-requires-clause-xid : goal.commit-requires-clause-xid
commit-requires-clause-xid g c =
    c.begin.ensures.number ∙ sym (ap (λ (u : View). next_xid u.known.seen) c.place_all.ensures.writes.view ∙ ap (λ (u : View). next_xid u.known.seen) c.begin.ensures.view)

pub commit-requires-clause-reach : goal.commit-requires-clause-reach
commit-requires-clause-reach g c =
    let k = (view_of c.args.pass.now).known in
    let limit = notes_of_seats (hub_shape c.args.self.now).seats in
    let seen = ap (λ (u : View). u.known.seen) c.place_all.ensures.writes.view ∙ ap (λ (u : View). u.known.seen) c.begin.ensures.view in
    subst (λ (txs : List Tx). length txs < limit) (sym seen) (one_more c.args.notes.now (length k.seen) k.notes_left limit c.requires.some c.requires.few c.requires.room)

pub commit-requires-clause-end : goal.commit-requires-clause-end
commit-requires-clause-end g c = c.place_all.ensures.placing.end

pub commit-requires-clause-low : goal.commit-requires-clause-low
commit-requires-clause-low g c = c.place_all.ensures.placing.low

pub commit-requires-clause-stop : goal.commit-requires-clause-stop
commit-requires-clause-stop g c = c.place_all.ensures.stop

pub commit-requires-clause-listens : goal.commit-requires-clause-listens
commit-requires-clause-listens g c = writes_on (view_of c.begin.new.pass) (view_of c.place_all.new.pass) c.place_all.ensures.writes
    (ap (λ (u : View). u.known.mark) c.begin.ensures.view ∙ c.requires.listens ∙ sym (ap (λ (u : View). listens_at u.post) c.begin.ensures.view))

pub commit-requires-clause-sent : goal.commit-requires-clause-sent
commit-requires-clause-sent g c = c.requires.sent ∙ sym (ap (λ (notes : List Note). interest (channels_of notes)) c.place_all.ensures.placing.notes_are)

pub finish-requires-clause-own : goal.finish-requires-clause-own
finish-requires-clause-own g c = c.place_all.ensures.own

pub finish-requires-clause-phase : goal.finish-requires-clause-phase
finish-requires-clause-phase g c = c.place_all.ensures.placing.phase

pub finish-requires-clause-xid : goal.finish-requires-clause-xid
finish-requires-clause-xid g c =
    c.begin.ensures.number ∙ sym (ap (λ (u : View). next_xid u.known.seen) c.place_all.ensures.writes.view ∙ ap (λ (u : View). next_xid u.known.seen) c.begin.ensures.view)

pub finish-requires-clause-reach : goal.finish-requires-clause-reach
finish-requires-clause-reach g c =
    let k = (view_of c.args.pass.now).known in
    let limit = notes_of_seats (hub_shape c.args.self.now).seats in
    let seen = ap (λ (u : View). u.known.seen) c.place_all.ensures.writes.view ∙ ap (λ (u : View). u.known.seen) c.begin.ensures.view in
    subst (λ (txs : List Tx). length txs < limit) (sym seen) (one_more c.args.notes.now (length k.seen) k.notes_left limit c.requires.some c.requires.few c.requires.room)

pub finish-requires-clause-sent : goal.finish-requires-clause-sent
finish-requires-clause-sent g c = c.requires.sent ∙ sym (ap (λ (notes : List Note). interest (channels_of notes)) c.place_all.ensures.placing.notes_are)

pub returns-in-None-clause-own : goal.returns-in-None-clause-own
returns-in-None-clause-own g c = c.commit.ensures.own

pub returns-in-None-clause-ended : goal.returns-in-None-clause-ended
returns-in-None-clause-ended g c =
    let e = view_of c.place_all.new.pass in
    ends_whole (view_of c.args.pass.now) (view_of c.begin.new.pass) e (view_of c.commit.new.pass) c.args.notes.now c.begin.result.1.stop (own_tx e c.place_all.new.placing.placed fates.Committed)
    c.begin.ensures.view c.place_all.ensures.writes c.commit.ensures.committed

pub returns-in-Some-clause-own : goal.returns-in-Some-clause-own
returns-in-Some-clause-own g c = c.finish.ensures.own

pub returns-in-Some-clause-ended : goal.returns-in-Some-clause-ended
returns-in-Some-clause-ended g c =
    let e = view_of c.place_all.new.pass in
    ends_full (view_of c.args.pass.now) (view_of c.begin.new.pass) e (view_of c.finish.new.pass) c.args.notes.now c.begin.result.1.stop (own_tx e c.place_all.new.placing.placed fates.Aborted)
    c.begin.ensures.view c.place_all.ensures.writes c.finish.ensures.view c.finish.ensures.decided
