use Rattle.std.proofs.Common.{◌≡◌, sym, ap, subst}
use Rattle.std.proofs.lemmas.Result.{IfOk-weaker, IfErr-weaker}
use Rattle.pgn_hub.specs.declared.known.Known.{Known}
use Rattle.pgn_hub.specs.Calls.{HasPublished, HasMetFull}
use Rattle.pgn_words.specs.declared.view.View.{View}
use Rattle.pgn_words.specs.Passes.{view_of}
use Rattle.pgn_words.specs.Told.{freed}
use Rattle.pgn_wordhub.specs.Passes.{hub_shape}
use Rattle.pgn_wordhub.proofs.ServingLaws.{published_from, met_full_from, has_sent, gives_up}
use Rattle.pgn_wordhub.proofs.serving.WordHubHub.publish.Goals as goal

pub returns-clause-committed : goal.returns-clause-committed
returns-clause-committed g c =
    let v = view_of c.args.pass.now in
    let l = view_of c.lock.new.pass in
    let w = view_of c.drop_lock.new.pass in
    let locked = c.lock.ensures.locked in
    let same : w.known ≡ (freed (view_of c.publish_locked-published.new.pass)).known = ap (λ (y : View). y.known) c.drop_lock.ensures.view in
    IfOk-weaker c.publish_locked-published.result (λ x. HasPublished l.known (freed (view_of c.publish_locked-published.new.pass)).known c.args.notes.now x) (λ x. HasPublished v.known w.known c.args.notes.now x)
    (λ x h. published_from v.known l.known w.known locked.more c.args.notes.now x (ap (λ (y : View). y.known) locked.view) (subst (λ (k : Known). HasPublished l.known k c.args.notes.now x) (sym same) h))
    c.publish_locked-published.ensures.committed

pub returns-clause-full : goal.returns-clause-full
returns-clause-full g c =
    let z = hub_shape c.args.self.now in
    let v = view_of c.args.pass.now in
    let l = view_of c.lock.new.pass in
    let w = view_of c.drop_lock.new.pass in
    let locked = c.lock.ensures.locked in
    let same : w.known ≡ (freed (view_of c.publish_locked-published.new.pass)).known = ap (λ (y : View). y.known) c.drop_lock.ensures.view in
    IfErr-weaker c.publish_locked-published.result (λ full. HasMetFull z l.known (freed (view_of c.publish_locked-published.new.pass)).known c.args.notes.now full) (λ full. HasMetFull z v.known w.known c.args.notes.now full)
    (λ full h. met_full_from z v.known l.known w.known locked.more c.args.notes.now full (ap (λ (y : View). y.known) locked.view) (subst (λ (k : Known). HasMetFull z l.known k c.args.notes.now full) (sym same) h))
    c.publish_locked-published.ensures.full

pub returns-clause-own : goal.returns-clause-own
returns-clause-own g c =
    let z = hub_shape c.args.self.now in
    let v = view_of c.args.pass.now in
    let w = view_of c.drop_lock.new.pass in
    let sent = has_sent z v.known w.known c.args.notes.now c.publish_locked-published.result c.requires.own.view.within (returns-clause-committed g c) (returns-clause-full g c) in
    record {
      own = c.drop_lock.ensures.own;
      view = gives_up z v (view_of c.lock.new.pass) (view_of c.publish_locked-published.new.pass) w c.requires.own.view c.lock.ensures.locked c.publish_locked-published.ensures.ended c.drop_lock.ensures.view sent;
    }
