use Rattle.std.proofs.Common.{◌≡◌, ◌++◌, List, None, unwrap_or, sym, ap, ◌∙◌, subst}
use Rattle.std.proofs.lemmas.List.{append_assoc}
use Rattle.pgn_base.specs.declared.queue_answers.Usage.{Usage}
use Rattle.pgn_journal.specs.declared.tx.Tx.{Tx}
use Rattle.pgn_hub.specs.declared.known.Known.{Known}
use Rattle.pgn_journal.specs.Journal.{next_xid}
use Rattle.pgn_hub.specs.Shape.{Shape}
use Rattle.pgn_hub.specs.Passes.{no_advance}
use Rattle.pgn_hub.specs.Calls.{HasMeasured}
use Rattle.pgn_words.specs.declared.view.View.{View}
use Rattle.pgn_words.specs.Passes.{view_of}
use Rattle.pgn_wordhub.specs.Passes.{hub_shape}
use Rattle.pgn_wordhub.proofs.StayLaws.{measured_stays}
use Rattle.pgn_wordhub.proofs.serving.WordHubHub.usage.Goals as goal

-- measured from what was known before the lock was taken
measured_from : (z : Shape) (k l m : Known) (more : List Tx) (usage : Usage) → l ≡ record k { seen = k.seen ++ more; advance = no_advance } → HasMeasured z l m usage → HasMeasured z k m usage
measured_from z k l m more usage e h =
    let L : Known = record k { seen = k.seen ++ more; advance = no_advance } in
    let g : HasMeasured z L m usage = subst (λ (x : Known). HasMeasured z x m usage) e h in record {
      more = more ++ g.more;
      named = g.named;
      number = g.number ∙ ap next_xid (append_assoc k.seen more g.more);
      known = g.known ∙ ap (λ txs. record k { seen = txs; named = k.named ++ g.named; advance = m.advance }) (append_assoc k.seen more g.more);
      shows = g.shows;
      looked = g.looked;
      floor = g.floor;
      met = g.met;
    }

pub returns-clause-used : goal.returns-clause-used
returns-clause-used g c =
    let z = hub_shape c.args.self.now in
    let v = view_of c.args.pass.now in
    let l = view_of c.lock.new.pass in
    let m = view_of c.measure-usage.new.pass in
    let locked = c.lock.ensures.locked in
    let ended : m.ended ≡ None = ap (λ (y : View). y.ended) c.measure-usage.ensures.view ∙ ap (λ (y : View). y.ended) locked.view ∙ c.requires.own.view.rest.told in
    let same : (view_of c.drop_lock.new.pass).known ≡ m.known = ap (λ (y : View). y.known) c.drop_lock.ensures.view ∙ ap (λ o. record m.known { told = unwrap_or o m.known.told; signalled = unwrap_or o m.known.signalled }) ended in
    subst (λ (x : Known). HasMeasured z v.known x c.measure-usage.result) (sym same)
    (measured_from z v.known l.known m.known locked.more c.measure-usage.result (ap (λ (y : View). y.known) locked.view) c.measure-usage.ensures.measured)

pub returns-clause-own : goal.returns-clause-own
returns-clause-own g c = record {
  own = c.drop_lock.ensures.own;
  view = measured_stays (hub_shape c.args.self.now) (view_of c.args.pass.now) (view_of c.lock.new.pass) (view_of c.measure-usage.new.pass) (view_of c.drop_lock.new.pass) _ c.measure-usage.result
      c.requires.own.view c.lock.ensures.locked c.measure-usage.ensures.view c.drop_lock.ensures.view (returns-clause-used g c);
}
