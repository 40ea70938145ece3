use Rattle.std.proofs.Common.{◌≡◌, ℕ, ◌-◌, sym, ap, ◌∙◌, subst, arith}
use Rattle.pgn_journal.specs.Journal.{next_xid}
use Rattle.pgn_journal.specs.Packing.{page_of}
use Rattle.pgn_hub.specs.Calls.{HasMeasured}
use Rattle.pgn_words.specs.declared.view.View.{View}
use Rattle.pgn_words.specs.Told.{head_known, stop_known}
use Rattle.pgn_words.specs.Passes.{view_of}
use Rattle.pgn_wordhub.specs.Passes.{hub_shape}
use Rattle.pgn_wordhub.specs.Advancing.{advanced_view, HasAdvancedTo}
use Rattle.pgn_wordhub.proofs.AdvanceLaws.{loads}
use Rattle.pgn_wordhub.proofs.UsageLaws.{measures, floor_within}
use Rattle.pgn_wordhub.proofs.hub.WordHub.measure.Goals as goal

pub overflow_sub-result : goal.overflow_sub-result
overflow_sub-result g c =
    let v = view_of c.args.pass.now in
    let w = view_of c.load_fin-at.new.pass in
    let is = loads v (view_of c.load_head-head.new.pass) (view_of c.load_stop-stop.new.pass) w c.load_stop-stop.result c.load_fin-at.result c.load_head-head.ensures.view c.load_stop-stop.ensures.view c.load_fin-at.ensures.heard in
    let within = floor_within (hub_shape c.args.self.now) w (view_of c.advance-floor.new.pass) v.known.seen c.load_head-head.result c.advance-floor.result.0.mark c.advance-floor.result.0.at c.advance-floor.result.0.holder
    (ap (λ (y : View). y.known.seen) is) c.advance-floor.ensures.advanced c.load_head-head.ensures.head in
    let head = c.page.ensures in
    let floor = c.page-2.ensures in omega (arith, within, head, floor)

pub returns-clause-measured : goal.returns-clause-measured
returns-clause-measured g c =
    let z = hub_shape c.args.self.now in
    let v = view_of c.args.pass.now in
    let u = view_of c.advance-floor.new.pass in
    let stop = c.load_stop-stop.result in
    let at = c.load_fin-at.result in
    let head = c.load_head-head.result in
    let f = c.advance-floor.result.0 in
    let is = loads v (view_of c.load_head-head.new.pass) (view_of c.load_stop-stop.new.pass) (view_of c.load_fin-at.new.pass) stop at c.load_head-head.ensures.view c.load_stop-stop.ensures.view c.load_fin-at.ensures.heard in
    let done = measures z v u stop at head f.mark f.at f.holder (c.advance-floor.ensures.view ∙ ap (advanced_view u) is)
    (subst (λ (y : View). HasAdvancedTo z y u f.mark f.at f.holder) is c.advance-floor.ensures.advanced)
    (c.load_fin-at.ensures.heard.number ∙ ap (λ (y : View). next_xid y.known.seen) is) c.load_head-head.ensures.head in
    let first = c.page.ensures in
    let second = c.page-2.ensures in
    let used : page_of head - page_of f.at ≡ c.page.result - c.page-2.result = omega (arith, first, second) in
    subst (λ (n : ℕ). HasMeasured z v.known u.known (record { at = at; occupied = n; limit = c.args.self.now.pages; floor_mark = f.mark; holder = f.holder })) used
    (subst (λ (n : ℕ). HasMeasured z v.known u.known (record { at = at; occupied = page_of head - page_of f.at; limit = n; floor_mark = f.mark; holder = f.holder })) (sym c.args.self.now.limited) done)

pub returns-clause-view : goal.returns-clause-view
returns-clause-view g c =
    let v = view_of c.args.pass.now in
    let u = view_of c.advance-floor.new.pass in
    let e = c.advance-floor.ensures.view ∙ ap (advanced_view u) (loads v (view_of c.load_head-head.new.pass) (view_of c.load_stop-stop.new.pass) (view_of c.load_fin-at.new.pass) c.load_stop-stop.result c.load_fin-at.result
    c.load_head-head.ensures.view c.load_stop-stop.ensures.view c.load_fin-at.ensures.heard) in
    e ∙ ap (λ (n : ℕ). advanced_view u (stop_known n (head_known v))) (sym (ap (λ (y : View). y.loaded_stop) e))
