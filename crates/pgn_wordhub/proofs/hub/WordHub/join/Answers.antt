use Rattle.std.proofs.Common.{◌≡◌, ℕ, ◌^◌, ◌<◌, sym, refl, ap, ◌∙◌, subst}
use Rattle.pgn_base.specs.declared.format.Format.{Format}
use Rattle.pgn_journal.specs.Packing.{place}
use Rattle.pgn_hub.specs.Shape.{Shape}
use Rattle.pgn_words.specs.declared.view.View.{View}
use Rattle.pgn_words.specs.Passes.{view_of, known_of, shape_of}
use Rattle.pgn_words.specs.Listening.{HasBase, registered, HasBegun, HasShown, forwarded}
use Rattle.pgn_wordhub.proofs.ReadLaws.{reads_low, enlists, joins_from}
use Rattle.pgn_wordhub.proofs.hub.WordHub.join.Goals as goal

-- its place is that of its base
based_at : (v a b r w u : View) (m p n h : ℕ) → HasBase a m p b → r ≡ registered b → HasBegun r n w → HasShown w h u → p ≡ u.post.at
based_at v a b r w u m p n h base e3 begun shown =
    sym (ap (λ (y : View). y.post.at) shown.view ∙ ap (λ (y : View). y.post.at) begun.view ∙ ap (λ (y : View). y.post.at) e3 ∙ ap (λ (y : View). y.post.at) base.view)

pub come_to-at-requires-clause-way : goal.come_to-at-requires-clause-way
come_to-at-requires-clause-way c =
    let v = view_of c.store_valid.new.pass in
    let u = view_of c.show_head-head.new.pass in
    let same : v.setup.format ≡ c.args.self.now.format = ap (λ (z : Shape). z.format) c.store_valid.ensures.own.setup ∙ c.args.self.now.formatted in
    record {
      end = place c.args.self.now.format u.known.seen c.begin_walk-point.result;
      leads = joins_from c.args.self.now.format v (view_of c.begin_walk-point.new.pass) u c.begin_walk-point.result c.show_head-head.result c.load_base-base.result.1 same (based_at v (view_of c.mark_joining.new.pass) (view_of c.load_base-base.new.pass) v (view_of c.begin_walk-point.new.pass) u c.load_base-base.result.0 c.load_base-base.result.1 c.begin_walk-point.result c.show_head-head.result c.load_base-base.ensures.base c.store_valid.ensures.view c.begin_walk-point.ensures.begun c.show_head-head.ensures.shown) c.begin_walk-point.ensures.begun c.show_head-head.ensures.shown;
    }

pub store_forward-requires-clause-place : goal.store_forward-requires-clause-place
store_forward-requires-clause-place c =
    let v = view_of c.store_valid.new.pass in
    let u = view_of c.show_head-head.new.pass in
    let same : v.setup.format ≡ c.args.self.now.format = ap (λ (z : Shape). z.format) c.store_valid.ensures.own.setup ∙ c.args.self.now.formatted in
    let come : c.come_to-at.result ≡ place c.args.self.now.format u.known.seen c.begin_walk-point.result = c.come_to-at.ensures.come (place c.args.self.now.format u.known.seen c.begin_walk-point.result) (joins_from c.args.self.now.format v (view_of c.begin_walk-point.new.pass) u c.begin_walk-point.result c.show_head-head.result c.load_base-base.result.1 same
    (based_at v (view_of c.mark_joining.new.pass) (view_of c.load_base-base.new.pass) v (view_of c.begin_walk-point.new.pass) u c.load_base-base.result.0 c.load_base-base.result.1 c.begin_walk-point.result c.show_head-head.result c.load_base-base.ensures.base c.store_valid.ensures.view c.begin_walk-point.ensures.begun c.show_head-head.ensures.shown)
    c.begin_walk-point.ensures.begun c.show_head-head.ensures.shown) in
    come ∙ ap (λ (y : View). place c.args.self.now.format y.known.seen c.begin_walk-point.result) (sym c.come_to-at.ensures.view)
    ∙ ap (λ (f : Format). place f (known_of c.come_to-at.new.pass).seen c.begin_walk-point.result) (sym c.args.self.now.formatted)

pub store_forward-requires-clause-low : goal.store_forward-requires-clause-low
store_forward-requires-clause-low c =
    let v = view_of c.store_valid.new.pass in
    let u = view_of c.show_head-head.new.pass in
    let same : v.setup.format ≡ c.args.self.now.format = ap (λ (z : Shape). z.format) c.store_valid.ensures.own.setup ∙ c.args.self.now.formatted in
    let come : c.come_to-at.result ≡ place c.args.self.now.format u.known.seen c.begin_walk-point.result = c.come_to-at.ensures.come (place c.args.self.now.format u.known.seen c.begin_walk-point.result) (joins_from c.args.self.now.format v (view_of c.begin_walk-point.new.pass) u c.begin_walk-point.result c.show_head-head.result c.load_base-base.result.1 same
    (based_at v (view_of c.mark_joining.new.pass) (view_of c.load_base-base.new.pass) v (view_of c.begin_walk-point.new.pass) u c.load_base-base.result.0 c.load_base-base.result.1 c.begin_walk-point.result c.show_head-head.result c.load_base-base.ensures.base c.store_valid.ensures.view c.begin_walk-point.ensures.begun c.show_head-head.ensures.shown)
    c.begin_walk-point.ensures.begun c.show_head-head.ensures.shown) in
    subst (λ (n : ℕ). n < 2 ^ 32) (sym come) (reads_low c.args.self.now.format v (view_of c.begin_walk-point.new.pass) u c.begin_walk-point.result c.show_head-head.result same c.begin_walk-point.ensures.begun c.show_head-head.ensures.shown)

pub returns-clause-own : goal.returns-clause-own
returns-clause-own c =
    let u = view_of c.show_head-head.new.pass in
    let done = enlists (shape_of c.args.self.now.queue) (view_of c.args.pass.now) (view_of c.mark_joining.new.pass) (view_of c.load_base-base.new.pass) (view_of c.store_valid.new.pass) (view_of c.begin_walk-point.new.pass) u
    (view_of c.store_forward.new.pass) c.load_base-base.result.0 c.load_base-base.result.1 c.begin_walk-point.result c.show_head-head.result c.come_to-at.result (record { base = c.load_base-base.result.0; point = c.begin_walk-point.result })
    c.requires.own.view c.mark_joining.ensures.view c.load_base-base.ensures.base c.store_valid.ensures.view c.begin_walk-point.ensures.begun c.show_head-head.ensures.shown
    (c.store_forward.ensures.view ∙ ap (forwarded c.come_to-at.result) c.come_to-at.ensures.view) refl in
    record { own = c.store_forward.ensures.own; view = done.0 }

pub returns-clause-enlisted : goal.returns-clause-enlisted
returns-clause-enlisted c =
    let u = view_of c.show_head-head.new.pass in
    let done = enlists (shape_of c.args.self.now.queue) (view_of c.args.pass.now) (view_of c.mark_joining.new.pass) (view_of c.load_base-base.new.pass) (view_of c.store_valid.new.pass) (view_of c.begin_walk-point.new.pass) u
    (view_of c.store_forward.new.pass) c.load_base-base.result.0 c.load_base-base.result.1 c.begin_walk-point.result c.show_head-head.result c.come_to-at.result (record { base = c.load_base-base.result.0; point = c.begin_walk-point.result })
    c.requires.own.view c.mark_joining.ensures.view c.load_base-base.ensures.base c.store_valid.ensures.view c.begin_walk-point.ensures.begun c.show_head-head.ensures.shown
    (c.store_forward.ensures.view ∙ ap (forwarded c.come_to-at.result) c.come_to-at.ensures.view) refl in
    done.1
