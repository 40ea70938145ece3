use Rattle.std.proofs.Common.{◌≡◌, ℕ, ◌^◌, ◌<◌, ◌≤◌, ◌++◌, length, sym, ap, ◌∙◌, subst}
use Rattle.pgn_base.specs.declared.format.Format.{Format}
use Rattle.pgn_journal.specs.Due.{due}
use Rattle.pgn_journal.specs.Journal.{next_xid}
use Rattle.pgn_journal.specs.Packing.{place}
use Rattle.pgn_hub.specs.Shape.{Shape, notes_of_seats}
use Rattle.pgn_words.specs.declared.view.View.{View}
use Rattle.pgn_words.specs.Listening.{forwarded}
use Rattle.pgn_words.specs.Passes.{view_of, known_of, shape_of}
use Rattle.pgn_wordhub.specs.Walks.{Walks, IsWalking, shown_cells}
use Rattle.pgn_wordhub.proofs.ReadLaws.{reads_from, reads_low, has_read}
use Rattle.pgn_wordhub.proofs.StayLaws.{read_stays, refused_stays}
use Rattle.pgn_wordhub.proofs.ListenLaws.{listens, mark_of_listener}
use Rattle.pgn_wordhub.proofs.hub.WordHub.read.Goals as goal

pub walk-requires-clause-walks : goal.walk-requires-clause-walks
walk-requires-clause-walks c =
    let v = view_of c.args.pass.now in
    let u = view_of c.show_head-head.new.pass in
    let same : v.setup.format ≡ c.args.self.now.format = ap (λ (z : Shape). z.format) c.requires.own.own.setup ∙ c.args.self.now.formatted in
    let walks = reads_from c.args.self.now.format v (view_of c.begin_walk-fin.new.pass) u c.begin_walk-fin.result c.show_head-head.result c.args.set.now.channels c.args.out.now.items same c.begin_walk-fin.ensures.begun c.show_head-head.ensures.shown in
    subst (λ (n : ℕ). IsWalking c.args.self.now.format (shown_cells u) c.begin_walk-fin.result u.known.db c.args.set.now.channels u.known.seen n c.args.out.now.items) (sym c.place.ensures)
    (record { end = place c.args.self.now.format u.known.seen c.begin_walk-fin.result; owed = c.args.out.now.items ++ due u.known.seen u.post.mark c.begin_walk-fin.result u.known.db c.args.set.now.channels; walks = walks })

pub store_forward-requires-clause-place : goal.store_forward-requires-clause-place
store_forward-requires-clause-place c =
    let v = view_of c.args.pass.now in
    let u = view_of c.show_head-head.new.pass in
    let same : v.setup.format ≡ c.args.self.now.format = ap (λ (z : Shape). z.format) c.requires.own.own.setup ∙ c.args.self.now.formatted in
    let owed = c.args.out.now.items ++ due u.known.seen u.post.mark c.begin_walk-fin.result u.known.db c.args.set.now.channels in
    let end = place c.args.self.now.format u.known.seen c.begin_walk-fin.result in
    let walks = subst (λ (n : ℕ). Walks c.args.self.now.format (shown_cells u) c.begin_walk-fin.result u.known.db c.args.set.now.channels u.known.seen n end c.args.out.now.items owed) (sym c.place.ensures)
    (reads_from c.args.self.now.format v (view_of c.begin_walk-fin.new.pass) u c.begin_walk-fin.result c.show_head-head.result c.args.set.now.channels c.args.out.now.items same c.begin_walk-fin.ensures.begun c.show_head-head.ensures.shown) in
    (c.in-Ok.ensures.walked end owed walks).0 ∙ ap (λ (y : View). place c.args.self.now.format y.known.seen c.begin_walk-fin.result) (sym c.walk.ensures.view)
    ∙ ap (λ (f : Format). place f (known_of c.walk.new.pass).seen c.begin_walk-fin.result) (sym c.args.self.now.formatted)

pub store_forward-requires-clause-low : goal.store_forward-requires-clause-low
store_forward-requires-clause-low c =
    let v = view_of c.args.pass.now in
    let u = view_of c.show_head-head.new.pass in
    let same : v.setup.format ≡ c.args.self.now.format = ap (λ (z : Shape). z.format) c.requires.own.own.setup ∙ c.args.self.now.formatted in
    let owed = c.args.out.now.items ++ due u.known.seen u.post.mark c.begin_walk-fin.result u.known.db c.args.set.now.channels in
    let end = place c.args.self.now.format u.known.seen c.begin_walk-fin.result in
    let walks = subst (λ (n : ℕ). Walks c.args.self.now.format (shown_cells u) c.begin_walk-fin.result u.known.db c.args.set.now.channels u.known.seen n end c.args.out.now.items owed) (sym c.place.ensures)
    (reads_from c.args.self.now.format v (view_of c.begin_walk-fin.new.pass) u c.begin_walk-fin.result c.show_head-head.result c.args.set.now.channels c.args.out.now.items same c.begin_walk-fin.ensures.begun c.show_head-head.ensures.shown) in
    subst (λ (n : ℕ). n < 2 ^ 32) (sym (c.in-Ok.ensures.walked end owed walks).0)
    (reads_low c.args.self.now.format v (view_of c.begin_walk-fin.new.pass) u c.begin_walk-fin.result c.show_head-head.result same c.begin_walk-fin.ensures.begun c.show_head-head.ensures.shown)

pub returns-in-Ok-clause-read : goal.returns-in-Ok-clause-read
returns-in-Ok-clause-read c =
    let v = view_of c.args.pass.now in
    let u = view_of c.show_head-head.new.pass in
    let same : v.setup.format ≡ c.args.self.now.format = ap (λ (z : Shape). z.format) c.requires.own.own.setup ∙ c.args.self.now.formatted in
    let owed = c.args.out.now.items ++ due u.known.seen u.post.mark c.begin_walk-fin.result u.known.db c.args.set.now.channels in
    let end = place c.args.self.now.format u.known.seen c.begin_walk-fin.result in
    let walks = subst (λ (n : ℕ). Walks c.args.self.now.format (shown_cells u) c.begin_walk-fin.result u.known.db c.args.set.now.channels u.known.seen n end c.args.out.now.items owed) (sym c.place.ensures)
    (reads_from c.args.self.now.format v (view_of c.begin_walk-fin.new.pass) u c.begin_walk-fin.result c.show_head-head.result c.args.set.now.channels c.args.out.now.items same c.begin_walk-fin.ensures.begun c.show_head-head.ensures.shown) in
    has_read (shape_of c.args.self.now.queue) v (view_of c.begin_walk-fin.new.pass) u (view_of c.store_forward.new.pass) c.begin_walk-fin.result c.show_head-head.result c.in-Ok.at
    c.args.set.now.channels c.args.out.now.items c.walk.new.out.items c.requires.own.view (mark_of_listener v c.requires.own.view.rest (listens v c.requires.own.view.rest c.requires.listens))
    c.begin_walk-fin.ensures.begun c.show_head-head.ensures.shown (c.store_forward.ensures.view ∙ ap (Rattle.pgn_words.specs.Listening.forwarded c.in-Ok.at) c.walk.ensures.view)
    (c.in-Ok.ensures.walked end owed walks).1

pub returns-in-Ok-clause-own : goal.returns-in-Ok-clause-own
returns-in-Ok-clause-own c =
    let v = view_of c.args.pass.now in
    let u = view_of c.show_head-head.new.pass in record {
      own = c.store_forward.ensures.own;
      view = read_stays (shape_of c.args.self.now.queue) v (view_of c.begin_walk-fin.new.pass) u (view_of c.store_forward.new.pass) c.begin_walk-fin.result c.show_head-head.result c.in-Ok.at c.args.set.now.channels c.args.out.now.items c.walk.new.out.items
          c.requires.own.view (listens v c.requires.own.view.rest c.requires.listens) c.begin_walk-fin.ensures.begun c.show_head-head.ensures.shown (c.store_forward.ensures.view ∙ ap (forwarded c.in-Ok.at) c.walk.ensures.view) (returns-in-Ok-clause-read c);
    }

pub returns-in-Err-clause-own : goal.returns-in-Err-clause-own
returns-in-Err-clause-own c =
    let done = refused_stays (shape_of c.args.self.now.queue) (view_of c.args.pass.now) (view_of c.begin_walk-fin.new.pass) (view_of c.show_head-head.new.pass) (view_of c.walk.new.pass) c.begin_walk-fin.result c.show_head-head.result
    c.requires.own.view c.begin_walk-fin.ensures.begun c.show_head-head.ensures.shown c.walk.ensures.view in
    record { own = c.walk.ensures.own; view = done.0 }

pub returns-in-Err-clause-refused : goal.returns-in-Err-clause-refused
returns-in-Err-clause-refused c =
    let done = refused_stays (shape_of c.args.self.now.queue) (view_of c.args.pass.now) (view_of c.begin_walk-fin.new.pass) (view_of c.show_head-head.new.pass) (view_of c.walk.new.pass) c.begin_walk-fin.result c.show_head-head.result
    c.requires.own.view c.begin_walk-fin.ensures.begun c.show_head-head.ensures.shown c.walk.ensures.view in
    done.1

pub walk-requires-clause-reach : goal.walk-requires-clause-reach
walk-requires-clause-reach c =
    let limit = notes_of_seats (shape_of c.args.self.now.queue).seats in
    let seen = (known_of c.begin_walk-fin.new.pass).seen in
    subst (λ (u : View). length u.known.seen ≤ limit) (sym c.show_head-head.ensures.shown.view)
    (subst (λ (z : Shape). length seen ≤ notes_of_seats z.seats) c.begin_walk-fin.ensures.own.setup c.begin_walk-fin.ensures.begun.few)

pub store_forward-requires-clause-mark : goal.store_forward-requires-clause-mark
store_forward-requires-clause-mark c =
    sym (ap (λ (u : View). u.walk.upto) c.walk.ensures.view ∙ ap (λ (u : View). u.walk.upto) c.show_head-head.ensures.shown.view ∙ ap (λ (u : View). u.walk.upto) c.begin_walk-fin.ensures.begun.view)

pub walk-requires-clause-fin : goal.walk-requires-clause-fin
walk-requires-clause-fin c = c.begin_walk-fin.ensures.begun.number ∙ sym (ap (λ (u : View). next_xid u.known.seen) c.show_head-head.ensures.shown.view)

pub walk-requires-clause-head : goal.walk-requires-clause-head
walk-requires-clause-head c = c.show_head-head.ensures.shown.head ∙ sym (ap (λ (u : View). length (shown_cells u)) c.show_head-head.ensures.shown.view)
