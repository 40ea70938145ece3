use Rattle.std.proofs.Common.{◌≡◌, ℕ, ◌≤◌, ◌++◌, length, Some, sym, ap, ◌∙◌, subst, arith}
use Rattle.pgn_base.specs.declared.note.Note.{Note}
use Rattle.pgn_journal.specs.Journal.{next_xid}
use Rattle.pgn_journal.specs.Packing.{Sender, after_bytes}
use Rattle.pgn_journal.specs.Pieces.{AnEntry, gives, committed_by}
use Rattle.pgn_hub.specs.Shape.{notes_of_seats}
use Rattle.pgn_words.specs.declared.view.View.{View}
use Rattle.pgn_words.specs.Passes.{view_of}
use Rattle.pgn_wordhub.specs.Passes.{hub_shape}
use Rattle.pgn_wordhub.specs.Walks.{IsEntryAt, HasEntryAt, HasTurned, IsWalking, shown_cells}
use Rattle.pgn_wordhub.proofs.WayLaws.{turn_stops, turn_long, turn_entry, turn_passes, turn_takes, goes_here}
use Rattle.pgn_wordhub.proofs.reading.Reader.turn.Goals as goal

pub returns-then-head-end-clause-turned : goal.returns-then-head-end-clause-turned
returns-then-head-end-clause-turned c =
    let v = view_of c.args.pass.now in
    let past = c.if-head-end.true in
    let fin = c.get-end.ensures.value in
    turn_stops c.args.self.now.format (shown_cells v) c.args.self.now.fin v.known.db c.args.at c.head_at-head.result.xid c.args.self.now.set.now.channels v.known.seen c.args.out.now.items c.requires.before c.head_at-head.ensures.xid (omega (arith, past, fin))

pub advance-requires-clause-least : goal.advance-requires-clause-least
advance-requires-clause-least c =
    let v = view_of c.args.pass.now in
    let w = c.requires.walks in
    let below = c.if-head-end.false in
    let fin = c.get-end.ensures.value in
    let long = turn_long c.args.self.now.format (shown_cells v) c.args.self.now.fin c.args.at w.end c.head_at-head.result.len w.walks.todo w.walks.later
    (goes_here c.args.self.now.format (shown_cells v) c.args.self.now.fin c.args.at w.end w.walks.todo w.walks.later w.walks.way c.requires.before c.head_at-head.result.xid c.head_at-head.result.len
    c.head_at-head.ensures.xid c.head_at-head.ensures.len (omega (arith, below, fin))) in
    long.least

pub returns-then-head-own-clause-turned : goal.returns-then-head-own-clause-turned
returns-then-head-own-clause-turned c =
    let v = view_of c.args.pass.now in
    let below = c.if-head-end.false in
    let fin = c.get-end.ensures.value in
    let no = c.if-head-own.true in
    let own : c.get-own.result ≡ v.known.db = c.get-own.ensures.value ∙ c.db.ensures ∙ ap (λ (u : View). u.known.db) c.head_at-head.ensures.view in
    subst (λ (n : ℕ). HasTurned c.args.self.now.format (shown_cells v) c.args.self.now.fin v.known.db c.args.self.now.set.now.channels v.known.seen c.args.at c.args.out.now.items c.args.out.now.items (Some n)) (sym c.advance.ensures.value)
    (turn_passes c.args.self.now.format (shown_cells v) c.args.self.now.fin v.known.db c.args.at c.head_at-head.result.db c.head_at-head.result.xid c.head_at-head.result.len c.args.self.now.set.now.channels v.known.seen c.args.out.now.items
    c.requires.before c.head_at-head.ensures.xid c.head_at-head.ensures.db c.head_at-head.ensures.len (omega (arith, below, fin)) (λ same. no (same ∙ sym own)))

pub take-requires-clause-entry : goal.take-requires-clause-entry
take-requires-clause-entry c =
    let v = view_of c.args.pass.now in
    let w = subst (λ (f : ℕ). IsWalking c.args.self.now.format (shown_cells v) f v.known.db c.args.self.now.set.now.channels v.known.seen c.args.at c.args.out.now.items) c.requires.fin c.requires.walks in
    let below = c.if-head-end.false in
    let fin = c.get-end.ensures.value in
    let end = c.requires.fin in
    let same = c.if-head-own.false in
    let own : c.get-own.result ≡ v.known.db = c.get-own.ensures.value ∙ c.db.ensures ∙ ap (λ (u : View). u.known.db) c.head_at-head.ensures.view in
    let positive = c.get-own.ensures.positive in
    let value = c.get-own.ensures.value in
    subst (λ (u : View). HasEntryAt c.args.self.now.format (shown_cells u) c.args.at c.head_at-head.result.len u.known.db u.known.seen) (sym c.head_at-head.ensures.view)
    (turn_entry c.args.self.now.format (shown_cells v) c.args.at c.head_at-head.result.db c.head_at-head.result.len v.known.db w.end w.walks.todo w.walks.later v.known.seen
    (goes_here c.args.self.now.format (shown_cells v) (next_xid v.known.seen) c.args.at w.end w.walks.todo w.walks.later w.walks.way c.requires.before c.head_at-head.result.xid c.head_at-head.result.len
    c.head_at-head.ensures.xid c.head_at-head.ensures.len (omega (arith, below, fin, end)))
    c.head_at-head.ensures.db (omega (arith, same, own)) (omega (arith, positive, value, own)))

pub advance-requires-2-clause-least : goal.advance-requires-2-clause-least
advance-requires-2-clause-least c =
    let v = view_of c.args.pass.now in
    let w = c.requires.walks in
    let below = c.if-head-end.false in
    let fin = c.get-end.ensures.value in
    let long = turn_long c.args.self.now.format (shown_cells v) c.args.self.now.fin c.args.at w.end c.head_at-head.result.len w.walks.todo w.walks.later
    (goes_here c.args.self.now.format (shown_cells v) c.args.self.now.fin c.args.at w.end w.walks.todo w.walks.later w.walks.way c.requires.before c.head_at-head.result.xid c.head_at-head.result.len
    c.head_at-head.ensures.xid c.head_at-head.ensures.len (omega (arith, below, fin))) in
    long.least

pub returns-clause-turned : goal.returns-clause-turned
returns-clause-turned c =
    let v = view_of c.args.pass.now in
    let below = c.if-head-end.false in
    let fin = c.get-end.ensures.value in
    let end = c.requires.fin in
    let same = c.if-head-own.false in
    let own : c.get-own.result ≡ v.known.db = c.get-own.ensures.value ∙ c.db.ensures ∙ ap (λ (u : View). u.known.db) c.head_at-head.ensures.view in
    let positive = c.get-own.ensures.positive in
    let value = c.get-own.ensures.value in
    let walking = subst (λ (f : ℕ). IsWalking c.args.self.now.format (shown_cells v) f v.known.db c.args.self.now.set.now.channels v.known.seen c.args.at c.args.out.now.items) c.requires.fin c.requires.walks in
    let taken = subst (λ (u : View). (note : Note) (sender : Sender) → IsEntryAt c.args.self.now.format (shown_cells u) c.args.at c.head_at-head.result.len u.known.db u.known.seen note sender
    → c.take.new.out.items ≡ c.args.out.now.items ++ gives u.known.db c.args.self.now.set.now.channels (committed_by u.known.seen) (AnEntry note sender)) c.head_at-head.ensures.view c.in_ok-take.ensures.taken in
    subst (λ (n : ℕ). HasTurned c.args.self.now.format (shown_cells v) c.args.self.now.fin v.known.db c.args.self.now.set.now.channels v.known.seen c.args.at c.args.out.now.items c.take.new.out.items (Some n)) (sym c.advance-2.ensures.value)
    (subst (λ (f : ℕ). HasTurned c.args.self.now.format (shown_cells v) f v.known.db c.args.self.now.set.now.channels v.known.seen c.args.at c.args.out.now.items c.take.new.out.items (Some (after_bytes c.args.self.now.format c.args.at c.head_at-head.result.len))) (sym c.requires.fin)
    (turn_takes c.args.self.now.format (shown_cells v) v.known.db c.args.at c.head_at-head.result.db c.head_at-head.result.xid c.head_at-head.result.len c.args.self.now.set.now.channels v.known.seen c.args.out.now.items c.take.new.out.items
    c.requires.before c.head_at-head.ensures.xid c.head_at-head.ensures.db c.head_at-head.ensures.len (omega (arith, below, fin, end)) (omega (arith, same, own)) (omega (arith, positive, value, own)) walking taken))

pub returns-clause-own : goal.returns-clause-own
returns-clause-own c = c.take.ensures.own

pub returns-clause-view : goal.returns-clause-view
returns-clause-view c = c.take.ensures.view ∙ c.head_at-head.ensures.view

pub returns-in_err-take-clause-own : goal.returns-in_err-take-clause-own
returns-in_err-take-clause-own c = c.take.ensures.own

pub returns-in_err-take-clause-view : goal.returns-in_err-take-clause-view
returns-in_err-take-clause-view c = c.take.ensures.view ∙ c.head_at-head.ensures.view

pub returns-then-head-own-clause-own : goal.returns-then-head-own-clause-own
returns-then-head-own-clause-own c = c.head_at-head.ensures.own

pub returns-then-head-own-clause-view : goal.returns-then-head-own-clause-view
returns-then-head-own-clause-view c = c.head_at-head.ensures.view

pub returns-then-head-end-clause-own : goal.returns-then-head-end-clause-own
returns-then-head-end-clause-own c = c.head_at-head.ensures.own

pub returns-then-head-end-clause-view : goal.returns-then-head-end-clause-view
returns-then-head-end-clause-view c = c.head_at-head.ensures.view

pub take-requires-clause-from : goal.take-requires-clause-from
take-requires-clause-from c = subst (λ (u : View). u.post.at ≤ c.args.at) (sym c.head_at-head.ensures.view) c.requires.from

pub take-requires-clause-reach : goal.take-requires-clause-reach
take-requires-clause-reach c =
    let limit = notes_of_seats (hub_shape c.args.self.now.hub.now).seats in subst (λ (u : View). length u.known.seen ≤ limit) (sym c.head_at-head.ensures.view) c.requires.reach

pub take-requires-clause-third : goal.take-requires-clause-third
take-requires-clause-third c = c.head_at-head.ensures.third
