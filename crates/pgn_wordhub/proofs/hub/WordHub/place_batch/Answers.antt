use Rattle.std.proofs.Common.{◌≡◌, ℕ, ◌-◌, List, length, take, drop, sym, refl, ap, ◌∙◌, subst, arith}
use Rattle.std.proofs.lemmas.List.{take_all, length-drop}
use Rattle.pgn_base.specs.declared.note.Note.{Note}
use Rattle.pgn_layout.specs.Batches.{IsPlanned, batch_cells}
use Rattle.pgn_wordhub.specs.Placing.{writer_of, stored_more, placed_view}
use Rattle.pgn_base.specs.declared.format.Format.{Format}
use Rattle.pgn_hub.specs.Shape.{Shape}
use Rattle.pgn_words.specs.declared.view.View.{View}
use Rattle.pgn_words.specs.Told.{head_stored}
use Rattle.pgn_words.specs.Passes.{view_of}
use Rattle.pgn_wordhub.proofs.PlacingKept.{may_show, places_on}
use Rattle.pgn_wordhub.proofs.hub.WordHub.place_batch.Goals as goal

-- what is left of a list is its rest
rest_is : (n : ℕ) (notes : List Note) → take (length notes - n) (drop n notes) ≡ drop n notes
rest_is n notes = take_all (length notes - n) (drop n notes) (omega (arith, length-drop n notes))

pub store_head-requires-clause-shows : goal.store_head-requires-clause-shows
store_head-requires-clause-shows c =
    let v = view_of c.args.pass.now in
    let same : c.args.self.now.format ≡ v.setup.format = sym (ap (λ (z : Shape). z.format) c.requires.own.setup ∙ c.args.self.now.formatted) in
    let pages : v.setup.pages ≡ c.args.self.now.queue.table.shared.key.pages = ap (λ (z : Shape). z.pages) c.requires.own.setup in
    let stop = c.requires.stop in
    let page = c.requires.pages in
    let rest = rest_is c.args.placing.now.placed c.args.tx.now.notes.now in
    let batch = c.write_batch-batch.result in
    let planned = subst (λ (f : Format). IsPlanned f c.args.placing.now.at (drop c.args.placing.now.placed c.args.tx.now.notes.now) batch) same
    (subst (λ (ns : List Note). IsPlanned c.args.self.now.format c.args.placing.now.at ns batch) rest c.write_batch-batch.ensures.planned) in
    let written = subst (λ (f : Format). view_of c.write_batch-batch.new.pass ≡ stored_more (batch_cells f (writer_of v.known) (drop c.args.placing.now.placed c.args.tx.now.notes.now) batch) v) same
    (subst (λ (ns : List Note). view_of c.write_batch-batch.new.pass ≡ stored_more (batch_cells c.args.self.now.format (writer_of v.known) ns batch) v) rest c.write_batch-batch.ensures.view) in
    may_show v (view_of c.write_batch-batch.new.pass) c.args.tx.now.notes.now c.args.placing.now.placed c.args.placing.now.at batch c.requires.placing planned (omega (arith, page, stop, pages)) written

pub returns-clause-placing : goal.returns-clause-placing
returns-clause-placing c =
    let v = view_of c.args.pass.now in
    let same : c.args.self.now.format ≡ v.setup.format = sym (ap (λ (z : Shape). z.format) c.requires.own.setup ∙ c.args.self.now.formatted) in
    let pages : v.setup.pages ≡ c.args.self.now.queue.table.shared.key.pages = ap (λ (z : Shape). z.pages) c.requires.own.setup in
    let stop = c.requires.stop in
    let page = c.requires.pages in
    let rest = rest_is c.args.placing.now.placed c.args.tx.now.notes.now in
    let batch = c.write_batch-batch.result in
    let planned = subst (λ (f : Format). IsPlanned f c.args.placing.now.at (drop c.args.placing.now.placed c.args.tx.now.notes.now) batch) same
    (subst (λ (ns : List Note). IsPlanned c.args.self.now.format c.args.placing.now.at ns batch) rest c.write_batch-batch.ensures.planned) in
    let written = subst (λ (f : Format). view_of c.write_batch-batch.new.pass ≡ stored_more (batch_cells f (writer_of v.known) (drop c.args.placing.now.placed c.args.tx.now.notes.now) batch) v) same
    (subst (λ (ns : List Note). view_of c.write_batch-batch.new.pass ≡ stored_more (batch_cells c.args.self.now.format (writer_of v.known) ns batch) v) rest c.write_batch-batch.ensures.view) in
    places_on v (view_of c.write_batch-batch.new.pass) (view_of c.store_head.new.pass) c.args.tx.now.notes.now c.args.placing.now.placed c.args.placing.now.at batch c.requires.placing planned (omega (arith, page, stop, pages)) written
    c.store_head.ensures.view c.store_head.ensures.low

pub write_batch-batch-requires-clause-begins : goal.write_batch-batch-requires-clause-begins
write_batch-batch-requires-clause-begins c = c.requires.placing.end

pub returns-clause-view : goal.returns-clause-view
returns-clause-view c =
    let is = c.store_head.ensures.view ∙ ap (head_stored c.write_batch-batch.result.next) c.write_batch-batch.ensures.view in
    subst (λ (q : View). q ≡ placed_view q (view_of c.args.pass.now)) (sym is) refl
