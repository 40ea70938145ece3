use Rattle.std.proofs.Common.{ℕ, ap, ◌∙◌, arith, ◌≡◌}
use Rattle.pgn_journal.specs.Packing.{place}
use Rattle.pgn_words.specs.Passes.{view_of}
use Rattle.pgn_words.proofs.WalkKept.{store_forward_allowed}
use Rattle.pgn_words.specs.Positions.{place_in}
use Rattle.pgn_words.specs.Listening.{forwarded}
use Rattle.pgn_words.proofs.pass.WordQueue.store_forward.Goals as goal

pub store-requires : goal.store-requires
store-requires c = (c.requires.own.table, (let counted = c.args.self.now.counted in let word = c.own_position-word.ensures in let within = c.requires.own.within in let session = c.args.pass.now.session_is in omega (arith, counted, word, within, session)), store_forward_allowed c.args.self.now.table.shared.key _ _ _ _ c.args.pos _ (let word = c.own_position-word.ensures in let session = c.args.pass.now.session_is in omega (arith, word, session)) c.requires.own.number c.requires.shown (c.requires.place ∙ ap (λ (n : ℕ). place c.args.self.now.table.shared.key.format (view_of c.args.pass.now).known.seen n) c.requires.mark) c.requires.low (let value = c.word_of-position.ensures in let mark = c.requires.mark in omega (arith, value, mark)))

pub returns-clause-view : goal.returns-clause-view
returns-clause-view c =
    let value = c.word_of-position.ensures in
    let low = c.requires.low in
    let at : place_in c.word_of-position.result ≡ c.args.pos = omega (arith, value, low) in
    c.store.ensures.2.view ∙ ap (λ (n : ℕ). forwarded n (view_of c.args.pass.now)) at
