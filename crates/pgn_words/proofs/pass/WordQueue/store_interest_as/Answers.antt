use Rattle.std.proofs.Common.{arith, ap, sym, ◌∙◌, ℕ, List}
use Rattle.pgn_base.specs.Interest.{interest}
use Rattle.pgn_words.proofs.InterestKept.{store_interest_allowed}
use Rattle.pgn_words.specs.Passes.{view_of}
use Rattle.pgn_words.specs.Interests.{interested}
use Rattle.pgn_words.proofs.pass.WordQueue.store_interest_as.Goals as goal

pub store-requires : goal.store-requires
store-requires g c = (
  c.requires.own.table,
  (let counted = c.args.self.now.counted in let within = c.word_of_interest-word.ensures.within in omega (arith, counted, within)),
  store_interest_allowed _ _ _ _ _ _ _
      (let word = c.word_of_interest-word.ensures.value in let session = c.args.pass.now.session_is in let value = c.get.ensures.value in omega (arith, word, session, value))
      c.requires.own.number c.requires.listens (c.interest-bits.ensures ∙ ap interest (sym c.requires.given)),
)

pub returns-clause-view : goal.returns-clause-view
returns-clause-view g c = c.store.ensures.2.view ∙ ap (λ (set : List (List ℕ)). interested set (view_of c.args.pass.now)) c.requires.given
