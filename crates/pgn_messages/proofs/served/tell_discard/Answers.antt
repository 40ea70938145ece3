use Rattle.std.proofs.Common.{◌++◌, List, ℕ, sym, ap, ◌∙◌}
use Rattle.std.specs.Prelude.{flat_map}
use Rattle.pgn_answers.specs.declared.block_state.BlockState.{BlockState}
use Rattle.pgn_messages.specs.Served.{discard_answer}
use Rattle.pgn_messages.specs.Turns.{heard}
use Rattle.pgn_messages.proofs.served.tell_discard.Goals as goal

pub returns-in_ok-bytes-in-InBlock-clause-told : goal.returns-in_ok-bytes-in-InBlock-clause-told
returns-in_ok-bytes-in-InBlock-clause-told c =
    let both : List ℕ = flat_map heard c.args.refused.now ++ flat_map heard c.args.unlistened.now in
    c.into_vec.ensures ∙ c.in_ok-bytes-in-InBlock.ensures ∙ ap (λ (s : BlockState). discard_answer s c.args.settings.now both) (sym c.in-InBlock.is)

pub returns-in_ok-bytes-in-Failed-clause-told : goal.returns-in_ok-bytes-in-Failed-clause-told
returns-in_ok-bytes-in-Failed-clause-told c =
    let both : List ℕ = flat_map heard c.args.refused.now ++ flat_map heard c.args.unlistened.now in
    c.into_vec-in-Failed.ensures ∙ c.in_ok-bytes-in-Failed.ensures ∙ ap (λ (s : BlockState). discard_answer s c.args.settings.now both) (sym c.in-Failed.is)
