use Rattle.std.proofs.Common.{◌≡◌, ◌++◌, List, ℕ, codes, ap, ◌∙◌, subst}
use Rattle.std.specs.Prelude.{IfOk, flat_map}
use Rattle.pgn_answers.specs.declared.block_state.BlockState.TheVariants.{Idle}
use Rattle.pgn_messages.specs.Server.{completed, ready}
use Rattle.pgn_requests.specs.Settings.{Kept}
use Rattle.pgn_messages.specs.declared.settling.Done.{Done}
use Rattle.pgn_messages.specs.Served.{discard_answer, statuses}
use Rattle.pgn_messages.specs.Turns.{heard}
use Rattle.pgn_messages.proofs.settling.discard_done.Goals as goal

pub returns-clause-told : goal.returns-clause-told
returns-clause-told c =
    let kept : Kept = c.args.settings.now in
    let both : List ℕ = flat_map heard c.args.refused.now ++ flat_map heard c.args.unlistened.now in
    let front : List ℕ = completed (codes "DISCARD ALL") ++ both in
    let whole : c.in_ok-front.front ++ statuses kept c.in-Ok.after ++ ready Idle ≡ discard_answer Idle kept both =
    ap (λ (l : List ℕ). l ++ statuses kept c.in-Ok.after ++ ready Idle) c.in_ok-front.ensures ∙ ap (λ (k : Kept). front ++ statuses kept k ++ ready Idle) c.in-Ok.ensures in
    subst (λ (bytes : List ℕ). IfOk c.finished.result (λ (done : Done). done.bytes ≡ bytes)) whole c.finished.ensures.told
