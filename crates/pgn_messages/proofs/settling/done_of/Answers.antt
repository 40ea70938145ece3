use Rattle.std.proofs.Common.{◌≡◌, ◌++◌, List, ℕ, ap, ◌∙◌, subst}
use Rattle.std.specs.Prelude.{IfOk}
use Rattle.pgn_messages.specs.Server.{completed, ready}
use Rattle.pgn_requests.specs.Settings.{Kept}
use Rattle.pgn_requests.specs.Settled.{settled_tag}
use Rattle.pgn_messages.specs.declared.settling.Done.{Done}
use Rattle.pgn_messages.specs.Served.{settled_done, settled_rows, statuses}
use Rattle.pgn_messages.proofs.settling.done_of.Goals as goal

pub returns-clause-told : goal.returns-clause-told
returns-clause-told c =
    let kept : Kept = c.args.settings.now in
    let front : List ℕ = settled_rows c.args.seat c.args.settled.now kept ++ completed (settled_tag c.args.settled.now) in
    let whole : c.in_ok-front.front ++ statuses kept c.in-Ok.after ++ ready c.args.state ≡ settled_done c.args.seat c.args.settled.now kept c.args.state =
    ap (λ (l : List ℕ). l ++ statuses kept c.in-Ok.after ++ ready c.args.state) c.in_ok-front.ensures
    ∙ ap (λ (k : Kept). front ++ statuses kept k ++ ready c.args.state) c.in-Ok.ensures in
    subst (λ (bytes : List ℕ). IfOk c.finished.result (λ (done : Done). done.bytes ≡ bytes)) whole c.finished.ensures.told
