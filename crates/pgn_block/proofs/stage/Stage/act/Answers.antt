use Rattle.std.proofs.Common.{refl}
use Rattle.pgn_block.proofs.OnlyLaws.{acted-alone}
use Rattle.pgn_block.proofs.stage.Stage.act.Goals as goal

pub returns-in_ok-actions-in-Idle-clause-ok : goal.returns-in_ok-actions-in-Idle-clause-ok
returns-in_ok-actions-in-Idle-clause-ok c =
    rw (c.in-Idle.is, c.in_ok-actions-in-Idle.ensures, c.new-notes.ensures) (record { gives = λ changes h. acted-alone changes c.args.action c.args.tag h; leads = λ changes h. refl; leaves = λ changes h. refl })
