use Rattle.std.proofs.Common.{refl}
use Rattle.pgn_block.proofs.OnlyLaws.{noted-alone}
use Rattle.pgn_block.proofs.stage.Stage.notify.Goals as goal

pub returns-in_ok-notes-in-Idle-clause-ok : goal.returns-in_ok-notes-in-Idle-clause-ok
returns-in_ok-notes-in-Idle-clause-ok c =
    rw (c.in-Idle.is, c.new-actions.ensures, c.in_ok-notes-in-Idle.ensures) (record { gives = λ changes h. noted-alone changes c.args.note c.args.tag h; leads = λ changes h. refl; leaves = λ changes h. refl })
