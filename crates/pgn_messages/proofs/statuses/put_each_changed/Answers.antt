use Rattle.std.proofs.lemmas.List.{get_or_default}
use Rattle.pgn_messages.specs.Served.{changed_status}
use Rattle.pgn_messages.proofs.PutLaws.{put-next}
use Rattle.pgn_messages.proofs.statuses.put_each_changed.Goals as goal

pub loop-setting-preserved : goal.loop-setting-preserved
loop-setting-preserved c =
    put-next (changed_status c.args.before.now.now c.args.after.now.now) c.args.reported.now c.loop-setting.setting-index _ c.loop-setting.bytes c.put_changed.new.bytes _ c.loop-setting-test.true
    (get_or_default c.args.reported.now c.loop-setting.setting-index _ _ c.loop-setting-test.true) c.loop-setting.invariant
    c.in_ok-put_changed.ensures
