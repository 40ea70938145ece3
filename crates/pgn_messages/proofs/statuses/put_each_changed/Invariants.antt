use Rattle.std.proofs.Common.{◌≡◌, ◌++◌, drop}
use Rattle.std.specs.Prelude.{flat_map}
use Rattle.pgn_messages.specs.Served.{changed_status}
use Rattle.pgn_messages.proofs.statuses.put_each_changed.Given as goal

-- what is put so far and what is still to be put are all
abbrev pub invariant-loop-setting : goal.invariant-loop-setting
invariant-loop-setting l =
    l.bytes ++ flat_map (changed_status l.before.now l.after.now) (drop l.setting-index l.reported) ≡ l.fn.bytes ++ flat_map (changed_status l.before.now l.after.now) l.reported
