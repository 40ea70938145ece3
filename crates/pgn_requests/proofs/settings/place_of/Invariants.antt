use Rattle.std.proofs.Common.{◌≡◌, ◌+◌, drop}
use Rattle.std.specs.List.{position_or_len}
use Rattle.pgn_requests.specs.Settings.{is_of}
use Rattle.pgn_requests.proofs.settings.place_of.Given as goal

abbrev pub invariant-loop-at : goal.invariant-loop-at
invariant-loop-at l = position_or_len (is_of l.setting) l.fn.entries ≡ l.at + position_or_len (is_of l.setting) (drop l.at l.fn.entries)
