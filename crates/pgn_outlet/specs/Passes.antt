-- What a pass of a queue knows.
use Rattle.std.specs.Prelude.{◌≡◌, ℕ, Option}
use Rattle.std.specs.declared.alloc.Global.{Global}
use Rattle.atomic_blocks.specs.declared.web.Seat.{Seat}
use Rattle.crossbeam_queue.specs.declared.seg_queue.Going.{Going}
use Rattle.crossbeam_queue.specs.SegTies.{IsSegPassOf}
use Rattle.pgn_outlet.specs.declared.came.Came.{Came}
use Rattle.pgn_outlet.specs.declared.hand.Hand.{Hand}
use Rattle.pgn_outlet.specs.declared.outlet.Outlet.{Outlet}
use Rattle.pgn_outlet.specs.Cames.{what_of}
use Rattle.pgn_outlet.specs.Rule.{MayPush}

abbrev pub Pass : Type 0 → Type 0
Pass T = Seat (Option (Came T)) (Going (Came T) (Hand T)) Global

abbrev pub knows : {T : Type 0} → Pass T → Hand T
knows pass = pass.me.view.client

-- it is a pass of this queue
abbrev pub IsPassOf : {T : Type 0} → Outlet T → Pass T → Type 0
IsPassOf outlet pass = IsSegPassOf outlet.queue pass

-- what the pass has taken is, for each of its sessions, all that was pushed
abbrev pub HasAll : {T : Type 0} → Hand T → Type 0
HasAll v = (n : ℕ) → MayPush v n → what_of n v.got ≡ what_of n v.sent
