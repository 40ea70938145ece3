use Rattle.std.proofs.Common.{◌≡◌, rules, refl, None, ◌∷◌, [], false}
use Rattle.pgn_outlet.specs.Passes.{knows}
use Rattle.pgn_messages.specs.declared.asked.Parting.{Parting}
use Rattle.pgn_frames.specs.declared.caller.Caller.{Caller}
use Rattle.pgn_frames.specs.Callers.{HasEnded, Takes, TakesFirst, parting_behind}
use Rattle.pgn_frames.proofs.CallerLaws.{First-none, Takes-over, Takes-parted, on_err, on_ok}
use Rattle.pgn_frames.proofs.taking.take_end.Goals as goal

pub returns-then-caller-clause-takes : goal.returns-then-caller-clause-takes
returns-then-caller-clause-takes g c =
    let new : Caller = record { asks = c.args.caller.now.asks; counts = c.args.caller.now.counts; begun = c.replace-begun.new.dest; left = false } in
    Takes-over c.args.inbox.now.seat c.args.caller.now new (search rules) refl (search rules) refl refl

pub returns-clause-takes : goal.returns-clause-takes
returns-clause-takes g c =
    let mid : Caller = record { asks = c.args.caller.now.asks; counts = c.args.caller.now.counts; begun = c.replace-begun.new.dest; left = c.args.caller.now.left } in
    let parting : Parting = c.parting_inside-parting.result in
    let how : parting ≡ parting_behind c.args.caller.now.begun.items = search rules in
    on_ok c.part.result (HasEnded c.args.inbox.now.seat mid c.part.new.caller parting) (Takes c.args.inbox.now.seat c.args.caller.now c.part.new.caller (None ∷ []))
    (λ ended. Takes-parted c.args.inbox.now.seat c.args.caller.now mid c.part.new.caller parting c.requires.waits (search rules) how refl refl ended (search rules) (search rules)) c.part.ensures.ended

pub returns-clause-first : goal.returns-clause-first
returns-clause-first g c =
    on_err c.part.result (knows c.part.new.caller.asks ≡ knows c.args.caller.now.asks) (TakesFirst c.args.inbox.now.seat c.args.caller.now c.part.new.caller (None ∷ []))
    (λ same. First-none c.args.inbox.now.seat c.args.caller.now c.part.new.caller (None ∷ []) same) c.part.ensures.refused
