use Rattle.std.proofs.Common.{◌≡◌, ℕ, List, length, Result, Ok, refl, rules, sym, ap, subst}
use Rattle.pgn_queries.specs.Client.{OfKnown}
use Rattle.pgn_frames.specs.declared.framing.Arrival.{Arrival}
use Rattle.pgn_frames.specs.declared.framing.Arrival.TheVariants as arrival
use Rattle.pgn_frames.specs.declared.framing.NoFrame.{NoFrame}
use Rattle.pgn_frames.specs.Arrivals.{framing_of}
use Rattle.pgn_frames.specs.Frames.{Comes, IsSeat, NextFrame, Over, Wrong}
use Rattle.pgn_frames.proofs.ReadingLaws.{Reads-end, Reads-fault, Reads-more, Reads-some, Turns-none, frame_at}
use Rattle.pgn_frames.proofs.reading.read_one.Goals as goal

pub take_frame-requires-clause-on : goal.take_frame-requires-clause-on
take_frame-requires-clause-on g c = c.requires.on

pub returns-in-Ok-clause-on : goal.returns-in-Ok-clause-on
returns-in-Ok-clause-on g c = λ other. c.in-Ok.ensures.on

pub returns-in-Err-take_frame-clause-on : goal.returns-in-Err-take_frame-clause-on
returns-in-Err-take_frame-clause-on g c = λ other. absurd (other refl)

pub returns-in-Ok-End-clause-on : goal.returns-in-Ok-End-clause-on
returns-in-Ok-End-clause-on g c = λ other. c.requires.on

pub returns-in-Ok-Fault-clause-on : goal.returns-in-Ok-Fault-clause-on
returns-in-Ok-Fault-clause-on g c = λ other. c.requires.on

pub returns-in-Err-clause-on : goal.returns-in-Err-clause-on
returns-in-Err-clause-on g c = λ other. c.requires.on

pub returns-in-Ok-clause-turned : goal.returns-in-Ok-clause-turned
returns-in-Ok-clause-turned g c = λ most all h.
    let before = g.S.Source.left c.args.source.now in
    let after = g.S.Source.left c.next_frame.new.source in
    let at : ℕ = c.args.at.now in
    let seats : ℕ = length c.args.callers.now in
    let seat : ℕ = c.in-Ok-Frame.seat in
    let bytes : List ℕ = c.as_slice.result.now in
    let is : c.in-Ok-Frame.field-0 ≡ arrival.Frame seat = search rules in
    let one : IsSeat seats seat = c.in-Ok-Frame.ensures.seat seat (ap (λ (a : Arrival). let r : Result Arrival NoFrame = Ok a in r) is) in
    let comes : OfKnown (NextFrame seats at (Comes (frame_at seat c.next_frame.new.body.items))) before after
    = subst (λ (a : Arrival). OfKnown (NextFrame seats at (framing_of a c.next_frame.new.body.items)) before after) is c.in-Ok-Frame.ensures.next in
    let next : OfKnown (NextFrame seats at (Comes (frame_at seat bytes))) before after = subst (λ (l : List ℕ). OfKnown (NextFrame seats at (Comes (frame_at seat l))) before after) (sym c.as_slice.ensures.value) comes in
    Reads-more most at seat bytes all before after c.args.seats.now.inboxes.now c.args.callers.now c.take_frame.new.callers c.take_frame.new.at h one next c.in-Ok.ensures.takes c.in-Ok.ensures.at

pub returns-in-Err-take_frame-clause-turned : goal.returns-in-Err-take_frame-clause-turned
returns-in-Err-take_frame-clause-turned g c = λ most all h.
    let before = g.S.Source.left c.args.source.now in
    let after = g.S.Source.left c.next_frame.new.source in
    let at : ℕ = c.args.at.now in
    let seats : ℕ = length c.args.callers.now in
    let seat : ℕ = c.in-Ok-Frame.seat in
    let bytes : List ℕ = c.as_slice.result.now in
    let is : c.in-Ok-Frame.field-0 ≡ arrival.Frame seat = search rules in
    let one : IsSeat seats seat = c.in-Ok-Frame.ensures.seat seat (ap (λ (a : Arrival). let r : Result Arrival NoFrame = Ok a in r) is) in
    let comes : OfKnown (NextFrame seats at (Comes (frame_at seat c.next_frame.new.body.items))) before after
    = subst (λ (a : Arrival). OfKnown (NextFrame seats at (framing_of a c.next_frame.new.body.items)) before after) is c.in-Ok-Frame.ensures.next in
    let next : OfKnown (NextFrame seats at (Comes (frame_at seat bytes))) before after = subst (λ (l : List ℕ). OfKnown (NextFrame seats at (Comes (frame_at seat l))) before after) (sym c.as_slice.ensures.value) comes in
    Reads-some most at seat bytes all before after c.args.seats.now.inboxes.now c.args.callers.now c.take_frame.new.callers h one next c.requires.on c.in-Err-take_frame.ensures.first c.take_frame.ensures.own

pub returns-in-Ok-End-clause-turned : goal.returns-in-Ok-End-clause-turned
returns-in-Ok-End-clause-turned g c = λ most all h.
    let before = g.S.Source.left c.args.source.now in
    let after = g.S.Source.left c.next_frame.new.source in
    let is : c.in-Ok-End.field-0 ≡ arrival.End = search rules in
    let next : OfKnown (NextFrame (length c.args.callers.now) c.args.at.now Over) before after
    = subst (λ (a : Arrival). OfKnown (NextFrame (length c.args.callers.now) c.args.at.now (framing_of a c.next_frame.new.body.items)) before after) is c.in-Ok-End.ensures.next in
    Reads-end most c.args.at.now all before after c.args.seats.now.inboxes.now c.args.callers.now h next

pub returns-in-Ok-Fault-clause-turned : goal.returns-in-Ok-Fault-clause-turned
returns-in-Ok-Fault-clause-turned g c = λ most all h.
    let before = g.S.Source.left c.args.source.now in
    let after = g.S.Source.left c.next_frame.new.source in
    let is : c.in-Ok-Fault.field-0 ≡ arrival.Fault c.in-Ok-Fault.fault = search rules in
    let next : OfKnown (NextFrame (length c.args.callers.now) c.args.at.now (Wrong c.in-Ok-Fault.fault)) before after
    = subst (λ (a : Arrival). OfKnown (NextFrame (length c.args.callers.now) c.args.at.now (framing_of a c.next_frame.new.body.items)) before after) is c.in-Ok-Fault.ensures.next in
    Reads-fault most c.args.at.now c.in-Ok-Fault.fault all before after c.args.seats.now.inboxes.now c.args.callers.now h next

pub returns-in-Err-clause-turned : goal.returns-in-Err-clause-turned
returns-in-Err-clause-turned g c = λ most all h.
    Turns-none most c.args.at.now all (g.S.Source.left c.args.source.now) (g.S.Source.left c.next_frame.new.source) c.args.seats.now.inboxes.now c.args.callers.now c.in-Err.none h c.requires.on
