use Rattle.std.proofs.Common.{rules, ap, ◌∙◌, subst, sym, Option}
use Rattle.pgn_outlet.specs.Passes.{IsPassOf, Pass, knows}
use Rattle.pgn_messages.specs.declared.asked.Ask.{Ask}
use Rattle.pgn_frames.specs.Callers.{first_stand}
use Rattle.pgn_service.specs.Seats.{GivesInbox}
use Rattle.pgn_service.specs.Service.{seat_notes}
use Rattle.pgn_service.proofs.SeatingLaws.{sits-more}
use Rattle.pgn_service.proofs.seating.sit.Goals as goal

pub returns : goal.returns
returns g c =
    let gives : GivesInbox c.args.seating.now.inboxes.items c.open_inbox.new.inboxes.items c.in-Ok.put c.in-Ok.asks = search rules in
    sits-more (seat_notes c.args.seats) c.args.session c.args.seating.now.inboxes.items c.open_inbox.new.inboxes.items c.args.seating.now.desks.items c.push.new.self.items c.args.seating.now.callers.items c.push-2.new.self.items
    c.in-Ok.put c.in-Ok.asks (record { session = c.args.session; asks = c.in-Ok.asks; notes = 0; settings = c.new.result }) c.new-2.result gives (search rules) (search rules) (search rules) c.new.ensures c.in_ok-push.ensures.items c.in_ok-push-2.ensures.items
    (λ number inbox own. record {
      own = subst (λ (p : Pass (Option Ask)). IsPassOf inbox p) (sym c.new-2.ensures.pass) own;
      unused = ap knows c.new-2.ensures.pass ∙ gives.puts;
      first = c.new-2.ensures.first ∙ ap first_stand c.notes_for.ensures;
    })
