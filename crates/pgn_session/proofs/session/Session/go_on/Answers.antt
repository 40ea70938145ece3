use Rattle.std.proofs.Common.{◌≡◌, ◌∙◌, sym, subst}
use Rattle.pgn_session.specs.declared.doing.Doing.{Doing}
use Rattle.pgn_session.specs.declared.doing.Doing.TheVariants.{Lines, Committing, Awaiting, Ending}
use Rattle.pgn_session.specs.Sleep.{IsAwaitedBelow}
use Rattle.pgn_session.specs.Standing.{terms_of, IsRested}
use Rattle.pgn_session.proofs.SleepLaws.{rest-below}
use Rattle.pgn_session.proofs.WholeLaws.{stepped-at, stepped-from, refused-at, over-stepped}
use Rattle.pgn_session.proofs.session.Session.go_on.Goals as goal

pub next_line-requires-clause-rested : goal.next_line-requires-clause-rested
next_line-requires-clause-rested g c =
    let s = c.args.self.now in
    let stood : s.doing ≡ c.replace.new.dest = sym c.replace.ensures.value ∙ c.in-Lines.is ∙ sym c.replace.ensures.after in
    subst (λ (d : Doing). IsRested (terms_of (g.H.Hub.shape c.args.hub.now) s.section s.patience) s.plan s.done s.block s.set.channels d (g.P.PassView.known s.pass) s.items.items) stood c.requires.rested

pub next_line-requires-clause-read_first : goal.next_line-requires-clause-read_first
next_line-requires-clause-read_first g c first =
    c.requires.read_first (record { between = sym c.replace.ensures.value ∙ c.in-Lines.is; outside = first.outside; next = first.next })

pub commit-requires-clause-rested : goal.commit-requires-clause-rested
commit-requires-clause-rested g c =
    let s = c.args.self.now in
    let stood : s.doing ≡ Committing c.in-Committing.actions c.in-Committing.notes c.in-Committing.tag = sym c.replace.ensures.value ∙ c.in-Committing.is in
    subst (λ (d : Doing). IsRested (terms_of (g.H.Hub.shape c.args.hub.now) s.section s.patience) s.plan s.done s.block s.set.channels d (g.P.PassView.known s.pass) s.items.items) stood c.requires.rested

pub look_again-requires-clause-rested : goal.look_again-requires-clause-rested
look_again-requires-clause-rested g c =
    let s = c.args.self.now in
    let stood : s.doing ≡ Awaiting c.in-Awaiting.flag c.in-Awaiting.looks = sym c.replace.ensures.value ∙ c.in-Awaiting.is in
    subst (λ (d : Doing). IsRested (terms_of (g.H.Hub.shape c.args.hub.now) s.section s.patience) s.plan s.done s.block s.set.channels d (g.P.PassView.known s.pass) s.items.items) stood c.requires.rested

pub look_again-requires-clause-flag : goal.look_again-requires-clause-flag
look_again-requires-clause-flag g c =
    let s = c.args.self.now in
    let shape = g.H.Hub.shape c.args.hub.now in
    let stood : s.doing ≡ Awaiting c.in-Awaiting.flag c.in-Awaiting.looks = sym c.replace.ensures.value ∙ c.in-Awaiting.is in
    subst (λ (d : Doing). IsAwaitedBelow shape.flags d) stood (rest-below shape g.P.PassView.known s c.requires.served c.requires.rested)

pub look_again-requires-clause-few : goal.look_again-requires-clause-few
look_again-requires-clause-few g c =
    let s = c.args.self.now in
    let stood : s.doing ≡ Awaiting c.in-Awaiting.flag c.in-Awaiting.looks = sym c.replace.ensures.value ∙ c.in-Awaiting.is in
    let rested : IsRested (terms_of (g.H.Hub.shape c.args.hub.now) s.section s.patience) s.plan s.done s.block s.set.channels (Awaiting c.in-Awaiting.flag c.in-Awaiting.looks) (g.P.PassView.known s.pass) s.items.items =
    subst (λ (d : Doing). IsRested (terms_of (g.H.Hub.shape c.args.hub.now) s.section s.patience) s.plan s.done s.block s.set.channels d (g.P.PassView.known s.pass) s.items.items) stood c.requires.rested in
    rested.here.0.1

pub wait_for_others-requires-clause-rested : goal.wait_for_others-requires-clause-rested
wait_for_others-requires-clause-rested g c =
    let s = c.args.self.now in
    let stood : s.doing ≡ Ending c.in-Ending.found c.in-Ending.looks = sym c.replace.ensures.value ∙ c.in-Ending.is in
    subst (λ (d : Doing). IsRested (terms_of (g.H.Hub.shape c.args.hub.now) s.section s.patience) s.plan s.done s.block s.set.channels d (g.P.PassView.known s.pass) s.items.items) stood c.requires.rested

pub wait_for_others-requires-clause-few : goal.wait_for_others-requires-clause-few
wait_for_others-requires-clause-few g c =
    let s = c.args.self.now in
    let stood : s.doing ≡ Ending c.in-Ending.found c.in-Ending.looks = sym c.replace.ensures.value ∙ c.in-Ending.is in
    let rested : IsRested (terms_of (g.H.Hub.shape c.args.hub.now) s.section s.patience) s.plan s.done s.block s.set.channels (Ending c.in-Ending.found c.in-Ending.looks) (g.P.PassView.known s.pass) s.items.items =
    subst (λ (d : Doing). IsRested (terms_of (g.H.Hub.shape c.args.hub.now) s.section s.patience) s.plan s.done s.block s.set.channels d (g.P.PassView.known s.pass) s.items.items) stood c.requires.rested in
    rested.here.0.1

pub wait_for_others-requires-clause-within : goal.wait_for_others-requires-clause-within
wait_for_others-requires-clause-within g c =
    let s = c.args.self.now in
    let stood : s.doing ≡ Ending c.in-Ending.found c.in-Ending.looks = sym c.replace.ensures.value ∙ c.in-Ending.is in
    let rested : IsRested (terms_of (g.H.Hub.shape c.args.hub.now) s.section s.patience) s.plan s.done s.block s.set.channels (Ending c.in-Ending.found c.in-Ending.looks) (g.P.PassView.known s.pass) s.items.items =
    subst (λ (d : Doing). IsRested (terms_of (g.H.Hub.shape c.args.hub.now) s.section s.patience) s.plan s.done s.block s.set.channels d (g.P.PassView.known s.pass) s.items.items) stood c.requires.rested in
    rested.here.0.2

pub returns-in-Lines-clause-stepped : goal.returns-in-Lines-clause-stepped
returns-in-Lines-clause-stepped g c =
    stepped-at (g.H.Hub.shape c.args.hub.now) g.P.PassView.known c.args.self.now c.next_line.new.self c.replace.new.dest Lines c.next_line.result
    (sym c.replace.ensures.value ∙ c.in-Lines.is) c.next_line.ensures.stepped

pub returns-in-Lines-clause-refused : goal.returns-in-Lines-clause-refused
returns-in-Lines-clause-refused g c =
    refused-at (g.H.Hub.shape c.args.hub.now) g.P.PassView.known c.args.self.now c.next_line.new.self c.replace.new.dest Lines c.next_line.result
    (sym c.replace.ensures.value ∙ c.in-Lines.is) c.next_line.ensures.refused

pub returns-in-Committing-clause-stepped : goal.returns-in-Committing-clause-stepped
returns-in-Committing-clause-stepped g c =
    stepped-at (g.H.Hub.shape c.args.hub.now) g.P.PassView.known c.args.self.now c.commit.new.self c.replace.new.dest (Committing c.in-Committing.actions c.in-Committing.notes c.in-Committing.tag) c.commit.result
    (sym c.replace.ensures.value ∙ c.in-Committing.is) c.commit.ensures.stepped

pub returns-in-Committing-clause-refused : goal.returns-in-Committing-clause-refused
returns-in-Committing-clause-refused g c =
    refused-at (g.H.Hub.shape c.args.hub.now) g.P.PassView.known c.args.self.now c.commit.new.self c.replace.new.dest (Committing c.in-Committing.actions c.in-Committing.notes c.in-Committing.tag) c.commit.result
    (sym c.replace.ensures.value ∙ c.in-Committing.is) c.commit.ensures.refused

pub returns-in-Awaiting-clause-stepped : goal.returns-in-Awaiting-clause-stepped
returns-in-Awaiting-clause-stepped g c =
    stepped-at (g.H.Hub.shape c.args.hub.now) g.P.PassView.known c.args.self.now c.look_again.new.self c.replace.new.dest (Awaiting c.in-Awaiting.flag c.in-Awaiting.looks) c.look_again.result
    (sym c.replace.ensures.value ∙ c.in-Awaiting.is) c.look_again.ensures.stepped

pub returns-in-Awaiting-clause-refused : goal.returns-in-Awaiting-clause-refused
returns-in-Awaiting-clause-refused g c =
    refused-at (g.H.Hub.shape c.args.hub.now) g.P.PassView.known c.args.self.now c.look_again.new.self c.replace.new.dest (Awaiting c.in-Awaiting.flag c.in-Awaiting.looks) c.look_again.result
    (sym c.replace.ensures.value ∙ c.in-Awaiting.is) c.look_again.ensures.refused

pub returns-in-Ending-clause-stepped : goal.returns-in-Ending-clause-stepped
returns-in-Ending-clause-stepped g c =
    stepped-from (g.H.Hub.shape c.args.hub.now) g.P.PassView.known c.args.self.now c.wait_for_others.new.self c.replace.new.dest (Ending c.in-Ending.found c.in-Ending.looks) c.wait_for_others.result
    (sym c.replace.ensures.value ∙ c.in-Ending.is) c.wait_for_others.ensures.stepped

pub returns-in-Over-clause-stepped : goal.returns-in-Over-clause-stepped
returns-in-Over-clause-stepped g c =
    rw c.set.ensures (over-stepped (g.H.Hub.shape c.args.hub.now) g.P.PassView.known c.args.self.now (sym c.replace.ensures.value ∙ c.in-Over.is) c.requires.rested)
