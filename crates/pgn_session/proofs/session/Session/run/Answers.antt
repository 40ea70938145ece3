use Rattle.std.proofs.Common.{◌≡◌, ◌+◌, List, refl, ap, ◌∙◌, sym, subst}
use Rattle.pgn_model.specs.declared.item.Item.{Item}
use Rattle.pgn_block.specs.declared.effect.Effect.{Effect}
use Rattle.pgn_block.specs.declared.effect.Effect.TheVariants as effect
use Rattle.pgn_block.specs.declared.effect.Kind.TheVariants.{ListeningChannels, QueueUsage}
use Rattle.pgn_session.specs.declared.session.Session.{Session}
use Rattle.pgn_session.specs.declared.doing.Doing.{Doing}
use Rattle.pgn_session.specs.declared.doing.Step.TheVariants.{Did}
use Rattle.pgn_session.specs.Parts.{HasTaken, HasShownUsage, answered_items}
use Rattle.pgn_session.specs.Standing.{terms_of, IsRested}
use Rattle.pgn_session.proofs.UsageLaws.{channels-asked}
use Rattle.pgn_session.proofs.RunLaws.{told-stepped, usage-stepped, handed-rested, left-told, left-usage, left-commit, answered-same, commit-stepped, commit-refused}
use Rattle.pgn_session.proofs.session.Session.run.Goals as goal

pub measure-requires-clause-room : goal.measure-requires-clause-room
measure-requires-clause-room g c = c.answer.ensures.room c.in-Usage.is

pub commit-requires-clause-rested : goal.commit-requires-clause-rested
commit-requires-clause-rested g c =
    let s = c.args.self.now in
    let taken = c.in_ok-taken.taken in
    let left = c.in-Commit.commit in
    let is : taken.effect ≡ effect.Commit left.actions left.notes left.tag = left-commit taken.effect left (sym c.answer.ensures.left ∙ c.in-Commit.is) in
    handed-rested (g.H.Hub.shape c.args.hub.now) g.P.PassView.known s c.args.next.line c.args.next.command c.take.new.block c.answer.new.items.items left.actions left.notes left.tag
    c.requires.comes c.requires.place c.requires.rested c.requires.read_first (subst (λ (e : Effect). HasTaken s.block c.args.next.command e c.take.new.block) is c.in_ok-taken.ensures.taken)
    (c.answer.ensures.shown ∙ ap (λ (e : Effect). answered_items c.take.new.items.items c.args.next.line taken.rows.names e) is ∙ c.take.ensures.items)

pub returns-in-Nothing-clause-stepped : goal.returns-in-Nothing-clause-stepped
returns-in-Nothing-clause-stepped g c =
    let s = c.args.self.now in
    let shape = g.H.Hub.shape c.args.hub.now in
    let known = g.P.PassView.known in
    let taken = c.in_ok-taken.taken in
    let n : Session g.row.P.Denot = record s { block = c.take.new.block; items = c.answer.new.items; done = s.done + 1 } in
    let at = subst (λ (d : Doing). IsRested (terms_of shape s.section s.patience) s.plan s.done s.block s.set.channels d (known s.pass) s.items.items) c.requires.place c.requires.rested in
    let names : taken.effect ≡ effect.Query ListeningChannels → taken.rows.names ≡ s.set.channels = λ asks.
    c.in_ok-taken.ensures.names (channels-asked (terms_of shape s.section s.patience) s.plan s.done s.block c.take.new.block s.set.channels (known s.pass) s.items.items c.args.next.command at
    (subst (λ (e : Effect). HasTaken s.block c.args.next.command e c.take.new.block) asks c.in_ok-taken.ensures.taken)) in
    told-stepped shape known s n c.args.next.line c.args.next.command c.take.new.block taken.effect Did c.requires.comes c.requires.place c.requires.rested c.requires.read_first c.in_ok-taken.ensures.taken
    (left-told taken.effect (sym c.answer.ensures.left ∙ c.in-Nothing.is)) refl
    (c.answer.ensures.shown ∙ answered-same s.items.items c.take.new.items.items c.args.next.line taken.rows.names s.set.channels taken.effect c.take.ensures.items names) refl

pub returns-in-Usage-clause-stepped : goal.returns-in-Usage-clause-stepped
returns-in-Usage-clause-stepped g c =
    let s = c.args.self.now in
    let shape = g.H.Hub.shape c.args.hub.now in
    let known = g.P.PassView.known in
    let taken = c.in_ok-taken.taken in
    let n : Session g.row.P.Denot = record s { pass = c.measure.new.pass; block = c.take.new.block; items = c.measure.new.items; done = s.done + 1 } in
    let is : taken.effect ≡ effect.Query QueueUsage = left-usage taken.effect (sym c.answer.ensures.left ∙ c.in-Usage.is) in
    let same : c.answer.new.items.items ≡ s.items.items =
    c.answer.ensures.shown ∙ ap (λ (e : Effect). answered_items c.take.new.items.items c.args.next.line taken.rows.names e) is ∙ c.take.ensures.items in
    usage-stepped shape known s n c.args.next.line c.args.next.command c.take.new.block Did c.requires.comes c.requires.place c.requires.rested c.requires.read_first
    (subst (λ (e : Effect). HasTaken s.block c.args.next.command e c.take.new.block) is c.in_ok-taken.ensures.taken) refl
    (subst (λ (items : List Item). HasShownUsage shape (known s.pass) (known c.measure.new.pass) c.args.next.line items c.measure.new.items.items) same c.measure.ensures.measured) refl

pub returns-in-Commit-clause-stepped : goal.returns-in-Commit-clause-stepped
returns-in-Commit-clause-stepped g c =
    let s = c.args.self.now in
    let left = c.in-Commit.commit in
    let is : c.in_ok-taken.taken.effect ≡ effect.Commit left.actions left.notes left.tag = left-commit c.in_ok-taken.taken.effect left (sym c.answer.ensures.left ∙ c.in-Commit.is) in
    commit-stepped (g.H.Hub.shape c.args.hub.now) g.P.PassView.known s (record s { block = c.take.new.block; items = c.answer.new.items }) c.commit.new.self c.args.next.line c.args.next.command left c.commit.result c.requires.comes refl
    (c.answer.ensures.shown ∙ ap (λ (e : Effect). answered_items c.take.new.items.items c.args.next.line c.in_ok-taken.taken.rows.names e) is ∙ c.take.ensures.items) c.commit.ensures.stepped

pub returns-in-Commit-clause-refused : goal.returns-in-Commit-clause-refused
returns-in-Commit-clause-refused g c =
    let s = c.args.self.now in
    let left = c.in-Commit.commit in
    let is : c.in_ok-taken.taken.effect ≡ effect.Commit left.actions left.notes left.tag = left-commit c.in_ok-taken.taken.effect left (sym c.answer.ensures.left ∙ c.in-Commit.is) in
    commit-refused (g.H.Hub.shape c.args.hub.now) g.P.PassView.known s (record s { block = c.take.new.block; items = c.answer.new.items }) c.commit.new.self left c.commit.result refl
    (c.answer.ensures.shown ∙ ap (λ (e : Effect). answered_items c.take.new.items.items c.args.next.line c.in_ok-taken.taken.rows.names e) is ∙ c.take.ensures.items) c.commit.ensures.refused

pub returns-in-Usage-clause-own : goal.returns-in-Usage-clause-own
returns-in-Usage-clause-own g c = c.measure.ensures.own

pub returns-in-Commit-clause-own : goal.returns-in-Commit-clause-own
returns-in-Commit-clause-own g c = c.commit.ensures.own

pub returns-in-Nothing-clause-own : goal.returns-in-Nothing-clause-own
returns-in-Nothing-clause-own g c = c.requires.own

pub returns-in_err-taken-clause-own : goal.returns-in_err-taken-clause-own
returns-in_err-taken-clause-own g c = c.requires.own

pub commit-requires-clause-place : goal.commit-requires-clause-place
commit-requires-clause-place g c = c.requires.place

pub commit-requires-clause-own : goal.commit-requires-clause-own
commit-requires-clause-own g c = c.requires.own

pub measure-requires-clause-own : goal.measure-requires-clause-own
measure-requires-clause-own g c = c.requires.own
