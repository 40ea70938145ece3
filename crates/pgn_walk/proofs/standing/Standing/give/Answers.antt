use Rattle.std.proofs.Common.{length, sym, subst}
use Rattle.std.proofs.lemmas.Result.{on_ok_weaker}
use Rattle.pgn_block.specs.declared.effect.Effect.{Effect}
use Rattle.pgn_walk.specs.declared.standing.Standing.{Standing}
use Rattle.pgn_ledger.specs.declared.to_show.Ending.TheVariants.{Replied, Refused}
use Rattle.pgn_ledger.specs.declared.to_show.ToShow.TheVariants as show
use Rattle.pgn_walk.specs.Steps.{IsGivenBy}
use Rattle.pgn_walk.proofs.LineLaws.{gives_commit, gives_refusal, gives_reply}
use Rattle.pgn_walk.proofs.standing.Standing.give.Goals as goal

pub returns-in-Reply : goal.returns-in-Reply
returns-in-Reply c =
    let at = c.args.self.now in
    subst (λ (new : Standing). IsGivenBy at c.args.effect c.args.self.now.set.channels (length c.args.self.now.set.channels) new) (sym c.answer.ensures)
    (subst (λ (e : Effect). IsGivenBy at e c.args.self.now.set.channels (length c.args.self.now.set.channels) (record at { owed = show.Answering (Replied c.in-Reply.tag c.in-Reply.warning) })) (sym c.in-Reply.is)
    (gives_reply at c.in-Reply.tag c.in-Reply.warning c.args.self.now.set.channels (length c.args.self.now.set.channels)))

pub returns-in-Refuse : goal.returns-in-Refuse
returns-in-Refuse c =
    let at = c.args.self.now in
    subst (λ (new : Standing). IsGivenBy at c.args.effect c.args.self.now.set.channels (length c.args.self.now.set.channels) new) (sym c.answer-in-Refuse.ensures)
    (subst (λ (e : Effect). IsGivenBy at e c.args.self.now.set.channels (length c.args.self.now.set.channels) (record at { owed = show.Answering (Refused c.in-Refuse.refusal) })) (sym c.in-Refuse.is)
    (gives_refusal at c.in-Refuse.refusal c.args.self.now.set.channels (length c.args.self.now.set.channels)))

pub returns-in-Commit : goal.returns-in-Commit
returns-in-Commit c =
    let at = c.args.self.now in
    let new = c.commit.new.self in
    on_ok_weaker c.commit.result (λ h. subst (λ (e : Effect). IsGivenBy at e c.args.self.now.set.channels (length c.args.self.now.set.channels) new) (sym c.in-Commit.is)
    (gives_commit at new c.in-Commit.actions c.in-Commit.notes c.in-Commit.tag c.args.self.now.set.channels (length c.args.self.now.set.channels) h)) c.commit.ensures

pub returns-in-Query : goal.returns-in-Query
returns-in-Query c =
    let at = c.args.self.now in
    let new = c.ask.new.self in
    on_ok_weaker c.ask.result (λ h. subst (λ (e : Effect). IsGivenBy at e at.set.channels (length at.set.channels) new) (sym c.in-Query.is) h) c.ask.ensures
