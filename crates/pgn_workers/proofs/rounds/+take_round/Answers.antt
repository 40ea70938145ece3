use Rattle.std.proofs.Common.{rules, List, ◌++◌, All, sym, subst}
use Rattle.std.proofs.lemmas.List.Elements.{All-append}
use Rattle.pgn_workers.specs.Parts.{part}
use Rattle.pgn_workers.proofs.RoundLaws.{both-ok}
use Rattle.pgn_workers.proofs.rounds.+take_round.Goals as goal

pub take_round-second-requires : goal.take_round-second-requires
take_round-second-requires g t c κs within =
    let goes =
    c.laws.ensures.goes_behind c.split_at_mut-left.result.0.now c.split_at_mut-left.result.1.now c.args.hand.now (part c.take_round-first.new.workers c.take_round-first.new.hand)
    (subst (λ (ws : List g.row.W.Denot). g.C.Work.goes c.args.work.now (part ws c.args.hand.now)) c.split_at_mut-left.ensures.value c.requires.goes) c.take_round-first.ensures.took in
    search (rules, goes)

pub returns-clause-took : goal.returns-clause-took
returns-clause-took g t c =
    let cut = c.split_at_mut-left.ensures.value in
    subst (λ (ws : List g.row.W.Denot). g.C.Work.took c.args.work.now (part ws c.args.hand.now) (part (c.take_round-first.new.workers ++ c.take_round-second.new.workers) c.take_round-second.new.hand)) (sym cut)
    (c.laws.ensures.took_both c.split_at_mut-left.result.0.now c.split_at_mut-left.result.1.now c.args.hand.now (part c.take_round-first.new.workers c.take_round-first.new.hand) (part c.take_round-second.new.workers c.take_round-second.new.hand)
    (subst (λ (ws : List g.row.W.Denot). g.C.Work.goes c.args.work.now (part ws c.args.hand.now)) cut c.requires.goes) c.take_round-first.ensures.took c.take_round-second.ensures.took)

pub returns-clause-ready : goal.returns-clause-ready
returns-clause-ready g t c =
    let ready = g.C.Work.ready c.args.work.now in
    both-ok c.take_round-first.result c.take_round-second.result c.both_turns.result (All ready c.take_round-first.new.workers) (All ready c.take_round-second.new.workers) (All ready (c.take_round-first.new.workers ++ c.take_round-second.new.workers))
    (λ first second. All-append ready c.take_round-first.new.workers c.take_round-second.new.workers first second) c.both_turns.ensures.done c.take_round-first.ensures.ready c.take_round-second.ensures.ready

pub returns-clause-over : goal.returns-clause-over
returns-clause-over g t c = λ ended.
    let both = c.both_turns.ensures.ended ended in
    All-append (g.C.Work.over c.args.work.now) c.take_round-first.new.workers c.take_round-second.new.workers (c.take_round-first.ensures.over both.0) (c.take_round-second.ensures.over both.1)
