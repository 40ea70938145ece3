use Rattle.std.proofs.Common.{◌≡◌, ◌≤◌, sym, ap, ◌∙◌, subst, rules}
use Rattle.pgn_words.specs.declared.pos_word.PosWord.TheVariants as words
use Rattle.pgn_words.specs.declared.view.View.{View}
use Rattle.pgn_words.specs.Positions.{mark_in}
use Rattle.pgn_words.specs.Views.{may_look, AreDecided}
use Rattle.pgn_words.specs.Passes.{view_of}
use Rattle.pgn_wordhub.proofs.AdvanceSteps.{looked_at_last}
use Rattle.pgn_wordhub.proofs.hub.WordHub.look_settled.Goals as goal

pub returns-then-ne-clause-own : goal.returns-then-ne-clause-own
returns-then-ne-clause-own g c = c.second_look-position.ensures.own

pub returns-then-ne-clause-looked : goal.returns-then-ne-clause-looked
returns-then-ne-clause-looked g c =
    let settled : c.second_look-position.result ≡ words.Joining → ⊥ = search rules in
    looked_at_last (view_of c.args.pass.now) (view_of c.tries.pass) (view_of c.second_look-position.new.pass) c.args.seat c.second_look-position.result c.tries.invariant.3 settled c.second_look-position.ensures.looked

pub second_look-position-requires-clause-own : goal.second_look-position-requires-clause-own
second_look-position-requires-clause-own g c = c.tries.invariant.2

pub second_look-position-requires-clause-seat : goal.second_look-position-requires-clause-seat
second_look-position-requires-clause-seat g c = c.requires.seat

pub second_look-position-requires-clause-phase : goal.second_look-position-requires-clause-phase
second_look-position-requires-clause-phase g c = ap (λ (u : View). may_look u.phase) c.tries.invariant.3 ∙ c.requires.phase

pub second_look-position-requires-clause-decided : goal.second_look-position-requires-clause-decided
second_look-position-requires-clause-decided g c = subst (λ (u : View). AreDecided u.verdicts) (sym c.tries.invariant.3) c.requires.decided

pub second_look-position-requires-clause-next : goal.second_look-position-requires-clause-next
second_look-position-requires-clause-next g c =
    let on = c.tries.invariant.3 in
    let next = c.requires.next in record {
      second = ap (λ (u : View). u.eye.look) on ∙ next.second;
      next = ap (λ (u : View). u.eye.looked) on ∙ next.next;
      announced = λ first. subst (λ (u : View). mark_in u.eye.least ≤ mark_in u.eye.tail) (sym on) (next.announced first);
    }
