use Rattle.std.proofs.Common.{◌++◌, ◌∷◌, [], refl, sym, ap, ◌∙◌, append_assoc, arith}
use Rattle.pgn_words.specs.declared.view.View.{View}
use Rattle.pgn_words.specs.declared.pass.WordPass.{WordPass}
use Rattle.pgn_words.specs.Passes.{IsPassOf, IsAtRest, view_of}
use Rattle.pgn_words.proofs.CloseLaws.{first_and_rest, joined_more, closed_low, closes, none_left, yielded_holds}
use Rattle.pgn_words.proofs.pass.WordQueue.close.Goals as goal

pub loop-pass-init : goal.loop-pass-init
loop-pass-init c =
    let head = c.remove-first.result in
    let order = first_and_rest c.args.passes.items head _ c.requires.all c.args.self.shaped.some_seats c.remove-first.ensures.value in (
      refl,
      record {
        head = head;
        order = order ∙ ap (λ l. head ∷ l) (sym (c.into_iter-pass-iterator.ensures.into_iter_gives.0 ∙ c.remove-first.ensures.items));
        own = c.settle.ensures.own;
        known = c.settle.ensures.known;
        joined = c.settle.ensures.rest.alone;
      },
      c.requires.own,
      c.requires.rest,
      tt,
      tt,
    )

pub loop-pass-preserved : goal.loop-pass-preserved
loop-pass-preserved c =
    let was = c.loop-pass.invariant.1 in
    let steps = c.in-Some.ensures.steps in (
      refl,
      record {
        head = was.head;
        order = was.order ∙ ap (λ l. was.head ∷ (c.loop-pass.yielded ++ l)) steps.0 ∙ ap (λ l. was.head ∷ l) (sym (append_assoc c.loop-pass.yielded (c.in-Some.pass ∷ []) c.next.new.self.rest.items));
        own = c.take_in.ensures.own;
        known = ap (λ (v : View). v.known) c.take_in.ensures.view ∙ was.known;
        joined = joined_more (view_of c.loop-pass.first) (view_of c.settle-in-loop-pass.new.pass) (view_of c.take_in.new.first) c.loop-pass.yielded c.in-Some.pass c.take_in.ensures.view was.joined c.settle-in-loop-pass.ensures.rest.alone c.settle-in-loop-pass.ensures.known;
      },
      c.requires.own,
      c.requires.rest,
      tt,
      tt,
    )

pub overflow_cast-result : goal.overflow_cast-result
overflow_cast-result c =
    let was = c.loop-pass.invariant.1 in
    let low = closed_low _ _ (view_of c.loop-pass.first) _ _ c.word-fin.result was.own.number was.own.setup c.close_with-closed.ensures.values.2 c.word-fin.ensures in omega (arith, low)

pub returns : goal.returns
returns c =
    let was = c.loop-pass.invariant.1 in
    let first = c.from.ensures in
    closes c.args.self.table.shared.key _ (view_of c.loop-pass.first) _ _ c.word-fin.result _ c.args.passes.items c.loop-pass.yielded was.head was.own.number c.close_with-closed.ensures.values.2 c.word-fin.ensures
    (was.order ∙ ap (λ l. was.head ∷ (c.loop-pass.yielded ++ l)) (none_left c.loop-pass.pass-iterator.rest.items (let ok = c.loop-pass.pass-iterator.rest.ok in let none = c.in-None.ensures.steps in omega (arith, ok, none.0))) ∙ ap (λ l. was.head ∷ l) (Rattle.std.proofs.lemmas.List.append-nil c.loop-pass.yielded)) was.known was.joined c.requires.all (omega (arith, first))

pub settle-requires-in-loop-pass-clause-own : goal.settle-requires-in-loop-pass-clause-own
settle-requires-in-loop-pass-clause-own c =
    let was = c.loop-pass.invariant.1 in
    let order = was.order ∙ ap (λ l. was.head ∷ (c.loop-pass.yielded ++ l)) c.in-Some.ensures.steps.0 in
    yielded_holds (IsPassOf c.args.self) c.args.passes.items was.head c.loop-pass.yielded c.in-Some.pass c.next.new.self.rest.items order c.requires.own

pub settle-requires-in-loop-pass-clause-rest : goal.settle-requires-in-loop-pass-clause-rest
settle-requires-in-loop-pass-clause-rest c =
    let was = c.loop-pass.invariant.1 in
    let order = was.order ∙ ap (λ l. was.head ∷ (c.loop-pass.yielded ++ l)) c.in-Some.ensures.steps.0 in
    yielded_holds (λ (pass : WordPass). IsAtRest (view_of pass)) c.args.passes.items was.head c.loop-pass.yielded c.in-Some.pass c.next.new.self.rest.items order c.requires.rest
