use Rattle.std.proofs.Common.{◌≡◌, ◌∙◌, sym, ap, codes, Option, Ok}
use Rattle.std.specs.Option.{ok_or}
use Rattle.std.proofs.lemmas.Slice.Eq.{bytes_eq-Decides}
use Rattle.pgn_options.specs.declared.asked.Asked.{Asked}
use Rattle.pgn_options.specs.declared.reading.WordsFault.TheVariants.{BadWords}
use Rattle.pgn_options.specs.Words.{OfCheck, OfRun, OfServe, word_of}
use Rattle.pgn_options.proofs.FindLaws.{drill-takes-none, finds-drill, finds-others, finds-serve, finds-wire, finds-with, name-of, serve-takes, wire-takes-none}
use Rattle.pgn_options.proofs.reading.asked_of.Goals as goal

pub returns-then-eq-clause-found : goal.returns-then-eq-clause-found
returns-then-eq-clause-found c = λ asked finds.
    let is : c.in-Some.name.now ≡ word_of OfRun = (bytes_eq-Decides c.in-Some.name.now (codes "run")).0 (sym c.eq.ensures ∙ c.if-eq.true) in
    c.ok_or.ensures.value ∙ ap (λ (o : Option Asked). ok_or o BadWords) (c.run_of.ensures ∙ finds-with OfRun _ asked c.in-Some.name.now _ c.options_of.result finds (c.in-Some.ensures.name ∙ name-of c.args.matches.now) c.in-Some.ensures.rows is c.options_of.ensures)

pub returns-then-eq-clause-too_much : goal.returns-then-eq-clause-too_much
returns-then-eq-clause-too_much c = λ finds.
    let is : c.in-Some.name.now ≡ word_of OfRun = (bytes_eq-Decides c.in-Some.name.now (codes "run")).0 (sym c.eq.ensures ∙ c.if-eq.true) in
    c.ok_or.ensures.value ∙ ap (λ (o : Option Asked). ok_or o BadWords) (c.run_of.ensures ∙ finds-others OfRun _ c.in-Some.name.now _ c.options_of.result finds (c.in-Some.ensures.name ∙ name-of c.args.matches.now) c.in-Some.ensures.rows is c.options_of.ensures)

pub returns-then-eq-2-clause-found : goal.returns-then-eq-2-clause-found
returns-then-eq-2-clause-found c = λ asked finds.
    finds-drill _ asked c.in-Some.name.now _ c.drill_of.result finds (c.in-Some.ensures.name ∙ name-of c.args.matches.now) c.in-Some.ensures.rows (sym c.eq-else-eq.ensures ∙ c.if-eq-2.true) c.drill_of.ensures

pub returns-then-eq-2-clause-too_much : goal.returns-then-eq-2-clause-too_much
returns-then-eq-2-clause-too_much c = λ finds.
    absurd (drill-takes-none _ c.in-Some.name.now finds (c.in-Some.ensures.name ∙ name-of c.args.matches.now) (sym c.eq-else-eq.ensures ∙ c.if-eq-2.true))

pub returns-then-eq-3-clause-found : goal.returns-then-eq-3-clause-found
returns-then-eq-3-clause-found c = λ asked finds.
    ap (λ (a : Asked). Ok a) (sym (finds-wire _ asked c.in-Some.name.now finds (c.in-Some.ensures.name ∙ name-of c.args.matches.now) (sym c.eq-else-eq-2.ensures ∙ c.if-eq-3.true)))

pub returns-then-eq-3-clause-too_much : goal.returns-then-eq-3-clause-too_much
returns-then-eq-3-clause-too_much c = λ finds.
    absurd (wire-takes-none _ c.in-Some.name.now finds (c.in-Some.ensures.name ∙ name-of c.args.matches.now) (sym c.eq-else-eq-2.ensures ∙ c.if-eq-3.true))

pub returns-then-eq-4-clause-found : goal.returns-then-eq-4-clause-found
returns-then-eq-4-clause-found c = λ asked finds.
    let is : c.in-Some.name.now ≡ word_of OfCheck = (bytes_eq-Decides c.in-Some.name.now (codes "check")).0 (sym c.eq-else-eq-3.ensures ∙ c.if-eq-4.true) in
    c.ok_or-then-eq-4.ensures.value ∙ ap (λ (o : Option Asked). ok_or o BadWords) (c.check_of.ensures ∙ finds-with OfCheck _ asked c.in-Some.name.now _ c.options_of-then-eq-4.result finds (c.in-Some.ensures.name ∙ name-of c.args.matches.now) c.in-Some.ensures.rows is c.options_of-then-eq-4.ensures)

pub returns-then-eq-4-clause-too_much : goal.returns-then-eq-4-clause-too_much
returns-then-eq-4-clause-too_much c = λ finds.
    let is : c.in-Some.name.now ≡ word_of OfCheck = (bytes_eq-Decides c.in-Some.name.now (codes "check")).0 (sym c.eq-else-eq-3.ensures ∙ c.if-eq-4.true) in
    c.ok_or-then-eq-4.ensures.value ∙ ap (λ (o : Option Asked). ok_or o BadWords) (c.check_of.ensures ∙ finds-others OfCheck _ c.in-Some.name.now _ c.options_of-then-eq-4.result finds (c.in-Some.ensures.name ∙ name-of c.args.matches.now) c.in-Some.ensures.rows is c.options_of-then-eq-4.ensures)

pub returns-else-eq-4-clause-found : goal.returns-else-eq-4-clause-found
returns-else-eq-4-clause-found c = λ asked finds.
    let named = c.in-Some.ensures.name ∙ name-of c.args.matches.now in
    let is : c.in-Some.name.now ≡ word_of OfServe = finds-serve _ asked c.in-Some.name.now finds named (sym c.eq.ensures ∙ c.if-eq.false) (sym c.eq-else-eq.ensures ∙ c.if-eq-2.false) (sym c.eq-else-eq-2.ensures ∙ c.if-eq-3.false) (sym c.eq-else-eq-3.ensures ∙ c.if-eq-4.false) in
    c.ok_or-else-eq-4.ensures.value ∙ ap (λ (o : Option Asked). ok_or o BadWords) (c.serve_of.ensures ∙ finds-with OfServe _ asked c.in-Some.name.now _ c.options_of-else-eq-4.result finds named c.in-Some.ensures.rows is c.options_of-else-eq-4.ensures)

pub returns-else-eq-4-clause-too_much : goal.returns-else-eq-4-clause-too_much
returns-else-eq-4-clause-too_much c = λ finds.
    let named = c.in-Some.ensures.name ∙ name-of c.args.matches.now in
    let is : c.in-Some.name.now ≡ word_of OfServe = serve-takes _ c.in-Some.name.now finds named (sym c.eq.ensures ∙ c.if-eq.false) (sym c.eq-else-eq-3.ensures ∙ c.if-eq-4.false) in
    c.ok_or-else-eq-4.ensures.value ∙ ap (λ (o : Option Asked). ok_or o BadWords) (c.serve_of.ensures ∙ finds-others OfServe _ c.in-Some.name.now _ c.options_of-else-eq-4.result finds named c.in-Some.ensures.rows is c.options_of-else-eq-4.ensures)
