use Rattle.std.proofs.Common.{◌≡◌, ◌+◌, ◌∷◌, ◌≤◌, ◌∙◌, List, length, drop, Some, ap, sym, refl, subst}
use Rattle.std.specs.Prelude.{slice_get}
use Rattle.std.proofs.lemmas.List.{drop_all, drop_more}
use Rattle.std.proofs.lemmas.Option.{get_or_from_slice_get, slice_get_read, slice_get_within}
use Rattle.pgn_language.specs.declared.scenario.ScriptLine.{ScriptLine}
use Rattle.pgn_model.specs.Trace.{next_reads_first}
use Rattle.pgn_check.proofs.fresh.is_first_read_next.Goals as goal

pub returns-in-Some : goal.returns-in-Some
returns-in-Some c =
    let b = c.in-Some.ensures.lookup in
    let lines = c.args.section.now.lines in
    let next = c.args.at.now.next in
    let line = c.in-Some.line.now in
    let read : slice_get c.as_slice.result.now next ≡ Some line = slice_get_read c.as_slice.result.now (length c.as_slice.result.now) next line refl b.3.0 b.1 in
    let there : slice_get lines next ≡ Some line = sym (ap (λ (ls : List ScriptLine). slice_get ls next) c.as_slice.ensures) ∙ read in
    let rest : drop next lines ≡ line ∷ drop (next + 1) lines =
    drop_more lines next line (slice_get_within lines next line there) ∙ ap (λ (l : ScriptLine). l ∷ drop (next + 1) lines) (get_or_from_slice_get lines next line line there) in
    c.is_read_before.ensures ∙ sym (ap next_reads_first rest)

pub returns-in-None : goal.returns-in-None
returns-in-None c =
    let lines = c.args.section.now.lines in
    let next = c.args.at.now.next in
    sym (ap next_reads_first (drop_all next lines (subst (λ (ls : List ScriptLine). length ls ≤ next) c.as_slice.ensures c.in-None.ensures.lookup.3)))
