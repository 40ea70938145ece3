-- The loops over the items of a trace: lines, and the way from one item to the next.
use Rattle.std.proofs.Common.{◌≡◌, ℕ, ◌+◌, ◌^◌, ◌<◌, ◌≤◌, List, [], ◌∷◌, ◌++◌, length, take, drop, get_or, sym, ap, ◌∙◌, refl, subst, arith}
use Rattle.std.specs.Prelude.{flat_map}
use Rattle.std.proofs.lemmas.List.{drop_more, length-append, take-append-drop, take_all, take_more}
use Rattle.std.proofs.lemmas.List.Folds.{length-flat_map-take}
use Rattle.std.proofs.lemmas.Grind.{flat_map-append}
use Rattle.pgn_language.specs.declared.scenario.ScriptLine.{ScriptLine}
use Rattle.pgn_language.specs.declared.scenario.Section.{Section}
use Rattle.pgn_model.specs.declared.item.Item.{Item}
use Rattle.pgn_model.specs.declared.item.Item.TheVariants as item
use Rattle.pgn_model.specs.declared.trace.Trace.{Trace}
use Rattle.pgn_model.specs.Legal.{finished_xids}
use Rattle.pgn_model.specs.Text.{end_line, item_lines, trace_lines}
use Rattle.pgn_reading.specs.Blame.{last_line}
use Rattle.pgn_reading.specs.Form.{IsReadTrace}
use Rattle.pgn_walk.specs.declared.basis.Basis.{Basis}
use Rattle.pgn_check.specs.declared.walker.Walker.{Walker}
use Rattle.pgn_walk.specs.declared.standing.Standing.{Standing}
use Rattle.pgn_walk.specs.Basis.{Tells}
use Rattle.pgn_check.specs.Walked.{HasCome, IsAround, IsAtEnd}

-- an item has as many lines whatever the script is
same_many : (a b : List ScriptLine) (i : Item) → length (item_lines a i) ≡ length (item_lines b i)
same_many a b (item.Line n) = refl
same_many a b other = refl

pub many_same : (a b : List ScriptLine) (items : List Item) → length (flat_map (item_lines a) items) ≡ length (flat_map (item_lines b) items)
many_same a b [] = refl
many_same a b (i ∷ items) =
    omega (arith, length-append (item_lines a i) (flat_map (item_lines a) items), length-append (item_lines b i) (flat_map (item_lines b) items), same_many a b i, many_same a b items)

-- a trace has a head, the lines of its items and an end
pub trace_many : (section : Section) (trace : Trace) (lines : List ScriptLine) → length (trace_lines section trace) ≡ 2 + length (flat_map (item_lines lines) trace.items)
trace_many section trace lines =
    omega (arith, length-append (flat_map (item_lines section.lines) trace.items) (end_line trace.last ∷ []), many_same section.lines lines trace.items)

-- the items up to a place, and the one there
pub items_on : (items : List Item) (k : ℕ) (i : Item) → k < length items → i ≡ get_or items k i → take (k + 1) items ≡ take k items ++ i ∷ []
items_on items k i lt is = take_more items k i lt ∙ ap (λ (x : Item). take k items ++ x ∷ []) (sym is)

pub items_apart : (items : List Item) (k : ℕ) (i : Item) → k < length items → i ≡ get_or items k i → items ≡ take k items ++ i ∷ drop (k + 1) items
items_apart items k i lt is = sym (take-append-drop k items) ∙ ap (λ (xs : List Item). take k items ++ xs) (drop_more items k i lt ∙ ap (λ (x : Item). x ∷ drop (k + 1) items) (sym is))

-- one item more has its lines
pub lines_on : (lines : List ScriptLine) (items : List Item) (k : ℕ) (i : Item) → k < length items → i ≡ get_or items k i
    → length (flat_map (item_lines lines) (take (k + 1) items)) ≡ length (flat_map (item_lines lines) (take k items)) + length (item_lines lines i)
lines_on lines items k i lt is =
    ap (λ (xs : List Item). length (flat_map (item_lines lines) xs)) (items_on items k i lt is) ∙ ap length (flat_map-append (item_lines lines) (take k items) (i ∷ []))
    ∙ (let e : length (flat_map (item_lines lines) (take k items) ++ flat_map (item_lines lines) (i ∷ [])) ≡ length (flat_map (item_lines lines) (take k items)) + length (item_lines lines i) =
    omega (arith, length-append (flat_map (item_lines lines) (take k items)) (flat_map (item_lines lines) (i ∷ [])), length-append (item_lines lines i) []) in e)

-- The walk.

module _ (section : Section) (trace : Trace) (k : ℕ) (i : Item) where
  -- its lines fit where those of all do
  pub lines_fit : (head line : ℕ) → k < length trace.items → i ≡ get_or trace.items k i → line ≡ last_line head section (take k trace.items) → head + length (trace_lines section trace) < 2 ^ 64
      → line + length (item_lines [] i) + 1 < 2 ^ 64
  lines_fit head line lt is e few =
      let there : length (item_lines section.lines (get_or trace.items k i)) ≡ length (item_lines section.lines i) = ap (λ (x : Item). length (item_lines section.lines x)) (sym is) in
      omega (arith, e, few, there, trace_many section trace section.lines, same_many section.lines [] i, length-flat_map-take (item_lines section.lines) trace.items k i lt)

  -- the number of the last line after one item more
  pub line_next : (head line next : ℕ) → k < length trace.items → i ≡ get_or trace.items k i → line ≡ last_line head section (take k trace.items) → next ≡ line + length (item_lines section.lines i)
      → next ≡ last_line head section (take (k + 1) trace.items)
  line_next head line next lt is e more = omega (arith, e, more, lines_on section.lines trace.items k i lt is)

  -- the own numbers that were shown after one item more
  pub own_next : (own next : ℕ) → k < length trace.items → i ≡ get_or trace.items k i → next ≡ length (finished_xids (take k trace.items ++ i ∷ [])) → next ≡ length (finished_xids (take (k + 1) trace.items))
  own_next own next lt is e = e ∙ ap (λ (xs : List Item). length (finished_xids xs)) (sym (items_on trace.items k i lt is))

-- what is known before and behind the item at a place, where the walk has come to it
pub around_at : (basis : Basis) (sections : List Section) (traces : List Trace) (head : ℕ) (trace : Trace) (k : ℕ) (i : Item) (walker : Walker) → k < length trace.items → i ≡ get_or trace.items k i
    → walker.line ≡ last_line head basis.section.now (take k trace.items) → walker.own ≡ length (finished_xids (take k trace.items)) → Tells basis sections traces → IsReadTrace basis.section.now trace
    → HasCome basis sections traces (take k trace.items) walker.at → IsAround basis sections traces head trace (take k trace.items) i (drop (k + 1) trace.items) walker
around_at basis sections traces head trace k i walker lt is line own tells read come = record {
  tells = tells;
  read = read;
  split = items_apart trace.items k i lt is;
  come = come;
  line = line;
  own = own;
}

-- the walk past the items before a place and the one there is past those before the next
pub come_next : (basis : Basis) (sections : List Section) (traces : List Trace) (items : List Item) (k : ℕ) (i : Item) (at : Standing) → k < length items → i ≡ get_or items k i → HasCome basis sections traces (take k items ++ i ∷ []) at
    → HasCome basis sections traces (take (k + 1) items) at
come_next basis sections traces items k i at lt is come = subst (λ (xs : List Item). HasCome basis sections traces xs at) (sym (items_on items k i lt is)) come

-- what is known at the end, where the walk has come past all items
pub end_at : (basis : Basis) (sections : List Section) (traces : List Trace) (head : ℕ) (trace : Trace) (k : ℕ) (walker : Walker) → length trace.items ≤ k
    → walker.line ≡ last_line head basis.section.now (take k trace.items) → HasCome basis sections traces (take k trace.items) walker.at → IsAtEnd basis sections traces head trace walker
end_at basis sections traces head trace k walker le line come =
    let all : take k trace.items ≡ trace.items = take_all k trace.items le in
    record {
      come = subst (λ (xs : List Item). HasCome basis sections traces xs walker.at) all come;
      line = line ∙ ap (λ (xs : List Item). last_line head basis.section.now xs) all;
    }

-- the own numbers that were shown behind the last item are all
pub own_all : (items : List Item) (k own : ℕ) → length items ≤ k → own ≡ length (finished_xids (take k items)) → own ≡ length (finished_xids items)
own_all items k own le e = e ∙ ap (λ (xs : List Item). length (finished_xids xs)) (take_all k items le)

-- the last line before the end fits
pub end_fits : (section : Section) (trace : Trace) (head line k : ℕ) → length trace.items ≤ k → line ≡ last_line head section (take k trace.items) → head + length (trace_lines section trace) < 2 ^ 64 → line + 1 < 2 ^ 64
end_fits section trace head line k le e few =
    omega (arith, few, trace_many section trace section.lines, e ∙ ap (λ (xs : List Item). last_line head section xs) (take_all k trace.items le))
