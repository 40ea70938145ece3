-- From sessions that are over and gathered passes to a legal run.
use Rattle.std.proofs.Common.{◌≡◌, ℕ, ◌+◌, ◌-◌, ◌<◌, ◌==◌, true, List, [], ◌∷◌, ◌++◌, length, drop, map, flat_map, get_or, slice_get, IfSome, IsSomeAnd, All, Any, Contains, inl, inr, sym, ap, ◌∙◌, refl, subst, arith, eq-eqb}
use Rattle.std.proofs.lemmas.Option.{IfSome_then}
use Rattle.std.proofs.lemmas.List.Elements.{All-head, All-tail, All-map, All-weaker, All-contains, All-same, Contains-get_or, Contains-append_left, Contains-append_right, Contains-append_cases}
use Rattle.std.proofs.lemmas.List.Folds.{list_any-from_Any}
use Rattle.pgn_base.specs.declared.limits.TheConstants.{FIRST_XID}
use Rattle.pgn_journal.specs.declared.tx.Tx.{Tx}
use Rattle.pgn_hub.specs.declared.known.Known.{Known}
use Rattle.pgn_language.specs.declared.scenario.Section.{Section}
use Rattle.pgn_model.specs.declared.trace.Trace.{Trace}
use Rattle.pgn_journal.specs.Begins.{Begins}
use Rattle.pgn_hub.specs.Shape.{Shape}
use Rattle.pgn_journal.specs.Journal.{next_xid, xids_of}
use Rattle.pgn_model.specs.Walk.{Settings, Terms, State, Nothing}
use Rattle.pgn_model.specs.Trace.{TraceOk, Fresh, IsUpToDate, state_after}
use Rattle.pgn_model.specs.Legal.{EachTrace, End, ends, WasRaised, StoodAt, IsShownWithin, IsFullThere, finished_xids, names_section, Legal}
use Rattle.pgn_model.specs.laws.NextLine.{HoldsSoFar}
use Rattle.pgn_journal.proofs.BeginsLaws.{begins-rest}
use Rattle.pgn_model.proofs.GrowingLaws.{up_to_date-grows}
use Rattle.pgn_model.proofs.NextLineLaws.{holds-grows, holds-shows, holds-within, end-is_lawful, end-is_fresh}
use Rattle.pgn_hub.specs.Passes.{IsWithin}
use Rattle.pgn_hub.specs.Gathered.{Gathered, IsBy, IsAmongMarks}
use Rattle.pgn_hub.proofs.GatheredLaws.{last-reads}
use Rattle.pgn_session.specs.declared.doing.FlagPlan.{FlagPlan}
use Rattle.pgn_session.specs.Standing.{StandsAt, TellsMore, IsEndPair, terms_of}
use Rattle.pgn_threads.specs.Parts.{Part, settings_of, trace_of, HasRunOut}
use Rattle.pgn_threads.specs.Laws.{NamesFlagsBelow, RunsAreLegal}
use Rattle.pgn_threads.proofs.FlagWalkLaws.{found-below}
use Rattle.pgn_threads.proofs.ListLemmas.{All-unmap, All-flat, in-flat, some-mapped, All-any, any-mapped}

module _ (shape : Shape) (plan : FlagPlan) (patience : ℕ) (journal : List Tx) where
  abbrev settings : Settings
  settings = settings_of shape patience

  abbrev terms : Part → Terms
  terms part = terms_of shape part.section patience

  -- a session that is over, over the whole journal
  record IsRun (part : Part) : Type 0 where
    state : State
    holds : HoldsSoFar (terms part) journal part.items state
    stands : StandsAt (terms part) part.known part.items state
    answered : state.owed ≡ Nothing
    done : state.rest ≡ []
    tells : TellsMore plan part.known state
    up : IsUpToDate (terms part) journal state

  over-runs : (part : Part) → Begins part.known.seen journal → HasRunOut shape plan patience part → IsRun part
  over-runs part begins h =
      let k : Known = part.known in
      let s : State = h.rested.state in
      let rest : List Tx = drop (length k.seen) journal in
      let e : k.seen ++ rest ≡ journal = sym (begins-rest k.seen journal begins) in
      record {
        state = s;
        holds = subst (λ (txs : List Tx). HoldsSoFar (terms part) txs part.items s) e (holds-grows (terms part) k.seen rest part.items s h.rested.stands.holds);
        stands = h.rested.stands;
        answered = h.rested.here.0.owes;
        done = h.rested.here.0.done;
        tells = h.rested.here.0.tells;
        up = subst (λ (txs : List Tx). IsUpToDate (terms part) txs s) e
            (up_to_date-grows (terms part) k.seen rest s (holds-within (terms part) k.seen part.items s h.rested.stands.holds).told h.rested.here.1);
      }

  run-lawful : (part : Part) → IsRun part → TraceOk (terms part) (trace_of part) journal
  run-lawful part h = end-is_lawful (terms part) journal (trace_of part) h.state h.holds.stands_fresh.stands
      (record { session = refl; database = refl; answered = h.answered; done = h.done; mark = h.stands.mark })

  run-fresh : (part : Part) → IsRun part → Fresh (terms part) (trace_of part) journal
  run-fresh part h = end-is_fresh (terms part) journal (trace_of part) h.state h.holds.stands_fresh h.up

  -- what holds of each part holds of each trace
  each : (P : Terms → Trace → Type 0) (parts : List Part) → All (λ part. P (terms part) (trace_of part)) parts → EachTrace settings P (map (λ part. part.section) parts) (map trace_of parts)
  each P [] h = tt
  each P (part ∷ parts) h = (All-head (λ p. P (terms p) (trace_of p)) part parts h, each P parts (All-tail (λ p. P (terms p) (trace_of p)) part parts h))

  -- the walk's end of each
  abbrev end_of : Part → End
  end_of part = record { session = part.section.no; state = state_after (terms part) part.items }

  ends-are : (parts : List Part) → ends settings (map (λ part. part.section) parts) (map trace_of parts) ≡ map end_of parts
  ends-are [] = refl
  ends-are (part ∷ parts) = ap (λ (rest : List End). end_of part ∷ rest) (ends-are parts)

  abbrev passes : List Part → List Known
  passes parts = map (λ part. part.known) parts

  -- what a pass has raised for a flag of the scripts, the trace shows
  raised-shown : (parts : List Part) (pair : ℕ × ℕ) → pair.0 < plan.first_end → All IsRun parts → Contains (flat_map (λ k. k.raised) (passes parts)) pair
      → Contains (flat_map (λ end. end.state.raised) (map end_of parts)) pair
  raised-shown [] pair below runs there = there
  raised-shown (part ∷ parts) pair below runs there =
      let run : IsRun part = All-head IsRun part parts runs in
      let s : State = run.state in
      let here : List (ℕ × ℕ) = (end_of part).state.raised in
      let later : List (ℕ × ℕ) = flat_map (λ (end : End). end.state.raised) (map end_of parts) in
      elim (Contains-append_cases part.known.raised (flat_map (λ (k : Known). k.raised) (passes parts)) pair there) as (λ _. Contains (here ++ later) pair) [
        | inl own ↦ elim (Contains-append_cases s.raised run.tells.raised.more pair (subst (λ (pairs : List (ℕ × ℕ)). Contains pairs pair) run.tells.raised.whole own)) as (λ _. Contains (here ++ later) pair) [
          | inl shown ↦ Contains-append_left here later pair (subst (λ (t : State). Contains t.raised pair) (sym run.holds.stands_fresh.stands.state) shown)
          | inr ended ↦ let end : IsEndPair plan pair = All-contains (IsEndPair plan) run.tells.raised.more pair run.tells.raised.ends ended in absurd (omega (arith, end.0, below))
        ]
        | inr others ↦ Contains-append_right here later pair (raised-shown parts pair below (All-tail IsRun part parts runs) others)
      ]

  -- each flag that a trace shows as found was raised
  found-raised : (parts : List Part) → All IsRun parts → All (λ part. NamesFlagsBelow plan.first_end part.section) parts
      → All (λ pair. Contains (flat_map (λ k. k.raised) (passes parts)) pair) (flat_map (λ k. k.found) (passes parts))
      → All (WasRaised (map end_of parts)) (flat_map (λ end. end.state.found) (map end_of parts))
  found-raised parts runs flags raised =
      All-flat (WasRaised (map end_of parts)) (λ (end : End). end.state.found) (map end_of parts)
      (All-map (λ (end : End). All (WasRaised (map end_of parts)) end.state.found) end_of parts (λ k d lt. of k d lt))
    where
      of : (k : ℕ) (d : Part) → k < length parts → All (WasRaised (map end_of parts)) (end_of (get_or parts k d)).state.found
      of k d lt =
          let part : Part = get_or parts k d in
          let run : IsRun part = runs k d lt in
          let below : All (λ pair. pair.0 < plan.first_end) (end_of part).state.found = found-below plan.first_end part.section part.items (flags k d lt) in
          let known : All (λ pair. Contains part.known.found pair) (end_of part).state.found =
          (λ j pair less. subst (λ (pairs : List (ℕ × ℕ)). Contains pairs (get_or (end_of part).state.found j pair)) (sym run.tells.found.whole)
          (Contains-append_left run.state.found run.tells.found.more (get_or (end_of part).state.found j pair)
          (subst (λ (t : State). Contains t.found (get_or (end_of part).state.found j pair)) run.holds.stands_fresh.stands.state (Contains-get_or (end_of part).state.found j pair less)))) in
          λ j pair less.
          let one : ℕ × ℕ = get_or (end_of part).state.found j pair in
          raised-shown parts one (below j pair less) runs
          (All-contains (λ p. Contains (flat_map (λ (q : Known). q.raised) (passes parts)) p) (flat_map (λ (q : Known). q.found) (passes parts)) one raised
          (in-flat (λ (p : Part). p.known) (λ (q : Known). q.found) parts k d one lt (known j pair less)))

  -- each holder that a trace names stood at the floor mark
  named-stood : (parts : List Part) → All IsRun parts → All (IsAmongMarks (passes parts)) (flat_map (λ k. k.named) (passes parts))
      → All (StoodAt (map end_of parts)) (flat_map (λ end. end.state.named) (map end_of parts))
  named-stood parts runs met =
      All-flat (StoodAt (map end_of parts)) (λ (end : End). end.state.named) (map end_of parts)
      (All-map (λ (end : End). All (StoodAt (map end_of parts)) end.state.named) end_of parts (λ k d lt. of k d lt))
    where
      stood : (pair : ℕ × ℕ) → IsAmongMarks (passes parts) pair → StoodAt (map end_of parts) pair
      stood pair among =
          let some = some-mapped (λ (p : Part). p.known) (λ (k : Known). (k.session ≡ pair.0) × Contains k.marks pair.1) parts (pair.0 - 1) among in
          let part : Part = some.1 in
          let run : IsRun part = All-any IsRun (λ (p : Part). (p.known.session ≡ pair.0) × Contains p.known.marks pair.1) parts runs some in
          let marks : Contains (end_of part).state.marks pair.1 =
          subst (λ (t : State). Contains t.marks pair.1) (sym run.holds.stands_fresh.stands.state) (All-contains (Contains run.state.marks) part.known.marks pair.1 run.stands.marks.of_right some.4.1) in
          any-mapped end_of (λ (end : End). (end.session ≡ pair.0) × Contains end.state.marks pair.1) parts (some.0, part, some.2, some.3, (sym run.stands.session ∙ some.4.0, marks))

      of : (k : ℕ) (d : Part) → k < length parts → All (StoodAt (map end_of parts)) (end_of (get_or parts k d)).state.named
      of k d lt =
          let part : Part = get_or parts k d in
          let run : IsRun part = runs k d lt in
          subst (λ (t : State). All (StoodAt (map end_of parts)) t.named) (sym run.holds.stands_fresh.stands.state)
          (All-weaker (Contains part.known.named) (StoodAt (map end_of parts))
          (λ pair there. stood pair (All-contains (IsAmongMarks (passes parts)) (flat_map (λ (q : Known). q.named) (passes parts)) pair met
          (in-flat (λ (p : Part). p.known) (λ (q : Known). q.named) parts k d pair lt there)))
          run.state.named run.stands.named)

  -- a session with a number has a section
  named-in : (parts : List Part) (session : ℕ) → Any (λ part. part.section.no ≡ session) parts → names_section (map (λ part. part.section) parts) session ≡ true
  named-in parts session some =
      list_any-from_Any (λ (section : Section). section.no == session) (map (λ (part : Part). part.section) parts)
      (any-mapped (λ (part : Part). part.section) (λ (section : Section). (section.no == session) ≡ true) parts (some.0, some.1, some.2, some.3, eq-eqb some.1.section.no session some.4))

  tx-named : (parts : List Part) (tx : Tx) → All IsRun parts → IsSomeAnd (slice_get (passes parts) (tx.session - 1)) (λ k. IsBy k tx) → names_section (map (λ part. part.section) parts) tx.session ≡ true
  tx-named parts tx runs by =
      let some = some-mapped (λ (p : Part). p.known) (λ (k : Known). IsBy k tx) parts (tx.session - 1) by in
      let run : IsRun some.1 = All-any IsRun (λ (p : Part). IsBy p.known tx) parts runs some in
      named-in parts tx.session (some.0, some.1, some.2, some.3, sym run.stands.session ∙ sym some.4.session)

runs-all : (shape : Shape) (plan : FlagPlan) (patience : ℕ) (parts : List Part) (count : ℕ) (g : Gathered (map (λ part. part.known) parts) count)
    → All (HasRunOut shape plan patience) parts → All (IsRun shape plan patience g.journal) parts
runs-all shape plan patience parts count g over = λ k d lt.
    let part : Part = get_or parts k d in
    over-runs shape plan patience g.journal part (All-unmap (λ (q : Known). Begins q.seen g.journal) (λ (p : Part). p.known) parts g.seen k d lt) (over k d lt)

-- sessions that are over, and whose passes were gathered, make a legal run
pub runs-are_legal : RunsAreLegal
runs-are_legal scenario shape plan patience parts count g is numbered flags over read =
    let journal : List Tx = g.journal in
    let settings : Settings = settings_of shape patience in
    let sections : List Section = map (λ (part : Part). part.section) parts in
    let traces : List Trace = map trace_of parts in
    let runs : All (IsRun shape plan patience journal) parts = runs-all shape plan patience parts count g over in
    let at_end : ends settings sections traces ≡ map (end_of shape plan patience journal) parts = ends-are shape plan patience journal parts in
    let flags_of : All (λ (part : Part). NamesFlagsBelow plan.first_end part.section) parts =
    All-unmap (NamesFlagsBelow plan.first_end) (λ (part : Part). part.section) parts (All-same (NamesFlagsBelow plan.first_end) sections scenario.sections (sym is) flags) in
    let legal : Legal (record scenario { sections = sections }) settings journal traces = record {
      lawful = each shape plan patience journal (λ terms trace. TraceOk terms trace journal) parts (λ k d lt. run-lawful shape plan patience journal (get_or parts k d) (runs k d lt));
      fresh = each shape plan patience journal (λ terms trace. Fresh terms trace journal) parts (λ k d lt. run-fresh shape plan patience journal (get_or parts k d) (runs k d lt));
      own = each shape plan patience journal (λ terms trace. finished_xids trace.items ≡ xids_of terms.section.no journal) parts
          (λ k d lt. let run : IsRun shape plan patience journal (get_or parts k d) = runs k d lt in
          run.stands.own ∙ All-unmap (λ (q : Known). q.own ≡ xids_of q.session journal) (λ (p : Part). p.known) parts g.own k d lt ∙ ap (λ (n : ℕ). xids_of n journal) run.stands.session);
      finished = g.finished;
      named = λ k d lt. tx-named shape plan patience journal parts (get_or journal k d) runs (g.by_pass k d lt);
      full = All-map (λ (trace : Trace). All (IsFullThere settings journal) trace.items) trace_of parts (λ k d lt. (runs k d lt).holds.full);
      found = subst (λ (all : List End). All (WasRaised all) (flat_map (λ end. end.state.found) all)) (sym at_end) (found-raised shape plan patience journal parts runs flags_of g.found);
      holders = subst (λ (all : List End). All (StoodAt all) (flat_map (λ end. end.state.named) all)) (sym at_end) (named-stood shape plan patience journal parts runs g.named);
      shown = All-map (λ (trace : Trace). All (IsShownWithin (next_xid journal)) trace.items) trace_of parts
          (λ k d lt. holds-shows (terms_of shape (get_or parts k d).section patience) journal (get_or parts k d).items (runs k d lt).state (runs k d lt).holds);
      read_all = All-map (λ (trace : Trace). IfSome trace.last (λ mark. mark ≡ next_xid journal)) trace_of parts
          (λ k d lt. IfSome_then (get_or parts k d).known.mark
          (All-unmap (λ (q : Known). IfSome q.mark (λ mark. mark ≡ FIRST_XID + count)) (λ (p : Part). p.known) parts
          (last-reads (map (λ (p : Part). p.known) parts) count g (All-map IsWithin (λ (p : Part). p.known) parts (λ j e less. (over j e less).within)) read) k d lt)
          (λ mark same. omega (arith, same, g.counted)));
    } in
    subst (λ (all : List Section). Legal (record scenario { sections = all }) settings journal traces) (sym is) legal
