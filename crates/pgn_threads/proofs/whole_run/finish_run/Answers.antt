use Rattle.std.proofs.Common.{◌≡◌, refl, List, map, drop, length, sym, ap, subst, ◌∙◌}
use Rattle.pgn_reading.specs.Bare.{bare}
use Rattle.pgn_reading.specs.Merged.{ShowsJournal}
use Rattle.pgn_model.specs.declared.item.Item.{Item}
use Rattle.pgn_model.specs.declared.trace.Trace.{Trace}
use Rattle.std.proofs.lemmas.List.Elements.{All-map, All-same}
use Rattle.pgn_hub.specs.Shape.{Shape}
use Rattle.pgn_hub.specs.Passes.{IsWithin}
use Rattle.pgn_session.specs.declared.session.Session.{Session}
use Rattle.pgn_session.specs.Runs.{IsOver, script_of, shown_of}
use Rattle.pgn_threads.specs.Drain.{EachMayEndWithRead}
use Rattle.pgn_threads.specs.Opened.{plan_for}
use Rattle.pgn_threads.specs.Parts.{part_of, settings_of, trace_of}
use Rattle.pgn_threads.proofs.ListLemmas.{written-back, same-count}
use Rattle.pgn_threads.proofs.WholeLaws.{all-own, bare-back, bare-sessions, map-twice, merged-legal, numbers-same, passes-in_order, passes-same, sections-same, sessions-legal}
use Rattle.pgn_threads.proofs.whole_run.finish_run.Goals as goal

pub drain-requires : goal.drain-requires
drain-requires g c = record {
  over =
      All-same (IsOver (g.H.Hub.is_pass c.args.hub) (g.H.Hub.shape c.args.hub) g.H.Pass.PassView.known) c.as_mut_slice.result.now c.args.sessions.items c.as_mut_slice.ensures.value c.requires.over;
}

pub are_within-requires : goal.are_within-requires
are_within-requires g c =
    let new : List (Session g.row.H-Pass.Denot) = c.drain.new.sessions in
    let count = same-count script_of new c.as_mut_slice.result.now c.in-Ok.ensures.scripts ∙ c.as_mut_slice.ensures.len in
    let back = written-back new (drop (length new) c.args.sessions.items) c.args.sessions.len (sym count) in
    let passes = c.in-Ok-logs.ensures.passes ∙ ap (λ (ss : List (Session g.row.H-Pass.Denot)). map (λ (s : Session g.row.H-Pass.Denot). s.pass) ss) back in
    All-same (g.H.Hub.is_pass c.args.hub) c.as_slice.result.now c.in-Ok-logs.passes.items c.as_slice.ensures.value
    (all-own (g.H.Hub.is_pass c.args.hub) (g.H.Hub.shape c.args.hub) g.H.Pass.PassView.known new c.in-Ok-logs.passes.items c.in-Ok.ensures.over passes)

pub gather-requires-clause-own : goal.gather-requires-clause-own
gather-requires-clause-own g c =
    let new : List (Session g.row.H-Pass.Denot) = c.drain.new.sessions in
    let count = same-count script_of new c.as_mut_slice.result.now c.in-Ok.ensures.scripts ∙ c.as_mut_slice.ensures.len in
    let back = written-back new (drop (length new) c.args.sessions.items) c.args.sessions.len (sym count) in
    let passes = c.in-Ok-logs.ensures.passes ∙ ap (λ (ss : List (Session g.row.H-Pass.Denot)). map (λ (s : Session g.row.H-Pass.Denot). s.pass) ss) back in
    all-own (g.H.Hub.is_pass c.args.hub) (g.H.Hub.shape c.args.hub) g.H.Pass.PassView.known new c.in-Ok-logs.passes.items c.in-Ok.ensures.over passes

pub gather-requires-clause-all : goal.gather-requires-clause-all
gather-requires-clause-all g c =
    let new : List (Session g.row.H-Pass.Denot) = c.drain.new.sessions in
    let count = same-count script_of new c.as_mut_slice.result.now c.in-Ok.ensures.scripts ∙ c.as_mut_slice.ensures.len in
    let back = written-back new (drop (length new) c.args.sessions.items) c.args.sessions.len (sym count) in
    let passes = c.in-Ok-logs.ensures.passes ∙ ap (λ (ss : List (Session g.row.H-Pass.Denot)). map (λ (s : Session g.row.H-Pass.Denot). s.pass) ss) back in
    let scripts = c.in-Ok.ensures.scripts ∙ ap (λ (sessions : List (Session g.row.H-Pass.Denot)). map script_of sessions) c.as_mut_slice.ensures.value in
    passes-in_order (g.H.Hub.is_pass c.args.hub) (g.H.Hub.shape c.args.hub) g.H.Pass.PassView.known new c.in-Ok-logs.passes.items _ (numbers-same new c.args.sessions.items scripts ∙ c.requires.all) c.in-Ok.ensures.over passes

pub returns-clause-ended : goal.returns-clause-ended
returns-clause-ended g c =
    let new : List (Session g.row.H-Pass.Denot) = c.drain.new.sessions in
    let count = same-count script_of new c.as_mut_slice.result.now c.in-Ok.ensures.scripts ∙ c.as_mut_slice.ensures.len in
    let back = written-back new (drop (length new) c.args.sessions.items) c.args.sessions.len (sym count) in
    let passes = c.in-Ok-logs.ensures.passes ∙ ap (λ (ss : List (Session g.row.H-Pass.Denot)). map (λ (s : Session g.row.H-Pass.Denot). s.pass) ss) back in
    let traces = c.in-Ok-logs.ensures.traces ∙ ap (λ (ss : List (Session g.row.H-Pass.Denot)). map (λ (s : Session g.row.H-Pass.Denot). trace_of (part_of g.H.Pass.PassView.known s)) ss) back in
    let shape = g.H.Hub.shape c.args.hub in
    let known = g.H.Pass.PassView.known in
    record {
      whole = c.in-Ok-logs.traces.items;
      are_bare =
          bare-back c.merge.new.traces c.as_mut_slice-2.result.now _ _ c.in-Ok-merge.ensures.bare c.as_mut_slice-2.ensures.len
          ∙ ap (λ (all : List Trace). map bare all) c.as_mut_slice-2.ensures.value;
      legal = λ scenario pages patience format opened.
          let scripts = c.in-Ok.ensures.scripts ∙ ap (λ (sessions : List (Session g.row.H-Pass.Denot)). map script_of sessions) c.as_mut_slice.ensures.value ∙ opened.scripts in
          merged-legal scenario (settings_of shape patience) _ c.gather.ensures.journal c.in-Ok-merge.journal.items c.in-Ok-logs.traces.items
          (ap (λ (s : Shape). settings_of s patience) opened.opened)
          (sessions-legal (g.H.Hub.is_pass c.args.hub) shape known scenario (plan_for scenario) patience new c.gather.result.count (map known c.in-Ok-logs.passes.items) c.in-Ok-logs.traces.items
          (All-map IsWithin known c.in-Ok-logs.passes.items (All-same (λ pass. IsWithin (known pass)) c.in-Ok-logs.passes.items c.as_slice.result.now (sym c.as_slice.ensures.value) c.are_within.ensures)) opened.sound refl scripts c.in-Ok.ensures.over c.in-Ok.ensures.read
          (passes-same known new c.in-Ok-logs.passes.items passes) (sym traces) c.gather.ensures)
          (λ j shows. c.in-Ok-merge.ensures.merged j (subst (λ (all : List Trace). ShowsJournal j all) (sym c.as_mut_slice-2.ensures.value) shows));
      shown =
          let items : map shown_of new ≡ map (λ (trace : Trace). trace.items) c.in-Ok-logs.traces.items =
          sym (map-twice (λ (trace : Trace). trace.items) (λ (s : Session g.row.H-Pass.Denot). trace_of (part_of g.H.Pass.PassView.known s)) new) ∙ sym (ap (λ (all : List Trace). map (λ (trace : Trace). trace.items) all) traces) in
          subst (λ (after : List (List Item)). EachMayEndWithRead (map shown_of c.args.sessions.items) after) items
          (subst (λ (before : List (Session g.row.H-Pass.Denot)). EachMayEndWithRead (map shown_of before) (map shown_of new)) c.as_mut_slice.ensures.value c.in-Ok.ensures.shown);
    }

pub returns-clause-sessions : goal.returns-clause-sessions
returns-clause-sessions g c =
    let new : List (Session g.row.H-Pass.Denot) = c.drain.new.sessions in
    let count = same-count script_of new c.as_mut_slice.result.now c.in-Ok.ensures.scripts ∙ c.as_mut_slice.ensures.len in
    let back = written-back new (drop (length new) c.args.sessions.items) c.args.sessions.len (sym count) in
    let traces = c.in-Ok-logs.ensures.traces ∙ ap (λ (ss : List (Session g.row.H-Pass.Denot)). map (λ (s : Session g.row.H-Pass.Denot). trace_of (part_of g.H.Pass.PassView.known s)) ss) back in
    let scripts = c.in-Ok.ensures.scripts ∙ ap (λ (sessions : List (Session g.row.H-Pass.Denot)). map script_of sessions) c.as_mut_slice.ensures.value in
    let left =
    bare-back c.merge.new.traces c.as_mut_slice-2.result.now _ _ c.in-Ok-merge.ensures.bare c.as_mut_slice-2.ensures.len
    ∙ ap (λ (all : List Trace). map bare all) c.as_mut_slice-2.ensures.value in
    ap (λ (all : List Trace). map (λ (trace : Trace). trace.session) all) left ∙ bare-sessions c.in-Ok-logs.traces.items
    ∙ ap (λ (all : List Trace). map (λ (trace : Trace). trace.session) all) traces
    ∙ map-twice (λ (trace : Trace). trace.session) (λ (s : Session g.row.H-Pass.Denot). trace_of (part_of g.H.Pass.PassView.known s)) new
    ∙ numbers-same new c.args.sessions.items scripts

pub returns-clause-sections : goal.returns-clause-sections
returns-clause-sections g c =
    let new : List (Session g.row.H-Pass.Denot) = c.drain.new.sessions in
    let count = same-count script_of new c.as_mut_slice.result.now c.in-Ok.ensures.scripts ∙ c.as_mut_slice.ensures.len in
    let back = written-back new (drop (length new) c.args.sessions.items) c.args.sessions.len (sym count) in
    let scripts = c.in-Ok.ensures.scripts ∙ ap (λ (sessions : List (Session g.row.H-Pass.Denot)). map script_of sessions) c.as_mut_slice.ensures.value in
    c.from_items-sections.ensures ∙ c.in-Ok-logs.ensures.sections ∙ ap (λ (ss : List (Session g.row.H-Pass.Denot)). map (λ (s : Session g.row.H-Pass.Denot). s.section) ss) back
    ∙ sections-same new c.args.sessions.items scripts
