-- How a conversation ends.
use Rattle.std.proofs.Common.{◌≡◌, ℕ, ◌+◌, ◌≤◌, List, [], ◌∷◌, ◌++◌, length, map, All, Option, Some, None, IfSome, Ok, Err, drop, sym, ap, ◌∙◌, subst, refl, arith, append-nil, length-append}
use Rattle.std.proofs.lemmas.List.Elements.{All-cons}
use Rattle.std.proofs.Math.Seq.{drop-append_seam}
use Rattle.std.specs.Io.KnownBytes.{Appends}
use Rattle.pgn_base.specs.Outside.{AppendsPrefix}
use Rattle.pgn_base.specs.declared.limits.TheConstants.{NOTE_LINES_MAX}
use Rattle.pgn_language.specs.declared.scenario.ScriptLine.{ScriptLine}
use Rattle.pgn_language.specs.declared.scenario.Section.{Section}
use Rattle.pgn_language.specs.Inputs.{HasFlagBelow, note_lines_of}
use Rattle.pgn_model.specs.declared.item.Item.{Item}
use Rattle.pgn_model.specs.Trace.{IsUpToDate}
use Rattle.pgn_model.specs.Walk.{Terms, start}
use Rattle.pgn_model.specs.Legal.{Legal}
use Rattle.pgn_model.specs.laws.NextLine.{HoldsSoFar}
use Rattle.pgn_hub.specs.declared.known.Known.{Known}
use Rattle.pgn_hub.specs.Gathered.{Gathered}
use Rattle.pgn_hub.specs.Passes.{IsWithin}
use Rattle.pgn_hub.specs.Shape.{Shape}
use Rattle.pgn_session.specs.declared.session.Session.{Session}
use Rattle.pgn_session.specs.declared.doing.Doing.{Doing}
use Rattle.pgn_session.specs.declared.doing.Doing.TheVariants.{Lines, Over}
use Rattle.pgn_session.specs.declared.doing.FlagPlan.{FlagPlan}
use Rattle.pgn_session.specs.Standing.{IsRested, terms_of}
use Rattle.pgn_session.specs.Whole.{HasRest, RestsAt}
use Rattle.pgn_threads.specs.Laws.{NamesFlagsBelow, RunsAreLegal}
use Rattle.pgn_threads.specs.Parts.{HasReadAll, HasRunOut, Part, settings_of, trace_of}
use Rattle.pgn_queries.specs.declared.wire_fault.WireFault.{WireFault}
use Rattle.pgn_queries.specs.Queries as asking
use Rattle.pgn_queries.specs.Queries.{IsLineOf, Place, QueriesAre, first_place, queries}
use Rattle.pgn_queries.specs.Script.{wire_quit, wire_section}
use Rattle.pgn_queries.proofs.EachLaws.{each_has_reading}
use Rattle.pgn_messages.specs.Messages.{messages}
use Rattle.pgn_wire.specs.declared.wire_end.WireEnd.{WireEnd}
use Rattle.pgn_wire.specs.declared.wire_end.WireEnd.TheVariants.{Bad, Read, Write, Memory}
use Rattle.pgn_session.specs.Open.{HasStood, IsSameClient}
use Rattle.pgn_wire.specs.Serving.{AsksAll, AsksBy, HasAnsweredAll, HasWritten, WhereAsked, WroteWhole}
use Rattle.pgn_service.proofs.NotedLaws.{holds-noted, legal-noted, with_notes}
use Rattle.pgn_service.specs.Conversation.{EndsBy, IsAnsweredSoFar, IsSoFar, NamesNoFlags, RunsLegally, session_section, wire_plan, wire_settings, wire_shape}

-- a list of one
one : {T : Type 0} (P : T → Type 0) (x : T) → P x → All P (x ∷ [])
one {T} P x p = All-cons P x [] p (λ k d lt. absurd (omega (arith, lt)))

-- a session that is over and listens no more, and its pass that was gathered, are a legal run
run-over : RunsAreLegal → (shape : Shape) (section : Section) (k : Known) (items : List Item) (count : ℕ) → Gathered (k ∷ []) count → shape ≡ wire_shape → section.no ≡ 1 → NamesNoFlags section
    → HasRunOut shape wire_plan 1 (record { section = section; known = k; items = items }) → k.mark ≡ None → RunsLegally section items
run-over law shape section k items count gathered is number names out left =
    let part : Part = record { section = section; known = k; items = items } in
    let up : HasReadAll (k ∷ []) k = subst (λ (m : Option ℕ). IfSome m (λ mark. All (λ (other : Known). other.signalled ≤ mark) (k ∷ []))) (sym left) tt in
    let legal = law (record { sections = section ∷ []; flags = [] }) shape wire_plan 1 (part ∷ []) count gathered refl (number, tt) (one (NamesFlagsBelow 0) section names) (one (HasRunOut shape wire_plan 1) part out) (one (HasReadAll (k ∷ [])) k up) in
    record {
      journal = gathered.journal;
      trace = trace_of part;
      shown = refl;
      legal = subst (λ (s : Shape). Legal (record { sections = section ∷ []; flags = [] }) (settings_of s 1) gathered.journal (trace_of part ∷ [])) is legal;
    }

-- a client's session that is over, whose pass was gathered, has run legally
pub finished : {P : Type 0} → RunsAreLegal → (shape : Shape) (known : P → Known) (s : Session P) (passes : List P) (count : ℕ) → Gathered (map known passes) count → passes ≡ s.pass ∷ [] → IsWithin (known s.pass) → shape ≡ wire_shape
    → HasRest shape known s → s.doing ≡ Over → (known s.pass).mark ≡ None → s.section.no ≡ 1 → s.plan ≡ wire_plan → s.patience ≡ 1 → NamesNoFlags s.section → RunsLegally s.section s.items.items
finished {P} law shape known s passes count gathered all within is rested over left number plan patience names =
    let known_all : map known passes ≡ known s.pass ∷ [] = ap (λ (ps : List P). map known ps) all in
    run-over law shape s.section (known s.pass) s.items.items count (subst (λ (ks : List Known). Gathered ks count) known_all gathered) is number names
    (record {
      done = s.done;
      block = s.block;
      set = s.set.channels;
      rested =
          subst (λ (n : ℕ). IsRested (terms_of shape s.section n) wire_plan s.done s.block s.set.channels Over (known s.pass) s.items.items) patience
          (subst (λ (p : FlagPlan). IsRested (terms_of shape s.section s.patience) p s.done s.block s.set.channels Over (known s.pass) s.items.items) plan
          (subst (λ (doing : Doing). IsRested (terms_of shape s.section s.patience) s.plan s.done s.block s.set.channels doing (known s.pass) s.items.items) over rested));
      within = within;
    }) left

-- queries name no flag
runs-no_flag : (number : ℕ) (text : List ℕ) (line : ScriptLine) → IsLineOf number text line → HasFlagBelow 0 line.act
runs-no_flag number text _ (asking.IsLineOf.OneLine _ command one_line reads) = tt
runs-no_flag number text _ (asking.IsLineOf.Lines _ before rest split one_line) = tt

abbrev Flagless : ScriptLine → Type 0
Flagless line = HasFlagBelow 0 line.act

asked-no_flag : (place : Place) (bytes : List ℕ) (lines : List ScriptLine) (fault : Option WireFault) → QueriesAre place bytes lines fault → All Flagless (lines ++ wire_quit ∷ [])
asked-no_flag place _ _ _ (asking.QueriesAre.Ends _ bytes text rest is) = one Flagless wire_quit tt
asked-no_flag place _ _ _ (asking.QueriesAre.Fails _ bytes text rest fault is) = one Flagless wire_quit tt
asked-no_flag place _ _ _ (asking.QueriesAre.Exceeds _ bytes text rest line is of many) = one Flagless wire_quit tt
asked-no_flag place _ _ _ (asking.QueriesAre.Goes _ bytes text rest line lines fault is of few more) =
    All-cons Flagless line (lines ++ wire_quit ∷ []) (runs-no_flag (place.queries + 1) text line of) (asked-no_flag (asking.after_query place (length text) line.act) rest lines fault more)

-- the section of a session that was opened for a client
section-of : {P : Type 0} (old new : Session P) (lines : List ScriptLine) → old.section ≡ session_section [] → IsSameClient old new → new.section.lines ≡ lines ++ wire_quit ∷ [] → new.section ≡ session_section lines
section-of old new lines begun same split =
    same.section ∙ ap (λ (s : Section). record s { lines = new.section.lines }) begun ∙ ap (λ (ls : List ScriptLine). record (session_section []) { lines = ls }) split

-- its queries are read under the limit of a scenario's lines
read-of : (section : Section) (lines front : List ScriptLine) (bytes : List ℕ) (fault : Option WireFault) → section ≡ session_section lines → queries section.note_lines bytes front fault → queries NOTE_LINES_MAX bytes front fault
read-of section lines front bytes fault is reads = subst (λ (s : Section). queries s.note_lines bytes front fault) is reads

-- a trace that is lawful so far
so_far : {P : Type 0} (shape : Shape) (known : P → Known) (s : Session P) (lines : List ScriptLine) (Q : List Item → Type 0) → shape ≡ wire_shape → s.patience ≡ 1 → s.section ≡ session_section lines
    → HasStood shape known s → Q s.items.items → IsSoFar lines Q
so_far shape known s lines Q is patience section stood q =
    let count : ℕ = note_lines_of (lines ++ wire_quit ∷ []) in
    let given : Terms = record { section = session_section lines; settings = wire_settings } in
    let terms : terms_of shape s.section s.patience ≡ given =
    ap (λ (t : Shape). terms_of t s.section s.patience) is ∙ ap (λ (n : ℕ). terms_of wire_shape s.section n) patience ∙ ap (λ (part : Section). terms_of wire_shape part 1) section in
    record {
      journal = (known s.pass).seen;
      items = s.items.items;
      state = stood.state;
      holds = holds-noted count given (known s.pass).seen s.items.items stood.state (subst (λ (t : Terms). HoldsSoFar t (known s.pass).seen s.items.items stood.state) terms stood.stands.holds);
      output = q;
    }

-- what is to come of a script whose queries have all begun
to-come : (lines front : List ScriptLine) (last : ScriptLine) (done : ℕ) → lines ++ wire_quit ∷ [] ≡ front ++ last ∷ [] → done ≡ length front → drop done (lines ++ wire_quit ∷ []) ≡ wire_quit ∷ []
to-come lines front last done e begun =
    let mine : length (lines ++ wire_quit ∷ []) ≡ length lines + 1 = length-append lines (wire_quit ∷ []) in
    let theirs : length (front ++ last ∷ []) ≡ length front + 1 = length-append front (last ∷ []) in
    let same : length (lines ++ wire_quit ∷ []) ≡ length (front ++ last ∷ []) = ap length e in
    let count : done ≡ length lines = omega (arith, mine, theirs, same, begun) in
    ap (λ (n : ℕ). drop n (lines ++ wire_quit ∷ [])) count ∙ drop-append_seam lines (wire_quit ∷ [])

-- the trace of a session that has answered all that was asked
answered-so_far : {P : Type 0} (shape : Shape) (known : P → Known) (s : Session P) (lines : List ScriptLine) (Q : List Item → Type 0) → shape ≡ wire_shape → s.patience ≡ 1 → s.section ≡ session_section lines
    → HasAnsweredAll shape known s → Q s.items.items → IsAnsweredSoFar lines Q
answered-so_far shape known s lines Q is patience section h q =
    let count : ℕ = note_lines_of (lines ++ wire_quit ∷ []) in
    let given : Terms = record { section = session_section lines; settings = wire_settings } in
    let terms : terms_of shape s.section s.patience ≡ given =
    ap (λ (t : Shape). terms_of t s.section s.patience) is ∙ ap (λ (n : ℕ). terms_of wire_shape s.section n) patience ∙ ap (λ (part : Section). terms_of wire_shape part 1) section in
    let at : RestsAt shape known s Lines = subst (λ (doing : Doing). RestsAt shape known s doing) h.is_open.between h.rested in
    let script : s.section.lines ≡ lines ++ wire_quit ∷ [] = ap (λ (part : Section). part.lines) section in
    record {
      journal = (known s.pass).seen;
      items = s.items.items;
      state = at.state;
      holds = holds-noted count given (known s.pass).seen s.items.items at.state (subst (λ (t : Terms). HoldsSoFar t (known s.pass).seen s.items.items at.state) terms at.stands.holds);
      rest = at.rest ∙ ap (λ (ls : List ScriptLine). drop s.done ls) script ∙ to-come lines h.is_open.ends.front h.is_open.ends.last s.done (sym script ∙ h.is_open.ends.split) h.is_open.begun;
      answered = at.here.0.owes;
      up_to_date = λ idle. subst (λ (t : Terms). IsUpToDate t (known s.pass).seen at.state) terms (at.here.1 idle);
      output = q;
    }

-- what stands written is the same with another count
wrote-noted : (n : ℕ) (section : Section) (items : List Item) (held now : Option (List ℕ)) → WroteWhole held now section items → WroteWhole held now (with_notes n section) items
wrote-noted n section items held now h =
    record { written = h.written; whole = record { front = h.whole.front; behind = h.whole.behind; split = h.whole.split; line = h.whole.line; are = h.whole.are }; wrote = h.wrote }

-- a session was served, and stopped
stopped : {P : Type 0} (T : Type 0) (shape : Shape) (known : P → Known) (end : WireEnd) (old new : Session P) (bytes : List ℕ) (held now : Option (List ℕ)) → shape ≡ wire_shape → old.section ≡ session_section [] → old.patience ≡ 1
    → IsSameClient old new → HasStood shape known new → WhereAsked end (HasAnsweredAll shape known new) → AsksBy {T = T} (Err end) (Some bytes) wire_quit new.section → HasWritten {T = T} (Err end) held now new.section new.items.items → EndsBy {T = T} (Err end) bytes held now
stopped T shape known (Bad fault) old new bytes held now is begun patience same stood answered asked written =
    let section = section-of old new asked.lines begun same asked.split in
    record {
      lines = asked.lines;
      reads = read-of new.section asked.lines asked.lines bytes (Some fault) section asked.reads;
      so_far = answered-so_far shape known new asked.lines (λ items. Appends held now (messages (wire_section asked.lines) items)) is (same.patience ∙ patience) section answered
          (subst (λ (s : Section). Appends held now (messages s new.items.items)) section written);
    }
stopped T shape known Read old new bytes held now is begun patience same stood answered asked written =
    let section = section-of old new asked.lines begun same asked.split in
    record {
      lines = asked.lines;
      more = asked.more;
      fault = asked.fault;
      reads = read-of new.section asked.lines (asked.lines ++ asked.more) bytes asked.fault section asked.reads;
      so_far = answered-so_far shape known new asked.lines (λ items. Appends held now (messages (wire_section asked.lines) items)) is (same.patience ∙ patience) section answered
          (subst (λ (s : Section). Appends held now (messages s new.items.items)) section written);
    }
stopped T shape known Write old new bytes held now is begun patience same stood answered asked written =
    let section = section-of old new asked.lines begun same asked.split in
    record {
      lines = asked.lines;
      more = asked.more;
      fault = asked.fault;
      reads = read-of new.section asked.lines (asked.lines ++ asked.more) bytes asked.fault section asked.reads;
      so_far = so_far shape known new asked.lines (λ items. AppendsPrefix held now (messages (wire_section asked.lines) items)) is (same.patience ∙ patience) section stood
          (subst (λ (s : Section). AppendsPrefix held now (messages s new.items.items)) section written);
    }
stopped T shape known Memory old new bytes held now is begun patience same stood answered asked written =
    let section = section-of old new asked.lines begun same asked.split in
    record {
      lines = asked.lines;
      more = asked.more;
      fault = asked.fault;
      reads = read-of new.section asked.lines (asked.lines ++ asked.more) bytes asked.fault section asked.reads;
      so_far = so_far shape known new asked.lines (WroteWhole held now (wire_section asked.lines)) is (same.patience ∙ patience) section stood
          (wrote-noted (note_lines_of (asked.lines ++ wire_quit ∷ [])) (session_section asked.lines) new.items.items held now (subst (λ (s : Section). WroteWhole held now s new.items.items) section written));
    }

-- it was served to its end
served : {P : Type 0} (T : Type 0) (x : T) (old new : Session P) (bytes : List ℕ) (held now : Option (List ℕ)) → old.section ≡ session_section [] → IsSameClient old new → AsksAll bytes None wire_quit new.section
    → Appends held now (messages new.section new.items.items) → (NamesNoFlags new.section → RunsLegally new.section new.items.items) → EndsBy {T = T} (Ok x) bytes held now
served T x old new bytes held now begun same asked written runs =
    let section = section-of old new asked.lines begun same asked.split in
    let run = runs (subst (λ (s : Section). NamesNoFlags s) (sym section) (asked-no_flag (first_place new.section.note_lines) bytes asked.lines None asked.reads)) in
    record {
      lines = asked.lines;
      journal = run.journal;
      trace = run.trace;
      reads = read-of new.section asked.lines asked.lines bytes None section asked.reads;
      legal = legal-noted (note_lines_of (asked.lines ++ wire_quit ∷ [])) (session_section asked.lines) wire_settings run.journal run.trace
          (subst (λ (s : Section). Legal (record { sections = s ∷ []; flags = [] }) wire_settings run.journal (run.trace ∷ [])) section run.legal);
      output = subst (λ (s : Section). Appends held now (messages s run.trace.items)) section (subst (λ (items : List Item). Appends held now (messages new.section items)) (sym run.shown) written);
    }

-- to its end, but then memory did not suffice
served-short : {P : Type 0} (T : Type 0) (shape : Shape) (known : P → Known) (old new : Session P) (bytes : List ℕ) (held now : Option (List ℕ)) → shape ≡ wire_shape → old.section ≡ session_section [] → old.patience ≡ 1
    → IsSameClient old new → HasStood shape known new → AsksAll bytes None wire_quit new.section → Appends held now (messages new.section new.items.items) → EndsBy {T = T} (Err Memory) bytes held now
served-short {P} T shape known old new bytes held now is begun patience same stood asked written =
    stopped {P = P} T shape known Memory old new bytes held now is begun patience same stood tt
    (record { lines = asked.lines; split = asked.split; more = []; fault = None; reads = subst (λ (ls : List ScriptLine). queries new.section.note_lines bytes ls None) (sym (append-nil asked.lines)) asked.reads })
    (record { written = messages new.section new.items.items; whole = record { front = new.items.items; behind = []; split = sym (append-nil new.items.items); line = tt; are = refl }; wrote = written })

-- it was not opened
none-written : (held : Option (List ℕ)) → Appends held held []
none-written None = tt
none-written (Some xs) = sym (append-nil xs)

not-opened : (T : Type 0) (bytes : List ℕ) (held : Option (List ℕ)) → EndsBy {T = T} (Err Memory) bytes held held
not-opened T bytes held =
    let all = each_has_reading (first_place NOTE_LINES_MAX) bytes in
    record {
      lines = [];
      more = all.0;
      fault = all.1;
      reads = all.2;
      so_far = record {
        journal = [];
        items = [];
        state = start (wire_section []);
        holds = record { stands_fresh = record { stands = record { lawful = tt; state = refl }; fresh = tt }; full = λ k d lt. absurd (omega (arith, lt)); found = λ k d lt. absurd (omega (arith, lt)) };
        output = record { written = []; whole = record { front = []; behind = []; split = refl; line = tt; are = refl }; wrote = none-written held };
      };
    }

-- the same of a source that may tell its bytes
pub stopped-known : {P : Type 0} (shape : Shape) (known : P → Known) (end : WireEnd) (old new : Session P) (left held now : Option (List ℕ)) → shape ≡ wire_shape → old.section ≡ session_section [] → old.patience ≡ 1
    → IsSameClient old new → HasStood shape known new → WhereAsked end (HasAnsweredAll shape known new) → ((last : ScriptLine) → old.section.lines ≡ last ∷ [] → AsksBy {T = Unit {0}} (Err end) left last new.section)
    → HasWritten {T = Unit {0}} (Err end) held now new.section new.items.items → IfSome left (λ bytes. EndsBy {T = Unit {0}} (Err end) bytes held now)
stopped-known shape known end old new None held now is begun patience same stood answered asked written = tt
stopped-known shape known end old new (Some bytes) held now is begun patience same stood answered asked written =
    stopped (Unit {0}) shape known end old new bytes held now is begun patience same stood answered (asked wire_quit (ap (λ (s : Section). s.lines) begun)) written

-- a client that was served to its end is known to have been, where it is known what was left
pub served-known : {P : Type 0} (old new : Session P) (left held now : Option (List ℕ)) → old.section ≡ session_section [] → IsSameClient old new
    → ((last : ScriptLine) → old.section.lines ≡ last ∷ [] → IfSome left (λ bytes. AsksAll bytes None last new.section)) → Appends held now (messages new.section new.items.items)
    → (NamesNoFlags new.section → RunsLegally new.section new.items.items) → IfSome left (λ bytes. EndsBy {T = Unit {0}} (Ok (tt {0})) bytes held now)
served-known old new None held now begun same asked written runs = tt
served-known old new (Some bytes) held now begun same asked written runs = served (Unit {0}) (tt {0}) old new bytes held now begun same (asked wire_quit (ap (λ (s : Section). s.lines) begun)) written runs

-- and one whose service ended for want of memory was answered so far
pub short-known : {P : Type 0} (shape : Shape) (known : P → Known) (old new : Session P) (left held now : Option (List ℕ)) → shape ≡ wire_shape → old.section ≡ session_section [] → old.patience ≡ 1
    → IsSameClient old new → HasStood shape known new → ((last : ScriptLine) → old.section.lines ≡ last ∷ [] → IfSome left (λ bytes. AsksAll bytes None last new.section))
    → Appends held now (messages new.section new.items.items) → IfSome left (λ bytes. EndsBy {T = Unit {0}} (Err Memory) bytes held now)
short-known shape known old new None held now is begun patience same stood asked written = tt
short-known {P} shape known old new (Some bytes) held now is begun patience same stood asked written =
    served-short {P = P} (Unit {0}) shape known old new bytes held now is begun patience same stood (asked wire_quit (ap (λ (s : Section). s.lines) begun)) written

-- of a client for which no session was opened nothing was written
pub unopened-known : (left held : Option (List ℕ)) → IfSome left (λ bytes. EndsBy {T = Unit {0}} (Err Memory) bytes held held)
unopened-known None held = tt
unopened-known (Some bytes) held = not-opened (Unit {0}) bytes held
