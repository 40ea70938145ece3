-- From whole sessions that are over to a legal run.
use Rattle.std.proofs.Common.{◌≡◌, ℕ, suc, ◌+◌, List, [], ◌∷◌, ◌++◌, length, map, take, get_or, All, sym, ap, ◌∙◌, refl, subst, arith}
use Rattle.std.specs.List.{range_with_len}
use Rattle.std.proofs.lemmas.List.{length-map}
use Rattle.std.proofs.lemmas.List.Elements.{All-map, All-same}
use Rattle.pgn_journal.specs.declared.tx.Tx.{Tx}
use Rattle.pgn_hub.specs.declared.known.Known.{Known}
use Rattle.pgn_language.specs.declared.scenario.Section.{Section}
use Rattle.pgn_language.specs.declared.scenario.Scenario.{Scenario}
use Rattle.pgn_model.specs.declared.trace.Trace.{Trace}
use Rattle.pgn_language.specs.Inputs.{AreNumbered, IsSound}
use Rattle.pgn_hub.specs.Shape.{Shape}
use Rattle.pgn_model.specs.Walk.{Settings}
use Rattle.pgn_model.specs.Legal.{Legal}
use Rattle.pgn_reading.specs.Bare.{bare}
use Rattle.pgn_reading.specs.Merged.{ShowsJournal}
use Rattle.pgn_reading.proofs.MergedLaws.{legal-shows_journal}
use Rattle.pgn_hub.specs.Passes.{IsWithin}
use Rattle.pgn_hub.specs.Gathered.{Gathered}
use Rattle.pgn_session.specs.declared.session.Session.{Session}
use Rattle.pgn_session.specs.declared.doing.FlagPlan.{FlagPlan}
use Rattle.pgn_session.specs.declared.doing.Doing.{Doing}
use Rattle.pgn_session.specs.declared.doing.Doing.TheVariants.{Over}
use Rattle.pgn_session.specs.Standing.{terms_of, IsRested, IsServedBy}
use Rattle.pgn_session.specs.Whole.{HasRest}
use Rattle.pgn_threads.specs.Parts.{Part, part_of, settings_of, trace_of, HasRunOut, HasReadAll}
use Rattle.pgn_session.specs.Runs.{IsOver, IsReady, Script, script_of}
use Rattle.pgn_threads.specs.Drain.{passes_of}
use Rattle.pgn_threads.specs.Opened.{script_for}
use Rattle.pgn_threads.specs.Laws.{NamesFlagsBelow}
use Rattle.pgn_threads.proofs.ListLemmas.{All-unmap, written-back}
use Rattle.pgn_threads.proofs.OpenLaws.{all-named}
use Rattle.pgn_threads.proofs.RunLaws.{runs-are_legal}

-- a map behind a map is one map
pub map-twice : {X Y Z : Type 0} (f : Y → Z) (g : X → Y) (xs : List X) → map f (map g xs) ≡ map (λ x. f (g x)) xs
map-twice f g [] = refl
map-twice f g (x ∷ xs) = ap (λ (zs : List _). f (g x) ∷ zs) (map-twice f g xs)

map-itself : {X : Type 0} (xs : List X) → map (λ x. x) xs ≡ xs
map-itself [] = refl
map-itself (x ∷ xs) = ap (λ (zs : List _). x ∷ zs) (map-itself xs)

-- the plan and the patience are those that each was given
abbrev HasGiven : FlagPlan → ℕ → Script → Type 0
HasGiven plan patience script = (script.plan ≡ plan) × (script.patience ≡ patience)

module _ {P : Type 0} (plan : FlagPlan) (patience : ℕ) (sections : List Section) (sessions : List (Session P)) (scripts : map script_of sessions ≡ map (script_for plan patience) sections) where
  pub all-given : All (λ s. HasGiven plan patience (script_of s)) sessions
  all-given =
      All-unmap (HasGiven plan patience) (λ (s : Session P). script_of s) sessions
      (All-same (HasGiven plan patience) (map script_of sessions) (map (script_for plan patience) sections) scripts
      (All-map (HasGiven plan patience) (script_for plan patience) sections (λ k d lt. (refl, refl))))

  -- the sections of the scenario are those of the sessions
  pub sections-are : sections ≡ map (λ s. s.section) sessions
  sections-are =
      sym (map-itself sections) ∙ sym (map-twice (λ (script : Script). script.section) (script_for plan patience) sections)
      ∙ ap (λ (all : List Script). map (λ (script : Script). script.section) all) (sym scripts) ∙ map-twice (λ (script : Script). script.section) (λ (s : Session P). script_of s) sessions

-- a session that is over has run out
over-run_out : {P : Type 0} (is_own : P → Type 0) (shape : Shape) (known : P → Known) (plan : FlagPlan) (patience : ℕ) (s : Session P) → IsWithin (known s.pass)
    → HasGiven plan patience (script_of s) → IsOver is_own shape known s → HasRunOut shape plan patience (part_of known s)
over-run_out is_own shape known plan patience s within given h = record {
  done = s.done;
  block = s.block;
  set = s.set.channels;
  rested =
      subst (λ (n : ℕ). IsRested (terms_of shape s.section n) plan s.done s.block s.set.channels Over (known s.pass) s.items.items) given.1
      (subst (λ (p : FlagPlan). IsRested (terms_of shape s.section s.patience) p s.done s.block s.set.channels Over (known s.pass) s.items.items) given.0
      (subst (λ (doing : Doing). IsRested (terms_of shape s.section s.patience) s.plan s.done s.block s.set.channels doing (known s.pass) s.items.items) h.over h.rested));
  within = within;
}

-- the same, with lists that are equal
legal-over : (scenario : Scenario) (shape : Shape) (plan : FlagPlan) (patience : ℕ) (parts : List Part) (count : ℕ) (passes : List Known) (traces : List Trace)
    → map (λ part. part.known) parts ≡ passes → map trace_of parts ≡ traces → (g : Gathered passes count)
    → scenario.sections ≡ map (λ part. part.section) parts → AreNumbered 1 scenario.sections → All (NamesFlagsBelow plan.first_end) scenario.sections
    → All (HasRunOut shape plan patience) parts → All (HasReadAll passes) passes → Legal scenario (settings_of shape patience) g.journal traces
legal-over scenario shape plan patience parts count passes traces same shown g sections numbered flags over read =
    subst (λ (ks : List Known). (h : Gathered ks count) → All (HasReadAll ks) ks → Legal scenario (settings_of shape patience) h.journal traces) same
    (λ h up. subst (λ (ts : List Trace). Legal scenario (settings_of shape patience) h.journal ts) shown
    (runs-are_legal scenario shape plan patience parts count h sections numbered flags over up))
    g read

-- sessions of a sound scenario that are over, were drained and gathered, make a legal run
pub sessions-legal : {P : Type 0} (is_own : P → Type 0) (shape : Shape) (known : P → Known) (scenario : Scenario) (plan : FlagPlan) (patience : ℕ) (sessions : List (Session P)) (count : ℕ) (passes : List Known) (traces : List Trace)
    → All (λ k. IsWithin k) passes → IsSound scenario → plan.first_end ≡ length scenario.flags → map script_of sessions ≡ map (script_for plan patience) scenario.sections
    → All (IsOver is_own shape known) sessions → All (HasReadAll (passes_of known sessions)) (passes_of known sessions)
    → passes_of known sessions ≡ passes → map (λ s. trace_of (part_of known s)) sessions ≡ traces → (g : Gathered passes count)
    → Legal scenario (settings_of shape patience) g.journal traces
sessions-legal {P} is_own shape known scenario plan patience sessions count passes traces within sound first scripts over read same shown g =
    let parts : List Part = map (λ (s : Session P). part_of known s) sessions in
    let given = all-given plan patience scenario.sections sessions scripts in
    let all-within : All (λ s. IsWithin (known s.pass)) sessions = All-unmap IsWithin (λ (s : Session P). known s.pass) sessions (All-same IsWithin (passes_of known sessions) passes same within) in
    legal-over scenario shape plan patience parts count passes traces
    (map-twice (λ (part : Part). part.known) (λ (s : Session P). part_of known s) sessions ∙ same)
    (map-twice trace_of (λ (s : Session P). part_of known s) sessions ∙ shown) g
    (sections-are plan patience scenario.sections sessions scripts ∙ sym (map-twice (λ (part : Part). part.section) (λ (s : Session P). part_of known s) sessions))
    sound.numbered (all-named plan scenario first sound)
    (All-map (HasRunOut shape plan patience) (λ (s : Session P). part_of known s) sessions (λ k d lt. over-run_out is_own shape known plan patience (get_or sessions k d) (all-within k d lt) (given k d lt) (over k d lt)))
    (subst (λ (ks : List Known). All (HasReadAll ks) ks) same read)

numbers-of : (n : ℕ) (sections : List Section) → AreNumbered n sections → map (λ section. section.no) sections ≡ range_with_len n (length sections)
numbers-of n [] h = refl
numbers-of n (section ∷ sections) h = ap (λ (m : ℕ). m ∷ map (λ (s : Section). s.no) sections) h.0 ∙ ap (λ (ms : List ℕ). n ∷ ms) (numbers-of (n + 1) sections h.1)

same-numbers : {P : Type 0} (known : P → Known) (sessions : List (Session P)) → All (λ s. (known s.pass).session ≡ s.section.no) sessions → map (λ s. (known s.pass).session) sessions ≡ map (λ s. s.section.no) sessions
same-numbers known [] h = refl
same-numbers {P} known (s ∷ sessions) h =
    ap (λ (n : ℕ). n ∷ map (λ (t : Session P). (known t.pass).session) sessions) (h 0 s (omega arith))
    ∙ ap (λ (ns : List ℕ). s.section.no ∷ ns) (same-numbers known sessions (λ k d lt. h (suc k) d (omega (arith, lt))))

-- the numbers of sessions with these scripts
pub numbers-same : {P : Type 0} (sessions others : List (Session P)) → map script_of sessions ≡ map script_of others → map (λ s. s.section.no) sessions ≡ map (λ s. s.section.no) others
numbers-same {P} sessions others e =
    sym (map-twice (λ (script : Script). script.section.no) (λ (s : Session P). script_of s) sessions)
    ∙ ap (λ (scripts : List Script). map (λ (script : Script). script.section.no) scripts) e
    ∙ map-twice (λ (script : Script). script.section.no) (λ (s : Session P). script_of s) others

-- and their sections
pub sections-same : {P : Type 0} (sessions others : List (Session P)) → map script_of sessions ≡ map script_of others → map (λ s. s.section) sessions ≡ map (λ s. s.section) others
sections-same {P} sessions others e =
    sym (map-twice (λ (script : Script). script.section) (λ (s : Session P). script_of s) sessions)
    ∙ ap (λ (scripts : List Script). map (λ (script : Script). script.section) scripts) e
    ∙ map-twice (λ (script : Script). script.section) (λ (s : Session P). script_of s) others

-- the sessions of a scenario have its numbers
pub numbers-opened : {P : Type 0} (scenario : Scenario) (plan : FlagPlan) (patience : ℕ) (sessions : List (Session P)) → IsSound scenario → map script_of sessions ≡ map (script_for plan patience) scenario.sections
    → map (λ s. s.section.no) sessions ≡ range_with_len 1 (length scenario.sections)
numbers-opened {P} scenario plan patience sessions sound scripts =
    sym (map-twice (λ (section : Section). section.no) (λ (s : Session P). s.section) sessions)
    ∙ ap (λ (all : List Section). map (λ (section : Section). section.no) all) (sym (sections-are plan patience scenario.sections sessions scripts))
    ∙ numbers-of 1 scenario.sections sound.numbered

-- so the passes of sessions that are over are in the order in which they can be gathered
pub passes-in_order : {P : Type 0} (is_own : P → Type 0) (shape : Shape) (known : P → Known) (sessions : List (Session P)) (passes : List P) (numbers : List ℕ)
    → map (λ s. s.section.no) sessions ≡ numbers → All (IsOver is_own shape known) sessions → passes ≡ map (λ s. s.pass) sessions → map (λ pass. (known pass).session) passes ≡ numbers
passes-in_order {P} is_own shape known sessions passes numbers are over is =
    ap (λ (ps : List P). map (λ (pass : P). (known pass).session) ps) is ∙ map-twice (λ (pass : P). (known pass).session) (λ (s : Session P). s.pass) sessions
    ∙ same-numbers known sessions (λ k d lt. (over k d lt).rested.stands.session) ∙ are

-- the passes of sessions that are over are the hub's
pub all-own : {P : Type 0} (is_own : P → Type 0) (shape : Shape) (known : P → Known) (sessions : List (Session P)) (passes : List P) → All (IsOver is_own shape known) sessions → passes ≡ map (λ s. s.pass) sessions → All is_own passes
all-own {P} is_own shape known sessions passes over is = All-same is_own passes (map (λ (s : Session P). s.pass) sessions) is (All-map is_own (λ (s : Session P). s.pass) sessions (λ k d lt. (over k d lt).own))

-- sessions that were opened for a scenario can run
pub all-ready : {P : Type 0} (is_own : P → Type 0) (shape : Shape) (known : P → Known) (sections : List Section) (plan : FlagPlan) (patience : ℕ) (sessions : List (Session P)) (passes : List P)
    → map (λ s. s.pass) sessions ≡ passes → All is_own passes → map script_of sessions ≡ map (script_for plan patience) sections → All (λ section. IsServedBy shape section plan) sections
    → All (HasRest shape known) sessions → All (IsReady is_own shape known) sessions
all-ready {P} is_own shape known sections plan patience sessions passes is own scripts served rested = λ k d lt. record {
  own = All-unmap is_own (λ (s : Session P). s.pass) sessions (All-same is_own (map (λ (s : Session P). s.pass) sessions) passes is own) k d lt;
  served = All-unmap (λ (script : Script). IsServedBy shape script.section script.plan) (λ (s : Session P). script_of s) sessions
      (All-same (λ (script : Script). IsServedBy shape script.section script.plan) (map script_of sessions) (map (script_for plan patience) sections) scripts
      (All-map (λ (script : Script). IsServedBy shape script.section script.plan) (script_for plan patience) sections served)) k d lt;
  rested = rested k d lt;
}

-- a journal that was merged from the traces of a legal run is its journal
pub merged-legal : (scenario : Scenario) (settings given : Settings) (journal merged : List Tx) (traces : List Trace) → settings ≡ given → Legal scenario settings journal traces
    → ((j : List Tx) → ShowsJournal j traces → merged ≡ j) → Legal scenario given merged traces
merged-legal scenario settings given journal merged traces e legal is =
    subst (λ (s : Settings). Legal scenario s merged traces) e
    (subst (λ (j : List Tx). Legal scenario settings j traces) (sym (is journal (legal-shows_journal scenario settings journal traces legal))) legal)

-- traces that were left bare where they lay
pub bare-back : (left was old : List Trace) (n : ℕ) → left ≡ map bare was → length was ≡ n → take n (left ++ old) ≡ map bare was
bare-back left was old n e as_many = written-back left old n (sym (ap (λ (ts : List Trace). length ts) e ∙ length-map was bare ∙ as_many)) ∙ e

-- the sessions of bare traces
pub bare-sessions : (traces : List Trace) → map (λ trace. trace.session) (map bare traces) ≡ map (λ trace. trace.session) traces
bare-sessions traces = map-twice (λ (trace : Trace). trace.session) bare traces

-- the passes of sessions, as they were taken out
pub passes-same : {P : Type 0} (known : P → Known) (sessions : List (Session P)) (passes : List P) → passes ≡ map (λ s. s.pass) sessions → passes_of known sessions ≡ map known passes
passes-same {P} known sessions passes is = sym (map-twice known (λ (s : Session P). s.pass) sessions) ∙ ap (λ (ps : List P). map known ps) (sym is)
