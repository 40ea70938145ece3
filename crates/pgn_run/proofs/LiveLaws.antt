-- From what came of a live run and what was written behind it to what its outcome says.
use Rattle.std.proofs.Common.{◌≡◌, ℕ, zero, suc, ◌+◌, ◌<◌, ◌≤◌, Bool, cond, List, [], ◌∷◌, ◌++◌, length, map, drop, get_or, Option, Some, None, Result, Ok, Err, All, sym, ap, ◌∙◌, refl, subst, inl, inr, min, add-one, drop-cons, arith, append_assoc, append-nil}
use Rattle.std.specs.List.{range_with_len}
use Rattle.std.specs.Io.KnownBytes.{Appends}
use Rattle.std.proofs.lemmas.Bool.Decides.{eqb_tells}
use Rattle.std.proofs.lemmas.Bool.{cases_lt}
use Rattle.std.proofs.lemmas.List.{drop_all, length-map}
use Rattle.std.proofs.lemmas.List.Elements.{All-head, All-tail}
use Rattle.pgn_base.specs.Outside.{AppendsPrefix, Rose}
use Rattle.pgn_base.specs.declared.format.Format.{Format}
use Rattle.pgn_journal.specs.declared.tx.Tx.{Tx}
use Rattle.pgn_language.specs.declared.scenario.Scenario.{Scenario}
use Rattle.pgn_language.specs.declared.scenario.Section.{Section}
use Rattle.pgn_language.specs.Inputs.{AreNumbered, IsSound}
use Rattle.pgn_model.specs.Legal.{Legal}
use Rattle.pgn_model.specs.Walk.{Settings, Terms}
use Rattle.pgn_hub.specs.Shape.{Shape}
use Rattle.pgn_session.specs.declared.doing.FlagPlan.{FlagPlan}
use Rattle.pgn_session.specs.declared.session.Session.{Session}
use Rattle.pgn_session.specs.Standing.{terms_of}
use Rattle.pgn_session.specs.Runs.{AreLawful, IsLawful, Script, script_of, shown_of}
use Rattle.pgn_threads.specs.Opened.{AreOpenedFor, plan_for, script_for, seat_for, shape_for}
use Rattle.pgn_threads.proofs.WholeLaws.{numbers-opened, sections-are}
use Rattle.pgn_run.specs.declared.status.Status.{Status}
use Rattle.pgn_run.specs.declared.status.Status.TheVariants.{Done, WriteFault}
use Rattle.pgn_run.specs.Run.{HasWritten, settings_with}
use Rattle.pgn_model.specs.declared.item.Item.{Item}
use Rattle.pgn_model.specs.declared.trace.Trace.{Trace}
use Rattle.pgn_threads.specs.Drain.{EachMayEndWithRead, MayEndWithRead}
use Rattle.pgn_live.specs.Cames.{Came, items_of}
use Rattle.pgn_live.specs.Lives.{AreWhole, ComesFirst, ComesWhole, came_from, log_of_trace, logs_of, tagged}
use Rattle.pgn_live.specs.declared.lives.LiveFault.{LiveFault}
use Rattle.pgn_live.specs.declared.lives.LiveFault.TheVariants.{Write}
use Rattle.pgn_live.specs.Playing.{sections_of}
use Rattle.pgn_live.proofs.CameLaws.{items_of-append}
use Rattle.pgn_live.proofs.WriteLaws.{tagged-append}
use Rattle.pgn_run.specs.Live.{AreLawfulLogs, EarlyOver, EndsOver, LiveOver, SoFarOver, counts_of, end_text, lasts}

-- Texts, one after another.

-- what was written and then more is all of it written
pub Appends-more : (old mid new : Option (List ℕ)) (first second : List ℕ) → Appends old mid first → Appends mid new second → Appends old new (first ++ second)
Appends-more None mid new first second a b = tt
Appends-more (Some xs) None new first second a b = absurd a
Appends-more (Some xs) (Some ys) None first second a b = absurd b
Appends-more (Some xs) (Some ys) (Some zs) first second a b = b ∙ ap (λ (t : List ℕ). t ++ second) a ∙ append_assoc xs first second

-- what was written and then a prefix of more is a prefix of all of it
pub Appends-prefix : (old mid new : Option (List ℕ)) (first second : List ℕ) → Appends old mid first → AppendsPrefix mid new second → AppendsPrefix old new (first ++ second)
Appends-prefix None mid new first second a b = tt
Appends-prefix (Some xs) None new first second a b = absurd a
Appends-prefix (Some xs) (Some ys) None first second a b = absurd b
Appends-prefix (Some xs) (Some ys) (Some zs) first second a b = (
  first ++ b.0,
  b.1,
  ap (λ (t : List ℕ). first ++ t) b.2 ∙ sym (append_assoc first b.0 b.1),
  b.3 ∙ ap (λ (t : List ℕ). t ++ b.0) a ∙ append_assoc xs first b.0,
)

-- Items by session.

-- lists of items, of sessions numbered from this number on
abbrev pub numbered : ℕ → List (List Item) → List Came
numbered k [] = []
numbered k (items ∷ lists) = came_from k items ∷ numbered (k + 1) lists

none-before : (n k : ℕ) (lists : List (List Item)) → n < k → items_of n (numbered k lists) ≡ []
none-before n k [] lt = refl
none-before n k (items ∷ lists) lt = elim (eqb_tells k n) [
  | inl same ↦ absurd (omega (arith, lt, same.1))
  | inr other ↦ ap (λ (b : Bool). cond b items [] ++ items_of n (numbered (k + 1) lists)) other.0 ∙ none-before n (k + 1) lists (omega (arith, lt))
]

-- what lists of items have come to, each with more behind it
pub data Grown : List (List Item) → List (List Item) → List (List Item) → Type 0 where
  NoneGrown : Grown [] [] []
  OneGrown : (items more : List Item) (before behind after : List (List Item)) → Grown before behind after → Grown (items ∷ before) (more ∷ behind) ((items ++ more) ∷ after)

-- the items of a session before, and then those behind them, are its items after
pub grown-items : (n k : ℕ) (before behind after : List (List Item)) → Grown before behind after → items_of n (numbered k before) ++ items_of n (numbered k behind) ≡ items_of n (numbered k after)
grown-items n k _ _ _ NoneGrown = refl
grown-items n k _ _ _ (OneGrown items more before behind after h) = elim (eqb_tells k n) [
  | inl same ↦
      let later : n < k + 1 = omega (arith, same.1) in
      let none : (lists : List (List Item)) → items_of n (numbered (k + 1) lists) ≡ [] = λ lists. none-before n (k + 1) lists later in
      ap (λ (b : Bool). (cond b items [] ++ items_of n (numbered (k + 1) before)) ++ (cond b more [] ++ items_of n (numbered (k + 1) behind))) same.0
      ∙ ap (λ (t : List Item). (items ++ t) ++ (more ++ items_of n (numbered (k + 1) behind))) (none before)
      ∙ ap (λ (t : List Item). (items ++ []) ++ (more ++ t)) (none behind)
      ∙ ap (λ (t : List Item). t ++ (more ++ [])) (append-nil items) ∙ ap (λ (t : List Item). items ++ t) (append-nil more)
      ∙ sym (append-nil (items ++ more)) ∙ ap (λ (t : List Item). (items ++ more) ++ t) (sym (none after))
      ∙ ap (λ (b : Bool). cond b (items ++ more) [] ++ items_of n (numbered (k + 1) after)) (sym same.0)
  | inr other ↦
      ap (λ (b : Bool). (cond b items [] ++ items_of n (numbered (k + 1) before)) ++ (cond b more [] ++ items_of n (numbered (k + 1) behind))) other.0
      ∙ grown-items n (k + 1) before behind after h
      ∙ ap (λ (b : Bool). cond b (items ++ more) [] ++ items_of n (numbered (k + 1) after)) (sym other.0)
]

-- What stands behind the items that were there.

behind-read : (before after : List Item) → MayEndWithRead before after → after ≡ before ++ drop (length before) after
behind-read before after h = elim h [
  | inl same ↦ same ∙ sym (append-nil before) ∙ ap (λ (t : List Item). before ++ t) (sym (behind-all before) ∙ ap (λ (t : List Item). drop (length before) t) (sym same))
  | inr more ↦ more.shown ∙ ap (λ (t : List Item). before ++ t) (sym (behind-front before _) ∙ ap (λ (t : List Item). drop (length before) t) (sym more.shown))
]
  where
    behind-all : (xs : List Item) → drop (length xs) xs ≡ []
    behind-all [] = refl
    behind-all (x ∷ xs) = behind-all xs

    behind-front : (xs ys : List Item) → drop (length xs) (xs ++ ys) ≡ ys
    behind-front [] ys = refl
    behind-front (x ∷ xs) ys = behind-front xs ys

-- the items behind those that were there, of each trace
abbrev pub behinds : List (List Item) → List (List Item) → List (List Item)
behinds [] after = []
behinds (items ∷ before) [] = []
behinds (items ∷ before) (all ∷ after) = drop (length items) all ∷ behinds before after

-- what may end with a read has come to what it is by the items behind those that were there
pub reads-grown : (before after : List (List Item)) → EachMayEndWithRead before after → Grown before (behinds before after) after
reads-grown [] [] h = NoneGrown
reads-grown [] (all ∷ after) h = absurd (omega (arith, h.count))
reads-grown (items ∷ before) [] h = absurd (omega (arith, h.count))
reads-grown (items ∷ before) (all ∷ after) h =
    subst (λ (t : List Item). Grown (items ∷ before) (drop (length items) all ∷ behinds before after) (t ∷ after)) (sym (behind-read items all (h.each 0)))
    (OneGrown items (drop (length items) all) before (behinds before after) after (reads-grown before after (record { count = omega (arith, h.count); each = λ j. h.each (suc j) })))

-- Traces of sessions that are numbered.

-- the records of such traces are those of their items
pub traces-numbered : (k : ℕ) (traces : List Trace) → map (λ trace. trace.session) traces ≡ range_with_len k (length traces) → map log_of_trace traces ≡ numbered k (map (λ trace. trace.items) traces)
traces-numbered k [] e = refl
traces-numbered k (trace ∷ traces) e =
    let first : trace.session ≡ k = cc in
    let rest : map (λ (t : Trace). t.session) traces ≡ range_with_len (k + 1) (length traces) = cc in
    ap (λ (n : ℕ). came_from n trace.items ∷ map log_of_trace traces) first ∙ ap (λ (t : List Came). came_from k trace.items ∷ t) (traces-numbered (k + 1) traces rest)

-- and what came last in each is what stands behind the items that were there
pub lasts-numbered : (k : ℕ) (before : List (List Item)) (traces : List Trace) → map (λ trace. trace.session) traces ≡ range_with_len k (length traces)
    → lasts (map (λ items. length items) before) traces ≡ numbered k (behinds before (map (λ trace. trace.items) traces))
lasts-numbered k [] traces e = refl
lasts-numbered k (items ∷ before) [] e = refl
lasts-numbered k (items ∷ before) (trace ∷ traces) e =
    let first : trace.session ≡ k = cc in
    let rest : map (λ (t : Trace). t.session) traces ≡ range_with_len (k + 1) (length traces) = cc in
    ap (λ (n : ℕ). came_from n (drop (length items) trace.items) ∷ lasts (map (λ (i : List Item). length i) before) traces) first
    ∙ ap (λ (t : List Came). came_from k (drop (length items) trace.items) ∷ t) (lasts-numbered (k + 1) before traces rest)

-- What comes last of each session, one after another.

lasts-next : (told : List ℕ) (traces : List Trace) (i : ℕ) (trace : Trace) → i < length told → i < length traces → trace ≡ get_or traces i trace
    → lasts (drop i told) (drop i traces) ≡ came_from trace.session (drop (get_or told i 0) trace.items) ∷ lasts (drop (i + 1) told) (drop (i + 1) traces)
lasts-next told traces i trace h k f =
    let n : ℕ = get_or told i 0 in
    let first : drop i told ≡ n ∷ drop (i + 1) told = drop-cons told i 0 h ∙ ap (λ (j : ℕ). n ∷ drop j told) (sym (add-one i)) in
    let second : drop i traces ≡ trace ∷ drop (i + 1) traces = drop-cons traces i trace k ∙ ap (λ (t : Trace). t ∷ drop (suc i) traces) (sym f) ∙ ap (λ (j : ℕ). trace ∷ drop j traces) (sym (add-one i)) in
    ap (λ (ns : List ℕ). lasts ns (drop i traces)) first ∙ ap (λ (ts : List Trace). lasts (n ∷ drop (i + 1) told) ts) second

-- the lines that come last are those of one trace and then those of the traces behind it
pub tagged-next : (sections : List Section) (told : List ℕ) (traces : List Trace) (i : ℕ) (trace : Trace) → i < length told → i < length traces → trace ≡ get_or traces i trace
    → tagged sections (lasts (drop i told) (drop i traces)) ≡ tagged sections (came_from trace.session (drop (get_or told i 0) trace.items) ∷ []) ++ tagged sections (lasts (drop (i + 1) told) (drop (i + 1) traces))
tagged-next sections told traces i trace h k f =
    ap (λ (cames : List Came). tagged sections cames) (lasts-next told traces i trace h k f)
    ∙ tagged-append sections (came_from trace.session (drop (get_or told i 0) trace.items) ∷ []) (lasts (drop (i + 1) told) (drop (i + 1) traces))

no-lasts : (told : List ℕ) → lasts told [] ≡ []
no-lasts [] = refl
no-lasts (n ∷ told) = refl

-- behind the last trace no lines come
pub lasts-end : (sections : List Section) (told : List ℕ) (traces : List Trace) (i : ℕ) → min (length told) (length traces) ≤ i → tagged sections (lasts (drop i told) (drop i traces)) ≡ []
lasts-end sections told traces i h = elim (cases_lt i (length told)) [
  | inl k ↦ ap (λ (ts : List Trace). tagged sections (lasts (drop i told) ts)) (drop_all i traces (omega arith)) ∙ ap (λ (cames : List Came). tagged sections cames) (no-lasts (drop i told))
  | inr k ↦ ap (λ (ns : List ℕ). tagged sections (lasts ns (drop i traces))) (drop_all i told k)
]

-- A run whose sessions are over.

length-range : (k m : ℕ) → length (range_with_len k m) ≡ m
length-range k zero = refl
length-range k (suc m) = ap suc (length-range (k + 1) m)

-- numbers in a row, as many as there are
as-many : (k m : ℕ) (numbers : List ℕ) → numbers ≡ range_with_len k m → numbers ≡ range_with_len k (length numbers)
as-many k m numbers e = e ∙ ap (λ (n : ℕ). range_with_len k n) (sym (ap (λ (ns : List ℕ). length ns) e ∙ length-range k m))

sessions-numbered : {Q : Type 0} (k : ℕ) (sessions : List (Session Q)) → map (λ s. s.section.no) sessions ≡ range_with_len k (length sessions) → logs_of sessions ≡ numbered k (map shown_of sessions)
sessions-numbered k [] e = refl
sessions-numbered {Q} k (s ∷ sessions) e =
    let first : s.section.no ≡ k = cc in
    let rest : map (λ (t : Session Q). t.section.no) sessions ≡ range_with_len (k + 1) (length sessions) = cc in
    ap (λ (n : ℕ). came_from n s.items.items ∷ logs_of sessions) first ∙ ap (λ (t : List Came). came_from k s.items.items ∷ t) (sessions-numbered (k + 1) sessions rest)

counts-are : {Q : Type 0} (sessions : List (Session Q)) → counts_of sessions ≡ map (λ items. length items) (map shown_of sessions)
counts-are [] = refl
counts-are (s ∷ sessions) = ap (λ (ns : List ℕ). length s.items.items ∷ ns) (counts-are sessions)

module _ {Q : Type 0} (scenario : Scenario) (shape : Shape) (sessions : List (Session Q)) (journal : List Tx) (traces : List Trace) (seats : ℕ)
    (legal : (pages patience : ℕ) (format : Format) → AreOpenedFor scenario pages patience format shape sessions → Legal scenario (settings_with pages patience format) journal traces)
    (all : map (λ s. s.section.no) sessions ≡ range_with_len 1 seats) (named : map (λ trace. trace.session) traces ≡ map (λ s. s.section.no) sessions)
    (shown : EachMayEndWithRead (map shown_of sessions) (map (λ trace. trace.items) traces)) where
  own-numbers : map (λ s. s.section.no) sessions ≡ range_with_len 1 (length sessions)
  own-numbers = as-many 1 seats (map (λ (s : Session Q). s.section.no) sessions) all ∙ ap (λ (n : ℕ). range_with_len 1 n) (length-map sessions (λ (s : Session Q). s.section.no))

  trace-numbers : map (λ trace. trace.session) traces ≡ range_with_len 1 (length traces)
  trace-numbers = as-many 1 seats (map (λ (trace : Trace). trace.session) traces) (named ∙ all) ∙ ap (λ (n : ℕ). range_with_len 1 n) (length-map traces (λ (trace : Trace). trace.session))

  all-shown : AreWhole (map log_of_trace traces) (logs_of sessions ++ lasts (counts_of sessions) traces)
  all-shown n =
      let before : List (List Item) = map shown_of sessions in
      let after : List (List Item) = map (λ (trace : Trace). trace.items) traces in
      let told : lasts (counts_of sessions) traces ≡ numbered 1 (behinds before after) = ap (λ (ns : List ℕ). lasts ns traces) (counts-are sessions) ∙ lasts-numbered 1 before traces trace-numbers in
      items_of-append n (logs_of sessions) (lasts (counts_of sessions) traces)
      ∙ ap (λ (cames : List Came). items_of n cames ++ items_of n (lasts (counts_of sessions) traces)) (sessions-numbered 1 sessions own-numbers)
      ∙ ap (λ (cames : List Came). items_of n (numbered 1 before) ++ items_of n cames) told
      ∙ grown-items n 1 before (behinds before after) after (reads-grown before after shown)
      ∙ ap (λ (cames : List Came). items_of n cames) (sym (traces-numbered 1 traces trace-numbers))

  -- a text is that of a live run, where P holds of the last reads with the end behind them
  pub ends-over : (P : List ℕ → Type 0) → P (tagged scenario.sections (lasts (counts_of sessions) traces) ++ end_text scenario journal traces) → EndsOver scenario shape sessions P
  ends-over P output = record { journal = journal; traces = traces; last = lasts (counts_of sessions) traces; legal = legal; whole = all-shown; output = output }

  module _ (told : List ℕ) (is : told ≡ counts_of sessions) (old new : Option (List ℕ)) (before now : ℕ) (status : Status)
      (written : HasWritten (tagged scenario.sections (lasts told traces) ++ end_text scenario journal traces) old new before now status) where
    outcome : (other : Status) → status ≡ other → HasWritten (tagged scenario.sections (lasts (counts_of sessions) traces) ++ end_text scenario journal traces) old new before now other
    outcome other e =
        subst (λ (ns : List ℕ). HasWritten (tagged scenario.sections (lasts ns traces) ++ end_text scenario journal traces) old new before now other) is
        (subst (λ (s : Status). HasWritten (tagged scenario.sections (lasts told traces) ++ end_text scenario journal traces) old new before now s) e written)

    -- what was written behind the lines of the sessions
    pub ends-done : status ≡ Done → EndsOver scenario shape sessions (Appends old new)
    ends-done e = ends-over (Appends old new) (outcome Done e)

    -- after a write fault a prefix of what stands at the end of a live run was written
    pub ends-prefix : status ≡ WriteFault → EndsOver scenario shape sessions (AppendsPrefix old new)
    ends-prefix e = ends-over (AppendsPrefix old new) (outcome WriteFault e).0

-- A whole live run.

-- what came while the sessions ran, and what came last
pub live-over : {Q : Type 0} (scenario : Scenario) (shape : Shape) (pages patience : ℕ) (format : Format) (sessions : List (Session Q)) (R P S : List ℕ → Type 0) → AreOpenedFor scenario pages patience format shape sessions
    → ((first second : List ℕ) → R first → S second → P (first ++ second)) → ComesWhole scenario.sections (logs_of sessions) R → EndsOver scenario shape sessions S → LiveOver scenario (settings_with pages patience format) P
live-over scenario shape pages patience format sessions R P S opened join came ends = record {
  journal = ends.journal;
  traces = ends.traces;
  cames = came.cames ++ ends.last;
  legal = ends.legal pages patience format opened;
  whole = λ n.
      items_of-append n came.cames ends.last ∙ ap (λ (items : List Item). items ++ items_of n ends.last) (came.whole n)
      ∙ sym (items_of-append n (logs_of sessions) ends.last) ∙ ends.whole n;
  output =
      subst P (sym (append_assoc (tagged scenario.sections came.cames) (tagged scenario.sections ends.last) (end_text scenario ends.journal ends.traces))
      ∙ ap (λ (t : List ℕ). t ++ end_text scenario ends.journal ends.traces) (sym (tagged-append scenario.sections came.cames ends.last)))
      (join (tagged scenario.sections came.cames) (tagged scenario.sections ends.last ++ end_text scenario ends.journal ends.traces) came.output ends.output);
}

-- what each session has shown is lawful, by its section
pub logs-lawful : {Q : Type 0} (shape : Shape) (settings : Settings) (plan : FlagPlan) (patience : ℕ) (sections : List Section) (sessions : List (Session Q))
    → record { format = shape.format; limit = shape.pages; patience = patience } ≡ settings → map script_of sessions ≡ map (script_for plan patience) sections
    → All (IsLawful shape) sessions → AreLawfulLogs settings sections (logs_of sessions)
logs-lawful shape settings plan patience [] [] same scripts lawful = tt
logs-lawful shape settings plan patience [] (s ∷ sessions) same scripts lawful = absurd (cc)
logs-lawful shape settings plan patience (section ∷ sections) [] same scripts lawful = absurd (cc)
logs-lawful {Q} shape settings plan patience (section ∷ sections) (s ∷ sessions) same scripts lawful =
    let first : script_of s ≡ script_for plan patience section = cc in
    let rest : map script_of sessions ≡ map (script_for plan patience) sections = cc in
    let its : s.section ≡ section = ap (λ (script : Script). script.section) first in
    let looks : s.patience ≡ patience = ap (λ (script : Script). script.patience) first in
    let terms : terms_of shape s.section s.patience ≡ record { section = section; settings = settings } =
    ap (λ (at : Section). terms_of shape at s.patience) its ∙ ap (λ (n : ℕ). terms_of shape section n) looks ∙ ap (λ (given : Settings). let t : Terms = record { section = section; settings = given } in t) same in (
      ap (λ (at : Section). at.no) its,
      subst (λ (t : Terms). AreLawful t s.items.items) terms (All-head (IsLawful shape) s sessions lawful),
      logs-lawful shape settings plan patience sections sessions same rest (All-tail (IsLawful shape) s sessions lawful),
    )

-- Sessions that were opened for a scenario, and have run since.

module _ {Q : Type 0} (scenario : Scenario) (shape : Shape) (pages patience : ℕ) (format : Format) (new : List (Session Q)) (sound : IsSound scenario) (opened : shape ≡ shape_for scenario pages format)
    (scripts : map script_of new ≡ map (script_for (plan_for scenario) patience) scenario.sections) where
  -- the sessions are still as they were opened for the scenario
  pub still-opened : AreOpenedFor scenario pages patience format shape new
  still-opened = record { sound = sound; opened = opened; scripts = scripts }

  sections-same : scenario.sections ≡ sections_of new
  sections-same = sections-are (plan_for scenario) patience scenario.sections new scripts

  -- their sections are still numbered from 1
  pub still-numbered : AreNumbered 1 (sections_of new)
  still-numbered = subst (λ (sections : List Section). AreNumbered 1 sections) sections-same sound.numbered

  -- they are still no more than 256
  pub still-few : length new ≤ 256
  still-few =
      let as_many : length scenario.sections ≡ length new = ap (λ (sections : List Section). length sections) sections-same ∙ length-map new (λ (s : Session Q). s.section) in
      omega (arith, as_many, sound.few)

  -- their numbers are those of all seats
  pub all-numbers : map (λ s. s.section.no) new ≡ range_with_len 1 (length shape.seats)
  all-numbers =
      numbers-opened scenario (plan_for scenario) patience new sound scripts
      ∙ ap (λ n. range_with_len 1 n) (sym (ap (λ (s : Shape). length s.seats) opened ∙ length-map scenario.sections seat_for))

  all-lawful : All (IsLawful shape) new → AreLawfulLogs (settings_with pages patience format) scenario.sections (logs_of new)
  all-lawful lawful =
      logs-lawful shape (settings_with pages patience format) (plan_for scenario) patience scenario.sections new
      (ap (λ (s : Shape). let given : Settings = record { format = s.format; limit = s.pages; patience = patience } in given) opened) scripts lawful

  -- what their outcome says where a write failed, and where memory did not suffice
  pub early-over : (P : List ℕ → Type 0) → All (IsLawful shape) new → ComesWhole scenario.sections (logs_of new) P → EarlyOver scenario (settings_with pages patience format) P
  early-over P lawful came = record { logs = logs_of new; cames = came.cames; lawful = all-lawful lawful; whole = came.whole; output = came.output }

  -- lawful sessions of which the first items were shown are a live run so far
  pub so_far-over : (P : List ℕ → Type 0) → All (IsLawful shape) new → ComesFirst scenario.sections (logs_of new) P → SoFarOver scenario (settings_with pages patience format) P
  so_far-over P lawful came = record { logs = logs_of new; cames = came.cames; lawful = all-lawful lawful; first = came.first; output = came.output }

-- all that came are the first items too
pub whole-first : (sections : List Section) (logs : List Came) (P : List ℕ → Type 0) → ComesWhole sections logs P → ComesFirst sections logs P
whole-first sections logs P came = record { cames = came.cames; first = λ n. record { more = []; split = sym (came.whole n) ∙ sym (append-nil (items_of n came.cames)) }; output = came.output }

-- a count that does not fall here, nor behind, does not fall
pub later-from : (before mid now : ℕ) → before ≤ mid → mid ≤ now → before ≤ now
later-from before mid now first second = omega (arith, first, second)

-- what rose behind rose from before
pub rose-from : (before mid now : ℕ) → before ≤ mid → Rose mid now → Rose before now
rose-from before mid now later (inl less) = inl (omega (arith, later, less))
rose-from before mid now later (inr last) = inr last

-- a count that has not risen up to here rises behind
pub due-behind : {A : Type 0} (before mid now : ℕ) (r : Result A LiveFault) (a : A) → r ≡ Ok a → (before < mid → r ≡ Err Write) → before < now → mid < now
due-behind before mid now r a is due less = elim (cases_lt before mid) [
  | inl risen ↦ let same : Ok a ≡ Err Write = sym is ∙ due risen in absurd (cc)
  | inr still ↦ omega (arith, still, less)
]
