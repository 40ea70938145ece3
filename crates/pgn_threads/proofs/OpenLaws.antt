-- What the sessions of a sound scenario are given lets them run.
use Rattle.std.proofs.Common.{◌≡◌, ℕ, ◌+◌, ◌<◌, ◌≤◌, List, [], ◌∷◌, ◌++◌, length, map, drop, get_or, append-nil, append_assoc, All, sym, ap, ◌∙◌, refl, subst, arith}
use Rattle.std.proofs.lemmas.List.{length-map, map-append}
use Rattle.std.proofs.lemmas.List.Elements.{All-push, All-nil, All-cons, All-head, All-tail, All-same, All-weaker}
use Rattle.pgn_hub.specs.declared.known.Known.{Known}
use Rattle.pgn_language.specs.declared.scenario.Act.{Act}
use Rattle.pgn_language.specs.declared.scenario.Act.TheVariants.{Run, Signal, Await, Quit}
use Rattle.pgn_language.specs.declared.scenario.ScriptLine.{ScriptLine}
use Rattle.pgn_language.specs.declared.scenario.Section.{Section}
use Rattle.pgn_language.specs.declared.scenario.Scenario.{Scenario}
use Rattle.pgn_hub.specs.declared.setup.SeatSetup.{SeatSetup}
use Rattle.pgn_language.specs.Inputs.{AreNumbered, HasFlagBelow, IsSound, IsSoundSection}
use Rattle.pgn_hub.specs.Shape.{Shape}
use Rattle.pgn_hub.specs.Passes.{opened_pass, opened_passes}
use Rattle.pgn_session.specs.declared.doing.FlagPlan.{FlagPlan}
use Rattle.pgn_session.specs.declared.session.Session.{Session}
use Rattle.pgn_session.specs.Whole.{HasRest}
use Rattle.pgn_session.specs.Standing.{IsFlagBelow, IsServedBy}
use Rattle.pgn_threads.specs.Laws.{NamesFlagsBelow}
use Rattle.pgn_session.specs.Runs.{Script, script_of}
use Rattle.pgn_threads.specs.Opened.{seat_for, opened_for, script_for, HaveOpened, IsFit}

-- the passes as they are opened are those of the sections
pub opened-in_order : (n : ℕ) (sections : List Section) → AreNumbered n sections → opened_passes n (map seat_for sections) ≡ map opened_for sections
opened-in_order n [] h = refl
opened-in_order n (section ∷ sections) h =
    ap (λ (m : ℕ). opened_pass m (seat_for section) ∷ opened_passes (n + 1) (map seat_for sections)) (sym h.0)
    ∙ ap (λ (ks : List Known). opened_for section ∷ ks) (opened-in_order (n + 1) sections h.1)

-- no section has a greater number than there are
numbered-below : (n : ℕ) (sections : List Section) → AreNumbered n sections → All (λ section. section.no < n + length sections) sections
numbered-below n [] h = All-nil (λ (section : Section). section.no < n + 0)
numbered-below n (section ∷ sections) h =
    All-cons (λ (s : Section). s.no < n + length (section ∷ sections)) section sections (omega (arith, h.0))
    (All-weaker (λ (s : Section). s.no < (n + 1) + length sections) (λ (s : Section). s.no < n + length (section ∷ sections)) (λ s lt. omega (arith, lt)) sections (numbered-below (n + 1) sections h.1))

-- a flag below a number is below a greater one
flag-below : (m n : ℕ) (act : Act) → m ≤ n → HasFlagBelow m act → IsFlagBelow n act
flag-below m n (Run command) le h = tt
flag-below m n (Signal flag) le h = omega (arith, le, h)
flag-below m n (Await flag) le h = omega (arith, le, h)
flag-below m n Quit le h = tt

-- a hub with all of the flags serves each section
section-served : (shape : Shape) (plan : FlagPlan) (flags : ℕ) (section : Section) → plan.first_end ≡ flags → plan.first_end + plan.sessions ≤ shape.flags → section.no ≤ plan.sessions
    → IsSoundSection flags section → IsServedBy shape section plan
section-served shape plan flags section first ends below sound = record {
  acts = All-weaker (λ (line : ScriptLine). HasFlagBelow flags line.act) (λ (line : ScriptLine). IsFlagBelow shape.flags line.act)
      (λ line h. flag-below flags shape.flags line.act (omega (arith, first, ends)) h) section.lines sound.flags_known;
  ends = ends;
  session = below;
}

-- a hub with a sound scenario's flags and end flags serves each of its sections
pub all-served : (shape : Shape) (plan : FlagPlan) (scenario : Scenario) → plan.first_end ≡ length scenario.flags → plan.sessions ≡ length scenario.sections → plan.first_end + plan.sessions ≤ shape.flags
    → IsSound scenario → All (λ section. IsServedBy shape section plan) scenario.sections
all-served shape plan scenario first count ends sound = λ k d lt.
    let below : (get_or scenario.sections k d).no < 1 + length scenario.sections = numbered-below 1 scenario.sections sound.numbered k d lt in
    section-served shape plan (length scenario.flags) (get_or scenario.sections k d) first ends (omega (arith, below, count)) (sound.sections k d lt)

-- a session can be made for each section of a sound scenario
pub all-fit : (scenario : Scenario) → IsSound scenario → All IsFit scenario.sections
all-fit scenario sound = λ k d lt. record { quits_last = (sound.sections k d lt).quits_last; counted = omega (arith, (sound.sections k d lt).counted) }

-- the flags that the scripts name are below the end flags
pub all-named : (plan : FlagPlan) (scenario : Scenario) → plan.first_end ≡ length scenario.flags → IsSound scenario → All (NamesFlagsBelow plan.first_end) scenario.sections
all-named plan scenario first sound = λ k d lt.
    subst (λ (n : ℕ). NamesFlagsBelow n (get_or scenario.sections k d)) (sym first) (sound.sections k d lt).flags_known

-- a list of no elements is empty
pub none-left : {X : Type 0} (xs : List X) → length xs ≡ 0 → xs ≡ []
none-left [] e = refl
none-left (x ∷ xs) e = absurd (omega (arith, e))

-- sessions are made one after another
module _ {P : Type 0} (known : P → Known) (plan : FlagPlan) (patience : ℕ) (sections : List Section) (passes : List P) where
  -- at first there are none
  pub none-opened : (left : List Section) (over : List P) (sessions : List (Session P)) → left ≡ sections → over ≡ passes → sessions ≡ [] → All IsFit sections → map known passes ≡ map opened_for sections
      → HaveOpened known plan patience sections [] left passes over sessions
  none-opened left over sessions all all_passes none fit opened = record {
    cut = all;
    fit = All-same IsFit left sections all fit;
    whole = ap (λ (ss : List (Session P)). map (λ (s : Session P). s.pass) ss ++ over) none ∙ all_passes;
    rest = ap (λ (ps : List P). map known ps) all_passes ∙ opened ∙ ap (λ (ss : List Section). map opened_for ss) (sym all);
    scripts = ap (λ (ss : List (Session P)). map (λ (s : Session P). script_of s) ss) none;
    rested = λ shape. subst (λ (ss : List (Session P)). All (HasRest shape known) ss) (sym none) (All-nil (HasRest shape known));
  }

  module _ (done left : List Section) (over : List P) (sessions : List (Session P)) (section : Section) (more : List Section) (next : left ≡ section ∷ more) (h : HaveOpened known plan patience sections done left passes over sessions) where
    -- a session can be made for the next section
    pub is-fit : IsFit section
    is-fit = All-head IsFit section more (subst (λ (ss : List Section). All IsFit ss) next h.fit)

    rest-next : map known over ≡ opened_for section ∷ map opened_for more
    rest-next = h.rest ∙ ap (λ (ss : List Section). map opened_for ss) next

    -- a pass is left
    pub some-left : length over ≡ 0 → ⊥
    some-left none = omega (arith, none, length-map over known, ap (λ (ks : List Known). length ks) rest-next)

    -- a pass that is left is as it was opened for it
    pub is-opened : (pass : P) (rest : List P) → over ≡ pass ∷ rest → known pass ≡ opened_for section
    is-opened pass rest e = ap (λ (ks : List Known). get_or ks 0 (known pass)) (ap (λ (ps : List P). map known ps) (sym e) ∙ rest-next)

    -- a session more was made, for the next section and with the next pass
    pub one-opened : (pass : P) (rest : List P) (s : Session P) → over ≡ pass ∷ rest → s.pass ≡ pass → script_of s ≡ script_for plan patience section → ((shape : Shape) → HasRest shape known s)
        → HaveOpened known plan patience sections (done ++ section ∷ []) more passes rest (sessions ++ s ∷ [])
    one-opened pass rest s e is script rested = record {
      cut = append_assoc done (section ∷ []) more ∙ ap (λ (ss : List Section). done ++ ss) (sym next) ∙ h.cut;
      fit = All-tail IsFit section more (subst (λ (ss : List Section). All IsFit ss) next h.fit);
      whole =
          ap (λ (ps : List P). ps ++ rest) (map-append (λ (t : Session P). t.pass) sessions (s ∷ []))
          ∙ append_assoc (map (λ (t : Session P). t.pass) sessions) (s.pass ∷ []) rest
          ∙ ap (λ (p : P). map (λ (t : Session P). t.pass) sessions ++ p ∷ rest) is
          ∙ ap (λ (ps : List P). map (λ (t : Session P). t.pass) sessions ++ ps) (sym e) ∙ h.whole;
      rest = ap (λ (ks : List Known). drop 1 ks) (ap (λ (ps : List P). map known ps) (sym e) ∙ rest-next);
      scripts =
          map-append (λ (t : Session P). script_of t) sessions (s ∷ [])
          ∙ ap (λ (x : Script). map (λ (t : Session P). script_of t) sessions ++ x ∷ []) script
          ∙ ap (λ (scripts : List Script). scripts ++ script_for plan patience section ∷ []) h.scripts
          ∙ sym (map-append (script_for plan patience) done (section ∷ []));
      rested = λ shape. All-push (HasRest shape known) sessions s (h.rested shape) (rested shape);
    }

  module _ (done left : List Section) (over : List P) (sessions : List (Session P)) (none : left ≡ []) (h : HaveOpened known plan patience sections done left passes over sessions) where
    -- once there is a session for each section, each pass is in one, in order
    pub all-opened : map (λ s. s.pass) sessions ≡ passes
    all-opened =
        let rest : map known over ≡ [] = h.rest ∙ ap (λ (ss : List Section). map opened_for ss) none in
        sym (append-nil (map (λ (s : Session P). s.pass) sessions))
        ∙ ap (λ (ps : List P). map (λ (s : Session P). s.pass) sessions ++ ps) (sym (none-left over (omega (arith, ap (λ (ks : List Known). length ks) rest, length-map over known))))
        ∙ h.whole

    -- and each has its section's script
    pub all-scripts : map script_of sessions ≡ map (script_for plan patience) sections
    all-scripts = h.scripts ∙ ap (λ (ss : List Section). map (script_for plan patience) ss) (sym (append-nil done) ∙ ap (λ (ss : List Section). done ++ ss) (sym none) ∙ h.cut)

-- what a session was given, by its parts
pub same-script : {P : Type 0} (s : Session P) (plan : FlagPlan) (patience : ℕ) (section : Section) → s.section ≡ section → s.plan ≡ plan → s.patience ≡ patience → script_of s ≡ script_for plan patience section
same-script s plan patience section e1 e2 e3 =
    ap (λ (x : Section). let t : Script = record { section = x; plan = s.plan; patience = s.patience } in t) e1
    ∙ ap (λ (x : FlagPlan). let t : Script = record { section = section; plan = x; patience = s.patience } in t) e2
    ∙ ap (λ (x : ℕ). let t : Script = record { section = section; plan = plan; patience = x } in t) e3

-- the passes of a hub that was opened with the seats of the sections
pub passes-opened : {P : Type 0} (known : P → Known) (passes : List P) (seats given : List SeatSetup) (sections all : List Section) → map known passes ≡ opened_passes 1 seats → seats ≡ given → given ≡ map seat_for sections
    → sections ≡ all → AreNumbered 1 all → map known passes ≡ map opened_for sections
passes-opened known passes seats given sections all is e1 e2 e3 numbered =
    is ∙ ap (λ (s : List SeatSetup). opened_passes 1 s) (e1 ∙ e2) ∙ opened-in_order 1 sections (subst (λ (ss : List Section). AreNumbered 1 ss) (sym e3) numbered)
