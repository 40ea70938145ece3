-- A step of a whole session by a command: what the block answers at once, what the hub shows, and a commit that was handed out.
use Rattle.std.proofs.Common.{◌≡◌, inl, ℕ, ◌+◌, List, [], ◌∷◌, ◌++◌, length, drop, None, Result, Ok, Err, IfOk, OnErr, All, sym, ap, ◌∙◌, refl, subst, append-nil, append_assoc}
use Rattle.std.proofs.lemmas.List.Elements.{All-nil, All-cons, All-head}
use Rattle.pgn_base.specs.declared.note.Note.{Note}
use Rattle.pgn_base.specs.declared.answers.Tag.{Tag}
use Rattle.pgn_base.specs.declared.answers.Tag.TheVariants as tag
use Rattle.pgn_base.specs.declared.action.Action.{Action}
use Rattle.pgn_base.specs.declared.command.Command.{Command}
use Rattle.pgn_language.specs.declared.scenario.Act.TheVariants.{Run}
use Rattle.pgn_language.specs.declared.scenario.ScriptLine.{ScriptLine}
use Rattle.pgn_model.specs.declared.item.Item.{Item}
use Rattle.pgn_model.specs.declared.item.Item.TheVariants as item
use Rattle.pgn_hub.specs.declared.known.Known.{Known}
use Rattle.pgn_hub.specs.Shape.{Shape}
use Rattle.pgn_model.specs.Walk.{Terms}
use Rattle.pgn_block.specs.Views.{BlockView}
use Rattle.pgn_block.specs.declared.effect.Kind.TheVariants.{ListeningChannels, QueueUsage}
use Rattle.pgn_block.specs.declared.effect.Effect.{Effect}
use Rattle.pgn_block.specs.declared.effect.Effect.TheVariants as effect
use Rattle.pgn_session.specs.declared.session.Session.{Session}
use Rattle.pgn_session.specs.declared.commit.Commit.{Commit}
use Rattle.pgn_session.specs.declared.command.Left.TheVariants as left
use Rattle.pgn_session.specs.declared.doing.Step.{Step}
use Rattle.pgn_session.specs.declared.doing.Step.TheVariants.{Did}
use Rattle.pgn_session.specs.declared.doing.Doing.{Doing}
use Rattle.pgn_session.specs.declared.doing.Doing.TheVariants.{Lines, Committing}
use Rattle.pgn_session.specs.Parts.{HasTaken, HasShownUsage, answered_items, IsToldByBlock}
use Rattle.pgn_session.specs.FirstRead.{HasReadFor}
use Rattle.pgn_session.specs.Standing.{terms_of, IsAnswered, IsRested}
use Rattle.pgn_session.specs.Commits.{left_of}
use Rattle.pgn_session.specs.Steps.{ShowsLine, ShowsNext, StandsStill, IsWithoutHub, IsNoLine}
use Rattle.pgn_session.specs.Whole.{ComesWith, HasAnswer, HasRest, HasStepped, HasRefused}
use Rattle.pgn_session.proofs.BlockLaws.{block-answered}
use Rattle.pgn_session.proofs.UsageLaws.{usage-answered}
use Rattle.pgn_session.proofs.CommitLaws.{handed-out}
use Rattle.pgn_session.proofs.WholeLaws.{line-did, line-stepped}

one : (shown : Item) → IsNoLine shown → All IsNoLine (shown ∷ [])
one shown none = All-cons IsNoLine shown [] none (All-nil IsNoLine)

-- what the block answers shows its line, and leaves the pass as it was
told-shows : (k q : Known) (items : List Item) (line : ℕ) (set : List (List ℕ)) (e : Effect) → IsToldByBlock e → q ≡ k → ShowsLine line k q items (answered_items items line set e)
told-shows k q items line set effect.Nothing h is = record { more = []; shown = sym (append-nil _); one_line = All-nil IsNoLine; untouched = λ all. inl is }
told-shows k q items line set (effect.Reply done warning) h is = record { more = item.Reply done warning ∷ []; shown = refl; one_line = one (item.Reply done warning) tt; untouched = λ all. inl is }
told-shows k q items line set (effect.Refuse refusal) h is = record { more = item.Refuse refusal ∷ []; shown = refl; one_line = one (item.Refuse refusal) tt; untouched = λ all. inl is }
told-shows k q items line set (effect.Query ListeningChannels) h is =
    record {
      more = item.Channels set ∷ [] ++ item.Reply (tag.Select (length set)) None ∷ [];
      shown = append_assoc (items ++ item.Line line ∷ []) (item.Channels set ∷ []) (item.Reply (tag.Select (length set)) None ∷ []);
      one_line = All-cons IsNoLine (item.Channels set) (item.Reply (tag.Select (length set)) None ∷ []) tt (one (item.Reply (tag.Select (length set)) None) tt);
      untouched = λ all. inl is;
    }
told-shows k q items line set (effect.Query QueueUsage) h is = absurd h
told-shows k q items line set (effect.Commit actions notes done) h is = absurd h

-- a line that the block alone answers
pub told-stepped : {P : Type 0} (shape : Shape) (known : P → Known) (s n : Session P) (line : ℕ) (command : Command) (next : BlockView) (e : Effect) (step : Step) → ComesWith s line (Run command) → s.doing ≡ Lines → HasRest shape known s → HasReadFor (Run command) s.block.state (known s.pass)
    → HasTaken s.block command e next → IsToldByBlock e → n ≡ record s { block = next; items = n.items; done = s.done + 1 } → n.items.items ≡ answered_items s.items.items line s.set.channels e → step ≡ Did → HasStepped shape known s Lines n step
told-stepped {P} shape known s n line command next e step comes between rested first taken told same shown did =
    let terms : Terms = terms_of shape s.section s.patience in
    let at : IsRested terms s.plan s.done s.block s.set.channels Lines (known s.pass) s.items.items =
    subst (λ (d : Doing). IsRested terms s.plan s.done s.block s.set.channels d (known s.pass) s.items.items) between rested in
    let answers : IsAnswered terms s.plan (s.done + 1) next s.set.channels s.doing (known s.pass) n.items.items =
    subst (λ (d : Doing). IsAnswered terms s.plan (s.done + 1) next s.set.channels d (known s.pass) n.items.items) (sym between)
    (subst (λ (is : List Item). IsAnswered terms s.plan (s.done + 1) next s.set.channels Lines (known s.pass) is) (ap (λ (m : ℕ). answered_items s.items.items m s.set.channels e) comes.number ∙ sym shown)
    (block-answered terms s.plan s.done s.block next s.set.channels (known s.pass) s.items.items comes.next (drop (s.done + 1) s.section.lines) command e at comes.split refl comes.does first taken told)) in
    subst (λ (x : Step). HasStepped shape known s Lines n x) (sym did)
    (line-did shape known s n line (Run command) comes
    (record { section = ap (λ (x : Session P). x.section) same; plan = ap (λ (x : Session P). x.plan) same; patience = ap (λ (x : Session P). x.patience) same })
    (ap (λ (x : Session P). x.done) same)
    (subst (λ (x : Session P). HasAnswer shape known x) (sym same) answers) (
      subst (λ (is : List Item). ShowsLine line (known s.pass) (known n.pass) s.items.items is) (sym shown)
          (told-shows (known s.pass) (known n.pass) s.items.items line s.set.channels e told (ap (λ (x : Session P). known x.pass) same)),
      ap (λ (x : Session P). x.doing) same ∙ between,
      refl,
    ))

-- a line that is answered by the queue's usage
pub usage-stepped : {P : Type 0} (shape : Shape) (known : P → Known) (s n : Session P) (line : ℕ) (command : Command) (next : BlockView) (step : Step) → ComesWith s line (Run command) → s.doing ≡ Lines → HasRest shape known s → HasReadFor (Run command) s.block.state (known s.pass)
    → HasTaken s.block command (effect.Query QueueUsage) next → n ≡ record s { pass = n.pass; block = next; items = n.items; done = s.done + 1 } → HasShownUsage shape (known s.pass) (known n.pass) line s.items.items n.items.items → step ≡ Did
    → HasStepped shape known s Lines n step
usage-stepped {P} shape known s n line command next step comes between rested first taken same used did =
    let terms : Terms = terms_of shape s.section s.patience in
    let at : IsRested terms s.plan s.done s.block s.set.channels Lines (known s.pass) s.items.items =
    subst (λ (d : Doing). IsRested terms s.plan s.done s.block s.set.channels d (known s.pass) s.items.items) between rested in
    let here : HasShownUsage shape (known s.pass) (known n.pass) comes.next.line s.items.items n.items.items =
    subst (λ (m : ℕ). HasShownUsage shape (known s.pass) (known n.pass) m s.items.items n.items.items) (sym comes.number) used in
    let answers : IsAnswered terms s.plan (s.done + 1) next s.set.channels s.doing (known n.pass) n.items.items =
    subst (λ (d : Doing). IsAnswered terms s.plan (s.done + 1) next s.set.channels d (known n.pass) n.items.items) (sym between)
    (usage-answered shape terms s.plan s.done s.block next s.set.channels (known s.pass) (known n.pass) s.items.items n.items.items comes.next (drop (s.done + 1) s.section.lines) command at comes.split refl comes.does first taken here refl refl) in
    subst (λ (x : Step). HasStepped shape known s Lines n x) (sym did)
    (line-did shape known s n line (Run command) comes
    (record { section = ap (λ (x : Session P). x.section) same; plan = ap (λ (x : Session P). x.plan) same; patience = ap (λ (x : Session P). x.patience) same })
    (ap (λ (x : Session P). x.done) same)
    (subst (λ (x : Session P). HasAnswer shape known x) (sym same) answers) (
      record {
        more = item.Used used.usage ∷ [] ++ item.Reply (tag.Select 1) None ∷ [];
        shown = used.shown ∙ append_assoc (s.items.items ++ item.Line line ∷ []) (item.Used used.usage ∷ []) (item.Reply (tag.Select 1) None ∷ []);
        one_line = All-cons IsNoLine (item.Used used.usage) (item.Reply (tag.Select 1) None ∷ []) tt (one (item.Reply (tag.Select 1) None) tt);
        untouched = λ all. absurd (All-head IsWithoutHub (item.Used used.usage) (item.Reply (tag.Select 1) None ∷ []) all);
      },
      ap (λ (x : Session P). x.doing) same ∙ between,
      refl,
    ))

-- a commit that the block has handed out
pub handed-rested : {P : Type 0} (shape : Shape) (known : P → Known) (s : Session P) (line : ℕ) (command : Command) (next : BlockView) (items : List Item) (actions : List Action) (notes : List Note) (done : Tag)
    → ComesWith s line (Run command) → s.doing ≡ Lines → HasRest shape known s → HasReadFor (Run command) s.block.state (known s.pass) → HasTaken s.block command (effect.Commit actions notes done) next → items ≡ s.items.items
    → IsRested (terms_of shape s.section s.patience) s.plan s.done next s.set.channels (Committing actions notes done) (known s.pass) items
handed-rested shape known s line command next items actions notes done comes between rested first taken same =
    let terms : Terms = terms_of shape s.section s.patience in
    subst (λ (is : List Item). IsRested terms s.plan s.done next s.set.channels (Committing actions notes done) (known s.pass) is) (sym same)
    (handed-out terms s.plan s.done s.block next s.set.channels (known s.pass) s.items.items comes.next (drop (s.done + 1) s.section.lines) command actions notes done
    (subst (λ (d : Doing). IsRested terms s.plan s.done s.block s.set.channels d (known s.pass) s.items.items) between rested) comes.split comes.does first taken)

-- where nothing is left to do, the block and the set have told the answer
pub left-told : (e : Effect) → left_of e ≡ left.Nothing → IsToldByBlock e
left-told effect.Nothing is = tt
left-told (effect.Reply done warning) is = tt
left-told (effect.Refuse refusal) is = tt
left-told (effect.Query ListeningChannels) is = tt
left-told (effect.Query QueueUsage) is = absurd (cc)
left-told (effect.Commit actions notes done) is = absurd (cc)

-- where the usage is left to show, the command asks for it
pub left-usage : (e : Effect) → left_of e ≡ left.Usage → e ≡ effect.Query QueueUsage
left-usage (effect.Query QueueUsage) is = refl
left-usage effect.Nothing is = absurd (cc)
left-usage (effect.Reply done warning) is = absurd (cc)
left-usage (effect.Refuse refusal) is = absurd (cc)
left-usage (effect.Query ListeningChannels) is = absurd (cc)
left-usage (effect.Commit actions notes done) is = absurd (cc)

-- where a commit is left, it is the one that the block has handed out
pub left-commit : (e : Effect) (commit : Commit) → left_of e ≡ left.Commit commit → e ≡ effect.Commit commit.actions commit.notes commit.tag
left-commit (effect.Commit actions notes done) commit is =
    let same : (record { actions = actions; notes = notes; tag = done }) ≡ commit = cc in
    ap (λ (c : Commit). effect.Commit c.actions c.notes c.tag) same
left-commit effect.Nothing commit is = absurd (cc)
left-commit (effect.Reply done warning) commit is = absurd (cc)
left-commit (effect.Refuse refusal) commit is = absurd (cc)
left-commit (effect.Query ListeningChannels) commit is = absurd (cc)
left-commit (effect.Query QueueUsage) commit is = absurd (cc)

-- the names that a command asks for are those of the set, and another command shows none
pub answered-same : (before items : List Item) (line : ℕ) (names set : List (List ℕ)) (e : Effect) → items ≡ before → (e ≡ effect.Query ListeningChannels → names ≡ set)
    → answered_items items line names e ≡ answered_items before line set e
answered-same before items line names set (effect.Query ListeningChannels) same asked =
    ap (λ (is : List Item). answered_items is line names (effect.Query ListeningChannels)) same ∙ ap (λ (ns : List (List ℕ)). answered_items before line ns (effect.Query ListeningChannels)) (asked refl)
answered-same before items line names set effect.Nothing same asked = ap (λ (is : List Item). answered_items is line names effect.Nothing) same
answered-same before items line names set (effect.Reply done warning) same asked = ap (λ (is : List Item). answered_items is line names (effect.Reply done warning)) same
answered-same before items line names set (effect.Refuse refusal) same asked = ap (λ (is : List Item). answered_items is line names (effect.Refuse refusal)) same
answered-same before items line names set (effect.Query QueueUsage) same asked = same
answered-same before items line names set (effect.Commit actions notes done) same asked = same

-- a step that carries out the commit of a line is the line's
pub commit-stepped : {P E : Type 0} (shape : Shape) (known : P → Known) (s m n : Session P) (line : ℕ) (command : Command) (stood : Commit) (r : Result Step E) → ComesWith s line (Run command)
    → m ≡ record s { block = m.block; items = m.items } → m.items.items ≡ s.items.items → IfOk r (λ step. HasStepped shape known m (Committing stood.actions stood.notes stood.tag) n step) → IfOk r (λ step. HasStepped shape known s Lines n step)
commit-stepped shape known s m n line command stood (Err e) comes same shown h = tt
commit-stepped {P} shape known s m n line command stood (Ok step) comes same shown h =
    let at : HasStepped shape known (record s { block = m.block; items = m.items }) (Committing stood.actions stood.notes stood.tag) n step = subst (λ (x : Session P). HasStepped shape known x (Committing stood.actions stood.notes stood.tag) n step) same h in
    let next : ShowsNext (comes.next ∷ drop (s.done + 1) s.section.lines) (known s.pass) (known n.pass) m.items.items n.items.items =
    subst (λ (lines : List ScriptLine). ShowsNext lines (known s.pass) (known n.pass) m.items.items n.items.items) comes.split at.moved.0 in
    let shows : ShowsLine line (known s.pass) (known n.pass) s.items.items n.items.items =
    subst (λ (items : List Item). ShowsLine line (known s.pass) (known n.pass) items n.items.items) shown
    (subst (λ (number : ℕ). ShowsLine number (known s.pass) (known n.pass) m.items.items n.items.items) comes.number next) in
    line-stepped shape known s n line (Run command) step comes (record { section = at.same.section; plan = at.same.plan; patience = at.same.patience }) at.moved.3 at.answered at.rested (shows, at.moved.1, at.moved.2)

-- and where it is refused, the session stands with what the block has handed out
pub commit-refused : {P E : Type 0} (shape : Shape) (known : P → Known) (s m n : Session P) (stood : Commit) (r : Result Step E)
    → m ≡ record s { block = m.block; items = m.items } → m.items.items ≡ s.items.items → OnErr r (HasRefused shape known m (Committing stood.actions stood.notes stood.tag) n) → OnErr r (HasRefused shape known s Lines n)
commit-refused shape known s m n stood (Ok step) same shown h = tt
commit-refused {P} shape known s m n stood (Err e) same shown h =
    let at : HasRefused shape known (record s { block = m.block; items = m.items }) (Committing stood.actions stood.notes stood.tag) n = subst (λ (x : Session P). HasRefused shape known x (Committing stood.actions stood.notes stood.tag) n) same h in
    record {
      same = record { section = at.same.section; plan = at.same.plan; patience = at.same.patience };
      place = subst (λ (d : Doing). StandsStill Lines d) (sym at.place) tt;
      pass = at.pass;
      shown = at.shown ∙ shown;
      counted = at.counted;
      channels = at.channels;
      rested = at.rested;
    }
