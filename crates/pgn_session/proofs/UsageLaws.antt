-- A line that is answered by the queue's usage; and what a query asks for.
use Rattle.std.proofs.Common.{◌≡◌, ℕ, ◌+◌, ◌≤◌, true, false, Bool, cond, List, [], ◌∷◌, ◌++◌, drop, Option, None, IfSome, All, Contains, sym, ap, ◌∙◌, refl, subst, arith, length-append}
use Rattle.std.proofs.lemmas.Option.{IfSome_then}
use Rattle.std.proofs.lemmas.List.Elements.{All-push, All-weaker, Contains-append_left}
use Rattle.pgn_base.specs.declared.format.Format.{Format}
use Rattle.pgn_base.specs.declared.answers.Tag.TheVariants as tag
use Rattle.pgn_base.specs.declared.answers.Refusal.TheVariants.{NeedsBlock, NoSavepoint}
use Rattle.pgn_base.specs.declared.answers.Needs.TheVariants as needs
use Rattle.pgn_base.specs.declared.queue_answers.Usage.{Usage}
use Rattle.pgn_base.specs.Names.{has_name}
use Rattle.pgn_answers.specs.declared.block_state.BlockState.{BlockState}
use Rattle.pgn_answers.specs.declared.block_state.BlockState.TheVariants.{Idle, InBlock, Failed}
use Rattle.pgn_base.specs.declared.command.Command.{Command}
use Rattle.pgn_base.specs.declared.command.Command.TheVariants as command
use Rattle.pgn_language.specs.declared.scenario.Act.TheVariants.{Run}
use Rattle.pgn_language.specs.declared.scenario.ScriptLine.{ScriptLine}
use Rattle.pgn_model.specs.declared.item.Item.{Item}
use Rattle.pgn_model.specs.declared.item.Item.TheVariants.{Line, Used, Reply}
use Rattle.pgn_hub.specs.declared.known.Known.{Known}
use Rattle.pgn_journal.specs.declared.tx.Tx.{Tx}
use Rattle.pgn_journal.specs.Journal.{next_xid}
use Rattle.pgn_journal.specs.QueueUse.{ShowsUsage, IsFloorFor}
use Rattle.pgn_hub.specs.Shape.{Shape}
use Rattle.pgn_language.specs.Inputs.{QuitsLast}
use Rattle.pgn_answers.specs.Savepoints.{Change, changes_of, live_names}
use Rattle.pgn_answers.specs.Answers.{Outcome, Commits, Replies, Refuses, Silent, GivesChannels, GivesUsage, answer, next_state, list_after, in_state, ignored}
use Rattle.pgn_model.specs.Walk.{Terms, State, Nothing, holder_at}
use Rattle.pgn_model.specs.Legal.{IsFullThere}
use Rattle.pgn_model.specs.laws.NextLine.{StandsFresh, HoldsSoFar, ComesNext, MayMeasure, outcome_in}
use Rattle.pgn_model.proofs.NextLineLaws.{line-gives_usage, comes_next-grows, holds-within, finished-more}
use Rattle.pgn_hub.specs.Calls.{HasMeasured}
use Rattle.pgn_hub.proofs.FloorLaws.{own-floors}
use Rattle.pgn_hub.proofs.CallLaws.{holders-are_named}
use Rattle.pgn_block.specs.Kept.{StandsFor}
use Rattle.pgn_block.specs.Views.{BlockView}
use Rattle.pgn_block.specs.Effects.{effect_of}
use Rattle.pgn_block.specs.declared.effect.Kind.TheVariants.{ListeningChannels, QueueUsage}
use Rattle.pgn_block.specs.declared.effect.Effect.TheVariants as effect
use Rattle.pgn_session.specs.declared.doing.FlagPlan.{FlagPlan}
use Rattle.pgn_session.specs.declared.doing.Doing.TheVariants.{Lines}
use Rattle.pgn_session.specs.Parts.{HasTaken, HasShownUsage}
use Rattle.pgn_session.specs.FirstRead.{HasReadFor}
use Rattle.pgn_session.specs.Standing.{StandsAt, HaveSameMembers, IsAnswered, IsRested, spare_of}
use Rattle.pgn_session.proofs.KnownLaws.{stands-grows, named-holder}
use Rattle.pgn_session.proofs.BlockLaws.{comes, budget-line}

-- what asks for the usage gives it
asks-usage : (changes : List Change) (outcome : Outcome) → effect.Query QueueUsage ≡ effect_of changes outcome → outcome ≡ GivesUsage
asks-usage changes (Commits done) e = absurd (let no : ⊥ = cc in no)
asks-usage changes (Replies done warning next) e = absurd (let no : ⊥ = cc in no)
asks-usage changes (Refuses refusal next) e = absurd (let no : ⊥ = cc in no)
asks-usage changes Silent e = absurd (let no : ⊥ = cc in no)
asks-usage changes (GivesChannels names) e = absurd (let no : ⊥ = cc in no)
asks-usage changes GivesUsage e = refl

-- what asks for the channels gives some
abbrev GivesRows : Outcome → Type 0
GivesRows (GivesChannels names) = Unit {0}
GivesRows outcome = ⊥

asks-rows : (changes : List Change) (outcome : Outcome) → effect.Query ListeningChannels ≡ effect_of changes outcome → GivesRows outcome
asks-rows changes (Commits done) e = absurd (let no : ⊥ = cc in no)
asks-rows changes (Replies done warning next) e = absurd (let no : ⊥ = cc in no)
asks-rows changes (Refuses refusal next) e = absurd (let no : ⊥ = cc in no)
asks-rows changes Silent e = absurd (let no : ⊥ = cc in no)
asks-rows changes (GivesChannels names) e = tt
asks-rows changes GivesUsage e = absurd (let no : ⊥ = cc in no)

-- only one command gives channels
rows-asked : (state : BlockState) (live set : List (List ℕ)) (c : Command) → GivesRows (answer state live set c) → c ≡ command.ListeningChannels
rows-asked state live set command.ListeningChannels h = refl
rows-asked state live set (command.RollbackTo name) h = absurd (either state (has_name live name) h)
  where
    either : (state : BlockState) (b : Bool) → GivesRows (cond b (in_state state (Refuses (NeedsBlock needs.RollbackTo) Idle) (Replies tag.Rollback None InBlock) (Replies tag.Rollback None InBlock))
        (in_state state (Refuses (NeedsBlock needs.RollbackTo) Idle) (Refuses (NoSavepoint name) Failed) (Refuses (NoSavepoint name) Failed))) → ⊥
    either Idle true h = h
    either Idle false h = h
    either InBlock true h = h
    either InBlock false h = h
    either Failed true h = h
    either Failed false h = h
rows-asked state live set (command.Release name) h = absurd (either state (has_name live name) h)
  where
    either : (state : BlockState) (b : Bool) → GivesRows (cond b (in_state state (Refuses (NeedsBlock needs.Release) Idle) (Replies tag.Release None InBlock) ignored)
        (in_state state (Refuses (NeedsBlock needs.Release) Idle) (Refuses (NoSavepoint name) Failed) ignored)) → ⊥
    either Idle true h = h
    either Idle false h = h
    either InBlock true h = h
    either InBlock false h = h
    either Failed true h = h
    either Failed false h = h
rows-asked Idle live set other h = absurd h
rows-asked InBlock live set other h = absurd h
rows-asked Failed live set other h = absurd h

-- a block answers with the channels only where they were asked for
pub channels-asked : (terms : Terms) (plan : FlagPlan) (done : ℕ) (block next : BlockView) (set : List (List ℕ)) (k : Known) (items : List Item) (c : Command)
    → IsRested terms plan done block set Lines k items → HasTaken block c (effect.Query ListeningChannels) next → c ≡ command.ListeningChannels
channels-asked terms plan done block next set k items c h taken =
    rows-asked block.state (live_names h.state.changes) set c
    (asks-rows (h.state.changes ++ changes_of c) (answer block.state (live_names h.state.changes) set c) (taken.gives h.state.changes set h.here.0.list))

-- a usage may be shown
may-measure : (terms : Terms) (shape : Shape) (k q : Known) (usage : Usage) (told : ℕ) (mark : Option ℕ) → HasMeasured shape k q usage → terms.settings.format ≡ shape.format → terms.settings.limit ≡ shape.pages
    → k.session ≡ terms.section.no → mark ≡ k.mark → told ≤ next_xid k.seen → IfSome mark (λ m. m ≤ next_xid k.seen) → MayMeasure terms q.seen told mark usage
may-measure terms shape k q usage told mark r format pages session is after at =
    let longer : next_xid k.seen ≤ usage.at = omega (arith, r.number, length-append k.seen r.more) in
    record {
      after_told = omega (arith, after, longer);
      after_mark = IfSome_then mark at (λ m below. omega (arith, below, longer));
      shown = subst (λ (n : ℕ). ShowsUsage terms.settings.format n q.seen usage) (sym pages) (subst (λ (f : Format). ShowsUsage f shape.pages q.seen usage) (sym format) r.shows);
      floor = subst (λ (m : Option ℕ). IsFloorFor terms.section.no m usage.floor_mark usage.holder) (sym is) (own-floors.of_usage terms.section.no shape k q usage session r);
    }

-- the usage was shown
pub usage-answered : (shape : Shape) (terms : Terms) (plan : FlagPlan) (done : ℕ) (block next : BlockView) (set : List (List ℕ)) (k q : Known) (items after : List Item) (line : ScriptLine) (lines : List ScriptLine) (c : Command)
    → IsRested terms plan done block set Lines k items → drop done terms.section.lines ≡ line ∷ lines → lines ≡ drop (done + 1) terms.section.lines → line.act ≡ Run c → HasReadFor (Run c) block.state k
    → HasTaken block c (effect.Query QueueUsage) next → HasShownUsage shape k q line.line items after → terms.settings.format ≡ shape.format → terms.settings.limit ≡ shape.pages
    → IsAnswered terms plan (done + 1) next set Lines q after
usage-answered shape terms plan done block next set k q items after line lines c h e behind does first taken u format pages =
    let s : State = h.state in
    let r = u.measured in
    let usage : Usage = u.usage in
    let o : Outcome = answer block.state (live_names s.changes) s.set c in
    let gives : o ≡ GivesUsage = asks-usage (s.changes ++ changes_of c) o (taken.gives s.changes s.set h.here.0.list) in
    let is : outcome_in s c ≡ GivesUsage = ap (λ (b : BlockState). answer b (live_names s.changes) s.set c) h.here.0.block_state ∙ gives in
    let leads : next.state ≡ block.state = taken.leads s.changes s.set h.here.0.list ∙ ap (λ (p : Outcome). next_state block.state p) gives in
    let leaves : StandsFor s.changes next.kept = subst (λ (p : Outcome). StandsFor (list_after s.changes c p) next.kept) gives (taken.leaves s.changes s.set h.here.0.list) in
    let seen : List Tx = k.seen ++ r.more in
    let whole : q.seen ≡ seen = ap (λ (p : Known). p.seen) r.known in
    let g : StandsAt terms (record k { seen = seen }) items s = stands-grows terms k r.more items s h.stands in
    let rest : s.rest ≡ line ∷ lines = h.rest ∙ e in
    let within = holds-within terms k.seen items s h.stands.holds in
    let begins : ComesNext terms seen s line (Run c) lines =
    comes_next-grows terms k.seen r.more s line (Run c) lines within.told (comes terms plan done block set k items line (Run c) lines h e does first) in
    let may : MayMeasure terms seen s.told s.mark usage = subst (λ (txs : List Tx). MayMeasure terms txs s.told s.mark usage) whole
    (may-measure terms shape k q usage s.told s.mark r format pages (h.stands.session) h.stands.mark within.told within.mark) in
    let t : State = record s { rest = lines; owed = Nothing; named = s.named ++ holder_at usage.holder usage.floor_mark } in
    let begun : List Item = items ++ Line line.line ∷ [] in
    let shown : List Item = begun ++ Used usage ∷ [] ++ Reply (tag.Select 1) None ∷ [] in
    let fresh : StandsFresh terms seen shown t = line-gives_usage terms seen items s line lines c usage g.holds.stands_fresh begins is may in
    let named_is : q.named ≡ k.named ++ r.named = ap (λ (p : Known). p.named) r.known in
    subst (λ (is : List Item). IsAnswered terms plan (done + 1) next set Lines q is) (sym u.shown)
    (record {
      state = t;
      stands = record {
        holds = subst (λ (txs : List Tx). HoldsSoFar terms txs shown t) (sym whole)
            (record {
              stands_fresh = fresh;
              full = All-push (IsFullThere terms.settings seen) (begun ++ Used usage ∷ []) (Reply (tag.Select 1) None)
                  (All-push (IsFullThere terms.settings seen) begun (Used usage) (All-push (IsFullThere terms.settings seen) items (Line line.line) g.holds.full tt) tt) tt;
              found = g.holds.found;
            });
        session = ap (λ (p : Known). p.session) r.known ∙ h.stands.session;
        database = ap (λ (p : Known). p.db) r.known ∙ h.stands.database;
        own = finished-more (begun ++ Used usage ∷ []) (Reply (tag.Select 1) None ∷ []) refl ∙ finished-more begun (Used usage ∷ []) refl ∙ finished-more items (Line line.line ∷ []) refl
            ∙ h.stands.own ∙ sym (ap (λ (p : Known). p.own) r.known);
        mark = h.stands.mark ∙ sym (ap (λ (p : Known). p.mark) r.known);
        marks = subst (λ (xs : List ℕ). HaveSameMembers s.marks xs) (sym (ap (λ (p : Known). p.marks) r.known)) h.stands.marks;
        stood = subst (λ (p : Known). IfSome p.mark (Contains p.marks)) (sym r.known) h.stands.stood;
        named = named-holder q.named usage.holder usage.floor_mark s.named (holders-are_named.of_usage shape k q usage r)
            (subst (λ (pairs : List (ℕ × ℕ)). All (Contains pairs) s.named) (sym named_is)
            (All-weaker (Contains k.named) (Contains (k.named ++ r.named)) (λ pair there. Contains-append_left k.named r.named pair there) s.named h.stands.named));
        interested = subst (λ (p : Known). IfSome p.mark (λ _. p.set ≡ s.set)) (sym r.known) h.stands.interested;
        patient = h.stands.patient;
      };
      rest = behind;
      channels = h.channels;
      here = record {
        owes = refl;
        block_state = h.here.0.block_state ∙ sym leads;
        list = leaves;
        tells = record {
          told = h.here.0.tells.told ∙ sym (ap (λ (p : Known). p.told) r.known);
          raised = h.here.0.tells.raised ∙ sym (ap (λ (p : Known). p.raised) r.known);
          found = h.here.0.tells.found ∙ sym (ap (λ (p : Known). p.found) r.known);
        };
        budget = omega (arith, budget-line (spare_of terms.section) s.changes c GivesUsage line lines s.rest k.notes_left rest does h.here.0.budget, ap (λ (p : Known). p.notes_left) r.known);
        quits_last = (subst QuitsLast rest h.here.0.quits_last).1;
      };
    })
