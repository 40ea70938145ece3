-- A line that raises a flag.
use Rattle.std.proofs.Common.{◌≡◌, ℕ, ◌+◌, ◌≤◌, cond, List, [], ◌∷◌, ◌++◌, drop, sym, ap, ◌∙◌, refl, subst, arith}
use Rattle.std.proofs.lemmas.List.Sums.{sum_by-cons}
use Rattle.std.proofs.lemmas.List.Elements.{All-push}
use Rattle.pgn_language.specs.declared.scenario.Act.TheVariants.{Signal}
use Rattle.pgn_language.specs.declared.scenario.ScriptLine.{ScriptLine}
use Rattle.pgn_model.specs.declared.item.Item.{Item}
use Rattle.pgn_model.specs.declared.item.Item.TheVariants.{Line, Raise}
use Rattle.pgn_hub.specs.declared.known.Known.{Known}
use Rattle.pgn_journal.specs.declared.tx.Tx.{Tx}
use Rattle.pgn_language.specs.Inputs.{QuitsLast, note_lines_of, is_note_act}
use Rattle.pgn_model.specs.Walk.{Terms, State, Nothing}
use Rattle.pgn_model.specs.Legal.{IsFullThere}
use Rattle.pgn_model.specs.laws.NextLine.{StandsFresh, ComesNext}
use Rattle.pgn_model.proofs.NextLineLaws.{line-signals, comes_next-grows, holds-within, finished-more}
use Rattle.pgn_hub.specs.Calls.{HasRaised}
use Rattle.pgn_block.specs.Views.{BlockView}
use Rattle.pgn_session.specs.declared.doing.FlagPlan.{FlagPlan}
use Rattle.pgn_session.specs.declared.doing.Doing.{Doing}
use Rattle.pgn_session.specs.declared.doing.Doing.TheVariants.{Lines}
use Rattle.pgn_session.specs.Standing.{StandsAt, IsAnswered, IsRested}
use Rattle.pgn_session.proofs.KnownLaws.{stands-grows}
use Rattle.pgn_session.proofs.BlockLaws.{comes, reads-nothing}

-- the notifications that may still come, as a line is done
pub budget-less : (line : ScriptLine) (lines rest : List ScriptLine) (noted left : ℕ) → rest ≡ line ∷ lines → noted + note_lines_of rest ≤ left → noted + note_lines_of lines ≤ left
budget-less line lines rest noted left e h =
    let all : note_lines_of rest ≡ cond (is_note_act line.act) 1 0 + note_lines_of lines = ap note_lines_of e ∙ sum_by-cons (λ (l : ScriptLine). cond (is_note_act l.act) 1 0) line lines in
    omega (arith, all)

-- a flag was raised
pub signal-answered : (terms : Terms) (plan : FlagPlan) (done : ℕ) (block : BlockView) (set : List (List ℕ)) (k q : Known) (items : List Item) (line : ScriptLine) (lines : List ScriptLine) (flag : ℕ)
    → IsRested terms plan done block set Lines k items → drop done terms.section.lines ≡ line ∷ lines → lines ≡ drop (done + 1) terms.section.lines → line.act ≡ Signal flag → HasRaised k q flag k.told
    → IsAnswered terms plan (done + 1) block set Lines q (items ++ Line line.line ∷ [] ++ Raise k.told ∷ [])
signal-answered terms plan done block set k q items line lines flag h e behind does r =
    let s : State = h.state in
    let seen : List Tx = k.seen ++ r.more in
    let g : StandsAt terms (record k { seen = seen }) items s = stands-grows terms k r.more items s h.stands in
    let rest : s.rest ≡ line ∷ lines = h.rest ∙ e in
    let begins : ComesNext terms seen s line (Signal flag) lines =
    comes_next-grows terms k.seen r.more s line (Signal flag) lines (holds-within terms k.seen items s h.stands.holds).told (comes terms plan done block set k items line (Signal flag) lines h e does (reads-nothing (Signal flag) block.state k refl)) in
    let after : State = record s { rest = lines; owed = Nothing; raised = s.raised ++ (flag, s.told) ∷ [] } in
    let shown : StandsFresh terms seen (items ++ Line line.line ∷ [] ++ Raise s.told ∷ []) after = line-signals terms seen items s line lines flag g.holds.stands_fresh begins in
    let shown_so : StandsFresh terms seen (items ++ Line line.line ∷ [] ++ Raise k.told ∷ []) after =
    subst (λ (n : ℕ). StandsFresh terms seen (items ++ Line line.line ∷ [] ++ Raise n ∷ []) after) h.here.0.tells.told shown in
    let known : Known = record k { seen = seen; raised = k.raised ++ (flag, k.told) ∷ [] } in
    subst (λ (p : Known). IsAnswered terms plan (done + 1) block set Lines p (items ++ Line line.line ∷ [] ++ Raise k.told ∷ [])) (sym r.known)
    (record {
      state = after;
      stands = record {
        holds = record {
          stands_fresh = shown_so;
          full = All-push (IsFullThere terms.settings seen) (items ++ Line line.line ∷ []) (Raise k.told) (All-push (IsFullThere terms.settings seen) items (Line line.line) g.holds.full tt) tt;
          found = g.holds.found;
        };
        session = g.session;
        database = g.database;
        own = finished-more (items ++ Line line.line ∷ []) (Raise k.told ∷ []) refl ∙ finished-more items (Line line.line ∷ []) refl ∙ g.own;
        mark = g.mark;
        marks = g.marks;
        stood = g.stood;
        named = g.named;
        interested = g.interested;
        patient = g.patient;
      };
      rest = behind;
      channels = h.channels;
      here = record {
        owes = refl;
        block_state = h.here.0.block_state;
        list = h.here.0.list;
        tells = record {
          told = h.here.0.tells.told;
          raised = ap (λ (pairs : List (ℕ × ℕ)). pairs ++ (flag, s.told) ∷ []) h.here.0.tells.raised ∙ ap (λ (n : ℕ). k.raised ++ (flag, n) ∷ []) h.here.0.tells.told;
          found = h.here.0.tells.found;
        };
        budget = budget-less line lines s.rest _ k.notes_left rest h.here.0.budget;
        quits_last = (subst QuitsLast rest h.here.0.quits_last).1;
      };
    })

-- the same, at the line's number
pub signal-line : (terms : Terms) (plan : FlagPlan) (done : ℕ) (block : BlockView) (set : List (List ℕ)) (doing : Doing) (k q : Known) (items after : List Item) (line : ScriptLine) (number flag : ℕ)
    → doing ≡ Lines → IsRested terms plan done block set doing k items → drop done terms.section.lines ≡ line ∷ drop (done + 1) terms.section.lines → line.line ≡ number → line.act ≡ Signal flag
    → HasRaised k q flag k.told → after ≡ items ++ Line number ∷ [] ++ Raise k.told ∷ [] → IsAnswered terms plan (done + 1) block set doing q after
signal-line terms plan done block set doing k q items after line number flag place h e is does r shown =
    subst (λ (d : Doing). IsAnswered terms plan (done + 1) block set d q after) (sym place)
    (subst (λ (xs : List Item). IsAnswered terms plan (done + 1) block set Lines q xs) (ap (λ (n : ℕ). items ++ Line n ∷ [] ++ Raise k.told ∷ []) is ∙ sym shown)
    (signal-answered terms plan done block set k q items line (drop (done + 1) terms.section.lines) flag (subst (λ (d : Doing). IsRested terms plan done block set d k items) place h) e refl does r))
