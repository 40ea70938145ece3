-- A line that quits: what is open is dropped, a listener leaves, and the end flag is raised.
use Rattle.std.proofs.Common.{◌≡◌, ℕ, ◌+◌, ◌≤◌, List, [], ◌∷◌, ◌++◌, drop, Option, Some, None, All, sym, ap, ◌∙◌, refl, subst, arith, append-nil}
use Rattle.std.proofs.lemmas.List.Elements.{All-nil, All-cons, All-push, All-append}
use Rattle.pgn_answers.specs.declared.block_state.BlockState.TheVariants.{Idle}
use Rattle.pgn_language.specs.declared.scenario.Act.TheVariants.{Quit}
use Rattle.pgn_language.specs.declared.scenario.ScriptLine.{ScriptLine}
use Rattle.pgn_model.specs.declared.item.Item.{Item}
use Rattle.pgn_model.specs.declared.item.Item.TheVariants.{Line, Leave}
use Rattle.pgn_hub.specs.declared.known.Known.{Known}
use Rattle.pgn_journal.specs.declared.tx.Tx.{Tx}
use Rattle.pgn_language.specs.Inputs.{QuitsLast}
use Rattle.pgn_model.specs.Walk.{Terms, State, Nothing}
use Rattle.pgn_model.specs.Legal.{IsFullThere, finished_xids}
use Rattle.pgn_model.specs.laws.NextLine.{StandsFresh, ComesNext, quit_items}
use Rattle.pgn_model.proofs.NextLineLaws.{line-quits, comes_next-grows, holds-within, no_listener-is_up_to_date, finished-more}
use Rattle.pgn_block.specs.Views.{BlockView, idle_view}
use Rattle.pgn_session.specs.declared.doing.FlagPlan.{FlagPlan}
use Rattle.pgn_session.specs.declared.doing.Doing.{Doing}
use Rattle.pgn_session.specs.declared.doing.Doing.TheVariants.{Lines, Over}
use Rattle.pgn_session.specs.Parts.{HasQuitFrom}
use Rattle.pgn_session.specs.Standing.{StandsAt, IsEndPair, IsAnswered, IsRested, end_flag}
use Rattle.pgn_session.specs.Steps.{HasQuitAt}
use Rattle.pgn_session.proofs.KnownLaws.{stands-grows}
use Rattle.pgn_session.proofs.BlockLaws.{comes, reads-nothing}
use Rattle.pgn_session.proofs.EndLaws.{is-end}

-- who has quit has left, and may have learned of the journal
record Quits (k q : Known) : Type 0 where
  more : List Tx
  known : q ≡ record k { seen = k.seen ++ more; mark = None }

quits-from : (mark : Option ℕ) (k q : Known) → k.mark ≡ mark → HasQuitFrom mark k q → Quits k q
quits-from None k q e h =
    record {
      more = [];
      known = h ∙ ap (λ (seen : List Tx). let p : Known = record k { seen = seen } in p) (sym (append-nil k.seen)) ∙ ap (λ (mark : Option ℕ). let p : Known = record k { seen = k.seen ++ []; mark = mark } in p) e;
    }
quits-from (Some mark) k q e h = record { more = h.more; known = h.known }

quit-finishes : (mark : Option ℕ) → finished_xids (quit_items mark) ≡ []
quit-finishes None = refl
quit-finishes (Some mark) = refl

quit-full : (P : Item → Type 0) (mark : Option ℕ) → P Leave → All P (quit_items mark)
quit-full P None h = All-nil P
quit-full P (Some mark) h = All-cons P Leave [] h (All-nil P)

-- a line that quits is the last
quits-end : (lines : List ScriptLine) (line : ScriptLine) → line.act ≡ Quit → QuitsLast (line ∷ lines) → lines ≡ []
quits-end lines line does h = h.0 does

-- the session has quit
quit-rested : (terms : Terms) (plan : FlagPlan) (done : ℕ) (block : BlockView) (set : List (List ℕ)) (k q : Known) (items after : List Item) (line : ScriptLine) (lines : List ScriptLine)
    → IsRested terms plan done block set Lines k items → drop done terms.section.lines ≡ line ∷ lines → lines ≡ drop (done + 1) terms.section.lines → line.act ≡ Quit
    → 1 ≤ terms.section.no → terms.section.no ≤ plan.sessions → HasQuitAt plan terms.section.no k q line.line items after → IsRested terms plan (done + 1) idle_view [] Over q after
quit-rested terms plan done block set k q items after line lines h e behind does first last r =
    let s : State = h.state in
    let l : Quits k r.left = quits-from k.mark k r.left refl r.leaves in
    let flag : ℕ = end_flag plan terms.section.no in
    let told : ℕ = k.told in
    let more : List Tx = l.more ++ r.raised.more in
    let seen : List Tx = k.seen ++ l.more ++ r.raised.more in
    let grown : StandsAt terms (record k { seen = k.seen ++ l.more }) items s = stands-grows terms k l.more items s h.stands in
    let g : StandsAt terms (record k { seen = seen }) items s = stands-grows terms (record k { seen = k.seen ++ l.more }) r.raised.more items s grown in
    let rest : s.rest ≡ line ∷ lines = h.rest ∙ e in
    let one : ComesNext terms (k.seen ++ l.more) s line Quit lines =
    comes_next-grows terms k.seen l.more s line Quit lines (holds-within terms k.seen items s h.stands.holds).told (comes terms plan done block set k items line Quit lines h e does (reads-nothing Quit block.state k refl)) in
    let begins : ComesNext terms seen s line Quit lines =
    comes_next-grows terms (k.seen ++ l.more) r.raised.more s line Quit lines (holds-within terms (k.seen ++ l.more) items s grown.holds).told one in
    let t : State = record s { rest = lines; owed = Nothing; block = Idle; changes = []; set = []; mark = None } in
    let begun : List Item = items ++ Line line.line ∷ [] in
    let whole : begun ++ quit_items s.mark ≡ after = ap (λ (mark : Option ℕ). begun ++ quit_items mark) h.stands.mark ∙ sym r.shown in
    let known : Known = record k { seen = seen; mark = None; raised = k.raised ++ (flag, told) ∷ [] } in
    let left_told : r.left.told ≡ k.told = ap (λ (p : Known). p.told) l.known in
    let is_known : q ≡ known =
    r.raised.known ∙ ap (λ (p : Known). let n : Known = record p { seen = p.seen ++ r.raised.more; raised = p.raised ++ (flag, p.told) ∷ [] } in n) l.known in
    subst (λ (p : Known). IsRested terms plan (done + 1) idle_view [] Over p after) (sym is_known)
    (record {
      state = t;
      stands = record {
        holds = record {
          stands_fresh = subst (λ (is : List Item). StandsFresh terms seen is t) whole (line-quits terms seen items s line lines g.holds.stands_fresh begins);
          full = subst (λ (is : List Item). All (IsFullThere terms.settings seen) is) whole
              (All-append (IsFullThere terms.settings seen) begun (quit_items s.mark) (All-push (IsFullThere terms.settings seen) items (Line line.line) g.holds.full tt) (quit-full (IsFullThere terms.settings seen) s.mark tt));
          found = g.holds.found;
        };
        session = g.session;
        database = g.database;
        own = ap finished_xids (sym whole) ∙ finished-more begun (quit_items s.mark) (quit-finishes s.mark) ∙ finished-more items (Line line.line ∷ []) refl ∙ g.own;
        mark = refl;
        marks = g.marks;
        stood = tt;
        named = g.named;
        interested = tt;
        patient = g.patient;
      };
      rest = behind;
      channels = refl;
      here = (
        record {
          owes = refl;
          done = quits-end lines line does (subst QuitsLast rest h.here.0.quits_last);
          dropped = refl;
          tells = record {
            told = omega (arith, h.here.0.tells.told);
            raised = record {
              more = (flag, told) ∷ [];
              whole = ap (λ (pairs : List (ℕ × ℕ)). pairs ++ (flag, told) ∷ []) (sym h.here.0.tells.raised);
              ends = All-cons (IsEndPair plan) (flag, told) [] (is-end plan terms.section.no told first last) (All-nil (IsEndPair plan));
            };
            found = record { more = []; whole = sym h.here.0.tells.found ∙ sym (append-nil s.found); ends = All-nil (IsEndPair plan) };
          };
        },
        no_listener-is_up_to_date terms seen t refl,
      );
    })

-- the same, at the line's number
pub quit-line : (terms : Terms) (plan : FlagPlan) (done : ℕ) (block : BlockView) (set : List (List ℕ)) (doing : Doing) (k q : Known) (items after : List Item) (line : ScriptLine) (number : ℕ)
    → doing ≡ Lines → IsRested terms plan done block set doing k items → drop done terms.section.lines ≡ line ∷ drop (done + 1) terms.section.lines → line.line ≡ number → line.act ≡ Quit
    → 1 ≤ terms.section.no → terms.section.no ≤ plan.sessions → HasQuitAt plan terms.section.no k q number items after → IsAnswered terms plan (done + 1) idle_view [] Over q after
quit-line terms plan done block set doing k q items after line number place h e is does first last r =
    let over = quit-rested terms plan done block set k q items after line (drop (done + 1) terms.section.lines) (subst (λ (d : Doing). IsRested terms plan done block set d k items) place h) e refl does first last
    (subst (λ (n : ℕ). HasQuitAt plan terms.section.no k q n items after) (sym is) r) in
    record { state = over.state; stands = over.stands; rest = over.rest; channels = over.channels; here = over.here.0 }
