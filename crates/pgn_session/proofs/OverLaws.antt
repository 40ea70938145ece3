-- A session that is over: its pass may hear more, its trace is lawful and left no read out.
use Rattle.std.proofs.Common.{◌≡◌, ℕ, ◌≤◌, max, Bool, List, [], ◌++◌, length, drop, Some, Contains, sym, ap, ◌∙◌, refl, subst, arith, append_assoc}
use Rattle.std.proofs.lemmas.List.Elements.{All-nil}
use Rattle.pgn_journal.specs.declared.tx.Tx.{Tx}
use Rattle.pgn_model.specs.declared.item.Item.{Item}
use Rattle.pgn_hub.specs.declared.known.Known.{Known}
use Rattle.pgn_language.specs.declared.scenario.Section.{Section}
use Rattle.pgn_hub.specs.Shape.{Shape}
use Rattle.pgn_language.specs.Inputs.{QuitsLast, note_lines_of}
use Rattle.pgn_model.specs.Walk.{Terms, State, start}
use Rattle.pgn_model.specs.Legal.{IsFullThere}
use Rattle.pgn_model.proofs.GrowingLaws.{up_to_date-grows}
use Rattle.pgn_model.proofs.NextLineLaws.{empty-stands, holds-within}
use Rattle.pgn_hub.specs.Passes.{IsWithin, opened_pass}
use Rattle.pgn_hub.specs.Calls.{HasLearned, HasHeard, longer, owes_after}
use Rattle.pgn_block.specs.Views.{BlockView, idle_view}
use Rattle.pgn_session.specs.declared.doing.FlagPlan.{FlagPlan}
use Rattle.pgn_session.specs.declared.doing.Doing.{Doing}
use Rattle.pgn_session.specs.declared.doing.Doing.TheVariants.{Lines, Over}
use Rattle.pgn_session.specs.Standing.{StandsAt, terms_of, IsRested}
use Rattle.pgn_session.specs.Parts.{HasReadOn}
use Rattle.pgn_session.proofs.KnownLaws.{stands-grows}
use Rattle.pgn_session.proofs.ReadLaws.{read-rested}

-- more of the journal is known, and the pass was told more
over-more : (terms : Terms) (plan : FlagPlan) (done : ℕ) (block : BlockView) (set : List (List ℕ)) (k : Known) (items : List Item) (more : List Tx) (told signalled : ℕ) (owes : Bool)
    → k.told ≤ told → IsRested terms plan done block set Over k items → IsRested terms plan done block set Over (record k { seen = k.seen ++ more; told = told; signalled = signalled; owes = owes }) items
over-more terms plan done block set k items more told signalled owes later h =
    let s : State = h.state in
    let g : StandsAt terms (record k { seen = k.seen ++ more }) items s = stands-grows terms k more items s h.stands in
    record {
      state = s;
      stands = record { holds = g.holds; session = g.session; database = g.database; own = g.own; mark = g.mark; marks = g.marks; stood = g.stood; named = g.named; interested = g.interested; patient = g.patient };
      rest = h.rest;
      channels = h.channels;
      here = (
        record { owes = h.here.0.owes; done = h.here.0.done; dropped = h.here.0.dropped; tells = record { told = omega (arith, h.here.0.tells.told); raised = h.here.0.tells.raised; found = h.here.0.tells.found } },
        up_to_date-grows terms k.seen more s (holds-within terms k.seen items s h.stands.holds).told h.here.1,
      );
    }

over-learned : (terms : Terms) (plan : FlagPlan) (done : ℕ) (block : BlockView) (set : List (List ℕ)) (k q : Known) (items : List Item)
    → HasLearned k q → IsRested terms plan done block set Over k items → IsRested terms plan done block set Over q items
over-learned terms plan done block set k q items l h =
    subst (λ (p : Known). IsRested terms plan done block set Over p items) (sym l.known) (over-more terms plan done block set k items l.more k.told k.signalled k.owes (omega arith) h)

over-heard : (terms : Terms) (plan : FlagPlan) (done : ℕ) (block : BlockView) (set : List (List ℕ)) (from k q : Known) (items : List Item)
    → HasHeard from k q → IsRested terms plan done block set Over k items → IsRested terms plan done block set Over q items
over-heard terms plan done block set from k q items heard h =
    let told : ℕ = max k.told from.told in
    let signalled : ℕ = max k.signalled from.signalled in
    let owes : Bool = owes_after k from.told in
    let rest : List Tx = drop (length k.seen) from.seen in
    let grown : longer k.seen from.seen ++ heard.more ≡ k.seen ++ (rest ++ heard.more) = append_assoc k.seen rest heard.more in
    let e : q ≡ record k { seen = k.seen ++ (rest ++ heard.more); told = told; signalled = signalled; owes = owes } =
    heard.known ∙ ap (λ (seen : List Tx). let p : Known = record k { seen = seen; told = told; signalled = signalled; owes = owes } in p) grown in
    subst (λ (p : Known). IsRested terms plan done block set Over p items) (sym e) (over-more terms plan done block set k items (rest ++ heard.more) told signalled owes (omega arith) h)

-- a session as it begins
opened-rested : (shape : Shape) (section : Section) (plan : FlagPlan) (patience : ℕ) (k : Known) → k ≡ opened_pass section.no (record { db = section.db; notes = section.note_lines })
    → note_lines_of section.lines ≤ section.note_lines → QuitsLast section.lines → 1 ≤ patience → IsRested (terms_of shape section patience) plan 0 idle_view [] Lines k []
opened-rested shape section plan patience k e counted quits enough =
    subst (λ (p : Known). IsRested (terms_of shape section patience) plan 0 idle_view [] Lines p []) (sym e)
    (record {
      state = start section;
      stands = record {
        holds = record { stands_fresh = empty-stands (terms_of shape section patience) []; full = All-nil (IsFullThere (terms_of shape section patience).settings []); found = All-nil (λ (pair : ℕ × ℕ). pair.1 ≤ 3) };
        session = refl;
        database = refl;
        own = refl;
        mark = refl;
        marks = record { of_left = All-nil (Contains []); of_right = All-nil (Contains []) };
        stood = tt;
        named = All-nil (Contains []);
        interested = tt;
        patient = enough;
      };
      rest = refl;
      channels = refl;
      here = (record { owes = refl; block_state = refl; list = refl; tells = record { told = refl; raised = refl; found = refl }; budget = omega (arith, counted); quits_last = quits }, λ idle. tt);
    })

-- a session that is over has rested still where its pass has learned more
pub learned-at_end : (terms : Terms) (plan : FlagPlan) (done : ℕ) (block : BlockView) (set : List (List ℕ)) (doing : Doing) (k q : Known) (items after : List Item)
    → doing ≡ Over → HasLearned k q → after ≡ items → IsRested terms plan done block set doing k items → IsRested terms plan done block set doing q after
learned-at_end terms plan done block set doing k q items after over l same h =
    subst (λ (is : List Item). IsRested terms plan done block set doing q is) (sym same)
    (subst (λ (d : Doing). IsRested terms plan done block set d q items) (sym over)
    (over-learned terms plan done block set k q items l (subst (λ (d : Doing). IsRested terms plan done block set d k items) over h)))

-- and where its pass has heard of what another one knows
pub heard-at_end : (terms : Terms) (plan : FlagPlan) (done : ℕ) (block : BlockView) (set : List (List ℕ)) (doing : Doing) (from k q : Known) (items : List Item)
    → doing ≡ Over → HasHeard from k q → IsRested terms plan done block set doing k items → IsRested terms plan done block set doing q items
heard-at_end terms plan done block set doing from k q items over heard h =
    subst (λ (d : Doing). IsRested terms plan done block set d q items) (sym over)
    (over-heard terms plan done block set from k q items heard (subst (λ (d : Doing). IsRested terms plan done block set d k items) over h))

-- a read at the end
over-read : (terms : Terms) (plan : FlagPlan) (done : ℕ) (block : BlockView) (set : List (List ℕ)) (k q : Known) (items after : List Item) (from to : ℕ)
    → HasReadOn k q set from to items after → k.mark ≡ Some from → IsWithin k → IsRested terms plan done block set Over k items → IsRested terms plan done block set Over q after
over-read terms plan done block set k q items after from to r is_from known h =
    read-rested terms plan done block set Over k q items after from to r h.here.0.dropped is_from known
    (record { state = h.state; stands = h.stands; rest = h.rest; channels = h.channels; here = h.here.0 })

-- and where it has read on to the end
pub read-at_end : (terms : Terms) (plan : FlagPlan) (done : ℕ) (block : BlockView) (set : List (List ℕ)) (doing : Doing) (k q : Known) (items after : List Item) (from to : ℕ)
    → doing ≡ Over → HasReadOn k q set from to items after → k.mark ≡ Some from → IsWithin k → IsRested terms plan done block set doing k items → IsRested terms plan done block set doing q after
read-at_end terms plan done block set doing k q items after from to over r is_from known h =
    subst (λ (d : Doing). IsRested terms plan done block set d q after) (sym over)
    (over-read terms plan done block set k q items after from to r is_from known (subst (λ (d : Doing). IsRested terms plan done block set d k items) over h))

-- a session has rested as it begins: nothing is shown, the block is idle, the set is empty
pub begins-rested : (shape : Shape) (section : Section) (plan : FlagPlan) (patience : ℕ) (block : BlockView) (set : List (List ℕ)) (k : Known) (items : List Item)
    → k ≡ opened_pass section.no (record { db = section.db; notes = section.note_lines }) → note_lines_of section.lines ≤ section.note_lines → QuitsLast section.lines
    → 1 ≤ patience → block ≡ idle_view → set ≡ [] → items ≡ [] → IsRested (terms_of shape section patience) plan 0 block set Lines k items
begins-rested shape section plan patience block set k items e counted quits enough idle none nothing =
    let terms : Terms = terms_of shape section patience in
    subst (λ (b : BlockView). IsRested terms plan 0 b set Lines k items) (sym idle)
    (subst (λ (channels : List (List ℕ)). IsRested terms plan 0 idle_view channels Lines k items) (sym none)
    (subst (λ (is : List Item). IsRested terms plan 0 idle_view [] Lines k is) (sym nothing)
    (opened-rested shape section plan patience k e counted quits enough)))
