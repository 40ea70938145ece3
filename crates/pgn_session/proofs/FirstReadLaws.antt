-- A read between two lines, outside a block.
use Rattle.std.proofs.Common.{◌≡◌, ℕ, List, ◌++◌, Some, sym, refl, subst}
use Rattle.pgn_answers.specs.declared.block_state.BlockState.TheVariants.{Idle}
use Rattle.pgn_model.specs.declared.item.Item.{Item}
use Rattle.pgn_hub.specs.declared.known.Known.{Known}
use Rattle.pgn_hub.specs.Calls.{HasLearned}
use Rattle.pgn_hub.specs.Passes.{IsWithin}
use Rattle.pgn_model.specs.Walk.{Terms}
use Rattle.pgn_model.proofs.GrowingLaws.{up_to_date-grows}
use Rattle.pgn_model.proofs.NextLineLaws.{holds-within}
use Rattle.pgn_block.specs.Views.{BlockView}
use Rattle.pgn_session.specs.declared.doing.FlagPlan.{FlagPlan}
use Rattle.pgn_session.specs.declared.doing.Doing.{Doing}
use Rattle.pgn_session.specs.declared.doing.Doing.TheVariants.{Lines}
use Rattle.pgn_session.specs.Standing.{IsAnswered, IsRested}
use Rattle.pgn_session.specs.Parts.{HasReadOn}
use Rattle.pgn_session.proofs.KnownLaws.{stands-grows, answered-same}
use Rattle.pgn_session.proofs.ReadLaws.{read-rested}

rested-answered : (terms : Terms) (plan : FlagPlan) (done : ℕ) (block : BlockView) (set : List (List ℕ)) (k : Known) (items : List Item)
    → IsRested terms plan done block set Lines k items → IsAnswered terms plan done block set Lines k items
rested-answered terms plan done block set k items h = record { state = h.state; stands = h.stands; rest = h.rest; channels = h.channels; here = h.here.0 }

lines-learned : (terms : Terms) (plan : FlagPlan) (done : ℕ) (block : BlockView) (set : List (List ℕ)) (k q : Known) (items : List Item)
    → HasLearned k q → IsRested terms plan done block set Lines k items → IsRested terms plan done block set Lines q items
lines-learned terms plan done block set k q items l h =
    subst (λ (p : Known). IsRested terms plan done block set Lines p items) (sym l.known)
    (
    let grown : Known = record k { seen = k.seen ++ l.more } in
    record {
      state = h.state;
      stands = stands-grows terms k l.more items h.state h.stands;
      rest = h.rest;
      channels = h.channels;
      here = (
        answered-same terms plan block k grown h.state Lines (record { told = refl; raised = refl; found = refl; notes_left = refl }) h.here.0,
        λ idle. up_to_date-grows terms k.seen l.more h.state (holds-within terms k.seen items h.state h.stands.holds).told (h.here.1 idle),
      );
    }
    )

-- more was heard between two lines
pub learned-between : (terms : Terms) (plan : FlagPlan) (done : ℕ) (block : BlockView) (set : List (List ℕ)) (doing : Doing) (k q : Known) (items after : List Item)
    → doing ≡ Lines → HasLearned k q → after ≡ items → IsRested terms plan done block set doing k items → IsRested terms plan done block set doing q after
learned-between terms plan done block set doing k q items after between l same h =
    subst (λ (is : List Item). IsRested terms plan done block set doing q is) (sym same)
    (subst (λ (d : Doing). IsRested terms plan done block set d q items) (sym between)
    (lines-learned terms plan done block set k q items l (subst (λ (d : Doing). IsRested terms plan done block set d k items) between h)))

-- a read was made between two lines
pub read-between : (terms : Terms) (plan : FlagPlan) (done : ℕ) (block : BlockView) (set : List (List ℕ)) (doing : Doing) (k q : Known) (items after : List Item) (from to : ℕ)
    → doing ≡ Lines → block.state ≡ Idle → HasReadOn k q set from to items after → k.mark ≡ Some from → IsWithin k → IsRested terms plan done block set doing k items → IsRested terms plan done block set doing q after
read-between terms plan done block set doing k q items after from to between outside r is_from known h =
    subst (λ (d : Doing). IsRested terms plan done block set d q after) (sym between)
    (read-rested terms plan done block set Lines k q items after from to r outside is_from known
    (rested-answered terms plan done block set k items (subst (λ (d : Doing). IsRested terms plan done block set d k items) between h)))
