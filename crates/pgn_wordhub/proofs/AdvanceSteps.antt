-- The parts of an advance as its calls join them.
use Rattle.std.proofs.Common.{◌≡◌, ℕ, ◌<◌, ◌≤◌, List, [], ◌++◌, Option, sym, refl, ap, ◌∙◌, subst, arith}
use Rattle.std.proofs.lemmas.List.{append-nil, append_assoc}
use Rattle.std.proofs.lemmas.List.Elements.{All-nil}
use Rattle.pgn_journal.specs.Packing.{place}
use Rattle.pgn_hub.specs.Calls.{met_from}
use Rattle.pgn_hub.specs.Passes.{no_advance}
use Rattle.pgn_words.specs.declared.pos_word.PosWord.{PosWord}
use Rattle.pgn_words.specs.declared.pos_word.PosWord.TheVariants as words
use Rattle.pgn_words.specs.declared.view.View.{View}
use Rattle.pgn_words.specs.Positions.{mark_in}
use Rattle.pgn_words.specs.Looking.{second_begun, announced, stopped, joins_at, looked_second, second_looked, TellsPosition, HasLookedSecond}
use Rattle.pgn_wordhub.specs.Floors.{IsFloorOf}
use Rattle.pgn_wordhub.specs.Looks.{HasSeenFirst, HasSeenSecond, HasSeenSome}
use Rattle.pgn_wordhub.specs.Advancing.{advanced_view, HasTried}
use Rattle.pgn_wordhub.proofs.LookLaws.{none_come, counts, IsLookingOn}

-- the pass after the first look
abbrev first_seen : View → View → List (Option ℕ) → View
first_seen v w first = record v { eye = w.eye; known = record v.known { named = v.known.named ++ met_from 1 first; advance = record no_advance { first = first } } }

-- the second look begins with the announced tail, by the pass itself
pub begun_as : (v w : View) (tail : ℕ) → w ≡ second_begun tail v → w ≡ second_begun w.eye.tail v
begun_as v w tail is = is ∙ ap (λ n. second_begun n v) (sym (ap (λ (u : View). u.eye.tail) is))

-- the same once a greater tail was announced
pub announced_as : (v w x : View) (tail : ℕ) → w ≡ second_begun tail v → x ≡ announced w → x ≡ second_begun x.eye.tail v
announced_as v w x tail begun is = begun_as v x w.eye.least (is ∙ ap (second_begun w.eye.least) begun)

-- the second look begins where the first one has come over all seats
pub second_begins : (v w x : View) (seats mark at tail : ℕ) (holder : Option ℕ) → 0 < x.known.session → HasSeenFirst v w seats mark at holder → x ≡ second_begun tail w → mark_in x.eye.least ≤ mark_in x.eye.tail
    → HasSeenSecond x x 0 mark at holder
second_begins v w x seats mark at tail holder some h begun announced =
    let is : x ≡ second_begun tail (first_seen v w h.first) = begun ∙ ap (second_begun tail) h.view in
    let none = ap (λ (u : View). u.known.advance.second) is in
    let looked = ap (λ (u : View). u.eye.looked) begun in record {
      second = [];
      view = ap (λ l. record x { known = record x.known { named = l } }) (sym (append-nil x.known.named))
          ∙ ap (λ l. record x { known = record x.known { named = x.known.named ++ []; advance = record x.known.advance { second = l } } }) none;
      look = ap (λ (u : View). u.eye.look) begun;
      looked = looked;
      come = none_come x.known.session x.known.mark some;
      floor = subst (λ (u : View). IsFloorOf u.setup.format u.known.seen (met_from 1 u.known.advance.first ++ []) u.eye.least mark at holder) (sym is)
          (subst (λ (l : List (ℕ × ℕ)). IsFloorOf v.setup.format v.known.seen l w.eye.least mark at holder) (sym (append-nil (met_from 1 h.first))) h.floor);
      announced = λ _. announced;
      no_later = λ more. absurd (omega (arith, more, looked));
      needed = All-nil (λ (pair : ℕ × ℕ). x.eye.target ≤ place x.setup.format x.known.seen pair.1);
    }

-- a second look that gives up at a joiner has seen the seats before it
pub gives_up : (v w x : View) (seat mark at : ℕ) (holder : Option ℕ) (found : PosWord) → HasSeenSecond v w seat mark at holder → HasLookedSecond w seat found x → found ≡ words.Joining → HasSeenSome v x
gives_up v w x seat mark at holder found h looked joins =
    let is : x ≡ joins_at seat (record v { eye = w.eye; known = record v.known { named = v.known.named ++ met_from 1 h.second; advance = record v.known.advance { second = h.second } } }) =
    looked.view ∙ ap (λ f. second_looked seat f w) joins ∙ ap (joins_at seat) h.view in record {
      second = h.second;
      view = is ∙ ap (λ e. record v { eye = e; known = record v.known { named = v.known.named ++ met_from 1 h.second; advance = record v.known.advance { second = h.second } } }) (sym (ap (λ (u : View). u.eye) is));
      look = ap (λ (u : View). u.eye.look) is ∙ h.look;
    }

-- of the pass the two looks change what an advance changes
pub advanced_on : (v w x y : View) (seats mark at mark1 at1 tail : ℕ) (holder holder1 : Option ℕ) → HasSeenFirst v w seats mark1 at1 holder1 → x ≡ second_begun tail w → HasSeenSecond x y seats mark at holder → y ≡ advanced_view y v
advanced_on v w x y seats mark at mark1 at1 tail holder holder1 h begun seen =
    let W : View = second_begun tail (first_seen v w h.first) in
    let k : HasSeenSecond W y seats mark at holder = subst (λ (q : View). HasSeenSecond q y seats mark at holder) (begun ∙ ap (second_begun tail) h.view) seen in
    subst (λ (q : View). q ≡ advanced_view q v) (sym k.view) refl

-- and so does the freeing of pages
pub stops_on : (v y u : View) (stop : ℕ) → y ≡ advanced_view y v → u ≡ stopped stop y → u ≡ advanced_view u v
stops_on v y u stop on is = subst (λ (q : View). q ≡ advanced_view q v) (sym (is ∙ ap (stopped stop) on)) refl

-- an advance was tried
pub tries : (v w x y u : View) (seats mark at tail stop : ℕ) (holder : Option ℕ) → HasSeenFirst v w seats mark at holder → x ≡ second_begun tail w → HasSeenSome x y → u ≡ stopped stop y → HasTried v u
tries v w x y u seats mark at tail stop holder h begun seen stops =
    let W : View = second_begun tail (first_seen v w h.first) in
    let k : HasSeenSome W y = subst (λ (q : View). HasSeenSome q y) (begun ∙ ap (second_begun tail) h.view) seen in
    let first = met_from 1 h.first in
    let second = met_from 1 k.second in
    let U : View = stopped stop (record W { eye = y.eye; known = record W.known { named = W.known.named ++ second; advance = record W.known.advance { second = k.second } } }) in
    let is : u ≡ U = stops ∙ ap (stopped stop) k.view in record {
      named = first ++ second;
      view = subst (λ (q : View). q ≡ record v { stop = q.stop; eye = q.eye; known = record v.known { named = v.known.named ++ (first ++ second); advance = q.known.advance } }) (sym is)
          (ap (λ l. record U { known = record U.known { named = l } }) (append_assoc v.known.named first second));
    }

-- a seat whose session joined at first is looked at once it does not
pub looked_at_last : (v w x : View) (seat : ℕ) (found : PosWord) → IsLookingOn v w → (found ≡ words.Joining → ⊥) → HasLookedSecond w seat found x → HasLookedSecond v seat found x
looked_at_last v w x seat found on settled looked =
    let p = subst (λ (u : View). TellsPosition u seat found) on looked.position in record {
      view = looked.view ∙ counts seat found w settled ∙ ap (looked_second seat found) on ∙ sym (counts seat found v settled);
      position = record { placed = p.placed; mine = p.mine };
      least = looked.least;
      floor = looked.floor;
    }
