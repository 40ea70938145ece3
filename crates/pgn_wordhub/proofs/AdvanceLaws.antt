-- The steps of an advance, one after another.
use Rattle.std.proofs.Common.{◌≡◌, ℕ, ◌<◌, ◌≤◌, List, ◌++◌, length, Option, Some, None, IfSome, All, Contains, sym, refl, ap, ◌∙◌, subst, arith}
use Rattle.std.proofs.lemmas.List.{append_assoc}
use Rattle.std.proofs.lemmas.List.Elements.{All-contains_itself}
use Rattle.pgn_hub.specs.declared.known.Advance.{Advance}
use Rattle.pgn_journal.specs.Journal.{next_xid}
use Rattle.pgn_journal.specs.Packing.{page_of, place}
use Rattle.pgn_hub.specs.Shape.{Shape}
use Rattle.pgn_hub.specs.Calls.{met_from, met_by, LooksTwice, IsFloor}
use Rattle.pgn_hub.specs.Passes.{no_advance}
use Rattle.pgn_words.specs.declared.view.View.{View}
use Rattle.pgn_words.specs.Views.{holds_lock}
use Rattle.pgn_words.specs.Positions.{packed, place_in}
use Rattle.pgn_words.specs.Looking.{second_begun, stopped}
use Rattle.pgn_wordhub.specs.Looks.{HasSeenFirst, HasSeenSecond}
use Rattle.pgn_words.specs.Told.{HasHeard, head_known, stop_known}
use Rattle.pgn_wordhub.specs.Advancing.{advanced_view, HasAdvancedTo}

-- the pass after the first look, and as the second one begins
abbrev first_seen : View → View → List (Option ℕ) → View
first_seen v w first = record v { eye = w.eye; known = record v.known { named = v.known.named ++ met_from 1 first; advance = record no_advance { first = first } } }

both_met : (session : ℕ) (mark : Option ℕ) (xs ys : List (ℕ × ℕ)) → IfSome mark (λ own. Contains xs (session, own)) → IfSome mark (λ own. Contains ys (session, own))
    → IfSome mark (λ own. Contains xs (session, own) × Contains ys (session, own))
both_met session None xs ys one other = tt
both_met session (Some own) xs ys one other = (one, other)

-- the whole advance, for the pass
pub advances : (z : Shape) (v w x y u : View) (mark at mark1 at1 tail stop : ℕ) (holder holder1 : Option ℕ) → v.setup ≡ z → 0 < length z.seats → v.known.session ≤ length z.seats
    → HasSeenFirst v w (length z.seats) mark1 at1 holder1 → x ≡ second_begun tail w → HasSeenSecond x y (length z.seats) mark at holder → u ≡ stopped stop y → page_of y.eye.target ≤ stop
    → (u ≡ advanced_view u v) × HasAdvancedTo z v u mark at holder
advances z v w x y u mark at mark1 at1 tail stop holder holder1 setup some within h e g s page =
    let W : View = second_begun tail (first_seen v w h.first) in
    let f : x ≡ W = e ∙ ap (second_begun tail) h.view in
    let k : HasSeenSecond W y (length z.seats) mark at holder = subst (λ (q : View). HasSeenSecond q y (length z.seats) mark at holder) f g in
    let first = h.first in
    let second = k.second in
    let named = met_from 1 first ++ met_from 1 second in
    let Y : View = record W { eye = y.eye; known = record W.known { named = W.known.named ++ met_from 1 second; advance = record W.known.advance { second = second } } } in
    let U : View = stopped stop Y in
    let i : u ≡ U = s ∙ ap (stopped stop) k.view in
    let advance : u.known.advance ≡ U.known.advance = ap (λ (q : View). q.known.advance) i in
    let eye = ap (λ (q : View). q.eye) i in
    let no_later = k.no_later (subst (λ (n : ℕ). 0 < n) (sym k.looked) some) in
    let low = k.floor.low in
    let in_word : place_in (packed mark at) ≡ at = omega (arith, low) in
    let floor_at : place_in y.eye.least ≡ at = ap place_in k.floor.least_is ∙ in_word in
    let stop_is : u.stop ≡ stop = ap (λ (q : View). q.stop) i in
    let target_is : u.eye.target ≡ y.eye.target = ap (λ (q : View). q.eye.target) i in (
      subst (λ (q : View). q ≡ advanced_view q v) (sym i) refl,
      record {
        named = named;
        named_is = ap (λ (q : View). q.known.named) i ∙ append_assoc v.known.named (met_from 1 first) (met_from 1 second);
        looked = subst (λ (a : Advance). LooksTwice z v.known.session v.known.mark a) (sym advance) (record {
          first_look = h.come.long;
          second_look = k.come.long;
          own_first = h.come.own;
          own_second = k.come.own;
          own_met = both_met v.known.session v.known.mark (met_from 1 first) (met_from 1 second) (h.come.own_met within) (k.come.own_met within);
        });
        floor = subst (λ (a : Advance). IsFloor (next_xid v.known.seen) (met_by a) mark holder) (sym advance) k.floor.floor;
        met = subst (λ (a : Advance). All (Contains named) (met_by a)) (sym advance) (All-contains_itself named);
        at_is = k.floor.at_is ∙ ap (λ (q : Shape). place q.format v.known.seen mark) setup;
        second = ap (λ (q : View). q.eye.look) i ∙ k.look;
        all = ap (λ (q : View). q.eye.looked) i ∙ k.looked;
        kept = omega (arith, page, stop_is, target_is);
        floor_kept = omega (arith, page, stop_is, no_later, floor_at);
        needed = subst (λ (a : Advance). All (λ pair. u.eye.target ≤ place z.format v.known.seen pair.1) (met_from 1 a.second)) (sym advance)
            (subst (λ (n : ℕ). All (λ pair. n ≤ place z.format v.known.seen pair.1) (met_from 1 second)) (sym target_is)
            (subst (λ (q : Shape). All (λ pair. y.eye.target ≤ place q.format v.known.seen pair.1) (met_from 1 second)) setup k.needed));
      },
    )

-- the holder that loads the first unfinished number knew it all
pub loads : (v a b w : View) (stop at : ℕ) → a ≡ head_known v → b ≡ stop_known stop a → HasHeard b at w → w ≡ stop_known stop (head_known v)
loads v a b w stop at e f heard =
    let is : b ≡ stop_known stop (head_known v) = f ∙ ap (stop_known stop) e in heard.holder (ap (λ (y : View). holds_lock y.phase) is) ∙ is
