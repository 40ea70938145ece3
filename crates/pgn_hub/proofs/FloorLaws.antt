-- Proofs of the laws of a session's own mark and the floor.
use Rattle.std.proofs.Common.{◌≡◌, ℕ, ◌≤◌, Option, Some, IfSome, Contains, inl, inr, sym, ap, ◌∙◌, refl, subst}
use Rattle.std.proofs.lemmas.Option.{IfSome_then}
use Rattle.std.proofs.lemmas.List.Elements.{All-contains, Contains-append_left, Contains-append_cases}
use Rattle.pgn_hub.specs.declared.known.Advance.{Advance}
use Rattle.pgn_hub.specs.Shape.{Shape}
use Rattle.pgn_journal.specs.QueueUse.{IsFloorFor}
use Rattle.pgn_hub.specs.Calls.{LooksTwice, IsFloor, IsHolder, met_by, met_from}
use Rattle.pgn_hub.specs.Laws.{OwnFloors}

-- the floor is no higher than the own mark
floor-below : (shape : Shape) (session x floor : ℕ) (mark holder : Option ℕ) (advance : Advance) → LooksTwice shape session mark advance → IsFloor x (met_by advance) floor holder
    → IfSome mark (λ own. floor ≤ own)
floor-below shape session x floor mark holder advance looks is =
    IfSome_then mark looks.own_met (λ own met. All-contains (λ pair. floor ≤ pair.1) (met_by advance) (session, own) is.least
    (Contains-append_left (met_from 1 advance.first) (met_from 1 advance.second) (session, own) met.0))

-- who was met in one of the looks at the own seat has the own mark
own-met : (shape : Shape) (session floor : ℕ) (mark : Option ℕ) (advance : Advance) → LooksTwice shape session mark advance → Contains (met_by advance) (session, floor)
    → mark ≡ Some floor
own-met shape session floor mark advance looks met =
    elim (Contains-append_cases (met_from 1 advance.first) (met_from 1 advance.second) (session, floor) met) as (λ _. mark ≡ Some floor) [
      | inl there ↦ All-contains (λ pair. pair.0 ≡ session → mark ≡ Some pair.1) (met_from 1 advance.first) (session, floor) looks.own_first there refl
      | inr there ↦ All-contains (λ pair. pair.0 ≡ session → mark ≡ Some pair.1) (met_from 1 advance.second) (session, floor) looks.own_second there refl
    ]

-- the session holds the floor only where its mark is the floor
own-holds : (shape : Shape) (session x floor : ℕ) (mark holder : Option ℕ) (advance : Advance) → LooksTwice shape session mark advance → IsHolder x (met_by advance) floor holder
    → holder ≡ Some session → mark ≡ Some floor
own-holds shape session x floor mark holder advance looks held is =
    let mine : IsHolder x (met_by advance) floor (Some session) = subst (λ (h : Option ℕ). IsHolder x (met_by advance) floor h) is held in
    own-met shape session floor mark advance looks mine.1

floor-for : (own : ℕ) (shape : Shape) (session x floor : ℕ) (mark holder : Option ℕ) (advance : Advance) → session ≡ own → LooksTwice shape session mark advance
    → IsFloor x (met_by advance) floor holder → IsFloorFor own mark floor holder
floor-for own shape session x floor mark holder advance is looks floors = record {
  below = floor-below shape session x floor mark holder advance looks floors;
  own = λ h. own-holds shape session x floor mark holder advance looks floors.held (h ∙ ap Some (sym is));
}

-- a listener's mark is never below the floor, and is the floor where it holds it
pub own-floors : OwnFloors
own-floors = record {
  of_full = λ own shape old new notes full is h. floor-for own shape old.session full.xid full.floor_mark old.mark full.holder new.advance is h.looked h.floor;
  of_usage = λ own shape old new usage is h. floor-for own shape old.session usage.at usage.floor_mark old.mark usage.holder new.advance is h.looked h.floor;
}
