-- Proofs of the laws of what the calls say.
use Rattle.std.proofs.Common.{ℕ, List, ◌++◌, Option, Some, None, IfSome, All, Contains, sym, subst}
use Rattle.std.proofs.lemmas.Option.{IfSome_then}
use Rattle.std.proofs.lemmas.List.Elements.{All-contains, Contains-append_right}
use Rattle.pgn_hub.specs.declared.known.Known.{Known}
use Rattle.pgn_hub.specs.Calls.{IsHolder, met_by}
use Rattle.pgn_hub.specs.Laws.{HoldersAreNamed}

-- who holds the floor was met with the floor mark
holder_is_met : (x : ℕ) (met : List (ℕ × ℕ)) (floor : ℕ) (holder : Option ℕ) → IsHolder x met floor holder → IfSome holder (λ session. Contains met (session, floor))
holder_is_met x met floor None h = tt
holder_is_met x met floor (Some session) h = h.1

-- who holds the floor is named, where all that were met are
holder_is_named : (x : ℕ) (met old named : List (ℕ × ℕ)) (floor : ℕ) (holder : Option ℕ) → IsHolder x met floor holder → All (Contains named) met
    → IfSome holder (λ session. Contains (old ++ named) (session, floor))
holder_is_named x met old named floor holder h all =
    IfSome_then holder (holder_is_met x met floor holder h)
    (λ session there. Contains-append_right old named (session, floor) (All-contains (Contains named) met (session, floor) all there))

-- who holds up a writer or is shown in a measure is named, with the floor's mark
pub holders-are_named : HoldersAreNamed
holders-are_named = record {
  of_full = λ shape old new notes full h.
      subst (λ (k : Known). IfSome full.holder (λ session. Contains k.named (session, full.floor_mark))) (sym h.known)
      (holder_is_named full.xid (met_by new.advance) old.named h.named full.floor_mark full.holder h.floor.held h.met);
  of_usage = λ shape old new usage h.
      subst (λ (k : Known). IfSome usage.holder (λ session. Contains k.named (session, usage.floor_mark))) (sym h.known)
      (holder_is_named usage.at (met_by new.advance) old.named h.named usage.floor_mark usage.holder h.floor.held h.met);
}
