use Rattle.std.proofs.Common.{◌≡◌, ◌↔◌, ℕ, Bool, true, ◌&&◌, sym, ap, ◌∙◌, subst}
use Rattle.pgn_model.specs.Legal.{IsShownWithin}
use Rattle.pgn_reading.specs.Blame.{IsBorneOut}
use Rattle.pgn_walk.specs.Basis.{journal_of, settings_of}
use Rattle.pgn_ledger.specs.ToShow.{owed_of}
use Rattle.pgn_walk.proofs.BorneLaws.{borne_is}
use Rattle.pgn_walk.proofs.borne.is_borne_out.Goals as goal

pub returns : goal.returns
returns c = λ sections traces s tells e.
    let basis = c.args.basis.now in
    let i = c.args.item.now in
    let full : Bool = c.is_full_there-full.result in
    let found : Bool = c.was_raised-found.result in
    let holder : Bool = c.was_stood_at-holder.result in
    let within : Bool = c.is_within-within.result in
    let all : c.are_all-2.result ≡ (full && ((found && (holder && within)) && true)) = c.are_all-2.ensures ∙ ap (λ (t : Bool). full && (t && true)) c.are_all.ensures in
    let most : (within ≡ true) ↔ IsShownWithin c.next_xid.result i = c.is_within-within.ensures in
    subst (λ (t : Bool). (t ≡ true) ↔ IsBorneOut (settings_of basis) sections (journal_of basis) traces s i) (sym all)
    (borne_is (settings_of basis) sections (journal_of basis) traces s (owed_of c.args.owed.now) i full found holder within e c.is_full_there-full.ensures (c.was_raised-found.ensures sections traces tells)
    (c.was_stood_at-holder.ensures sections traces tells) (subst (λ (n : ℕ). (within ≡ true) ↔ IsShownWithin n i) c.next_xid.ensures most))
