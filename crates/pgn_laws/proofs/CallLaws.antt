-- Proofs of the laws of what the calls say.
use Rattle.std.proofs.Common.{◌≡◌, ℕ, ◌≤◌, ◌++◌, length, Option, IfSome, sym, ap, ◌∙◌, subst, arith, length-append}
use Rattle.std.proofs.lemmas.Option.{IfSome_then}
use Rattle.pgn_hub.specs.declared.known.Known.{Known}
use Rattle.pgn_journal.specs.Journal.{next_xid}
use Rattle.pgn_journal.specs.Due.{due, is_due_to}
use Rattle.pgn_journal.proofs.DueLaws.{due-grows}
use Rattle.pgn_journal.proofs.NearLaws.{near-grows}
use Rattle.pgn_journal.proofs.QueueUseLaws.{no_page-grows, usage-grows}
use Rattle.pgn_hub.specs.Laws.{ReadGrows, WokenGrows, FullGrows, MeasuredGrows}

-- what a read has delivered stays due, whatever the journal gets behind it
pub read-grows : ReadGrows
read-grows old new set to before after more h =
    let given : after ≡ before ++ due (new.seen ++ more) h.from to old.db set =
    h.delivered ∙ ap (λ ds. before ++ ds) (sym (due-grows new.seen more h.from to old.db set h.in_seen)) in
    subst (λ (mark : Option ℕ). IfSome mark (λ from. after ≡ before ++ due (new.seen ++ more) from to old.db set)) (sym h.from_mark) given

-- who was not woken has nothing to read, whatever the journal gets behind it
pub woken-grows : WokenGrows
woken-grows format old new woken more within h unset =
    let seen : length new.seen ≡ length (old.seen ++ h.more) = ap (λ (k : Known). length k.seen) h.known in
    let told : old.told ≤ next_xid new.seen = omega (arith, within.told, seen, length-append old.seen h.more) in
    IfSome_then old.mark (h.near unset) (λ mark near. near-grows format (is_due_to old.db old.set) new.seen more mark old.told told near)

-- the reason of a full queue stays, whatever the journal gets behind it
pub full-grows : FullGrows
full-grows shape old new notes full more h = no_page-grows shape.format shape.pages new.seen more full h.no_page

-- what was measured stays in use, whatever the journal gets behind it
pub measured-grows : MeasuredGrows
measured-grows shape old new usage more h = usage-grows shape.format shape.pages new.seen more usage h.shows
