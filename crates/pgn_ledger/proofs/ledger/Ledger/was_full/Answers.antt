use Rattle.std.proofs.Common.{◌≡◌, ◌-◌, ◌≤◌, ◌&&◌, ◌∙◌, ℕ, List, Some, ap, sym, length, arith, refl}
use Rattle.std.specs.Prelude.{slice_get}
use Rattle.std.proofs.lemmas.Bool.{false≢true}
use Rattle.std.proofs.lemmas.Option.{slice_get_past, slice_get_read}
use Rattle.pgn_journal.specs.declared.tx.Tx.{Tx}
use Rattle.pgn_journal.specs.Journal.{entry}
use Rattle.pgn_journal.specs.Packing.{place}
use Rattle.pgn_ledger.specs.QueueUse.{has_no_page, is_cut_short}
use Rattle.pgn_ledger.proofs.PlaceLaws.{notes_of_one}
use Rattle.pgn_ledger.proofs.QueueLaws.{is_no_page, no_page_is, none_no_page}
use Rattle.pgn_ledger.proofs.ledger.Ledger.was_full.Goals as goal

pub returns-then-at-self : goal.returns-then-at-self
returns-then-at-self c =
    let full = c.args.full.now in
    let past : length c.args.self.now.journal.now ≤ full.xid - 3 = omega arith in
    (λ h. absurd (false≢true h), λ h. absurd (none_no_page c.args.self.now.format c.args.limit c.args.self.now.journal.now full (slice_get_past c.args.self.now.journal.now (full.xid - 3) past) h))

pub was_full_at-requires : goal.was_full_at-requires
was_full_at-requires c =
    let journal = c.args.self.now.journal.now in
    let one = notes_of_one journal (c.get.result - 3) c.index-self-at.result c.if-at-self.false in
    record {
      within = omega (arith, c.args.self.now.known.few);
      few = omega (arith, one, c.args.self.now.known.few_notes);
    }

pub returns : goal.returns
returns c =
    let full = c.args.full.now in
    let journal : List Tx = c.args.self.now.journal.now in
    let tx : Tx = c.index-self-at.result in
    let at : c.get.result - 3 ≡ full.xid - 3 = omega arith in
    let there : entry journal full.xid ≡ Some tx = ap (λ (k : ℕ). slice_get journal k) (sym at) ∙ slice_get_read journal (length journal) (c.get.result - 3) tx refl c.if-at-self.false c.index-self-at.is in
    let test : c.was_full_at.result ≡ (is_cut_short c.args.self.now.format (place c.args.self.now.format journal full.xid) full.queued tx && has_no_page c.args.self.now.format c.args.limit journal full) =
    c.was_full_at.ensures
    ∙ ap (λ (t : Tx). is_cut_short c.args.self.now.format (place c.args.self.now.format journal full.xid) full.queued t && has_no_page c.args.self.now.format c.args.limit journal full) (sym c.index-self-at.is) in
    (λ h. no_page_is c.args.self.now.format c.args.limit journal full tx there (sym test ∙ h), λ h. test ∙ is_no_page c.args.self.now.format c.args.limit journal full tx there h)
