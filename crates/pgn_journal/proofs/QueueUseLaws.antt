-- Proofs of the laws of a full queue and of its usage.
use Rattle.std.proofs.Common.{◌≡◌, ℕ, ◌+◌, ◌-◌, ◌<◌, ◌≤◌, List, ◌++◌, length, IsSomeAnd, sym, ap, ◌∙◌, subst, arith, length-append}
use Rattle.pgn_base.specs.declared.format.Format.{Format}
use Rattle.pgn_journal.specs.declared.tx.Tx.{Tx}
use Rattle.pgn_journal.specs.Journal.{next_xid, entry}
use Rattle.pgn_journal.specs.Packing.{page_of, place}
use Rattle.pgn_journal.specs.QueueUse.{IsCutShort}
use Rattle.pgn_journal.specs.laws.QueueUse.{NoPageGrows, UsageGrows}
use Rattle.pgn_journal.proofs.PackingLemmas.{places_agree}
use Rattle.pgn_journal.proofs.JournalLaws.{entry-append, entry-within}

same-page : (format : Format) (journal more : List Tx) (x page : ℕ) → x ≤ next_xid journal → page ≡ page_of (place format journal x) → page ≡ page_of (place format (journal ++ more) x)
same-page format journal more x page h e = e ∙ ap page_of (sym (places_agree format journal more x h))

-- a page that was lacking is lacking over a longer journal too
pub no_page-grows : NoPageGrows
no_page-grows format limit journal more full h =
    let there : full.xid - 3 < length journal = entry-within journal (full.xid - 3) _ h.cut_short in
    let at : place format journal full.xid ≡ place format (journal ++ more) full.xid = sym (places_agree format journal more full.xid (omega (arith, there))) in
    record {
      cut_short = subst (λ (n : ℕ). IsSomeAnd (entry (journal ++ more) full.xid) (IsCutShort format n full.queued)) at
          (entry-append journal more (full.xid - 3) (IsCutShort format (place format journal full.xid) full.queued) h.cut_short);
      floor_below = h.floor_below;
      floor = same-page format journal more full.floor_mark full.floor_page (omega (arith, there, h.floor_below)) h.floor;
      head = same-page format journal more (full.xid + 1) full.head_page (omega (arith, there)) h.head;
      no_page = h.no_page;
      holder = h.holder;
    }

-- a usage that was shown is one over a longer journal too
pub usage-grows : UsageGrows
usage-grows format limit journal more usage h =
    let floor : place format (journal ++ more) usage.floor_mark ≡ place format journal usage.floor_mark = places_agree format journal more usage.floor_mark (omega (arith, h.floor_below, h.in_journal)) in
    let end : place format (journal ++ more) usage.at ≡ place format journal usage.at = places_agree format journal more usage.at h.in_journal in
    record {
      limited = h.limited;
      in_journal = omega (arith, h.in_journal, length-append journal more);
      floor_below = h.floor_below;
      in_use = ap (λ (n : ℕ). page_of n + usage.occupied) floor ∙ h.in_use ∙ ap page_of (sym end);
      holder = h.holder;
    }
