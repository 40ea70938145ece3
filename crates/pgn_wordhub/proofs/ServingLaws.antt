-- A transaction as the hub's caller sees it, from before the lock was taken until after it was given up.
use Rattle.std.proofs.Common.{◌≡◌, ℕ, ◌+◌, ◌-◌, ◌≤◌, List, [], ◌∷◌, ◌++◌, length, slice_get, Option, Some, None, IsSomeAnd, Result, Ok, Err, IfOk, IfErr, sym, ap, ◌∙◌, subst, arith}
use Rattle.std.proofs.lemmas.List.{append_assoc}
use Rattle.pgn_base.specs.declared.note.Note.{Note}
use Rattle.pgn_base.specs.declared.queue_answers.Full.{Full}
use Rattle.pgn_hub.specs.declared.setup.SeatSetup.{SeatSetup}
use Rattle.pgn_journal.specs.declared.tx.Tx.{Tx}
use Rattle.pgn_journal.specs.declared.tx.Fate.TheVariants.{Committed, Aborted}
use Rattle.pgn_hub.specs.declared.known.Known.{Known}
use Rattle.pgn_journal.specs.Journal.{next_xid}
use Rattle.pgn_hub.specs.Shape.{Shape}
use Rattle.pgn_hub.specs.Calls.{tx_of, HasPublished, HasMetFull}
use Rattle.pgn_hub.specs.Passes.{IsWithin, IsSeated, no_advance}
use Rattle.pgn_hub.proofs.WithinLaws.{calls-keep_within}
use Rattle.pgn_words.specs.declared.view.View.{View}
use Rattle.pgn_words.specs.declared.view.Post.{Post}
use Rattle.pgn_words.specs.Views.{is_settled}
use Rattle.pgn_words.specs.Positions.{listens_at}
use Rattle.pgn_words.specs.Told.{HasLocked, locked, freed}
use Rattle.pgn_wordhub.specs.Passes.{IsHubView}
use Rattle.pgn_wordhub.specs.Finishing.{HasEnded}

-- what was published, or met a full queue, with the lock taken was so from before it was taken
pub published_from : (k l m : Known) (more : List Tx) (notes : List Note) (x : ℕ) → l ≡ record k { seen = k.seen ++ more; advance = no_advance } → HasPublished l m notes x → HasPublished k m notes x
published_from k l m more notes x e h =
    let L : Known = record k { seen = k.seen ++ more; advance = no_advance } in
    let g : HasPublished L m notes x = subst (λ (y : Known). HasPublished y m notes x) e h in record {
      more = more ++ g.more;
      named = g.named;
      advance = g.advance;
      number = g.number ∙ ap next_xid (append_assoc k.seen more g.more);
      known = g.known ∙ ap (λ (txs : List Tx). let u : Known = record k {
        seen = txs ++ tx_of k notes (length notes) Committed ∷ [];
        own = k.own ++ x ∷ [];
        told = x + 1;
        signalled = x + 1;
        notes_left = k.notes_left - length notes;
        named = k.named ++ g.named;
        advance = g.advance;
      } in u) (append_assoc k.seen more g.more);
    }

-- a queue that is full for a pass was so for it before it heard more of the journal
pub met_full_from : (z : Shape) (k l m : Known) (more : List Tx) (notes : List Note) (full : Full) → l ≡ record k { seen = k.seen ++ more; advance = no_advance } → HasMetFull z l m notes full → HasMetFull z k m notes full
met_full_from z k l m more notes full e h =
    let L : Known = record k { seen = k.seen ++ more; advance = no_advance } in
    let g : HasMetFull z L m notes full = subst (λ (y : Known). HasMetFull z y m notes full) e h in record {
      more = more ++ g.more;
      named = g.named;
      number = g.number ∙ ap next_xid (append_assoc k.seen more g.more);
      known = g.known ∙ ap (λ (txs : List Tx). let u : Known = record k {
        seen = txs ++ tx_of k notes full.queued Aborted ∷ [];
        own = k.own ++ full.xid ∷ [];
        told = full.xid + 1;
        signalled = full.xid + 1;
        notes_left = k.notes_left - length notes;
        named = k.named ++ g.named;
        advance = m.advance;
      } in u) (append_assoc k.seen more g.more);
      no_page = g.no_page;
      looked = g.looked;
      floor = g.floor;
      met = g.met;
    }

-- a pass that has sent a transaction is of the same seat, and what holds of each pass holds of it
pub record HasSent (k l : Known) : Type 0 where
  pub within : IsWithin l
  pub session : l.session ≡ k.session
  pub db : l.db ≡ k.db
  pub left : l.notes_left ≤ k.notes_left
  pub mark : l.mark ≡ k.mark

-- a publish has sent, whether it was published or met a full queue
pub has_sent : (z : Shape) (k l : Known) (notes : List Note) (result : Result ℕ Full) → IsWithin k → IfOk result (λ x. HasPublished k l notes x) → IfErr result (λ full. HasMetFull z k l notes full) → HasSent k l
has_sent z k l notes (Ok x) within h none =
    let left : l.notes_left ≡ k.notes_left - length notes = ap (λ (y : Known). y.notes_left) h.known in record {
      within = calls-keep_within.published k l notes x h within;
      session = ap (λ (y : Known). y.session) h.known;
      db = ap (λ (y : Known). y.db) h.known;
      left = omega (arith, left);
      mark = ap (λ (y : Known). y.mark) h.known;
    }
has_sent z k l notes (Err full) within none h =
    let left : l.notes_left ≡ k.notes_left - length notes = ap (λ (y : Known). y.notes_left) h.known in record {
      within = calls-keep_within.met_full z k l notes full h within;
      session = ap (λ (y : Known). y.session) h.known;
      db = ap (λ (y : Known). y.db) h.known;
      left = omega (arith, left);
      mark = ap (λ (y : Known). y.mark) h.known;
    }

fewer_left : (o : Option SeatSetup) (k l : Known) → l.db ≡ k.db → l.notes_left ≤ k.notes_left → IsSomeAnd o (λ seat. (seat.db ≡ k.db) × (k.notes_left ≤ seat.notes)) → IsSomeAnd o (λ seat. (seat.db ≡ l.db) × (l.notes_left ≤ seat.notes))
fewer_left None k l db left h = h
fewer_left (Some seat) k l db left h = (h.0 ∙ sym db, let most = h.1 in omega (arith, most, left))

-- it is still that of a seat
still_seated : (z : Shape) (k l : Known) → HasSent k l → IsSeated z k → IsSeated z l
still_seated z k l h seated =
    let first = seated.first in
    let session = h.session in record {
      first = omega (arith, first, session);
      seat = subst (λ (n : ℕ). IsSomeAnd (slice_get z.seats (n - 1)) (λ seat. (seat.db ≡ l.db) × (l.notes_left ≤ seat.notes))) (sym session) (fewer_left (slice_get z.seats (k.session - 1)) k l h.db h.left seated.seat);
    }

-- once it has given the lock up, it is one of the hub's again
pub gives_up : (z : Shape) (v l m w : View) → IsHubView z v → HasLocked v l → HasEnded l m → w ≡ freed m → HasSent v.known w.known → IsHubView z w
gives_up z v l m w h lock done free sent =
    let after : View → View = λ y. freed (record y { phase = m.phase; ended = m.ended; stop = m.stop; loaded_stop = m.loaded_stop; pen = m.pen; eye = m.eye; verdicts = m.verdicts; concerned = m.concerned; known = m.known }) in
    let is : w ≡ after (locked (v.known.seen ++ lock.more) v) = free ∙ ap freed done.view ∙ ap after lock.view in
    let post : w.post ≡ v.post = ap (λ (y : View). y.post) is in record {
      rest = record {
        free = ap (λ (y : View). y.phase) is;
        told = ap (λ (y : View). y.ended) is;
        decided = ap (λ (y : View). y.verdicts) is;
        settled = ap (λ (p : Post). is_settled p.listen) post ∙ h.rest.settled;
        alone = ap (λ (y : View). y.joined) is ∙ h.rest.alone;
        listens = sent.mark ∙ h.rest.listens ∙ sym (ap listens_at post);
      };
      within = sent.within;
      seated = still_seated z v.known w.known sent h.seated;
    }
