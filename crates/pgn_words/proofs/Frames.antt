-- Groups of the rule that a step leaves as they are: the pass that makes it does not change in what the group reads.
use Rattle.std.proofs.Common.{◌≡◌, ⊎_elim, inl, inr, ℕ, ◌+◌, ◌^◌, ◌<◌, ◌≤◌, true, All, List, length, set, sym, ap, ◌∙◌, subst, arith}
use Rattle.std.specs.Prelude.{Any}
use mathlib.Core.Option.{some, some-injective}
use lib.ListN.{get_elem?}
use native.Mathlib.Decide.{ℕ_discrete}
use Rattle.atomic_table.proofs.Lists.{set_else}
use Rattle.pgn_journal.specs.declared.tx.Tx.{Tx}
use Rattle.pgn_journal.specs.Begins.{Begins}
use Rattle.pgn_journal.proofs.BeginsLaws.{begins-whole}
use Rattle.pgn_journal.specs.Journal.{next_xid, xids_of}
use Rattle.pgn_hub.specs.declared.known.Known.{Known}
use Rattle.pgn_hub.specs.Shape.{Shape}
use Rattle.pgn_words.specs.declared.view.View.{View}
use Rattle.pgn_words.specs.Views.{holds_lock, drawn_by, spent_by, fated}
use Rattle.pgn_words.specs.Rule.{Seated, Makes, Seats, Locks, Locking, KnowsAll, History, Draws, Numbers, Budget, Fates, Statuses}
use Rattle.pgn_words.specs.Each.{Someone}
use Rattle.pgn_words.proofs.EachLaws.{each_keep, changed_at, sum_set}
use Rattle.pgn_words.proofs.MoreFrames.{someone_keep}

module _ (views : List View) (id : ℕ) (v w : View) (here : get_elem? views id ≡ some v) where
  -- the seats stay, if the view keeps its session, its database, its setup and what it has made
  pub seats_keep : (z : Shape) (made : ℕ) (seat : ℕ → ℕ) → Seats z made seat views → w.known.session ≡ v.known.session → w.known.db ≡ v.known.db → w.setup ≡ v.setup → w.made ≡ v.made
      → Seats z made seat (set views id w)
  seats_keep z made seat h session db setup makes = record {
    few = h.few;
    seated = each_keep (Seated z made seat) views id v w here h.seated (λ p some. let s = p (subst (λ (n : ℕ). 0 < n) session some) in record {
      sits = ap seat session ∙ s.sits;
      was_made = subst (λ (n : ℕ). n ≤ made) (sym session) s.was_made;
      db_is = db ∙ s.db_is ∙ ap (λ n. (Rattle.pgn_words.specs.Views.seat_of z n).db) (sym session);
      some_db = subst (λ (n : ℕ). 0 < n) (sym db) s.some_db;
      db_fits = subst (λ (n : ℕ). n < 2 ^ 32) (sym db) s.db_fits;
      setup_is = setup ∙ s.setup_is;
    });
    makes = each_keep (Makes made) views id v w here h.makes (λ p some. let s = p (subst (λ (n : ℕ). 0 < n) makes some) in (session ∙ s.0, makes ∙ s.1));
  }

  -- the holder, seen at its seat
  there_after : (j : ℕ) (u : View) → get_elem? views j ≡ some u → w.known.session ≡ v.known.session → holds_lock w.phase ≡ holds_lock v.phase → (lock : ℕ) → u.known.session ≡ lock → holds_lock u.phase ≡ true
      → Dec (j ≡ id) → (x : View) × (get_elem? (set views id w) j ≡ some x) × (x.known.session ≡ lock) × (holds_lock x.phase ≡ true)
  there_after j u there session holds lock number held (yes e) =
      let same : v ≡ u = some-injective v u (sym here ∙ ap (get_elem? views) (sym e) ∙ there) in
      (w, subst (λ (n : ℕ). get_elem? (set views id w) n ≡ some w) (sym e) (changed_at views id v w here), session ∙ ap (λ x. x.known.session) same ∙ number, holds ∙ ap (λ x. holds_lock x.phase) same ∙ held)
  there_after j u there session holds lock number held (no ne) = (u, set_else views id j w ne ∙ there, number, held)

  -- the lock stays with who has it, if the view keeps its session and whether it holds it
  pub locking_keep : (lock holder : ℕ) → Locking lock holder views → w.known.session ≡ v.known.session → holds_lock w.phase ≡ holds_lock v.phase → Locking lock holder (set views id w)
  locking_keep lock holder h session holds = record {
    locks = each_keep (Locks lock holder) views id v w here h.locks (λ p held. let s = p (sym holds ∙ held) in (s.0, s.1 ∙ sym session, subst (λ (n : ℕ). 0 < n) (sym session) s.2));
    owned = λ some. let o = h.owned some in there_after holder o.0 o.1 session holds lock o.2 o.3 (ℕ_discrete holder id);
  }

  -- who knew the whole journal knows it still, where it has learned more
  pub whole_keep : (past : List Tx) → w.known.session ≡ v.known.session → w.joined ≡ v.joined → Begins w.known.seen past → length v.known.seen ≤ length w.known.seen → Someone (KnowsAll past) views → Someone (KnowsAll past) (set views id w)
  whole_keep past session gone begins longer h = someone_keep views id v w here (KnowsAll past) session
      (λ p. ⊎_elim (λ all. inl (begins-whole w.known.seen past begins (let same : length v.known.seen ≡ length past = ap length all in omega (arith, same, longer))))
      (λ theirs. inr (subst (λ (l : List Known). Any (λ k. k.seen ≡ past) l) (sym gone) theirs)) p) h

  -- the history stays, if the view keeps its session, what it has seen and sent, and whom it has taken in
  pub history_keep : (z : Shape) (lock fin made : ℕ) (past shown : List Tx) → History z lock fin made past shown views → w.known.session ≡ v.known.session → w.known.seen ≡ v.known.seen → w.known.own ≡ v.known.own → w.joined ≡ v.joined
      → History z lock fin made past shown (set views id w)
  history_keep z lock fin made past shown h session seen own gone = record {
    counted = h.counted;
    finished = h.finished;
    sessions = h.sessions;
    written = h.written;
    one_more = h.one_more;
    begins = h.begins;
    free = h.free;
    whole = someone_keep views id v w here (KnowsAll past) session (λ p. ⊎_elim (λ all. inl (seen ∙ all)) (λ theirs. inr (subst (λ (l : List Known). Any (λ k. k.seen ≡ past) l) (sym gone) theirs)) p) h.whole;
    sees = each_keep (λ _ u. Begins u.known.seen past) views id v w here h.sees (λ p. subst (λ (xs : List Tx). Begins xs past) (sym seen) p);
    own_seen = each_keep (λ _ u. All (λ x. x < next_xid u.known.seen) u.known.own) views id v w here h.own_seen (λ p.
        subst (λ (xs : List Tx). All (λ x. x < next_xid xs) w.known.own) (sym seen) (subst (λ (ns : List ℕ). All (λ x. x < next_xid v.known.seen) ns) (sym own) p));
    owns = each_keep (λ _ u. u.known.own ≡ xids_of u.known.session past) views id v w here h.owns (λ p. own ∙ p ∙ ap (λ n. xids_of n past) (sym session));
  }

  -- the numbers stay, if the view keeps whether it holds the lock and whether it has drawn one
  pub numbers_keep : (lock fin xid : ℕ) → Numbers lock fin xid views → holds_lock w.phase ≡ holds_lock v.phase → drawn_by w.phase ≡ drawn_by v.phase → Numbers lock fin xid (set views id w)
  numbers_keep lock fin xid h holds drawn = record {
    free = h.free;
    draws = each_keep (Draws fin xid) views id v w here h.draws (λ p held. p (sym holds ∙ held) ∙ ap (λ n. fin + n) (sym drawn));
  }

  -- the budget is enough, if the view has spent no more
  pub budget_keep : (z : Shape) (made : ℕ) (past : List Tx) → Budget z made past views → spent_by w ≤ spent_by v → Budget z made past (set views id w)
  budget_keep z made past h less = let all = sum_set spent_by views id v w here in omega (arith, h, all, less)

  -- the statuses stay, if the view keeps whether it holds the lock and the fate that it has set
  pub statuses_keep : (lock : ℕ) (past : List Tx) (ss : List ℕ) → Statuses lock past ss views → holds_lock w.phase ≡ holds_lock v.phase → fated w.phase w.pen.ending.fate ≡ fated v.phase v.pen.ending.fate
      → Statuses lock past ss (set views id w)
  statuses_keep lock past ss h holds fates = record {
    below = h.below;
    above = h.above;
    free = h.free;
    fates = each_keep (Fates past ss) views id v w here h.fates (λ p held. p (sym holds ∙ held) ∙ sym fates);
  }
