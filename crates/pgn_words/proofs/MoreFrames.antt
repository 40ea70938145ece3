-- Groups of the rule on listeners that a step leaves as they are: the pass that makes it does not change in what the group reads.
use Rattle.std.proofs.Common.{◌≡◌, ℕ, ◌+◌, ◌<◌, ◌≤◌, Bool, true, List, ◌++◌, length, get_or, set, sym, ap, ◌∙◌, subst, arith, inl, inr, ⊎_elim, All}
use Rattle.std.specs.Prelude.{Any, Contains, flat_map}
use Rattle.std.proofs.lemmas.List.Elements.{All-weaker}
use mathlib.Core.Option.{some, some-injective}
use lib.ListN.{get_elem?}
use native.Mathlib.Decide.{ℕ_discrete}
use Rattle.atomic_table.proofs.Lists.{set_else}
use Rattle.pgn_base.specs.declared.format.Format.{Format}
use Rattle.pgn_base.specs.declared.limits.TheConstants.{FIRST_XID}
use Rattle.pgn_journal.specs.declared.tx.Tx.{Tx}
use Rattle.pgn_hub.specs.declared.known.Known.{Known}
use Rattle.pgn_journal.specs.Due.{is_due_to}
use Rattle.pgn_journal.specs.Interest.{Covers}
use Rattle.pgn_journal.specs.Packing.{image}
use Rattle.pgn_hub.specs.Shape.{Shape}
use Rattle.pgn_words.specs.declared.view.View.{View}
use Rattle.pgn_words.specs.declared.view.Post.{Post}
use Rattle.pgn_words.specs.declared.view.Eye.{Eye}
use Rattle.pgn_words.specs.declared.view.Listen.TheVariants.{Registered}
use Rattle.pgn_words.specs.declared.view.Walk.{Walk}
use Rattle.pgn_words.specs.declared.view.Stage.TheVariants.{Shown}
use Rattle.pgn_words.specs.Views.{holds_lock, is_walking}
use Rattle.pgn_words.specs.Positions.{shown_as, word_of, listens_at, is_placed}
use Rattle.pgn_words.specs.Each.{Each, Someone, Keeps}
use Rattle.pgn_words.specs.ListenRule.{IsPlaced, Placed, Marks, ShowsPosition, Posts, Walking, Bounds, Walks, LookIn, LooksBy, Spared, Looks}
use Rattle.pgn_words.specs.WakeRule.{served, passed, waits_in, pending, ended_in, IsHeard, IsHeeded, Heeds, Signals, Wakes, Covered, Deems, Interests, raised_in, found_in, named_in, Raised, IsMost, IsTold, Flags, IsMarkedBy, MarkedBy, Marked, IsLast, Named, IsTaken, Taken}
use Rattle.pgn_words.proofs.EachLaws.{each_keep, changed_at}

-- who owes a read still, or owes one now, is heeded as before
owing : (format : Format) (matters : Tx → Bool) (past : List Tx) (by upto wake mark : ℕ) (walks : Bool) (ends : ℕ) (old new : Bool) → (old ≡ true → new ≡ true)
    → IsHeeded format matters past by upto wake mark walks ends old → IsHeeded format matters past by upto wake mark walks ends new
owing format matters past by upto wake mark walks ends old new owes h = record {
  still = ⊎_elim (λ woken. inl woken) (λ r. inr (⊎_elim (λ owed. inl (owes owed)) (λ near. inr near) r)) h.still;
  walked = h.walked;
}

-- whatever a pass was told, another may have been told of nothing
pub told_first : (fin told signalled : ℕ) → IsTold fin told signalled → IsTold fin FIRST_XID FIRST_XID
told_first fin told signalled h =
    let first = h.first in let below = h.below in let finished = h.finished in record { first = omega arith; below = omega arith; finished = omega (arith, first, below, finished) }

module _ (views : List View) (id : ℕ) (v w : View) (here : get_elem? views id ≡ some v) where
  -- a pass that has something is still there
  pub still_there : (P : View → Type 0) → (P v → P w) → (j : ℕ) × (u : View) × (get_elem? views j ≡ some u) × P u → (j : ℕ) × (u : View) × (get_elem? (set views id w) j ≡ some u) × P u
  still_there P keeps (j, u, there, p) = by_seat (ℕ_discrete j id)
    where
      by_seat : Dec (j ≡ id) → (k : ℕ) × (x : View) × (get_elem? (set views id w) k ≡ some x) × P x
      by_seat (yes e) =
          let same : u ≡ v = some-injective u v (sym there ∙ ap (get_elem? views) e ∙ here) in
          (id, w, changed_at views id v w here, keeps (subst P same p))
      by_seat (no ne) = (j, u, set_else views id j w ne ∙ there, p)

  -- somebody of whom a fact holds is there still, if it goes on to hold of the view
  pub someone_keep : (P : View → Type 0) → w.known.session ≡ v.known.session → (P v → P w) → Someone P views → Someone P (set views id w)
  someone_keep P session keeps (j, u, there, positive, p) =
      let r = still_there (λ x. (0 < x.known.session) × P x) (λ q. (subst (λ (n : ℕ). 0 < n) (sym session) q.0, keeps q.1)) (j, u, there, (positive, p)) in (r.0, r.1, r.2, r.3.0, r.3.1)

  -- the positions stay, if the view keeps its session, its position and its mark
  pub posts_keep : (format : Format) (past : List Tx) (fin stop made tail : ℕ) (pos : List ℕ) → Posts format past fin stop made tail pos views
      → w.known.session ≡ v.known.session → w.post ≡ v.post → w.known.mark ≡ v.known.mark → Posts format past fin stop made tail pos (set views id w)
  posts_keep format past fin stop made tail pos h session post mark = record {
    placed = each_keep (Placed format past fin stop) views id v w here h.placed (λ p.
        subst (λ (q : Post). is_placed q.listen ≡ true → (0 < w.known.session) × IsPlaced format past fin stop q.mark q.at) (sym post)
        (λ has. let s = p has in (subst (λ (n : ℕ). 0 < n) (sym session) s.0, s.1)));
    marks = each_keep Marks views id v w here h.marks (λ p. mark ∙ p ∙ ap listens_at (sym post));
    shows = each_keep (ShowsPosition pos) views id v w here h.shows (λ p i number. p i (sym session ∙ number) ∙ ap (λ (q : Post). word_of (shown_as q.listen q.mark q.at)) (sym post));
    owned = λ i some_mark. still_there (λ u. u.known.session ≡ i + 1) (λ p. session ∙ p) (h.owned i some_mark);
    unmade = h.unmade;
    tail_placed = h.tail_placed;
  }

  -- the walks stay, if the view keeps its position and its walk and has seen no less
  pub walks_keep : (format : Format) (room head : ℕ) (cells : List ℕ) → Walks format room head cells views → w.post ≡ v.post → w.walk ≡ v.walk → length v.known.seen ≤ length w.known.seen
      → Walks format room head cells (set views id w)
  walks_keep format room head cells h post walk seen = record {
    walking = each_keep Walking views id v w here h.walking (λ p.
        subst (λ (q : Post). is_walking w.walk.stage ≡ true → (q.listen ≡ Registered) × (q.mark ≤ w.walk.upto) × (w.walk.upto ≤ 3 + length w.known.seen)) (sym post)
        (subst (λ (k : Walk). is_walking k.stage ≡ true → (v.post.listen ≡ Registered) × (v.post.mark ≤ k.upto) × (k.upto ≤ 3 + length w.known.seen)) (sym walk)
        (λ walks. let s = p walks in (s.0, s.1, let far = s.2 in omega (arith, far, seen)))));
    bounds = each_keep (Bounds format room head cells) views id v w here h.bounds (λ p.
        subst (λ (q : Post). w.walk.stage ≡ Shown → Keeps room q.at (image format w.walk.shown) cells × (length (image format w.walk.shown) ≤ head)) (sym post)
        (subst (λ (k : Walk). k.stage ≡ Shown → Keeps room v.post.at (image format k.shown) cells × (length (image format k.shown) ≤ head)) (sym walk) p));
  }

  -- the looks stay, if the view keeps its session, its position, its look, and whether it holds the lock
  pub looks_keep : (format : Format) (past : List Tx) (fin stop looked target tail : ℕ) → Looks format past fin stop looked target tail views
      → w.known.session ≡ v.known.session → w.post ≡ v.post → holds_lock w.phase ≡ holds_lock v.phase → w.eye ≡ v.eye → Looks format past fin stop looked target tail (set views id w)
  looks_keep format past fin stop looked target tail h session post holds eye = record {
    looking = each_keep (LooksBy format past fin looked target tail) views id v w here h.looking (λ p held.
        subst (λ (e : Eye). LookIn e.look format past fin looked target tail e) (sym eye) (p (sym holds ∙ held)));
    spared = each_keep (Spared looked target) views id v w here h.spared (λ p.
        subst (λ (q : Post). is_placed q.listen ≡ true → w.known.session ≤ looked → target ≤ q.at) (sym post)
        (λ has low. p has (subst (λ (n : ℕ). n ≤ looked) session low)));
    aims = h.aims;
    above = h.above;
  }

  -- each listener heeds its wake still, if the view keeps how it stands and reads, and owes a read that it owed
  pub heeds_owing : (format : Format) (past : List Tx) (fin : ℕ) (undecided concerned : ℕ → Bool) (wakes : List ℕ) → Each (Heeds format past fin undecided concerned wakes) views
      → w.known.session ≡ v.known.session → w.post ≡ v.post → w.walk ≡ v.walk → is_due_to w.known.db w.known.set ≡ is_due_to v.known.db v.known.set → (v.known.owes ≡ true → w.known.owes ≡ true)
      → Each (Heeds format past fin undecided concerned wakes) (set views id w)
  heeds_owing format past fin undecided concerned wakes h session post walk due owes =
      each_keep (Heeds format past fin undecided concerned wakes) views id v w here h (λ p.
      subst (λ (q : Post). q.listen ≡ Registered → (i : ℕ) → w.known.session ≡ i + 1
      → IsHeeded format (is_due_to w.known.db w.known.set) past (passed undecided concerned fin i) (served undecided fin i) (get_or wakes i 0) q.mark (is_walking w.walk.stage) w.walk.upto w.known.owes) (sym post)
      (λ registered i number.
      subst (λ (k : Walk). IsHeeded format (is_due_to w.known.db w.known.set) past (passed undecided concerned fin i) (served undecided fin i) (get_or wakes i 0) v.post.mark (is_walking k.stage) k.upto w.known.owes) (sym walk)
      (owing format (is_due_to w.known.db w.known.set) past (passed undecided concerned fin i) (served undecided fin i) (get_or wakes i 0) v.post.mark (is_walking v.walk.stage) v.walk.upto v.known.owes w.known.owes owes
      (subst (λ (matters : Tx → Bool). IsHeeded format matters past (passed undecided concerned fin i) (served undecided fin i) (get_or wakes i 0) v.post.mark (is_walking v.walk.stage) v.walk.upto v.known.owes) (sym due)
      (p registered i (sym session ∙ number))))))

  -- the same, if it owes a read just where it did
  pub heeds_keep : (format : Format) (past : List Tx) (fin : ℕ) (undecided concerned : ℕ → Bool) (wakes : List ℕ) → Each (Heeds format past fin undecided concerned wakes) views
      → w.known.session ≡ v.known.session → w.post ≡ v.post → w.walk ≡ v.walk → is_due_to w.known.db w.known.set ≡ is_due_to v.known.db v.known.set → w.known.owes ≡ v.known.owes
      → Each (Heeds format past fin undecided concerned wakes) (set views id w)
  heeds_keep format past fin undecided concerned wakes h session post walk due owes = heeds_owing format past fin undecided concerned wakes h session post walk due (λ o. owes ∙ o)

  -- the interests stay, if the view keeps its session, its position and its set, and deems no other seats concerned
  pub interests_keep : (concerned : ℕ → Bool) (interests : List ℕ) → Interests concerned interests views → w.known.session ≡ v.known.session → w.post ≡ v.post → w.known.set ≡ v.known.set
      → (Deems v.phase concerned v.concerned → Deems w.phase concerned w.concerned) → Interests concerned interests (set views id w)
  interests_keep concerned interests h session post set_is deems = record {
    covered = each_keep (Covered interests) views id v w here h.covered (λ p.
        subst (λ (q : Post). q.listen ≡ Registered → (i : ℕ) → w.known.session ≡ i + 1 → Covers (get_or interests i 0) w.known.set) (sym post)
        (λ registered i number. subst (λ (channels : List (List ℕ)). Covers (get_or interests i 0) channels) (sym set_is) (p registered i (sym session ∙ number))));
    deems = each_keep (λ _ u. Deems u.phase concerned u.concerned) views id v w here h.deems deems;
  }

  -- the wakes stay, if the view keeps how it stands and reads, what it knows of wakes, and for whom it has still to decide
  pub wakes_keep : (format : Format) (lock fin : ℕ) (past : List Tx) (undecided concerned : ℕ → Bool) (wakes : List ℕ) → Wakes format lock fin past undecided concerned wakes views
      → w.known.session ≡ v.known.session → w.post ≡ v.post → w.walk ≡ v.walk → is_due_to w.known.db w.known.set ≡ is_due_to v.known.db v.known.set → w.known.owes ≡ v.known.owes → w.known.signalled ≡ v.known.signalled
      → holds_lock w.phase ≡ holds_lock v.phase → ((i : ℕ) → pending w.phase (waits_in w.verdicts) i ≡ pending v.phase (waits_in v.verdicts) i)
      → w.ended ≡ v.ended → ended_in w.phase fin ≡ ended_in v.phase fin → Wakes format lock fin past undecided concerned wakes (set views id w)
  wakes_keep format lock fin past undecided concerned wakes h session post walk due owes signalled holds waits ended ends = record {
    small = h.small;
    heeds = heeds_keep format past fin undecided concerned wakes h.heeds session post walk due owes;
    signals = each_keep (Signals undecided) views id v w here h.signals (λ p held i. p (sym holds ∙ held) i ∙ sym (waits i));
    calm = h.calm;
    heard = each_keep (λ _ u. IsHeard fin undecided u.known.signalled) views id v w here h.heard (λ p. subst (λ (n : ℕ). IsHeard fin undecided n) (sym signalled) p);
    ended = each_keep (λ _ u. u.ended ≡ ended_in u.phase fin) views id v w here h.ended (λ p. ended ∙ p ∙ sym ends);
  }

  -- a flag that was raised to a number was so still, if the view keeps what it has raised
  pub raised_keep : (pair : ℕ × ℕ) → w.known.session ≡ v.known.session → raised_in w ≡ raised_in v → Raised views pair → Raised (set views id w) pair
  raised_keep pair session raised r = someone_keep (λ u. Contains (raised_in u) pair) session (λ p. subst (λ (l : List (ℕ × ℕ)). Contains l pair) (sym raised) p) r

  -- the flags stay, if the view keeps what it has raised and found, and is told of what is finished
  pub flags_keep : (fin : ℕ) (flags : List ℕ) → Flags fin flags views → w.known.session ≡ v.known.session → IsTold fin w.known.told w.known.signalled
      → raised_in w ≡ raised_in v → found_in w ≡ found_in v → Flags fin flags (set views id w)
  flags_keep fin flags h session told raised found = record {
    finished = h.finished;
    told = each_keep (λ _ u. IsTold fin u.known.told u.known.signalled) views id v w here h.told (λ p. told);
    most = each_keep (λ _ u. All (IsMost flags) (raised_in u)) views id v w here h.most (λ p. subst (λ (l : List (ℕ × ℕ)). All (IsMost flags) l) (sym raised) p);
    source = λ f. ⊎_elim (λ none. inl none) (λ r. inr (raised_keep (f, get_or flags f 0) session raised r)) (h.source f);
    found = λ j u there. All-weaker (Raised views) (Raised (set views id w)) (λ x r. raised_keep x session raised r) (found_in u)
        (each_keep (λ _ x. All (Raised views) (found_in x)) views id v w here h.found (λ p. subst (λ (l : List (ℕ × ℕ)). All (Raised views) l) (sym found) p) j u there);
  }

  pub marked_keep : (pair : ℕ × ℕ) → w.known.session ≡ v.known.session → (IsMarkedBy pair v.known → IsMarkedBy pair w.known) → w.joined ≡ v.joined → Marked views pair → Marked (set views id w) pair
  marked_keep pair session marks gone m = someone_keep (MarkedBy pair) session
      (λ p. ⊎_elim (λ mine. inl (marks mine)) (λ theirs. inr (subst (λ (l : List Known). Any (IsMarkedBy pair) l) (sym gone) theirs)) p) m

  -- the marks that were named stay, if the view keeps its position, its marks, and what it has named and taken in
  pub named_keep : Named views → w.known.session ≡ v.known.session → w.post ≡ v.post → w.known.marks ≡ v.known.marks → w.joined ≡ v.joined → w.known.named ≡ v.known.named → Named (set views id w)
  named_keep h session post marks gone named = record {
    current = each_keep (λ _ u. u.post.listen ≡ Registered → IsLast u.known.marks u.post.mark) views id v w here h.current (λ p.
        subst (λ (q : Post). q.listen ≡ Registered → IsLast w.known.marks q.mark) (sym post) (λ r. subst (λ (l : List ℕ). IsLast l v.post.mark) (sym marks) (p r)));
    named = λ j u there. All-weaker (Marked views) (Marked (set views id w))
        (λ x m. marked_keep x session (λ mine. (session ∙ mine.0, subst (λ (l : List ℕ). Contains l x.1) (sym marks) mine.1)) gone m) (named_in u)
        (each_keep (λ _ x. All (Marked views) (named_in x)) views id v w here h.named (λ p.
        subst (λ (l : List (ℕ × ℕ)). All (Marked views) l) (sym same) p) j u there);
  }
    where
      same : named_in w ≡ named_in v
      same = ap (λ (l : List (ℕ × ℕ)). l ++ flat_map (λ (k : Known). k.named) w.joined) named
          ∙ ap (λ (ks : List Known). v.known.named ++ flat_map (λ (k : Known). k.named) ks) gone

  -- the passes that were taken in stay so, if the view keeps its session and those that it took in
  pub taken_keep : (z : Shape) (made fin : ℕ) (seat : ℕ → ℕ) (past : List Tx) → Taken z made fin seat past views → w.known.session ≡ v.known.session → w.joined ≡ v.joined
      → Taken z made fin seat past (set views id w)
  taken_keep z made fin seat past h session gone =
      each_keep (λ j u. All (IsTaken z made fin seat past j u.known.session) u.joined) views id v w here h (λ p.
      subst (λ (n : ℕ). All (IsTaken z made fin seat past id n) w.joined) (sym session)
      (subst (λ (l : List Known). All (IsTaken z made fin seat past id v.known.session) l) (sym gone) p))
