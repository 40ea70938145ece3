-- The words of an empty queue, with one pass, meet the rule.
use Rattle.std.proofs.Common.{◌≡◌, inl, false, All, ℕ, zero, suc, ◌+◌, ◌*◌, ◌%◌, ◌^◌, ◌<◌, List, [], ◌∷◌, ◌++◌, length, get_or, set, replicate, sym, refl, ap, ◌∙◌, subst, arith, Some}
use Rattle.std.proofs.lemmas.List.{length-replicate, replicate-append-replicate}
use Rattle.std.proofs.lemmas.List.Elements.{All-nil}
use Rattle.std.proofs.lemmas.List.Sums.{sum_by-cons}
use Rattle.std.proofs.lemmas.Option.{none-some}
use Rattle.atomic_table.specs.Table.{opening}
use Rattle.pgn_journal.specs.Begins.{Begins}
use Rattle.pgn_journal.proofs.BeginsLaws.{begins-none}
use Rattle.pgn_journal.specs.Journal.{next_xid, xids_of, IsFinished}
use Rattle.pgn_journal.specs.Packing.{image, image_from}
use Rattle.pgn_journal.specs.Pieces.{IsWritten}
use Rattle.pgn_hub.specs.Shape.{Shape, IsShape}
use Rattle.pgn_journal.proofs.PackingLemmas.{first_place}
use Rattle.pgn_words.specs.Words.{row, seats_of, status_words, room_of, word_count, first_content}
use Rattle.pgn_words.specs.Views.{first_view, seat_of, spent_by}
use Rattle.pgn_words.specs.declared.view.Listen.TheVariants.{Registered}
use Rattle.pgn_words.specs.ListenRule.{Placed, Marks, ShowsPosition, Walking, Bounds, LooksBy, Spared}
use Rattle.pgn_words.specs.WakeRule.{IsHeard, IsTold, Heeds, Covered, Deems, Signals, ended_in, raised_in, found_in, named_in, Raised, IsMost, Marked, IsTaken, IsLast}
use Rattle.pgn_words.specs.Rule.{World, Seated, Makes, Locks, WasMade, Draws, KnowsStop, Holds, Law, Lawful, Fates, status_at}
use Rattle.pgn_layout.specs.Status.{status_word, status_in}
use Rattle.pgn_layout.proofs.StatusLaws.{none_is_set}
use Rattle.pgn_words.proofs.EachLaws.{each_one}
use Rattle.pgn_words.proofs.PassKept.{seat_taken}

zeros : (n m : ℕ) → replicate {A = ℕ} (n + m) 0 ≡ replicate n 0 ++ replicate m 0
zeros n m = sym (replicate-append-replicate n m 0)

zero_there : (n k : ℕ) → get_or (replicate {A = ℕ} n 0) k 0 < 2 ^ 32
zero_there zero k = omega arith
zero_there (suc n) zero = omega arith
zero_there (suc n) (suc k) = zero_there n k

zero_is : (n k : ℕ) → get_or (replicate {A = ℕ} n 0) k 0 ≡ 0
zero_is zero k = refl
zero_is (suc n) zero = refl
zero_is (suc n) (suc k) = zero_is n k

no_status : (n x : ℕ) → status_at (replicate {A = ℕ} n 0) x ≡ 0
no_status n x = ap (λ w. status_in w x) (zero_is n (status_word x)) ∙ none_is_set x

-- the words as they are written: zeros, and then three of them
pub first_row : (z : Shape) (count : ℕ) → count ≡ word_count z → set (set (set (replicate {A = ℕ} count 0) 2 3) 3 (3 * 2 ^ 32)) 5 3 ≡ row (first_content z)
first_row z count e =
    let n = seats_of z in
    let f = z.flags in
    let s = status_words z in
    let r = room_of z in
    let long : count ≡ suc (suc (suc (suc (suc (suc (n + (n + (n + (f + (s + r)))))))))) = omega (arith, e) in
    let regions : replicate {A = ℕ} (n + (n + (n + (f + (s + r))))) 0 ≡ replicate n 0 ++ (replicate n 0 ++ (replicate n 0 ++ (replicate f 0 ++ (replicate s 0 ++ replicate r 0))))
    = zeros n (n + (n + (f + (s + r)))) ∙ ap (λ l. replicate n 0 ++ l) (zeros n (n + (f + (s + r))) ∙ ap (λ l. replicate n 0 ++ l) (zeros n (f + (s + r)) ∙ ap (λ l. replicate n 0 ++ l) (zeros f (s + r) ∙ ap (λ l. replicate f 0 ++ l) (zeros s r)))) in
    ap (λ m. set (set (set (replicate {A = ℕ} m 0) 2 3) 3 (3 * 2 ^ 32)) 5 3) long
    ∙ ap (λ l. 0 ∷ 0 ∷ 3 ∷ (3 * 2 ^ 32) ∷ 0 ∷ 3 ∷ l) regions

empty_image : (z : Shape) → 0 ≡ length (image z.format [])
unfolding image image_from
empty_image z = refl

nothing_shown : (z : Shape) → image z.format [] ≡ []
unfolding image image_from
nothing_shown z = refl

abbrev first_world : World
first_world = record { past = []; shown = []; holder = 0; made = 1; seat = λ n. 0; looked = 0; target = 0; undecided = λ i. false; concerned = λ i. false }

opens_law : (z : Shape) → IsShape z → 0 < (seat_of z 1).db → (seat_of z 1).db < 2 ^ 32 → Law z (first_content z) first_world (first_view z ∷ [])
opens_law z shape some_db db_fits = record {
  laid = record {
    pos_long = length-replicate {A = ℕ} (seats_of z) 0;
    wakes_long = length-replicate {A = ℕ} (seats_of z) 0;
    interests_long = length-replicate {A = ℕ} (seats_of z) 0;
    flags_long = length-replicate {A = ℕ} z.flags 0;
    statuses_long = length-replicate {A = ℕ} (status_words z) 0;
    cells_long = length-replicate {A = ℕ} (room_of z) 0;
  };
  seats = record {
    few = shape.some_seats;
    seated = each_one (Seated z 1 (λ n. 0)) (first_view z) (λ _. record { sits = refl; was_made = omega arith; db_is = refl; some_db = some_db; db_fits = db_fits; setup_is = refl });
    makes = each_one (Makes 1) (first_view z) (λ _. (refl, refl));
  };
  locking = record { locks = each_one (Locks 0 0) (first_view z) (λ held. absurd (cc)); owned = λ lock. absurd (lock refl) };
  stored = record {
    headed = empty_image z;
    kept = λ i x low there. absurd (none-some (Some x) (subst (λ (log : List (Rattle.std.proofs.Common.Option ℕ)). Rattle.std.proofs.Common.slice_get log i ≡ Some (Some x)) (nothing_shown z) there));
    ahead = omega arith;
    reach = omega arith;
    small = zero_there (room_of z);
    low = omega arith;
  };
  history = record {
    counted = refl;
    finished = All-nil IsFinished;
    sessions = All-nil (WasMade z 1);
    written = All-nil IsWritten;
    one_more = omega arith;
    begins = begins-none [];
    free = λ _. refl;
    whole = (0, first_view z, refl, omega arith, inl refl);
    sees = each_one (λ _ u. Begins u.known.seen []) (first_view z) (begins-none []);
    own_seen = each_one (λ _ u. All (λ x. x < next_xid u.known.seen) u.known.own) (first_view z) (All-nil (λ (x : ℕ). x < 3));
    owns = each_one (λ _ u. u.known.own ≡ xids_of u.known.session []) (first_view z) refl;
  };
  numbers = record { free = λ _. refl; draws = each_one (Draws 3 3) (first_view z) (λ held. absurd (cc)) };
  holding = record { holds = each_one (Holds z 0 [] [] (replicate (room_of z) 0)) (first_view z) tt; stops = each_one (KnowsStop 0) (first_view z) (λ held. absurd (cc)) };
  statuses = record {
    below = λ x tx low there. absurd (none-some tx there);
    above = λ x later. no_status (status_words z) x;
    free = λ _. no_status (status_words z) 3;
    fates = each_one (Fates [] (replicate (status_words z) 0)) (first_view z) (λ held. absurd (cc));
  };
  budget =
      let taken = seat_taken z.seats 0 (let seats = shape.some_seats in omega (arith, seats)) in
      let mine = sum_by-cons spent_by (first_view z) [] in omega (arith, taken, mine);
  posts = record {
    placed = each_one (Placed z.format [] 3 0) (first_view z) (λ has. absurd (cc));
    marks = each_one Marks (first_view z) refl;
    shows = each_one (ShowsPosition (replicate (seats_of z) 0)) (first_view z) (λ i number. zero_is (seats_of z) i);
    owned = λ i some_mark. let none = zero_is (seats_of z) i in absurd (omega (arith, none, some_mark));
    unmade = λ i later. zero_is (seats_of z) i;
    tail_placed = record { at_is = sym (first_place z.format []); least = omega arith; most = omega arith; kept = omega arith; low = omega arith };
  };
  walks = record { walking = each_one Walking (first_view z) (λ walks. absurd (cc)); bounds = each_one (Bounds z.format (room_of z) 0 (replicate (room_of z) 0)) (first_view z) (λ bounded. absurd (cc)) };
  looks = record {
    looking = each_one (LooksBy z.format [] 3 0 0 (3 * 2 ^ 32)) (first_view z) (λ held. absurd (cc));
    spared = each_one (Spared 0 0) (first_view z) (λ has. absurd (cc));
    aims = omega arith;
    above = omega arith;
  };
  wakes = record {
    small = λ i. let none = zero_is (seats_of z) i in omega (arith, none);
    heeds = each_one (Heeds z.format [] 3 (λ i. false) (λ i. false) (replicate (seats_of z) 0)) (first_view z) (λ registered. absurd (cc));
    signals = each_one (Signals (λ i. false)) (first_view z) (λ held. absurd (cc));
    calm = λ _ i. refl;
    heard = each_one (λ _ u. IsHeard 3 (λ i. false) u.known.signalled) (first_view z) (record { most = omega arith; decided = λ i waits. absurd (cc) });
    ended = each_one (λ _ u. u.ended ≡ ended_in u.phase 3) (first_view z) refl;
  };
  interests = record {
    covered = each_one (Covered (replicate (seats_of z) 0)) (first_view z) (λ registered. absurd (cc));
    deems = each_one (λ _ u. Deems u.phase (λ i. false) u.concerned) (first_view z) tt;
  };
  flags = record {
    finished = λ f. let none = zero_is z.flags f in omega (arith, none);
    told = each_one (λ _ u. IsTold 3 u.known.told u.known.signalled) (first_view z) (record { first = omega arith; below = omega arith; finished = omega arith });
    most = each_one (λ _ u. All (IsMost (replicate z.flags 0)) (raised_in u)) (first_view z) (All-nil (IsMost (replicate z.flags 0)));
    source = λ f. inl (zero_is z.flags f);
    found = each_one (λ _ u. All (Raised (first_view z ∷ [])) (found_in u)) (first_view z) (All-nil (Raised (first_view z ∷ [])));
  };
  named = record {
    current = each_one (λ _ u. u.post.listen ≡ Registered → IsLast u.known.marks u.post.mark) (first_view z) (λ registered. absurd (cc));
    named = each_one (λ _ u. All (Marked (first_view z ∷ [])) (named_in u)) (first_view z) (All-nil (Marked (first_view z ∷ [])));
  };
  taken = each_one (λ j u. All (IsTaken z 1 3 (λ n. 0) [] j u.known.session) u.joined) (first_view z) (All-nil (IsTaken z 1 3 (λ n. 0) [] 0 1));
}

-- the words with which a hub is opened are lawful
pub opens : (z : Shape) (words : List ℕ) → IsShape z → 0 < (seat_of z 1).db → (seat_of z 1).db < 2 ^ 32 → words ≡ row (first_content z) → Lawful z (opening words [] (first_view z))
opens z words shape some_db db_fits stands = record { shape = shape; content = first_content z; world = first_world; stands = stands; law = opens_law z shape some_db db_fits }

-- the same, as the code writes them
pub written : (z : Shape) (count a b d : ℕ) (items : List ℕ) → items ≡ replicate count 0 → a ≡ 3 → b ≡ 3 → d ≡ 3 → count ≡ word_count z
    → set (set (set items 2 a) 3 (b * 4294967296 % 18446744073709551616)) 5 d ≡ row (first_content z)
written z count a b d items made a_is b_is d_is long =
    ap (λ l. set (set (set l 2 a) 3 (b * 4294967296 % 18446744073709551616)) 5 d) made
    ∙ ap (λ n. set (set (set (replicate count 0) 2 n) 3 (b * 4294967296 % 18446744073709551616)) 5 d) a_is
    ∙ ap (λ n. set (set (set (replicate count 0) 2 3) 3 (n * 4294967296 % 18446744073709551616)) 5 d) b_is
    ∙ ap (λ n. set (set (set (replicate count 0) 2 3) 3 12884901888) 5 n) d_is
    ∙ first_row z count long
