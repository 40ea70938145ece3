-- Passes as they are opened are the hub's.
use Rattle.std.proofs.Common.{◌≡◌, ℕ, zero, suc, ◌+◌, ◌-◌, ◌<◌, ◌≤◌, List, [], ◌∷◌, length, vec_len, map, get_or, slice_get, Option, IsSomeAnd, All, sym, refl, ap, ◌∙◌, subst, arith}
use Rattle.std.proofs.lemmas.List.{length-map, get_or-map}
use Rattle.std.proofs.lemmas.List.Elements.{All-nil}
use Rattle.std.proofs.lemmas.Option.{slice_get-get_or}
use Rattle.pgn_hub.specs.declared.known.Known.{Known}
use Rattle.pgn_hub.specs.declared.setup.SeatSetup.{SeatSetup}
use Rattle.pgn_hub.specs.Shape.{Shape}
use Rattle.pgn_hub.specs.Passes.{IsWithin, IsSeated, IsPairWithin, opened_pass, opened_passes}
use Rattle.pgn_words.specs.declared.pass.WordPass.{WordPass}
use Rattle.pgn_words.specs.Views.{is_settled}
use Rattle.pgn_words.specs.Positions.{marked, shown_as}
use Rattle.pgn_words.specs.Passes.{IsFresh, view_of, known_of}
use Rattle.pgn_wordhub.specs.declared.hub.WordHub.{WordHub}
use Rattle.pgn_wordhub.specs.Passes.{IsHubView, hub_shape}

-- there is a database for each seat
pub dbs_long : (hub : WordHub) → vec_len hub.dbs ≡ length (hub_shape hub).seats
dbs_long hub = hub.dbs.ok.0 ∙ ap length hub.databases ∙ length-map (hub_shape hub).seats (λ seat. seat.db)

-- the pass of a seat among those that are opened
at_opened : (n k : ℕ) (seats : List SeatSetup) (e : Known) (s : SeatSetup) → k < length seats → get_or (opened_passes n seats) k e ≡ opened_pass (n + k) (get_or seats k s)
at_opened n k [] e s below = absurd (omega (arith, below))
at_opened n zero (seat ∷ seats) e s below = ap (λ m. opened_pass m seat) (omega arith)
at_opened n (suc k) (seat ∷ seats) e s below = at_opened (n + 1) k seats e s (omega (arith, below)) ∙ ap (λ m. opened_pass m (get_or seats k s)) (omega arith)

opened_long : (n : ℕ) (seats : List SeatSetup) → length (opened_passes n seats) ≡ length seats
opened_long n [] = refl
opened_long n (seat ∷ seats) = ap suc (opened_long (n + 1) seats)

-- what is known of a seat's pass as it is opened
opened_within : (n : ℕ) (seat : SeatSetup) → IsWithin (opened_pass n seat)
opened_within n seat = record {
  mark = tt;
  marks = All-nil (λ mark. mark ≤ 3);
  first = omega arith;
  own = All-nil (λ x. x < 3);
  signalled = omega arith;
  told_of_read = tt;
  told = omega arith;
  raised = All-nil (IsPairWithin 3);
  found = All-nil (IsPairWithin 3);
  to_read = λ unowed. tt;
}

opened_seated : (z : Shape) (k : ℕ) (s : SeatSetup) → k < length z.seats → IsSeated z (opened_pass (1 + k) (get_or z.seats k s))
opened_seated z k s below = record {
  first = omega arith;
  seat = subst (λ (o : Option SeatSetup). IsSomeAnd o (λ seat. (seat.db ≡ (get_or z.seats k s).db) × ((get_or z.seats k s).notes ≤ seat.notes)))
      (sym (ap (slice_get z.seats) index ∙ slice_get-get_or z.seats k s below)) (refl, omega arith);
}
  where
    index : 1 + k - 1 ≡ k
    index = omega arith

-- each pass of a hub that is opened is that of its seat, at rest
pub opened_passes_are : (z : Shape) (passes : List WordPass) (k : ℕ) (d : WordPass) → map known_of passes ≡ opened_passes 1 z.seats → All IsFresh passes → k < length passes → IsHubView z (view_of (get_or passes k d))
opened_passes_are z passes k d known fresh below =
    let long : length passes ≡ length z.seats = sym (length-map passes known_of) ∙ ap length known ∙ opened_long 1 z.seats in
    let inside : k < length z.seats = omega (arith, below, long) in
    let s : SeatSetup = record { db = 0; notes = 0 } in
    let is : known_of (get_or passes k d) ≡ opened_pass (1 + k) (get_or z.seats k s) =
    sym (get_or-map known_of passes k d (known_of d) below) ∙ ap (λ l. get_or l k (known_of d)) known ∙ at_opened 1 k z.seats (known_of d) s inside in
    let f = fresh k d below in
    let v = view_of (get_or passes k d) in record {
      rest = record {
        free = f.free;
        told = f.told;
        decided = f.decided;
        settled = ap is_settled f.out;
        alone = f.alone;
        listens = ap (λ (x : Known). x.mark) is ∙ sym (ap (λ l. marked (shown_as l v.post.mark v.post.at)) f.out);
      };
      within = subst (λ (x : Known). IsWithin x) (sym is) (opened_within (1 + k) (get_or z.seats k s));
      seated = subst (λ (x : Known). IsSeated z x) (sym is) (opened_seated z k s inside);
    }
