-- The passes as they are made, one after another.
use Rattle.std.proofs.Common.{◌≡◌, ℕ, ◌+◌, ◌-◌, ◌<◌, ◌≤◌, List, [], ◌∷◌, ◌++◌, length, get_or, take, map, All, sym, ap, ◌∙◌, subst, arith, take_all}
use Rattle.std.proofs.lemmas.List.{length-take, map-append, take_more}
use Rattle.std.proofs.lemmas.List.Elements.{All-cons, All-push}
use Rattle.pgn_hub.specs.declared.setup.SeatSetup.{SeatSetup}
use Rattle.pgn_hub.specs.Passes.{opened_pass, opened_passes}
use Rattle.pgn_words.specs.declared.pass.WordQueue.{WordQueue}
use Rattle.pgn_words.specs.declared.pass.WordPass.{WordPass}
use Rattle.pgn_hub.specs.Shape.{Shape}
use Rattle.pgn_words.specs.declared.view.View.{View}
use Rattle.pgn_words.specs.Views.{no_seat, seat_of}
use Rattle.pgn_words.specs.Told.{after_making, made_by}
use Rattle.pgn_words.specs.Passes.{IsPassOf, IsFresh, shape_of, view_of, known_of}

-- one more seat
pub opened_passes-push : (n : ℕ) (seats : List SeatSetup) (seat : SeatSetup) → opened_passes n (seats ++ seat ∷ []) ≡ opened_passes n seats ++ opened_pass (n + length seats) seat ∷ []
opened_passes-push n [] seat = let same : n ≡ n + 0 = omega arith in ap (λ k. opened_pass k seat ∷ []) same
opened_passes-push n (s ∷ seats) seat =
    let same : n + 1 + length seats ≡ n + length (s ∷ seats) = omega arith in
    ap (λ l. opened_pass n s ∷ l) (opened_passes-push (n + 1) seats seat) ∙ ap (λ k. opened_pass n s ∷ (opened_passes (n + 1) seats ++ opened_pass k seat ∷ [])) same

-- so many passes are made: the first, and behind it the others
pub record AreMade (queue : WordQueue) (first : WordPass) (passes : List WordPass) (k : ℕ) : Type 0 where
  pub first_own : IsPassOf queue first
  pub made : (view_of first).made ≡ k
  pub first_fresh : IsFresh first
  pub own : All (IsPassOf queue) passes
  pub fresh : All IsFresh passes
  pub known : known_of first ∷ map known_of passes ≡ opened_passes 1 (take k (shape_of queue).seats)

-- the first one has made one more
pub next_made : (queue : WordQueue) (first now pass : WordPass) (passes : List WordPass) (k : ℕ) → AreMade queue first passes k → k < length (shape_of queue).seats
    → IsPassOf queue now → view_of now ≡ after_making (view_of first) → IsPassOf queue pass → view_of pass ≡ made_by (view_of first) → AreMade queue now (passes ++ pass ∷ []) (k + 1)
next_made queue first now pass passes k made within now_own now_is own is =
    let seats = (shape_of queue).seats in
    let setup : (view_of first).setup ≡ shape_of queue = made.first_own.setup in
    let long : length (take k seats) ≡ k = let size = length-take k seats in omega (arith, size, within) in
    let index : k + 1 - 1 ≡ k = omega arith in
    let number : k + 1 ≡ 1 + length (take k seats) = omega (arith, long) in
    let known : known_of pass ≡ opened_pass (1 + length (take k seats)) (get_or seats k no_seat) =
    ap (λ (v : View). v.known) is
    ∙ ap (λ n. opened_pass (n + 1) (seat_of (view_of first).setup (n + 1))) made.made
    ∙ ap (λ (z : Shape). opened_pass (k + 1) (seat_of z (k + 1))) setup
    ∙ ap (λ n. opened_pass (k + 1) (get_or seats n no_seat)) index
    ∙ ap (λ n. opened_pass n (get_or seats k no_seat)) number in
    let more : take (k + 1) seats ≡ take k seats ++ get_or seats k no_seat ∷ [] = take_more seats k no_seat within in record {
      first_own = now_own;
      made = ap (λ (v : View). v.made) now_is ∙ ap (λ n. n + 1) made.made;
      first_fresh = fresh_on first now (view_of first) now_is made.first_fresh;
      own = All-push (IsPassOf queue) passes pass made.own own;
      fresh = All-push IsFresh passes pass made.fresh (made_fresh (view_of first) pass is);
      known =
          ap (λ x. x ∷ map known_of (passes ++ pass ∷ [])) (ap (λ (v : View). v.known) now_is)
          ∙ ap (λ l. known_of first ∷ l) (map-append known_of passes (pass ∷ []))
          ∙ ap (λ l. l ++ known_of pass ∷ []) made.known
          ∙ ap (λ x. opened_passes 1 (take k seats) ++ x ∷ []) known
          ∙ sym (opened_passes-push 1 (take k seats) (get_or seats k no_seat))
          ∙ ap (opened_passes 1) (sym more);
    }
  where
    fresh_on : (first now : WordPass) (v : View) → view_of now ≡ after_making (view_of first) → IsFresh first → IsFresh now
    fresh_on first now v is f = record {
      free = ap (λ (x : View). x.phase) is ∙ f.free;
      told = ap (λ (x : View). x.ended) is ∙ f.told;
      decided = ap (λ (x : View). x.verdicts) is ∙ f.decided;
      out = ap (λ (x : View). x.post.listen) is ∙ f.out;
      alone = ap (λ (x : View). x.joined) is ∙ f.alone;
    }

    made_fresh : (v : View) (pass : WordPass) → view_of pass ≡ made_by v → IsFresh pass
    made_fresh v pass is = record {
      free = ap (λ (x : View). x.phase) is;
      told = ap (λ (x : View). x.ended) is;
      decided = ap (λ (x : View). x.verdicts) is;
      out = ap (λ (x : View). x.post.listen) is;
      alone = ap (λ (x : View). x.joined) is;
    }

-- all of them, once the first one stands before the others
module _ (queue : WordQueue) (first : WordPass) (passes all : List WordPass) (k : ℕ) (made : AreMade queue first passes k) (whole : all ≡ first ∷ passes) where
  -- the passes that are opened know what those of the seats know at first
  pub all_known : (setup : Shape) → shape_of queue ≡ setup → length setup.seats ≤ k → map known_of all ≡ opened_passes 1 setup.seats
  all_known setup is last =
      ap (λ (ps : List WordPass). map known_of ps) whole
      ∙ made.known
      ∙ ap (λ (z : Shape). opened_passes 1 (take k z.seats)) is
      ∙ ap (opened_passes 1) (take_all k setup.seats last)

  -- each is one of the queue's
  pub all_own : All (IsPassOf queue) all
  all_own = subst (λ (ps : List WordPass). All (IsPassOf queue) ps) (sym whole) (All-cons (IsPassOf queue) first passes made.first_own made.own)

  -- each has done nothing yet
  pub all_fresh : All IsFresh all
  all_fresh = subst (λ (ps : List WordPass). All IsFresh ps) (sym whole) (All-cons IsFresh first passes made.first_fresh made.fresh)
