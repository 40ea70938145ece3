-- What a look finds at a seat.
use Rattle.std.proofs.Common.{◌≡◌, ℕ, ◌+◌, ◌^◌, ◌<◌, ◌≤◌, ◌==◌, min, true, false, cond, List, [], ◌++◌, get_or, All, sym, refl, ap, ◌∙◌, subst, arith}
use Rattle.std.proofs.lemmas.Bool.Decides.{nat_tests}
use Rattle.std.proofs.lemmas.List.Elements.{All-nil, All-cons}
use Rattle.std.specs.Prelude.{Contains}
use mathlib.Core.Option.{some}
use lib.ListN.{get_elem?}
use native.Mathlib.Decide.{ℕ_discrete, dec_le}
use Rattle.pgn_base.specs.declared.format.Format.{Format}
use Rattle.pgn_journal.specs.declared.tx.Tx.{Tx}
use Rattle.pgn_journal.specs.Journal.{next_xid}
use Rattle.pgn_journal.specs.Packing.{place}
use Rattle.pgn_hub.specs.Shape.{Shape}
use Rattle.pgn_journal.proofs.PackingLemmas.{place_grows}
use Rattle.pgn_words.specs.declared.pos_word.PosWord.{PosWord}
use Rattle.pgn_words.specs.declared.pos_word.PosWord.TheVariants as words
use Rattle.pgn_words.specs.declared.view.View.{View}
use Rattle.pgn_words.specs.declared.view.Listen.{Listen}
use Rattle.pgn_words.specs.declared.view.Listen.TheVariants.{Out, Joining, Based, Registered}
use Rattle.pgn_words.specs.Words.{Content}
use Rattle.pgn_words.specs.Positions.{packed, mark_in, place_in, position_in, shown_as, word_of, met_at, is_placed, IsPositionIn}
use Rattle.pgn_words.specs.Looking.{least_after}
use Rattle.pgn_words.specs.ListenRule.{IsPlaced, IsLeast}
use Rattle.pgn_words.specs.WakeRule.{Marked, IsLast}
use Rattle.pgn_words.specs.Rule.{World, Law}
use Rattle.pgn_words.proofs.WalkKept.{placed_in, has_last}

-- a word of 2 or more is a mark with its place
pub position_at : (n : ℕ) → 2 ≤ n → position_in n ≡ words.At (mark_in n) (place_in n)
position_at n more =
    let none : n == 0 ≡ false = grind (arith, nat_tests) in
    let one : n == 1 ≡ false = grind (arith, nat_tests) in
    ap (λ b. cond b words.Out (cond (n == 1) words.Joining (words.At (mark_in n) (place_in n)))) none ∙ ap (λ b. cond b words.Joining (words.At (mark_in n) (place_in n))) one

-- a position that is packed has its mark
pub mark_of_packed : (m a : ℕ) → a < 2 ^ 32 → mark_in (packed m a) ≡ m
mark_of_packed m a low = omega (arith, low)

-- and its place
pub place_of_packed : (m a : ℕ) → a < 2 ^ 32 → place_in (packed m a) ≡ a
place_of_packed m a low = omega (arith, low)

-- a pass's word says what it shows
pub position_shown : (l : Listen) (mark at : ℕ) → (is_placed l ≡ true → (3 ≤ mark) × (at < 2 ^ 32)) → position_in (word_of (shown_as l mark at)) ≡ shown_as l mark at
position_shown Out mark at placed = refl
position_shown Joining mark at placed = refl
position_shown Based mark at placed = refl
position_shown Registered mark at placed =
    let p = placed refl in
    position_at (packed mark at) (let first = p.0 in omega (arith, first))
    ∙ ap (λ m. words.At m (place_in (packed mark at))) (mark_of_packed mark at p.1) ∙ ap (λ a. words.At mark a) (place_of_packed mark at p.1)

-- the position at a seat is what its pass shows
pub seat_shows : (z : Shape) (c : Content) (g : World) (views : List View) (seat j : ℕ) (u : View) → Law z c g views → get_elem? views j ≡ some u → u.known.session ≡ seat + 1
    → position_in (get_or c.pos seat 0) ≡ shown_as u.post.listen u.post.mark u.post.at
seat_shows z c g views seat j u h there number =
    ap position_in (h.posts.shows j u there seat number)
    ∙ position_shown u.post.listen u.post.mark u.post.at (λ has. let p = (h.posts.placed j u there has).1 in (p.least, p.low))

-- what a position shows is so of a pass
pub record IsMet (format : Format) (past : List Tx) (fin stop : ℕ) (views : List View) (seat mark at : ℕ) : Type 0 where
  pub who : ℕ
  pub pass : View
  pub there : get_elem? views who ≡ some pass
  pub number : pass.known.session ≡ seat + 1
  pub registered : pass.post.listen ≡ Registered
  pub mark_is : pass.post.mark ≡ mark
  pub at_is : pass.post.at ≡ at
  pub placed : IsPlaced format past fin stop mark at

-- what a look meets at a seat: where the position shows a mark, the pass that is registered with it
abbrev pub Met : Format → List Tx → ℕ → ℕ → List View → ℕ → PosWord → Type 0
Met format past fin stop views seat words.Out = Unit {0}
Met format past fin stop views seat words.Joining = Unit {0}
Met format past fin stop views seat (words.At mark at) = IsMet format past fin stop views seat mark at

-- who shows a mark is registered with it
shown_at : (l : Listen) (mark at m a : ℕ) → shown_as l mark at ≡ words.At m a → (l ≡ Registered) × (mark ≡ m) × (at ≡ a)
shown_at Out mark at m a e = absurd (cc)
shown_at Joining mark at m a e = absurd (cc)
shown_at Based mark at m a e = absurd (cc)
shown_at Registered mark at m a e = (refl, cc, cc)

-- under the law it meets just that
pub met : (z : Shape) (c : Content) (g : World) (views : List View) (seat : ℕ) → Law z c g views → Met z.format g.past c.fin c.stop views seat (position_in (get_or c.pos seat 0))
met z c g views seat h = by_word (dec_le 2 (get_or c.pos seat 0))
  where
    few : (n : ℕ) → n < 2 → Met z.format g.past c.fin c.stop views seat (position_in n)
    few n less = by_number (ℕ_discrete n 0)
      where
        by_number : Dec (n ≡ 0) → Met z.format g.past c.fin c.stop views seat (position_in n)
        by_number (yes e) = subst (λ (k : ℕ). Met z.format g.past c.fin c.stop views seat (position_in k)) (sym e) tt
        by_number (no ne) = let one : n ≡ 1 = omega (arith, less, ne) in subst (λ (k : ℕ). Met z.format g.past c.fin c.stop views seat (position_in k)) (sym one) tt

    many : 2 ≤ get_or c.pos seat 0 → Met z.format g.past c.fin c.stop views seat (position_in (get_or c.pos seat 0))
    many more =
        let n : ℕ = get_or c.pos seat 0 in
        let o = h.posts.owned seat more in
        let is : shown_as o.1.post.listen o.1.post.mark o.1.post.at ≡ words.At (mark_in n) (place_in n) = sym (seat_shows z c g views seat o.0 o.1 h o.2 o.3) ∙ position_at n more in
        let at_is = shown_at o.1.post.listen o.1.post.mark o.1.post.at (mark_in n) (place_in n) is in
        let placed = (h.posts.placed o.0 o.1 o.2 (ap is_placed at_is.0)).1 in
        subst (λ (p : PosWord). Met z.format g.past c.fin c.stop views seat p) (sym (position_at n more)) (record {
          who = o.0;
          pass = o.1;
          there = o.2;
          number = o.3;
          registered = at_is.0;
          mark_is = at_is.1;
          at_is = at_is.2;
          placed = subst (λ (m : ℕ). IsPlaced z.format g.past c.fin c.stop m (place_in n)) at_is.1 (subst (λ (a : ℕ). IsPlaced z.format g.past c.fin c.stop o.1.post.mark a) at_is.2 placed);
        })

    by_word : Dec (2 ≤ get_or c.pos seat 0) → Met z.format g.past c.fin c.stop views seat (position_in (get_or c.pos seat 0))
    by_word (yes more) = many more
    by_word (no less) = few (get_or c.pos seat 0) (omega (arith, less))

-- a mark that a word shows is one of the journal
pub first_mark : (z : Shape) (c : Content) (g : World) (views : List View) (seat : ℕ) → Law z c g views → 2 ≤ get_or c.pos seat 0 → 3 ≤ mark_in (get_or c.pos seat 0)
first_mark z c g views seat h more =
    let n : ℕ = get_or c.pos seat 0 in
    let m : IsMet z.format g.past c.fin c.stop views seat (mark_in n) (place_in n) = subst (λ (p : PosWord). Met z.format g.past c.fin c.stop views seat p) (position_at n more) (met z c g views seat h) in m.placed.least

-- what a position shows belongs to the journal
pub met_in : (format : Format) (past : List Tx) (fin stop : ℕ) (views : List View) (seat : ℕ) (p : PosWord) → fin ≡ next_xid past → Met format past fin stop views seat p → IsPositionIn format past p
met_in format past fin stop views seat words.Out counted m = tt
met_in format past fin stop views seat words.Joining counted m = tt
met_in format past fin stop views seat (words.At mark at) counted m = placed_in format past fin mark at counted m.placed.at_is m.placed.least m.placed.most

-- the last mark of a list is one of it
last_there : (marks : List ℕ) (mark : ℕ) → IsLast marks mark → Contains marks mark
last_there marks mark (before, is) = subst (λ (l : List ℕ). Contains l mark) (sym is) (has_last before mark)

-- the mark that it shows is one of its session
pub met_named : (z : Shape) (c : Content) (g : World) (views : List View) (seat : ℕ) (p : PosWord) → Law z c g views → Met z.format g.past c.fin c.stop views seat p → All (Marked views) (met_at seat p)
met_named z c g views seat words.Out h m = All-nil (Marked views)
met_named z c g views seat words.Joining h m = All-nil (Marked views)
met_named z c g views seat (words.At mark at) h m =
    All-cons (Marked views) (seat + 1, mark) []
    (m.who, m.pass, m.there, (let number = m.number in omega (arith, number)), Rattle.std.proofs.Common.inl (m.number, subst (λ (n : ℕ). Contains m.pass.known.marks n) m.mark_is (last_there m.pass.known.marks m.pass.post.mark (h.named.current m.who m.pass m.there m.registered))))
    (All-nil (Marked views))

-- a word of a mark with its place
pub packed_least : (format : Format) (past : List Tx) (fin stop mark at : ℕ) → IsPlaced format past fin stop mark at → IsLeast format past fin (packed mark at)
packed_least format past fin stop mark at p = record {
  at_is = place_of_packed mark at p.low ∙ p.at_is ∙ ap (place format past) (sym (mark_of_packed mark at p.low));
  first = let m = mark_of_packed mark at p.low in let first = p.least in omega (arith, m, first);
  most = let m = mark_of_packed mark at p.low in let most = p.most in omega (arith, m, most);
}

-- the least mark so far is one with its place
pub least_met : (format : Format) (past : List Tx) (fin stop : ℕ) (views : List View) (seat least : ℕ) (p : PosWord) → Met format past fin stop views seat p → IsLeast format past fin least → IsLeast format past fin (least_after p least)
least_met format past fin stop views seat least words.Out m h = h
least_met format past fin stop views seat least words.Joining m h = h
least_met format past fin stop views seat least (words.At mark at) m h = by_order (dec_le (packed mark at) least)
  where
    by_order : Dec (packed mark at ≤ least) → IsLeast format past fin (min (packed mark at) least)
    by_order (yes low) = let is : packed mark at ≡ min (packed mark at) least = omega (arith, low) in subst (λ (n : ℕ). IsLeast format past fin n) is (packed_least format past fin stop mark at m.placed)
    by_order (no high) = let is : least ≡ min (packed mark at) least = omega (arith, high) in subst (λ (n : ℕ). IsLeast format past fin n) is h

-- of two marks with their places the lower one has the lower place
pub places_follow : (format : Format) (past : List Tx) (a b : ℕ) (x y : ℕ) → x ≡ place format past a → y ≡ place format past b → a ≤ b → x ≤ y
places_follow format past a b x y x_is y_is low = let up = place_grows format past a b low in omega (arith, up, x_is, y_is)
