-- A step on the table of words, from what it does to the content, the world and its own pass.
use Rattle.std.proofs.Common.{◌≡◌, ℕ, List, get_or, set, sym, ap, ◌∙◌, subst}
use mathlib.Core.Option.{some}
use lib.ListN.{get_elem?}
use Rattle.atomic_table.specs.Table.{Me, Allows, keeps}
use Rattle.pgn_hub.specs.Shape.{Shape, IsShape}
use Rattle.pgn_words.specs.declared.view.View.{View}
use Rattle.pgn_words.specs.Words.{Content, row}
use Rattle.pgn_words.specs.Rule.{World, Law, Lawful}

-- a pass takes a step on a word, which then holds y
pub record Goes (z : Shape) (id i : ℕ) (me : Me ℕ View) (y : ℕ) (then : ℕ → Me ℕ View → Type 0) (c : Content) (views : List View) : Type 0 where
  pub w : View
  pub content : Content
  pub world : World
  pub moves : set (row c) i y ≡ row content
  pub law : Law z content world (set views id w)
  pub told : then (get_or (row c) i 0) (w, me.1)

-- a step is allowed that goes well on each lawful content
pub allowed : (z : Shape) (slots id i : ℕ) (me : Me ℕ View) (f : ℕ → ℕ) (then : ℕ → Me ℕ View → Type 0)
    → (IsShape z → (c : Content) (g : World) (views : List View) → Law z c g views → get_elem? views id ≡ some me.0 → Goes z id i me (f (get_or (row c) i 0)) then c views)
    → Allows (Lawful z) slots id me i f then
allowed z slots id i me f then steps s holds homes here low =
    let go = steps holds.shape holds.content holds.world s.views holds.law here in (
      go.w,
      keeps,
      tt,
      record {
        shape = holds.shape;
        content = go.content;
        world = go.world;
        stands = ap (λ ws. set ws i (f (get_or ws i 0))) holds.stands ∙ go.moves;
        law = go.law;
      },
      subst (λ (ws : List ℕ). then (get_or ws i 0) (go.w, me.1)) (sym holds.stands) go.told,
    )
