-- What the writer has taken and written.
use Rattle.std.proofs.Common.{◌≡◌, ℕ, ◌+◌, List, [], ◌∷◌, ◌++◌, flat_map, All, Option, sym, ap, ◌∙◌, append-nil, append_assoc}
use Rattle.std.proofs.lemmas.Grind.{flat_map-append}
use Rattle.std.proofs.lemmas.List.Elements.{All-nil, All-cons, All-append}
use Rattle.pgn_language.specs.declared.scenario.Section.{Section}
use Rattle.pgn_model.specs.Text.{joined}
use Rattle.pgn_outlet.specs.Rule.{with_got}
use Rattle.pgn_text.specs.declared.line_cursor.LineCursor.{LineCursor}
use Rattle.pgn_text.specs.declared.out.Out.{Out}
use Rattle.pgn_text.specs.Rendering.{Puts, lines_of}
use Rattle.pgn_text.proofs.PutsLaws.{Puts-none, Puts-trans, Puts-same, joined-append}
use Rattle.pgn_live.specs.Cames.{Came, Hand}
use Rattle.pgn_live.specs.Lives.{came_lines, tagged, IsFresh, IsNumber, StandIn, Wrote}

-- the text of two parts
pub tagged-append : (sections : List Section) (xs ys : List Came) → tagged sections (xs ++ ys) ≡ tagged sections xs ++ tagged sections ys
tagged-append sections xs ys = ap joined (flat_map-append (came_lines sections) xs ys) ∙ joined-append (flat_map (came_lines sections) xs) (flat_map (came_lines sections) ys)

module _ {S : Type 0} (held : S → Option (List ℕ)) (faults : S → ℕ) (sections : List Section) where
  -- nothing was taken
  pub Wrote-none : (v : Hand) (sink : S) (out : Out) → Wrote held faults sections v v sink out sink out
  Wrote-none v sink out = record {
    more = [];
    numbers = All-nil (λ (came : Came). IsNumber came.session);
    got = ap (λ (l : List Came). let w : Hand = record v { got = l } in w) (sym (append-nil v.got));
    puts = Puts-none held faults sink out;
  }

  -- one after another
  pub Wrote-trans : (u v w : Hand) (s₀ s₁ s₂ : S) (o₀ o₁ o₂ : Out) → Wrote held faults sections u v s₀ o₀ s₁ o₁ → Wrote held faults sections v w s₁ o₁ s₂ o₂ → Wrote held faults sections u w s₀ o₀ s₂ o₂
  Wrote-trans u v w s₀ s₁ s₂ o₀ o₁ o₂ f g = record {
    more = f.more ++ g.more;
    numbers = All-append (λ (came : Came). IsNumber came.session) f.more g.more f.numbers g.numbers;
    got = g.got ∙ ap (λ (x : Hand). let y : Hand = record x { got = x.got ++ g.more } in y) f.got ∙ ap (λ (l : List Came). let y : Hand = record u { got = l } in y) (append_assoc u.got f.more g.more);
    puts = Puts-same {held = held} {faults = faults} (sym (tagged-append sections f.more g.more)) (Puts-trans f.puts g.puts);
  }

  -- something was
  pub Wrote-one : (v w : Hand) (came : Came) (s₀ s₁ : S) (o₀ o₁ : Out) → w ≡ with_got v came → IsNumber came.session → Puts held faults s₀ o₀ s₁ o₁ (joined (came_lines sections came)) → Wrote held faults sections v w s₀ o₀ s₁ o₁
  Wrote-one v w came s₀ s₁ o₀ o₁ took number puts = record {
    more = came ∷ [];
    numbers = All-cons (λ (c : Came). IsNumber c.session) came [] number (All-nil (λ (c : Came). IsNumber c.session));
    got = took;
    puts = Puts-same {held = held} {faults = faults} (ap joined (sym (append-nil (came_lines sections came)))) puts;
  }

  -- what was kept back is sent
  pub Wrote-sent : (v w : Hand) (s₀ s₁ : S) (o₀ o₁ : Out) → w ≡ v → Puts held faults s₀ o₀ s₁ o₁ [] → Wrote held faults sections v w s₀ o₀ s₁ o₁
  Wrote-sent v w s₀ s₁ o₀ o₁ none puts = record {
    more = [];
    numbers = All-nil (λ (c : Came). IsNumber c.session);
    got = none ∙ ap (λ (l : List Came). let x : Hand = record v { got = l } in x) (sym (append-nil v.got));
    puts = puts;
  }

-- how what was written adds up, for the writer's loops
pub ruleset write_laws = (Wrote-none, Wrote-trans, Wrote-one, Wrote-sent)

-- cursors
pub stand-fresh : (sections : List Section) (cursors : List LineCursor) → All IsFresh cursors → StandIn sections cursors
stand-fresh sections cursors fresh = λ k d less. fresh k d less (lines_of (k + 1) sections)
