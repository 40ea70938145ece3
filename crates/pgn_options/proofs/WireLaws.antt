-- What `clap` makes of the words of `wire` is that there are none.
use Rattle.std.proofs.Common.{◌≡◌, ◌∙◌, ℕ, ◌==◌, Bool, true, false, cond, List, [], ◌∷◌, Option, Some, None, refl, sym, subst, codes}
use Rattle.std.specs.Prelude.{slice_get}
use Rattle.std.specs.Str.{bytes_eq, chars}
use Rattle.clap.specs.Faults.{defaults_fault, flags_fault, turn_fault}
use Rattle.clap.specs.Walk.{Row, Text, Walk, bundle_met, nothing_held, walk_from, walked}
use Rattle.clap.specs.Simple.{Shape, new_shape}
use Rattle.clap.specs.declared.error.kind.ErrorKind.TheVariants.{UnknownArgument}
use Rattle.pgn_options.specs.declared.asked.Asked.{Asked}
use Rattle.pgn_options.specs.declared.asked.Asked.TheVariants.{Run, Drill, Wire, Check, Serve}
use Rattle.pgn_options.specs.Words.{wire_of, without_dashes}
use Rattle.pgn_options.proofs.TotalLaws.{Agrees, agrees-step, found, total, total-nil, wrong-step}
use Rattle.pgn_options.proofs.FormLaws.{Form, dashes, form, long, plain, short}

-- `wire` as it is built
abbrev pub wire_built : Shape
wire_built = record (new_shape (codes "wire")) {
  no_binary_name = true;
  disable_help_flag = true;
  disable_help_subcommand = true;
  is_built = true;
}

-- what is found of `wire`
abbrev pub IsWire : Asked → List Row → Type 0
IsWire (Run pages patience format live) rows = ⊥
IsWire (Check pages patience format) rows = ⊥
IsWire (Serve seats) rows = ⊥
IsWire (Drill seed sessions notes) rows = ⊥
IsWire Wire rows = Unit {0}

-- before the first word, and behind a `--` that stood first
abbrev at : Bool → Walk
at trailing = record (walk_from nothing_held) { is_trailing = trailing }

-- the end of the words
wire-end : (t : Bool) → Agrees IsWire (wire_of []) (total wire_built (at t) []) (found wire_built (at t) [])
unfolding defaults_fault
wire-end t = (total-nil wire_built (at t), tt)

-- a word that no place takes
wire-wrong : (t : Bool) (w : Text) (words : List Text) → turn_fault wire_built [] (at t) w ≡ UnknownArgument ∷ []
    → total wire_built (at t) (w ∷ words) ≡ [] → ⊥
wire-wrong t w words turn = wrong-step IsWire wire_built (at t) (at t) w words (λ is. let bad : UnknownArgument ∷ [] ≡ [] = sym turn ∙ is in cc)

behind-dashes : (words : List Text) → Agrees IsWire (wire_of words) (total wire_built (at true) words) (found wire_built (at true) words)
behind-dashes [] = wire-end true
behind-dashes (w ∷ words) = wire-wrong true w words refl

-- no word but `--`
not-dashes : (w : Text) (words : List Text) → bytes_eq w (codes "--") ≡ false → turn_fault wire_built [] (at false) w ≡ UnknownArgument ∷ []
    → Agrees IsWire (wire_of (without_dashes (w ∷ words))) (total wire_built (at false) (w ∷ words)) (found wire_built (at false) (w ∷ words))
not-dashes w words apart turn =
    subst (λ (b : Bool). Agrees IsWire (wire_of (cond b words (w ∷ without_dashes words))) (total wire_built (at false) (w ∷ words)) (found wire_built (at false) (w ∷ words)))
    (sym apart) (wire-wrong false w words turn)

short-turn : (y : ℕ) (ys : Text) → (y == 45) ≡ false → turn_fault wire_built [] (at false) (45 ∷ y ∷ ys) ≡ UnknownArgument ∷ []
unfolding flags_fault bundle_met
short-turn y ys differs = go (slice_get (chars (y ∷ ys)) 0) refl
  where
    go : (o : Option ℕ) → slice_get (chars (y ∷ ys)) 0 ≡ o → turn_fault wire_built [] (at false) (45 ∷ y ∷ ys) ≡ UnknownArgument ∷ []
    go None c = rw (differs, differs, c) refl
    go (Some x) c = rw (differs, differs, c) refl

to-trailing : walked [] [] (at false) (45 ∷ 45 ∷ []) ≡ at true
unfolding walked
to-trailing = refl

wire-word : (w : Text) (words : List Text) → Form w
    → Agrees IsWire (wire_of (without_dashes (w ∷ words))) (total wire_built (at false) (w ∷ words)) (found wire_built (at false) (w ∷ words))
wire-word _ words (plain w apart s) = not-dashes w words apart.not_dashes (rw (apart.not_dashes, apart.no_long, s) refl)
wire-word _ words (short y ys differs) = not-dashes (45 ∷ y ∷ ys) words (rw differs refl) (short-turn y ys differs)
wire-word _ words dashes = agrees-step IsWire wire_built (at false) (at true) (45 ∷ 45 ∷ []) words (wire_of words) refl to-trailing (behind-dashes words)
wire-word _ words (long z zs) = not-dashes (45 ∷ 45 ∷ z ∷ zs) words refl refl

-- what `clap` makes of the words of `wire`
pub wire-agrees : (words : List Text)
    → Agrees IsWire (wire_of (without_dashes words)) (total wire_built (walk_from nothing_held) words) (found wire_built (walk_from nothing_held) words)
wire-agrees [] = wire-end false
wire-agrees (w ∷ words) = wire-word w words (form w)
