-- How turns grow.
use Rattle.std.proofs.Common.{◌≡◌, ℕ, List, [], ◌∷◌, ◌++◌, Option, sym, ap, ◌∙◌, refl, append_assoc, append-nil}
use Rattle.std.specs.Prelude.{fold, flat_map}
use Rattle.std.proofs.lemmas.List.Sums.{fold-append}
use Rattle.std.proofs.lemmas.Grind.{flat_map-append}
use Rattle.pgn_model.specs.declared.item.Item.{Item}
use Rattle.pgn_messages.specs.declared.asked.Ask.{Ask}
use Rattle.pgn_messages.specs.Asks.{lines_for}
use Rattle.pgn_messages.specs.Turns.{Telling, Turn, after_turn, asked_in, asks_of, first_telling, idle_state, items_in, items_of, said, signs_in, signs_said, telling_after, telling_of}
use Rattle.pgn_messages.specs.TurnLaws.{SaidStays, TellingWalks, TurnsGrow}

-- what is said by turns, and by more turns behind them
pub said-append : (seat : ℕ) (t : Telling) (turns more : List Turn) → signs_said seat t (turns ++ more) ≡ signs_said seat t turns ++ signs_said seat (fold telling_after t turns) more
said-append seat t [] more = refl
said-append seat t (turn ∷ turns) more =
    ap (λ (l : List (Option ℕ)). signs_in seat t turn ++ l) (said-append seat (telling_after t turn) turns more)
    ∙ sym (append_assoc (signs_in seat t turn) (signs_said seat (telling_after t turn) turns) (signs_said seat (fold telling_after (telling_after t turn) turns) more))

-- what is said of turns stays, whatever turns follow
pub said_stays : SaidStays
said_stays seat turns more = said-append seat first_telling turns more

walks-from : (t : Telling) (turns : List Turn) → (fold telling_after t turns).walk ≡ fold after_turn t.walk turns
walks-from t [] = refl
walks-from t (turn ∷ turns) = walks-from (telling_after t turn) turns

-- where a teller stands after turns, the walk does
pub telling_walks : TellingWalks
telling_walks turns = walks-from first_telling turns

-- a turn more adds what was asked for it, its lines, its items and its signs at the end
pub turns_grow : TurnsGrow
turns_grow seat turns turn =
    let asks : asks_of (turns ++ turn ∷ []) ≡ asks_of turns ++ asked_in turn =
    flat_map-append asked_in turns (turn ∷ []) ∙ ap (λ (l : List Ask). asks_of turns ++ l) (append-nil (asked_in turn)) in
    record {
      signs = said_stays seat turns (turn ∷ []) ∙ ap (λ (l : List (Option ℕ)). said seat turns ++ l) (append-nil (signs_in seat (telling_of turns) turn));
      state = fold-append after_turn idle_state turns (turn ∷ []);
      telling = fold-append telling_after first_telling turns (turn ∷ []);
      asks = asks;
      lines = ap (λ (l : List Ask). flat_map lines_for l) asks ∙ flat_map-append lines_for (asks_of turns) (asked_in turn);
      items = flat_map-append items_in turns (turn ∷ []) ∙ ap (λ (is : List Item). items_of turns ++ is) (append-nil (items_in turn));
    }
