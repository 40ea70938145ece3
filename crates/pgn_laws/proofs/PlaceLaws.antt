-- Where an item of turns stands.
use Rattle.std.proofs.Common.{◌≡◌, true, false, List, [], ◌∷◌, ◌++◌, All, sym, ap, ◌∙◌, subst, refl, inl, inr, append_assoc}
use Rattle.std.specs.Prelude.{◌⊎◌}
use Rattle.std.proofs.lemmas.List.Elements.{All-head, All-tail}
use Rattle.pgn_model.specs.declared.item.Item.{Item}
use Rattle.pgn_model.specs.declared.item.Item.TheVariants.{Line}
use Rattle.pgn_messages.specs.Laws.{begins_line}
use Rattle.pgn_messages.specs.Turns.{Turn, Answers, Hears, Leaves, Settles, Discards, IsPlain, IsRead, items_in, items_of}
use Rattle.pgn_messages.specs.TurnLaws.{IsAskedFor, OthersAreAskedFor, StandsBehindLine}

-- a member of two lists, by what stands before and behind it, is one of the first or of the second
pub in_one_of : {A : Type 0} (xs ys before behind : List A) (x : A) → xs ++ ys ≡ before ++ x ∷ behind
    → ((past : List A) × (xs ≡ before ++ x ∷ past) × (behind ≡ past ++ ys)) ⊎ ((inside : List A) × (before ≡ xs ++ inside) × (ys ≡ inside ++ x ∷ behind))
in_one_of {A} [] ys before behind x e = inr (before, refl, e)
in_one_of {A} (a ∷ xs) ys [] behind x e =
    let both : a ∷ (xs ++ ys) ≡ x ∷ behind = e in
    let first : a ≡ x = cc in
    let others : xs ++ ys ≡ behind = cc in
    inl (xs, ap (λ (b : A). b ∷ xs) first, sym others)
in_one_of {A} (a ∷ xs) ys (b ∷ before) behind x e =
    let both : a ∷ (xs ++ ys) ≡ b ∷ (before ++ x ∷ behind) = e in
    let first : a ≡ b = cc in
    let others : xs ++ ys ≡ before ++ x ∷ behind = cc in
    elim (in_one_of xs ys before behind x others) [
      | inl h ↦ inl (h.0, ap (λ (c : A). c ∷ xs) first ∙ ap (λ (cs : List A). b ∷ cs) h.1, h.2)
      | inr h ↦ inr (h.0, ap (λ (cs : List A). b ∷ cs) h.1 ∙ ap (λ (c : A). c ∷ (xs ++ h.0)) (sym first), h.2)
    ]

-- each of a list of reads is a read
pub read-at : (before behind : List Item) (item : Item) → All IsRead (before ++ item ∷ behind) → IsRead item
read-at [] behind item h = All-head IsRead item behind h
read-at (first ∷ before) behind item h = read-at before behind item (All-tail IsRead first (before ++ item ∷ behind) h)

-- a turn with another item was asked for
asked-turn : (turn : Turn) (inside past : List Item) (item : Item) → IsPlain turn → items_in turn ≡ inside ++ item ∷ past → (IsRead item → ⊥) → IsAskedFor turn
asked-turn (Answers query more) inside past item h e other = tt
asked-turn (Hears reads) inside past item h e other = absurd (other (read-at inside past item (subst (λ (is : List Item). All IsRead is) e h)))
asked-turn (Leaves parting line rolled unlistened) inside past item h e other = tt
asked-turn (Settles settled) inside past item h e other = tt
asked-turn (Discards line refused unlistened) inside past item h e other = tt

no_item : (before behind : List Item) (item : Item) → [] ≡ before ++ item ∷ behind → ⊥
no_item [] behind item e = let both : [] ≡ item ∷ behind = e in cc
no_item (first ∷ before) behind item e = let both : [] ≡ first ∷ (before ++ item ∷ behind) = e in cc

-- an item of turns that is no read stands in a turn that was asked for
pub others_are_asked_for : OthersAreAskedFor
others_are_asked_for [] before behind item plain e other = absurd (no_item before behind item e)
others_are_asked_for (turn ∷ turns) before behind item plain e other = elim (in_one_of (items_in turn) (items_of turns) before behind item e) [
  | inl h ↦ record {
    front = [];
    turn = turn;
    back = turns;
    split = refl;
    asked_for = asked-turn turn before h.0 item (All-head IsPlain turn turns plain) h.1 other;
    inside = before;
    past = h.0;
    items = h.1;
    all_before = refl;
    all_behind = h.2;
  }
  | inr h ↦
      let further = others_are_asked_for turns h.0 behind item (All-tail IsPlain turn turns plain) h.2 other in record {
        front = turn ∷ further.front;
        turn = further.turn;
        back = further.back;
        split = ap (λ (ts : List Turn). turn ∷ ts) further.split;
        asked_for = further.asked_for;
        inside = further.inside;
        past = further.past;
        items = further.items;
        all_before = h.1 ∙ ap (λ (is : List Item). items_in turn ++ is) further.all_before ∙ sym (append_assoc (items_in turn) (items_of further.front) further.inside);
        all_behind = further.all_behind;
      }
]

-- in the answer to a query, what begins no line stands behind the query's own
pub stands_behind_line : StandsBehindLine
stands_behind_line query more [] past item e h =
    let both : Line query.line ∷ more ≡ item ∷ past = e in
    let first : Line query.line ≡ item = cc in
    let begins : true ≡ false = ap begins_line first ∙ h in
    absurd (cc)
stands_behind_line query more (first ∷ front) past item e h =
    let both : Line query.line ∷ more ≡ first ∷ (front ++ item ∷ past) = e in
    let own : Line query.line ≡ first = cc in
    let others : more ≡ front ++ item ∷ past = cc in
    (front, ap (λ (i : Item). i ∷ front) (sym own), others)
