use Rattle.std.proofs.Common.{◌≡◌, List, [], ◌∷◌, ◌++◌, length, All, sym, ◌∙◌, refl, arith, ap, subst}
use Rattle.std.proofs.lemmas.List.Elements.{All-nil, All-cons, All-head}
use Rattle.pgn_model.specs.declared.item.Item.{Item}
use Rattle.pgn_model.specs.declared.item.Item.TheVariants.{Leave, Line, Read}
use Rattle.pgn_messages.specs.Asks.{seat_quit}
use Rattle.pgn_examples.specs.Turns.{idle_items, sent_by}
use Rattle.pgn_messages.specs.Turns.{IsPlain, IsRead, items_of}
use Rattle.pgn_part_examples.specs.Seats.{heard_one, listened}
use Rattle.pgn_part_examples.proofs.seats.quits.Goals as goal

abbrev IsNoRead : Item → Type 0
IsNoRead item = IsRead item → ⊥

pub returns-clause-met : goal.returns-clause-met
returns-clause-met c = λ s e f. record {
  plain = All-cons IsPlain listened [] refl (All-nil IsPlain);
  lines = e;
  more = Leave ∷ [];
  items = f;
  unread = All-cons IsNoRead Leave [] (λ h. h) (All-nil IsNoRead);
}

pub returns-clause-reads_behind : goal.returns-clause-reads_behind
returns-clause-reads_behind c = λ s e h.
    let read : Item = Read 3 4 (sent_by 1002 ∷ []) in
    let same : Line 4294967295 ∷ read ∷ [] ≡ Line 4294967295 ∷ h.more = sym e ∙ h.items in
    let rest : read ∷ [] ≡ h.more = cc in
    All-head IsNoRead read [] (subst (λ (is : List Item). All IsNoRead is) (sym rest) h.unread) tt

pub returns-clause-goes_on : goal.returns-clause-goes_on
returns-clause-goes_on c = λ s e h.
    let same : idle_items ≡ items_of (listened ∷ heard_one ∷ []) ++ Line seat_quit.line ∷ h.more = sym e ∙ h.items in
    let count = ap (λ (is : List Item). length is) same in
    omega (arith, count)
