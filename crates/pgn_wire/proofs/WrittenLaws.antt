-- What stands written of an answer.
use Rattle.std.proofs.Common.{◌≡◌, ℕ, ◌+◌, ◌<◌, List, [], ◌∷◌, ◌++◌, length, drop, Option, Some, None, Result, Ok, Err, IfOk, OnOk, sym, ap, ◌∙◌, subst, arith, refl, append-nil, append_assoc}
use Rattle.std.specs.Io.KnownBytes.{Appends}
use Rattle.std.proofs.lemmas.List.{length-append}
use lib.Seq.{drop-append_seam}
use Rattle.pgn_base.specs.Outside.{AppendsPrefix}
use Rattle.pgn_base.specs.declared.command.Command.{Command}
use Rattle.pgn_language.specs.declared.scenario.Act.TheVariants.{Run}
use Rattle.pgn_language.specs.declared.scenario.ScriptLine.{ScriptLine}
use Rattle.pgn_model.specs.declared.item.Item.{Item}
use Rattle.pgn_model.specs.declared.item.Item.TheVariants.{Line}
use Rattle.pgn_hub.specs.declared.known.Known.{Known}
use Rattle.pgn_hub.specs.Shape.{Shape}
use Rattle.pgn_session.specs.declared.session.Session.{Session}
use Rattle.pgn_messages.specs.Messages.{answer_messages, messages}
use Rattle.pgn_wire.specs.Serving.{AreWhole, HasStopped, HasTaken, WroteWhole}

-- a text, and behind it another
pub appends-more : (held a b : Option (List ℕ)) (text answer whole : List ℕ) → whole ≡ text ++ answer → Appends held a text → Appends a b answer → Appends held b whole
appends-more None a b text answer whole e h k = tt
appends-more (Some xs) None b text answer whole e h k = absurd h
appends-more (Some xs) (Some ys) None text answer whole e h k = absurd k
appends-more (Some xs) (Some ys) (Some zs) text answer whole e h k =
    k ∙ ap (λ (l : List ℕ). l ++ answer) h ∙ append_assoc xs text answer ∙ ap (λ (l : List ℕ). xs ++ l) (sym e)

-- a text, and behind it a prefix of another
pub appends-part : (held a b : Option (List ℕ)) (text answer whole : List ℕ) → whole ≡ text ++ answer → Appends held a text → AppendsPrefix a b answer → AppendsPrefix held b whole
appends-part None a b text answer whole e h k = tt
appends-part (Some xs) None b text answer whole e h k = absurd h
appends-part (Some xs) (Some ys) None text answer whole e h k = absurd k
appends-part (Some xs) (Some ys) (Some zs) text answer whole e h k =
    (text ++ k.0, k.1, e ∙ ap (λ (l : List ℕ). text ++ l) k.2 ∙ sym (append_assoc text k.0 k.1), k.3 ∙ ap (λ (l : List ℕ). l ++ k.0) h ∙ append_assoc xs text k.0)

-- the items behind a line
behind : (items more : List Item) (n from : ℕ) → from ≡ length items → drop (from + 1) (items ++ Line n ∷ more) ≡ more
behind items more n from e =
    let long : length (items ++ Line n ∷ []) ≡ length items + 1 = length-append items (Line n ∷ []) in
    let place : from + 1 ≡ length (items ++ Line n ∷ []) = ap (λ (k : ℕ). k + 1) e ∙ sym long in
    ap (λ (k : ℕ). drop k (items ++ Line n ∷ more)) place
    ∙ ap (λ (is : List Item). drop (length (items ++ Line n ∷ [])) is) (sym (append_assoc items (Line n ∷ []) more)) ∙ drop-append_seam (items ++ Line n ∷ []) more

-- the items were not fewer
pub some-behind : {P : Type 0} (old new : Session P) (line : ScriptLine) (from : ℕ) → from ≡ length old.items.items → HasTaken old line new → from < length new.items.items
some-behind old new line from e h =
    let whole : length new.items.items ≡ length (old.items.items ++ Line line.line ∷ h.more) = ap (λ (is : List Item). length is) h.shown in
    omega (arith, whole, e, length-append old.items.items (Line line.line ∷ h.more))

-- the answer that was made is the query's
pub one-answer : {P : Type 0} (old new : Session P) (line : ScriptLine) (command : Command) (from : ℕ) (bytes : List ℕ) → HasTaken old line new → line.act ≡ Run command → from ≡ length old.items.items
    → bytes ≡ answer_messages command (drop (from + 1) new.items.items) new.block.state → messages new.section new.items.items ≡ messages old.section old.items.items ++ bytes
one-answer old new line command from bytes h does e made =
    let same : h.command ≡ command = (let both : Run h.command ≡ Run command = sym h.does ∙ does in cc) in
    let rest : drop (from + 1) new.items.items ≡ h.more = ap (λ (is : List Item). drop (from + 1) is) h.shown ∙ behind old.items.items h.more line.line from e in
    h.answers ∙ ap (λ (t : List ℕ). messages old.section old.items.items ++ t)
    (ap (λ (c : Command). answer_messages c h.more new.block.state) same ∙ ap (λ (is : List Item). answer_messages command is new.block.state) (sym rest) ∙ sym made)

-- a session that was stopped wrote whole answers
pub stopped-wrote : {P : Type 0} (shape : Shape) (known : P → Known) (old new : Session P) (held a b : Option (List ℕ)) → HasStopped shape known old new → b ≡ a
    → Appends held a (messages old.section old.items.items) → WroteWhole held b new.section new.items.items
stopped-wrote shape known old new held a b h e wrote = record {
  written = messages old.section old.items.items;
  whole = record { front = old.items.items; behind = h.behind; split = h.shown; line = h.line; are = sym h.same };
  wrote = subst (λ (now : Option (List ℕ)). Appends held now (messages old.section old.items.items)) (sym e) wrote;
}

-- the items of a session in which nothing happened are whole
pub same-whole : {P : Type 0} (s : Session P) → AreWhole s.section s.items.items (messages s.section s.items.items)
same-whole s = record { front = s.items.items; behind = []; split = sym (append-nil s.items.items); line = tt; are = refl }

-- so are those of a session that was stopped
pub stopped-whole : {P : Type 0} (shape : Shape) (known : P → Known) (old new : Session P) → HasStopped shape known old new
    → AreWhole new.section new.items.items (messages old.section old.items.items)
stopped-whole shape known old new h = record { front = old.items.items; behind = h.behind; split = h.shown; line = h.line; are = sym h.same }

-- and of one whose answer was not made
pub taken-whole : {P : Type 0} (old new : Session P) (line : ScriptLine) → HasTaken old line new → AreWhole new.section new.items.items (messages old.section old.items.items)
taken-whole old new line h = record { front = old.items.items; behind = Line line.line ∷ h.more; split = h.shown; line = tt; are = sym h.kept }

-- the answer, where it was made, is the query's
pub answer-made : {P E : Type 0} (old new : Session P) (line : ScriptLine) (command : Command) (from : ℕ) (made : Result (List ℕ) E) → HasTaken old line new → line.act ≡ Run command → from ≡ length old.items.items
    → IfOk made (λ bytes. bytes ≡ answer_messages command (drop (from + 1) new.items.items) new.block.state)
    → IfOk made (λ bytes. messages new.section new.items.items ≡ messages old.section old.items.items ++ bytes)
answer-made old new line command from (Ok bytes) h does e made = one-answer old new line command from bytes h does e made
answer-made old new line command from (Err error) h does e made = tt

-- it holds in the case of an answer
pub on_made : {T E : Type 0} (r : Result T E) (P : Type 0) → P → OnOk r P
on_made (Ok x) P p = p
on_made (Err e) P p = tt
