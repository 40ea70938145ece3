-- What a reader of queries gives.
use Rattle.std.proofs.Common.{◌≡◌, ℕ, zero, suc, ◌+◌, ◌<◌, ◌==◌, get_or, eqb-true, take-append-drop, length-take-le, List, [], ◌∷◌, ◌++◌, length, take, drop, Option, Some, None, IfSome, sym, ap, ◌∙◌, subst, refl, arith}
use Rattle.std.proofs.lemmas.List.{drop_more, get_or-take}
use Rattle.memchr.specs.Find.{NoneBefore, Passes, is_byte}
use Rattle.pgn_base.specs.declared.command.Command.{Command}
use Rattle.pgn_base.specs.declared.command.Command.TheVariants.{Bad}
use Rattle.pgn_language.specs.declared.scenario.Act.TheVariants.{Run}
use Rattle.pgn_language.specs.Grammar.{ReadsAs}
use Rattle.pgn_language.specs.Inputs.{IsOneLine}
use Rattle.pgn_language.specs.declared.scenario.ScriptLine.{ScriptLine}
use Rattle.pgn_queries.specs.declared.wire_fault.WireFault.{WireFault}
use Rattle.pgn_queries.specs.declared.wire_fault.WireFault.TheVariants.{TooMany}
use Rattle.pgn_queries.specs.declared.coming.Coming.TheVariants.{End, Query, Fault}
use Rattle.pgn_queries.specs.Client.{NextIs, OfKnown}
use Rattle.pgn_queries.specs.Queries as queries
use Rattle.pgn_queries.specs.Queries.{Place, IsLineOf, AreTooMany, TookQuery, QueriesAre, Gives, after_query}

-- there is no more
pub Gives-none : (old new : Place) (text : List ℕ) (a b : Option (List ℕ)) → OfKnown (NextIs old.at End text) a b → OfKnown (Gives old new None) a b
Gives-none old new text None b h = tt
Gives-none old new text (Some xs) None h = absurd h
Gives-none old new text (Some xs) (Some ys) h = queries.QueriesAre.Ends old xs text ys h

-- a query, with which there are not too many
pub Gives-line : (old new : Place) (text : List ℕ) (line : ScriptLine) (a b : Option (List ℕ)) → OfKnown (NextIs old.at Query text) a b → IsLineOf (old.queries + 1) text line
    → (AreTooMany (after_query old (length text) line.act) → ⊥) → new ≡ after_query old (length text) line.act → OfKnown (Gives old new (Some line)) a b
Gives-line old new text line None b h is few e = tt
Gives-line old new text line (Some xs) None h is few e = absurd h
Gives-line old new text line (Some xs) (Some ys) h is few e =
    λ lines fault more. queries.QueriesAre.Goes old xs text ys line lines fault h is few (subst (λ (place : Place). QueriesAre place ys lines fault) e more)

-- its message was taken
pub TookQuery-known : (old new : Place) (text : List ℕ) (line : ScriptLine) (a b : Option (List ℕ)) → OfKnown (NextIs old.at Query text) a b → IsLineOf (old.queries + 1) text line
    → (AreTooMany (after_query old (length text) line.act) → ⊥) → new ≡ after_query old (length text) line.act → OfKnown (TookQuery old new line) a b
TookQuery-known old new text line None b h is few e = tt
TookQuery-known old new text line (Some xs) None h is few e = absurd h
TookQuery-known old new text line (Some xs) (Some ys) h is few e = record { text = text; next = h; is = is; after = e; few = subst (λ (place : Place). AreTooMany place → ⊥) (sym e) few }

-- a fault
pub Fails-known : (old : Place) (text : List ℕ) (found : WireFault) (a b : Option (List ℕ)) → OfKnown (NextIs old.at (Fault found) text) a b → IfSome a (λ bytes. QueriesAre old bytes [] (Some found))
Fails-known old text found None b h = tt
Fails-known old text found (Some xs) None h = absurd h
Fails-known old text found (Some xs) (Some ys) h = queries.QueriesAre.Fails old xs text ys found h

-- a query, with which there are too many
pub Exceeds-known : (old : Place) (text : List ℕ) (line : ScriptLine) (a b : Option (List ℕ)) → OfKnown (NextIs old.at Query text) a b → IsLineOf (old.queries + 1) text line
    → AreTooMany (after_query old (length text) line.act) → IfSome a (λ bytes. QueriesAre old bytes [] (Some (TooMany old.at)))
Exceeds-known old text line None b h is many = tt
Exceeds-known old text line (Some xs) None h is many = absurd h
Exceeds-known old text line (Some xs) (Some ys) h is many = queries.QueriesAre.Exceeds old xs text ys line h is many

-- whatever stands for what is not there
any_default : (xs : List ℕ) (k a b : ℕ) → k < length xs → get_or xs k a ≡ get_or xs k b
any_default [] k a b h = absurd (omega arith)
any_default (x ∷ xs) zero a b h = refl
any_default (x ∷ xs) (suc k) a b h = any_default xs k a b (omega arith)

-- no LF stands before the first
one_before : (text : List ℕ) (at : ℕ) → NoneBefore (Passes (is_byte 10) text) 0 (length text) at → IsOneLine (take at text)
one_before text at h c =
    let within : at < length text = h.high in
    let front : length (take at text) ≡ at = length-take-le at text (omega arith) in
    let below : c.0 < at = omega (arith, c.1) in
    let here : get_or text c.0 0 ≡ 10 = any_default text c.0 0 10 (omega arith) ∙ sym (get_or-take at text c.0 10 below) ∙ c.2 in
    h.before c.0 (omega arith) below (ap (λ (x : ℕ). x == 10) here)

-- a text whose first LF has this place
pub IsLineOf-lines : (number at : ℕ) (text : List ℕ) (line : ScriptLine) → NoneBefore (Passes (is_byte 10) text) 0 (length text) at → Passes (is_byte 10) text at
    → line ≡ record { line = number; text = []; act = Run (Bad at) } → IsLineOf number text line
IsLineOf-lines number at text line h here e =
    let within : at < length text = h.high in
    let front : length (take at text) ≡ at = length-take-le at text (omega arith) in
    let whole : text ≡ take at text ++ 10 ∷ drop (at + 1) text
    = sym (take-append-drop at text) ∙ ap (λ (xs : List ℕ). take at text ++ xs) (drop_more text at 0 within ∙ ap (λ (x : ℕ). x ∷ drop (at + 1) text) (eqb-true (get_or text at 0) 10 here)) in
    let found : IsLineOf number text (record { line = number; text = []; act = Run (Bad (length (take at text))) })
    = queries.IsLineOf.Lines text (take at text) (drop (at + 1) text) whole (one_before text at h) in
    subst (λ (l : ScriptLine). IsLineOf number text l) (sym e)
    (subst (λ (n : ℕ). IsLineOf number text (record { line = number; text = []; act = Run (Bad n) })) front found)

-- a text without an LF
pub IsLineOf-one : (number : ℕ) (text : List ℕ) (command : Command) → IsOneLine text → ReadsAs text command → IsLineOf number text (record { line = number; text = text; act = Run command })
IsLineOf-one number text command one reads = queries.IsLineOf.OneLine text command one reads

-- what a place gives: nothing, a line, a fault, or one query too many
pub ruleset gives_laws = (Gives-none, Gives-line, Fails-known, Exceeds-known)

-- which line a query is
pub ruleset line_laws = (IsLineOf-lines, IsLineOf-one)
