-- Readings of bytes that are known, from tests that compute.
use Rattle.std.proofs.Common.{◌≡◌, ℕ, ◌+◌, ◌≤◌, ◌==◌, Bool, true, false, List, [], ◌∷◌, ◌++◌, length, get_or, Contains, Option, Some, sym, ap, subst, refl, arith, inl, inr}
use Rattle.std.specs.Prelude.{◌||◌}
use Rattle.std.specs.List.{list_any}
use Rattle.std.specs.Str.{is_utf8}
use Rattle.std.specs.Int.{w32, from_be_bytes}
use Rattle.std.proofs.lemmas.Bool.{both_ways, eq-eqb}
use Rattle.std.proofs.lemmas.List.{length-append}
use Rattle.std.proofs.lemmas.Map.Made.{Contains-tail}
use Rattle.std.proofs.lemmas.Str.{IsUtf8-from_is_utf8}
use Rattle.pgn_base.specs.declared.command.Command.{Command}
use Rattle.pgn_base.specs.declared.command.Command.TheVariants.{Bad}
use Rattle.pgn_language.specs.declared.scenario.Act.TheVariants.{Run}
use Rattle.pgn_language.specs.declared.scenario.ScriptLine.{ScriptLine}
use Rattle.pgn_language.specs.Grammar.{reading}
use Rattle.pgn_language.proofs.GrammarLaws.{reading-reads}
use Rattle.pgn_queries.specs.declared.limits.TheConstants.{QUERIES_MAX}
use Rattle.pgn_queries.specs.declared.wire_fault.WireFault.{WireFault}
use Rattle.pgn_queries.specs.declared.wire_fault.WireFault.TheVariants.{BadText, TooMany}
use Rattle.pgn_queries.specs.declared.coming.Coming.TheVariants.{Query, Fault}
use Rattle.pgn_queries.specs.Client as client
use Rattle.pgn_queries.specs.Client.{IsText, NextIs, body_of}
use Rattle.pgn_queries.specs.Queries as queries
use Rattle.pgn_queries.specs.Queries.{Place, IsLineOf, AreTooMany, QueriesAre, after_query}
use Rattle.pgn_examples.specs.Queries.{query_line}
use Rattle.pgn_queries.proofs.EachLaws.{one_end}

-- the byte stands in the text
abbrev pub has : ℕ → List ℕ → Bool
has x text = list_any (λ (b : ℕ). b == x) text

or_false : (a b : Bool) → (a || b) ≡ false → (a ≡ false) × (b ≡ false)
or_false true b h = absurd (cc)
or_false false b h = (refl, h)

-- a text that has a byte nowhere does not contain it
pub lacks : (x : ℕ) (text : List ℕ) → has x text ≡ false → Contains text x → ⊥
lacks x [] h c = absurd (omega (arith, c.1))
lacks x (b ∷ text) h c =
    let parts = or_false (b == x) (has x text) h in
    lacks x text parts.1 (Contains-tail b text x (λ same. both_ways _ parts.0 (eq-eqb b x same)) c)

pub is_text : (text : List ℕ) → is_utf8 text ≡ true → has 0 text ≡ false → IsText text
is_text text utf8 no_nul = record { utf8 = IsUtf8-from_is_utf8 text utf8; no_nul = lacks 0 text no_nul }

-- a query comes
pub comes : (at : ℕ) (head text rest : List ℕ) → length head ≡ 4 → 5 + length text ≡ from_be_bytes w32 head → length text ≤ 65536 → IsText text
    → NextIs at Query text (81 ∷ (head ++ (body_of text ++ rest))) rest
comes at head text rest four value short sound =
    let sizes : length (body_of text) ≡ length text + 1 = length-append text (0 ∷ []) in
    client.NextIs.Asks (81 ∷ (head ++ (body_of text ++ rest))) (head ++ (body_of text ++ rest)) Query text rest refl
    (client.QueryIs.HasBody (head ++ (body_of text ++ rest)) head (body_of text ++ rest) Query text rest (5 + length text) (1 + length text) refl (record { four = four; value = value })
    (record { least = omega arith; most = omega arith }) (omega arith) (client.BodyIs.Whole (body_of text ++ rest) text rest refl (omega arith) sound))

-- at a place with no more queries and notifications than may be there are not too many
pub few : (place : Place) → place.queries ≤ QUERIES_MAX → place.notes ≤ place.most → AreTooMany place → ⊥
few place counted noted (inl many) = absurd (omega arith)
few place counted noted (inr many) = absurd (omega arith)

-- a query on one line, and then the others
pub one_line : (place : Place) (head text rest : List ℕ) (command : Command) (lines : List ScriptLine) (fault : Option WireFault) → length head ≡ 4 → 5 + length text ≡ from_be_bytes w32 head → length text ≤ 65536
    → is_utf8 text ≡ true → has 0 text ≡ false → has 10 text ≡ false → reading text ≡ command
    → place.queries + 1 ≤ QUERIES_MAX → (after_query place (length text) (Run command)).notes ≤ place.most
    → QueriesAre (after_query place (length text) (Run command)) rest lines fault
    → QueriesAre place (81 ∷ (head ++ (body_of text ++ rest))) (query_line (place.queries + 1) text command ∷ lines) fault
one_line place head text rest command lines fault four value short utf8 no_nul no_lf reads counted noted others =
    let is : IsLineOf (place.queries + 1) text (query_line (place.queries + 1) text command) =
    subst (λ (c : Command). IsLineOf (place.queries + 1) text (query_line (place.queries + 1) text c)) reads (queries.IsLineOf.OneLine text (reading text) (lacks 10 text no_lf) (reading-reads text)) in
    queries.QueriesAre.Goes place (81 ∷ (head ++ (body_of text ++ rest))) text rest (query_line (place.queries + 1) text command) lines fault
    (comes place.at head text rest four value short (is_text text utf8 no_nul)) is (few (after_query place (length text) (Run command)) counted noted) others

-- a query on one line with which there are too many
pub one_more : (place : Place) (head text rest : List ℕ) (command : Command) → length head ≡ 4 → 5 + length text ≡ from_be_bytes w32 head → length text ≤ 65536
    → is_utf8 text ≡ true → has 0 text ≡ false → has 10 text ≡ false → reading text ≡ command → AreTooMany (after_query place (length text) (Run command))
    → QueriesAre place (81 ∷ (head ++ (body_of text ++ rest))) [] (Some (TooMany place.at))
one_more place head text rest command four value short utf8 no_nul no_lf reads many =
    let is : IsLineOf (place.queries + 1) text (query_line (place.queries + 1) text command) =
    subst (λ (c : Command). IsLineOf (place.queries + 1) text (query_line (place.queries + 1) text c)) reads (queries.IsLineOf.OneLine text (reading text) (lacks 10 text no_lf) (reading-reads text)) in
    queries.QueriesAre.Exceeds place (81 ∷ (head ++ (body_of text ++ rest))) text rest (query_line (place.queries + 1) text command)
    (comes place.at head text rest four value short (is_text text utf8 no_nul)) is many

-- a query with an LF before which there is none, and then the others
pub several_lines : (place : Place) (head before behind rest : List ℕ) (lines : List ScriptLine) (fault : Option WireFault) → length head ≡ 4 → 5 + length (before ++ 10 ∷ behind) ≡ from_be_bytes w32 head
    → length (before ++ 10 ∷ behind) ≤ 65536 → is_utf8 (before ++ 10 ∷ behind) ≡ true → has 0 (before ++ 10 ∷ behind) ≡ false → has 10 before ≡ false
    → place.queries + 1 ≤ QUERIES_MAX → place.notes ≤ place.most
    → QueriesAre (after_query place (length (before ++ 10 ∷ behind)) (Run (Bad (length before)))) rest lines fault
    → QueriesAre place (81 ∷ (head ++ (body_of (before ++ 10 ∷ behind) ++ rest))) (query_line (place.queries + 1) [] (Bad (length before)) ∷ lines) fault
several_lines place head before behind rest lines fault four value short utf8 no_nul no_lf counted noted others =
    let text : List ℕ = before ++ 10 ∷ behind in
    queries.QueriesAre.Goes place (81 ∷ (head ++ (body_of text ++ rest))) text rest (query_line (place.queries + 1) [] (Bad (length before))) lines fault
    (comes place.at head text rest four value short (is_text text utf8 no_nul)) (queries.IsLineOf.Lines text before behind refl (lacks 10 before no_lf))
    (few (after_query place (length text) (Run (Bad (length before)))) counted (omega arith)) others

-- a body that is none: what does not end by a zero byte, or ends by one behind what is no text
pub bad_body : (place : Place) (head front rest : List ℕ) (last : ℕ) → length head ≡ 4 → 5 + length front ≡ from_be_bytes w32 head → length front ≤ 65536 → (last ≡ 0 → IsText front → ⊥)
    → QueriesAre place (81 ∷ (head ++ ((front ++ last ∷ []) ++ rest))) [] (Some (BadText place.at))
bad_body place head front rest last four value short none =
    let body : List ℕ = front ++ last ∷ [] in
    let sizes : length body ≡ length front + 1 = length-append front (last ∷ []) in
    queries.QueriesAre.Fails place (81 ∷ (head ++ (body ++ rest))) [] [] (BadText place.at)
    (client.NextIs.Asks (81 ∷ (head ++ (body ++ rest))) (head ++ (body ++ rest)) (Fault (BadText place.at)) [] [] refl
    (client.QueryIs.HasBody (head ++ (body ++ rest)) head (body ++ rest) (Fault (BadText place.at)) [] [] (5 + length front) (1 + length front) refl (record { four = four; value = value })
    (record { least = omega arith; most = omega arith }) (omega arith)
    (client.BodyIs.Bad (body ++ rest) body rest [] [] refl (omega arith) (λ text same is.
    let parts = one_end text front 0 last (sym same) in
    none (sym (ap (λ (l : List ℕ). get_or l 0 0) parts.1)) (subst (λ (t : List ℕ). IsText t) parts.0 is)))))

-- the text of the first line
abbrev pub first_text : List ScriptLine → List ℕ
first_text [] = []
first_text (line ∷ lines) = line.text
