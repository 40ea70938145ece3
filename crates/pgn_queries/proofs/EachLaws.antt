-- Each list of bytes has a reading.
use Rattle.std.proofs.Common.{◌≡◌, ℕ, zero, suc, ◌+◌, ◌-◌, ◌<◌, ◌≤◌, ◌==◌, ◌⊎◌, inl, inr, eqb-true, get_or, take-append-drop, length-take-le, List, [], ◌∷◌, ◌++◌, length, take, drop, Contains, Some, None, sym, ap, ◌∙◌, subst, refl, arith}
use Rattle.std.specs.Str.{is_utf8}
use Rattle.std.specs.Int.{w32, from_be_bytes}
use Rattle.std.proofs.lemmas.Bool.{cases_Bool, cases_lt, both_ways, eq-eqb}
use Rattle.std.proofs.lemmas.List.{length-append}
use Rattle.std.proofs.lemmas.List.Elements.{Contains-append_right}
use Rattle.std.proofs.lemmas.Map.Made.{Contains-tail}
use Rattle.std.proofs.lemmas.Str.{IsUtf8-from_is_utf8, is_utf8-from_IsUtf8}
use Rattle.pgn_base.specs.declared.command.Command.TheVariants.{Bad}
use Rattle.pgn_language.specs.declared.scenario.Act.TheVariants.{Run}
use Rattle.pgn_language.specs.declared.scenario.ScriptLine.{ScriptLine}
use Rattle.pgn_language.specs.Inputs.{IsOneLine}
use Rattle.pgn_language.specs.Grammar.{reading}
use Rattle.pgn_language.proofs.GrammarLaws.{reading-reads}
use Rattle.pgn_queries.specs.declared.limits.TheConstants.{QUERIES_MAX}
use Rattle.pgn_queries.specs.declared.wire_fault.WireFault.TheVariants.{BadType, BadLength, Truncated, BadText, TooMany}
use Rattle.pgn_queries.specs.declared.coming.Coming.{Coming}
use Rattle.pgn_queries.specs.declared.coming.Coming.TheVariants.{End, Query, Fault}
use Rattle.pgn_queries.specs.Client as client
use Rattle.pgn_queries.specs.Client.{IsText, IsBody, IsNoBody, BodyIs, QueryIs, TerminateIs, NextIs}
use Rattle.pgn_queries.specs.Queries as queries
use Rattle.pgn_queries.specs.Queries.{Place, IsLineOf, AreTooMany, after_query}
use Rattle.pgn_queries.specs.Laws.{HasReading, EachHasReading}
use Rattle.pgn_queries.proofs.OneLaws.{fronts, not_query, terminate_asks_nothing}

-- a byte stands in a list, or not
holds_byte : (xs : List ℕ) (x : ℕ) → Contains xs x ⊎ (Contains xs x → ⊥)
holds_byte [] x = inr (λ c. absurd (omega (arith, c.1)))
holds_byte (y ∷ ys) x = elim (cases_Bool (y == x)) [
  | inl e ↦ inl (0, omega arith, eqb-true y x e)
  | inr e ↦ elim (holds_byte ys x) [
    | inl c ↦ inl (Contains-append_right (y ∷ []) ys x c)
    | inr n ↦ inr (λ c. n (Contains-tail y ys x (λ same. both_ways _ e (eq-eqb y x same)) c))
  ]
]

-- a text is one of a query, or not
holds_text : (text : List ℕ) → IsText text ⊎ (IsText text → ⊥)
holds_text text = elim (cases_Bool (is_utf8 text)) [
  | inl u ↦ elim (holds_byte text 0) [
    | inl c ↦ inr (λ t. t.no_nul c)
    | inr n ↦ inl (record { utf8 = IsUtf8-from_is_utf8 text u; no_nul = n })
  ]
  | inr u ↦ inr (λ t. both_ways _ u (is_utf8-from_IsUtf8 text t.utf8))
]

-- the last byte
record Ends (bytes : List ℕ) : Type 0 where
  front : List ℕ
  last : ℕ
  split : bytes ≡ front ++ last ∷ []

last_of : (x : ℕ) (xs : List ℕ) → Ends (x ∷ xs)
last_of x [] = record { front = []; last = x; split = refl }
last_of x (y ∷ ys) = let end = last_of y ys in record { front = x ∷ end.front; last = end.last; split = ap (λ (zs : List ℕ). x ∷ zs) end.split }

-- what ends alike begins alike, and ends by one byte
pub one_end : (text front : List ℕ) (x y : ℕ) → text ++ x ∷ [] ≡ front ++ y ∷ [] → (text ≡ front) × (x ∷ [] ≡ y ∷ [])
one_end text front x y e =
    let same : length (text ++ x ∷ []) ≡ length (front ++ y ∷ []) = ap length e in
    let long : length (text ++ x ∷ []) ≡ length text + 1 = length-append text (x ∷ []) in
    let wide : length (front ++ y ∷ []) ≡ length front + 1 = length-append front (y ∷ []) in
    fronts text front (x ∷ []) (y ∷ []) (omega arith) e

-- bytes are a query's body, or none
holds_body : (body : List ℕ) → 1 ≤ length body → IsBody body ⊎ IsNoBody body
holds_body [] some = absurd (omega arith)
holds_body (x ∷ xs) some =
    let end = last_of x xs in
    elim (cases_Bool (end.last == 0)) [
      | inl e ↦ elim (holds_text end.front) [
        | inl t ↦ inl (end.front, end.split ∙ ap (λ (b : ℕ). end.front ++ b ∷ []) (eqb-true end.last 0 e), t)
        | inr n ↦ inr (λ text same is. n (subst (λ (t : List ℕ). IsText t) (one_end text end.front 0 end.last (sym same ∙ end.split)).0 is))
      ]
      | inr e ↦ inr (λ text same is. both_ways _ e (eq-eqb end.last 0 (sym (ap (λ (l : List ℕ). get_or l 0 0) (one_end text end.front 0 end.last (sym same ∙ end.split)).1))))
    ]

-- a body of this size comes, or a fault
record BodyComes (at size : ℕ) (bytes : List ℕ) : Type 0 where
  coming : Coming
  text : List ℕ
  rest : List ℕ
  is : BodyIs at size coming text bytes rest
  less : coming ≡ Query → length rest ≤ length bytes

body_comes : (at size : ℕ) (bytes : List ℕ) → 1 ≤ size → BodyComes at size bytes
body_comes at size bytes some = elim (cases_lt (length bytes) size) [
  | inl few ↦ record { coming = Fault (Truncated at); text = []; rest = []; is = client.BodyIs.Cut bytes [] [] few; less = λ e. absurd (not_query (Truncated at) e) }
  | inr enough ↦
      let whole : bytes ≡ take size bytes ++ drop size bytes = sym (take-append-drop size bytes) in
      let len : length (take size bytes) ≡ size = length-take-le size bytes enough in
      let sizes : length bytes ≡ length (take size bytes) + length (drop size bytes) = ap length whole ∙ length-append (take size bytes) (drop size bytes) in
      elim (holds_body (take size bytes) (omega arith)) [
        | inl is ↦ record {
          coming = Query;
          text = is.0;
          rest = drop size bytes;
          is = client.BodyIs.Whole bytes is.0 (drop size bytes) (whole ∙ ap (λ (xs : List ℕ). xs ++ drop size bytes) is.1) (ap length (sym is.1) ∙ len) is.2;
          less = λ e. omega arith;
        }
        | inr none ↦ record {
          coming = Fault (BadText at);
          text = [];
          rest = [];
          is = client.BodyIs.Bad bytes (take size bytes) (drop size bytes) [] [] whole len none;
          less = λ e. absurd (not_query (BadText at) e);
        }
      ]
]

-- a query's length and body come, or a fault
record QueryComes (at : ℕ) (bytes : List ℕ) : Type 0 where
  coming : Coming
  text : List ℕ
  rest : List ℕ
  is : QueryIs at coming text bytes rest
  less : coming ≡ Query → length rest ≤ length bytes

bad_length : (at len : ℕ) (bytes head more : List ℕ) → bytes ≡ head ++ more → client.Tells head len → (client.IsQueryLength len → ⊥) → QueryComes at bytes
bad_length at len bytes head more whole tells wrong =
    record { coming = Fault (BadLength at); text = []; rest = []; is = client.QueryIs.BadHead bytes head more [] [] len whole tells wrong; less = λ e. absurd (not_query (BadLength at) e) }

query_comes : (at : ℕ) (bytes : List ℕ) → QueryComes at bytes
query_comes at bytes = elim (cases_lt (length bytes) 4) [
  | inl few ↦ record { coming = Fault (Truncated at); text = []; rest = []; is = client.QueryIs.CutHead bytes [] [] few; less = λ e. absurd (not_query (Truncated at) e) }
  | inr enough ↦
      let len : ℕ = from_be_bytes w32 (take 4 bytes) in
      let whole : bytes ≡ take 4 bytes ++ drop 4 bytes = sym (take-append-drop 4 bytes) in
      let four : length (take 4 bytes) ≡ 4 = length-take-le 4 bytes enough in
      let sizes : length bytes ≡ length (take 4 bytes) + length (drop 4 bytes) = ap length whole ∙ length-append (take 4 bytes) (drop 4 bytes) in
      elim (cases_lt len 5) [
        | inl small ↦ bad_length at len bytes (take 4 bytes) (drop 4 bytes) whole (record { four = four; value = refl }) (λ fits. let least : 5 ≤ len = fits.least in omega arith)
        | inr least ↦ elim (cases_lt 65541 len) [
          | inl great ↦ bad_length at len bytes (take 4 bytes) (drop 4 bytes) whole (record { four = four; value = refl }) (λ fits. let most : len ≤ 65541 = fits.most in omega arith)
          | inr most ↦
              let body = body_comes at (len - 4) (drop 4 bytes) (omega arith) in record {
                coming = body.coming;
                text = body.text;
                rest = body.rest;
                is = client.QueryIs.HasBody bytes (take 4 bytes) (drop 4 bytes) body.coming body.text body.rest len (len - 4) whole (record { four = four; value = refl }) (record { least = least; most = most })
                    (omega arith) body.is;
                less = λ e. let shorter : length body.rest ≤ length (drop 4 bytes) = body.less e in omega arith;
              }
        ]
      ]
]

-- a Terminate's length comes, or a fault
terminate_comes : (at : ℕ) (bytes : List ℕ) → (coming : Coming) × (rest : List ℕ) × TerminateIs at coming bytes rest
terminate_comes at bytes = elim (cases_lt (length bytes) 4) [
  | inl few ↦ (Fault (Truncated at), [], client.TerminateIs.CutHead bytes [] few)
  | inr enough ↦
      let len : ℕ = from_be_bytes w32 (take 4 bytes) in
      let whole : bytes ≡ take 4 bytes ++ drop 4 bytes = sym (take-append-drop 4 bytes) in
      let four : length (take 4 bytes) ≡ 4 = length-take-le 4 bytes enough in
      elim (cases_Bool (len == 4)) [
        | inl e ↦ (End, drop 4 bytes, client.TerminateIs.Whole bytes (take 4 bytes) (drop 4 bytes) whole (record { four = four; value = sym (eqb-true len 4 e) }))
        | inr e ↦ (Fault (BadLength at), [], client.TerminateIs.BadHead bytes (take 4 bytes) (drop 4 bytes) [] len whole (record { four = four; value = refl }) (λ same. both_ways _ e (eq-eqb len 4 same)))
      ]
]

-- a message comes, or the end, or a fault
pub record NextComes (at : ℕ) (bytes : List ℕ) : Type 0 where
  pub coming : Coming
  pub text : List ℕ
  pub rest : List ℕ
  pub is : NextIs at coming text bytes rest
  pub less : coming ≡ Query → length rest < length bytes

-- of any bytes something comes next, and it takes one of them at least, but for the end
pub next_comes : (at : ℕ) (bytes : List ℕ) → NextComes at bytes
next_comes at [] = record { coming = End; text = []; rest = []; is = client.NextIs.Ended [] [] refl; less = λ e. absurd (cc) }
next_comes at (letter ∷ more) = elim (cases_Bool (letter == 81)) [
  | inl e ↦
      let query = query_comes at more in record {
        coming = query.coming;
        text = query.text;
        rest = query.rest;
        is = client.NextIs.Asks (letter ∷ more) more query.coming query.text query.rest (ap (λ (l : ℕ). l ∷ more) (eqb-true letter 81 e)) query.is;
        less = λ asks. let shorter : length query.rest ≤ length more = query.less asks in omega arith;
      }
  | inr e ↦ elim (cases_Bool (letter == 88)) [
    | inl f ↦
        let end = terminate_comes at more in record {
          coming = end.0;
          text = [];
          rest = end.1;
          is = client.NextIs.Terminates (letter ∷ more) more end.0 [] end.1 (ap (λ (l : ℕ). l ∷ more) (eqb-true letter 88 f)) end.2;
          less = λ asks. absurd (terminate_asks_nothing at end.0 more end.1 end.2 asks);
        }
    | inr f ↦ record {
      coming = Fault (BadType at);
      text = [];
      rest = [];
      is = client.NextIs.NoType letter (letter ∷ more) more [] [] refl (λ same. both_ways _ e (eq-eqb letter 81 same)) (λ same. both_ways _ f (eq-eqb letter 88 same));
      less = λ asks. absurd (not_query (BadType at) asks);
    }
  ]
]

-- a text is one line, or has a first LF
record HasLf (text : List ℕ) : Type 0 where
  before : List ℕ
  rest : List ℕ
  split : text ≡ before ++ 10 ∷ rest
  one : IsOneLine before

no_lf : IsOneLine []
no_lf c = absurd (omega (arith, c.1))

first_lf : (text : List ℕ) → IsOneLine text ⊎ HasLf text
first_lf [] = inl no_lf
first_lf (x ∷ xs) = elim (cases_Bool (x == 10)) [
  | inl e ↦ inr (record { before = []; rest = xs; split = ap (λ (b : ℕ). b ∷ xs) (eqb-true x 10 e); one = no_lf })
  | inr e ↦
      let further : (ys : List ℕ) → IsOneLine ys → IsOneLine (x ∷ ys) = λ ys one c. one (Contains-tail x ys 10 (λ same. both_ways _ e (eq-eqb x 10 same)) c) in
      elim (first_lf xs) [
        | inl one ↦ inl (further xs one)
        | inr lf ↦ inr (record { before = x ∷ lf.before; rest = lf.rest; split = ap (λ (ys : List ℕ). x ∷ ys) lf.split; one = further lf.before lf.one })
      ]
]

-- a text has a line
pub has_line : (number : ℕ) (text : List ℕ) → (line : ScriptLine) × IsLineOf number text line
has_line number text = elim (first_lf text) [
  | inl one ↦ (record { line = number; text = text; act = Run (reading text) }, queries.IsLineOf.OneLine text (reading text) one (reading-reads text))
  | inr lf ↦ (record { line = number; text = []; act = Run (Bad (length lf.before)) }, queries.IsLineOf.Lines text lf.before lf.rest lf.split lf.one)
]

-- there are too many queries, or not
pub counts : (place : Place) → AreTooMany place ⊎ (AreTooMany place → ⊥)
counts place = elim (cases_lt QUERIES_MAX place.queries) [
  | inl many ↦ inl (inl many)
  | inr few ↦ elim (cases_lt place.most place.notes) [
    | inl many ↦ inl (inr many)
    | inr less ↦ inr (λ many. elim many [ inl more ↦ absurd (omega arith) | inr more ↦ absurd (omega arith) ])
  ]
]

-- a reading by what comes next
by_next : (place : Place) (bytes : List ℕ) (coming : Coming) (text rest : List ℕ) → NextIs place.at coming text bytes rest → (coming ≡ Query → (after : Place) → HasReading after rest) → HasReading place bytes
by_next place bytes End text rest is more = ([], None, queries.QueriesAre.Ends place bytes text rest is)
by_next place bytes (Fault fault) text rest is more = ([], Some fault, queries.QueriesAre.Fails place bytes text rest fault is)
by_next place bytes Query text rest is more =
    let line = has_line (place.queries + 1) text in
    let after : Place = after_query place (length text) line.0.act in
    elim (counts after) [
      | inl many ↦ ([], Some (TooMany place.at), queries.QueriesAre.Exceeds place bytes text rest line.0 is line.1 many)
      | inr few ↦ let others = more refl after in (line.0 ∷ others.0, others.1, queries.QueriesAre.Goes place bytes text rest line.0 others.0 others.1 is line.1 few others.2)
    ]

-- bytes that are fewer than this number have one
fewer : (size : ℕ) (place : Place) (bytes : List ℕ) → length bytes < size → HasReading place bytes
fewer zero place bytes few = absurd (omega arith)
fewer (suc size) place bytes few =
    let next = next_comes place.at bytes in
    by_next place bytes next.coming next.text next.rest next.is (λ asks after. fewer size after next.rest (let shorter : length next.rest < length bytes = next.less asks in omega arith))

-- any bytes have a reading, from any place on
pub each_has_reading : EachHasReading
each_has_reading place bytes = fewer (suc (length bytes)) place bytes (omega arith)
