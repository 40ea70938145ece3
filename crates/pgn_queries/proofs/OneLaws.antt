-- Bytes have one reading.
use Rattle.std.proofs.Common.{◌≡◌, ℕ, suc, ◌+◌, ◌<◌, List, [], ◌∷◌, ◌++◌, length, take, drop, get_or, Contains, Option, Some, sym, ap, ◌∙◌, subst, refl, arith}
use Rattle.std.specs.Int.{w32, from_be_bytes}
use lib.Seq.{take-append_seam, drop-append_seam}
use Rattle.std.proofs.lemmas.List.{length-append, append_cancel_right}
use Rattle.std.proofs.lemmas.List.Elements.{Contains-append_right}
use Rattle.pgn_base.specs.declared.command.Command.{Command}
use Rattle.pgn_base.specs.declared.command.Command.TheVariants.{Bad}
use Rattle.pgn_language.specs.declared.scenario.Act.TheVariants.{Run}
use Rattle.pgn_language.specs.declared.scenario.ScriptLine.{ScriptLine}
use Rattle.pgn_language.specs.Inputs.{IsOneLine}
use Rattle.pgn_language.proofs.GrammarLaws.{reads-computes}
use Rattle.pgn_queries.specs.declared.wire_fault.WireFault.{WireFault}
use Rattle.pgn_queries.specs.declared.wire_fault.WireFault.TheVariants.{BadType, BadLength, Truncated, BadText}
use Rattle.pgn_queries.specs.declared.coming.Coming.{Coming}
use Rattle.pgn_queries.specs.declared.coming.Coming.TheVariants.{End, Query, Fault}
use Rattle.pgn_queries.specs.Client as client
use Rattle.pgn_queries.specs.Client.{Tells, IsQueryLength, BodyIs, QueryIs, TerminateIs, NextIs, body_of}
use Rattle.pgn_queries.specs.Queries as queries
use Rattle.pgn_queries.specs.Queries.{Place, IsLineOf, AreTooMany, QueriesAre, after_query}
use Rattle.pgn_queries.specs.Laws.{OneReading}

-- fronts of one length are the same, and so is what is behind them
pub fronts : (front other behind more : List ℕ) → length front ≡ length other → front ++ behind ≡ other ++ more → (front ≡ other) × (behind ≡ more)
fronts front other behind more len e = (
  sym (take-append_seam front behind) ∙ ap (λ (xs : List ℕ). take (length front) xs) e ∙ ap (λ (n : ℕ). take n (other ++ more)) len ∙ take-append_seam other more,
  sym (drop-append_seam front behind) ∙ ap (λ (xs : List ℕ). drop (length front) xs) e ∙ ap (λ (n : ℕ). drop n (other ++ more)) len ∙ drop-append_seam other more,
)

-- bytes tell one length
lengths : (bytes head other behind more : List ℕ) (len size : ℕ) → bytes ≡ head ++ behind → bytes ≡ other ++ more → Tells head len → Tells other size → (len ≡ size) × (behind ≡ more)
lengths bytes head other behind more len size e f tells told =
    let parts = fronts head other behind more (tells.four ∙ sym told.four) (sym e ∙ f) in
    (tells.value ∙ ap (from_be_bytes w32) parts.0 ∙ sym told.value, parts.1)

-- fewer bytes tell none
too_short : (bytes head behind : List ℕ) (len : ℕ) → bytes ≡ head ++ behind → Tells head len → length bytes < 4 → ⊥
too_short bytes head behind len e tells few =
    let long : length bytes ≡ length head + length behind = ap length e ∙ length-append head behind in
    let four : length head ≡ 4 = tells.four in
    omega arith

-- what comes is the same, and so are a query's text and what is behind it
pub record Same (coming other : Coming) (text words rest more : List ℕ) : Type 0 where
  pub first : coming ≡ other
  pub texts : coming ≡ Query → text ≡ words
  pub rests : coming ≡ Query → rest ≡ more

-- a fault is no query
pub not_query : (fault : WireFault) → Fault fault ≡ Query → ⊥
not_query fault e = cc

faulty : (fault : WireFault) (text words rest more : List ℕ) → Same (Fault fault) (Fault fault) text words rest more
faulty fault text words rest more = record { first = refl; texts = λ e. absurd (not_query fault e); rests = λ e. absurd (not_query fault e) }

terminate_one : (at : ℕ) (coming other : Coming) (bytes rest more : List ℕ) → TerminateIs at coming bytes rest → TerminateIs at other bytes more → coming ≡ other
terminate_one at _ _ bytes _ _ (client.TerminateIs.CutHead _ r few) (client.TerminateIs.CutHead _ s less) = refl
terminate_one at _ _ bytes _ _ (client.TerminateIs.CutHead _ r few) (client.TerminateIs.BadHead _ head behind s len e tells wrong) = absurd (too_short bytes head behind len e tells few)
terminate_one at _ _ bytes _ _ (client.TerminateIs.CutHead _ r few) (client.TerminateIs.Whole _ head s e tells) = absurd (too_short bytes head s 4 e tells few)
terminate_one at _ _ bytes _ _ (client.TerminateIs.BadHead _ head behind r len e tells wrong) (client.TerminateIs.CutHead _ s few) = absurd (too_short bytes head behind len e tells few)
terminate_one at _ _ bytes _ _ (client.TerminateIs.BadHead _ head behind r len e tells wrong) (client.TerminateIs.BadHead _ front after s size f told bad) = refl
terminate_one at _ _ bytes _ _ (client.TerminateIs.BadHead _ head behind r len e tells wrong) (client.TerminateIs.Whole _ front s f told) =
    absurd (wrong (lengths bytes head front behind s len 4 e f tells told).0)
terminate_one at _ _ bytes _ _ (client.TerminateIs.Whole _ head r e tells) (client.TerminateIs.CutHead _ s few) = absurd (too_short bytes head r 4 e tells few)
terminate_one at _ _ bytes _ _ (client.TerminateIs.Whole _ head r e tells) (client.TerminateIs.BadHead _ front after s size f told bad) =
    absurd (bad (lengths bytes front head after r size 4 f e told tells).0)
terminate_one at _ _ bytes _ _ (client.TerminateIs.Whole _ head r e tells) (client.TerminateIs.Whole _ front s f told) = refl

-- a message that begins as a Terminate is no query
pub terminate_asks_nothing : (at : ℕ) (coming : Coming) (bytes rest : List ℕ) → TerminateIs at coming bytes rest → coming ≡ Query → ⊥
terminate_asks_nothing at _ bytes _ (client.TerminateIs.CutHead _ r few) e = cc
terminate_asks_nothing at _ bytes _ (client.TerminateIs.BadHead _ head behind r len f tells wrong) e = cc
terminate_asks_nothing at _ bytes _ (client.TerminateIs.Whole _ head r f tells) e = cc

-- bytes of a body's size, and more
long_enough : (bytes body behind : List ℕ) (size : ℕ) → bytes ≡ body ++ behind → length body ≡ size → length bytes < size → ⊥
long_enough bytes body behind size e len few =
    let long : length bytes ≡ length body + length behind = ap length e ∙ length-append body behind in
    omega arith

body_one : (at size : ℕ) (coming other : Coming) (text words bytes rest more : List ℕ) → BodyIs at size coming text bytes rest → BodyIs at size other words bytes more → Same coming other text words rest more
body_one at size _ _ _ _ bytes _ _ (client.BodyIs.Cut _ t r few) (client.BodyIs.Cut _ u s less) = faulty (Truncated at) t u r s
body_one at size _ _ _ _ bytes _ _ (client.BodyIs.Cut _ t r few) (client.BodyIs.Bad _ body behind u s e len none) = absurd (long_enough bytes body behind size e len few)
body_one at size _ _ _ _ bytes _ _ (client.BodyIs.Cut _ t r few) (client.BodyIs.Whole _ u s e len sound) = absurd (long_enough bytes (body_of u) s size e len few)
body_one at size _ _ _ _ bytes _ _ (client.BodyIs.Bad _ body behind t r e len none) (client.BodyIs.Cut _ u s few) = absurd (long_enough bytes body behind size e len few)
body_one at size _ _ _ _ bytes _ _ (client.BodyIs.Bad _ body behind t r e len none) (client.BodyIs.Bad _ front after u s f same bad) = faulty (BadText at) t u r s
body_one at size _ _ _ _ bytes _ _ (client.BodyIs.Bad _ body behind t r e len none) (client.BodyIs.Whole _ u s f same sound) =
    absurd (none u (fronts body (body_of u) behind s (len ∙ sym same) (sym e ∙ f)).0 sound)
body_one at size _ _ _ _ bytes _ _ (client.BodyIs.Whole _ t r e len sound) (client.BodyIs.Cut _ u s few) = absurd (long_enough bytes (body_of t) r size e len few)
body_one at size _ _ _ _ bytes _ _ (client.BodyIs.Whole _ t r e len sound) (client.BodyIs.Bad _ body behind u s f same none) =
    absurd (none t (fronts body (body_of t) behind r (same ∙ sym len) (sym f ∙ e)).0 sound)
body_one at size _ _ _ _ bytes _ _ (client.BodyIs.Whole _ t r e len sound) (client.BodyIs.Whole _ u s f same other) =
    let parts = fronts (body_of t) (body_of u) r s (len ∙ sym same) (sym e ∙ f) in
    record { first = refl; texts = λ q. append_cancel_right t u (0 ∷ []) parts.0; rests = λ q. parts.1 }

query_one : (at : ℕ) (coming other : Coming) (text words bytes rest more : List ℕ) → QueryIs at coming text bytes rest → QueryIs at other words bytes more → Same coming other text words rest more
query_one at _ _ _ _ bytes _ _ (client.QueryIs.CutHead _ t r few) (client.QueryIs.CutHead _ u s less) = faulty (Truncated at) t u r s
query_one at _ _ _ _ bytes _ _ (client.QueryIs.CutHead _ t r few) (client.QueryIs.BadHead _ head behind u s len e tells wrong) = absurd (too_short bytes head behind len e tells few)
query_one at _ _ _ _ bytes _ _ (client.QueryIs.CutHead _ t r few) (client.QueryIs.HasBody _ head behind c u s len size e tells fits sized body) = absurd (too_short bytes head behind len e tells few)
query_one at _ _ _ _ bytes _ _ (client.QueryIs.BadHead _ head behind t r len e tells wrong) (client.QueryIs.CutHead _ u s few) = absurd (too_short bytes head behind len e tells few)
query_one at _ _ _ _ bytes _ _ (client.QueryIs.BadHead _ head behind t r len e tells wrong) (client.QueryIs.BadHead _ front after u s long f told bad) = faulty (BadLength at) t u r s
query_one at _ _ _ _ bytes _ _ (client.QueryIs.BadHead _ head behind t r len e tells wrong) (client.QueryIs.HasBody _ front after c u s long size f told fits sized body) =
    absurd (wrong (subst (λ (n : ℕ). IsQueryLength n) (lengths bytes front head after behind long len f e told tells).0 fits))
query_one at _ _ _ _ bytes _ _ (client.QueryIs.HasBody _ head behind c t r len size e tells fits sized body) (client.QueryIs.CutHead _ u s few) = absurd (too_short bytes head behind len e tells few)
query_one at _ _ _ _ bytes _ _ (client.QueryIs.HasBody _ head behind c t r len size e tells fits sized body) (client.QueryIs.BadHead _ front after u s long f told bad) =
    absurd (bad (subst (λ (n : ℕ). IsQueryLength n) (lengths bytes head front behind after len long e f tells told).0 fits))
query_one at _ _ _ _ bytes _ _ (client.QueryIs.HasBody _ head behind c t r len size e tells fits sized body) (client.QueryIs.HasBody _ front after d u s long big f told fit sizes inner) =
    let parts = lengths bytes head front behind after len long e f tells told in
    let one : len ≡ long = parts.0 in
    let same : big ≡ size = omega arith in
    body_one at size c d t u behind r s body (subst (λ (xs : List ℕ). BodyIs at size d u xs s) (sym parts.1) (subst (λ (n : ℕ). BodyIs at n d u after s) same inner))

-- lists that begin alike
first_of : (x y : ℕ) (xs ys zs : List ℕ) → zs ≡ x ∷ xs → zs ≡ y ∷ ys → (x ≡ y) × (xs ≡ ys)
first_of x y xs ys zs e f = let parts = fronts (x ∷ []) (y ∷ []) xs ys refl (sym e ∙ f) in (ap (λ (l : List ℕ). get_or l 0 0) parts.0, parts.1)

no_first : (x : ℕ) (xs zs : List ℕ) → zs ≡ [] → zs ≡ x ∷ xs → ⊥
no_first x xs zs e f = let len : 0 ≡ suc (length xs) = ap length (sym e ∙ f) in omega arith

letters_differ : (x : ℕ) → x ≡ 88 → x ≡ 81 → ⊥
letters_differ x e f = omega arith

-- of the same bytes one thing comes next, with one text and one rest
pub next_one : (at : ℕ) (coming other : Coming) (text words bytes rest more : List ℕ) → NextIs at coming text bytes rest → NextIs at other words bytes more → Same coming other text words rest more
next_one at _ _ _ _ bytes _ _ (client.NextIs.Ended _ t e) (client.NextIs.Ended _ u f) = record { first = refl; texts = λ q. absurd (cc); rests = λ q. refl }
next_one at _ _ _ _ bytes _ _ (client.NextIs.Ended _ t e) (client.NextIs.NoType letter _ behind u s f q x) = absurd (no_first letter behind bytes e f)
next_one at _ _ _ _ bytes _ _ (client.NextIs.Ended _ t e) (client.NextIs.Terminates _ behind c u s f is) = absurd (no_first 88 behind bytes e f)
next_one at _ _ _ _ bytes _ _ (client.NextIs.Ended _ t e) (client.NextIs.Asks _ behind c u s f is) = absurd (no_first 81 behind bytes e f)
next_one at _ _ _ _ bytes _ _ (client.NextIs.NoType letter _ behind t r e q x) (client.NextIs.Ended _ u f) = absurd (no_first letter behind bytes f e)
next_one at _ _ _ _ bytes _ _ (client.NextIs.NoType letter _ behind t r e q x) (client.NextIs.NoType sign _ after u s f p y) = faulty (BadType at) t u r s
next_one at _ _ _ _ bytes _ _ (client.NextIs.NoType letter _ behind t r e q x) (client.NextIs.Terminates _ after c u s f is) = absurd (x (first_of letter 88 behind after bytes e f).0)
next_one at _ _ _ _ bytes _ _ (client.NextIs.NoType letter _ behind t r e q x) (client.NextIs.Asks _ after c u s f is) = absurd (q (first_of letter 81 behind after bytes e f).0)
next_one at _ _ _ _ bytes _ _ (client.NextIs.Terminates _ behind c t r e is) (client.NextIs.Ended _ u f) = absurd (no_first 88 behind bytes f e)
next_one at _ _ _ _ bytes _ _ (client.NextIs.Terminates _ behind c t r e is) (client.NextIs.NoType sign _ after u s f p y) = absurd (y (first_of sign 88 after behind bytes f e).0)
next_one at _ _ _ _ bytes _ _ (client.NextIs.Terminates _ behind c t r e is) (client.NextIs.Terminates _ after d u s f so) =
    let parts = first_of 88 88 behind after bytes e f in record {
      first = terminate_one at c d behind r s is (subst (λ (xs : List ℕ). TerminateIs at d xs s) (sym parts.1) so);
      texts = λ q. absurd (terminate_asks_nothing at c behind r is q);
      rests = λ q. absurd (terminate_asks_nothing at c behind r is q);
    }
next_one at _ _ _ _ bytes _ _ (client.NextIs.Terminates _ behind c t r e is) (client.NextIs.Asks _ after d u s f so) =
    absurd (letters_differ 88 refl (first_of 88 81 behind after bytes e f).0)
next_one at _ _ _ _ bytes _ _ (client.NextIs.Asks _ behind c t r e is) (client.NextIs.Ended _ u f) = absurd (no_first 81 behind bytes f e)
next_one at _ _ _ _ bytes _ _ (client.NextIs.Asks _ behind c t r e is) (client.NextIs.NoType sign _ after u s f p y) = absurd (p (first_of sign 81 after behind bytes f e).0)
next_one at _ _ _ _ bytes _ _ (client.NextIs.Asks _ behind c t r e is) (client.NextIs.Terminates _ after d u s f so) =
    absurd (letters_differ 88 refl (sym (first_of 81 88 behind after bytes e f).0))
next_one at _ _ _ _ bytes _ _ (client.NextIs.Asks _ behind c t r e is) (client.NextIs.Asks _ after d u s f so) =
    let parts = first_of 81 81 behind after bytes e f in
    query_one at c d t u behind r s is (subst (λ (xs : List ℕ). QueryIs at d u xs s) (sym parts.1) so)

-- a list without its first byte has no LF either
behind_first : (x : ℕ) (xs : List ℕ) → IsOneLine (x ∷ xs) → IsOneLine xs
behind_first x xs one c = one (Contains-append_right (x ∷ []) xs 10 c)

-- what stands before the first LF
before_lf : (front other rest more : List ℕ) → IsOneLine front → IsOneLine other → front ++ 10 ∷ rest ≡ other ++ 10 ∷ more → front ≡ other
before_lf [] [] rest more one same e = refl
before_lf [] (y ∷ ys) rest more one same e = absurd (same (0, omega arith, sym (first_of 10 y rest (ys ++ 10 ∷ more) (10 ∷ rest) refl e).0))
before_lf (x ∷ xs) [] rest more one same e = absurd (one (0, omega arith, (first_of x 10 (xs ++ 10 ∷ rest) more (x ∷ (xs ++ 10 ∷ rest)) refl e).0))
before_lf (x ∷ xs) (y ∷ ys) rest more one same e =
    let parts = first_of x y (xs ++ 10 ∷ rest) (ys ++ 10 ∷ more) (x ∷ (xs ++ 10 ∷ rest)) refl e in
    ap (λ (h : ℕ). h ∷ xs) parts.0 ∙ ap (λ (t : List ℕ). y ∷ t) (before_lf xs ys rest more (behind_first x xs one) (behind_first y ys same) parts.1)

-- an LF stands in the text
has_lf : (text front rest : List ℕ) → text ≡ front ++ 10 ∷ rest → IsOneLine text → ⊥
has_lf text front rest e one = one (subst (λ (t : List ℕ). Contains t 10) (sym e) (Contains-append_right front (10 ∷ rest) 10 (0, omega arith, refl)))

line_one : (number : ℕ) (text : List ℕ) (line other : ScriptLine) → IsLineOf number text line → IsLineOf number text other → line ≡ other
line_one number text _ _ (queries.IsLineOf.OneLine _ command one reads) (queries.IsLineOf.OneLine _ same two read) =
    ap (λ (c : Command). let l : ScriptLine = record { line = number; text = text; act = Run c } in l) (sym (reads-computes text command reads) ∙ reads-computes text same read)
line_one number text _ _ (queries.IsLineOf.OneLine _ command one reads) (queries.IsLineOf.Lines _ front rest e clean) = absurd (has_lf text front rest e one)
line_one number text _ _ (queries.IsLineOf.Lines _ front rest e clean) (queries.IsLineOf.OneLine _ command one reads) = absurd (has_lf text front rest e one)
line_one number text _ _ (queries.IsLineOf.Lines _ front rest e clean) (queries.IsLineOf.Lines _ other more f tidy) =
    ap (λ (t : List ℕ). let l : ScriptLine = record { line = number; text = []; act = Run (Bad (length t)) } in l) (before_lf front other rest more clean tidy (sym e ∙ f))

-- with the next query there are too many, by the one reading and by the other
pub same_place : (place : Place) (bytes text words rest more : List ℕ) (line other : ScriptLine) → NextIs place.at Query text bytes rest → NextIs place.at Query words bytes more
    → IsLineOf (place.queries + 1) text line → IsLineOf (place.queries + 1) words other → (text ≡ words) × (rest ≡ more) × (line ≡ other)
same_place place bytes text words rest more line other next coming is so =
    let one = next_one place.at Query Query text words bytes rest more next coming in
    (one.texts refl, one.rests refl, line_one (place.queries + 1) text line other is (subst (λ (t : List ℕ). IsLineOf (place.queries + 1) t other) (sym (one.texts refl)) so))

pub same_after : (place : Place) (text words : List ℕ) (line other : ScriptLine) → text ≡ words → line ≡ other → after_query place (length text) line.act ≡ after_query place (length words) other.act
same_after place text words line other e f = ap (λ (t : List ℕ). after_query place (length t) line.act) e ∙ ap (λ (l : ScriptLine). after_query place (length words) l.act) f

-- two readings are the same
reading_one : (place : Place) (bytes : List ℕ) (lines others : List ScriptLine) (fault error : Option WireFault) → QueriesAre place bytes lines fault → QueriesAre place bytes others error → (lines ≡ others) × (fault ≡ error)
reading_one place bytes _ _ _ _ (queries.QueriesAre.Ends _ _ t r n) (queries.QueriesAre.Ends _ _ u s m) = (refl, refl)
reading_one place bytes _ _ _ _ (queries.QueriesAre.Ends _ _ t r n) (queries.QueriesAre.Fails _ _ u s f m) = let e = (next_one place.at End (Fault f) t u bytes r s n m).first in absurd (cc)
reading_one place bytes _ _ _ _ (queries.QueriesAre.Ends _ _ t r n) (queries.QueriesAre.Exceeds _ _ u s line m is many) = let e = (next_one place.at End Query t u bytes r s n m).first in absurd (cc)
reading_one place bytes _ _ _ _ (queries.QueriesAre.Ends _ _ t r n) (queries.QueriesAre.Goes _ _ u s line lines f m is few more) = let e = (next_one place.at End Query t u bytes r s n m).first in absurd (cc)
reading_one place bytes _ _ _ _ (queries.QueriesAre.Fails _ _ t r f n) (queries.QueriesAre.Ends _ _ u s m) = let e = (next_one place.at (Fault f) End t u bytes r s n m).first in absurd (cc)
reading_one place bytes _ _ _ _ (queries.QueriesAre.Fails _ _ t r f n) (queries.QueriesAre.Fails _ _ u s g m) =
    let e : Fault f ≡ Fault g = (next_one place.at (Fault f) (Fault g) t u bytes r s n m).first in
    let same : f ≡ g = cc in
    (refl, ap (λ (x : WireFault). let o : Option WireFault = Some x in o) same)
reading_one place bytes _ _ _ _ (queries.QueriesAre.Fails _ _ t r f n) (queries.QueriesAre.Exceeds _ _ u s line m is many) = let e = (next_one place.at (Fault f) Query t u bytes r s n m).first in absurd (cc)
reading_one place bytes _ _ _ _ (queries.QueriesAre.Fails _ _ t r f n) (queries.QueriesAre.Goes _ _ u s line lines g m is few more) = let e = (next_one place.at (Fault f) Query t u bytes r s n m).first in absurd (cc)
reading_one place bytes _ _ _ _ (queries.QueriesAre.Exceeds _ _ t r line n is many) (queries.QueriesAre.Ends _ _ u s m) = let e = (next_one place.at Query End t u bytes r s n m).first in absurd (cc)
reading_one place bytes _ _ _ _ (queries.QueriesAre.Exceeds _ _ t r line n is many) (queries.QueriesAre.Fails _ _ u s g m) = let e = (next_one place.at Query (Fault g) t u bytes r s n m).first in absurd (cc)
reading_one place bytes _ _ _ _ (queries.QueriesAre.Exceeds _ _ t r line n is many) (queries.QueriesAre.Exceeds _ _ u s other m so big) = (refl, refl)
reading_one place bytes _ _ _ _ (queries.QueriesAre.Exceeds _ _ t r line n is many) (queries.QueriesAre.Goes _ _ u s other lines g m so few more) =
    let one = same_place place bytes t u r s line other n m is so in
    absurd (few (subst (λ (p : Place). AreTooMany p) (same_after place t u line other one.0 one.2) many))
reading_one place bytes _ _ _ _ (queries.QueriesAre.Goes _ _ t r line lines f n is few rest) (queries.QueriesAre.Ends _ _ u s m) = let e = (next_one place.at Query End t u bytes r s n m).first in absurd (cc)
reading_one place bytes _ _ _ _ (queries.QueriesAre.Goes _ _ t r line lines f n is few rest) (queries.QueriesAre.Fails _ _ u s g m) = let e = (next_one place.at Query (Fault g) t u bytes r s n m).first in absurd (cc)
reading_one place bytes _ _ _ _ (queries.QueriesAre.Goes _ _ t r line lines f n is few rest) (queries.QueriesAre.Exceeds _ _ u s other m so many) =
    let one = same_place place bytes t u r s line other n m is so in
    absurd (few (subst (λ (p : Place). AreTooMany p) (sym (same_after place t u line other one.0 one.2)) many))
reading_one place bytes _ _ _ _ (queries.QueriesAre.Goes _ _ t r line lines f n is few rest) (queries.QueriesAre.Goes _ _ u s other others g m so less more) =
    let one = same_place place bytes t u r s line other n m is so in
    let whole = reading_one (after_query place (length t) line.act) r lines others f g rest
    (subst (λ (p : Place). QueriesAre p r others g) (sym (same_after place t u line other one.0 one.2)) (subst (λ (xs : List ℕ). QueriesAre (after_query place (length u) other.act) xs others g) (sym one.1) more)) in
    (ap (λ (l : ScriptLine). l ∷ lines) one.2 ∙ ap (λ (ls : List ScriptLine). other ∷ ls) whole.0, whole.1)

-- bytes have one reading
pub one_reading : OneReading
one_reading = reading_one
