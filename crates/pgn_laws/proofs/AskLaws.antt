-- A seat is asked something by its signs, and one thing.
use Rattle.std.proofs.Common.{◌≡◌, ℕ, zero, suc, ◌+◌, ◌<◌, ◌≤◌, ◌⊎◌, Bool, true, false, cond, List, [], ◌∷◌, ◌++◌, length, drop, get_or, Option, Some, None, sym, ap, ◌∙◌, subst, refl, arith, inl, inr}
use Rattle.std.specs.Prelude.{map}
use Rattle.std.specs.Int.{w32, from_be_bytes}
use Rattle.std.proofs.lemmas.Bool.{false≢true}
use Rattle.std.proofs.lemmas.List.{length-append}
use Rattle.pgn_queries.specs.declared.wire_fault.WireFault.TheVariants.{BadLength, BadText, BadType, TooMany, Truncated}
use Rattle.pgn_queries.specs.declared.coming.Coming.{Coming}
use Rattle.pgn_queries.specs.declared.coming.Coming.TheVariants as coming
use Rattle.pgn_queries.specs.declared.coming.Coming.TheVariants.{Fault}
use Rattle.pgn_queries.specs.Client as client
use Rattle.pgn_queries.specs.Client.{BodyIs, IsQueryLength, NextIs, QueryIs, Tells}
use Rattle.pgn_queries.proofs.OneLaws.{fronts, next_one}
use Rattle.pgn_requests.specs.Reading.{RequestIs}
use Rattle.pgn_requests.proofs.RequestLaws.{one_request}
use Rattle.pgn_messages.specs.declared.asked.Ask.{Ask}
use Rattle.pgn_messages.specs.declared.asked.Ask.TheVariants as ask
use Rattle.pgn_messages.specs.declared.asked.Parting.TheVariants.{Refused, Extended, Spent}
use Rattle.pgn_frames.specs.Clients as clients
use Rattle.pgn_frames.specs.Clients.{AreTooMany, AskIs, ClientAsks, Close, Open, Left, Cut, Wrong, QueryNext, SeatAsks, Tally, after_ask, asked_as, begins_extended, is_extended, last_end, next_client, next_line, parting_of}
use Rattle.pgn_frames.specs.Laws.{OneAsking}
use Rattle.pgn_frames.proofs.MoreLaws.{some_byte}
use Rattle.pgn_frames.proofs.AskLaws.{query_less}

-- bytes have one Query at their front
query_one : (bytes body other rest more : List ℕ) → QueryNext bytes body rest → QueryNext bytes other more → (body ≡ other) × (rest ≡ more)
query_one bytes body other rest more q r =
    let four : length q.head ≡ 4 = q.tells.four in
    let as_many : length r.head ≡ 4 = r.tells.four in
    let heads = fronts (81 ∷ q.head) (81 ∷ r.head) (body ++ rest) (other ++ more) (omega arith) (sym q.split ∙ r.split) in
    let head : q.head ≡ r.head = ap (λ (l : List ℕ). drop 1 l) heads.0 in
    let len : q.len ≡ r.len = q.tells.value ∙ ap (from_be_bytes w32) head ∙ sym r.tells.value in
    let size : q.len ≡ 4 + length body = q.size in
    let as_long : r.len ≡ 4 + length other = r.size in
    fronts body other rest more (omega arith) heads.1

-- what comes is no Query, also none whose body is garbled
abbrev IsOther : Coming → Type 0
IsOther coming.End = Unit {0}
IsOther coming.Query = ⊥
IsOther (Fault (BadText at)) = ⊥
IsOther (Fault (BadType at)) = Unit {0}
IsOther (Fault (BadLength at)) = Unit {0}
IsOther (Fault (Truncated at)) = Unit {0}
IsOther (Fault (TooMany at)) = Unit {0}

body_other : (size : ℕ) (next : Coming) (text bytes rest : List ℕ) → size ≤ length bytes → BodyIs 0 size next text bytes rest → IsOther next → ⊥
body_other size _ _ bytes _ enough (client.BodyIs.Cut _ t r few) other = omega arith
body_other size _ _ bytes _ enough (client.BodyIs.Bad _ body more t r e len none) other = other
body_other size _ _ bytes _ enough (client.BodyIs.Whole _ t r e len sound) other = other

query_other : (next : Coming) (text bytes head body rest after : List ℕ) (len : ℕ) → bytes ≡ head ++ (body ++ rest) → Tells head len → IsQueryLength len → len ≡ 4 + length body
    → QueryIs 0 next text bytes after → IsOther next → ⊥
query_other _ _ bytes head body rest _ len e tells may size (client.QueryIs.CutHead _ t r few) other =
    let four : length head ≡ 4 = tells.four in
    omega (arith, ap length e, length-append head (body ++ rest))
query_other _ _ bytes head body rest _ len e tells may size (client.QueryIs.BadHead _ front m t r long f told wrong) other =
    let heads = fronts head front (body ++ rest) m (tells.four ∙ sym told.four) (sym e ∙ f) in
    let same : len ≡ long = tells.value ∙ ap (from_be_bytes w32) heads.0 ∙ sym told.value in
    wrong (subst (λ (n : ℕ). IsQueryLength n) same may)
query_other _ _ bytes head body rest _ len e tells may size (client.QueryIs.HasBody _ front m c t r long big f told fits sized inner) other =
    let heads = fronts head front (body ++ rest) m (tells.four ∙ sym told.four) (sym e ∙ f) in
    let same : len ≡ long = tells.value ∙ ap (from_be_bytes w32) heads.0 ∙ sym told.value in
    let whole : length m ≡ length body + length rest = ap length (sym heads.1) ∙ length-append body rest in
    body_other big c t m r (omega arith) inner other

letters_differ : (letter : ℕ) → letter ≡ 81 → letter ≡ 88 → ⊥
letters_differ letter e f = omega arith

-- where a Query stands, nothing else comes
no_other : (next : Coming) (text bytes body rest after : List ℕ) → QueryNext bytes body rest → NextIs 0 next text bytes after → IsOther next → ⊥
no_other _ _ bytes body rest _ q (client.NextIs.Ended _ t e) other = let both : 81 ∷ (q.head ++ (body ++ rest)) ≡ [] = sym q.split ∙ e in cc
no_other _ _ bytes body rest _ q (client.NextIs.NoType letter _ m t r e no_query no_terminate) other =
    let both : 81 ∷ (q.head ++ (body ++ rest)) ≡ letter ∷ m = sym q.split ∙ e in
    no_query (let same : letter ≡ 81 = cc in same)
no_other _ _ bytes body rest _ q (client.NextIs.Terminates _ m c t r e is) other =
    let both : 81 ∷ (q.head ++ (body ++ rest)) ≡ 88 ∷ m = sym q.split ∙ e in
    letters_differ 81 refl (ap (λ (l : List ℕ). get_or l 0 0) both)
no_other _ _ bytes body rest _ q (client.NextIs.Asks _ m c t r e is) other =
    let both : 81 ∷ m ≡ 81 ∷ (q.head ++ (body ++ rest)) = sym e ∙ q.split in
    query_other c t m q.head body rest r q.len (let same : m ≡ q.head ++ (body ++ rest) = cc in same) q.tells q.may q.size is other

-- how bytes end, where what comes first is no Query
abbrev closed_by : List ℕ → Coming → Close
closed_by [] next = Open
closed_by (x ∷ bytes) coming.End = Left
closed_by (x ∷ bytes) coming.Query = Open
closed_by (x ∷ bytes) (Fault (Truncated at)) = Cut
closed_by (x ∷ bytes) (Fault (BadType at)) = cond (is_extended x) (Wrong Extended) (Wrong Refused)
closed_by (x ∷ bytes) (Fault (BadLength at)) = Wrong Refused
closed_by (x ∷ bytes) (Fault (BadText at)) = Open
closed_by (x ∷ bytes) (Fault (TooMany at)) = Open

cut_by : (bytes : List ℕ) → 0 < length bytes → Cut ≡ closed_by bytes (Fault (Truncated 0))
cut_by [] some = absurd (omega arith)
cut_by (x ∷ bytes) some = refl

refused_by : (bytes : List ℕ) → 0 < length bytes → begins_extended bytes ≡ false → Wrong Refused ≡ closed_by bytes (Fault (BadType 0))
refused_by [] some other = absurd (omega arith)
refused_by (x ∷ bytes) some other = ap (λ (b : Bool). cond b (Wrong Extended) (Wrong Refused)) (sym other)

long_by : (bytes : List ℕ) → 0 < length bytes → Wrong Refused ≡ closed_by bytes (Fault (BadLength 0))
long_by [] some = absurd (omega arith)
long_by (x ∷ bytes) some = refl

-- bytes of which no Query comes first
record Closing (bytes : List ℕ) (asks : List Ask) (close : Close) : Type 0 where
  came : Coming
  text : List ℕ
  rest : List ℕ
  next : NextIs 0 came text bytes rest
  other : IsOther came
  none : asks ≡ []
  how : close ≡ closed_by bytes came

-- with the Query that comes first there are too many lines
record Exceeding (tally : Tally) (asked : Ask) (asks : List Ask) (close : Close) : Type 0 where
  many : AreTooMany (after_ask tally asked)
  none : asks ≡ []
  how : close ≡ Wrong Spent

-- there are not
record Going (tally : Tally) (asked : Ask) (rest : List ℕ) (asks : List Ask) (close : Close) : Type 0 where
  few : AreTooMany (after_ask tally asked) → ⊥
  later : List Ask
  are : asks ≡ asked ∷ later
  behind : ClientAsks (after_ask tally asked) rest later close

-- bytes of which a Query comes first
record Asking (tally : Tally) (bytes : List ℕ) (asks : List Ask) (close : Close) : Type 0 where
  body : List ℕ
  rest : List ℕ
  asked : Ask
  next : QueryNext bytes body rest
  is : AskIs (tally.lines + 1) body asked
  either : Exceeding tally asked asks close ⊎ Going tally asked rest asks close

extended_no_type : (bytes : List ℕ) → begins_extended bytes ≡ true → NextIs 0 (Fault (BadType 0)) [] bytes []
extended_no_type [] e = absurd (cc)
extended_no_type (x ∷ bytes) e =
    client.NextIs.NoType x (x ∷ bytes) bytes [] [] refl (λ q. false≢true (subst (λ (l : ℕ). is_extended l ≡ true) q e))
    (λ t. false≢true (subst (λ (l : ℕ). is_extended l ≡ true) t e))

extended_by : (bytes : List ℕ) → begins_extended bytes ≡ true → Wrong Extended ≡ closed_by bytes (Fault (BadType 0))
extended_by [] e = absurd (cc)
extended_by (x ∷ bytes) e = ap (λ (b : Bool). cond b (Wrong Extended) (Wrong Refused)) (sym e)

-- the one or the other
parts : (tally : Tally) (bytes : List ℕ) (asks : List Ask) (close : Close) → ClientAsks tally bytes asks close → Closing bytes asks close ⊎ Asking tally bytes asks close
parts tally bytes _ _ (clients.ClientAsks.Stops _ _ e) =
    inl (record { came = coming.End; text = []; rest = []; next = client.NextIs.Ended bytes [] e; other = tt; none = refl; how = ap (λ (l : List ℕ). closed_by l coming.End) (sym e) })
parts tally bytes _ _ (clients.ClientAsks.Leaves _ _ more rest e is) =
    inl (record { came = coming.End; text = []; rest = rest; next = client.NextIs.Terminates bytes more coming.End [] rest e is; other = tt; none = refl; how = ap (λ (l : List ℕ). closed_by l coming.End) (sym e) })
parts tally bytes _ _ (clients.ClientAsks.Cuts _ _ t r n) =
    inl (record { came = Fault (Truncated 0); text = t; rest = r; next = n; other = tt; none = refl; how = cut_by bytes (some_byte 0 (Fault (Truncated 0)) t bytes r n (λ k. cc)) })
parts tally bytes _ _ (clients.ClientAsks.NoType _ _ t r n other) =
    inl (record { came = Fault (BadType 0); text = t; rest = r; next = n; other = tt; none = refl; how = refused_by bytes (some_byte 0 (Fault (BadType 0)) t bytes r n (λ k. cc)) other })
parts tally bytes _ _ (clients.ClientAsks.Extends _ _ e) =
    inl (record { came = Fault (BadType 0); text = []; rest = []; next = extended_no_type bytes e; other = tt; none = refl; how = extended_by bytes e })
parts tally bytes _ _ (clients.ClientAsks.NoLength _ _ t r n) =
    inl (record { came = Fault (BadLength 0); text = t; rest = r; next = n; other = tt; none = refl; how = long_by bytes (some_byte 0 (Fault (BadLength 0)) t bytes r n (λ k. cc)) })
parts tally bytes _ _ (clients.ClientAsks.Exceeds _ _ body rest asked q is many) =
    inr (record { body = body; rest = rest; asked = asked; next = q; is = is; either = inl (record { many = many; none = refl; how = refl }) })
parts tally bytes _ _ (clients.ClientAsks.Goes _ _ body rest asked later close q is few more) =
    inr (record { body = body; rest = rest; asked = asked; next = q; is = is; either = inr (record { few = few; later = later; are = refl; behind = more }) })

-- a body asks one thing
ask_one : (number : ℕ) (body other : List ℕ) (asked answer : Ask) → body ≡ other → AskIs number body asked → AskIs number other answer → asked ≡ answer
ask_one number body other asked answer e h k =
    let same : h.0 ≡ k.0 = one_request body h.0 k.0 h.1 (subst (λ (b : List ℕ). RequestIs b k.0) (sym e) k.1) in
    h.2 ∙ ap (asked_as number) same ∙ sym k.2

-- of what stands behind a Query the same holds, whatever was counted
abbrev OneBehind : List ℕ → Type 0
OneBehind bytes = (after : Tally) (rest : List ℕ) (asks others : List Ask) (close other : Close) → length rest < length bytes → ClientAsks after rest asks close → ClientAsks after rest others other
    → (asks ≡ others) × (close ≡ other)

same_behind : (tally : Tally) (bytes rest more : List ℕ) (asked answer : Ask) (asks others : List Ask) (close other : Close) → asked ≡ answer → rest ≡ more → length rest < length bytes → OneBehind bytes
    → Exceeding tally asked asks close ⊎ Going tally asked rest asks close → Exceeding tally answer others other ⊎ Going tally answer more others other → (asks ≡ others) × (close ≡ other)
same_behind tally bytes rest more asked answer asks others close other e f less one (inl a) (inl b) = (a.none ∙ sym b.none, a.how ∙ sym b.how)
same_behind tally bytes rest more asked answer asks others close other e f less one (inl a) (inr b) =
    absurd (b.few (subst (λ (x : Ask). AreTooMany (after_ask tally x)) e a.many))
same_behind tally bytes rest more asked answer asks others close other e f less one (inr a) (inl b) =
    absurd (a.few (subst (λ (x : Ask). AreTooMany (after_ask tally x)) (sym e) b.many))
same_behind tally bytes rest more asked answer asks others close other e f less one (inr a) (inr b) =
    let behind : ClientAsks (after_ask tally asked) rest b.later other
    = subst (λ (x : Ask). ClientAsks (after_ask tally x) rest b.later other) (sym e) (subst (λ (l : List ℕ). ClientAsks (after_ask tally answer) l b.later other) (sym f) b.behind) in
    let further = one (after_ask tally asked) rest a.later b.later close other less a.behind behind in
    (a.are ∙ ap (λ (x : Ask). x ∷ a.later) e ∙ ap (λ (l : List Ask). answer ∷ l) further.0 ∙ sym b.are, further.1)

same_parts : (tally : Tally) (bytes : List ℕ) (asks others : List Ask) (close other : Close) → OneBehind bytes → Closing bytes asks close ⊎ Asking tally bytes asks close
    → Closing bytes others other ⊎ Asking tally bytes others other → (asks ≡ others) × (close ≡ other)
same_parts tally bytes asks others close other one (inl a) (inl b) =
    let same : a.came ≡ b.came = (next_one 0 a.came b.came a.text b.text bytes a.rest b.rest a.next b.next).first in
    (a.none ∙ sym b.none, a.how ∙ ap (closed_by bytes) same ∙ sym b.how)
same_parts tally bytes asks others close other one (inl a) (inr b) = absurd (no_other a.came a.text bytes b.body b.rest a.rest b.next a.next a.other)
same_parts tally bytes asks others close other one (inr a) (inl b) = absurd (no_other b.came b.text bytes a.body a.rest b.rest a.next b.next b.other)
same_parts tally bytes asks others close other one (inr a) (inr b) =
    let same = query_one bytes a.body b.body a.rest b.rest a.next b.next in
    same_behind tally bytes a.rest b.rest a.asked b.asked asks others close other (ask_one (tally.lines + 1) a.body b.body a.asked b.asked same.0 a.is b.is) same.1 (query_less bytes a.body a.rest a.next) one a.either b.either

shorter_one : (size : ℕ) (tally : Tally) (bytes : List ℕ) (asks others : List Ask) (close other : Close) → length bytes < size → ClientAsks tally bytes asks close → ClientAsks tally bytes others other
    → (asks ≡ others) × (close ≡ other)
shorter_one zero tally bytes asks others close other few h k = absurd (omega arith)
shorter_one (suc size) tally bytes asks others close other few h k =
    same_parts tally bytes asks others close other (λ after rest xs ys c d less f g. shorter_one size after rest xs ys c d (omega arith) f g) (parts tally bytes asks close h) (parts tally bytes others other k)

client_one : (tally : Tally) (bytes : List ℕ) (asks others : List Ask) (close other : Close) → ClientAsks tally bytes asks close → ClientAsks tally bytes others other → (asks ≡ others) × (close ≡ other)
client_one tally bytes asks others close other h k = shorter_one (suc (length bytes)) tally bytes asks others close other (omega arith) h k

-- bytes, and what ends them
bytes_one : (xs ys : List ℕ) → map Some xs ≡ map Some ys → xs ≡ ys
bytes_one [] [] e = refl
bytes_one [] (y ∷ ys) e = let both : [] ≡ Some y ∷ map Some ys = e in absurd (cc)
bytes_one (x ∷ xs) [] e = let both : Some x ∷ map Some xs ≡ [] = e in absurd (cc)
bytes_one (x ∷ xs) (y ∷ ys) e =
    let both : Some x ∷ map Some xs ≡ Some y ∷ map Some ys = e in
    let first : x ≡ y = cc in
    let others : map Some xs ≡ map Some ys = cc in
    ap (λ (z : ℕ). z ∷ xs) first ∙ ap (λ (zs : List ℕ). y ∷ zs) (bytes_one xs ys others)

no_end : (xs ys : List ℕ) (signs : List (Option ℕ)) → map Some xs ≡ map Some ys ++ None ∷ signs → ⊥
no_end [] [] signs e = cc
no_end [] (y ∷ ys) signs e = let both : [] ≡ Some y ∷ (map Some ys ++ None ∷ signs) = e in cc
no_end (x ∷ xs) [] signs e = let both : Some x ∷ map Some xs ≡ None ∷ signs = e in cc
no_end (x ∷ xs) (y ∷ ys) signs e =
    let both : Some x ∷ map Some xs ≡ Some y ∷ (map Some ys ++ None ∷ signs) = e in
    no_end xs ys signs (let others : map Some xs ≡ map Some ys ++ None ∷ signs = cc in others)

ends_one : (xs ys : List ℕ) (signs others : List (Option ℕ)) → map Some xs ++ None ∷ signs ≡ map Some ys ++ None ∷ others → (xs ≡ ys) × (signs ≡ others)
ends_one [] [] signs others e = let same : signs ≡ others = cc in (refl, same)
ends_one [] (y ∷ ys) signs others e = let both : None ∷ signs ≡ Some y ∷ (map Some ys ++ None ∷ others) = e in absurd (cc)
ends_one (x ∷ xs) [] signs others e = let both : Some x ∷ (map Some xs ++ None ∷ signs) ≡ None ∷ others = e in absurd (cc)
ends_one (x ∷ xs) (y ∷ ys) signs others e =
    let both : Some x ∷ (map Some xs ++ None ∷ signs) ≡ Some y ∷ (map Some ys ++ None ∷ others) = e in
    let first : x ≡ y = cc in
    let behind : map Some xs ++ None ∷ signs ≡ map Some ys ++ None ∷ others = cc in
    let further = ends_one xs ys signs others behind in
    (ap (λ (z : ℕ). z ∷ xs) first ∙ ap (λ (zs : List ℕ). y ∷ zs) further.0, further.1)

-- the last client asks the same
last_same : (tally : Tally) (asks others : List Ask) (close other : Close) → asks ≡ others → close ≡ other
    → asks ++ last_end (next_line tally asks) close ≡ others ++ last_end (next_line tally others) other
last_same tally asks others close other e f =
    ap (λ (l : List Ask). l ++ last_end (next_line tally l) close) e ∙ ap (λ (c : Close). others ++ last_end (next_line tally others) c) f

next_same : (tally : Tally) (asks others : List Ask) (close other : Close) (later more : List Ask) → asks ≡ others → close ≡ other → later ≡ more
    → asks ++ ask.End (next_line tally asks) (parting_of close) ∷ later ≡ others ++ ask.End (next_line tally others) (parting_of other) ∷ more
next_same tally asks others close other later more e f g =
    ap (λ (l : List Ask). l ++ ask.End (next_line tally l) (parting_of close) ∷ later) e
    ∙ ap (λ (c : Close). others ++ ask.End (next_line tally others) (parting_of c) ∷ later) f
    ∙ ap (λ (l : List Ask). others ++ ask.End (next_line tally others) (parting_of other) ∷ l) g

-- signs ask for one thing
pub one_asking : OneAsking
one_asking tally signs _ _ (clients.SeatAsks.Last _ _ xs ls c e k) (clients.SeatAsks.Last _ _ ys os d f j) =
    let bytes : ys ≡ xs = bytes_one ys xs (sym f ∙ e) in
    let same = client_one tally xs ls os c d k (subst (λ (bs : List ℕ). ClientAsks tally bs os d) bytes j) in
    last_same tally ls os c d same.0 same.1
one_asking tally signs _ _ (clients.SeatAsks.Last _ _ xs ls c e k) (clients.SeatAsks.Next _ _ ys os d more bs f j m) = absurd (no_end xs ys more (sym e ∙ f))
one_asking tally signs _ _ (clients.SeatAsks.Next _ _ xs ls c rest zs e k n) (clients.SeatAsks.Last _ _ ys os d f j) = absurd (no_end ys xs rest (sym f ∙ e))
one_asking tally signs _ _ (clients.SeatAsks.Next _ _ xs ls c rest zs e k n) (clients.SeatAsks.Next _ _ ys os d more bs f j m) =
    let ends = ends_one ys xs more rest (sym f ∙ e) in
    let same = client_one tally xs ls os c d k (subst (λ (b : List ℕ). ClientAsks tally b os d) ends.0 j) in
    let behind : SeatAsks (next_client tally ls) rest bs =
    subst (λ (l : List (Option ℕ)). SeatAsks (next_client tally ls) l bs) ends.1 (subst (λ (l : List Ask). SeatAsks (next_client tally l) more bs) (sym same.0) m) in
    next_same tally ls os c d zs bs same.0 same.1 (one_asking (next_client tally ls) rest zs bs n behind)
