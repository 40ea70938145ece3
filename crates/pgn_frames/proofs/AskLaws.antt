-- A seat is asked something by its signs, and one thing.
use Rattle.std.proofs.Common.{◌≡◌, ℕ, zero, suc, ◌+◌, ◌<◌, ◌⊎◌, List, [], ◌∷◌, ◌++◌, length, Option, Some, None, ap, ◌∙◌, refl, arith, inl, inr}
use Rattle.std.specs.Prelude.{map}
use Rattle.std.proofs.lemmas.Bool.{cases_Bool, cases_lt}
use Rattle.std.proofs.lemmas.List.{length-append}
use Rattle.pgn_queries.specs.declared.limits.TheConstants.{QUERIES_MAX}
use Rattle.pgn_queries.specs.declared.wire_fault.WireFault.TheVariants.{BadLength, Truncated}
use Rattle.pgn_queries.specs.declared.coming.Coming.{Coming}
use Rattle.pgn_queries.specs.declared.coming.Coming.TheVariants.{Fault}
use Rattle.pgn_queries.specs.Client as client
use Rattle.pgn_queries.specs.Client.{BodyIs, IsQueryLength, NextIs, QueryIs, Tells, TerminateIs, body_of}
use Rattle.pgn_queries.proofs.EachLaws.{next_comes}
use Rattle.pgn_requests.proofs.RequestLaws.{each_request}
use Rattle.pgn_messages.specs.declared.asked.Ask.{Ask}
use Rattle.pgn_messages.specs.declared.asked.Ask.TheVariants as ask
use Rattle.pgn_messages.specs.declared.asked.Parting.TheVariants.{Refused, Extended, Spent}
use Rattle.pgn_frames.specs.Clients as clients
use Rattle.pgn_frames.specs.Clients.{AreTooMany, AskIs, ClientAsks, Close, Open, Left, Cut, Wrong, QueryNext, SeatAsks, Tally, after_ask, asked_as, begins_extended, is_extended, last_end, next_client, next_line, parting_of}
use Rattle.pgn_frames.specs.Laws.{EachIsAsked}

-- fewer bytes stand behind a Query
pub query_less : (bytes body rest : List ℕ) → QueryNext bytes body rest → length rest < length bytes
query_less bytes body rest q = omega (arith, ap length q.split, length-append q.head (body ++ rest), length-append body rest)

-- what comes first: what ends the client, or a Query
data First (bytes : List ℕ) : Type 0 where
  Ends : (close : Close) → ((tally : Tally) → ClientAsks tally bytes [] close) → First bytes
  Asks : (body rest : List ℕ) → QueryNext bytes body rest → First bytes

first_body : (size len : ℕ) (next : Coming) (text bytes all head rest : List ℕ) → all ≡ 81 ∷ (head ++ bytes) → Tells head len → IsQueryLength len → len ≡ 4 + size → BodyIs 0 size next text bytes rest → First all
first_body size len _ _ bytes all head _ e tells may sized (client.BodyIs.Cut _ t r few) =
    Ends Cut (λ tally. clients.ClientAsks.Cuts tally all t r
    (client.NextIs.Asks all (head ++ bytes) (Fault (Truncated 0)) t r e
    (client.QueryIs.HasBody (head ++ bytes) head bytes (Fault (Truncated 0)) t r len size refl tells may sized (client.BodyIs.Cut bytes t r few))))
first_body size len _ _ bytes all head _ e tells may sized (client.BodyIs.Bad _ body more t r f long none) =
    Asks body more (record { head = head; len = len; split = e ∙ ap (λ (l : List ℕ). 81 ∷ (head ++ l)) f; tells = tells; may = may; size = omega arith })
first_body size len _ _ bytes all head _ e tells may sized (client.BodyIs.Whole _ t r f long sound) =
    Asks (body_of t) r (record { head = head; len = len; split = e ∙ ap (λ (l : List ℕ). 81 ∷ (head ++ l)) f; tells = tells; may = may; size = omega arith })

first_query : (next : Coming) (text bytes all rest : List ℕ) → all ≡ 81 ∷ bytes → QueryIs 0 next text bytes rest → First all
first_query _ _ bytes all _ e (client.QueryIs.CutHead _ t r few) =
    Ends Cut (λ tally. clients.ClientAsks.Cuts tally all t r (client.NextIs.Asks all bytes (Fault (Truncated 0)) t r e (client.QueryIs.CutHead bytes t r few)))
first_query _ _ bytes all _ e (client.QueryIs.BadHead _ head m t r len f tells wrong) =
    Ends (Wrong Refused) (λ tally. clients.ClientAsks.NoLength tally all t r (client.NextIs.Asks all bytes (Fault (BadLength 0)) t r e (client.QueryIs.BadHead bytes head m t r len f tells wrong)))
first_query _ _ bytes all _ e (client.QueryIs.HasBody _ head m c t r len size f tells fits sized body) =
    first_body size len c t m all head r (e ∙ ap (λ (l : List ℕ). 81 ∷ l) f) tells fits sized body

first_terminate : (next : Coming) (text bytes all rest : List ℕ) → all ≡ 88 ∷ bytes → TerminateIs 0 next bytes rest → First all
first_terminate _ text bytes all _ e (client.TerminateIs.CutHead _ r few) =
    Ends Cut (λ tally. clients.ClientAsks.Cuts tally all text r (client.NextIs.Terminates all bytes (Fault (Truncated 0)) text r e (client.TerminateIs.CutHead bytes r few)))
first_terminate _ text bytes all _ e (client.TerminateIs.BadHead _ head m r len f tells wrong) =
    Ends (Wrong Refused) (λ tally. clients.ClientAsks.NoLength tally all text r (client.NextIs.Terminates all bytes (Fault (BadLength 0)) text r e (client.TerminateIs.BadHead bytes head m r len f tells wrong)))
first_terminate _ text bytes all _ e (client.TerminateIs.Whole _ head r f tells) = Ends Left (λ tally. clients.ClientAsks.Leaves tally all bytes r e (client.TerminateIs.Whole bytes head r f tells))

first_is : (next : Coming) (text bytes rest : List ℕ) → NextIs 0 next text bytes rest → First bytes
first_is _ _ bytes _ (client.NextIs.Ended _ t e) = Ends Open (λ tally. clients.ClientAsks.Stops tally bytes e)
first_is _ _ bytes _ (client.NextIs.NoType letter _ m t r e q x) = elim (cases_Bool (is_extended letter)) [
  | inl is ↦ Ends (Wrong Extended) (λ tally. clients.ClientAsks.Extends tally bytes (ap begins_extended e ∙ is))
  | inr bad ↦ Ends (Wrong Refused) (λ tally. clients.ClientAsks.NoType tally bytes t r (client.NextIs.NoType letter bytes m t r e q x) (ap begins_extended e ∙ bad))
]
first_is _ _ bytes _ (client.NextIs.Terminates _ m c t r e is) = first_terminate c t m bytes r e is
first_is _ _ bytes _ (client.NextIs.Asks _ m c t r e is) = first_query c t m bytes r e is

-- there are too many lines, or not
counts : (tally : Tally) → AreTooMany tally ⊎ (AreTooMany tally → ⊥)
counts tally = elim (cases_lt QUERIES_MAX tally.lines) [
  | inl many ↦ inl (inl many)
  | inr few ↦ elim (cases_lt tally.most tally.notes) [
    | inl many ↦ inl (inr many)
    | inr less ↦ inr (λ many. elim many [ inl more ↦ absurd (omega arith) | inr more ↦ absurd (omega arith) ])
  ]
]

-- each client's bytes ask something
abbrev HasAsks : Tally → List ℕ → Type 0
HasAsks tally bytes = (asks : List Ask) × (close : Close) × ClientAsks tally bytes asks close

by_first : (tally : Tally) (bytes : List ℕ) → First bytes → ((after : Tally) (rest : List ℕ) → length rest < length bytes → HasAsks after rest) → HasAsks tally bytes
by_first tally bytes (Ends close asks) more = ([], close, asks tally)
by_first tally bytes (Asks body rest q) more =
    let request = each_request body in
    let asked : Ask = asked_as (tally.lines + 1) request.0 in
    let is : AskIs (tally.lines + 1) body asked = (request.0, request.1, refl) in
    elim (counts (after_ask tally asked)) [
      | inl many ↦ ([], Wrong Spent, clients.ClientAsks.Exceeds tally bytes body rest asked q is many)
      | inr few ↦
          let others = more (after_ask tally asked) rest (query_less bytes body rest q) in
          (asked ∷ others.0, others.1, clients.ClientAsks.Goes tally bytes body rest asked others.0 others.1 q is few others.2)
    ]

fewer : (size : ℕ) (tally : Tally) (bytes : List ℕ) → length bytes < size → HasAsks tally bytes
fewer zero tally bytes few = absurd (omega arith)
fewer (suc size) tally bytes few =
    let next = next_comes 0 bytes in
    by_first tally bytes (first_is next.coming next.text bytes next.rest next.is) (λ after rest less. fewer size after rest (omega arith))

has_asks : (tally : Tally) (bytes : List ℕ) → HasAsks tally bytes
has_asks tally bytes = fewer (suc (length bytes)) tally bytes (omega arith)

-- signs up to the first end
pub record Divided (signs : List (Option ℕ)) : Type 0 where
  pub bytes : List ℕ
  pub behind : (signs ≡ map Some bytes) ⊎ ((others : List (Option ℕ)) × (signs ≡ map Some bytes ++ None ∷ others) × (length others < length signs))

-- signs are bytes alone, or bytes, an end, and others
pub divide : (signs : List (Option ℕ)) → Divided signs
divide [] = record { bytes = []; behind = inl refl }
divide (None ∷ signs) = record { bytes = []; behind = inr (signs, refl, omega arith) }
divide (Some x ∷ signs) =
    let further = divide signs in record {
      bytes = x ∷ further.bytes;
      behind = elim further.behind [
        | inl e ↦ inl (ap (λ (l : List (Option ℕ)). Some x ∷ l) e)
        | inr h ↦ inr (h.0, ap (λ (l : List (Option ℕ)). Some x ∷ l) h.1, let shorter : length h.0 < length signs = h.2 in omega arith)
      ];
    }

abbrev IsAsked : Tally → List (Option ℕ) → Type 0
IsAsked tally signs = (asks : List Ask) × SeatAsks tally signs asks

shorter_signs : (size : ℕ) (tally : Tally) (signs : List (Option ℕ)) → length signs < size → IsAsked tally signs
shorter_signs zero tally signs few = absurd (omega arith)
shorter_signs (suc size) tally signs few =
    let divided = divide signs in
    let own = has_asks tally divided.bytes in
    elim divided.behind [
      | inl e ↦ (own.0 ++ last_end (next_line tally own.0) own.1, clients.SeatAsks.Last tally signs divided.bytes own.0 own.1 e own.2)
      | inr h ↦
          let shorter : length h.0 < length signs = h.2 in
          let others = shorter_signs size (next_client tally own.0) h.0 (omega arith) in
          (own.0 ++ ask.End (next_line tally own.0) (parting_of own.1) ∷ others.0, clients.SeatAsks.Next tally signs divided.bytes own.0 own.1 h.0 others.0 h.1 own.2 others.1)
    ]

-- any signs ask for something, from any tally on
pub each_is_asked : EachIsAsked
each_is_asked tally signs = shorter_signs (suc (length signs)) tally signs (omega arith)
