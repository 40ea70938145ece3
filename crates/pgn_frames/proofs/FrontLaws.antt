-- What stands at the front of bytes.
use Rattle.std.proofs.Common.{◌≡◌, ℕ, ◌+◌, ◌-◌, ◌<◌, ◌≤◌, true, false, List, [], ◌∷◌, ◌++◌, length, get_or, take, drop, take-append-drop, length-take-le, length-drop, sym, ap, ◌∙◌, refl, arith, inl, inr}
use Rattle.std.specs.Prelude.{slice_index}
use Rattle.std.specs.Int.{w32, from_be_bytes}
use Rattle.std.proofs.lemmas.List.{drop-drop}
use Rattle.pgn_queries.specs.declared.wire_fault.WireFault.TheVariants.{BadLength, Truncated}
use Rattle.pgn_queries.specs.declared.coming.Coming.TheVariants.{Fault}
use Rattle.pgn_queries.specs.Client as client
use Rattle.pgn_queries.specs.Client.{IsQueryLength, Tells}
use Rattle.pgn_messages.specs.declared.asked.Parting.TheVariants.{Plain, Refused, Extended}
use Rattle.pgn_frames.specs.Clients as clients
use Rattle.pgn_frames.specs.Clients.{Left, Wrong, QueryNext, Tally, is_extended}
use Rattle.pgn_frames.specs.Callers.{IsUnfinished, PartsBy, QueryTo}
use Rattle.pgn_frames.proofs.MoreLaws.{parts_told}

-- no byte
pub Front-none : (bytes : List ℕ) → length bytes ≡ 0 → IsUnfinished bytes
Front-none [] e = inl refl
Front-none (x ∷ more) e = absurd (omega arith)

-- less than a head
pub Front-terminate_cut : (bytes : List ℕ) → slice_index bytes 0 ≡ 88 → 0 < length bytes → length bytes < 5 → IsUnfinished bytes
Front-terminate_cut [] letter some few = absurd (omega arith)
Front-terminate_cut (x ∷ more) letter some few =
    inr (client.NextIs.Terminates (x ∷ more) more (Fault (Truncated 0)) [] [] (ap (λ (l : ℕ). l ∷ more) letter) (client.TerminateIs.CutHead more [] (omega arith)))

-- a Query without its length is not whole
pub Front-query_cut : (bytes : List ℕ) → slice_index bytes 0 ≡ 81 → 0 < length bytes → length bytes < 5 → IsUnfinished bytes
Front-query_cut [] letter some few = absurd (omega arith)
Front-query_cut (x ∷ more) letter some few =
    inr (client.NextIs.Asks (x ∷ more) more (Fault (Truncated 0)) [] [] (ap (λ (l : ℕ). l ∷ more) letter) (client.QueryIs.CutHead more [] [] (omega arith)))

-- the head behind a letter
tells : (x len : ℕ) (more : List ℕ) → 5 ≤ length (x ∷ more) → len ≡ from_be_bytes w32 (take 4 (drop 1 (x ∷ more))) → Tells (take 4 more) len
tells x len more head is = record { four = length-take-le 4 more (omega arith); value = is }

-- less than a head says
pub Front-body_cut : (bytes : List ℕ) (len : ℕ) → slice_index bytes 0 ≡ 81 → 5 ≤ length bytes → len ≡ from_be_bytes w32 (take 4 (drop 1 bytes)) → 5 ≤ len → len ≤ 65541 → length bytes ≤ len → IsUnfinished bytes
Front-body_cut [] len letter head is least most few = absurd (omega arith)
Front-body_cut (x ∷ more) len letter head is least most few =
    let short : length (drop 4 more) < len - 4 = omega (arith, length-drop 4 more) in
    inr (client.NextIs.Asks (x ∷ more) more (Fault (Truncated 0)) [] [] (ap (λ (l : ℕ). l ∷ more) letter)
    (client.QueryIs.HasBody more (take 4 more) (drop 4 more) (Fault (Truncated 0)) [] [] len (len - 4) (sym (take-append-drop 4 more)) (tells x len more head is) (record { least = least; most = most })
    (omega arith) (client.BodyIs.Cut (drop 4 more) [] [] short)))

-- a Query
pub Front-query : (bytes : List ℕ) (len end : ℕ) → slice_index bytes 0 ≡ 81 → 5 ≤ length bytes → len ≡ from_be_bytes w32 (take 4 (drop 1 bytes)) → 5 ≤ len → len ≤ 65541 → end ≡ len + 1 → end ≤ length bytes
    → QueryTo bytes end
Front-query [] len end letter head is least most e enough = absurd (omega arith)
Front-query (x ∷ more) len end letter head is least most e enough =
    let n : ℕ = end - 5 in
    let five : 5 + n ≡ end = omega arith in
    let rest : drop n (drop 4 more) ≡ drop end (x ∷ more) = drop-drop n 5 (x ∷ more) ∙ ap (λ (k : ℕ). drop k (x ∷ more)) five in
    let parts : take n (drop 4 more) ++ drop end (x ∷ more) ≡ drop 4 more = ap (λ (l : List ℕ). take n (drop 4 more) ++ l) (sym rest) ∙ take-append-drop n (drop 4 more) in
    let whole : more ≡ take 4 more ++ (take n (drop 4 more) ++ drop end (x ∷ more)) = sym (take-append-drop 4 more) ∙ ap (λ (l : List ℕ). take 4 more ++ l) (sym parts) in
    let long : length (take n (drop 4 more)) ≡ n = length-take-le n (drop 4 more) (omega (arith, length-drop 4 more)) in
    let next : QueryNext (x ∷ more) (take n (drop 4 more)) (drop end (x ∷ more)) = record {
      head = take 4 more;
      len = len;
      split = ap (λ (l : ℕ). l ∷ more) letter ∙ ap (λ (l : List ℕ). 81 ∷ l) whole;
      tells = tells x len more head is;
      may = record { least = least; most = most };
      size = omega arith;
    } in
    record { next = next; some = omega arith; short = omega arith; within = enough }

-- a length that no Query has, and none of a Terminate
no_length : (bytes : List ℕ) (len : ℕ) → slice_index bytes 0 ≡ 81 → 5 ≤ length bytes → len ≡ from_be_bytes w32 (take 4 (drop 1 bytes)) → (IsQueryLength len → ⊥) → (tally : Tally) → PartsBy Refused tally bytes
no_length [] len letter head is wrong tally = absurd (omega arith)
no_length (x ∷ more) len letter head is wrong tally =
    parts_told (x ∷ more) (Wrong Refused) tally (omega arith) tt
    (clients.ClientAsks.NoLength tally (x ∷ more) [] []
    (client.NextIs.Asks (x ∷ more) more (Fault (BadLength 0)) [] [] (ap (λ (l : ℕ). l ∷ more) letter)
    (client.QueryIs.BadHead more (take 4 more) (drop 4 more) [] [] len (sym (take-append-drop 4 more)) (tells x len more head is) wrong)))

-- a Query that is too short ends the client as refused
pub Front-too_short : (bytes : List ℕ) (len : ℕ) → slice_index bytes 0 ≡ 81 → 5 ≤ length bytes → len ≡ from_be_bytes w32 (take 4 (drop 1 bytes)) → len < 5 → (tally : Tally) → PartsBy Refused tally bytes
Front-too_short bytes len letter head is few = no_length bytes len letter head is (λ fits. let least : 5 ≤ len = fits.least in omega arith)

-- so does one that is too long
pub Front-too_long : (bytes : List ℕ) (len : ℕ) → slice_index bytes 0 ≡ 81 → 5 ≤ length bytes → len ≡ from_be_bytes w32 (take 4 (drop 1 bytes)) → 65541 < len → (tally : Tally) → PartsBy Refused tally bytes
Front-too_long bytes len letter head is many = no_length bytes len letter head is (λ fits. let most : len ≤ 65541 = fits.most in omega arith)

-- a Terminate of a wrong length ends the client as refused
pub Front-no_terminate : (bytes : List ℕ) (len : ℕ) → slice_index bytes 0 ≡ 88 → 5 ≤ length bytes → len ≡ from_be_bytes w32 (take 4 (drop 1 bytes)) → (len ≡ 4 → ⊥) → (tally : Tally) → PartsBy Refused tally bytes
Front-no_terminate [] len letter head is wrong tally = absurd (omega arith)
Front-no_terminate (x ∷ more) len letter head is wrong tally =
    parts_told (x ∷ more) (Wrong Refused) tally (omega arith) tt
    (clients.ClientAsks.NoLength tally (x ∷ more) [] []
    (client.NextIs.Terminates (x ∷ more) more (Fault (BadLength 0)) [] [] (ap (λ (l : ℕ). l ∷ more) letter)
    (client.TerminateIs.BadHead more (take 4 more) (drop 4 more) [] len (sym (take-append-drop 4 more)) (tells x len more head is) wrong)))

-- a Terminate
pub Front-terminate : (bytes : List ℕ) (len : ℕ) → slice_index bytes 0 ≡ 88 → 5 ≤ length bytes → len ≡ from_be_bytes w32 (take 4 (drop 1 bytes)) → len ≡ 4 → (tally : Tally) → PartsBy Plain tally bytes
Front-terminate [] len letter head is four tally = absurd (omega arith)
Front-terminate (x ∷ more) len letter head is four tally =
    parts_told (x ∷ more) Left tally (omega arith) tt
    (clients.ClientAsks.Leaves tally (x ∷ more) more (drop 4 more) (ap (λ (l : ℕ). l ∷ more) letter)
    (client.TerminateIs.Whole more (take 4 more) (drop 4 more) (sym (take-append-drop 4 more)) (tells x 4 more head (sym four ∙ is))))

-- a message of the extended protocol, and one of another type
pub Front-extended : (bytes : List ℕ) (letter : ℕ) → slice_index bytes 0 ≡ letter → 0 < length bytes → is_extended letter ≡ true → (tally : Tally) → PartsBy Extended tally bytes
Front-extended [] letter first some is tally = absurd (omega arith)
Front-extended (x ∷ more) letter first some is tally =
    parts_told (x ∷ more) (Wrong Extended) tally (omega arith) tt (clients.ClientAsks.Extends tally (x ∷ more) (ap is_extended first ∙ is))

-- so does a message of no type
pub Front-no_type : (bytes : List ℕ) (letter : ℕ) → slice_index bytes 0 ≡ letter → 0 < length bytes → (letter ≡ 81 → ⊥) → (letter ≡ 88 → ⊥) → is_extended letter ≡ false → (tally : Tally) → PartsBy Refused tally bytes
Front-no_type [] letter first some query terminate other tally = absurd (omega arith)
Front-no_type (x ∷ more) letter first some query terminate other tally =
    parts_told (x ∷ more) (Wrong Refused) tally (omega arith) tt
    (clients.ClientAsks.NoType tally (x ∷ more) [] []
    (client.NextIs.NoType x (x ∷ more) more [] [] refl (λ e. query (sym first ∙ e)) (λ e. terminate (sym first ∙ e))) (ap is_extended first ∙ other))

-- the bytes of a length
pub four_behind : (bytes : List ℕ) → 5 ≤ length bytes → get_or bytes 1 0 ∷ get_or bytes 2 0 ∷ get_or bytes 3 0 ∷ get_or bytes 4 0 ∷ [] ≡ take 4 (drop 1 bytes)
four_behind [] head = absurd (omega arith)
four_behind (a ∷ []) head = absurd (omega arith)
four_behind (a ∷ b ∷ []) head = absurd (omega arith)
four_behind (a ∷ b ∷ c ∷ []) head = absurd (omega arith)
four_behind (a ∷ b ∷ c ∷ d ∷ []) head = absurd (omega arith)
four_behind (a ∷ b ∷ c ∷ d ∷ e ∷ more) head = refl

-- what is no whole message, by its letter alone
pub ruleset front_laws = (Front-none, Front-terminate_cut, Front-query_cut)

-- how the four bytes of a length are taken
pub ruleset four_laws = (four_behind)
