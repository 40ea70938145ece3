-- A message is told by its own bytes, whatever follows them.
use Rattle.std.proofs.Common.{◌≡◌, ℕ, ◌<◌, ◌∷◌, Bool, true, false, List, [], ◌++◌, length, refl, ap, ◌∙◌, arith, append_assoc}
use Rattle.pgn_queries.specs.declared.wire_fault.WireFault.TheVariants.{BadLength, BadType, Truncated}
use Rattle.pgn_queries.specs.declared.coming.Coming.{Coming}
use Rattle.pgn_queries.specs.declared.coming.Coming.TheVariants.{End, Fault}
use Rattle.pgn_queries.specs.Client as client
use Rattle.pgn_queries.specs.Client.{BodyIs, NextIs, QueryIs, TerminateIs, body_of}
use Rattle.pgn_messages.specs.declared.asked.Ask.TheVariants as ask
use Rattle.pgn_frames.specs.Clients as clients
use Rattle.pgn_frames.specs.Clients.{ClientAsks, Close, Open, Left, Cut, Wrong, Tally, after_ask, begins_extended, last_end, parting_of}
use Rattle.pgn_frames.specs.Callers.{IsTold, PartsBy}
use Rattle.pgn_frames.specs.Laws.{MoreMayFollow, QueryStaysWhole}

-- two parts, and what is behind them
pub behind : (bytes front rest more : List ℕ) → bytes ≡ front ++ rest → bytes ++ more ≡ front ++ (rest ++ more)
behind bytes front rest more e = ap (λ (xs : List ℕ). xs ++ more) e ∙ append_assoc front rest more

body_more : (at size : ℕ) (coming : Coming) (text bytes rest more : List ℕ) → BodyIs at size coming text bytes rest → (coming ≡ Fault (Truncated at) → ⊥)
    → BodyIs at size coming text (bytes ++ more) (rest ++ more)
body_more at size _ _ bytes _ more (client.BodyIs.Cut _ t r few) whole = absurd (whole refl)
body_more at size _ _ bytes _ more (client.BodyIs.Bad _ body m t r e len none) whole = client.BodyIs.Bad (bytes ++ more) body (m ++ more) t (r ++ more) (behind bytes body m more e) len none
body_more at size _ _ bytes _ more (client.BodyIs.Whole _ t r e len sound) whole = client.BodyIs.Whole (bytes ++ more) t (r ++ more) (behind bytes (body_of t) r more e) len sound

query_more : (at : ℕ) (coming : Coming) (text bytes rest more : List ℕ) → QueryIs at coming text bytes rest → (coming ≡ Fault (Truncated at) → ⊥) → QueryIs at coming text (bytes ++ more) (rest ++ more)
query_more at _ _ bytes _ more (client.QueryIs.CutHead _ t r few) whole = absurd (whole refl)
query_more at _ _ bytes _ more (client.QueryIs.BadHead _ head m t r len e tells wrong) whole =
    client.QueryIs.BadHead (bytes ++ more) head (m ++ more) t (r ++ more) len (behind bytes head m more e) tells wrong
query_more at _ _ bytes _ more (client.QueryIs.HasBody _ head m c t r len size e tells fits sized body) whole =
    client.QueryIs.HasBody (bytes ++ more) head (m ++ more) c t (r ++ more) len size (behind bytes head m more e) tells fits sized (body_more at size c t m r more body whole)

terminate_more : (at : ℕ) (coming : Coming) (bytes rest more : List ℕ) → TerminateIs at coming bytes rest → (coming ≡ Fault (Truncated at) → ⊥) → TerminateIs at coming (bytes ++ more) (rest ++ more)
terminate_more at _ bytes _ more (client.TerminateIs.CutHead _ r few) whole = absurd (whole refl)
terminate_more at _ bytes _ more (client.TerminateIs.BadHead _ head m r len e tells wrong) whole =
    client.TerminateIs.BadHead (bytes ++ more) head (m ++ more) (r ++ more) len (behind bytes head m more e) tells wrong
terminate_more at _ bytes _ more (client.TerminateIs.Whole _ head r e tells) whole = client.TerminateIs.Whole (bytes ++ more) head (r ++ more) (behind bytes head r more e) tells

next_more : (at : ℕ) (coming : Coming) (text bytes rest more : List ℕ) → NextIs at coming text bytes rest → (coming ≡ Fault (Truncated at) → ⊥) → (coming ≡ End → ⊥)
    → NextIs at coming text (bytes ++ more) (rest ++ more)
next_more at _ _ bytes _ more (client.NextIs.Ended _ t e) whole some = absurd (some refl)
next_more at _ _ bytes _ more (client.NextIs.NoType letter _ m t r e q x) whole some =
    client.NextIs.NoType letter (bytes ++ more) (m ++ more) t (r ++ more) (ap (λ (xs : List ℕ). xs ++ more) e) q x
next_more at _ _ bytes _ more (client.NextIs.Terminates _ m c t r e is) whole some =
    client.NextIs.Terminates (bytes ++ more) (m ++ more) c t (r ++ more) (ap (λ (xs : List ℕ). xs ++ more) e) (terminate_more at c m r more is whole)
next_more at _ _ bytes _ more (client.NextIs.Asks _ m c t r e is) whole some =
    client.NextIs.Asks (bytes ++ more) (m ++ more) c t (r ++ more) (ap (λ (xs : List ℕ). xs ++ more) e) (query_more at c t m r more is whole)

-- a whole Query stays one, whatever bytes follow
pub query_stays_whole : QueryStaysWhole
query_stays_whole bytes body rest more q = record {
  head = q.head;
  len = q.len;
  split = ap (λ (xs : List ℕ). xs ++ more) q.split
      ∙ ap (λ (xs : List ℕ). 81 ∷ xs) (append_assoc q.head (body ++ rest) more ∙ ap (λ (xs : List ℕ). q.head ++ xs) (append_assoc body rest more));
  tells = q.tells;
  may = q.may;
  size = q.size;
}

-- where something comes, there are bytes, and their first is the same with more behind them
pub some_byte : (at : ℕ) (coming : Coming) (text bytes rest : List ℕ) → NextIs at coming text bytes rest → (coming ≡ End → ⊥) → 0 < length bytes
some_byte at _ _ bytes _ (client.NextIs.Ended _ t e) some = absurd (some refl)
some_byte at _ _ bytes _ (client.NextIs.NoType letter _ m t r e q x) some = omega (arith, ap length e)
some_byte at _ _ bytes _ (client.NextIs.Terminates _ m c t r e is) some = omega (arith, ap length e)
some_byte at _ _ bytes _ (client.NextIs.Asks _ m c t r e is) some = omega (arith, ap length e)

same_letter : (bytes more : List ℕ) (b : Bool) → 0 < length bytes → begins_extended bytes ≡ b → begins_extended (bytes ++ more) ≡ b
same_letter [] more b some e = absurd (omega arith)
same_letter (x ∷ bytes) more b some e = e

extended_some : (bytes : List ℕ) → begins_extended bytes ≡ true → 0 < length bytes
extended_some [] e = absurd (cc)
extended_some (x ∷ bytes) e = omega arith

-- what whole messages ask stays, whatever bytes follow
pub more_may_follow : MoreMayFollow
more_may_follow tally bytes more _ _ (clients.ClientAsks.Stops _ _ e) told = absurd told
more_may_follow tally bytes more _ _ (clients.ClientAsks.Leaves _ _ m r e is) told =
    clients.ClientAsks.Leaves tally (bytes ++ more) (m ++ more) (r ++ more) (ap (λ (xs : List ℕ). xs ++ more) e) (terminate_more 0 End m r more is (λ k. cc))
more_may_follow tally bytes more _ _ (clients.ClientAsks.Cuts _ _ t r n) told = absurd told
more_may_follow tally bytes more _ _ (clients.ClientAsks.NoType _ _ t r n other) told =
    clients.ClientAsks.NoType tally (bytes ++ more) t (r ++ more) (next_more 0 (Fault (BadType 0)) t bytes r more n (λ k. cc) (λ k. cc))
    (same_letter bytes more false (some_byte 0 (Fault (BadType 0)) t bytes r n (λ k. cc)) other)
more_may_follow tally bytes more _ _ (clients.ClientAsks.Extends _ _ e) told = clients.ClientAsks.Extends tally (bytes ++ more) (same_letter bytes more true (extended_some bytes e) e)
more_may_follow tally bytes more _ _ (clients.ClientAsks.NoLength _ _ t r n) told =
    clients.ClientAsks.NoLength tally (bytes ++ more) t (r ++ more) (next_more 0 (Fault (BadLength 0)) t bytes r more n (λ k. cc) (λ k. cc))
more_may_follow tally bytes more _ _ (clients.ClientAsks.Exceeds _ _ body rest asked q is many) told =
    clients.ClientAsks.Exceeds tally (bytes ++ more) body (rest ++ more) asked (query_stays_whole bytes body rest more q) is many
more_may_follow tally bytes more _ close (clients.ClientAsks.Goes _ _ body rest asked asks _ q is few further) told =
    clients.ClientAsks.Goes tally (bytes ++ more) body (rest ++ more) asked asks close (query_stays_whole bytes body rest more q) is few
    (more_may_follow (after_ask tally asked) rest more asks close further told)

-- what bytes tell by themselves is told whatever follows
pub parts_told : (bytes : List ℕ) (close : Close) (tally : Tally) → 0 < length bytes → IsTold close → ClientAsks tally bytes [] close → PartsBy (parting_of close) tally bytes
parts_told bytes close tally some told asks = record { some = some; close = close; told = told; closes = λ more. more_may_follow tally bytes more [] close asks told; how = refl }

-- an end that is told comes also where the input ends
pub last_told : (number : ℕ) (close : Close) → IsTold close → last_end number close ≡ ask.End number (parting_of close) ∷ []
last_told number Open told = absurd told
last_told number Left told = refl
last_told number Cut told = absurd told
last_told number (Wrong parting) told = refl
