-- How a reader goes on from where it stands with a seat: by bytes, by a query, by a client's end.
use Rattle.std.proofs.Common.{◌≡◌, ℕ, ◌+◌, Bool, true, false, List, [], ◌∷◌, ◌++◌, length, Option, Some, None, sym, ap, ◌∙◌, subst, refl, arith, inl, inr, append_assoc, append-nil}
use Rattle.std.specs.Prelude.{map}
use Rattle.std.proofs.lemmas.List.{map-append}
use Rattle.pgn_messages.specs.declared.asked.Ask.{Ask}
use Rattle.pgn_messages.specs.declared.asked.Ask.TheVariants as ask
use Rattle.pgn_messages.specs.declared.asked.Parting.{Parting}
use Rattle.pgn_messages.specs.declared.asked.Parting.TheVariants.{Spent}
use Rattle.pgn_frames.specs.Clients as clients
use Rattle.pgn_frames.specs.Clients.{AreTooMany, AskIs, ClientAsks, Close, Open, Cut, Wrong, QueryNext, SeatAsks, Tally, after_ask, next_line, parting_of}
use Rattle.pgn_frames.specs.Callers as callers
use Rattle.pgn_frames.specs.Callers.{AskBehind, AskFrom, AskOn, HasCome, IsUnfinished, PartsBy, Stand, behind_end, parting_behind}
use Rattle.pgn_frames.proofs.AskLaws.{divide, each_is_asked}
use Rattle.pgn_frames.proofs.MoreLaws.{last_told, query_stays_whole}

-- signs ask something there
asks_from : (left : Bool) (tally : Tally) (begun : List ℕ) (signs : List (Option ℕ)) → (others : List Ask) × AskFrom left tally begun signs others
asks_from false tally begun signs = each_is_asked tally (map Some begun ++ signs)
asks_from true tally begun signs =
    let parts = divide signs in
    elim parts.behind [
      | inl e ↦ ([], callers.AskBehind.Nothing parts.bytes signs e)
      | inr h ↦ let more = each_is_asked tally h.0 in (more.0, callers.AskBehind.Others parts.bytes signs h.0 more.0 h.1 more.1)
    ]

-- signs that go on from where a caller stands ask for something
pub asks_on : (stand : Stand) (signs : List (Option ℕ)) → (others : List Ask) × AskOn stand signs others
asks_on stand signs = asks_from stand.left stand.tally stand.begun signs

-- one way behind another
pub HasCome-then : (a b c : Stand) (s t : List (Option ℕ)) (x y : List Ask) → HasCome a s x b → HasCome b t y c → HasCome a (s ++ t) (x ++ y) c
HasCome-then a b c s t x y f g = λ more others h.
    subst (λ (l : List (Option ℕ)). AskOn a l ((x ++ y) ++ others)) (sym (append_assoc s t more))
    (subst (λ (l : List Ask). AskOn a (s ++ (t ++ more)) l) (sym (append_assoc x y others)) (f (t ++ more) (y ++ others) (g more others h)))

-- bytes, and more signs behind them
bytes_behind : (bytes more : List ℕ) (signs : List (Option ℕ)) → signs ≡ map Some more → map Some bytes ++ signs ≡ map Some (bytes ++ more)
bytes_behind bytes more signs e = ap (λ (l : List (Option ℕ)). map Some bytes ++ l) e ∙ sym (map-append Some bytes more)

end_behind : (bytes more : List ℕ) (signs rest : List (Option ℕ)) → signs ≡ map Some more ++ None ∷ rest → map Some bytes ++ signs ≡ map Some (bytes ++ more) ++ None ∷ rest
end_behind bytes more signs rest e =
    ap (λ (l : List (Option ℕ)). map Some bytes ++ l) e ∙ sym (append_assoc (map Some bytes) (map Some more) (None ∷ rest)) ∙ ap (λ (l : List (Option ℕ)). l ++ None ∷ rest) (sym (map-append Some bytes more))

two_parts : (bytes more : List ℕ) (signs : List (Option ℕ)) → map Some (bytes ++ more) ++ signs ≡ map Some bytes ++ (map Some more ++ signs)
two_parts bytes more signs = ap (λ (l : List (Option ℕ)). l ++ signs) (map-append Some bytes more) ∙ append_assoc (map Some bytes) (map Some more) signs

-- a client that has left is passed over, byte by byte
passes_over : (next : Tally) (bytes : List ℕ) (signs : List (Option ℕ)) (asks : List Ask) → AskBehind next signs asks → AskBehind next (map Some bytes ++ signs) asks
passes_over next bytes signs _ (callers.AskBehind.Nothing xs _ e) = callers.AskBehind.Nothing (bytes ++ xs) (map Some bytes ++ signs) (bytes_behind bytes xs signs e)
passes_over next bytes signs _ (callers.AskBehind.Others xs _ rest asks e k) = callers.AskBehind.Others (bytes ++ xs) (map Some bytes ++ signs) rest asks (end_behind bytes xs signs rest e) k

-- bytes behind a client's end are passed over
pub come-passed : (tally : Tally) (begun bytes : List ℕ) (left : Bool) → left ≡ true → HasCome (record { tally = tally; begun = begun; left = left }) (map Some bytes) [] (record { tally = tally; begun = begun; left = left })
come-passed tally begun bytes true e = λ more others h. passes_over tally bytes more others h
come-passed tally begun bytes false e = absurd (cc)

-- up to its end
pub come-over : (tally next : Tally) (begun rest : List ℕ) (was is : Bool) → was ≡ true → is ≡ false → rest ≡ [] → next ≡ tally
    → HasCome (record { tally = tally; begun = begun; left = was }) (None ∷ []) [] (record { tally = next; begun = rest; left = is })
come-over tally next begun rest true false e f none same = λ more others h.
    callers.AskBehind.Others [] (None ∷ more) more others refl
    (subst (λ (p : Tally). SeatAsks p more others) same (subst (λ (l : List ℕ). SeatAsks next (map Some l ++ more) others) none h))
come-over tally next begun rest false is e f none same = absurd (cc)
come-over tally next begun rest true true e f none same = absurd (cc)

-- bytes stand behind those of a message that has begun
pub come-in : (tally : Tally) (begun bytes : List ℕ) (asks : List Ask) (left : Bool) (new : Stand) → left ≡ false → HasCome (record { tally = tally; begun = begun ++ bytes; left = left }) [] asks new
    → HasCome (record { tally = tally; begun = begun; left = left }) (map Some bytes) asks new
come-in tally begun bytes asks false new e f = λ more others h.
    subst (λ (l : List (Option ℕ)). SeatAsks tally l (asks ++ others)) (two_parts begun bytes more) (f more others h)
come-in tally begun bytes asks true new e f = absurd (cc)

-- a query's message, by itself
record MessagePart (body bytes rest : List ℕ) : Type 0 where
  own : List ℕ
  split : bytes ≡ own ++ rest
  next : (more : List ℕ) → QueryNext (own ++ more) body more

message_part : (body bytes rest : List ℕ) → QueryNext bytes body rest → MessagePart body bytes rest
message_part body bytes rest q = record {
  own = 81 ∷ (q.head ++ body);
  split = q.split ∙ ap (λ (l : List ℕ). 81 ∷ l) (sym (append_assoc q.head body rest));
  next = λ more. record {
    head = q.head;
    len = q.len;
    split = ap (λ (l : List ℕ). 81 ∷ l) (append_assoc q.head body more);
    tells = q.tells;
    may = q.may;
    size = q.size;
  };
}

-- what a client asks next, and all that its seat is asked behind it
asks_one : (tally : Tally) (own body : List ℕ) (asked : Ask) (signs : List (Option ℕ)) (others : List Ask) → ((more : List ℕ) → QueryNext (own ++ more) body more) → AskIs (tally.lines + 1) body asked
    → (AreTooMany (after_ask tally asked) → ⊥) → SeatAsks (after_ask tally asked) signs others → SeatAsks tally (map Some own ++ signs) (asked ∷ others)
asks_one tally own body asked signs _ next is few (clients.SeatAsks.Last _ _ xs asks close e k) =
    clients.SeatAsks.Last tally (map Some own ++ signs) (own ++ xs) (asked ∷ asks) close (bytes_behind own xs signs e)
    (clients.ClientAsks.Goes tally (own ++ xs) body xs asked asks close (next xs) is few k)
asks_one tally own body asked signs _ next is few (clients.SeatAsks.Next _ _ xs asks close rest later e k more) =
    clients.SeatAsks.Next tally (map Some own ++ signs) (own ++ xs) (asked ∷ asks) close rest later (end_behind own xs signs rest e)
    (clients.ClientAsks.Goes tally (own ++ xs) body xs asked asks close (next xs) is few k) more

-- a query was taken
pub come-query : (tally next : Tally) (asked : Ask) (bytes body rest : List ℕ) (was is : Bool) → QueryNext bytes body rest → AskIs (tally.lines + 1) body asked → next ≡ after_ask tally asked
    → (AreTooMany (after_ask tally asked) → ⊥) → was ≡ false → is ≡ false
    → HasCome (record { tally = tally; begun = bytes; left = was }) [] (asked ∷ []) (record { tally = next; begun = rest; left = is })
come-query tally next asked bytes body rest false false q so after few e f = λ more others h.
    let part = message_part body bytes rest q in
    subst (λ (l : List (Option ℕ)). SeatAsks tally l (asked ∷ others)) (sym (two_parts part.own rest more) ∙ ap (λ (l : List ℕ). map Some l ++ more) (sym part.split))
    (asks_one tally part.own body asked (map Some rest ++ more) others part.next so few (subst (λ (p : Tally). SeatAsks p (map Some rest ++ more) others) after h))
come-query tally next asked bytes body rest true is q so after few e f = absurd (cc)
come-query tally next asked bytes body rest false true q so after few e f = absurd (cc)

-- these bytes end a client, whatever follows
closes_behind : (tally : Tally) (bytes : List ℕ) (parting : Parting) (signs : List (Option ℕ)) (others : List Ask) → PartsBy parting tally bytes → AskBehind (behind_end tally) signs others
    → SeatAsks tally (map Some bytes ++ signs) (ask.End (tally.lines + 1) parting ∷ others)
closes_behind tally bytes parting signs _ by (callers.AskBehind.Nothing xs _ e) =
    subst (λ (p : Parting). SeatAsks tally (map Some bytes ++ signs) (ask.End (tally.lines + 1) p ∷ [])) by.how
    (subst (λ (l : List Ask). SeatAsks tally (map Some bytes ++ signs) l) (last_told (next_line tally []) by.close by.told)
    (clients.SeatAsks.Last tally (map Some bytes ++ signs) (bytes ++ xs) [] by.close (bytes_behind bytes xs signs e) (by.closes xs)))
closes_behind tally bytes parting signs _ by (callers.AskBehind.Others xs _ rest asks e more) =
    subst (λ (p : Parting). SeatAsks tally (map Some bytes ++ signs) (ask.End (tally.lines + 1) p ∷ asks)) by.how
    (clients.SeatAsks.Next tally (map Some bytes ++ signs) (bytes ++ xs) [] by.close rest asks (end_behind bytes xs signs rest e) (by.closes xs) more)

-- a client left
pub come-left : (tally next : Tally) (bytes rest : List ℕ) (parting : Parting) (was is : Bool) → PartsBy parting tally bytes → next ≡ behind_end tally → was ≡ false → is ≡ true
    → HasCome (record { tally = tally; begun = bytes; left = was }) [] (ask.End (tally.lines + 1) parting ∷ []) (record { tally = next; begun = rest; left = is })
come-left tally next bytes rest parting false true by e f g = λ more others h. closes_behind tally bytes parting more others by (subst (λ (p : Tally). AskBehind p more others) e h)
come-left tally next bytes rest parting true is by e f g = absurd (cc)
come-left tally next bytes rest parting false false by e f g = absurd (cc)

-- by a query with which there are too many lines
pub spent_by : (tally : Tally) (bytes body rest : List ℕ) (asked : Ask) → QueryNext bytes body rest → AskIs (tally.lines + 1) body asked → AreTooMany (after_ask tally asked) → PartsBy Spent tally bytes
spent_by tally bytes body rest asked q is many = record {
  some = omega (arith, ap length q.split);
  close = Wrong Spent;
  told = tt;
  closes = λ more. clients.ClientAsks.Exceeds tally (bytes ++ more) body (rest ++ more) asked (query_stays_whole bytes body rest more q) is many;
  how = refl;
}

-- a client's bytes end
ends_so : (tally : Tally) (begun : List ℕ) → IsUnfinished begun → (close : Close) × ClientAsks tally begun [] close × (parting_of close ≡ parting_behind begun)
ends_so tally [] h = (Open, clients.ClientAsks.Stops tally [] refl, refl)
ends_so tally (x ∷ begun) (inl e) = absurd (cc)
ends_so tally (x ∷ begun) (inr n) = (Cut, clients.ClientAsks.Cuts tally (x ∷ begun) [] [] n, refl)

-- the end of a client is asked, by what it has begun and not ended
pub come-end : (tally next : Tally) (begun rest : List ℕ) (was is : Bool) → IsUnfinished begun → next ≡ behind_end tally → rest ≡ [] → was ≡ false → is ≡ false
    → HasCome (record { tally = tally; begun = begun; left = was }) (None ∷ []) (ask.End (tally.lines + 1) (parting_behind begun) ∷ []) (record { tally = next; begun = rest; left = is })
come-end tally next begun rest false false h e none f g = λ more others k.
    let so = ends_so tally begun h in
    let further : SeatAsks (behind_end tally) more others
    = subst (λ (p : Tally). SeatAsks p more others) e (subst (λ (l : List ℕ). SeatAsks next (map Some l ++ more) others) none k) in
    subst (λ (p : Parting). SeatAsks tally (map Some begun ++ None ∷ more) (ask.End (tally.lines + 1) p ∷ others)) so.2
    (clients.SeatAsks.Next tally (map Some begun ++ None ∷ more) begun [] so.0 more others refl so.1 further)
come-end tally next begun rest true is h e none f g = absurd (cc)
come-end tally next begun rest false true h e none f g = absurd (cc)

-- the input ends there
pub nothing_more : (tally : Tally) (begun : List ℕ) (left : Bool) → (left ≡ false → IsUnfinished begun) → AskFrom left tally begun [] []
nothing_more tally begun true h = callers.AskBehind.Nothing [] [] refl
nothing_more tally begun false h = last (h refl)
  where
    last : IsUnfinished begun → SeatAsks tally (map Some begun ++ []) []
    last (inl e) = clients.SeatAsks.Last tally (map Some begun ++ []) begun [] Open (append-nil (map Some begun)) (clients.ClientAsks.Stops tally begun e)
    last (inr n) = clients.SeatAsks.Last tally (map Some begun ++ []) begun [] Cut (append-nil (map Some begun)) (clients.ClientAsks.Cuts tally begun [] [] n)
