use Rattle.std.proofs.Common.{◌≡◌, ◌++◌, ℕ, List, map, drop, Some, rules, refl, ap, ◌∙◌, subst}
use Rattle.pgn_frames.specs.declared.caller.Caller.{Caller}
use Rattle.pgn_frames.specs.Callers.{IsUnfinished, TakesBytes, TakesFirst}
use Rattle.pgn_frames.proofs.CallerLaws.{First-bytes, FirstBytes-all, Takes-bytes, err_any}
use Rattle.pgn_frames.proofs.taking.take_behind.Goals as goal

pub returns-in-Ok-eq0-clause-takes : goal.returns-in-Ok-eq0-clause-takes
returns-in-Ok-eq0-clause-takes g c =
    let bytes : List ℕ = c.args.bytes.now in
    let old : Caller = c.args.caller.now in
    let mid : Caller = c.take_grown.new.caller in
    let new : Caller = record mid { begun = c.take_grown.new.begun } in
    let was : c.replace-begun.result.items ≡ old.begun.items = search rules in
    let zero : c.in-Ok-eq0.field-0 ≡ 0 = search rules in
    let t = c.in-Ok-eq0.ensures.takes in
    let takes : TakesBytes c.args.inbox.now.seat old mid (c.replace-begun.result.items ++ bytes) c.in-Ok-eq0.field-0 = record { asks = t.asks; put = t.put; come = t.come } in
    let none : TakesBytes c.args.inbox.now.seat old mid (old.begun.items ++ bytes) 0
    = subst (λ (n : ℕ). TakesBytes c.args.inbox.now.seat old mid (old.begun.items ++ bytes) n) zero (subst (λ (l : List ℕ). TakesBytes c.args.inbox.now.seat old mid (l ++ bytes) c.in-Ok-eq0.field-0) was takes) in
    let cut : IsUnfinished (old.begun.items ++ bytes)
    = subst (λ (n : ℕ). IsUnfinished (drop n (old.begun.items ++ bytes))) zero (subst (λ (l : List ℕ). IsUnfinished (drop c.in-Ok-eq0.field-0 (l ++ bytes))) was c.in-Ok-eq0.ensures.unfinished) in
    Takes-bytes c.args.inbox.now.seat old mid new bytes 0 c.requires.here none cut refl refl refl (c.in-Ok-eq0.ensures.grown ∙ ap (λ (l : List ℕ). l ++ bytes) was)

pub returns-in-Ok-clause-first : goal.returns-in-Ok-clause-first
returns-in-Ok-clause-first g c =
    let bytes : List ℕ = c.args.bytes.now in
    let old : Caller = c.args.caller.now in
    let mid : Caller = c.take_grown.new.caller in
    let new : Caller = record mid { begun = c.extend_from_slice-kept.new.self } in
    let was : c.replace-begun.result.items ≡ old.begun.items = search rules in
    let t = c.in-Ok.ensures.takes in
    let takes : TakesBytes c.args.inbox.now.seat old mid (c.replace-begun.result.items ++ bytes) c.in-Ok.n = record { asks = t.asks; put = t.put; come = t.come } in
    let all : TakesBytes c.args.inbox.now.seat old mid (old.begun.items ++ bytes) c.in-Ok.n = subst (λ (l : List ℕ). TakesBytes c.args.inbox.now.seat old mid (l ++ bytes) c.in-Ok.n) was takes in
    err_any c.extend_from_slice-kept.result (TakesFirst c.args.inbox.now.seat old new (map (λ (x : ℕ). Some x) bytes))
    (First-bytes c.args.inbox.now.seat old new bytes c.requires.here (FirstBytes-all c.args.inbox.now.seat old mid new (old.begun.items ++ bytes) c.in-Ok.n all refl))
