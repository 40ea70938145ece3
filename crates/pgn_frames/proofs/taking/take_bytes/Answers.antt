use Rattle.std.proofs.Common.{◌≡◌, ◌++◌, ℕ, List, map, Some, refl, sym, ap, subst}
use Rattle.pgn_frames.specs.declared.caller.Caller.{Caller}
use Rattle.pgn_frames.specs.Callers.{TakesFirst, TakesFirstBytes}
use Rattle.pgn_frames.proofs.CallerLaws.{First-bytes, FirstBytes-all, err_any}
use Rattle.pgn_frames.proofs.taking.take_bytes.Goals as goal

pub returns-in-Ok-clause-first : goal.returns-in-Ok-clause-first
returns-in-Ok-clause-first g c =
    let bytes : List ℕ = c.args.bytes.now in
    let old : Caller = c.args.caller.now in
    let mid : Caller = c.take_whole.new.caller in
    let new : Caller = record mid { begun = c.extend_from_slice.new.self } in
    let first : TakesFirstBytes c.args.inbox.now.seat old new bytes = FirstBytes-all c.args.inbox.now.seat old mid new bytes c.in-Ok.n c.in-Ok.ensures.takes refl in
    let all : bytes ≡ old.begun.items ++ bytes = ap (λ (l : List ℕ). l ++ bytes) (sym c.requires.none) in
    err_any c.extend_from_slice.result (TakesFirst c.args.inbox.now.seat old new (map (λ (x : ℕ). Some x) bytes))
    (First-bytes c.args.inbox.now.seat old new bytes c.requires.here (subst (λ (l : List ℕ). TakesFirstBytes c.args.inbox.now.seat old new l) all first))
