use Rattle.std.proofs.Common.{◌≡◌, List, ◌++◌, ℕ, [], Result, Ok, Err, is_err, OnOk, false, sym, ap, ◌∙◌}
use Rattle.std.proofs.lemmas.Bool.{true≢false}
use Rattle.pgn_base.specs.declared.source.Failed.{Failed}
use Rattle.pgn_text.proofs.PutsLaws.{Puts-failed, Puts-kept, Puts-written}
use Rattle.pgn_text.proofs.out.Out.keep.Goals as goal

-- what holds while nothing has failed
while-fine : (result : Result Unit Failed) (P : Type 0) → is_err result ≡ false → OnOk result P → P
while-fine (Ok x) P fine p = p
while-fine (Err d) P fine p = absurd (true≢false fine)

pub returns-then-is_err : goal.returns-then-is_err
returns-then-is_err g c = Puts-failed _ _ _ _ _ _ _ (sym c.is_err.ensures.value ∙ c.if-is_err.true)

pub returns-then-piece-ge-SIZE : goal.returns-then-piece-ge-SIZE
returns-then-piece-ge-SIZE g c =
    let fine : is_err c.args.self.now.so_far ≡ false = sym c.is_err.ensures.value ∙ c.if-is_err.false in
    let none : c.args.self.now.kept ≡ [] = while-fine _ _ fine c.requires in
    Puts-written _ _ _ _ _ _ _ _ _ _ fine none (ap (λ (kept : List ℕ). kept ++ c.args.piece.now) none) c.write_all-self.ensures.bytes c.write_all-self.ensures.cause

pub returns : goal.returns
returns g c = Puts-kept _ _ _ _ _ _ _ c.push.ensures
