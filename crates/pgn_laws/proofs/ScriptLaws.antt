-- The numbers of a seat's script rise.
use Rattle.std.proofs.Common.{◌≡◌, ℕ, suc, ◌+◌, ◌<◌, ◌≤◌, List, [], ◌∷◌, length, refl, arith}
use Rattle.std.specs.Prelude.{flat_map}
use Rattle.pgn_base.specs.declared.command.Command.{Command}
use Rattle.pgn_base.specs.declared.command.Command.TheVariants.{Bad, Rollback, UnlistenAll}
use Rattle.pgn_language.specs.declared.scenario.Act.TheVariants.{Run, Quit}
use Rattle.pgn_language.specs.Inputs.{IsBelowFirst, Rise, QuitsLast}
use Rattle.pgn_messages.specs.declared.asked.Ask.{Ask}
use Rattle.pgn_messages.specs.declared.asked.Ask.TheVariants.{Query, Settle, Discard, End}
use Rattle.pgn_messages.specs.Asks.{GoOnFrom, lines_for, script_of}
use Rattle.pgn_messages.specs.TurnLaws.{ScriptRises}

-- a number below the first is below that of the first line
below : (asks : List Ask) (number n : ℕ) → GoOnFrom number asks → number ≤ 4294967295 → n < number → IsBelowFirst n (script_of asks)
below [] number n h few less = omega arith
below (Query query ∷ asks) number n h few less = let same : query.line ≡ number = h.0 in omega arith
below (Settle settled ∷ asks) number n h few less = below asks number n h few less
below (Discard line ∷ asks) number n h few less = let same : line ≡ number = h.0 in omega arith
below (End line parting ∷ asks) number n h few less = let same : line ≡ number = h.0 in omega arith

rises : (asks : List Ask) (number : ℕ) → GoOnFrom number asks → number + length (flat_map lines_for asks) ≤ 4294967295 → Rise (script_of asks)
rises [] number h few = (tt, tt)
rises (Query query ∷ asks) number h few =
    let same : query.line ≡ number = h.0 in
    let more : number + suc (length (flat_map lines_for asks)) ≤ 4294967295 = few in
    (below asks (number + 1) query.line h.1 (omega arith) (omega arith), rises asks (number + 1) h.1 (omega arith))
rises (Settle settled ∷ asks) number h few = rises asks number h few
rises (Discard line ∷ asks) number h few =
    let same : line ≡ number = h.0 in
    let more : number + suc (suc (length (flat_map lines_for asks))) ≤ 4294967295 = few in
    (omega arith, (below asks (number + 2) (line + 1) h.1 (omega arith) (omega arith), rises asks (number + 2) h.1 (omega arith)))
rises (End line parting ∷ asks) number h few =
    let same : line ≡ number = h.0 in
    let more : number + suc (suc (length (flat_map lines_for asks))) ≤ 4294967295 = few in
    (omega arith, (below asks (number + 2) (line + 1) h.1 (omega arith) (omega arith), rises asks (number + 2) h.1 (omega arith)))

-- what runs a command does not quit
goes_on : (command : Command) → Run command ≡ Quit → ⊥
goes_on command e = cc

quits_last : (asks : List Ask) → QuitsLast (script_of asks)
quits_last [] = (λ e. refl, tt)
quits_last (Query query ∷ asks) = (λ e. absurd (goes_on query.command e), quits_last asks)
quits_last (Settle settled ∷ asks) = quits_last asks
quits_last (Discard line ∷ asks) = (λ e. absurd (goes_on (Bad 0) e), (λ e. absurd (goes_on UnlistenAll e), quits_last asks))
quits_last (End line parting ∷ asks) = (λ e. absurd (goes_on Rollback e), (λ e. absurd (goes_on UnlistenAll e), quits_last asks))

-- the script of what is asked has rising numbers, and its `\quit` last
pub script_rises : ScriptRises
script_rises asks number h few = (rises asks number h few, quits_last asks)
