-- What words ask for, once they are read.
use Rattle.std.proofs.Common.{◌≡◌, ◌∙◌, ℕ, Bool, true, false, List, Some, None, refl, sym, ap}
use Rattle.pgn_base.specs.declared.format.Format.{Format}
use Rattle.pgn_options.specs.declared.asked.Asked.{Asked}
use Rattle.pgn_options.specs.declared.asked.Asked.TheVariants.{Run, Drill, Wire, Serve, Check}
use Rattle.pgn_options.specs.Words.{AreNoCommand, AskFor}
use Rattle.pgn_run.specs.Run.{AskToCheck, AskToDrill, AskToRun, AskToRunLive, AskToServe, AskToWire, asked_settings, settings_with, shows_if}
use Rattle.pgn_run.specs.declared.print.Print.TheVariants.{Text}
use Rattle.pgn_run.specs.declared.print.Shows.TheVariants.{AtEnd}

-- words that ask for something are a command
pub no-other : (words : List (List ℕ)) (asked : Asked) → AskFor words asked → AreNoCommand words → ⊥
no-other words asked e none = let bad : Some asked ≡ None = sym e ∙ none in cc

-- words that ask for a run ask for no drill
pub no-drill : (words : List (List ℕ)) (pages patience : ℕ) (format : Format) (live : Bool) → AskFor words (Run pages patience format live) → AskToDrill words → ⊥
no-drill words pages patience format live e other = let bad : Some (Run pages patience format live) ≡ Some (Drill other.seed other.sessions other.notes) = sym e ∙ other.asks in cc

-- words that ask for a drill ask for no run
pub no-run : (words : List (List ℕ)) (seed sessions notes : ℕ) → AskFor words (Drill seed sessions notes) → AskToRun words → ⊥
no-run words seed sessions notes e other = let bad : Some (Drill seed sessions notes) ≡ Some (Run other.pages other.patience other.format other.live) = sym e ∙ other.asks in cc

-- words that are no command ask for no run and no drill
pub none-runs : (words : List (List ℕ)) → AreNoCommand words → AskToRun words → ⊥
none-runs words none other = no-other words (Run other.pages other.patience other.format other.live) other.asks none

-- words that are no command ask for no drill
pub none-drills : (words : List (List ℕ)) → AreNoCommand words → AskToDrill words → ⊥
none-drills words none other = no-other words (Drill other.seed other.sessions other.notes) other.asks none

-- words that ask for a live run ask for a run
pub live-runs : (words : List (List ℕ)) → AskToRunLive words → AskToRun words
live-runs words ask = record { pages = ask.pages; patience = ask.patience; format = ask.format; live = true; asks = ask.asks }

-- words that ask for a run ask for no other
pub same-run : (words : List (List ℕ)) (pages patience : ℕ) (format : Format) (live : Bool) (ask : AskToRunLive words) → AskFor words (Run pages patience format live)
    → (ask.pages ≡ pages) × (ask.patience ≡ patience) × (ask.format ≡ format) × (live ≡ true)
same-run words pages patience format live ask e =
    let same : Some (Run ask.pages ask.patience ask.format true) ≡ Some (Run pages patience format live) = sym ask.asks ∙ e in
    (cc, cc, cc, cc)

-- what is asked for without `--live` is shown at its end
pub shows-once : (words : List (List ℕ)) (pages patience : ℕ) (format : Format) (live : Bool) → ¬ AskToRunLive words → AskFor words (Run pages patience format live) → shows_if live ≡ AtEnd Text
shows-once words pages patience format true once e = absurd (once (record { pages = pages; patience = patience; format = format; asks = e }))
shows-once words pages patience format false once e = refl

-- words that ask to serve a client ask for nothing else
pub run-no_wire : (words : List (List ℕ)) (pages patience : ℕ) (format : Format) (live : Bool) → AskFor words (Run pages patience format live) → AskToWire words → ⊥
run-no_wire words pages patience format live e other = let bad : Some (Run pages patience format live) ≡ Some Wire = sym e ∙ other in cc

-- words that ask for a drill do not ask for `wire`
pub drill-no_wire : (words : List (List ℕ)) (seed sessions notes : ℕ) → AskFor words (Drill seed sessions notes) → AskToWire words → ⊥
drill-no_wire words seed sessions notes e other = let bad : Some (Drill seed sessions notes) ≡ Some Wire = sym e ∙ other in cc

-- words that ask for `wire` do not ask for a run
pub wire-no_run : (words : List (List ℕ)) → AskToWire words → AskToRun words → ⊥
wire-no_run words e other = run-no_wire words other.pages other.patience other.format other.live other.asks e

-- nor for a drill
pub wire-no_drill : (words : List (List ℕ)) → AskToWire words → AskToDrill words → ⊥
wire-no_drill words e other = drill-no_wire words other.seed other.sessions other.notes other.asks e

-- words that are no command do not ask for `wire`
pub none-wires : (words : List (List ℕ)) → AreNoCommand words → AskToWire words → ⊥
none-wires words none other = no-other words Wire other none

-- words that ask to check ask for nothing else
pub check-no_run : (words : List (List ℕ)) (pages patience : ℕ) (format : Format) → AskFor words (Check pages patience format) → AskToRun words → ⊥
check-no_run words pages patience format e other =
    let bad : Some (Check pages patience format) ≡ Some (Run other.pages other.patience other.format other.live) = sym e ∙ other.asks in cc

-- words that ask for a check do not ask for a drill
pub check-no_drill : (words : List (List ℕ)) (pages patience : ℕ) (format : Format) → AskFor words (Check pages patience format) → AskToDrill words → ⊥
check-no_drill words pages patience format e other = let bad : Some (Check pages patience format) ≡ Some (Drill other.seed other.sessions other.notes) = sym e ∙ other.asks in cc

-- nor for `wire`
pub check-no_wire : (words : List (List ℕ)) (pages patience : ℕ) (format : Format) → AskFor words (Check pages patience format) → AskToWire words → ⊥
check-no_wire words pages patience format e other = let bad : Some (Check pages patience format) ≡ Some Wire = sym e ∙ other in cc

-- words that ask for a run do not ask for a check
pub run-no_check : (words : List (List ℕ)) (pages patience : ℕ) (format : Format) (live : Bool) → AskFor words (Run pages patience format live) → AskToCheck words → ⊥
run-no_check words pages patience format live e other =
    check-no_run words other.pages other.patience other.format other.asks (record { pages = pages; patience = patience; format = format; live = live; asks = e })

-- words that ask for a drill do not ask for a check
pub drill-no_check : (words : List (List ℕ)) (seed sessions notes : ℕ) → AskFor words (Drill seed sessions notes) → AskToCheck words → ⊥
drill-no_check words seed sessions notes e other =
    check-no_drill words other.pages other.patience other.format other.asks (record { seed = seed; sessions = sessions; notes = notes; asks = e })

-- words that ask for `wire` do not ask for a check
pub wire-no_check : (words : List (List ℕ)) → AskToWire words → AskToCheck words → ⊥
wire-no_check words e other = check-no_wire words other.pages other.patience other.format other.asks e

-- words that are no command do not ask for a check
pub none-checks : (words : List (List ℕ)) → AreNoCommand words → AskToCheck words → ⊥
none-checks words none other = no-other words (Check other.pages other.patience other.format) other.asks none

-- words that ask to check give one set of settings
pub same-check : (words : List (List ℕ)) (pages patience : ℕ) (format : Format) (ask : AskToCheck words) → AskFor words (Check pages patience format)
    → asked_settings ask ≡ settings_with pages patience format
same-check words pages patience format ask e =
    let same : Some (Check ask.pages ask.patience ask.format) ≡ Some (Check pages patience format) = sym ask.asks ∙ e in
    let a : ask.pages ≡ pages = cc in
    let b : ask.patience ≡ patience = cc in
    let f : ask.format ≡ format = cc in
    ap (λ (n : ℕ). settings_with n ask.patience ask.format) a ∙ ap (λ (n : ℕ). settings_with pages n ask.format) b ∙ ap (λ (g : Format). settings_with pages patience g) f

-- words that ask to serve seats ask for nothing else
pub serve-no_run : (words : List (List ℕ)) (seats : ℕ) → AskFor words (Serve seats) → AskToRun words → ⊥
serve-no_run words seats e other = let bad : Some (Serve seats) ≡ Some (Run other.pages other.patience other.format other.live) = sym e ∙ other.asks in cc

-- words that ask for a service do not ask for a drill
pub serve-no_drill : (words : List (List ℕ)) (seats : ℕ) → AskFor words (Serve seats) → AskToDrill words → ⊥
serve-no_drill words seats e other = let bad : Some (Serve seats) ≡ Some (Drill other.seed other.sessions other.notes) = sym e ∙ other.asks in cc

-- nor for `wire`
pub serve-no_wire : (words : List (List ℕ)) (seats : ℕ) → AskFor words (Serve seats) → AskToWire words → ⊥
serve-no_wire words seats e other = let bad : Some (Serve seats) ≡ Some Wire = sym e ∙ other in cc

-- nor for a check
pub serve-no_check : (words : List (List ℕ)) (seats : ℕ) → AskFor words (Serve seats) → AskToCheck words → ⊥
serve-no_check words seats e other = let bad : Some (Serve seats) ≡ Some (Check other.pages other.patience other.format) = sym e ∙ other.asks in cc

-- words that ask for a run do not ask for a service
pub run-no_serve : (words : List (List ℕ)) (pages patience : ℕ) (format : Format) (live : Bool) → AskFor words (Run pages patience format live) → AskToServe words → ⊥
run-no_serve words pages patience format live e other = serve-no_run words other.seats other.asks (record { pages = pages; patience = patience; format = format; live = live; asks = e })

-- words that ask for a drill do not ask for a service
pub drill-no_serve : (words : List (List ℕ)) (seed sessions notes : ℕ) → AskFor words (Drill seed sessions notes) → AskToServe words → ⊥
drill-no_serve words seed sessions notes e other = serve-no_drill words other.seats other.asks (record { seed = seed; sessions = sessions; notes = notes; asks = e })

-- words that ask for `wire` do not ask for a service
pub wire-no_serve : (words : List (List ℕ)) → AskToWire words → AskToServe words → ⊥
wire-no_serve words e other = serve-no_wire words other.seats other.asks e

-- words that ask for a check do not ask for a service
pub check-no_serve : (words : List (List ℕ)) (pages patience : ℕ) (format : Format) → AskFor words (Check pages patience format) → AskToServe words → ⊥
check-no_serve words pages patience format e other = serve-no_check words other.seats other.asks (record { pages = pages; patience = patience; format = format; asks = e })

-- words that are no command do not ask for a service
pub none-serves : (words : List (List ℕ)) → AreNoCommand words → AskToServe words → ⊥
none-serves words none other = no-other words (Serve other.seats) other.asks none

-- and give one number of them
pub same-seats : (words : List (List ℕ)) (seats : ℕ) (ask : AskToServe words) → AskFor words (Serve seats) → ask.seats ≡ seats
same-seats words seats ask e = let same : Some (Serve ask.seats) ≡ Some (Serve seats) = sym ask.asks ∙ e in cc
