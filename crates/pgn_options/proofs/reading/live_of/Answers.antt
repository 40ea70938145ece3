use Rattle.std.proofs.Common.{◌≡◌, ◌∙◌, Bool, true, false, cond, List, Option, Some, codes, ℕ}
use Rattle.clap.specs.Matches.{found_of, one_text}
use Rattle.clap.proofs.WalkLemmas.{one_text-rows}
use Rattle.pgn_options.proofs.reading.live_of.Goals as goal

read : (text : Option (List ℕ)) (r : Bool) → (text ≡ Some (codes "true") → r ≡ true) → (text ≡ Some (codes "false") → r ≡ false)
    → (given : Bool) → text ≡ Some (cond given (codes "true") (codes "false")) → r ≡ given
read text r on off true e = on e
read text r on off false e = off e

pub returns : goal.returns
returns c = λ given is.
    read (one_text (found_of c.args.found.now) (codes "live")) c.get_flag.result c.get_flag.ensures.value c.get_flag.ensures.other given (one_text-rows (found_of c.args.found.now) (codes "live") ∙ is)
