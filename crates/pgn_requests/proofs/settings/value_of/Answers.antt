use Rattle.std.proofs.Common.{◌≡◌, ℕ, ◌<◌, ◌≤◌, length, get_or, ap, ◌∙◌, arith}
use Rattle.std.proofs.lemmas.Bool.Decides.{nat_tests}
use Rattle.pgn_requests.proofs.SettingLaws.{place, value-there, value-nowhere}
use Rattle.pgn_requests.proofs.settings.value_of.Goals as goal

pub returns-in-Some : goal.returns-in-Some
returns-in-Some c =
    let looked = c.in-Some.ensures.lookup in
    let at : c.place_of.result ≡ place c.args.setting c.args.entries.now = c.place_of.ensures in
    let first = looked.0 in
    let within : c.place_of.result < length c.args.entries.now = grind (arith, nat_tests) in
    let one = c.in-Some.entry.now in
    value-there c.args.setting c.args.entries.now one (omega (arith, at, within)) (looked.1 ∙ ap (λ (n : ℕ). get_or c.args.entries.now n one) at)

pub returns-in-None : goal.returns-in-None
returns-in-None c =
    let looked = c.in-None.ensures.lookup in
    let first = looked.0 in
    let at : c.place_of.result ≡ place c.args.setting c.args.entries.now = c.place_of.ensures in
    let within : length c.args.entries.now ≤ c.place_of.result = grind (arith, nat_tests) in
    value-nowhere c.args.setting c.args.entries.now (omega (arith, at, within))
