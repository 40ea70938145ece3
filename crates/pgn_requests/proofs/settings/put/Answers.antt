use Rattle.std.proofs.Common.{◌≡◌, ℕ, ◌<◌, ◌≤◌, List, ◌++◌, ◌∷◌, [], length, get_or, set, ap, sym, ◌∙◌, arith}
use Rattle.pgn_requests.specs.declared.settings.Entry.{Entry}
use Rattle.pgn_requests.proofs.SettingLaws.{place, revalued, with-there, with-nowhere}
use Rattle.pgn_requests.proofs.settings.put.Goals as goal

pub returns-then-at-len : goal.returns-then-at-len
returns-then-at-len c =
    let entries : List Entry = c.args.entries.now.items in
    let at : c.place_of-at.result ≡ place c.args.setting entries = c.place_of-at.ensures ∙ ap (place c.args.setting) c.as_slice.ensures.value in
    let within : place c.args.setting entries < length entries = omega (arith, at, c.if-at-len.true, c.len.ensures) in
    let one : Entry = c.index_mut.result.now in
    let there : one ≡ get_or entries (place c.args.setting entries) one = c.index_mut.ensures.value ∙ ap (λ (n : ℕ). get_or entries n one) at in
    ap (λ (n : ℕ). set entries n (revalued one c.in_ok-value.value)) at
    ∙ ap (λ (value : List ℕ). set entries (place c.args.setting entries) (revalued one value)) c.in_ok-value.ensures.equal
    ∙ sym (with-there c.args.setting entries one c.args.value.now within there)

pub returns : goal.returns
returns c =
    let entries : List Entry = c.args.entries.now.items in
    let at : c.place_of-at.result ≡ place c.args.setting entries = c.place_of-at.ensures ∙ ap (place c.args.setting) c.as_slice.ensures.value in
    let nowhere : length entries ≤ place c.args.setting entries = omega (arith, at, c.if-at-len.false, c.len.ensures) in
    c.in_ok-push.ensures.items ∙ ap (λ (value : List ℕ). entries ++ record { setting = c.args.setting; value = value } ∷ []) c.in_ok-value.ensures.equal ∙ sym (with-nowhere c.args.setting entries c.args.value.now nowhere)
