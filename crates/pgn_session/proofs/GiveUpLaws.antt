-- A session that has given up has raised its end flag.
use Rattle.std.proofs.Common.{◌≡◌, ℕ, [], ◌∷◌, ◌++◌, ap, sym, subst}
use Rattle.std.specs.List.{Contains}
use Rattle.std.proofs.lemmas.List.Elements.{Contains-push}
use Rattle.pgn_hub.specs.declared.known.Known.{Known}
use Rattle.pgn_hub.specs.Calls.{HasRaised}
use Rattle.pgn_session.specs.declared.session.Session.{Session}
use Rattle.pgn_session.specs.Standing.{end_flag}
use Rattle.pgn_session.specs.Runs.{HasGivenUp}

-- who has raised its end flag has given up, whatever else is the same
pub given-up : {P : Type 0} (known : P → Known) (old new : Session P) (x : ℕ) → HasRaised (known old.pass) (known new.pass) (end_flag old.plan old.section.no) x → new ≡ record old { pass = new.pass } → HasGivenUp known new
given-up {P} known old new x raised same =
    let k : Known = known old.pass in
    let flag = ap (λ (s : Session P). end_flag s.plan s.section.no) same in
    let has : Contains (k.raised ++ (end_flag old.plan old.section.no, x) ∷ []) (end_flag old.plan old.section.no, x) = Contains-push k.raised (end_flag old.plan old.section.no, x) in
    let told : Contains (k.raised ++ (end_flag old.plan old.section.no, x) ∷ []) (end_flag old.plan old.section.no, k.told) = subst (λ (n : ℕ). Contains (k.raised ++ (end_flag old.plan old.section.no, x) ∷ []) (end_flag old.plan old.section.no, n)) raised.shown has in
    subst (λ (n : Known). Contains n.raised (end_flag new.plan new.section.no, n.told)) (sym raised.known)
    (subst (λ (f : ℕ). Contains (k.raised ++ (end_flag old.plan old.section.no, x) ∷ []) (f, k.told)) (sym flag) told)
