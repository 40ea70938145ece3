-- The line of a script that comes next, and what a commit of it needs.
use Rattle.std.proofs.Common.{◌≡◌, ℕ, ◌+◌, ◌<◌, ◌≤◌, false, true≢false, Result, Ok, Err, OnOk, List, ◌∷◌, length, drop, get_or, All, sym, ap, ◌∙◌, refl, subst, arith}
use Rattle.std.specs.Result.{is_err}
use Rattle.std.proofs.lemmas.List.{drop_more, length-drop}
use Rattle.std.proofs.lemmas.List.Elements.{All-drop, All-head}
use Rattle.pgn_language.specs.declared.scenario.Act.{Act}
use Rattle.pgn_language.specs.declared.scenario.ScriptLine.{ScriptLine}
use Rattle.pgn_hub.specs.declared.known.Known.{Known}
use Rattle.pgn_hub.specs.Shape.{Shape}
use Rattle.pgn_session.specs.declared.session.Session.{Session}
use Rattle.pgn_session.specs.declared.doing.Doing.{Doing}
use Rattle.pgn_session.specs.declared.doing.Doing.TheVariants.{Lines}
use Rattle.pgn_model.specs.Trace.{reads_first, next_reads_first}
use Rattle.pgn_session.specs.FirstRead.{IsToReadFirst, HasReadTold, HasReadFor}
use Rattle.pgn_session.specs.Standing.{IsFlagBelow}
use Rattle.pgn_session.specs.Steps.{StandsStill}
use Rattle.pgn_session.specs.Whole.{ComesWith, HasRest, HasRefused}

-- there is one where something is left of the script
pub some-left : (lines rest : List ScriptLine) (done : ℕ) (line : ScriptLine) → drop done lines ≡ line ∷ rest → done < length lines
some-left lines rest done line e =
    let some : length (drop done lines) ≡ length rest + 1 = ap (λ (ls : List ScriptLine). length ls) e ∙ omega arith in
    omega (arith, some, length-drop done lines)

-- it stands at its place, and this is its act
pub comes-at : {P : Type 0} (s : Session P) (now : List ScriptLine) (line : ScriptLine) (act : Act) → now ≡ s.section.lines → s.done < length s.section.lines → line ≡ get_or now s.done line → act ≡ line.act → ComesWith s line.line act
comes-at s now line act is lt there does = record {
  next = line;
  split = drop_more s.section.lines s.done line lt ∙ ap (λ (l : ScriptLine). l ∷ drop (s.done + 1) s.section.lines) (sym (there ∙ ap (λ (ls : List ScriptLine). get_or ls s.done line) is));
  number = refl;
  does = sym does;
}

-- what is read before such a line is read before this one
pub read-for : {P : Type 0} (known : P → Known) (s : Session P) (line : ℕ) (act : Act) → s.doing ≡ Lines → ComesWith s line act → (IsToReadFirst s → HasReadTold (known s.pass)) → HasReadFor act s.block.state (known s.pass)
read-for known s line act place comes read = λ outside reads.
    read (record { between = place; outside = outside; next = ap next_reads_first comes.split ∙ ap reads_first comes.does ∙ reads })

-- it comes with the act that it has
pub comes-as : {P : Type 0} (s : Session P) (line : ℕ) (act is : Act) → act ≡ is → ComesWith s line act → ComesWith s line is
comes-as s line act is e comes = subst (λ (a : Act). ComesWith s line a) e comes

-- a flag that it names is one of the hub's
pub comes-below : {P : Type 0} (flags : ℕ) (s : Session P) (line : ℕ) (act : Act) → ComesWith s line act → All (λ (l : ScriptLine). IsFlagBelow flags l.act) s.section.lines → IsFlagBelow flags act
comes-below flags s line act comes all =
    subst (λ (a : Act). IsFlagBelow flags a) comes.does
    (All-head (λ (l : ScriptLine). IsFlagBelow flags l.act) comes.next (drop (s.done + 1) s.section.lines)
    (subst (λ (ls : List ScriptLine). All (λ (l : ScriptLine). IsFlagBelow flags l.act) ls) comes.split (All-drop (λ (l : ScriptLine). IsFlagBelow flags l.act) s.done s.section.lines all)))

-- where it was refused nothing has changed
pub refused-still : {P : Type 0} (shape : Shape) (known : P → Known) (s : Session P) → s.doing ≡ Lines → HasRest shape known s → HasRefused shape known s Lines s
refused-still shape known s between rested = record {
  same = record { section = refl; plan = refl; patience = refl };
  place = subst (λ (d : Doing). StandsStill Lines d) (sym between) refl;
  pass = refl;
  shown = refl;
  counted = refl;
  channels = refl;
  rested = rested;
}

-- a part fits where the whole does
pub part-fits : (spare part rest most : ℕ) → spare + part + rest ≤ most → part ≤ most
part-fits spare part rest most fits = omega (arith, fits)

-- what holds where it was not refused
pub when-ok : {T E : Type 0} (r : Result T E) (P : Type 0) → is_err r ≡ false → OnOk r P → P
when-ok (Ok x) P e h = h
when-ok (Err x) P e h = absurd (true≢false e)
