-- A commit: what the block hands out, and what comes of it.
use Rattle.std.proofs.Common.{◌≡◌, ℕ, ◌+◌, ◌≤◌, cond, List, [], ◌∷◌, ◌++◌, length, drop, sym, ap, ◌∙◌, subst, arith}
use Rattle.std.proofs.lemmas.List.Sums.{sum_by-cons}
use Rattle.pgn_base.specs.declared.note.Note.{Note}
use Rattle.pgn_base.specs.declared.answers.Tag.{Tag}
use Rattle.pgn_base.specs.declared.action.Action.{Action}
use Rattle.pgn_answers.specs.declared.block_state.BlockState.{BlockState}
use Rattle.pgn_answers.specs.declared.block_state.BlockState.TheVariants.{Idle}
use Rattle.pgn_base.specs.declared.command.Command.{Command}
use Rattle.pgn_language.specs.declared.scenario.Act.{Act}
use Rattle.pgn_language.specs.declared.scenario.Act.TheVariants.{Run}
use Rattle.pgn_language.specs.declared.scenario.ScriptLine.{ScriptLine}
use Rattle.pgn_model.specs.declared.item.Item.{Item}
use Rattle.pgn_hub.specs.declared.known.Known.{Known}
use Rattle.pgn_answers.specs.Savepoints.{Change, changes_of, live_names, count_noted, surviving_actions, surviving_notes, firsts}
use Rattle.pgn_language.specs.Inputs.{QuitsLast, note_lines_of, is_note_act}
use Rattle.pgn_answers.specs.Answers.{Outcome, Commits, Replies, Refuses, Silent, GivesChannels, GivesUsage, answer, next_state, list_after}
use Rattle.pgn_model.specs.Walk.{Terms, State}
use Rattle.pgn_block.specs.Kept.{StandsFor, Kept}
use Rattle.pgn_block.specs.Views.{BlockView, viewed}
use Rattle.pgn_block.specs.Effects.{effect_of}
use Rattle.pgn_block.specs.declared.effect.Effect.TheVariants as effect
use Rattle.pgn_session.specs.declared.doing.FlagPlan.{FlagPlan}
use Rattle.pgn_session.specs.declared.doing.Doing.TheVariants.{Lines, Committing}
use Rattle.pgn_session.specs.Parts.{HasTaken}
use Rattle.pgn_session.specs.FirstRead.{HasReadFor}
use Rattle.pgn_session.specs.Standing.{IsRested}
use Rattle.pgn_answers.proofs.NotedLemmas.{noted-append, sent-fewer}
use Rattle.pgn_session.proofs.BlockLaws.{noted-one, comes}

-- what hands out is a commit
hands-out : (changes : List Change) (outcome : Outcome) (actions : List Action) (notes : List Note) (done : Tag) → effect.Commit actions notes done ≡ effect_of changes outcome
    → (outcome ≡ Commits done) × (actions ≡ surviving_actions changes) × (notes ≡ firsts (surviving_notes changes))
hands-out changes (Commits other) actions notes done e = (cc, cc, cc)
hands-out changes (Replies other warning next) actions notes done e = absurd (let no : ⊥ = cc in no)
hands-out changes (Refuses refusal next) actions notes done e = absurd (let no : ⊥ = cc in no)
hands-out changes Silent actions notes done e = absurd (let no : ⊥ = cc in no)
hands-out changes (GivesChannels names) actions notes done e = absurd (let no : ⊥ = cc in no)
hands-out changes GivesUsage actions notes done e = absurd (let no : ⊥ = cc in no)

-- a session whose block has handed out a commit
pub handed-out : (terms : Terms) (plan : FlagPlan) (done : ℕ) (block next : BlockView) (set : List (List ℕ)) (k : Known) (items : List Item) (line : ScriptLine) (lines : List ScriptLine) (c : Command) (actions : List Action) (notes : List Note) (tag : Tag)
    → IsRested terms plan done block set Lines k items → drop done terms.section.lines ≡ line ∷ lines → line.act ≡ Run c → HasReadFor (Run c) block.state k → HasTaken block c (effect.Commit actions notes tag) next
    → IsRested terms plan done next set (Committing actions notes tag) k items
handed-out terms plan done block next set k items line lines c actions notes tag h e does first taken =
    let s : State = h.state in
    let o : Outcome = answer block.state (live_names s.changes) s.set c in
    let is = hands-out (s.changes ++ changes_of c) o actions notes tag (taken.gives s.changes s.set h.here.0.list) in
    let leads : next.state ≡ Idle = taken.leads s.changes s.set h.here.0.list ∙ ap (λ (p : Outcome). next_state block.state p) is.0 in
    let leaves : StandsFor [] next.kept = subst (λ (p : Outcome). StandsFor (list_after s.changes c p) next.kept) is.0 (taken.leaves s.changes s.set h.here.0.list) in
    let rest : s.rest ≡ line ∷ lines = h.rest ∙ e in
    let all : note_lines_of s.rest ≡ cond (is_note_act line.act) 1 0 + note_lines_of lines = ap note_lines_of rest ∙ sum_by-cons (λ (l : ScriptLine). cond (is_note_act l.act) 1 0) line lines in
    let one : cond (is_note_act line.act) 1 0 ≡ count_noted (changes_of c) = ap (λ (a : Act). cond (is_note_act a) 1 0) does ∙ sym (noted-one c) in
    let fewer : length notes ≤ count_noted (s.changes ++ changes_of c) = subst (λ (ns : List Note). length ns ≤ count_noted (s.changes ++ changes_of c)) (sym is.2) (sent-fewer (s.changes ++ changes_of c)) in
    record {
      state = s;
      stands = h.stands;
      rest = h.rest;
      channels = h.channels;
      here = record {
        line = line;
        lines = lines;
        command = c;
        next = record {
          comes = comes terms plan done block set k items line (Run c) lines h e does first;
          commits = ap (λ (b : BlockState). answer b (live_names s.changes) s.set c) h.here.0.block_state ∙ is.0;
          actions_are = is.1;
          notes_are = is.2;
        };
        handed_out = ap (λ (b : BlockState). viewed b next.kept) leads ∙ ap (λ (kept : Kept). viewed Idle kept) (sym leaves);
        tells = h.here.0.tells;
        budget = omega (arith, fewer, h.here.0.budget, noted-append s.changes (changes_of c));
        quits_last = (subst QuitsLast rest h.here.0.quits_last).1;
      };
    }
