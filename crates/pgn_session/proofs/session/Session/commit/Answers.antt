use Rattle.std.proofs.Common.{◌≡◌, ◌≢◌, ◌+◌, ◌<◌, ◌≤◌, ℕ, List, AllPairs, length, drop, ap, ◌∙◌, sym, subst, refl}
use Rattle.pgn_base.specs.declared.note.Note.{Note}
use Rattle.pgn_model.specs.declared.item.Item.{Item}
use Rattle.pgn_base.specs.declared.action.Action.{Action}
use Rattle.pgn_language.specs.Inputs.{note_lines_of}
use Rattle.pgn_answers.proofs.SavepointLemmas.{firsts-differ}
use Rattle.pgn_session.specs.declared.session.Session.{Session}
use Rattle.pgn_session.specs.declared.doing.Doing.{Doing}
use Rattle.pgn_session.specs.declared.doing.Doing.TheVariants.{Lines, Committing}
use Rattle.pgn_session.specs.Standing.{terms_of, spare_of, IsAnswered, IsRested}
use Rattle.pgn_session.specs.Steps.{ShowsNext}
use Rattle.pgn_session.specs.declared.doing.Step.TheVariants.{Did}
use Rattle.pgn_session.specs.Whole.{HasStepped, RestsAt}
use Rattle.pgn_session.proofs.FullLaws.{commit-answered}
use Rattle.pgn_session.proofs.NextLaws.{some-left, part-fits, when-ok}
use Rattle.pgn_session.proofs.WholeLaws.{did-goes_on}
use Rattle.pgn_session.proofs.session.Session.commit.Goals as goal

pub carry_out-requires-clause-different : goal.carry_out-requires-clause-different
carry_out-requires-clause-different g c =
    subst (λ (notes : List Note). AllPairs (λ (a : Note) (b : Note). a ≢ b) notes) (sym c.requires.rested.here.next.notes_are) (firsts-differ _)

pub returns-clause-stepped : goal.returns-clause-stepped
returns-clause-stepped g c =
    let s = c.args.self.now in
    let m = c.make_room.new.self in
    let z = c.carry_out.new.self in
    let shape = g.H.Hub.shape c.args.hub.now in
    let known = g.P.PassView.known in
    let q = known z.pass in
    let stood : Doing = Committing c.args.commit.actions c.args.commit.notes c.args.commit.tag in
    let same = c.make_room.ensures.same in
    let terms = terms_of shape s.section s.patience in
    let rested : RestsAt shape known m stood = subst (λ (x : Session g.row.P.Denot). RestsAt shape known x stood) (sym same)
    (subst (λ (items : List Item). IsRested terms s.plan s.done s.block m.set.channels stood (known s.pass) items) (sym c.make_room.ensures.items)
    (subst (λ (set : List (List ℕ)). IsRested terms s.plan s.done s.block set stood (known s.pass) s.items.items) (sym c.make_room.ensures.channels) c.requires.rested)) in
    let number = c.next_number-line.ensures.number rested.here.line rested.here.lines (sym rested.rest ∙ rested.here.next.comes.next) in
    let answers = commit-answered shape m.section m.patience m.plan m.done m.set.channels z.set.channels (known m.pass) q m.items.items z.items.items c.args.commit.actions c.args.commit.notes c.args.commit.tag m.block c.next_number-line.result
    rested number c.carry_out.ensures.committed in
    let between : m.doing ≡ Lines = ap (λ (x : Session g.row.P.Denot). x.doing) same ∙ c.requires.place in
    let shows : ShowsNext (drop s.done s.section.lines) (known s.pass) q s.items.items z.items.items =
    subst (λ (items : List Item). ShowsNext (drop s.done s.section.lines) (known s.pass) q items z.items.items) c.make_room.ensures.items
    (subst (λ (x : Session g.row.P.Denot). ShowsNext (drop x.done x.section.lines) (known x.pass) q m.items.items z.items.items) same answers.1) in
    subst (λ (x : Session g.row.P.Denot). HasStepped shape known s stood (record x { done = x.done + 1 }) Did) (sym c.carry_out.ensures.same) (record {
      same = record { section = ap (λ (x : Session g.row.P.Denot). x.section) same; plan = ap (λ (x : Session g.row.P.Denot). x.plan) same; patience = ap (λ (x : Session g.row.P.Denot). x.patience) same };
      answered = subst (λ (d : Doing). IsAnswered (terms_of shape m.section m.patience) m.plan (m.done + 1) m.block z.set.channels d q z.items.items) (sym between) answers.0;
      rested = λ ended. absurd (did-goes_on ended);
      moved = (shows, between, refl, ap (λ (x : Session g.row.P.Denot). x.done + 1) same);
    })

pub next_number-line-requires : goal.next_number-line-requires
next_number-line-requires g c = record {
  more =
      let s = c.args.self.now in
      let r = c.requires.rested in
      let left : s.done < length s.section.lines = some-left s.section.lines r.here.lines s.done r.here.line (sym r.rest ∙ r.here.next.comes.next) in
      subst (λ (x : Session g.row.P.Denot). x.done < length x.section.lines) (sym c.make_room.ensures.same) left;
}

pub carry_out-requires-clause-few : goal.carry_out-requires-clause-few
carry_out-requires-clause-few g c =
    let s = c.args.self.now in
    let r = c.requires.rested in
    let few : length c.args.commit.notes ≤ (g.P.PassView.known s.pass).notes_left = part-fits (spare_of s.section) (length c.args.commit.notes) (note_lines_of r.here.lines) (g.P.PassView.known s.pass).notes_left r.here.budget in
    subst (λ (x : Session g.row.P.Denot). length c.args.commit.notes ≤ (g.P.PassView.known x.pass).notes_left) (sym c.make_room.ensures.same) few

pub carry_out-requires-clause-room : goal.carry_out-requires-clause-room
carry_out-requires-clause-room g c = when-ok c.make_room.result _ (sym c.is_err.ensures.value ∙ c.if-is_err.false) c.make_room.ensures.room

pub carry_out-requires-clause-set_room : goal.carry_out-requires-clause-set_room
carry_out-requires-clause-set_room g c =
    subst (λ (actions : List Action). length actions ≤ c.make_room.new.self.set.room) c.as_slice.ensures (when-ok c.make_room.result _ (sym c.is_err.ensures.value ∙ c.if-is_err.false) c.make_room.ensures.set_room)

pub returns-then-is_err-clause-refused : goal.returns-then-is_err-clause-refused
returns-then-is_err-clause-refused g c =
    let s = c.args.self.now in
    let m = c.make_room.new.self in
    let shape = g.H.Hub.shape c.args.hub.now in
    let known = g.P.PassView.known in
    let stood : Doing = Committing c.args.commit.actions c.args.commit.notes c.args.commit.tag in
    let same = c.make_room.ensures.same in
    let terms = terms_of shape s.section s.patience in
    rw c.set.ensures (record {
      same = record { section = ap (λ (x : Session g.row.P.Denot). x.section) same; plan = ap (λ (x : Session g.row.P.Denot). x.plan) same; patience = ap (λ (x : Session g.row.P.Denot). x.patience) same };
      place = refl;
      pass = ap (λ (x : Session g.row.P.Denot). x.pass) same;
      shown = c.make_room.ensures.items;
      counted = ap (λ (x : Session g.row.P.Denot). x.done) same;
      channels = c.make_room.ensures.channels;
      rested = subst (λ (x : Session g.row.P.Denot). RestsAt shape known x stood) (sym same)
          (subst (λ (items : List Item). IsRested terms s.plan s.done s.block m.set.channels stood (known s.pass) items) (sym c.make_room.ensures.items)
          (subst (λ (set : List (List ℕ)). IsRested terms s.plan s.done s.block set stood (known s.pass) s.items.items) (sym c.make_room.ensures.channels) c.requires.rested));
    })

pub returns-then-is_err-clause-own : goal.returns-then-is_err-clause-own
returns-then-is_err-clause-own g c = subst (λ (x : Session g.row.P.Denot). g.H.Hub.is_pass c.args.hub.now x.pass) (sym c.make_room.ensures.same) c.requires.own

pub carry_out-requires-clause-own : goal.carry_out-requires-clause-own
carry_out-requires-clause-own g c = subst (λ (x : Session g.row.P.Denot). g.H.Hub.is_pass c.args.hub.now x.pass) (sym c.make_room.ensures.same) c.requires.own
