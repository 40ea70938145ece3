use Rattle.std.proofs.Common.{◌≡◌, ◌<◌, ◌-◌, ◌∙◌, ℕ, List, ap, length, min, arith, get_or}
use Rattle.std.proofs.lemmas.List.{get_or_read}
use Rattle.pgn_ledger.proofs.PlaceLaws.{place_at, places_long}
use Rattle.pgn_ledger.proofs.ledger.Ledger.place.Goals as goal

pub index-requires : goal.index-requires
index-requires c =
    let known = c.args.self.now.known in
    omega (arith, ap length known.placed, places_long c.args.self.now.format 0 c.args.self.now.journal.now)

pub returns-clause-value : goal.returns-clause-value
returns-clause-value c =
    let known = c.args.self.now.known in
    let within : min (c.args.x - 3) (length c.args.self.now.journal.now) < length c.args.self.now.places.items = omega (arith, ap length known.placed, places_long c.args.self.now.format 0 c.args.self.now.journal.now) in
    let at : c.min.result ≡ min (c.args.x - 3) (length c.args.self.now.journal.now) = omega arith in
    get_or_read c.args.self.now.places.items _ _ (omega (arith, within, at)) c.index.ensures 0 ∙ ap (λ (k : ℕ). get_or c.args.self.now.places.items k 0) at
    ∙ ap (λ (ps : List ℕ). get_or ps (min (c.args.x - 3) (length c.args.self.now.journal.now)) 0) known.placed ∙ place_at c.args.self.now.format c.args.self.now.journal.now c.args.x 0

pub returns-clause-within : goal.returns-clause-within
returns-clause-within c =
    let known = c.args.self.now.known in
    let within : min (c.args.x - 3) (length c.args.self.now.journal.now) < length c.args.self.now.places.items = omega (arith, ap length known.placed, places_long c.args.self.now.format 0 c.args.self.now.journal.now) in
    let there : c.min.result < length c.args.self.now.places.items = omega (arith, within) in
    let low = known.low c.min.result 0 there in
    omega (arith, low, get_or_read c.args.self.now.places.items _ _ there c.index.ensures 0)
