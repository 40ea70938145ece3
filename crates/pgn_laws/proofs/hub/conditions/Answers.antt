use Rattle.std.proofs.Common.{ap, is_some}
use Rattle.pgn_hub.specs.declared.known.Known.{Known}
use Rattle.pgn_laws.proofs.SeatLaws.{opened-seats, opened-marks, opened-sets}
use Rattle.pgn_laws.proofs.hub.conditions.Goals as goal

pub returns-clause-seats : goal.returns-clause-seats
returns-clause-seats c = record {
  opened = opened-seats;
  published = λ old new notes x h. record { session = ap (λ (k : Known). k.session) h.known; database = ap (λ (k : Known). k.db) h.known };
  met_full = λ shape old new notes full h. record { session = ap (λ (k : Known). k.session) h.known; database = ap (λ (k : Known). k.db) h.known };
  enlisted = λ old new got h. record { session = ap (λ (k : Known). k.session) h.known; database = ap (λ (k : Known). k.db) h.known };
  interested = λ old new set h. record { session = ap (λ (k : Known). k.session) h; database = ap (λ (k : Known). k.db) h };
  read = λ old new set to before after h. record { session = ap (λ (k : Known). k.session) h.known; database = ap (λ (k : Known). k.db) h.known };
  learned = λ old new h. record { session = ap (λ (k : Known). k.session) h.known; database = ap (λ (k : Known). k.db) h.known };
  left = λ old new h. record { session = ap (λ (k : Known). k.session) h.known; database = ap (λ (k : Known). k.db) h.known };
  woken = λ format old new woken h. record { session = ap (λ (k : Known). k.session) h.known; database = ap (λ (k : Known). k.db) h.known };
  raised = λ old new flag x h. record { session = ap (λ (k : Known). k.session) h.known; database = ap (λ (k : Known). k.db) h.known };
  found_none = λ old new flag h. record { session = ap (λ (k : Known). k.session) h.known; database = ap (λ (k : Known). k.db) h.known };
  found = λ old new flag x h. record { session = ap (λ (k : Known). k.session) h.known; database = ap (λ (k : Known). k.db) h.known };
  measured = λ shape old new usage h. record { session = ap (λ (k : Known). k.session) h.known; database = ap (λ (k : Known). k.db) h.known };
  heard = λ from old new h. record { session = ap (λ (k : Known). k.session) h.known; database = ap (λ (k : Known). k.db) h.known };
}

pub returns-clause-marks : goal.returns-clause-marks
returns-clause-marks c = record {
  opened = opened-marks;
  enlisted = λ old new got h. ap (λ (k : Known). is_some k.mark) h.known;
  interested = λ old new set h. ap (λ (k : Known). k.mark) h;
  read = λ old new set to before after h. ap (λ (k : Known). is_some k.mark) h.known;
  left = λ old new h. ap (λ (k : Known). k.mark) h.known;
  learned = λ old new h. ap (λ (k : Known). k.mark) h.known;
  published = λ old new notes x h. ap (λ (k : Known). k.mark) h.known;
  met_full = λ shape old new notes full h. ap (λ (k : Known). k.mark) h.known;
  woken = λ format old new woken h. ap (λ (k : Known). k.mark) h.known;
  raised = λ old new flag x h. ap (λ (k : Known). k.mark) h.known;
  found_none = λ old new flag h. ap (λ (k : Known). k.mark) h.known;
  found = λ old new flag x h. ap (λ (k : Known). k.mark) h.known;
  measured = λ shape old new usage h. ap (λ (k : Known). k.mark) h.known;
  heard = λ from old new h. ap (λ (k : Known). k.mark) h.known;
}

pub returns-clause-sets : goal.returns-clause-sets
returns-clause-sets c = record {
  opened = opened-sets;
  enlisted = λ old new got h. ap (λ (k : Known). k.set) h.known;
  interested = λ old new set h. ap (λ (k : Known). k.set) h;
  read = λ old new set to before after h. ap (λ (k : Known). k.set) h.known;
  learned = λ old new h. ap (λ (k : Known). k.set) h.known;
  published = λ old new notes x h. ap (λ (k : Known). k.set) h.known;
  met_full = λ shape old new notes full h. ap (λ (k : Known). k.set) h.known;
  woken = λ format old new woken h. ap (λ (k : Known). k.set) h.known;
  raised = λ old new flag x h. ap (λ (k : Known). k.set) h.known;
  found_none = λ old new flag h. ap (λ (k : Known). k.set) h.known;
  found = λ old new flag x h. ap (λ (k : Known). k.set) h.known;
  measured = λ shape old new usage h. ap (λ (k : Known). k.set) h.known;
  heard = λ from old new h. ap (λ (k : Known). k.set) h.known;
}
