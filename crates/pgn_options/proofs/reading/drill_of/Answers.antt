use Rattle.std.proofs.Common.{Some, arith}
use Rattle.pgn_options.specs.Parse.{seed_max}
use Rattle.pgn_options.proofs.reading.drill_of.Goals as goal

pub returns-in_default : goal.returns-in_default
returns-in_default c = λ seed sessions notes finds. let same = c.number_of.ensures 0 seed_max (Some seed) (omega arith) finds.first in absurd (cc)

pub returns-in_default-small_of : goal.returns-in_default-small_of
returns-in_default-small_of c = λ seed sessions notes finds. let same = c.small_of.ensures 1 32 (Some sessions) (omega arith) finds.second in absurd (cc)

pub returns-in_default-small_of-2 : goal.returns-in_default-small_of-2
returns-in_default-small_of-2 c = λ seed sessions notes finds. let same = c.small_of-2.ensures 1 1000 (Some notes) (omega arith) finds.third in absurd (cc)

pub returns : goal.returns
returns c = λ seed sessions notes finds.
    let first = c.number_of.ensures 0 seed_max (Some seed) (omega arith) finds.first in
    let second = c.small_of.ensures 1 32 (Some sessions) (omega arith) finds.second in
    let third = c.small_of-2.ensures 1 1000 (Some notes) (omega arith) finds.third in
    cc
