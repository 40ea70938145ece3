use Rattle.std.proofs.Common.{refl}
use Rattle.std.specs.Fmt.{digits}
use Rattle.pgn_examples.proofs.texts.texts.Goals as goal

pub returns-clause-tags : goal.returns-clause-tags
unfolding digits
returns-clause-tags c = refl

pub returns-clause-refusals : goal.returns-clause-refusals
unfolding digits
returns-clause-refusals c = refl

pub returns-clause-committed_entry : goal.returns-clause-committed_entry
unfolding digits
returns-clause-committed_entry c = refl

pub returns-clause-aborted_entry : goal.returns-clause-aborted_entry
unfolding digits
returns-clause-aborted_entry c = refl

pub returns-clause-journal : goal.returns-clause-journal
unfolding digits
returns-clause-journal c = refl

pub returns-clause-first_section : goal.returns-clause-first_section
unfolding digits
returns-clause-first_section c = refl

pub returns-clause-second_section : goal.returns-clause-second_section
unfolding digits
returns-clause-second_section c = refl

pub returns-clause-whole_output : goal.returns-clause-whole_output
unfolding digits
returns-clause-whole_output c = refl
