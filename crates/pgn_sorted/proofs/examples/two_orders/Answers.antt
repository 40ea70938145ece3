use Rattle.pgn_sorted.proofs.ExampleLaws.{read_last-came, sender_first-came, read_last-shown, sender_first-shown, read_last-sorted, sender_first-sorted}
use Rattle.pgn_sorted.proofs.examples.two_orders.Goals as goal

pub returns-clause-read_last_came : goal.returns-clause-read_last_came
returns-clause-read_last_came c = read_last-came

pub returns-clause-sender_first_came : goal.returns-clause-sender_first_came
returns-clause-sender_first_came c = sender_first-came

pub returns-clause-read_last_shown : goal.returns-clause-read_last_shown
returns-clause-read_last_shown c = read_last-shown

pub returns-clause-sender_first_shown : goal.returns-clause-sender_first_shown
returns-clause-sender_first_shown c = sender_first-shown

pub returns-clause-read_last_sorted : goal.returns-clause-read_last_sorted
returns-clause-read_last_sorted c = read_last-sorted

pub returns-clause-sender_first_sorted : goal.returns-clause-sender_first_sorted
returns-clause-sender_first_sorted c = sender_first-sorted
