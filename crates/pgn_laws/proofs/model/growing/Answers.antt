use Rattle.pgn_model.proofs.GrowingLaws.{full-grows, told-within, marks-within, mark-within, state-within, lawful-shows, up_to_date-grows, fresh_so_far-grows}
use Rattle.pgn_laws.proofs.GrowingLaws.{shown-grows, shown-over, trace_ok-grows, fresh-grows}
use Rattle.pgn_laws.proofs.model.growing.Goals as goal

pub returns-clause-shown_grows : goal.returns-clause-shown_grows
returns-clause-shown_grows c = shown-grows

pub returns-clause-shown_over : goal.returns-clause-shown_over
returns-clause-shown_over c = shown-over

pub returns-clause-full_grows : goal.returns-clause-full_grows
returns-clause-full_grows c = full-grows

pub returns-clause-told_within : goal.returns-clause-told_within
returns-clause-told_within c = told-within

pub returns-clause-marks_within : goal.returns-clause-marks_within
returns-clause-marks_within c = marks-within

pub returns-clause-mark_within : goal.returns-clause-mark_within
returns-clause-mark_within c = mark-within

pub returns-clause-state_within : goal.returns-clause-state_within
returns-clause-state_within c = state-within

pub returns-clause-up_to_date_grows : goal.returns-clause-up_to_date_grows
returns-clause-up_to_date_grows c = up_to_date-grows

pub returns-clause-fresh_so_far_grows : goal.returns-clause-fresh_so_far_grows
returns-clause-fresh_so_far_grows c = fresh_so_far-grows

pub returns-clause-trace_ok_grows : goal.returns-clause-trace_ok_grows
returns-clause-trace_ok_grows c = trace_ok-grows

pub returns-clause-fresh_grows : goal.returns-clause-fresh_grows
returns-clause-fresh_grows c = fresh-grows

pub returns-clause-lawful_shows : goal.returns-clause-lawful_shows
returns-clause-lawful_shows c = lawful-shows
