use Rattle.std.proofs.Common.{sym, refl}
use Rattle.pgn_examples.proofs.ApartSteps.{apart, is_nothing, is_answering, is_listening, is_warning}
use Rattle.pgn_examples.proofs.walks.refused_answers.Goals as goal

pub returns-clause-left_out : goal.returns-clause-left_out
returns-clause-left_out c = λ h. apart is_answering h.ended.answered refl refl

pub returns-clause-another_tag : goal.returns-clause-another_tag
returns-clause-another_tag c = λ h. apart is_listening h.lawful.1.1.0 refl refl

pub returns-clause-a_warning : goal.returns-clause-a_warning
returns-clause-a_warning c = λ h. apart is_warning (sym h.lawful.1.1.0) refl refl

pub returns-clause-no_warning : goal.returns-clause-no_warning
returns-clause-no_warning c = λ h. apart is_warning h.lawful.1.1.1.0 refl refl

pub returns-clause-twice : goal.returns-clause-twice
returns-clause-twice c = λ h. apart is_nothing h.lawful.1.1.1.0 refl refl

pub returns-clause-of_nothing : goal.returns-clause-of_nothing
returns-clause-of_nothing c = λ h. apart is_nothing h.lawful.1.0 refl refl

pub returns-clause-no_enlist : goal.returns-clause-no_enlist
returns-clause-no_enlist c = λ h. apart is_answering (sym h.lawful.1.0) refl refl

pub returns-clause-no_publish : goal.returns-clause-no_publish
returns-clause-no_publish c = λ h. apart is_answering (sym h.lawful.1.0) refl refl

pub returns-clause-no_leave : goal.returns-clause-no_leave
returns-clause-no_leave c = λ h. apart is_answering (sym h.lawful.1.1.1.1.0) refl refl

pub returns-clause-leaves : goal.returns-clause-leaves
returns-clause-leaves c = λ h. h.lawful.1.1.1.0

pub returns-clause-raises : goal.returns-clause-raises
returns-clause-raises c = λ h. h.lawful.1.1.1.0.expected

pub returns-clause-finds : goal.returns-clause-finds
returns-clause-finds c = λ h. h.lawful.1.1.1.0

pub returns-clause-times_out : goal.returns-clause-times_out
returns-clause-times_out c = λ h. h.lawful.1.1.1.0.awaited

pub returns-clause-refuses : goal.returns-clause-refuses
returns-clause-refuses c = λ h. let e = h.lawful.1.1.1.0 in cc

pub returns-clause-shows_channels : goal.returns-clause-shows_channels
returns-clause-shows_channels c = λ h. h.lawful.1.1.1.0
