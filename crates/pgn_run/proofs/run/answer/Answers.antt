use Rattle.std.proofs.Common.{ℕ, List, Option, Result, Ok, Err, IfOk, inl, refl, subst}
use Rattle.pgn_language.specs.declared.scenario.Scenario.{Scenario}
use Rattle.pgn_language.specs.declared.scenario.ScenarioFault.{ScenarioFault}
use Rattle.pgn_language.specs.Inputs.{IsSound}
use Rattle.pgn_model.specs.Walk.{Settings}
use Rattle.pgn_run.specs.declared.print.Shows.{Shows}
use Rattle.pgn_run.specs.declared.print.Shows.TheVariants.{AtEnd, Live}
use Rattle.pgn_run.specs.Run.{IsShownSoFar, settings_of}
use Rattle.pgn_run.proofs.OverLaws.{reads-same}
use Rattle.pgn_run.proofs.run.answer.Goals as goal

-- where nothing was written nothing was shown
nothing-shown : (shows : Shows) (settings : Settings) (input : List ℕ) (held : Option (List ℕ)) → IsShownSoFar shows settings input held held
nothing-shown (AtEnd print) settings input held = refl
nothing-shown Live settings input held = inl refl

pub play-requires-clause-sound : goal.play-requires-clause-sound
play-requires-clause-sound g c κs within = subst (λ (r : Result Scenario ScenarioFault). IfOk r IsSound) c.in-Ok-Ok.field-0-is c.in-Ok-Ok.ensures.sound

pub returns-in-Ok-Ok-clause-answers : goal.returns-in-Ok-Ok-clause-answers
returns-in-Ok-Ok-clause-answers g c =
    c.play.ensures.answers c.args.input.items (reads-same c.as_slice.result.now c.args.input.items c.in-Ok-Ok.field-0 (Ok c.in-Ok-Ok.scenario) c.as_slice.ensures.value c.in-Ok-Ok.field-0-is c.in-Ok-Ok.ensures.reads)

pub returns-in-Ok-Err-clause-answers : goal.returns-in-Ok-Err-clause-answers
returns-in-Ok-Err-clause-answers g c = (reads-same c.as_slice.result.now c.args.input.items c.in-Ok-Err.field-0 (Err c.in-Ok-Err.fault) c.as_slice.ensures.value c.in-Ok-Err.field-0-is c.in-Ok-Err.ensures.reads, refl)

pub returns-in-Err-clause-answers : goal.returns-in-Err-clause-answers
returns-in-Err-clause-answers g c = nothing-shown c.args.shows (settings_of c.args.settings) c.args.input.items (g.K.Sink.held c.args.sink.now)
