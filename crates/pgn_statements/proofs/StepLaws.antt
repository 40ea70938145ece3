-- From what the steps give to what a body asks for.
use Rattle.std.proofs.Common.{◌≡◌, ℕ, List, Result, Ok, Err, IfOk, sym, subst, IsUtf8, Contains}
use Rattle.pgn_base.specs.declared.command.Command.{Command}
use Rattle.pgn_language.specs.Grammar.{ReadsAs}
use Rattle.pgn_requests.specs.declared.request.Request.{Request}
use Rattle.pgn_requests.specs.Texts.{bare}
use Rattle.pgn_requests.specs.Reading as asked
use Rattle.pgn_requests.specs.Reading.{body_of, request_of, RequestIs}
use Rattle.pgn_statements.specs.Steps.{Asks}

-- what is told of a command is what a text asks for
pub told-asks : {E : Type 0} (text : List ℕ) (command : Command) (result : Result Request E) → ReadsAs text command → IfOk result (λ request. request ≡ request_of text command) → IfOk result (Asks text)
told-asks text command (Ok request) r e = (command, r, e)
told-asks text command (Err error) r e = tt

-- what a text asks for is what its body does
pub asks-body : {E : Type 0} (body text : List ℕ) (result : Result Request E) → body ≡ body_of text → (Contains text 0 → ⊥) → IsUtf8 text → IfOk result (Asks (bare text)) → IfOk result (RequestIs body)
asks-body body text (Ok request) e n u a = subst (λ (r : Request). RequestIs body r) (sym a.2) (asked.RequestIs.Reads text a.0 e n u a.1)
asks-body body text (Err error) e n u a = tt

-- what is told is a reading
pub told-body : {E : Type 0} (body : List ℕ) (one : Request) (result : Result Request E) → RequestIs body one → IfOk result (λ request. request ≡ one) → IfOk result (RequestIs body)
told-body body one (Ok request) r e = subst (λ (some : Request). RequestIs body some) (sym e) r
told-body body one (Err error) r e = tt
