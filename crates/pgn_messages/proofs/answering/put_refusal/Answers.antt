use Rattle.std.proofs.Common.{◌≡◌, ◌++◌, List, ℕ, refl, sym, ap, ◌∙◌, subst}
use Rattle.pgn_base.specs.declared.answers.Refusal.{Refusal}
use Rattle.pgn_messages.specs.Server.{error}
use Rattle.pgn_messages.proofs.BytesLaws.{put-two}
use Rattle.pgn_requests.specs.declared.complaint.Wording.{Wording}
use Rattle.pgn_requests.specs.declared.complaint.Wording.TheVariants.{Called}
use Rattle.pgn_messages.specs.Served.{call_column, call_rows, told_refusal}
use Rattle.pgn_messages.proofs.answering.put_refusal.Goals as goal

pub returns-in_ok-put_error-in-QueueFull : goal.returns-in_ok-put_error-in-QueueFull
returns-in_ok-put_error-in-QueueFull c =
    let old = c.args.bytes.now in
    let rows = call_rows c.args.command.now in
    let all : rows ++ error c.args.refusal.now ≡ told_refusal c.args.command.now c.args.wording.now c.args.refusal.now =
    subst (λ (r : Refusal). rows ++ error r ≡ told_refusal c.args.command.now c.args.wording.now r) (sym c.in-QueueFull.is) refl in
    put-two old c.put_call_rows.new.bytes c.put_error.new.self rows (error c.args.refusal.now) c.in_ok-put_call_rows-in-QueueFull.ensures c.in_ok-put_error-in-QueueFull.ensures ∙ ap (λ (t : List ℕ). old ++ t) all

pub returns-in_ok-put_error-in-Called : goal.returns-in_ok-put_error-in-Called
returns-in_ok-put_error-in-Called c =
    let old = c.args.bytes.now in
    let told : call_column ++ error c.args.refusal.now ≡ told_refusal c.args.command.now Called c.args.refusal.now =
    subst (λ (r : Refusal). call_column ++ error r ≡ told_refusal c.args.command.now Called r) (sym c.in-Bounds.is) refl in
    let all : call_column ++ error c.args.refusal.now ≡ told_refusal c.args.command.now c.args.wording.now c.args.refusal.now =
    subst (λ (w : Wording). call_column ++ error c.args.refusal.now ≡ told_refusal c.args.command.now w c.args.refusal.now) (sym c.in-Called.is) told in
    put-two old c.put_call_column.new.bytes c.put_error-in-Called.new.self call_column (error c.args.refusal.now) c.in_ok-put_call_column-in-Called.ensures c.in_ok-put_error-in-Called.ensures ∙ ap (λ (t : List ℕ). old ++ t) all
