use Rattle.std.proofs.Common.{sym}
use Rattle.pgn_threads.proofs.WorkLaws.{behind-ready, both-halves, both-turns, front-ready, further-turns, no-turns, still-ready, whole-ran}
use Rattle.pgn_threads.proofs.hub_sessions.HubSessionsWorkSessionUnit.laws.Goals as goal

pub returns-clause-took_none : goal.returns-clause-took_none
returns-clause-took_none g c = λ p ready. no-turns (g.H.Hub.is_pass c.args.self.now.hub.now) (g.H.Hub.shape c.args.self.now.hub.now) g.P.PassView.known p.workers ready

pub returns-clause-took_more : goal.returns-clause-took_more
returns-clause-took_more g c = λ p q r first more. further-turns (g.H.Hub.is_pass c.args.self.now.hub.now) (g.H.Hub.shape c.args.self.now.hub.now) g.P.PassView.known p.workers q.workers r.workers first more

pub returns-clause-goes_front : goal.returns-clause-goes_front
returns-clause-goes_front g c = λ xs ys h ready. front-ready (g.H.Hub.is_pass c.args.self.now.hub.now) (g.H.Hub.shape c.args.self.now.hub.now) g.P.PassView.known xs ys ready

pub returns-clause-goes_behind : goal.returns-clause-goes_behind
returns-clause-goes_behind g c = λ xs ys h p ready took. behind-ready (g.H.Hub.is_pass c.args.self.now.hub.now) (g.H.Hub.shape c.args.self.now.hub.now) g.P.PassView.known xs ys ready

pub returns-clause-took_both : goal.returns-clause-took_both
returns-clause-took_both g c = λ xs ys h p q ready first second. both-turns (g.H.Hub.is_pass c.args.self.now.hub.now) (g.H.Hub.shape c.args.self.now.hub.now) g.P.PassView.known xs p.workers ys q.workers first second

pub returns-clause-ran_both : goal.returns-clause-ran_both
returns-clause-ran_both g c = λ p l l_new r r_new h a b halves first second made.
    both-halves (g.H.Hub.is_pass c.args.self.now.hub.now) (g.H.Hub.shape c.args.self.now.hub.now) g.P.PassView.known p.workers l.workers l_new.workers r.workers r_new.workers a b halves first second

pub returns-clause-ran_neither : goal.returns-clause-ran_neither
returns-clause-ran_neither g c = λ p l r h halves made. record {
  same = sym halves.cut;
  may = still-ready (g.H.Hub.is_pass c.args.self.now.hub.now) (g.H.Hub.shape c.args.self.now.hub.now) g.P.PassView.known p.workers l.workers r.workers halves;
  comes_to = λ last answer ran. whole-ran (g.H.Hub.is_pass c.args.self.now.hub.now) (g.H.Hub.shape c.args.self.now.hub.now) g.P.PassView.known p.workers l.workers r.workers last.workers answer halves ran;
}
