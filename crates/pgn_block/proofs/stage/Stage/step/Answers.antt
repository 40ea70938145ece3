use Rattle.pgn_block.proofs.StepLaws.{each-set}
use Rattle.pgn_block.proofs.stage.Stage.step.Goals as goal

pub returns-in-ListeningChannels-clause-ok : goal.returns-in-ListeningChannels-clause-ok
returns-in-ListeningChannels-clause-ok c = rw c.in-ListeningChannels.is c.query.ensures

pub returns-in-QueueUsage-clause-ok : goal.returns-in-QueueUsage-clause-ok
returns-in-QueueUsage-clause-ok c = rw c.in-QueueUsage.is c.query-in-QueueUsage.ensures

pub returns-in-Listen-clause-ok : goal.returns-in-Listen-clause-ok
returns-in-Listen-clause-ok c = rw c.in-Listen.is (each-set c.act.result _ c.act.ensures.ok)

pub returns-in-Unlisten-clause-ok : goal.returns-in-Unlisten-clause-ok
returns-in-Unlisten-clause-ok c = rw c.in-Unlisten.is (each-set c.act-in-Unlisten.result _ c.act-in-Unlisten.ensures.ok)

pub returns-in-UnlistenAll-clause-ok : goal.returns-in-UnlistenAll-clause-ok
returns-in-UnlistenAll-clause-ok c = rw c.in-UnlistenAll.is (each-set c.act-in-UnlistenAll.result _ c.act-in-UnlistenAll.ensures.ok)

pub returns-in-Notify-clause-ok : goal.returns-in-Notify-clause-ok
returns-in-Notify-clause-ok c = rw c.in-Notify.is (each-set c.notify.result _ c.notify.ensures.ok)

pub returns-in-PgNotify-clause-ok : goal.returns-in-PgNotify-clause-ok
returns-in-PgNotify-clause-ok c = rw c.in-PgNotify.is (each-set c.notify-in-PgNotify.result _ c.notify-in-PgNotify.ensures.ok)
