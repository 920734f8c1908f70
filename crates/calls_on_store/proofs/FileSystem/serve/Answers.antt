use Rattle.calls_on_store.proofs.Played.{runs_sync, runs_other, not-built}
use Rattle.calls_on_store.proofs.FileSystem.serve.Goals as goal

pub returns-in-Sync : goal.returns-in-Sync
returns-in-Sync g c = rw c.in-Sync.is (runs_sync g.D.Device.steps c.args.self.now.pages.now c.sync.new.self c.args.self.now.label _ c.in-Some.is c.sync.ensures)

pub returns-in_default-call : goal.returns-in_default-call
returns-in_default-call g c = let t = c.args.self.now.pages.now in runs_other g.D.Device.steps t c.args.self.now.label _ _ c.in-Some.is (not-built c.args.call c.in_default-call.not-Sync)
