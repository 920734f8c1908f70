use Rattle.std.proofs.Common.{sym, ◌∙◌}
use Rattle.std.proofs.lemmas.Bool.{not-true, not-false}
use Rattle.pages.specs.Of.{seen}
use Rattle.pages.proofs.Looks.{target-own, target-held, target-none}
use Rattle.pages.proofs.memory.Memory.target.Goals as goal
use Rattle.pages.proofs.memory.Memory.target.Goals.{in_default-via-in-Some+else-is_own, in_default-via-in_default}

pub returns-in-Some : goal.returns-in-Some
returns-in-Some c = rw c.in-Some.is (target-own (seen c.args.self.now) c.in-Some.p (not-true _ (sym c.is_own.ensures ∙ c.if-is_own.true)))

pub returns-in_default : goal.returns-in_default
returns-in_default c =
    elim c.in_default.branch [
      | in_default-via-in-Some+else-is_own w ↦ c.free.ensures ∙ rw w.in-Some.is (target-held (seen c.args.self.now) w.in-Some.p (not-false _ (sym w.is_own.ensures ∙ w.if-is_own.false)))
      | in_default-via-in_default w ↦ c.free.ensures ∙ rw w.in_default.is (target-none (seen c.args.self.now))
    ]
