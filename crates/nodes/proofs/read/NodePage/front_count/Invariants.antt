use Rattle.std.proofs.Common.{◌≡◌, ◌+◌, ◌-◌, ◌*◌, ◌≤◌, length, take, drop}
use Rattle.nodes.specs.Entries.{weight_of, front_count}
use Rattle.nodes.specs.Page.{entries_of}
use Rattle.nodes.proofs.read.NodePage.front_count.Given as goal

-- what is left of the target is sought in what is left of the entries, and an entry has at most 8,198 bytes
abbrev pub invariant-loop-key : goal.invariant-loop-key
invariant-loop-key l =
    (l.key-iterator ≡ drop l.front.count (entries_of l.self.page.now))
    × (front_count (l.target - l.front.weight) (drop l.front.count (entries_of l.self.page.now)) + l.front.count ≡ front_count l.target (entries_of l.self.page.now))
    × (l.front.weight ≡ weight_of (take l.front.count (entries_of l.self.page.now))) × (l.front.weight ≤ 8198 * l.front.count)
    × (l.front.count ≤ length (entries_of l.self.page.now))
