use Rattle.std.proofs.Common.{◌≡◌, ◌<◌, ℕ, [], drop, false, get_or, length, map, take}
use Rattle.cocoon_num.specs.Lists.{has_number}
use Rattle.p4_ir.specs.NetOf.{group_of}
use Rattle.p4_run.specs.Faults.{first_group_shape}
use Rattle.p4_run.proofs.GroupSteps.{group_numbers}
use Rattle.p4_run.proofs.faults.group_shape.Given as goal

abbrev pub invariant-loop-index : goal.invariant-loop-index
invariant-loop-index l = record {
  many : length l.seen.items ≡ 65536;
  seen : (n : ℕ) → n < 65536 → get_or l.seen.items n false ≡ has_number n (group_numbers (map group_of (take l.index l.groups)));
  rest : first_group_shape (group_numbers (map group_of (take l.index l.groups))) l.index (map group_of (drop l.index l.groups))
      ≡ first_group_shape [] 0 (map group_of l.groups);
}
