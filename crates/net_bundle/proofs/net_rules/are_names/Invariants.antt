use Rattle.std.proofs.Common.{◌≡◌, ◌≤◌, drop, length, map, string_bytes}
use Rattle.net_bundle.specs.NetFileOf.{kept_of}
use Rattle.net_bundle.specs.NetForm.{are_names}
use Rattle.net_bundle.proofs.net_rules.are_names.Given as goal

abbrev pub invariant-loop-name : goal.invariant-loop-name
invariant-loop-name l =
    (l.index ≤ length l.files)
    × (are_names (map (λ text. string_bytes text) (drop l.name-index l.names)) (map kept_of (drop l.index l.files)) ≡ are_names (map (λ text. string_bytes text) l.names) (map kept_of l.files))
