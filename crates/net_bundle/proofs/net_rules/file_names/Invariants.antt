use Rattle.std.proofs.Common.{◌≡◌, ◌++◌, drop, map, string_bytes}
use Rattle.net_bundle.specs.NetForm.{file_names}
use Rattle.net_bundle.proofs.net_rules.file_names.Given as goal

abbrev pub invariant-loop-switch : goal.invariant-loop-switch
invariant-loop-switch l = map (λ text. string_bytes text) l.names.items ++ file_names (drop l.switch-index l.switches) ≡ file_names l.switches
