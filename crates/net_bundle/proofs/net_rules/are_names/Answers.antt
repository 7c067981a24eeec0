use Rattle.std.proofs.Common.{map, drop, string_bytes, sym, ap, ◌∙◌}
use Rattle.std.proofs.lemmas.List.{drop_all}
use Rattle.net_bundle.specs.NetFileOf.{kept_of}
use Rattle.net_bundle.specs.NetForm as spec
use Rattle.net_bundle.proofs.NetSeen.{files_end}
use Rattle.net_bundle.proofs.net_rules.are_names.Goals as goal

pub returns : goal.returns
returns c =
    sym (files_end c.args.files.now c.loop-name.index c.loop-name.invariant.0)
    ∙ ap (λ ns. spec.are_names (map (λ text. string_bytes text) ns) (map kept_of (drop c.loop-name.index c.args.files.now))) (sym (drop_all c.loop-name.name-index c.args.names.now c.loop-name-test.false))
    ∙ c.loop-name.invariant.1
