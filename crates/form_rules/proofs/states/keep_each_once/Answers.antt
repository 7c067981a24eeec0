use Rattle.std.proofs.Common.{rules, ◌∙◌, ap, sym}
use Rattle.std.proofs.lemmas.List.Filters.{dedup_is}
use Rattle.std.proofs.lemmas.List.Sorted.{list_any-IsPermutation}
use Rattle.form_rules.specs.Steps.{holding_of, some_holds}
use Rattle.form_rules.proofs.Tests.{each_once, same_states}
use Rattle.form_rules.proofs.states.keep_each_once.Goals as goal

pub returns : goal.returns
returns c t =
    ap (some_holds t) (dedup_is _ _ _ c.dedup.ensures.filtered)
    ∙ each_once t _ (λ x y h. same_states _ (λ a b. search rules) x y h) c.sort_unstable.new.self.items
    ∙ sym (list_any-IsPermutation (λ s. t (holding_of s)) _ _ c.sort_unstable.ensures.permutation)
