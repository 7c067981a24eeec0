use Rattle.std.proofs.Common.{◌≡◌, ℕ, List, refl, subst}
use Rattle.bv_terms.specs.Replacements.{beside}
use Rattle.expr_terms.specs.Variables.{terms_at}
use Rattle.obligation_gen.specs.Becoming.{Knows}
use Rattle.obligation_gen.proofs.last.Last.go_on.Goals as goal

pub returns-then-are_same-clause-remembers : goal.returns-then-are_same-clause-remembers
returns-then-are_same-clause-remembers c = λ nodes m there.
    let last = c.args.self.now in
    let same : (last.by.inputs.items ≡ c.args.by.inputs.items) × (last.by.terms.items ≡ c.args.by.terms.items) = c.if-are_same.ensures refl in
    record {
      there = there;
      knows = subst (λ (p : List ℕ × List ℕ). Knows nodes (beside p.0 (terms_at nodes p.1)) last.known) (λ j. (same.0 j, same.1 j)) m.knows;
    }
