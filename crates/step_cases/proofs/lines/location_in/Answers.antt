use Rattle.std.proofs.Common.{◌≡◌, ◌∷◌, ◌∙◌, Bor, List, map, ℕ, ap, sym, refl, rules, Some}
use Rattle.cocoon_syntax.specs.TreeOf.{design_of}
use Rattle.cocoon_types.specs.Design.{role_at}
use Rattle.text_lines.specs.Numbers.{list_of}
use Rattle.step_cases.specs.Cases.{location_in}
use Rattle.step_cases.proofs.Locations.{acts, is_located, located}
use Rattle.step_cases.proofs.lines.location_in.Goals as goal

pub returns-in-Some-acting_role : goal.returns-in-Some-acting_role
returns-in-Some-acting_role c =
    let d = design_of c.args.checked.now in
    let level = c.args.level in
    let name = c.in-Some.name.now.now in
    let values = c.in-Some-2.values.items in
    let parts : map (λ (p : Bor (List ℕ)). p.now) c.args.parts.now ≡ name ∷ map (λ (p : Bor (List ℕ)). p.now) c.in-Some.rest.now = search rules in
    let numbers : list_of (map (λ (p : Bor (List ℕ)). p.now) c.in-Some.rest.now) ≡ Some values = search rules in
    let fits : acts name values (role_at level d name) ≡ Some name =
    ap (λ vs. acts name vs (role_at level d name)) (sym c.deref.ensures.value) ∙ c.in-Some-acting_role.ensures.0 in (
      record { role = name; values = values },
      ap (location_in level d) parts ∙ ap (λ vs. located name vs (role_at level d name)) numbers ∙ is_located name values (role_at level d name) fits,
      record { role_is = c.in-Some-acting_role.ensures.1; values_are = refl },
    )
