-- The roles of a block's list are declared at its level and at the level above, and bodies are within limits.
use Rattle.std.proofs.Common.{◌≡◌, ℕ, zero, suc, ◌+◌, ◌<◌, ◌≤◌, ◌==◌, ◌&&◌, List, [], ◌∷◌, ◌++◌, map, length, not, Bool, true, false, Option, Some, None, is_some, if◌then◌else◌, refl, sym, ap, subst, ◌∙◌, arith}
use Rattle.std.specs.Prelude.{flat_map, nat_lt, slice_get}
use Rattle.std.proofs.lemmas.Bool.{ltb-false}
use Rattle.cocoon_num.specs.Tree.{Name, Refine, Role, Design}
use Rattle.cocoon_resolve.specs.Resolved.{Resolves}
use Rattle.cocoon_types.specs.Design.{role_at}
use Rattle.cocoon_types.specs.Limits.{first_above}
use Rattle.cocoon_types.specs.NameRules.{not_refinable_in}
use Rattle.cocoon_types.specs.RuleParts.{has_name, repeated, role_names, unless_named}
use Rattle.cocoon_types.specs.Rules.{WellFormed, not_refinable, zero_count}
use Rattle.obligation_gen.specs.Bodies.{IsDeclared}
use Rattle.sound_types.proofs.Levels.{block_at, role_in, role_there, roles_grow}
use Rattle.sound_types.proofs.Members.{In, at_place, none_at}
use Rattle.sound_types.proofs.Options.{both_true, nil_left, nil_right, passes}

some_role : (o : Option Role) → is_some o ≡ true → (r : Role) × (o ≡ Some r)
some_role None h = absurd (cc)
some_role (Some r) h = (r, refl)

module _ (d : Design) (rules : WellFormed d) (above : ℕ) (block : Refine) (at : slice_get d.refines above ≡ Some block) where
  pub declared_above : (n : Name) → In n block.roles → IsDeclared d above n.text
  declared_above n i =
      let rule : not_refinable_in d above block ≡ [] = block_at (not_refinable_in d) 0 d.refines (rules not_refinable) above above block (omega arith) at in
      let listed = none_at (λ (r : Name). unless_named (is_some (role_at above d r.text) && has_name r.text (role_names block.decls)) r) block.roles (nil_right (repeated [] block.roles) _ rule) n i in
      let both = both_true (is_some (role_at above d n.text)) (has_name n.text (role_names block.decls)) (passes (is_some (role_at above d n.text) && has_name n.text (role_names block.decls)) n.at listed) in
      some_role (role_at above d n.text) both.0

  pub declared_behind : (n : Name) → In n block.roles → IsDeclared d (suc above) n.text
  declared_behind n i =
      let r = declared_above n i in
      let q = role_in above d n.text r.0 r.1 in
      role_there (suc above) d n.text r.0 (roles_grow above (suc above) d r.0 (omega arith) q.0) q.1

  pub some_bodies : 1 ≤ block.within
  some_bodies =
      let rule = none_at _ d.refines (nil_left _ _ (rules zero_count)) block (at_place d.refines above block at) in
      by block.within (passes (not (block.within == 0)) block.at rule)
    where
      by : (n : ℕ) → not (n == 0) ≡ true → 1 ≤ n
      by zero h = absurd (cc)
      by (suc n) h = omega arith

few_at : (m : ℕ) (bs : List Refine) → first_above m (map (λ (b : Refine). b.within) bs) ≡ None → (k : ℕ) (b : Refine) → slice_get bs k ≡ Some b → b.within ≤ m
few_at m [] h k b e = absurd (cc)
few_at m (c ∷ bs) h zero b e = let same : c ≡ b = cc in subst (λ (x : Refine). x.within ≤ m) same (by (nat_lt m c.within) refl h)
  where
    by : (t : Bool) → nat_lt m c.within ≡ t → (if t then Some c.within else first_above m (map (λ (b : Refine). b.within) bs)) ≡ None → c.within ≤ m
    by true q g = absurd (cc)
    by false q g = ltb-false m c.within q
few_at m (c ∷ bs) h (suc k) b e = few_at m bs (by (nat_lt m c.within) h) k b e
  where
    by : (t : Bool) → (if t then Some c.within else first_above m (map (λ (b : Refine). b.within) bs)) ≡ None → first_above m (map (λ (b : Refine). b.within) bs) ≡ None
    by true g = absurd (cc)
    by false g = g

pub few_bodies : (d : Design) → Resolves d → (above : ℕ) (block : Refine) → slice_get d.refines above ≡ Some block → block.within ≤ 12
few_bodies d r above block at = few_at 12 d.refines r.limits.1.0 above block at
