-- An obligation that a design owes is of a role that the block of its level refines.
use Rattle.std.proofs.Common.{◌≡◌, inl, inr, ℕ, suc, ◌+◌, ◌-◌, ◌≤◌, ◌||◌, Bool, true, false, List, [], ◌∷◌, Some, refl, sym, ap, ◌∙◌, arith}
use Rattle.std.specs.Prelude.{slice_get}
use Rattle.std.proofs.lemmas.Option.{slice_get_within}
use Rattle.bv_terms.specs.declared.node.Node.{Node}
use Rattle.cocoon_num.specs.Names.{same_name}
use Rattle.cocoon_num.specs.Tree.{Name, Refine, Design}
use Rattle.cocoon_resolve.specs.Readers.{HasRole}
use Rattle.cocoon_types.specs.Design.{last_level, role_at}
use Rattle.cocoon_types.specs.RuleParts.{has_name}
use Rattle.cocoon_types.specs.Rules.{WellFormed}
use Rattle.declarations.specs.Declares.{role_number}
use Rattle.failures.proofs.Refinable.{there_above}
use Rattle.failures.specs.Found.{IsOfBlock}
use Rattle.failures.specs.declared.failure.Begin.{Begin}
use Rattle.obligation_gen.specs.Owed.{IsOwed}
use Rattle.obligation_gen.specs.declared.obligation.Obligation as code
use Rattle.obligation_laws.specs.Obligations.{Obligation, all_obligations, of_blocks, of_leaves, of_role, of_roles, old_tree, refined_tree}
use Rattle.role_meaning.proofs.Guards.{role_name_of}
use Rattle.role_meaning.specs.Located.{role_name}
use Rattle.sound_types.proofs.Levels.{role_in, role_there, roles_grow}
use Rattle.sound_types.proofs.Members.{In, at_place, in_either}
use Rattle.sound_types.proofs.Options.{text_self}
use Rattle.obligation_laws.specs.Leaves.{Leaf, Tree}

-- ---- in the lists of obligations

of_leaf : (level : ℕ) (role : List ℕ) (old tree : Tree) (k : ℕ) (leaves : List Leaf) (o : Obligation) → In o (of_leaves level role old tree k leaves) → (o.level ≡ level) × (o.role ≡ role)
of_leaf level role old tree k [] o i = absurd i
of_leaf level role old tree k (l ∷ leaves) o i = elim i [
  | inl e ↦ (ap (λ (x : Obligation). x.level) e, ap (λ (x : Obligation). x.role) e)
  | inr j ↦ of_leaf level role old tree (suc k) leaves o j
]

of_some_role : (above : ℕ) (d : Design) (block : Refine) (rs : List Name) (n : ℕ) (o : Obligation) → In o (of_roles above d block rs n).0
    → (o.level ≡ suc above) × (has_name o.role rs ≡ true)
of_some_role above d block [] n o i = absurd i
of_some_role above d block (r ∷ rs) n o i =
    let one = of_role above d block r.text n in
    elim (in_either o one.0 (of_roles above d block rs one.1).0 i) [
      | inl j ↦
          let q = of_leaf (suc above) r.text (old_tree above d block r.text n) (refined_tree above d block r.text n) 0 (refined_tree above d block r.text n).leaves o j in
          (q.0, here (same_name o.role r.text) (has_name o.role rs) (ap (λ x. same_name x r.text) q.1 ∙ text_self r.text))
      | inr j ↦ let q = of_some_role above d block rs one.1 o j in (q.0, later (same_name o.role r.text) (has_name o.role rs) q.1)
    ]
  where
    here : (a b : Bool) → a ≡ true → (a || b) ≡ true
    here true b h = refl
    here false b h = absurd (cc)

    later : (a b : Bool) → b ≡ true → (a || b) ≡ true
    later true b h = refl
    later false b h = h

-- of a block of the list, behind a level that is counted from the first one's
record InBlock (bs : List Refine) (above : ℕ) (o : Obligation) : Type 0 where
  pub number : ℕ
  pub block : Refine
  pub there : slice_get bs number ≡ Some block
  pub level : o.level ≡ suc (above + number)
  pub refined : has_name o.role block.roles ≡ true

in_block : (d : Design) (bs : List Refine) (above n : ℕ) (o : Obligation) → In o (of_blocks above d bs n).0 → InBlock bs above o
in_block d [] above n o i = absurd i
in_block d (b ∷ bs) above n o i =
    let one = of_roles above d b b.roles n in
    elim (in_either o one.0 (of_blocks (suc above) d bs one.1).0 i) [
      | inl j ↦ let q = of_some_role above d b b.roles n o j in let l = q.0 in record { number = 0; block = b; there = refl; level = omega (arith, l); refined = q.1 }
      | inr j ↦ let q = in_block d bs (suc above) one.1 o j in let l = q.level in record { number = suc q.number; block = q.block; there = q.there; level = omega (arith, l); refined = q.refined }
    ]

-- ---- of the code

-- the level, its block, and the role
pub record Owned (d : Design) (level role : ℕ) : Type 0 where
  pub above : ℕ
  pub block : Refine
  pub behind : level ≡ suc above
  pub there : slice_get d.refines above ≡ Some block
  pub name : List ℕ
  pub number : role_number d name ≡ Some role
  pub refined : has_name name block.roles ≡ true

pub owned : (d : Design) (nodes : List Node) (o : code.Obligation) → IsOwed d nodes o → Owned d o.level o.role
owned d nodes o h =
    let b = in_block d d.refines 0 0 h.owed (at_place (all_obligations d) h.number h.owed h.there) in
    let level : h.owed.level ≡ suc b.number = (let l = b.level in omega (arith, l)) in
    record {
      above = b.number;
      block = b.block;
      behind = h.shown.level_ ∙ level;
      there = b.there;
      name = h.owed.role;
      number = h.shown.role_;
      refined = b.refined;
    }

pub has_level : (d : Design) (level role : ℕ) → Owned d level role → (1 ≤ level) × (level ≤ last_level d)
has_level d level role h =
    let e = h.behind in
    let within = slice_get_within d.refines h.above h.block h.there in
    (omega (arith, e), omega (arith, e, within))

pub has_role : (d : Design) → WellFormed d → (level role : ℕ) → Owned d level role → HasRole d role level
has_role d rules level role h =
    let r = there_above d rules h.above h.block h.there h.name h.refined in
    let q = role_in h.above d h.name r.0 r.1 in
    let s = role_there (suc h.above) d h.name r.0 (roles_grow h.above (suc h.above) d r.0 (omega arith) q.0) q.1 in
    record {
      name = h.name;
      number = h.number;
      latest = s.0;
      declared = ap (λ l. role_at l d h.name) h.behind ∙ s.1;
    }

pub of_block : (d : Design) (level role : ℕ) → Owned d level role → (b : Begin) → b.at.role ≡ role → IsOfBlock level d b
of_block d level role h b e = λ block at.
    let l : level - 1 ≡ h.above = let k = h.behind in omega (arith, k) in
    let both : Some block ≡ Some h.block = sym at ∙ ap (slice_get d.refines) l ∙ h.there in
    let same : block ≡ h.block = cc in
    let named : role_name d b.at.role ≡ h.name = ap (role_name d) e ∙ role_name_of d h.name role h.number in
    ap (λ (x : Refine). has_name (role_name d b.at.role) x.roles) same ∙ ap (λ (x : List ℕ). has_name x h.block.roles) named ∙ h.refined
