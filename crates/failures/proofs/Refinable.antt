-- A role that a block refines is there at the level above, where its body reads back.
use Rattle.std.proofs.Common.{◌≡◌, ◌⊎◌, inl, inr, ℕ, zero, suc, ◌==◌, ◌&&◌, ◌||◌, ◌<◌, ◌≤◌, ◌-◌, not, Bool, true, false, List, [], ◌∷◌, Option, Some, None, is_some, length, refl, sym, ap, subst, ◌∙◌, arith}
use Rattle.std.specs.Prelude.{option_and_then, slice_get}
use Rattle.cocoon_num.specs.Names.{same_name}
use Rattle.cocoon_num.specs.Tree.{Block, Name, Refine, Role, Design}
use Rattle.cocoon_resolve.specs.Readers.{HasRole, ReadsBack, reads_back}
use Rattle.cocoon_types.specs.Design.{last_level, role_at}
use Rattle.cocoon_types.specs.FormRules.{hidden_above}
use Rattle.cocoon_types.specs.NameRules.{not_refinable_in}
use Rattle.cocoon_types.specs.ReadBack.{hidden_in}
use Rattle.cocoon_types.specs.RuleParts.{has_name, repeated, role_names, unless_named}
use Rattle.cocoon_types.specs.Rules.{WellFormed, hidden_choice, not_refinable}
use Rattle.declarations.specs.Declares.{role_number}
use Rattle.refinement.specs.Segments.{is_new, is_old}
use Rattle.role_meaning.proofs.Guards.{role_name_of}
use Rattle.role_meaning.specs.Located.{role_name}
use Rattle.sound_types.proofs.Levels.{block_at}
use Rattle.sound_types.proofs.Members.{In, none_at}
use Rattle.sound_types.proofs.Options.{both_true, nil_right, passes, same_text, some_there}

-- ---- blocks

-- a level that is not the first has a block
pub block_there : (d : Design) (level : ℕ) → 1 ≤ level → level ≤ last_level d → (block : Refine) × (slice_get d.refines (level - 1) ≡ Some block)
block_there d level one last = by d.refines (level - 1) (omega (arith, one, last))
  where
    by : (bs : List Refine) (i : ℕ) → i < length bs → (block : Refine) × (slice_get bs i ≡ Some block)
    by [] i h = absurd (omega (arith, h))
    by (b ∷ bs) zero h = (b, refl)
    by (b ∷ bs) (suc i) h = by bs i (omega (arith, h))

listed : (x : List ℕ) (ns : List Name) → has_name x ns ≡ true → (n : Name) × In n ns × (x ≡ n.text)
listed x [] h = absurd (cc)
listed x (n ∷ ns) h = by (listed x ns) (same_name x n.text) refl h
  where
    by : (has_name x ns ≡ true → (m : Name) × In m ns × (x ≡ m.text)) → (b : Bool) → same_name x n.text ≡ b → (b || has_name x ns) ≡ true → (m : Name) × In m (n ∷ ns) × (x ≡ m.text)
    by later true e g = (n, inl refl, same_text x n.text e)
    by later false e g = let r = later g in (r.0, inr r.1, r.2)

body_back : (d : Design) (q : Role) (o : Option Block) → q.body ≡ o → (elim o as (λ x. List ℕ) [ None ↦ [] | Some b ↦ hidden_in d b ]) ≡ [] → reads_back d q ≡ true
body_back d q None e h = ap (λ (o : Option Block). elim o as (λ x. Bool) [ None ↦ true | Some b ↦ length (hidden_in d b) == 0 ]) e
body_back d q (Some b) e h = ap (λ (o : Option Block). elim o as (λ x. Bool) [ None ↦ true | Some c ↦ length (hidden_in d c) == 0 ]) e ∙ ap (λ xs. length xs == 0) h

module _ (d : Design) (rules : WellFormed d) (above : ℕ) (block : Refine) (at : slice_get d.refines above ≡ Some block) (role : List ℕ) (refined : has_name role block.roles ≡ true) where
  pub there_above : (r : Role) × (role_at above d role ≡ Some r)
  there_above =
      let n = listed role block.roles refined in
      let rule : not_refinable_in d above block ≡ [] = block_at (not_refinable_in d) 0 d.refines (rules not_refinable) above above block (omega arith) at in
      let own = none_at (λ (r : Name). unless_named (is_some (role_at above d r.text) && has_name r.text (role_names block.decls)) r) block.roles (nil_right (repeated [] block.roles) _ rule) n.0 n.1 in
      let both = both_true (is_some (role_at above d n.0.text)) (has_name n.0.text (role_names block.decls)) (passes (is_some (role_at above d n.0.text) && has_name n.0.text (role_names block.decls)) n.0.at own) in
      some_there (role_at above d role) (ap (λ x. is_some (role_at above d x)) n.2 ∙ both.0)

  pub back_above : (q : Role) → role_at above d role ≡ Some q → reads_back d q ≡ true
  back_above q is =
      let n = listed role block.roles refined in
      let none = block_at (hidden_above d) 0 d.refines (rules hidden_choice) above above block (omega arith) at in
      let own = none_at (λ (r : Name). elim (option_and_then (λ (x : Role). x.body) (role_at above d r.text)) as (λ x. List ℕ) [ None ↦ [] | Some body ↦ hidden_in d body ]) block.roles none n.0 n.1 in
      body_back d q q.body refl (ap (λ (o : Option Role). elim (option_and_then (λ (x : Role). x.body) o) as (λ x. List ℕ) [ None ↦ [] | Some body ↦ hidden_in d body ]) (sym is ∙ ap (role_at above d) n.2) ∙ own)

-- ---- roles by their numbers

-- a role of a level that is also there above
pub has_above : (d : Design) (above level role : ℕ) → HasRole d role level → (r : Role) × (role_at above d (role_name d role) ≡ Some r) → HasRole d role above
has_above d above level role has there = record {
  name = has.name;
  number = has.number;
  latest = there.0;
  declared = ap (role_at above d) (sym (role_name_of d has.name role has.number)) ∙ there.1;
}

pub back_by : (d : Design) (above role : ℕ) → ((q : Role) → role_at above d (role_name d role) ≡ Some q → reads_back d q ≡ true) → ReadsBack d role above true
back_by d above role back = λ name r number is.
    sym (back r (ap (role_at above d) (role_name_of d name role number) ∙ is))

-- a role of the level that is not new is old
pub old_if : (d : Design) (above role : ℕ) → HasRole d role (suc above) → is_new above d (role_name d role) ≡ false → is_old above d (role_name d role) ≡ true
old_if d above role has new =
    let same = role_name_of d has.name role has.number in
    let here : role_at (suc above) d (role_name d role) ≡ Some has.latest = ap (role_at (suc above) d) same ∙ has.declared in
    by (is_old above d (role_name d role)) (ap (λ (o : Option Role). is_some o && not (is_old above d (role_name d role))) (sym here) ∙ new)
  where
    by : (b : Bool) → not b ≡ false → b ≡ true
    by true h = refl
    by false h = absurd (cc)

pub old_there : (d : Design) (above : ℕ) (role : List ℕ) → is_old above d role ≡ true → (r : Role) × (role_at above d role ≡ Some r)
old_there d above role old = some_there (role_at above d role) old
