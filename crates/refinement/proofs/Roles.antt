-- The roles of a level and of the next one: those that a block does not declare stay, and each keeps its parameters and guard.
use Rattle.std.proofs.Common.{◌≡◌, ◌⊎◌, inl, inr, ℕ, zero, suc, ◌&&◌, ◌||◌, List, [], ◌∷◌, ◌++◌, map, take, reverse, not, Bool, true, false, cond, Option, Some, None, refl, sym, ap, subst, ◌∙◌, arith}
use Rattle.std.specs.Prelude.{filter_map, filter, slice_get}
use Rattle.std.proofs.lemmas.List.{append_assoc, append-nil, reverse-append}
use Rattle.std.proofs.lemmas.List.Concat.{flat_map-append}
use Rattle.std.proofs.lemmas.List.Elements.{filter_map-append}
use Rattle.cocoon_num.specs.Names.{same_name, named}
use Rattle.cocoon_num.specs.Tree.{Name, Role, Refine, Design}
use Rattle.cocoon_types.specs.Design.{as_role, decls_to, role_at}
use Rattle.cocoon_types.specs.FormRules.{changed_in}
use Rattle.cocoon_types.specs.NameRules.{roles_again}
use Rattle.cocoon_types.specs.RuleParts.{unless_named, has_name, role_names}
use Rattle.cocoon_types.specs.Rules.{WellFormed, twice, header_changed}
use Rattle.cocoon_types.specs.SameTrees.{same_params, same_expr}
use Rattle.refinement.proofs.Lists.{named_either}
use Rattle.sound_types.proofs.Options.{both_true, passes, nil_left, nil_right, text_self}
use Rattle.sound_types.proofs.Members.{In, in_left, in_reverse, none_at}
use Rattle.sound_types.proofs.Levels.{block_at, block_decls, role_in, role_name, role_there, roles_to}

-- ---- blocks

-- the declarations of levels 0 to the next are those to this one, and then the block's
next_take : (bs : List Refine) (i : ℕ) (b : Refine) → slice_get bs i ≡ Some b → take (suc i) bs ≡ take i bs ++ b ∷ []
next_take [] i b h = absurd (cc)
next_take (c ∷ bs) zero b h = let e : c ≡ b = cc in ap (λ x. x ∷ []) e
next_take (c ∷ bs) (suc i) b h = ap (λ xs. c ∷ xs) (next_take bs i b h)

pub next_decls : (d : Design) (i : ℕ) (b : Refine) → slice_get d.refines i ≡ Some b → decls_to (suc i) d ≡ decls_to i d ++ b.decls
next_decls d i b h =
    ap (λ bs. d.decls ++ block_decls bs) (next_take d.refines i b h)
    ∙ ap (λ xs. d.decls ++ xs) (flat_map-append (λ (c : Refine). c.decls) (take i d.refines) (b ∷ []) ∙ ap (λ xs. block_decls (take i d.refines) ++ xs) (append-nil b.decls))
    ∙ sym (append_assoc d.decls (block_decls (take i d.refines)) b.decls)

-- ---- roles

-- those of a block
abbrev pub roles_in : Refine → List Role
roles_in b = filter_map as_role b.decls

next_roles : (d : Design) (i : ℕ) (b : Refine) → slice_get d.refines i ≡ Some b → roles_to (suc i) d ≡ roles_to i d ++ roles_in b
next_roles d i b h = ap (filter_map as_role) (next_decls d i b h) ∙ filter_map-append as_role (decls_to i d) b.decls

-- a role of a level is declared at the next
pub role_stays : (d : Design) (i : ℕ) (b : Refine) → slice_get d.refines i ≡ Some b → (x : List ℕ) (r : Role) → role_at i d x ≡ Some r → (q : Role) × (role_at (suc i) d x ≡ Some q)
role_stays d i b at x r h =
    let t = role_in i d x r h in
    role_there (suc i) d x r (subst (In r) (sym (next_roles d i b at)) (in_left r (roles_to i d) (roles_in b) t.0)) t.1

-- a role of the next level is declared in the block, or is that of this level
pub role_from : (d : Design) (i : ℕ) (b : Refine) → slice_get d.refines i ≡ Some b → (x : List ℕ) (q : Role) → role_at (suc i) d x ≡ Some q → In q (roles_in b) ⊎ (role_at i d x ≡ Some q)
role_from d i b at x q h =
    let apart : role_at (suc i) d x ≡ named role_name x (reverse (roles_in b) ++ reverse (roles_to i d)) =
    ap (λ rs. named role_name x (reverse rs)) (next_roles d i b at) ∙ ap (named role_name x) (reverse-append (roles_to i d) (roles_in b)) in
    elim (named_either role_name x (reverse (roles_in b)) (reverse (roles_to i d)) q (sym apart ∙ h)) [
      | inl k ↦ inl (in_reverse q (roles_in b) k)
      | inr e ↦ inr e
    ]

-- ---- roles that a block does not list

first_true : (a b : Bool) → a ≡ true → (a || b) ≡ true
first_true true b h = refl
first_true false b h = absurd (cc)

second_true : (a b : Bool) → b ≡ true → (a || b) ≡ true
second_true true b h = refl
second_true false b h = h

either_true : (a b : Bool) → (a || b) ≡ true → (a ≡ true) ⊎ (b ≡ true)
either_true true b h = inl refl
either_true false b h = inr h

clash : (b : Bool) → b ≡ true → not b ≡ true → ⊥
clash true e h = absurd (cc)
clash false e h = absurd (cc)

differ : (b : Bool) → b ≡ true → b ≡ false → ⊥
differ true e h = absurd (cc)
differ false e h = absurd (cc)

-- what is among some of the names is among them all
has_more : (x : List ℕ) (n : Name) (ns some : List Name) (b : Bool) → (has_name x some ≡ true → has_name x ns ≡ true) → has_name x (cond b (n ∷ some) some) ≡ true → has_name x (n ∷ ns) ≡ true
has_more x n ns some true f k = elim (either_true (same_name x n.text) (has_name x some) k) [
  | inl e ↦ first_true (same_name x n.text) (has_name x ns) e
  | inr e ↦ second_true (same_name x n.text) (has_name x ns) (f e)
]
has_more x n ns some false f k = second_true (same_name x n.text) (has_name x ns) (f k)

still_has : (x : List ℕ) (f : Name → Bool) (ns : List Name) → has_name x (filter f ns) ≡ true → has_name x ns ≡ true
still_has x f [] h = h
still_has x f (n ∷ ns) h = has_more x n ns (filter f ns) (f n) (still_has x f ns) h

-- a declared role is among the names
has_role : (x : List ℕ) (rs : List Role) (r : Role) → In r rs → x ≡ r.name.text → has_name x (map role_name rs) ≡ true
has_role x [] r i e = absurd i
has_role x (q ∷ rs) r i e = elim i [
  | inl p ↦ first_true (same_name x q.name.text) (has_name x (map role_name rs)) (ap (λ z. same_name z q.name.text) (e ∙ ap (λ (z : Role). z.name.text) p) ∙ text_self q.name.text)
  | inr p ↦ second_true (same_name x q.name.text) (has_name x (map role_name rs)) (has_role x rs r p e)
]

-- a role that was declared before, and is not listed, is not declared again
not_again : (x : List ℕ) (listed before : List Name) (rs : List Role) → roles_again listed before (map role_name rs) ≡ [] → has_name x before ≡ true → (has_name x listed ≡ true → ⊥) → (q : Role) → In q rs → x ≡ q.name.text → ⊥
not_again x listed before [] h b n q i e = i
not_again x listed before (r ∷ rs) h b n q i e =
    let here = unless_named (has_name r.name.text listed || not (has_name r.name.text before)) r.name in
    let left = filter (λ (m : Name). not (same_name r.name.text m.text)) listed in
    let rest = roles_again left (r.name ∷ before) (map role_name rs) in
    elim i [
      | inl p ↦
          let same : x ≡ r.name.text = e ∙ ap (λ (z : Role). z.name.text) p in
          elim (either_true (has_name r.name.text listed) (not (has_name r.name.text before)) (passes (has_name r.name.text listed || not (has_name r.name.text before)) r.name.at (nil_left here rest h))) [
            | inl k ↦ n (ap (λ z. has_name z listed) same ∙ k)
            | inr k ↦ clash (has_name r.name.text before) (ap (λ z. has_name z before) (sym same) ∙ b) k
          ]
      | inr p ↦
          not_again x left (r.name ∷ before) rs (nil_right here rest h) (second_true (same_name x r.name.text) (has_name x before) b)
          (λ k. n (still_has x (λ (m : Name). not (same_name r.name.text m.text)) listed k)) q p e
    ]

-- what the rule on names that stand twice says of a block
block_again : (d : Design) → WellFormed d → (i : ℕ) (b : Refine) → slice_get d.refines i ≡ Some b → roles_again b.roles (role_names (decls_to i d)) (role_names b.decls) ≡ []
block_again d w i b at =
    block_at (λ above c. roles_again c.roles (role_names (decls_to above d)) (role_names c.decls)) 0 d.refines
    (nil_right _ _ (nil_left _ _ (nil_left _ _ (nil_left _ _ (w twice))))) i i b (omega arith) at

-- an old role that the block does not list keeps its declaration
pub unlisted_stays : (d : Design) → WellFormed d → (i : ℕ) (b : Refine) → slice_get d.refines i ≡ Some b → (x : List ℕ) (r : Role) → role_at i d x ≡ Some r → has_name x b.roles ≡ false → role_at (suc i) d x ≡ Some r
unlisted_stays d w i b at x r h n =
    let old = role_in i d x r h in
    let q = role_stays d i b at x r h in
    let named_so = role_in (suc i) d x q.0 q.1 in
    elim (role_from d i b at x q.0 q.1) [
      | inl k ↦ absurd (not_again x b.roles (role_names (decls_to i d)) (roles_in b) (block_again d w i b at) (has_role x (roles_to i d) r old.0 old.1) (λ t. differ (has_name x b.roles) t n) q.0 k named_so.1)
      | inr e ↦ q.1 ∙ sym e ∙ h
    ]

-- ---- parameters and guards

kept : (q : Role) (o : Option Role) (old : Role) → o ≡ Some old
    → (elim o as (λ x. List ℕ) [ None ↦ [] | Some x ↦ unless_named (same_params x.params q.params && same_expr x.guard q.guard) q.name ]) ≡ [] → (same_params old.params q.params && same_expr old.guard q.guard) ≡ true
kept q None old e h = absurd (cc)
kept q (Some x) old e h =
    let same : x ≡ old = cc in
    subst (λ (y : Role). (same_params y.params q.params && same_expr y.guard q.guard) ≡ true) same
    (passes (same_params x.params q.params && same_expr x.guard q.guard) q.name.at h)

-- an old role keeps its parameters and guard as trees, or all of it
pub header_kept : (d : Design) → WellFormed d → (i : ℕ) (b : Refine) → slice_get d.refines i ≡ Some b → (x : List ℕ) (r q : Role) → role_at i d x ≡ Some r → role_at (suc i) d x ≡ Some q
    → ((same_params r.params q.params ≡ true) × (same_expr r.guard q.guard ≡ true)) ⊎ (r ≡ q)
header_kept d w i b at x r q h k =
    elim (role_from d i b at x q k) [
      | inl j ↦
          let e : x ≡ q.name.text = (role_in (suc i) d x q k).1 in
          let one = block_at (changed_in d) 0 d.refines (w header_changed) i i b (omega arith) at in
          let same = kept q (role_at i d q.name.text) r (ap (role_at i d) (sym e) ∙ h) (none_of q j one) in
          inl (both_true (same_params r.params q.params) (same_expr r.guard q.guard) same)
      | inr e ↦ inr (some_same r q (sym h ∙ e))
    ]
  where
    none_of : (q : Role) → In q (roles_in b) → changed_in d i b ≡ []
        → (elim (role_at i d q.name.text) as (λ x. List ℕ) [ None ↦ [] | Some y ↦ unless_named (same_params y.params q.params && same_expr y.guard q.guard) q.name ]) ≡ []
    none_of q j one = none_at (λ (x : Role). elim (role_at i d x.name.text) [ None ↦ [] | Some y ↦ unless_named (same_params y.params x.params && same_expr y.guard x.guard) x.name ]) (roles_in b) one q j

    some_same : (a c : Role) → ◌≡◌ {A = Option Role} (Some a) (Some c) → a ≡ c
    some_same a c e = cc
