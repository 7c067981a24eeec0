-- The declarations of the levels of a design, where they stand, and that a role keeps its parameters' widths.
use Rattle.std.proofs.Common.{◌≡◌, ◌⊎◌, inl, inr, ℕ, zero, suc, ◌+◌, ◌<◌, ◌≤◌, ◌==◌, ◌&&◌, List, [], ◌∷◌, ◌++◌, length, take, reverse, true, false, Option, Some, None, refl, sym, ap, subst, ◌∙◌, arith}
use Rattle.std.specs.Prelude.{flat_map, filter_map, option_to_list, slice_get}
use Rattle.std.proofs.lemmas.List.{append_assoc, append-nil}
use Rattle.std.proofs.lemmas.List.Concat.{flat_map-append}
use Rattle.std.proofs.lemmas.List.Elements.{filter_map-append}
use Rattle.cocoon_num.specs.Names.{same_name}
use Rattle.cocoon_num.specs.Tree.{Name, Param, FunctionDecl, Role, Decl, a_function, an_assumption, a_role, a_host, a_switch, Refine, Design}
use Rattle.cocoon_types.specs.Design.{all_decls, as_function, as_role, decls_to, role_at, widths_of}
use Rattle.cocoon_types.specs.FormRules.{changed_in}
use Rattle.cocoon_types.specs.NameRules.{roles_again}
use Rattle.cocoon_types.specs.RuleParts.{unless_named, role_names, roles_of, blocks_from}
use Rattle.cocoon_types.specs.SameTrees.{same_params, same_expr}
use Rattle.cocoon_types.specs.Sites.{DeclSite, sites_of, sites_from, decl_sites}
use Rattle.sound_types.proofs.Distinct.{Differ, again_differ}
use Rattle.sound_types.proofs.Members.{In, in_left, in_right, in_either, in_filter, filter_in, in_reverse, reverse_in, named_there, named_some, none_at}
use Rattle.sound_types.proofs.Options.{both_true, passes, nil_left, nil_right}

-- ---- blocks

-- the declarations of blocks
abbrev pub block_decls : List Refine → List Decl
block_decls bs = flat_map (λ (b : Refine). b.decls) bs

-- a level has one more block, or all are there
next_block : (bs : List Refine) (i : ℕ) → ((b : Refine) × (slice_get bs i ≡ Some b) × (take (suc i) bs ≡ take i bs ++ b ∷ [])) ⊎ (take (suc i) bs ≡ take i bs)
next_block [] zero = inr refl
next_block [] (suc i) = inr refl
next_block (b ∷ bs) zero = inl (b, refl, refl)
next_block (b ∷ bs) (suc i) = elim (next_block bs i) [
  | inl t ↦ inl (t.0, t.1, ap (λ xs. b ∷ xs) t.2)
  | inr e ↦ inr (ap (λ xs. b ∷ xs) e)
]

more_decls : (d : Design) (i : ℕ) (b : Refine) → take (suc i) d.refines ≡ take i d.refines ++ b ∷ [] → decls_to (suc i) d ≡ decls_to i d ++ b.decls
more_decls d i b e =
    ap (λ bs. d.decls ++ block_decls bs) e ∙ ap (λ xs. d.decls ++ xs) (flat_map-append (λ (c : Refine). c.decls) (take i d.refines) (b ∷ []) ∙ ap (λ xs. block_decls (take i d.refines) ++ xs) (append-nil b.decls))
    ∙ sym (append_assoc d.decls (block_decls (take i d.refines)) b.decls)

-- what a rule on blocks gives of each
pub block_at : (rule : ℕ → Refine → List ℕ) (above : ℕ) (bs : List Refine) → blocks_from rule above bs ≡ [] → (i at : ℕ) (b : Refine) → at ≡ above + i → slice_get bs i ≡ Some b → rule at b ≡ []
block_at rule above [] h i at b e g = absurd (cc)
block_at rule above (c ∷ bs) h zero at b e g =
    let here : at ≡ above = omega (arith, e) in
    let same : b ≡ c = cc in
    (λ k. rule (here k) (same k)) ∙ nil_left (rule above c) (blocks_from rule (suc above) bs) h
block_at rule above (c ∷ bs) h (suc i) at b e g = block_at rule (suc above) bs (nil_right (rule above c) (blocks_from rule (suc above) bs) h) i at b (omega (arith, e)) g

-- ---- where declarations stand

-- a declaration with what is in scope before it
abbrev pub site_at : Design → (level : ℕ) → List FunctionDecl → Decl → DeclSite
site_at d level before x = record { scope = record { design = d; vars = []; before = before; level = level; packet = false }; decl = x }

sites_in : (d : Design) (level : ℕ) (before : List FunctionDecl) (ds : List Decl) (x : Decl) → In x ds → (fs : List FunctionDecl) × In (site_at d level fs x) (sites_of d level before ds)
sites_in d level before [] x i = absurd i
sites_in d level before (y ∷ ds) x i = elim i [
  | inl e ↦ (before, inl (ap (site_at d level before) e))
  | inr k ↦ let t = sites_in d level (before ++ option_to_list (as_function y)) ds x k in (t.0, inr t.1)
]

blocks_in : (d : Design) (k : ℕ) (before : List FunctionDecl) (bs : List Refine) (i : ℕ) (x : Decl) → In x (block_decls (take i bs))
    → (level : ℕ) × (fs : List FunctionDecl) × (level < k + i) × In (site_at d level fs x) (sites_from d k before bs)
blocks_in d k before [] zero x h = absurd h
blocks_in d k before [] (suc i) x h = absurd h
blocks_in d k before (b ∷ bs) zero x h = absurd h
blocks_in d k before (b ∷ bs) (suc i) x h =
    let next = before ++ filter_map as_function b.decls in
    elim (in_either x b.decls (block_decls (take i bs)) h) [
      | inl l ↦ let t = sites_in d k before b.decls x l in (k, t.0, omega arith, in_left (site_at d k t.0 x) (sites_of d k before b.decls) (sites_from d (suc k) next bs) t.1)
      | inr r ↦ let t = blocks_in d (suc k) next bs i x r in (t.0, t.1, omega (arith, t.2), in_right (site_at d t.0 t.1 x) (sites_of d k before b.decls) (sites_from d (suc k) next bs) t.3)
    ]

-- the declaration stands at a level of at most this, after some functions
pub record StandsBelow (d : Design) (most : ℕ) (x : Decl) : Type 0 where
  pub level : ℕ
  pub before : List FunctionDecl
  pub within : level ≤ most
  pub at : In (site_at d level before x) (decl_sites d)

pub stands : (d : Design) (i : ℕ) (x : Decl) → In x (decls_to i d) → StandsBelow d i x
stands d i x h =
    let first = sites_of d 0 [] d.decls in
    let more = sites_from d 1 (filter_map as_function d.decls) d.refines in
    elim (in_either x d.decls (block_decls (take i d.refines)) h) [
      | inl l ↦ let t = sites_in d 0 [] d.decls x l in record { level = 0; before = t.0; within = omega arith; at = in_left (site_at d 0 t.0 x) first more t.1 }
      | inr r ↦
          let t = blocks_in d 1 (filter_map as_function d.decls) d.refines i x r in
          record { level = t.0; before = t.1; within = omega (arith, t.2); at = in_right (site_at d t.0 t.1 x) first more t.3 }
    ]

-- ---- roles

-- the roles of levels 0 to i
abbrev pub roles_to : ℕ → Design → List Role
roles_to i d = filter_map as_role (decls_to i d)

abbrev pub role_name : Role → Name
role_name r = r.name

pub is_role : (x : Decl) (r : Role) → as_role x ≡ Some r → x ≡ a_role r
is_role (a_function f) r h = absurd (cc)
is_role (an_assumption a) r h = absurd (cc)
is_role (a_role q) r h = let e : q ≡ r = cc in ap a_role e
is_role (a_host x) r h = absurd (cc)
is_role (a_switch x) r h = absurd (cc)

pub role_in : (i : ℕ) (d : Design) (x : List ℕ) (r : Role) → role_at i d x ≡ Some r → In r (roles_to i d) × (x ≡ r.name.text)
role_in i d x r h = let t = named_there role_name x (reverse (roles_to i d)) r h in (in_reverse r (roles_to i d) t.0, t.1)

pub role_there : (i : ℕ) (d : Design) (x : List ℕ) (r : Role) → In r (roles_to i d) → x ≡ r.name.text → (q : Role) × (role_at i d x ≡ Some q)
role_there i d x r h e = named_some role_name x (reverse (roles_to i d)) r (reverse_in r (roles_to i d) h) e

pub role_stands : (i : ℕ) (d : Design) (r : Role) → In r (roles_to i d) → StandsBelow d i (a_role r)
role_stands i d r h =
    let t = in_filter as_role (decls_to i d) r h in
    stands d i (a_role r) (subst (λ x. In x (decls_to i d)) (is_role t.0 r t.2) t.1)

taken_in : (j i : ℕ) (bs : List Refine) (x : Decl) → j ≤ i → In x (block_decls (take j bs)) → In x (block_decls (take i bs))
taken_in zero i bs x l h = absurd h
taken_in (suc j) zero bs x l h = absurd (omega (arith, l))
taken_in (suc j) (suc i) [] x l h = absurd h
taken_in (suc j) (suc i) (b ∷ bs) x l h = elim (in_either x b.decls (block_decls (take j bs)) h) [
  | inl k ↦ in_left x b.decls (block_decls (take i bs)) k
  | inr k ↦ in_right x b.decls (block_decls (take i bs)) (taken_in j i bs x (omega (arith, l)) k)
]

-- a role of a level is one of each later level
pub roles_grow : (j i : ℕ) (d : Design) (r : Role) → j ≤ i → In r (roles_to j d) → In r (roles_to i d)
roles_grow j i d r l h =
    let t = in_filter as_role (decls_to j d) r h in
    filter_in as_role (decls_to i d) t.0 r (elim (in_either t.0 d.decls (block_decls (take j d.refines)) t.1) [
      | inl k ↦ in_left t.0 d.decls (block_decls (take i d.refines)) k
      | inr k ↦ in_right t.0 d.decls (block_decls (take i d.refines)) (taken_in j i d.refines t.0 l k)
    ]) t.2

taken_all : (j : ℕ) (bs : List Refine) (x : Decl) → In x (block_decls (take j bs)) → In x (block_decls (take (length bs) bs))
taken_all zero bs x h = absurd h
taken_all (suc j) [] x h = absurd h
taken_all (suc j) (b ∷ bs) x h = elim (in_either x b.decls (block_decls (take j bs)) h) [
  | inl k ↦ in_left x b.decls (block_decls (take (length bs) bs)) k
  | inr k ↦ in_right x b.decls (block_decls (take (length bs) bs)) (taken_all j bs x k)
]

-- a role of a level is one of all
pub roles_all : (j : ℕ) (d : Design) (r : Role) → In r (roles_to j d) → In r (roles_of d)
roles_all j d r h =
    let t = in_filter as_role (decls_to j d) r h in
    filter_in as_role (all_decls d) t.0 r (elim (in_either t.0 d.decls (block_decls (take j d.refines)) t.1) [
      | inl k ↦ in_left t.0 d.decls (block_decls (take (length d.refines) d.refines)) k
      | inr k ↦ in_right t.0 d.decls (block_decls (take (length d.refines) d.refines)) (taken_all j d.refines t.0 k)
    ]) t.2

-- ---- widths

-- roles of one name have parameters of the same widths
abbrev pub SameWidths : List Role → Type 0
SameWidths rs = (r q : Role) → In r rs → In q rs → r.name.text ≡ q.name.text → widths_of r.params ≡ widths_of q.params

same_widths : (ps qs : List Param) → same_params ps qs ≡ true → widths_of ps ≡ widths_of qs
same_widths [] [] h = refl
same_widths [] (q ∷ qs) h = absurd (cc)
same_widths (p ∷ ps) [] h = absurd (cc)
same_widths (p ∷ ps) (q ∷ qs) h =
    let all = both_true (same_name p.name.text q.name.text && (p.width == q.width)) (same_params ps qs) h in
    let first = both_true (same_name p.name.text q.name.text) (p.width == q.width) all.0 in
    let width : p.width ≡ q.width = grind (arith, first.1) in
    (λ i. width i ∷ same_widths ps qs all.1 i)

kept : (q : Role) (o : Option Role) (old : Role) → o ≡ Some old
    → (elim o as (λ x. List ℕ) [ None ↦ [] | Some x ↦ unless_named (same_params x.params q.params && same_expr x.guard q.guard) q.name ]) ≡ [] → widths_of old.params ≡ widths_of q.params
kept q None old e h = absurd (cc)
kept q (Some x) old e h =
    let same : x ≡ old = cc in
    subst (λ y. widths_of y.params ≡ widths_of q.params) same
    (same_widths x.params q.params (both_true (same_params x.params q.params) (same_expr x.guard q.guard) (passes (same_params x.params q.params && same_expr x.guard q.guard) q.name.at h)).0)

-- a block's role has the widths of the roles before it
block_widths : (d : Design) (i : ℕ) (b : Refine) → changed_in d i b ≡ [] → SameWidths (roles_to i d) → (r q : Role) → In r (roles_to i d) → In q (filter_map as_role b.decls) → r.name.text ≡ q.name.text
    → widths_of r.params ≡ widths_of q.params
block_widths d i b h same r q j k e =
    let old = role_there i d q.name.text r j (sym e) in
    let at = role_in i d q.name.text old.0 old.1 in
    let one = none_at (λ (x : Role). elim (role_at i d x.name.text) [ None ↦ [] | Some y ↦ unless_named (same_params y.params x.params && same_expr y.guard x.guard) x.name ]) (filter_map as_role b.decls) h q k in
    same r old.0 j at.0 (e ∙ at.1) ∙ kept q (role_at i d q.name.text) old.0 old.1 one

-- what the rules say of the roles of a design
pub record KeepsRoles (d : Design) : Type 0 where
  pub first : roles_again [] [] (role_names d.decls) ≡ []
  pub later : blocks_from (λ above b. roles_again b.roles (role_names (decls_to above d)) (role_names b.decls)) 0 d.refines ≡ []
  pub unchanged : blocks_from (changed_in d) 0 d.refines ≡ []

pub widths_kept : (d : Design) → KeepsRoles d → (i : ℕ) → SameWidths (roles_to i d)
widths_kept d k zero =
    let only : decls_to 0 d ≡ d.decls = append-nil d.decls in
    let differ : Differ role_name (roles_to 0 d) = subst (λ ds. Differ role_name (filter_map as_role ds)) (sym only) (again_differ role_name [] [] (filter_map as_role d.decls) k.first) in
    λ r q i j e. ap (λ (x : Role). widths_of x.params) (differ r q i j e)
widths_kept d k (suc n) = elim (next_block d.refines n) [
  | inr e ↦ subst (λ bs. SameWidths (filter_map as_role (d.decls ++ block_decls bs))) (sym e) (widths_kept d k n)
  | inl t ↦
      let b = t.0 in
      let unchanged = block_at (changed_in d) 0 d.refines k.unchanged n n b (omega arith) t.1 in
      let again = block_at (λ above c. roles_again c.roles (role_names (decls_to above d)) (role_names c.decls)) 0 d.refines k.later n n b (omega arith) t.1 in
      let differ = again_differ role_name b.roles (role_names (decls_to n d)) (filter_map as_role b.decls) again in
      let before = widths_kept d k n in
      let parts : roles_to (suc n) d ≡ roles_to n d ++ filter_map as_role b.decls = ap (filter_map as_role) (more_decls d n b t.2) ∙ filter_map-append as_role (decls_to n d) b.decls in
      subst SameWidths (sym parts) (λ r q i j e. elim (in_either r (roles_to n d) (filter_map as_role b.decls) i) [
        | inl x ↦ elim (in_either q (roles_to n d) (filter_map as_role b.decls) j) [
          | inl y ↦ before r q x y e
          | inr y ↦ block_widths d n b unchanged before r q x y e
        ]
        | inr x ↦ elim (in_either q (roles_to n d) (filter_map as_role b.decls) j) [
          | inl y ↦ sym (block_widths d n b unchanged before q r y x (sym e))
          | inr y ↦ ap (λ (z : Role). widths_of z.params) (differ r q x y e)
        ]
      ])
]
