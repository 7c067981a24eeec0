-- Roles that are declared again, by what a block's list names and what was seen.
use Rattle.std.proofs.Common.{◌≡◌, ℕ, suc, ◌&&◌, ◌||◌, Bool, true, false, cond, not, List, [], ◌∷◌, ◌++◌, map, reverse, Option, Some, None, is_some, refl, sym, ap, ap₂, subst, ◌∙◌, append_assoc, append-nil}
use Rattle.std.specs.Prelude.{filter, filter_map, find}
use Rattle.std.specs.List.{cons_option, list_any}
use Rattle.std.specs.Cmp.Lexicographic.{bytes_decides, nat_list_eq_equiv}
use Rattle.std.proofs.lemmas.List.Sorted.{IsPermutation-reverse, list_any-IsPermutation}
use Rattle.cocoon_num.specs.Tree.{Name, Role, Decl, Refine, Design}
use Rattle.cocoon_num.specs.Names.{same_name}
use Rattle.cocoon_types.specs.Design.{as_role, decls_to, role_at}
use Rattle.cocoon_types.specs.NameRules.{roles_again}
use Rattle.cocoon_types.specs.Rules.{twice}
use Rattle.cocoon_types.specs.RuleParts.{unless_named, has_name, role_names, blocks_from, each_block}
use Rattle.cocoon_types.specs.FirstFault.{Fault}
use Rattle.cocoon_types.specs.Noting.{Notes}
use Rattle.cocoon_types.specs.Among.{among, AmongLaws}
use Rattle.name_rules.specs.Among.{may_stand, declared_again, again_outside, again_in_block}
use Rattle.name_rules.proofs.AgainFacts.{bytes_same, has-append}
use Rattle.name_rules.proofs.ListedFacts.{called, picked-append}

-- ---- one role more

declared-append : (may : Name → Bool) (seen ns ms : List Name) → declared_again may seen (ns ++ ms) ≡ declared_again may seen ns ++ declared_again may (seen ++ ns) ms
declared-append may seen [] ms = ap (λ s. declared_again may s ms) (sym (append-nil seen))
declared-append may seen (n ∷ ns) ms =
    ap (λ l. unless_named (not (has_name n.text seen) && may n) n ++ l)
    (declared-append may (seen ++ n ∷ []) ns ms ∙ ap (λ s. declared_again may (seen ++ n ∷ []) ns ++ declared_again may s ms) (append_assoc seen (n ∷ []) ns))
    ∙ sym (append_assoc (unless_named (not (has_name n.text seen) && may n) n) (declared_again may (seen ++ n ∷ []) ns) (declared_again may (seen ++ n ∷ ns) ms))

same-here : (may : Name → Bool) (here : Bool) (seen : List Name) (o : Option Role) → ((r : Role) → o ≡ Some r → here ≡ may r.name)
    → declared_again (λ r. here) seen (map called (cons_option o [])) ≡ declared_again may seen (map called (cons_option o []))
same-here may here seen None h = refl
same-here may here seen (Some r) h = ap (λ b. unless_named (not (has_name r.name.text seen) && b) r.name ++ []) (h r refl)

pub notes-roles : AmongLaws → (may : Name → Bool) (here : Bool) (ds es : List Decl) (d : Decl) (a b c : Option Fault) → es ≡ ds ++ d ∷ [] → ((r : Role) → as_role d ≡ Some r → here ≡ may r.name)
    → Notes (among twice (declared_again may [] (role_names ds))) a b → Notes (among twice (declared_again (λ r. here) (role_names ds) (role_names (d ∷ [])))) b c
    → Notes (among twice (declared_again may [] (role_names es))) a c
notes-roles laws may here ds es d a b c e s h k =
    subst (λ l. Notes (among twice l) a c)
    (sym (ap (λ l. declared_again may [] (role_names l)) e ∙ ap (declared_again may []) (picked-append ds (d ∷ [])) ∙ declared-append may [] (role_names ds) (role_names (d ∷ []))))
    (laws.append twice (declared_again may [] (role_names ds)) (declared_again may (role_names ds) (role_names (d ∷ []))) a b c h
    (subst (λ l. Notes (among twice l) b c) (same-here may here (role_names ds) (as_role d) s) k))

-- ---- roles by name

same-third : (x n y : List ℕ) → same_name x n ≡ true → same_name x y ≡ same_name y n
same-third x n y h =
    sym (bytes_same x y) ∙ nat_list_eq_equiv.symm x y ∙ bytes_same y x
    ∙ ap (same_name y) ((bytes_decides x n).0 (bytes_same x n ∙ h))

-- names but for one
has-filter : (x y : List ℕ) (ns : List Name) → has_name x (filter (λ (n : Name). not (same_name y n.text)) ns) ≡ has_name x ns && not (same_name x y)
has-filter x y [] = refl
has-filter x y (n ∷ ns) = by (same_name x n.text) (same_name y n.text) (same_name x y) (same-third x n.text y) refl (has-filter x y ns)
  where
    by : (a b c : Bool) → (a ≡ true → c ≡ b) → same_name x n.text ≡ a → has_name x (filter (λ (m : Name). not (same_name y m.text)) ns) ≡ has_name x ns && not c
        → has_name x (cond (not b) (n ∷ filter (λ (m : Name). not (same_name y m.text)) ns) (filter (λ (m : Name). not (same_name y m.text)) ns)) ≡ (a || has_name x ns) && not c
    by a true c s e ih = ih ∙ gone a c (has_name x ns) s
      where
        gone : (a c h : Bool) → (a ≡ true → c ≡ true) → h && not c ≡ (a || h) && not c
        gone true c h s = ap (λ t. h && not t) (s refl) ∙ none h ∙ sym (ap not (s refl))
          where
            none : (h : Bool) → h && false ≡ false
            none true = refl
            none false = refl
        gone false c h s = refl
    by a false c s e ih = ap₂ (λ t l. t || l) e ih ∙ kept a c (has_name x ns) s
      where
        kept : (a c h : Bool) → (a ≡ true → c ≡ false) → a || (h && not c) ≡ (a || h) && not c
        kept true c h s = sym (ap not (s refl))
        kept false c h s = refl

-- ---- the rule

pub again-by : (may : Name → Bool) (listed before : List Name) → ((r : Name) → may r ≡ (has_name r.text listed || not (has_name r.text before)))
    → (rs seen left all : List Name) → ((x : List ℕ) → has_name x left ≡ has_name x listed && not (has_name x seen)) → ((x : List ℕ) → has_name x all ≡ has_name x seen || has_name x before)
    → declared_again may seen rs ≡ roles_again left all rs
again-by may listed before e [] seen left all h k = refl
again-by may listed before e (r ∷ rs) seen left all h k =
    ap₂ (λ b l. unless_named b r ++ l)
    (ap (λ b. not (has_name r.text seen) && b) (e r) ∙ test (has_name r.text seen) (has_name r.text listed) (has_name r.text before) ∙ sym (ap₂ (λ a b. a || not b) (h r.text) (k r.text)))
    (again-by may listed before e rs (seen ++ r ∷ []) (filter (λ (n : Name). not (same_name r.text n.text)) left) (r ∷ all)
    (λ x. has-filter x r.text left ∙ ap (λ b. b && not (same_name x r.text)) (h x) ∙ left-over (has_name x listed) (has_name x seen) (same_name x r.text) ∙ sym (ap (λ b. has_name x listed && not b) (has-append x seen (r ∷ []))))
    (λ x. ap (λ b. same_name x r.text || b) (k x) ∙ joined (same_name x r.text) (has_name x seen) (has_name x before) ∙ sym (ap (λ b. b || has_name x before) (has-append x seen (r ∷ [])))))
  where
    test : (s l b : Bool) → not s && (l || not b) ≡ ((l && not s) || not (s || b))
    test true true b = refl
    test true false b = refl
    test false true b = refl
    test false false b = refl

    left-over : (l s q : Bool) → (l && not s) && not q ≡ l && not (s || (q || false))
    left-over false s q = refl
    left-over true true q = refl
    left-over true false true = refl
    left-over true false false = refl

    joined : (q s b : Bool) → q || (s || b) ≡ (s || (q || false)) || b
    joined true true b = refl
    joined true false b = refl
    joined false true b = refl
    joined false false b = refl

-- ---- roles up to a level

find-any : {A : Type 0} (p : A → Bool) (xs : List A) → is_some (find p xs) ≡ list_any p xs
find-any p [] = refl
find-any {A} p (x ∷ xs) = by (p x) (find-any p xs)
  where
    by : (b : Bool) → is_some (find p xs) ≡ list_any p xs → is_some (cond b (Some x) (find p xs)) ≡ b || list_any p xs
    by true ih = refl
    by false ih = ih

any-called : (x : List ℕ) (rs : List Role) → list_any (λ (r : Role). same_name x r.name.text) rs ≡ has_name x (map called rs)
any-called x [] = refl
any-called x (r ∷ rs) = ap (λ b. same_name x r.name.text || b) (any-called x rs)

pub role-there : (level : ℕ) (d : Design) (x : List ℕ) → is_some (role_at level d x) ≡ has_name x (role_names (decls_to level d))
role-there level d x =
    let rs = filter_map as_role (decls_to level d) in
    find-any (λ (r : Role). same_name x r.name.text) (reverse rs)
    ∙ sym (list_any-IsPermutation (λ (r : Role). same_name x r.name.text) rs (reverse rs) (IsPermutation-reverse rs))
    ∙ any-called x rs

-- ---- all levels

outside : (ds : List Decl) → again_outside ds ≡ roles_again [] [] (role_names ds)
outside ds = again-by (λ r. true) [] [] (λ r. refl) (role_names ds) [] [] [] (λ x. refl) (λ x. refl)

in-block : (d : Design) (above : ℕ) (b : Refine) → again_in_block d above b ≡ roles_again b.roles (role_names (decls_to above d)) (role_names b.decls)
in-block d above b = again-by (may_stand d above b.roles) b.roles (role_names (decls_to above d)) (λ r. ap (λ t. has_name r.text b.roles || not t) (role-there above d r.text)) (role_names b.decls) [] b.roles (role_names (decls_to above d)) (λ x. all-left (has_name x b.roles)) (λ x. refl)
  where
    all-left : (b : Bool) → b ≡ b && true
    all-left true = refl
    all-left false = refl

blocks-alike : (f g : ℕ → Refine → List ℕ) → ((k : ℕ) (b : Refine) → f k b ≡ g k b) → (k : ℕ) (bs : List Refine) → blocks_from f k bs ≡ blocks_from g k bs
blocks-alike f g e k [] = refl
blocks-alike f g e k (b ∷ bs) = ap₂ (◌++◌) (e k b) (blocks-alike f g e (suc k) bs)

pub outside-is : (d : Design) → again_outside d.decls ≡ roles_again [] [] (role_names d.decls)
outside-is d = outside d.decls

pub blocks-are : (d : Design) → blocks_from (again_in_block d) 0 d.refines ≡ each_block (λ above b. roles_again b.roles (role_names (decls_to above d)) (role_names b.decls)) d
blocks-are d = blocks-alike (again_in_block d) (λ above b. roles_again b.roles (role_names (decls_to above d)) (role_names b.decls)) (in-block d) 0 d.refines

-- ---- what the code finds

pub stands : (listed none : Bool) (d : Design) (above : ℕ) (list : List Name) (r : Name) → listed ≡ has_name r.text list → is_some (role_at above d r.text) ≡ not none → listed || none ≡ may_stand d above list r
stands listed none d above list r e f = ap₂ (λ a b. a || b) e (by none ∙ sym (ap not f))
  where
    by : (b : Bool) → b ≡ not (not b)
    by true = refl
    by false = refl

pub stands-role : (d : Design) (above : ℕ) (list : List Name) (r q : Role) {o : Option Role} → o ≡ Some r → o ≡ Some q → may_stand d above list r.name ≡ may_stand d above list q.name
stands-role d above list r q e f = ap (λ (o : Option Role). elim o [ None ↦ true | Some p ↦ may_stand d above list p.name ]) (sym e ∙ f)

pub no-stand : {b : Bool} (q : Role) {o : Option Role} → o ≡ None → o ≡ Some q → true ≡ b
no-stand {b} q e f = ap (λ (o : Option Role). elim o [ None ↦ true | Some p ↦ b ]) (sym e ∙ f)
