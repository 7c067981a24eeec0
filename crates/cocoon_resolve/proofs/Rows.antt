-- Rows that say of each role whether its body reads back.
use Rattle.std.proofs.Common.{◌≡◌, ◌⊎◌, inl, inr, append_assoc, length-append, ℕ, zero, suc, ◌+◌, ◌<◌, ◌≤◌, ◌-◌, ◌==◌, ◌&&◌, Bool, true, false, List, [], ◌∷◌, ◌++◌, map, take, length, reverse, get_or, slice_get, unwrap_or, Option, Some, None, is_none, is_some, not, if◌then◌else◌, refl, sym, ap, ap₂, subst, ◌∙◌, arith}
use Rattle.std.specs.Prelude.{bytes_eq, filter_map, flat_map, option_map, option_to_list}
use Rattle.std.specs.List.{cons_option}
use Rattle.std.specs.Cmp.Lexicographic.{bytes_decides}
use Rattle.std.proofs.lemmas.Bool.Decides.{nat_tests}
use Rattle.std.proofs.lemmas.List.{reverse-append}
use Rattle.std.proofs.lemmas.Bool.{eqb-true, false≢true}
use Rattle.std.proofs.lemmas.List.Elements.{filter_map-append}
use Rattle.cocoon_num.specs.Tree.{Decl, Refine, Role, Design}
use Rattle.cocoon_num.specs.Names.{same_name, named}
use Rattle.cocoon_types.specs.Design.{as_role, decls_to, last_level, role_at}
use Rattle.cocoon_types.specs.ReadBack.{hidden_in}
use Rattle.cocoon_types.specs.RuleParts.{roles_of}
use Rattle.declarations.specs.Declares.{role_number, role_texts}
use Rattle.declarations.specs.NameNumbers.{firsts, index_of}
use Rattle.form_rules.specs.Least.{IsLeast}
use Rattle.std.specs.Prelude.{Vec}
use Rattle.std.specs.declared.alloc.Global.{Global}
use Rattle.cocoon_syntax.specs.declared.decl.Role as code_role
use Rattle.cocoon_syntax.specs.declared.decl.Decl.{Decl as CodeDecl}
use Rattle.cocoon_syntax.specs.declared.decl.Decl.TheVariants as variant
use Rattle.cocoon_syntax.specs.declared.stmt.Stmt.{Stmt}
use Rattle.cocoon_syntax.specs.TreeOf.{block_of, body_of, decl_of, role_of, stmt_of}
use Rattle.cocoon_resolve.specs.Kept.{HoldsBodies, HoldsRow, HoldsRows, row_says}
use Rattle.cocoon_resolve.specs.declared.bodies.Bodies.{Bodies}
use Rattle.cocoon_resolve.specs.Readers.{reads_back}
use Rattle.std.proofs.Math.Nat.{eq-or-lt_of_le}
use Rattle.cocoon_resolve.proofs.Levels.{nil-right, blocks-more, get-before, get-last}

-- what is kept where a row grows
pub grown : {A : Type 0} (xs : List A) (y x : A) (i : ℕ) → slice_get xs i ≡ Some x → slice_get (xs ++ y ∷ []) i ≡ Some x
grown [] y x zero e = absurd cc
grown [] y x (suc i) e = absurd cc
grown (z ∷ xs) y x zero e = e
grown (z ∷ xs) y x (suc i) e = grown xs y x i e

-- a body without a least hidden choice has none
pub none-hidden : (found : Option ℕ) (ns : List ℕ) → IsLeast found ns → is_none found ≡ (length ns == 0)
none-hidden None ns e = ap (λ l. length l == 0) (sym e)
none-hidden (Some n) [] h = absurd (false≢true h.0)
none-hidden (Some n) (x ∷ xs) h = sym (positive (length xs))
  where
    positive : (m : ℕ) → (suc m == 0) ≡ false
    positive m = grind (arith, nat_tests)

-- ---- the same name

bytes_same : (x y : List ℕ) → bytes_eq x y ≡ same_name x y
bytes_same [] [] = refl
bytes_same [] (b ∷ y) = refl
bytes_same (a ∷ x) [] = refl
bytes_same (a ∷ x) (b ∷ y) = ap (λ t. (a == b) && t) (bytes_same x y)

same-refl : (x : List ℕ) → same_name x x ≡ true
same-refl x = sym (bytes_same x x) ∙ (bytes_decides x x).1 refl

same-true : (x y : List ℕ) → same_name x y ≡ true → x ≡ y
same-true x y h = (bytes_decides x y).0 (bytes_same x y ∙ h)

-- ---- one number, one name

-- the index of a name, by whether it is the first one
abbrev index-by : Bool → Option ℕ → Option ℕ
index-by first later = if first then Some 0 else option_map suc later

not-zero : (o : Option ℕ) (n : ℕ) → n ≡ 0 → option_map suc o ≡ Some n → ⊥
not-zero None n z e = cc
not-zero (Some k) n z e = grind (arith, z, some-is e)
  where
    some-is : Some (suc k) ≡ Some n → suc k ≡ n
    some-is e = ap (λ o. unwrap_or o 0) e

later-one : (o : Option ℕ) (n : ℕ) → option_map suc o ≡ Some n → o ≡ Some (n - 1)
later-one None n e = absurd cc
later-one (Some k) n e = ap Some (grind (arith, ap (λ o. unwrap_or o 0) e))

one-name : (x y : List ℕ) (ns : List (List ℕ)) (n : ℕ) → index_of x ns ≡ Some n → index_of y ns ≡ Some n → x ≡ y
one-name x y [] n e f = absurd cc
one-name x y (m ∷ ms) n e f = by (one-name x y ms (n - 1)) (same_name x m) (same_name y m) refl refl e f
  where
    by : (index_of x ms ≡ Some (n - 1) → index_of y ms ≡ Some (n - 1) → x ≡ y) → (b c : Bool) → same_name x m ≡ b → same_name y m ≡ c → index-by b (index_of x ms) ≡ Some n → index-by c (index_of y ms) ≡ Some n → x ≡ y
    by ih true true s t e f = same-true x m s ∙ sym (same-true y m t)
    by ih true false s t e f = absurd (not-zero (index_of y ms) n (sym (ap (λ o. unwrap_or o 0) e)) f)
    by ih false true s t e f = absurd (not-zero (index_of x ms) n (sym (ap (λ o. unwrap_or o 0) f)) e)
    by ih false false s t e f = ih (later-one (index_of x ms) n e) (later-one (index_of y ms) n f)

-- ---- one declaration more

-- the last of some roles with a name, by whether the last of all has it
abbrev last-by : Bool → Role → Option Role → Option Role
last-by is r earlier = if is then Some r else earlier

roles_more : (ds : List Decl) (x : Decl) (o : Option Role) → as_role x ≡ o
    → reverse (filter_map as_role (ds ++ x ∷ [])) ≡ option_to_list o ++ reverse (filter_map as_role ds)
roles_more ds x o e =
    ap reverse (filter_map-append as_role ds (x ∷ [])) ∙ reverse-append (filter_map as_role ds) (filter_map as_role (x ∷ []))
    ∙ ap (λ l. l ++ reverse (filter_map as_role ds)) (ap reverse (of-one (as_role x)) ∙ ap (λ p. reverse (option_to_list p)) e ∙ turned o)
  where
    of-one : (p : Option Role) → cons_option p [] ≡ option_to_list p
    of-one None = refl
    of-one (Some r) = refl

    turned : (p : Option Role) → reverse (option_to_list p) ≡ option_to_list p
    turned None = refl
    turned (Some r) = refl

-- the declaration is no role
pub no-role : (d : Design) (ds : List Decl) (x : Decl) (row : List Bool) → as_role x ≡ None → HoldsRow d ds row → HoldsRow d (ds ++ x ∷ []) row
no-role d ds x row e h name n r k l = h name n r k (sym (ap (named (λ (x : Role). x.name) name) (roles_more ds x None e)) ∙ l)

-- it is one without a number
pub no-number : (d : Design) (ds : List Decl) (x : Decl) (s : Role) (row : List Bool) → as_role x ≡ Some s → role_number d s.name.text ≡ None
    → HoldsRow d ds row → HoldsRow d (ds ++ x ∷ []) row
no-number d ds x s row e none h name n r k l = by (same_name name s.name.text) refl (sym (ap (named (λ (x : Role). x.name) name) (roles_more ds x (Some s) e)) ∙ l)
  where
    by : (b : Bool) → same_name name s.name.text ≡ b → last-by b s (named (λ (x : Role). x.name) name (reverse (filter_map as_role ds))) ≡ Some r → slice_get row n ≡ Some (reads_back d r)
    by true t m = absurd (none-some (sym none ∙ ap (role_number d) (sym (same-true name s.name.text t)) ∙ k))
      where
        none-some : None ≡ Some n → ⊥
        none-some q = cc
    by false t m = h name n r k m

-- it is one with a number, for which the row says whether its body reads back
pub one-role : (d : Design) (ds : List Decl) (x : Decl) (s : Role) (m : ℕ) (row new : List Bool) → as_role x ≡ Some s → role_number d s.name.text ≡ Some m
    → slice_get new m ≡ Some (reads_back d s)
    → ((i : ℕ) (b : Bool) → (i == m) ≡ false → slice_get row i ≡ Some b → slice_get new i ≡ Some b)
    → HoldsRow d ds row → HoldsRow d (ds ++ x ∷ []) new
one-role d ds x s m row new e number there others h name n r k l = by (same_name name s.name.text) refl (sym (ap (named (λ (x : Role). x.name) name) (roles_more ds x (Some s) e)) ∙ l)
  where
    by : (b : Bool) → same_name name s.name.text ≡ b → last-by b s (named (λ (x : Role). x.name) name (reverse (filter_map as_role ds))) ≡ Some r → slice_get new n ≡ Some (reads_back d r)
    by true t q =
        ap (slice_get new) (ap (λ o. unwrap_or o 0) (sym k ∙ ap (role_number d) (same-true name s.name.text t) ∙ number))
        ∙ there ∙ ap (λ z. Some (reads_back d z)) (ap (λ o. unwrap_or o s) q)
    by false t q = others n (reads_back d r) (apart (n == m) refl) (h name n r k q)
      where
        apart : (c : Bool) → (n == m) ≡ c → c ≡ false
        apart false u = refl
        apart true u = absurd (false≢true (sym t ∙ ap (λ y. same_name y s.name.text) (one-name name s.name.text (firsts (role_texts (roles_of d))) m (k ∙ ap Some (eqb-true n m u)) number) ∙ same-refl s.name.text))

pub not-some : {A : Type 0} (o : Option A) (b : Bool) → is_some o ≡ not b → b ≡ is_none o
not-some None true e = refl
not-some None false e = absurd (false≢true e)
not-some (Some a) true e = absurd (false≢true (sym e))
not-some (Some a) false e = refl

pub reads-body : (d : Design) (role : code_role.Role) (body : Vec Stmt Global) → role.body ≡ Some body → (length (hidden_in d (block_of (map stmt_of body.items))) == 0) ≡ reads_back d (role_of role)
reads-body d role body e = sym (ap (λ o. elim (option_map body_of o) [ None ↦ true | Some b ↦ length (hidden_in d b) == 0 ]) e)

-- ---- what the code tells of a declaration

pub is-none : {A : Type 0} (o : Option A) → ((a : A) → o ≡ Some a → ⊥) → o ≡ None
is-none None h = refl
is-none (Some a) h = absurd (h a refl)

pub is-no-role : (x : CodeDecl) → ((r : code_role.Role) → x ≡ variant.Role r → ⊥) → as_role (decl_of x) ≡ None
is-no-role (variant.Function f) h = refl
is-no-role (variant.Assume a) h = refl
is-no-role (variant.Role r) h = absurd (h r refl)
is-no-role (variant.Host a) h = refl
is-no-role (variant.Switch a) h = refl

-- ---- rows, one level after the other

-- the declarations of one level more
decls-more : {A : Type 0} (d : Design) (g : A → Refine) (xs : List A) (i : ℕ) (x : A) → d.refines ≡ map g xs → i < length xs → x ≡ get_or xs i x
    → decls_to (i + 1) d ≡ decls_to i d ++ (g x).decls
decls-more d g xs i x s h e =
    ap (λ l. d.decls ++ l) (ap (λ bs. flat_map (λ (b : Refine). b.decls) (take (i + 1) bs)) s ∙ blocks-more g xs i x h e ∙ ap (λ bs. flat_map (λ (b : Refine). b.decls) (take i bs) ++ (g x).decls) (sym s))
    ∙ sym (append_assoc d.decls (flat_map (λ (b : Refine). b.decls) (take i d.refines)) (g x).decls)

pub row-more : {A : Type 0} (d : Design) (g : A → Refine) (xs : List A) (i : ℕ) (x : A) (row : List Bool) → d.refines ≡ map g xs → i < length xs → x ≡ get_or xs i x
    → HoldsRow d (decls_to i d ++ (g x).decls) row → HoldsRow d (decls_to (i + 1) d) row
row-more d g xs i x row s h e k = subst (λ l. HoldsRow d l row) (sym (decls-more d g xs i x s h e)) k

pub row-first : (d : Design) (row : List Bool) → HoldsRow d d.decls row → HoldsRow d (decls_to 0 d) row
row-first d row h = subst (λ l. HoldsRow d l row) (sym (nil-right d.decls)) h

pub rows-first : (d : Design) (row : Vec Bool Global) (rows : List (Vec Bool Global)) → HoldsRow d (decls_to 0 d) row.items → rows ≡ row ∷ [] → HoldsRows 0 d rows
rows-first d row rows h e = record {
  size = ap length e;
  each = λ level r l k. subst (λ m. HoldsRow d (decls_to m d) r.items) (sym (zero-of level l))
      (subst (λ v. HoldsRow d (decls_to 0 d) v.items) (ap (λ o. unwrap_or o row) (sym (ap₂ slice_get e (zero-of level l)) ∙ k)) h);
}
  where
    zero-of : (level : ℕ) → level ≤ 0 → level ≡ 0
    zero-of level l = omega arith

pub rows-more : (n : ℕ) (d : Design) (row : Vec Bool Global) (rows : List (Vec Bool Global)) → HoldsRows n d rows → HoldsRow d (decls_to (n + 1) d) row.items
    → HoldsRows (n + 1) d (rows ++ row ∷ [])
rows-more n d row rows h k = record {
  size = length-append rows (row ∷ []) ∙ ap (λ m. m + 1) h.size;
  each = λ level r l e. at level r (eq-or-lt_of_le l) e;
}
  where
    at : (level : ℕ) (r : Vec Bool Global) → (level ≡ n + 1) ⊎ (level < n + 1) → slice_get (rows ++ row ∷ []) level ≡ Some r → HoldsRow d (decls_to level d) r.items
    at level r (inr l) e = h.each level r (omega arith) (sym (get-before rows row level (subst (λ m. level < m) (sym h.size) l)) ∙ e)
    at level r (inl same) e = subst (λ m. HoldsRow d (decls_to m d) r.items) (sym same)
        (subst (λ v. HoldsRow d (decls_to (n + 1) d) v.items) (ap (λ o. unwrap_or o row) (sym (ap (slice_get (rows ++ row ∷ [])) (same ∙ sym h.size) ∙ get-last rows row) ∙ e)) k)

-- no role is among no declarations
pub row-none : (d : Design) (row : List Bool) → HoldsRow d [] row
row-none d row name n r k e = absurd cc

there : {A : Type 0} (xs : List A) (i : ℕ) → i < length xs → slice_get xs i ≡ None → ⊥
there [] i l e = omega arith
there (x ∷ xs) zero l e = cc
there (x ∷ xs) (suc i) l e = there xs i (omega arith) e

-- what the rows say
pub says : (d : Design) (t : Bodies) (level role : ℕ) (name : List ℕ) (r : Role) → HoldsBodies t d → level ≤ last_level d → role_number d name ≡ Some role
    → role_at level d name ≡ Some r → row_says t level role ≡ reads_back d r
says d t level role name r h l k e = by (slice_get t.rows.items level) refl
  where
    by : (o : Option (Vec Bool Global)) → slice_get t.rows.items level ≡ o → row_says t level role ≡ reads_back d r
    by None q = absurd (there t.rows.items level (subst (λ n. level < n) (sym h.size) (omega arith)) q)
    by (Some row) q = ap (λ o. elim o [ None ↦ false | Some v ↦ unwrap_or (slice_get v.items role) false ]) q ∙ ap (λ o. unwrap_or o false) (h.each level row l q name role r k e)
