-- Tables of new roles, made one body longer.
use Rattle.std.proofs.Common.{◌≡◌, inl, inr, ℕ, zero, suc, ◌+◌, ◌<◌, ◌&&◌, ◌||◌, List, [], ◌∷◌, ◌++◌, map, take, length, reverse, Bool, true, false, cond, Option, Some, None, is_some, if◌then◌else◌, refl, sym, ap, subst, ◌∙◌, arith}
use Rattle.std.specs.Prelude.{filter, filter_map, get_or, slice_get, not}
use Rattle.std.specs.List.{list_any}
use Rattle.std.proofs.lemmas.List.{append-nil, append_assoc, map-append}
use Rattle.std.proofs.lemmas.List.Concat.{flat_map-append}
use Rattle.std.proofs.lemmas.List.Elements.{filter_map-append}
use Rattle.cocoon_num.specs.Names.{same_name}
use Rattle.cocoon_num.specs.Tree.{Block, Role, Decl, a_role, Refine, Design}
use Rattle.cocoon_types.specs.Design.{as_role, decls_to, role_at}
use Rattle.cocoon_types.specs.Limits.{reported}
use Rattle.refinement.specs.Segments.{is_new}
use Rattle.cocoon_syntax.specs.TreeOf.{decl_of}
use Rattle.cocoon_syntax.specs.declared.decl.Decl.{Decl as CodeDecl}
use Rattle.cocoon_resolve.proofs.Steps.{taken_more}
use Rattle.sound_types.proofs.Levels.{block_decls}
use Rattle.sound_types.proofs.Members.{In, in_either, in_reverse, named_some, named_there, reverse_in}
use Rattle.sound_types.proofs.Options.{same_text, text_self}
use Rattle.obligation_laws.specs.Counts.{ends_in, leaf_count, sends_of, sum_of}
use Rattle.obligation_gen.specs.declared.ways.RoleLeaves.{RoleLeaves}
use Rattle.obligation_gen.specs.Tabled.{Tells, entries, role_texts, value_of, valued}
use Rattle.obligation_gen.specs.Weighed.{leaves_in, weighed_in}
use Rattle.obligation_gen.proofs.Weighing.{body_weighs, sum_reported}

-- ---- look-ups

abbrev leaves_by : List (List ℕ × ℕ) → List ℕ → ℕ
leaves_by [] x = 1
leaves_by (e ∷ es) x = if same_name x e.0 then e.1 else leaves_by es x

by_entries : (table : List RoleLeaves) (x : List ℕ) → leaves_in table x ≡ leaves_by (entries table) x
by_entries [] x = refl
by_entries (r ∷ rs) x = ap (λ n. if same_name x r.name.now then r.leaves else n) (by_entries rs x)

abbrev is_among : List ℕ → List (List ℕ) → Bool
is_among x ns = list_any (λ n. same_name x n) ns

told : (v : List ℕ → ℕ) (ns : List (List ℕ)) (x : List ℕ) → leaves_by (map (λ n. (n, v n)) ns) x ≡ (if is_among x ns then v x else 1)
told v [] x = refl
told v (n ∷ ns) x = by (same_name x n) refl (told v ns x)
  where
    by : (b : Bool) → same_name x n ≡ b → leaves_by (map (λ m. (m, v m)) ns) x ≡ (if is_among x ns then v x else 1)
        → (if b then v n else leaves_by (map (λ m. (m, v m)) ns) x) ≡ (if b || is_among x ns then v x else 1)
    by true e h = ap v (sym (same_text x n e))
    by false e h = h

among_new : (new : List ℕ → Bool) (ns : List (List ℕ)) (x : List ℕ) → is_among x (filter new ns) ≡ (is_among x ns && new x)
among_new new [] x = refl
among_new new (n ∷ ns) x = by (new n) refl (same_name x n) refl (among_new new ns x)
  where
    and_false : (b c : Bool) → c ≡ false → (b && c) ≡ false
    and_false true c z = z
    and_false false c z = refl

    by : (k : Bool) → new n ≡ k → (b : Bool) → same_name x n ≡ b → is_among x (filter new ns) ≡ (is_among x ns && new x)
        → is_among x (cond k (n ∷ filter new ns) (filter new ns)) ≡ ((b || is_among x ns) && new x)
    by true e true s h = (λ i. s i || is_among x (filter new ns)) ∙ sym (ap new (same_text x n s) ∙ e)
    by true e false s h = (λ i. s i || is_among x (filter new ns)) ∙ h
    by false e true s h =
        let old : new x ≡ false = ap new (same_text x n s) ∙ e in
        h ∙ and_false (is_among x ns) (new x) old ∙ sym old
    by false e false s h = h

-- ---- which roles are new

next_block : (bs : List Refine) (i : ℕ) (b : Refine) → slice_get bs i ≡ Some b → take (suc i) bs ≡ take i bs ++ b ∷ []
next_block [] i b h = absurd (cc)
next_block (c ∷ bs) zero b h = let e : c ≡ b = cc in ap (λ x. x ∷ []) e
next_block (c ∷ bs) (suc i) b h = ap (λ xs. c ∷ xs) (next_block bs i b h)

more_decls : (d : Design) (i : ℕ) (b : Refine) → slice_get d.refines i ≡ Some b → decls_to (suc i) d ≡ decls_to i d ++ b.decls
more_decls d i b h =
    ap (λ bs. d.decls ++ block_decls bs) (next_block d.refines i b h) ∙ ap (λ xs. d.decls ++ xs) (flat_map-append (λ (c : Refine). c.decls) (take i d.refines) (b ∷ []) ∙ ap (λ xs. block_decls (take i d.refines) ++ xs) (append-nil b.decls))
    ∙ sym (append_assoc d.decls (block_decls (take i d.refines)) b.decls)

text_among : (r : Role) (rs : List Role) (x : List ℕ) → In r rs → x ≡ r.name.text → is_among x (map (λ (q : Role). q.name.text) rs) ≡ true
text_among r [] x i e = absurd i
text_among r (q ∷ rs) x i e = elim i [
  | inl same ↦ (λ k. same_name x (ap (λ (z : Role). z.name.text) (sym same) k) || is_among x (map (λ (z : Role). z.name.text) rs)) ∙ (λ k. same_name x (sym e k) || is_among x (map (λ (z : Role). z.name.text) rs)) ∙ (λ k. text_self x k || is_among x (map (λ (z : Role). z.name.text) rs))
  | inr j ↦ or_true (same_name x q.name.text) (is_among x (map (λ (z : Role). z.name.text) rs)) (text_among r rs x j e)
]
  where
    or_true : (b c : Bool) → c ≡ true → (b || c) ≡ true
    or_true true c h = refl
    or_true false c h = h

some_there : {A : Type 0} (o : Option A) → is_some o ≡ true → (a : A) × (o ≡ Some a)
some_there None h = absurd (cc)
some_there (Some a) h = (a, refl)

both_of : (a b : Bool) → (a && b) ≡ true → (a ≡ true) × (b ≡ true)
both_of true b h = (refl, h)
both_of false b h = absurd (cc)

-- a new role is declared in the block
pub new_among : (d : Design) (above : ℕ) (block : Refine) → slice_get d.refines above ≡ Some block → (x : List ℕ) → is_new above d x ≡ true → is_among x (role_texts block.decls) ≡ true
new_among d above block is x h =
    let both = both_of (is_some (role_at (suc above) d x)) (not (is_some (role_at above d x))) h in
    let r = some_there (role_at (suc above) d x) both.0 in
    let all = filter_map as_role (decls_to (suc above) d) in
    let t = named_there (λ (q : Role). q.name) x (reverse all) r.0 r.1 in
    let i : In r.0 (filter_map as_role (decls_to above d) ++ filter_map as_role block.decls) =
    subst (In r.0) (ap (filter_map as_role) (more_decls d above block is) ∙ filter_map-append as_role (decls_to above d) block.decls) (in_reverse r.0 all t.0) in
    elim (in_either r.0 (filter_map as_role (decls_to above d)) (filter_map as_role block.decls) i) [
      | inl j ↦
          let old = named_some (λ (q : Role). q.name) x (reverse (filter_map as_role (decls_to above d))) r.0 (reverse_in r.0 (filter_map as_role (decls_to above d)) j) t.1 in
          absurd (let e : false ≡ true = sym (ap (λ (o : Option Role). not (is_some o)) old.1) ∙ both.1 in cc)
      | inr j ↦ text_among r.0 (filter_map as_role block.decls) x j t.1
    ]

-- ---- tables

-- a role's leaves with one body more, where the table tells those behind it
pub leaves_more : (d : Design) (above k : ℕ) (table : List RoleLeaves) → Tells (role_at (suc above) d) (is_new above d) k table → (name : List ℕ) → value_of d above table name ≡ reported (leaf_count (role_at (suc above) d) (is_new above d) (suc k) name)
leaves_more d above k table tells name =
    sum_reported (leaves_in table) (λ r. if is_new above d r then leaf_count (role_at (suc above) d) (is_new above d) k r else 1)
    (λ r. tells r ∙ by (is_new above d r) (leaf_count (role_at (suc above) d) (is_new above d) k r)) (sends_of (role_at (suc above) d) name)
  where
    by : (b : Bool) (n : ℕ) → (if b then reported n else 1) ≡ reported (if b then n else 1)
    by true n = refl
    by false n = refl

pub table_more : (d : Design) (above k : ℕ) (block : Refine) (table next : List RoleLeaves) → slice_get d.refines above ≡ Some block → Tells (role_at (suc above) d) (is_new above d) k table
    → entries next ≡ valued d above table (filter (is_new above d) (role_texts block.decls)) → Tells (role_at (suc above) d) (is_new above d) (suc k) next
table_more d above k block table next is tells made x =
    by_entries next x ∙ ap (λ es. leaves_by es x) made ∙ told (value_of d above table) (filter (is_new above d) (role_texts block.decls)) x
    ∙ ap (λ b. if b then value_of d above table x else 1) (among_new (is_new above d) (role_texts block.decls) x)
    ∙ by (is_new above d x) refl
  where
    never : (c : Bool) → (c && false) ≡ false
    never true = refl
    never false = refl

    by : (b : Bool) → is_new above d x ≡ b → (if is_among x (role_texts block.decls) && b then value_of d above table x else 1) ≡ (if b then reported (leaf_count (role_at (suc above) d) (is_new above d) (suc k) x) else 1)
    by true e = ap (λ c. if c && true then value_of d above table x else 1) (new_among d above block is x e) ∙ leaves_more d above k table tells x
    by false e = ap (λ c. if c then value_of d above table x else 1) (never (is_among x (role_texts block.decls)))

filter_append : {A : Type 0} (p : A → Bool) (xs ys : List A) → filter p (xs ++ ys) ≡ filter p xs ++ filter p ys
filter_append p [] ys = refl
filter_append p (x ∷ xs) ys = by (p x) (filter_append p xs ys)
  where
    by : (b : Bool) → filter p (xs ++ ys) ≡ filter p xs ++ filter p ys → cond b (x ∷ filter p (xs ++ ys)) (filter p (xs ++ ys)) ≡ cond b (x ∷ filter p xs) (filter p xs) ++ filter p ys
    by true h = ap (λ zs. x ∷ zs) h
    by false h = h

-- one more declaration
pub valued_more : (d : Design) (above : ℕ) (table : List RoleLeaves) (xs ys : List Decl)
    → valued d above table (filter (is_new above d) (role_texts (xs ++ ys))) ≡ valued d above table (filter (is_new above d) (role_texts xs)) ++ valued d above table (filter (is_new above d) (role_texts ys))
valued_more d above table xs ys =
    ap (λ rs. valued d above table (filter (is_new above d) (map (λ (r : Role). r.name.text) rs))) (filter_map-append as_role xs ys)
    ∙ ap (λ ns. valued d above table (filter (is_new above d) ns)) (map-append (λ (r : Role). r.name.text) (filter_map as_role xs) (filter_map as_role ys))
    ∙ ap (valued d above table) (filter_append (is_new above d) (role_texts xs) (role_texts ys))
    ∙ map-append (λ n. (n, value_of d above table n)) (filter (is_new above d) (role_texts xs)) (filter (is_new above d) (role_texts ys))

-- no body ran, and each role has one leaf
pub first_table : (roles : List ℕ → Option Role) (new : List ℕ → Bool) → Tells roles new 0 []
first_table roles new name = by (new name)
  where
    by : (b : Bool) → 1 ≡ (if b then reported 1 else 1)
    by true = refl
    by false = refl

-- one body, where no role is new
pub one_body : (roles : List ℕ → Option Role) (name : List ℕ) → reported (sum_of (map (leaves_in []) (sends_of roles name))) ≡ reported (leaf_count roles (λ r. false) 1 name)
one_body roles name = sum_reported (leaves_in []) (λ r. 1) (λ r. refl) (sends_of roles name)

-- the table with the roles of one more declaration of the code
pub table_step : (d : Design) (above : ℕ) (table : List RoleLeaves) (xs : List CodeDecl) (i : ℕ) (x : CodeDecl) (a b : List (List ℕ × ℕ)) → i < length xs → x ≡ get_or xs i x
    → a ≡ valued d above table (filter (is_new above d) (role_texts (map decl_of (take i xs)))) → b ≡ a ++ valued d above table (filter (is_new above d) (role_texts (decl_of x ∷ [])))
    → b ≡ valued d above table (filter (is_new above d) (role_texts (map decl_of (take (i + 1) xs))))
table_step d above table xs i x a b l e h k =
    k ∙ ap (λ es. es ++ valued d above table (filter (is_new above d) (role_texts (decl_of x ∷ [])))) h
    ∙ sym (valued_more d above table (map decl_of (take i xs)) (decl_of x ∷ []))
    ∙ ap (λ ds. valued d above table (filter (is_new above d) (role_texts ds))) (sym (taken_more decl_of xs i x l e))

-- the leaves behind a role's body
pub role_weighs : (f : List ℕ → ℕ) (roles : List ℕ → Option Role) (name : List ℕ) (r : Role) (b : Block) → roles name ≡ Some r → r.body ≡ Some b → (weighed_in f b).ended ≡ sum_of (map f (sends_of roles name))
role_weighs f roles name r b is body =
    body_weighs f b
    ∙ sym (ap (λ rs. sum_of (map f rs))
    (ap (λ (o : Option Role). elim o as (λ x. List (List ℕ)) [ None ↦ [] | Some q ↦ elim q.body [ None ↦ [] | Some y ↦ filter_map (λ e. e) (ends_in y) ] ]) is
    ∙ ap (λ (o : Option Block). elim o as (λ x. List (List ℕ)) [ None ↦ [] | Some y ↦ filter_map (λ e. e) (ends_in y) ]) body))

-- a new role is noted
pub noted : (d : Design) (above : ℕ) (table old next : List RoleLeaves) (entry : RoleLeaves) (r : Role) → next ≡ old ++ entry ∷ [] → entry.name.now ≡ r.name.text → entry.leaves ≡ value_of d above table r.name.text
    → is_new above d r.name.text ≡ true → entries next ≡ entries old ++ valued d above table (filter (is_new above d) (role_texts (a_role r ∷ [])))
noted d above table old next entry r is name leaves new =
    ap entries is ∙ map-append (λ (x : RoleLeaves). (x.name.now, x.leaves)) old (entry ∷ [])
    ∙ ap (λ es. entries old ++ es) (λ i. (name i, leaves i) ∷ [])
    ∙ ap (λ (b : Bool). entries old ++ valued d above table (cond b (r.name.text ∷ []) [])) (sym new)

-- ---- what is read at an index

pub read_there : {X Y : Type 0} (f : X → Y) (xs : List X) (i : ℕ) (x : X) → x ≡ get_or xs i x → i < length xs → slice_get (map f xs) i ≡ Some (f x)
read_there f [] i x e l = absurd (omega (arith, l))
read_there f (y ∷ xs) zero x e l = ap (λ z. Some (f z)) (sym e)
read_there f (y ∷ xs) (suc i) x e l = read_there f xs i x e (omega (arith, l))

pub same_length : {X Y : Type 0} (f : X → Y) (xs : List X) → length xs ≡ length (map f xs)
same_length f [] = refl
same_length f (x ∷ xs) = ap suc (same_length f xs)
