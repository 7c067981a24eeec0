-- The latest declaration of a role.
use Rattle.std.proofs.Common.{◌≡◌, ℕ, zero, suc, ◌-◌, ◌≤◌, ◌<◌, Bool, true, false, List, [], ◌∷◌, ◌++◌, reverse, length, take, slice_get, slice_index_or, Option, Some, None, if◌then◌else◌, refl, sym, ap, ap₂, ◌∙◌, arith, nat_le, leb-true, leb-false, le-leb}
use Rattle.std.specs.Prelude.{option_map, option_and_then, filter_map, flat_map}
use Rattle.std.specs.Option.{option_or}
use Rattle.std.specs.List.{cons_option}
use mathlib.Core.List.{reverse-cons}
use Rattle.std.proofs.lemmas.Option.{slice_get-get_or}
use Rattle.cocoon_num.specs.Tree.{Name, Role, Decl, Refine, Design}
use Rattle.cocoon_num.specs.Names.{same_name, named}
use Rattle.cocoon_num.specs.Lists.{first_of}
use Rattle.cocoon_types.specs.Design.{as_role, decls_to, role_at}
use Rattle.declarations.specs.declared.place.Place.{Place}
use Rattle.declarations.specs.Places.{Placed, placed_from, placed_blocks, placed, places_by, decls_by}
use Rattle.declarations.specs.Declares.{fetch, latest_of, role_called}
use Rattle.declarations.proofs.PlaceFacts.{picked-append, Sound, sound-placed}

-- ---- the last of some roles

abbrev pub role_name : Role → Name
role_name r = r.name

abbrev pub last_named : List ℕ → List Role → Option Role
last_named x [] = None
last_named x (r ∷ rs) = option_or (last_named x rs) (if same_name x r.name.text then Some r else None)

named-append : (x : List ℕ) (rs : List Role) (r : Role) → named role_name x (rs ++ r ∷ []) ≡ option_or (named role_name x rs) (if same_name x r.name.text then Some r else None)
named-append x [] r = refl
named-append x (s ∷ rs) r = by (same_name x s.name.text) (named-append x rs r)
  where
    by : (b : Bool) → named role_name x (rs ++ r ∷ []) ≡ option_or (named role_name x rs) (if same_name x r.name.text then Some r else None)
        → (if b then Some s else named role_name x (rs ++ r ∷ [])) ≡ option_or (if b then Some s else named role_name x rs) (if same_name x r.name.text then Some r else None)
    by true ih = refl
    by false ih = ih

named-reverse : (x : List ℕ) (rs : List Role) → named role_name x (reverse rs) ≡ last_named x rs
named-reverse x [] = refl
named-reverse x (r ∷ rs) = ap (named role_name x) (reverse-cons r rs) ∙ named-append x (reverse rs) r ∙ ap (λ o. option_or o (if same_name x r.name.text then Some r else None)) (named-reverse x rs)

-- ---- the latest place against the last role

-- a place that declares this role, or neither
abbrev pub Stands : Design → Option Place → Option Role → Type 0
Stands d None None = Unit {0}
Stands d (Some p) (Some r) = fetch as_role d p ≡ Some r
Stands d _ _ = ⊥

Stands-or : (d : Design) (o : Option Place) (m : Option Role) (p : Place) (r : Role) → Stands d o m → fetch as_role d p ≡ Some r → Stands d (option_or o (Some p)) (option_or m (Some r))
Stands-or d None None p r h k = k
Stands-or d (Some q) (Some s) p r h k = h
Stands-or d None (Some s) p r h k = absurd h
Stands-or d (Some q) None p r h k = absurd h

or-none : {A : Type 0} (o : Option A) → option_or o None ≡ o
or-none None = refl
or-none (Some a) = refl

pub stands-fetch : (d : Design) (o : Option Place) (m : Option Role) → Stands d o m → option_and_then (fetch as_role d) o ≡ m
stands-fetch d None None h = refl
stands-fetch d (Some q) (Some s) h = h
stands-fetch d None (Some s) h = absurd h
stands-fetch d (Some q) None h = absurd h

-- the role that a declaration of a level of at most n declares
abbrev pub role_to : ℕ → Placed → Option Role
role_to n p = if nat_le p.0.level n then as_role p.1 else None

abbrev pub roles_to : ℕ → List Placed → List Role
roles_to n ps = filter_map (role_to n) ps

latest-stands : (d : Design) (n : ℕ) (x : List ℕ) (ps : List Placed) → Sound d ps → Stands d (latest_of n (places_by (role_called x) ps)) (last_named x (roles_to n ps))
latest-stands d n x [] h = tt
latest-stands d n x (p ∷ ps) h = by (as_role p.1) refl (latest-stands d n x ps h.1)
  where
    none : (b : Bool) → Stands d (latest_of n (places_by (role_called x) ps)) (last_named x (roles_to n ps))
        → Stands d (latest_of n (places_by (role_called x) ps)) (last_named x (cons_option (if b then None else None) (roles_to n ps)))
    none true ih = ih
    none false ih = ih

    some : (r : Role) → fetch as_role d p.0 ≡ Some r → (s b : Bool) → same_name x r.name.text ≡ s → nat_le p.0.level n ≡ b
        → Stands d (latest_of n (places_by (role_called x) ps)) (last_named x (roles_to n ps))
        → Stands d (latest_of n (cons_option (option_map (λ _. p.0) (if s then Some r else None)) (places_by (role_called x) ps))) (last_named x (cons_option (if b then Some r else None) (roles_to n ps)))
    some r f true true es eb ih = rw (es, eb) (Stands-or d (latest_of n (places_by (role_called x) ps)) (last_named x (roles_to n ps)) p.0 r ih f)
    some r f true false es eb ih = rw eb (rw (or-none (latest_of n (places_by (role_called x) ps))) ih)
    some r f false true es eb ih = rw es (rw (or-none (last_named x (roles_to n ps))) ih)
    some r f false false es eb ih = ih

    by : (o : Option Role) → as_role p.1 ≡ o
        → Stands d (latest_of n (places_by (role_called x) ps)) (last_named x (roles_to n ps))
        → Stands d (latest_of n (cons_option (option_map (λ _. p.0) (option_and_then (λ (r : Role). if same_name x r.name.text then Some r else None) o)) (places_by (role_called x) ps))) (last_named x (cons_option (if nat_le p.0.level n then o else None) (roles_to n ps)))
    by None e ih = none (nat_le p.0.level n) ih
    by (Some r) e ih = some r (ap (option_and_then as_role) h.0 ∙ e) (same_name x r.name.text) (nat_le p.0.level n) refl refl ih

-- ---- the roles up to a level

abbrev nothing : List Role
nothing = []

no-roles : (b : Bool) → nothing ≡ (if b then nothing else nothing)
no-roles true = refl
no-roles false = refl

roles-from : (n level index : ℕ) (ds : List Decl) → roles_to n (placed_from level index ds) ≡ (if nat_le level n then filter_map as_role ds else [])
roles-from n level index [] = no-roles (nat_le level n)
roles-from n level index (d ∷ ds) = by (nat_le level n) (roles_to n (placed_from level (suc index) ds)) (roles-from n level (suc index) ds)
  where
    by : (b : Bool) (rest : List Role) → rest ≡ (if b then filter_map as_role ds else [])
        → cons_option (if b then as_role d else None) rest ≡ (if b then cons_option (as_role d) (filter_map as_role ds) else [])
    by true rest h = ap (cons_option (as_role d)) h
    by false rest h = h

abbrev no_blocks : List Refine
no_blocks = []

take-nil : (m : ℕ) → take m [] ≡ no_blocks
take-nil zero = refl
take-nil (suc m) = refl

abbrev block_decls : Refine → List Decl
block_decls b = b.decls

roles-blocks : (n k : ℕ) (bs : List Refine) → roles_to n (placed_blocks (suc k) bs) ≡ filter_map as_role (flat_map block_decls (take (n - k) bs))
roles-blocks n k [] = ap (λ bs. filter_map as_role (flat_map block_decls bs)) (sym (take-nil (n - k)))
roles-blocks n k (b ∷ bs) =
    picked-append (role_to n) (placed_from (suc k) 0 b.decls) (placed_blocks (suc (suc k)) bs)
    ∙ ap₂ (◌++◌) (roles-from n (suc k) 0 b.decls) (roles-blocks n (suc k) bs)
    ∙ by (nat_le (suc k) n) refl
  where
    by : (t : Bool) → nat_le (suc k) n ≡ t
        → (if t then filter_map as_role b.decls else []) ++ filter_map as_role (flat_map block_decls (take (n - suc k) bs)) ≡ filter_map as_role (flat_map block_decls (take (n - k) (b ∷ bs)))
    by true e =
        let h : suc k ≤ n = leb-true (suc k) n e in
        let m : n - k ≡ suc (n - suc k) = omega arith in
        sym (ap (λ j. filter_map as_role (flat_map block_decls (take j (b ∷ bs)))) m ∙ picked-append as_role b.decls (flat_map block_decls (take (n - suc k) bs)))
    by false e =
        let h : n < suc k = leb-false (suc k) n e in
        let m : n - k ≡ 0 = omega arith in
        let l : n - suc k ≡ 0 = omega arith in
        ap (λ j. filter_map as_role (flat_map block_decls (take j bs))) l ∙ sym (ap (λ j. filter_map as_role (flat_map block_decls (take j (b ∷ bs)))) m)

pub roles-placed : (n : ℕ) (d : Design) → roles_to n (placed d) ≡ filter_map as_role (decls_to n d)
roles-placed n d =
    let first : nat_le 0 n ≡ true = le-leb 0 n (omega arith) in
    let same : n - 0 ≡ n = omega arith in
    picked-append (role_to n) (placed_from 0 0 d.decls) (placed_blocks 1 d.refines)
    ∙ ap₂ (◌++◌) (roles-from n 0 0 d.decls ∙ ap (λ b. if b then filter_map as_role d.decls else []) first) (roles-blocks n 0 d.refines ∙ ap (λ j. filter_map as_role (flat_map block_decls (take j d.refines))) same)
    ∙ sym (picked-append as_role d.decls (flat_map block_decls (take n d.refines)))

-- the latest place of a role holds its latest declaration
pub latest-role : (n : ℕ) (d : Design) (x : List ℕ) → option_and_then (fetch as_role d) (latest_of n (places_by (role_called x) (placed d))) ≡ role_at n d x
latest-role n d x =
    stands-fetch d (latest_of n (places_by (role_called x) (placed d))) (last_named x (roles_to n (placed d))) (latest-stands d n x (placed d) (sound-placed d))
    ∙ ap (last_named x) (roles-placed n d) ∙ sym (named-reverse x (filter_map as_role (decls_to n d)))

-- ---- the first

pub first-fetch : {A : Type 0} (pick : Decl → Option A) (d : Design) (ps : List Placed) → Sound d ps
    → option_and_then (fetch pick d) (first_of (places_by pick ps)) ≡ first_of (decls_by pick ps)
first-fetch pick d [] h = refl
first-fetch {A} pick d (p ∷ ps) h = by (first-fetch pick d ps h.1) (pick p.1) refl
  where
    by : option_and_then (fetch pick d) (first_of (places_by pick ps)) ≡ first_of (decls_by pick ps) → (o : Option A) → pick p.1 ≡ o
        → option_and_then (fetch pick d) (first_of (cons_option (option_map (λ _. p.0) o) (places_by pick ps))) ≡ first_of (cons_option o (decls_by pick ps))
    by ih None e = ih
    by ih (Some a) e = ap (option_and_then pick) h.0 ∙ e

pub first-stands : (d : Design) (x : List ℕ) (ps : List Placed) → Sound d ps
    → option_and_then (fetch as_role d) (first_of (places_by (role_called x) ps)) ≡ named role_name x (decls_by as_role ps)
first-stands d x [] h = refl
first-stands d x (p ∷ ps) h = by (first-stands d x ps h.1) (as_role p.1) refl
  where
    some : option_and_then (fetch as_role d) (first_of (places_by (role_called x) ps)) ≡ named role_name x (decls_by as_role ps) → (r : Role) → fetch as_role d p.0 ≡ Some r → (s : Bool)
        → option_and_then (fetch as_role d) (first_of (cons_option (option_map (λ _. p.0) (if s then Some r else None)) (places_by (role_called x) ps))) ≡ (if s then Some r else named role_name x (decls_by as_role ps))
    some ih r f true = f
    some ih r f false = ih

    by : option_and_then (fetch as_role d) (first_of (places_by (role_called x) ps)) ≡ named role_name x (decls_by as_role ps) → (o : Option Role) → as_role p.1 ≡ o
        → option_and_then (fetch as_role d) (first_of (cons_option (option_map (λ _. p.0) (option_and_then (λ (r : Role). if same_name x r.name.text then Some r else None) o)) (places_by (role_called x) ps))) ≡ named role_name x (cons_option o (decls_by as_role ps))
    by ih None e = ih
    by ih (Some r) e = some ih r (ap (option_and_then as_role) h.0 ∙ e) (same_name x r.name.text)

-- ---- by a binary search

-- the one before index k
abbrev pub before : {A : Type 0} → ℕ → List A → Option A
before zero ps = None
before (suc k) ps = slice_get ps k

pub latest-before : (n k : ℕ) (ps : List Place) → k ≤ length ps
    → ((j : ℕ) (e : Place) → j < k → nat_le (slice_index_or ps j e).level n ≡ true)
    → ((j : ℕ) (e : Place) → k ≤ j → j < length ps → nat_le (slice_index_or ps j e).level n ≡ false)
    → latest_of n ps ≡ before k ps
latest-before n zero [] within pass fail = refl
latest-before n (suc k) [] within pass fail = absurd (omega arith)
latest-before n zero (p ∷ ps) within pass fail =
    rw (fail 0 p (omega arith) (omega arith)) (rw (or-none (latest_of n ps)) (latest-before n zero ps (omega arith) (λ j e h. absurd (omega arith)) (λ j e h l. fail (suc j) e (omega arith) (omega arith))))
latest-before n (suc k) (p ∷ ps) within pass fail =
    rw (pass 0 p (omega arith)) (rw (latest-before n k ps (omega arith) (λ j e h. pass (suc j) e (omega arith)) (λ j e h l. fail (suc j) e (omega arith) (omega arith))) (last k (omega arith)))
  where
    last : (k : ℕ) → k ≤ length ps → option_or (before k ps) (Some p) ≡ slice_get (p ∷ ps) k
    last zero h = refl
    last (suc j) h = let e = slice_get-get_or ps j p (omega arith) in ap (λ o. option_or o (Some p)) e ∙ sym e
