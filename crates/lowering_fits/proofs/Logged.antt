-- What is made: meta fields of declared widths, and under names that follow one another.
use Rattle.std.proofs.Common.{◌≡◌, ℕ, suc, List, [], ◌∷◌, ◌++◌, true, Option, Some, None, refl}
use Rattle.cocoon_num.specs.Sorts.{is_declared_width}
use Rattle.cocoon_num.specs.Tree.{Param}
use Rattle.lowering.specs.Lower.{Counts, FieldName, Made, a_field, a_table, a_group, fields_from, past, site_name, key_name, result_name, var_name}

-- ---- widths

abbrev pub AllDeclared : List Made → Type 0
AllDeclared [] = Unit {0}
AllDeclared (a_field x i w ∷ ms) = (is_declared_width w ≡ true) × AllDeclared ms
AllDeclared (a_table t f ps ∷ ms) = AllDeclared ms
AllDeclared (a_group t f ps ∷ ms) = AllDeclared ms

abbrev pub ParamsDeclared : List Param → Type 0
ParamsDeclared [] = Unit {0}
ParamsDeclared (p ∷ ps) = (is_declared_width p.width ≡ true) × ParamsDeclared ps

pub declared_both : (xs ys : List Made) → AllDeclared xs → AllDeclared ys → AllDeclared (xs ++ ys)
declared_both [] ys h g = g
declared_both (a_field x i w ∷ xs) ys h g = (h.0, declared_both xs ys h.1 g)
declared_both (a_table t f ps ∷ xs) ys h g = declared_both xs ys h g
declared_both (a_group t f ps ∷ xs) ys h g = declared_both xs ys h g

pub fields_declared : (called : ℕ → FieldName) (j i : ℕ) (ps : List Param) → ParamsDeclared ps → AllDeclared (fields_from called j i ps)
fields_declared called j i [] h = tt
fields_declared called j i (p ∷ ps) h = (h.0, fields_declared called (suc j) (suc i) ps h.1)

-- ---- names

-- From the application a and the variable v on, up to others. Of the application there are so many keys, or all with the
-- result, after which the table comes.
abbrev pub Named : (a v : ℕ) → Option ℕ → List Made → (b w : ℕ) → Type 0
Named a v (Some k) [] b w = (k ≡ 0) × (a ≡ b) × (v ≡ w)
Named a v None [] b w = ⊥
Named a v (Some k) (a_field site_name i x ∷ ms) b w = ⊥
Named a v (Some k) (a_field (key_name c j) i x ∷ ms) b w = (c ≡ a) × (j ≡ k) × Named a v (Some (suc k)) ms b w
Named a v (Some k) (a_field (result_name c) i x ∷ ms) b w = (c ≡ a) × Named a v None ms b w
Named a v (Some k) (a_field (var_name j) i x ∷ ms) b w = (k ≡ 0) × (j ≡ v) × Named a (suc v) (Some 0) ms b w
Named a v None (a_field n i x ∷ ms) b w = ⊥
Named a v (Some k) (a_table t f ps ∷ ms) b w = ⊥
Named a v None (a_table t f ps ∷ ms) b w = Named (suc a) v (Some 0) ms b w
Named a v (Some k) (a_group t f ps ∷ ms) b w = ⊥
Named a v None (a_group t f ps ∷ ms) b w = Named (suc a) v (Some 0) ms b w

pub named_both : (a v : ℕ) (s : Option ℕ) (xs ys : List Made) (b w c x : ℕ) → Named a v s xs b w → Named b w (Some 0) ys c x → Named a v s (xs ++ ys) c x
named_both a v (Some k) [] ys b w c x h g = rw (h.0, h.1, h.2) g
named_both a v None [] ys b w c x h g = absurd h
named_both a v (Some k) (a_field site_name i y ∷ xs) ys b w c x h g = absurd h
named_both a v (Some k) (a_field (key_name d j) i y ∷ xs) ys b w c x h g = (h.0, h.1, named_both a v (Some (suc k)) xs ys b w c x h.2 g)
named_both a v (Some k) (a_field (result_name d) i y ∷ xs) ys b w c x h g = (h.0, named_both a v None xs ys b w c x h.1 g)
named_both a v (Some k) (a_field (var_name j) i y ∷ xs) ys b w c x h g = (h.0, h.1, named_both a (suc v) (Some 0) xs ys b w c x h.2 g)
named_both a v None (a_field n i y ∷ xs) ys b w c x h g = absurd h
named_both a v (Some k) (a_table t f ps ∷ xs) ys b w c x h g = absurd h
named_both a v None (a_table t f ps ∷ xs) ys b w c x h g = named_both (suc a) v (Some 0) xs ys b w c x h g
named_both a v (Some k) (a_group t f ps ∷ xs) ys b w c x h g = absurd h
named_both a v None (a_group t f ps ∷ xs) ys b w c x h g = named_both (suc a) v (Some 0) xs ys b w c x h g

pub keys_named : (a v k i : ℕ) (ps : List Param) (rest : List Made) (b w : ℕ) → ((m : ℕ) → Named a v (Some m) rest b w) → Named a v (Some k) (fields_from (key_name a) k i ps ++ rest) b w
keys_named a v k i [] rest b w h = h k
keys_named a v k i (p ∷ ps) rest b w h = (refl, refl, keys_named a v (suc k) (suc i) ps rest b w h)

pub vars_named : (a v i : ℕ) (ps : List Param) → Named a v (Some 0) (fields_from var_name v i ps) a (past v ps)
vars_named a v i [] = (refl, refl, refl)
vars_named a v i (p ∷ ps) = (refl, refl, vars_named a (suc v) (suc i) ps)

-- ---- both

pub record Logged (n : Counts) (made : List Made) (next : Counts) : Type 0 where
  pub declared : AllDeclared made
  pub names : Named n.app n.var (Some 0) made next.app next.var

pub logged_none : (n : Counts) → Logged n [] n
logged_none n = record { declared = tt; names = (refl, refl, refl) }

pub logged_both : (n k m : Counts) (xs ys : List Made) → Logged n xs k → Logged k ys m → Logged n (xs ++ ys) m
logged_both n k m xs ys h g = record {
  declared = declared_both xs ys h.declared g.declared;
  names = named_both n.app n.var (Some 0) xs ys k.app k.var m.app m.var h.names g.names;
}
