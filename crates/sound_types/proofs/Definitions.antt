-- Under definitions that fit the design, functions have values of their types.
use Rattle.std.proofs.Common.{◌≡◌, inl, inr, ℕ, ◌^◌, ◌||◌, List, [], ◌∷◌, ◌++◌, Bool, true, false, Option, Some, None, is_some, if◌then◌else◌, option_map, option_and_then, refl, sym, ap, subst, ◌∙◌}
use Rattle.std.specs.Prelude.{filter_map, option_to_list}
use Rattle.std.proofs.lemmas.Bool.{ltb-true}
use Rattle.std.proofs.lemmas.List.{append-nil}
use Rattle.cocoon_num.specs.Lists.{first_of, is_one_of}
use Rattle.cocoon_num.specs.Names.{named, same_name}
use Rattle.cocoon_num.specs.Sorts.{Sort}
use Rattle.cocoon_num.specs.Tree.{Name, Expr, FunctionDecl, Design, Entry, a_default, a_row, DefsText}
use Rattle.cocoon_num.specs.Values.{Value, number, truth}
use Rattle.cocoon_types.specs.DefsRules.{entry_fits, entry_function, entry_faults, entries_faults, default_faults, default_function, defaulted, missing_defaults, no_default, patterns_fit, row_faults, runtime_named, sort_of_value, unknown_function, value_fits}
use Rattle.cocoon_types.specs.DefsRules as rules
use Rattle.cocoon_types.specs.Design.{functions, widths_of}
use Rattle.cocoon_types.specs.Tables.{Defs, Row, Table, all_match, default_of, defs_of, look, look_up, row_of, runtime_table}
use Rattle.cocoon_types.specs.Typing.{result_sort}
use Rattle.cocoon_types.specs.Val.{apply, apply_in}
use Rattle.sound_types.specs.Defined.{HasDefinitions}
use Rattle.sound_types.specs.Literals.{EntriesFit, entry_value, value_within}
use Rattle.sound_types.specs.Matching.{HasValue, IsOfSort}
use Rattle.sound_types.proofs.Declared.{names_differ, typed_bodies}
use Rattle.sound_types.proofs.Functions.{Applies, Given, HaveValues, NamesDiffer, functions_value}
use Rattle.sound_types.proofs.Members.{In, all_at, filter_in, in_filter, named_some, named_there, none_at, in_right}
use Rattle.sound_types.proofs.Operators.{same_is}
use Rattle.sound_types.proofs.Options.{both_true, map_there, nil_left, nil_right, same_text, text_self}

-- ---- one entry

-- the entry's function, of whose result the value is
record IsEntryOf (d : Design) (e : Entry) : Type 0 where
  pub function : FunctionDecl
  pub declared : In function (functions d)
  pub name_is : (entry_function e).text ≡ function.name.text
  pub value_is : sort_of_value (entry_value e) ≡ result_sort function.result

runtime_there : (o : Option FunctionDecl) (h : FunctionDecl) → option_and_then (λ (x : FunctionDecl). elim x.body as (λ b. Option FunctionDecl) [ None ↦ Some x | Some e ↦ None ]) o ≡ Some h → o ≡ Some h
runtime_there None h e = absurd (cc)
runtime_there (Some x) h e = by_body x.body e
  where
    by_body : (b : Option Expr) → (elim b as (λ c. Option FunctionDecl) [ None ↦ Some x | Some y ↦ None ]) ≡ Some h → Some x ≡ Some h
    by_body None k = k
    by_body (Some y) k = absurd (cc)

no_fault : (at : ℕ) (b : Bool) → row_faults at b ≡ [] → b ≡ true
no_fault at true h = refl
no_fault at false h = absurd (cc)

fitting : (h : FunctionDecl) (e : Entry) → entry_fits h e ≡ true → sort_of_value (entry_value e) ≡ result_sort h.result
fitting h (a_default g v) k = sym (same_is (result_sort h.result) (sort_of_value v) k)
fitting h (a_row g ps v) k = sym (same_is (result_sort h.result) (sort_of_value v) (both_true (patterns_fit ps (widths_of h.params)) (value_fits h v) k).1)

known : (d : Design) (seen : List (List ℕ)) (e : Entry) (o : Option FunctionDecl) → runtime_named d (entry_function e).text ≡ o
    → (elim o as (λ x. List rules.DefsFault) [ None ↦ unknown_function (entry_function e).at ∷ [] | Some f ↦ row_faults (entry_function e).at (entry_fits f e) ++ default_faults seen e ]) ≡ [] → IsEntryOf d e
known d seen e None is h = absurd (cc)
known d seen e (Some f) is h =
    let found = named_there (λ (x : FunctionDecl). x.name) (entry_function e).text (functions d) f (runtime_there (named (λ (x : FunctionDecl). x.name) (entry_function e).text (functions d)) f is) in
    record {
      function = f;
      declared = found.0;
      name_is = found.1;
      value_is = fitting f e (no_fault (entry_function e).at (entry_fits f e) (nil_left (row_faults (entry_function e).at (entry_fits f e)) (default_faults seen e) h));
    }

entries : (d : Design) (seen : List (List ℕ)) (es : List Entry) → entries_faults d seen es ≡ [] → (e : Entry) → In e es → IsEntryOf d e
entries d seen [] h e i = absurd i
entries d seen (x ∷ es) h e i =
    let next = option_to_list (default_function x) ++ seen in
    elim i [
      | inl p ↦ subst (IsEntryOf d) (sym p) (known d seen x (runtime_named d (entry_function x).text) refl (nil_left (entry_faults d seen x) (entries_faults d next es) h))
      | inr p ↦ entries d next es (nil_right (entry_faults d seen x) (entries_faults d next es) h) e p
    ]

of_sort : (t : Sort) (v : Value) → sort_of_value v ≡ t → value_within v ≡ true → IsOfSort t v
of_sort t (number w n) h k = subst (λ s. IsOfSort s (number w n)) h (refl, ltb-true n (2 ^ w) k)
of_sort t (truth b) h k = subst (λ s. IsOfSort s (truth b)) h tt

-- each entry of a function has a value of its result
record Entered (d : Design) (es : DefsText) : Type 0 where
  pub differ : NamesDiffer d
  pub entries : (e : Entry) → In e es → IsEntryOf d e
  pub within : EntriesFit es
  pub defaults : missing_defaults d es ≡ []

entry_is : (d : Design) (es : DefsText) → Entered d es → (g : FunctionDecl) → In g (functions d) → (e : Entry) → In e es → g.name.text ≡ (entry_function e).text → IsOfSort (result_sort g.result) (entry_value e)
entry_is d es h g j e i same =
    let is = h.entries e i in
    let one : is.function ≡ g = h.differ is.function g is.declared j (sym is.name_is ∙ sym same) in
    subst (λ x. IsOfSort (result_sort x.result) (entry_value e)) one
    (of_sort (result_sort is.function.result) (entry_value e) is.value_is (all_at (λ x. value_within (entry_value x)) es h.within e i))

-- ---- the table of a function

if_some : {A : Type 0} (b : Bool) (x y : A) → (if b then Some x else None) ≡ Some y → (b ≡ true) × (x ≡ y)
if_some true x y h = (refl, cc)
if_some false x y h = absurd (cc)

row_entry : (f : List ℕ) (e : Entry) (r : Row) → row_of f e ≡ Some r → (f ≡ (entry_function e).text) × (r.value ≡ entry_value e)
row_entry f (a_default g v) r h = absurd (cc)
row_entry f (a_row g ps v) r h = let t = if_some (same_name f g.text) (record { patterns = ps; value = v }) r h in (same_text f g.text t.0, ap (λ (x : Row). x.value) (sym t.1))

default_entry : (f : List ℕ) (e : Entry) (v : Value) → default_of f e ≡ Some v → (f ≡ (entry_function e).text) × (v ≡ entry_value e)
default_entry f (a_row g ps v) w h = absurd (cc)
default_entry f (a_default g v) w h = let t = if_some (same_name f g.text) v w h in (same_text f g.text t.0, sym t.1)

first_there : {A : Type 0} (xs : List A) (x : A) → first_of xs ≡ Some x → In x xs
first_there [] x h = absurd (cc)
first_there (y ∷ xs) x h = inl (cc)

some_first : {A : Type 0} (xs : List A) (x : A) → In x xs → (y : A) × (first_of xs ≡ Some y)
some_first [] x i = absurd i
some_first (y ∷ xs) x i = (y, refl)

looked_is : (t : Sort) (rows : List Row) (otherwise : Value) (ns : List ℕ) → ((r : Row) → In r rows → IsOfSort t r.value) → IsOfSort t otherwise → IsOfSort t (look rows otherwise ns)
looked_is t [] otherwise ns h k = k
looked_is t (r ∷ rows) otherwise ns h k = either (all_match r.patterns ns) (looked_is t rows otherwise ns (λ x i. h x (inr i)) k)
  where
    either : (b : Bool) → IsOfSort t (look rows otherwise ns) → IsOfSort t (if b then r.value else look rows otherwise ns)
    either true l = h r (inl refl)
    either false l = l

-- what stands in a table
record IsTable (es : DefsText) (g : FunctionDecl) (t : Table) : Type 0 where
  pub function_is : t.function ≡ g.name
  pub rows_are : t.rows ≡ filter_map (row_of g.name.text) es
  pub default_is : In t.otherwise (filter_map (default_of g.name.text) es)

of_body : (es : DefsText) (g : FunctionDecl) (t : Table) (b : Option Expr)
    → (elim b as (λ x. Option Table) [
      | Some e ↦ None
      | None ↦ option_map (λ v. record { function = g.name; rows = filter_map (row_of g.name.text) es; otherwise = v }) (first_of (filter_map (default_of g.name.text) es))
    ]) ≡ Some t → IsTable es g t
of_body es g t (Some e) h = absurd (cc)
of_body es g t None h =
    let m = map_there (λ v. record { function = g.name; rows = filter_map (row_of g.name.text) es; otherwise = v }) (first_of (filter_map (default_of g.name.text) es)) t h in
    record {
      function_is = ap (λ (x : Table). x.function) (sym m.2);
      rows_are = ap (λ (x : Table). x.rows) (sym m.2);
      default_is = subst (λ (x : Table). In x.otherwise (filter_map (default_of g.name.text) es)) m.2 (first_there (filter_map (default_of g.name.text) es) m.0 m.1);
    }

any_in : (x : List ℕ) (ys : List (List ℕ)) → is_one_of ys x ≡ true → In x ys
any_in x [] h = absurd (cc)
any_in x (y ∷ ys) h = either (same_name y x) refl h (any_in x ys)
  where
    either : (b : Bool) → same_name y x ≡ b → (b || is_one_of ys x) ≡ true → (is_one_of ys x ≡ true → In x ys) → In x (y ∷ ys)
    either true e k f = inl (sym (same_text y x e))
    either false e k f = inr (f k)

defaulted_at : (runtime has : Bool) (f : rules.DefsFault) → runtime ≡ false → (if runtime || has then [] else f ∷ []) ≡ [] → has ≡ true
defaulted_at true has f e h = absurd (cc)
defaulted_at false true f e h = refl
defaulted_at false false f e h = absurd (cc)

default_there : (e : Entry) (x : List ℕ) → default_function e ≡ Some x → (v : Value) × (default_of x e ≡ Some v)
default_there (a_row g ps v) x h = absurd (cc)
default_there (a_default g v) x h =
    let same : g.text ≡ x = cc in
    (v, ap (λ b. if b then Some v else None) (ap (λ y. same_name y g.text) (sym same) ∙ text_self g.text))

-- a function without a body has its table
has_table : (d : Design) (es : DefsText) → Entered d es → (g : FunctionDecl) → In g (functions d) → g.body ≡ None → (t : Table) × In t (defs_of d es) × IsTable es g t
has_table d es h g j none =
    let x = g.name.text in
    let missing = none_at (λ (f : FunctionDecl). if is_some f.body || is_one_of (defaulted es) f.name.text then [] else no_default f.name.text ∷ []) (functions d) h.defaults g j in
    let has = any_in x (defaulted es) (defaulted_at (is_some g.body) (is_one_of (defaulted es) x) (no_default x) (ap is_some none) missing) in
    let e = in_filter default_function es x has in
    let v = default_there e.0 x e.2 in
    let first = some_first (filter_map (default_of x) es) v.0 (filter_in (default_of x) es e.0 v.0 e.1 v.1) in
    let t : Table = record { function = g.name; rows = filter_map (row_of x) es; otherwise = first.0 } in
    let made : runtime_table es g ≡ Some t =
    ap (λ b. elim b as (λ y. Option Table) [
      | Some y ↦ None
      | None ↦ option_map (λ w. record { function = g.name; rows = filter_map (row_of x) es; otherwise = w }) (first_of (filter_map (default_of x) es))
    ]) none ∙ ap (option_map (λ w. record { function = g.name; rows = filter_map (row_of x) es; otherwise = w })) first.1 in
    (t, filter_in (runtime_table es) (functions d) g t j made, of_body es g t g.body made)

table_value : (d : Design) (es : DefsText) → Entered d es → (g : FunctionDecl) → In g (functions d) → (t : Table) → IsTable es g t → (ns : List ℕ) → IsOfSort (result_sort g.result) (look t.rows t.otherwise ns)
table_value d es h g j t is ns =
    let x = g.name.text in
    let default = in_filter (default_of x) es t.otherwise is.default_is in
    let entry = default_entry x default.0 t.otherwise default.2 in
    looked_is (result_sort g.result) t.rows t.otherwise ns
    (λ r i.
    let row = in_filter (row_of x) es r (subst (In r) is.rows_are i) in
    let of = row_entry x row.0 r row.2 in
    subst (IsOfSort (result_sort g.result)) (sym of.1) (entry_is d es h g j row.0 row.1 of.0))
    (subst (IsOfSort (result_sort g.result)) (sym entry.1) (entry_is d es h g j default.0 default.1 entry.0))

runtime_value : (d : Design) (es : DefsText) → Entered d es → (g : FunctionDecl) → In g (functions d) → g.body ≡ None → (ns : List ℕ) → HasValue (result_sort g.result) (look_up (defs_of d es) g.name.text ns)
runtime_value d es h g j none ns =
    let x = g.name.text in
    let own = has_table d es h g j none in
    let first = named_some (λ (t : Table). t.function) x (defs_of d es) own.0 own.1 (ap (λ (n : Name). n.text) (sym own.2.function_is)) in
    let is = named_there (λ (t : Table). t.function) x (defs_of d es) first.0 first.1 in
    let of = in_filter (runtime_table es) (functions d) first.0 is.0 in
    let made = of_body es of.0 first.0 of.0.body of.2 in
    let same : of.0 ≡ g = h.differ of.0 g of.1 j (ap (λ (n : Name). n.text) (sym made.function_is) ∙ sym is.1) in
    subst (HasValue (result_sort g.result)) (sym (ap (option_map (λ (t : Table). look t.rows t.otherwise ns)) first.1))
    (table_value d es h g j first.0 (subst (λ y. IsTable es y first.0) same made) ns)

-- ---- all functions

abbrev by_name : Defs → Given
by_name defs g before f ns = look_up defs f ns

defs_apply : (d : Design) (defs : Defs) → Applies d.headers (by_name defs) (apply_in d.headers defs)
defs_apply d defs = record { step = λ g before f ns. refl }

pub under_definitions : (d : Design) (es : DefsText) → HasDefinitions d es → HaveValues (functions d) (apply d (defs_of d es))
under_definitions d es h =
    let differ = names_differ d h.rules in
    let defs = defs_of d es in
    let e : Entered d es = record {
      differ = differ;
      entries = entries d [] es (nil_left _ _ (nil_left _ _ (nil_left _ _ h.fits)));
      within = h.values_fit;
      defaults = nil_right _ _ (nil_left _ _ (nil_left _ _ h.fits));
    } in
    functions_value d d.headers (by_name defs) (apply_in d.headers defs) (defs_apply d defs) differ
    (λ before g rest all none ns f. runtime_value d es e g (subst (In g) all (in_right g before (g ∷ rest) (inl refl))) none ns) [] (functions d) [] (append-nil (functions d))
    (typed_bodies d h.rules h.literals) (λ g none. absurd none)
