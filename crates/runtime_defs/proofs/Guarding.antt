-- The functions of guards: their tables, and the numbers at which they are true.
use Rattle.std.proofs.Common.{◌≡◌, ℕ, ◌^◌, ◌<◌, suc, ◌==◌, ◌&&◌, ◌||◌, Bool, true, false, cond, List, [], ◌∷◌, ◌++◌, All, slice_get, Option, Some, None, if◌then◌else◌, arith, refl, sym, ap, subst, ◌∙◌}
use Rattle.std.specs.Prelude.{filter_map, flat_map, option_and_then, option_map}
use Rattle.std.specs.List.{AllZip}
use Rattle.std.proofs.lemmas.Bool.Decides.{nat_tests}
use Rattle.std.proofs.lemmas.List.Folds.{list_any-append}
use Rattle.cocoon_num.specs.FunTables.{looked}
use Rattle.cocoon_num.specs.Lists.{first_of, has_number, is_one_of}
use Rattle.cocoon_num.specs.Names.{same_name, named}
use Rattle.cocoon_num.specs.Sorts.{same_sort}
use Rattle.cocoon_num.specs.Tree.{Name, ResultKind, of_width, of_truth, FunctionDecl, Role, DefsText, Design}
use Rattle.cocoon_num.specs.Values.{Value, number, truth, fits_width}
use Rattle.cocoon_num.specs.declared.bits.Bits.{Bits}
use Rattle.cocoon_num.specs.declared.fun_table.FunTable.{FunTable}
use Rattle.cocoon_resolve.specs.Resolved.{Resolves}
use Rattle.cocoon_types.specs.DefsRules.{fork_calls, guard_call, guard_calls, is_false, sort_of_value}
use Rattle.cocoon_types.specs.Design.{functions, widths_of}
use Rattle.cocoon_types.specs.LastLevel.{of_host, switch_roles}
use Rattle.cocoon_types.specs.Rules.{WellFormed}
use Rattle.cocoon_types.specs.Tables.{Table, defs_of, look, look_up, runtime_table}
use Rattle.cocoon_types.specs.Typing.{result_sort}
use Rattle.declarations.specs.NameNumbers.{index_of}
use Rattle.declarations.specs.Declares.{function_number, function_texts}
use Rattle.runtime_defs.specs.Bound.{IsBound, IsPlace}
use Rattle.runtime_defs.specs.Fitting.{FitsDesign, FitsFunction, FitsPlace, FitsRow, literal_functions, result_width}
use Rattle.runtime_defs.specs.Guards.{fits_params, host_function, host_table, is_true_at, ListsDefined, ListsTrue, switch_function, switch_table, table_named}
use Rattle.runtime_defs.specs.Places.{Places, all_fit_widths, HasShape, MayHaveShape, result_value, table_at}
use Rattle.runtime_defs.specs.Stands.{Stands}
use Rattle.runtime_defs.specs.TrueRows.{IsListed, MayBeListed}
use Rattle.runtime_defs.specs.declared.true_numbers.TrueNumbers.{TrueNumbers}
use Rattle.runtime_defs.proofs.Chosen.{AllRight, first-literal, first-right, LiteralOf}
use Rattle.runtime_defs.proofs.Distinct.{named-self, number-self, runtime-self}
use Rattle.runtime_defs.proofs.Fitted.{no-body, parts-of, sound-of}
use Rattle.runtime_defs.proofs.Listing.{IsLiteral, has-filtered, lists-all, lists-short}
use Rattle.runtime_defs.proofs.Looking.{both-true}
use Rattle.runtime_defs.proofs.Numbers.{same-refl, same-true}
use Rattle.runtime_defs.proofs.Shapes.{shape-here, through}
use Rattle.runtime_defs.proofs.Zips.{paired}

-- ---- which function

-- the function of a number, which has this name
record Numbered (fs : List FunctionDecl) (x : List ℕ) (k : ℕ) : Type 0 where
  function : FunctionDecl
  there : slice_get fs k ≡ Some function
  name : x ≡ function.name.text

index-step : (o : Option ℕ) (k : ℕ) → option_map suc o ≡ Some k → (j : ℕ) × (o ≡ Some j) × (k ≡ suc j)
index-step None k h = absurd cc
index-step (Some j) k h = (j, refl, cc)

numbered-step : (e : FunctionDecl) (fs : List FunctionDecl) (x : List ℕ) (k : ℕ) → ((j : ℕ) → index_of x (function_texts fs) ≡ Some j → Numbered fs x j) → (b : Bool) → same_name x e.name.text ≡ b
    → (if b then Some 0 else option_map suc (index_of x (function_texts fs))) ≡ Some k → Numbered (e ∷ fs) x k
numbered-step e fs x k ih true s h =
    let zero-is : 0 ≡ k = cc in
    subst (Numbered (e ∷ fs) x) zero-is (record { function = e; there = refl; name = same-true x e.name.text s })
numbered-step e fs x k ih false s h =
    let step = index-step (index_of x (function_texts fs)) k h in
    let rest = ih step.0 step.1 in
    subst (Numbered (e ∷ fs) x) (sym step.2) (record { function = rest.function; there = rest.there; name = rest.name })

numbered : (fs : List FunctionDecl) (x : List ℕ) (k : ℕ) → index_of x (function_texts fs) ≡ Some k → Numbered fs x k
numbered [] x k h = absurd cc
numbered (e ∷ fs) x k h = numbered-step e fs x k (numbered fs x) (same_name x e.name.text) refl h

first-member : (xs : List (List ℕ)) (x : List ℕ) → first_of xs ≡ Some x → is_one_of xs x ≡ true
first-member [] x h = absurd cc
first-member (y ∷ xs) x h =
    let same : y ≡ x = cc in
    ap (λ b. b || is_one_of xs x) (ap (λ z. same_name z x) same ∙ same-refl x)

member-left : (xs ys : List (List ℕ)) (x : List ℕ) → is_one_of xs x ≡ true → is_one_of (xs ++ ys) x ≡ true
member-left xs ys x h = list_any-append (λ y. same_name y x) xs ys ∙ ap (λ b. b || is_one_of ys x) h

member-right : (xs ys : List (List ℕ)) (x : List ℕ) → is_one_of ys x ≡ true → is_one_of (xs ++ ys) x ≡ true
member-right xs ys x h = list_any-append (λ y. same_name y x) xs ys ∙ behind (is_one_of xs x) (is_one_of ys x) h
  where
    behind : (a b : Bool) → b ≡ true → (a || b) ≡ true
    behind true b k = refl
    behind false b k = k

-- the functions of guards are among those with literal rows
pub host-literal : (d : Design) (f : List ℕ) → host_function d ≡ Some f → is_one_of (literal_functions d) f ≡ true
host-literal d f h =
    let hosts = of_host d (λ h e s. guard_call e.guard) in
    let switches = flat_map (λ (r : Role). guard_call r.guard) (switch_roles d) in
    member-left (guard_calls d) (fork_calls d) f (member-left hosts switches f (first-member hosts f h))

pub switch-literal : (d : Design) (f : List ℕ) → switch_function d ≡ Some f → is_one_of (literal_functions d) f ≡ true
switch-literal d f h =
    let hosts = of_host d (λ h e s. guard_call e.guard) in
    let switches = flat_map (λ (r : Role). guard_call r.guard) (switch_roles d) in
    member-left (guard_calls d) (fork_calls d) f (member-right hosts switches f (first-member switches f h))

-- ---- tables that fit

-- the table of a function that has literal rows
record Literal (t : FunTable) : Type 0 where
  width : ℕ
  rows : All (FitsRow t.widths width) t.rows
  literal : IsLiteral t

fitting-table : (d : Design) (places : Places) → FitsDesign d places → (k : ℕ) (f : FunctionDecl) (t : FunTable) → slice_get (functions d) k ≡ Some f → table_at places k ≡ Some t → (f.body ≡ None) × FitsFunction f t
fitting-table d places z k f t g h =
    let p = paired FitsPlace (functions d) places k f z.places g in
    let there : p.other ≡ Some t = sym (ap (option_and_then (λ (t : Option FunTable). t)) p.there) ∙ h in
    subst (FitsPlace f) there p.pair

no-truth : (b : Bool) → truth b ≡ truth false → b ≡ false
no-truth true h = absurd cc
no-truth false h = refl

no-bit : (w n : ℕ) → w ≡ 1 → n < 2 ^ w → (n == 1) ≡ false → n ≡ 0
no-bit w n e l h = let small : n < 2 = subst (λ k. n < 2 ^ k) e l in grind (arith, nat_tests, small, h)

-- a result that is the truth value false is kept as 0
false-is : (kind : ResultKind) (b : Bits) → b.width ≡ result_width kind → result_value kind b ≡ truth false → b.value ≡ 0
false-is (of_width w) b h e = absurd cc
false-is of_truth b h e = no-bit b.width b.value h b.fits (no-truth (b.value == 1) e)

literal-table : (d : Design) (places : Places) → FitsDesign d places → (f : List ℕ) → is_one_of (literal_functions d) f ≡ true → (o : Option ℕ) → function_number d f ≡ o
    → (t : FunTable) → option_and_then (table_at places) o ≡ Some t → Literal t
literal-table d places z f l None n t h = absurd cc
literal-table d places z f l (Some k) n t h =
    let g = numbered (functions d) f k n in
    let fits = (fitting-table d places z k g.function t g.there h).1 in
    let literal = z.literal k g.function t g.there h (ap (is_one_of (literal_functions d)) (sym g.name) ∙ l) in
    record {
      width = result_width g.function.result;
      rows = fits.rows_fit;
      literal = record { default_false = false-is g.function.result t.default fits.default_is literal.default_false; masks_ones = literal.masks_ones };
    }

-- the shape of a table
shape-of : (places : Places) (o : Option ℕ) (t : FunTable) → All MayHaveShape places → option_and_then (table_at places) o ≡ Some t → HasShape t
shape-of places None t s h = absurd cc
shape-of places (Some k) t s h = shape-here places k t s h

-- ---- what is listed

empty-lists : (bits : ℕ) → ListsTrue bits None []
empty-lists bits = record { ascending = refl; listed = λ n. behind (fits_width bits n) }
  where
    behind : (c : Bool) → false ≡ (c && false)
    behind true = refl
    behind false = refl

none-listed : (bits : ℕ) (ns : List ℕ) → ((n : ℕ) → has_number n ns ≡ false) → ListsTrue bits None ns
none-listed bits [] a = empty-lists bits
none-listed bits (m ∷ ns) a = absurd (own m (m == m) refl (a m))
  where
    same-number : (m : ℕ) → (m == m) ≡ true
    same-number m = grind (arith, nat_tests)

    own : (m : ℕ) (b : Bool) → (m == m) ≡ b → (b || has_number m ns) ≡ false → ⊥
    own m true h k = cc
    own m false h k = let e : true ≡ false = sym (same-number m) ∙ h in cc

-- the lists of a function whose rows are literal
record Lists (t : Option FunTable) (numbers : TrueNumbers) : Type 0 where
  pub all : ListsTrue 64 t numbers.all.items
  pub short : ListsTrue 16 t numbers.short.items

listed-of : (d : Design) (places : Places) → FitsDesign d places → All MayHaveShape places → (o : Option (List ℕ)) → ((f : List ℕ) → o ≡ Some f → is_one_of (literal_functions d) f ≡ true)
    → (p : Option FunTable) → option_and_then (table_named d places) o ≡ p → (l : TrueNumbers) → IsListed p l → Lists p l
listed-of d places z s o lit None h l i = record {
  all = none-listed 64 l.all.items i.are;
  short = none-listed 16 l.short.items (λ n. ap (has_number n) i.short_are ∙ has-filtered (fits_width 16) n l.all.items ∙ ap (λ b. fits_width 16 n && b) (i.are n) ∙ behind (fits_width 16 n));
}
  where
    behind : (c : Bool) → (c && false) ≡ false
    behind true = refl
    behind false = refl
listed-of d places z s None lit (Some t) h l i = absurd cc
listed-of d places z s (Some f) lit (Some t) h l i =
    let is = literal-table d places z f (lit f refl) (function_number d f) refl t h in
    record {
      all = lists-all t is.width l.all.items is.rows is.literal (shape-of places (function_number d f) t s h) i.ordered i.are;
      short = lists-short t is.width l.all.items l.short.items is.rows is.literal i.ordered i.are i.short_are;
    }

pub hosts-listed : (d : Design) (places : Places) → FitsDesign d places → All MayHaveShape places → (l : TrueNumbers) → IsListed (host_table d places) l → ListsTrue 64 (host_table d places) l.all.items
hosts-listed d places z s l i = (listed-of d places z s (host_function d) (host-literal d) (host_table d places) refl l i).all

pub switches-listed : (d : Design) (places : Places) → FitsDesign d places → All MayHaveShape places → (l : TrueNumbers) → IsListed (switch_table d places) l → ListsTrue 16 (switch_table d places) l.short.items
switches-listed d places z s l i = (listed-of d places z s (switch_function d) (switch-literal d) (switch_table d places) refl l i).short

-- ---- by the definitions

-- where the table of a name comes from
record FoundIn (es : DefsText) (fs : List FunctionDecl) (x : List ℕ) (u : Table) : Type 0 where
  index : ℕ
  function : FunctionDecl
  there : slice_get fs index ≡ Some function
  table : runtime_table es function ≡ Some u
  name : x ≡ function.name.text

later-found : (es : DefsText) (e : FunctionDecl) (fs : List FunctionDecl) (x : List ℕ) (u : Table) → FoundIn es fs x u → FoundIn es (e ∷ fs) x u
later-found es e fs x u f = record { index = suc f.index; function = f.function; there = f.there; table = f.table; name = f.name }

found-cond : (es : DefsText) (e : FunctionDecl) (fs : List FunctionDecl) (x : List ℕ) (u t : Table) → runtime_table es e ≡ Some t → (named (λ (t : Table). t.function) x (filter_map (runtime_table es) fs) ≡ Some u → FoundIn es fs x u)
    → (b : Bool) → same_name x t.function.text ≡ b → cond b (Some t) (named (λ (t : Table). t.function) x (filter_map (runtime_table es) fs)) ≡ Some u → FoundIn es (e ∷ fs) x u
found-cond es e fs x u t is ih true s h =
    let same : t ≡ u = cc in
    record { index = 0; function = e; there = refl; table = is ∙ ap Some same; name = same-true x t.function.text s ∙ ap (λ (n : Name). n.text) (parts-of es e t is).function }
found-cond es e fs x u t is ih false s h = later-found es e fs x u (ih h)

chosen-step : (es : DefsText) (e : FunctionDecl) (fs : List FunctionDecl) (x : List ℕ) (o : Option Table) → runtime_table es e ≡ o → named (λ (t : Table). t.function) x (filter_map (runtime_table es) (e ∷ fs))
    ≡ (elim o [
      | None ↦ named (λ (t : Table). t.function) x (filter_map (runtime_table es) fs)
      | Some t ↦ cond (same_name x t.function.text) (Some t) (named (λ (t : Table). t.function) x (filter_map (runtime_table es) fs))
    ])
chosen-step es e fs x None k = rw k refl
chosen-step es e fs x (Some t) k = rw k refl

found-step : (es : DefsText) (e : FunctionDecl) (fs : List FunctionDecl) (x : List ℕ) (u : Table) → (named (λ (t : Table). t.function) x (filter_map (runtime_table es) fs) ≡ Some u → FoundIn es fs x u)
    → (o : Option Table) → runtime_table es e ≡ o → named (λ (t : Table). t.function) x (filter_map (runtime_table es) (e ∷ fs)) ≡ Some u → FoundIn es (e ∷ fs) x u
found-step es e fs x u ih None is h = later-found es e fs x u (ih (sym (chosen-step es e fs x None is) ∙ h))
found-step es e fs x u ih (Some t) is h = found-cond es e fs x u t is ih (same_name x t.function.text) refl (sym (chosen-step es e fs x (Some t) is) ∙ h)

found-in : (es : DefsText) (fs : List FunctionDecl) (x : List ℕ) (u : Table) → named (λ (t : Table). t.function) x (filter_map (runtime_table es) fs) ≡ Some u → FoundIn es fs x u
found-in es [] x u h = absurd cc
found-in es (e ∷ fs) x u h = found-step es e fs x u (found-in es fs x u) (runtime_table es e) refl h

some-before : {A B : Type 0} (o : Option A) (g : A → B) (b : B) → option_map g o ≡ Some b → (a : A) × (o ≡ Some a)
some-before None g b h = absurd cc
some-before (Some a) g b h = (a, refl)

truth-kind : (kind : ResultKind) (v : Value) → is_false v ≡ true → same_sort (result_sort kind) (sort_of_value v) ≡ true → kind ≡ of_truth
truth-kind (of_width w) (number u n) l s = absurd cc
truth-kind (of_width w) (truth b) l s = absurd cc
truth-kind of_truth v l s = refl

truth-true : (b : Bool) → truth b ≡ truth true → b ≡ true
truth-true true h = refl
truth-true false h = absurd cc

value-true : (kind : ResultKind) (t : FunTable) (ns : List ℕ) → result_value kind (looked t ns) ≡ truth true → ((looked t ns).value == 1) ≡ true
value-true (of_width w) t ns h = absurd cc
value-true of_truth t ns h = truth-true ((looked t ns).value == 1) h

both-are : (a b : Bool) → a ≡ true → b ≡ true → (a && b) ≡ true
both-are a b x y = ap (λ c. c && b) x ∙ y

-- what is known of the tables of definitions that were bound
pub record Known (d : Design) (es : DefsText) (places : Places) : Type 0 where
  pub rules : WellFormed d
  pub right : AllRight d es
  pub literal : LiteralOf (literal_functions d) es
  pub tables : AllZip (IsPlace es) (functions d) places
  pub fits : FitsDesign d places
  pub stands : Stands d places (defs_of d es)

-- the function of a name with the table at its place
record Placed (d : Design) (es : DefsText) (places : Places) (f : List ℕ) (t : FunTable) : Type 0 where
  index : ℕ
  function : FunctionDecl
  there : slice_get (functions d) index ≡ Some function
  table : table_at places index ≡ Some t
  name : f ≡ function.name.text

placed-by : (d : Design) (es : DefsText) (places : Places) (f : List ℕ) (t : FunTable) (o : Option ℕ) → function_number d f ≡ o → option_and_then (table_at places) o ≡ Some t → Placed d es places f t
placed-by d es places f t None n h = absurd cc
placed-by d es places f t (Some k) n h =
    let g = numbered (functions d) f k n in
    record { index = k; function = g.function; there = g.there; table = h; name = g.name }

params-fit : (d : Design) (es : DefsText) (places : Places) (r : Known d es places) (f : List ℕ) (t : FunTable) (p : Placed d es places f t) (ns : List ℕ) → fits_params d f ns ≡ all_fit_widths t.widths ns
params-fit d es places r f t p ns =
    let is = fitting-table d places r.fits p.index p.function t p.there p.table in
    ap (λ o. elim o [ None ↦ false | Some x ↦ all_fit_widths (widths_of x.params) ns ])
    (ap (λ x. named (λ (x : FunctionDecl). x.name) x (functions d)) p.name ∙ named-self d r.rules p.index p.function p.there)
    ∙ ap (λ ws. all_fit_widths ws ns) (sym is.1.widths_are)

gives : (d : Design) (es : DefsText) (places : Places) (r : Known d es places) (f : List ℕ) (t : FunTable) (p : Placed d es places f t) (ns : List ℕ) → all_fit_widths t.widths ns ≡ true
    → look_up (defs_of d es) f ns ≡ Some (result_value p.function.result (looked t ns))
gives d es places r f t p ns h =
    let is = r.stands p.index p.function p.there (fitting-table d places r.fits p.index p.function t p.there p.table).0 in
    let same : is.table ≡ t = some-same (sym is.is_there ∙ p.table) in
    ap (λ x. look_up (defs_of d es) x ns) p.name ∙ is.gives ns (ap (λ (t : FunTable). all_fit_widths t.widths ns) same ∙ h)
    ∙ ap (λ (t : FunTable). Some (result_value p.function.result (looked t ns))) same
  where
    some-same : {a b : FunTable} → Some a ≡ Some b → a ≡ b
    some-same e = cc

true-kind : (d : Design) (es : DefsText) (places : Places) (r : Known d es places) (k : ℕ) (f : FunctionDecl) → slice_get (functions d) k ≡ Some f → f.body ≡ None → is_one_of (literal_functions d) f.name.text ≡ true
    → (o : Option FunTable) → IsPlace es f o → f.result ≡ of_truth
true-kind d es places r k f g b l None p = absurd (no-body f.body p b)
true-kind d es places r k f g b l (Some t) p =
    let parts = parts-of es f p.0 p.1 in
    truth-kind f.result p.0.otherwise (first-literal (literal_functions d) f.name.text l es r.literal p.0.otherwise parts.default)
    (first-right d f (runtime-self d r.rules k f g b) es r.right p.0.otherwise parts.default)

true-result : (d : Design) (es : DefsText) (places : Places) (r : Known d es places) (f : List ℕ) (t : FunTable) (p : Placed d es places f t) → is_one_of (literal_functions d) f ≡ true → p.function.result ≡ of_truth
true-result d es places r f t p l =
    let place = paired (IsPlace es) (functions d) places p.index p.function r.tables p.there in
    true-kind d es places r p.index p.function p.there (fitting-table d places r.fits p.index p.function t p.there p.table).0 (ap (is_one_of (literal_functions d)) (sym p.name) ∙ l) place.other place.pair

-- a number at which the table of a function is true
only-at : (d : Design) (es : DefsText) (places : Places) (r : Known d es places) (f : List ℕ) → is_one_of (literal_functions d) f ≡ true → (p : Option FunTable) → table_named d places f ≡ p → (n : ℕ)
    → is_true_at p n ≡ true → (fits_params d f (n ∷ []) ≡ true) × (look_up (defs_of d es) f (n ∷ []) ≡ Some (truth true))
only-at d es places r f l None h n k = absurd cc
only-at d es places r f l (Some t) h n k =
    let p = placed-by d es places f t (function_number d f) refl h in
    let both = both-true (all_fit_widths t.widths (n ∷ [])) ((looked t (n ∷ [])).value == 1) k in (
      params-fit d es places r f t p (n ∷ []) ∙ both.0,
      gives d es places r f t p (n ∷ []) both.0 ∙ ap (λ kind. Some (result_value kind (looked t (n ∷ [])))) (true-result d es places r f t p l) ∙ ap (λ b. Some (truth b)) both.1,
    )

table-there : (d : Design) (es : DefsText) (places : Places) (r : Known d es places) (f : List ℕ) (u : Table) → FoundIn es (functions d) f u → (t : FunTable) × (table_named d places f ≡ Some t)
table-there d es places r f u i =
    let p = paired (IsPlace es) (functions d) places i.index i.function r.tables i.there in
    by p.other p.there p.pair
  where
    number-is-index : function_number d f ≡ Some i.index
    number-is-index = ap (function_number d) i.name ∙ number-self d r.rules i.index i.function i.there

    by : (o : Option FunTable) → slice_get places i.index ≡ Some o → IsPlace es i.function o → (t : FunTable) × (table_named d places f ≡ Some t)
    by None h k = absurd (no-body i.function.body k (parts-of es i.function u i.table).bodiless)
    by (Some t) h k = (t, ap (option_and_then (table_at places)) number-is-index ∙ ap (option_and_then (λ (t : Option FunTable). t)) h)

all-at : (d : Design) (es : DefsText) (places : Places) (r : Known d es places) (f : List ℕ) (n : ℕ) → fits_params d f (n ∷ []) ≡ true → look_up (defs_of d es) f (n ∷ []) ≡ Some (truth true)
    → is_true_at (table_named d places f) n ≡ true
all-at d es places r f n h k =
    let u = some-before (named (λ (t : Table). t.function) f (defs_of d es)) (λ (t : Table). look t.rows t.otherwise (n ∷ [])) (truth true) k in
    let t = table-there d es places r f u.0 (found-in es (functions d) f u.0 u.1) in
    let p = placed-by d es places f t.0 (function_number d f) refl t.1 in
    let fits = sym (params-fit d es places r f t.0 p (n ∷ [])) ∙ h in
    let gave : Some (result_value p.function.result (looked t.0 (n ∷ []))) ≡ Some (truth true) = sym (gives d es places r f t.0 p (n ∷ []) fits) ∙ k in
    let value : result_value p.function.result (looked t.0 (n ∷ [])) ≡ truth true = cc in
    ap (λ o. is_true_at o n) t.1 ∙ both-are (all_fit_widths t.0.widths (n ∷ [])) ((looked t.0 (n ∷ [])).value == 1) fits (value-true p.function.result t.0 (n ∷ []) value)

pub listed-defined : (d : Design) (es : DefsText) (places : Places) → Known d es places → (bits : ℕ) (ns f : List ℕ) → is_one_of (literal_functions d) f ≡ true → ListsTrue bits (table_named d places f) ns → ListsDefined d es bits f ns
listed-defined d es places r bits ns f l h = record {
  only = λ n k. only-at d es places r f l (table_named d places f) refl n (both-true (fits_width bits n) (is_true_at (table_named d places f) n) (sym (h.listed n) ∙ k)).1;
  all = λ n b p k. h.listed n ∙ both-are (fits_width bits n) (is_true_at (table_named d places f) n) b (all-at d es places r f n p k);
}

pub known-of : (d : Design) (es : DefsText) (places : Places) → Resolves d → IsBound d es places → FitsDesign d places → Stands d places (defs_of d es) → Known d es places
known-of d es places r b z s =
    let sound = sound-of d es r.rules b.fits in
    record { rules = r.rules; right = sound.right; literal = sound.literal; tables = b.tables; fits = z; stands = s }

-- ---- what the code finds

pub hosts-kept : (d : Design) (places : Places) → FitsDesign d places → All MayHaveShape places → (n : Option ℕ) (l : TrueNumbers) → n ≡ option_and_then (function_number d) (host_function d)
    → MayBeListed places n (Some l) → ListsTrue 64 (host_table d places) l.all.items
hosts-kept d places z s n l e i = hosts-listed d places z s l (subst (λ t. IsListed t l) (ap (option_and_then (table_at places)) e ∙ through d places (host_function d)) i)

pub switches-kept : (d : Design) (places : Places) → FitsDesign d places → All MayHaveShape places → (n : Option ℕ) (l : TrueNumbers) → n ≡ option_and_then (function_number d) (switch_function d)
    → MayBeListed places n (Some l) → ListsTrue 16 (switch_table d places) l.short.items
switches-kept d places z s n l e i = switches-listed d places z s l (subst (λ t. IsListed t l) (ap (option_and_then (table_at places)) e ∙ through d places (switch_function d)) i)

pub no-hosts : (d : Design) (places : Places) (n : Option ℕ) → n ≡ option_and_then (function_number d) (host_function d) → MayBeListed places n None → ListsTrue 64 (host_table d places) []
no-hosts d places n e i = subst (λ t. ListsTrue 64 t []) (sym i ∙ ap (option_and_then (table_at places)) e ∙ through d places (host_function d)) (empty-lists 64)

pub no-switches : (d : Design) (places : Places) (n : Option ℕ) → n ≡ option_and_then (function_number d) (switch_function d) → MayBeListed places n None → ListsTrue 16 (switch_table d places) []
no-switches d places n e i = subst (λ t. ListsTrue 16 t []) (sym i ∙ ap (option_and_then (table_at places)) e ∙ through d places (switch_function d)) (empty-lists 16)
