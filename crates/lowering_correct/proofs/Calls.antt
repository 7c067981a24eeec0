-- Calls of functions that are defined at run time, by their tables.
use Rattle.std.proofs.Common.{◌≡◌, ℕ, zero, suc, ◌==◌, Bool, true, false, List, [], ◌∷◌, ◌++◌, length, take, reverse, Option, Some, None, is_none, if◌then◌else◌, refl, sym, ap, subst, ◌∙◌, arith}
use Rattle.std.specs.Prelude.{option_and_then, slice_get}
use Rattle.std.proofs.lemmas.List.{length-reverse, reverse-append, reverse-reverse, take_all}
use Rattle.cocoon_num.specs.FunTables.{looked}
use Rattle.cocoon_num.specs.Names.{named, same_name}
use Rattle.cocoon_num.specs.Tree.{Expr, FunctionDecl, ResultKind, of_width, of_truth, Design}
use Rattle.cocoon_num.specs.Values.{Value, truth}
use Rattle.cocoon_num.specs.declared.bits.Bits.{Bits}
use Rattle.cocoon_num.specs.declared.fun_table.FunTable.{FunTable}
use Rattle.cocoon_types.specs.Design.{functions}
use Rattle.cocoon_types.specs.FormRules.{is_runtime}
use Rattle.cocoon_types.specs.Rules.{WellFormed}
use Rattle.cocoon_types.specs.Val.{bind, value}
use Rattle.declarations.specs.Declares.{function_number}
use Rattle.role_values.specs.ByTables.{apply_by, called, earlier, table_value}
use Rattle.runtime_defs.specs.Guards.{table_named}
use Rattle.runtime_defs.specs.Places.{Places, all_fit_widths, result_value, table_at}
use Rattle.runtime_defs.proofs.Distinct.{named-self, number-self}
use Rattle.sound_types.proofs.Options.{same_text}

-- ---- places in a list

at_end : {A : Type 0} (xs : List A) (x : A) → slice_get (xs ++ x ∷ []) (length xs) ≡ Some x
at_end [] x = refl
at_end (y ∷ xs) x = at_end xs x

at_left : {A : Type 0} (xs ys : List A) (k : ℕ) (x : A) → slice_get xs k ≡ Some x → slice_get (xs ++ ys) k ≡ Some x
at_left [] ys k x h = absurd (cc)
at_left (y ∷ xs) ys zero x h = h
at_left (y ∷ xs) ys (suc k) x h = at_left xs ys k x h

-- ---- which function is called

-- of functions, the last first: that of a number, which has the name and gives the value
record Calls (tables : Places) (fs : List FunctionDecl) (f ns : List ℕ) (v : Value) : Type 0 where
  number : ℕ
  function : FunctionDecl
  before : List FunctionDecl
  there : slice_get (reverse fs) number ≡ Some function
  name_is : f ≡ function.name.text
  gives : called (apply_by tables before) (table_at tables number) function ns ≡ Some v

calls : (tables : Places) (fs : List FunctionDecl) (f ns : List ℕ) (v : Value) → apply_by tables fs f ns ≡ Some v → Calls tables fs f ns v
calls tables [] f ns v h = absurd (cc)
calls tables (d ∷ fs) f ns v h = by_case (same_name f d.name.text) refl h (calls tables fs f ns v)
  where
    turned : reverse (d ∷ fs) ≡ reverse fs ++ d ∷ []
    turned = reverse-append (d ∷ []) fs

    by_case : (b : Bool) → same_name f d.name.text ≡ b
        → (if b then called (apply_by tables fs) (table_at tables (length fs)) d ns else apply_by tables fs f ns) ≡ Some v
        → (apply_by tables fs f ns ≡ Some v → Calls tables fs f ns v) → Calls tables (d ∷ fs) f ns v
    by_case true e k ih = record {
      number = length fs;
      function = d;
      before = fs;
      there = ap (λ xs. slice_get xs (length fs)) turned ∙ ap (slice_get (reverse fs ++ d ∷ [])) (sym (length-reverse fs)) ∙ at_end (reverse fs) d;
      name_is = same_text f d.name.text e;
      gives = k;
    }
    by_case false e k ih =
        let c = ih k in
        record {
          number = c.number;
          function = c.function;
          before = c.before;
          there = ap (λ xs. slice_get xs c.number) turned ∙ at_left (reverse fs) (d ∷ []) c.number c.function c.there;
          name_is = c.name_is;
          gives = c.gives;
        }

-- ---- tables

-- a table at which some numbers give true
pub record IsTrueFor (table : Option FunTable) (ns : List ℕ) : Type 0 where
  pub there : FunTable
  pub is_there : table ≡ Some there
  pub fit : all_fit_widths there.widths ns ≡ true
  pub one : ((looked there ns).value == 1) ≡ true

truth_one : (kind : ResultKind) (b : Bits) → Some (result_value kind b) ≡ Some (truth true) → (b.value == 1) ≡ true
truth_one (of_width w) b h = absurd (cc)
truth_one of_truth b h = truths (b.value == 1) h
  where
    truths : (c : Bool) → Some (truth c) ≡ Some (truth true) → c ≡ true
    truths true k = refl
    truths false k = absurd (cc)

value_true : (kind : ResultKind) (table : Option FunTable) (ns : List ℕ) → table_value kind table ns ≡ Some (truth true) → IsTrueFor table ns
value_true kind None ns h = absurd (cc)
value_true kind (Some t) ns h = by_case (all_fit_widths t.widths ns) refl h
  where
    by_case : (b : Bool) → all_fit_widths t.widths ns ≡ b → (if b then Some (result_value kind (looked t ns)) else None) ≡ Some (truth true) → IsTrueFor (Some t) ns
    by_case true e k = record { there = t; is_there = refl; fit = e; one = truth_one kind (looked t ns) k }
    by_case false e k = absurd (cc)

no_body : (o : Option Expr) → is_none o ≡ true → o ≡ None
no_body None h = refl
no_body (Some e) h = absurd (cc)

runtime_none : (o : Option FunctionDecl) (g : FunctionDecl) → o ≡ Some g → (elim o as (λ x. Bool) [ None ↦ false | Some x ↦ is_none x.body ]) ≡ true → g.body ≡ None
runtime_none None g e h = absurd (cc)
runtime_none (Some x) g e h = let same : x ≡ g = cc in ap (λ (y : FunctionDecl). y.body) (sym same) ∙ no_body x.body h

-- a call of a function that is defined at run time is true where its table is
pub call_true : (d : Design) (places : Places) → WellFormed d → (f ns : List ℕ) → is_runtime d f ≡ true
    → apply_by places (earlier d (length (functions d))) f ns ≡ Some (truth true) → IsTrueFor (table_named d places f) ns
call_true d places w f ns r h =
    let fs = functions d in
    let all : take (length fs) fs ≡ fs = take_all (length fs) fs (omega arith) in
    let c = calls places (reverse fs) f ns (truth true) (ap (λ xs. apply_by places (reverse xs) f ns) (sym all) ∙ h) in
    let there : slice_get fs c.number ≡ Some c.function = ap (λ xs. slice_get xs c.number) (sym (reverse-reverse fs)) ∙ c.there in
    let bodiless = runtime_none (named (λ (x : FunctionDecl). x.name) f fs) c.function (ap (λ y. named (λ (x : FunctionDecl). x.name) y fs) c.name_is ∙ named-self d w c.number c.function there) r in
    let gives : table_value c.function.result (table_at places c.number) ns ≡ Some (truth true) =
    sym (ap (λ (o : Option Expr). elim o as (λ x. Option Value) [
      | None ↦ table_value c.function.result (table_at places c.number) ns
      | Some e ↦ option_and_then (λ env. value (record { headers = []; apply = apply_by places c.before }) env [] e) (bind c.function.params ns)
    ]) bodiless) ∙ c.gives in
    let number : function_number d f ≡ Some c.number = ap (function_number d) c.name_is ∙ number-self d w c.number c.function there in
    subst (λ o. IsTrueFor o ns) (sym (ap (option_and_then (table_at places)) number)) (value_true c.function.result (table_at places c.number) ns gives)
