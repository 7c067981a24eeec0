-- Instances that fit, one by one.
use Rattle.std.proofs.Common.{◌≡◌, ◌↔◌, ℕ, zero, suc, ◌+◌, ◌<◌, ◌≤◌, List, [], ◌∷◌, ◌++◌, drop, take, get_or, length, Bool, IsTrue, Option, Some, None, Result, Ok, Err, refl, sym, ap, subst, ◌∙◌, arith}
use Rattle.std.specs.Prelude.{flat_map, filter_map, slice_get, IfOk}
use Rattle.std.specs.List.{AllByRecursion}
use Rattle.cocoon_num.specs.Tree.{AssumeDecl, Design, Refine}
use Rattle.cocoon_resolve.specs.Readers.{all_assumptions, assumptions_to}
use Rattle.cocoon_types.specs.Design.{widths_of}
use Rattle.cocoon_types.specs.Limits.{as_assumption}
use Rattle.cnf_core.specs.declared.certificates.Instance.{Instance}
use Rattle.std.proofs.lemmas.List.{length-append}
use Rattle.std.proofs.lemmas.List.Elements.{filter_map-append}
use Rattle.runtime_defs.specs.Printable.{all_fit_widths}
use Rattle.expr_terms.proofs.Lists.{from}
use Rattle.fun_instances.specs.Taking.{NumbersFit}
use Rattle.bv_terms.specs.Arenas.{term_at}
use Rattle.bv_terms.specs.TermTrees.{Term, constant}
use Rattle.bv_terms.specs.declared.node.Node.{Node}
use Rattle.expr_terms.specs.Variables.{Makes}
use Rattle.fun_instances.specs.AssumptionTerms.{value_term}
use Rattle.query_laws.specs.Queries.{Fits, instance_term}
use Rattle.queries.specs.Asked.{AreOfAssumptions, IsOfAssumption}
use Rattle.queries.proofs.Widths.{all_fit, fit_all}

-- ---- assumptions of levels

blocks_fewer : (bs : List Refine) (i : ℕ) → length (filter_map as_assumption (flat_map (λ (b : Refine). b.decls) (take i bs))) ≤ length (filter_map as_assumption (flat_map (λ (b : Refine). b.decls) bs))
blocks_fewer [] zero = omega arith
blocks_fewer [] (suc i) = omega arith
blocks_fewer (b ∷ bs) zero = omega arith
blocks_fewer (b ∷ bs) (suc i) =
    let all = λ (xs : List Refine). flat_map (λ (c : Refine). c.decls) xs in
    let few = filter_map as_assumption b.decls in
    let p : length (filter_map as_assumption (b.decls ++ all (take i bs))) ≡ length few + length (filter_map as_assumption (all (take i bs))) = ap (λ (xs : List AssumeDecl). length xs) (filter_map-append as_assumption b.decls (all (take i bs))) ∙ length-append few (filter_map as_assumption (all (take i bs))) in
    let q : length (filter_map as_assumption (b.decls ++ all bs)) ≡ length few + length (filter_map as_assumption (all bs)) = ap (λ (xs : List AssumeDecl). length xs) (filter_map-append as_assumption b.decls (all bs)) ∙ length-append few (filter_map as_assumption (all bs)) in
    let r = blocks_fewer bs i in
    omega (arith, p, q, r)

to_level : (d : Design) (bs : List Refine) → length (filter_map as_assumption (d.decls ++ flat_map (λ (b : Refine). b.decls) bs))
    ≡ length (filter_map as_assumption d.decls) + length (filter_map as_assumption (flat_map (λ (b : Refine). b.decls) bs))
to_level d bs =
    ap (λ (xs : List AssumeDecl). length xs) (filter_map-append as_assumption d.decls (flat_map (λ (b : Refine). b.decls) bs)) ∙ length-append (filter_map as_assumption d.decls) (filter_map as_assumption (flat_map (λ (b : Refine). b.decls) bs))

take_whole : {A : Type 0} (xs : List A) → take (length xs) xs ≡ xs
take_whole [] = refl
take_whole (x ∷ xs) = ap (λ ys. x ∷ ys) (take_whole xs)

-- no level has more assumptions than the design
pub fewer : (d : Design) (level : ℕ) → length (assumptions_to level d) ≤ length (all_assumptions d)
fewer d level =
    let p = to_level d (take level d.refines) in
    let q = to_level d (take (length d.refines) d.refines) in
    let e : length (filter_map as_assumption (flat_map (λ (b : Refine). b.decls) (take (length d.refines) d.refines))) ≡ length (filter_map as_assumption (flat_map (λ (b : Refine). b.decls) d.refines)) =
    ap (λ (bs : List Refine). length (filter_map as_assumption (flat_map (λ (b : Refine). b.decls) bs))) (take_whole d.refines) in
    let r = blocks_fewer d.refines level in
    omega (arith, p, q, e, r)

-- ---- instances

pub of_assumptions : (d : Design) (level : ℕ) (is : List Instance) → AllByRecursion (Fits d level) is → AreOfAssumptions d is
of_assumptions d level [] h = tt
of_assumptions d level (i ∷ is) h =
    let one : IsOfAssumption d i = record { there = (let a = h.0.among in let f = fewer d level in omega (arith, a, f)); fit = h.0.values } in
    (one, of_assumptions d level is h.1)

-- numbers that fit the parameters make an instance fit
pub is_fit : (d : Design) (level : ℕ) (i : Instance) (a : AssumeDecl) → slice_get (all_assumptions d) i.number ≡ Some a → i.number < length (assumptions_to level d)
    → (b : Bool) → b ≡ all_fit_widths (widths_of a.params) i.values → IsTrue b ↔ Fits d level i
is_fit d level i a is among b e = (
  λ t. record {
    among = among;
    values = λ x at. let same : a ≡ x = cc in subst (λ (y : AssumeDecl). NumbersFit y i.values) same (all_fit (widths_of a.params) i.values (sym e ∙ t));
  },
  λ h. e ∙ fit_all (widths_of a.params) i.values (h.values a is),
)

pub fits_along : (d : Design) (level : ℕ) (all : List Instance) (i : ℕ) (x : Instance) → i < length all → x ≡ get_or all i x → AllByRecursion (Fits d level) (drop i all) ↔ (Fits d level x × AllByRecursion (Fits d level) (drop (i + 1) all))
fits_along d level all i x l e =
    (λ h. subst (AllByRecursion (Fits d level)) (from all i x l e) h, λ h. subst (AllByRecursion (Fits d level)) (sym (from all i x l e)) h)

pub none_left : (d : Design) (level : ℕ) (all : List Instance) (i : ℕ) → length all ≤ i → AllByRecursion (Fits d level) (drop i all)
none_left d level [] zero l = tt
none_left d level [] (suc i) l = tt
none_left d level (x ∷ xs) zero l = absurd (omega (arith, l))
none_left d level (x ∷ xs) (suc i) l = none_left d level xs i (omega (arith, l))

-- ---- their terms

pub at_there : {A : Type 0} (xs : List A) (i : ℕ) → i < length xs → (x : A) × (slice_get xs i ≡ Some x)
at_there [] i h = absurd (omega (arith, h))
at_there (x ∷ xs) zero h = (x, refl)
at_there (x ∷ xs) (suc i) h = at_there xs i (omega (arith, h))

pub its_term : {E : Type 0} (d : Design) (i : Instance) (nodes : List Node) (r : Result ℕ E) (a : AssumeDecl) → slice_get (all_assumptions d) i.number ≡ Some a → IfOk r (λ id. id < length nodes)
    → IfOk r (λ id. term_at nodes id ≡ value_term d a i.values) → IfOk r (λ id. Makes nodes id (instance_term d i))
its_term d i nodes (Ok id) a at there is = record { there = there; term = is ∙ sym (ap (λ (o : Option AssumeDecl). elim o as (λ x. Term) [ None ↦ constant 1 1 | Some x ↦ value_term d x i.values ]) at) }
its_term d i nodes (Err e) a at there is = tt
