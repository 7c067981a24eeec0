-- The applications of a flat goal can be evaluated, and what is looked up is of the design.
use Rattle.std.proofs.Common.{◌≡◌, ℕ, ◌<◌, ◌≤◌, ◌^◌, ℤ, Bool, true, List, [], ◌∷◌, All, length, map, Some, refl, sym, ap, subst, ◌∙◌}
use Rattle.std.specs.Prelude.{slice_get}
use Rattle.std.specs.List.{AllByRecursion, AllZip}
use Rattle.std.proofs.lemmas.Bool.{and_from, eqb-true, false≢true, lt-ltb}
use Rattle.std.proofs.lemmas.List.Elements.{All-from_recursion, recursion_from_All}
use Rattle.std.proofs.lemmas.Option.{slice_get_within}
use Rattle.cocoon_num.specs.BitsOf.{value_of}
use Rattle.cocoon_num.specs.Tree.{ResultKind, of_width, of_truth, Design}
use Rattle.cocoon_num.specs.Values.{FitsWidth, fits_width, number}
use Rattle.cocoon_num.specs.declared.bits.Bits.{Bits}
use Rattle.cocoon_types.specs.Design.{functions}
use Rattle.bit_blast.specs.Blasting.{InputRow, MapsInputs}
use Rattle.bit_blast.specs.Goals.{IsUnapplied}
use Rattle.bv_terms.specs.Arenas.{IsArena, args_of, term_at, width_at}
use Rattle.bv_terms.specs.Environments.{functions_of, inputs_of}
use Rattle.bv_terms.specs.TermTrees.{Term, Args, constant, input, apply, not_, binary, slice, pick, no_args, arg, arg_widths, width, AreArgs, IsTerm}
use Rattle.bv_terms.specs.TermValues.{arg_numbers, number_in, term_value}
use Rattle.bv_terms.specs.Walks.{applications, is_among, walk}
use Rattle.bv_terms.specs.declared.eval.Env.{Env}
use Rattle.bv_terms.specs.declared.node.Node.{Node}
use Rattle.bv_terms.proofs.Subterms.{Each}
use Rattle.bv_terms.proofs.ValueFacts.{value-width}
use Rattle.runtime_defs.specs.Printable as fitting
use Rattle.runtime_defs.specs.Printable.{all_fit_widths}
use Rattle.obligation_laws.specs.TermOf.{result_width}
use Rattle.query_laws.specs.Over.{IsOver}
use Rattle.flat_goals.specs.Applied.{AreApplied, IsApplied}
use Rattle.flat_goals.specs.declared.applied.Applied.{Applied as Code}
use Rattle.flat_laws.specs.Flat.{reduced, reduced_args}
use Rattle.flat_laws.specs.Meant.{CanFlatten}
use Rattle.flat_laws.proofs.Kept.{all-in, is-term}
use Rattle.flat_laws.proofs.Places.{Applied}
use Rattle.flat_laws.proofs.Reduced.{reduced-term, reduced-width}
use Rattle.query_laws.specs.LeafTerms.{any_input}
use Rattle.runtime_defs.specs.Tables.{AreOfDesign, IsOfDesign}
use Rattle.runtime_defs.specs.declared.lookups.Lookup.{Lookup}
use Rattle.query_laws.proofs.OverParts.{applied-at}
use Rattle.candidates.specs.Applying.{CanEvaluate, CanLook, IsArgument, IsLookup}
use Rattle.candidates.specs.Assigned.{row_value}
use Rattle.candidates.proofs.Inputs.{all-nodes, covered, input-there}

-- ---- arguments

mutual
  reduced-unapplied : (A : List Term) (first : ℕ) (t : Term) → IsUnapplied (reduced A first t)
  reduced-unapplied A first (constant w n) = tt
  reduced-unapplied A first (input i w) = tt
  reduced-unapplied A first (apply f args w) = tt
  reduced-unapplied A first (not_ a) = reduced-unapplied A first a
  reduced-unapplied A first (binary op a b) = (reduced-unapplied A first a, reduced-unapplied A first b)
  reduced-unapplied A first (slice a high low) = reduced-unapplied A first a
  reduced-unapplied A first (pick c a b) = (reduced-unapplied A first c, reduced-unapplied A first a, reduced-unapplied A first b)

-- the number that is read of a term
pub argument-width : (nodes : List Node) (env : Env) (k : ℕ) → IsTerm (term_at nodes k) → (b : Bits) → value_of b ≡ term_value (functions_of env) (inputs_of env) (term_at nodes k) → b.width ≡ width_at nodes k
argument-width nodes env k t b e = let v = value-width (functions_of env) (inputs_of env) (term_at nodes k) t in same b (width_at nodes k) v.0 (e ∙ v.1)
  where
    same : (b : Bits) (w n : ℕ) → value_of b ≡ number w n → b.width ≡ w
    same b w n e = cc

pub argument-is : (nodes : List Node) (env : Env) (k : ℕ) → IsTerm (term_at nodes k) → (b : Bits) → value_of b ≡ term_value (functions_of env) (inputs_of env) (term_at nodes k) → (n : ℕ) → n ≡ b.value → IsArgument nodes env k n
argument-is nodes env k t b e n is = record {
  value = is ∙ ap number_in e;
  fits = subst (λ m. FitsWidth (width_at nodes k) m) (sym is) (subst (λ w. b.value < 2 ^ w) (argument-width nodes env k t b e) b.fits);
}

pub arg-values : (nodes : List Node) (env : Env) (ids ns : List ℕ) → AllZip (IsArgument nodes env) ids ns → ns ≡ arg_numbers (functions_of env) (inputs_of env) (args_of (term_at nodes) ids)
arg-values nodes env [] [] z = refl
arg-values nodes env [] (n ∷ ns) z = absurd z
arg-values nodes env (k ∷ ids) [] z = absurd z
arg-values nodes env (k ∷ ids) (n ∷ ns) z = let one = z.0.value in let rest = arg-values nodes env ids ns z.1 in (λ i. one i ∷ rest i)

one-width : (k : ResultKind) → fitting.result_width k ≡ result_width k
one-width (of_width w) = refl
one-width of_truth = refl

some-bits : (a b : Bits) → Some a ≡ Some b → a ≡ b
some-bits a b e = cc

module _ (d : Design) (nodes : List Node) (arena : IsArena nodes) (goal : Term) (first : ℕ) (can : CanFlatten goal first) (over : IsOver d any_input goal)
    (flat : Term) (rows : List InputRow) (mapped : MapsInputs nodes flat rows) (v : ℤ → Bool) (env : Env) (bits : map value_of env.inputs ≡ map (row_value v) rows) where
  abbrev A : List Term
  A = applications goal

  abbrev In : Term → Type 0
  In u = is_among (walk goal []) u ≡ true

  can-args : (ids : List ℕ) (ts : Args) → AreArgs ts → args_of (term_at nodes) ids ≡ reduced_args A first ts → AllByRecursion (λ k. k < length nodes) ids → AllByRecursion (CanEvaluate nodes env) ids
  can-args [] ts i e h = tt
  can-args (k ∷ ids) no_args i e h = absurd cc
  can-args (k ∷ ids) (arg t ts) i e h =
      let one : term_at nodes k ≡ reduced A first t = cc in
      let rest : args_of (term_at nodes) ids ≡ reduced_args A first ts = cc in
      let wide : width_at nodes k ≡ width t = ap width one ∙ reduced-width A first t in (
        record {
          there = h.0;
          term = subst IsTerm (sym one) (reduced-term A first t i.0);
          narrow = subst (λ w. w ≤ 64) (sym wide) i.1;
          covered = covered nodes arena flat rows mapped v env bits (term_at nodes k) (subst IsUnapplied (sym one) (reduced-unapplied A first t)) (all-nodes nodes arena k h.0);
        },
        can-args ids ts i.2 rest h.1,
      )

  fit-args : (ids ns : List ℕ) (ts : Args) → args_of (term_at nodes) ids ≡ reduced_args A first ts → AllZip (IsArgument nodes env) ids ns → all_fit_widths (arg_widths ts) ns ≡ true
  fit-args [] [] no_args e z = refl
  fit-args [] [] (arg t ts) e z = absurd cc
  fit-args [] (n ∷ ns) ts e z = absurd z
  fit-args (k ∷ ids) [] ts e z = absurd z
  fit-args (k ∷ ids) (n ∷ ns) no_args e z = absurd cc
  fit-args (k ∷ ids) (n ∷ ns) (arg t ts) e z =
      let one : term_at nodes k ≡ reduced A first t = cc in
      let rest : args_of (term_at nodes) ids ≡ reduced_args A first ts = cc in
      let wide : width_at nodes k ≡ width t = ap width one ∙ reduced-width A first t in
      and_from (fits_width (width t) n) (all_fit_widths (arg_widths ts) ns) (lt-ltb n (2 ^ width t) (subst (λ w. n < 2 ^ w) wide z.0.fits)) (fit-args ids ns ts rest z.1)

  -- ---- applications

  can-look : (t : Term) (a : Code) → Applied (Each In) t → IsApplied nodes goal first t a → CanLook nodes env a
  can-look (apply f ts w) a h p =
      let b = input-there nodes arena flat rows mapped v env bits a.result p.input.0 w p.input.1 in
      record {
        args = All-from_recursion (CanEvaluate nodes env) a.args
            (can-args a.args ts (is-term goal first can (apply f ts w) h.0.1).0 p.args (recursion_from_All (λ k. k < length nodes) a.args p.there));
        result = slice_get_within env.inputs a.result b.value b.there;
      }
  can-look (constant w n) a h p = absurd (false≢true h.1)
  can-look (input i w) a h p = absurd (false≢true h.1)
  can-look (not_ x) a h p = absurd (false≢true h.1)
  can-look (binary op x y) a h p = absurd (false≢true h.1)
  can-look (slice x high low) a h p = absurd (false≢true h.1)
  can-look (pick c x y) a h p = absurd (false≢true h.1)

  can-look-all : (ts : List Term) (taken : List Code) → AllByRecursion (Applied (Each In)) ts → AllZip (IsApplied nodes goal first) ts taken → AllByRecursion (CanLook nodes env) taken
  can-look-all [] [] h z = tt
  can-look-all [] (a ∷ taken) h z = absurd z
  can-look-all (t ∷ ts) [] h z = absurd z
  can-look-all (t ∷ ts) (a ∷ taken) h z = (can-look t a h.0 z.0, can-look-all ts taken h.1 z.1)

  pub can-all : (taken : List Code) → AreApplied nodes goal first taken → All (CanLook nodes env) taken
  can-all taken z = All-from_recursion (CanLook nodes env) taken (can-look-all A taken (all-in goal first can) z)

  -- ---- what is looked up

  of-design : (t : Term) (a : Code) (l : Lookup) → Applied (Each In) t → IsApplied nodes goal first t a → IsLookup nodes env a l → IsOfDesign d l
  of-design (apply f ts w) a l h p k =
      let at = applied-at d any_input goal over f w ts h.0.1 in
      let b = input-there nodes arena flat rows mapped v env bits a.result p.input.0 w p.input.1 in
      let same : l.function ≡ f = k.function ∙ eqb-true a.function f p.function in
      let result : l.result ≡ b.value = some-bits l.result b.value (sym k.result ∙ b.there) in
      record {
        function = at.function;
        there = ap (slice_get (functions d)) same ∙ at.there;
        args = subst (λ ws. all_fit_widths ws l.args ≡ true) at.params_are (fit-args a.args l.args ts p.args k.args);
        result = ap (λ (x : Bits). x.width) result ∙ b.wide ∙ at.result_is ∙ sym (one-width at.function.result);
      }
  of-design (constant w n) a l h p k = absurd (false≢true h.1)
  of-design (input i w) a l h p k = absurd (false≢true h.1)
  of-design (not_ x) a l h p k = absurd (false≢true h.1)
  of-design (binary op x y) a l h p k = absurd (false≢true h.1)
  of-design (slice x high low) a l h p k = absurd (false≢true h.1)
  of-design (pick c x y) a l h p k = absurd (false≢true h.1)

  of-design-all : (ts : List Term) (taken : List Code) (ls : List Lookup) → AllByRecursion (Applied (Each In)) ts → AllZip (IsApplied nodes goal first) ts taken → AllZip (IsLookup nodes env) taken ls → AreOfDesign d ls
  of-design-all [] [] [] h z k = tt
  of-design-all [] [] (l ∷ ls) h z k = absurd k
  of-design-all [] (a ∷ taken) ls h z k = absurd z
  of-design-all (t ∷ ts) [] ls h z k = absurd z
  of-design-all (t ∷ ts) (a ∷ taken) [] h z k = absurd k
  of-design-all (t ∷ ts) (a ∷ taken) (l ∷ ls) h z k = (of-design t a l h.0 z.0 k.0, of-design-all ts taken ls h.1 z.1 k.1)

  pub are-of-design : (taken : List Code) (ls : List Lookup) → AreApplied nodes goal first taken → AllZip (IsLookup nodes env) taken ls → AreOfDesign d ls
  are-of-design taken ls z k = of-design-all A taken ls (all-in goal first can) z k
