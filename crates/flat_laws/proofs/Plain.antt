-- A flat goal is a term of width 1 without applications.
use Rattle.std.proofs.Common.{◌≡◌, ℕ, true, List, [], ◌∷◌, fold, refl, sym, subst, ◌∙◌, arith}
use Rattle.std.specs.List.{AllByRecursion}
use Rattle.std.proofs.lemmas.Bool.{eqb-true}
use Rattle.bit_blast.specs.Goals.{IsGoal, IsUnapplied}
use Rattle.bv_terms.specs.declared.node.TermOp.TheVariants.{And, Equal}
use Rattle.bv_terms.specs.Inputs.{Applies}
use Rattle.bv_terms.specs.TermTrees.{Term, Args, constant, input, apply, not_, binary, slice, pick, no_args, arg, width, arg_widths, AreArgs, IsTerm}
use Rattle.bv_terms.specs.Walks.{applications, is_among, walk}
use Rattle.bv_terms.proofs.Subterms.{Each}
use Rattle.bv_terms.specs.Chains.{chain}
use Rattle.flat_laws.specs.Flat.{agreement, agreements, equal_args, flattened, reduced, reduced_args, same_function}
use Rattle.flat_laws.specs.Meant.{CanFlatten}
use Rattle.flat_laws.proofs.Kept.{all-agree, all-in, is-term}
use Rattle.flat_laws.proofs.Places.{Applied}
use Rattle.flat_laws.proofs.Reduced.{reduced-term, reduced-width}

reduced-plain : (applied : List Term) (first : ℕ) (t : Term) → IsUnapplied (reduced applied first t)
reduced-plain applied first (constant w n) = tt
reduced-plain applied first (input i w) = tt
reduced-plain applied first (apply f args w) = tt
reduced-plain applied first (not_ a) = reduced-plain applied first a
reduced-plain applied first (binary op a b) = (reduced-plain applied first a, reduced-plain applied first b)
reduced-plain applied first (slice a high low) = reduced-plain applied first a
reduced-plain applied first (pick c a b) = (reduced-plain applied first c, reduced-plain applied first a, reduced-plain applied first b)

and-goal : (t u : Term) → IsGoal t → IsGoal u → IsGoal (binary And t u)
and-goal t u h k = record { term = (h.term, k.term, h.truth ∙ sym k.truth); truth = h.truth; unapplied = (h.unapplied, k.unapplied) }

ands-goal : (t : Term) (ts : List Term) → IsGoal t → AllByRecursion IsGoal ts → IsGoal (fold (binary And) t ts)
ands-goal t [] h k = h
ands-goal t (u ∷ us) h k = ands-goal (binary And t u) us (and-goal t u h k.0) k.1

one-goal : IsGoal (constant 1 1)
one-goal = record { term = ((omega arith, omega arith), omega arith); truth = refl; unapplied = tt }

chain-goal : (ts : List Term) → AllByRecursion IsGoal ts → IsGoal (chain And (constant 1 1) ts)
chain-goal [] h = one-goal
chain-goal (t ∷ ts) h = ands-goal t ts h.0 h.1

module _ (applied : List Term) (first : ℕ) where
  equal-goal : (t u : Term) → IsTerm t → IsTerm u → width t ≡ width u → IsGoal (binary Equal (reduced applied first t) (reduced applied first u))
  equal-goal t u h k e = record {
    term = (reduced-term applied first t h, reduced-term applied first u k, reduced-width applied first t ∙ e ∙ sym (reduced-width applied first u));
    truth = refl;
    unapplied = (reduced-plain applied first t, reduced-plain applied first u);
  }

  equals-goal : (ts us : Args) → AreArgs ts → AreArgs us → arg_widths ts ≡ arg_widths us → AllByRecursion IsGoal (equal_args (reduced_args applied first ts) (reduced_args applied first us))
  equals-goal no_args us h k e = tt
  equals-goal (arg t ts) no_args h k e = tt
  equals-goal (arg t ts) (arg u us) h k e =
      let v : width t ≡ width u = cc in
      let vs : arg_widths ts ≡ arg_widths us = cc in
      (equal-goal t u h.0 k.0 v, equals-goal ts us h.2 k.2 vs)

module _ (goal : Term) (first : ℕ) (z : CanFlatten goal first) where
  abbrev In : Term → Type 0
  In u = is_among (walk goal []) u ≡ true

  agreement-goal : (t u : Term) → Applied (Each In) t → Applied (Each In) u → same_function t u ≡ true → IsGoal (agreement (applications goal) first t u)
  agreement-goal (apply f ts v) (apply g us w) h k s =
      let e : f ≡ g = eqb-true f g s in
      let like = z.alike f v w ts us h.0.1 (subst (λ x. Applies goal x us w) (sym e) k.0.1) in
      let t = apply f ts v in
      let u = apply g us w in
      let i = is-term goal first z t h.0.1 in
      let j = is-term goal first z u k.0.1 in
      let args = chain-goal (equal_args (reduced_args (applications goal) first ts) (reduced_args (applications goal) first us)) (equals-goal (applications goal) first ts us i.0 j.0 like.0) in
      let results = equal-goal (applications goal) first t u i j like.1 in
      record { term = (args.term, results.term, args.truth); truth = args.truth; unapplied = (args.unapplied, results.unapplied) }
  agreement-goal t u h k s = absurd cc

  flat-goal : IsGoal (flattened goal first)
  flat-goal =
      ands-goal (reduced (applications goal) first goal) (agreements (applications goal) first [] (applications goal))
      (record {
        term = reduced-term (applications goal) first goal z.term;
        truth = reduced-width (applications goal) first goal ∙ z.truth;
        unapplied = reduced-plain (applications goal) first goal;
      })
      (all-agree (applications goal) first (Applied (Each In)) IsGoal agreement-goal [] (applications goal) tt (all-in goal first z))

pub are-goals : (goal : Term) (first : ℕ) → CanFlatten goal first → IsGoal (flattened goal first)
are-goals goal first z = flat-goal goal first z
