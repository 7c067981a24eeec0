-- The laws of trees, put together.
use Rattle.std.proofs.Common.{◌≡◌, ℕ, suc, ◌+◌, ◌≤◌, Bool, List, [], length, map, reverse, true, false, Some, refl, sym, subst, arith}
use Rattle.cocoon_num.specs.Sorts.{truth_sort}
use Rattle.cocoon_num.specs.Tree.{Role, Design}
use Rattle.cocoon_resolve.specs.Readers.{all_widths}
use Rattle.cocoon_types.specs.Design.{functions, role_at, widths_of}
use Rattle.cocoon_types.specs.Rules.{WellFormed}
use Rattle.cocoon_types.specs.Runs.{world}
use Rattle.cocoon_types.specs.Tables.{Defs}
use Rattle.cocoon_types.specs.Val.{context}
use Rattle.refinement.specs.Segments.{is_new}
use Rattle.refinement.specs.Ways.{go_by, hops_by}
use Rattle.bv_terms.specs.TermValues.{Inputs}
use Rattle.sound_types.specs.Literals.{DesignLiteralsFit}
use Rattle.sound_types.specs.WellTyped.{IsTypedRole, scope_at}
use Rattle.sound_types.proofs.Declared.{names_differ, typed_bodies}
use Rattle.obligation_laws.specs.Shown.{functions_by, packet_in}
use Rattle.obligation_laws.specs.TermOf.{term_context}
use Rattle.obligation_laws.proofs.InFunctions.{HoldsOf}
use Rattle.obligation_laws.proofs.Typings.{all_typed_everywhere, typed_everywhere}
use Rattle.obligation_laws.proofs.ExprValues.{CallShown, RowsFit, both_in, calls_shown, value_shown, values_shown}
use Rattle.obligation_laws.specs.Counts.{leaf_count}
use Rattle.obligation_laws.specs.States.{TermWorld, input_term, inputs_from, term_world}
use Rattle.obligation_laws.specs.Leaves.{begins, body_tree, entry_of, inlined, params_of, tree_of}
use Rattle.obligation_laws.proofs.Counting.{hops_counted}
use Rattle.obligation_laws.specs.LeafRuns.{BodiesRun, LeavesAreRuns, RunsHaveLeaves}
use Rattle.obligation_laws.proofs.Hopping.{hops_are, hops_in, one_body}
use Rattle.obligation_laws.proofs.Meaning.{Holds}
use Rattle.obligation_laws.proofs.Trees.{leaves_are, runs_have}

-- what is known of a design's roles
abbrev pub RolesTyped : Design → Type 0
RolesTyped d = (level : ℕ) (name : List ℕ) (r : Role) → role_at level d name ≡ Some r → IsTypedRole d level r

pub it_holds : (d : Design) (defs : Defs) → WellFormed d → DesignLiteralsFit d → RowsFit d defs → RolesTyped d → (level : ℕ) (ins : Inputs) → Holds d defs ins level
it_holds d defs w l rows roles level ins = record {
  values = λ vars env fields binds fit t e h.
      value_shown (scope_at d level vars true) (context d defs) (term_context d) (functions_by d defs) ins env fields (packet_in (functions_by d defs) ins d.headers fields)
      (record { fits = record { variables = binds; fields_fit = λ p. fit }; headers = λ p. (refl, refl); packet_is = λ p. refl; calls = calls })
      e t (typed_everywhere (scope_at d level vars true) t e h);
  numbers_ = λ vars env fields binds fit ws es h.
      values_shown (scope_at d level vars true) (context d defs) (term_context d) (functions_by d defs) ins env fields (packet_in (functions_by d defs) ins d.headers fields)
      (record { fits = record { variables = binds; fields_fit = λ p. fit }; headers = λ p. (refl, refl); packet_is = λ p. refl; calls = calls })
      es ws (all_typed_everywhere (scope_at d level vars true) ws es h);
  guards = λ r typed env binds.
      value_shown (scope_at d level r.params false) (context d defs) (term_context d) (functions_by d defs) ins env [] []
      (record { fits = record { variables = binds; fields_fit = λ p. absurd (cc) }; headers = λ p. absurd (cc); packet_is = λ p. absurd (cc); calls = calls })
      r.guard truth_sort (typed_everywhere (scope_at d level r.params false) truth_sort r.guard typed.guard);
  roles = roles level;
}
  where
    calls : HoldsOf (CallShown (functions_by d defs) ins) (functions d) (both_in d.headers defs (reverse (functions d)))
    calls = calls_shown d defs ins (names_differ d w) (typed_bodies d w l) rows

-- ---- the runs of bodies

hops_path : (above : ℕ) (d : Design) (defs : Defs) (n : ℕ) → ◌≡◌ {A = BodiesRun} (hops_in (world (suc above) d defs) (is_new above d) n) (hops_by above d defs n)
hops_path above d defs n = λ k from packet cs. sym (hops_are above d defs n from packet cs) k

body_path : (level : ℕ) (d : Design) (defs : Defs) → ◌≡◌ {A = BodiesRun} (hops_in (world level d defs) (λ r. false) 1) (go_by (world level d defs))
body_path level d defs = λ k from packet cs. one_body (world level d defs) from packet cs k

module _ (d : Design) (defs : Defs) (w : WellFormed d) (l : DesignLiteralsFit d) (rows : RowsFit d defs) (roles : RolesTyped d) where
  pub inlined_runs : (above within : ℕ) → 1 ≤ within → (role : List ℕ) (r : Role) → role_at (suc above) d role ≡ Some r → (first : ℕ)
      → LeavesAreRuns (functions_by d defs) d.headers role (inlined above d role within first) (hops_by above d defs within)
  inlined_runs above within n role r is first =
      subst (LeavesAreRuns (functions_by d defs) d.headers role (inlined above d role within first)) (hops_path above d defs within)
      (leaves_are d defs (suc above) (is_new above d) within role first (it_holds d defs w l rows roles (suc above)) r is n)

  pub inlined_have : (above within : ℕ) → 1 ≤ within → (role : List ℕ) (r : Role) → role_at (suc above) d role ≡ Some r → (first : ℕ)
      → RunsHaveLeaves (functions_by d defs) d.headers role (inlined above d role within first) (hops_by above d defs within)
  inlined_have above within n role r is first =
      subst (RunsHaveLeaves (functions_by d defs) d.headers role (inlined above d role within first)) (hops_path above d defs within)
      (runs_have d defs (suc above) (is_new above d) within role first (it_holds d defs w l rows roles (suc above)) r is n)

  pub body_runs : (level : ℕ) (role : List ℕ) (r : Role) → role_at level d role ≡ Some r → (first : ℕ) → LeavesAreRuns (functions_by d defs) d.headers role (body_tree level d role first) (go_by (world level d defs))
  body_runs level role r is first =
      subst (LeavesAreRuns (functions_by d defs) d.headers role (body_tree level d role first)) (body_path level d defs)
      (leaves_are d defs level (λ x. false) 1 role first (it_holds d defs w l rows roles level) r is (omega arith))

  pub body_have : (level : ℕ) (role : List ℕ) (r : Role) → role_at level d role ≡ Some r → (first : ℕ) → RunsHaveLeaves (functions_by d defs) d.headers role (body_tree level d role first) (go_by (world level d defs))
  body_have level role r is first =
      subst (RunsHaveLeaves (functions_by d defs) d.headers role (body_tree level d role first)) (body_path level d defs)
      (runs_have d defs level (λ x. false) 1 role first (it_holds d defs w l rows roles level) r is (omega arith))

-- ---- counts

counted : (w : TermWorld) (widths : List ℕ) (new : List ℕ → Bool) (bodies : ℕ) (role : List ℕ) (first : ℕ) → length (tree_of w widths new bodies role first).leaves ≡ leaf_count w.role new bodies role
counted w widths new bodies role first =
    let args = inputs_from first (widths_of (params_of w role)) in
    let fields = inputs_from (first + length args) widths in
    hops_counted w new bodies (begins w (entry_of role args) (map input_term fields)) (entry_of role args) refl (first + length args + length fields)

pub inlined_counted : (d : Design) (above : ℕ) (role : List ℕ) (within first : ℕ) → length (inlined above d role within first).leaves ≡ leaf_count (role_at (suc above) d) (is_new above d) within role
inlined_counted d above role within first = counted (term_world (suc above) d) (all_widths d.headers) (is_new above d) within role first

pub body_counted : (d : Design) (level : ℕ) (role : List ℕ) (first : ℕ) → length (body_tree level d role first).leaves ≡ leaf_count (role_at level d) (λ r. false) 1 role
body_counted d level role first = counted (term_world level d) (all_widths d.headers) (λ r. false) 1 role first
