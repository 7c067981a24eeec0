-- The laws, put together.
use Rattle.std.proofs.Common.{◌≡◌, ℕ, zero, suc, List, [], ◌∷◌, length, Option, Some, None, refl, sym, ap, subst, ◌∙◌}
use Rattle.cocoon_num.specs.PacketForms.{PacketFits}
use Rattle.cocoon_num.specs.Packets.{Packet}
use Rattle.cocoon_num.specs.Sorts.{bits_sort, truth_sort}
use Rattle.cocoon_num.specs.Tree.{DefsText, Exprs, no_exprs, expr, Role, Design}
use Rattle.cocoon_num.specs.Values.{Value, with_both}
use Rattle.cocoon_num.specs.declared.fun_table.FunTable.{FunTable}
use Rattle.cocoon_types.specs.Design.{functions, layout, role_at}
use Rattle.cocoon_types.specs.Rules.{WellFormed}
use Rattle.cocoon_types.specs.Runs.{Loc, world}
use Rattle.cocoon_types.specs.Tables.{Defs, defs_of}
use Rattle.cocoon_types.specs.Taken.{Reached, go, guard_at, or_stop, run_all, then_walk, walk}
use Rattle.cocoon_types.specs.Typing.{Scope}
use Rattle.cocoon_types.specs.Val.{Env, apply, context, numbers, value}
use Rattle.role_values.specs.ByTables.{apply_by, earlier}
use Rattle.role_values.specs.FittingRuns.{fitting_go}
use Rattle.role_values.specs.Stands.{Stands, TablesGiveValues}
use Rattle.role_values.specs.Worlds.{world_by}
use Rattle.sound_types.specs.Defined.{HasDefinitions, HasTables}
use Rattle.sound_types.specs.Ends.{LocFits, ReachFits, RunFits}
use Rattle.sound_types.specs.Literals.{DesignLiteralsFit}
use Rattle.sound_types.specs.Matching.{HasValue, Matches}
use Rattle.sound_types.specs.Soundness.{BodiesAreSound, HaveNumbers, IsSound, KeepsTypes}
use Rattle.sound_types.specs.WellTyped.{HaveWidths, IsTypedRole}
use Rattle.sound_types.proofs.Declared.{names_differ, role_typed, typed_bodies}
use Rattle.sound_types.proofs.Definitions.{under_definitions}
use Rattle.sound_types.proofs.Expressions.{body_typed, body_values, context_with, expression_value}
use Rattle.sound_types.proofs.Functions.{HaveValues, typed_at}
use Rattle.sound_types.proofs.Levels.{role_in}
use Rattle.sound_types.proofs.Members.{at_place}
use Rattle.sound_types.proofs.Runs.{Agree, after_block_is, block_alike, both_guards, go_alike, world_with}
use Rattle.sound_types.proofs.Tables.{by_tables, by_tables_to}
use Rattle.sound_types.proofs.Values.{number_there}

pub roles_are_typed : (d : Design) → WellFormed d → DesignLiteralsFit d → (level : ℕ) (name : List ℕ) (r : Role) → role_at level d name ≡ Some r → IsTypedRole d level r
roles_are_typed d w l i x r h = role_typed d w l i r (role_in i d x r h).0

-- ---- expressions

number_values : (s : Scope) (a : List ℕ → List ℕ → Option Value) → HaveValues (functions s.design) a → (env : Env) (packet : Packet) → Matches s env packet → (ws : List ℕ) (es : Exprs) → HaveWidths s ws es
    → HaveNumbers ws (numbers (context_with s a) env packet es)
number_values s a have env packet m [] no_exprs h = ([], refl, tt)
number_values s a have env packet m [] (expr e es) h = absurd h
number_values s a have env packet m (w ∷ ws) no_exprs h = absurd h
number_values s a have env packet m (w ∷ ws) (expr e es) h =
    let n = number_there w (value (context_with s a) env packet e) (expression_value s a have env packet m (bits_sort w) e h.0) in
    let ns = number_values s a have env packet m ws es h.1 in
    (n.0 ∷ ns.0, (λ k. with_both (λ x xs. Some (x ∷ xs)) (n.1 k) (ns.1 k)), (n.2, ns.2))

sound : (d : Design) (a : List ℕ → List ℕ → Option Value) → HaveValues (functions d) a → IsSound d (record { headers = d.headers; apply = a })
sound d a have = record {
  values = λ s env packet e m t x h.
      subst (λ hs. HasValue t (value (record { headers = hs; apply = a }) env packet x)) (ap (λ (y : Design). y.headers) e)
      (expression_value s a (subst (λ y. HaveValues (functions y) a) (sym e) have) env packet m t x h);
  numbers = λ s env packet e m ws es h.
      subst (λ hs. HaveNumbers ws (numbers (record { headers = hs; apply = a }) env packet es)) (ap (λ (y : Design). y.headers) e)
      (number_values s a (subst (λ y. HaveValues (functions y) a) (sym e) have) env packet m ws es h);
  functions = λ n f e ns h. have f (at_place (functions d) n f e) ns h;
}

pub sound_by_tables : (d : Design) (tables : List (Option FunTable)) → HasTables d tables → (level : ℕ) → IsSound d (world_by tables level d).context
sound_by_tables d tables h level = sound d (apply_by tables (earlier d (length (functions d)))) (by_tables d tables h)

pub sound_by_definitions : (d : Design) (es : DefsText) → HasDefinitions d es → IsSound d (context d (defs_of d es))
sound_by_definitions d es h = sound d (apply d (defs_of d es)) (under_definitions d es h)

pub sound_bodies : (d : Design) (tables : List (Option FunTable)) → HasTables d tables → BodiesAreSound d tables
sound_bodies d tables h = record {
  typed = λ n f e at is. body_typed d n f e (typed_at d [] (functions d) n f (typed_bodies d h.rules h.literals) at) is;
  values = λ n headers vars env b t e k. body_values d n headers (apply_by tables (earlier d n)) (names_differ d h.rules) (by_tables_to d tables h n) vars env b t e k;
}

-- ---- runs

-- one way alone
alone : (i : ℕ) (d : Design) (a : List ℕ → List ℕ → Option Value) → WellFormed d → DesignLiteralsFit d → HaveValues (functions d) a → Agree i d a a
alone i d a w l have = record { have = have; up = λ env packet e v h. h; roles = role_typed d w l i }

keeps : (i : ℕ) (d : Design) (a : List ℕ → List ℕ → Option Value) → Agree i d a a → KeepsTypes i d (world_with i d a)
keeps i d a g = record {
  guards = λ at h. let c = both_guards i d a a g at h in subst (HasValue truth_sort) (sym c.1) tt;
  blocks = λ vars block h env packet cs m.
      subst (λ s. RunFits s (run_all (world_with i d a) block env packet cs)) (sym (after_block_is i d block vars)) (block_alike i d a a g block vars h env packet cs m).holds;
  bodies = λ at packet cs h fits. (go_alike i d a a g at h packet cs fits).holds;
}

pub keeps_by_tables : (d : Design) (tables : List (Option FunTable)) → HasTables d tables → (level : ℕ) → KeepsTypes level d (world_by tables level d)
keeps_by_tables d tables h level =
    let a = apply_by tables (earlier d (length (functions d))) in
    keeps level d a (alone level d a h.rules h.literals (by_tables d tables h))

pub keeps_by_definitions : (d : Design) (es : DefsText) → HasDefinitions d es → (level : ℕ) → KeepsTypes level d (world level d (defs_of d es))
keeps_by_definitions d es h level =
    let a = apply d (defs_of d es) in
    keeps level d a (alone level d a h.rules h.literals (under_definitions d es h))

-- ---- tables and definitions

agree : TablesGiveValues → (d : Design) (tables : List (Option FunTable)) (defs : Defs) → HasTables d tables → Stands d tables defs → (level : ℕ) → Agree level d (apply_by tables (earlier d (length (functions d)))) (apply d defs)
agree give d tables defs h st level = record {
  have = by_tables d tables h;
  up = give d tables defs st;
  roles = role_typed d h.rules h.literals level;
}

pub same_guards : TablesGiveValues → (d : Design) (tables : List (Option FunTable)) (defs : Defs) → HasTables d tables → Stands d tables defs → (level : ℕ) (at : Loc) → LocFits level d at
    → guard_at (world_by tables level d) at ≡ guard_at (world level d defs) at
same_guards give d tables defs h st level at fits =
    let c = both_guards level d (apply_by tables (earlier d (length (functions d)))) (apply d defs) (agree give d tables defs h st level) at fits in c.1 ∙ sym c.2

pub same_runs : TablesGiveValues → (d : Design) (tables : List (Option FunTable)) (defs : Defs) → HasTables d tables → Stands d tables defs → (level : ℕ) (at : Loc) (packet : Packet) (cs : List ℕ) → LocFits level d at
    → PacketFits (layout d) packet → go (world_by tables level d) at packet cs ≡ go (world level d defs) at packet cs
same_runs give d tables defs h st level at packet cs fits k =
    (go_alike level d (apply_by tables (earlier d (length (functions d)))) (apply d defs) (agree give d tables defs h st level) at fits packet cs k).same

pub fitting_same : (d : Design) (tables : List (Option FunTable)) → HasTables d tables → (level : ℕ) (at : Loc) (packet : Packet) (cs : List ℕ) → LocFits level d at → PacketFits (layout d) packet
    → fitting_go (world_by tables level d) at packet cs ≡ go (world_by tables level d) at packet cs
fitting_same d tables h level at packet cs fits k =
    let a = apply_by tables (earlier d (length (functions d))) in
    (go_alike level d a a (alone level d a h.rules h.literals (by_tables d tables h)) at fits packet cs k).fitting

-- chains of bodies
same_next : (i : ℕ) (d : Design) (f g : Loc → Packet → List ℕ → Reached) → ((at : Loc) (packet : Packet) (cs : List ℕ) → LocFits i d at → PacketFits (layout d) packet → f at packet cs ≡ g at packet cs) → (r : Reached) → ReachFits i d r
    → then_walk r f ≡ then_walk r g
same_next i d f g h None k = refl
same_next i d f g h (Some r) k = h r.0 r.1 r.2 k.0 k.1

pub same_walks : TablesGiveValues → (d : Design) (tables : List (Option FunTable)) (defs : Defs) → HasTables d tables → Stands d tables defs → (level bodies : ℕ) (at : Loc) (packet : Packet) (cs : List ℕ) → LocFits level d at
    → PacketFits (layout d) packet → walk (world_by tables level d) bodies at packet cs ≡ walk (world level d defs) bodies at packet cs
same_walks give d tables defs h st level zero at packet cs fits k = refl
same_walks give d tables defs h st level (suc n) at packet cs fits k =
    ap (or_stop (role_at level d at.role) (Some (at, packet, cs)))
    (same_next level d (walk (world_by tables level d) n) (walk (world level d defs) n) (same_walks give d tables defs h st level n) (go (world_by tables level d) at packet cs) ((keeps_by_tables d tables h level).bodies at packet cs fits k)
    ∙ ap (λ r. then_walk r (walk (world level d defs) n)) (same_runs give d tables defs h st level at packet cs fits k))
