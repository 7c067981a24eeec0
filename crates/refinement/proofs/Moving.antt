-- A run of a body whose role the block does not list is one of the level above.
use Rattle.std.proofs.Common.{◌≡◌, ◌⊎◌, inl, inr, ℕ, suc, ◌&&◌, List, [], Bool, true, false, not, Option, Some, is_some, option_and_then, refl, sym, ap, ◌∙◌}
use Rattle.std.specs.Prelude.{slice_get}
use Rattle.cocoon_num.specs.Packets.{Packet}
use Rattle.cocoon_num.specs.Tree.{Stmt, let_, set_field, if_, filter, havoc_var, havoc_field, assume, fork, send, Block, no_stmts, stmt, Role, Refine, Design}
use Rattle.cocoon_num.specs.Values.{number}
use Rattle.cocoon_types.specs.Design.{role_at}
use Rattle.cocoon_types.specs.RuleParts.{has_name}
use Rattle.cocoon_types.specs.Rules.{WellFormed}
use Rattle.cocoon_types.specs.Runs.{Loc, World, world, End, falls, sends, back_to, CanStand, Does, DoesAll, Go}
use Rattle.cocoon_types.specs.SameTrees.{same_params, same_expr}
use Rattle.cocoon_types.specs.Sites.{after_stmt}
use Rattle.cocoon_types.specs.Tables.{Defs}
use Rattle.cocoon_types.specs.Taken.{guard_at}
use Rattle.cocoon_types.specs.Typing.{Scope, with_var}
use Rattle.cocoon_types.specs.Val.{Env, bind, bound, context, value}
use Rattle.refinement.proofs.Roles.{header_kept, role_stays, unlisted_stays}
use Rattle.refinement.proofs.SameTrees.{same_bind, same_value}
use Rattle.refinement.specs.Segments.{IsNew, IsOld, is_old}
use Rattle.sound_types.specs.WellTyped.{IsTyped, IsTypedRole, IsTypedStmt, scope_at}
use Rattle.sound_types.proofs.Options.{some_there}

-- ---- where a body sends, the guard is true

abbrev Lands : World → End → Type 0
Lands w (falls env packet) = Unit {0}
Lands w (sends to packet) = CanStand w to

back_lands : (w : World) (env : Env) (e : End) → Lands w e → Lands w (back_to env e)
back_lands w env (falls inner packet) h = tt
back_lands w env (sends to packet) h = h

mutual
  lands : (w : World) (s : Stmt) (env : Env) (packet : Packet) (cs : List ℕ) (end : End) → Does w s env packet cs end → Lands w end
  lands w (let_ at x width e) env packet cs end d = rw d.3 tt
  lands w (set_field at h f e) env packet cs end d = rw d.5 tt
  lands w (if_ at e first second) env packet cs end d =
      rw d.1 (back_lands w env d.0 (elim d.2 [ inl h ↦ lands_all w first env packet cs d.0 h.1 | inr h ↦ lands_all w second env packet cs d.0 h.1 ]))
  lands w (filter at e) env packet cs end d = rw d.2 tt
  lands w (havoc_var at x width) env packet cs end d = rw d.3 tt
  lands w (havoc_field at h f) env packet cs end d = rw d.5 tt
  lands w (assume at e) env packet cs end d = rw d.2 tt
  lands w (fork at x width e body) env packet cs end d = rw d.8 (lands_all w body _ packet d.1 (sends d.2 d.3) d.7)
  lands w (send at r es) env packet cs end d = rw d.4 d.2

  lands_all : (w : World) (b : Block) (env : Env) (packet : Packet) (cs : List ℕ) (end : End) → DoesAll w b env packet cs end → Lands w end
  lands_all w no_stmts env packet cs end d = rw d.1 tt
  lands_all w (stmt s more) env packet cs end d =
      elim d [
        | inl h ↦ lands_all w more h.0 h.1 h.3 end h.5
        | inr h ↦ rw h.3 (lands w s env packet cs (sends h.0 h.1) h.2)
      ]

pub go_lands : (w : World) (from : Loc) (packet : Packet) (cs : List ℕ) (to : Loc) (sent : Packet) → Go w from packet cs to sent → CanStand w to
go_lands w from packet cs to sent g = lands_all w g.body g.env packet cs (sends to sent) g.does

-- ---- old and new

both_sides : (a b : Bool) → a ≡ true → (b ≡ true) ⊎ ((a && not b) ≡ true)
both_sides a true h = inl refl
both_sides true false h = inr refl
both_sides false false h = absurd (cc)

never_both : (a b : Bool) → b ≡ true → (a && not b) ≡ true → ⊥
never_both true true h k = absurd (cc)
never_both false true h k = absurd (cc)
never_both a false h k = absurd (cc)

pub old_or_new : (above : ℕ) (d : Design) (at : Loc) (r : Role) → role_at (suc above) d at.role ≡ Some r → IsOld above d at ⊎ IsNew above d at
old_or_new above d at r h = both_sides (is_some (role_at (suc above) d at.role)) (is_old above d at.role) (ap (λ (o : Option Role). is_some o) h)

pub not_both : (above : ℕ) (d : Design) (at : Loc) → IsOld above d at → IsNew above d at → ⊥
not_both above d at o n = never_both (is_some (role_at (suc above) d at.role)) (is_old above d at.role) o n

pub old_by : (above : ℕ) (d : Design) (at : Loc) (r : Role) → role_at above d at.role ≡ Some r → IsOld above d at
old_by above d at r h = ap (λ (o : Option Role). is_some o) h

-- ---- guards

module _ (d : Design) (rules : WellFormed d) (above : ℕ) (block : Refine) (at_block : slice_get d.refines above ≡ Some block) (defs : Defs) where
  -- the guard of an old role at both levels
  same_guards : (r q : Role) (ns : List ℕ) → ((same_params r.params q.params ≡ true) × (same_expr r.guard q.guard ≡ true)) ⊎ (r ≡ q)
      → (bind r.params ns ≡ bind q.params ns) × ((env : Env) → value (context d defs) env [] r.guard ≡ value (context d defs) env [] q.guard)
  same_guards r q ns h = elim h [
    | inl t ↦ (same_bind r.params q.params t.0 ns, λ env. same_value (context d defs) env [] r.guard q.guard t.1)
    | inr e ↦ (ap (λ (x : Role). bind x.params ns) e, λ env. ap (λ (x : Role). value (context d defs) env [] x.guard) e)
  ]

  guards_of : (at : Loc) (r q : Role) → role_at above d at.role ≡ Some r → role_at (suc above) d at.role ≡ Some q
      → (bind r.params at.values ≡ bind q.params at.values) × ((env : Env) → value (context d defs) env [] r.guard ≡ value (context d defs) env [] q.guard)
  guards_of at r q h k = same_guards r q at.values (header_kept d rules above block at_block at.role r q h k)

  -- a guard means the same
  pub guard_same : (at : Loc) → IsOld above d at → guard_at (world (suc above) d defs) at ≡ guard_at (world above d defs) at
  guard_same at o =
      let r = some_there (role_at above d at.role) o in
      let q = role_stays d above block at_block at.role r.0 r.1 in
      let g = guards_of at r.0 q.0 r.1 q.1 in
      let c = context d defs in
      (λ k. option_and_then (λ (x : Role). option_and_then (λ env. value c env [] x.guard) (bind x.params at.values)) (q.1 k))
      ∙ (λ k. option_and_then (λ env. sym (g.1 env) k) (sym g.0 k))
      ∙ sym (λ k. option_and_then (λ (x : Role). option_and_then (λ env. value c env [] x.guard) (bind x.params at.values)) (r.1 k))

  -- a packet that can stand at an old role can stand there at the level above
  stands_above : (at : Loc) (r : Role) → role_at above d at.role ≡ Some r → CanStand (world (suc above) d defs) at → CanStand (world above d defs) at
  stands_above at r h s =
      let g = guards_of at r s.0 h s.2 in
      (r, s.1, h, g.0 ∙ s.3, g.1 s.1 ∙ s.4)

  -- ---- statements

  -- the scope is of the level above
  pub record IsAbove (s : Scope) : Type 0 where
    pub design : s.design ≡ d
    pub level : s.level ≡ above

  above_after : (x : Stmt) (s : Scope) → IsAbove s → IsAbove (after_stmt x s)
  above_after (let_ at x w e) s h = record { design = h.design; level = h.level }
  above_after (set_field at y f e) s h = h
  above_after (if_ at e a b) s h = h
  above_after (filter at e) s h = h
  above_after (havoc_var at x w) s h = record { design = h.design; level = h.level }
  above_after (havoc_field at y f) s h = h
  above_after (assume at e) s h = h
  above_after (fork at x w e b) s h = h
  above_after (send at r es) s h = h

  mutual
    -- a statement that is well typed at the level above does there what it does
    moves : (s : Scope) → IsAbove s → (x : Stmt) → IsTypedStmt s x → (env : Env) (packet : Packet) (cs : List ℕ) (end : End) → Does (world (suc above) d defs) x env packet cs end → Does (world above d defs) x env packet cs end
    moves s h (let_ at x width e) t env packet cs end k = k
    moves s h (set_field at y f e) t env packet cs end k = k
    moves s h (if_ at e first second) t env packet cs end k = (
      k.0,
      k.1,
      elim k.2 [
        | inl j ↦ inl (j.0, moves_all s h first t.1 env packet cs k.0 j.1)
        | inr j ↦ inr (j.0, moves_all s h second t.2 env packet cs k.0 j.1)
      ],
    )
    moves s h (filter at e) t env packet cs end k = k
    moves s h (havoc_var at x width) t env packet cs end k = k
    moves s h (havoc_field at y f) t env packet cs end k = k
    moves s h (assume at e) t env packet cs end k = k
    moves s h (fork at x width e body) t env packet cs end k =
        (k.0, k.1, k.2, k.3, k.4, k.5, k.6, moves_all (with_var x width s) (record { design = h.design; level = h.level }) body t.2 (bound x.text (number width k.0) env) packet k.1 (sends k.2 k.3) k.7, k.8)
    moves s h (send at r es) t env packet cs end k =
        let known : role_at above d r.text ≡ Some t.0 = (λ i. role_at (sym h.level i) (sym h.design i) r.text) ∙ t.1 in
        (k.0, k.1, stands_above (record { role = r.text; values = k.0 }) t.0 known k.2, k.3, k.4)

    moves_all : (s : Scope) → IsAbove s → (b : Block) → IsTyped s b → (env : Env) (packet : Packet) (cs : List ℕ) (end : End) → DoesAll (world (suc above) d defs) b env packet cs end → DoesAll (world above d defs) b env packet cs end
    moves_all s h no_stmts t env packet cs end k = k
    moves_all s h (stmt x more) t env packet cs end k = elim k [
      | inl j ↦ inl (j.0, j.1, j.2, j.3, moves s h x t.0 env packet j.2 (falls j.0 j.1) j.4, moves_all (after_stmt x s) (above_after x s h) more t.1 j.0 j.1 j.3 end j.5, j.6)
      | inr j ↦ inr (j.0, j.1, moves s h x t.0 env packet cs (sends j.0 j.1) j.2, j.3)
    ]

  -- ---- bodies

  -- the body of an old role that the block does not list runs as at the level above, and sends to an old role
  pub keeps : ((name : List ℕ) (r : Role) → role_at above d name ≡ Some r → IsTypedRole d above r) → (from : Loc) (packet : Packet) (cs : List ℕ) (to : Loc) (sent : Packet) → IsOld above d from → has_name from.role block.roles ≡ false
      → Go (world (suc above) d defs) from packet cs to sent → Go (world above d defs) from packet cs to sent × IsOld above d to
  keeps typed from packet cs to sent o n g =
      let r = some_there (role_at above d from.role) o in
      let stays = unlisted_stays d rules above block at_block from.role r.0 r.1 n in
      let same : r.0 ≡ g.role = some_same r.0 g.role (sym stays ∙ g.role_is) in
      let is : role_at above d from.role ≡ Some g.role = r.1 ∙ ap (λ x. Some x) same in
      let go : Go (world above d defs) from packet cs to sent = record {
        role = g.role;
        body = g.body;
        env = g.env;
        stands = stands_above from g.role is g.stands;
        role_is = is;
        body_is = g.body_is;
        env_is = g.env_is;
        does = moves_all (scope_at d above g.role.params true) (record { design = refl; level = refl }) g.body ((typed from.role g.role is).body g.body g.body_is) g.env packet cs (sends to sent) g.does;
      } in
      let stands = go_lands (world above d defs) from packet cs to sent go in
      (go, old_by above d to stands.0 stands.2)
    where
      some_same : (a c : Role) → ◌≡◌ {A = Option Role} (Some a) (Some c) → a ≡ c
      some_same a c e = cc
