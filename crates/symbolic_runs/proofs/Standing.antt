-- When states stand in an arena, and what comes of them.
use Rattle.std.proofs.Common.{◌≡◌, inl, inr, ℕ, List, [], ◌∷◌, ◌++◌, map, All, true, Option, Some, None, option_map, refl, sym, ap, subst, ◌∙◌}
use Rattle.std.proofs.lemmas.List.{append-nil}
use Rattle.std.proofs.lemmas.List.Elements.{All-cons, All-nil}
use Rattle.cocoon_num.specs.Sorts.{Sort}
use Rattle.cocoon_num.specs.Tree.{Block, Design, Expr, Param, Role, Stmt, no_stmts, stmt}
use Rattle.cocoon_syntax.specs.TreeOf.{design_of}
use Rattle.bv_terms.specs.declared.node.Node.{Node}
use Rattle.bv_terms.specs.Arenas.{KeepsTerms, inputs_in}
use Rattle.sound_types.specs.WellTyped.{IsTyped, IsTypedStmt, scope_at}
use Rattle.sound_types.proofs.Bodies.{after_scope, after_vars}
use Rattle.sound_types.proofs.Members.{In}
use Rattle.obligation_laws.specs.States as tree
use Rattle.obligation_laws.specs.Following.{Followed, each, follow, follow_all, one, unless_sent}
use Rattle.obligation_laws.proofs.Statements.{block_vars}
use Rattle.symbolic_runs.specs.Fitting.{CanDo, CanFollow, FitsState, IsReady, Stands}
use Rattle.symbolic_runs.specs.Reading.{Follows, IsThere, Reads, place_of, state_of, states_of, world_in}
use Rattle.symbolic_runs.specs.declared.states.Place.{Place}
use Rattle.symbolic_runs.specs.declared.states.State.{State}
use Rattle.symbolic_runs.specs.declared.world.World.{World}
use Rattle.symbolic_runs.proofs.Fitting.{AllHeld, Held, block_held}
use Rattle.symbolic_runs.proofs.Growing.{head_all, map_all, one_all, state_on, state_there, states_on, states_there, tail_all}

-- ---- growth

pub reads_on : (a b : List Node) (s : State) (t : tree.State) → KeepsTerms a b → Reads a s t → Reads b s t
reads_on a b s t h r = record { there = state_there a b s h r.there; is = state_on a b s h r.there ∙ r.is }

pub stands_on : (w : World) (a b : List Node) (vars : List Param) (s : State) → KeepsTerms a b → Stands w a vars s → Stands w b vars s
stands_on w a b vars s h k = record {
  there = state_there a b s h k.there;
  fits = subst (FitsState w.level (design_of w.checked.now) vars) (sym (state_on a b s h k.there)) k.fits;
}

pub can_on : (w : World) (a b : List Node) (ss : List State) (x : Block) → KeepsTerms a b → CanFollow w a ss x → CanFollow w b ss x
can_on w a b ss x h can = record {
  vars = can.vars;
  typed = can.typed;
  stand = map_all (Stands w a can.vars) (Stands w b can.vars) ss (λ s k. stands_on w a b can.vars s h k) can.stand;
}

pub there_all : (w : World) (a : List Node) (vars : List Param) (ss : List State) → All (Stands w a vars) ss → All (IsThere a) ss
there_all w a vars ss all = map_all (Stands w a vars) (IsThere a) ss (λ s k. k.there) all

-- ---- what comes of states

pub follows_one : (b : List Node) (s : State) (t : tree.State) (n : ℕ) → Reads b s t → inputs_in b ≡ n → Follows b (s ∷ []) (one t n)
follows_one b s t n r e = record { there = one_all (IsThere b) s r.there; are = ap (λ z. z ∷ []) r.is; next = e }

module _ (w : World) (ready : IsReady w) where
  abbrev d : Design
  d = design_of w.checked.now

  pub held_all : (a : List Node) (vars : List Param) (ss : List State) → All (Stands w a vars) ss → AllHeld d w.level ready.wide ready.roles [] vars (states_of a ss)
  held_all a vars [] all t i = absurd i
  held_all a vars (s ∷ ss) all t i = elim i [
    | inl e ↦ subst (Held d w.level ready.wide ready.roles [] vars) (sym e) (record { fits = (head_all (Stands w a vars) s ss all).fits; ends = ((state_of a s).vars, sym (append-nil (state_of a s).vars)) })
    | inr k ↦ held_all a vars ss (tail_all (Stands w a vars) s ss all) t k
  ]

  pub stand_all : (b : List Node) (vars : List Param) (ss : List State) → All (IsThere b) ss → ((t : tree.State) → In t (states_of b ss) → FitsState w.level d vars t) → All (Stands w b vars) ss
  stand_all b vars [] there fit = All-nil (Stands w b vars)
  stand_all b vars (s ∷ ss) there fit =
      All-cons (Stands w b vars) s ss (record { there = head_all (IsThere b) s ss there; fits = fit (state_of b s) (inl refl) })
      (stand_all b vars ss (tail_all (IsThere b) s ss there) (λ t i. fit t (inr i)))

  -- states that come of states that stand do, too
  pub followed_stand : (a b : List Node) (ss after : List State) (x : Block) (n : ℕ) (can : CanFollow w a ss x) → Follows b after (follow_all (world_in w) x (states_of a ss, n)) → All (Stands w b (block_vars x can.vars)) after
  followed_stand a b ss after x n can f =
      stand_all b (block_vars x can.vars) after f.there
      (λ t i. (block_held d w.level ready.wide ready.roles [] x can.vars can.typed (states_of a ss) (held_all a can.vars ss can.stand) n t (subst (In t) f.are i)).fits)

  -- the rest of a block can be followed after its first statement
  pub can_next : (a b : List Node) (ss after : List State) (x : Stmt) (rest : Block) → (can : CanFollow w a ss (stmt x rest))
      → Follows b after (each (unless_sent (follow (world_in w) x)) (states_of a ss) (inputs_in a)) → CanFollow w b after rest
  can_next a b ss after x rest can f =
      let first : CanFollow w a ss (stmt x no_stmts) = record { vars = can.vars; typed = (can.typed.0, tt); stand = can.stand } in
      record {
        vars = after_vars x can.vars;
        typed = subst (λ s. IsTyped s rest) (after_scope x (scope_at d w.level can.vars true)) can.typed.1;
        stand = followed_stand a b ss after (stmt x no_stmts) (inputs_in a) first f;
      }

pub can_first : (w : World) (a : List Node) (ss : List State) (x : Stmt) (rest : Block) → CanFollow w a ss (stmt x rest) → CanFollow w a ss (stmt x no_stmts)
can_first w a ss x rest can = record { vars = can.vars; typed = (can.typed.0, tt); stand = can.stand }

-- ---- a statement

pub can_do : (w : World) (a : List Node) (s : State) (x : Stmt) → CanFollow w a (s ∷ []) (stmt x no_stmts) → s.sent ≡ None → CanDo w a s x
can_do w a s x can none = record { vars = can.vars; unsent = none; typed = can.typed.0; stands = head_all (Stands w a can.vars) s [] can.stand }

pub unsent_read : (a : List Node) (s : State) → s.sent ≡ None → (state_of a s).sent ≡ None
unsent_read a s e = ap (option_map (place_of a)) e
