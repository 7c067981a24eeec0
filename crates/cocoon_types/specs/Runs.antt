-- One body's run, chains of runs, and what the last level delivers. A run takes a location, a packet and a list
-- of choices. `Does` relates a statement or a block to how it ends, by cases on the tree; the choices of the
-- parts are joined. It follows the sections "A body's run" and "Hosts" of docs/LANGUAGE.md; every statement has its
-- case. Headers are all there: none is optional. What the rules of designs shut out is not tested here once more (values of
-- another width, fields that are not declared, a second role without a body): who cites a run has a well-formed design.
use Rattle.std.specs.Prelude.{◌≡◌, ℕ, zero, suc, ◌+◌, ◌*◌, ◌⊎◌, true, false, List, [], ◌∷◌, ◌++◌, Option, Some, None}
use Rattle.cocoon_num.specs.Values.{Value, number, truth, as_number, FitsWidth}
use Rattle.cocoon_num.specs.Tree.{Expr, Stmt, let_, set_field, if_, filter, havoc_var, havoc_field, assume, fork, send, Block, no_stmts, stmt, Role, HostDecl, Design}
use Rattle.cocoon_num.specs.Packets.{Packet, enter, leave}
use Rattle.cocoon_types.specs.Design.{role_at, write_field, field_width, host_decl, layout, last_level}
use Rattle.cocoon_types.specs.Tables.{Defs}
use Rattle.cocoon_types.specs.Val.{Env, bound, bind, Context, value, numbers, context}

-- a role with values of its parameters
pub record Loc : Type 0 where
  pub role : List ℕ
  pub values : List ℕ

-- What runs are in: how expressions are evaluated, and the latest declaration of each role at the level.
pub record World : Type 0 where
  pub context : Context
  pub role : List ℕ → Option Role

-- the world of a level under some definitions
abbrev pub world : ℕ → Design → Defs → World
world i design defs = record { context = context design defs; role = role_at i design }

-- An end falls through, with the variables and the packet as they are then, or sends.
pub data End : Type 0 where
  falls : (env : Env) (packet : Packet) → End
  sends : (to : Loc) (packet : Packet) → End

-- the expression is true
abbrev pub IsTrueAt : World → Env → Packet → Expr → Type 0
IsTrueAt w env packet e = value w.context env packet e ≡ Some (truth true)

-- the expression is false
abbrev pub IsFalseAt : World → Env → Packet → Expr → Type 0
IsFalseAt w env packet e = value w.context env packet e ≡ Some (truth false)

-- a packet can stand at a location: its guard is true
abbrev pub CanStand : World → Loc → Type 0
CanStand w at = (r : Role) × (env : Env) × (w.role at.role ≡ Some r) × (bind r.params at.values ≡ Some env) × IsTrueAt w env [] r.guard

-- a branch ends as its block does, and its variables end with it
abbrev pub back_to : Env → End → End
back_to env (falls inner packet) = falls env packet
back_to env (sends to packet) = sends to packet

abbrev mutual
  -- a statement, from these variables and this packet, ends so with exactly these choices
  pub Does : World → Stmt → Env → Packet → List ℕ → End → Type 0
  Does w (let_ at x width e) env packet cs end =
      (v : Value) × (value w.context env packet e ≡ Some v) × (cs ≡ []) × (end ≡ falls (bound x.text v env) packet)
  Does w (set_field at h f e) env packet cs end =
      (v : Value) × (n : ℕ) × (value w.context env packet e ≡ Some v) × (as_number v ≡ Some n) × (cs ≡ [])
      × (end ≡ falls env (write_field w.context.headers packet h.text f.text n))
  Does w (if_ at e first second) env packet cs end =
      (inner : End) × (end ≡ back_to env inner)
      × (IsTrueAt w env packet e × DoesAll w first env packet cs inner ⊎ IsFalseAt w env packet e × DoesAll w second env packet cs inner)
  Does w (filter at e) env packet cs end = IsTrueAt w env packet e × (cs ≡ []) × (end ≡ falls env packet)
  Does w (havoc_var at x width) env packet cs end =
      (c : ℕ) × FitsWidth width c × (cs ≡ c ∷ []) × (end ≡ falls (bound x.text (number width c) env) packet)
  Does w (havoc_field at h f) env packet cs end =
      (c width : ℕ) × (field_width w.context.headers h.text f.text ≡ Some width) × FitsWidth width c × (cs ≡ c ∷ [])
      × (end ≡ falls env (write_field w.context.headers packet h.text f.text c))
  Does w (assume at e) env packet cs end = IsTrueAt w env packet e × (cs ≡ []) × (end ≡ falls env packet)
  Does w (fork at x width e body) env packet cs end =
      (c : ℕ) × (rest : List ℕ) × (to : Loc) × (sent : Packet) × FitsWidth width c × (cs ≡ c ∷ rest)
      × IsTrueAt w (bound x.text (number width c) env) packet e
      × DoesAll w body (bound x.text (number width c) env) packet rest (sends to sent) × (end ≡ sends to sent)
  Does w (send at r es) env packet cs end =
      (ns : List ℕ) × (numbers w.context env packet es ≡ Some ns) × CanStand w (record { role = r.text; values = ns })
      × (cs ≡ []) × (end ≡ sends (record { role = r.text; values = ns }) packet)

  -- the same of a block: the empty one falls, a statement that falls is followed by the rest of the block, and
  -- one that sends ends the block
  pub DoesAll : World → Block → Env → Packet → List ℕ → End → Type 0
  DoesAll w no_stmts env packet cs end = (cs ≡ []) × (end ≡ falls env packet)
  DoesAll w (stmt s rest) env packet cs end =
      ((env' : Env) × (packet' : Packet) × (first more : List ℕ) × Does w s env packet first (falls env' packet')
      × DoesAll w rest env' packet' more end × (cs ≡ first ++ more))
      ⊎ ((to : Loc) × (sent : Packet) × Does w s env packet cs (sends to sent) × (end ≡ sends to sent))

-- One body's run: where the guard of `from` is true, the body of its role sends so with exactly these choices.
pub record Go (w : World) (from : Loc) (packet : Packet) (cs : List ℕ) (to : Loc) (sent : Packet) : Type 0 where
  pub role : Role
  pub body : Block
  pub env : Env
  pub stands : CanStand w from
  pub role_is : w.role from.role ≡ Some role
  pub body_is : role.body ≡ Some body
  pub env_is : bind role.params from.values ≡ Some env
  pub does : DoesAll w body env packet cs (sends to sent)

-- the role of this location has no body
abbrev pub IsSink : World → Loc → Type 0
IsSink w at = (r : Role) × (w.role at.role ≡ Some r) × (r.body ≡ None)

-- At most n bodies, run one after another, lead to a location of the sink, with their choices joined.
abbrev pub Walk : World → ℕ → Loc → Packet → List ℕ → Loc → Packet → Type 0
Walk w zero from packet cs to sent = IsSink w from × (cs ≡ []) × (to ≡ from) × (sent ≡ packet)
Walk w (suc n) from packet cs to sent =
    (IsSink w from × (cs ≡ []) × (to ≡ from) × (sent ≡ packet))
    ⊎ ((mid : Loc) × (between : Packet) × (first more : List ℕ) × Go w from packet first mid between
    × Walk w n mid between more to sent × (cs ≡ first ++ more))

-- what level i may deliver
abbrev pub May : ℕ → Design → Defs → Loc → Packet → Loc → Packet → Type 0
May i design defs from packet to sent = (n : ℕ) × (cs : List ℕ) × Walk (world i design defs) n from packet cs to sent

-- ---- hosts

-- where the packets of host a begin
abbrev pub entry_at : HostDecl → ℕ → Loc
entry_at h a = record { role = h.entry.text; values = a ∷ [] }

-- where those for host b end
abbrev pub sink_at : HostDecl → ℕ → Loc
sink_at h b = record { role = h.sink.text; values = b ∷ [] }

-- What the last level delivers of some bytes that enter at host a, with these choices and at most n visits of
-- switches: the bytes `out` at host b. A run of n visits has the entry's body and two bodies for each visit.
pub record LastGo (design : Design) (defs : Defs) (a : ℕ) (bytes cs : List ℕ) (n b : ℕ) (out : List ℕ) : Type 0 where
  pub hosts : HostDecl
  pub packet : Packet
  pub payload : List ℕ
  pub sent : Packet
  pub hosts_are : host_decl design ≡ Some hosts
  pub enters : enter (layout design) bytes ≡ Some (packet, payload)
  pub walks : Walk (world (last_level design) design defs) (2 * n + 1) (entry_at hosts a) packet cs (sink_at hosts b) sent
  pub leaves : out ≡ leave (layout design) sent payload

-- what the topmost specification may make of them
pub record MayMake (design : Design) (defs : Defs) (a : ℕ) (bytes : List ℕ) (b : ℕ) (out : List ℕ) : Type 0 where
  pub hosts : HostDecl
  pub packet : Packet
  pub payload : List ℕ
  pub sent : Packet
  pub hosts_are : host_decl design ≡ Some hosts
  pub enters : enter (layout design) bytes ≡ Some (packet, payload)
  pub may : May 0 design defs (entry_at hosts a) packet (sink_at hosts b) sent
  pub leaves : out ≡ leave (layout design) sent payload
