-- The visits of the switches of a design's network are runs of the ingress role's body.
use Rattle.std.proofs.Common.{◌≡◌, ◌↔◌, ℕ, ◌<◌, ◌≤◌, ◌^◌, true, List, length, map, reverse, Option, Some, None, refl, sym, ap, subst, ◌∙◌}
use Rattle.std.specs.Prelude.{option_and_then}
use Rattle.cocoon_num.specs.Lists.{is_one_of}
use Rattle.cocoon_num.specs.Names.{named}
use Rattle.cocoon_num.specs.PacketForms.{PacketFits}
use Rattle.cocoon_num.specs.Packets.{Layout, Packet, enter}
use Rattle.cocoon_num.specs.Tree.{Block, DefsText, Expr, FunctionDecl, HeaderDecl, Design}
use Rattle.cocoon_types.specs.Design.{functions, last_level, layout, widths_of}
use Rattle.cocoon_types.specs.DefsRules.{fork_calls, runtime_named}
use Rattle.cocoon_types.specs.Rules.{WellFormed}
use Rattle.cocoon_types.specs.Runs.{Go, Loc, World, world}
use Rattle.cocoon_types.specs.Tables.{Defs, defs_of}
use Rattle.p4_ir.specs.P4Tree.{RowsFile}
use Rattle.p4_ir.specs.Switch.{switch_go}
use Rattle.lowering.specs.Agrees.{Filling, FunctionsFit}
use Rattle.lowering.specs.Lower.{Made}
use Rattle.lowering.specs.LowerBlock.{fork_function}
use Rattle.lowering.specs.Whole.{SwitchRole}
use Rattle.lowering.specs.Departs.{departs}
use Rattle.lowering.specs.Roles.{NetParts, net_parts}
use Rattle.lowering.specs.Sends.{IsExit}
use Rattle.lowering.specs.Serving.{AllServe, GroupsServe, MembersFit}
use Rattle.lowering.specs.SwitchProgram.{switch_made, switch_program}
use Rattle.lowering_correct.specs.SwitchRows.{switch_rows}
use Rattle.lowering_correct.specs.Followed.{AreFollowed, Exits, bytes_depart}
use Rattle.lowering_correct.specs.Ingress.{IngressIs}
use Rattle.lowering_correct.specs.Logs.{IsLogOf, filling}
use Rattle.lowering.specs.Fitting.{SwitchServes, VisitFits, role_context, role_layout, role_visit}
use Rattle.lowering.specs.Forks.{AllForks, ForksAre, ForksName, ForksServe, GroupsAre}
use Rattle.lowering.specs.Leaving.{HasRole, LeavesTo, port_at, role_departs}
use Rattle.runtime_defs.specs.Fitting.{FitsDesign}
use Rattle.runtime_defs.specs.Places.{Places}
use Rattle.runtime_defs.specs.Stands.{Stands}
use Rattle.sound_types.specs.Defined.{HasDefinitions, HasTables}
use Rattle.sound_types.specs.Literals.{DesignLiteralsFit}

-- what the laws below say
pub record Laws : Type 0 where
  pub first : (d : Design) → WellFormed d → (f : List ℕ) (g : FunctionDecl) → named (λ (x : FunctionDecl). x.name) f (reverse (functions d)) ≡ Some g → named (λ (x : FunctionDecl). x.name) f (functions d) ≡ Some g
  pub ingress : (d : Design) → WellFormed d → (parts : NetParts) → net_parts d ≡ Some parts → IngressIs d parts
  pub groups : (d : Design) (places : Places) (defs : Defs) (made : List Made) (f : List ℕ) (g : FunctionDecl) → WellFormed d → FitsDesign d places → Stands d places defs
      → is_one_of (fork_calls d) f ≡ true → runtime_named d f ≡ Some g → GroupsServe (filling d places defs) (switch_rows d places made) f g.params
  pub members : (d : Design) (places : Places) (defs : Defs) (made : List Made) (f : List ℕ) (g : FunctionDecl) → WellFormed d → FitsDesign d places → 1 ≤ length g.params
      → is_one_of (fork_calls d) f ≡ true → runtime_named d f ≡ Some g → MembersFit (filling d places defs) (switch_rows d places made) f g.params
  pub logs : (d : Design) (parts : NetParts) (s : ℕ) → WellFormed d → net_parts d ≡ Some parts → IsLogOf d (switch_made parts.role s)
  pub tables : (d : Design) (places : Places) (defs : Defs) (made : List Made) → WellFormed d → FitsDesign d places → Stands d places defs → IsLogOf d made
      → AllServe (filling d places defs) (switch_rows d places made) made
  pub forms : (d : Design) → WellFormed d → DesignLiteralsFit d → (parts : NetParts) → net_parts d ≡ Some parts → ForksAre parts.role.functions parts.role.body
  pub names : (d : Design) → WellFormed d → (parts : NetParts) → net_parts d ≡ Some parts → AllForks (λ x width e. is_one_of (fork_calls d) (fork_function e) ≡ true) parts.role.body
  pub functions : (d : Design) (es : DefsText) → HasDefinitions d es → FunctionsFit d.headers (defs_of d es) (reverse (functions d))
  pub fit : (d : Design) (es : DefsText) → HasDefinitions d es → (parts : NetParts) → net_parts d ≡ Some parts → (fill : Filling) → fill.defs ≡ defs_of d es
      → (s port : ℕ) → s < 2 ^ 16 → port < 2 ^ 16 → (packet : Packet) → PacketFits (layout d) packet → VisitFits parts.role fill s port packet
  pub departures : (d : Design) (es : DefsText) → HasDefinitions d es → (parts : NetParts) → net_parts d ≡ Some parts → (fill : Filling) → fill.defs ≡ defs_of d es
      → (s port : ℕ) → s < 2 ^ 16 → port < 2 ^ 16 → (packet : Packet) → PacketFits (layout d) packet → (choices : List ℕ) (to : Loc) (sent : Packet)
      → departs (role_context parts.role fill) (role_visit parts.role fill s port packet) choices ≡ Some (to, sent) → IsExit parts.switches.out.text (layout d) s to sent
  pub runs : (w : World) (r : SwitchRole) (fill : Filling) (role : List ℕ) → HasRole w r fill role → (s p : ℕ) → s < 2 ^ 16 → p < 2 ^ 16 → (packet : Packet) → VisitFits r fill s p packet
      → (cs : List ℕ) (to : Loc) (sent : Packet) → Go w (port_at role s p) packet cs to sent ↔ LeavesTo w r fill role s p packet cs to sent
  pub served : (fill : Filling) (rows : RowsFile) (functions : List FunctionDecl) (names : List (List ℕ)) → GroupsAre fill rows functions names
      → (b : Block) → ForksAre functions b → ForksName names b → ForksServe fill rows functions b
  pub depart : (r : SwitchRole) (fill : Filling) (s : ℕ) (rows : RowsFile) → SwitchServes r fill s rows → (tag port : ℕ) (bytes cs : List ℕ)
      → ((x : Packet × List ℕ) → enter (role_layout r) bytes ≡ Some x → VisitFits r fill s port x.0)
      → switch_go (switch_program r s) rows tag port bytes cs ≡ role_departs r fill s port bytes cs
  pub entered : (layout : Layout) (bytes : List ℕ) (packet : Packet) (payload : List ℕ) → enter layout bytes ≡ Some (packet, payload) → PacketFits layout packet

-- a function without a body is defined at run time
bodiless : (f : FunctionDecl) → f.body ≡ None → elim f.body as (λ x. Option FunctionDecl) [ None ↦ Some f | Some e ↦ None ] ≡ Some f
bodiless f b = ap (λ (o : Option Expr). elim o as (λ x. Option FunctionDecl) [ None ↦ Some f | Some e ↦ None ]) b

module _ (l : Laws) (d : Design) (es : DefsText) (places : Places) (tables : HasTables d places) (defs : HasDefinitions d es) (stands : Stands d places (defs_of d es))
    (parts : NetParts) (are : net_parts d ≡ Some parts) where
  abbrev fill : Filling
  fill = filling d places (defs_of d es)

  abbrev rows : ℕ → RowsFile
  rows s = switch_rows d places (switch_made parts.role s)

  is : IngressIs d parts
  is = l.ingress d tables.rules parts are

  runtime : (f : List ℕ) (g : FunctionDecl) → named (λ (x : FunctionDecl). x.name) f parts.role.functions ≡ Some g → g.body ≡ None → runtime_named d f ≡ Some g
  runtime f g h b =
      ap (option_and_then (λ (x : FunctionDecl). elim x.body as (λ y. Option FunctionDecl) [ None ↦ Some x | Some e ↦ None ]))
      (l.first d tables.rules f g (ap (named (λ (x : FunctionDecl). x.name) f) (sym is.functions_are) ∙ h))
      ∙ bodiless g b

  serves : (s : ℕ) → SwitchServes parts.role fill s (rows s)
  serves s = record {
    functions = subst (λ hs. FunctionsFit hs (defs_of d es) parts.role.functions) (sym is.headers_are) (subst (FunctionsFit d.headers (defs_of d es)) (sym is.functions_are) (l.functions d es defs));
    tables = l.tables d places (defs_of d es) (switch_made parts.role s) tables.rules tables.fits stands (l.logs d parts s tables.rules are);
    forks = l.forms d tables.rules tables.literals parts are;
    groups = l.served fill (rows s) parts.role.functions (fork_calls d)
        (λ f g i h b n. (
          l.groups d places (defs_of d es) (switch_made parts.role s) f g tables.rules tables.fits stands i (runtime f g h b),
          l.members d places (defs_of d es) (switch_made parts.role s) f g tables.rules tables.fits n i (runtime f g h b),
        ))
        parts.role.body (l.forms d tables.rules tables.literals parts are) (l.names d tables.rules parts are);
  }

  layouts : role_layout parts.role ≡ layout d
  layouts = ap (λ hs. map (λ (h : HeaderDecl). widths_of h.fields) hs) is.headers_are

  fits : (s p : ℕ) → s < 2 ^ 16 → p < 2 ^ 16 → (packet : Packet) → PacketFits (layout d) packet → VisitFits parts.role fill s p packet
  fits s p ls lp packet f = l.fit d es defs parts are fill refl s p ls lp packet f

  has_role : HasRole (world (last_level d) d (defs_of d es)) parts.role fill parts.switches.into.text
  has_role = record { context_is = is.context_is (defs_of d es); role = is.role; role_is = is.role_is; body_is = is.body_is; binds = is.binds }

  exit_at : (s : ℕ) (to : Loc) (sent : Packet) → IsExit parts.switches.out.text (layout d) s to sent → Exits d parts.switches s to sent
  exit_at s to sent e = (e.port, (λ i. record { role = e.role_is i; values = e.values_are i }), e.packet_fits)

  followed : AreFollowed d places (defs_of d es) parts
  followed = record {
    visits = λ s p ls lp tag bytes cs.
        l.depart parts.role fill s (rows s) (serves s) tag p bytes cs
        (λ x e. fits s p ls lp x.0 (subst (λ layout. PacketFits layout x.0) layouts (l.entered (role_layout parts.role) bytes x.0 x.1 e)))
        ∙ ap (λ layout. bytes_depart layout parts.role (defs_of d es) s p bytes cs) layouts;
    runs = λ s p ls lp packet f cs to sent.
        let both = l.runs (world (last_level d) d (defs_of d es)) parts.role fill parts.switches.into.text has_role s p ls lp packet (fits s p ls lp packet f) cs to sent in
        (λ g. let t = both.0 g in (t.from_stands, t.departs_to, t.to_stands), λ t. both.1 (record { from_stands = t.0; departs_to = t.1; to_stands = t.2 }));
    exits = λ s p ls lp packet f cs to sent h. exit_at s to sent (l.departures d es defs parts are fill refl s p ls lp packet f cs to sent h);
  }

pub follow : Laws → (d : Design) (es : DefsText) (places : Places) → HasTables d places → HasDefinitions d es → Stands d places (defs_of d es) → (parts : NetParts) → net_parts d ≡ Some parts → AreFollowed d places (defs_of d es) parts
follow l d es places tables defs stands parts are = followed l d es places tables defs stands parts are
