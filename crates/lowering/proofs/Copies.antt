-- A copy: what ingress left at a fork, and the egress run of a member.
use Rattle.std.specs.Prelude.{◌≡◌, ℕ, ◌^◌, ◌<◌, ◌≤◌, List, length, slice_get, Option, Some, refl}
use Rattle.std.proofs.Common.{sym, ◌∙◌, ap, subst}
use Rattle.cocoon_num.specs.Values.{number}
use Rattle.cocoon_num.specs.Packets.{Packet}
use Rattle.cocoon_types.specs.Val.{Env, bound, Context}
use Rattle.p4_ir.specs.P4Tree.{Program, field_widths}
use Rattle.p4_ir.specs.Switch.{Running, Outcome}
use Rattle.lowering.specs.Lower.{Counts, Callees}
use Rattle.lowering.specs.LowerBlock.{Site}
use Rattle.lowering.specs.LowerSites.{lower_sites, InSite, AllSettled}
use Rattle.lowering.specs.Agrees.{Filling, run_list, AllMade, Agree}
use Rattle.lowering.specs.Visit.{Forked, visit_all}
use Rattle.lowering.specs.Ends.{begun, Copies, FitsAll, Sent, Numbered}
use Rattle.lowering.proofs.Sites.{sites_send}
use Rattle.lowering.proofs.Settled.{crosses, settled_one}

abbrev lengths : Program → ℕ
lengths p = length (field_widths p.meta)

pub copy_sends : (at out : Running) (fill : Filling) (T G : List ℕ → List ℕ → Type 0) (W : List ℕ → Type 0) (context : Context) (c : Callees) → ((x : List ℕ) → W x) → out.program ≡ at.program
    → (n : Counts) (sites : List Site) (f : Forked) (env : Env) (packet : Packet) (r : Option Outcome) → (e : Copies fill context W at n.field sites f env packet r)
    → Agree out fill T G context c → 0 < n.field → (k : ℕ) → Numbered k sites → AllSettled sites
    → (rid : ℕ) → out.rid ≡ Some rid → 1 ≤ f.width → f.width ≤ 64 → rid < 2 ^ f.width
    → FitsAll T G (InSite e.site) context f.body (bound f.x (number f.width rid) env) packet → AllMade out fill (lower_sites c n sites).made → slice_get (field_widths out.program.meta) 0 ≡ Some 8
    → Sent (visit_all context f.body (bound f.x (number f.width rid) env) packet) (run_list out (lower_sites c n sites).code (begun e.after))
copy_sends at out fill T G W context c all same n sites f env packet r e g low k nums settled rid is thin wide fits typed made first =
    let s : Site = e.site in
    let typed2 = subst (λ (z : Forked). FitsAll T G (InSite e.site) context z.body (bound z.x (number z.width rid) env) packet) e.block_is typed in
    let thin2 : 1 ≤ s.width = subst (λ (z : Forked). 1 ≤ z.width) e.block_is thin in
    let wide2 : s.width ≤ 64 = subst (λ (z : Forked). z.width ≤ 64) e.block_is wide in
    let fits2 : rid < 2 ^ s.width = subst (λ (z : Forked). rid < 2 ^ z.width) e.block_is fits in
    subst (λ (z : Forked). Sent (visit_all context z.body (bound z.x (number z.width rid) env) packet) (run_list out (lower_sites c n sites).code (begun e.after))) (sym e.block_is)
    (sites_send out fill T G (InSite e.site) context c g k sites e.site nums e.is_in env packet n e.level (begun e.after) rid low e.rises is thin2 wide2 fits2
    (crosses W (InSite e.site) at out e.level e.after (begun e.after) e.site.vars env same (λ x h. all x) (record { long = refl; same = λ i l h. refl }) (settled_one e.site sites settled e.is_in) e.holds)
    e.packet_is refl typed2 made (record { long = e.long.long ∙ ap lengths (sym same); some = e.long.some }) first e.site_is)
