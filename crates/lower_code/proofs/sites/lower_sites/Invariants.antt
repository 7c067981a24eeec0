use Rattle.std.proofs.Common.{◌≡◌, drop, map}
use Rattle.lowering.specs.LowerSites.{lower_sites}
use Rattle.lower_code.specs.Blocks.{site_of, with_sites}
use Rattle.lower_code.specs.Growth.{counts_of, so_far}
use Rattle.lower_code.specs.Scopes.{callees_in, design_in}
use Rattle.lower_code.proofs.sites.lower_sites.Given as goal

abbrev pub invariant-loop-site : goal.invariant-loop-site
invariant-loop-site l =
    with_sites (so_far (design_in l.scope) l.fn.to l.fn.code.items) (lower_sites (callees_in l.scope) (counts_of l.fn.to.counts) (map site_of l.sites))
    ≡ with_sites (so_far (design_in l.scope) l.to l.code.items) (lower_sites (callees_in l.scope) (counts_of l.to.counts) (map site_of (drop l.site-index l.sites)))
