-- A host that the network has not is attached nowhere.
use Rattle.std.proofs.Common.{◌≡◌, ◌||◌, Bool, true, false, ℕ, List, [], ◌∷◌, Option, Some, None, refl, ap, ◌∙◌, arith, if◌then◌else◌}
use Rattle.std.proofs.lemmas.Bool.Decides.{nat_tests}
use Rattle.std.specs.Prelude.{◌==◌}
use Rattle.cocoon_num.specs.Lists.{has_number}
use Rattle.net_run.specs.RunCounts.{runs, runs_attached, runs_from}
use Rattle.p4_ir.specs.NetRuns.{NetGo, attach_at}
use Rattle.p4_ir.specs.NetTree.{HostPort, NetData}
use Rattle.p4_ir.specs.Wiring.{host_numbers}

turned : (m n : ℕ) → (m == n) ≡ (n == m)
turned m n = grind (arith, nat_tests)

neither : (a b : Bool) → (a || b) ≡ false → (a ≡ false) × (b ≡ false)
neither true b h = absurd cc
neither false b h = (refl, h)

later : (b : Bool) (x o : Option (ℕ × ℕ)) → b ≡ false → o ≡ None → (if b then x else o) ≡ None
later true x o e h = absurd cc
later false x o e h = h

pub nowhere : (hs : List HostPort) (a : ℕ) → has_number a (host_numbers hs) ≡ false → attach_at hs a ≡ None
nowhere [] a h = refl
nowhere (k ∷ hs) a h =
    let parts = neither (a == k.host) (has_number a (host_numbers hs)) h in
    later (k.host == a) k.attach (attach_at hs a) (turned k.host a ∙ parts.0) (nowhere hs a parts.1)

-- so its packet makes no runs, and does not arrive
pub runless : (net : NetData) (a : ℕ) (bytes : List ℕ) (n : ℕ) → has_number a (host_numbers net.hosts) ≡ false → runs net a bytes n ≡ 0
runless net a bytes n h = ap (λ at. runs_attached (runs_from net n) at bytes) (nowhere net.hosts a h)

none_some : {A : Type 0} (o : Option A) (x : A) → o ≡ None → o ≡ Some x → ⊥
none_some None x e f = let g : ◌≡◌ {A = Option _} None (Some x) = f in cc
none_some (Some y) x e f = let g : ◌≡◌ {A = Option _} (Some y) None = e in cc

pub lost : (net : NetData) (a : ℕ) (bytes choices : List ℕ) (n b : ℕ) (sent : List ℕ) → has_number a (host_numbers net.hosts) ≡ false → NetGo net a bytes choices n b sent → ⊥
lost net a bytes choices n b sent h g = none_some (attach_at net.hosts a) (g.0, g.1) (nowhere net.hosts a h) g.2
