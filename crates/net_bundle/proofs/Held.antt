-- The content of a folder into which a bundle was put holds its network.
use Rattle.std.proofs.Common.{◌≡◌, ℕ, List, [], ◌∷◌, Option, Some, None, IsTrue}
use Rattle.std.specs.FinMap.{insert}
use Rattle.cocoon_io.specs.Files.{Files}
use Rattle.p4_ir.specs.NetFits.{net_fits}
use Rattle.p4_ir.specs.NetTree.{NetData}
use Rattle.net_bundle.specs.Bundle.{MadeFile, whole_name, bundle}
use Rattle.net_bundle.specs.Readable.{Readable}
use Rattle.net_bundle.specs.Writing.{with_files, ContentHolds}
use Rattle.net_bundle.proofs.ReadingBack.{bundle_holds}

-- known content stays known
still_known : (out : List ℕ) (fs : List MadeFile) (was : Files) → None ≡ with_files out fs (Some was) → ⊥
still_known out [] was e = cc
still_known out (f ∷ fs) was e = still_known out fs (insert was (whole_name out f.file) f.bytes) e

pub held : (was is : Option Files) (out design : List ℕ) (net : NetData) (certificates : Option (List ℕ)) → IsTrue (net_fits net) → Readable design net
    → is ≡ with_files out (bundle design net certificates) was → ContentHolds was is out design net certificates
held None is out design net certificates fits readable e = tt
held (Some was) None out design net certificates fits readable e = absurd (still_known out (bundle design net certificates) was e)
held (Some was) (Some is) out design net certificates fits readable e = bundle_holds was is out design net certificates fits readable e
