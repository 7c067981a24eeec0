-- Of two folders with a bundle under one name, as before and after a write that stopped. Laws cite it.
use Rattle.std.specs.Prelude.{◌≡◌, ℕ, List, Some}
use Rattle.std.specs.FinMap.{get}
use Rattle.cocoon_io.specs.Files.{Files}
use Rattle.p4_ir.specs.NetTree.{SwitchFiles}
use Rattle.net_bundle.specs.Bundle.{whole_name}
use Rattle.net_bundle.specs.BundleNames.{digest_of}
use Rattle.net_bundle.specs.Network.{InBundle}
use Rattle.net_bundle.specs.declared.file.BundleFile.TheVariants.{Network}

-- the file of the network is in both the same, byte for byte, or in neither
abbrev pub SameNetFile : (out : List ℕ) → (was is : Files) → Type 0
SameNetFile out was is = get is (whole_name out Network) ≡ get was (whole_name out Network)

-- no file of a bundle of these switches has in the two different bytes of one digest
abbrev pub NoTwoAlike : (out : List ℕ) → List SwitchFiles → (was is : Files) → Type 0
NoTwoAlike out switches was is = (name x y : List ℕ) → InBundle out switches name → get was name ≡ Some x → get is name ≡ Some y → digest_of x ≡ digest_of y → x ≡ y
