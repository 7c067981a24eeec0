-- Files that are made one after another, each tested in its turn.
use Rattle.std.proofs.Common.{◌≡◌, ℕ, List, [], ◌∷◌, ◌++◌, Option, Result, Ok, Err, IfErr, inl, inr, subst, sym}
use Rattle.std.specs.Result.{IsErrAnd}
use Rattle.p4_ir.specs.NetTree.{NetData}
use Rattle.net_bundle.specs.declared.fault.BundleFault.{BundleFault}
use Rattle.net_bundle.specs.declared.fault.BundleFault.TheVariants.{Folder, Limit, NoMemory}
use Rattle.net_bundle.specs.declared.file.BundleFile.{BundleFile}
use Rattle.net_bundle.specs.declared.file.BundleFile.TheVariants.{Network}
use Rattle.net_bundle.specs.Bundle.{MadeFile, all_switch_files, certificate_files, last_files, net_text, bundle}
use Rattle.net_bundle.specs.Writing.{AllFit, FirstOver, NotMade}

-- ---- files, and more of them

pub both_fit : (fs gs : List MadeFile) → AllFit fs → AllFit gs → AllFit (fs ++ gs)
both_fit [] gs a b = b
both_fit (f ∷ fs) gs a b = (a.0, both_fit fs gs a.1 b)

over_before : (fs gs : List MadeFile) (file : BundleFile) → FirstOver fs file → FirstOver (fs ++ gs) file
over_before [] gs file h = absurd h
over_before (f ∷ fs) gs file (inl h) = inl h
over_before (f ∷ fs) gs file (inr h) = inr (h.0, over_before fs gs file h.1)

over_after : (fs gs : List MadeFile) (file : BundleFile) → AllFit fs → FirstOver gs file → FirstOver (fs ++ gs) file
over_after [] gs file a h = h
over_after (f ∷ fs) gs file a h = inr (a.0, over_after fs gs file a.1 h)

pub stops_before : (fs gs : List MadeFile) (fault : BundleFault) → NotMade fs fault → NotMade (fs ++ gs) fault
stops_before fs gs (Limit file) h = over_before fs gs file h
stops_before fs gs (Folder file fault) h = h
stops_before fs gs NoMemory h = tt

pub stops_after : (fs gs : List MadeFile) (fault : BundleFault) → AllFit fs → NotMade gs fault → NotMade (fs ++ gs) fault
stops_after fs gs (Limit file) a h = over_after fs gs file a h
stops_after fs gs (Folder file fault) a h = h
stops_after fs gs NoMemory a h = tt

-- ---- the parts of a bundle

abbrev network_file : List ℕ → MadeFile
network_file text = record { file = Network; bytes = text }

pub certificates_stop : (design : List ℕ) (net : NetData) (certificates : Option (List ℕ)) (fault : BundleFault) → NotMade (certificate_files certificates) fault
    → NotMade (last_files design net certificates) fault
certificates_stop design net certificates fault h = stops_before _ _ fault h

pub network_stops : (design : List ℕ) (net : NetData) (certificates : Option (List ℕ)) (text : List ℕ) (fault : BundleFault) → text ≡ net_text design net
    → AllFit (certificate_files certificates) → NotMade (network_file text ∷ []) fault → NotMade (last_files design net certificates) fault
network_stops design net certificates text fault t a h = stops_after _ _ fault a (subst (λ bytes. NotMade (network_file bytes ∷ []) fault) t h)

pub last_fit : (design : List ℕ) (net : NetData) (certificates : Option (List ℕ)) (text : List ℕ) → text ≡ net_text design net
    → AllFit (certificate_files certificates) → AllFit (network_file text ∷ []) → AllFit (last_files design net certificates)
last_fit design net certificates text t a b = both_fit _ _ a (subst (λ bytes. AllFit (network_file bytes ∷ [])) t b)

pub switches_stop : (design : List ℕ) (net : NetData) (certificates : Option (List ℕ)) (fault : BundleFault) → NotMade (all_switch_files net.switches) fault
    → NotMade (bundle design net certificates) fault
switches_stop design net certificates fault h = stops_before _ _ fault h

pub last_stop : (design : List ℕ) (net : NetData) (certificates : Option (List ℕ)) (fault : BundleFault) → AllFit (all_switch_files net.switches)
    → NotMade (last_files design net certificates) fault → NotMade (bundle design net certificates) fault
last_stop design net certificates fault a h = stops_after _ _ fault a h

-- what a call passes on
pub passed : {A : Type 0} (fs : List MadeFile) (r : Result A BundleFault) (fault : BundleFault) → IsErrAnd r (λ e. e ≡ fault) → NotMade fs fault → IfErr r (NotMade fs)
passed fs (Ok x) fault is h = tt
passed fs (Err e) fault is h = subst (NotMade fs) (sym is) h
