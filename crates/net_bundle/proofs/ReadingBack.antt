-- The bundle of a network, put into a folder, is that network, and no name outside of the bundle is touched.
use Rattle.std.proofs.Common.{◌≡◌, ℕ, suc, ◌^◌, ◌<◌, Bool, true, List, [], ◌∷◌, ◌++◌, map, nat_lt, Option, Some, None, ◌⊎◌, inl, inr, IsTrue, refl, ap, sym, subst, arith}
use Rattle.std.specs.FinMap.{get}
use Rattle.std.proofs.lemmas.Bool.{and_from, and_parts, ltb-true}
use Rattle.cocoon_num.specs.Lists.{each, ascend}
use Rattle.cocoon_io.specs.Files.{Files}
use Rattle.p4_ir.specs.Loading.{rows_file_fits, rows_load}
use Rattle.p4_ir.specs.Wiring.{wiring_fits}
use Rattle.p4_ir.specs.NetFits.{wiring_of, switch_numbers, switch_fits, net_fits}
use Rattle.p4_ir.specs.NetTree.{SwitchFiles, NetData}
use Rattle.p4_emit.specs.Printed.{printed}
use Rattle.net_bundle.specs.BundleNames.{program_name, rows_name, net_name, file_name, digest_of}
use Rattle.net_bundle.specs.Bundle.{certificates_name, MadeFile, rows_text, switch_files, all_switch_files, certificate_files, kept_digest, net_file, net_text, bundle}
use Rattle.net_bundle.specs.declared.file.BundleFile.TheVariants as file
use Rattle.net_bundle.specs.Network.{SwitchesRead, Network, InBundle}
use Rattle.net_bundle.specs.Readable.{AllReadable, Readable}
use Rattle.net_bundle.specs.Writing.{with_files, Holds}
use Rattle.net_bundle.proofs.ReadingDigests.{digest_fits}
use Rattle.net_bundle.proofs.ReadingLists.{first_below, others_ascend}
use Rattle.net_bundle.proofs.ReadingNames.{HasFile, Agree, get_written, get_unwritten, after_out, same_program, same_rows, program_or_rows, program_or_net, rows_or_net, certificates_or_program, certificates_or_rows, certificates_or_net}

-- ---- the switches of a network

-- this is one of the switches
abbrev Among : SwitchFiles → List SwitchFiles → Type 0
Among s [] = ⊥
Among s (r ∷ rs) = (r ≡ s) ⊎ Among s rs

abbrev is_number : ℕ → Bool
is_number n = nat_lt n (2 ^ 16)

-- what holds of the numbers of all holds of its number
number_among : (f : ℕ → Bool) (s : SwitchFiles) (rs : List SwitchFiles) → Among s rs → each f (switch_numbers rs) ≡ true → f s.number ≡ true
number_among f s [] a h = absurd a
number_among f s (r ∷ rs) (inl e) h = subst (λ (x : SwitchFiles). f x.number ≡ true) e (and_parts (f r.number) _ h).0
number_among f s (r ∷ rs) (inr a) h = number_among f s rs a (and_parts (f r.number) _ h).1

-- no other of the switches has its number
abbrev Apart : SwitchFiles → List SwitchFiles → Type 0
Apart s [] = Unit {0}
Apart s (r ∷ rs) = (r.number < 2 ^ 16) × (r.number ≡ s.number → r ≡ s) × Apart s rs

above_apart : (s : SwitchFiles) (rs : List SwitchFiles) → each (nat_lt s.number) (switch_numbers rs) ≡ true → each is_number (switch_numbers rs) ≡ true → Apart s rs
above_apart s [] h g = tt
above_apart s (r ∷ rs) h g =
    let above = and_parts (nat_lt s.number r.number) _ h in
    let small = and_parts (is_number r.number) _ g in
    let further : s.number < r.number = ltb-true _ _ above.0 in
    (ltb-true _ _ small.0, (λ e. let no : ⊥ = omega (arith, e, further) in absurd no), above_apart s rs above.1 small.1)

switches_apart : (rs : List SwitchFiles) → ascend (switch_numbers rs) ≡ true → each is_number (switch_numbers rs) ≡ true → (s : SwitchFiles) → Among s rs → Apart s rs
switches_apart [] h g s a = absurd a
switches_apart (r ∷ rs) h g s (inl e) =
    let small = and_parts (is_number r.number) _ g in
    subst (λ (x : SwitchFiles). Apart x (r ∷ rs)) e (ltb-true _ _ small.0, (λ same. refl), above_apart r rs (first_below r.number (switch_numbers rs) h) small.1)
switches_apart (r ∷ rs) h g s (inr a) =
    let small = and_parts (is_number r.number) _ g in
    let further : r.number < s.number = ltb-true _ _ (number_among (nat_lt r.number) s rs a (first_below r.number (switch_numbers rs) h)) in
    (ltb-true _ _ small.0, (λ e. let no : ⊥ = omega (arith, e, further) in absurd no), switches_apart rs (others_ascend r.number (switch_numbers rs) h) small.1 s a)

-- ---- what is under the names

-- the certificates, and the file of the network
abbrev last_files : Option (List ℕ) → List ℕ → List MadeFile
last_files certificates net = certificate_files certificates ++ record { file = file.Network; bytes = net } ∷ []

-- a name that is of neither
last_agree : (out : List ℕ) (certificates : Option (List ℕ)) (net name bytes : List ℕ) → (certificates_name ≡ name → ⊥) → (name ≡ net_name → ⊥) → Agree out (last_files certificates net) (file_name out name) bytes
last_agree out None net name bytes c n = (λ e. absurd (n (sym (after_out out _ _ e))), tt)
last_agree out (Some held) net name bytes c n = (λ e. absurd (c (after_out out _ _ e)), (λ e. absurd (n (sym (after_out out _ _ e))), tt))

last_net : (out : List ℕ) (certificates : Option (List ℕ)) (net : List ℕ) → Agree out (last_files certificates net) (file_name out net_name) net
last_net out None net = (λ e. refl, tt)
last_net out (Some held) net = (λ e. absurd (certificates_or_net (after_out out _ _ e)), (λ e. refl, tt))

-- files of one name hold the same bytes: no two switches have one number, and names of two kinds differ
programs_agree : (out : List ℕ) (certificates : Option (List ℕ)) (net : List ℕ) (s : SwitchFiles) → s.number < 2 ^ 16 → (rs : List SwitchFiles) → Apart s rs
    → Agree out (all_switch_files rs ++ last_files certificates net) (file_name out (program_name s.number)) (printed s.program)
programs_agree out certificates net s small [] a = last_agree out certificates net _ _ (certificates_or_program s.number) (program_or_net s.number)
programs_agree out certificates net s small (r ∷ rs) a = (
  λ e. ap (λ (x : SwitchFiles). printed x.program) (a.1 (same_program r.number s.number a.0 small (after_out out _ _ e))),
  (λ e. absurd (program_or_rows s.number r.number (sym (after_out out _ _ e))), programs_agree out certificates net s small rs a.2),
)

rows_agree : (out : List ℕ) (certificates : Option (List ℕ)) (net : List ℕ) (s : SwitchFiles) → s.number < 2 ^ 16 → (rs : List SwitchFiles) → Apart s rs
    → Agree out (all_switch_files rs ++ last_files certificates net) (file_name out (rows_name s.number)) (rows_text s.rows)
rows_agree out certificates net s small [] a = last_agree out certificates net _ _ (certificates_or_rows s.number) (rows_or_net s.number)
rows_agree out certificates net s small (r ∷ rs) a = (
  λ e. absurd (program_or_rows r.number s.number (after_out out _ _ e)),
  (λ e. ap (λ (x : SwitchFiles). rows_text x.rows) (a.1 (same_rows r.number s.number a.0 small (after_out out _ _ e))), rows_agree out certificates net s small rs a.2),
)

nets_agree : (out : List ℕ) (certificates : Option (List ℕ)) (net : List ℕ) (rs : List SwitchFiles) → Agree out (all_switch_files rs ++ last_files certificates net) (file_name out net_name) net
nets_agree out certificates net [] = last_net out certificates net
nets_agree out certificates net (r ∷ rs) =
    (λ e. absurd (program_or_net r.number (after_out out _ _ e)), (λ e. absurd (rows_or_net r.number (after_out out _ _ e)), nets_agree out certificates net rs))

-- the names of the switches, and that of the network, are among them
program_there : (out : List ℕ) (last : List MadeFile) (s : SwitchFiles) (rs : List SwitchFiles) → Among s rs → HasFile out (all_switch_files rs ++ last) (file_name out (program_name s.number))
program_there out last s [] a = absurd a
program_there out last s (r ∷ rs) (inl e) = inl (ap (λ (x : SwitchFiles). file_name out (program_name x.number)) e)
program_there out last s (r ∷ rs) (inr a) = inr (inr (program_there out last s rs a))

rows_there : (out : List ℕ) (last : List MadeFile) (s : SwitchFiles) (rs : List SwitchFiles) → Among s rs → HasFile out (all_switch_files rs ++ last) (file_name out (rows_name s.number))
rows_there out last s [] a = absurd a
rows_there out last s (r ∷ rs) (inl e) = inr (inl (ap (λ (x : SwitchFiles). file_name out (rows_name x.number)) e))
rows_there out last s (r ∷ rs) (inr a) = inr (inr (rows_there out last s rs a))

net_last : (out : List ℕ) (certificates : Option (List ℕ)) (net : List ℕ) → HasFile out (last_files certificates net) (file_name out net_name)
net_last out None net = inl refl
net_last out (Some held) net = inr (inl refl)

net_there : (out : List ℕ) (certificates : Option (List ℕ)) (net : List ℕ) (rs : List SwitchFiles) → HasFile out (all_switch_files rs ++ last_files certificates net) (file_name out net_name)
net_there out certificates net [] = net_last out certificates net
net_there out certificates net (r ∷ rs) = inr (inr (net_there out certificates net rs))

-- ---- the network

-- a switch has its program and its rows under its names
record Stands (is : Files) (out : List ℕ) (s : SwitchFiles) : Type 0 where
  program : get is (file_name out (program_name s.number)) ≡ Some (printed s.program)
  rows : get is (file_name out (rows_name s.number)) ≡ Some (rows_text s.rows)

-- each switch of a list has its files
switches_read : (is : Files) (out : List ℕ) (rs : List SwitchFiles) → AllReadable rs → each switch_fits rs ≡ true → ((s : SwitchFiles) → Among s rs → Stands is out s)
    → SwitchesRead is out (map kept_digest (all_switch_files rs)) (switch_numbers rs) rs
switches_read is out [] reads fits under = refl
switches_read is out (s ∷ rs) reads fits under =
    let parts = and_parts (switch_fits s) (each switch_fits rs) fits in
    let loading = and_parts _ (rows_load s.program s.rows) parts.0 in
    let numbers = and_parts _ (rows_file_fits s.rows) loading.0 in
    let stands = under s (inl refl) in (
      map kept_digest (switch_files s),
      map kept_digest (all_switch_files rs),
      refl,
      refl,
      record {
        program_text = printed s.program;
        rows_text = rows_text s.rows;
        program_is = stands.program;
        rows_are = stands.rows;
        digests = refl;
        program_reads = reads.0;
        rows_read = reads.1;
        rows_fit = numbers.1;
        loads = loading.1;
      },
      switches_read is out rs reads.2 parts.1 (λ r a. under r (inr a)),
    )

-- each switch of a network has its files, where its bundle was put in
switches_stand : (was is : Files) (out : List ℕ) (certificates : Option (List ℕ)) (net : List ℕ) (rs : List SwitchFiles) → ascend (switch_numbers rs) ≡ true → each is_number (switch_numbers rs) ≡ true
    → Some is ≡ with_files out (all_switch_files rs ++ last_files certificates net) (Some was) → (s : SwitchFiles) → Among s rs → Stands is out s
switches_stand was is out certificates net rs ascending numbers e s a =
    let small : s.number < 2 ^ 16 = ltb-true _ _ (number_among is_number s rs a numbers) in
    let apart = switches_apart rs ascending numbers s a in
    record {
      program = get_written out _ was is _ _ e (program_there out (last_files certificates net) s rs a) (programs_agree out certificates net s small rs apart);
      rows = get_written out _ was is _ _ e (rows_there out (last_files certificates net) s rs a) (rows_agree out certificates net s small rs apart);
    }

-- the numbers of the switches are in their range, and ascend
numbers_fit : (net : NetData) → wiring_fits (wiring_of net) ≡ true → (each is_number (switch_numbers net.switches) ≡ true) × (ascend (switch_numbers net.switches) ≡ true)
numbers_fit net h =
    let links = and_parts _ _ h in
    let hosts = and_parts _ _ links.0 in
    let attached = and_parts _ _ hosts.0 in
    let wires = and_parts _ _ attached.0 in
    let ascending = and_parts _ (ascend (switch_numbers net.switches)) wires.0 in
    ((and_parts _ (each is_number (switch_numbers net.switches)) ascending.0).1, ascending.1)

-- the bundle that was put in is the network
bundle_network : (was is : Files) (out design : List ℕ) (net : NetData) (certificates : Option (List ℕ))
    → IsTrue (net_fits net) → Readable design net → Some is ≡ with_files out (bundle design net certificates) (Some was) → Network is out net
bundle_network was is out design net certificates fits readable e =
    let parts = and_parts (wiring_fits (wiring_of net)) (each switch_fits net.switches) fits in
    let numbers = numbers_fit net parts.0 in
    let text = net_text design net in
    record {
      file = net_file design net;
      text = text;
      text_is = get_written out _ was is _ text e (net_there out certificates text net.switches) (nets_agree out certificates text net.switches);
      json = readable.network;
      fits = and_from _ _ (digest_fits design) parts.0;
      ports = refl;
      links = refl;
      hosts = refl;
      switches = switches_read is out net.switches readable.switches parts.1 (switches_stand was is out certificates text net.switches numbers.1 numbers.0 e);
    }

-- its file has the digest of the design
network_digest : (was is : Files) (out design : List ℕ) (net : NetData) (certificates : Option (List ℕ)) (fits : IsTrue (net_fits net)) (readable : Readable design net) (e : Some is ≡ with_files out (bundle design net certificates) (Some was))
    → (bundle_network was is out design net certificates fits readable e).file.design ≡ digest_of design
unfolding bundle_network
network_digest was is out design net certificates fits readable e = refl

-- ---- other names

last_elsewhere : (out : List ℕ) (certificates : Option (List ℕ)) (net name : List ℕ) → ¬ InBundle out [] name → (name ≡ file_name out certificates_name → certificates ≡ None) → ¬ HasFile out (last_files certificates net) name
last_elsewhere out None net name h c (inl e) = h (inl (sym e))
last_elsewhere out None net name h c (inr there) = there
last_elsewhere out (Some held) net name h c (inl e) = let no : ◌≡◌ {A = Option (List ℕ)} (Some held) None = c (sym e) in cc
last_elsewhere out (Some held) net name h c (inr (inl e)) = h (inl (sym e))
last_elsewhere out (Some held) net name h c (inr (inr there)) = there

-- a name of a part of the switches is one of all
in_more : (out name : List ℕ) (s : SwitchFiles) (rs : List SwitchFiles) → InBundle out rs name → InBundle out (s ∷ rs) name
in_more out name s rs (inl e) = inl e
in_more out name s rs (inr (r, c, e)) = inr (r, (suc c.0, omega (arith, c.1), c.2), e)

elsewhere : (out : List ℕ) (certificates : Option (List ℕ)) (net name : List ℕ) (rs : List SwitchFiles) → ¬ InBundle out rs name → (name ≡ file_name out certificates_name → certificates ≡ None)
    → ¬ HasFile out (all_switch_files rs ++ last_files certificates net) name
elsewhere out certificates net name [] h c k = last_elsewhere out certificates net name h c k
elsewhere out certificates net name (s ∷ rs) h c (inl e) = h (inr (s, (0, omega arith, refl), inl (sym e)))
elsewhere out certificates net name (s ∷ rs) h c (inr (inl e)) = h (inr (s, (0, omega arith, refl), inr (sym e)))
elsewhere out certificates net name (s ∷ rs) h c (inr (inr k)) = elsewhere out certificates net name rs (λ i. h (in_more out name s rs i)) c k

-- the bundle that was put in is the network of the design, and a name outside of it has what it had
pub bundle_holds : (was is : Files) (out design : List ℕ) (net : NetData) (certificates : Option (List ℕ))
    → IsTrue (net_fits net) → Readable design net → Some is ≡ with_files out (bundle design net certificates) (Some was) → Holds was is out design net certificates
bundle_holds was is out design net certificates fits readable e = record {
  network = bundle_network was is out design net certificates fits readable e;
  digest = network_digest was is out design net certificates fits readable e;
  others_same = λ name h c. get_unwritten out _ was is name e (elsewhere out certificates (net_text design net) name net.switches h c);
}
