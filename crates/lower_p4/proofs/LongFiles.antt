-- Why there is no network: the text of the first program is over the limit of a file, or the first switch has too many rows.
use Rattle.std.proofs.Common.{◌≡◌, ℕ, ◌<◌, ◌≤◌, nat_lt, Bool, true, false, IsTrue, if◌then◌else◌, List, [], ◌∷◌, length, slice_get, Some, None, refl, sym, subst, arith}
use Rattle.std.proofs.lemmas.Bool.Decides.{nat_tests}
use Rattle.cocoon_num.specs.Tree.{Design}
use Rattle.p4_emit.specs.Printed.{printed}
use Rattle.p4_ir.specs.FileSizes.{most_file_bytes}
use Rattle.p4_ir.specs.NetTree.{NetData}
use Rattle.p4_ir.specs.P4Tree.{Program}
use Rattle.runtime_defs.specs.Guards.{ListsTrue, switch_table}
use Rattle.runtime_defs.specs.Places.{Places}
use Rattle.lowering.specs.Counting.{role_size}
use Rattle.lowering.specs.Whole.{SwitchRole}
use Rattle.lowering_correct.specs.Counts.{FirstOver}
use Rattle.lowering_correct.specs.Network.{IsNetwork, network}
use Rattle.lowering.specs.Roles.{NetParts, net_parts}
use Rattle.lowering.specs.SwitchProgram.{switch_made, switch_program}
use Rattle.lowering_correct.specs.SwitchRows.{switch_rows}
use Rattle.lower_net.specs.Limits.{long_program, many_rows, most_file_rows}
use Rattle.lower_net.specs.Refused.{FirstLongProgram, FirstManyRows, FirstSwitch, IsRefused}
use Rattle.lower_net.specs.declared.networks.LowerFault.{LowerFault}
use Rattle.lower_net.specs.declared.networks.LowerFault.TheVariants.{Limit, LongProgram, ManyRows, NoMemory}
use Rattle.lower_rows.specs.AllRows.{all_rows}
use Rattle.lower_p4.specs.Lowers.{RunsProgram}
use Rattle.lower_p4.specs.Lowering.{HasNoNetwork, StartsFull, StartsLong, StartsShort}
use Rattle.lower_p4.specs.Grounds.{FirstFits}
use Rattle.lower_p4.proofs.OneNetwork.{one_list}

-- the first switch, where a test is true
found : (b : Bool) (s switch : ℕ) → Some switch ≡ (if b then Some s else None) → (s ≡ switch) × (b ≡ true)
found true s switch h = (cc, refl)
found false s switch h = absurd (cc)

is_network : (d : Design) (places : Places) (w : FirstOver d places None) → IsNetwork d places (network d places w.parts w.switches w.hosts)
is_network d places w = record { parts = w.parts; parts_are = w.parts_are; switches = w.switches; hosts = w.hosts; numbers = w.numbers; net_is = refl }

-- ---- programs

-- what the law on the texts of programs says
abbrev pub ProgramsLong : Type 0
ProgramsLong = (r : SwitchRole) (s : ℕ) → role_size r ≤ length (printed (switch_program r s))

starts_long : ProgramsLong → (d : Design) (places : Places) (parts : NetParts) (switches hosts : List ℕ) (switch : ℕ) → Some switch ≡ long_program parts.role switches
    → StartsLong switch (network d places parts switches hosts).switches
starts_long law d places parts [] hosts switch h = absurd (cc)
starts_long law d places parts (s ∷ more) hosts switch h =
    let is = found (nat_lt most_file_bytes (role_size parts.role)) s switch h in
    let test : nat_lt most_file_bytes (role_size parts.role) ≡ true = is.1 in
    let large : most_file_bytes < role_size parts.role = grind (arith, nat_tests) in
    let long : role_size parts.role ≤ length (printed (switch_program parts.role s)) = law parts.role s in
    (is.0, omega arith)

pub long_programs : ProgramsLong → (d : Design) (places : Places) (switch : ℕ) → FirstLongProgram d places (Some switch)
    → (net : NetData) × IsNetwork d places net × FirstOver d places None × StartsLong switch net.switches
long_programs law d places switch h =
    let w = h.within in (network d places w.parts w.switches w.hosts, is_network d places w, w, starts_long law d places w.parts w.switches w.hosts switch h.first)

-- what is said of programs whose code is too large
abbrev pub ProgramsTold : Type 0
ProgramsTold = (d : Design) (places : Places) (switch : ℕ) → FirstLongProgram d places (Some switch)
    → (net : NetData) × IsNetwork d places net × FirstOver d places None × StartsLong switch net.switches

-- ---- texts

-- a text over the limit
over : (n : ℕ) → nat_lt most_file_bytes n ≡ true → most_file_bytes < n
over n h = grind (arith, nat_tests, h)

within : (n : ℕ) → nat_lt most_file_bytes n ≡ false → n ≤ most_file_bytes
within n h = grind (arith, nat_tests, h)

many : (n : ℕ) → nat_lt most_file_rows n ≡ true → most_file_rows < n
many n h = grind (arith, nat_tests, h)

abbrev text_over : SwitchRole → (switch : ℕ) → Bool
text_over r s = nat_lt most_file_bytes (length (printed (switch_program r s)))

starts_text : (d : Design) (places : Places) (parts : NetParts) (switches hosts : List ℕ) (switch : ℕ) → Some switch ≡ slice_get switches 0
    → text_over parts.role switch ≡ true → StartsLong switch (network d places parts switches hosts).switches
starts_text d places parts [] hosts switch h long = absurd (cc)
starts_text d places parts (s ∷ more) hosts switch h long =
    let is : s ≡ switch = cc in (is, over (length (printed (switch_program parts.role s))) (subst (λ n. text_over parts.role n ≡ true) (sym is) long))

pub texts_are_long : (d : Design) (places : Places) (switch : ℕ) → FirstSwitch d places (Some switch)
    → (net : NetData) × (p : Program) × IsNetwork d places net × FirstOver d places None × RunsProgram d switch p
    × (IsTrue (nat_lt most_file_bytes (length (printed p))) → StartsLong switch net.switches)
unfolding RunsProgram
texts_are_long d places switch h =
    let w = h.within in (
      network d places w.parts w.switches w.hosts,
      switch_program w.parts.role switch,
      is_network d places w,
      w,
      (w.parts, w.parts_are, refl),
      λ long. starts_text d places w.parts w.switches w.hosts switch h.first long,
    )

-- the text of the program of the first of some switches fits
abbrev FirstShort : SwitchRole → List ℕ → Type 0
FirstShort r switches = (s : ℕ) → slice_get switches 0 ≡ Some s → text_over r s ≡ false

first_short : (d : Design) (places : Places) → FirstFits d places → (parts : NetParts) → net_parts d ≡ Some parts → (switches : List ℕ)
    → ListsTrue 16 (switch_table d places) switches → FirstShort parts.role switches
unfolding RunsProgram
first_short d places f parts are switches listed s k =
    let same : switches ≡ f.within.switches = one_list 16 (switch_table d places) switches f.within.switches listed f.within.numbers.switches_are in
    f.fits s (subst (λ xs. slice_get xs 0 ≡ Some s) same k) (switch_program parts.role s) (parts, are, refl)

starts_short : (d : Design) (places : Places) (parts : NetParts) (switches hosts : List ℕ) → FirstShort parts.role switches → StartsShort (network d places parts switches hosts).switches
starts_short d places parts [] hosts f = tt
starts_short d places parts (s ∷ more) hosts f = within (length (printed (switch_program parts.role s))) (f s refl)

-- the text of the first program of a network fits
pub texts_fit : (d : Design) (places : Places) (net : NetData) → FirstFits d places → IsNetwork d places net → StartsShort net.switches
texts_fit d places net f n =
    subst (λ (m : NetData). StartsShort m.switches) (sym n.net_is)
    (starts_short d places n.parts n.switches n.hosts (first_short d places f n.parts n.parts_are n.switches n.numbers.switches_are))

-- ---- rows

starts_full : (d : Design) (places : Places) (parts : NetParts) (switches hosts : List ℕ) (switch : ℕ) → Some switch ≡ many_rows d places parts.role switches
    → FirstShort parts.role switches → StartsFull switch (network d places parts switches hosts).switches
starts_full d places parts [] hosts switch h f = absurd (cc)
starts_full d places parts (s ∷ more) hosts switch h f =
    let rows = all_rows (switch_rows d places (switch_made parts.role s)) in
    let is = found (nat_lt most_file_rows (length rows)) s switch h in
    (is.0, within (length (printed (switch_program parts.role s))) (f s refl), many (length rows) is.1)

full_files : (d : Design) (places : Places) (switch : ℕ) → FirstFits d places → FirstManyRows d places (Some switch)
    → (net : NetData) × IsNetwork d places net × FirstOver d places None × StartsFull switch net.switches
full_files d places switch f h =
    let w = h.within in (
      network d places w.parts w.switches w.hosts,
      is_network d places w,
      w,
      starts_full d places w.parts w.switches w.hosts switch h.first (first_short d places f w.parts w.parts_are w.switches w.numbers.switches_are),
    )

-- ---- why there is no network

pub no_network : ProgramsTold → (d : Design) (places : Places) → FirstFits d places → (fault : LowerFault) → IsRefused d places fault → HasNoNetwork d places fault
no_network law d places f (Limit limit count) h = h
no_network law d places f (LongProgram switch) h = law d places switch h
no_network law d places f (ManyRows switch) h = full_files d places switch f h.1
no_network law d places f NoMemory h = tt
