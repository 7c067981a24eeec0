-- Wires compared, and which refusals of an `update` are about no call of the folder.
use Rattle.std.proofs.Common.{◌≡◌, ◌∙◌, ℕ, List, Option, Result, Ok, Err, IfErr, OnOk, refl, sym, subst, inl, inr}
use Rattle.cocoon_io.specs.Files.{Files}
use Rattle.cocoon_num.specs.Tree.{Design}
use Rattle.cert_text.specs.declared.fault.CertFault.{CertFault}
use Rattle.cert_text.specs.declared.fault.CertFault.TheVariants as fault
use Rattle.net_wiring.specs.Differences.{DiffersAt, FirstOfWires, SameWires}
use Rattle.net_wiring.specs.declared.wiring.Wiring.{Wiring}
use Rattle.net_wiring.specs.declared.wiring.Wiring.TheVariants.{Ports, Switches, Hosts, Links, Programs}
use Rattle.p4_ir.specs.NetFits.{switch_numbers}
use Rattle.p4_ir.specs.NetTree.{NetData}
use Rattle.runtime_defs.specs.Places.{Places}
use Rattle.command_reports.specs.DesignTexts.{NotMatched}
use Rattle.command_reports.specs.Report.{fault_of}
use Rattle.command_reports.specs.declared.files.CommandFile.{CommandFile}
use Rattle.command_reports.specs.declared.refusal.BundleCause.TheVariants as cause
use Rattle.command_reports.specs.declared.refusal.Refusal.{Refusal}
use Rattle.command_reports.specs.declared.refusal.Refusal.TheVariants as refusal
use Rattle.command_answers.specs.Compiling.{LongFile, LowersDesign, NotLowered}
use Rattle.command_answers.specs.Deciding.{NotMet}
use Rattle.command_answers.specs.FolderCalls.{IsQuiet, IsReading}
use Rattle.command_answers.specs.Updating.{HasOtherWires, NotAccepts, NotRewired, NotStanding, certificates_refusal, unaccepted, unformed, unread, unshown, unwired}
use Rattle.command_answers.proofs.Calling.{unread_reading}

-- ---- answers

pub on_ok : {A : Type 0} {P Q : Type 0} (x : Result A Refusal) → (P → Q) → OnOk x P → OnOk x Q
on_ok (Ok a) f h = f h
on_ok (Err e) f h = tt

pub on_err : {A : Type 0} {P Q : Refusal → Type 0} (x : Result A Refusal) → ((r : Refusal) → P r → Q r) → IfErr x P → IfErr x Q
on_err (Ok a) f h = tt
on_err (Err e) f h = f e h

-- ---- wires

pub same_after : (a b c : NetData) → SameWires a b → SameWires b c → SameWires a c
same_after a b c h k = (((h.0.0.0 ∙ k.0.0.0, h.0.0.1 ∙ k.0.0.1), h.0.1 ∙ k.0.1), h.1 ∙ k.1)

-- from a network with the same wires
first_after : (old a b : NetData) (w : Wiring) → SameWires a b → FirstOfWires old a w → FirstOfWires old b w
first_after old a b Ports s h = λ e. h (e ∙ sym s.0.0.0)
first_after old a b (Switches at) s h = (h.0 ∙ s.0.0.0, subst (λ ns. DiffersAt (switch_numbers old.switches) ns at) s.0.0.1 h.1)
first_after old a b (Hosts at) s h = ((h.0.0 ∙ s.0.0.0, h.0.1 ∙ s.0.0.1), subst (λ hs. DiffersAt old.hosts hs at) s.0.1 h.1)
first_after old a b (Links at) s h = (((h.0.0.0 ∙ s.0.0.0, h.0.0.1 ∙ s.0.0.1), h.0.1 ∙ s.0.1), subst (λ ls. DiffersAt old.links ls at) s.1 h.1)
first_after old a b (Programs at) s h = h

pub differ_after : (old a b : NetData) (r : Refusal) → SameWires a b → HasOtherWires old a r → HasOtherWires old b r
differ_after old a b (refusal.Unread file (cause.Wiring w)) s h = (h.0, first_after old a b w s h.1)
differ_after old a b refusal.NoMemory s h = tt
differ_after old a b r s h = absurd h

-- ---- no network with these wires

-- of one that is made
pub made_differs : (old : NetData) (x y : List ℕ) (d : Design) (tables : Places) (net : NetData) (r : Refusal) → LowersDesign x y d net → HasOtherWires old net r → NotRewired old x y d tables r
made_differs old x y d tables net (refusal.Unread file (cause.Wiring w)) (l, same) h =
    (h.0, record { tree = l.tree; tables = l.tables; binds = l.binds; net = net; lowers = l.lowers; within = l.within; differs = h.1 })
made_differs old x y d tables net refusal.NoMemory l h = tt
made_differs old x y d tables net r l h = absurd h

-- of one with a file that is too long
pub long_differs : (old : NetData) (x y : List ℕ) (d : Design) (tables : Places) (file : CommandFile) (most : ℕ) (long : LongFile x y d tables file most) (r : Refusal) → HasOtherWires old long.net r → NotRewired old x y d tables r
long_differs old x y d tables file most long (refusal.Unread at (cause.Wiring w)) h =
    (h.0, record { tree = d; tables = tables; binds = long.binds; net = long.net; lowers = long.lowers; within = long.within; differs = h.1 })
long_differs old x y d tables file most long refusal.NoMemory h = tt
long_differs old x y d tables file most long r h = absurd h

-- of none at all
pub none_made : (old : NetData) (x y : List ℕ) (d : Design) (tables : Places) (r : Refusal) → ((file : CommandFile) (most : ℕ) → r ≡ refusal.TooLong file most → ⊥) → NotLowered x y d tables r → NotRewired old x y d tables r
none_made old x y d tables (refusal.TooLong file most) not h = absurd (not file most refl)
none_made old x y d tables (refusal.OverLimit limit count) not h = h
none_made old x y d tables refusal.NoMemory not h = tt
none_made old x y d tables r not h = absurd h

-- ---- no call of the folder

pub matched_quiet : (x y : List ℕ) (r : Refusal) → NotMatched x y r → IsQuiet r
matched_quiet x y (refusal.ReadFault file) (inl h) = absurd h
matched_quiet x y (refusal.ReadFault file) (inr (inl h)) = absurd h.unread
matched_quiet x y (refusal.ReadFault file) (inr (inr h)) = absurd h
matched_quiet x y (refusal.WriteFault file) (inl h) = absurd h
matched_quiet x y (refusal.WriteFault file) (inr (inl h)) = absurd h.unread
matched_quiet x y (refusal.WriteFault file) (inr (inr h)) = absurd h
matched_quiet x y r h = tt

pub met_quiet : (d : Design) (tables : Places) (n : ℕ) (r : Refusal) → NotMet d tables n r → IsQuiet r
met_quiet d tables n (refusal.ReadFault file) h = absurd h
met_quiet d tables n (refusal.WriteFault file) h = absurd h
met_quiet d tables n r h = tt

pub rewired_quiet : (old : NetData) (x y : List ℕ) (d : Design) (tables : Places) (r : Refusal) → NotRewired old x y d tables r → IsQuiet r
rewired_quiet old x y d tables (refusal.ReadFault file) h = absurd h
rewired_quiet old x y d tables (refusal.WriteFault file) h = absurd h
rewired_quiet old x y d tables r h = tt

refused_reading : (f : CertFault) → IsReading (fault_of (certificates_refusal f))
refused_reading fault.NotJson = tt
refused_reading (fault.Shape pointer) = tt
refused_reading (fault.Refused number) = tt
refused_reading (fault.Count found wanted) = tt
refused_reading (fault.Paths leaves) = tt
refused_reading (fault.Big clauses) = tt
refused_reading fault.NoMemory = tt

accepts_reading : (d : Design) (bytes : List ℕ) (r : Refusal) → NotAccepts d bytes r → IsReading (fault_of r)
accepts_reading d bytes r (unformed f h e) = subst (λ (x : Refusal). IsReading (fault_of x)) (sym e) (refused_reading f)
accepts_reading d bytes r (unshown certs f a h e) = subst (λ (x : Refusal). IsReading (fault_of x)) (sym e) (refused_reading f)

-- what stands is read, and nothing is written
pub standing_reading : (content : Option Files) (o : List ℕ) (d : Design) (r : Refusal) → NotStanding content o d r → IsReading (fault_of r)
standing_reading content o d r (unread h) = unread_reading h.0 r h.2
standing_reading content o d r (unaccepted bytes held h) = accepts_reading d bytes r h
standing_reading content o d r (unwired bytes count held a f h e) = unread_reading f r e
