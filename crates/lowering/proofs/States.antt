-- Lists of code, and states that keep what they had.
use Rattle.std.specs.Prelude.{◌≡◌, ℕ, zero, suc, ◌<◌, ◌≤◌, List, [], ◌∷◌, ◌++◌, length, slice_get, Option, Some, None, refl}
use Rattle.std.proofs.Common.{◌∙◌, ap, arith}
use Rattle.p4_ir.specs.P4Tree.{P4Stmt}
use Rattle.p4_ir.specs.Switch.{State, p4_run, p4_run_all, returned, then_run, Running, Outcome, proceeds}
use Rattle.std.specs.List.{slice_set}
use Rattle.cocoon_types.specs.Val.{Env}
use Rattle.lowering.specs.Lower.{Made, Variable}
use Rattle.p4_ir.specs.Program.{block_of}
use Rattle.lowering.specs.Agrees.{run_list, Keeps, Moves, Holds, AllMade, Filling, Long}

pub put_length : (ns : List ℕ) (i x : ℕ) → length (slice_set ns i x) ≡ length ns
put_length [] i x = refl
put_length (n ∷ ns) zero x = refl
put_length (n ∷ ns) (suc i) x = ap suc (put_length ns i x)

pub put_here : (ns : List ℕ) (i x : ℕ) → i < length ns → slice_get (slice_set ns i x) i ≡ Some x
put_here [] i x h = absurd (omega arith)
put_here (n ∷ ns) zero x h = refl
put_here (n ∷ ns) (suc i) x h = put_here ns i x (omega arith)

pub put_below : (ns : List ℕ) (i j x : ℕ) → j < i → slice_get (slice_set ns i x) j ≡ slice_get ns j
put_below [] i j x h = refl
put_below (n ∷ ns) zero j x h = absurd (omega arith)
put_below (n ∷ ns) (suc i) zero x h = refl
put_below (n ∷ ns) (suc i) (suc j) x h = put_below ns i j x (omega arith)

pub put_first : (ns : List ℕ) (x j : ℕ) → 0 < j → slice_get (slice_set ns 0 x) j ≡ slice_get ns j
put_first [] x j h = refl
put_first (n ∷ ns) x zero h = absurd (omega arith)
put_first (n ∷ ns) x (suc j) h = refl

-- ---- code

pub then_run_assoc : (r : Option Outcome) (f g : State → Option Outcome) → then_run (then_run r f) g ≡ then_run r (λ s. then_run (f s) g)
then_run_assoc None f g = refl
then_run_assoc (Some (proceeds s)) f g = refl
then_run_assoc (Some (returned s)) f g = refl

abbrev pub RunsOn : Running → List P4Stmt → State → State → Type 0
RunsOn at xs s t = run_list at xs s ≡ Some (proceeds t)

then_first : (r : Option Outcome) (f g h : State → Option Outcome) → ((s : State) → f s ≡ then_run (g s) h) → then_run r f ≡ then_run (then_run r g) h
then_first None f g h e = refl
then_first (Some (proceeds s)) f g h e = e s
then_first (Some (returned s)) f g h e = refl

pub appended : (at : Running) (xs ys : List P4Stmt) (s : State) → run_list at (xs ++ ys) s ≡ then_run (run_list at xs s) (run_list at ys)
appended at [] ys s = refl
appended at (x ∷ xs) ys s = then_first (p4_run at x s) (run_list at (xs ++ ys)) (run_list at xs) (run_list at ys) (λ t. appended at xs ys t)

-- two pieces of code, the first of which goes on
pub run_both : (at : Running) (xs ys : List P4Stmt) (s t : State) → run_list at xs s ≡ Some (proceeds t) → run_list at (xs ++ ys) s ≡ run_list at ys t
run_both at xs ys s t h = appended at xs ys s ∙ ap (λ r. then_run r (run_list at ys)) h

then_same : (r : Option Outcome) (f g : State → Option Outcome) → ((s : State) → f s ≡ g s) → then_run r f ≡ then_run r g
then_same None f g e = refl
then_same (Some (proceeds s)) f g e = e s
then_same (Some (returned s)) f g e = refl

pub block_runs : (at : Running) (xs : List P4Stmt) (s : State) → p4_run_all at (block_of xs) s ≡ run_list at xs s
block_runs at [] s = refl
block_runs at (x ∷ xs) s = then_same (p4_run at x s) (p4_run_all at (block_of xs)) (run_list at xs) (λ t. block_runs at xs t)

-- ---- what is made

pub made_first : (at : Running) (fill : Filling) (xs ys : List Made) → AllMade at fill (xs ++ ys) → AllMade at fill xs
made_first at fill [] ys h = tt
made_first at fill (x ∷ xs) ys h = (h.0, made_first at fill xs ys h.1)

pub made_second : (at : Running) (fill : Filling) (xs ys : List Made) → AllMade at fill (xs ++ ys) → AllMade at fill ys
made_second at fill [] ys h = h
made_second at fill (x ∷ xs) ys h = made_second at fill xs ys h.1

-- ---- states

pub keeps_same : (n : ℕ) (s : State) → Keeps n s s
keeps_same n s = record { long = refl; same = λ i low h. refl }

pub keeps_less : (m n : ℕ) (a b : State) → m ≤ n → Keeps n a b → Keeps m a b
keeps_less m n a b h k = record { long = k.long; same = λ i low below. k.same i low (omega arith) }

pub keeps_both : (m n : ℕ) (a b c : State) → m ≤ n → Keeps m a b → Keeps n b c → Keeps m a c
keeps_both m n a b c h k l = record { long = l.long ∙ k.long; same = λ i low below. l.same i low (omega arith) ∙ k.same i low below }

pub moves_same : (n : ℕ) (s : State) → Moves n s s
moves_same n s = record { keeps = keeps_same n s; packet = refl }

pub moves_less : (m n : ℕ) (a b : State) → m ≤ n → Moves n a b → Moves m a b
moves_less m n a b h k = record { keeps = keeps_less m n a b h k.keeps; packet = k.packet }

pub moves_both : (m n : ℕ) (a b c : State) → m ≤ n → Moves m a b → Moves n b c → Moves m a c
moves_both m n a b c h k l = record { keeps = keeps_both m n a b c h k.keeps l.keeps; packet = l.packet ∙ k.packet }

pub long_moved : (at : Running) (n : ℕ) (a b : State) → Moves n a b → Long at a → Long at b
long_moved at n a b k l = record { long = k.keeps.long ∙ l.long; some = rw k.keeps.long l.some }

pub holds_kept : (W : List ℕ → Type 0) (at : Running) (m n : ℕ) (a b : State) (vars : List Variable) (env : Env) → m ≤ n → Keeps m a b → Holds W m at a vars env → Holds W n at b vars env
holds_kept W at m n a b [] [] h k x = tt
holds_kept W at m n a b (v ∷ vars) (e ∷ env) h k x = (x.0, (λ w t l. x.1 w t (keeps_both m n a b t h k l)), holds_kept W at m n a b vars env h k x.2)
holds_kept W at m n a b [] (e ∷ env) h k x = x
holds_kept W at m n a b (v ∷ vars) [] h k x = x

-- a field is set
abbrev pub with_meta : State → ℕ → ℕ → State
with_meta s i x = record s { meta = slice_set s.meta i x }

pub set_moves : (s : State) (n i x : ℕ) → n ≤ i → Moves n s (with_meta s i x)
set_moves s n i x h = record { keeps = record { long = put_length s.meta i x; same = λ j low below. put_below s.meta i j x (omega arith) }; packet = refl }

-- the first field, which is `site`, is set
pub site_keeps : (s : State) (n x : ℕ) → Keeps n s (with_meta s 0 x)
site_keeps s n x = record { long = put_length s.meta 0 x; same = λ j low below. put_first s.meta x j low }
